-- The live entries of a list of documents, newest first, after one more document was laid over the map of
-- their places.
use Rattle.std.proofs.Common.{◌≡◌, ◌≢◌, inl, inr, ℕ, suc, ◌==◌, List, [], ◌∷◌, Option, Some, None, refl, ap}
use Rattle.std.proofs.Common.{sym}
use Rattle.std.proofs.Common.{◌∙◌, subst, arith}
use Rattle.std.specs.Prelude.{All, Contains, map, slice_get}
use Rattle.std.specs.BTreeMap.{BTreeMap, get, is_at}
use Rattle.std.specs.List.{find}
use Rattle.std.specs.Map.{lookup}
use Rattle.std.specs.Option.{option_map, option_or}
use Rattle.std.specs.Ordering.{nat_cmp}
use Rattle.std.proofs.lemmas.Bool.{cases_eq, eq-eqb, ne_eqb}
use Rattle.std.proofs.lemmas.List.Concat.{flat_map-cons}
use Rattle.std.proofs.lemmas.List.Elements.{All-nil, All-cons, All-contains, All-head, All-tail}
use Rattle.std.proofs.lemmas.List.Elements.{Contains-get_or}
use Rattle.std.proofs.lemmas.List.Folds.{find-append}
use Rattle.std.proofs.lemmas.Option.{get_or_from_slice_get, slice_get-map, slice_get_within}
use Rattle.atom_values.specs.Entry.{EntryValue}
use Rattle.atom_writer.specs.Doc.{DocValue}
use Rattle.deleted_entries.specs.Item.{item_number}
use Rattle.deleted_entries.specs.declared.item.Item.{Item}
use Rattle.deleted_entries.specs.declared.item.Item.TheVariants.{Kept as KeptItem, Gone as GoneItem}
use Rattle.member_rules.specs.Shows.{HasItemOf, all_items, entry_of, live_of}
use Rattle.mirror_walk.specs.declared.documents.EntryPlace.{EntryPlace}
use Rattle.mirror_walk.specs.Holding.{KeptValue}
use Rattle.mirror_walk.specs.Index.{HasEntries, LaysOver, ListsEntry, entry_place}
use Rattle.mirror_walk.specs.Marks.{mark_of, marked_number, marks_of}

-- the first item of a member, or none

pub find-place : (number : ℕ) (items : List Item) (item : Item)
    → find (λ item. item_number item == number) items ≡ Some item
    → (at : ℕ) × (slice_get items at ≡ Some item) × (item_number item ≡ number)
find-place number [] item e = absurd (grind arith)
find-place number (first ∷ items) item e = elim (cases_eq (item_number first) number) [
  | inl same ↦
      let found : Some first ≡ Some item = rw (eq-eqb (item_number first) number same) at e in
      let it : first ≡ item = cc in
      (0, found, subst (λ (i : Item). item_number i ≡ number) it same)
  | inr other ↦
      let rest = find-place number items item (rw (ne_eqb (item_number first) number other) at e) in
      (suc rest.0, rest.1, rest.2)
]

pub find-none : (number : ℕ) (items : List Item) → find (λ item. item_number item == number) items ≡ None
    → All (λ item. item_number item ≢ number) items
find-none number [] e = All-nil (λ item. item_number item ≢ number)
find-none number (first ∷ items) e = elim (cases_eq (item_number first) number) [
  | inl same ↦
      let found : Some first ≡ None = rw (eq-eqb (item_number first) number same) at e in
      absurd (grind arith)
  | inr other ↦
      All-cons (λ item. item_number item ≢ number) first items other
      (find-none number items (rw (ne_eqb (item_number first) number other) at e))
]

live_of-more : (document : DocValue) (older : List DocValue) (number : ℕ)
    → live_of (document ∷ older) number
    ≡ entry_of (option_or (find (λ item. item_number item == number) document.items)
    (find (λ item. item_number item == number) (all_items older)))
unfolding live_of
live_of-more document older number =
    ap (λ items. entry_of (find (λ item. item_number item == number) items))
    (flat_map-cons (λ (d : DocValue). d.items) document older)
    ∙ ap entry_of (find-append (λ item. item_number item == number) document.items (all_items older))

pub live_of-some : (document : DocValue) (older : List DocValue) (number : ℕ) (item : Item)
    → find (λ item. item_number item == number) document.items ≡ Some item
    → live_of (document ∷ older) number ≡ entry_of (Some item)
live_of-some document older number item found = live_of-more document older number
    ∙ ap (λ o. entry_of (option_or o (find (λ item. item_number item == number) (all_items older)))) found

pub live_of-none : (document : DocValue) (older : List DocValue) (number : ℕ)
    → find (λ item. item_number item == number) document.items ≡ None
    → live_of (document ∷ older) number ≡ live_of older number
unfolding live_of
live_of-none document older number none = live_of-more document older number
    ∙ ap (λ o. entry_of (option_or o (find (λ item. item_number item == number) (all_items older)))) none

pub HasEntries-none : (kept : List KeptValue) (live : BTreeMap ℕ EntryPlace) → live.entries ≡ []
    → HasEntries kept [] live
unfolding live_of
HasEntries-none kept live empty number =
    subst (λ es. ListsEntry kept [] number (lookup (is_at (nat_cmp number)) es) None) (sym empty) tt

marked_number-of : (item : Item) → marked_number (mark_of item) ≡ item_number item
marked_number-of (KeptItem entry) = refl
marked_number-of (GoneItem tombstone) = refl

pub marked_numbers-of : (items : List Item) → map marked_number (map mark_of items) ≡ map item_number items
marked_numbers-of [] = refl
marked_numbers-of (item ∷ items) =
    (λ i. marked_number-of item i ∷ marked_numbers-of items i)

-- no mark has a number that no item has
others-marked : (number : ℕ) (items : List Item) → All (λ item. item_number item ≢ number) items
    → All (λ mark. marked_number mark ≢ number) (map mark_of items)
others-marked number [] all = All-nil (λ mark. marked_number mark ≢ number)
others-marked number (item ∷ items) all =
    All-cons (λ mark. marked_number mark ≢ number) (mark_of item) (map mark_of items)
    (λ same. All-head (λ (i : Item). item_number i ≢ number) item items all
    (sym (marked_number-of item) ∙ same))
    (others-marked number items (All-tail (λ (i : Item). item_number i ≢ number) item items all))

-- no item of the member
has-none : (number : ℕ) (document : DocValue) → All (λ item. item_number item ≢ number) document.items
    → ¬ HasItemOf number document
has-none number document none some =
    All-contains (λ item. item_number item ≢ number) document.items some.1 none (some.0, some.2, some.3) some.4

-- an older document still shows the member if a newer one has no item of it
shown-behind : (kept : List KeptValue) (document : DocValue) (older : List DocValue) (number : ℕ)
    → All (λ item. item_number item ≢ number) document.items → (place : Option EntryPlace)
    (entry : Option EntryValue) → ListsEntry kept older number place entry
    → ListsEntry kept (document ∷ older) number place entry
shown-behind kept document older number none None None lists = tt
shown-behind kept document older number none None (Some entry) lists = absurd lists
shown-behind kept document older number none (Some place) None lists = absurd lists
shown-behind kept document older number none (Some place) (Some entry) (at, shown) = (
  at,
  record {
    entry = shown.entry;
    shows = record {
      newer = document ∷ shown.shows.newer;
      document = shown.shows.document;
      older = shown.shows.older;
      split = ap (λ (ds : List DocValue). document ∷ ds) shown.shows.split;
      kept = shown.shows.kept;
      member = shown.shows.member;
      newest = All-cons (λ other. ¬ HasItemOf number other) document shown.shows.newer
          (has-none number document none) shown.shows.newest;
    };
    held = shown.held;
    there = shown.there;
    same = shown.same;
  },
)

contains-at : (items : List Item) (at : ℕ) (item : Item) → slice_get items at ≡ Some item → Contains items item
contains-at items at item there =
    subst (Contains items) (get_or_from_slice_get items at item item there)
    (Contains-get_or items at item (slice_get_within items at item there))

pub HasEntries-more : (kept : List KeptValue) (document : ℕ) (given : KeptValue) (older : List DocValue)
    (old new : BTreeMap ℕ EntryPlace) → slice_get kept document ≡ Some given
    → LaysOver marked_number (entry_place document) (marks_of given.document) old new → HasEntries kept older old
    → HasEntries kept (given.document ∷ older) new
HasEntries-more kept document given older old new there laid entries number =
    split (find (λ item. item_number item == number) given.document.items) refl
  where
    listed : (at : ℕ) (item : Item) → slice_get given.document.items at ≡ Some item
        → item_number item ≡ number
        → ListsEntry kept (given.document ∷ older) number (entry_place document at (mark_of item))
        (entry_of (Some item))
    listed at (KeptItem entry) found named = (
      record { document = given; there = there; item = found },
      record {
        entry = entry;
        shows = record {
          newer = [];
          document = given.document;
          older = older;
          split = refl;
          kept = contains-at given.document.items at (KeptItem entry) found;
          member = named;
          newest = All-nil (λ other. ¬ HasItemOf number other);
        };
        held = given;
        there = there;
        same = refl;
      },
    )
    listed at (GoneItem tombstone) found named = tt

    split : (found : Option Item) → find (λ item. item_number item == number) given.document.items ≡ found
        → ListsEntry kept (given.document ∷ older) number (get nat_cmp new number)
        (live_of (given.document ∷ older) number)
    split None none =
        let free = find-none number given.document.items none in
        rw (
          laid.others number (others-marked number given.document.items free),
          live_of-none given.document older number none,
        ) (shown-behind kept given.document older number free (get nat_cmp old number) (live_of older number)
        (entries number))
    split (Some item) found =
        let place = find-place number given.document.items item found in
        let marked : slice_get (marks_of given.document) place.0 ≡ Some (mark_of item) =
        slice_get-map mark_of given.document.items place.0 ∙ ap (option_map mark_of) place.1 in
        let named = subst (λ k. get nat_cmp new k ≡ entry_place document place.0 (mark_of item))
        (marked_number-of item ∙ place.2) (laid.named place.0 (mark_of item) marked) in
        rw (named, live_of-some given.document older number item found) (listed place.0 item place.1 place.2)
