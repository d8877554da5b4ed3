-- The live entries of a list of documents, newest first, after one more document was laid over the map of
-- their places.
use Rattle.std.proofs.Common.{◌≡◌, ◌≢◌, ℕ, ◌==◌, List, [], ◌∷◌, Option, Some, None, refl, ap, sym, subst, ◌∙◌}
use Rattle.std.specs.Prelude.{All, is_some, map, slice_get}
use Rattle.std.specs.BTreeMap.{BTreeMap, get, is_at}
use Rattle.std.specs.List.{find}
use Rattle.std.specs.Map.{lookup}
use Rattle.std.specs.Option.{option_map}
use Rattle.std.specs.Ordering.{nat_cmp}
use Rattle.std.proofs.lemmas.List.Elements.{All-nil, All-cons, All-head, All-tail}
use Rattle.std.proofs.lemmas.Option.{slice_get-map}
use Rattle.atom_values.specs.Entry.{EntryValue}
use Rattle.atom_writer.specs.Doc.{DocValue}
use Rattle.deleted_entries.specs.Item.{item_number}
use Rattle.deleted_entries.specs.declared.item.Item.{Item}
use Rattle.deleted_entries.specs.declared.item.Item.TheVariants.{Kept as KeptItem, Gone as GoneItem}
use Rattle.member_rules.specs.Shows.{entry_of, live_of}
use Rattle.mirror_walk.specs.Index.{LaysOver}
use Rattle.mirror_walk.specs.Marks.{mark_of, marked_number, marks_of}
use Rattle.mirror_walk.proofs.EntriesLemmas.{find-none, find-place, live_of-none, live_of-some}
use Rattle.mirror_walk.proofs.ListedCountLemmas.{HasLive}
use Rattle.coverage_auditor.specs.declared.live.EntryPlace.{EntryPlace}
use Rattle.coverage_auditor.specs.LiveList.{HasEntries, ListsEntry, entry_place}

pub HasEntries-none : (kept : List DocValue) (live : BTreeMap ℕ EntryPlace) → live.entries ≡ []
    → HasEntries kept [] live
unfolding live_of
HasEntries-none kept live empty number =
    subst (λ es. ListsEntry kept (lookup (is_at (nat_cmp number)) es) None) (sym empty) tt

marked_number-of : (item : Item) → marked_number (mark_of item) ≡ item_number item
marked_number-of (KeptItem entry) = refl
marked_number-of (GoneItem tombstone) = refl

-- no mark has a number that no item has
others-marked : (number : ℕ) (items : List Item) → All (λ item. item_number item ≢ number) items
    → All (λ mark. marked_number mark ≢ number) (map mark_of items)
others-marked number [] all = All-nil (λ mark. marked_number mark ≢ number)
others-marked number (item ∷ items) all =
    All-cons (λ mark. marked_number mark ≢ number) (mark_of item) (map mark_of items)
    (λ same. All-head (λ (i : Item). item_number i ≢ number) item items all
    (sym (marked_number-of item) ∙ same))
    (others-marked number items (All-tail (λ (i : Item). item_number i ≢ number) item items all))

pub HasEntries-more : (kept : List DocValue) (document : ℕ) (given : DocValue) (older : List DocValue)
    (old new : BTreeMap ℕ EntryPlace) → slice_get kept document ≡ Some given
    → LaysOver marked_number (entry_place document) (marks_of given) old new → HasEntries kept older old
    → HasEntries kept (given ∷ older) new
HasEntries-more kept document given older old new there laid entries number =
    split (find (λ item. item_number item == number) given.items) refl
  where
    listed : (at : ℕ) (item : Item) → slice_get given.items at ≡ Some item
        → ListsEntry kept (entry_place document at (mark_of item)) (entry_of (Some item))
    listed at (KeptItem entry) found = record { document = given; there = there; item = found }
    listed at (GoneItem tombstone) found = tt

    split : (found : Option Item) → find (λ item. item_number item == number) given.items ≡ found
        → ListsEntry kept (get nat_cmp new number) (live_of (given ∷ older) number)
    split None none =
        let free = find-none number given.items none in
        rw (
          laid.others number (others-marked number given.items free),
          live_of-none given older number none,
        ) (entries number)
    split (Some item) found =
        let place = find-place number given.items item found in
        let marked : slice_get (marks_of given) place.0 ≡ Some (mark_of item) =
        slice_get-map mark_of given.items place.0 ∙ ap (option_map mark_of) place.1 in
        let named = subst (λ k. get nat_cmp new k ≡ entry_place document place.0 (mark_of item))
        (marked_number-of item ∙ place.2) (laid.named place.0 (mark_of item) marked) in
        rw (named, live_of-some given older number item found) (listed place.0 item place.1)

listed-live : (documents : List DocValue) (place : Option EntryPlace) (entry : Option EntryValue)
    → ListsEntry documents place entry → is_some place ≡ is_some entry
listed-live documents None None h = refl
listed-live documents None (Some entry) h = absurd h
listed-live documents (Some place) None h = absurd h
listed-live documents (Some place) (Some entry) h = refl

pub entries-live : (documents listed : List DocValue) (live : BTreeMap ℕ EntryPlace)
    → HasEntries documents listed live → HasLive listed live
entries-live documents listed live entries number =
    listed-live documents (get nat_cmp live number) (live_of listed number) (entries number)
