-- The base map: archives that are laid over one another, and the best subscription document over them.
use Rattle.std.proofs.Common.{◌≡◌, ◌≢◌, ◌⊎◌, inl, inr, ℕ, zero, suc, ◌+◌, ◌≤◌, nat_eq, List, [], ◌∷◌, ◌++◌}
use Rattle.std.proofs.Common.{Option, Some, None, refl, ap, sym, subst, ◌∙◌, arith, map}
use Rattle.std.specs.BTreeMap.{BTreeMap, get}
use Rattle.std.specs.List.{IsDistinct, cons_option}
use Rattle.std.specs.Option.{option_map, option_or}
use Rattle.std.specs.Ordering.{nat_cmp}
use Rattle.std.specs.Prelude.{All, IsSome, slice_get}
use Rattle.std.proofs.lemmas.Bool.{cases_eq, cases_lt}
use Rattle.std.proofs.lemmas.List.Elements.{All-nil, All-cons, All-head, All-tail}
use Rattle.std.proofs.lemmas.Option.{same_Some, slice_get-map, slice_get_within}
use Rattle.atom_values.specs.Entry.{EntryValue}
use Rattle.atom_writer.specs.Doc.{DocValue}
use Rattle.member_rules.specs.Shows.{live_of}
use Rattle.mirror_walk.specs.declared.base_map.BaseMap.{BaseMap}
use Rattle.mirror_walk.specs.declared.base_map.Replaced.{Replaced}
use Rattle.mirror_walk.specs.declared.documents.EntryPlace.{EntryPlace}
use Rattle.mirror_walk.specs.declared.mark.ItemMark.{ItemMark}
use Rattle.mirror_walk.specs.Holding.{KeptValue, archive_at, archives_from}
use Rattle.mirror_walk.specs.Index.{AreMembers, HasArchives, HasEntries, IsBare, IsBaseMap, LaysOver, ListsEntry}
use Rattle.mirror_walk.specs.Index.{entry_place, replaced_in, replaced_number, replaced_place}
use Rattle.mirror_walk.specs.Marks.{marked_number, marks_of}
use Rattle.mirror_walk.proofs.EntriesLemmas.{HasEntries-more, HasEntries-none}
use Rattle.mirror_walk.proofs.IndexLemmas.{get-stays}
use Rattle.mirror_walk.proofs.ListedItemsLemmas.{AreMembers-none}
use Rattle.mirror_walk.proofs.OutcomeLemmas.{archives_from-held}
use Rattle.mirror_walk.proofs.PushLemmas.{archive_at-push, given_at}

-- two maps with the same places

-- an item with this number, or none
named : {X : Type 0} (number_of : X → ℕ) (number : ℕ) (items : List X)
    → ((at : ℕ) × (item : X) × (slice_get items at ≡ Some item) × (number_of item ≡ number))
    ⊎ All (λ item. number_of item ≢ number) items
named number_of number [] = inr (All-nil (λ item. number_of item ≢ number))
named number_of number (first ∷ items) = elim (cases_eq (number_of first) number) [
  | inl same ↦ inl (0, first, refl, same)
  | inr other ↦ elim (named number_of number items) [
    | inl rest ↦ inl (suc rest.0, rest.1, rest.2, rest.3)
    | inr none ↦ inr (All-cons (λ item. number_of item ≢ number) first items other none)
  ]
]

-- the same items, laid over one map
laid-same : {X P : Type 0} (number_of : X → ℕ) (place : ℕ → X → Option P) (items : List X)
    (old a b : BTreeMap ℕ P)
    → LaysOver number_of place items old a → LaysOver number_of place items old b → (number : ℕ)
    → get nat_cmp a number ≡ get nat_cmp b number
laid-same number_of place items old a b over_a over_b number = elim (named number_of number items) [
  | inl found ↦
      subst (λ n. get nat_cmp a n ≡ get nat_cmp b n) found.3
      (over_a.named found.0 found.1 found.2 ∙ sym (over_b.named found.0 found.1 found.2))
  | inr none ↦ over_a.others number none ∙ sym (over_b.others number none)
]

archives-same : (kept : List KeptValue) (last : ℕ) (a b : BTreeMap ℕ EntryPlace)
    → ((number : ℕ) → get nat_cmp a number ≡ get nat_cmp b number) → HasArchives kept last a
    → HasArchives kept last b
archives-same kept last a b same archives = record {
  held = archives.held;
  shown = λ number.
      subst (λ (p : Option EntryPlace). ListsEntry kept (archives_from kept last) number p
      (live_of (archives_from kept last) number)) (same number) (archives.shown number);
  members = λ number there.
      archives.members number (subst (λ (p : Option EntryPlace). IsSome p) (sym (same number)) there);
}

-- archives alone

pub bare-none : (kept : List KeptValue) (base : BaseMap) → base.last ≡ 0 → base.entries.entries ≡ []
    → base.replaced.items ≡ []
    → IsBare kept base
unfolding archives_from
bare-none kept base none empty bare = record {
  archives = subst (λ (n : ℕ). HasArchives kept n base.entries) (sym none) record {
    held = λ number one within. absurd (omega arith);
    shown = HasEntries-none kept base.entries empty;
    members = AreMembers-none base.entries empty;
  };
  bare = bare;
}

pub base-bare : (kept : List KeptValue) (base : BaseMap) → IsBare kept base → IsBaseMap kept base
unfolding IsDistinct
base-bare kept base is = record {
  distinct = subst (λ (rs : List Replaced). IsDistinct nat_eq (map replaced_number rs)) (sym is.bare) tt;
  under = base.entries;
  restores = subst (λ (rs : List Replaced). LaysOver replaced_number replaced_place rs base.entries base.entries)
      (sym is.bare) record {
        named = λ at replaced there. absurd (omega (arith, slice_get_within [] at replaced there));
        others = λ number all. refl;
      };
  archives = is.archives;
}

-- one more archive
pub archives-more : (kept : List KeptValue) (last at : ℕ) (found : KeptValue)
    (old new : BTreeMap ℕ EntryPlace)
    → archive_at kept (last + 1) ≡ Some found → slice_get kept at ≡ Some found
    → LaysOver marked_number (entry_place at) (marks_of found.document) old new
    → (AreMembers old → AreMembers new) → HasArchives kept last old
    → HasArchives kept (last + 1) new
archives-more kept last at found old new is there laid members archives = record {
  held = λ number one within. elim (cases_lt last number) [
    | inl above ↦
        let next : last + 1 ≡ number = omega arith in
        subst (λ (n : ℕ). IsSome (archive_at kept n)) next
        (subst (λ (o : Option KeptValue). IsSome o) (sym is) refl)
    | inr below ↦ archives.held number one below
  ];
  shown = subst (λ (documents : List DocValue). HasEntries kept documents new)
      (sym (archives_from-held kept last found is))
      (HasEntries-more kept at found (archives_from kept last) old new there laid archives.shown);
  members = members archives.members;
}

-- the best subscription document

replaced_numbers : (old : BTreeMap ℕ EntryPlace) (items : List ItemMark)
    → map replaced_number (map (replaced_in old) items) ≡ map marked_number items
replaced_numbers old [] = refl
replaced_numbers old (item ∷ items) = (λ i. marked_number item ∷ replaced_numbers old items i)

not_replaced : (old : BTreeMap ℕ EntryPlace) (number : ℕ) (items : List ItemMark)
    → All (λ replaced. replaced_number replaced ≢ number) (map (replaced_in old) items)
    → All (λ item. marked_number item ≢ number) items
not_replaced old number [] all = All-nil (λ item. marked_number item ≢ number)
not_replaced old number (item ∷ items) all =
    All-cons (λ item. marked_number item ≢ number) item items
    (All-head (λ replaced. replaced_number replaced ≢ number) (replaced_in old item)
    (map (replaced_in old) items) all)
    (not_replaced old number items
    (All-tail (λ replaced. replaced_number replaced ≢ number) (replaced_in old item)
    (map (replaced_in old) items) all))

-- what items replaced, put back
laid-back : (items : List ItemMark) (place : ℕ → ItemMark → Option EntryPlace)
    (old new : BTreeMap ℕ EntryPlace)
    → LaysOver marked_number place items old new
    → LaysOver replaced_number replaced_place (map (replaced_in old) items) new old
laid-back items place old new laid = record {
  named = λ at replaced there. of at replaced (slice_get items at)
      (sym (slice_get-map (replaced_in old) items at) ∙ there);
  others = λ number all. sym (laid.others number (not_replaced old number items all));
}
  where
    of : (at : ℕ) (replaced : Replaced) (item : Option ItemMark)
        → option_map (replaced_in old) item ≡ Some replaced
        → get nat_cmp old (replaced_number replaced) ≡ replaced_place at replaced
    of at replaced None there = absurd (cc)
    of at replaced (Some item) there =
        subst (λ (r : Replaced). get nat_cmp old (replaced_number r) ≡ replaced_place at r)
        (same_Some (replaced_in old item) replaced there) refl

pub base-laid : (kept : List KeptValue) (bare laid : BaseMap) (place : ℕ → ItemMark → Option EntryPlace)
    (items : List ItemMark)
    → IsBare kept bare → laid.last ≡ bare.last → laid.replaced.items ≡ map (replaced_in bare.entries) items
    → IsDistinct nat_eq (map marked_number items)
    → LaysOver marked_number place items bare.entries laid.entries
    → IsBaseMap kept laid
base-laid kept bare laid place items is last replaced distinct over = record {
  distinct = subst (IsDistinct nat_eq)
      (sym (ap (map replaced_number) replaced ∙ replaced_numbers bare.entries items)) distinct;
  under = bare.entries;
  restores = subst (λ (rs : List Replaced). LaysOver replaced_number replaced_place rs laid.entries bare.entries)
      (sym replaced) (laid-back items place bare.entries laid.entries over);
  archives = subst (λ (n : ℕ). HasArchives kept n bare.entries) (sym last) is.archives;
}

pub bare-lifted : (kept : List KeptValue) (old new : BaseMap) → IsBaseMap kept old → new.last ≡ old.last
    → LaysOver replaced_number replaced_place old.replaced.items old.entries new.entries
    → new.replaced.items ≡ []
    → IsBare kept new
bare-lifted kept old new is last restored bare = record {
  archives = subst (λ (n : ℕ). HasArchives kept n new.entries) (sym last)
      (archives-same kept old.last is.under new.entries
      (laid-same replaced_number replaced_place old.replaced.items old.entries is.under new.entries is.restores
      restored)
      is.archives);
  bare = bare;
}

-- one more document is held

option_or-some : {T : Type 0} (o other : Option T) → IsSome o → option_or o other ≡ o
option_or-some None other some = absurd (cc)
option_or-some (Some x) other some = refl

archive-stays : (kept : List KeptValue) (given : KeptValue) (number : ℕ) → IsSome (archive_at kept number)
    → archive_at (kept ++ given ∷ []) number ≡ archive_at kept number
archive-stays kept given number some =
    archive_at-push kept given number
    ∙ option_or-some (archive_at kept number) (given_at given number) some

archives_from-stays : (kept : List KeptValue) (given : KeptValue) (last : ℕ)
    → ((number : ℕ) → 1 ≤ number → number ≤ last → IsSome (archive_at kept number))
    → archives_from (kept ++ given ∷ []) last ≡ archives_from kept last
unfolding archives_from
archives_from-stays kept given zero held = refl
archives_from-stays kept given (suc last) held =
    let here = archive-stays kept given (suc last) (held (suc last) (omega arith) (omega arith)) in
    let older = archives_from-stays kept given last (λ number one within. held number one (omega arith)) in
    (λ i. cons_option (option_map (λ (k : KeptValue). k.document) (here i)) (older i))

lists-stays : (kept : List KeptValue) (given : KeptValue) (documents : List DocValue) (number : ℕ)
    (place : Option EntryPlace) (entry : Option EntryValue)
    → ListsEntry kept documents number place entry
    → ListsEntry (kept ++ given ∷ []) documents number place entry
lists-stays kept given documents number None None lists = tt
lists-stays kept given documents number None (Some entry) lists = absurd lists
lists-stays kept given documents number (Some place) None lists = absurd lists
lists-stays kept given documents number (Some place) (Some entry) (at, shown) = (
  record {
    document = at.document;
    there = get-stays kept given place.document (Some at.document) at.there refl;
    item = at.item;
  },
  record {
    entry = shown.entry;
    shows = shown.shows;
    held = shown.held;
    there = get-stays kept given place.document (Some shown.held) shown.there refl;
    same = shown.same;
  },
)

archives-stay : (kept : List KeptValue) (given : KeptValue) (last : ℕ) (entries : BTreeMap ℕ EntryPlace)
    → HasArchives kept last entries → HasArchives (kept ++ given ∷ []) last entries
archives-stay kept given last entries archives = record {
  held = λ number one within.
      let some = archives.held number one within in
      subst (λ (o : Option KeptValue). IsSome o) (sym (archive-stays kept given number some)) some;
  shown = subst (λ (documents : List DocValue). HasEntries (kept ++ given ∷ []) documents entries)
      (sym (archives_from-stays kept given last archives.held))
      (λ number. lists-stays kept given (archives_from kept last) number (get nat_cmp entries number)
      (live_of (archives_from kept last) number) (archives.shown number));
  members = archives.members;
}

pub base-stays : (kept : List KeptValue) (given : KeptValue) (base : BaseMap) → IsBaseMap kept base
    → IsBaseMap (kept ++ given ∷ []) base
base-stays kept given base is = record {
  distinct = is.distinct;
  under = is.under;
  restores = is.restores;
  archives = archives-stay kept given base.last is.under is.archives;
}
