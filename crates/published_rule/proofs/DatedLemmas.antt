-- In documents of which each is later than those after it, an entry counts exactly where it shows.
use Rattle.std.proofs.Common.{◌≡◌, ◌≢◌, ◌⊎◌, inl, inr, ℕ, zero, suc, ◌<◌, ◌<ℤ◌, ◌≤ℤ◌, nat_eq, List, [], ◌∷◌, ◌++◌}
use Rattle.std.proofs.Common.{length, map, get_or, slice_get, Some, Contains, All, refl, ap, sym, subst, ◌∙◌, arith}
use Rattle.std.specs.List.{IsDistinct}
use Rattle.std.proofs.lemmas.Int.{ints}
use Rattle.std.proofs.lemmas.Bool.{cases_lt, cases_eq}
use Rattle.std.proofs.lemmas.Bool.Decides.{Decides-eqb}
use Rattle.std.proofs.lemmas.Option.{slice_get-get_or}
use Rattle.std.proofs.lemmas.List.{get_or-map, length-map}
use Rattle.std.proofs.lemmas.List.Elements.{All-nil, All-cons, All-head, All-tail}
use Rattle.std.proofs.lemmas.Map.Made.{AllPairs-from_IsDistinct}
use Rattle.atom_values.specs.Entry.{EntryValue}
use Rattle.atom_writer.specs.Doc.{DocValue}
use Rattle.deleted_entries.specs.Item.{item_number}
use Rattle.deleted_entries.specs.Tombstone.{TombstoneValue}
use Rattle.deleted_entries.specs.declared.item.Item.{Item}
use Rattle.deleted_entries.specs.declared.item.Item.TheVariants.{Kept, Gone}
use Rattle.member_rules.specs.Shows.{HasItemOf, Shows}
use Rattle.published_rule.specs.Counts.{HasEntry, HasTombstone, Counts}
use Rattle.published_rule.specs.Laws.{CountsWhereItShows}
use Rattle.published_rule.proofs.MemberLemmas.{Precedes}

-- lists

pub Contains-split : {X : Type 0} (x y : X) (xs : List X) → Contains (x ∷ xs) y → (x ≡ y) ⊎ Contains xs y
Contains-split x y xs there = go there.0 there.1 there.2
  where
    go : (k : ℕ) → k < length (x ∷ xs) → get_or (x ∷ xs) k y ≡ y → (x ≡ y) ⊎ Contains xs y
    go zero l at = inl at
    go (suc k) l at = inr (k, omega arith, at)

pub Contains-more : {X : Type 0} (x y : X) (xs : List X) → Contains xs y → Contains (x ∷ xs) y
Contains-more x y xs there = (suc there.0, omega (arith, there.1), there.2)

pub Contains-first : {X : Type 0} (x : X) (xs : List X) → Contains (x ∷ xs) x
Contains-first x xs = (0, omega arith, refl)

pub Contains-none : {X : Type 0} (y : X) → Contains [] y → ⊥
Contains-none y there = absurd (omega (arith, there.1))

-- an item of the member, or there is none
abbrev HasOne : ℕ → List Item → Type 0
HasOne number items = (item : Item) × Contains items item × (item_number item ≡ number)

abbrev HasNone : ℕ → List Item → Type 0
HasNone number items = (item : Item) → Contains items item → item_number item ≢ number

one-or_none : (number : ℕ) (items : List Item) → HasOne number items ⊎ HasNone number items
one-or_none number [] = inr (λ item there named. Contains-none item there)
one-or_none number (first ∷ items) = elim (cases_eq (item_number first) number) [
  | inl same ↦ inl (first, Contains-first first items, same)
  | inr other ↦ elim (one-or_none number items) [
    | inl one ↦ inl (one.0, Contains-more first one.0 items one.1, one.2)
    | inr none ↦ inr (λ item there named. elim (Contains-split first item items there) [
      | inl same ↦ other (ap item_number same ∙ named)
      | inr behind ↦ none item behind named
    ])
  ]
]

-- where members are distinct, there is one item of a member at most
one-item : (items : List Item) (a b : Item) → IsDistinct nat_eq (map item_number items) → Contains items a
    → Contains items b → item_number a ≡ item_number b → a ≡ b
one-item items a b distinct first second same = elim (cases_lt first.0 second.0) [
  | inl before ↦ absurd (apart a b first second before same)
  | inr rest ↦ elim (cases_lt second.0 first.0) [
    | inl after ↦ absurd (apart b a second first after (sym same))
    | inr past ↦
        let here : first.0 ≡ second.0 = omega arith in
        let both : Some a ≡ Some b = sym (item-at a first) ∙ ap (slice_get items) here ∙ item-at b second in
        cc
  ]
]
  where
    item-at : (item : Item) (there : Contains items item) → slice_get items there.0 ≡ Some item
    item-at item there = slice_get-get_or items there.0 item there.1 ∙ ap (λ (i : Item). Some i) there.2

    number-at : (item : Item) (there : Contains items item)
        → get_or (map item_number items) there.0 0 ≡ item_number item
    number-at item there = get_or-map item_number items there.0 item 0 there.1 ∙ ap item_number there.2

    apart : (x y : Item) (one : Contains items x) (other : Contains items y) → one.0 < other.0
        → item_number x ≢ item_number y
    apart x y one other before named =
        let within : other.0 < length (map item_number items) = rw (length-map items item_number) other.1 in
        AllPairs-from_IsDistinct {eq = nat_eq} Decides-eqb (map item_number items) distinct one.0 other.0 0 before
        within (number-at x one ∙ named ∙ sym (number-at y other))

-- documents

-- the older document is from before the newer one, and so are its items of each member
pub record IsBehind (older newer : DocValue) : Type 0 where
  pub dated : older.updated <ℤ newer.updated
  pub items : (item later : Item) → Contains older.items item → Contains newer.items later
      → item_number later ≡ item_number item → Precedes item later

-- newest first; each document has one item of a member at most
abbrev pub AreDated : List DocValue → Type 0
AreDated [] = Unit {0}
AreDated (document ∷ older) =
    IsDistinct nat_eq (map item_number document.items) × ((other : DocValue) → Contains older other
    → IsBehind other document) × AreDated older

item-of_entry : (document : DocValue) (number : ℕ) (entry : EntryValue) → HasEntry document number entry
    → HasItemOf number document
item-of_entry document number entry has = (has.kept.0, Kept entry, has.kept.1, has.kept.2, has.member)

item-of_tombstone : (document : DocValue) (number : ℕ) (tombstone : TombstoneValue)
    → HasTombstone document number tombstone → HasItemOf number document
item-of_tombstone document number tombstone has =
    (has.gone.0, Gone tombstone, has.gone.1, has.gone.2, has.member)

-- an entry that counts is shown

shows-behind : (document : DocValue) (older : List DocValue) (number : ℕ) (entry : EntryValue)
    → HasNone number document.items → Shows older number entry → Shows (document ∷ older) number entry
shows-behind document older number entry none shows = record {
  newer = document ∷ shows.newer;
  document = shows.document;
  older = shows.older;
  split = ap (λ (ds : List DocValue). document ∷ ds) shows.split;
  kept = shows.kept;
  member = shows.member;
  newest = All-cons (λ other. ¬ HasItemOf number other) document shows.newer
      (λ any. none any.1 (any.0, any.2, any.3) any.4) shows.newest;
}

counts-behind : (document : DocValue) (older : List DocValue) (number : ℕ) (entry : EntryValue)
    → HasNone number document.items → Counts (document ∷ older) number entry → Counts older number entry
counts-behind document older number entry none counts = record {
  document = counts.document;
  there = elim (Contains-split document counts.document older counts.there) [
    | inl same ↦
        let kept : Contains document.items (Kept entry) =
        subst (λ (d : DocValue). Contains d.items (Kept entry)) (sym same) counts.has.kept in
        absurd (none (Kept entry) kept counts.has.member)
    | inr behind ↦ behind
  ];
  has = counts.has;
  latest = λ other rival there has. counts.latest other rival (Contains-more document other older there) has;
  newest = λ other rival there has same. counts.newest other rival (Contains-more document other older there) has same;
  undeleted = λ other tombstone there has. counts.undeleted other tombstone
      (Contains-more document other older there) has;
}

shows-here : (document : DocValue) (older : List DocValue) (number : ℕ) (entry : EntryValue)
    → Contains document.items (Kept entry) → entry.number ≡ number → Shows (document ∷ older) number entry
shows-here document older number entry kept member = record {
  newer = [];
  document = document;
  older = older;
  split = refl;
  kept = kept;
  member = member;
  newest = All-nil (λ other. ¬ HasItemOf number other);
}

-- the first document has an item of the member, so it has the entry
counts-shown : (document : DocValue) (older : List DocValue) (number : ℕ) (entry : EntryValue)
    → AreDated (document ∷ older) → Counts (document ∷ older) number entry → (item : Item)
    → Contains document.items item → item_number item ≡ number → Contains document.items (Kept entry)
counts-shown document older number entry dated counts (Kept found) there named =
    elim (Contains-split document counts.document older counts.there) [
      | inl same ↦ subst (λ (d : DocValue). Contains d.items (Kept entry)) (sym same) counts.has.kept
      | inr behind ↦
          let first = Contains-first document older in
          let has : HasEntry document number found = record { kept = there; member = named } in
          let is_behind = dated.1 counts.document behind in
          let before : counts.document.updated <ℤ document.updated = is_behind.dated in
          let precedes : entry.updated ≤ℤ found.updated =
          is_behind.items (Kept entry) (Kept found) counts.has.kept there (named ∙ sym counts.has.member) in
          let latest : found.updated ≤ℤ entry.updated = counts.latest document found first has in
          let same : found.updated ≡ entry.updated = omega (arith, ints) in
          let newest : document.updated ≤ℤ counts.document.updated = counts.newest document found first has same in
          absurd (omega (arith, ints))
    ]
counts-shown document older number entry dated counts (Gone tombstone) there named =
    let has : HasTombstone document number tombstone = record { gone = there; member = named } in
    let undeleted : tombstone.when <ℤ entry.updated =
    counts.undeleted document tombstone (Contains-first document older) has in
    elim (Contains-split document counts.document older counts.there) [
      | inl same ↦ subst (λ (d : DocValue). Contains d.items (Kept entry)) (sym same) counts.has.kept
      | inr behind ↦
          let precedes : entry.updated ≤ℤ tombstone.when =
          (dated.1 counts.document behind).items (Kept entry) (Gone tombstone) counts.has.kept there
          (named ∙ sym counts.has.member) in
          absurd (omega (arith, ints))
    ]

shows-counted : (documents : List DocValue) → AreDated documents → (number : ℕ) (entry : EntryValue)
    → Counts documents number entry → Shows documents number entry
shows-counted [] dated number entry counts = absurd (Contains-none counts.document counts.there)
shows-counted (document ∷ older) dated number entry counts = elim (one-or_none number document.items) [
  | inl one ↦ shows-here document older number entry
      (counts-shown document older number entry dated counts one.0 one.1 one.2) counts.has.member
  | inr none ↦ shows-behind document older number entry none
      (shows-counted older dated.2 number entry (counts-behind document older number entry none counts))
]

-- an entry that is shown counts

counts-more : (first : DocValue) (documents : List DocValue) (number : ℕ) (entry : EntryValue)
    → ¬ HasItemOf number first → Counts documents number entry → Counts (first ∷ documents) number entry
counts-more first documents number entry none counts = record {
  document = counts.document;
  there = Contains-more first counts.document documents counts.there;
  has = counts.has;
  latest = λ other rival there has. elim (Contains-split first other documents there) [
    | inl same ↦ absurd (none (subst (HasItemOf number) (sym same) (item-of_entry other number rival has)))
    | inr behind ↦ counts.latest other rival behind has
  ];
  newest = λ other rival there has dated. elim (Contains-split first other documents there) [
    | inl same ↦ absurd (none (subst (HasItemOf number) (sym same) (item-of_entry other number rival has)))
    | inr behind ↦ counts.newest other rival behind has dated
  ];
  undeleted = λ other tombstone there has. elim (Contains-split first other documents there) [
    | inl same ↦ absurd (none (subst (HasItemOf number) (sym same) (item-of_tombstone other number tombstone has)))
    | inr behind ↦ counts.undeleted other tombstone behind has
  ];
}

-- the member's item in its document
only-item : (document other : DocValue) (number : ℕ) (entry : EntryValue) (item : Item)
    → IsDistinct nat_eq (map item_number document.items) → Contains document.items (Kept entry)
    → entry.number ≡ number → document ≡ other → Contains other.items item → item_number item ≡ number
    → item ≡ Kept entry
only-item document other number entry item distinct kept member same there named =
    one-item document.items item (Kept entry) distinct
    (subst (λ (d : DocValue). Contains d.items item) (sym same) there) kept (named ∙ sym member)

counts-here : (document : DocValue) (older : List DocValue) (number : ℕ) (entry : EntryValue)
    → AreDated (document ∷ older) → Contains document.items (Kept entry) → entry.number ≡ number
    → Counts (document ∷ older) number entry
counts-here document older number entry dated kept member = record {
  document = document;
  there = Contains-first document older;
  has = record { kept = kept; member = member };
  latest = λ other rival there has. elim (Contains-split document other older there) [
    | inl same ↦
        let only = only-item document other number entry (Kept rival) dated.0 kept member same has.kept has.member in
        let is : rival ≡ entry = cc in
        subst (λ (e : EntryValue). rival.updated ≤ℤ e.updated) is (omega (arith, ints))
    | inr behind ↦ (dated.1 other behind).items (Kept rival) (Kept entry) has.kept kept (member ∙ sym has.member)
  ];
  newest = λ other rival there has same_date. elim (Contains-split document other older there) [
    | inl same ↦ subst (λ (d : DocValue). d.updated ≤ℤ document.updated) same (omega (arith, ints))
    | inr behind ↦
        let before : other.updated <ℤ document.updated = (dated.1 other behind).dated in
        omega (arith, ints)
  ];
  undeleted = λ other tombstone there has. elim (Contains-split document other older there) [
    | inl same ↦
        let only = only-item document other number entry (Gone tombstone) dated.0 kept member same
        has.gone has.member in
        absurd (cc)
    | inr behind ↦
        absurd ((dated.1 other behind).items (Gone tombstone) (Kept entry) has.gone kept (member ∙ sym has.member))
  ];
}

counts-at : (newer : List DocValue) (document : DocValue) (older : List DocValue) (number : ℕ) (entry : EntryValue)
    → AreDated (newer ++ document ∷ older) → Contains document.items (Kept entry) → entry.number ≡ number
    → All (λ other. ¬ HasItemOf number other) newer → Counts (newer ++ document ∷ older) number entry
counts-at [] document older number entry dated kept member newest =
    counts-here document older number entry dated kept member
counts-at (first ∷ newer) document older number entry dated kept member newest =
    counts-more first (newer ++ document ∷ older) number entry
    (All-head (λ other. ¬ HasItemOf number other) first newer newest)
    (counts-at newer document older number entry dated.2 kept member
    (All-tail (λ other. ¬ HasItemOf number other) first newer newest))

counts-shows : (documents : List DocValue) → AreDated documents → (number : ℕ) (entry : EntryValue)
    → Shows documents number entry → Counts documents number entry
counts-shows documents dated number entry shows =
    subst (λ (ds : List DocValue). Counts ds number entry) (sym shows.split)
    (counts-at shows.newer shows.document shows.older number entry (subst AreDated shows.split dated) shows.kept
    shows.member shows.newest)

pub dated-rule : (documents : List DocValue) → AreDated documents → CountsWhereItShows documents
dated-rule documents dated number entry = (
  shows-counted documents dated number entry,
  counts-shows documents dated number entry,
)
