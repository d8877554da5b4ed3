-- The live entries of the members of a map.
use Rattle.std.proofs.Common.{◌≡◌, ◌≢◌, ℕ, List, [], ◌∷◌, All, Any, Contains, Option, Some, None, MatchOption, ℤ}
use Rattle.std.proofs.Common.{◌<ℤ◌, ◌≤ℤ◌, ◌⊎◌, Bool, true, false, cond, refl, sym, ap, subst, ◌∙◌}
use Rattle.std.proofs.Common.{filter_map, Vec, Global, Less, int_le, arith, if◌then◌else◌, ⊎_elim, length, zero-lt-suc, ◌<◌, suc, suc-le-suc, Ordering}
use Rattle.std.proofs.Common.{option_and_then}
use Rattle.std.specs.BTreeMap.{is_at, IsOrdered}
use Rattle.std.specs.Cmp.Lexicographic.{slice_cmp, nat_list_cmp_total}
use Rattle.std.specs.List.{AllByRecursion as ByRecursion, cons_option}
use Rattle.std.specs.Map.{lookup, keys_of}
use Rattle.std.specs.Ordering.{nat_cmp}
use Rattle.std.specs.List.Sorted.{IsStrictlySortedBy}
use Rattle.std.proofs.lemmas.Cmp.{on_total}
use Rattle.std.proofs.lemmas.Int.{ints}
use Rattle.std.proofs.lemmas.Map.Keys.{sorted_head, sorted_tail}
use Rattle.std.proofs.lemmas.Map.Views.{All-found}
use Rattle.std.proofs.lemmas.List.Elements.{All-nil, All-cons, All-head, All-tail, All-contains, All-append, All-weaker}
use Rattle.std.proofs.lemmas.List.Elements.{Contains-append_left, Contains-append_right, Contains-append_cases}
use Rattle.feed_reader.specs.Feed.{DocumentValue}
use Rattle.feed_reader.specs.declared.values.ForeignEntry.{ForeignEntry}
use Rattle.feed_reader.specs.declared.values.ForeignGone.{ForeignGone}
use Rattle.foreign_entries.specs.Occurrence.{Occurrence, HasTombstone, occurrences}
use Rattle.foreign_entries.specs.Counts.{CountsById}
use Rattle.foreign_entries.specs.Live.{IsFirstCounting, IsForeignLive, IsRising, IsBefore}
use Rattle.foreign_entries.specs.Tally.{Tallies, IsNewer, IsNewestOf, IsLatestOf, IsMemberOf, HasNoEntry}
use Rattle.foreign_entries.specs.Tally.{HasNoTombstone, tombstones, member_of}
use Rattle.foreign_entries.specs.Added.{live_entry, is_removed}
use Rattle.foreign_entries.specs.declared.live.LiveEntries.{LiveEntries}
use Rattle.foreign_entries.specs.declared.live.Kept.{Kept}
use Rattle.foreign_entries.specs.declared.live.Member.{Member}

no_later : (a b c d : ℤ) → ((b <ℤ a) ⊎ ((b ≡ a) × (d <ℤ c)) → ⊥) → a ≤ℤ b
no_later a b c d x = grind (arith, ints)

no_later_document : (a b c d : ℤ) → ((b <ℤ a) ⊎ ((b ≡ a) × (d <ℤ c)) → ⊥) → a ≡ b → c ≤ℤ d
no_later_document a b c d x e = grind (arith, ints)

-- an entry isn't newer than one that is at least as late
against : (a b c d : ℤ) → (b <ℤ a) ⊎ ((b ≡ a) × (d <ℤ c)) → a ≤ℤ b → (a ≡ b → c ≤ℤ d) → ⊥
against a b c d x y z = grind (arith, ints)

back_and_forth : (a b c d : ℤ) → (b <ℤ a) ⊎ ((b ≡ a) × (d <ℤ c)) → (a <ℤ b) ⊎ ((a ≡ b) × (c <ℤ d)) → ⊥
back_and_forth a b c d x y = grind (arith, ints)

past_from_test : (a b : ℤ) → int_le b a ≡ false → a <ℤ b
past_from_test a b e = grind (arith, ints)

test_from_past : (a b : ℤ) → a <ℤ b → int_le b a ≡ false
test_from_past a b h = grind (arith, ints)

head_there : {X : Type 0} (x : X) (xs : List X) → Contains (x ∷ xs) x
head_there x xs = (0, zero-lt-suc (length xs), refl)

-- the tombstones of each document are among all
all_there : (documents : List DocumentValue)
    → All (λ (d : DocumentValue). (g : ForeignGone) → Contains d.gone g → Contains (tombstones documents) g) documents
all_there [] = All-nil (λ (d : DocumentValue). (g : ForeignGone) → Contains d.gone g → Contains (tombstones []) g)
all_there (d ∷ ds) =
    let P : DocumentValue → Type 0 =
    λ x. (g : ForeignGone) → Contains x.gone g → Contains (tombstones (d ∷ ds)) g in
    All-cons P d ds (λ g has. Contains-append_left d.gone (tombstones ds) g has)
    (All-weaker (λ (x : DocumentValue). (g : ForeignGone) → Contains x.gone g → Contains (tombstones ds) g) P
    (λ x f g has. Contains-append_right d.gone (tombstones ds) g (f g has)) ds (all_there ds))

tombstone_there : (documents : List DocumentValue) (id : List ℕ) (g : ForeignGone) → HasTombstone documents id g
    → Contains (tombstones documents) g
tombstone_there documents id g has =
    All-contains (λ (d : DocumentValue). (g : ForeignGone) → Contains d.gone g → Contains (tombstones documents) g)
    documents has.document (all_there documents) has.there g has.has

-- each tombstone is in a document
document_of : (documents : List DocumentValue) (g : ForeignGone) → Contains (tombstones documents) g
    → (d : DocumentValue) × Contains documents d × Contains d.gone g
document_of [] g has = let below : has.0 < 0 = has.1 in absurd (omega arith)
document_of (d ∷ ds) g has = ⊎_elim
    (λ here. (d, head_there d ds, here))
    (λ there. let f = document_of ds g there in (f.0, Contains-append_right (d ∷ []) ds f.0 f.1, f.2))
    (Contains-append_cases d.gone (tombstones ds) g has)

has_tombstone : (documents : List DocumentValue) (id : List ℕ) (g : ForeignGone) → Contains (tombstones documents) g
    → g.id ≡ id → HasTombstone documents id g
has_tombstone documents id g has of =
    let f = document_of documents g has in
    record { document = f.0; there = f.1; has = f.2; of = of }

-- no entry of the identifier is newer than the newest one
none_newer : (all : List Occurrence) (id : List ℕ) (kept : Kept) (n : IsNewestOf all id kept)
    → All (λ (r : Occurrence). r.entry.id ≡ id → IsNewer r n.occurrence → ⊥) all
none_newer all id kept n =
    let P : Occurrence → Type 0 = λ r. r.entry.id ≡ id → IsNewer r n.occurrence → ⊥ in
    let o = n.occurrence in
    let front : All P n.before = All-weaker (λ (r : Occurrence). r.entry.id ≡ id → IsNewer o r) P
    (λ r over same under. back_and_forth o.entry.updated r.entry.updated o.document.updated r.document.updated
    (over same) under) n.before n.first in
    let itself : P o = λ _ under. back_and_forth o.entry.updated o.entry.updated o.document.updated o.document.updated
    under under in
    subst (All P) (sym n.split)
    (All-append P n.before (o ∷ n.after) front (All-cons P o n.after itself n.newest))

newest_there : (all : List Occurrence) (id : List ℕ) (kept : Kept) (n : IsNewestOf all id kept)
    → Contains all n.occurrence
newest_there all id kept n = subst (λ xs. Contains xs n.occurrence) (sym n.split)
    (Contains-append_right n.before (n.occurrence ∷ n.after) n.occurrence (head_there n.occurrence n.after))

-- no entry of the identifier is newer than the newest one
newest_of : (all : List Occurrence) (id : List ℕ) (kept : Kept) (n : IsNewestOf all id kept) (r : Occurrence)
    → Contains all r → r.entry.id ≡ id → IsNewer r n.occurrence → ⊥
newest_of all id kept n r has same = All-contains
    (λ (r : Occurrence). r.entry.id ≡ id → IsNewer r n.occurrence → ⊥) all r (none_newer all id kept n) has same

-- the newest entry of an identifier counts, if it is later than each tombstone
counts : (documents : List DocumentValue) (id : List ℕ) (kept : Kept) (n : IsNewestOf (occurrences documents) id kept)
    → ((g : ForeignGone) → HasTombstone documents id g → g.when <ℤ n.occurrence.entry.updated)
    → CountsById documents id n.occurrence
counts documents id kept n later =
    let o = n.occurrence in
    record {
      there = newest_there (occurrences documents) id kept n;
      of = n.of;
      latest = λ r has same. no_later r.entry.updated o.entry.updated r.document.updated o.document.updated
          (newest_of (occurrences documents) id kept n r has same);
      newest = λ r has same. no_later_document r.entry.updated o.entry.updated r.document.updated o.document.updated
          (newest_of (occurrences documents) id kept n r has same);
      undeleted = later;
    }

-- and none before it does
first_counts : (documents : List DocumentValue) (id : List ℕ) (kept : Kept)
    (n : IsNewestOf (occurrences documents) id kept) → All (λ (o : Occurrence). CountsById documents id o → ⊥) n.before
first_counts documents id kept n =
    let o = n.occurrence in
    let has = newest_there (occurrences documents) id kept n in
    All-weaker (λ (r : Occurrence). r.entry.id ≡ id → IsNewer o r) (λ (r : Occurrence). CountsById documents id r → ⊥)
    (λ r over h. against o.entry.updated r.entry.updated o.document.updated r.document.updated (over h.of)
    (h.latest o has n.of) (h.newest o has n.of)) n.before n.first

-- so it is the first one that counts
first_counting : (documents : List DocumentValue) (id : List ℕ) (kept : Kept)
    (n : IsNewestOf (occurrences documents) id kept)
    → ((g : ForeignGone) → HasTombstone documents id g → g.when <ℤ n.occurrence.entry.updated)
    → IsFirstCounting documents id kept.entry
first_counting documents id kept n later = record {
  before = n.before;
  occurrence = n.occurrence;
  after = n.after;
  split = n.split;
  counts = counts documents id kept n later;
  first = first_counts documents id kept n;
  is = n.entry;
}

-- what a member with a live entry keeps
live_kept : (kept : Option Kept) (when : Option ℤ) (x : ForeignEntry)
    → option_and_then (λ (k : Kept). if is_removed k.entry.updated when then None else Some k.entry) kept ≡ Some x
    → (k : Kept) × (kept ≡ Some k) × (is_removed k.entry.updated when ≡ false) × (k.entry ≡ x)
live_kept None when x e = cc
live_kept (Some k) when x e =
    let at : (t : Bool) → is_removed k.entry.updated when ≡ t → cond t None (Some k.entry) ≡ Some x
    → (j : Kept) × (Some k ≡ Some j) × (is_removed j.entry.updated when ≡ false) × (j.entry ≡ x) = λ t.
    elim t as (λ t. is_removed k.entry.updated when ≡ t → cond t None (Some k.entry) ≡ Some x
    → (j : Kept) × (Some k ≡ Some j) × (is_removed j.entry.updated when ≡ false) × (j.entry ≡ x)) [
      | true ↦ λ _ e. cc
      | false ↦ λ h e. (k, refl, h, cc)
    ] in at (is_removed k.entry.updated when) refl e

-- an entry that isn't removed is later than each tombstone
later_than_gone : (documents : List DocumentValue) (id : List ℕ) (updated : ℤ) (gone : Option ℤ)
    → MatchOption gone (HasNoTombstone (tombstones documents) id) (IsLatestOf (tombstones documents) id)
    → is_removed updated gone ≡ false → (g : ForeignGone) → HasTombstone documents id g → g.when <ℤ updated
later_than_gone documents id updated None none e g has =
    absurd (All-contains (λ (r : ForeignGone). r.id ≢ id) (tombstones documents) g none
    (tombstone_there documents id g has) has.of)
later_than_gone documents id updated (Some when) n e g has =
    let below : g.when ≤ℤ when = All-contains (λ (r : ForeignGone). r.id ≡ id → r.when ≤ℤ when)
    (tombstones documents) g n.latest (tombstone_there documents id g has) has.of in
    let past : when <ℤ updated = past_from_test when updated e in
    omega (arith, ints)

-- an entry that is later than each tombstone isn't removed
not_removed : (documents : List DocumentValue) (id : List ℕ) (updated : ℤ) (gone : Option ℤ)
    → MatchOption gone (HasNoTombstone (tombstones documents) id) (IsLatestOf (tombstones documents) id)
    → ((g : ForeignGone) → HasTombstone documents id g → g.when <ℤ updated) → is_removed updated gone ≡ false
not_removed documents id updated None none later = refl
not_removed documents id updated (Some when) n later =
    let past : n.gone.when <ℤ updated = later n.gone (has_tombstone documents id n.gone n.there n.of) in
    test_from_past when updated (subst (λ (w : ℤ). w <ℤ updated) n.is past)

-- the live entry of a member is the first one of its identifier that counts
live_counts : (documents : List DocumentValue) (id : List ℕ) (member : Member) (x : ForeignEntry)
    → IsMemberOf (occurrences documents) (tombstones documents) id member → live_entry member ≡ Some x
    → (x.id ≡ id) × IsFirstCounting documents id x
live_counts documents id member x is e =
    let found = live_kept member.kept member.gone x e in
    let n = subst (λ k. MatchOption k (HasNoEntry (occurrences documents) id) (IsNewestOf (occurrences documents) id))
    found.1 is.keeps.0 in
    let later = later_than_gone documents id found.0.entry.updated member.gone is.keeps.1 found.2 in
    let same : found.0.entry.updated ≡ n.occurrence.entry.updated = ap (λ (y : ForeignEntry). y.updated) n.entry in (
      ap (λ (y : ForeignEntry). y.id) (sym found.3 ∙ n.entry) ∙ n.of,
      subst (IsFirstCounting documents id) found.3 (first_counting documents id found.0 n
          (λ g has. subst (λ (w : ℤ). g.when <ℤ w) same (later g has))),
    )

-- where an entry counts, the member of its identifier has a live entry
counts_live : (documents : List DocumentValue) (id : List ℕ) (o : Occurrence) (member : Option Member)
    → MatchOption member (HasNoEntry (occurrences documents) id × HasNoTombstone (tombstones documents) id)
    (IsMemberOf (occurrences documents) (tombstones documents) id) → CountsById documents id o
    → (m : Member) × (x : ForeignEntry) × (member ≡ Some m) × (live_entry m ≡ Some x) × (x.id ≡ id)
counts_live documents id o None none h = absurd
    (All-contains (λ (r : Occurrence). r.entry.id ≢ id) (occurrences documents) o none.0 h.there h.of)
counts_live documents id o (Some m) is h =
    let G : Type 0 = (n : Member) × (x : ForeignEntry) × (Some m ≡ Some n) × (live_entry n ≡ Some x) × (x.id ≡ id) in
    let at : (k : Option Kept) → m.kept ≡ k
    → MatchOption k (HasNoEntry (occurrences documents) id) (IsNewestOf (occurrences documents) id) → G = λ k.
    elim k as (λ k. m.kept ≡ k
    → MatchOption k (HasNoEntry (occurrences documents) id) (IsNewestOf (occurrences documents) id) → G) [
      | None ↦ λ _ none. absurd
          (All-contains (λ (r : Occurrence). r.entry.id ≢ id) (occurrences documents) o none h.there h.of)
      | Some kept ↦ λ e n.
          let same : kept.entry.updated ≡ n.occurrence.entry.updated =
          ap (λ (y : ForeignEntry). y.updated) n.entry in
          let under : o.entry.updated ≤ℤ n.occurrence.entry.updated = no_later o.entry.updated
          n.occurrence.entry.updated o.document.updated n.occurrence.document.updated
          (newest_of (occurrences documents) id kept n o h.there h.of) in
          let stays : is_removed kept.entry.updated m.gone ≡ false =
          not_removed documents id kept.entry.updated m.gone is.keeps.1
          (λ g has. let past : g.when <ℤ o.entry.updated = h.undeleted g has in omega (arith, ints, same)) in
          let live : live_entry m ≡ Some kept.entry =
          ap (option_and_then (λ (k : Kept). if is_removed k.entry.updated m.gone then None else Some k.entry)) e
          ∙ ap (λ t. cond t None (Some kept.entry)) stays in
          (m, kept.entry, refl, live, ap (λ (y : ForeignEntry). y.id) n.entry ∙ n.of)
    ] in at m.kept refl is.keeps.0

-- an entry of a map, whose live entry has the key as its identifier and is the first that counts
abbrev pub IsGood : List DocumentValue → Vec ℕ Global × Member → Type 0
IsGood documents e = (x : ForeignEntry) → live_entry e.1 ≡ Some x
    → (x.id ≡ e.0.items) × IsFirstCounting documents x.id x

-- a live entry of the first member, before those of the others
any_first : (P : ForeignEntry → Type 0) (o : Option ForeignEntry) (xs : List ForeignEntry) (x : ForeignEntry)
    → o ≡ Some x → P x → Any P (cons_option o xs)
any_first P None xs x e p = cc
any_first P (Some y) xs x e p =
    let same : x ≡ y = cc in (0, y, zero-lt-suc (length xs), refl, subst P same p)

any_later : (P : ForeignEntry → Type 0) (o : Option ForeignEntry) (xs : List ForeignEntry) → Any P xs
    → Any P (cons_option o xs)
any_later P None xs has = has
any_later P (Some y) xs has = (suc has.0, has.1, suc-le-suc has.2, has.3, has.4)

-- a member that is found has its live entry among all
found_live : (P : ForeignEntry → Type 0) (test : Vec ℕ Global → Bool) (es : List (Vec ℕ Global × Member))
    (m : Member) (x : ForeignEntry) → lookup test es ≡ Some m → live_entry m ≡ Some x → P x
    → Any P (filter_map (λ e. live_entry e.1) es)
found_live P test [] m x found is p = cc
found_live P test (e ∷ es) m x found is p =
    let at : (t : Bool) → cond t (Some e.1) (lookup test es) ≡ Some m
    → Any P (cons_option (live_entry e.1) (filter_map (λ e. live_entry e.1) es)) = λ t.
    elim t as (λ t. cond t (Some e.1) (lookup test es) ≡ Some m
    → Any P (cons_option (live_entry e.1) (filter_map (λ e. live_entry e.1) es))) [
      | true ↦ λ h. let same : e.1 ≡ m = cc in any_first P (live_entry e.1) _ x (ap live_entry same ∙ is) p
      | false ↦ λ h. any_later P (live_entry e.1) _ (found_live P test es m x h is p)
    ] in at (test e.0) found

-- the live entries of good members
each_counts : (documents : List DocumentValue) (es : List (Vec ℕ Global × Member)) → All (IsGood documents) es
    → All (λ (x : ForeignEntry). IsFirstCounting documents x.id x) (filter_map (λ e. live_entry e.1) es)
each_counts documents [] good = All-nil (λ (x : ForeignEntry). IsFirstCounting documents x.id x)
each_counts documents (e ∷ es) good =
    let P : ForeignEntry → Type 0 = λ x. IsFirstCounting documents x.id x in
    let rest = each_counts documents es (All-tail (IsGood documents) e es good) in
    let at : (o : Option ForeignEntry) → live_entry e.1 ≡ o
    → All P (cons_option o (filter_map (λ e. live_entry e.1) es)) = λ o.
    elim o as (λ o. live_entry e.1 ≡ o → All P (cons_option o (filter_map (λ e. live_entry e.1) es))) [
      | None ↦ λ _. rest
      | Some x ↦ λ is. All-cons P x (filter_map (λ e. live_entry e.1) es)
          (All-head (IsGood documents) e es good x is).1 rest
    ] in at (live_entry e.1) refl

-- those of members with later keys
above : (documents : List DocumentValue) (key : List ℕ) (es : List (Vec ℕ Global × Member))
    → All (IsGood documents) es → ByRecursion (λ k. slice_cmp nat_cmp key k.items ≡ Less) (keys_of es)
    → All (λ (x : ForeignEntry). IsBefore key x.id) (filter_map (λ e. live_entry e.1) es)
above documents key [] good less = All-nil (λ (x : ForeignEntry). IsBefore key x.id)
above documents key (e ∷ es) good less =
    let P : ForeignEntry → Type 0 = λ x. IsBefore key x.id in
    let rest = above documents key es (All-tail (IsGood documents) e es good) less.1 in
    let at : (o : Option ForeignEntry) → live_entry e.1 ≡ o
    → All P (cons_option o (filter_map (λ e. live_entry e.1) es)) = λ o.
    elim o as (λ o. live_entry e.1 ≡ o → All P (cons_option o (filter_map (λ e. live_entry e.1) es))) [
      | None ↦ λ _. rest
      | Some x ↦ λ is. All-cons P x (filter_map (λ e. live_entry e.1) es)
          (ap (slice_cmp nat_cmp key) (All-head (IsGood documents) e es good x is).0 ∙ less.0) rest
    ] in at (live_entry e.1) refl

rising : (documents : List DocumentValue) (es : List (Vec ℕ Global × Member)) → All (IsGood documents) es
    → IsStrictlySortedBy (λ x y. slice_cmp nat_cmp x.items y.items) (keys_of es)
    → IsRising (filter_map (λ e. live_entry e.1) es)
rising documents [] good sorted = tt
rising documents (e ∷ es) good sorted =
    let R : Vec ℕ Global → Vec ℕ Global → Ordering = λ x y. slice_cmp nat_cmp x.items y.items in
    let others = All-tail (IsGood documents) e es good in
    let rest = rising documents es others (sorted_tail R e.0 (keys_of es) sorted) in
    let later = above documents e.0.items es others (sorted_head R e.0 (keys_of es) sorted) in
    let at : (o : Option ForeignEntry) → live_entry e.1 ≡ o
    → IsRising (cons_option o (filter_map (λ e. live_entry e.1) es)) = λ o.
    elim o as (λ o. live_entry e.1 ≡ o → IsRising (cons_option o (filter_map (λ e. live_entry e.1) es))) [
      | None ↦ λ _. rest
      | Some x ↦ λ is. (
        subst (λ id. All (λ (y : ForeignEntry). IsBefore id y.id)
            (filter_map (λ e. live_entry e.1) es)) (sym (All-head (IsGood documents) e es good x is).0) later,
        rest,
      )
    ] in at (live_entry e.1) refl

-- the members of documents are good
all_good : (documents : List DocumentValue) (live : LiveEntries) → Tallies documents live
    → All (λ e. member_of live e.0.items ≡ Some e.1) live.members.entries
    → All (IsGood documents) live.members.entries
all_good documents live tallies found = All-weaker (λ e. member_of live e.0.items ≡ Some e.1) (IsGood documents)
    (λ e at x is.
    let member = subst (λ m. MatchOption m
    (HasNoEntry (occurrences documents) e.0.items × HasNoTombstone (tombstones documents) e.0.items)
    (IsMemberOf (occurrences documents) (tombstones documents) e.0.items)) at (tallies.members e.0.items) in
    let good = live_counts documents e.0.items e.1 x member is in
    (good.0, subst (λ id. IsFirstCounting documents id x) (sym good.0) good.1))
    live.members.entries found

-- the live entries of a map's members
pub live_from_members : (documents : List DocumentValue) (live : LiveEntries) → Tallies documents live
    → IsOrdered (λ x y. slice_cmp nat_cmp x.items y.items) live.members
    → IsForeignLive documents (filter_map (λ e. live_entry e.1) live.members.entries)
live_from_members documents live tallies sorted =
    let R : Vec ℕ Global → Vec ℕ Global → Ordering = λ x y. slice_cmp nat_cmp x.items y.items in
    let good = all_good documents live tallies (All-found (on_total (λ (k : Vec ℕ Global). k.items) nat_list_cmp_total)
    live.members sorted) in
    record {
      rising = rising documents live.members.entries good sorted;
      each = each_counts documents live.members.entries good;
      all = λ id o h.
          let found = counts_live documents id o (member_of live id) (tallies.members id) h in
          found_live (λ (x : ForeignEntry). x.id ≡ id) (is_at (λ k. slice_cmp nat_cmp id k.items)) live.members.entries
          found.0 found.1 found.2 found.3 found.4;
    }
