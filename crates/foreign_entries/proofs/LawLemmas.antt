-- Documents have one list of live entries.
use Rattle.std.proofs.Common.{◌≡◌, ℕ, List, [], ◌∷◌, ◌++◌, All, Contains, refl, sym, ap, subst, ◌∙◌, ◌⊎◌, inl, inr}
use Rattle.std.proofs.Common.{⊎_elim, Equal, length, suc, zero, ◌<◌, arith, zero-lt-suc}
use Rattle.std.specs.Cmp.Lexicographic.{slice_cmp, nat_list_cmp_total}
use Rattle.std.specs.Ordering.{nat_cmp}
use Rattle.std.proofs.lemmas.Cmp.{tied_itself}
use Rattle.std.proofs.lemmas.List.Elements.{All-head, All-tail, All-contains, Contains-append_right}
use Rattle.feed_reader.specs.Feed.{DocumentValue}
use Rattle.feed_reader.specs.declared.values.ForeignEntry.{ForeignEntry}
use Rattle.foreign_entries.specs.Occurrence.{Occurrence}
use Rattle.foreign_entries.specs.Counts.{CountsById}
use Rattle.foreign_entries.specs.Laws.{DocumentsHaveOneLive}
use Rattle.foreign_entries.specs.Live.{IsFirstCounting, IsForeignLive, IsRising, IsBefore}

-- two splits of a list at the first element that passes are at one place
one_first : {X : Type 0} (P : X → Type 0) (before other : List X) (x y : X) (after behind : List X)
    → before ++ x ∷ after ≡ other ++ y ∷ behind → All (λ z. P z → ⊥) before → All (λ z. P z → ⊥) other → P x → P y
    → x ≡ y
one_first P [] [] x y after behind e none_before none_other p q = cc
one_first P [] (z ∷ other) x y after behind e none_before none_other p q =
    let same : x ≡ z = cc in
    absurd (All-head (λ z. P z → ⊥) z other none_other (subst P same p))
one_first P (z ∷ before) [] x y after behind e none_before none_other p q =
    let same : y ≡ z = cc in
    absurd (All-head (λ z. P z → ⊥) z before none_before (subst P same q))
one_first P (z ∷ before) (w ∷ other) x y after behind e none_before none_other p q =
    let rest : before ++ x ∷ after ≡ other ++ y ∷ behind = cc in
    one_first P before other x y after behind rest (All-tail (λ z. P z → ⊥) z before none_before)
    (All-tail (λ z. P z → ⊥) w other none_other) p q

-- one entry of an identifier is the first that counts
one_counting : (documents : List DocumentValue) (id : List ℕ) (one other : ForeignEntry)
    → IsFirstCounting documents id one → IsFirstCounting documents id other → one ≡ other
one_counting documents id one other f g =
    let same : f.occurrence ≡ g.occurrence = one_first (CountsById documents id) f.before g.before f.occurrence
    g.occurrence f.after g.after (sym f.split ∙ g.split) f.first g.first f.counts g.counts in
    f.is ∙ ap (λ (o : Occurrence). o.entry) same ∙ sym g.is

never_before_itself : (id : List ℕ) → IsBefore id id → ⊥
never_before_itself id h = let e : slice_cmp nat_cmp id id ≡ Equal = tied_itself nat_list_cmp_total id in cc

never_both : (one other : List ℕ) → IsBefore one other → IsBefore other one → ⊥
never_both one other h k = never_before_itself one (nat_list_cmp_total.trans one other one h k)

-- an element of a list is its head or in its tail
head_or_tail : {X : Type 0} (x y : X) (xs : List X) → Contains (x ∷ xs) y → (x ≡ y) ⊎ Contains xs y
head_or_tail x y xs (zero, below, at) = inl at
head_or_tail x y xs (suc k, below, at) = inr (k, omega arith, at)

there_first : {X : Type 0} (x : X) (xs : List X) → Contains (x ∷ xs) x
there_first x xs = (0, zero-lt-suc (length xs), refl)

there_later : {X : Type 0} (x y : X) (xs : List X) → Contains xs y → Contains (x ∷ xs) y
there_later x y xs has = Contains-append_right (x ∷ []) xs y has

-- an entry that is first in one list of two with the same elements is first in the other
same_first : (x y : ForeignEntry) (xs ys : List ForeignEntry) → All (λ (e : ForeignEntry). IsBefore x.id e.id) xs
    → All (λ (e : ForeignEntry). IsBefore y.id e.id) ys → Contains (y ∷ ys) x → Contains (x ∷ xs) y → x ≡ y
same_first x y xs ys r s there back = ⊎_elim
    (λ same. sym same)
    (λ has. ⊎_elim
    (λ same. same)
    (λ has_too. absurd (never_both x.id y.id
    (All-contains (λ (e : ForeignEntry). IsBefore x.id e.id) xs y r has_too)
    (All-contains (λ (e : ForeignEntry). IsBefore y.id e.id) ys x s has)))
    (head_or_tail x y xs back))
    (head_or_tail y x ys there)

-- the later elements are the same too
same_later : (x y : ForeignEntry) (xs ys : List ForeignEntry) → All (λ (e : ForeignEntry). IsBefore x.id e.id) xs
    → x ≡ y → ((e : ForeignEntry) → Contains (x ∷ xs) e → Contains (y ∷ ys) e) → (e : ForeignEntry) → Contains xs e
    → Contains ys e
same_later x y xs ys r same there e has = ⊎_elim
    (λ at. absurd (never_before_itself x.id (subst (λ (z : ForeignEntry). IsBefore x.id z.id) (sym (same ∙ at))
    (All-contains (λ (z : ForeignEntry). IsBefore x.id z.id) xs e r has))))
    (λ later. later)
    (head_or_tail y e ys (there e (there_later x e xs has)))

-- lists of entries that rise and have the same elements
one_rising : (one other : List ForeignEntry) → IsRising one → IsRising other
    → ((e : ForeignEntry) → Contains one e → Contains other e)
    → ((e : ForeignEntry) → Contains other e → Contains one e) → one ≡ other
one_rising [] [] r s there back = refl
one_rising [] (y ∷ ys) r s there back =
    let has = back y (there_first y ys) in
    let below : has.0 < 0 = has.1 in absurd (omega arith)
one_rising (x ∷ xs) [] r s there back =
    let has = there x (there_first x xs) in
    let below : has.0 < 0 = has.1 in absurd (omega arith)
one_rising (x ∷ xs) (y ∷ ys) r s there back =
    let same : x ≡ y = same_first x y xs ys r.0 s.0 (there x (there_first x xs)) (back y (there_first y ys)) in
    let rest : xs ≡ ys = one_rising xs ys r.1 s.1 (same_later x y xs ys r.0 same there)
    (same_later y x ys xs s.0 (sym same) back) in
    cc

-- an entry of one list is in the other
there : (documents : List DocumentValue) (one other : List ForeignEntry) → IsForeignLive documents one
    → IsForeignLive documents other → (e : ForeignEntry) → Contains one e → Contains other e
there documents one other f g e has =
    let first = All-contains (λ (x : ForeignEntry). IsFirstCounting documents x.id x) one e f.each has in
    let found = g.all e.id first.occurrence first.counts in
    let same : found.1 ≡ e = one_counting documents e.id found.1 e
    (subst (λ id. IsFirstCounting documents id found.1) found.4
    (All-contains (λ (x : ForeignEntry). IsFirstCounting documents x.id x) other found.1 g.each
    (found.0, found.2, found.3))) first in
    subst (Contains other) same (found.0, found.2, found.3)

-- serves `documents_have_one_live_list`
pub documents_have_one_live : DocumentsHaveOneLive
documents_have_one_live documents one other f g =
    one_rising one other f.rising g.rising (there documents one other f g) (there documents other one g f)
