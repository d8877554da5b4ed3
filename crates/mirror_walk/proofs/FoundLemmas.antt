-- Which of the held documents are found: the archive of a number and the best subscription document.
use Rattle.std.proofs.Common.{◌≡◌, inl, inr, ℕ, zero, suc, ◌≤◌, nat_lt, Bool, true}
use Rattle.std.proofs.Common.{List, [], ◌∷◌, ◌++◌, All, filter, find, fold, Option, Some, None, IsSome}
use Rattle.std.proofs.Common.{IfSome}
use Rattle.std.proofs.Common.{IsSomeAnd, is_some, option_map, refl, ap, sym, subst, ◌∙◌, arith}
use Rattle.std.proofs.Common.{eq-eqb}
use Rattle.std.specs.Option.{option_or}
use Rattle.std.proofs.lemmas.Bool.{cases_Bool, cond-true, cond-false, cond_both, eqb-true, ltb-true}
use Rattle.std.proofs.lemmas.Bool.{ltb-false}
use Rattle.std.proofs.lemmas.Option.{MatchOption-at_some}
use Rattle.std.proofs.lemmas.List.Elements.{All-filter, All-head, All-tail, filter_passes}
use Rattle.atom_writer.specs.Doc.{DocValue}
use Rattle.atom_writer.specs.declared.doc.Kind.{Kind}
use Rattle.atom_writer.specs.declared.doc.Kind.TheVariants.{Subscription, Archive as Sealed}
use Rattle.member_rules.specs.Chain.{down_from}
use Rattle.mirror_walk.specs.Holding.{KeptValue, archive_at, archives_from, best_of, is_archive}
use Rattle.mirror_walk.specs.Holding.{is_subscription, newer_of}
use Rattle.mirror_walk.proofs.PushLemmas.{archive_at-push, best_of-push, given_at}

-- a kind that passes a test

archive-passes : (number : ℕ) (kind : Kind) → is_archive number kind ≡ true → kind ≡ Sealed number
archive-passes number Subscription e = cc
archive-passes number (Sealed other) e = ap Sealed (eqb-true other number e)

subscription-passes : (kind : Kind) → is_subscription kind ≡ true → kind ≡ Subscription
subscription-passes Subscription e = refl
subscription-passes (Sealed number) e = cc

-- an item that `find` returns is in the list, and passes the test

find-holds : {A : Type 0} (P : A → Type 0) (test : A → Bool) (xs : List A) (x : A) → All P xs
    → find test xs ≡ Some x
    → P x × (test x ≡ true)
find-holds P test [] x all e = absurd (cc)
find-holds P test (y ∷ ys) x all e = elim (cases_Bool (test y)) [
  | inl passed ↦ let same : y ≡ x = cc (cond-true (test y) (Some y) (find test ys) passed) in
      (subst P same (All-head P y ys all), ap test (sym same) ∙ passed)
  | inr failed ↦ find-holds P test ys x (All-tail P y ys all)
      (sym (cond-false (test y) (Some y) (find test ys) failed) ∙ e)
]

pub archive_at-holds : (P : KeptValue → Type 0) (kept : List KeptValue) (number : ℕ) (held : KeptValue)
    → All P kept
    → archive_at kept number ≡ Some held → P held × (held.document.kind ≡ Sealed number)
unfolding archive_at
archive_at-holds P kept number held all e =
    let found = find-holds P (λ (k : KeptValue). is_archive number k.document.kind) kept held all e in
    (found.0, archive-passes number held.document.kind found.1)

newer_of-holds : (P : KeptValue → Type 0) (best : Option KeptValue) (other : KeptValue) → IfSome best P
    → P other
    → IfSome (newer_of best other) P
newer_of-holds P None other is_best is_other = is_other
newer_of-holds P (Some best) other is_best is_other =
    cond_both (nat_lt best.document.span.last other.document.span.last) (Some other) (Some best)
    (λ o. IfSome o P)
    (λ newer. is_other) (λ older. is_best)

fold-holds : (P : KeptValue → Type 0) (best : Option KeptValue) (kept : List KeptValue) → IfSome best P
    → All P kept
    → IfSome (fold newer_of best kept) P
fold-holds P best [] is_best all = is_best
fold-holds P best (k ∷ kept) is_best all =
    fold-holds P (newer_of best k) kept (newer_of-holds P best k is_best (All-head P k kept all))
    (All-tail P k kept all)

best_of-passes : (P : KeptValue → Type 0) (kept : List KeptValue) → All P kept → IfSome (best_of kept) P
unfolding best_of
best_of-passes P kept all =
    let test = λ (k : KeptValue). is_subscription k.document.kind in
    fold-holds P None (filter test kept) tt (All-filter test P kept all)

best_of-subscription : (kept : List KeptValue) → IfSome (best_of kept)
    (λ k. is_subscription k.document.kind ≡ true)
unfolding best_of
best_of-subscription kept =
    let test = λ (k : KeptValue). is_subscription k.document.kind in
    fold-holds (λ k. is_subscription k.document.kind ≡ true) None (filter test kept) tt
    (filter_passes test kept)

pub best_of-holds : (P : KeptValue → Type 0) (kept : List KeptValue) (best : KeptValue) → All P kept
    → best_of kept ≡ Some best
    → P best × (best.document.kind ≡ Subscription)
best_of-holds P kept best all e = (
  MatchOption-at_some (Unit {0}) P best e (best_of-passes P kept all),
  subscription-passes best.document.kind
      (MatchOption-at_some (Unit {0}) (λ k. is_subscription k.document.kind ≡ true) best e
      (best_of-subscription kept)),
)

-- one more held document

-- the archive of the number is held, or a subscription document with this `last` or a greater one
abbrev pub Covers : List KeptValue → ℕ → Kind → Type 0
Covers kept last Subscription = IsSomeAnd (best_of kept) (λ best. last ≤ best.document.span.last)
Covers kept last (Sealed number) = IsSome (archive_at kept number)

abbrev IsAtLeast : ℕ → Option KeptValue → Type 0
IsAtLeast last best = IsSomeAnd best (λ (b : KeptValue). last ≤ b.document.span.last)

newer_of-keeps : (last : ℕ) (best : Option KeptValue) (other : KeptValue) → IsAtLeast last best
    → IsAtLeast last (newer_of best other)
newer_of-keeps last None other h = absurd h
newer_of-keeps last (Some best) other h =
    let before = best.document.span.last in
    let after = other.document.span.last in
    cond_both (nat_lt before after) (Some other) (Some best) (IsAtLeast last)
    (λ newer. omega (arith, ltb-true before after newer)) (λ older. h)

newer_of-given : (best : Option KeptValue) (other : KeptValue)
    → IsAtLeast other.document.span.last (newer_of best other)
newer_of-given None other = omega arith
newer_of-given (Some best) other =
    let before = best.document.span.last in
    let after = other.document.span.last in
    cond_both (nat_lt before after) (Some other) (Some best) (IsAtLeast after) (λ newer. omega arith)
    (λ older. ltb-false before after older)

fold-keeps : (last : ℕ) (best : Option KeptValue) (others : List KeptValue) → IsAtLeast last best
    → IsAtLeast last (fold newer_of best others)
fold-keeps last best [] h = h
fold-keeps last best (k ∷ others) h = fold-keeps last (newer_of best k) others (newer_of-keeps last best k h)

some-or : {A : Type 0} (one other : Option A) → IsSome one → IsSome (option_or one other)
some-or None other h = cc
some-or (Some x) other h = refl

or-some : {A : Type 0} (one other : Option A) → IsSome other → IsSome (option_or one other)
or-some None other h = h
or-some (Some x) other h = refl

pub covers-push : (kept : List KeptValue) (given : KeptValue) (last : ℕ) (kind : Kind) → Covers kept last kind
    → Covers (kept ++ given ∷ []) last kind
covers-push kept given last Subscription h =
    rw (best_of-push kept given) (fold-keeps last (best_of kept)
    (filter (λ (k : KeptValue). is_subscription k.document.kind) (given ∷ [])) h)
covers-push kept given last (Sealed number) h =
    rw (archive_at-push kept given number) (some-or (archive_at kept number) (given_at given number) h)

pub covers-given : (kept : List KeptValue) (given : KeptValue) (kind : Kind) → given.document.kind ≡ kind
    → Covers (kept ++ given ∷ []) given.document.span.last kind
covers-given kept given Subscription e =
    let test = λ (k : KeptValue). is_subscription k.document.kind in
    let one : filter test (given ∷ []) ≡ given ∷ [] =
    cond-true (is_subscription given.document.kind) (given ∷ []) [] (ap is_subscription e) in
    rw (best_of-push kept given, one) (newer_of-given (best_of kept) given)
covers-given kept given (Sealed number) e =
    rw (archive_at-push kept given number) (or-some (archive_at kept number) (given_at given number)
    (ap is_some (cond-true (is_archive number given.document.kind) (Some given) None
    (ap (is_archive number) e ∙ eq-eqb number number refl))))

-- the archives that are held from a number down to 1, where none is missing
pub archives_from-whole : (kept : List KeptValue) (archive : ℕ → DocValue) (number : ℕ)
    → ((n : ℕ) → 1 ≤ n → n ≤ number → option_map (λ (k : KeptValue). k.document) (archive_at kept n) ≡ Some
    (archive n))
    → archives_from kept number ≡ down_from archive number
unfolding archives_from
archives_from-whole kept archive zero held = refl
archives_from-whole kept archive (suc number) held =
    rw (held (suc number) (omega arith) (omega arith))
    (ap (λ (older : List DocValue). archive (suc number) ∷ older)
    (archives_from-whole kept archive number (λ n one within. held n one (omega arith))))
