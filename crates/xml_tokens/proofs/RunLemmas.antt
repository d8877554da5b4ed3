-- The longest front whose bytes pass a test.
use Rattle.std.proofs.Common.{◌≡◌, ◌≢◌, ℕ, ◌+◌, Bool, true, false, cond, not, ltb, List, [], ◌∷◌}
use Rattle.std.proofs.Common.{◌++◌}
use Rattle.std.proofs.Common.{ltb-false, length, min, Option, Some, None, IsTrue, refl, sym, ap, subst, ◌∙◌, ⊎_elim}
use Rattle.std.proofs.Common.{arith}
use Rattle.std.proofs.Common.{get_or, lt-ltb, le-ltb, nat_lt}
use Rattle.std.proofs.lemmas.Bool.{false_from_ne_true}
use Rattle.std.proofs.lemmas.List.Sums.{position_or_len_is}
use Rattle.std.specs.Prelude.{position, unwrap_or}
use Rattle.memchr.specs.Find.{IsFirstByte}
use Rattle.std.specs.List.{list_all, position_or_len}
use Rattle.std.proofs.lemmas.Bool.{cases_Bool, cond-true, cond-false, and_parts, and_from, both_ways, not-true}
use Rattle.std.proofs.lemmas.Bool.{not-false}
use Rattle.xml_tokens.specs.Reading.{first_is_no}
use Rattle.xml_tokens.proofs.PartLemmas.{IsPart}

-- the longest front of such bytes
abbrev pub run : (ℕ → Bool) → Unit {0} → List ℕ → List ℕ → Type 0
run test _ text rest = IsTrue (list_all test text) × IsTrue (first_is_no test rest)

pub first_grows : (test : ℕ → Bool) (x more : List ℕ) → x ≢ [] → IsTrue (first_is_no test x) →
    IsTrue (first_is_no test (x ++ more))
first_grows test [] more some is = absurd (some refl)
first_grows test (b ∷ x) more some is = is

pub first_shrinks : (test : ℕ → Bool) (x more : List ℕ) → IsTrue (first_is_no test (x ++ more)) →
    IsTrue (first_is_no test x)
first_shrinks test [] more is = refl
first_shrinks test (b ∷ x) more is = is

pub run_unique : (test : ℕ → Bool) (s x t y : List ℕ) → IsTrue (list_all test s) → IsTrue (first_is_no test x) →
    IsTrue (list_all test t) → IsTrue (first_is_no test y) → s ++ x ≡ t ++ y → s ≡ t
run_unique test [] x [] y all_s no_x all_t no_y e = refl
run_unique test [] x (b ∷ t) y all_s no_x all_t no_y e =
    let N : List ℕ → Type 0 = λ xs. IsTrue (first_is_no test xs) in
    absurd (both_ways (test b) (not-true (test b) (subst N e no_x)) (and_parts (test b) (list_all test t) all_t).0)
run_unique test (a ∷ s) x [] y all_s no_x all_t no_y e =
    let N : List ℕ → Type 0 = λ xs. IsTrue (first_is_no test xs) in
    absurd (both_ways (test a) (not-true (test a) (subst N (sym e) no_y)) (and_parts (test a)
    (list_all test s) all_s).0)
run_unique test (a ∷ s) x (b ∷ t) y all_s no_x all_t no_y e =
    let heads : a ≡ b = cc in
    let tails : s ++ x ≡ t ++ y = cc in
    let more =
    run_unique test s x t y (and_parts (test a) (list_all test s) all_s).1 no_x
    (and_parts (test b) (list_all test t) all_t).1 no_y tails in
    λ i. heads i ∷ more i

pub run_part : (test : ℕ → Bool) → IsPart (run test)
run_part test = record {
  unique = λ a b s x t y is_s is_t e. (refl, run_unique test s x t y is_s.0 is_s.1 is_t.0 is_t.1 e);
  grows = λ a s x more some is. (is.0, first_grows test x more some is.1);
  shrinks = λ a s x more is. (is.0, first_shrinks test x more is.1);
}

unwrap_position : (p : ℕ → Bool) (xs : List ℕ) (b : Bool) → ltb (position_or_len p xs) (length xs) ≡ b →
    min (unwrap_or (cond b (Some (position_or_len p xs)) None) (length xs)) (length xs)
    ≡ min (position_or_len p xs) (length xs)
unwrap_position p xs true e = refl
unwrap_position p xs false e = omega (arith, ltb-false (position_or_len p xs) (length xs) e)

cut : (test p : ℕ → Bool) → ((b : ℕ) → p b ≡ not (test b)) → (front rest : List ℕ) →
    length front ≡ min (position_or_len p (front ++ rest)) (length (front ++ rest)) →
    IsTrue (list_all test front) × IsTrue (first_is_no test rest)
cut test p is [] [] e = (refl, refl)
cut test p is [] (b ∷ rest) e =
    ⊎_elim
    (λ passes. (refl, sym (is b) ∙ passes))
    (λ fails. absurd (let here = cond-true (not (p b)) (1 + position_or_len p rest) 0 (ap not fails) in
    omega arith))
    (cases_Bool (p b))
cut test p is (a ∷ front) rest e =
    ⊎_elim
    (λ passes. absurd (let here = cond-false (not (p a)) (1 + position_or_len p (front ++ rest)) 0 (ap not passes) in
    omega arith))
    (λ fails.
    let here = cond-true (not (p a)) (1 + position_or_len p (front ++ rest)) 0 (ap not fails) in
    let more = cut test p is front rest (omega arith) in
    (and_from (test a) (list_all test front) (not-false (test a) (sym (is a) ∙ fails)) more.0, more.1))
    (cases_Bool (p a))

-- the bytes before the first that doesn't pass
pub run_cut : (test p : ℕ → Bool) → ((b : ℕ) → p b ≡ not (test b)) → (text front rest : List ℕ) (at : Option ℕ) →
    at ≡ position p text → text ≡ front ++ rest →
    length front ≡ min (unwrap_or at (length text)) (length text) →
    IsTrue (list_all test front) × IsTrue (first_is_no test rest)
run_cut test p is text front rest at e split long =
    let L : List ℕ → Type 0 = λ xs. length front ≡ min (position_or_len p xs) (length xs) in
    let place : min (unwrap_or at (length text)) (length text) ≡ min (position_or_len p text) (length text) =
    ap (λ o. min (unwrap_or o (length text)) (length text)) e
    ∙ unwrap_position p text (ltb (position_or_len p text) (length text)) refl in
    cut test p is front rest (subst L split (long ∙ place))

-- the first place where a test passes, as a search finds it
pub first_place : (p : ℕ → Bool) (xs : List ℕ) (r : Option ℕ) → IsFirstByte p xs r → r ≡ position p xs
first_place p xs None none =
    let is : position_or_len p xs ≡ length xs =
    position_or_len_is p xs (length xs) 0 (omega arith)
    (λ k low. false_from_ne_true (p (get_or xs k 0)) (none k (omega arith) low)) (λ past. absurd (omega arith)) in
    let past : nat_lt (position_or_len p xs) (length xs) ≡ false =
    le-ltb (position_or_len p xs) (length xs) (omega (arith, is)) in
    ap (λ b. cond b (Some (position_or_len p xs)) None) (sym past)
first_place p xs (Some k) found =
    let is : position_or_len p xs ≡ k =
    position_or_len_is p xs k 0 (omega (arith, found.0.high))
    (λ i low. false_from_ne_true (p (get_or xs i 0)) (found.0.before i (omega arith) low)) (λ within. found.1) in
    let within : nat_lt (position_or_len p xs) (length xs) ≡ true =
    lt-ltb (position_or_len p xs) (length xs) (omega (arith, is, found.0.high)) in
    ap (λ n. Some n) (sym is) ∙ ap (λ b. cond b (Some (position_or_len p xs)) None) (sym within)
