-- The first suspect byte of a text, after bytes that aren't suspect.
use Rattle.std.proofs.Common.{◌≡◌, ℕ, ◌+◌, Bool, true, false, not, cond, ◌||◌, List, [], ◌∷◌, ◌++◌, length}
use Rattle.std.proofs.Common.{Some, None, option_map, refl, sym, ap, ◌∙◌, ⊎_elim, append_assoc, arith, ltb}
use Rattle.std.specs.Prelude.{position}
use Rattle.std.specs.List.{list_any, position_or_len}
use Rattle.std.proofs.lemmas.Bool.{both_ways, cases_lt, cond-true, cond-false, lt-ltb, le-ltb}
use Rattle.std.proofs.lemmas.List.{length-append}
use Rattle.std.proofs.lemmas.List.Folds.{list_any-append}
use Rattle.xml_tokens.specs.Characters.{IsCleanBefore, is_suspect}

none_of_two : (a b : Bool) → (a || b) ≡ false → (a ≡ false) × (b ≡ false)
none_of_two true b e = absurd (both_ways true e refl)
none_of_two false b e = (refl, e)

-- the number of the elements before the first one that passes
length_behind : (p : ℕ → Bool) (front rest : List ℕ) → list_any p front ≡ false →
    position_or_len p (front ++ rest) ≡ length front + position_or_len p rest
length_behind p [] rest none = omega arith
length_behind p (b ∷ front) rest none =
    let parts = none_of_two (p b) (list_any p front) none in
    let step : position_or_len p (b ∷ front ++ rest) ≡ 1 + position_or_len p (front ++ rest) =
    cond-true (not (p b)) (1 + position_or_len p (front ++ rest)) 0 (ap not parts.0) in
    let later = length_behind p front rest parts.1 in
    omega (arith, step, later)

shifted : (f a n m : ℕ) → m ≡ f + n →
    cond (ltb (f + a) m) (Some (f + a)) None ≡ option_map (λ k. f + k) (cond (ltb a n) (Some a) None)
shifted f a n m e =
    ⊎_elim
    (λ lt. cond-true (ltb (f + a) m) (Some (f + a)) None (lt-ltb (f + a) m (omega (arith, e, lt)))
    ∙ sym (ap (option_map (λ k. f + k)) (cond-true (ltb a n) (Some a) None (lt-ltb a n lt))))
    (λ le. cond-false (ltb (f + a) m) (Some (f + a)) None (le-ltb (f + a) m (omega (arith, e, le)))
    ∙ sym (ap (option_map (λ k. f + k)) (cond-false (ltb a n) (Some a) None (le-ltb a n le))))
    (cases_lt a n)

-- the first element that passes, after some that don't
position_behind : (p : ℕ → Bool) (front rest : List ℕ) → list_any p front ≡ false →
    position p (front ++ rest) ≡ option_map (λ k. length front + k) (position p rest)
position_behind p front rest none =
    ap (λ n. cond (ltb n (length (front ++ rest))) (Some n) None) (length_behind p front rest none)
    ∙ shifted (length front) (position_or_len p rest) (length rest) (length (front ++ rest)) (length-append front rest)

-- the first suspect byte is in the suffix
pub suspect_found : (text rest : List ℕ) (at n : ℕ) → IsCleanBefore text rest → Some at ≡ position is_suspect rest →
    n + length rest ≡ length text → Some (n + at) ≡ position is_suspect text
suspect_found text rest at n (front, split, clean) is sizes =
    let same : n ≡ length front = omega (arith, sizes, ap length split, length-append front rest) in
    ap (λ k. Some (k + at)) same ∙ ap (option_map (λ k. length front + k)) is
    ∙ sym (position_behind is_suspect front rest clean) ∙ ap (position is_suspect) (sym split)

-- no byte of the suffix is suspect
pub suspect_nowhere : (text rest : List ℕ) → IsCleanBefore text rest → None ≡ position is_suspect rest →
    None ≡ position is_suspect text
suspect_nowhere text rest (front, split, clean) is =
    ap (option_map (λ k. length front + k)) is
    ∙ sym (position_behind is_suspect front rest clean) ∙ ap (position is_suspect) (sym split)

-- nothing is passed
pub clean_start : (text : List ℕ) → IsCleanBefore text text
clean_start text = ([], refl, refl)

-- one more block without a suspect byte
pub clean_more : (text rest block tail : List ℕ) → IsCleanBefore text rest → rest ≡ block ++ tail →
    list_any is_suspect block ≡ false → IsCleanBefore text tail
clean_more text rest block tail (front, split, clean) next none = (
  front ++ block,
  split ∙ ap (λ xs. front ++ xs) next ∙ sym (append_assoc front block tail),
  list_any-append is_suspect front block ∙ ap (λ b. b || list_any is_suspect block) clean ∙ none,
)
