-- Line ends, which are read as LF.
use Rattle.std.proofs.Common.{◌≡◌, ℕ, ◌+◌, ◌<◌, Bool, true, false, cond, not, ◌==◌}
use Rattle.std.proofs.Common.{ltb, List, [], ◌∷◌}
use Rattle.std.proofs.Common.{◌++◌, length, take, drop, Some, None, IsTrue, refl, sym, ap, ◌∙◌}
use Rattle.std.proofs.Common.{⊎_elim, arith}
use Rattle.std.proofs.Common.{ltb-true, eqb-true}
use Rattle.std.specs.Prelude.{position}
use Rattle.std.specs.List.{list_all, position_or_len}
use Rattle.std.proofs.lemmas.Bool.{cases_Bool, cond-true, cond-false, and_parts, both_ways, not-true}
use Rattle.std.proofs.lemmas.Bool.{false_from_ne_true}
use Rattle.std.proofs.lemmas.List.{drop-drop, take-append-drop, append-nil, length-take-le, length-append}
use Rattle.xml_tokens.specs.Characters.{begins, lines, lines_after}
use Rattle.xml_tokens.specs.Reading.{first_is_no}
use Rattle.xml_tokens.proofs.BeginLemmas.{begins_from}
use Rattle.xml_tokens.proofs.RunLemmas.{run_cut}

twice : (b : Bool) → b ≡ not (not b)
twice true = refl
twice false = refl

-- no CR
abbrev pub not_cr : ℕ → Bool
not_cr b = not (b == 13)

place_within : (p : ℕ → Bool) (xs : List ℕ) (b : Bool) → ltb (position_or_len p xs) (length xs) ≡ b → (at : ℕ) →
    Some at ≡ cond b (Some (position_or_len p xs)) None → at < length xs
place_within p xs true e at is =
    let same : at ≡ position_or_len p xs = let g : Some at ≡ Some (position_or_len p xs) = is in cc in
    omega (arith, ltb-true (position_or_len p xs) (length xs) e)
place_within p xs false e at is = absurd (let g : Some at ≡ None = is in cc)

first_byte : (k : ℕ) (rest : List ℕ) → 0 < length rest → IsTrue (first_is_no (λ b. not (b == k)) rest) →
    rest ≡ k ∷ drop 1 rest
first_byte k [] some is = absurd (omega arith)
first_byte k (b ∷ rest) some is =
    ⊎_elim (λ t. ap (λ x. x ∷ rest) (eqb-true b k t))
    (λ f. absurd (both_ways (not (b == k)) (not-true (not (b == k)) is) (ap not f)))
    (cases_Bool (b == k))

-- the first such byte
pub byte_cut : (k : ℕ) (text : List ℕ) (at : ℕ) → Some at ≡ position (λ b. b == k) text →
    (at < length text) × IsTrue (list_all (λ b. not (b == k)) (take at text))
    × (text ≡ take at text ++ k ∷ drop (at + 1) text)
byte_cut k text at is =
    let within = place_within (λ b. b == k) text (ltb (position_or_len (λ b. b == k) text) (length text)) refl at is in
    let long : length (take at text) ≡ at = length-take-le at text (omega arith) in
    let r =
    run_cut (λ b. not (b == k)) (λ b. b == k) (λ b. twice (b == k)) text (take at text) (drop at text) (Some at) is
    (sym (take-append-drop at text)) (omega arith) in
    let total = ap length (take-append-drop at text) in
    let parts = length-append (take at text) (drop at text) in
    let here = first_byte k (drop at text) (omega arith) r.1 in (
      within,
      r.0,
      sym (take-append-drop at text)
          ∙ ap (λ xs. take at text ++ xs) (here ∙ ap (λ xs. k ∷ xs) (drop-drop 1 at text)),
    )

pub byte_none : (k : ℕ) (text : List ℕ) → None ≡ position (λ b. b == k) text →
    IsTrue (list_all (λ b. not (b == k)) text)
byte_none k text is =
    (run_cut (λ b. not (b == k)) (λ b. b == k) (λ b. twice (b == k)) text text [] None is (sym (append-nil text))
    (omega arith)).0

-- the first CR
pub cr_cut : (text : List ℕ) (at : ℕ) → Some at ≡ position (λ b. b == 13) text →
    (at < length text) × IsTrue (list_all not_cr (take at text)) × (text ≡ take at text ++ 13 ∷ drop (at + 1) text)
cr_cut = byte_cut 13

pub no_cr : (text : List ℕ) → None ≡ position (λ b. b == 13) text → IsTrue (list_all not_cr text)
no_cr = byte_none 13

-- a text without CR is read as it is
pub lines_clean : (front rest : List ℕ) → IsTrue (list_all not_cr front) → lines (front ++ rest) ≡ front ++ lines rest
lines_clean [] rest clean = refl
lines_clean (b ∷ front) rest clean =
    let p = and_parts (not_cr b) (list_all not_cr front) clean in
    cond-false (b == 13) _ _ (not-true (b == 13) p.0) ∙ ap (λ xs. b ∷ xs) (lines_clean front rest p.1)

pub lines_alone : (text : List ℕ) → IsTrue (list_all not_cr text) → lines text ≡ text
lines_alone text clean =
    ap lines (sym (append-nil text)) ∙ lines_clean text [] clean ∙ append-nil text

-- after CR, where no LF follows
pub after_cr : (tail : List ℕ) → begins (10 ∷ []) tail ≡ false → lines_after true tail ≡ lines tail
after_cr [] none = refl
after_cr (b ∷ tail) none =
    ⊎_elim
    (λ cr. cond-true (b == 13) _ _ cr ∙ sym (cond-true (b == 13) _ _ cr))
    (λ other.
    let no_lf : (b == 10) ≡ false = false_from_ne_true (b == 10)
    (λ lf. both_ways (begins (10 ∷ []) (b ∷ tail)) none
    (begins_from (10 ∷ []) (b ∷ tail) tail (ap (λ x. x ∷ tail) (eqb-true b 10 lf)))) in
    cond-false (b == 13) _ _ other ∙ cond-false (b == 10) _ _ no_lf ∙ sym (cond-false (b == 13) _ _ other))
    (cases_Bool (b == 13))

pub line_step : (text tail : List ℕ) (at : ℕ) → Some at ≡ position (λ b. b == 13) text →
    lines_after true (drop (at + 1) text) ≡ lines tail → lines text ≡ take at text ++ 10 ∷ lines tail
line_step text tail at is behind =
    let c = cr_cut text at is in
    ap lines c.2 ∙ lines_clean (take at text) (13 ∷ drop (at + 1) text) c.1
    ∙ ap (λ xs. take at text ++ 10 ∷ xs) behind
