-- The lines that a search for line ends finds.
use Rattle.std.proofs.Common.{◌≡◌, ℕ, zero, suc, ◌+◌, ◌<◌, ◌≤◌, true, not, eqb, List, [], ◌∷◌, ◌++◌, length, take, get_or, Some, None, refl, sym, ap, ◌∙◌, arith}
use Rattle.std.proofs.lemmas.Bool.{and_from, ne_eqb, not_from_false, eqb-true, eq-eqb}
use Rattle.std.proofs.lemmas.List.{take_more, take_all}
use Rattle.memchr.specs.Find.{IsFirstByte, is_byte}
use Rattle.atom_values.specs.Ascii.{lf}
use Rattle.atom_grammar.specs.Cutting.{IsLine}
use Rattle.atom_grammar.specs.Parts.{lacks}

-- the bytes before a byte that stands nowhere in them
lacks_before : (byte : ℕ) (xs : List ℕ) (k : ℕ) → k ≤ length xs
    → ((i : ℕ) → i < k → get_or xs i 0 ≡ byte → ⊥) → lacks byte (take k xs) ≡ true
lacks_before byte [] k within none = ap (λ z. lacks byte z) (take_all k [] (omega arith))
lacks_before byte (x ∷ xs) zero within none = refl
lacks_before byte (x ∷ xs) (suc k) within none =
    and_from (not (eqb x byte)) (lacks byte (take k xs))
    (not_from_false (eqb x byte) (ne_eqb x byte (none 0 (omega arith))))
    (lacks_before byte xs k (omega arith) (λ i low. none (suc i) (omega arith)))

pub no_line_end : (text : List ℕ) → IsFirstByte (is_byte lf) text None → lacks lf text ≡ true
no_line_end text none =
    ap (λ z. lacks lf z) (sym (take_all (length text) text (omega arith)))
    ∙ lacks_before lf text (length text) (omega arith)
    (λ i low is. none i (omega arith) low (eq-eqb (get_or text i 0) lf is))

pub is_line : (text : List ℕ) (at : ℕ) → IsFirstByte (is_byte lf) text (Some at) → IsLine (take (at + 1) text)
is_line text at first = record {
  front = take at text;
  split = take_more text at 0 first.0.high
      ∙ ap (λ x. take at text ++ x ∷ []) (eqb-true (get_or text at 0) lf first.1);
  none = lacks_before lf text at (omega (arith, first.0.high))
      (λ i low is. first.0.before i (omega arith) low (eq-eqb (get_or text i 0) lf is));
}
