-- The number that a whole text is.
use Rattle.std.proofs.Common.{◌≡◌, ℕ, zero, suc, ◌≤◌, List, [], ◌∷◌, decimal, ◌∙◌, arith}
use Rattle.std.proofs.lemmas.Fmt.{decimal_digit}

pub zero_is : decimal 0 ≡ 48 ∷ []
zero_is = decimal_digit 0 (omega arith)

-- another text than 0 is another number's
pub from_one : (text : List ℕ) (n : ℕ) → (text ≡ 48 ∷ [] → ⊥) → text ≡ decimal n → 1 ≤ n
from_one text zero other e = absurd (other (e ∙ zero_is))
from_one text (suc n) other e = omega arith
