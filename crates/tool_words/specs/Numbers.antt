-- Numbers among the words.
use Rattle.std.specs.Prelude.{◌≡◌, ℕ, ◌+◌, ◌*◌, ◌-◌, ◌≤◌, List, Bool, not, ◌&&◌, ◌==◌, fold, length, IsTrue}
use Rattle.std.specs.List.{list_all}
use Rattle.std.specs.Char.{is_ascii_digit}

-- one or more decimal digits; leading zeros are allowed
abbrev pub is_number : List ℕ → Bool
is_number word = not (length word == 0) && list_all is_ascii_digit word

-- the value of the digits
abbrev pub number_value : List ℕ → ℕ
number_value word = fold (λ n digit. 10 * n + (digit - 48)) 0 word

-- the word is this number, which is in the range
pub record IsNumber (least most : ℕ) (word : List ℕ) (number : ℕ) : Type 0 where
  pub digits : IsTrue (is_number word)
  pub value : number_value word ≡ number
  pub no_less : least ≤ number
  pub no_more : number ≤ most
