-- Bytes that are added one after another.
use Rattle.std.proofs.Common.{◌≡◌, ℕ, List, ◌++◌, ap, sym, ◌∙◌, append_assoc, Ok, Err}
use Rattle.std.specs.Prelude.{Result, OnOk}

-- bytes added one after another are added together
pub joins : (o0 o1 o2 s t : List ℕ) → o1 ≡ o0 ++ s → o2 ≡ o1 ++ t → o2 ≡ o0 ++ (s ++ t)
joins o0 o1 o2 s t one other = other ∙ ap (λ (x : List ℕ). x ++ t) one ∙ append_assoc o0 s t

-- the same where the second step may fail
pub joins_on : {T E : Type 0} (result : Result T E) (o0 o1 o2 s t : List ℕ) → o1 ≡ o0 ++ s →
    OnOk result (o2 ≡ o1 ++ t) →
    OnOk result (o2 ≡ o0 ++ (s ++ t))
joins_on (Ok _) o0 o1 o2 s t one other = joins o0 o1 o2 s t one other
joins_on (Err _) o0 o1 o2 s t one other = other

-- three steps
pub joins_three : (o0 o1 o2 o3 a b c : List ℕ) → o1 ≡ o0 ++ a → o2 ≡ o1 ++ b → o3 ≡ o2 ++ c → o3 ≡ o0 ++ (a ++ b ++ c)
joins_three o0 o1 o2 o3 a b c one two three = joins o0 o2 o3 (a ++ b) c (joins o0 o1 o2 a b one two) three

-- five steps
pub joins_five : (o0 o1 o2 o3 o4 o5 a b c d e : List ℕ) → o1 ≡ o0 ++ a → o2 ≡ o1 ++ b → o3 ≡ o2 ++ c → o4 ≡ o3 ++ d →
    o5 ≡ o4 ++ e → o5 ≡ o0 ++ (a ++ b ++ c ++ d ++ e)
joins_five o0 o1 o2 o3 o4 o5 a b c d e one two three four five =
    joins o0 o4 o5 (a ++ b ++ c ++ d) e
    (joins o0 o3 o4 (a ++ b ++ c) d (joins_three o0 o1 o2 o3 a b c one two three) four) five

-- a number and its end are added together
pub joins_number : {T E : Type 0} (result : Result T E) (o0 o1 o2 s x y : List ℕ) → o1 ≡ o0 ++ s →
    OnOk result (o2 ≡ o1 ++ (x ++ y)) → OnOk result (o2 ≡ o0 ++ (s ++ x ++ y))
joins_number (Ok _) o0 o1 o2 s x y one other =
    joins o0 o1 o2 s (x ++ y) one other ∙ ap (λ (z : List ℕ). o0 ++ z) (sym (append_assoc s x y))
joins_number (Err _) o0 o1 o2 s x y one other = other
