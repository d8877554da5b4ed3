-- A loop over a list: what holds of the elements before the next one, and after it.
use Rattle.std.proofs.Common.{◌≡◌, ℕ, List, [], ◌∷◌, ◌++◌, length, take, get_or, ◌+◌, ◌<◌, All, subst, ap, sym, ◌∙◌}
use Rattle.std.proofs.lemmas.List.{take_more}
use Rattle.std.proofs.lemmas.List.Elements.{All-push}

-- the elements up to the next one, which is `x`
pub take-one_more : {X : Type 0} (xs : List X) (i : ℕ) (x : X) → i < length xs → x ≡ get_or xs i x
    → take (i + 1) xs ≡ take i xs ++ x ∷ []
take-one_more xs i x below is = take_more xs i x below ∙ ap (λ y. take i xs ++ y ∷ []) (sym is)

-- a rule that each of them keeps
pub All-one_more : {X : Type 0} (P : X → Type 0) (xs : List X) (i : ℕ) (x : X) → i < length xs → x ≡ get_or xs i x
    → All P (take i xs) → P x → All P (take (i + 1) xs)
All-one_more P xs i x below is before here =
    subst (All P) (sym (take-one_more xs i x below is)) (All-push P (take i xs) x before here)
