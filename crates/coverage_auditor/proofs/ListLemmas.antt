-- Lists that grow at the end.
use Rattle.std.proofs.Common.{◌≡◌, ℕ, zero, suc, ◌+◌, ◌<◌, List, [], ◌∷◌, ◌++◌, length, take, drop, get_or, Option, Some, None}
use Rattle.std.proofs.Common.{refl, ap, sym, ◌∙◌, arith}
use Rattle.std.specs.Prelude.{slice_get}
use Rattle.std.specs.List.{AllZip}
use Rattle.std.proofs.lemmas.List.{drop_more, take-append-drop}

pub slice_get-last : {X : Type 0} (xs : List X) (x : X) → slice_get (xs ++ x ∷ []) (length xs) ≡ Some x
slice_get-last [] x = refl
slice_get-last (first ∷ xs) x = slice_get-last xs x

pub slice_get-before : {X : Type 0} (xs : List X) (last : X) (at : ℕ) (x : X) → slice_get xs at ≡ Some x
    → slice_get (xs ++ last ∷ []) at ≡ Some x
slice_get-before [] last at x e = absurd (none e)
  where
    none : None ≡ Some x → ⊥
    none e = cc
slice_get-before (first ∷ xs) last zero x e = e
slice_get-before (first ∷ xs) last (suc at) x e = slice_get-before xs last at x e

pub slice_get-some : {X : Type 0} (xs : List X) (at : ℕ) → at < length xs → (x : X) × (slice_get xs at ≡ Some x)
slice_get-some [] at l = absurd (omega arith)
slice_get-some (x ∷ xs) zero l = (x, refl)
slice_get-some (x ∷ xs) (suc at) l = slice_get-some xs at (omega arith)

pub AllZip-more : {A B : Type 0} (R : A → B → Type 0) (xs : List A) (ys : List B) (x : A) (y : B)
    → AllZip R xs ys → R x y → AllZip R (xs ++ x ∷ []) (ys ++ y ∷ [])
AllZip-more R [] [] x y all r = (r, tt)
AllZip-more R [] (b ∷ ys) x y all r = absurd all
AllZip-more R (a ∷ xs) [] x y all r = absurd all
AllZip-more R (a ∷ xs) (b ∷ ys) x y all r = (all.0, AllZip-more R xs ys x y all.1 r)

pub AllZip-length : {A B : Type 0} (R : A → B → Type 0) (xs : List A) (ys : List B) → AllZip R xs ys
    → length xs ≡ length ys
AllZip-length R [] [] all = refl
AllZip-length R [] (b ∷ ys) all = absurd all
AllZip-length R (a ∷ xs) [] all = absurd all
AllZip-length R (a ∷ xs) (b ∷ ys) all = ap suc (AllZip-length R xs ys all.1)

-- a list, parted at an element
pub parted-at : {X : Type 0} (xs : List X) (at : ℕ) (x : X) → at < length xs
    → xs ≡ take at xs ++ get_or xs at x ∷ drop (at + 1) xs
parted-at xs at x l = sym (take-append-drop at xs) ∙ ap (λ rest. take at xs ++ rest) (drop_more xs at x l)
