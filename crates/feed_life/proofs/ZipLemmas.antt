-- Two lists of which the elements go with one another, at one place.
use Rattle.std.proofs.Common.{◌≡◌, ℕ, zero, suc, ◌<◌, List, [], ◌∷◌, Some, get_or, length, slice_get, slice_set, refl}
use Rattle.std.proofs.Common.{sym, subst, arith}
use Rattle.std.specs.List.{AllZip}
use Rattle.std.proofs.lemmas.Option.{same_Some}

module _ {A B : Type 0} (R : A → B → Type 0) where
  -- the element of the second list at a place of the first
  pub record IsItem (x : A) (ys : List B) (i : ℕ) : Type 0 where
    pub item : B
    pub there : slice_get ys i ≡ Some item
    pub is : R x item

  pub zip-item : (xs : List A) (ys : List B) (i : ℕ) (d : A) → AllZip R xs ys → i < length xs
      → IsItem (get_or xs i d) ys i
  zip-item [] ys i d all within = absurd (omega arith)
  zip-item (x ∷ xs) [] i d all within = absurd all
  zip-item (x ∷ xs) (y ∷ ys) zero d all within = record { item = y; there = refl; is = all.0 }
  zip-item (x ∷ xs) (y ∷ ys) (suc i) d all within =
      let rest = zip-item xs ys i d all.1 (omega (arith, within)) in
      record { item = rest.item; there = rest.there; is = rest.is }

  -- the element of the first list at a place of the second
  pub record IsWith (y : B) : Type 0 where
    pub item : A
    pub is : R item y

  pub zip-left : (xs : List A) (ys : List B) (i : ℕ) (y : B) → AllZip R xs ys → slice_get ys i ≡ Some y → IsWith y
  zip-left [] [] i y all there = absurd cc
  zip-left [] (other ∷ ys) i y all there = absurd all
  zip-left (one ∷ xs) [] i y all there = absurd all
  zip-left (one ∷ xs) (other ∷ ys) zero y all there =
      record { item = one; is = subst (R one) (same_Some other y there) all.0 }
  zip-left (one ∷ xs) (other ∷ ys) (suc i) y all there = zip-left xs ys i y all.1 there

  -- both elements are written
  pub zip-set : (xs : List A) (ys : List B) (i : ℕ) (x : A) (y : B) → AllZip R xs ys → R x y
      → AllZip R (slice_set xs i x) (slice_set ys i y)
  zip-set [] [] i x y all is = tt
  zip-set [] (other ∷ ys) i x y all is = absurd all
  zip-set (other ∷ xs) [] i x y all is = absurd all
  zip-set (one ∷ xs) (other ∷ ys) zero x y all is = (is, all.1)
  zip-set (one ∷ xs) (other ∷ ys) (suc i) x y all is = (all.0, zip-set xs ys i x y all.1 is)

  -- the first one alone is written
  pub zip-set_left : (xs : List A) (ys : List B) (i : ℕ) (x : A) (y : B) → AllZip R xs ys → slice_get ys i ≡ Some y
      → R x y → AllZip R (slice_set xs i x) ys
  zip-set_left [] [] i x y all there is = tt
  zip-set_left [] (other ∷ ys) i x y all there is = absurd all
  zip-set_left (one ∷ xs) [] i x y all there is = absurd all
  zip-set_left (one ∷ xs) (other ∷ ys) zero x y all there is =
      (subst (R x) (sym (same_Some other y there)) is, all.1)
  zip-set_left (one ∷ xs) (other ∷ ys) (suc i) x y all there is =
      (all.0, zip-set_left xs ys i x y all.1 there is)
