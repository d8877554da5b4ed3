-- The timestamp whose printed form a text is.
use Rattle.std.proofs.Common.{◌≡◌, ℕ, List, ◌++◌, length, take, drop, Some, None, ℤ, refl, sym, subst, ap, ◌∙◌}
use Rattle.std.proofs.lemmas.List.{take_at}
use Rattle.std.specs.Prelude.{◌↔◌}
use Rattle.atom_values.specs.DateText.{States}
use Rattle.atom_values.specs.Stamp.{IsStamp, printed}
use Rattle.atom_values.proofs.DateTextReadLemmas.{value_of-states}
use Rattle.atom_values.proofs.PrintedLemmas.{printed-states}

one_moment : (text : List ℕ) (a b : ℤ) → States text a → States text b → a ≡ b
one_moment text a b is_a is_b =
    let e : Some a ≡ Some b = sym ((value_of-states text a).1 is_a) ∙ (value_of-states text b).1 is_b in
    cc

stated : (text : List ℕ) (z : ℤ) → IsStamp z → text ≡ printed z → States text z
stated text z law e = subst (λ (t : List ℕ). States t z) (sym e) (printed-states z law)

-- two timestamps with one printed form are equal
pub printed_injective : (a b : ℤ) → IsStamp a → IsStamp b → printed a ≡ printed b → a ≡ b
printed_injective a b is_a is_b e =
    one_moment (printed b) a b (stated (printed b) a is_a (sym e)) (printed-states b is_b)

-- a text that states a timestamp is read
pub not_none : (text : List ℕ) (z : ℤ) → ((m : ℤ) → (None ≡ Some m) ↔ States text m) → IsStamp z → text ≡ printed z → ⊥
not_none text z states law e = let h : None ≡ Some z = (states z).1 (stated text z law e) in cc

pub is_stamp : (text : List ℕ) (read : ℤ) → ((m : ℤ) → (Some read ≡ Some m) ↔ States text m) → IsStamp read
is_stamp text read states = ((states read).0 refl).4

pub read_same : (text : List ℕ) (read z : ℤ) → ((m : ℤ) → (Some read ≡ Some m) ↔ States text m) → IsStamp z
    → text ≡ printed z → read ≡ z
read_same text read z states law e = one_moment text read z ((states read).0 refl) (stated text z law e)

pub shown : (z : ℤ) (n : ℕ) (old new : List ℕ) → n ≡ length (printed z) → new ≡ printed z ++ drop n old
    → take n new ≡ printed z
shown z n old new long is = ap (take n) is ∙ take_at (printed z) (drop n old) n (sym long)
