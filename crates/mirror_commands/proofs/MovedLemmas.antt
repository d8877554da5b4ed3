-- A statement on a mirror's capacity and base holds of those with which it was loaded.
use Rattle.std.proofs.Common.{◌≡◌, ℕ, List, subst}

pub moved : (P : ℕ → List ℕ → Type 0) (capacity given : ℕ) (base other : List ℕ) → capacity ≡ given → base ≡ other
    → P capacity base → P given other
moved P capacity given base other same is holds =
    subst (λ (b : List ℕ). P given b) is (subst (λ (n : ℕ). P n base) same holds)
