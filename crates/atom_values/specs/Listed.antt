-- Lists with a greatest length in contracts.
use Rattle.std.specs.Prelude.{ℕ, ◌≤◌, List, length, All}

-- the items, and the number of items that can be added without more memory
pub record Listed (T : Type 0) : Type 0 where
  pub items : List T
  pub spare : ℕ

-- at most `most` items, each of which is as `Is` says
abbrev pub IsListOf : {T : Type 0} → ℕ → (T → Type 0) → List T → Type 0
IsListOf most Is items = (length items ≤ most) × All Is items
