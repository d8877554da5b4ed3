-- A counter after several counts: `counted` of atom_values, repeated.
use Rattle.std.specs.Prelude.{ℕ, ◌+◌, ◌-◌, ◌^◌, ◌≤◌, min, max}

-- a counter of 64 bits after n more, which stays at the greatest u64
abbrev pub raised : ℕ → ℕ → ℕ
raised before n = min (before + n) (2 ^ 64 - 1)

-- the counter rose by n at most, or not at all
abbrev pub RisesAtMost : ℕ → ℕ → ℕ → Type 0
RisesAtMost n before after = after ≤ max before (raised before n)
