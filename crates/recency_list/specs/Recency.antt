-- A list of slots, the newest first.
use Rattle.std.specs.Prelude.{ℕ, ◌+◌, ◌<◌, ◌≤◌, List, [], ◌∷◌, All, ◌==◌, not, filter, Option, Some, None, if◌then◌else◌}
use Rattle.std.specs.List.{IsDistinct}

-- the list, and how many slots exist
pub record RecencyValue : Type 0 where
  pub list : List ℕ
  pub slots : ℕ

-- no slot is in the list twice, and each exists
pub record HasNoDoubles (order : RecencyValue) : Type 0 where
  pub distinct : IsDistinct (λ slot other. slot == other) order.list
  pub exist : All (λ slot. slot < order.slots) order.list

-- the list with the slot taken out
abbrev pub without : ℕ → List ℕ → List ℕ
without slot list = filter (λ other. not (slot == other)) list

-- the list with the slot moved to the front, or added there
abbrev pub touched : ℕ → List ℕ → List ℕ
touched slot list = slot ∷ without slot list

-- the first slot of a list
abbrev pub first_of : List ℕ → Option ℕ
first_of [] = None
first_of (slot ∷ _) = Some slot

-- the slot right after this one
abbrev pub older_than : ℕ → List ℕ → Option ℕ
older_than slot [] = None
older_than slot (other ∷ rest) = if slot == other then first_of rest else older_than slot rest

-- the counter of steps went up, by this number at most
pub record TakesSteps (before after most : ℕ) : Type 0 where
  pub later : before ≤ after
  pub within : after ≤ before + most
