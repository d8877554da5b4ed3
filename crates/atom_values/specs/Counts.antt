-- Counters that stay at the greatest u64, and the failures that a counter explains.
use Rattle.std.specs.Prelude.{ℕ, ◌+◌, ◌-◌, ◌^◌, ◌≤◌, min, Result, OnErr, OnOk, ◌≡◌}

-- the greatest u64
abbrev pub counter_limit : ℕ
counter_limit = 2 ^ 64 - 1

-- a counter after one more count
abbrev pub counted : ℕ → ℕ
counted before = min (before + 1) counter_limit

-- the counter rose; at the greatest u64 it counts as risen
abbrev pub HasRisen : ℕ → ℕ → Type 0
HasRisen before after = counted before ≤ after

-- the count of faults never falls; a failure comes only where it rose, and a call that worked leaves it as it was
pub record HasCause {T E : Type 0} (before after : ℕ) (result : Result T E) : Type 0 where
  pub later : before ≤ after
  pub failed : OnErr result (HasRisen before after)
  pub worked : OnOk result (after ≡ before)

-- the count of faults rose if this fault was returned, and is as it was if not
pub record CountsFault (before after : ℕ) (is_returned : Type 0) : Type 0 where
  pub later : before ≤ after
  pub failed : is_returned → HasRisen before after
  pub unfailed : ¬ is_returned → after ≡ before
