-- The calls of an object in memory, of which listed ones fail.
use Rattle.std.specs.Prelude.{ℕ, List, Bool, ◌==◌, if◌then◌else◌}
use Rattle.std.specs.List.{list_any}
use Rattle.atom_values.specs.Counts.{counted}

-- the numbers of the calls that fail, counted from 1, and how many calls were made and failed so far
pub record ListedCallsValue : Type 0 where
  pub failing : List ℕ
  pub made : ℕ
  pub faults : ℕ

-- the next call's number is in the list
abbrev pub next_call_fails : ListedCallsValue → Bool
next_call_fails calls = list_any (λ number. number == counted calls.made) calls.failing

-- one more call was made, and counts as a failure if its number is in the list
abbrev pub after_call : ListedCallsValue → ListedCallsValue
after_call calls = record calls {
  made = counted calls.made;
  faults = if next_call_fails calls then counted calls.faults else calls.faults;
}
