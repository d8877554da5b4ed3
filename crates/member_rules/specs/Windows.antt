-- How a history is cut into windows of operations. Each full window but the last one is sealed as an archive.
use Rattle.std.specs.Prelude.{ℕ, zero, suc, ◌+◌, ◌-◌, nat_le, ◌&&◌, List, length, take, if◌then◌else◌, Option, Some, None}
use Rattle.member_rules.specs.Head.{HeadValue, window_limit}
use Rattle.member_rules.specs.Latest.{latest}
use Rattle.member_rules.specs.declared.operation.Op.{Op}
use Rattle.member_rules.specs.declared.operation.Op.TheVariants.{Add, Change, Remove, Set}
use Rattle.member_rules.specs.declared.setting.Setting.TheVariants.{Title, Window}

-- the number, if a window may have so many operations
abbrev pub window_size : ℕ → Option ℕ
window_size size = if nat_le 1 size && nat_le size window_limit then Some size else None

-- the size of windows that the operation sets, if it sets one; a `Setting` has no other than 1 to 100
abbrev pub size_set : Op → Option ℕ
size_set (Add entry) = None
size_set (Change entry) = None
size_set (Remove removal) = None
size_set (Set (Title title) moment) = None
size_set (Set (Window size) moment) = window_size size

-- the size of a window that begins after these operations, in a feed whose first window has this size
unfoldable pub size_after : ℕ → List Op → ℕ
size_after first operations = latest size_set first operations

-- how many operations the first windows have, by the number of windows. A new size holds from the next window on
unfoldable pub window_ends : ℕ → List Op → ℕ → ℕ
window_ends first history zero = 0
window_ends first history (suc number) =
    let before = window_ends first history number in
    before + size_after first (take before history)

-- the last window of those up to this number that ends within so many operations
abbrev pub last_within : (ℕ → ℕ) → ℕ → ℕ → ℕ
last_within ends count zero = 0
last_within ends count (suc number) =
    if nat_le (ends (suc number)) count then suc number else last_within ends count number

-- how many operations the first windows have, by the number of windows; how many windows are full; and how many of
-- those are sealed
pub record Windows : Type 0 where
  pub ends : ℕ → ℕ
  pub full : ℕ
  pub sealed : ℕ

-- The windows of a feed whose first window has this size. A full window is sealed when the next operation comes, so the
-- subscription document of a history with operations has at least one.
unfoldable pub windows_from : ℕ → List Op → Windows
windows_from first history = record {
  ends = window_ends first history;
  full = last_within (window_ends first history) (length history) (length history);
  sealed = last_within (window_ends first history) (length history - 1) (length history - 1);
}

unfoldable pub windows_of : HeadValue → List Op → Windows
windows_of head history = windows_from head.window history
