-- The clock of a disk in memory has counted each change, also after one more.
use Rattle.std.proofs.Common.{◌≡◌, ℕ, ◌≤◌, sym, subst, Ok, Err, Result}
use Rattle.std.specs.Prelude.{OnOk, OnErr}
use Rattle.atom_values.specs.ListedCalls.{ListedCallsValue}
use Rattle.feed_disk.specs.AreaRecord.{call_of, UpTo}
use Rattle.feed_disk.specs.Memory.{record_of, changed, KeepsCounts}
use Rattle.feed_disk.specs.declared.area.Area.{Area}
use Rattle.feed_disk.specs.declared.area.Area.TheVariants.{Journal, Sealed, Mirror}
use Rattle.feed_disk.specs.declared.areas.Areas.{Areas}
use Rattle.feed_disk.specs.declared.change.Change.{Change}

counts_changed : (areas : Areas) (clock : ℕ) (area : Area) (change : Change) → call_of change ≤ clock
    → ((a : Area) → UpTo clock (record_of areas a).changes) → (a : Area)
    → UpTo clock (record_of (changed areas area change) a).changes
counts_changed areas clock Journal change by counts Journal = by
counts_changed areas clock Journal change by counts Sealed = counts Sealed
counts_changed areas clock Journal change by counts Mirror = counts Mirror
counts_changed areas clock Sealed change by counts Journal = counts Journal
counts_changed areas clock Sealed change by counts Sealed = by
counts_changed areas clock Sealed change by counts Mirror = counts Mirror
counts_changed areas clock Mirror change by counts Journal = counts Journal
counts_changed areas clock Mirror change by counts Sealed = counts Sealed
counts_changed areas clock Mirror change by counts Mirror = by

pub clock_changed : (areas : Areas) (calls : ListedCallsValue) (area : Area) (change : Change)
    → call_of change ≤ calls.made → KeepsCounts areas calls → KeepsCounts (changed areas area change) calls
clock_changed areas calls area change by keeps = record {
  counts = counts_changed areas calls.made area change by keeps.counts;
  made = keeps.made;
  faults = keeps.faults;
}

-- the same, whether the change was recorded or not
pub clock_either : {T E : Type 0} (result : Result T E) (old new : Areas) (calls : ListedCallsValue) (area : Area)
    (change : Change) → call_of change ≤ calls.made → KeepsCounts old calls
    → OnOk result (new ≡ changed old area change) → OnErr result (new ≡ old) → KeepsCounts new calls
clock_either (Ok done) old new calls area change by keeps recorded same =
    subst (λ (areas : Areas). KeepsCounts areas calls) (sym recorded) (clock_changed old calls area change by keeps)
clock_either (Err fault) old new calls area change by keeps recorded same =
    subst (λ (areas : Areas). KeepsCounts areas calls) (sym same) keeps
