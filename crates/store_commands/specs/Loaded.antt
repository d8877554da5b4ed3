-- A store that was loaded, after lines were applied to it.
use Rattle.std.specs.Prelude.{◌≡◌, ℕ, ◌+◌, ◌-◌, ◌*◌, ◌<◌, ◌≤◌, List, length, Result}
use Rattle.atom_values.specs.Counts.{counter_limit}
use Rattle.doc_source.specs.Outside.{SourceState}
use Rattle.feed_disk.specs.Disk.{DiskState}
use Rattle.feed_recovery.specs.Settled.{AlwaysLeavesBoth, OpensPast, Settled}
use Rattle.feed_recovery.specs.Store.{StoreValue}
use Rattle.feed_recovery.specs.Stored.{Stored, stored_of}
use Rattle.command_ends.specs.declared.fault.Fault.{Fault}
use Rattle.store_commands.specs.Apply.{asked, ◌>>=◌}
use Rattle.store_commands.specs.Crash.{AreMadeByLines}
use Rattle.store_commands.specs.Line.{line_ask}
use Rattle.store_commands.specs.Stored.{stored_operation}
use Rattle.member_rules.specs.declared.operation.Op.{Op}

-- a loaded store after the line of this number, with the clock at `now`
abbrev pub line_made : StoreValue → ℕ → ℕ → List ℕ → Result Stored Fault
line_made store number now line =
    asked store.head store.history number now (line_ask line) >>= stored_operation (stored_of store)

-- Lines were applied to a store, each with four device calls or more. Whenever the machine crashes, the history is the
-- opened one with some of the operations that the lines add, and with all of them at the end if no device call failed.
pub record LeavesLines (before after : DiskState) (moments : ℕ → ℕ) (input rest : SourceState) (observable : Type 0)
    (opened : Stored) (failed stopped : Type 0) : Type 0 where
  pub made : Stored
  pub history : List Op
  pub lines : AreMadeByLines moments input rest observable failed stopped opened made history
  pub calls : after.clock < counter_limit
      → before.clock + 4 * (length made.history - length opened.history) ≤ after.clock
  pub each : AlwaysLeavesBoth before after (OpensPast opened.head history (length opened.history))
  pub whole : ¬ failed → (history ≡ made.history) × Settled after opened.head history (length history)
