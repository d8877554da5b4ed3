use Rattle.std.proofs.Common.{◌≡◌, ℕ, ◌+◌, ◌-◌, ◌*◌, ◌<◌, ◌≤◌, List, ◌++◌, false, length}
use Rattle.atom_values.specs.Counts.{counter_limit}
use Rattle.feed_disk.specs.Moments.{LeavesAlone}
use Rattle.feed_disk.specs.declared.area.Area.TheVariants.{Mirror}
use Rattle.feed_recovery.specs.Settled.{AlwaysLeavesBoth, IsAtRest, OpensPast, Settled}
use Rattle.feed_recovery.specs.Store.{StandsFor, is_spent}
use Rattle.feed_recovery.specs.Stored.{stored_of}
use Rattle.store_commands.specs.Lines.{KnowsEnd, allowance}
use Rattle.store_commands.specs.Stored.{stored_step}
use Rattle.store_commands.proofs.ProgressLemmas.{Progress}
use Rattle.store_commands.proofs.ReadLemmas.{HasReadAllowed}
use Rattle.store_commands.proofs.store.apply_lines.Given as goal
use Rattle.member_rules.specs.declared.operation.Op.{Op}

abbrev pub invariant-loop-lines : goal.invariant-loop-lines
invariant-loop-lines g l =
    let input = g.I.Source.state l.fn.input in
    let before = g.D.Disk.state l.fn.disk in
    let disk = g.D.Disk.state l.disk in
    let old = l.fn.store in
    let coming = g.C.Clock.coming l.fn.clock in
    record {
      unspent : is_spent l.store ≡ false;
      stands : g.D.Disk.observable → StandsFor disk l.store;
      head : l.store.head ≡ old.head;
      opened : l.opened ≡ length old.history;
      grown : length old.history ≤ length l.store.history;
      progress : g.D.Disk.observable → g.C.Clock.observable → g.I.Source.observable →
          Progress (stored_step coming) (stored_of old) input.left l.lines (g.I.Source.state l.input)
          (length l.store.history - length old.history) (stored_of l.store);
      moments : g.C.Clock.observable → (k : ℕ) →
          g.C.Clock.coming l.clock k ≡ coming (k + (length l.store.history - length old.history));
      knows : g.I.Source.observable → KnowsEnd l.lines (g.I.Source.state l.input);
      faults : (g.I.Source.state l.input).faults ≡ input.faults;
      read : HasReadAllowed l.lines input.bytes_read (g.I.Source.state l.input).bytes_read;
      disk_faults : disk.faults ≡ before.faults;
      calls : disk.clock < counter_limit →
          before.clock + 4 * (length l.store.history - length old.history) ≤ disk.clock;
      mirror : LeavesAlone before disk Mirror;
      rests : g.D.Disk.observable → IsAtRest before → IsAtRest disk;
      added : g.D.Disk.observable → IsAtRest before →
          (more : List Op) × (l.store.history ≡ old.history ++ more);
      leaves : g.D.Disk.observable → IsAtRest before →
          Settled before old.head old.history (length old.history) →
          AlwaysLeavesBoth before disk (OpensPast old.head l.store.history (length old.history));
      settled : g.D.Disk.observable → IsAtRest before →
          Settled before old.head old.history (length old.history) →
          Settled disk old.head l.store.history (length l.store.history);
    }

abbrev pub decreases-loop-lines : goal.decreases-loop-lines
decreases-loop-lines g l = allowance l.lines
