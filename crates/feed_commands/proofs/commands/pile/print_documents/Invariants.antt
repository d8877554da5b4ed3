use Rattle.std.proofs.Common.{◌≡◌, ◌≤◌, false}
use Rattle.feed_disk.specs.Moments.{LeavesAlone}
use Rattle.feed_disk.specs.declared.area.Area.{Area}
use Rattle.feed_recovery.specs.Documents.{sealed_count}
use Rattle.feed_recovery.specs.Store.{StandsFor, is_spent}
use Rattle.feed_recovery.specs.Stored.{stored_of}
use Rattle.feed_commands.specs.Pile.{TakesFront, offers_of}
use Rattle.feed_commands.proofs.PileLemmas.{archives_of}
use Rattle.feed_commands.proofs.commands.pile.print_documents.Given as goal

abbrev pub invariant-loop-number : goal.invariant-loop-number
invariant-loop-number g l =
    let stored = stored_of l.fn.store in
    let before = g.D.Disk.state l.fn.disk in
    let disk = g.D.Disk.state l.disk in
    let output = g.O.Sink.state l.output in
    record {
      within : l.number ≤ sealed_count l.fn.store;
      head : l.store.head ≡ l.fn.store.head;
      history : l.store.history ≡ l.fn.store.history;
      unspent : is_spent l.store ≡ false;
      stands : g.D.Disk.observable → StandsFor disk l.store;
      front : g.O.Sink.observable → TakesFront g.D.Disk.observable (offers_of stored) (archives_of stored l.number)
          (g.O.Sink.state l.fn.output) output;
      areas : (a : Area) → LeavesAlone before disk a;
      disk_faults : disk.faults ≡ before.faults;
      output_faults : output.faults ≡ (g.O.Sink.state l.fn.output).faults;
    }

abbrev pub decreases-loop-number : goal.decreases-loop-number
decreases-loop-number g l = l.number
