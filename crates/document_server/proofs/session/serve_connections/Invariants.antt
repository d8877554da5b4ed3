use Rattle.std.proofs.Common.{◌≡◌, ℕ, ◌+◌, ◌≤◌, List, false, length}
use Rattle.document_server.proofs.ServingLemmas.{Going}
use Rattle.document_server.specs.Served.{answers_of}
use Rattle.document_server.specs.Serving.{AreLogs}
use Rattle.feed_disk.specs.Moments.{LeavesAlone}
use Rattle.feed_disk.specs.declared.area.Area.TheVariants.{Mirror}
use Rattle.feed_recovery.specs.Settled.{IsAtRest}
use Rattle.feed_recovery.specs.Store.{StandsFor, is_spent}
use Rattle.document_server.proofs.session.serve_connections.Given as goal

abbrev pub invariant-loop-count : goal.invariant-loop-count
invariant-loop-count g l =
    let before = g.D.Disk.state l.fn.disk in
    let disk = g.D.Disk.state l.disk in
    let door = g.L.Door.state l.door in
    let first = g.L.Door.state l.fn.door in
    record {
      unspent : is_spent l.store ≡ false;
      logs : AreLogs l.store;
      stands : g.D.Disk.observable → StandsFor disk l.store;
      count : length l.lines.items ≡ l._count;
      room : l.requests ≤ l.lines.spare + l._count;
      going : (start : ℕ) →
          Going (answers_of l.service) start before disk (g.C.Clock.coming l.fn.clock) (g.C.Clock.coming l.clock) first door
          g.D.Disk.observable g.C.Clock.observable g.L.Door.observable l.fn.store l.store l.lines.items;
      out : g.L.Door.observable → door.out ≡ first.out;
      listens : (at : List ℕ) → g.L.Door.listens l.fn.door at → g.L.Door.listens l.door at;
      only_at : (at : List ℕ) → g.L.Door.listens l.fn.door at → g.L.Door.only_at l.fn.door at →
          g.L.Door.only_at l.door at;
      faults : door.faults ≡ first.faults;
      disk_faults : disk.faults ≡ before.faults;
      mirror : LeavesAlone before disk Mirror;
      rests : g.D.Disk.observable → IsAtRest before → IsAtRest disk;
    }
