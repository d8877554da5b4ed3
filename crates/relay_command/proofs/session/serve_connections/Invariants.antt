use Rattle.std.proofs.Common.{◌≡◌, ℕ, ◌+◌, ◌≤◌, List, false, length}
use Rattle.feed_disk.specs.Moments.{LeavesAlone}
use Rattle.feed_disk.specs.declared.area.Area.{Area}
use Rattle.mirror_walk.specs.Mirror.{StandsFor, is_spent}
use Rattle.relay_command.proofs.SessionLemmas.{Going}
use Rattle.relay_command.proofs.session.serve_connections.Given as goal

abbrev pub invariant-loop-count : goal.invariant-loop-count
invariant-loop-count g l =
    let before = g.D.Disk.state l.fn.disk in
    let disk = g.D.Disk.state l.disk in
    let door = g.L.Door.state l.door in
    let first = g.L.Door.state l.fn.door in
    record {
      unspent : is_spent l.mirror ≡ false;
      base : l.mirror.base ≡ l.fn.mirror.base;
      kept : l.mirror.kept ≡ l.fn.mirror.kept;
      stands : g.D.Disk.observable → StandsFor disk l.mirror;
      count : length l.lines.items ≡ l._count;
      room : l.requests ≤ l.lines.spare + l._count;
      going : Going g.D.Disk.observable g.L.Door.observable l.base l.fn.mirror.kept before disk first door l.lines.items;
      out : g.L.Door.observable → door.out ≡ first.out;
      listens : (at : List ℕ) → g.L.Door.listens l.fn.door at → g.L.Door.listens l.door at;
      only_at : (at : List ℕ) → g.L.Door.listens l.fn.door at → g.L.Door.only_at l.fn.door at →
          g.L.Door.only_at l.door at;
      faults : door.faults ≡ first.faults;
      disk_faults : disk.faults ≡ before.faults;
      areas : (a : Area) → LeavesAlone before disk a;
    }
