use Rattle.std.proofs.Common.{◌≡◌, ◌≤◌, ◌-◌, ◌++◌, length, take}
use Rattle.http_face.specs.Conn.{Writes}
use Rattle.http_face.proofs.write.write_all.Given as goal

abbrev pub invariant-loop-written : goal.invariant-loop-written
invariant-loop-written g l = record {
  within : l.written ≤ length l.bytes;
  taken : g.C.Conn.observable → (g.C.Conn.state l.conn).sent ≡ (g.C.Conn.state l.fn.conn).sent ++ take l.written l.bytes;
  writes : Writes (g.C.Conn.state l.fn.conn) (g.C.Conn.state l.conn);
  faults : (g.C.Conn.state l.conn).faults ≡ (g.C.Conn.state l.fn.conn).faults;
}

abbrev pub decreases-loop-written : goal.decreases-loop-written
decreases-loop-written g l = length l.bytes - l.written
