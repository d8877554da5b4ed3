use Rattle.std.proofs.Common.{◌≡◌, ◌-◌, ◌≤◌, ◌++◌, length, take}
use Rattle.http_face.specs.Conn.{Reads, TakesAtMost}
use Rattle.http_face.specs.Response.{HasNoResponseHead}
use Rattle.http_face.proofs.response_head.read_response_head.Given as goal

abbrev pub invariant-loop-filled : goal.invariant-loop-filled
invariant-loop-filled g l = record {
  within : l.filled ≤ length l.buffer;
  none : HasNoResponseHead (take l.filled l.buffer);
  bytes : g.C.Conn.observable → (g.C.Conn.state l.fn.conn).left ≡ take l.filled l.buffer ++ (g.C.Conn.state l.conn).left;
  most : g.C.Conn.observable → TakesAtMost l.filled (g.C.Conn.state l.fn.conn) (g.C.Conn.state l.conn);
  reads : Reads (g.C.Conn.state l.fn.conn) (g.C.Conn.state l.conn);
  faults : (g.C.Conn.state l.conn).faults ≡ (g.C.Conn.state l.fn.conn).faults;
}

abbrev pub decreases-loop-filled : goal.decreases-loop-filled
decreases-loop-filled g l = length l.buffer - l.filled
