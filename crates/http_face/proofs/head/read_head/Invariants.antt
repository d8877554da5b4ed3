use Rattle.std.proofs.Common.{◌≡◌, ◌-◌, ◌<◌, ◌≤◌, ◌++◌, length, take}
use Rattle.feed_disk.specs.Raised.{RisesAtMost}
use Rattle.http_face.specs.Conn.{LastReadAfter, Reads, TakesAtMost}
use Rattle.http_face.specs.Heard.{HasNoHead}
use Rattle.http_face.specs.Settled.{IsUnsettled}
use Rattle.http_face.proofs.head.read_head.Given as goal

abbrev pub invariant-loop-filled : goal.invariant-loop-filled
invariant-loop-filled g l = record {
  within : l.filled ≤ length l.buffer;
  none : HasNoHead (take l.filled l.buffer);
  unsettled : l.filled < length l.buffer → IsUnsettled (take l.filled l.buffer);
  bytes : g.C.Conn.observable → (g.C.Conn.state l.fn.conn).left ≡ take l.filled l.buffer ++ (g.C.Conn.state l.conn).left;
  most : g.C.Conn.observable → TakesAtMost l.filled (g.C.Conn.state l.fn.conn) (g.C.Conn.state l.conn);
  read : RisesAtMost l.filled (g.C.Conn.state l.fn.conn).bytes_read (g.C.Conn.state l.conn).bytes_read;
  needed : g.C.Conn.observable → LastReadAfter IsUnsettled (g.C.Conn.state l.fn.conn) (g.C.Conn.state l.conn);
  reads : Reads (g.C.Conn.state l.fn.conn) (g.C.Conn.state l.conn);
  faults : (g.C.Conn.state l.conn).faults ≡ (g.C.Conn.state l.fn.conn).faults;
}

abbrev pub decreases-loop-filled : goal.decreases-loop-filled
decreases-loop-filled g l = length l.buffer - l.filled
