use Rattle.std.proofs.Common.{◌≡◌, ◌+◌, ◌-◌, ◌<◌, ◌≤◌, ◌++◌, length, take}
use Rattle.feed_disk.specs.Raised.{RisesAtMost}
use Rattle.http_face.specs.Conn.{LastReadAfter, Reads, TakesAtMost}
use Rattle.http_face.proofs.fill.fill_up.Given as goal

abbrev pub invariant-loop-full : goal.invariant-loop-full
invariant-loop-full g l = record {
  within : l.full ≤ length l.buffer;
  more : l.fn.filled ≤ l.full;
  bytes : g.C.Conn.observable → take l.fn.filled l.fn.buffer ++ (g.C.Conn.state l.fn.conn).left
      ≡ take l.full l.buffer ++ (g.C.Conn.state l.conn).left;
  most : g.C.Conn.observable → TakesAtMost (l.full - l.fn.filled) (g.C.Conn.state l.fn.conn) (g.C.Conn.state l.conn);
  read : RisesAtMost (l.full - l.fn.filled) (g.C.Conn.state l.fn.conn).bytes_read (g.C.Conn.state l.conn).bytes_read;
  needed : g.C.Conn.observable → LastReadAfter (λ before. l.fn.filled + length before < length l.fn.buffer)
      (g.C.Conn.state l.fn.conn) (g.C.Conn.state l.conn);
  reads : Reads (g.C.Conn.state l.fn.conn) (g.C.Conn.state l.conn);
  faults : (g.C.Conn.state l.conn).faults ≡ (g.C.Conn.state l.fn.conn).faults;
}

abbrev pub decreases-loop-full : goal.decreases-loop-full
decreases-loop-full g l = length l.buffer - l.full
