use Rattle.std.proofs.Common.{◌≡◌, ◌-◌, ◌≤◌, ◌++◌, vec_len}
use Rattle.http_face.specs.Conn.{Reads, TakesAtMost}
use Rattle.http_face.proofs.answer.read_on.Given as goal

abbrev pub invariant-loop-body : goal.invariant-loop-body
invariant-loop-body g l = record {
  within : vec_len l.body ≤ l.most;
  bytes : g.C.Conn.observable → l.fn.body.items ++ (g.C.Conn.state l.fn.conn).left
      ≡ l.body.items ++ (g.C.Conn.state l.conn).left;
  most : g.C.Conn.observable → TakesAtMost (vec_len l.body) (g.C.Conn.state l.fn.conn) (g.C.Conn.state l.conn);
  reads : Reads (g.C.Conn.state l.fn.conn) (g.C.Conn.state l.conn);
  faults : (g.C.Conn.state l.conn).faults ≡ (g.C.Conn.state l.fn.conn).faults;
}

abbrev pub decreases-loop-body : goal.decreases-loop-body
decreases-loop-body g l = l.most - vec_len l.body
