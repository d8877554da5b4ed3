use Rattle.std.specs.Prelude.{◌≡◌, All, None}
use Rattle.http_face.specs.contracts.script.ScriptConnConn.TheImpl.{ghosts}
use Rattle.wire_tests.proofs.sessions.conns_of.Given as goal

abbrev pub invariant-loop-bytes : goal.invariant-loop-bytes
invariant-loop-bytes g l = All (λ conn. (ghosts.state conn).begun ≡ None) l.conns.items
