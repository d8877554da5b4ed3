use Rattle.std.specs.Prelude.{◌≡◌, All, None}
use Rattle.http_face.specs.contracts.script.ScriptConnConn.TheImpl.{ghosts}
use Rattle.program_tests.proofs.runs.door_of.Given as goal

abbrev pub invariant-loop-line : goal.invariant-loop-line
invariant-loop-line g l = All (λ link. (ghosts.state link).begun ≡ None) l.links.items
