use Rattle.std.proofs.Common.{rules, ◌≢◌, Err}
use Rattle.mirror_walk.specs.declared.walk.WalkFault.TheVariants.{DiskFault}
use Rattle.mirror_tests.proofs.mirrors.walk.Goals as goal

pub returns : goal.returns
returns g c = λ unspent.
    let fine : c.walk-walked.result ≢ Err DiskFault = search rules in
    (c.walk-walked.ensures.sound fine).stands
