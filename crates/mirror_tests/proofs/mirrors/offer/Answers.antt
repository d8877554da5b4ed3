use Rattle.std.proofs.Common.{rules, ◌≢◌, Err}
use Rattle.mirror_walk.specs.declared.answer.Offered.TheVariants.{DiskFault}
use Rattle.mirror_tests.proofs.mirrors.offer.Goals as goal

pub returns : goal.returns
returns g c = λ unspent.
    let fine : c.offer-answer.result ≢ Err DiskFault = search rules in
    (c.offer-answer.ensures.sound fine).stands
