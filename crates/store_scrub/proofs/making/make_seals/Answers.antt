use Rattle.std.proofs.Common.{◌≡◌, ℕ, Result, Err, subst}
use Rattle.std.specs.Prelude.{IfErr}
use Rattle.feed_disk.specs.declared.area.Area.TheVariants.{Journal, Sealed, Mirror}
use Rattle.feed_disk.proofs.MomentLemmas.{alone_joins}
use Rattle.store_scrub.specs.Making.{MakesAll}
use Rattle.store_scrub.specs.Steps.{IsMakingFault}
use Rattle.store_scrub.specs.declared.fault.RepairFault.{RepairFault}
use Rattle.store_scrub.specs.declared.fault.RepairFault.TheVariants.{BadRecord, Full, NotInit}
use Rattle.store_scrub.proofs.MakingLemmas.{fails-later, keeps-alone, keeps-later, makes-later, on-ok}
use Rattle.store_scrub.proofs.making.make_seals.Goals as goal
use Rattle.store_scrub.proofs.making.make_seals.Goals.{In-Some}
use Rattle.store_scrub.proofs.making.make_seals.Given.{Over}

pub returns-in_err-reader-clause-moments : goal.returns-in_err-reader-clause-moments
returns-in_err-reader-clause-moments g c = λ tells.
    keeps-alone (g.D.Disk.state c.args.disk.now) (g.D.Disk.state c.look.new.disk) (c.look.ensures.areas Sealed)

pub returns-in_err-reader-clause-mirror : goal.returns-in_err-reader-clause-mirror
returns-in_err-reader-clause-mirror g c = c.look.ensures.areas Mirror

pub returns-in_default-clause-mirror : goal.returns-in_default-clause-mirror
returns-in_default-clause-mirror g c = c.look.ensures.areas Mirror

pub returns-clause-made : goal.returns-clause-made
returns-clause-made g c =
    let s = g.D.Disk.state c.args.disk.now in
    let m = g.D.Disk.state c.look.new.disk in
    let t = g.D.Disk.state c.make_read-outcome.new.disk in
    on-ok c.make_read-outcome.result (g.D.Disk.observable → MakesAll m t) (g.D.Disk.observable → MakesAll s t)
    (λ made tells. makes-later s m t c.look.ensures.areas (made tells)) c.make_read-outcome.ensures.made

pub returns-clause-no_history : goal.returns-clause-no_history
returns-clause-no_history g c =
    let s = g.D.Disk.state c.args.disk.now in
    let m = g.D.Disk.state c.look.new.disk in
    let t = g.D.Disk.state c.make_read-outcome.new.disk in
    let refused = λ (r : Result _ RepairFault). IfErr r (λ fault. g.D.Disk.observable → IsMakingFault m t fault) in (
      λ is tells. fails-later s m t c.look.ensures.areas NotInit
          (subst refused is c.make_read-outcome.ensures.refused tells),
      λ area index at is tells. fails-later s m t c.look.ensures.areas (BadRecord area index at)
          (subst refused is c.make_read-outcome.ensures.refused tells),
    )

pub returns-clause-moments : goal.returns-clause-moments
returns-clause-moments g c = λ tells.
    keeps-later (g.D.Disk.state c.args.disk.now) (g.D.Disk.state c.look.new.disk)
    (g.D.Disk.state c.make_read-outcome.new.disk) c.look.ensures.areas (c.make_read-outcome.ensures.moments tells)

pub returns-clause-mirror : goal.returns-clause-mirror
returns-clause-mirror g c =
    alone_joins (g.D.Disk.state c.args.disk.now) (g.D.Disk.state c.look.new.disk)
    (g.D.Disk.state c.make_read-outcome.new.disk) Mirror (c.look.ensures.areas Mirror)
    (c.make_read-outcome.ensures.others Mirror (λ is. cc))
