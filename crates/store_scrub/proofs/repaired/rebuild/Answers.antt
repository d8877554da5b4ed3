use Rattle.std.proofs.lemmas.Result.{err_from_is_err_and}
use Rattle.store_scrub.proofs.RebuildLemmas.{closing-leaves, making-leaves, rebuilt, stopped}
use Rattle.store_scrub.proofs.repaired.rebuild.Goals as goal

pub returns-in-Err-clause-moments : goal.returns-in-Err-clause-moments
returns-in-Err-clause-moments g c = λ tells head history ready.
    closing-leaves (g.D.Disk.state c.args.disk.now) (g.D.Disk.state c.close_areas.new.disk) head history
    c.args.survey.kept ready (c.close_areas.ensures.journal tells) (c.close_areas.ensures.sealed tells)

pub returns-in_err-made-clause-refused : goal.returns-in_err-made-clause-refused
returns-in_err-made-clause-refused g c =
    let returned = err_from_is_err_and c.from_residual.result c.from_residual.ensures.1 in
    rw (returned.1, returned.2) (λ tells head history ready.
    stopped (g.D.Disk.state c.args.disk.now) (g.D.Disk.state c.close_areas.new.disk) head history c.args.survey.kept ready
    (c.in_default.ensures.closes tells) (c.in_default.ensures.cuts tells)
    (g.met.D.Disk.is_disk c.close_areas.new.disk) tells (g.D.Disk.state c.make_seals-made.new.disk) {T = Unit {0}}
    c.in_err-made.field-0.0 (λ size needed capacity is. c.in_err-made.ensures.full size needed capacity is tells)
    (λ is. c.in_err-made.ensures.no_history.0 is tells)
    (λ area index at is. c.in_err-made.ensures.no_history.1 area index at is tells))

pub returns-in_err-made-clause-moments : goal.returns-in_err-made-clause-moments
returns-in_err-made-clause-moments g c = λ tells head history ready.
    let s = g.D.Disk.state c.args.disk.now in
    let m = g.D.Disk.state c.close_areas.new.disk in
    let kept = c.args.survey.kept in
    making-leaves s m head history kept ready (c.in_default.ensures.closes tells) (c.in_default.ensures.cuts tells)
    (g.met.D.Disk.is_disk c.close_areas.new.disk) tells (g.D.Disk.state c.make_seals-made.new.disk)
    (closing-leaves s m head history kept ready (c.close_areas.ensures.journal tells)
    (c.close_areas.ensures.sealed tells))
    (c.make_seals-made.ensures.moments tells) c.make_seals-made.ensures.journal

pub returns-clause-rebuilt : goal.returns-clause-rebuilt
returns-clause-rebuilt g c = λ tells head history ready.
    rebuilt (g.D.Disk.state c.args.disk.now) (g.D.Disk.state c.close_areas.new.disk) head history c.args.survey.kept ready
    (c.in_default.ensures.closes tells) (c.in_default.ensures.cuts tells)
    (g.met.D.Disk.is_disk c.close_areas.new.disk) tells (g.D.Disk.state c.make_seals-made.new.disk)
    (c.in_ok-made.ensures.made tells) c.make_seals-made.ensures.journal

pub returns-clause-moments : goal.returns-clause-moments
returns-clause-moments g c = λ tells head history ready.
    let s = g.D.Disk.state c.args.disk.now in
    let m = g.D.Disk.state c.close_areas.new.disk in
    let kept = c.args.survey.kept in
    making-leaves s m head history kept ready (c.in_default.ensures.closes tells) (c.in_default.ensures.cuts tells)
    (g.met.D.Disk.is_disk c.close_areas.new.disk) tells (g.D.Disk.state c.make_seals-made.new.disk)
    (closing-leaves s m head history kept ready (c.close_areas.ensures.journal tells)
    (c.close_areas.ensures.sealed tells))
    (c.make_seals-made.ensures.moments tells) c.make_seals-made.ensures.journal
