use Rattle.std.proofs.Common.{Bool, Ok, ◌∙◌, ap, arith}
use Rattle.feed_disk.specs.declared.area.Area.TheVariants.{Sealed}
use Rattle.feed_disk.proofs.MomentLemmas.{alone_joins}
use Rattle.store_scrub.proofs.CloseLemmas.{cuts-after, cuts-area, cuts-none, first-after, first-area, found-count}
use Rattle.store_scrub.proofs.CloseLemmas.{keeps-found, listed-none, surveyed-alone}
use Rattle.store_scrub.proofs.repaired.cut_seals.Goals as goal

pub returns-in_err-has_only-clause-others : goal.returns-in_err-has_only-clause-others
returns-in_err-has_only-clause-others g c = λ a other. c.has_only.ensures.areas a

pub returns-then-branch-clause-listed : goal.returns-then-branch-clause-listed
returns-then-branch-clause-listed g c = λ tells.
    let only = c.has_only.ensures.only (c.in_ok-has_only.was ∙ ap (λ (b : Bool). Ok b) c.if-branch.true) in
    listed-none g.D.Disk.observable (g.D.Disk.state c.args.disk.now) Sealed c.args.seals.now c.args.kept
    c.requires.seals tells (g.D.Disk.state c.has_only.new.disk) (c.has_only.ensures.areas Sealed) only.0 only.1
    (only.2 tells)

pub returns-then-branch-clause-cuts : goal.returns-then-branch-clause-cuts
returns-then-branch-clause-cuts g c = λ tells.
    let only = c.has_only.ensures.only (c.in_ok-has_only.was ∙ ap (λ (b : Bool). Ok b) c.if-branch.true) in
    cuts-none g.D.Disk.observable (g.D.Disk.state c.args.disk.now) Sealed c.args.seals.now c.args.kept
    c.requires.seals tells (g.D.Disk.state c.has_only.new.disk) (c.has_only.ensures.areas Sealed) only.0 only.1
    (only.2 tells)

pub returns-then-branch-clause-moments : goal.returns-then-branch-clause-moments
returns-then-branch-clause-moments g c = λ tells.
    keeps-found g.D.Disk.observable (g.D.Disk.state c.args.disk.now) Sealed c.args.seals.now c.args.kept
    c.requires.seals tells c.requires.within (g.D.Disk.state c.has_only.new.disk) (c.has_only.ensures.areas Sealed)

pub returns-then-branch-clause-others : goal.returns-then-branch-clause-others
returns-then-branch-clause-others g c = λ a other. c.has_only.ensures.areas a

pub returns-in_err-cut-clause-moments : goal.returns-in_err-cut-clause-moments
returns-in_err-cut-clause-moments g c = λ tells.
    let s = g.D.Disk.state c.args.disk.now in
    let m = g.D.Disk.state c.has_only.new.disk in
    let t = g.D.Disk.state c.cut.new.disk in
    let seals = c.args.seals.now in
    let alone = c.has_only.ensures.areas Sealed in
    let is = surveyed-alone g.D.Disk.observable s m Sealed seals c.requires.seals alone in
    first-after s m t Sealed c.args.kept alone
    (omega (arith, c.requires.within, found-count g.D.Disk.observable s Sealed seals c.args.kept c.requires.seals tells))
    (first-area m t c.args.kept seals.area Sealed c.requires.seals.readable.area
    (omega (arith, c.requires.within, found-count g.D.Disk.observable m Sealed seals c.args.kept is tells))
    (c.cut.ensures.moments tells))

pub returns-in_err-cut-clause-others : goal.returns-in_err-cut-clause-others
returns-in_err-cut-clause-others g c = λ a other.
    alone_joins (g.D.Disk.state c.args.disk.now) (g.D.Disk.state c.has_only.new.disk) (g.D.Disk.state c.cut.new.disk) a
    (c.has_only.ensures.areas a) (c.cut.ensures.others a (λ is. other (is ∙ c.requires.seals.readable.area)))

pub returns-clause-cuts : goal.returns-clause-cuts
returns-clause-cuts g c = λ tells.
    let s = g.D.Disk.state c.args.disk.now in
    let m = g.D.Disk.state c.has_only.new.disk in
    let t = g.D.Disk.state c.cut.new.disk in
    let seals = c.args.seals.now in
    let alone = c.has_only.ensures.areas Sealed in
    let is = surveyed-alone g.D.Disk.observable s m Sealed seals c.requires.seals alone in
    cuts-after s m t Sealed c.args.kept alone
    (cuts-area m t c.args.kept seals.area Sealed c.requires.seals.readable.area (is.frames tells).starts
    (c.in_ok-cut.ensures.kept tells).list (c.in_ok-cut.ensures.rests tells))

pub returns-clause-moments : goal.returns-clause-moments
returns-clause-moments g c = λ tells.
    let s = g.D.Disk.state c.args.disk.now in
    let m = g.D.Disk.state c.has_only.new.disk in
    let t = g.D.Disk.state c.cut.new.disk in
    let seals = c.args.seals.now in
    let alone = c.has_only.ensures.areas Sealed in
    let is = surveyed-alone g.D.Disk.observable s m Sealed seals c.requires.seals alone in
    first-after s m t Sealed c.args.kept alone
    (omega (arith, c.requires.within, found-count g.D.Disk.observable s Sealed seals c.args.kept c.requires.seals tells))
    (first-area m t c.args.kept seals.area Sealed c.requires.seals.readable.area
    (omega (arith, c.requires.within, found-count g.D.Disk.observable m Sealed seals c.args.kept is tells))
    (c.cut.ensures.moments tells))

pub returns-clause-others : goal.returns-clause-others
returns-clause-others g c = λ a other.
    alone_joins (g.D.Disk.state c.args.disk.now) (g.D.Disk.state c.has_only.new.disk) (g.D.Disk.state c.cut.new.disk) a
    (c.has_only.ensures.areas a) (c.cut.ensures.others a (λ is. other (is ∙ c.requires.seals.readable.area)))
