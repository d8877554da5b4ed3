use Rattle.std.proofs.Common.{◌≡◌, ◌+◌, ◌∙◌, ℕ, List, length, refl, subst}
use Rattle.feed_disk.specs.declared.area.Area.TheVariants.{Journal, Sealed}
use Rattle.feed_disk.proofs.MomentLemmas.{alone_begins, alone_joins}
use Rattle.feed_journal.specs.Records.{records}
use Rattle.feed_recovery.proofs.LoadedLemmas.{journal_sealed}
use Rattle.store_scrub.specs.Steps.{HasMadeLast, IsBegun}
use Rattle.store_scrub.proofs.MakingLemmas.{keeps-alone, keeps-more, made-all, made-alone, made-begin, made-more}
use Rattle.store_scrub.proofs.MakingLemmas.{step-fails}
use Rattle.store_scrub.proofs.making.make_each.Goals as goal
use Rattle.store_scrub.proofs.making.make_each.Goals.{After-make_next}
use Rattle.store_scrub.proofs.making.make_each.Given.{Over}

pub frames-init : goal.frames-init
frames-init g c =
    let s = g.D.Disk.state c.args.disk.now in
    record {
      making = c.requires.making;
      others = λ a other. alone_begins s a;
      faults = refl;
      made = λ tells. made-begin s c.args.head.now c.args.window.now.history c.requires.making.is_head c.requires.none;
      keeps = λ tells. keeps-alone s s (alone_begins s Sealed);
    }

-- what was read before this step, of the journal as it was at first
begun : (g : Over) (c : After-make_next g) → g.D.Disk.observable
    → IsBegun (records ((g.D.Disk.state c.args.disk.now).content Journal)) c.args.head.now c.frames.window.history
begun g c tells =
    let before = c.frames.invariant in
    subst (λ (l : List ℕ). IsBegun (records l) c.args.head.now c.frames.window.history)
    (before.others Journal journal_sealed).content (before.making.begun tells)

pub frames-preserved : goal.frames-preserved
frames-preserved g c =
    let s = g.D.Disk.state c.args.disk.now in
    let m = g.D.Disk.state c.frames.disk in
    let t = g.D.Disk.state c.make_next.new.disk in
    let before = c.frames.invariant in
    let head = c.args.head.now in
    let history = c.frames.window.history in
    let is = c.in-Ok-true.is in
    let some = c.in-Ok-true.field-0-test in
    let one = c.make_next.ensures.more (cc) in
    let after = (goal.at.frames-preserved g c).After-make_next in
    record {
      making = c.in-Ok-true.ensures.making;
      others = λ a other. alone_joins s m t a (before.others a other) (c.make_next.ensures.others a other);
      faults = c.make_next.ensures.faults.unfailed (λ failed. cc) ∙ before.faults;
      made = λ tells. made-more s m t head history c.make_next.new.window.history one.operation one.history
          before.making.is_head (begun g after tells) (before.made tells) (one.sealed tells);
      keeps = λ tells. keeps-more s m t head history (before.made tells) (before.keeps tells)
          (c.make_next.ensures.keeps tells);
    }

pub returns-in-Ok-false-clause-made : goal.returns-in-Ok-false-clause-made
returns-in-Ok-false-clause-made g c = λ tells.
    let s = g.D.Disk.state c.args.disk.now in
    let m = g.D.Disk.state c.frames.disk in
    let t = g.D.Disk.state c.make_next.new.disk in
    let before = c.frames.invariant in
    let head = c.args.head.now in
    let history = c.frames.window.history in
    let is = c.in-Ok-false.is in
    let none = c.in-Ok-false.field-0-test in
    let last : HasMadeLast g.D.Disk.observable m t history = c.make_next.ensures.last (cc) in
    let after = (goal.at.returns-in-Ok-false-clause-made g c).After-make_next in
    let all = subst (λ (l : List ℕ). length (records l) ≡ length history + 1)
    (before.others Journal journal_sealed).content (last.all tells) in
    made-all s t head history (begun g after tells) all (made-alone s m t head history (before.made tells) last.alone)

pub returns-in-Ok-false-clause-moments : goal.returns-in-Ok-false-clause-moments
returns-in-Ok-false-clause-moments g c = λ tells.
    keeps-more (g.D.Disk.state c.args.disk.now) (g.D.Disk.state c.frames.disk) (g.D.Disk.state c.make_next.new.disk)
    c.args.head.now c.frames.window.history (c.frames.invariant.made tells) (c.frames.invariant.keeps tells)
    (c.make_next.ensures.keeps tells)

pub returns-in-Ok-false-clause-others : goal.returns-in-Ok-false-clause-others
returns-in-Ok-false-clause-others g c = λ a other.
    alone_joins (g.D.Disk.state c.args.disk.now) (g.D.Disk.state c.frames.disk) (g.D.Disk.state c.make_next.new.disk) a
    (c.frames.invariant.others a other) (c.make_next.ensures.others a other)

pub returns-in-Err-clause-refused : goal.returns-in-Err-clause-refused
returns-in-Err-clause-refused g c = λ tells.
    let before = c.frames.invariant in
    let after = (goal.at.returns-in-Err-clause-refused g c).After-make_next in
    step-fails (g.D.Disk.state c.args.disk.now) (g.D.Disk.state c.frames.disk) (g.D.Disk.state c.make_next.new.disk)
    c.args.head.now c.frames.window.history c.in-Err.fault before.making.is_head
    (before.others Journal journal_sealed).content (begun g after tells) (before.made tells)
    (c.in-Err.ensures.refused tells)

pub returns-in-Err-clause-moments : goal.returns-in-Err-clause-moments
returns-in-Err-clause-moments g c = λ tells.
    keeps-more (g.D.Disk.state c.args.disk.now) (g.D.Disk.state c.frames.disk) (g.D.Disk.state c.make_next.new.disk)
    c.args.head.now c.frames.window.history (c.frames.invariant.made tells) (c.frames.invariant.keeps tells)
    (c.make_next.ensures.keeps tells)

pub returns-in-Err-clause-others : goal.returns-in-Err-clause-others
returns-in-Err-clause-others g c = λ a other.
    alone_joins (g.D.Disk.state c.args.disk.now) (g.D.Disk.state c.frames.disk) (g.D.Disk.state c.make_next.new.disk) a
    (c.frames.invariant.others a other) (c.make_next.ensures.others a other)
