use Rattle.std.proofs.Common.{ℕ, arith, subst}
use Rattle.feed_life.specs.Crashes.{IsCrashFrom, IsImageBy}
use Rattle.feed_life.proofs.CrashLemmas.{ok-both}
use Rattle.feed_life.proofs.WalkedLemmas.{walk-before, walk-from}
use Rattle.feed_life.proofs.walks.walk_amid.Goals as goal

pub returns-then-stop-eq0 : goal.returns-then-stop-eq0
returns-then-stop-eq0 c = ok-both c.crash_after.result _ _ _ (λ left image among head history kept before same ready.
    walk-before head history kept c.args.stop.now before c.args.disk.now c.args.disk.now left
    c.args.mirror.now c.args.documents.now ready same c.begun_images_are_whole.ensures c.if-stop-eq0.true
    image among) c.crash_after.ensures.image c.crash_after.ensures.among

pub returns : goal.returns
returns c = ok-both c.crash_from.result _ _ _ (λ left image among head history kept before same ready.
    walk-from head history kept c.args.stop.now before c.args.disk.now c.walk_over.new.disk left
    c.args.mirror.now c.args.documents.now ready same c.stores_answer_what_is_served.ensures
    (c.in_ok-walk_over.ensures.runs head history kept ready) (omega (arith, c.if-stop-eq0.false))
    (subst (λ (n : ℕ). IsImageBy c.args.stop.now n c.walk_over.new.disk left) c.calls-begun.ensures image)
    (subst (λ (n : ℕ). IsCrashFrom n c.args.stop.now.call c.walk_over.new.disk left) c.calls-begun.ensures among))
    c.crash_from.ensures.image c.crash_from.ensures.among
