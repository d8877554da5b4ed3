use Rattle.std.proofs.Common.{ℕ, arith, subst}
use Rattle.feed_life.specs.Crashes.{IsCrashFrom, IsImageBy}
use Rattle.feed_life.proofs.CrashLemmas.{ok-both}
use Rattle.feed_life.proofs.GiftLemmas.{gift-before, gift-from}
use Rattle.feed_life.proofs.mirrors.give_into.Goals as goal

pub returns-then-stop-eq0 : goal.returns-then-stop-eq0
returns-then-stop-eq0 c = ok-both c.crash_after.result _ _ _ (λ left image among history kept sent mirror.
    gift-before c.args.head.now history c.args.doc.now c.args.stop.now kept c.args.disk.now c.open_mirror.new.disk
    left c.in_ok-mirror.mirror c.if-stop-eq0.true c.in_ok-mirror.ensures.same
    (c.in_ok-mirror.ensures.opened kept mirror.loads) mirror.served image among)
    c.crash_after.ensures.image c.crash_after.ensures.among

pub returns : goal.returns
returns c = ok-both c.crash_from.result _ _ _ (λ left image among history kept sent mirror.
    gift-from c.args.head.now history c.args.doc.now c.args.stop.now kept c.args.disk.now c.open_mirror.new.disk
    c.offer-offered.new.disk left c.in_ok-mirror.ensures.same
    (c.in_ok-offered.ensures.runs c.args.head.now history kept sent mirror.served
    (c.in_ok-mirror.ensures.opened kept mirror.loads)) (omega (arith, c.if-stop-eq0.false))
    (subst (λ (n : ℕ). IsImageBy c.args.stop.now n c.offer-offered.new.disk left) c.calls-begun.ensures image)
    (subst (λ (n : ℕ). IsCrashFrom n c.args.stop.now.call c.offer-offered.new.disk left) c.calls-begun.ensures among))
    c.crash_from.ensures.image c.crash_from.ensures.among
