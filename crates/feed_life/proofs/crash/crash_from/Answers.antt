use Rattle.std.proofs.Common.{◌+◌, inl, inr, refl, arith}
use Rattle.std.proofs.lemmas.Result.{IfOk-weaker}
use Rattle.feed_life.proofs.crash.crash_from.Goals as goal

pub returns-then-stop-ended : goal.returns-then-stop-ended
returns-then-stop-ended c = record {
  image = IfOk-weaker c.crash_after.result _ _ (λ left image. record {
    within = λ made. absurd (omega (arith, made, c.calls-ended.ensures, c.requires.begun, c.if-stop-ended.true));
    past = λ _. image;
  }) c.crash_after.ensures.image;
  among = IfOk-weaker c.crash_after.result _ _ (λ left among. inl (
    omega (arith, c.calls-ended.ensures, c.requires.begun, c.if-stop-ended.true),
    among,
  )) c.crash_after.ensures.among;
}

pub returns : goal.returns
returns c = record {
  image = IfOk-weaker c.crash_at.result _ _ (λ left image. record {
    within = λ _. image;
    past = λ over. absurd (omega (arith, over, c.calls-ended.ensures, c.requires.begun, c.if-stop-ended.false));
  }) c.crash_at.ensures.image;
  among = IfOk-weaker c.crash_at.result _ _ (λ left among. inr record {
    moment = c.args.begun + c.args.stop.now.call;
    at = refl;
    after = omega (arith, c.requires.some);
    made = omega (arith, c.calls-ended.ensures, c.requires.begun, c.if-stop-ended.false);
    short = omega (arith, c.calls-ended.ensures, c.if-ended.false);
    crash = among;
  }) c.crash_at.ensures.among;
}
