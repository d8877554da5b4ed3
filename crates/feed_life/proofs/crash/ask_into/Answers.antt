use Rattle.std.proofs.Common.{ℕ, arith, subst}
use Rattle.feed_life.specs.Crashes.{IsCrashFrom, IsImageBy}
use Rattle.feed_life.proofs.CrashLemmas.{ok-both}
use Rattle.feed_life.proofs.StoppedLemmas.{stopped-before, stopped-from}
use Rattle.feed_life.proofs.crash.ask_into.Goals as goal

pub returns-then-stop-eq0 : goal.returns-then-stop-eq0
returns-then-stop-eq0 g c = record {
  stopped = ok-both c.crash_after.result _ _ _ (λ left image among head history is_store.
      stopped-before head (g.T.Turn.outcomes c.args.turn.now c.args.now) c.args.stop.now history c.args.disk.now
      c.open.new.disk left c.if-stop-eq0.true c.in_ok-store.ensures.same
      (c.in_ok-store.ensures.opened head history is_store).settled image among)
      c.crash_after.ensures.image c.crash_after.ensures.among;
}

pub returns : goal.returns
returns g c = record {
  stopped = ok-both c.crash_from.result _ _ _ (λ left image among head history is_store.
      stopped-from head (g.T.Turn.outcomes c.args.turn.now c.args.now) c.args.stop.now history c.args.disk.now
      c.open.new.disk c.run-begun.new.disk left c.in_ok-store.ensures.same
      (c.in_ok-begun.ensures.runs head history c.args.disk.now (c.in_ok-store.ensures.opened head history is_store))
      (omega (arith, c.if-stop-eq0.false))
      (subst (λ (n : ℕ). IsImageBy c.args.stop.now n c.run-begun.new.disk left) c.in_ok-begun.ensures.begun image)
      c.begun_images_are_whole.ensures
      (subst (λ (n : ℕ). IsCrashFrom n c.args.stop.now.call c.run-begun.new.disk left) c.in_ok-begun.ensures.begun
      among)) c.crash_from.ensures.image c.crash_from.ensures.among;
}
