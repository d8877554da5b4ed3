use Rattle.std.proofs.Common.{ℕ, refl, sym, subst, ◌∙◌}
use Rattle.feed_disk.specs.Memory.{state_of}
use Rattle.feed_journal.specs.Log.{MakesCalls}
use Rattle.feed_journal.proofs.CallLemmas.{calls_then}
use Rattle.feed_recovery.specs.Store.{call_count}
use Rattle.feed_life.proofs.AskLemmas.{store-answered}
use Rattle.feed_life.proofs.ask.ask.Goals as goal

pub returns : goal.returns
returns g c = record {
  answered = λ head history is_store.
      store-answered head (g.T.Turn.outcomes c.args.turn.now c.args.now) history c.args.disk.now c.open.new.disk
      c.make.new.disk c.in_ok-store.store c.make.new.store c.in-Ok.reply (c.in_ok-store.ensures.opened head history is_store)
      c.in-Ok.ensures.steps.head _ _ _ c.in-Ok.ensures.answered c.if-reply-eq-NO_MEMORY.false
      (sym c.is_spent.ensures ∙ c.if-is_spent.false) c.in-Ok.ensures.steps.spent
      (λ other. c.in-Ok.ensures.steps.stands other tt) c.in-Ok.ensures.settled refl
      c.version.ensures refl c.sealed-sealed.ensures;
  calls =
      subst (λ (n : ℕ). (number : ℕ) × MakesCalls (state_of c.args.disk.now)
      (state_of c.make.new.disk) 0 n number)
      (sym c.calls.ensures.calls)
      (calls_then (state_of c.args.disk.now) (state_of c.open.new.disk) (state_of c.make.new.disk) 0
      (call_count c.in_ok-store.store) (call_count c.make.new.store) c.in_ok-store.ensures.calls.0
      c.in_ok-store.ensures.calls.1 c.in-Ok.ensures.steps.calls);
}
