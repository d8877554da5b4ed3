use Rattle.std.proofs.Common.{sym, ◌∙◌, true≢false}
use Rattle.foreign_entries.proofs.NewestLemmas.{offer_first, offer_newer, offer_older}
use Rattle.foreign_entries.proofs.live.Member.offer.Goals.{in-Some, in-None}
use Rattle.foreign_entries.proofs.live.Member.offer.Goals as goal

pub returns-then-replaces : goal.returns-then-replaces
returns-then-replaces c = λ entries gone o is has. elim c.match-self.branch [
  | in-Some w ↦ rw w.self-is (offer_newer entries gone o c.args.kept w.in-Some.before c.args.self.now is w.in-Some.is
      (w.is_newer-replaces.ensures.0 (sym w.replaces-is ∙ c.if-replaces.true)) has)
  | in-None w ↦ rw w.self-is (offer_first entries gone o c.args.kept c.args.self.now is w.in-None.is has)
]

pub returns-else-replaces : goal.returns-else-replaces
returns-else-replaces c = λ entries gone o is has. elim c.match-self.branch [
  | in-Some w ↦ rw w.self-is (offer_older entries gone o c.args.kept w.in-Some.before c.args.self.now is w.in-Some.is
      (λ newer. true≢false (sym (w.is_newer-replaces.ensures.1 newer) ∙ sym w.replaces-is ∙ c.if-replaces.false)) has)
  | in-None w ↦ absurd (true≢false (sym w.replaces-is ∙ c.if-replaces.false))
]
