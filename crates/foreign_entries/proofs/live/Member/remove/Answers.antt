use Rattle.std.proofs.Common.{sym, ◌∙◌, true≢false, ◌<ℤ◌, ◌≤ℤ◌, arith}
use Rattle.std.proofs.lemmas.Int.{ints}
use Rattle.foreign_entries.proofs.NewestLemmas.{remove_first, remove_later, remove_earlier}
use Rattle.foreign_entries.proofs.live.Member.remove.Goals.{in-Some, in-None}
use Rattle.foreign_entries.proofs.live.Member.remove.Goals as goal

pub returns-then-replaces : goal.returns-then-replaces
returns-then-replaces c = λ entries gone g is has. elim c.match-self.branch [
  | in-Some w ↦
      let e = sym w.replaces-is ∙ c.if-replaces.true in
      let over : w.in-Some.before <ℤ c.args.when = grind (arith, ints, e, w.millis.ensures.value, w.millis-in-Some.ensures.value) in
      rw w.self-is (remove_later entries gone g c.args.when w.in-Some.before c.args.self.now is w.in-Some.is over has)
  | in-None w ↦ rw w.self-is (remove_first entries gone g c.args.when c.args.self.now is w.in-None.is has)
]

pub returns-else-replaces : goal.returns-else-replaces
returns-else-replaces c = λ entries gone g is has. elim c.match-self.branch [
  | in-Some w ↦
      let e = sym w.replaces-is ∙ c.if-replaces.false in
      let under : c.args.when ≤ℤ w.in-Some.before = grind (arith, ints, e, w.millis.ensures.value, w.millis-in-Some.ensures.value) in
      rw w.self-is (remove_earlier entries gone g c.args.when w.in-Some.before c.args.self.now is w.in-Some.is under has)
  | in-None w ↦ absurd (true≢false (sym w.replaces-is ∙ c.if-replaces.false))
]
