use Rattle.foreign_mirror.proofs.KnownLemmas.{knows-more}
use Rattle.foreign_mirror.proofs.walk.Progress.mark.Goals as goal

pub returns-clause-knows : goal.returns-clause-knows
returns-clause-knows c = λ asked knows.
    knows-more (λ k. k.items) asked c.args.address.now c.in_ok-text.text c.args.self.now.asked.keys
    c.insert.new.self.keys knows c.in_ok-insert.ensures.keys c.in_ok-text.ensures.items
