use Rattle.chain_links.proofs.ReadingLemmas.{same_parts}
use Rattle.chain_links.proofs.base.Base.text.Goals as goal

pub returns-clause-one_reading : goal.returns-clause-one_reading
returns-clause-one_reading c = λ p q spells_p spells_q. same_parts c.args.self.now p q spells_p spells_q
