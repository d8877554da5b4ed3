use Rattle.doc_source.proofs.OneReading.{one_reading}
use Rattle.doc_source.proofs.RunLemmas.{at_the_end, in_order}
use Rattle.doc_source.proofs.laws.piles_have_one_reading.Goals as goal

pub returns-clause-one : goal.returns-clause-one
returns-clause-one c = one_reading

pub returns-clause-in_order : goal.returns-clause-in_order
returns-clause-in_order c = in_order

pub returns-clause-whole : goal.returns-clause-whole
returns-clause-whole c = at_the_end
