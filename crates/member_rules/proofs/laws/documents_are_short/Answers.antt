use Rattle.member_rules.proofs.ShortLemmas.{documents-short}
use Rattle.member_rules.proofs.laws.documents_are_short.Goals as goal

pub returns : goal.returns
returns c = documents-short
