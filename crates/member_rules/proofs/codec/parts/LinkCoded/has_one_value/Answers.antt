use Rattle.member_rules.proofs.PartLemmas.{link_one}
use Rattle.member_rules.proofs.codec.parts.LinkCoded.has_one_value.Goals as goal

pub returns : goal.returns
returns c = link_one
