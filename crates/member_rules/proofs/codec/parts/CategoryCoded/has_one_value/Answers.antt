use Rattle.member_rules.proofs.PartLemmas.{category_one}
use Rattle.member_rules.proofs.codec.parts.CategoryCoded.has_one_value.Goals as goal

pub returns : goal.returns
returns c = category_one
