use Rattle.service_face.proofs.PageLemmas.{page_of-is}
use Rattle.service_face.proofs.laws.targets_are_addresses.Goals as goal

pub returns : goal.returns
returns c = λ base target page is. page_of-is base target page is
