use Rattle.service_face.proofs.NewestLemmas.{newest_first}
use Rattle.service_face.proofs.laws.listings_are_newest_first.Goals as goal

pub returns : goal.returns
returns c = newest_first
