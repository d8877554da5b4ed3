use Rattle.canonical_feed.proofs.LawLemmas.{canonical_read}
use Rattle.canonical_feed.proofs.laws.canonical_text_is_read.Goals as goal

pub returns : goal.returns
returns c = canonical_read
