use Rattle.mirror_walk.proofs.MirrorLemmas.{law-of_mirror}
use Rattle.mirror_walk.proofs.laws.served_documents_show_the_fold.Goals as goal

pub returns : goal.returns
returns c = law-of_mirror
