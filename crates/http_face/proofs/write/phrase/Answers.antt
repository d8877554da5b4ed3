use Rattle.http_face.proofs.PhraseLemmas.{phrase_code}
use Rattle.http_face.proofs.write.phrase.Goals as goal

pub unreachable-requires-in-Err : goal.unreachable-requires-in-Err
unreachable-requires-in-Err c = c.in-Err.ensures (phrase_code c.args.status c.requires)
