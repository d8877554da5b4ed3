use Rattle.atom_grammar.proofs.BodyLemmas.{some_left}
use Rattle.atom_grammar.proofs.WholeLemmas.{whole_left, refused_on}
use Rattle.atom_grammar.proofs.progress.begin.Goals as goal

pub read_all-requires-clause-whole : goal.read_all-requires-clause-whole
read_all-requires-clause-whole c =
    whole_left c.in-Ok.body c.in-Ok.ensures.keeps c.args.pieces.now.rest.now c.head.new.pieces.rest.now c.requires.whole
    c.in-Ok.ensures.split

pub returns-else-is_empty-clause-refused : goal.returns-else-is_empty-clause-refused
returns-else-is_empty-clause-refused c = λ _.
    refused_on c.args.pieces.now.rest.now c.head.new.pieces.rest.now
    (rw c.in-Err-Mismatch.field-0-is at c.in-Err-Mismatch.ensures) c.requires.whole
    (some_left c.head.new.pieces.rest.now c.if-is_empty.ensures)
