use Rattle.std.proofs.Common.{[]}
use Rattle.atom_grammar.proofs.read.read_doc.Goals as goal

pub returns-clause-only : goal.returns-clause-only
returns-clause-only c = c.finish.ensures.only c.args.bytes.now (c.feed.ensures.read [] c.new-reader.ensures)

pub returns-clause-refused : goal.returns-clause-refused
returns-clause-refused c = c.finish.ensures.refused c.args.bytes.now (c.feed.ensures.read [] c.new-reader.ensures)
