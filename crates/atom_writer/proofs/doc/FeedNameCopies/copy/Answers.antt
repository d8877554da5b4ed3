use Rattle.atom_writer.proofs.doc.FeedNameCopies.copy.Goals as goal

pub returns-clause-rules : goal.returns-clause-rules
returns-clause-rules c = record {
  base = c.in_ok-base.ensures.rules;
  id = c.in_ok-id.ensures.rules;
  title = c.in_ok-title.ensures.rules;
  author = c.in_ok-author.ensures.rules;
}
