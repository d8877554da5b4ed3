use Rattle.atom_writer.proofs.doc.DocCopies.copy.Goals as goal

pub returns-clause-rules : goal.returns-clause-rules
returns-clause-rules c = rw (← c.self.view_is) (record {
  name = c.in_ok-name.ensures.rules;
  first = c.in_ok-first.ensures.rules;
  last = c.in_ok-last.ensures.rules;
  prev = c.in_ok-prev.ensures.rules;
  updated = c.in_ok-updated.ensures.rules;
  items = c.in_ok-items.ensures.rules.1;
  rules = c.self.invariant;
})
