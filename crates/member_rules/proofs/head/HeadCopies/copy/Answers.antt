use Rattle.member_rules.proofs.head.HeadCopies.copy.Goals as goal

pub returns-clause-rules : goal.returns-clause-rules
returns-clause-rules c = rw (← c.self.view_is) (record {
  name = c.in_ok-copy.ensures.rules;
  created = c.in_ok-copy-2.ensures.rules;
  limits = c.self.invariant;
})
