use Rattle.std.proofs.Common.{codes}
use Rattle.coverage_certificate.proofs.FieldLemmas.{after_none}
use Rattle.coverage_certificate.proofs.read.read_head.Goals as goal

pub returns-clause-none : goal.returns-clause-none
returns-clause-none c = after_none c.args.text.now (codes "coverage 1\n") c.after.result c.after.ensures.only
