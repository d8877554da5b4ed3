use Rattle.coverage_certificate.proofs.ReadingLemmas.{reading_only, reading_refused}
use Rattle.coverage_certificate.proofs.certificate.Certificate.read.Goals as goal

pub returns-clause-only : goal.returns-clause-only
returns-clause-only c = reading_only c.args.text.now c.read_lines.result c.read_lines.ensures

pub returns-clause-refused : goal.returns-clause-refused
returns-clause-refused c = reading_refused c.args.text.now c.read_lines.result c.read_lines.ensures
