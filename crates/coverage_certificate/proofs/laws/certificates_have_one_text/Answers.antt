use Rattle.coverage_certificate.proofs.SameLemmas.{one_text}
use Rattle.coverage_certificate.proofs.laws.certificates_have_one_text.Goals as goal

pub returns : goal.returns
returns c = one_text
