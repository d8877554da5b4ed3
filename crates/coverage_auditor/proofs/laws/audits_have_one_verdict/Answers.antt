use Rattle.coverage_auditor.proofs.UniqueLemmas.{one-verdict}
use Rattle.coverage_auditor.proofs.laws.audits_have_one_verdict.Goals as goal

pub returns : goal.returns
returns c = one-verdict
