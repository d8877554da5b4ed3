use Rattle.coverage_auditor.proofs.OwnLemmas.{own-accepted}
use Rattle.coverage_auditor.proofs.laws.own_certificates_are_accepted.Goals as goal

pub returns : goal.returns
returns c = own-accepted
