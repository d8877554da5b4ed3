use Rattle.mirror_commands.proofs.CertifiedLemmas.{certificate-base}
use Rattle.mirror_commands.proofs.report.certificate.Goals as goal

pub returns-in-Ok-clause-certificate : goal.returns-in-Ok-clause-certificate
returns-in-Ok-clause-certificate g c = λ observable loaded.
    certificate-base c.args.mirror.now.base c.args.mirror.now.kept c.in-Ok.certificate loaded c.in-Ok.ensures.base
    (c.in-Ok.ensures.certificate observable)
