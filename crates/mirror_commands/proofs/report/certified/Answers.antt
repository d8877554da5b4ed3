use Rattle.std.proofs.Common.{sym, ◌∙◌}
use Rattle.mirror_commands.proofs.CertifiedLemmas.{complete-best}
use Rattle.mirror_commands.proofs.report.certified.Goals as goal

pub certificate-requires-clause-best : goal.certificate-requires-clause-best
certificate-requires-clause-best g c =
    complete-best c.args.mirror.now.kept c.in-Complete.version c.in-Complete.live
    (sym c.requires.outcome.is ∙ c.in-Complete.is)
