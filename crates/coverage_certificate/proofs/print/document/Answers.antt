use Rattle.std.proofs.Common.{rules, arith}
use Rattle.std.proofs.lemmas.Grind.{common_steps}
use Rattle.chain_links.specs.Address.{printed}
use Rattle.coverage_certificate.proofs.print.document.Goals as goal

pub returns : goal.returns
unfolding printed
returns c = first_of (search rules, grind (arith, common_steps))
