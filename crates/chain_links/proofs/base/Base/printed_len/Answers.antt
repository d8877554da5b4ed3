use Rattle.std.proofs.Common.{length, arith, ap}
use Rattle.chain_links.proofs.AddressLemmas.{length-printed}
use Rattle.chain_links.proofs.base.Base.printed_len.Goals as goal

pub returns-clause-length : goal.returns-clause-length
returns-clause-length c = omega (arith, length-printed c.args.self.now c.args.address, ap length c.self.view_is)

pub returns-clause-bound : goal.returns-clause-bound
returns-clause-bound c = omega (arith, c.self.invariant.base.short)
