use Rattle.own_chain.proofs.LawLemmas.{own-read, own-walked}
use Rattle.own_chain.proofs.laws.own_chains_are_read.Goals as goal

pub returns-clause-read : goal.returns-clause-read
returns-clause-read c = own-read c.canonical_text_is_read.ensures c.walks_end_in_one_way.ensures.ends

pub returns-clause-walked : goal.returns-clause-walked
returns-clause-walked c = own-walked c.canonical_text_is_read.ensures
