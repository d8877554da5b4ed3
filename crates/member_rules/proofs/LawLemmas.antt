-- The law of the chain, from its parts.
use Rattle.std.proofs.Common.{length}
use Rattle.member_rules.specs.Windows.{windows_of}
use Rattle.member_rules.specs.Chain.{chain}
use Rattle.member_rules.specs.Laws.{LawOfCuts, LawOfTheChain}
use Rattle.member_rules.proofs.ChainShowsLemmas.{chain_of-live, chain_of-shows, chain_of-count}
use Rattle.member_rules.proofs.ChainLinksLemmas.{chain_of-is_chain, chain_of-documents}
use Rattle.member_rules.proofs.CutLemmas.{IsCut-open, windows-cut}

pub law-of_cuts : LawOfCuts
law-of_cuts head history ends archives is_head lawful open_cut =
    let cut = IsCut-open ends archives (length history) open_cut in
    record {
      shows = chain_of-shows ends archives head history cut;
      live = chain_of-live ends archives head history cut;
      count = chain_of-count ends archives head head.created history cut lawful.following;
      is_chain = chain_of-is_chain ends archives head history cut;
      rules = chain_of-documents ends archives head history is_head lawful open_cut;
    }

pub law-of_chain : LawOfTheChain
unfolding chain
law-of_chain head history is_head lawful =
    law-of_cuts head history (windows_of head history).ends (windows_of head history).sealed is_head lawful
    (windows-cut head history is_head.limits.window)
