use Rattle.member_rules.proofs.LawLemmas.{law-of_cuts, law-of_chain}
use Rattle.member_rules.proofs.CutLemmas.{windows-cut}
use Rattle.member_rules.proofs.laws.chain_shows_the_fold.Goals as goal

pub returns : goal.returns
returns c = record {
  cuts = law-of_cuts;
  windows = λ head history is_head. windows-cut head history is_head.limits.window;
  chain = law-of_chain;
}
