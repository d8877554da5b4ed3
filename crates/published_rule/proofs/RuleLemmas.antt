-- The laws from their parts.
use Rattle.std.proofs.Common.{take}
use Rattle.member_rules.specs.Windows.{windows_of}
use Rattle.member_rules.specs.Chain.{chain, chain_of}
use Rattle.member_rules.proofs.CutLemmas.{windows-cut}
use Rattle.member_rules.proofs.LawLemmas.{law-of_chain}
use Rattle.member_rules.proofs.ServedLemmas.{prefix-lawful}
use Rattle.member_rules.proofs.ShowsLemmas.{live_of-is_shown}
use Rattle.published_rule.specs.Laws.{ChainsKeepTheRule, CutsKeepTheRule, LiveOfCounts}
use Rattle.published_rule.proofs.CutRuleLemmas.{chain-dated}
use Rattle.published_rule.proofs.DatedLemmas.{dated-rule}

pub rule-of_cuts : CutsKeepTheRule
rule-of_cuts head history ends archives is_head lawful open_cut =
    dated-rule (chain_of ends archives head history)
    (chain-dated ends archives head history lawful.following open_cut)

pub rule-of_chains : ChainsKeepTheRule
unfolding chain
rule-of_chains head history version is_head lawful past =
    let covered = take version history in
    rule-of_cuts head covered (windows_of head covered).ends (windows_of head covered).sealed is_head
    (prefix-lawful head history version lawful) (windows-cut head covered is_head.limits.window)

pub live_of-counts : LiveOfCounts
live_of-counts head history version is_head lawful past number entry =
    let covered = take version history in
    let rules = (law-of_chain head covered is_head (prefix-lawful head history version lawful)).rules in
    let rule = rule-of_chains head history version is_head lawful past number entry in
    let shown = live_of-is_shown (chain head covered) number entry rules in (
      λ counts. shown.0 (rule.0 counts),
      λ live. rule.1 (shown.1 live),
    )
