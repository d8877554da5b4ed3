use Rattle.std.proofs.Common.{rules}
use Rattle.atom_grammar.proofs.OwnAddressLemmas.{all_lack, last_split}
use Rattle.atom_grammar.proofs.TextLemmas.{none_given}
use Rattle.atom_grammar.proofs.feed_parts.split_at_last_slash.Goals as goal

pub returns-in_err-at : goal.returns-in_err-at
returns-in_err-at c =
    none_given _ _ c.from_residual.result c.from_residual.ensures (all_lack 47 c.args.text.now (search rules))

pub returns : goal.returns
returns c = last_split 47 c.args.text.now c.in_ok-at.at (search rules) (search rules) (search rules)
