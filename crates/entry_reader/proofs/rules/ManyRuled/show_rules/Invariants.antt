use Rattle.std.proofs.Common.{take, All}
use Rattle.entry_reader.proofs.rules.ManyRuled.show_rules.Given as goal

abbrev pub invariant-loop-item : goal.invariant-loop-item
invariant-loop-item g l = All g.T.Copies.rules (take l.item-index l.item-items)
