use Rattle.std.proofs.Common.{sym, ◌∙◌}
use Rattle.atom_grammar.specs.Items.{item}
use Rattle.atom_grammar.proofs.ItemLemmas.{item_kept, item_gone, item_not_kept, item_not_gone}
use Rattle.atom_grammar.proofs.ReadingLemmas.{stopped}
use Rattle.atom_grammar.proofs.reader.Reader.item.Goals as goal

pub returns-in_err-entry : goal.returns-in_err-entry
returns-in_err-entry c =
    stopped _ (λ value. value) (item c.args.name.now) _ c.args.self.now.rest.now c.entry.new.self.rest.now _
    c.from_residual.result c.in_err-entry.ensures c.from_residual.ensures.1
    (λ none. item_not_kept c.args.name.now _ (sym c.at.ensures ∙ c.if-at.true) none)

pub returns-in_err-tombstone : goal.returns-in_err-tombstone
returns-in_err-tombstone c =
    stopped _ (λ value. value) (item c.args.name.now) _ c.args.self.now.rest.now c.tombstone.new.self.rest.now _
    c.from_residual-in_err-tombstone.result c.in_err-tombstone.ensures c.from_residual-in_err-tombstone.ensures.1
    (λ none. item_not_gone c.args.name.now _ (sym c.at.ensures ∙ c.if-at.false) none)

pub returns-in_ok-entry : goal.returns-in_ok-entry
returns-in_ok-entry c = item_kept c.args.name.now _ _ _ c.in_ok-entry.ensures

pub returns-in_ok-tombstone : goal.returns-in_ok-tombstone
returns-in_ok-tombstone c = item_gone c.args.name.now _ _ _ c.in_ok-tombstone.ensures
