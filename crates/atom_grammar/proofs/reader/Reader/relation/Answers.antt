use Rattle.std.proofs.Common.{sym, ap, ◌∙◌}
use Rattle.std.specs.Prelude.{codes, bytes_eq}
use Rattle.atom_grammar.specs.Items.{relation}
use Rattle.atom_grammar.proofs.ReadingLemmas.{stopped, renamed_absent}
use Rattle.atom_grammar.proofs.ShapeLemmas.{relation_renames, relation_none, relation_some, relation_refused}
use Rattle.atom_grammar.proofs.reader.Reader.relation.Goals as goal

pub returns-in_err-relation : goal.returns-in_err-relation
returns-in_err-relation c =
    stopped _ (λ value. value) relation _ c.args.self.now.rest.now c.optional_attribute.new.self.rest.now _
    c.from_residual.result c.in_err-relation.ensures c.from_residual.ensures.1
    (λ none. renamed_absent _ _ _ _ _ relation_renames _ none)

pub returns-in_default : goal.returns-in_default
returns-in_default c =
    relation_none _ _ _ c.in_ok-relation.field-0 c.in_ok-relation.ensures c.in_default.is c.in_ok-alternate.ensures

pub returns-then-eq : goal.returns-then-eq
returns-then-eq c =
    relation_refused _ _ c.in-Some.relation c.in_ok-relation.field-0 c.in_ok-relation.ensures c.in-Some.is
    (ap (λ x. bytes_eq x (codes "alternate")) (sym c.bytes.ensures.bytes) ∙ sym c.eq.ensures ∙ c.if-eq.true)

pub returns : goal.returns
returns c =
    relation_some _ _ c.in-Some.relation c.in_ok-relation.field-0 c.in_ok-relation.ensures c.in-Some.is
    (ap (λ x. bytes_eq x (codes "alternate")) (sym c.bytes.ensures.bytes) ∙ sym c.eq.ensures ∙ c.if-eq.false)
