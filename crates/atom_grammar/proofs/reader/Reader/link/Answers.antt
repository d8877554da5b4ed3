use Rattle.atom_grammar.specs.Items.{link}
use Rattle.atom_grammar.proofs.ShapeLemmas.{link_renames}
use Rattle.atom_grammar.proofs.ReadingLemmas.{stopped, renamed_absent, renamed_found, behind_found, behind_absent, behind_stuck, ended_found, ended_absent, ended_stuck, both_found, both_absent, both_stuck}
use Rattle.atom_grammar.proofs.reader.Reader.link.Goals as goal

pub returns-in_err-literal : goal.returns-in_err-literal
returns-in_err-literal c =
    stopped _ (λ value. value) link _ c.args.self.now.rest.now c.literal.new.self.rest.now _ c.from_residual.result
    c.in_err-literal.ensures c.from_residual.ensures.1
    (λ none. renamed_absent _ _ _ _ _ link_renames _
    (ended_absent _ _ _
    (both_absent _ _ _
    (both_absent _ _ _ (both_absent _ _ _ (both_absent _ _ _ (both_absent _ _ _ (behind_absent _ _ _ none))))))))

pub returns-in_err-rel : goal.returns-in_err-rel
returns-in_err-rel c =
    stopped _ (λ value. value) link _ c.args.self.now.rest.now c.relation.new.self.rest.now _
    c.from_residual-in_err-rel.result c.in_err-rel.ensures c.from_residual-in_err-rel.ensures.1
    (λ none. renamed_absent _ _ _ _ _ link_renames _
    (ended_absent _ _ _
    (both_absent _ _ _
    (both_absent _ _ _
    (both_absent _ _ _
    (both_absent _ _ _ (both_absent _ _ _ (behind_stuck _ _ _ _ c.in_ok-literal.ensures none))))))))

pub returns-in_err-href : goal.returns-in_err-href
returns-in_err-href c =
    stopped _ (λ value. value) link _ c.args.self.now.rest.now c.attribute.new.self.rest.now _
    c.from_residual-in_err-href.result c.in_err-href.ensures c.from_residual-in_err-href.ensures.1
    (λ none. renamed_absent _ _ _ _ _ link_renames _
    (ended_absent _ _ _
    (both_absent _ _ _
    (both_absent _ _ _
    (both_absent _ _ _
    (both_absent _ _ _
    (both_stuck _ _ _ _ _ (behind_found _ _ _ _ _ _ c.in_ok-literal.ensures c.in_ok-rel.ensures) none)))))))

pub returns-in_err-media : goal.returns-in_err-media
returns-in_err-media c =
    stopped _ (λ value. value) link _ c.args.self.now.rest.now c.optional_attribute.new.self.rest.now _
    c.from_residual-in_err-media.result c.in_err-media.ensures c.from_residual-in_err-media.ensures.1
    (λ none. renamed_absent _ _ _ _ _ link_renames _
    (ended_absent _ _ _
    (both_absent _ _ _
    (both_absent _ _ _
    (both_absent _ _ _
    (both_stuck _ _ _ _ _
    (both_found _ _ _ _ _ _ _ (behind_found _ _ _ _ _ _ c.in_ok-literal.ensures c.in_ok-rel.ensures)
    c.in_ok-href.ensures) none))))))

pub returns-in_err-hreflang : goal.returns-in_err-hreflang
returns-in_err-hreflang c =
    stopped _ (λ value. value) link _ c.args.self.now.rest.now c.optional_attribute-2.new.self.rest.now _
    c.from_residual-in_err-hreflang.result c.in_err-hreflang.ensures c.from_residual-in_err-hreflang.ensures.1
    (λ none. renamed_absent _ _ _ _ _ link_renames _
    (ended_absent _ _ _
    (both_absent _ _ _
    (both_absent _ _ _
    (both_stuck _ _ _ _ _
    (both_found _ _ _ _ _ _ _
    (both_found _ _ _ _ _ _ _ (behind_found _ _ _ _ _ _ c.in_ok-literal.ensures c.in_ok-rel.ensures)
    c.in_ok-href.ensures) c.in_ok-media.ensures) none)))))

pub returns-in_err-title : goal.returns-in_err-title
returns-in_err-title c =
    stopped _ (λ value. value) link _ c.args.self.now.rest.now c.optional_attribute-3.new.self.rest.now _
    c.from_residual-in_err-title.result c.in_err-title.ensures c.from_residual-in_err-title.ensures.1
    (λ none. renamed_absent _ _ _ _ _ link_renames _
    (ended_absent _ _ _
    (both_absent _ _ _
    (both_stuck _ _ _ _ _
    (both_found _ _ _ _ _ _ _
    (both_found _ _ _ _ _ _ _
    (both_found _ _ _ _ _ _ _ (behind_found _ _ _ _ _ _ c.in_ok-literal.ensures c.in_ok-rel.ensures)
    c.in_ok-href.ensures) c.in_ok-media.ensures) c.in_ok-hreflang.ensures) none))))

pub returns-in_err-length : goal.returns-in_err-length
returns-in_err-length c =
    stopped _ (λ value. value) link _ c.args.self.now.rest.now c.optional_attribute-4.new.self.rest.now _
    c.from_residual-in_err-length.result c.in_err-length.ensures c.from_residual-in_err-length.ensures.1
    (λ none. renamed_absent _ _ _ _ _ link_renames _
    (ended_absent _ _ _
    (both_stuck _ _ _ _ _
    (both_found _ _ _ _ _ _ _
    (both_found _ _ _ _ _ _ _
    (both_found _ _ _ _ _ _ _
    (both_found _ _ _ _ _ _ _ (behind_found _ _ _ _ _ _ c.in_ok-literal.ensures c.in_ok-rel.ensures)
    c.in_ok-href.ensures) c.in_ok-media.ensures) c.in_ok-hreflang.ensures) c.in_ok-title.ensures) none)))

pub returns-in_err-literal-2 : goal.returns-in_err-literal-2
returns-in_err-literal-2 c =
    stopped _ (λ value. value) link _ c.args.self.now.rest.now c.literal-2.new.self.rest.now _
    c.from_residual-in_err-literal-2.result c.in_err-literal-2.ensures c.from_residual-in_err-literal-2.ensures.1
    (λ none. renamed_absent _ _ _ _ _ link_renames _
    (ended_stuck _ _ _ _ _
    (both_found _ _ _ _ _ _ _
    (both_found _ _ _ _ _ _ _
    (both_found _ _ _ _ _ _ _
    (both_found _ _ _ _ _ _ _
    (both_found _ _ _ _ _ _ _ (behind_found _ _ _ _ _ _ c.in_ok-literal.ensures c.in_ok-rel.ensures)
    c.in_ok-href.ensures) c.in_ok-media.ensures) c.in_ok-hreflang.ensures) c.in_ok-title.ensures)
    c.in_ok-length.ensures) none))

pub returns : goal.returns
returns c =
    renamed_found _ _ _ _ _ link_renames _ _ _
    (ended_found _ _ _ _ _ _
    (both_found _ _ _ _ _ _ _
    (both_found _ _ _ _ _ _ _
    (both_found _ _ _ _ _ _ _
    (both_found _ _ _ _ _ _ _
    (both_found _ _ _ _ _ _ _ (behind_found _ _ _ _ _ _ c.in_ok-literal.ensures c.in_ok-rel.ensures)
    c.in_ok-href.ensures) c.in_ok-media.ensures) c.in_ok-hreflang.ensures) c.in_ok-title.ensures)
    c.in_ok-length.ensures) c.in_ok-literal-2.ensures) tt
