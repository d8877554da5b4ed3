use Rattle.std.proofs.Common.{sym, ap, refl, ◌∙◌, Err}
use Rattle.std.specs.Prelude.{codes}
use Rattle.atom_values.specs.Listed.{Listed}
use Rattle.atom_values.specs.declared.category.Category.{Category}
use Rattle.atom_grammar.specs.Items.{category, categories}
use Rattle.atom_grammar.proofs.ManyLemmas.{many_stuck, many_found, shorter, few_pushed, gathered_pushed, push_stopped}
use Rattle.atom_grammar.proofs.ReadingLemmas.{stopped}
use Rattle.atom_grammar.proofs.ShapeLemmas.{category_closed, category_starts, category_alone}
use Rattle.atom_grammar.proofs.reader.Reader.categories.Goals as goal

pub returns-in_err-category : goal.returns-in_err-category
returns-in_err-category c =
    stopped _ (λ (m : Listed Category). m.items) categories _ c.args.self.now.rest.now c.category.new.self.rest.now _
    c.from_residual.result c.in_err-category.ensures c.from_residual.ensures.1
    (λ none. many_stuck 64 (codes "<category") category category_closed category_starts category_alone
    c.args.self.now.rest.now c.loop-alloc.self.rest.now c.loop-alloc.categories.items
    c.loop-alloc.invariant.gathered (sym c.at.ensures ∙ c.loop-alloc-test.true) none)

pub loop-alloc-smaller : goal.loop-alloc-smaller
loop-alloc-smaller c =
    shorter (codes "<category") category category_starts refl c.loop-alloc.self.rest.now c.category.new.self.rest.now
    c.in_ok-category.field-0 c.in_ok-category.ensures

pub loop-alloc-preserved : goal.loop-alloc-preserved
loop-alloc-preserved c = record {
  few =
      few_pushed 64 c.loop-alloc.categories.items c.push.new.self.items c.in_ok-category.field-0
      c.in_ok-push.ensures.ok c.loop-alloc.invariant.few (λ full. let h = c.in_ok-push.ensures.full.1 full in
      absurd (cc));
  gathered =
      gathered_pushed category c.args.self.now.rest.now c.loop-alloc.self.rest.now c.category.new.self.rest.now
      c.loop-alloc.categories.items c.push.new.self.items c.in_ok-category.field-0 c.in_ok-push.ensures.ok
      c.loop-alloc.invariant.gathered c.in_ok-category.ensures;
}

pub returns-in_err-push : goal.returns-in_err-push
returns-in_err-push c =
    push_stopped (λ (m : Listed Category). m.items) 64 (codes "<category") category category_closed category_starts
    category_alone c.args.self.now.rest.now c.loop-alloc.self.rest.now c.category.new.self.rest.now
    c.loop-alloc.categories.items c.in_ok-category.field-0 c.in_err-push.field-0.0
    c.from_residual-in_err-push.result
    c.loop-alloc.invariant.gathered c.in_ok-category.ensures c.from_residual-in_err-push.ensures.1
    c.in_err-push.ensures.refusals (λ e. c.in_err-push.ensures.full.0 (ap (λ x. Err x) e))

pub returns : goal.returns
returns c =
    many_found 64 (codes "<category") category category_closed category_starts category_alone c.args.self.now.rest.now
    c.loop-alloc.self.rest.now c.loop-alloc.categories.items c.loop-alloc.invariant.gathered
    c.loop-alloc.invariant.few (sym c.at.ensures ∙ c.loop-alloc-test.false)
