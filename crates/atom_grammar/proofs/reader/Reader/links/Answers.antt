use Rattle.std.proofs.Common.{sym, ap, refl, ◌∙◌, Err}
use Rattle.std.specs.Prelude.{codes}
use Rattle.atom_values.specs.Listed.{Listed}
use Rattle.atom_values.specs.declared.link.Link.{Link}
use Rattle.atom_grammar.specs.Items.{link, links}
use Rattle.atom_grammar.proofs.ManyLemmas.{many_stuck, many_found, shorter, few_pushed, gathered_pushed, push_stopped}
use Rattle.atom_grammar.proofs.ReadingLemmas.{stopped}
use Rattle.atom_grammar.proofs.ShapeLemmas.{link_closed, link_starts, link_alone}
use Rattle.atom_grammar.proofs.reader.Reader.links.Goals as goal

pub returns-in_err-link : goal.returns-in_err-link
returns-in_err-link c =
    stopped _ (λ (m : Listed Link). m.items) links _ c.args.self.now.rest.now c.link.new.self.rest.now _
    c.from_residual.result c.in_err-link.ensures c.from_residual.ensures.1
    (λ none. many_stuck 32 (codes "<link") link link_closed link_starts link_alone c.args.self.now.rest.now
    c.loop-alloc.self.rest.now c.loop-alloc.links.items c.loop-alloc.invariant.gathered (sym c.at.ensures
    ∙ c.loop-alloc-test.true) none)

pub loop-alloc-smaller : goal.loop-alloc-smaller
loop-alloc-smaller c =
    shorter (codes "<link") link link_starts refl c.loop-alloc.self.rest.now c.link.new.self.rest.now
    c.in_ok-link.field-0 c.in_ok-link.ensures

pub loop-alloc-preserved : goal.loop-alloc-preserved
loop-alloc-preserved c = record {
  few =
      few_pushed 32 c.loop-alloc.links.items c.push.new.self.items c.in_ok-link.field-0 c.in_ok-push.ensures.ok
      c.loop-alloc.invariant.few (λ full. let h = c.in_ok-push.ensures.full.1 full in absurd (cc));
  gathered =
      gathered_pushed link c.args.self.now.rest.now c.loop-alloc.self.rest.now c.link.new.self.rest.now
      c.loop-alloc.links.items c.push.new.self.items c.in_ok-link.field-0 c.in_ok-push.ensures.ok
      c.loop-alloc.invariant.gathered c.in_ok-link.ensures;
}

pub returns-in_err-push : goal.returns-in_err-push
returns-in_err-push c =
    push_stopped (λ (m : Listed Link). m.items) 32 (codes "<link") link link_closed link_starts link_alone
    c.args.self.now.rest.now c.loop-alloc.self.rest.now c.link.new.self.rest.now c.loop-alloc.links.items
    c.in_ok-link.field-0 c.in_err-push.field-0.0 c.from_residual-in_err-push.result
    c.loop-alloc.invariant.gathered c.in_ok-link.ensures c.from_residual-in_err-push.ensures.1
    c.in_err-push.ensures.refusals (λ e. c.in_err-push.ensures.full.0 (ap (λ x. Err x) e))

pub returns : goal.returns
returns c =
    many_found 32 (codes "<link") link link_closed link_starts link_alone c.args.self.now.rest.now
    c.loop-alloc.self.rest.now c.loop-alloc.links.items c.loop-alloc.invariant.gathered c.loop-alloc.invariant.few
    (sym c.at.ensures ∙ c.loop-alloc-test.false)
