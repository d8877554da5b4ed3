use Rattle.std.proofs.Common.{sym, ap, ◌∙◌, Err}
use Rattle.atom_values.specs.Listed.{Listed}
use Rattle.atom_values.specs.declared.person.Person.{Person}
use Rattle.atom_grammar.specs.Items.{person, persons}
use Rattle.atom_grammar.proofs.ManyLemmas.{many_stuck, many_found, shorter, few_pushed, gathered_pushed, push_stopped}
use Rattle.atom_grammar.proofs.ReadingLemmas.{stopped}
use Rattle.atom_grammar.proofs.ShapeLemmas.{person_closed, person_starts, person_alone, end_tag}
use Rattle.atom_grammar.proofs.reader.Reader.persons.Goals as goal

pub returns-in_err-person : goal.returns-in_err-person
returns-in_err-person c =
    stopped _ (λ (m : Listed Person). m.items) (persons c.args.start.now c.args.end.now) _ c.args.self.now.rest.now
    c.person.new.self.rest.now _ c.from_residual.result c.in_err-person.ensures c.from_residual.ensures.1
    (λ none. many_stuck 16 c.args.start.now (person c.args.start.now c.args.end.now)
    (person_closed c.args.start.now c.args.end.now)
    (person_starts c.args.start.now c.args.end.now (end_tag c.args.end.now c.requires.end))
    (person_alone c.args.start.now c.args.end.now (end_tag c.args.end.now c.requires.end))
    c.args.self.now.rest.now c.loop-alloc.self.rest.now c.loop-alloc.persons.items c.loop-alloc.invariant.gathered
    (sym c.at.ensures ∙ c.loop-alloc-test.true) none)

pub loop-alloc-smaller : goal.loop-alloc-smaller
loop-alloc-smaller c =
    shorter c.args.start.now (person c.args.start.now c.args.end.now)
    (person_starts c.args.start.now c.args.end.now (end_tag c.args.end.now c.requires.end)) c.requires.start
    c.loop-alloc.self.rest.now c.person.new.self.rest.now c.in_ok-person.field-0 c.in_ok-person.ensures

pub loop-alloc-preserved : goal.loop-alloc-preserved
loop-alloc-preserved c = record {
  few =
      few_pushed 16 c.loop-alloc.persons.items c.push.new.self.items c.in_ok-person.field-0 c.in_ok-push.ensures.ok
      c.loop-alloc.invariant.few (λ full. let h = c.in_ok-push.ensures.full.1 full in absurd (cc));
  gathered =
      gathered_pushed (person c.args.start.now c.args.end.now) c.args.self.now.rest.now c.loop-alloc.self.rest.now
      c.person.new.self.rest.now c.loop-alloc.persons.items c.push.new.self.items c.in_ok-person.field-0
      c.in_ok-push.ensures.ok c.loop-alloc.invariant.gathered c.in_ok-person.ensures;
}

pub returns-in_err-push : goal.returns-in_err-push
returns-in_err-push c =
    push_stopped (λ (m : Listed Person). m.items) 16 c.args.start.now (person c.args.start.now c.args.end.now)
    (person_closed c.args.start.now c.args.end.now)
    (person_starts c.args.start.now c.args.end.now (end_tag c.args.end.now c.requires.end))
    (person_alone c.args.start.now c.args.end.now (end_tag c.args.end.now c.requires.end))
    c.args.self.now.rest.now c.loop-alloc.self.rest.now c.person.new.self.rest.now c.loop-alloc.persons.items
    c.in_ok-person.field-0 c.in_err-push.field-0.0 c.from_residual-in_err-push.result
    c.loop-alloc.invariant.gathered c.in_ok-person.ensures c.from_residual-in_err-push.ensures.1
    c.in_err-push.ensures.refusals (λ e. c.in_err-push.ensures.full.0 (ap (λ x. Err x) e))

pub returns : goal.returns
returns c =
    many_found 16 c.args.start.now (person c.args.start.now c.args.end.now)
    (person_closed c.args.start.now c.args.end.now)
    (person_starts c.args.start.now c.args.end.now (end_tag c.args.end.now c.requires.end))
    (person_alone c.args.start.now c.args.end.now (end_tag c.args.end.now c.requires.end))
    c.args.self.now.rest.now c.loop-alloc.self.rest.now c.loop-alloc.persons.items c.loop-alloc.invariant.gathered
    c.loop-alloc.invariant.few (sym c.at.ensures ∙ c.loop-alloc-test.false)
