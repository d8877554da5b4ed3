use Rattle.std.proofs.Common.{ℕ, List, subst}
use Rattle.std.proofs.lemmas.List.Elements.{All-nil}
use Rattle.atom_values.specs.Person.{IsPerson}
use Rattle.atom_writer.specs.Parts.{person_text}
use Rattle.atom_values.proofs.WalkLemmas.{All-one_more}
use Rattle.atom_writer.proofs.PieceLemmas.{flat_map-more}
use Rattle.atom_writer.proofs.person.push_persons.Goals as goal

pub loop-person-init : goal.loop-person-init
loop-person-init g c = record { added = g.met.W.Out.starts _; rules = All-nil IsPerson }

pub loop-person-preserved : goal.loop-person-preserved
loop-person-preserved g c =
    let items = c.args.persons.now in
    let i = c.loop-person.person-index in
    record {
      added = subst (λ (s : List ℕ). g.W.Out.adds c.args.out.now c.push_person.new.out s)
          (flat_map-more (person_text c.args.tag.now) items i c.person-item.result c.loop-person-test.true
          c.person-item.is)
          (g.met.W.Out.joins _ _ _ _ _ c.loop-person.invariant.added c.in_ok-push_person.ensures.added);
      rules = All-one_more IsPerson items i c.person-item.result c.loop-person-test.true c.person-item.is
          c.loop-person.invariant.rules c.in_ok-push_person.ensures.rules;
    }
