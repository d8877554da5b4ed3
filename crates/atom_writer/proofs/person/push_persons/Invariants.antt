use Rattle.std.proofs.Common.{All, take}
use Rattle.std.specs.Prelude.{flat_map}
use Rattle.atom_values.specs.Person.{IsPerson}
use Rattle.atom_writer.specs.Parts.{person_text}
use Rattle.atom_writer.proofs.person.push_persons.Given as goal

abbrev pub invariant-loop-person : goal.invariant-loop-person
invariant-loop-person g l = record {
  added : g.W.Out.adds l.fn.out l.out (flat_map (person_text l.tag) (take l.person-index l.persons));
  rules : All IsPerson (take l.person-index l.persons);
}
