use Rattle.std.proofs.Common.{◌≡◌, ◌≤◌, ◌<◌, ◌==◌, ◌++◌, ◌∷◌, [], true, false, refl, sym, ap, subst, ◌∙◌, arith}
use Rattle.std.proofs.Common.{eqb-true, inl, ⊎_elim, Err}
use Rattle.std.proofs.lemmas.Bool.{eqb-false}
use Rattle.atom_values.specs.Entry.{person_limit}
use Rattle.entry_reader.specs.declared.fault.Why.TheVariants.{TooMany}
use Rattle.entry_reader.specs.Faults.Within.{in_entry}
use Rattle.xml_tokens.specs.Progress.{pending}
use Rattle.entry_reader.specs.Parts.{IsStopped, count_of}
use Rattle.entry_reader.proofs.ChildLemmas.{own_faultless}
use Rattle.entry_reader.proofs.entry.author.Goals as goal

pub returns-in-Ok-clause-read : goal.returns-in-Ok-clause-read
returns-in-Ok-clause-read c = λ from before e at of is count.
    let items = c.args.persons.now.items in
    let long = c.len.ensures.count in
    let within = c.len.ensures.within in
    let many : (c.len.result == 16) ≡ true → person_limit ≤ count_of e.name before = λ full.
    let same = eqb-true c.len.result 16 full in omega arith in
    let few : (c.len.result == 16) ≡ false → count_of e.name before < person_limit = λ room.
    let other = eqb-false c.len.result 16 room in omega arith in
    let x = c.in_ok-person.ensures.read from before e at of is many few in
    (x.0, x.1, x.2, x.3, (c.in-Ok.ensures.ok ∙ ap (λ m. items ++ m ∷ []) x.4.0, x.4.1))

pub returns-in-Err-clause-read : goal.returns-in-Err-clause-read
returns-in-Err-clause-read c = λ from before e at of is count.
    let old = c.args.elements.now in
    let new = c.person.new.elements in
    let long = c.len.ensures.count in
    let within = c.len.ensures.within in
    let many : (c.len.result == 16) ≡ true → person_limit ≤ count_of e.name before = λ full.
    let same = eqb-true c.len.result 16 full in omega arith in
    let few : (c.len.result == 16) ≡ false → count_of e.name before < person_limit = λ room.
    let other = eqb-false c.len.result 16 room in omega arith in
    let x = c.in_ok-person.ensures.read from before e at of is many few in
    ⊎_elim
    (λ full.
    let sixteen = c.in-Err.ensures.full.0 (ap (λ f. Err f) full) in
    let limit : person_limit ≤ count_of e.name before = omega arith in
    absurd (own_faultless before e x.0 x.4.1 TooMany (inl ((refl, is), limit))))
    (λ memory.
    subst (λ k. IsStopped old.length (pending old) from in_entry before e k new)
    (sym (c.list_end.ensures.memory memory)) tt)
    c.in-Err.ensures.refusals
