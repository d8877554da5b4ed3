use Rattle.std.proofs.Common.{◌≡◌, sym, subst}
use Rattle.entry_reader.specs.declared.fault.EarlyEnd.TheVariants.{Fault}
use Rattle.entry_reader.specs.Entry.{person}
use Rattle.entry_reader.specs.Faults.Within.{in_entry}
use Rattle.xml_tokens.specs.Progress.{pending}
use Rattle.entry_reader.specs.Parts.{IsFaultlessIn, IsPartRead, person_of}
use Rattle.entry_reader.proofs.ChildLemmas.{stop_is}
use Rattle.entry_reader.proofs.PersonLemmas.{person_read}
use Rattle.entry_reader.proofs.person.person.Goals as goal

pub returns-clause-read : goal.returns-clause-read
returns-clause-read c = λ from before e at of is many few.
    let old = c.args.elements.now in
    let new = c.read_fields.new.elements in
    let full = c.args.full in
    let x = c.in_ok-read_fields.ensures.read from at in
    let fields = c.in_ok-read_fields.field-0 in
    subst (λ r. IsPartRead old.length (pending old) from in_entry before e
    (λ inner made. (made ≡ person (record { element = e; content = inner }))
    × IsFaultlessIn in_entry before e inner) r new)
    (sym c.person.ensures)
    (subst (λ k. IsPartRead old.length (pending old) from in_entry before e
    (λ inner made. (made ≡ person (record { element = e; content = inner })) × IsFaultlessIn in_entry before e inner)
    (person_of fields k full) new) of.place
    (person_read old.length (pending old) from before e x.0 x.1 fields new x.2 x.3 x.4 is full many few))

pub returns-in_err-read_fields-clause-read : goal.returns-in_err-read_fields-clause-read
returns-in_err-read_fields-clause-read c = λ from before e at of is many few.
    let old = c.args.elements.now in
    stop_is (λ r. IsPartRead old.length (pending old) from in_entry before e
    (λ inner made. (made ≡ person (record { element = e; content = inner })) × IsFaultlessIn in_entry before e inner) r
    c.read_fields.new.elements) (Fault c.in_err-read_fields.field-0.0) c.from_residual.result c.from_residual.ensures.1
    (c.in_err-read_fields.ensures.read from at)
