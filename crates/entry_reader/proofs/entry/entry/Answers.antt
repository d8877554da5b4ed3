use Rattle.std.proofs.Common.{Err, sym, ap, subst, ◌∙◌}
use Rattle.entry_reader.specs.declared.fault.EarlyEnd.TheVariants.{Refused}
use Rattle.entry_reader.specs.declared.fault.Why.TheVariants.{Missing, NotAnEntry}
use Rattle.xml_tokens.specs.Progress.{pending}
use Rattle.entry_reader.specs.Parts.{IsEntryFrom}
use Rattle.entry_reader.proofs.EntryLemmas.{end_faulty, entry_read, other_root, parts_stopped, untitled}
use Rattle.entry_reader.proofs.ChildLemmas.{stop_is}
use Rattle.xml_tokens.proofs.ProgressLemmas.{led_nowhere}
use Rattle.entry_reader.proofs.entry.entry.Goals as goal

pub returns-then-not-is_atom-clause-read : goal.returns-then-not-is_atom-clause-read
returns-then-not-is_atom-clause-read c = λ from e at of.
    let old = c.args.elements.now in
    subst (λ s. IsEntryFrom old.length (pending old) from e (Err s) old)
    (ap (λ k. Refused k NotAnEntry) of.place ∙ sym c.refused.ensures)
    (other_root old.length (pending old) from e old (led_nowhere old from at)
    (sym (c.is_atom.ensures e of) ∙ c.if-not-is_atom.true))

pub returns-in_err-parts-clause-read : goal.returns-in_err-parts-clause-read
returns-in_err-parts-clause-read c = λ from e at of.
    let old = c.args.elements.now in
    let new = c.read_parts.new.elements in
    let stop = c.in_err-parts.field-0.0 in
    stop_is (λ r. IsEntryFrom old.length (pending old) from e r new) stop c.from_residual.result
    c.from_residual.ensures.1
    (parts_stopped old.length (pending old) from e (sym (c.is_atom.ensures e of) ∙ c.if-not-is_atom.false) stop new
    (c.in_err-parts.ensures from at))

pub drain-requires : goal.drain-requires
drain-requires c =
    let x = c.in_ok-parts.ensures c.requires.reading.0 c.requires.reading.1 in
    (x.2.to, x.2.is_at)

pub returns-in-Err-clause-read : goal.returns-in-Err-clause-read
returns-in-Err-clause-read c = λ from e at of.
    let old = c.args.elements.now in
    let x = c.in_ok-parts.ensures from at in
    end_faulty old.length (pending old) from e (sym (c.is_atom.ensures e of) ∙ c.if-not-is_atom.false)
    c.in_ok-parts.parts c.read_parts.new.elements c.drain.new.self x c.in-Err.fault
    (c.in-Err.ensures.read x.2.to x.2.is_at)

pub returns-in-Some-clause-read : goal.returns-in-Some-clause-read
returns-in-Some-clause-read c = λ from e at of.
    let old = c.args.elements.now in
    let x = c.in_ok-parts.ensures from at in
    entry_read old.length (pending old) from e (sym (c.is_atom.ensures e of) ∙ c.if-not-is_atom.false)
    c.in_ok-parts.parts c.read_parts.new.elements c.drain.new.self x (c.in_default.ensures.read x.2.to x.2.is_at)
    c.in-Some.draft (c.in-Some.ensures.made x.0 x.4)

pub returns-in-None-clause-read : goal.returns-in-None-clause-read
returns-in-None-clause-read c = λ from e at of.
    let old = c.args.elements.now in
    let new = c.drain.new.self in
    let x = c.in_ok-parts.ensures from at in
    subst (λ s. IsEntryFrom old.length (pending old) from e (Err s) new)
    (ap (λ k. Refused k Missing) of.place ∙ sym c.refused-in-None.ensures)
    (untitled old.length (pending old) from e (sym (c.is_atom.ensures e of) ∙ c.if-not-is_atom.false)
    c.in_ok-parts.parts c.read_parts.new.elements new x (c.in_default.ensures.read x.2.to x.2.is_at)
    (c.in-None.ensures.made x.0 x.4))
