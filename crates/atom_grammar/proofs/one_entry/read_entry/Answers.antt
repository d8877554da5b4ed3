use Rattle.std.proofs.Common.{Some, length, sym, ap, subst}
use Rattle.std.proofs.lemmas.Bool.{eqb-true}
use Rattle.std.proofs.lemmas.List.{nil_from_length}
use Rattle.atom_values.specs.Entry.{EntryValue}
use Rattle.atom_grammar.specs.Items.{entry}
use Rattle.atom_grammar.specs.Parts.{IsAbsent, IsFound, IsPartFault}
use Rattle.atom_grammar.proofs.BodyLemmas.{some_left}
use Rattle.atom_grammar.proofs.PlaceLemmas.{entry_found, entry_only, entry_none}
use Rattle.atom_grammar.proofs.one_entry.read_entry.Goals as goal

pub returns-then-is_empty-clause-found : goal.returns-then-is_empty-clause-found
returns-then-is_empty-clause-found c =
    let name = c.args.name.now in
    let rest = c.entry.new.self.rest.now in
    entry_found name c.args.piece.now c.in-Ok.entry rest
    (subst (λ z. IsFound (entry name) z c.in-Ok.entry rest) c.new-reader.ensures c.in-Ok.ensures)
    (nil_from_length rest (eqb-true (length rest) 0 (sym c.if-is_empty.ensures)))

pub returns-then-is_empty-clause-only : goal.returns-then-is_empty-clause-only
returns-then-is_empty-clause-only c = λ other is e.
    let name = c.args.name.now in
    let rest = c.entry.new.self.rest.now in
    let one =
    entry_only name c.args.piece.now c.in-Ok.entry rest
    (subst (λ z. IsFound (entry name) z c.in-Ok.entry rest) c.new-reader.ensures c.in-Ok.ensures) other is e in
    ap (λ (z : EntryValue). Some z) one.0

pub returns-else-is_empty-clause-only : goal.returns-else-is_empty-clause-only
returns-else-is_empty-clause-only c = λ other is e.
    let name = c.args.name.now in
    let rest = c.entry.new.self.rest.now in
    let one =
    entry_only name c.args.piece.now c.in-Ok.entry rest
    (subst (λ z. IsFound (entry name) z c.in-Ok.entry rest) c.new-reader.ensures c.in-Ok.ensures) other is e in
    absurd (some_left rest c.if-is_empty.ensures one.1)

pub returns-in-Err-Mismatch-clause-only : goal.returns-in-Err-Mismatch-clause-only
returns-in-Err-Mismatch-clause-only c = λ other is e.
    let name = c.args.name.now in
    absurd
    (entry_none name c.args.piece.now
    (subst (λ z. IsAbsent (entry name) z) c.new-reader.ensures
    (subst (λ f. IsPartFault (entry name) c.new-reader.result.rest.now f) c.in-Err-Mismatch.field-0-is
    c.in-Err-Mismatch.ensures)) other is e)
