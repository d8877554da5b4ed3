use Rattle.std.proofs.Common.{◌≡◌, length, ap, sym, subst, ◌∙◌, [], List, ℕ, ◌++◌, IsTrue}
use Rattle.std.proofs.lemmas.List.{nil_from_length}
use Rattle.std.specs.Prelude.{codes}
use Rattle.atom_values.specs.Space.{is_space}
use Rattle.xml_tokens.specs.Reading.{first_is_no, instruction_end, Reads, exactly}
use Rattle.xml_tokens.proofs.PartLemmas.{err_reads}
use Rattle.xml_tokens.proofs.InstructionLemmas.{bare_end, spaced_found, spaced_fails}
use Rattle.xml_tokens.proofs.cursor.Cursor.instruction_end.Goals as goal

pub returns-in_err-up_to : goal.returns-in_err-up_to
returns-in_err-up_to c = λ some.
    let text = c.args.self.now.rest.now in
    let s = c.spaces.ensures in
    let end = c.up_to.new.self.rest.now in
    let e = c.in_err-up_to.field-0.0 in
    err_reads instruction_end text end e c.from_residual.result c.from_residual.ensures.1
    (spaced_fails text s.spaces c.spaces.new.self.rest.now end s.split
    (s.are_spaces, (λ none. s.some c.if-spaces.true (ap length none))) e c.in_err-up_to.ensures)

pub returns-then-spaces : goal.returns-then-spaces
returns-then-spaces c = λ some.
    let s = c.spaces.ensures in
    spaced_found c.args.self.now.rest.now s.spaces c.spaces.new.self.rest.now c.in_ok-up_to.field-0.now
    c.up_to.new.self.rest.now s.split (s.are_spaces, (λ none. s.some c.if-spaces.true (ap length none)))
    c.in_ok-up_to.ensures

pub returns : goal.returns
returns c = λ some.
    let text = c.args.self.now.rest.now in
    let spaced = c.spaces.new.self.rest.now in
    let s = c.spaces.ensures in
    let none : s.spaces ≡ [] = nil_from_length s.spaces (s.none c.if-spaces.false) in
    let same : text ≡ spaced = s.split ∙ ap (λ xs. xs ++ spaced) none in
    let R : List ℕ → Type 0 = λ xs. Reads (exactly (codes "?>")) xs c.literal.result c.literal.new.self.rest.now in
    let N : List ℕ → Type 0 = λ xs. IsTrue (first_is_no is_space xs) in
    bare_end text some (subst N (sym same) s.longest) c.literal.result c.literal.new.self.rest.now
    (subst R (sym same) c.literal.ensures)
