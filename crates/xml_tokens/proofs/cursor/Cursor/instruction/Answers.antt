use Rattle.std.proofs.Common.{◌≡◌, ◌≢◌, [], List, ℕ, false, length, eqb, eqb-true, sym, ap}
use Rattle.std.specs.Prelude.{Err, Result, codes}
use Rattle.std.proofs.Common.{map}
use Rattle.std.specs.Char.{to_ascii_lowercase}
use Rattle.std.specs.Str.{str_eq_ignore_ascii_case}
use Rattle.std.proofs.lemmas.Slice.Eq.{bytes_eq-Decides}
use Rattle.std.proofs.lemmas.Bool.{both_ways, false_from_ne_true}
use Rattle.std.proofs.lemmas.List.{nil_from_length}
use Rattle.xml_tokens.specs.declared.cursor.Lapse.{Lapse}
use Rattle.xml_tokens.specs.declared.cursor.Lapse.TheVariants.{Broken, Cut}
use Rattle.xml_tokens.specs.Reading.{an_instruction, Reads}
use Rattle.xml_tokens.proofs.PartLemmas.{then_reads, joins_fails, err_reads, same_reads}
use Rattle.xml_tokens.proofs.InstructionNameLemmas.{start_joins, instruction_parts, to_instruction, from_instruction}
use Rattle.xml_tokens.proofs.InstructionNameLemmas.{name_fails, name_then, name_cut, xml_fails}
use Rattle.xml_tokens.proofs.cursor.Cursor.instruction.Goals as goal

whole : (text : List ℕ) (r : Result (Unit {0}) Lapse) (end : List ℕ) → Reads instruction_parts text r end →
    Reads an_instruction text r end
whole = same_reads an_instruction instruction_parts to_instruction from_instruction

some_left : (text : List ℕ) → false ≡ eqb (length text) 0 → text ≢ []
some_left text e none = both_ways (eqb (length text) 0) (sym e) (ap (λ xs. eqb (length xs) 0) none)

pub returns-in_err-literal : goal.returns-in_err-literal
returns-in_err-literal c =
    let text = c.args.self.now.rest.now in
    let end = c.literal.new.self.rest.now in
    let e = c.in_err-literal.field-0.0 in
    err_reads an_instruction text end e c.from_residual.result c.from_residual.ensures.1
    (whole text (Err e) end (joins_fails start_joins text e end end c.in_err-literal.ensures))

pub returns-in_err-name : goal.returns-in_err-name
returns-in_err-name c =
    let text = c.args.self.now.rest.now in
    let opened = c.literal.new.self.rest.now in
    let end = c.name.new.self.rest.now in
    let e = c.in_err-name.field-0.0 in
    err_reads an_instruction text end e c.from_residual-in_err-name.result c.from_residual-in_err-name.ensures.1
    (whole text (Err e) end
    (then_reads start_joins text tt opened c.in_ok-literal.ensures (Err e) end
    (name_fails opened e end end c.in_err-name.ensures)))

pub returns-then-is_empty : goal.returns-then-is_empty
returns-then-is_empty c =
    let text = c.args.self.now.rest.now in
    let opened = c.literal.new.self.rest.now in
    let named = c.name.new.self.rest.now in
    let over = nil_from_length named (eqb-true (length named) 0 (sym c.if-is_empty.ensures)) in
    whole text (Err Cut) named
    (then_reads start_joins text tt opened c.in_ok-literal.ensures (Err Cut) named
    (name_cut opened c.in_ok-name.name.now named c.in_ok-name.ensures over named))

pub returns-then-eq_ignore_ascii_case : goal.returns-then-eq_ignore_ascii_case
returns-then-eq_ignore_ascii_case c =
    let text = c.args.self.now.rest.now in
    let opened = c.literal.new.self.rest.now in
    let named = c.name.new.self.rest.now in
    whole text (Err Broken) named
    (then_reads start_joins text tt opened c.in_ok-literal.ensures (Err Broken) named
    (xml_fails opened c.in_ok-name.name.now named c.in_ok-name.ensures (some_left named c.if-is_empty.ensures)
    ((bytes_eq-Decides (map to_ascii_lowercase c.in_ok-name.name.now) (codes "xml")).1
    (c.eq_ignore_ascii_case.ensures.test.0 c.if-eq_ignore_ascii_case.true))))

pub returns : goal.returns
returns c =
    let text = c.args.self.now.rest.now in
    let opened = c.literal.new.self.rest.now in
    let named = c.name.new.self.rest.now in
    let some = some_left named c.if-is_empty.ensures in
    let r = c.instruction_end.result in
    let end = c.instruction_end.new.self.rest.now in
    let none : str_eq_ignore_ascii_case c.in_ok-name.name.now (codes "xml") ≡ false =
    false_from_ne_true (str_eq_ignore_ascii_case c.in_ok-name.name.now (codes "xml")) (λ e.
    both_ways c.eq_ignore_ascii_case.result c.if-eq_ignore_ascii_case.false
    (c.eq_ignore_ascii_case.ensures.test.1
    ((bytes_eq-Decides (map to_ascii_lowercase c.in_ok-name.name.now) (codes "xml")).0 e))) in
    whole text r end
    (then_reads start_joins text tt opened c.in_ok-literal.ensures r end
    (name_then opened c.in_ok-name.name.now named c.in_ok-name.ensures some none r end
    (c.instruction_end.ensures some)))
