use Rattle.xml_tokens.proofs.InstructedLemmas.{instruction_read, declaration_read, foreign_is, foreign_err}
use Rattle.std.proofs.Common.{sym, ◌∙◌}
use Rattle.std.proofs.lemmas.Bool.{both_ways}
use Rattle.xml_tokens.proofs.InstructedLemmas.{no_foreign, declaration_lapse, instruction_lapse}
use Rattle.xml_tokens.proofs.OpenTokenLemmas.{err_token}
use Rattle.xml_tokens.proofs.cursor.Cursor.instructed.Goals as goal
use Rattle.xml_tokens.proofs.cursor.Cursor.instructed.Goals.{else-is_start-via-then-is_start+else-at_declaration}
use Rattle.xml_tokens.proofs.cursor.Cursor.instructed.Goals.{else-is_start-via-else-is_start}

pub returns-clause-read : goal.returns-clause-read
returns-clause-read c = λ xml begun.
    instruction_read c.args.place c.args.self.now.rest.now c.instruction.new.self.rest.now xml
    c.in_ok-instruction.ensures

pub returns-clause-foreign : goal.returns-clause-foreign
returns-clause-foreign c = λ start some.
    no_foreign c.args.self.now.rest.now (elim c.else-is_start.branch [
      | else-is_start-via-then-is_start+else-at_declaration w ↦ sym w.at_declaration.ensures ∙ w.if-at_declaration.false
      | else-is_start-via-else-is_start w ↦
          absurd (both_ways c.is_start.result w.if-is_start.false (c.is_start.ensures.none start))
    ]) some

pub returns-in_err-declaration-clause-foreign : goal.returns-in_err-declaration-clause-foreign
returns-in_err-declaration-clause-foreign c = λ start some.
    foreign_err c.args.self.now.rest.now c.declaration.new.self.rest.now c.in_err-declaration.field-0.0
    c.from_residual.result c.from_residual.ensures.1 c.in_err-declaration.ensures some

pub returns-then-at_declaration-clause-read : goal.returns-then-at_declaration-clause-read
returns-then-at_declaration-clause-read c = λ xml begun.
    declaration_read c.args.place (c.is_start.ensures.some c.if-is_start.true) c.args.self.now.rest.now
    c.declaration.new.self.rest.now xml c.in_ok-declaration.field-0 c.in_ok-declaration.ensures

pub returns-then-at_declaration-clause-foreign : goal.returns-then-at_declaration-clause-foreign
returns-then-at_declaration-clause-foreign c = λ start some.
    foreign_is c.args.self.now.rest.now c.declaration.new.self.rest.now c.in_ok-declaration.field-0
    c.in_ok-declaration.ensures some

pub returns-in_err-instruction-clause-foreign : goal.returns-in_err-instruction-clause-foreign
returns-in_err-instruction-clause-foreign c = λ start some.
    no_foreign c.args.self.now.rest.now (elim c.else-is_start.branch [
      | else-is_start-via-then-is_start+else-at_declaration w ↦ sym w.at_declaration.ensures ∙ w.if-at_declaration.false
      | else-is_start-via-else-is_start w ↦
          absurd (both_ways c.is_start.result w.if-is_start.false (c.is_start.ensures.none start))
    ]) some

pub returns-in_err-declaration-clause-read : goal.returns-in_err-declaration-clause-read
returns-in_err-declaration-clause-read c = λ xml begun.
    let before = c.args.self.now.rest.now in
    let after = c.declaration.new.self.rest.now in
    let lapse = c.in_err-declaration.field-0.0 in
    err_token c.args.place before after lapse c.from_residual.result c.from_residual.ensures.1
    (declaration_lapse c.args.place (c.is_start.ensures.some c.if-is_start.true) before after
    (sym c.at_declaration.ensures ∙ c.if-at_declaration.true) lapse c.in_err-declaration.ensures)

pub returns-in_err-instruction-clause-read : goal.returns-in_err-instruction-clause-read
returns-in_err-instruction-clause-read c = λ xml begun.
    let before = c.args.self.now.rest.now in
    let after = c.instruction.new.self.rest.now in
    let lapse = c.in_err-instruction.field-0.0 in
    err_token c.args.place before after lapse c.from_residual-in_err-instruction.result
    c.from_residual-in_err-instruction.ensures.1
    (instruction_lapse c.args.place before after xml begun (λ start. elim c.else-is_start.branch [
      | else-is_start-via-then-is_start+else-at_declaration w ↦ sym w.at_declaration.ensures ∙ w.if-at_declaration.false
      | else-is_start-via-else-is_start w ↦
          absurd (both_ways c.is_start.result w.if-is_start.false (c.is_start.ensures.none start))
    ]) lapse c.in_err-instruction.ensures)
