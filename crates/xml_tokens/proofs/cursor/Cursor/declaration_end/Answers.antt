use Rattle.std.proofs.Common.{Bool, Err, sym, subst, ◌∙◌}
use Rattle.xml_tokens.specs.Reading.{declaration_end, Reads}
use Rattle.xml_tokens.proofs.PartLemmas.{then_reads, joins_fails, err_reads}
use Rattle.xml_tokens.proofs.CursorLemmas.{spaces_found}
use Rattle.xml_tokens.proofs.DeclarationLemmas.{standalone_joins, end_joins, spaced_reads, plain_end, close_end}
use Rattle.xml_tokens.proofs.cursor.Cursor.declaration_end.Goals as goal
use Rattle.xml_tokens.proofs.cursor.Cursor.declaration_end.Goals.{else-spaced-via-then-spaced+else-at}
use Rattle.xml_tokens.proofs.cursor.Cursor.declaration_end.Goals.{else-spaced-via-else-spaced}

pub returns-in_err-standalone : goal.returns-in_err-standalone
returns-in_err-standalone c =
    let text = c.args.self.now.rest.now in
    let end = c.standalone.new.self.rest.now in
    let e = c.in_err-standalone.field-0.0 in
    let D : Bool → Type 0 = λ spaced. Reads (declaration_end spaced) text (Err e) end in
    err_reads (declaration_end c.args.spaced) text end e c.from_residual.result c.from_residual.ensures.1
    (subst D (sym c.if-spaced.true) (spaced_reads text (sym c.at.ensures ∙ c.if-at.true) (Err e) end
    (joins_fails standalone_joins text e end end c.in_err-standalone.ensures)))

pub returns-then-at : goal.returns-then-at
returns-then-at c =
    let text = c.args.self.now.rest.now in
    let alone = c.standalone.new.self.rest.now in
    let spaced = c.spaces.new.self.rest.now in
    let end = c.literal.new.self.rest.now in
    let r = c.literal.result in
    let D : Bool → Type 0 = λ b. Reads (declaration_end b) text r end in
    subst D (sym c.if-spaced.true) (spaced_reads text (sym c.at.ensures ∙ c.if-at.true) r end
    (then_reads standalone_joins text tt alone c.in_ok-standalone.ensures r end
    (then_reads end_joins alone tt spaced (spaces_found alone c.spaces.result spaced c.spaces.ensures) r end
    c.literal.ensures)))

pub returns : goal.returns
returns c =
    let text = c.args.self.now.rest.now in
    let end = c.literal-2.new.self.rest.now in
    let r = c.literal-2.result in
    let D : Bool → Type 0 = λ b. Reads (declaration_end b) text r end in
    elim c.else-spaced.branch [
      | else-spaced-via-then-spaced+else-at w ↦
          subst D (sym w.if-spaced.true) (plain_end text (sym w.at.ensures ∙ w.if-at.false) r end c.literal-2.ensures)
      | else-spaced-via-else-spaced w ↦ subst D (sym w.if-spaced.false) (close_end text r end c.literal-2.ensures)
    ]
