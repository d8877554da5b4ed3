use Rattle.std.proofs.Common.{sym, ◌∙◌, codes}
use Rattle.atom_grammar.specs.EntryParts.{front_value, back_value}
use Rattle.atom_grammar.specs.Items.{entry}
use Rattle.atom_grammar.proofs.EntryLemmas.{Agrees, entry_parts, entry_renames, agrees_true, agrees_false, front_counted}
use Rattle.atom_grammar.proofs.ReadingLemmas.{stopped, renamed_absent, renamed_found, renamed_refused, behind_absent, ended_absent, both_absent, begun, then, then_bytes, then_end}
use Rattle.atom_grammar.proofs.reader.Reader.entry.Goals as goal

pub returns-in_err-literal : goal.returns-in_err-literal
returns-in_err-literal c =
    stopped _ (λ value. value) (entry c.args.name.now) _ c.args.self.now.rest.now c.literal.new.self.rest.now _
    c.from_residual.result
    c.in_err-literal.ensures c.from_residual.ensures.1
    (λ none. renamed_absent _ _ _ _ _ (entry_renames c.args.name.now) _ (behind_absent _ _ _ none))

pub returns-in_err-front : goal.returns-in_err-front
returns-in_err-front c =
    stopped _ (λ value. value) (entry c.args.name.now) _ c.args.self.now.rest.now c.front.new.self.rest.now _
    c.from_residual-in_err-front.result
    c.in_err-front.ensures c.from_residual-in_err-front.ensures.1
    (λ none. renamed_absent _ _ _ _ _ (entry_renames c.args.name.now) _
    ((then_bytes (codes "<entry>") (begun (entry_parts c.args.name.now) c.args.self.now.rest.now)
    c.in_ok-literal.ensures).absent (both_absent _ _ _ none)))

pub returns-in_err-authors : goal.returns-in_err-authors
returns-in_err-authors c =
    stopped _ (λ value. value) (entry c.args.name.now) _ c.args.self.now.rest.now c.persons.new.self.rest.now _
    c.from_residual-in_err-authors.result
    c.in_err-authors.ensures c.from_residual-in_err-authors.ensures.1
    (λ none. renamed_absent _ _ _ _ _ (entry_renames c.args.name.now) _
    ((then
    (then_bytes (codes "<entry>") (begun (entry_parts c.args.name.now) c.args.self.now.rest.now)
    c.in_ok-literal.ensures) c.in_ok-front.ensures).absent (both_absent _ _ _ none)))

pub returns-in_err-back : goal.returns-in_err-back
returns-in_err-back c =
    stopped _ (λ value. value) (entry c.args.name.now) _ c.args.self.now.rest.now c.back.new.self.rest.now _
    c.from_residual-in_err-back.result
    c.in_err-back.ensures c.from_residual-in_err-back.ensures.1
    (λ none. renamed_absent _ _ _ _ _ (entry_renames c.args.name.now) _
    ((then
    (then
    (then_bytes (codes "<entry>") (begun (entry_parts c.args.name.now) c.args.self.now.rest.now)
    c.in_ok-literal.ensures) c.in_ok-front.ensures) c.in_ok-authors.ensures).absent (ended_absent _ _ _ none)))

pub returns-in_err-literal-2 : goal.returns-in_err-literal-2
returns-in_err-literal-2 c =
    stopped _ (λ value. value) (entry c.args.name.now) _ c.args.self.now.rest.now c.literal-2.new.self.rest.now _
    c.from_residual-in_err-literal-2.result
    c.in_err-literal-2.ensures c.from_residual-in_err-literal-2.ensures.1
    (λ none. renamed_absent _ _ _ _ _ (entry_renames c.args.name.now) _
    ((then_end (codes "</entry>\n")
    (then
    (then
    (then_bytes (codes "<entry>") (begun (entry_parts c.args.name.now) c.args.self.now.rest.now)
    c.in_ok-literal.ensures) c.in_ok-front.ensures) c.in_ok-authors.ensures) c.in_ok-back.ensures).absent none))

pub returns-then-not-agrees : goal.returns-then-not-agrees
returns-then-not-agrees c =
    renamed_refused _ _ _ _ _ (entry_renames c.args.name.now) _ _ _
    ((then_end (codes "</entry>\n")
    (then
    (then
    (then_bytes (codes "<entry>") (begun (entry_parts c.args.name.now) c.args.self.now.rest.now)
    c.in_ok-literal.ensures) c.in_ok-front.ensures) c.in_ok-authors.ensures) c.in_ok-back.ensures).found tt _
    c.in_ok-literal-2.ensures)
    (agrees_false (front_value c.in_ok-front.front, (c.in_ok-authors.authors.items, back_value c.in_ok-back.back))
    (sym c.agrees.ensures ∙ c.if-not-agrees.true))

agreed : (c : goal.Else-not-agrees)
    → Agrees (front_value c.in_ok-front.front, (c.in_ok-authors.authors.items, back_value c.in_ok-back.back))
agreed c =
    agrees_true (front_value c.in_ok-front.front, (c.in_ok-authors.authors.items, back_value c.in_ok-back.back))
    (front_counted c.args.name.now _ _ (front_value c.in_ok-front.front) c.in_ok-front.ensures) (sym c.agrees.ensures
    ∙ c.if-not-agrees.false)

pub put_together-requires : goal.put_together-requires
put_together-requires c = (agreed c).whole

pub returns : goal.returns
returns c =
    rw c.put_together.ensures
    (renamed_found _ _ _ _ _ (entry_renames c.args.name.now) _ _ _
    ((then_end (codes "</entry>\n")
    (then
    (then
    (then_bytes (codes "<entry>") (begun (entry_parts c.args.name.now) c.args.self.now.rest.now)
    c.in_ok-literal.ensures) c.in_ok-front.ensures) c.in_ok-authors.ensures) c.in_ok-back.ensures).found tt _
    c.in_ok-literal-2.ensures) (agreed c.before))
