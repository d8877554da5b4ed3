use Rattle.std.proofs.Common.{◌≡◌, ◌≢◌, ◌<◌, ◌-◌, ◌==◌, [], length, sym, ap, subst, ◌∙◌, arith, eqb-true}
use Rattle.std.proofs.lemmas.Bool.{both_ways}
use Rattle.std.proofs.lemmas.List.{nil_from_length}
use Rattle.xml_tokens.specs.declared.cursor.Lapse.TheVariants.{Cut}
use Rattle.xml_tokens.specs.Progress.{IsAtText, IsFaultFrom, fault_of}
use Rattle.xml_tokens.proofs.StepLemmas.{fit_place, foreign_memory, moved, ok_both, step_end, step_fault}
use Rattle.xml_tokens.proofs.elements.Elements.step.Goals as goal

pub returns-then-is_empty-clause-read : goal.returns-then-is_empty-clause-read
returns-then-is_empty-clause-read c = λ from x.
    let old = c.args.self.now in
    let none : old.cursor.rest.now ≡ [] =
    nil_from_length old.cursor.rest.now
    (eqb-true (length old.cursor.rest.now) 0 (sym c.is_empty.ensures ∙ c.if-is_empty.true)) in
    let here = x.at in
    subst (IsFaultFrom old.length from) (sym c.fault.ensures)
    (subst (λ t. IsFaultFrom old.length from (fault_of old.end old.length (old.end - length old.cursor.rest.now) t Cut))
    (sym none)
    (step_end from old (subst (λ t. IsAtText old t from) none x) (old.end - length old.cursor.rest.now)
    (c.requires.more from x) (omega arith)))

pub token-requires-clause-place : goal.token-requires-clause-place
token-requires-clause-place c =
    let p = c.requires.reading in fit_place c.place-place.result p.0.stage (c.place-place.ensures p.0 p.1)

pub returns-in-Ok-clause-read : goal.returns-in-Ok-clause-read
returns-in-Ok-clause-read c = λ from x.
    let old = c.args.self.now in
    let here = x.at in
    let some : old.cursor.rest.now ≢ [] = λ none.
    both_ways c.is_empty.result c.if-is_empty.false (c.is_empty.ensures ∙ ap (λ t. length t == 0) none) in
    c.event.ensures.read c.place-place.result old.cursor.rest.now from
    (moved old c.token.new.self old.cursor.rest.now from x) (c.place-place.ensures from x) c.in-Ok.ensures.read.0
    c.in-Ok.ensures.read.1 (omega arith) some

pub returns-in-Ok-clause-depth : goal.returns-in-Ok-clause-depth
returns-in-Ok-clause-depth c =
    let old = c.args.self.now in
    let p = c.requires.reading in
    c.event.ensures.depth c.place-place.result old.cursor.rest.now p.0
    (moved old c.token.new.self old.cursor.rest.now p.0 p.1) (c.place-place.ensures p.0 p.1) c.in-Ok.ensures.read.0
    c.in-Ok.ensures.read.1

pub returns-in-Ok-clause-shorter : goal.returns-in-Ok-clause-shorter
returns-in-Ok-clause-shorter c =
    let before = c.args.self.now.cursor.rest.now in
    let after = c.token.new.self.rest.now in
    let end = c.event.new.self.cursor.rest.now in
    ok_both (length after < length before) (end ≡ after) (length end < length before) c.event.result
    (c.event.ensures.shorter c.place-place.result before c.in-Ok.ensures.read.0) c.event.ensures.cursor
    (λ short same. subst (λ t. length t < length before) (sym same) short)

pub returns-in-Err-clause-read : goal.returns-in-Err-clause-read
returns-in-Err-clause-read c = λ from x.
    let old = c.args.self.now in
    let here = x.at in
    let some : old.cursor.rest.now ≢ [] = λ none.
    both_ways c.is_empty.result c.if-is_empty.false (c.is_empty.ensures ∙ ap (λ t. length t == 0) none) in
    subst (IsFaultFrom old.length from) (sym c.fault-in-Err.ensures)
    (step_fault from old old.cursor.rest.now x c.place-place.result (c.place-place.ensures from x) some
    (old.end - length old.cursor.rest.now) c.in-Err.lapse c.token.new.self.rest.now c.in-Err.ensures.read
    (λ start foreign. foreign_memory c.in-Err.lapse (c.in-Err.ensures.foreign start foreign)) (omega arith))
