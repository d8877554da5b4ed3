use Rattle.std.proofs.Common.{◌≡◌, ◌≢◌, ℕ, List, [], ◌++◌, length, drop, Err, true, false, eqb, eqb-true, eq-eqb}
use Rattle.std.proofs.Common.{refl, sym, ap, subst, ◌∙◌}
use Rattle.std.proofs.lemmas.Bool.{both_ways}
use Rattle.std.proofs.lemmas.List.{append-nil, nil_from_length}
use Rattle.xml_tokens.specs.Reading.{Reads, value_behind}
use Rattle.xml_tokens.proofs.PartLemmas.{err_matches, read_ok}
use Rattle.xml_tokens.proofs.ReferencePartLemmas.{a_reference}
use Rattle.xml_tokens.proofs.PlainLemmas.{plain_nil}
use Rattle.xml_tokens.proofs.PlainReadLemmas.{State, plain_behind, ends_of, over_run, over_reference, and_first}
use Rattle.xml_tokens.proofs.PlainReadLemmas.{whole_fails}
use Rattle.xml_tokens.proofs.PlainReadLemmas.{whole_found, last_fails, ended_fails, quote_fails}
use Rattle.xml_tokens.proofs.cursor.Cursor.value.Goals as goal
use Rattle.xml_tokens.proofs.cursor.Cursor.value.Goals.{else-loop-inside-test, then-loop-inside-test+then-is_empty}

pub loop-inside-init : goal.loop-inside-init
loop-inside-init c = record { read = ([], refl, plain_nil c.args.quote); free = c.before-2.ensures.free }

pub loop-inside-preserved : goal.loop-inside-preserved
loop-inside-preserved c =
    let q = c.args.quote in
    let i = c.loop-inside.invariant in
    let run = over_run q c.before-2.result.now c.loop-inside.inside.rest.now c.before-in-loop-inside.result.now
    c.before-in-loop-inside.new.self.rest.now i.read i.free c.before-in-loop-inside.ensures in
    let inside = c.before-in-loop-inside.new.self.rest.now in
    let after = c.reference.new.self.rest.now in
    let found = read_ok a_reference inside after c.reference.result c.in_default.not-Err c.reference.ensures in
    let s = over_reference q found.0 c.before-2.result.now inside after run.0 run.1 found.1 in
    record { read = s.0; free = s.1 }

some_left : (text : List ℕ) → false ≡ eqb (length text) 0 → length text ≢ 0
some_left text e none = both_ways (eqb (length text) 0) (sym e) (eq-eqb (length text) 0 none)

none_left : (text : List ℕ) → true ≡ eqb (length text) 0 → text ≡ []
none_left text e = nil_from_length text (eqb-true (length text) 0 (sym e))

pub returns-then-is_empty-2 : goal.returns-then-is_empty-2
returns-then-is_empty-2 c =
    let q = c.args.quote in
    let written = c.before-2.result.now in
    let rest = c.before-2.new.self.rest.now in
    let inside = c.before-in-loop-inside.new.self.rest.now in
    let i = c.loop-inside.invariant in
    let run = over_run q written c.loop-inside.inside.rest.now c.before-in-loop-inside.result.now inside i.read i.free
    c.before-in-loop-inside.ensures in
    let and = and_first c.loop-inside.inside.rest.now c.before-in-loop-inside.result.now inside
    c.before-in-loop-inside.ensures (some_left inside c.if-is_empty.ensures) in
    let fails = last_fails q c.requires inside (drop 1 inside) and c.in-Err.lapse c.reference.new.self.rest.now rest
    c.in-Err.ensures in
    let R : List ℕ → Type 0 = λ xs. Reads (plain_behind q) xs (Err c.in-Err.lapse) rest in
    let whole : inside ≡ inside ++ rest =
    sym (append-nil inside) ∙ ap (λ xs. inside ++ xs) (sym (none_left rest c.if-is_empty-2.ensures)) in
    whole_fails q c.requires c.args.self.now.rest.now written rest inside c.before-2.ensures.split run.0 c.in-Err.lapse
    rest (subst R whole fails)

pub returns-in-Err : goal.returns-in-Err
returns-in-Err c =
    let q = c.args.quote in
    let written = c.before-2.result.now in
    let rest = c.before-2.new.self.rest.now in
    let inside = c.before-in-loop-inside.new.self.rest.now in
    let i = c.loop-inside.invariant in
    let run = over_run q written c.loop-inside.inside.rest.now c.before-in-loop-inside.result.now inside i.read i.free
    c.before-in-loop-inside.ensures in
    let and = and_first c.loop-inside.inside.rest.now c.before-in-loop-inside.result.now inside
    c.before-in-loop-inside.ensures (some_left inside c.if-is_empty.ensures) in
    let some : rest ≢ [] = λ e. some_left rest c.if-is_empty-2.ensures (ap length e) in
    whole_fails q c.requires c.args.self.now.rest.now written rest inside c.before-2.ensures.split run.0 c.ended.result
    rest
    (ended_fails q c.requires inside rest and (ends_of q rest c.before-2.ensures.longest) some c.in-Err.lapse
    c.ended.result c.ended.ensures.cut c.ended.ensures.other c.reference.new.self.rest.now rest c.in-Err.ensures)

pub returns-in_err-literal : goal.returns-in_err-literal
returns-in_err-literal c =
    let q = c.args.quote in
    let text = c.args.self.now.rest.now in
    let written = c.before-2.result.now in
    let rest = c.before-2.new.self.rest.now in
    let end = c.literal.new.self.rest.now in
    let e = c.in_err-literal.field-0.0 in
    let i = c.loop-inside.invariant in
    let S : List ℕ → Type 0 = State q written in
    let s : State q written [] = elim c.loop-inside-test.branch [
      | else-loop-inside-test w ↦
          subst S (none_left c.loop-inside.inside.rest.now w.loop-inside-test.ensures) i.read
      | then-loop-inside-test+then-is_empty w ↦
          let last = w.before-in-loop-inside.new.self.rest.now in
          let run = over_run q written c.loop-inside.inside.rest.now w.before-in-loop-inside.result.now last i.read
          i.free
          w.before-in-loop-inside.ensures in
          subst S (none_left last w.if-is_empty.ensures) run.0
    ] in
    err_matches (value_behind q) text end e c.from_residual.result c.from_residual.ensures.1
    (whole_fails q c.requires text written rest [] c.before-2.ensures.split s e end
    (quote_fails q c.requires rest (ends_of q rest c.before-2.ensures.longest) e end c.in_err-literal.ensures))

pub returns : goal.returns
returns c =
    let q = c.args.quote in
    let written = c.before-2.result.now in
    let rest = c.before-2.new.self.rest.now in
    let i = c.loop-inside.invariant in
    let S : List ℕ → Type 0 = State q written in
    let s : State q written [] = elim c.loop-inside-test.branch [
      | else-loop-inside-test w ↦
          subst S (none_left c.loop-inside.inside.rest.now w.loop-inside-test.ensures) i.read
      | then-loop-inside-test+then-is_empty w ↦
          let last = w.before-in-loop-inside.new.self.rest.now in
          let run = over_run q written c.loop-inside.inside.rest.now w.before-in-loop-inside.result.now last i.read
          i.free
          w.before-in-loop-inside.ensures in
          subst S (none_left last w.if-is_empty.ensures) run.0
    ] in
    whole_found q c.requires c.args.self.now.rest.now written rest c.literal.new.self.rest.now
    c.before-2.ensures.split s
    c.in_ok-literal.ensures
