-- Where the walk over the number ends, and with what.
use Rattle.std.proofs.Common.{[], drop, sym, ◌∙◌, arith}
use Rattle.std.proofs.lemmas.Bool.{false≢true}
use Rattle.std.proofs.lemmas.List.{take_rest}
use Rattle.std.proofs.lemmas.Option.{some_pair_parts, none-some}
use Rattle.chain_links.proofs.NumberLemmas.{number_begins, number_found, number_only, number_ends, number_too_large}
use Rattle.chain_links.proofs.NumberLemmas.{text_ends}
use Rattle.chain_links.proofs.front.number.Goals as goal

pub returns-then-not-begins_number-clause-only : goal.returns-then-not-begins_number-clause-only
returns-then-not-begins_number-clause-only c = λ n rest some small ends e.
    let begins = c.begins_number.ensures.1 (number_begins c.args.text.now n rest some small e) in
    false≢true (sym c.if-not-begins_number.true ∙ begins)

pub returns-then-not-is_ascii_digit-clause-found :
    goal.returns-then-not-is_ascii_digit-clause-found
returns-then-not-is_ascii_digit-clause-found c =
    let begins = c.begins_number.ensures.0 c.if-not-begins_number.false in
    rw take_rest
    (number_found c.args.text.now c.loop-i.value (drop c.loop-i.i c.args.text.now) begins
    (number_ends c.args.text.now c.loop-i.i c.loop-i.value c.loop-i.invariant.walk c.loop-i-test.true
    (sym c.is_ascii_digit.ensures.value ∙ c.if-not-is_ascii_digit.true)))

pub returns-then-not-is_ascii_digit-clause-only : goal.returns-then-not-is_ascii_digit-clause-only
returns-then-not-is_ascii_digit-clause-only c = λ n rest some small ends e.
    rw take_rest
    (some_pair_parts c.loop-i.value n (drop c.loop-i.i c.args.text.now) rest
    (sym (number_ends c.args.text.now c.loop-i.i c.loop-i.value c.loop-i.invariant.walk c.loop-i-test.true
    (sym c.is_ascii_digit.ensures.value ∙ c.if-not-is_ascii_digit.true))
    ∙ number_only c.args.text.now n rest small ends e))

pub returns-then-next-from-clause-only : goal.returns-then-next-from-clause-only
returns-then-next-from-clause-only c = λ n rest some small ends e.
    none-some (n, rest)
    (sym (number_too_large c.args.text.now c.loop-i.i c.loop-i.value c.loop-i.invariant.walk c.loop-i-test.true
    (sym c.is_ascii_digit.ensures.value ∙ c.if-not-is_ascii_digit.false) (omega arith))
    ∙ number_only c.args.text.now n rest small ends e)

pub returns-clause-found : goal.returns-clause-found
returns-clause-found c =
    let begins = c.begins_number.ensures.0 c.if-not-begins_number.false in
    number_found c.args.text.now c.loop-i.value [] begins
    (text_ends c.args.text.now c.loop-i.i c.loop-i.value c.loop-i.invariant.walk c.loop-i-test.false)

pub returns-clause-only : goal.returns-clause-only
returns-clause-only c = λ n rest some small ends e.
    some_pair_parts c.loop-i.value n [] rest
    (sym (text_ends c.args.text.now c.loop-i.i c.loop-i.value c.loop-i.invariant.walk c.loop-i-test.false)
    ∙ number_only c.args.text.now n rest small ends e)
