use Rattle.std.proofs.Common.{◌≡◌, ◌≤◌, true, length, get_or, take, Some, sym, ap, ◌∙◌, arith, length-take}
use Rattle.std.specs.List.{list_all}
use Rattle.std.specs.Char.{is_ascii_digit, digit_value}
use Rattle.std.specs.Str.Parse.{digits_value}
use Rattle.std.proofs.lemmas.List.{take_all}
use Rattle.std.proofs.lemmas.List.Folds.{list_all_more, list_all_at}
use Rattle.std.proofs.lemmas.Bool.{and_from, le-leb, lt-ltb}
use Rattle.std.proofs.lemmas.Bool.Decides.{nat_tests}
use Rattle.std.proofs.lemmas.Int.Digits.{digits_value_more}
use Rattle.http_face.proofs.FieldLemmas.{digits_below}
use Rattle.http_face.proofs.fields.length_of.Goals as goal

pub overflow_mul-length : goal.overflow_mul-length
overflow_mul-length c =
    let before = take c.loop-digit.digit-index c.args.value.now in
    let short : length before ≤ 29 =
    omega (
      arith,
      length-take c.loop-digit.digit-index c.args.value.now,
      c.loop-digit-test.true,
      c.loop-digit.invariant.short,
    ) in
    omega (arith, digits_below before 29 c.loop-digit.invariant.digits short, c.loop-digit.invariant.value)

pub overflow_add-length : goal.overflow_add-length
overflow_add-length c =
    let before = take c.loop-digit.digit-index c.args.value.now in
    let short : length before ≤ 29 =
    omega (
      arith,
      length-take c.loop-digit.digit-index c.args.value.now,
      c.loop-digit-test.true,
      c.loop-digit.invariant.short,
    ) in
    omega (arith, digits_below before 29 c.loop-digit.invariant.digits short, c.loop-digit.invariant.value)

pub returns-then-not-is_ascii_digit : goal.returns-then-not-is_ascii_digit
returns-then-not-is_ascii_digit c =
    let fails = list_all_at is_ascii_digit c.args.value.now c.loop-digit.digit-index 0 c.loop-digit-test.true
    (sym c.if-not-is_ascii_digit.ensures.value) in
    rw fails (grind (arith, nat_tests))

pub loop-digit-preserved : goal.loop-digit-preserved
loop-digit-preserved c =
    let value = c.args.value.now in
    let i = c.loop-digit.digit-index in
    let digit : digit_value (get_or value i 0) ≡ c.from.result = grind (arith, nat_tests) in
    record {
      value = omega (arith, digits_value_more 10 value i c.loop-digit-test.true, digit, c.loop-digit.invariant.value);
      digits = list_all_more is_ascii_digit value i 0 c.loop-digit-test.true
          ∙ and_from _ _ c.loop-digit.invariant.digits (sym c.if-not-is_ascii_digit.ensures.value);
      some = c.loop-digit.invariant.some;
      short = c.loop-digit.invariant.short;
    }

pub returns : goal.returns
returns c =
    let value = c.args.value.now in
    let all = take_all c.loop-digit.digit-index value c.loop-digit-test.false in
    let number : c.loop-digit.length ≡ digits_value 10 value =
    c.loop-digit.invariant.value ∙ ap (digits_value 10) all in
    let digits : list_all is_ascii_digit value ≡ true =
    sym (ap (list_all is_ascii_digit) all) ∙ c.loop-digit.invariant.digits in
    let some = lt-ltb 0 (length value) c.loop-digit.invariant.some in
    let short = le-leb (length value) 30 c.loop-digit.invariant.short in
    rw (digits, some, short) (ap Some number)
