use Rattle.std.proofs.Common.{codes, nat_le, None, arith, ◌≡◌, ◌∙◌, sym}
use Rattle.atom_values.specs.DateFormula.{has_form, is_date, year_in, month_in, day_in, hour_in, minute_in, second_in}
use Rattle.atom_values.specs.DateFormula.{date_time_millis}
use Rattle.atom_values.proofs.DateFormLemmas.{date_time_bounds, refused_date, refused_time}
use Rattle.atom_values.proofs.stamp.date_time_millis.Goals as goal

pub date_millis-requires-clause-year_in : goal.date_millis-requires-clause-year_in
date_millis-requires-clause-year_in c =
    omega (arith, date_time_bounds c.args.text.now (sym c.if-not-has_form.ensures))

pub date_millis-requires-clause-month_in : goal.date_millis-requires-clause-month_in
date_millis-requires-clause-month_in c =
    omega (arith, date_time_bounds c.args.text.now (sym c.if-not-has_form.ensures))

pub date_millis-requires-clause-day_in : goal.date_millis-requires-clause-day_in
date_millis-requires-clause-day_in c =
    omega (arith, date_time_bounds c.args.text.now (sym c.if-not-has_form.ensures))

pub returns-in_err-date-clause-value : goal.returns-in_err-date-clause-value
returns-in_err-date-clause-value c =
    let text = c.args.text.now in
    let none = rw (
      c.two_digits.ensures.value,
      c.two_digits-2.ensures.value,
      c.two_digits-3.ensures.value,
      c.two_digits-4.ensures.value,
    ) at c.in_err-date.ensures.value in
    let is : c.from_residual.result ≡ None = cc c.from_residual.ensures in
    is ∙ refused_date (has_form text (codes "0000-00-00T00:00:00"))
    (is_date (year_in text) (month_in text) (day_in text)) (nat_le (hour_in text) 23) (nat_le (minute_in text) 59)
    (nat_le (second_in text) 60) _ (date_time_millis text) none

pub returns-then-hour-gt23-clause-value : goal.returns-then-hour-gt23-clause-value
returns-then-hour-gt23-clause-value c =
    let text = c.args.text.now in
    refused_time (has_form text (codes "0000-00-00T00:00:00")) (is_date (year_in text) (month_in text) (day_in text))
    (hour_in text) (minute_in text) (second_in text) (date_time_millis text)
    (λ hour minute second. omega (arith, c.then-hour-gt23.either))
