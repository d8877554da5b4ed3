use Rattle.std.proofs.Common.{arith, pos, ◌∙◌, ◌+ℤ◌, w64}
use Rattle.std.proofs.lemmas.Int.{to_z_pos}
use Rattle.jiff_core.specs.Calendar.{IsEpochDay}
use Rattle.jiff_core.specs.Date.{epoch_day}
use Rattle.jiff.proofs.SpanFacts.{signed_arith, date_add-days, can_add-days}
use Rattle.atom_values.proofs.CalendarLemmas.{first_is, date_of_day, IsDateOfDay}
use Rattle.atom_values.proofs.stamp.date_of.Goals as goal
use Rattle.atom_values.proofs.stamp.date_of.Goals.{After-unwrap}

pub unwrap-requires : goal.unwrap-requires
unwrap-requires c =
    let only = rw (to_z_pos w64 c.args.day (omega arith)) at c.days.ensures in
    let day : IsEpochDay (epoch_day c.date-first.result +ℤ pos c.args.day) =
    omega (arith, signed_arith, first_is c.date-first.result c.date-first.ensures) in
    c.checked_add.ensures.succeeds.1 ((can_add-days c.date-first.result (pos c.args.day) c.days.result only).1 day)

date_is : (c : After-unwrap) → IsDateOfDay c.unwrap.result c.args.day
date_is c =
    let only = rw (to_z_pos w64 c.args.day (omega arith)) at c.days.ensures in
    let value = rw c.unwrap.ensures at c.checked_add.ensures.value in
    date_of_day c.date-first.result c.unwrap.result c.args.day c.date-first.ensures (value
    ∙ date_add-days c.date-first.result (pos c.args.day) c.days.result only)

pub returns-clause-year : goal.returns-clause-year
returns-clause-year c = (date_is c).year

pub returns-clause-month : goal.returns-clause-month
returns-clause-month c = (date_is c).month

pub returns-clause-day : goal.returns-clause-day
returns-clause-day c = (date_is c).day_of_month
