use Rattle.std.proofs.Common.{arith, ◌≡◌, ◌*◌, ◌<◌, ◌∙◌, Some, pos, ap, w8, w16}
use Rattle.std.proofs.lemmas.Int.{to_z_pos}
use Rattle.jiff_core.proofs.SignedLemmas.{signed_casts}
use Rattle.jiff_core.specs.Calendar.{IsCivilDate}
use Rattle.jiff_core.specs.Date.{IsYmd}
use Rattle.atom_values.specs.Calendar.{day_number}
use Rattle.atom_values.proofs.CalendarLemmas.{is_date_civil, date_seconds, day_number-lt, civil_date}
use Rattle.atom_values.proofs.stamp.date_millis.Goals as goal
use Rattle.atom_values.proofs.stamp.date_millis.Goals.{After-as_secs-seconds}

ymd : (c : After-as_secs-seconds) → IsYmd (pos c.args.year) (pos c.args.month) (pos c.args.day) c.in-Ok.date
ymd c =
    rw (
      to_z_pos w16 c.args.year (omega arith),
      to_z_pos w8 c.args.month (omega arith),
      to_z_pos w8 c.args.day (omega arith),
    ) at c.in-Ok.ensures.value

seconds : (c : After-as_secs-seconds) →
    c.as_secs-seconds.result ≡ pos (86_400 * day_number c.args.year c.args.month c.args.day)
seconds c =
    c.as_secs-seconds.ensures
    ∙ date_seconds c.in-Ok.date c.date.result c.args.year c.args.month c.args.day c.duration_since.result.nanos
    (ymd c) c.date.ensures c.duration_since.ensures

civil : (c : After-as_secs-seconds) → IsCivilDate (pos c.args.year) c.args.month c.args.day
civil c = civil_date c.in-Ok.date c.args.year c.args.month c.args.day (ymd c)

bound : (c : After-as_secs-seconds) → day_number c.args.year c.args.month c.args.day < 3_652_425
bound c = day_number-lt c.args.year c.args.month c.args.day (civil c) c.requires.year_in

pub overflow_cast-result : goal.overflow_cast-result
overflow_cast-result c = let s = seconds c in let b = bound c in omega (arith, signed_casts)

pub overflow_mul-result : goal.overflow_mul-result
overflow_mul-result c = let s = seconds c in let b = bound c in omega (arith, signed_casts)

pub returns-clause-value : goal.returns-clause-value
returns-clause-value c =
    let s = seconds c in
    let b = bound c in
    rw (is_date_civil c.args.year c.args.month c.args.day (civil c)) (ap Some (omega (arith, signed_casts)))

pub returns-clause-bound : goal.returns-clause-bound
returns-clause-bound c = let s = seconds c in let b = bound c in omega (arith, signed_casts)
