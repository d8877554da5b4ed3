use Rattle.std.proofs.Common.{arith, ◌≡◌, ◌+◌, ◌/◌, ◌%◌}
use Rattle.jiff_core.proofs.CalendarLemmas.{days_in_month_bounds}
use Rattle.jiff_core.proofs.SignedLemmas.{signed_casts}
use Rattle.atom_values.specs.Calendar.{year_of, month_of, day_of}
use Rattle.atom_values.specs.Stamp.{date_text}
use Rattle.atom_values.proofs.stamp.date_digits.Goals as goal

pub returns : goal.returns
unfolding date_text
returns c =
    let short = days_in_month_bounds c.date_of-date.result.year c.date_of-date.result.month in
    let y3 : c.digit.result ≡ 48 + year_of c.args.day / 10 / 10 / 10 % 10 = omega (arith, signed_casts) in
    let y2 : c.digit-2.result ≡ 48 + year_of c.args.day / 10 / 10 % 10 = omega (arith, signed_casts) in
    let y1 : c.digit-3.result ≡ 48 + year_of c.args.day / 10 % 10 = omega (arith, signed_casts) in
    let y0 : c.digit-4.result ≡ 48 + year_of c.args.day % 10 = omega (arith, signed_casts) in
    let m1 : c.digit-5.result ≡ 48 + month_of c.args.day / 10 % 10 = omega (arith, signed_casts) in
    let m0 : c.digit-6.result ≡ 48 + month_of c.args.day % 10 = omega (arith, signed_casts) in
    let d1 : c.digit-7.result ≡ 48 + day_of c.args.day / 10 % 10 = omega (arith, signed_casts) in
    let d0 : c.digit-8.result ≡ 48 + day_of c.args.day % 10 = omega (arith, signed_casts) in
    cc (y3, y2, y1, y0, m1, m0, d1, d0)
