use Rattle.std.proofs.Common.{arith, ◌≡◌, ◌+◌, ◌/◌, ◌%◌, ◌<◌, ◌∙◌, ◌∷◌, set}
use Rattle.atom_values.specs.Stamp.{fixed_digits}
use Rattle.atom_values.proofs.PrintLemmas.{IsPrinted, front, plain_is, exact_is}
use Rattle.atom_values.proofs.stamp.Stamp.print.Goals as goal
use borrow.Rule.Slice.PartMut.{put_mid}
use Rattle.atom_values.proofs.stamp.Stamp.print.Goals.{Then-millis-eq0, After-copy_from_slice-3}

plain : (c : Then-millis-eq0) →
    IsPrinted c.args.self.now 20 c.args.into.now
    (set (front c.args.into.now c.copy_from_slice.new.self c.copy_from_slice-2.new.self) 19 90)
plain c = plain_is c.args.self.now c.since_year_zero-since_year_zero.result c.args.into.now c.copy_from_slice.new.self
    c.copy_from_slice-2.new.self c.since_year_zero-since_year_zero.ensures.value c.told-into
    (c.copy_from_slice.ensures.after ∙ c.date_digits.ensures) (c.copy_from_slice-2.ensures.after
    ∙ c.clock_digits.ensures) c.if-millis-eq0.true

pub returns-then-millis-eq0-clause-length : goal.returns-then-millis-eq0-clause-length
returns-then-millis-eq0-clause-length c =
    (plain (goal.at.returns-then-millis-eq0-clause-length c).Then-millis-eq0).length_is

pub returns-then-millis-eq0-clause-text : goal.returns-then-millis-eq0-clause-text
returns-then-millis-eq0-clause-text c = (plain (goal.at.returns-then-millis-eq0-clause-text c).Then-millis-eq0).text

exact : (c : After-copy_from_slice-3) →
    IsPrinted c.args.self.now 24 c.args.into.now
    (set (put_mid 19 4 (front c.args.into.now c.copy_from_slice.new.self c.copy_from_slice-2.new.self)
    c.copy_from_slice-3.new.self) 23 90)
exact c =
    let n = c.since_year_zero-since_year_zero.result in
    let some : 0 < n % 86_400_000 % 1_000 = omega arith in
    let hundreds : c.digit.result ≡ 48 + n % 86_400_000 % 1_000 / 10 / 10 % 10 = omega (arith, c.digit.ensures) in
    let fraction : c.copy_from_slice-3.new.self ≡ 46 ∷ fixed_digits 3 (n % 86_400_000 % 1_000) =
    cc (c.copy_from_slice-3.ensures.after, hundreds, c.digit-2.ensures, c.digit-3.ensures) in
    exact_is c.args.self.now n c.args.into.now c.copy_from_slice.new.self c.copy_from_slice-2.new.self
    c.copy_from_slice-3.new.self c.since_year_zero-since_year_zero.ensures.value c.told-into
    (c.copy_from_slice.ensures.after ∙ c.date_digits.ensures) (c.copy_from_slice-2.ensures.after
    ∙ c.clock_digits.ensures) some fraction

pub returns-clause-length : goal.returns-clause-length
returns-clause-length c = (exact (goal.at.returns-clause-length c).After-copy_from_slice-3).length_is

pub returns-clause-text : goal.returns-clause-text
returns-clause-text c = (exact (goal.at.returns-clause-text c).After-copy_from_slice-3).text
