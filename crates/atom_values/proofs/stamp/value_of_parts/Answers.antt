use Rattle.std.proofs.Common.{arith, ◌≡◌, ◌∙◌, None}
use Rattle.jiff_core.proofs.SignedLemmas.{signed_casts}
use Rattle.atom_values.proofs.DateFormLemmas.{value_given, refused_first, refused_rest}
use Rattle.atom_values.specs.DateFormula.{is_date_time, date_time_millis, is_fraction, is_offset, value_of_parts}
use Rattle.atom_values.proofs.stamp.value_of_parts.Goals as goal
use Rattle.atom_values.proofs.stamp.value_of_parts.Goals.{then-not-is_fraction-via-then-not-is_fraction}
use Rattle.atom_values.proofs.stamp.value_of_parts.Goals.{then-not-is_fraction-via-else-not-is_fraction+then-not-is_offset}

pub returns-in_err-local : goal.returns-in_err-local
unfolding value_of_parts
returns-in_err-local c =
    let is : c.from_residual.result ≡ None = cc c.from_residual.ensures in
    is ∙ refused_first (is_date_time c.args.date_time.now) (is_fraction c.args.fraction.now)
    (is_offset c.args.offset.now) (date_time_millis c.args.date_time.now) _ c.in_err-local.ensures.value

pub returns-then-not-is_fraction : goal.returns-then-not-is_fraction
unfolding value_of_parts
returns-then-not-is_fraction c =
    refused_rest (is_date_time c.args.date_time.now) (is_fraction c.args.fraction.now) (is_offset c.args.offset.now) _
    (λ f o. elim c.then-not-is_fraction.branch [
      | then-not-is_fraction-via-then-not-is_fraction w ↦ let x = w.if-not-is_fraction in cc
      | then-not-is_fraction-via-else-not-is_fraction+then-not-is_offset w ↦ cc
    ])

pub returns : goal.returns
returns c =
    value_given c.args.date_time.now c.args.fraction.now c.args.offset.now c.in_ok-local.local _ c.new.result
    c.in_ok-local.ensures.value c.if-not-is_fraction.ensures c.if-not-is_offset.ensures
    (omega (arith, signed_casts, c.in_ok-local.ensures.bound)) c.new.ensures.range c.new.ensures.value
