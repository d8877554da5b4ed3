use Rattle.std.proofs.Common.{◌≡◌, ◌-◌, ◌∷◌, ℕ, length, take, drop, None, Some, sym, ap, ◌∙◌, arith}
use Rattle.hex.specs.Hex.{encode_lower}
use Rattle.coverage_certificate.proofs.FieldLemmas.{spaced_long, spaced_parts}
use Rattle.coverage_certificate.proofs.field.spaced_digest.Goals as goal

pub returns-in_err-at-clause-none : goal.returns-in_err-at-clause-none
returns-in_err-at-clause-none c = λ _ front digest is.
    c.in_err-at.ensures (spaced_long c.args.text.now front digest is)

pub returns-in_err-digits-clause-none : goal.returns-in_err-digits-clause-none
returns-in_err-digits-clause-none c = λ _ front digest is.
    let text = c.args.text.now in
    let at : c.in_ok-at.at ≡ length text - 65 = omega (arith, c.in_ok-at.ensures) in
    let parts = spaced_parts text front digest c.split_at.result.0.now c.split_at.result.1.now is
    (c.split_at.ensures.front ∙ ap (λ (n : ℕ). take n text) at)
    (c.split_at.ensures.back ∙ ap (λ (n : ℕ). drop n text) at) in
    let h : None ≡ Some (encode_lower digest) = c.in_err-digits.ensures.only (encode_lower digest) parts.1 in cc

pub returns-in_err-digest-clause-none : goal.returns-in_err-digest-clause-none
returns-in_err-digest-clause-none c = λ _ front digest is.
    let text = c.args.text.now in
    let at : c.in_ok-at.at ≡ length text - 65 = omega (arith, c.in_ok-at.ensures) in
    let parts = spaced_parts text front digest c.split_at.result.0.now c.split_at.result.1.now is
    (c.split_at.ensures.front ∙ ap (λ (n : ℕ). take n text) at)
    (c.split_at.ensures.back ∙ ap (λ (n : ℕ). drop n text) at) in
    let both : 32 ∷ c.in_ok-digits.digits.now ≡ 32 ∷ encode_lower digest = sym c.in_ok-digits.ensures.found ∙ parts.1 in
    let same : c.in_ok-digits.digits.now ≡ encode_lower digest = cc in
    let h : None ≡ Some digest = c.in_err-digest.ensures.only digest is.is_digest same in cc
