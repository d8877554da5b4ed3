use Rattle.std.proofs.Common.{◌≡◌, true, false, sym, ap, ◌∙◌}
use Rattle.std.proofs.lemmas.Slice.Eq.{bytes_eq-Decides}
use Rattle.hex.specs.Hex.{encode_lower}
use Rattle.coverage_certificate.proofs.FieldLemmas.{digest_read}
use Rattle.coverage_certificate.proofs.field.digest.Goals as goal

pub returns-in_default-clause-only : goal.returns-in_default-clause-only
returns-in_default-clause-only c = λ digest is e.
    let r = digest_read c.args.text.now digest c.from_hex.result c.from_hex.ensures is e in
    absurd (let w = c.in_default.is in cc)

pub returns-then-eq-clause-only : goal.returns-then-eq-clause-only
returns-then-eq-clause-only c = λ digest is e.
    let r = digest_read c.args.text.now digest c.from_hex.result c.from_hex.ensures is e in
    let w = c.in-Ok.is in cc

pub returns-else-eq-clause-only : goal.returns-else-eq-clause-only
returns-else-eq-clause-only c = λ digest is e.
    let r = digest_read c.args.text.now digest c.from_hex.result c.from_hex.ensures is e in
    let same : c.in-Ok.digest ≡ digest = let w = c.in-Ok.is in cc in
    let texts = c.as_slice.ensures ∙ c.digest_digits.ensures ∙ ap encode_lower same ∙ sym e in
    absurd (let h : true ≡ false = sym ((bytes_eq-Decides _ _).1 texts) ∙ sym c.eq.ensures ∙ c.if-eq.false in cc)
