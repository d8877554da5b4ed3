use Rattle.std.proofs.Common.{◌≡◌, sym, ap, ◌∙◌, subst, decimal, arith}
use Rattle.std.specs.Str.{IsUtf8}
use Rattle.std.proofs.lemmas.Bool.{false≢true}
use Rattle.std.proofs.lemmas.Fmt.{IsAscii-decimal}
use Rattle.std.proofs.lemmas.Slice.Eq.{bytes_eq-Decides}
use Rattle.std.proofs.lemmas.Str.{IsUtf8-from_ascii}
use Rattle.doc_source.proofs.LineLemmas.{parsed}
use Rattle.doc_source.proofs.line.count_of.Goals.{
  else-is_canonical-via-then-is_canonical+else-count-le-MAX_BYTES,
  else-is_canonical-via-else-is_canonical,
}
use Rattle.doc_source.proofs.line.count_of.Goals as goal

pub returns-in_default-clause-only : goal.returns-in_default-clause-only
returns-in_default-clause-only c = λ n h e.
    absurd (c.in_default.ensures.cases.0 (subst IsUtf8 (sym e) (IsUtf8-from_ascii (decimal n)
    (IsAscii-decimal n (omega arith)))))

pub returns-in_default-from_str_radix-clause-only : goal.returns-in_default-from_str_radix-clause-only
returns-in_default-from_str_radix-clause-only c = λ n h e.
    let r = parsed n c.in-Ok.text.now c.args.digits.now c.from_str_radix.result h e c.in-Ok.ensures.cases.0
    c.from_str_radix.ensures.value in
    absurd (let w = c.in_default-from_str_radix.is in cc)

pub returns-then-count-le-MAX_BYTES-clause-only : goal.returns-then-count-le-MAX_BYTES-clause-only
returns-then-count-le-MAX_BYTES-clause-only c = λ n h e.
    let r = parsed n c.in-Ok.text.now c.args.digits.now c.from_str_radix.result h e c.in-Ok.ensures.cases.0
    c.from_str_radix.ensures.value in
    let w = c.in-Ok-from_str_radix.is in cc

pub returns-else-is_canonical-clause-only : goal.returns-else-is_canonical-clause-only
returns-else-is_canonical-clause-only c = λ n h e.
    let r = parsed n c.in-Ok.text.now c.args.digits.now c.from_str_radix.result h e c.in-Ok.ensures.cases.0
    c.from_str_radix.ensures.value in
    let same : c.in-Ok-from_str_radix.count ≡ n = let w = c.in-Ok-from_str_radix.is in cc in
    elim c.else-is_canonical.branch [
      | else-is_canonical-via-then-is_canonical+else-count-le-MAX_BYTES w ↦
          absurd (omega (arith, w.if-count-le-MAX_BYTES.false, same, h))
      | else-is_canonical-via-else-is_canonical w ↦
          absurd (false≢true (sym w.if-is_canonical.false ∙ c.eq-is_canonical.ensures
          ∙ (bytes_eq-Decides _ _).1 (c.as_bytes.ensures.value ∙ c.format.ensures.text ∙ ap decimal same ∙ sym e)))
    ]
