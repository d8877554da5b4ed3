use Rattle.std.proofs.Common.{length, get_or, ap, sym, ◌∙◌, arith}
use Rattle.std.proofs.lemmas.List.{take_all}
use Rattle.atom_values.specs.Escape.{escaped}
use Rattle.atom_values.proofs.EscapeLemmas.{length-escaped_byte, length-escaped_more, escaped-nil}
use Rattle.atom_values.proofs.text.escaped_len.Goals as goal

pub loop-byte-init : goal.loop-byte-init
loop-byte-init c = record { sum = sym (ap length (escaped-nil c.args.quoted)); bound = omega arith }

pub overflow_add-total : goal.overflow_add-total
overflow_add-total c =
    let is = c.written_len-total.ensures in
    let short = length-escaped_byte c.args.quoted (get_or c.bytes-byte-items.result.now c.loop-byte.byte-index 0) in
    let within = ap length c.bytes-byte-items.ensures.bytes in
    omega (arith, c.bytes-byte-items.ensures.rules.short)

pub loop-byte-preserved : goal.loop-byte-preserved
loop-byte-preserved c =
    let is = c.written_len-total.ensures in
    let short = length-escaped_byte c.args.quoted (get_or c.bytes-byte-items.result.now c.loop-byte.byte-index 0) in
    let more = length-escaped_more c.args.quoted c.bytes-byte-items.result.now c.loop-byte.byte-index
    c.loop-byte-test.true in
    record { sum = omega arith; bound = omega arith }

pub returns-clause-length : goal.returns-clause-length
returns-clause-length c =
    c.loop-byte.invariant.sum
    ∙ ap (λ xs. length (escaped c.args.quoted xs))
    (take_all c.loop-byte.byte-index c.bytes-byte-items.result.now c.loop-byte-test.false
    ∙ c.bytes-byte-items.ensures.bytes)
