-- The first chunk is the longest text at the front, and the bytes after it that are no text.
use Rattle.std.proofs.Common.{◌≡◌, ◌++◌, length, not, ap, sym, ◌∙◌, rules, arith}
use Rattle.std.proofs.lemmas.Bool.{eqb-true, eqb-false}
use Rattle.std.specs.Str.Lossy.{utf8_valid_len}
use Rattle.std.proofs.lemmas.Fn.{always_returns_same}
use Rattle.std.proofs.lemmas.List.{length-append}
use Rattle.atom_values.specs.XmlText.{is_xml_char}
use Rattle.atom_values.proofs.XmlTextLemmas.{IsLongestXmlPrefix-refused, IsXmlText-clean, IsLongestXmlPrefix-broken}
use Rattle.atom_values.proofs.XmlTextLemmas.{IsXmlText-nil, IsXmlText-plain}
use Rattle.atom_values.proofs.text.first_fault.Goals as goal

pub returns-then-are_plain : goal.returns-then-are_plain
returns-then-are_plain c =
    IsXmlText-plain c.args.bytes.now (sym c.are_plain.ensures ∙ c.if-are_plain.true)

pub returns-in_err-chunk : goal.returns-in_err-chunk
returns-in_err-chunk c =
    let none : length c.args.bytes.now ≡ 0 = omega (arith, c.utf8_chunks.ensures.len, c.in_err-chunk.ensures.steps.0) in
    rw c.from_residual.ensures (IsXmlText-nil c.args.bytes.now none)

pub returns-in-Some : goal.returns-in-Some
returns-in-Some c =
    let steps = c.in_ok-chunk.ensures.steps in
    let more = c.in_ok-chunk.chunk.invalid.now ++ c.next.new.self.rest.now in
    let parts : c.args.bytes.now ≡ c.valid-text.result.now ++ more = cc in
    let by = c.in-Some.ensures.cases in
    let found = by.1 (λ d. not (is_xml_char d)) (always_returns_same _ _ _ (λ a r f k. search rules)) in
    IsLongestXmlPrefix-refused c.args.bytes.now c.valid-text.result.now more c.in-Some.at by.0 parts c.valid-text.utf8
    found by.3

pub returns-in-None : goal.returns-in-None
returns-in-None c =
    let steps = c.in_ok-chunk.ensures.steps in
    let more = c.in_ok-chunk.chunk.invalid.now ++ c.next.new.self.rest.now in
    let parts : c.args.bytes.now ≡ c.valid-text.result.now ++ more = cc in
    let clean = c.in-None.ensures.cases (λ d. not (is_xml_char d))
    (always_returns_same _ _ _ (λ a r f k. search rules)) in
    let empty : length c.in_ok-chunk.chunk.invalid.now ≡ 0 = ap length (sym c.invalid.ensures)
    ∙ eqb-true _ 0 (sym c.is_empty.ensures ∙ c.if-is_empty.true) in
    let last = steps.2 empty in
    let total = length-append c.in_ok-chunk.chunk.invalid.now c.next.new.self.rest.now in
    IsXmlText-clean c.args.bytes.now c.valid-text.result.now more parts c.valid-text.utf8 clean (omega arith)

pub returns-in-None-2 : goal.returns-in-None-2
returns-in-None-2 c =
    let steps = c.in_ok-chunk.ensures.steps in
    let more = c.in_ok-chunk.chunk.invalid.now ++ c.next.new.self.rest.now in
    let parts : c.args.bytes.now ≡ c.valid-text.result.now ++ more = cc in
    let clean = c.in-None.ensures.cases (λ d. not (is_xml_char d))
    (always_returns_same _ _ _ (λ a r f k. search rules)) in
    let some = eqb-false _ 0 (sym c.is_empty.ensures ∙ c.if-is_empty.false) in
    let invalid = ap length c.invalid.ensures in
    let total = length-append c.in_ok-chunk.chunk.invalid.now c.next.new.self.rest.now in
    let longest = ap length c.valid-text.ensures ∙ steps.3.0 ∙ ap utf8_valid_len c.utf8_chunks.ensures.rest in
    IsLongestXmlPrefix-broken c.args.bytes.now c.valid-text.result.now more parts c.valid-text.utf8 clean
    (omega (arith, some)) longest
