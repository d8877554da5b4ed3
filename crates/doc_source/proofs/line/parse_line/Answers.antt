use Rattle.std.proofs.Common.{◌∙◌, sym, ◌+◌, arith}
use Rattle.std.proofs.lemmas.Bool.{false≢true}
use Rattle.std.proofs.lemmas.List.{take_rest}
use Rattle.doc_source.proofs.LineLemmas.{line_at, line_begins, line_digits, no_line, spaced}
use Rattle.doc_source.proofs.line.parse_line.Goals as goal

pub returns-in_default : goal.returns-in_default
returns-in_default c = λ address count l. no_line c.args.line.now address count c.in_default.ensures l

pub returns-then-not-is_address_len : goal.returns-then-not-is_address_len
returns-then-not-is_address_len c = λ address count l.
    let s = spaced c.args.line.now c.in-Some.address_len c.in-Some.ensures
    (line_begins c.args.line.now address count l) in
    absurd (false≢true (sym c.if-not-is_address_len.true
    ∙ c.is_address_len.ensures.1 (s.some, s.short)))

pub returns-in_default-count_of : goal.returns-in_default-count_of
returns-in_default-count_of c = λ address count l.
    let e = c.count_of.ensures.only count l.short (take_rest c.args.line.now (c.in-Some.address_len + 1)
    ∙ line_digits c.args.line.now address count c.in-Some.address_len
    c.in-Some.ensures l) in
    absurd (let w = c.in_default-count_of.is in cc)

pub returns : goal.returns
returns c =
    let line = c.args.line.now in
    let at = c.in-Some.address_len in
    let len = c.is_address_len.ensures.0 c.if-not-is_address_len.false in
    let found = c.in-Some-count_of.ensures.found in (
      omega (arith, c.in-Some.ensures.within),
      line_at line at c.in-Some-count_of.count c.requires c.in-Some.ensures len.0 len.1 found.0
          (sym (take_rest line (at + 1)) ∙ found.1),
    )
