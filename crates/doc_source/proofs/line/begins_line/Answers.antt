use Rattle.std.proofs.Common.{◌∙◌, sym, ◌+◌, length, drop, subst}
use Rattle.std.proofs.lemmas.Bool.{false≢true, le-leb, leb-true}
use Rattle.std.proofs.lemmas.List.{take_rest}
use Rattle.doc_source.specs.Line.{BeginsCount}
use Rattle.doc_source.proofs.LineLemmas.{no_space_begins, no_space_short, spaced, spaced_begins}
use Rattle.doc_source.proofs.line.begins_line.Goals as goal

pub returns-in_default : goal.returns-in_default
returns-in_default c =
    let part = c.args.part.now in (
      λ short. no_space_begins part c.requires c.in_default.ensures (leb-true (length part) 1024 short),
      λ b. le-leb (length part) 1024 (no_space_short part c.in_default.ensures b),
    )

pub returns-then-not-is_address_len : goal.returns-then-not-is_address_len
returns-then-not-is_address_len c = (
  λ no. absurd (false≢true no),
  λ b. let s = spaced c.args.part.now c.in-Some.address_len c.in-Some.ensures b in
      absurd (false≢true (sym c.if-not-is_address_len.true
      ∙ c.is_address_len.ensures.1 (s.some, s.short))),
)

pub returns : goal.returns
returns c =
    let part = c.args.part.now in
    let at = c.in-Some.address_len in
    let len = c.is_address_len.ensures.0 c.if-not-is_address_len.false in
    let digits = take_rest part (at + 1) in (
      λ is. spaced_begins part at c.requires c.in-Some.ensures len.0 len.1
          (subst BeginsCount digits (c.begins_count.ensures.0 is)),
      λ b. let s = spaced part at c.in-Some.ensures b in
          let own : BeginsCount (drop (at + 1) part) =
          record { count = b.count; more = b.more; short = b.short; whole = s.digits } in
          c.begins_count.ensures.1 (subst BeginsCount (sym digits) own),
    )
