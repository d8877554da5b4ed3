use Rattle.std.proofs.Common.{◌++◌, ◌+◌, sym, ◌∙◌, ap, subst, arith, length, drop, append_assoc, length-append, ◌≡◌, nat_eq}
use Rattle.std.proofs.lemmas.Bool.{false≢true}
use Rattle.std.proofs.lemmas.List.{take-append-drop}
use Rattle.atom_grammar.specs.declared.read.ReadFault.TheVariants.{NotADocument}
use Rattle.atom_grammar.specs.Cutting.{IsLine}
use Rattle.atom_grammar.specs.Progress.{IsRefusalOf, fed_text, read_text}
use Rattle.atom_grammar.proofs.LineLemmas.{no_line_end, is_line}
use Rattle.atom_grammar.proofs.ProgressLemmas.{stopped_on, refused_end, rest_waits, fed_on}
use Rattle.atom_grammar.proofs.progress.Progress.take.Goals as goal

pub overflow_add-at : goal.overflow_add-at
overflow_add-at c =
    omega (
      arith,
      c.requires.room,
      c.in-Some.ensures.0.high,
      ap length c.loop-at.invariant.split,
      length-append (fed_text c.args.self.now) c.args.bytes.now,
      length-append (fed_text c.loop-at.self) c.loop-at.rest.now,
    )

pub take_line-requires-clause-line : goal.take_line-requires-clause-line
take_line-requires-clause-line c =
    subst IsLine (sym c.split_at.ensures.front) (is_line c.loop-at.rest.now c.in-Some.at c.in-Some.ensures)

pub take_line-requires-clause-room : goal.take_line-requires-clause-room
take_line-requires-clause-room c =
    omega (
      arith,
      c.requires.room,
      c.split_at.ensures.front_len,
      c.split_at.ensures.back_len,
      ap length c.loop-at.invariant.split,
      length-append (fed_text c.args.self.now) c.args.bytes.now,
      length-append (fed_text c.loop-at.self) c.loop-at.rest.now,
    )

pub returns-in_err-take_line-clause-refused : goal.returns-in_err-take_line-clause-refused
returns-in_err-take_line-clause-refused c =
    let came = fed_text c.loop-at.self in
    let line = c.split_at.result.0.now in
    let behind = c.split_at.result.1.now in
    stopped_on (came ++ line) behind (fed_text c.args.self.now ++ c.args.bytes.now) _ c.from_residual.result
    c.from_residual.ensures.1
    (c.loop-at.invariant.split
    ∙ ap (λ z. came ++ z) (sym (take-append-drop (c.in-Some.at + 1) c.loop-at.rest.now)
    ∙ ap (λ z. z ++ drop (c.in-Some.at + 1) c.loop-at.rest.now) (sym c.split_at.ensures.front)
    ∙ ap (λ z. line ++ z) (sym c.split_at.ensures.back))
    ∙ sym (append_assoc came line behind))
    c.in_err-take_line.ensures.refused

pub returns-then-not-is_empty-clause-refused : goal.returns-then-not-is_empty-clause-refused
returns-then-not-is_empty-clause-refused c =
    let self = c.loop-at.self in
    let longer = c.extend_from_slice.new.self.items in
    let rest = c.loop-at.rest.now in
    let size = c.extend_from_slice.new.self.len in
    subst (λ z. IsRefusalOf z (NotADocument self.used))
    (fed_on (read_text self.body) self.text.items rest longer c.in_ok-extend_from_slice.ensures.items
    ∙ sym c.loop-at.invariant.split)
    (refused_end self.body longer self.used c.loop-at.invariant.going.keeps (sym c.if-is_ended.ensures)
    (λ none.
    let zero : size ≡ 0 = omega (arith, ap length none, c.extend_from_slice.new.self.ok) in
    false≢true (c.if-not-is_empty.ensures ∙ ap (λ n. nat_eq n 0) zero))
    c.loop-at.invariant.going.used)

pub returns-clause-going : goal.returns-clause-going
returns-clause-going c =
    let self = c.loop-at.self in
    let longer = c.extend_from_slice.new.self.items in
    let rest = c.loop-at.rest.now in
    record {
      keeps = c.loop-at.invariant.going.keeps;
      cut =
          rest_waits self.text.items rest longer self.start c.loop-at.invariant.going.cut
          c.in_ok-extend_from_slice.ensures.items (no_line_end rest c.in_default.ensures);
      used = c.loop-at.invariant.going.used;
    }
