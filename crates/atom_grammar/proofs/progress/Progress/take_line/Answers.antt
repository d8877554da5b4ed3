use Rattle.std.proofs.Common.{length, sym, ◌∙◌, ap, subst, refl, IfErr}
use Rattle.std.proofs.lemmas.Bool.{false≢true}
use Rattle.atom_grammar.specs.Progress.{IsRefusalOf, IsCutText, read_text}
use Rattle.atom_grammar.proofs.ProgressLemmas.{line_waits, line_ends, fed_on}
use Rattle.atom_grammar.proofs.progress.Progress.take_line.Goals as goal

pub returns-then-not-is_whole-clause-going : goal.returns-then-not-is_whole-clause-going
returns-then-not-is_whole-clause-going c =
    let self = c.args.self.now in
    record {
      keeps = c.requires.going.keeps;
      cut =
          line_waits self.text.items c.args.line.now c.extend_from_slice.new.self.items self.start c.requires.going.cut
          c.in_ok-extend_from_slice.ensures.items c.deref.result.now c.deref.ensures.value c.requires.line
          (λ whole. false≢true (c.if-not-is_whole.ensures.1 whole));
      used = c.requires.going.used;
    }

pub read_pieces-requires-clause-going : goal.read_pieces-requires-clause-going
read_pieces-requires-clause-going c =
    let self = c.args.self.now in
    let longer = c.extend_from_slice.new.self.items in
    record {
      keeps = c.requires.going.keeps;
      cut =
          subst (λ n. IsCutText longer n)
          (ap length (sym c.deref.ensures.value) ∙ c.deref.ensures.len ∙ sym c.len-self.ensures)
          (line_ends self.text.items c.args.line.now longer self.start c.requires.going.cut
          c.in_ok-extend_from_slice.ensures.items c.deref.result.now c.deref.ensures.value c.requires.line
          (c.if-not-is_whole.ensures.0 refl));
      used = c.requires.going.used;
    }

pub returns-then-self-ge-MAX_HEAD-clause-refused : goal.returns-then-self-ge-MAX_HEAD-clause-refused
returns-then-self-ge-MAX_HEAD-clause-refused c =
    let self = c.args.self.now in
    subst (λ z. IfErr c.read_pieces.result (IsRefusalOf z))
    (fed_on (read_text self.body) self.text.items c.args.line.now c.extend_from_slice.new.self.items
    c.in_ok-extend_from_slice.ensures.items) c.read_pieces.ensures.refused

pub returns-else-self-ge-MAX_HEAD-clause-going : goal.returns-else-self-ge-MAX_HEAD-clause-going
returns-else-self-ge-MAX_HEAD-clause-going c =
    let self = c.args.self.now in
    let longer = c.extend_from_slice.new.self.items in
    record {
      keeps = c.requires.going.keeps;
      cut =
          subst (λ n. IsCutText longer n)
          (ap length (sym c.deref.ensures.value) ∙ c.deref.ensures.len ∙ sym c.len-self.ensures)
          (line_ends self.text.items c.args.line.now longer self.start c.requires.going.cut
          c.in_ok-extend_from_slice.ensures.items c.deref.result.now c.deref.ensures.value c.requires.line
          (c.if-not-is_whole.ensures.0 refl));
      used = c.requires.going.used;
    }
