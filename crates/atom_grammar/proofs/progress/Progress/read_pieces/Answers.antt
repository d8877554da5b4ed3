use Rattle.std.proofs.Common.{ap, ◌∙◌, subst, arith, length, length-append, Ok, Err}
use Rattle.atom_grammar.specs.Progress.{IsRefusedBehind, read_text}
use Rattle.atom_grammar.proofs.ProgressLemmas.{nothing_left, refused_pieces}
use Rattle.atom_grammar.proofs.progress.Progress.read_pieces.Goals as goal

pub returns-in-Ok-true-clause-going : goal.returns-in-Ok-true-clause-going
returns-in-Ok-true-clause-going c =
    let read = c.in-Ok-true.ensures.read (ap (λ z. Ok z) c.in-Ok-true.field-0-test) in
    record {
      keeps = read.keeps;
      cut = nothing_left c.clear.new.self.items c.clear.ensures.items;
      used = omega (
        arith,
        c.requires.going.used,
        c.len.ensures,
        ap length read.split,
        ap length c.as_slice.ensures.value,
        length-append (read_text c.args.self.now.body) c.as_slice.result.now,
      );
    }

pub returns-in-Err-Mismatch-clause-refused : goal.returns-in-Err-Mismatch-clause-refused
returns-in-Err-Mismatch-clause-refused c =
    let self = c.args.self.now in
    let left = c.read_whole-read.new.pieces.rest.now in
    let stop = c.in-Err-Mismatch.is ∙ ap (λ z. Err z) (rw c.in-Err-Mismatch.is at c.in-Err-Mismatch.field-0-is) in
    refused_pieces (read_text self.body) self.text.items left _
    (subst (λ z. IsRefusedBehind (read_text self.body) z left) c.as_slice.ensures.value
    (c.read_whole-read.ensures.refused stop))
    (omega (arith, c.requires.going.used, c.len-in-Err-Mismatch.ensures))
