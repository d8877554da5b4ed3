use Rattle.std.proofs.Common.{◌≡◌, ◌++◌, ◌+◌, ◌-◌, inl, sym, ap, ◌∙◌, subst, arith, refl, length, length-append, Ok, Err}
use Rattle.atom_grammar.specs.declared.part_fault.PartFault.TheVariants.{Mismatch}
use Rattle.atom_grammar.specs.Progress.{ReadsRest, fed_text, read_text}
use Rattle.atom_grammar.proofs.RefusalLemmas.{one_reading, refused_there}
use Rattle.atom_grammar.proofs.progress.Progress.finish.Goals as goal

pub returns-in-Ok-clause-only : goal.returns-in-Ok-clause-only
returns-in-Ok-clause-only c = λ d is e.
    let same = ap (λ z. read_text c.args.self.body ++ z) c.as_slice.ensures.value in
    inl (ap (λ z. Ok z) (one_reading _ d c.in-Ok.ensures.0 is (sym c.in-Ok.ensures.1 ∙ same ∙ e)))

pub returns-in-Err-Mismatch-clause-only : goal.returns-in-Err-Mismatch-clause-only
returns-in-Err-Mismatch-clause-only c = λ d is e.
    let self = c.args.self in
    let left = c.document-read.new.pieces.rest.now in
    let stop = c.in-Err-Mismatch.is ∙ ap (λ z. Err z) (rw c.in-Err-Mismatch.is at c.in-Err-Mismatch.field-0-is) in
    let refused = subst (λ z. ReadsRest self.body c.as_slice.result.now z left) stop c.document-read.ensures in
    let same = ap (λ z. read_text self.body ++ z) c.as_slice.ensures.value in
    absurd ((refused_there (read_text self.body ++ c.as_slice.result.now) left _ refused refl).0 d is (same ∙ e))

pub returns-in-Err-Mismatch-clause-refused : goal.returns-in-Err-Mismatch-clause-refused
returns-in-Err-Mismatch-clause-refused c = λ at e.
    let self = c.args.self in
    let left = c.document-read.new.pieces.rest.now in
    let stop = c.in-Err-Mismatch.is ∙ ap (λ z. Err z) (rw c.in-Err-Mismatch.is at c.in-Err-Mismatch.field-0-is) in
    let refused = subst (λ z. ReadsRest self.body c.as_slice.result.now z left) stop c.document-read.ensures in
    let place : self.used + c.len.result - length left ≡ at = cc in
    refused_there (fed_text self) left at
    (subst (λ z. ReadsRest self.body z (Err Mismatch) left) c.as_slice.ensures.value refused)
    (omega (
      arith,
      place,
      c.requires.going.used,
      c.len.ensures,
      length-append (read_text self.body) self.text.items,
      self.text.ok,
    ))
