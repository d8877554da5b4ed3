use Rattle.std.proofs.Common.{◌≡◌, ◌++◌, sym, ap, ◌∙◌, subst}
use Rattle.std.specs.Option.{ok_or}
use Rattle.atom_grammar.specs.declared.part_fault.PartFault.TheVariants.{Mismatch}
use Rattle.atom_grammar.specs.declared.pieces.Pieces.{Pieces}
use Rattle.atom_grammar.specs.Progress.{ReadsRest, body_text, read_text}
use Rattle.atom_grammar.proofs.BodyLemmas.{document_read}
use Rattle.atom_grammar.proofs.read.document.Goals.{in-Some, in-None+in_ok-body-in-None}
use Rattle.atom_grammar.proofs.read.document.Goals as goal

pub returns-in-Ok : goal.returns-in-Ok
returns-in-Ok c =
    let before = c.args.pieces.now.rest.now in
    let body = c.match-begun.body in
    let rest = c.match-begun.pieces.rest.now in
    let split : read_text c.args.begun ++ before ≡ body_text body ++ rest =
    elim c.match-begun.branch [
      | in-Some w ↦
          ap (λ z. read_text z ++ before) w.in-Some.is ∙ ap (λ z. body_text z ++ before) (sym w.body-is)
          ∙ ap (λ (p : Pieces). body_text body ++ p.rest.now) (sym w.pieces-is)
      | in-None+in_ok-body-in-None w ↦
          ap (λ z. read_text z ++ before) w.in-None.is ∙ w.in_ok-body-in-None.ensures.split
          ∙ ap (λ z. body_text z ++ w.head.new.pieces.rest.now) (sym w.body-is)
          ∙ ap (λ (p : Pieces). body_text body ++ p.rest.now) (sym w.pieces-is)
    ] in
    let read = document_read body c.read_to_end.new.self rest c.in-Ok.ensures.read in
    subst (λ z. ReadsRest c.args.begun before z c.read_to_end.new.pieces.rest.now)
    (sym (c.ok_or.ensures.value ∙ ap (λ z. ok_or z Mismatch) c.finish.ensures)) (read.0, split ∙ read.1)
