use Rattle.std.proofs.Common.{◌∷◌, get_or, ap, sym, ◌∙◌, arith}
use Rattle.atom_values.proofs.UnescapeLemmas.{IsNotWritten-bare, IsNotWritten-reference}
use Rattle.atom_values.proofs.text.read_byte.Goals as goal

pub returns-in-Some : goal.returns-in-Some
returns-in-Some c =
    let starts = ap (λ xs. get_or xs 0 0) (sym c.in-Some.ensures.0) ∙ c.in-Some.ensures.1 in
    IsNotWritten-bare c.args.quoted c.args.written.now c.in_ok-first.first.now c.in_ok-first.rest.now
    c.in_ok-first.ensures.cases.0 c.if-first-ne38.true starts

pub returns : goal.returns
returns c =
    let is = c.in_ok-first.ensures.cases.0 ∙ ap (λ b. b ∷ c.in_ok-first.rest.now) c.if-first-ne38.false in
    IsNotWritten-reference c.args.quoted c.args.written.now c.in_ok-first.rest.now is
    (λ k low. c.loop-byte.invariant k (omega arith))
