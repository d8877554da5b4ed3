use Rattle.std.proofs.Common.{sym, ◌∙◌, ap, ◌++◌, ◌-◌, length, take}
use Rattle.std.proofs.lemmas.Bool.Decides.{Decides-eqb}
use Rattle.std.proofs.lemmas.Slice.Eq.{ends_is}
use Rattle.atom_grammar.proofs.cutting.is_whole.Goals as goal

pub returns : goal.returns
returns c =
    let text = c.args.text.now in
    let mark = c.mark_of.result.now in
    let front = take (length text - length mark) text in
    let h = ends_is Decides-eqb text mark c.ends_with.result c.ends_with.ensures.value in (
      λ is. record { front = front; split = h.0 is ∙ ap (λ z. front ++ z) c.mark_of.ensures },
      λ whole. h.1 whole.front (whole.split ∙ ap (λ z. whole.front ++ z) (sym c.mark_of.ensures)),
    )
