use Rattle.std.proofs.Common.{[], ◌∷◌, Some, None, true, sym, ap}
use Rattle.std.proofs.lemmas.Bool.{false_from_ne_true}
use Rattle.std.proofs.lemmas.Bool.Decides.{Decides-eqb}
use Rattle.std.proofs.lemmas.Slice.Eq.{strip_prefix_is}
use Rattle.xml_tokens.specs.Characters.{begins, lines_after}
use Rattle.xml_tokens.proofs.BeginLemmas.{begins_split}
use Rattle.xml_tokens.proofs.LineLemmas.{after_cr}
use Rattle.xml_tokens.proofs.value.behind_line_end.Goals as goal

pub returns-in-Some-clause-read : goal.returns-in-Some-clause-read
returns-in-Some-clause-read c =
    let split = strip_prefix_is Decides-eqb c.args.text.now (10 ∷ []) (Some c.in-Some.tail) c.in-Some.ensures.cases in
    ap (lines_after true) (sym split)

pub returns-in-None-clause-read : goal.returns-in-None-clause-read
returns-in-None-clause-read c =
    let text = c.args.text.now in
    let none = strip_prefix_is Decides-eqb text (10 ∷ []) None c.in-None.ensures.cases in
    sym (after_cr text (false_from_ne_true (begins (10 ∷ []) text) (λ begun. none _ (begins_split
    (10 ∷ []) text begun))))
