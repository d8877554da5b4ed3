use Rattle.std.proofs.Common.{subst, List, ℕ}
use Rattle.std.proofs.lemmas.List.{take_rest}
use Rattle.atom_values.specs.Ascii.{lf}
use Rattle.doc_source.specs.Line.{IsFirst}
use Rattle.doc_source.proofs.LineLemmas.{line_end_from}
use Rattle.doc_source.proofs.part.next_lf.Goals as goal

pub returns : goal.returns
returns c =
    line_end_from c.args.bytes.now c.args.start c.in_ok-at.at c.requires
    (subst (λ (x : List ℕ). IsFirst lf x c.in_ok-at.at) (take_rest c.args.bytes.now c.args.start) c.in_ok-at.ensures)
