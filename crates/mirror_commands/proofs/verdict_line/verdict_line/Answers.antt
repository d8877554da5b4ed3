use Rattle.std.proofs.Common.{◌++◌, ℕ, List, ap, codes, ◌∙◌}
use Rattle.mirror_commands.specs.Audit.{verdict_answer, verdict_words}
use Rattle.mirror_commands.proofs.verdict_line.verdict_line.Goals as goal

pub returns : goal.returns
unfolding verdict_answer
returns c =
    c.in_ok-extend_from_slice.ensures.items
    ∙ ap (λ (x : List ℕ). x ++ codes "\n")
    (c.in_ok-push_verdict.ensures
    ∙ ap (λ (x : List ℕ). x ++ verdict_words c.args.base.now c.args.verdict) c.new-line.ensures.items)
