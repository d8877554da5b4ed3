use Rattle.std.proofs.Common.{◌≡◌, ◌++◌, ap, ◌∙◌}
use Rattle.atom_writer.specs.Doc.{DocValue}
use Rattle.command_ends.specs.Summary.{kind_line, head_lines}
use Rattle.command_ends.proofs.SummaryLemmas.{joins, joins_on}
use Rattle.command_ends.proofs.summary_lines.push_head.Goals as goal

pub returns : goal.returns
unfolding head_lines
returns c =
    let kind : c.push_kind.new.out.items ≡ c.args.out.now.items ++ kind_line c.args.doc.now.kind =
    c.in_ok-push_kind.ensures ∙ ap (λ (d : DocValue). c.args.out.now.items ++ kind_line d.kind) c.doc.view_is in
    joins_on c.push_updated.result _ _ _ _ _
    (joins _ _ _ _ _ (joins _ _ _ _ _ (joins _ _ _ _ _ kind c.in_ok-push_feed.ensures) c.in_ok-push_span.ensures)
    c.in_ok-push_prev.ensures)
    c.push_updated.ensures
