use Rattle.std.proofs.Common.{◌≡◌, ◌-◌, length, ap, subst, ◌∙◌}
use Rattle.std.specs.Prelude.{IfOk}
use Rattle.atom_writer.specs.Doc.{DocValue}
use Rattle.member_rules.specs.Windows.{last_within, window_ends}
use Rattle.member_rules.specs.Documents.{name_of, title_after}
use Rattle.member_rules.specs.Head.{HeadValue}
use Rattle.archive_sealer.proofs.DocumentFormLemmas.{subscription-form, subscription-rules}
use Rattle.archive_sealer.proofs.document.subscription.Goals as goal
use Rattle.archive_sealer.proofs.document.subscription.Goals.{After-last_place-open}

-- the place is that of the open window
last : (c : After-last_place-open) → c.last_place-open.result.windows
    ≡ last_within (window_ends c.args.head.now.window c.args.history.now) (length c.args.history.now - 1)
    (length c.args.history.now - 1)
last c =
    c.last_place-open.ensures.last
    ∙ ap (λ n. last_within (window_ends c.args.head.now.window c.args.history.now) n n) c.saturating_sub.ensures

pub document-requires-clause-rules : goal.document-requires-clause-rules
document-requires-clause-rules c =
    subscription-rules c.args.head.now c.args.history.now c.last_place-open.result c.last_place-open.ensures.place
    (last (goal.at.document-requires-clause-rules c).After-last_place-open)

pub returns : goal.returns
returns c =
    let form = subscription-form c.args.head.now c.args.history.now c.last_place-open.result
    c.last_place-open.ensures.place (last (goal.at.returns c).After-last_place-open) in
    subst (λ (d : DocValue). IfOk c.document.result (λ doc. doc ≡ d)) form c.document.ensures

pub document-requires-clause-name : goal.document-requires-clause-name
unfolding name_of
document-requires-clause-name c =
    c.in_ok-name.ensures ∙ ap (λ (h : HeadValue). record h.name {
      title = title_after h.name.title c.args.history.now;
    }) c.head.view_is
