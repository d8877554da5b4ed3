use Rattle.std.proofs.Common.{◌≡◌, ap, subst, arith, ◌∙◌}
use Rattle.std.specs.Prelude.{IfOk}
use Rattle.atom_writer.specs.Doc.{DocValue}
use Rattle.member_rules.specs.Documents.{name_of, title_after}
use Rattle.member_rules.specs.Head.{HeadValue}
use Rattle.archive_sealer.proofs.DocumentFormLemmas.{archive-form, archive-rules, archive-within}
use Rattle.archive_sealer.proofs.document.archive.Goals as goal

pub document-requires-clause-rules : goal.document-requires-clause-rules
document-requires-clause-rules c =
    archive-rules c.args.head.now c.args.history.now c.args.number c.place_after-window.result
    c.split_at.result.0.now c.place_after-window.ensures.place c.place_after-window.ensures.windows
    c.split_at.ensures.front c.requires.few c.requires.filled.0 c.requires.filled.1

pub returns : goal.returns
returns c =
    let form = archive-form c.args.head.now c.args.history.now c.args.number c.place_after-window.result
    c.split_at.result.0.now c.place_after-window.ensures.place c.place_after-window.ensures.windows
    c.requires.filled.0 c.split_at.ensures.front in
    subst (λ (d : DocValue). IfOk c.document.result (λ doc. doc ≡ d)) form c.document.ensures

pub split_at-requires : goal.split_at-requires
split_at-requires c =
    archive-within c.args.head.now c.args.history.now c.args.number c.place_after-window.result
    c.place_after-window.ensures.place c.place_after-window.ensures.windows c.requires.filled.0 c.requires.filled.1

pub overflow_add-end : goal.overflow_add-end
overflow_add-end c =
    let within = archive-within c.args.head.now c.args.history.now c.args.number c.place_after-window.result
    c.place_after-window.ensures.place c.place_after-window.ensures.windows c.requires.filled.0 c.requires.filled.1 in
    omega (arith, c.requires.few)

pub document-requires-clause-name : goal.document-requires-clause-name
unfolding name_of
document-requires-clause-name c =
    c.in_ok-name.ensures ∙ ap (λ (h : HeadValue). record h.name {
      title = title_after h.name.title c.split_at.result.0.now;
    }) c.head.view_is
