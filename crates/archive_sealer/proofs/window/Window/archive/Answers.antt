use Rattle.std.proofs.Common.{◌≡◌, ◌+◌, ap, sym, ◌∙◌, subst}
use Rattle.std.specs.Prelude.{IfOk}
use Rattle.atom_writer.specs.declared.doc.Kind.TheVariants.{Archive}
use Rattle.atom_writer.specs.Doc.{DocValue}
use Rattle.member_rules.specs.Setting.{IsWindowSize}
use Rattle.archive_sealer.specs.Window.{WindowValue, open_document}
use Rattle.archive_sealer.proofs.WindowCountLemmas.{sealed-is}
use Rattle.archive_sealer.proofs.WindowFormLemmas.{archive-is}
use Rattle.archive_sealer.proofs.window.Window.archive.Goals as goal

pub document-requires-clause-kind : goal.document-requires-clause-kind
document-requires-clause-kind c =
    let sealed = sealed-is _ _ _ c.self.invariant.counts c.args.head.now c.args.self.now.history
    (c.requires.feed.first ∙ ap (λ (v : WindowValue). v.first) (sym c.self.view_is))
    (ap (λ (v : WindowValue). v.history) c.self.view_is) in
    (c.requires.full, ap (λ n. n + 1) sealed)

pub returns : goal.returns
returns c =
    let head = c.args.head.now in
    let history = c.args.self.now.history in
    let first = c.requires.feed.first ∙ ap (λ (v : WindowValue). v.first) (sym c.self.view_is) in
    let sealed = sealed-is _ _ _ c.self.invariant.counts head history first
    (ap (λ (v : WindowValue). v.history) c.self.view_is) in
    let limits = subst IsWindowSize (sym first) c.self.invariant.counts.first_size in
    let form = ap (λ n. open_document head (Archive (n + 1)) history) sealed
    ∙ archive-is head history limits c.requires.full in
    subst (λ (d : DocValue). IfOk c.document.result (λ doc. doc ≡ d)) form c.document.ensures
