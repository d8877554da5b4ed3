use Rattle.std.proofs.Common.{◌≡◌, subst}
use Rattle.std.specs.Prelude.{IfOk}
use Rattle.atom_writer.specs.Doc.{DocValue}
use Rattle.archive_sealer.proofs.WindowFormLemmas.{subscription-is}
use Rattle.archive_sealer.proofs.window.Window.subscription.Goals as goal

pub returns : goal.returns
returns c =
    subst (λ (d : DocValue). IfOk c.document.result (λ doc. doc ≡ d))
    (subscription-is c.args.head.now c.args.self.now.history) c.document.ensures
