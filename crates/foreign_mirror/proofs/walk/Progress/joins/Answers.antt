use Rattle.std.proofs.Common.{sym, ap, subst}
use Rattle.feed_reader.specs.Feed.{DocumentValue}
use Rattle.foreign_mirror.specs.Steps.{IsJoined}
use Rattle.foreign_mirror.proofs.SoFarLemmas.{joins-later}
use Rattle.foreign_mirror.proofs.walk.Progress.joins.Goals as goal

pub returns-in-Some : goal.returns-in-Some
returns-in-Some c =
    let old = c.args.self.now in
    let d : DocumentValue = c.args.document.now in
    subst (IsJoined old old d) (sym c.eq.ensures)
    (joins-later old d c.in-Some.id c.document.inside.id c.in-Some.is
    (ap (λ (v : DocumentValue). v.id) c.document.view_is))
