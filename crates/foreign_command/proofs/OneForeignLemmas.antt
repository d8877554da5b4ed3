-- What a source has at each address determines the answer of `foreign`.
use Rattle.std.proofs.Common.{◌≡◌, ℕ, List, Option, length, subst, sym, ap, ◌∙◌}
use Rattle.command_ends.specs.Answer.{Answer}
use Rattle.feed_reader.specs.Feed.{DocumentValue}
use Rattle.feed_reader.specs.declared.values.ForeignEntry.{ForeignEntry}
use Rattle.foreign_entries.specs.Laws.{DocumentsHaveOneLive}
use Rattle.foreign_entries.specs.Live.{IsForeignLive}
use Rattle.foreign_mirror.specs.declared.walk.ChainEnd.{ChainEnd}
use Rattle.foreign_mirror.specs.Laws.{WalksEndInOneWay}
use Rattle.foreign_command.specs.Answer.{ForeignHasOneAnswer}
use Rattle.foreign_command.specs.Lines.{foreign_answer}

same_answer : (documents other_documents : List DocumentValue) (live other_live : List ForeignEntry)
    (end other_end : ChainEnd) → documents ≡ other_documents → live ≡ other_live → end ≡ other_end
    → foreign_answer (length documents) live end ≡ foreign_answer (length other_documents) other_live other_end
same_answer documents other_documents live other_live end other_end d l e =
    λ i. foreign_answer (length (d i)) (l i) (e i)

pub one_foreign_answer : WalksEndInOneWay → DocumentsHaveOneLive → ForeignHasOneAnswer
one_foreign_answer one_walk one_live answers from one other x y =
    let same = one_walk answers from x.asked y.asked x.documents y.documents x.end y.end x.walks y.walks in
    let is_live : IsForeignLive y.documents x.live =
    subst (λ (d : List DocumentValue). IsForeignLive d x.live) same.documents x.is_live in
    let live = one_live y.documents x.live y.live is_live y.is_live in
    x.is ∙ same_answer x.documents y.documents x.live y.live x.end y.end same.documents live same.end ∙ sym y.is
