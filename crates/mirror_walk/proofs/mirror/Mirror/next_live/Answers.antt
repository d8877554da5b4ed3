use Rattle.std.proofs.Common.{◌≡◌, List, None, IfSome, ap, subst}
use Rattle.mirror_walk.specs.Holding.{KeptValue, first_missing, payloads_of}
use Rattle.mirror_walk.specs.Listing.{IsLastLive, IsNextLive}
use Rattle.mirror_walk.specs.Mirror.{MirrorValue}
use Rattle.mirror_walk.proofs.PublishedLemmas.{next-counted}
use Rattle.mirror_walk.proofs.VisitAnswerLemmas.{loaded-of}
use Rattle.mirror_walk.proofs.mirror.Mirror.next_live.Goals as goal

pub returns-clause-whole : goal.returns-clause-whole
returns-clause-whole c =
    subst (λ (l : List KeptValue). first_missing l ≡ None) (ap (λ (m : MirrorValue). m.kept) c.self.view_is)
    c.next_live.ensures.whole

pub returns-clause-loaded : goal.returns-clause-loaded
returns-clause-loaded c = loaded-of _ c.args.self.now c.self.invariant c.self.view_is c.requires.unspent

pub returns-clause-published : goal.returns-clause-published
returns-clause-published c = λ head history same served.
    let now = c.args.self.now in
    let after = c.args.after in
    let next = c.next_live.result in
    let kept = ap (λ (m : MirrorValue). m.kept) c.self.view_is in
    next-counted now.base (payloads_of now.kept) now.kept
    (loaded-of _ now c.self.invariant c.self.view_is c.requires.unspent)
    (subst (λ (l : List KeptValue). first_missing l ≡ None) kept c.next_live.ensures.whole) head history same served
    after next (subst (λ (l : List KeptValue). IfSome next (IsNextLive l after)) kept c.next_live.ensures.found)
    (subst (λ (l : List KeptValue). next ≡ None → IsLastLive l after) kept c.next_live.ensures.last)
