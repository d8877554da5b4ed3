use Rattle.std.proofs.Common.{◌≡◌, List, Some, ap, sym, ◌∙◌, arith}
use Rattle.std.specs.Option.{option_copied}
use Rattle.std.proofs.lemmas.Grind.{common_steps}
use Rattle.chain_links.specs.declared.place.Span.{Span}
use Rattle.member_rules.specs.Head.{HeadValue}
use Rattle.member_rules.specs.Shows.{live_count_of}
use Rattle.member_rules.specs.declared.operation.Op.{Op}
use Rattle.mirror_walk.specs.Laws.{ShowsServed}
use Rattle.mirror_walk.specs.Offers.{AreServed, AreTakenOf, Offering}
use Rattle.mirror_walk.specs.declared.answer.Outcome.TheVariants.{Complete}
use Rattle.mirror_walk.specs.Holding.{HeldValue, best_of, chain_of}
use Rattle.mirror_walk.proofs.MirrorLemmas.{taken_are_shown}
use Rattle.mirror_walk.proofs.OutcomeLemmas.{best-of_whole, outcome-complete, outcome-missing}
use Rattle.mirror_walk.proofs.documents.Documents.outcome.Goals as goal

served : (held : HeldValue) (head : HeadValue) (history : List Op) (offers : List Offering)
    → held.base ≡ head.name.base → AreServed head history offers → AreTakenOf held.base offers held.kept
    → ShowsServed head history offers held.kept (best_of held.kept)
served held = taken_are_shown held.base held.kept

pub returns-in-Some-clause-outcome : goal.returns-in-Some-clause-outcome
returns-in-Some-clause-outcome c =
    sym (outcome-missing c.args.self.now.kept c.in-Some.address (sym c.in-Some.ensures.missing))

pub returns-in-Some-clause-served : goal.returns-in-Some-clause-served
returns-in-Some-clause-served c = served c.args.self.now

pub returns-in_err-list-clause-served : goal.returns-in_err-list-clause-served
returns-in_err-list-clause-served c = served c.args.self.now

pub unwrap-requires : goal.unwrap-requires
unwrap-requires c =
    let best = best-of_whole c.args.self.now.kept (sym c.in_default.ensures.missing) in
    let found : option_copied c.best_kept.result ≡ Some best.0 =
    c.best_kept.ensures ∙ ap best_of c.in_ok-list.ensures.kept ∙ best.1 in
    grind (arith, common_steps)

pub returns-clause-outcome : goal.returns-clause-outcome
returns-clause-outcome c =
    let kept = c.args.self.now.kept in
    let found : best_of kept ≡ Some c.unwrap.result.now =
    sym (ap best_of c.in_ok-list.ensures.kept) ∙ sym c.best_kept.ensures
    ∙ ap option_copied c.unwrap.ensures in
    let version = ap (λ (s : Span). s.last) c.span.ensures in
    let count = c.live_count.ensures ∙ ap (λ ks. live_count_of (chain_of ks)) c.in_ok-list.ensures.kept in
    (λ i. Complete (version i) (count i))
    ∙ sym (outcome-complete kept c.unwrap.result.now found (sym c.in_default.ensures.missing))

pub returns-clause-served : goal.returns-clause-served
returns-clause-served c = served c.args.self.now
