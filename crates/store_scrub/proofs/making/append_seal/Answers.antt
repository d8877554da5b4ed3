use Rattle.std.proofs.Common.{◌≡◌, ◌∙◌, inr, ℕ, List, length, sym, ap, subst, arith}
use Rattle.feed_disk.specs.declared.area.Area.TheVariants.{Sealed}
use Rattle.feed_recovery.proofs.ReadingLemmas.{listed-count}
use Rattle.member_rules.specs.Head.{HeadValue}
use Rattle.member_rules.proofs.CutLemmas.{windows-sealed}
use Rattle.store_scrub.specs.Steps.{HasAppended, HasSealed, last_seal}
use Rattle.store_scrub.proofs.MakingLemmas.{keeps-still, on-ok}
use Rattle.store_scrub.proofs.making.append_seal.Goals as goal

pub returns-then-not-is_next-clause-keeps : goal.returns-then-not-is_next-clause-keeps
returns-then-not-is_next-clause-keeps g c = λ tells. keeps-still (g.D.Disk.state c.args.disk.now)

pub returns-in_err-seal-clause-keeps : goal.returns-in_err-seal-clause-keeps
returns-in_err-seal-clause-keeps g c = λ tells. keeps-still (g.D.Disk.state c.args.disk.now)

pub append_fitting-requires-clause-few : goal.append_fitting-requires-clause-few
append_fitting-requires-clause-few g c =
    let head = c.args.head.now in
    let next = (c.is_next.ensures head c.requires.feed).0 c.if-not-is_next.false in
    omega (arith, next.0, next.1, (windows-sealed head c.args.window.now.history c.requires.head).few, c.requires.few)

pub returns-clause-sealed : goal.returns-clause-sealed
returns-clause-sealed g c =
    let s = g.D.Disk.state c.args.disk.now in
    let t = g.D.Disk.state c.append_fitting.new.disk in
    let head = c.args.head.now in
    let history = c.args.window.now.history in
    let next = (c.is_next.ensures head c.requires.feed).0 c.if-not-is_next.false in
    on-ok c.append_fitting.result
    (g.D.Disk.observable → HasAppended s t c.in_ok-seal.seal c.head.inside.capacity)
    (g.D.Disk.observable → HasSealed s t head history)
    (λ appended tells. inr (
      (
        next.0,
        listed-count c.args.seals.now (s.content Sealed) (c.requires.seals.readable.list tells) ∙ next.1,
      ),
      subst (HasAppended s t (last_seal head history)) (ap (λ (h : HeadValue). h.capacity) c.head.view_is)
          (subst (λ (l : List ℕ). HasAppended s t l c.head.inside.capacity) c.in_ok-seal.ensures.seal (appended tells)),
    )) c.append_fitting.ensures.appended
