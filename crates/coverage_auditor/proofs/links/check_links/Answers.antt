use Rattle.std.proofs.Common.{◌≡◌, inl, inr, suc, ◌-◌, false, Some, ap, sym, subst, ◌∙◌, arith}
use Rattle.std.specs.Prelude.{slice_get}
use Rattle.std.proofs.lemmas.Bool.{cases_Bool, false≢true}
use Rattle.chain_links.specs.Address.{IsAddress}
use Rattle.chain_links.specs.Place.{Adjoins}
use Rattle.chain_links.specs.declared.place.Place.{Place}
use Rattle.member_rules.specs.Chain.{place_of}
use Rattle.mirror_walk.proofs.MirrorLemmas.{placed-address}
use Rattle.coverage_auditor.specs.Links.{is_followed}
use Rattle.coverage_auditor.specs.declared.verdict.Verdict.TheVariants.{BrokenChain}
use Rattle.coverage_auditor.proofs.LinksLemmas.{AreFollowed, chain-broken, chain-whole, followed-adjoins}
use Rattle.coverage_auditor.proofs.links.check_links.Goals as goal

pub returns-then-not-follows : goal.returns-then-not-follows
returns-then-not-follows c =
    let documents = c.args.chain.now in
    let newer = c.document.result.now in
    let older = c.document-in-loop-at.result.now in
    let n = c.place-newer.ensures in
    let o = c.place-older.ensures in
    let at = c.loop-at.at in
    let one : at ≡ suc (at - 1) = omega (arith, c.loop-at.auto.at) in
    let newer_place : c.place-newer.result ≡ place_of newer = n.place in
    let older_place : c.place-older.result ≡ place_of older = o.place in
    let address = ap (λ (p : Place). p.address) o.place in
    let named = subst (λ a. IsAddress a) (sym address) (placed-address older.kind older.span older.prev
    o.rules.placed) in
    let broken : is_followed newer older ≡ false = elim (cases_Bool (is_followed newer older)) [
      | inl follows ↦
          let adjoins = followed-adjoins newer older follows in
          let result = (c.follows.ensures named).1
          (subst (λ (p : Place). Adjoins c.place-older.result p) (sym newer_place)
          (subst (λ (p : Place). Adjoins p (place_of newer)) (sym older_place) adjoins)) in
          absurd (false≢true (sym c.if-not-follows.true ∙ result))
      | inr off ↦ off
    ] in
    chain-broken documents (at - 1) newer older
    (subst (AreFollowed documents) one c.loop-at.invariant) c.document.ensures
    (subst (λ k. slice_get documents k ≡ Some older) one c.document-in-loop-at.ensures) broken
    ∙ ap (λ a. Some (BrokenChain a)) (sym address)

pub returns : goal.returns
returns c =
    let documents = c.args.chain.now in
    let at = c.loop-at.at in
    chain-whole documents (λ k newer older l first second.
    c.loop-at.invariant k newer older (omega (arith, l, c.loop-at-test.false, c.len-at-end.ensures)) first second)
