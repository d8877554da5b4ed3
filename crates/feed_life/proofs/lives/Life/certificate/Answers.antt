use Rattle.std.proofs.Common.{◌<◌, length, refl, subst, sym}
use Rattle.feed_life.specs.Life.{LifeValue}
use Rattle.feed_life.specs.Mirrors.{IsCertified}
use Rattle.feed_life.proofs.StepLemmas.{mirror-read, shown-lives}
use Rattle.feed_life.proofs.lives.Life.certificate.Goals as goal

pub invariant_of-self-2 : goal.invariant_of-self-2
invariant_of-self-2 c kept =
    let within = subst (λ (l : LifeValue). c.args.mirror < length l.mirrors) (sym c.self.view_is) c.requires in
    let alive = c.self.invariant c.if-self.false in
    record {
      history = alive.history;
      held = alive.held;
      lives = shown-lives _ _ alive.history alive.held c.args.mirror c.index_mut.result.now refl alive.lives within
          c.index_mut.ensures.value c.certify.new.disk (λ held is. (c.in_ok-made.ensures alive.history held is).1);
    }

pub returns-clause-certified : goal.returns-clause-certified
returns-clause-certified c history held kept lives there =
    let within = subst (λ (l : LifeValue). c.args.mirror < length l.mirrors) (sym c.self.view_is) c.requires in
    subst (λ (l : LifeValue). IsCertified l.head history kept c.in_ok-made.made) c.self.view_is
    (c.in_ok-made.ensures history kept
    (mirror-read _ _ history held c.args.mirror c.index_mut.result.now c.self.view_is lives within
    c.index_mut.ensures.value kept there)).0

pub returns-clause-lives : goal.returns-clause-lives
returns-clause-lives c history held lives =
    let within = subst (λ (l : LifeValue). c.args.mirror < length l.mirrors) (sym c.self.view_is) c.requires in
    shown-lives _ _ history held c.args.mirror c.index_mut.result.now c.self.view_is lives within
    c.index_mut.ensures.value c.certify.new.disk (λ held is. (c.in_ok-made.ensures history held is).1)
