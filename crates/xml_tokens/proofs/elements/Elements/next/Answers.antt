use Rattle.std.proofs.Common.{◌≡◌, ◌∙◌, [], List, Ok, Some, None, subst, sym, ap, refl, arith}
use Rattle.xml_tokens.specs.Tree.{Event}
use Rattle.xml_tokens.specs.Progress.{Point, IsAt, IsLed, IsToldBy, IsDepthAfter, IsEventOf, depth_of, pending}
use Rattle.xml_tokens.proofs.ProgressLemmas.{element_ends, err_is, event_on, fault_on, no_pending}
use Rattle.xml_tokens.proofs.elements.Elements.next.Goals as goal

pub returns-then-self-clause-read : goal.returns-then-self-clause-read
returns-then-self-clause-read c = λ from at.
    let old = c.args.self.now in
    let new = c.close.new.self in
    let led = element_ends old new from c.if-self.true c.close.ensures.closed at in
    subst (λ e. (told : List Event) × IsToldBy (Some e) told × IsLed old.length (pending old) from told new)
    (sym c.close.ensures.end) (_, refl, led.0)

pub returns-then-self-clause-depth : goal.returns-then-self-clause-depth
returns-then-self-clause-depth c = λ some.
    let old = c.args.self.now in
    let new = c.close.new.self in
    let led = element_ends old new c.requires.0 c.if-self.true c.close.ensures.closed c.requires.1 in
    subst (λ e. IsDepthAfter (Some e) (depth_of old) (depth_of new)) (sym c.close.ensures.end) led.1

pub step-requires-clause-more : goal.step-requires-clause-more
step-requires-clause-more c = c.is_over.ensures.more c.loop-self-test.true

pub returns-in_err-event-clause-read : goal.returns-in_err-event-clause-read
returns-in_err-event-clause-read c = λ from at.
    let old = c.args.self.now in
    let x = c.loop-self.invariant.on from at in
    err_is (λ r. IsEventOf old.length (pending old) from r c.step.new.self) c.in_err-event.field-0.0
    c.from_residual.result c.from_residual.ensures.1
    (fault_on old.length [] from [] c.loop-self.self x c.in_err-event.field-0.0
    (c.in_err-event.ensures.read x.to x.is_at))

pub returns-in-Some-clause-read : goal.returns-in-Some-clause-read
returns-in-Some-clause-read c = λ from at.
    let old = c.args.self.now in
    let mid = c.loop-self.self in
    let new = c.step.new.self in
    let x = c.loop-self.invariant.on from at in
    let y : IsEventOf mid.length [] x.to (Ok (Some c.in-Some.event)) new =
    subst (λ e. IsEventOf mid.length [] x.to (Ok e) new) c.in-Some.is (c.in_ok-event.ensures.read x.to x.is_at) in
    subst (λ f. IsEventOf old.length f from (Ok (Some c.in-Some.event)) new) (sym (no_pending old c.if-self.false))
    (event_on old.length [] from mid x (Some c.in-Some.event) new
    (subst (λ f. IsEventOf mid.length f x.to (Ok (Some c.in-Some.event)) new)
    (sym (no_pending mid c.loop-self.invariant.told)) y))

pub loop-self-preserved : goal.loop-self-preserved
loop-self-preserved c =
    let old = c.args.self.now in
    let mid = c.loop-self.self in
    let new = c.step.new.self in
    let silent : (p : Point) → IsAt mid p → IsEventOf mid.length (pending mid) p (Ok None) new = λ p at.
    subst (λ f. IsEventOf mid.length f p (Ok None) new) (sym (no_pending mid c.loop-self.invariant.told))
    (subst (λ e. IsEventOf mid.length [] p (Ok e) new) c.in-None.is (c.in_ok-event.ensures.read p at)) in
    let led : (from : Point) → IsAt old from → IsLed old.length [] from [] new = λ from at.
    let x = c.loop-self.invariant.on from at in
    let e = event_on old.length [] from mid x None new (silent x.to x.is_at) in
    subst (λ t. IsLed old.length [] from t new) e.1 e.2 in
    let here = led c.requires.0 c.requires.1 in
    let deep : depth_of new ≡ depth_of mid =
    subst (λ e. IsDepthAfter e (depth_of mid) (depth_of new)) c.in-None.is c.in_ok-event.ensures.depth in
    let shorter = c.in_ok-event.ensures.shorter in
    let before = c.loop-self.invariant.left in
    record {
      told = c.in_ok-event.ensures.silent (ap Ok c.in-None.is);
      reading = (here.to, here.is_at);
      on = led;
      depth = deep ∙ c.loop-self.invariant.depth;
      left = omega arith;
    }

pub returns-clause-read : goal.returns-clause-read
returns-clause-read c = λ from at.
    let old = c.args.self.now in (
      [],
      refl,
      subst (λ f. IsLed old.length f from [] c.loop-self.self) (sym (no_pending old c.if-self.false))
          (c.loop-self.invariant.on from at),
    )

pub returns-clause-ended : goal.returns-clause-ended
returns-clause-ended c = λ none. (
  c.is_over.ensures.over c.loop-self-test.false,
  sym c.loop-self.invariant.depth
      ∙ c.is_over.ensures.inside c.loop-self-test.false,
)

pub returns-then-self-clause-reading : goal.returns-then-self-clause-reading
returns-then-self-clause-reading c =
    let led = element_ends c.args.self.now c.close.new.self c.requires.0 c.if-self.true c.close.ensures.closed
    c.requires.1 in
    (led.0.to, led.0.is_at)

pub returns-in-Some-clause-reading : goal.returns-in-Some-clause-reading
returns-in-Some-clause-reading c =
    let mid = c.loop-self.self in
    let new = c.step.new.self in
    let x = c.loop-self.invariant.on c.requires.0 c.requires.1 in
    let y : IsEventOf mid.length [] x.to (Ok (Some c.in-Some.event)) new =
    subst (λ e. IsEventOf mid.length [] x.to (Ok e) new) c.in-Some.is (c.in_ok-event.ensures.read x.to x.is_at) in
    (y.2.to, y.2.is_at)
