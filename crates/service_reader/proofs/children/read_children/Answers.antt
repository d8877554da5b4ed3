use Rattle.std.proofs.Common.{◌≡◌, ◌<◌, ◌+◌, ◌∷◌, ◌++◌, [], List, Some, Ok, refl, ap, subst, sym, ◌∙◌, arith, map}
use Rattle.std.specs.Prelude.{IsSome}
use Rattle.xml_tokens.specs.declared.elements.Event.TheVariants.{Begin, End, Said}
use Rattle.xml_tokens.specs.Tree.{Content, Event}
use Rattle.xml_tokens.specs.Tree.Content.{nothing}
use Rattle.xml_tokens.specs.Tree.Event.{begin, finish, say}
use Rattle.feed_reader.specs.Rest.{elements_only}
use Rattle.xml_tokens.specs.Children.{with_child}
use Rattle.xml_tokens.specs.Progress.{Point, IsAt, IsDepthAfter, IsEventOf, IsLed, depth_of, left_of, pending}
use Rattle.feed_reader.proofs.ChildrenLemmas.{only_says, only_with_child, rest_err}
use Rattle.xml_tokens.proofs.ContentLemmas.{ArePart, part_last, part_none, part_said, part_whole}
use Rattle.xml_tokens.proofs.ProgressLemmas.{fault_on, led_nowhere, led_on}
use Rattle.service_reader.proofs.children.read_children.Goals as goal

pub loop-event-init : goal.loop-event-init
loop-event-init g c = record {
  reading = c.requires.reading;
  deep = refl;
  left = omega arith;
  on = λ from at. ([], nothing, led_nowhere c.args.elements.now from at, part_none, c.requires.start);
}

pub returns-in_err-event-clause-read : goal.returns-in_err-event-clause-read
returns-in_err-event-clause-read g c = λ from at.
    let old = c.args.elements.now in
    let x = c.loop-event.invariant.on from at in
    rest_err _ old.length (pending old) from c.next.new.self c.in_err-event.field-0.0 c.from_residual.result
    c.from_residual.ensures.1
    (fault_on old.length (pending old) from x.0 c.loop-event.elements x.2 c.in_err-event.field-0.0
    (c.in_err-event.ensures.read x.2.to x.2.is_at))

pub child-requires-clause-reading : goal.child-requires-clause-reading
child-requires-clause-reading g c =
    let inv = c.loop-event.invariant in
    let mid = c.loop-event.elements in
    let y : IsEventOf mid.length (pending mid) inv.reading.0 (Ok (Some (Begin c.in-Begin.child))) c.next.new.self =
    subst (λ k. IsEventOf mid.length (pending mid) inv.reading.0 (Ok k) c.next.new.self)
    (c.in-Some.is ∙ ap (λ k. Some k) c.in-Begin.is) (c.in_ok-event.ensures.read inv.reading.0 inv.reading.1) in
    (y.2.to, y.2.is_at)

pub returns-in_err-child-in-Begin-clause-read : goal.returns-in_err-child-in-Begin-clause-read
returns-in_err-child-in-Begin-clause-read g c = λ from at.
    let old = c.args.elements.now in
    let mid = c.loop-event.elements in
    let new = c.next.new.self in
    let x = c.loop-event.invariant.on from at in
    let y : IsEventOf mid.length (pending mid) x.2.to (Ok (Some (Begin c.in-Begin.child))) new =
    subst (λ k. IsEventOf mid.length (pending mid) x.2.to (Ok k) new)
    (c.in-Some.is ∙ ap (λ k. Some k) c.in-Begin.is) (c.in_ok-event.ensures.read x.2.to x.2.is_at) in
    let fault = c.in_err-child-in-Begin.field-0.0 in
    rest_err _ old.length (pending old) from c.child.new.elements fault c.from_residual-in_err-child-in-Begin.result
    c.from_residual-in_err-child-in-Begin.ensures.1
    (fault_on old.length (pending old) from x.0 mid x.2 fault
    (fault_on mid.length (pending mid) x.2.to y.0 new y.2 fault
    (c.in_err-child-in-Begin.ensures.read y.2.to c.args.into.now (elements_only x.1) y.1.0 y.2.is_at y.1.2 x.4)))

pub loop-event-preserved-in-Begin : goal.loop-event-preserved-in-Begin
loop-event-preserved-in-Begin g c =
    let old = c.args.elements.now in
    let mid = c.loop-event.elements in
    let new = c.next.new.self in
    let end = c.child.new.elements in
    let inv = c.loop-event.invariant in
    let same = c.in-Some.is ∙ ap (λ k. Some k) c.in-Begin.is in
    let next : (p : Point) → IsAt mid p →
    IsEventOf mid.length (pending mid) p (Ok (Some (Begin c.in-Begin.child))) new = λ p at.
    subst (λ k. IsEventOf mid.length (pending mid) p (Ok k) new) same (c.in_ok-event.ensures.read p at) in
    let depth : depth_of new ≡ depth_of mid + 1 =
    (subst (λ k. IsSome k → IsDepthAfter k (depth_of mid) (depth_of new)) same c.in_ok-event.ensures.depth) refl in
    let one : left_of new < left_of mid =
    (subst (λ k. IsSome k → left_of new < left_of mid) same c.in_ok-event.ensures.shorter) refl in
    let back = c.in_ok-child-in-Begin.ensures.depth in
    let two = c.in_ok-child-in-Begin.ensures.shorter in
    let deep = inv.deep in
    let left = inv.left in
    let all : (from : Point) → IsAt old from →
    (told : List Event) × (b : Content) × IsLed old.length (pending old) from told end × ArePart b [] told
    × g.C.Children.Read c.args.children.now c.args.into.now (elements_only b) c.child.new.into = λ from at.
    let x = inv.on from at in
    let y = next x.2.to x.2.is_at in
    let z = c.in_ok-child-in-Begin.ensures.read y.2.to c.args.into.now (elements_only x.1) y.1.0 y.2.is_at y.1.2 x.4 in
    let led : IsLed old.length (pending old) from (x.0 ++ (y.0 ++ z.1)) end =
    led_on old.length (pending old) from x.0 (y.0 ++ z.1) mid end x.2
    (led_on mid.length (pending mid) x.2.to y.0 z.1 new end y.2 z.2) in (
      x.0 ++ begin y.1.0 ∷ z.1,
      with_child x.1 y.1.0 z.0,
      subst (λ t. IsLed old.length (pending old) from (x.0 ++ (t ++ z.1)) end) y.1.1 led,
      part_whole x.1 [] x.0 z.1 y.1.0 z.0 x.3 z.3,
      subst (λ k. g.C.Children.Read c.args.children.now c.args.into.now k c.child.new.into)
          (sym (only_with_child x.1 y.1.0 z.0)) z.4,
    ) in
    let here = all c.requires.reading.0 c.requires.reading.1 in
    record {
      reading = (here.2.to, here.2.is_at);
      deep = omega arith;
      left = omega arith;
      on = all;
    }

pub loop-event-preserved : goal.loop-event-preserved
loop-event-preserved g c =
    let old = c.args.elements.now in
    let mid = c.loop-event.elements in
    let new = c.next.new.self in
    let inv = c.loop-event.invariant in
    let same = c.in-Some.is ∙ ap (λ k. Some k) c.in-Said.is in
    let next : (p : Point) → IsAt mid p →
    IsEventOf mid.length (pending mid) p (Ok (Some (Said c.in-Said.field-0))) new = λ p at.
    subst (λ k. IsEventOf mid.length (pending mid) p (Ok k) new) same (c.in_ok-event.ensures.read p at) in
    let depth : depth_of new ≡ depth_of mid =
    (subst (λ k. IsSome k → IsDepthAfter k (depth_of mid) (depth_of new)) same c.in_ok-event.ensures.depth) refl in
    let one : left_of new < left_of mid =
    (subst (λ k. IsSome k → left_of new < left_of mid) same c.in_ok-event.ensures.shorter) refl in
    let deep = inv.deep in
    let left = inv.left in
    let here = next inv.reading.0 inv.reading.1 in
    record {
      reading = (here.2.to, here.2.is_at);
      deep = omega arith;
      left = omega arith;
      on = λ from at.
          let x = inv.on from at in
          let y = next x.2.to x.2.is_at in
          let led = led_on old.length (pending old) from x.0 y.0 mid new x.2 y.2 in (
            x.0 ++ map say y.1.0,
            _,
            subst (λ t. IsLed old.length (pending old) from (x.0 ++ t) new) y.1.1 led,
            part_said x.1 [] x.0 y.1.0 x.3,
            subst (λ k. g.C.Children.Read c.args.children.now c.args.into.now k c.loop-event.into)
                (sym (only_says x.1 y.1.0)) x.4,
          );
    }

pub returns-in-End-clause-read : goal.returns-in-End-clause-read
returns-in-End-clause-read g c = λ from at.
    let old = c.args.elements.now in
    let mid = c.loop-event.elements in
    let new = c.next.new.self in
    let x = c.loop-event.invariant.on from at in
    let y : IsEventOf mid.length (pending mid) x.2.to (Ok (Some End)) new =
    subst (λ k. IsEventOf mid.length (pending mid) x.2.to (Ok k) new) (c.in-Some.is ∙ ap (λ k. Some k) c.in-End.is)
    (c.in_ok-event.ensures.read x.2.to x.2.is_at) in
    let led = led_on old.length (pending old) from x.0 y.0 mid new x.2 y.2 in (
      x.1,
      x.0 ++ finish ∷ [],
      subst (λ t. IsLed old.length (pending old) from (x.0 ++ t) new) y.1 led,
      part_last x.1 x.0 x.3,
      x.4,
    )
