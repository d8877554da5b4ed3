use Rattle.std.proofs.Common.{rules, ◌≡◌, ◌<◌, ◌+◌, ◌∷◌, ◌++◌, [], List, Some, Ok, refl, ap, subst, ◌∙◌, arith, map}
use Rattle.std.specs.Prelude.{IsSome}
use Rattle.xml_tokens.specs.declared.elements.Event.TheVariants.{Begin, End, Said}
use Rattle.entry_reader.specs.declared.fault.EarlyEnd.TheVariants.{Fault}
use Rattle.xml_tokens.specs.Tree.{Content, Event}
use Rattle.xml_tokens.specs.Tree.Content.{nothing}
use Rattle.xml_tokens.specs.Tree.Event.{begin, finish, say}
use Rattle.xml_tokens.specs.Progress.{Point, IsAt, IsDepthAfter, IsEventOf, IsLed, depth_of, left_of, pending}
use Rattle.entry_reader.specs.Parts.{ArePartsFrom, IsSoFar}
use Rattle.xml_tokens.specs.Children.{with_child}
use Rattle.xml_tokens.proofs.ContentLemmas.{ArePart, part_last, part_none, part_said, part_whole}
use Rattle.entry_reader.proofs.EntryLemmas.{child_stopped, parts_said}
use Rattle.entry_reader.proofs.ChildLemmas.{stop_is}
use Rattle.xml_tokens.proofs.ProgressLemmas.{fault_on, led_nowhere, led_on}
use Rattle.entry_reader.proofs.entry.read_parts.Goals as goal

pub loop-parts-init : goal.loop-parts-init
loop-parts-init c = record {
  reading = c.requires.reading;
  deep = refl;
  left = omega arith;
  on = λ from at. ([], nothing, led_nowhere c.args.elements.now from at, part_none, c.new-parts.ensures);
}

pub returns-in_err-child : goal.returns-in_err-child
returns-in_err-child c = λ from at.
    let old = c.args.elements.now in
    let x = c.loop-parts.invariant.on from at in
    stop_is (λ r. ArePartsFrom old.length (pending old) from r c.next.new.self) (Fault c.in_err-child.field-0.0)
    c.from_residual.result c.from_residual.ensures.1
    (fault_on old.length (pending old) from x.0 c.loop-parts.elements x.2 c.in_err-child.field-0.0
    (c.in_err-child.ensures.read x.2.to x.2.is_at))

pub child-requires-clause-reading : goal.child-requires-clause-reading
child-requires-clause-reading c =
    let inv = c.loop-parts.invariant in
    let mid = c.loop-parts.elements in
    let e : c.in-Some-Begin.field-0 ≡ Begin c.in-Some-Begin.child = search rules in
    let y : IsEventOf mid.length (pending mid) inv.reading.0 (Ok (Some (Begin c.in-Some-Begin.child))) c.next.new.self =
    subst (λ k. IsEventOf mid.length (pending mid) inv.reading.0 (Ok k) c.next.new.self)
    (c.in-Some-Begin.is ∙ ap (λ k. Some k) e) (c.in_ok-child.ensures.read inv.reading.0 inv.reading.1) in
    (y.2.to, y.2.is_at)

pub returns-in_err-child-in-Some-Begin : goal.returns-in_err-child-in-Some-Begin
returns-in_err-child-in-Some-Begin c = λ from at.
    let old = c.args.elements.now in
    let mid = c.loop-parts.elements in
    let new = c.next.new.self in
    let last = c.child.new.elements in
    let x = c.loop-parts.invariant.on from at in
    let e : c.in-Some-Begin.field-0 ≡ Begin c.in-Some-Begin.child = search rules in
    let y : IsEventOf mid.length (pending mid) x.2.to (Ok (Some (Begin c.in-Some-Begin.child))) new =
    subst (λ k. IsEventOf mid.length (pending mid) x.2.to (Ok k) new) (c.in-Some-Begin.is ∙ ap (λ k. Some k) e)
    (c.in_ok-child.ensures.read x.2.to x.2.is_at) in
    let stop = c.in_err-child-in-Some-Begin.field-0.0 in
    let led : IsLed mid.length (pending mid) x.2.to (begin y.1.0 ∷ []) new =
    subst (λ t. IsLed mid.length (pending mid) x.2.to t new) y.1.1 y.2 in
    stop_is (λ r. ArePartsFrom old.length (pending old) from r last) stop
    c.from_residual-in_err-child-in-Some-Begin.result c.from_residual-in_err-child-in-Some-Begin.ensures.1
    (child_stopped old.length (pending old) from x.0 x.1 mid new last y.1.0 x.2 x.3 x.4.faultless led stop
    (c.in_err-child-in-Some-Begin.ensures.read led.to x.1 y.1.0 led.is_at y.1.2 x.4))

pub loop-parts-preserved-in-Some-Begin : goal.loop-parts-preserved-in-Some-Begin
loop-parts-preserved-in-Some-Begin c =
    let old = c.args.elements.now in
    let mid = c.loop-parts.elements in
    let new = c.next.new.self in
    let end = c.child.new.elements in
    let inv = c.loop-parts.invariant in
    let e : c.in-Some-Begin.field-0 ≡ Begin c.in-Some-Begin.child = search rules in
    let same = c.in-Some-Begin.is ∙ ap (λ k. Some k) e in
    let next : (p : Point) → IsAt mid p →
    IsEventOf mid.length (pending mid) p (Ok (Some (Begin c.in-Some-Begin.child))) new = λ p at.
    subst (λ k. IsEventOf mid.length (pending mid) p (Ok k) new) same (c.in_ok-child.ensures.read p at) in
    let depth : depth_of new ≡ depth_of mid + 1 =
    (subst (λ k. IsSome k → IsDepthAfter k (depth_of mid) (depth_of new)) same c.in_ok-child.ensures.depth) refl in
    let one : left_of new < left_of mid =
    (subst (λ k. IsSome k → left_of new < left_of mid) same c.in_ok-child.ensures.shorter) refl in
    let back = c.in_ok-child-in-Some-Begin.ensures.depth in
    let two = c.in_ok-child-in-Some-Begin.ensures.shorter in
    let deep = inv.deep in
    let left = inv.left in
    let all : (from : Point) → IsAt old from → (told : List Event) × (b : Content)
    × IsLed old.length (pending old) from told end × ArePart b [] told × IsSoFar b c.child.new.self = λ from at.
    let x = inv.on from at in
    let y = next x.2.to x.2.is_at in
    let z = c.in_ok-child-in-Some-Begin.ensures.read y.2.to x.1 y.1.0 y.2.is_at y.1.2 x.4 in
    let led : IsLed old.length (pending old) from (x.0 ++ (y.0 ++ z.1)) end =
    led_on old.length (pending old) from x.0 (y.0 ++ z.1) mid end x.2
    (led_on mid.length (pending mid) x.2.to y.0 z.1 new end y.2 z.2) in (
      x.0 ++ begin y.1.0 ∷ z.1,
      with_child x.1 y.1.0 z.0,
      subst (λ t. IsLed old.length (pending old) from (x.0 ++ (t ++ z.1)) end) y.1.1 led,
      part_whole x.1 [] x.0 z.1 y.1.0 z.0 x.3 z.3,
      z.4,
    ) in
    let here = all c.requires.reading.0 c.requires.reading.1 in
    record {
      reading = (here.2.to, here.2.is_at);
      deep = omega arith;
      left = omega arith;
      on = all;
    }

pub loop-parts-preserved : goal.loop-parts-preserved
loop-parts-preserved c =
    let old = c.args.elements.now in
    let mid = c.loop-parts.elements in
    let new = c.next.new.self in
    let inv = c.loop-parts.invariant in
    let e : c.in-Some-Said.field-0 ≡ Said c.in-Some-Said.field-0-0 = search rules in
    let same = c.in-Some-Said.is ∙ ap (λ k. Some k) e in
    let next : (p : Point) → IsAt mid p →
    IsEventOf mid.length (pending mid) p (Ok (Some (Said c.in-Some-Said.field-0-0))) new = λ p at.
    subst (λ k. IsEventOf mid.length (pending mid) p (Ok k) new) same (c.in_ok-child.ensures.read p at) in
    let depth : depth_of new ≡ depth_of mid =
    (subst (λ k. IsSome k → IsDepthAfter k (depth_of mid) (depth_of new)) same c.in_ok-child.ensures.depth) refl in
    let one : left_of new < left_of mid =
    (subst (λ k. IsSome k → left_of new < left_of mid) same c.in_ok-child.ensures.shorter) refl in
    let deep = inv.deep in
    let left = inv.left in
    let all : (from : Point) → IsAt old from → (told : List Event) × (b : Content)
    × IsLed old.length (pending old) from told new × ArePart b [] told × IsSoFar b c.loop-parts.parts = λ from at.
    let x = inv.on from at in
    let y = next x.2.to x.2.is_at in
    let led = led_on old.length (pending old) from x.0 y.0 mid new x.2 y.2 in (
      x.0 ++ map say y.1.0,
      _,
      subst (λ t. IsLed old.length (pending old) from (x.0 ++ t) new) y.1.1 led,
      part_said x.1 [] x.0 y.1.0 x.3,
      parts_said x.1 y.1.0 c.loop-parts.parts x.4,
    ) in
    let here = all c.requires.reading.0 c.requires.reading.1 in
    record {
      reading = (here.2.to, here.2.is_at);
      deep = omega arith;
      left = omega arith;
      on = all;
    }

pub returns-in-Some-End : goal.returns-in-Some-End
returns-in-Some-End c = λ from at.
    let old = c.args.elements.now in
    let mid = c.loop-parts.elements in
    let new = c.next.new.self in
    let e : c.in-Some-End.field-0 ≡ End = search rules in
    let x = c.loop-parts.invariant.on from at in
    let y : IsEventOf mid.length (pending mid) x.2.to (Ok (Some End)) new =
    subst (λ k. IsEventOf mid.length (pending mid) x.2.to (Ok k) new) (c.in-Some-End.is ∙ ap (λ k. Some k) e)
    (c.in_ok-child.ensures.read x.2.to x.2.is_at) in
    let led = led_on old.length (pending old) from x.0 y.0 mid new x.2 y.2 in (
      x.1,
      x.0 ++ finish ∷ [],
      subst (λ t. IsLed old.length (pending old) from (x.0 ++ t) new) y.1 led,
      part_last x.1 x.0 x.3,
      x.4,
    )
