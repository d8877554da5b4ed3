use Rattle.std.proofs.Common.{◌≡◌, ◌≤◌, ◌<◌, ◌∙◌, [], Some, None, Ok, refl, sym, ap, subst, arith}
use Rattle.std.specs.Prelude.{IsSome}
use Rattle.xml_tokens.specs.Progress.{Point, IsAt, IsEventOf, IsDepthAfter, IsSkippedFrom, depth_of, inner_depth}
use Rattle.xml_tokens.specs.Progress.{left_of, pending}
use Rattle.xml_tokens.proofs.ContentLemmas.{inside_start, inside_step, inside_last}
use Rattle.xml_tokens.proofs.ProgressLemmas.{depth_step, depth_within, err_is, fault_on}
use Rattle.xml_tokens.proofs.elements.Elements.skip.Goals as goal

pub loop-event-init : goal.loop-event-init
loop-event-init c = record {
  reading = c.requires.reading;
  deep = omega arith;
  left = omega arith;
  on = λ from at. ([], None, inside_start c.args.self.now from at);
}

pub next-requires : goal.next-requires
next-requires c = c.loop-event.invariant.reading

pub returns-in_err-event-clause-read : goal.returns-in_err-event-clause-read
returns-in_err-event-clause-read c = λ from at.
    let old = c.args.self.now in
    let x = (c.loop-event.invariant.on from at).2 in
    err_is (λ r. IsSkippedFrom old.length (pending old) from r c.next.new.self) c.in_err-event.field-0.0
    c.from_residual.result c.from_residual.ensures.1
    (fault_on old.length (pending old) from x.told c.loop-event.self x.led c.in_err-event.field-0.0
    (c.in_err-event.ensures.read x.led.to x.led.is_at))

pub depth_after-requires : goal.depth_after-requires
depth_after-requires c =
    let within = depth_within c.loop-event.self c.loop-event.invariant.reading.0 c.loop-event.invariant.reading.1 in
    let deep = c.loop-event.invariant.deep in
    omega arith

pub returns-in-None-clause-read : goal.returns-in-None-clause-read
returns-in-None-clause-read c = λ from at.
    let old = c.args.self.now in
    let mid = c.loop-event.self in
    let new = c.next.new.self in
    let event = c.in-Some.event in
    let x = (c.loop-event.invariant.on from at).2 in
    let y : IsEventOf mid.length (pending mid) x.led.to (Ok (Some event)) new =
    subst (λ e. IsEventOf mid.length (pending mid) x.led.to (Ok e) new) c.in-Some.is
    (c.in_ok-event.ensures.read x.led.to x.led.is_at) in
    let last = inside_last old.length (pending old) from mid new c.loop-event.depth
    (c.loop-event.invariant.on from at).0 (c.loop-event.invariant.on from at).1 x event y
    (sym c.depth_after.ensures ∙ c.in-None.is) in
    (last.0, last.1, last.2, last.3)

pub loop-event-preserved-in-Some-depth_after : goal.loop-event-preserved-in-Some-depth_after
loop-event-preserved-in-Some-depth_after c =
    let old = c.args.self.now in
    let mid = c.loop-event.self in
    let new = c.next.new.self in
    let event = c.in-Some.event in
    let after = c.in-Some-depth_after.after in
    let inv = c.loop-event.invariant in
    let y : (p : Point) → IsAt mid p → IsEventOf mid.length (pending mid) p (Ok (Some event)) new = λ p at.
    subst (λ e. IsEventOf mid.length (pending mid) p (Ok e) new) c.in-Some.is (c.in_ok-event.ensures.read p at) in
    let is : inner_depth event c.loop-event.depth ≡ Some after = sym c.depth_after.ensures ∙ c.in-Some-depth_after.is in
    let step : IsDepthAfter (Some event) (depth_of mid) (depth_of new) =
    (subst (λ e. IsSome e → IsDepthAfter e (depth_of mid) (depth_of new)) c.in-Some.is
    c.in_ok-event.ensures.depth) refl in
    let shorter : left_of new < left_of mid =
    (subst (λ e. IsSome e → left_of new < left_of mid) c.in-Some.is c.in_ok-event.ensures.shorter) refl in
    let before : left_of mid ≤ left_of old = inv.left in
    let here = y inv.reading.0 inv.reading.1 in
    record {
      reading = (here.2.to, here.2.is_at);
      deep = depth_step event (depth_of mid) (depth_of new) c.loop-event.depth after (depth_of old) step is inv.deep;
      left = omega arith;
      on = λ from at.
          let x = (c.loop-event.invariant.on from at).2 in (
            _,
            _,
            inside_step old.length (pending old) from mid new c.loop-event.depth after (inv.on from at).0
                (inv.on from at).1 x event
                (y x.led.to x.led.is_at) is,
          );
    }

pub loop-event-preserved : goal.loop-event-preserved
loop-event-preserved c =
    let old = c.args.self.now in
    let mid = c.loop-event.self in
    let new = c.next.new.self in
    let event = c.in-Some.event in
    let after = c.in-Some-depth_after.after in
    let inv = c.loop-event.invariant in
    let y : (p : Point) → IsAt mid p → IsEventOf mid.length (pending mid) p (Ok (Some event)) new = λ p at.
    subst (λ e. IsEventOf mid.length (pending mid) p (Ok e) new) c.in-Some.is (c.in_ok-event.ensures.read p at) in
    let is : inner_depth event c.loop-event.depth ≡ Some after = sym c.depth_after.ensures ∙ c.in-Some-depth_after.is in
    let step : IsDepthAfter (Some event) (depth_of mid) (depth_of new) =
    (subst (λ e. IsSome e → IsDepthAfter e (depth_of mid) (depth_of new)) c.in-Some.is
    c.in_ok-event.ensures.depth) refl in
    let shorter : left_of new < left_of mid =
    (subst (λ e. IsSome e → left_of new < left_of mid) c.in-Some.is c.in_ok-event.ensures.shorter) refl in
    let before : left_of mid ≤ left_of old = inv.left in
    let here = y inv.reading.0 inv.reading.1 in
    record {
      reading = (here.2.to, here.2.is_at);
      deep = depth_step event (depth_of mid) (depth_of new) c.loop-event.depth after (depth_of old) step is inv.deep;
      left = omega arith;
      on = λ from at.
          let x = (c.loop-event.invariant.on from at).2 in (
            _,
            _,
            inside_step old.length (pending old) from mid new c.loop-event.depth after (inv.on from at).0
                (inv.on from at).1 x event
                (y x.led.to x.led.is_at) is,
          );
    }

pub returns-clause-read : goal.returns-clause-read
returns-clause-read c = λ from at.
    let none : c.in_ok-event.field-0 ≡ None = c.in_default.is in
    let ended = c.in_ok-event.ensures.ended (ap Ok none) in
    let zero : depth_of c.loop-event.self ≡ 0 = ended.1 in
    let deep = c.loop-event.invariant.deep in
    let inside = c.requires.inside in
    absurd (omega arith)

pub returns-clause-depth : goal.returns-clause-depth
returns-clause-depth c =
    let none : c.in_ok-event.field-0 ≡ None = c.in_default.is in
    let ended = c.in_ok-event.ensures.ended (ap Ok none) in
    let zero : depth_of c.loop-event.self ≡ 0 = ended.1 in
    let deep = c.loop-event.invariant.deep in
    let inside = c.requires.inside in
    absurd (omega arith)

pub returns-clause-shorter : goal.returns-clause-shorter
returns-clause-shorter c =
    let none : c.in_ok-event.field-0 ≡ None = c.in_default.is in
    let ended = c.in_ok-event.ensures.ended (ap Ok none) in
    let zero : depth_of c.loop-event.self ≡ 0 = ended.1 in
    let deep = c.loop-event.invariant.deep in
    let inside = c.requires.inside in
    absurd (omega arith)
