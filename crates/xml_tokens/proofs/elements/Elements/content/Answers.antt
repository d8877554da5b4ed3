use Rattle.std.proofs.Common.{◌≡◌, ◌≤◌, ◌<◌, ◌∙◌, Some, None, Ok, refl, sym, ap, subst, arith}
use Rattle.std.specs.Prelude.{IsSome}
use Rattle.xml_tokens.specs.Progress.{Point, IsAt, IsEventOf, IsDepthAfter, IsContentFrom, depth_of, inner_depth}
use Rattle.xml_tokens.specs.Progress.{left_of, pending}
use Rattle.xml_tokens.specs.declared.fault.TokenFault.TheVariants.{NoMemory}
use Rattle.xml_tokens.specs.Progress.{added_text}
use Rattle.xml_tokens.proofs.ContentLemmas.{IsInside, inside_start, inside_step, inside_last}
use Rattle.xml_tokens.proofs.ProgressLemmas.{depth_step, depth_within, err_is, fault_on}
use Rattle.xml_tokens.proofs.elements.Elements.content.Goals as goal

pub loop-content-init : goal.loop-content-init
loop-content-init c = record {
  reading = c.requires.reading;
  deep = omega arith;
  left = omega arith;
  on = λ from at. subst (λ t. IsInside c.args.self.now.length (pending c.args.self.now) from c.args.self.now 0 t None)
      (sym c.new.ensures.items) (inside_start c.args.self.now from at);
}

pub next-requires : goal.next-requires
next-requires c = c.loop-content.invariant.reading

pub returns-in_err-event-clause-read : goal.returns-in_err-event-clause-read
returns-in_err-event-clause-read c = λ from at.
    let old = c.args.self.now in
    let x = c.loop-content.invariant.on from at in
    err_is (λ r. IsContentFrom old.length (pending old) from r c.next.new.self) c.in_err-event.field-0.0
    c.from_residual.result c.from_residual.ensures.1
    (fault_on old.length (pending old) from x.told c.loop-content.self x.led c.in_err-event.field-0.0
    (c.in_err-event.ensures.read x.led.to x.led.is_at))

pub depth_after-requires : goal.depth_after-requires
depth_after-requires c =
    let within = depth_within c.loop-content.self c.loop-content.invariant.reading.0
    c.loop-content.invariant.reading.1 in
    let deep = c.loop-content.invariant.deep in
    omega arith

pub returns-in-None-clause-read : goal.returns-in-None-clause-read
returns-in-None-clause-read c = λ from at.
    let old = c.args.self.now in
    let mid = c.loop-content.self in
    let new = c.next.new.self in
    let event = c.in-Some.event in
    let x = c.loop-content.invariant.on from at in
    let y : IsEventOf mid.length (pending mid) x.led.to (Ok (Some event)) new =
    subst (λ e. IsEventOf mid.length (pending mid) x.led.to (Ok e) new) c.in-Some.is
    (c.in_ok-event.ensures.read x.led.to x.led.is_at) in
    let last = inside_last old.length (pending old) from mid new c.loop-content.depth c.loop-content.content.text.items
    c.loop-content.content.inner x event y
    (sym c.depth_after.ensures ∙ c.in-None.is) in
    last

pub loop-content-preserved : goal.loop-content-preserved
loop-content-preserved c =
    let old = c.args.self.now in
    let mid = c.loop-content.self in
    let new = c.next.new.self in
    let event = c.in-Some.event in
    let after = c.in-Some-depth_after.after in
    let inv = c.loop-content.invariant in
    let y : (p : Point) → IsAt mid p → IsEventOf mid.length (pending mid) p (Ok (Some event)) new = λ p at.
    subst (λ e. IsEventOf mid.length (pending mid) p (Ok e) new) c.in-Some.is (c.in_ok-event.ensures.read p at) in
    let is : inner_depth event c.loop-content.depth ≡ Some after = sym c.depth_after.ensures
    ∙ c.in-Some-depth_after.is in
    let step : IsDepthAfter (Some event) (depth_of mid) (depth_of new) =
    (subst (λ e. IsSome e → IsDepthAfter e (depth_of mid) (depth_of new)) c.in-Some.is
    c.in_ok-event.ensures.depth) refl in
    let shorter : left_of new < left_of mid =
    (subst (λ e. IsSome e → left_of new < left_of mid) c.in-Some.is c.in_ok-event.ensures.shorter) refl in
    let before : left_of mid ≤ left_of old = inv.left in
    let here = y inv.reading.0 inv.reading.1 in
    record {
      reading = (here.2.to, here.2.is_at);
      deep = depth_step event (depth_of mid) (depth_of new) c.loop-content.depth after (depth_of old) step is inv.deep;
      left = omega arith;
      on = λ from at.
          let x = c.loop-content.invariant.on from at in
          let made = inside_step old.length (pending old) from mid new c.loop-content.depth after
          c.loop-content.content.text.items
          c.loop-content.content.inner x event (y x.led.to x.led.is_at) is in
          subst (λ t. IsInside old.length (pending old) from new after t c.add.new.self.inner)
          (sym c.in_ok-add.ensures.text)
          (subst (λ i. IsInside old.length (pending old) from new after
          (added_text c.loop-content.depth event c.loop-content.content.text.items) i)
          (sym c.in_ok-add.ensures.inner) made);
    }

pub returns-in_err-add-clause-read : goal.returns-in_err-add-clause-read
returns-in_err-add-clause-read c = λ from at.
    err_is (λ r. IsContentFrom c.args.self.now.length (pending c.args.self.now) from r c.next.new.self) NoMemory
    c.from_residual-in_err-add.result c.from_residual-in_err-add.ensures.1 tt

pub returns-clause-read : goal.returns-clause-read
returns-clause-read c = λ from at.
    let none : c.in_ok-event.field-0 ≡ None = c.in_default.is in
    let ended = c.in_ok-event.ensures.ended (ap Ok none) in
    let zero : depth_of c.loop-content.self ≡ 0 = ended.1 in
    let deep = c.loop-content.invariant.deep in
    let inside = c.requires.inside in
    absurd (omega arith)

pub returns-clause-depth : goal.returns-clause-depth
returns-clause-depth c =
    let none : c.in_ok-event.field-0 ≡ None = c.in_default.is in
    let ended = c.in_ok-event.ensures.ended (ap Ok none) in
    let zero : depth_of c.loop-content.self ≡ 0 = ended.1 in
    let deep = c.loop-content.invariant.deep in
    let inside = c.requires.inside in
    absurd (omega arith)

pub returns-clause-shorter : goal.returns-clause-shorter
returns-clause-shorter c =
    let none : c.in_ok-event.field-0 ≡ None = c.in_default.is in
    let ended = c.in_ok-event.ensures.ended (ap Ok none) in
    let zero : depth_of c.loop-content.self ≡ 0 = ended.1 in
    let deep = c.loop-content.invariant.deep in
    let inside = c.requires.inside in
    absurd (omega arith)
