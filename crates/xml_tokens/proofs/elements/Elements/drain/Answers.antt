use Rattle.std.proofs.Common.{◌++◌, [], Ok, ap}
use Rattle.xml_tokens.specs.Progress.{IsDrainedFrom, pending}
use Rattle.xml_tokens.proofs.ProgressLemmas.{err_is, fault_on, led_nowhere, led_on}
use Rattle.xml_tokens.proofs.elements.Elements.drain.Goals as goal

pub loop-event-init : goal.loop-event-init
loop-event-init c = record {
  reading = c.requires;
  on = λ from at. ([], led_nowhere c.args.self.now from at);
}

pub next-requires : goal.next-requires
next-requires c = c.loop-event.invariant.reading

pub returns-in_err-_event-clause-read : goal.returns-in_err-_event-clause-read
returns-in_err-_event-clause-read c = λ from at.
    let old = c.args.self.now in
    let x = c.loop-event.invariant.on from at in
    err_is (λ r. IsDrainedFrom old.length (pending old) from r c.next.new.self) c.in_err-_event.field-0.0
    c.from_residual.result c.from_residual.ensures.1
    (fault_on old.length (pending old) from x.0 c.loop-event.self x.1 c.in_err-_event.field-0.0
    (c.in_err-_event.ensures.read x.1.to x.1.is_at))

pub loop-event-preserved-in-Some : goal.loop-event-preserved-in-Some
loop-event-preserved-in-Some c =
    let old = c.args.self.now in
    let mid = c.loop-event.self in
    let new = c.next.new.self in
    let inv = c.loop-event.invariant in
    let here = c.in_ok-_event.ensures.read inv.reading.0 inv.reading.1 in
    record {
      reading = (here.2.to, here.2.is_at);
      on = λ from at.
          let x = inv.on from at in
          let y = c.in_ok-_event.ensures.read x.1.to x.1.is_at in
          (x.0 ++ y.0, led_on old.length (pending old) from x.0 y.0 mid new x.1 y.2);
    }

pub loop-event-preserved : goal.loop-event-preserved
loop-event-preserved c =
    let old = c.args.self.now in
    let mid = c.loop-event.self in
    let new = c.next.new.self in
    let inv = c.loop-event.invariant in
    let here = c.in_ok-_event.ensures.read inv.reading.0 inv.reading.1 in
    record {
      reading = (here.2.to, here.2.is_at);
      on = λ from at.
          let x = inv.on from at in
          let y = c.in_ok-_event.ensures.read x.1.to x.1.is_at in
          (x.0 ++ y.0, led_on old.length (pending old) from x.0 y.0 mid new x.1 y.2);
    }

pub returns-clause-read : goal.returns-clause-read
returns-clause-read c = λ from at.
    let old = c.args.self.now in
    let mid = c.loop-event.self in
    let new = c.next.new.self in
    let x = c.loop-event.invariant.on from at in
    let y = c.in_ok-_event.ensures.read x.1.to x.1.is_at in
    (x.0 ++ y.0, led_on old.length (pending old) from x.0 y.0 mid new x.1 y.2)

pub returns-clause-over : goal.returns-clause-over
returns-clause-over c = (c.in_ok-_event.ensures.ended (ap Ok c.in_default.is)).0
