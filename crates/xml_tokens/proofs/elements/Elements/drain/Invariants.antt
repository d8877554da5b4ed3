use Rattle.std.proofs.Common.{List}
use Rattle.xml_tokens.specs.Tree.{Event}
use Rattle.xml_tokens.specs.Progress.{Point, IsAt, IsLed, IsReading, left_of, pending}
use Rattle.xml_tokens.proofs.elements.Elements.drain.Given as goal

abbrev pub invariant-loop-event : goal.invariant-loop-event
invariant-loop-event l = record {
  reading : IsReading l.self;
  on : (from : Point) → IsAt l.initial.self from →
      (told : List Event) × IsLed l.initial.self.length (pending l.initial.self) from told l.self;
}

abbrev pub decreases-loop-event : goal.decreases-loop-event
decreases-loop-event l = left_of l.self
