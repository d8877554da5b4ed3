use Rattle.std.proofs.Common.{◌≡◌, ◌+◌, ◌≤◌, List, Option, ℕ}
use Rattle.xml_tokens.specs.Progress.{Point, IsAt, IsReading, depth_of, left_of, pending}
use Rattle.xml_tokens.proofs.ContentLemmas.{IsInside}
use Rattle.xml_tokens.proofs.elements.Elements.skip.Given as goal

abbrev pub invariant-loop-event : goal.invariant-loop-event
invariant-loop-event l = record {
  reading : IsReading l.self;
  deep : depth_of l.self ≡ depth_of l.initial.self + l.depth;
  left : left_of l.self ≤ left_of l.initial.self;
  on : (from : Point) → IsAt l.initial.self from →
      (text : List ℕ) × (inner : Option ℕ)
      × IsInside l.initial.self.length (pending l.initial.self) from l.self l.depth text inner;
}

abbrev pub decreases-loop-event : goal.decreases-loop-event
decreases-loop-event l = left_of l.self
