use Rattle.std.proofs.Common.{◌≡◌, ◌+◌, ◌≤◌}
use Rattle.xml_tokens.specs.Progress.{Point, IsAt, IsReading, depth_of, left_of, pending}
use Rattle.xml_tokens.proofs.ContentLemmas.{IsInside}
use Rattle.xml_tokens.proofs.elements.Elements.content.Given as goal

abbrev pub invariant-loop-content : goal.invariant-loop-content
invariant-loop-content l = record {
  reading : IsReading l.self;
  deep : depth_of l.self ≡ depth_of l.initial.self + l.depth;
  left : left_of l.self ≤ left_of l.initial.self;
  on : (from : Point) → IsAt l.initial.self from →
      IsInside l.initial.self.length (pending l.initial.self) from l.self l.depth l.content.text.items l.content.inner;
}

abbrev pub decreases-loop-content : goal.decreases-loop-content
decreases-loop-content l = left_of l.self
