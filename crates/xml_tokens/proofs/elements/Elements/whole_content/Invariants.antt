use Rattle.std.proofs.Common.{◌≡◌, ◌+◌, ◌≤◌, ℕ, List}
use Rattle.xml_tokens.specs.Children.{whole_text_of}
use Rattle.xml_tokens.specs.Progress.{Point, IsAt, IsReading, depth_of, left_of, pending}
use Rattle.xml_tokens.proofs.ContentLemmas.{IsInside, closed}
use Rattle.xml_tokens.proofs.elements.Elements.whole_content.Given as goal

abbrev pub invariant-loop-content : goal.invariant-loop-content
invariant-loop-content l = record {
  reading : IsReading l.self;
  deep : depth_of l.self ≡ depth_of l.initial.self + l.depth;
  left : left_of l.self ≤ left_of l.initial.self;
  on : (from : Point) → IsAt l.initial.self from →
      (text : List ℕ)
      × (x : IsInside l.initial.self.length (pending l.initial.self) from l.self l.depth text l.content.inner)
      × (l.content.text.items ≡ whole_text_of (closed x.before x.frames));
}

abbrev pub decreases-loop-content : goal.decreases-loop-content
decreases-loop-content l = left_of l.self
