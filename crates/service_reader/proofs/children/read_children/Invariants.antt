use Rattle.std.proofs.Common.{◌≡◌, ◌≤◌, List, []}
use Rattle.xml_tokens.specs.Tree.{Content, Event}
use Rattle.feed_reader.specs.Rest.{elements_only}
use Rattle.xml_tokens.specs.Progress.{Point, IsAt, IsLed, IsReading, depth_of, left_of, pending}
use Rattle.xml_tokens.proofs.ContentLemmas.{ArePart}
use Rattle.service_reader.proofs.children.read_children.Given as goal

abbrev pub invariant-loop-event : goal.invariant-loop-event
invariant-loop-event g l = record {
  reading : IsReading l.elements;
  deep : depth_of l.elements ≡ depth_of l.initial.elements;
  left : left_of l.elements ≤ left_of l.initial.elements;
  on : (from : Point) → IsAt l.initial.elements from →
      (told : List Event) × (b : Content)
      × IsLed l.initial.elements.length (pending l.initial.elements) from told l.elements × ArePart b [] told
      × g.C.Children.Read l.children l.initial.into (elements_only b) l.into;
}

abbrev pub decreases-loop-event : goal.decreases-loop-event
decreases-loop-event g l = left_of l.elements
