use Rattle.std.proofs.Common.{◌≡◌, ◌≤◌, [], List}
use Rattle.xml_tokens.specs.Tree.{Content, Event}
use Rattle.xml_tokens.specs.Progress.{Point, IsAt, IsLed, IsReading, depth_of, left_of, pending}
use Rattle.entry_reader.specs.Parts.{IsSoFar}
use Rattle.xml_tokens.proofs.ContentLemmas.{ArePart}
use Rattle.entry_reader.proofs.entry.read_parts.Given as goal

abbrev pub invariant-loop-parts : goal.invariant-loop-parts
invariant-loop-parts l = record {
  reading : IsReading l.elements;
  deep : depth_of l.elements ≡ depth_of l.initial.elements;
  left : left_of l.elements ≤ left_of l.initial.elements;
  on : (from : Point) → IsAt l.initial.elements from →
      (told : List Event) × (b : Content)
      × IsLed l.initial.elements.length (pending l.initial.elements) from told l.elements × ArePart b [] told
      × IsSoFar b l.parts;
}

abbrev pub decreases-loop-parts : goal.decreases-loop-parts
decreases-loop-parts l = left_of l.elements
