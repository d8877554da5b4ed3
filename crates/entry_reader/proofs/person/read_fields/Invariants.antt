use Rattle.std.proofs.Common.{◌≡◌, ◌≤◌, [], List}
use Rattle.xml_tokens.specs.Tree.{Content, Event}
use Rattle.xml_tokens.specs.Progress.{Point, IsAt, IsLed, IsReading, depth_of, left_of, pending}
use Rattle.entry_reader.specs.Parts.{AreFieldsOf}
use Rattle.xml_tokens.proofs.ContentLemmas.{ArePart}
use Rattle.entry_reader.proofs.person.read_fields.Given as goal

abbrev pub invariant-loop-fields : goal.invariant-loop-fields
invariant-loop-fields l = record {
  reading : IsReading l.elements;
  deep : depth_of l.elements ≡ depth_of l.initial.elements;
  left : left_of l.elements ≤ left_of l.initial.elements;
  on : (from : Point) → IsAt l.initial.elements from →
      (told : List Event) × (b : Content)
      × IsLed l.initial.elements.length (pending l.initial.elements) from told l.elements
      × ArePart b [] told × AreFieldsOf b l.fields;
}

abbrev pub decreases-loop-fields : goal.decreases-loop-fields
decreases-loop-fields l = left_of l.elements
