use Rattle.std.proofs.Common.{◌≡◌, ◌≤◌, [], false, length}
use Rattle.xml_tokens.specs.Progress.{Point, IsAt, IsLed, IsReading, depth_of}
use Rattle.xml_tokens.proofs.elements.Elements.next.Given as goal

abbrev pub invariant-loop-self : goal.invariant-loop-self
invariant-loop-self l = record {
  told : l.self.empty ≡ false;
  reading : IsReading l.self;
  on : (from : Point) → IsAt l.initial.self from → IsLed l.initial.self.length [] from [] l.self;
  depth : depth_of l.self ≡ depth_of l.initial.self;
  left : length l.self.cursor.rest.now ≤ length l.initial.self.cursor.rest.now;
}

abbrev pub decreases-loop-self : goal.decreases-loop-self
decreases-loop-self l = length l.self.cursor.rest.now
