use Rattle.std.proofs.Common.{◌≡◌, take}
use Rattle.std.specs.Prelude.{slice_get}
use Rattle.coverage_auditor.specs.Chain.{ArePlaces, HasFirstName, IsShelf, shown}
use Rattle.coverage_auditor.specs.Offers.{IsIndexOf}
use Rattle.coverage_auditor.specs.Verdict.{AreDocuments}
use Rattle.coverage_auditor.proofs.chain.Chain.read.Given as goal

abbrev pub invariant-loop-line : goal.invariant-loop-line
invariant-loop-line l = record {
  offered : IsIndexOf l.certificate.base l.pile l.shelf.offers.firsts l.shelf.offers.places;
  shelf : IsShelf l.certificate l.pile l.shelf.documents.items l.shelf.read;
  are : ArePlaces l.shelf.documents.items l.places.items;
  read : AreDocuments l.certificate l.pile (take l.line-index l.lines)
      (shown l.shelf.documents.items l.places.items);
  named : HasFirstName l.shelf.documents.items l.shelf.name;
  first : slice_get (shown l.shelf.documents.items l.places.items) 0 ≡ slice_get l.shelf.documents.items 0;
}
