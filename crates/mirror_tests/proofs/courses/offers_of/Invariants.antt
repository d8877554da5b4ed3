use Rattle.std.proofs.Common.{◌≤◌, All, length}
use Rattle.doc_source.specs.Pile.{offer_limit}
use Rattle.mirror_tests.proofs.courses.offers_of.Given as goal

abbrev pub invariant-loop-address : goal.invariant-loop-address
invariant-loop-address g l = All (λ offer. length offer.bytes ≤ offer_limit) l.offers.items
