use Rattle.std.proofs.Common.{◌≤◌, All, length}
use Rattle.doc_source.specs.Pile.{offer_limit}
use Rattle.certificate_tests.proofs.verdicts.pile_of.Given as goal

abbrev pub invariant-loop-address : goal.invariant-loop-address
invariant-loop-address g l = All (λ offer. length offer.bytes ≤ offer_limit) l.pile.items
