use Rattle.std.specs.Prelude.{◌≤◌, All, length}
use Rattle.doc_source.specs.Pile.{offer_limit}
use Rattle.program_tests.proofs.foreign.own_source.Given as goal

abbrev pub invariant-loop-archive : goal.invariant-loop-archive
invariant-loop-archive g l = All (λ offer. length offer.bytes ≤ offer_limit) l.offers.items
