use Rattle.std.specs.Prelude.{◌≤◌, All, length}
use Rattle.doc_source.specs.Pile.{offer_limit}
use Rattle.program_tests.proofs.runs.source_of.Given as goal

abbrev pub invariant-loop-line : goal.invariant-loop-line
invariant-loop-line g l = All (λ offer. length offer.bytes ≤ offer_limit) l.offers.items
