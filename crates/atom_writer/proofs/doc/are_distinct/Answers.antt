use Rattle.atom_writer.proofs.NumberLemmas.{distinct_where_sorted_rise}
use Rattle.atom_writer.proofs.doc.are_distinct.Goals as goal

pub returns : goal.returns
returns c =
    let same = distinct_where_sorted_rise _ _ c.sort_unstable.ensures.permutation c.sort_unstable.ensures.sorted in (
      λ yes. rw (c.copy_numbers.ensures) at (same.0 (c.rises.ensures.0 yes)),
      λ apart. c.rises.ensures.1 (same.1 (rw (c.copy_numbers.ensures) apart)),
    )
