use Rattle.std.proofs.Common.{◌≡◌, ◌<◌, length, arith}
use Rattle.std.proofs.lemmas.Bool.Decides.{nat_tests}
use Rattle.std.proofs.lemmas.List.{nil_from_length}
use Rattle.doc_source.proofs.LineLemmas.{begins_counts, counts_begin, nothing_begins}
use Rattle.doc_source.proofs.line.begins_count.Goals as goal

pub returns-then-is_empty : goal.returns-then-is_empty
returns-then-is_empty c =
    let none : length c.args.digits.now ≡ 0 = grind (arith, nat_tests) in
    (λ _. nothing_begins c.args.digits.now (nil_from_length c.args.digits.now none), λ _. c.if-is_empty.true)

pub returns-else-is_empty : goal.returns-else-is_empty
returns-else-is_empty c =
    let some : 0 < length c.args.digits.now = grind (arith, nat_tests) in (
      λ is. counts_begin c.args.digits.now c.count_of.result c.is_some.result c.is_some.ensures
          c.count_of.ensures.found is,
      λ b. begins_counts c.args.digits.now c.count_of.result c.is_some.result c.is_some.ensures some
          c.count_of.ensures.only b,
    )
