use Rattle.std.proofs.Common.{nat_lt, rules}
use Rattle.std.proofs.lemmas.List.Sorted.{answers_always}
use Rattle.atom_writer.proofs.NumberLemmas.{rises_from_answer}
use Rattle.atom_writer.proofs.doc.rises.Goals as goal

pub returns : goal.returns
returns c =
    rises_from_answer c.args.numbers.now c.is_sorted_by.result
    (c.is_sorted_by.ensures.cases nat_lt (answers_always _ _ _ (λ f a r g called. search rules)))
