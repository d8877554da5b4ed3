use Rattle.std.proofs.Common.{◌≡◌, take, map}
use Rattle.deleted_entries.specs.Item.{item_number}
use Rattle.atom_writer.proofs.doc.copy_numbers.Given as goal

abbrev pub invariant-loop-at : goal.invariant-loop-at
invariant-loop-at l = take l.at l.numbers ≡ map item_number (take l.at l.items)
