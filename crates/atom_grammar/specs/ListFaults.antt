-- A full list is a mismatch for a reader: no document's text has that many items.
use Rattle.std.specs.Prelude.{◌≡◌}
use Rattle.atom_values.specs.declared.many.ListFault.{ListFault}
use Rattle.atom_values.specs.declared.many.ListFault.TheVariants.{TooMany, NoMemory as Memory}
use Rattle.atom_grammar.specs.declared.part_fault.PartFault.{PartFault}
use Rattle.atom_grammar.specs.declared.part_fault.PartFault.TheVariants.{Mismatch, NoMemory}

abbrev pub IsFaultOf : ListFault → PartFault → Type 0
IsFaultOf (TooMany _) stop = stop ≡ Mismatch
IsFaultOf Memory stop = stop ≡ NoMemory
