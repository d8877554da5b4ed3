-- Bytes that are no text and no base address are a mismatch for a reader of fields.
use Rattle.std.specs.Prelude.{◌≡◌}
use Rattle.atom_values.specs.declared.text.TextFault.{TextFault}
use Rattle.atom_values.specs.declared.text.TextFault.TheVariants.{TooLong, NotXmlChar, NoMemory as NoTextMemory}
use Rattle.chain_links.specs.declared.base.BaseFault.{BaseFault}
use Rattle.chain_links.specs.declared.base.BaseFault.TheVariants.{BadBase, NoMemory as NoBaseMemory}
use Rattle.member_rules.specs.declared.codec.fault.FieldFault.{FieldFault}
use Rattle.member_rules.specs.declared.codec.fault.FieldFault.TheVariants.{Mismatch, NoMemory}

abbrev pub IsOfText : TextFault → FieldFault → Type 0
IsOfText (TooLong _) fault = fault ≡ Mismatch
IsOfText (NotXmlChar _) fault = fault ≡ Mismatch
IsOfText NoTextMemory fault = fault ≡ NoMemory

abbrev pub IsOfBase : BaseFault → FieldFault → Type 0
IsOfBase BadBase fault = fault ≡ Mismatch
IsOfBase NoBaseMemory fault = fault ≡ NoMemory
