use Rattle.std.proofs.Common.{length, ap, arith}
use Rattle.atom_values.proofs.XmlTextLemmas.{IsXmlText-nil}
use Rattle.atom_values.proofs.text.AtomText.empty.Goals as goal

pub invariant_of-result : goal.invariant_of-result
invariant_of-result c =
    let none = ap length c.new.ensures.items in
    record { short = omega arith; xml = IsXmlText-nil _ none }
