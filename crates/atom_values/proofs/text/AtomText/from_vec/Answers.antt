use Rattle.atom_values.proofs.XmlTextLemmas.{IsXmlText-refused}
use Rattle.atom_values.proofs.text.AtomText.from_vec.Goals as goal

pub returns-in-Some : goal.returns-in-Some
returns-in-Some c text =
    IsXmlText-refused c.as_slice.result.now c.in-Some.field-0 c.in-Some.ensures
    (rw (← c.as_slice.ensures.value) at text.xml)
