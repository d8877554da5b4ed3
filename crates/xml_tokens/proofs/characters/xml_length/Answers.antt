use Rattle.std.proofs.Common.{subst, sym}
use Rattle.xml_tokens.specs.Progress.{IsXmlLength}
use Rattle.xml_tokens.proofs.AllowedLemmas.{allowed_front}
use Rattle.xml_tokens.proofs.characters.xml_length.Goals as goal

pub returns-in-Ok : goal.returns-in-Ok
returns-in-Ok c =
    let bytes = c.args.bytes.now in
    subst (IsXmlLength bytes) (sym c.allowed_length.ensures) (allowed_front bytes c.in-Ok.ensures.cases.1)
