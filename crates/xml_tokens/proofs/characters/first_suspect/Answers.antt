use Rattle.std.proofs.Common.{◌-◌, length, arith}
use Rattle.xml_tokens.proofs.SuspectLemmas.{suspect_found, suspect_nowhere}
use Rattle.xml_tokens.proofs.characters.first_suspect.Goals as goal

pub returns-in-Some : goal.returns-in-Some
returns-in-Some c =
    let text = c.args.text.now in
    let rest = c.without_clean_blocks-rest.result.now in
    let shorter = c.without_clean_blocks-rest.ensures.shorter in
    suspect_found text rest c.in-Some.at (length text - length rest) c.without_clean_blocks-rest.ensures.clean c.in-Some.ensures
    (omega arith)

pub returns-in-None : goal.returns-in-None
returns-in-None c =
    suspect_nowhere c.args.text.now c.without_clean_blocks-rest.result.now c.without_clean_blocks-rest.ensures.clean
    c.in-None.ensures
