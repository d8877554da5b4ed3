use Rattle.std.proofs.Common.{Err, codes}
use Rattle.xml_tokens.specs.Reading.{written_section, up_to_end}
use Rattle.xml_tokens.proofs.PartLemmas.{then_reads, joins_fails, err_matches, match_reads, same_reads}
use Rattle.xml_tokens.proofs.TokenLemmas.{section_parts, section_joins, to_section, from_section}
use Rattle.xml_tokens.proofs.cursor.Cursor.section.Goals as goal

pub returns-in_err-literal : goal.returns-in_err-literal
returns-in_err-literal c =
    let text = c.args.self.now.rest.now in
    let end = c.literal.new.self.rest.now in
    let e = c.in_err-literal.field-0.0 in
    err_matches written_section text end e c.from_residual.result c.from_residual.ensures.1
    (same_reads written_section section_parts to_section from_section text (Err e) end
    (joins_fails section_joins text e end end c.in_err-literal.ensures))

pub returns : goal.returns
returns c =
    let text = c.args.self.now.rest.now in
    let begun = c.literal.new.self.rest.now in
    let end = c.up_to.new.self.rest.now in
    match_reads written_section (up_to_end (codes "]]>")) text begun end
    (λ r read. same_reads written_section section_parts to_section from_section text r end
    (then_reads section_joins text tt begun c.in_ok-literal.ensures r end read)) c.up_to.result c.up_to.ensures
