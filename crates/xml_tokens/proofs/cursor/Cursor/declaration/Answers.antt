use Rattle.std.proofs.Common.{Err}
use Rattle.xml_tokens.proofs.EncodingReadLemmas.{then_encoding, fails_encoding}
use Rattle.xml_tokens.proofs.EncodingLemmas.{any_found}
use Rattle.xml_tokens.proofs.DeclaredLemmas.{start_joins, gap_joins, version_joins, any_joins, start_goes, gap_goes}
use Rattle.xml_tokens.proofs.DeclaredLemmas.{version_goes, any_goes, declaration_reads, declaration_fails}
use Rattle.xml_tokens.proofs.cursor.Cursor.declaration.Goals as goal

pub returns-in_err-literal : goal.returns-in_err-literal
returns-in_err-literal c =
    let text = c.args.self.now.rest.now in
    let end = c.literal.new.self.rest.now in
    let e = c.in_err-literal.field-0.0 in
    declaration_fails text end e c.from_residual.result c.from_residual.ensures.1
    (fails_encoding start_joins start_goes text e end end c.in_err-literal.ensures)

pub returns-in_err-gap : goal.returns-in_err-gap
returns-in_err-gap c =
    let text = c.args.self.now.rest.now in
    let started = c.literal.new.self.rest.now in
    let end = c.gap.new.self.rest.now in
    let e = c.in_err-gap.field-0.0 in
    declaration_fails text end e c.from_residual-in_err-gap.result c.from_residual-in_err-gap.ensures.1
    (then_encoding start_joins start_goes text tt started c.in_ok-literal.ensures (Err e) end
    (fails_encoding gap_joins gap_goes started e end end c.in_err-gap.ensures))

pub returns-in_err-version : goal.returns-in_err-version
returns-in_err-version c =
    let text = c.args.self.now.rest.now in
    let started = c.literal.new.self.rest.now in
    let spaced = c.gap.new.self.rest.now in
    let end = c.version.new.self.rest.now in
    let e = c.in_err-version.field-0.0 in
    declaration_fails text end e c.from_residual-in_err-version.result c.from_residual-in_err-version.ensures.1
    (then_encoding start_joins start_goes text tt started c.in_ok-literal.ensures (Err e) end
    (then_encoding gap_joins gap_goes started tt spaced c.in_ok-gap.ensures (Err e) end
    (fails_encoding version_joins version_goes spaced e end end c.in_err-version.ensures)))

pub returns : goal.returns
returns c =
    let text = c.args.self.now.rest.now in
    let started = c.literal.new.self.rest.now in
    let spaced = c.gap.new.self.rest.now in
    let versioned = c.version.new.self.rest.now in
    let behind = c.spaces-spaced.new.self.rest.now in
    let end = c.behind_version.new.self.rest.now in
    let r = c.behind_version.result in
    declaration_reads text r end
    (then_encoding start_joins start_goes text tt started c.in_ok-literal.ensures r end
    (then_encoding gap_joins gap_goes started tt spaced c.in_ok-gap.ensures r end
    (then_encoding version_joins version_goes spaced tt versioned c.in_ok-version.ensures r end
    (then_encoding any_joins any_goes versioned c.spaces-spaced.result behind
    (any_found versioned c.spaces-spaced.result behind c.spaces-spaced.ensures) r end
    c.behind_version.ensures))))
