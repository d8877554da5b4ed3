use Rattle.std.proofs.Common.{◌≢◌, [], ◌++◌, length, true, false, eqb, eqb-true, sym, ap, ◌∙◌}
use Rattle.std.proofs.lemmas.Bool.{both_ways}
use Rattle.std.proofs.lemmas.List.{nil_from_length}
use Rattle.xml_tokens.proofs.EncodingNameLemmas.{quote_behind, no_name, found_name, cut_name, broken_name}
use Rattle.xml_tokens.proofs.cursor.Cursor.encoding_name.Goals as goal

pub returns-then-begins_utf8_name : goal.returns-then-begins_utf8_name
returns-then-begins_utf8_name c =
    let rest = c.before-name.new.self.rest.now in
    let b = c.before-name.ensures in
    let some = c.begins_utf8_name.ensures.some c.if-begins_utf8_name.true in
    cut_name c.args.quote c.requires c.args.self.now.rest.now c.before-name.result.now rest b.split
    (nil_from_length rest (eqb-true (length rest) 0 (sym c.if-is_empty.ensures))) b.free some.0 some.1

pub returns-else-begins_utf8_name : goal.returns-else-begins_utf8_name
returns-else-begins_utf8_name c =
    let rest = c.before-name.new.self.rest.now in
    let b = c.before-name.ensures in
    broken_name c.args.quote c.args.self.now.rest.now c.before-name.result.now rest b.split
    (nil_from_length rest (eqb-true (length rest) 0 (sym c.if-is_empty.ensures))) b.free
    (λ more utf8. both_ways c.begins_utf8_name.result c.if-begins_utf8_name.false
    (c.begins_utf8_name.ensures.none more utf8))

pub returns-then-not-is_encoding_name : goal.returns-then-not-is_encoding_name
returns-then-not-is_encoding_name c =
    let rest = c.before-name.new.self.rest.now in
    let end = c.take.new.self.rest.now in
    let b = c.before-name.ensures in
    let name = c.before-name.result.now in
    let some : rest ≢ [] =
    λ e. both_ways (eqb (length rest) 0) (sym c.if-is_empty.ensures) (ap (λ xs. eqb (length xs) 0) e) in
    let q = quote_behind c.args.quote rest c.take.result.now end some b.longest c.take.ensures.split
    c.take.ensures.length in
    no_name c.args.quote c.args.self.now.rest.now name end (b.split ∙ ap (λ xs. name ++ xs) q) b.free
    (sym c.is_encoding_name.ensures ∙ c.if-not-is_encoding_name.true)

pub returns-then-is_utf8_name : goal.returns-then-is_utf8_name
returns-then-is_utf8_name c =
    let rest = c.before-name.new.self.rest.now in
    let end = c.take.new.self.rest.now in
    let b = c.before-name.ensures in
    let name = c.before-name.result.now in
    let some : rest ≢ [] =
    λ e. both_ways (eqb (length rest) 0) (sym c.if-is_empty.ensures) (ap (λ xs. eqb (length xs) 0) e) in
    let q = quote_behind c.args.quote rest c.take.result.now end some b.longest c.take.ensures.split
    c.take.ensures.length in
    found_name c.args.quote c.requires c.args.self.now.rest.now name end true (b.split ∙ ap (λ xs. name ++ xs) q)
    (sym c.is_encoding_name.ensures ∙ c.if-not-is_encoding_name.false)
    (sym c.if-is_utf8_name.true ∙ c.is_utf8_name.ensures)

pub returns-else-is_utf8_name : goal.returns-else-is_utf8_name
returns-else-is_utf8_name c =
    let rest = c.before-name.new.self.rest.now in
    let end = c.take.new.self.rest.now in
    let b = c.before-name.ensures in
    let name = c.before-name.result.now in
    let some : rest ≢ [] =
    λ e. both_ways (eqb (length rest) 0) (sym c.if-is_empty.ensures) (ap (λ xs. eqb (length xs) 0) e) in
    let q = quote_behind c.args.quote rest c.take.result.now end some b.longest c.take.ensures.split
    c.take.ensures.length in
    found_name c.args.quote c.requires c.args.self.now.rest.now name end false (b.split ∙ ap (λ xs. name ++ xs) q)
    (sym c.is_encoding_name.ensures ∙ c.if-not-is_encoding_name.false)
    (sym c.if-is_utf8_name.false ∙ c.is_utf8_name.ensures)
