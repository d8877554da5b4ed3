use Rattle.std.proofs.Common.{sym, ◌∙◌}
use Rattle.xml_tokens.proofs.TokenReadLemmas.{said_reads, blank_reads}
use Rattle.xml_tokens.proofs.OpenTokenLemmas.{lone_cut, content_of, not_content, one_byte, no_open, tag_token_reads}
use Rattle.xml_tokens.proofs.OpenTokenLemmas.{tag_only_at}
use Rattle.xml_tokens.proofs.cursor.Cursor.token.Goals as goal

pub returns-in-Inside-clause-read : goal.returns-in-Inside-clause-read
returns-in-Inside-clause-read c =
    said_reads c.args.place (content_of c.args.place c.in-Inside.field-0 c.in-Inside.is) c.args.self.now.rest.now
    c.requires.text c.requires.some (sym c.at.ensures ∙ c.if-not-at.true) c.said.result c.said.new.self.rest.now
    c.said.ensures

pub returns-in-Inside-clause-foreign : goal.returns-in-Inside-clause-foreign
returns-in-Inside-clause-foreign c = λ start some.
    no_open c.args.self.now.rest.now (sym c.at.ensures ∙ c.if-not-at.true) some

pub returns-in_default-clause-read : goal.returns-in_default-clause-read
returns-in_default-clause-read c =
    blank_reads c.args.place (not_content c.args.place c.in_default.not-Inside) c.args.self.now.rest.now
    c.requires.text c.requires.some (sym c.at.ensures ∙ c.if-not-at.true) c.blank.result c.blank.new.self.rest.now
    c.blank.ensures

pub returns-in_default-clause-foreign : goal.returns-in_default-clause-foreign
returns-in_default-clause-foreign c = λ start some.
    no_open c.args.self.now.rest.now (sym c.at.ensures ∙ c.if-not-at.true) some

pub returns-in-None-clause-read : goal.returns-in-None-clause-read
returns-in-None-clause-read c =
    lone_cut c.args.place c.args.self.now.rest.now
    (one_byte c.args.self.now.rest.now (sym c.at.ensures ∙ c.if-not-at.false) c.in-None.ensures.lookup.3)

pub returns-in-Some-clause-read : goal.returns-in-Some-clause-read
returns-in-Some-clause-read c =
    let l = c.in-Some.ensures.lookup in
    let t = c.in-Some.field-0-test in
    tag_token_reads c.args.place c.args.self.now.rest.now c.tag_token.new.self.rest.now c.requires.text
    (tag_only_at c.args.self.now.rest.now c.in-Some.field-0.now (sym c.at.ensures ∙ c.if-not-at.false) l.3.0 l.1
    t.0.0.1 t.0.1 t.1)
    c.tag_token.result c.tag_token.ensures
