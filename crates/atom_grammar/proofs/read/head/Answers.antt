-- Each part up to the span is read, or refused where it begins.
use Rattle.atom_grammar.proofs.HeadLemmas.{no_name, no_links, no_span, head_read}
use Rattle.atom_grammar.proofs.read.head.Goals as goal

pub returns-in_err-name : goal.returns-in_err-name
returns-in_err-name c =
    no_name c.args.pieces.now.rest.now c.opening.new.pieces.rest.now _ c.from_residual.result c.in_err-name.ensures
    c.from_residual.ensures.1

pub links-requires : goal.links-requires
links-requires c = c.in_ok-name.ensures.lawful.is_kind

pub returns-in_err-prev : goal.returns-in_err-prev
returns-in_err-prev c =
    let n = c.in_ok-name.field-0 in
    no_links n.name n.kind n.updated c.args.pieces.now.rest.now c.opening.new.pieces.rest.now
    c.in_ok-name.ensures.lawful c.in_ok-name.ensures.split
    c.links.new.pieces.rest.now _ c.from_residual-in_err-prev.result c.in_err-prev.ensures
    c.from_residual-in_err-prev.ensures.1

pub returns-in_err-span : goal.returns-in_err-span
returns-in_err-span c =
    let n = c.in_ok-name.field-0 in
    no_span n.name n.kind n.updated c.args.pieces.now.rest.now c.opening.new.pieces.rest.now
    c.in_ok-name.ensures.lawful c.in_ok-name.ensures.split
    c.in_ok-prev.prev c.links.new.pieces.rest.now c.in_ok-prev.ensures
    c.span.new.self.rest.now _ c.from_residual-in_err-span.result c.in_err-span.ensures
    c.from_residual-in_err-span.ensures.1

pub returns : goal.returns
returns c =
    let n = c.in_ok-name.field-0 in
    head_read n.name n.kind n.updated c.args.pieces.now.rest.now c.opening.new.pieces.rest.now
    c.in_ok-name.ensures.lawful c.in_ok-name.ensures.split
    c.in_ok-prev.prev c.links.new.pieces.rest.now c.in_ok-prev.ensures c.in_ok-span.span c.span.new.self.rest.now
    c.in_ok-span.ensures c.new.result c.new.ensures
