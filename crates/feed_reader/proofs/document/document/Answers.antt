use Rattle.std.proofs.Common.{subst, sym, ◌∙◌}
use Rattle.xml_tokens.specs.Progress.{pending}
use Rattle.xml_tokens.proofs.ProgressLemmas.{err_is, fault_on}
use Rattle.feed_reader.specs.FeedReading.{IsDocumentMade}
use Rattle.feed_reader.specs.Rest.{IsDocumentFrom}
use Rattle.feed_reader.proofs.FeedEndLemmas.{refused_root}
use Rattle.feed_reader.proofs.document.document.Goals as goal

pub returns-in_err-skip-clause-read : goal.returns-in_err-skip-clause-read
returns-in_err-skip-clause-read c = λ from e at of.
    let old = c.args.elements.now in
    err_is (λ k. IsDocumentFrom (λ inner made. IsDocumentMade c.args.address.now e inner made) old.length (pending old) from
    k c.skip.new.self)
    c.in_err-skip.field-0.0 c.from_residual.result c.from_residual.ensures.1 (c.in_err-skip.ensures.read from at)

pub drain-requires : goal.drain-requires
drain-requires c =
    let x = c.in_ok-skip.ensures.read c.requires.reading.0 c.requires.reading.1 in
    (x.2.to, x.2.is_at)

pub returns-in_err-drain-clause-read : goal.returns-in_err-drain-clause-read
returns-in_err-drain-clause-read c = λ from e at of.
    let old = c.args.elements.now in
    let x = c.in_ok-skip.ensures.read from at in
    let fault = c.in_err-drain.field-0.0 in
    err_is (λ k. IsDocumentFrom (λ inner made. IsDocumentMade c.args.address.now e inner made) old.length (pending old) from
    k c.drain.new.self)
    fault c.from_residual-in_err-drain.result c.from_residual-in_err-drain.ensures.1
    (fault_on old.length (pending old) from x.1 c.skip.new.self x.2 fault (c.in_err-drain.ensures.read x.2.to x.2.is_at))

pub returns-then-not-is_atom-clause-read : goal.returns-then-not-is_atom-clause-read
returns-then-not-is_atom-clause-read c = λ from e at of.
    let old = c.args.elements.now in
    let x = c.in_ok-skip.ensures.read from at in
    refused_root c.args.address.now e old.length (pending old) from c.skip.new.self c.drain.new.self c.args.root.now.at
    of.place (sym (c.is_atom.ensures e of) ∙ c.if-not-is_atom.true) x (c.in_ok-drain.ensures.read x.2.to x.2.is_at)

pub returns-in-Err-clause-read : goal.returns-in-Err-clause-read
returns-in-Err-clause-read c = λ from e at of. c.in-Err.ensures.read from at

pub returns-clause-read : goal.returns-clause-read
returns-clause-read c = λ from e at of.
    let y = c.in_default.ensures.read from at in
    let parts = c.read_feed_parts.new.parts in
    let same = c.in_default.ensures.address ∙ c.new-parts.ensures.address in
    let made = c.document.ensures e y.0 of.place (sym (c.is_atom.ensures e of) ∙ c.if-not-is_atom.false) y.5 in (
      y.0,
      y.1,
      y.2,
      y.3,
      y.4,
      subst (λ a. IsDocumentMade a e y.0 c.document.result) same made,
    )
