use Rattle.std.proofs.Common.{subst}
use Rattle.xml_tokens.specs.Progress.{pending}
use Rattle.xml_tokens.proofs.ProgressLemmas.{err_is}
use Rattle.feed_reader.specs.Rest.{IsDocumentFrom, elements_only}
use Rattle.feed_reader.proofs.FeedEndLemmas.{rest_ended}
use Rattle.service_reader.specs.Service.{collections_of}
use Rattle.service_reader.specs.ServiceReading.{AreAdded}
use Rattle.service_reader.proofs.ServiceFoundLemmas.{only_collections}
use Rattle.service_reader.proofs.document.read_workspaces.Goals as goal

pub returns-in_err-read_children-clause-read : goal.returns-in_err-read_children-clause-read
returns-in_err-read_children-clause-read c = λ from at.
    let old = c.args.elements.now in
    let address = c.args.service.now.workspace.address.now in
    err_is (λ k. IsDocumentFrom (λ inner _. AreAdded address c.args.found.now (collections_of inner)
    c.read_children.new.into) old.length (pending old) from k c.read_children.new.elements)
    c.in_err-read_children.field-0.0 c.from_residual.result c.from_residual.ensures.1
    (c.in_err-read_children.ensures.read from at)

pub drain-requires : goal.drain-requires
drain-requires c =
    let x = c.in_ok-read_children.ensures.read c.requires.reading.0 c.requires.reading.1 in
    (x.2.to, x.2.is_at)

pub returns-clause-read : goal.returns-clause-read
returns-clause-read c = λ from at.
    let old = c.args.elements.now in
    let address = c.args.service.now.workspace.address.now in
    let start = c.args.found.now in
    let found = c.read_children.new.into in
    let x = c.in_ok-read_children.ensures.read from at in
    rest_ended (λ inner _. AreAdded address start (collections_of (elements_only inner)) found)
    (λ inner _. AreAdded address start (collections_of inner) found) old.length (pending old) from
    c.read_children.new.elements c.drain.new.self (tt {0}) c.drain.result
    (λ inner h. subst (λ cs. AreAdded address start cs found) (only_collections inner) h) x
    (c.drain.ensures.read x.2.to x.2.is_at)
