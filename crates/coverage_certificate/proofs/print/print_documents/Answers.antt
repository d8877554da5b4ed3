use Rattle.std.proofs.Common.{◌∷◌, ◌++◌, [], ◌+◌, ℕ, List, get_or, take, drop, ap, subst, ◌∙◌}
use Rattle.std.proofs.lemmas.List.{get_or_default}
use Rattle.chain_links.specs.declared.address.Address.TheVariants.{Feed}
use Rattle.doc_source.specs.Outside.{TakesPrefix}
use Rattle.doc_source.proofs.WriteLemmas.{takes_more, took_made}
use Rattle.coverage_certificate.specs.Certificate.{CoverValue}
use Rattle.coverage_certificate.specs.Text.{document_line}
use Rattle.coverage_certificate.proofs.PrintLemmas.{documents_more, documents_split, documents_text}
use Rattle.coverage_certificate.proofs.print.print_documents.Goals as goal

pub returns-in_err-write_all-clause-prefix : goal.returns-in_err-write_all-clause-prefix
returns-in_err-write_all-clause-prefix g c = λ observable.
    let base = c.args.base.now in
    let lines = c.args.lines.now in
    let i = c.loop-line.line-index in
    let first : CoverValue = record { address = Feed; digest = [] } in
    let line = get_or lines i first in
    let at = get_or_default lines i line first c.loop-line-test.true in
    takes_more (g.K.Sink.state c.args.sink.now) (g.K.Sink.state c.loop-line.sink)
    (g.K.Sink.state c.write_all.new.sink) (documents_text base (take i lines)) (document_line base line ++ 10 ∷ [])
    (documents_text base (drop (i + 1) lines)) (documents_text base lines)
    (documents_split base lines i line c.loop-line-test.true at)
    (c.loop-line.invariant.taken observable)
    (subst (TakesPrefix _ _) (c.as_slice.ensures.value ∙ c.document-text.ensures) (c.write_all.ensures.prefix observable))

pub loop-line-preserved : goal.loop-line-preserved
loop-line-preserved g c =
    let base = c.args.base.now in
    let lines = c.args.lines.now in
    let i = c.loop-line.line-index in
    let first : CoverValue = record { address = Feed; digest = [] } in
    let line = get_or lines i first in
    let at = get_or_default lines i line first c.loop-line-test.true in
    record {
      taken = λ observable.
          took_made (g.K.Sink.state c.args.sink.now) (g.K.Sink.state c.loop-line.sink)
          (g.K.Sink.state c.write_all.new.sink) (documents_text base (take i lines)) c.as_slice.result.now
          (document_line base line ++ 10 ∷ []) (c.as_slice.ensures.value ∙ c.document-text.ensures)
          (c.loop-line.invariant.taken observable) (c.in_ok-write_all.ensures.whole observable)
          ∙ ap (λ (t : List ℕ). (g.K.Sink.state c.args.sink.now).taken ++ t)
          (documents_more base lines i line c.loop-line-test.true at);
      faults = c.in_ok-write_all.ensures.counts.worked ∙ c.loop-line.invariant.faults;
    }
