use Rattle.std.proofs.Common.{◌++◌, List, ap, subst, ◌∙◌}
use Rattle.std.proofs.lemmas.Result.{on_ok_weaker}
use Rattle.doc_source.specs.Outside.{TakesPrefix}
use Rattle.coverage_certificate.specs.Certificate.{CertificateValue, CoverValue}
use Rattle.coverage_certificate.specs.Text.{certificate_text}
use Rattle.coverage_certificate.proofs.PrintLemmas.{documents_text, print_both, print_first, print_second, print_third, print_whole}
use Rattle.coverage_certificate.proofs.certificate.Certificate.print.Goals as goal

pub returns-in_err-write_all-clause-prefix : goal.returns-in_err-write_all-clause-prefix
returns-in_err-write_all-clause-prefix g c = λ observable.
    let v : CertificateValue = record {
      feed = c.self.inside.feed;
      base = c.self.inside.base;
      version = c.self.inside.version;
      lines = c.self.inside.lines.items;
      live_count = c.self.inside.live_count;
      live_digest = c.self.inside.live_digest;
    } in
    let before = g.K.Sink.state c.args.sink.now in
    let mid = g.K.Sink.state c.write_all.new.sink in
    subst (λ (x : CertificateValue). TakesPrefix before mid (certificate_text x)) c.self.view_is
    (print_first before mid v c.as_slice.result.now (c.as_slice.ensures.value ∙ c.opening-opening.ensures)
    (c.write_all.ensures.prefix observable))

pub returns-in_err-print_documents-clause-prefix : goal.returns-in_err-print_documents-clause-prefix
returns-in_err-print_documents-clause-prefix g c = λ observable.
    let v : CertificateValue = record {
      feed = c.self.inside.feed;
      base = c.self.inside.base;
      version = c.self.inside.version;
      lines = c.self.inside.lines.items;
      live_count = c.self.inside.live_count;
      live_digest = c.self.inside.live_digest;
    } in
    let before = g.K.Sink.state c.args.sink.now in
    let mid = g.K.Sink.state c.write_all.new.sink in
    let after = g.K.Sink.state c.print_documents.new.sink in
    subst (λ (x : CertificateValue). TakesPrefix before after (certificate_text x)) c.self.view_is
    (print_second before mid after v c.as_slice.result.now (c.as_slice.ensures.value ∙ c.opening-opening.ensures)
    (c.in_ok-write_all.ensures.whole observable)
    (subst (λ (ls : List CoverValue). TakesPrefix mid after (documents_text c.self.inside.base ls))
    c.as_slice-2.ensures.items (c.print_documents.ensures.prefix observable)))

pub returns-clause-prefix : goal.returns-clause-prefix
returns-clause-prefix g c = λ observable.
    let v : CertificateValue = record {
      feed = c.self.inside.feed;
      base = c.self.inside.base;
      version = c.self.inside.version;
      lines = c.self.inside.lines.items;
      live_count = c.self.inside.live_count;
      live_digest = c.self.inside.live_digest;
    } in
    let before = g.K.Sink.state c.args.sink.now in
    let mid = g.K.Sink.state c.write_all.new.sink in
    let after = g.K.Sink.state c.print_documents.new.sink in
    let last = g.K.Sink.state c.write_all-2.new.sink in
    let written = c.in_ok-print_documents.ensures.whole observable
    ∙ ap (λ (ls : List CoverValue). mid.taken ++ documents_text c.self.inside.base ls) c.as_slice-2.ensures.items in
    let both = print_both before mid after v c.as_slice.result.now
    (c.as_slice.ensures.value ∙ c.opening-opening.ensures) (c.in_ok-write_all.ensures.whole observable) written in
    subst (λ (x : CertificateValue). TakesPrefix before last (certificate_text x)) c.self.view_is
    (print_third before after last v c.as_slice-3.result.now (c.as_slice-3.ensures.value ∙ c.ending-ending.ensures) both
    (c.write_all-2.ensures.prefix observable))

pub returns-clause-whole : goal.returns-clause-whole
returns-clause-whole g c = on_ok_weaker c.write_all-2.result (λ taken observable.
    let v : CertificateValue = record {
      feed = c.self.inside.feed;
      base = c.self.inside.base;
      version = c.self.inside.version;
      lines = c.self.inside.lines.items;
      live_count = c.self.inside.live_count;
      live_digest = c.self.inside.live_digest;
    } in
    let before = g.K.Sink.state c.args.sink.now in
    let mid = g.K.Sink.state c.write_all.new.sink in
    let after = g.K.Sink.state c.print_documents.new.sink in
    let last = g.K.Sink.state c.write_all-2.new.sink in
    let written = c.in_ok-print_documents.ensures.whole observable
    ∙ ap (λ (ls : List CoverValue). mid.taken ++ documents_text c.self.inside.base ls) c.as_slice-2.ensures.items in
    let both = print_both before mid after v c.as_slice.result.now
    (c.as_slice.ensures.value ∙ c.opening-opening.ensures) (c.in_ok-write_all.ensures.whole observable) written in
    print_whole before after last v c.as_slice-3.result.now (c.as_slice-3.ensures.value ∙ c.ending-ending.ensures) both
    (taken observable)
    ∙ ap (λ (x : CertificateValue). before.taken ++ certificate_text x) c.self.view_is) c.write_all-2.ensures.whole
