use Rattle.std.proofs.Common.{refl}
use Rattle.coverage_certificate.specs.Reading.{IsDocumentLine}
use Rattle.coverage_certificate.proofs.BreakLemmas.{document_line_lacks}
use Rattle.coverage_certificate.proofs.LineLemmas.{none_line, none_text}
use Rattle.coverage_certificate.proofs.read.read_document.Goals as goal

pub returns-in_err-line-clause-none : goal.returns-in_err-line-clause-none
returns-in_err-line-clause-none c = λ _.
    none_text (IsDocumentLine c.args.base.now c.args.is_first) c.args.text.now (c.in_err-line.ensures.none refl)

pub returns-in_err-document_of-clause-none : goal.returns-in_err-document_of-clause-none
returns-in_err-document_of-clause-none c = λ _.
    none_line (IsDocumentLine c.args.base.now c.args.is_first)
    (λ line is. document_line_lacks c.args.base.now c.args.is_first line c.text-rules.ensures.base is)
    c.args.text.now _ _
    c.in_ok-line.ensures.found (c.in_err-document_of.ensures.none refl)
