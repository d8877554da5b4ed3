use Rattle.std.proofs.Common.{ap, refl, subst, sym, ◌∙◌}
use Rattle.coverage_certificate.specs.Certificate.{AreCoverLines, CertificateValue}
use Rattle.coverage_auditor.specs.Links.{accepted}
use Rattle.coverage_auditor.proofs.CheckLemmas.{refused-verdict}
use Rattle.coverage_auditor.proofs.ServedLemmas.{covers-served}
use Rattle.coverage_auditor.proofs.UniqueLemmas.{one-verdict}
use Rattle.coverage_auditor.proofs.VerdictLemmas.{accepted-covers, covers-verdict}
use Rattle.coverage_auditor.proofs.auditor.audit.Goals as goal

pub returns-in-Ok-clause-covers : goal.returns-in-Ok-clause-covers
returns-in-Ok-clause-covers c =
    let cert = c.args.certificate.now in
    let pile = c.args.pile.now in (
      λ e. accepted-covers cert pile (accepted cert) c.in-Ok.ensures refl,
      λ covers. ap (λ (v : CertificateValue). accepted v) c.certificate.view_is,
    )

pub returns-in-Ok-clause-served : goal.returns-in-Ok-clause-served
returns-in-Ok-clause-served c head history served e =
    let cert = c.args.certificate.now in
    let pile = c.args.pile.now in
    covers-served head history cert pile served
    (subst AreCoverLines (ap (λ (v : CertificateValue). v.lines) c.certificate.view_is) c.certificate.invariant)
    (accepted-covers cert pile (accepted cert) c.in-Ok.ensures refl)

pub returns-in-Err-Refused-clause-covers : goal.returns-in-Err-Refused-clause-covers
returns-in-Err-Refused-clause-covers c =
    let cert = c.args.certificate.now in
    let pile = c.args.pile.now in
    let verdict = c.in-Err-Refused.verdict in
    let is = refused-verdict cert pile c.check.result c.in-Err-Refused.field-0 verdict c.check.ensures
    c.in-Err-Refused.is c.in-Err-Refused.field-0-is in (
      λ e. accepted-covers cert pile verdict is (sym c.in-Err-Refused.verdict-is ∙ e),
      λ covers. c.in-Err-Refused.verdict-is
          ∙ one-verdict cert pile verdict (accepted cert) is (covers-verdict cert pile covers),
    )

pub returns-in-Err-Refused-clause-served : goal.returns-in-Err-Refused-clause-served
returns-in-Err-Refused-clause-served c head history served e =
    let cert = c.args.certificate.now in
    let pile = c.args.pile.now in
    let verdict = c.in-Err-Refused.verdict in
    let is = refused-verdict cert pile c.check.result c.in-Err-Refused.field-0 verdict c.check.ensures
    c.in-Err-Refused.is c.in-Err-Refused.field-0-is in
    covers-served head history cert pile served
    (subst AreCoverLines (ap (λ (v : CertificateValue). v.lines) c.certificate.view_is) c.certificate.invariant)
    (accepted-covers cert pile verdict is (sym c.in-Err-Refused.verdict-is ∙ e))
