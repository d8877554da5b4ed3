use Rattle.std.proofs.Common.{◌≡◌, ℕ, List, ap, subst}
use Rattle.coverage_auditor.specs.Verdict.{IsVerdict}
use Rattle.coverage_certificate.specs.Certificate.{CertificateValue}
use Rattle.doc_source.specs.declared.offer.Offer.{Offer}
use Rattle.mirror_commands.specs.Audit.{verdict_answer}
use Rattle.mirror_commands.proofs.AuditEndLemmas.{answer-is}
use Rattle.mirror_commands.proofs.VerdictSoundLemmas.{sound-address, verdict-sound}
use Rattle.mirror_commands.proofs.auditing.judge.Goals as goal

pub verdict_line-requires : goal.verdict_line-requires
verdict_line-requires g c =
    let certificate = c.args.certificate.now in
    sound-address certificate c.in_ok-verdict.verdict
    (verdict-sound certificate c.as_slice.result.now c.in_ok-verdict.verdict c.requires c.in_ok-verdict.ensures.verdict)

pub returns-clause-given : goal.returns-clause-given
returns-clause-given g c = λ observable.
    let certificate = c.args.certificate.now in
    let verdict = c.in_ok-verdict.verdict in
    let text = c.in_ok-verdict_line.field-0.items in
    record {
      offers = c.in_ok-offers.offers.items;
      read = c.in_ok-offers.ensures.offers observable;
      few = c.in_ok-offers.ensures.few;
      verdict = verdict;
      is_verdict = subst (λ (pile : List Offer). IsVerdict certificate pile verdict) c.as_slice.ensures.value
          c.in_ok-verdict.ensures.verdict;
      is = answer-is certificate.base verdict c.verdict_status.result text c.verdict_status.ensures
          (subst (λ (base : List ℕ). text ≡ (verdict_answer base verdict).printed)
          (ap (λ (v : CertificateValue). v.base) c.certificate.view_is) c.in_ok-verdict_line.ensures);
    }
