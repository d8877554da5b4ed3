use Rattle.std.proofs.Common.{Some, ap, sym, ◌∙◌, arith}
use Rattle.std.proofs.lemmas.Bool.{false≢true}
use Rattle.std.proofs.lemmas.Slice.Eq.{bytes_eq-Decides}
use Rattle.coverage_certificate.specs.Certificate.{CertificateValue}
use Rattle.member_rules.specs.Shows.{live_count_of}
use Rattle.coverage_auditor.specs.Links.{digest_by}
use Rattle.coverage_auditor.specs.declared.verdict.Verdict.TheVariants.{LiveDiffers}
use Rattle.mirror_walk.proofs.ListedCountLemmas.{len-live_count, len-lt}
use Rattle.coverage_auditor.proofs.EntriesLemmas.{entries-live}
use Rattle.coverage_auditor.proofs.VerdictLemmas.{live-other, live-same}
use Rattle.coverage_auditor.proofs.live.check_live.Goals as goal
use Rattle.coverage_auditor.proofs.live.check_live.Goals.{else-count-certificate-via-then-count-certificate+else-eq, else-count-certificate-via-else-count-certificate}

pub overflow_cast-count : goal.overflow_cast-count
overflow_cast-count c =
    let chain = c.args.chain.now in
    let small = len-lt chain c.in_ok-live.live c.len-count.ensures.ordered c.in_ok-live.ensures.members
    (entries-live chain chain c.in_ok-live.live c.in_ok-live.ensures.entries) in
    omega (arith, small, c.len-count.ensures.len)

pub returns-then-eq : goal.returns-then-eq
returns-then-eq c newest others split =
    let chain = c.args.chain.now in
    let cert = c.args.certificate.now in
    let count = sym (len-live_count chain c.in_ok-live.live c.len-count.ensures.ordered c.in_ok-live.ensures.members
    (entries-live chain chain c.in_ok-live.live c.in_ok-live.ensures.entries)) ∙ sym c.len-count.ensures.len in
    let digest = sym (c.in_ok-found.ensures newest others split) in
    live-same cert (live_count_of chain) (digest_by newest chain)
    (count ∙ c.if-count-certificate.true ∙ ap (λ (v : CertificateValue). v.live_count) c.certificate.view_is)
    (digest ∙ (bytes_eq-Decides _ _).0 (sym c.eq.ensures ∙ c.if-eq.true)
    ∙ ap (λ (v : CertificateValue). v.live_digest) c.certificate.view_is)

pub returns : goal.returns
returns c newest others split =
    let chain = c.args.chain.now in
    let cert = c.args.certificate.now in
    let count = sym (len-live_count chain c.in_ok-live.live c.len-count.ensures.ordered c.in_ok-live.ensures.members
    (entries-live chain chain c.in_ok-live.live c.in_ok-live.ensures.entries)) ∙ sym c.len-count.ensures.len in
    let digest = sym (c.in_ok-found.ensures newest others split) in
    let stated = ap (λ (v : CertificateValue). v.live_count) c.certificate.view_is in
    let shown = ap (λ (v : CertificateValue). v.live_digest) c.certificate.view_is in
    live-other cert (live_count_of chain) (digest_by newest chain)
    (λ e f. elim c.else-count-certificate.branch [
      | else-count-certificate-via-then-count-certificate+else-eq w ↦
          false≢true (sym w.if-eq.false ∙ w.eq.ensures ∙ (bytes_eq-Decides _ _).1 (sym digest ∙ f ∙ sym shown))
      | else-count-certificate-via-else-count-certificate w ↦
          w.if-count-certificate.false (sym count ∙ e ∙ sym stated)
    ])
    ∙ (λ i. Some (LiveDiffers (count i) (digest i)))
