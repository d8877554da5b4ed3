use Rattle.coverage_certificate.proofs.certificate.CertificateCopies.copy.Goals as goal

pub returns-clause-rules : goal.returns-clause-rules
returns-clause-rules c = rw (← c.self.view_is) (record {
  feed = c.in_ok-feed.ensures.rules;
  base = c.in_ok-base.ensures.rules;
  version = c.in_ok-version.ensures.rules;
  lines = c.self.invariant;
  few = c.in_ok-lines.ensures.rules.0;
  digests = c.in_ok-lines.ensures.rules.1;
  live_count = c.in_ok-live_count.ensures.rules;
  live_digest = c.digest_fits.ensures;
})
