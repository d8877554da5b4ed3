use Rattle.std.proofs.Common.{◌<◌, ℕ, get_or}
use Rattle.coverage_certificate.proofs.cover_line.digest_fits.Given as goal

abbrev pub invariant-bytes : goal.invariant-bytes
invariant-bytes l = (k : ℕ) → k < l.i → get_or l.digest k 0 < 256
