-- SHA-256 digests (FIPS 180-4).
use Rattle.std.specs.Prelude.{◌≡◌, ℕ, ◌<◌, List, length, All}
use Rattle.sha2.specs.Sha256.{sha256}

-- thirty-two bytes
pub record IsDigest (digest : List ℕ) : Type 0 where
  pub size : length digest ≡ 32
  pub each : All (λ b. b < 256) digest

-- the digest of these bytes
abbrev pub digest_of : List ℕ → List ℕ
digest_of bytes = sha256 bytes
