-- The certificate of the documents that a mirror holds.
use Rattle.std.specs.Prelude.{ℕ, List, ◌∷◌, map, filter_map, Option, option_map}
use Rattle.chain_links.specs.declared.address.Address.{Address}
use Rattle.chain_links.specs.declared.address.Address.TheVariants.{Feed, Archive}
use Rattle.member_rules.specs.Shows.{live_count_of}
use Rattle.mirror_walk.specs.Holding.{KeptValue, best_of, chain_of, digest_at, numbers_from}
use Rattle.coverage_certificate.specs.Certificate.{CertificateValue, CoverValue}
use Rattle.coverage_certificate.specs.Live.{live_digest_of, live_entries_of}

-- the feed's address, and those of the archives from this number down to 1
abbrev pub chain_addresses : ℕ → List Address
chain_addresses prev = Feed ∷ map Archive (numbers_from prev)

-- the line of the document held at an address
abbrev pub line_at : List KeptValue → Address → Option CoverValue
line_at kept address = option_map (λ digest. record { address = address; digest = digest }) (digest_at kept address)

-- the lines of the best subscription document and of the archives that it needs, as far as they are held
unfoldable pub lines_of : List KeptValue → ℕ → List CoverValue
lines_of kept prev = filter_map (line_at kept) (chain_addresses prev)

-- the certificate of these documents, of which this one is the best subscription document
unfoldable pub certificate_by : List ℕ → List KeptValue → KeptValue → CertificateValue
certificate_by base kept best = record {
  feed = best.document.name.id;
  base = base;
  version = best.document.span.last;
  lines = lines_of kept best.document.prev;
  live_count = live_count_of (chain_of kept);
  live_digest = live_digest_of best.document.name (live_entries_of (chain_of kept));
}

-- The certificate of what a complete mirror with this base holds. None without a subscription document.
unfoldable pub certificate_of : List ℕ → List KeptValue → Option CertificateValue
certificate_of base kept = option_map (certificate_by base kept) (best_of kept)

-- a certificate with another digest of the live entries
abbrev pub with_digest : List ℕ → CertificateValue → CertificateValue
with_digest digest c = record c { live_digest = digest }
