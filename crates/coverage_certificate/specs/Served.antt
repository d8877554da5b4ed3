-- The certificate of the documents that a feed serves after some operations.
use Rattle.std.specs.Prelude.{List, map, length}
use Rattle.atom_values.specs.Entry.{EntryValue}
use Rattle.atom_writer.specs.Doc.{DocValue}
use Rattle.atom_writer.specs.Pieces.{own_address, text}
use Rattle.member_rules.specs.declared.operation.Op.{Op}
use Rattle.member_rules.specs.Chain.{chain}
use Rattle.member_rules.specs.Fold.{fold_of, live_count, made}
use Rattle.member_rules.specs.Head.{HeadValue}
use Rattle.mirror_walk.specs.Listing.{entries_up_to}
use Rattle.coverage_certificate.specs.Certificate.{CertificateValue, CoverValue}
use Rattle.coverage_certificate.specs.Digest.{digest_of}
use Rattle.coverage_certificate.specs.Live.{live_digest_of}

-- the line of a document: its own address, and the digest of its text
abbrev pub line_of : DocValue → CoverValue
line_of document = record { address = own_address document.kind; digest = digest_of (text document) }

-- the live entries after these operations, in order of number
abbrev pub fold_entries : List Op → List EntryValue
fold_entries operations = entries_up_to (fold_of operations).live (made operations)

-- the certificate of the subscription document after these operations and of all its archives
unfoldable pub served_certificate : HeadValue → List Op → CertificateValue
served_certificate head operations = record {
  feed = head.name.id;
  base = head.name.base;
  version = length operations;
  lines = map line_of (chain head operations);
  live_count = live_count operations;
  live_digest = live_digest_of head.name (fold_entries operations);
}
