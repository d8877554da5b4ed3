-- The statement of an accepted certificate over documents that one feed served.
use Rattle.std.specs.Prelude.{◌≡◌, List, map, take}
use Rattle.atom_writer.specs.Doc.{DocValue}
use Rattle.coverage_certificate.specs.Certificate.{CertificateValue}
use Rattle.coverage_certificate.specs.Live.{live_digest_of}
use Rattle.coverage_certificate.specs.Served.{fold_entries}
use Rattle.doc_source.specs.declared.offer.Offer.{Offer}
use Rattle.member_rules.specs.Fold.{live_count}
use Rattle.member_rules.specs.Head.{HeadValue}
use Rattle.member_rules.specs.declared.operation.Op.{Op}
use Rattle.mirror_walk.specs.Laws.{ShowsVersion}
use Rattle.mirror_walk.specs.Offers.{AreServed, Offering}
use Rattle.coverage_auditor.specs.Verdict.{AreDocuments}

-- the offer, as it is offered to a mirror
abbrev pub offering_of : Offer → Offering
offering_of offer = record { address = offer.address; bytes = offer.bytes }

-- the feed with this head served each offer of the pile after some of these operations
abbrev pub IsServedPile : HeadValue → List Op → List Offer → Type 0
IsServedPile head history pile = AreServed head history (map offering_of pile)

-- The lines' documents are the chain of the feed after the certificate's version. The number and the digest of the live
-- entries are those of the feed's live entries at that version.
pub record ShowsCertified (head : HeadValue) (history : List Op) (c : CertificateValue) (pile : List Offer)
    : Type 0 where
  pub documents : List DocValue
  pub read : AreDocuments c pile c.lines documents
  pub shows : ShowsVersion head history c.version documents
  pub count : c.live_count ≡ live_count (take c.version history)
  pub digest : c.live_digest ≡ live_digest_of head.name (fold_entries (take c.version history))
