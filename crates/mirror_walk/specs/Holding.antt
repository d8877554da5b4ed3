-- The documents that a mirror holds: those that it took, in order.
--
-- The best subscription document is the one with the greatest `last`. It needs the archives from its `prev`
-- down to 1 (RFC 5005 section 4).
use Rattle.std.specs.Prelude.{ℕ, ◌==◌, nat_lt, List, [], ◌∷◌, Bool, true, false, if◌then◌else◌, Option, Some}
use Rattle.std.specs.Prelude.{None}
use Rattle.std.specs.Prelude.{is_none, option_map, fold, filter, find, filter_map, map}
use Rattle.atom_writer.specs.Doc.{DocValue}
use Rattle.atom_writer.specs.Pieces.{text}
use Rattle.atom_writer.specs.declared.doc.FeedName.{FeedName}
use Rattle.atom_writer.specs.declared.doc.Kind.{Kind}
use Rattle.atom_writer.specs.declared.doc.Kind.TheVariants.{Subscription, Archive as Sealed}
use Rattle.chain_links.specs.declared.address.Address.{Address}
use Rattle.chain_links.specs.declared.address.Address.TheVariants.{Feed, Archive, Member}
use Rattle.member_rules.specs.Chain.{down_from}

-- a document that a mirror took, and the SHA-256 digest of its bytes
pub record KeptValue : Type 0 where
  pub document : DocValue
  pub digest : List ℕ

-- the mirror's base, the documents taken with their digests, in order, and whether the live entries are
-- listed
pub record HeldValue : Type 0 where
  pub base : List ℕ
  pub kept : List KeptValue
  pub listed : Bool

abbrev pub is_subscription : Kind → Bool
is_subscription Subscription = true
is_subscription (Sealed _) = false

-- whether it is the archive of this number
abbrev pub is_archive : ℕ → Kind → Bool
is_archive number Subscription = false
is_archive number (Sealed other) = other == number

-- the archive of this number
unfoldable pub archive_at : List KeptValue → ℕ → Option KeptValue
archive_at kept number = find (λ (k : KeptValue). is_archive number k.document.kind) kept

-- the one with the greater `last`, and the first if they have the same
abbrev pub newer_of : Option KeptValue → KeptValue → Option KeptValue
newer_of None other = Some other
newer_of (Some best) other =
    if nat_lt best.document.span.last other.document.span.last then Some other else Some best

-- the subscription document with the greatest `last`
unfoldable pub best_of : List KeptValue → Option KeptValue
best_of kept = fold newer_of None (filter (λ (k : KeptValue). is_subscription k.document.kind) kept)

-- the numbers from this one down to 1
abbrev pub numbers_from : ℕ → List ℕ
numbers_from number = down_from (λ n. n) number

-- the greatest number, from this one down to 1, of an archive that isn't held
unfoldable pub gap_from : List KeptValue → ℕ → Option ℕ
gap_from kept number = find (λ n. is_none (archive_at kept n)) (numbers_from number)

-- the first missing document that a best subscription document leaves, if there is one
abbrev pub missing_after : List KeptValue → Option KeptValue → Option Address
missing_after kept None = Some Feed
missing_after kept (Some best) = option_map Archive (gap_from kept best.document.prev)

-- the first missing document: the feed's without a best subscription document, else the greatest archive that
-- the best one needs and that isn't held
unfoldable pub first_missing : List KeptValue → Option Address
first_missing kept = missing_after kept (best_of kept)

-- the documents of the held archives from this number down to 1
unfoldable pub archives_from : List KeptValue → ℕ → List DocValue
archives_from kept number =
    filter_map (λ n. option_map (λ (k : KeptValue). k.document) (archive_at kept n)) (numbers_from number)

abbrev pub chain_from : List KeptValue → Option KeptValue → List DocValue
chain_from kept None = []
chain_from kept (Some best) = best.document ∷ archives_from kept best.document.prev

-- the best subscription document and the archives that it needs, as far as they are held, newest first
unfoldable pub chain_of : List KeptValue → List DocValue
chain_of kept = chain_from kept (best_of kept)

-- the feed's name, as the best subscription document states it
abbrev pub name_of_best : List KeptValue → Option FeedName
name_of_best kept = option_map (λ (k : KeptValue). k.document.name) (best_of kept)

-- the document held at an address; none of a member's is
abbrev pub document_at : List KeptValue → Address → Option KeptValue
document_at kept Feed = best_of kept
document_at kept (Archive number) = archive_at kept number
document_at kept (Member _) = None

-- its digest
abbrev pub digest_at : List KeptValue → Address → Option (List ℕ)
digest_at kept address = option_map (λ (k : KeptValue). k.digest) (document_at kept address)

-- its text
abbrev pub text_at : List KeptValue → Address → Option (List ℕ)
text_at kept address = option_map (λ (k : KeptValue). text k.document) (document_at kept address)

-- the payloads of the mirror's area: the texts of the documents taken, in order
abbrev pub payloads_of : List KeptValue → List (List ℕ)
payloads_of kept = map (λ (k : KeptValue). text k.document) kept
