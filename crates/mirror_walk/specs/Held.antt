-- The rules that the documents of a loaded mirror keep.
use Rattle.std.specs.Prelude.{◌≡◌, ℕ, ◌+◌, List, Some, All}
use Rattle.sha2.specs.Sha256.{sha256}
use Rattle.atom_writer.specs.Doc.{DocValue, IsDoc}
use Rattle.atom_writer.specs.Pieces.{own_address, text}
use Rattle.mirror_walk.specs.Holding.{KeptValue, archive_at, best_of, document_at}

-- a document with the mirror's base, and the digest of its text
pub record IsHeldDoc (base : List ℕ) (held : KeptValue) : Type 0 where
  pub is_doc : IsDoc held.document
  pub base_is : held.document.name.base ≡ base
  pub digest : held.digest ≡ sha256 (text held.document)

-- all documents belong to the feed with this identifier
abbrev pub HaveFeed : List ℕ → List KeptValue → Type 0
HaveFeed id kept = All (λ (held : KeptValue). held.document.name.id ≡ id) kept

-- the span of `newer` begins right after that of `older`
abbrev pub SpansAdjoin : KeptValue → KeptValue → Type 0
SpansAdjoin older newer = older.document.span.last + 1 ≡ newer.document.span.first

-- The spans of two neighbours adjoin where both are held: of archives with consecutive numbers, and of the best
-- subscription document and the archive before it.
pub record NeighboursAdjoin (kept : List KeptValue) : Type 0 where
  pub archives : (number : ℕ) (older newer : KeptValue) → archive_at kept number ≡ Some older
      → archive_at kept (number + 1) ≡ Some newer → SpansAdjoin older newer
  pub best : (older newest : KeptValue) → best_of kept ≡ Some newest
      → archive_at kept newest.document.prev ≡ Some older → SpansAdjoin older newest

-- the rules that all documents of a mirror with this base keep
pub record AreHeld (base : List ℕ) (kept : List KeptValue) : Type 0 where
  pub each : All (IsHeldDoc base) kept
  pub id : List ℕ
  pub one_feed : HaveFeed id kept
  pub adjoined : NeighboursAdjoin kept

-- a document with the mirror's base and this feed identifier, which is the one held at its own address
pub record IsAtItsAddress (base id : List ℕ) (kept : List KeptValue) (document : DocValue) : Type 0 where
  pub is_doc : IsDoc document
  pub base_is : document.name.base ≡ base
  pub feed : document.name.id ≡ id
  pub held : KeptValue
  pub there : document_at kept (own_address document.kind) ≡ Some held
  pub same : held.document ≡ document
