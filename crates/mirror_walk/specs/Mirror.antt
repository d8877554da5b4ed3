-- A mirror over the log of its area, as contracts see it.
use Rattle.std.specs.Prelude.{◌≡◌, ◌≢◌, ◌⊎◌, ℕ, ◌+◌, ◌*◌, ◌≤◌, Bool, false, List, [], ◌∷◌, ◌++◌, map, length}
use Rattle.std.specs.Prelude.{Ok}
use Rattle.feed_disk.specs.Disk.{DiskState}
use Rattle.feed_disk.specs.Moments.{LeavesAlone, NowOnly}
use Rattle.feed_disk.specs.declared.area.Area.{Area}
use Rattle.feed_disk.specs.declared.area.Area.TheVariants.{Mirror as MirrorArea}
use Rattle.feed_journal.specs.Limits.{area_limit}
use Rattle.feed_journal.specs.Log.{IsListed, IsLog, LogValue, payload_lengths}
use Rattle.feed_journal.specs.Records.{records, size_of, Begins, IsWhole}
use Rattle.mirror_walk.specs.declared.answer.Accepted.TheVariants.{Taken}
use Rattle.mirror_walk.specs.Accept.{IsKeptOf, accept_within}
use Rattle.mirror_walk.specs.Holding.{KeptValue, payloads_of}
use Rattle.mirror_walk.specs.Loaded.{IsLoadedOf}

-- its base, the documents taken with their digests, whether the live entries are listed, the capacity of its
-- area, and its log
pub record MirrorValue : Type 0 where
  pub base : List ℕ
  pub kept : List KeptValue
  pub listed : Bool
  pub capacity : ℕ
  pub log : LogValue

-- a device call failed, so the mirror has to be loaded again
abbrev pub is_spent : MirrorValue → Bool
is_spent mirror = mirror.log.spent

-- a mirror as it is loaded: it has this base and this capacity, and hasn't listed the live entries
pub record IsNewlyLoaded (base : List ℕ) (capacity : ℕ) (mirror : MirrorValue) : Type 0 where
  pub base_is : mirror.base ≡ base
  pub capacity_is : mirror.capacity ≡ capacity
  pub unlisted : mirror.listed ≡ false
  pub unspent : is_spent mirror ≡ false

-- the log has the texts of the documents, and each document was taken after those before it
pub record KeepsDocuments (base : List ℕ) (kept : List KeptValue) (log : LogValue) : Type 0 where
  pub lengths : payload_lengths log.extents ≡ map length (payloads_of kept)
  pub size : log.size ≡ size_of (payloads_of kept)
  pub loaded : IsLoadedOf base (payloads_of kept) kept

-- the rules that a mirror keeps; those of its documents end with a failed device call
pub record KeepsMirror (mirror : MirrorValue) : Type 0 where
  pub area : mirror.log.area ≡ MirrorArea
  pub log : IsLog mirror.log
  pub capacity : mirror.capacity ≤ area_limit
  pub documents : is_spent mirror ≡ false → KeepsDocuments mirror.base mirror.kept mirror.log

-- the mirror holds the documents of the disk: the payloads are their texts, and its log lists them
pub record StandsFor (disk : DiskState) (mirror : MirrorValue) : Type 0 where
  pub listed : IsListed mirror.log (disk.content MirrorArea)
  pub payloads : records (disk.content MirrorArea) ≡ payloads_of mirror.kept

-- In each image of now the area begins with the frames of these documents, and a closed gate. A disk is at
-- rest after a load of a whole area, and after each offer without a failed device call.
abbrev pub IsAtRest : DiskState → List KeptValue → Type 0
IsAtRest disk kept = NowOnly disk MirrorArea (Begins (payloads_of kept))

-- the device calls by which a document is taken: those of one append
abbrev pub take_calls : ℕ
take_calls = 4

-- the calls of the disk's clock are at most those of the documents that were taken
abbrev pub TakesFew : DiskState → DiskState → List KeptValue → List KeptValue → Type 0
TakesFew before after kept now = after.clock + take_calls * length kept ≤ before.clock + take_calls * length now

-- the base and the capacity of the mirror stay, and all other areas of the disk
pub record KeepsSetting (s t : DiskState) (before after : MirrorValue) : Type 0 where
  pub base : after.base ≡ before.base
  pub capacity : after.capacity ≡ before.capacity
  pub others : (a : Area) → a ≢ MirrorArea → LeavesAlone s t a

-- no device call failed: the mirror is of use, the disk is at rest again if it was, and its calls are those of
-- the documents that were taken
pub record StaysSound (observable : Type 0) (s t : DiskState) (before after : MirrorValue) : Type 0 where
  pub unspent : is_spent after ≡ false
  pub stands : observable → StandsFor t after
  pub rests : observable → IsAtRest s before.kept → IsAtRest t after.kept
  pub most : TakesFew s t before.kept after.kept

-- a whole image of the area, which loads to these documents
pub record LoadsTo (base : List ℕ) (kept : List KeptValue) (image : List ℕ) : Type 0 where
  pub whole : IsWhole image
  pub loaded : IsLoadedOf base (records image) kept

-- an image that loads to the documents held and to the offered one, which is taken
pub record LoadsToMore (mirror : MirrorValue) (address bytes image : List ℕ) : Type 0 where
  pub given : KeptValue
  pub read : IsKeptOf bytes given
  pub taken : accept_within mirror.capacity mirror.base mirror.kept address given ≡ Ok Taken
  pub loads : LoadsTo mirror.base (mirror.kept ++ given ∷ []) image

-- an image while these bytes are offered under this address: it loads to the documents held, or to those and
-- the new one
abbrev pub IsOfferStep : MirrorValue → List ℕ → List ℕ → List ℕ → Type 0
IsOfferStep mirror address bytes image =
    LoadsTo mirror.base mirror.kept image ⊎ LoadsToMore mirror address bytes image
