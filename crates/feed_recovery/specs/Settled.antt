-- The images that a crash may leave of a store.
use Rattle.std.specs.Prelude.{◌≡◌, ◌≢◌, ◌⊎◌, ℕ, ◌≤◌, List, [], length, take}
use Rattle.feed_disk.specs.Disk.{DiskState}
use Rattle.feed_disk.specs.Moments.{AlwaysLeaves, LeavesOnlyBoth, NowOnly}
use Rattle.feed_disk.specs.declared.area.Area.TheVariants.{Journal, Sealed}
use Rattle.feed_journal.specs.Records.{records, Begins, IsWhole, StandsFor}
use Rattle.feed_recovery.specs.Opening.{Opens}
use Rattle.feed_recovery.specs.Store.{StoreValue}
use Rattle.member_rules.specs.Head.{HeadValue}
use Rattle.member_rules.specs.declared.operation.Op.{Op}

-- each pair of images of now satisfies P
abbrev pub NowBoth : DiskState → (List ℕ → List ℕ → Type 0) → Type 0
NowBoth disk P =
    (journal sealed : List ℕ) → disk.image_now Journal journal → disk.image_now Sealed sealed → P journal sealed

-- each pair of images of a moment from s on, and each pair of images of now, satisfies P
pub record AlwaysLeavesBoth (s t : DiskState) (P : List ℕ → List ℕ → Type 0) : Type 0 where
  pub moments : LeavesOnlyBoth s t Journal Sealed (λ _. P)
  pub now : NowBoth t P

-- a pair of images is whole and opens to a prefix of the operations, which has at least the first `least`
pub record OpensPast (head : HeadValue) (operations : List Op) (least : ℕ) (journal sealed : List ℕ) : Type 0 where
  pub journal_whole : IsWhole journal
  pub sealed_whole : IsWhole sealed
  pub version : ℕ
  pub at_least : least ≤ version
  pub at_most : version ≤ length operations
  pub seals : ℕ
  pub opens : Opens journal sealed head (take version operations) seals

-- each pair of images of now does
abbrev pub Settled : DiskState → HeadValue → List Op → ℕ → Type 0
Settled disk head operations least = NowBoth disk (OpensPast head operations least)

-- if nothing is added, a crash leaves of a store what it could leave before
abbrev pub LeavesStores : DiskState → DiskState → Type 0
LeavesStores before after =
    (head : HeadValue) (operations : List Op) (least : ℕ) → Settled before head operations least
    → AlwaysLeavesBoth before after (OpensPast head operations least)

-- Of both areas a crash leaves the payloads of an image that it could leave before, and a whole image if that one was.
-- This asks nothing of the images before: they may be any bytes.
pub record KeepsPayloads (before after : DiskState) : Type 0 where
  pub journal : AlwaysLeaves before after Journal (StandsFor (before.image_now Journal))
  pub sealed : AlwaysLeaves before after Sealed (StandsFor (before.image_now Sealed))

-- both areas are whole as they are read
pub record AreWhole (disk : DiskState) : Type 0 where
  pub journal : IsWhole (disk.content Journal)
  pub sealed : IsWhole (disk.content Sealed)

-- In both areas each image of now begins with the frames of the payloads that are read, and a closed gate. A disk is at
-- rest after a load of whole areas, and after each commit that worked.
pub record IsAtRest (disk : DiskState) : Type 0 where
  pub journal : NowOnly disk Journal (Begins (records (disk.content Journal)))
  pub sealed : NowOnly disk Sealed (Begins (records (disk.content Sealed)))

-- the disk is at rest, and a crash leaves the store with its whole history
pub record IsSettled (disk : DiskState) (store : StoreValue) : Type 0 where
  pub settled : Settled disk store.head store.history (length store.history)
  pub rests : IsAtRest disk

-- a pair of images of a disk on which no store was made: it is whole and has no payloads
pub record IsUnused (journal sealed : List ℕ) : Type 0 where
  pub journal_whole : IsWhole journal
  pub sealed_whole : IsWhole sealed
  pub no_records : records journal ≡ []
  pub no_seals : records sealed ≡ []

abbrev pub Unused : DiskState → Type 0
Unused disk = NowBoth disk IsUnused

-- the journal or the sealed area has a payload
abbrev pub HasPayload : DiskState → Type 0
HasPayload disk = (records (disk.content Journal) ≢ []) ⊎ (records (disk.content Sealed) ≢ [])

-- a pair of images while a store is made: it is whole, has no seal, and has no payload or opens to the head alone
pub record IsInit (head : HeadValue) (journal sealed : List ℕ) : Type 0 where
  pub journal_whole : IsWhole journal
  pub sealed_whole : IsWhole sealed
  pub no_seals : records sealed ≡ []
  pub before_or_after : (records journal ≡ []) ⊎ Opens journal sealed head [] 0
