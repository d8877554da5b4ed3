-- A life: the disks of one store and of its mirrors, and the documents that the store sent.
use Rattle.std.specs.Prelude.{◌≡◌, ℕ, ◌≤◌, List, [], All, Bool, false, length, map, take}
use Rattle.std.specs.List.{AllZip}
use Rattle.feed_disk.specs.Memory.{MemoryValue, fresh_disk, state_of}
use Rattle.feed_disk.specs.Moments.{NowOnly}
use Rattle.feed_disk.specs.declared.area.Area.TheVariants.{Mirror as MirrorArea}
use Rattle.feed_life.specs.declared.sent.SentDoc.{SentDoc}
use Rattle.feed_recovery.specs.Settled.{Settled}
use Rattle.feed_recovery.specs.Stored.{OpensTo}
use Rattle.member_rules.specs.Head.{HeadValue}
use Rattle.member_rules.specs.Served.{Served}
use Rattle.member_rules.specs.Windows.{windows_of}
use Rattle.member_rules.specs.declared.operation.Op.{Op}
use Rattle.mirror_walk.specs.Holding.{KeptValue}
use Rattle.mirror_walk.specs.Loaded.{own_offer}
use Rattle.mirror_walk.specs.Mirror.{LoadsTo}
use Rattle.mirror_walk.specs.Offers.{AreServed}

-- the head, the store's disk, those of the mirrors, the documents that were sent, the number of operations and of
-- sealed archives, the counts of stops, and whether memory ran out
pub record LifeValue : Type 0 where
  pub head : HeadValue
  pub disk : MemoryValue
  pub mirrors : List MemoryValue
  pub sent : List SentDoc
  pub version : ℕ
  pub sealed : ℕ
  pub stops : ℕ
  pub mirror_stops : ℕ
  pub lost : Bool

-- the greatest number of mirrors of a life
abbrev pub mirror_limit : ℕ
mirror_limit = 100

-- a disk without content, none of whose calls is listed to fail
abbrev pub empty_disk : MemoryValue
empty_disk = fresh_disk [] [] [] []

-- the feed served the document after its version, and serves it ever after
pub record IsSentBy (head : HeadValue) (history : List Op) (sent : SentDoc) : Type 0 where
  pub past : sent.version ≤ length history
  pub served : (version : ℕ) → sent.version ≤ version → version ≤ length history
      → Served head (take version history) sent.address sent.bytes

-- a mirror's disk: each image of now loads to these documents, and the feed served each of them
pub record IsMirrorOf (head : HeadValue) (history : List Op) (disk : MemoryValue) (kept : List KeptValue) : Type 0 where
  pub loads : NowOnly (state_of disk) MirrorArea (LoadsTo head.name.base kept)
  pub served : AreServed head history (map own_offer kept)

-- a store's disk: it opens to the whole history, and a crash leaves the whole history
pub record IsStoreOf (head : HeadValue) (history : List Op) (disk : MemoryValue) : Type 0 where
  pub seals : ℕ
  pub opens : OpensTo (state_of disk).content (record { head = head; history = history; seals = seals })
  pub settled : Settled (state_of disk) head history (length history)

-- a life with this history, whose mirrors hold these documents
pub record Lives (life : LifeValue) (history : List Op) (held : List (List KeptValue)) : Type 0 where
  pub store : IsStoreOf life.head history life.disk
  pub version : life.version ≡ length history
  pub sealed : life.sealed ≡ (windows_of life.head history).sealed
  pub sent : All (IsSentBy life.head history) life.sent
  pub mirrors : AllZip (IsMirrorOf life.head history) life.mirrors held

-- a life that memory has not failed has a history
pub record IsAlive (life : LifeValue) : Type 0 where
  pub history : List Op
  pub held : List (List KeptValue)
  pub lives : Lives life history held

abbrev pub KeepsLife : LifeValue → Type 0
KeepsLife life = life.lost ≡ false → IsAlive life
