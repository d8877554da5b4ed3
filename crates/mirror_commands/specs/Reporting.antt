-- The conditions of a report on its mirror and its disk, and the faults by which it may end.
use Rattle.std.specs.Prelude.{◌≡◌, false, IsTrue}
use Rattle.feed_disk.specs.Disk.{DiskState}
use Rattle.feed_disk.specs.declared.area.Area.TheVariants.{Mirror}
use Rattle.mirror_walk.specs.Listing.{HasAddress, is_complete, outcome_of}
use Rattle.mirror_walk.specs.Mirror.{MirrorValue, StandsFor, is_spent}
use Rattle.mirror_walk.specs.declared.answer.Outcome.{Outcome}
use Rattle.command_ends.specs.declared.fault.BadStore.TheVariants.{Changed}
use Rattle.command_ends.specs.declared.fault.Fault.{Fault}
use Rattle.command_ends.specs.declared.fault.Fault.TheVariants.{BadStore, Disk, Full, NoMemory}

-- no call of the mirror failed, and it agrees with the content of its disk
pub record IsUsable (observable : Type 0) (disk : DiskState) (mirror : MirrorValue) : Type 0 where
  pub unspent : is_spent mirror ≡ false
  pub stands : observable → StandsFor disk mirror

-- this is the outcome of the documents held, and the live entries of a complete mirror are listed
pub record HasOutcome (mirror : MirrorValue) (outcome : Outcome) : Type 0 where
  pub is : outcome ≡ outcome_of mirror.kept
  pub listed : IsTrue (is_complete outcome) → IsTrue mirror.listed
  pub address : HasAddress outcome

-- the mirror's base and capacity stay
pub record SameMirror (before after : MirrorValue) : Type 0 where
  pub base : after.base ≡ before.base
  pub capacity : after.capacity ≡ before.capacity

-- the faults by which an offer may end the report
abbrev pub MayEndOffer : Fault → Type 0
MayEndOffer NoMemory = Unit {0}
MayEndOffer Disk = Unit {0}
MayEndOffer (Full Mirror size needed capacity) = Unit {0}
MayEndOffer _ = ⊥

-- the faults by which the entries that are read back may end it
abbrev pub MayEndReading : Fault → Type 0
MayEndReading NoMemory = Unit {0}
MayEndReading Disk = Unit {0}
MayEndReading (BadStore (Changed Mirror index)) = Unit {0}
MayEndReading _ = ⊥
