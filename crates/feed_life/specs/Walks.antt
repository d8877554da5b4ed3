-- The steps of a mirror's walk over the documents of the store.
use Rattle.std.specs.Prelude.{◌≡◌, List, Result, Ok, Err}
use Rattle.feed_disk.specs.Memory.{MemoryValue, state_of}
use Rattle.feed_disk.specs.Moments.{AlwaysLeaves}
use Rattle.feed_disk.specs.declared.area.Area.TheVariants.{Mirror as MirrorArea}
use Rattle.feed_life.specs.Life.{IsMirrorOf}
use Rattle.feed_life.specs.Mirrors.{IsOpenedMirror, IsWalkedOver, setting_by}
use Rattle.feed_life.specs.StoreFetch.{StoreFetchValue}
use Rattle.member_rules.specs.Head.{HeadValue, IsHead}
use Rattle.member_rules.specs.History.{IsLawful}
use Rattle.member_rules.specs.declared.operation.Op.{Op}
use Rattle.mirror_walk.specs.Holding.{KeptValue, payloads_of}
use Rattle.mirror_walk.specs.Loaded.{IsLoadedOf}
use Rattle.mirror_walk.specs.Mirror.{MirrorValue, TakesFew}
use Rattle.mirror_walk.specs.Published.{HoldsServed}
use Rattle.mirror_walk.specs.Walk.{IsWalkStep}
use Rattle.mirror_walk.specs.declared.walk.WalkFault.{WalkFault}
use Rattle.mirror_walk.specs.declared.walk.WalkFault.TheVariants.{Full}
use Rattle.mirror_walk.specs.declared.walk.Walked.{Walked}

-- the walk came to its end, or the mirror's area is full
abbrev pub IsOver : Result Walked WalkFault → Type 0
IsOver (Ok walked) = Unit {0}
IsOver (Err (Full size needed capacity)) = Unit {0}
IsOver (Err fault) = ⊥

-- the documents of a store with this head and this history
pub record HasDocuments (head : HeadValue) (history : List Op) (documents : StoreFetchValue MemoryValue) : Type 0 where
  pub is_head : IsHead head
  pub lawful : IsLawful head history
  pub head_is : documents.store.head ≡ head
  pub history_is : documents.store.history ≡ history

-- a mirror that was loaded from its disk, and the documents of a store whose feed served what the mirror holds
pub record IsReady (head : HeadValue) (history : List Op) (kept : List KeptValue) (disk : MemoryValue)
    (mirror : MirrorValue) (documents : StoreFetchValue MemoryValue) : Type 0 where
  pub has : HasDocuments head history documents
  pub opened : IsOpenedMirror head kept disk mirror
  pub loaded : IsLoadedOf head.name.base (payloads_of kept) kept
  pub served : HoldsServed head history kept

-- a walk that came to its end: what is held then, the mirror's disk, what a crash within the walk leaves of it, and
-- that each document taken costs few device calls
pub record RunsWalk (head : HeadValue) (history : List Op) (kept : List KeptValue) (before after : MemoryValue)
    : Type 0 where
  pub held : List KeptValue
  pub walked : IsWalkedOver head history kept held
  pub mirror : IsMirrorOf head history after held
  pub leaves : AlwaysLeaves (state_of before) (state_of after) MirrorArea (IsWalkStep (setting_by head history) kept)
  pub few : TakesFew (state_of before) (state_of after) kept held
