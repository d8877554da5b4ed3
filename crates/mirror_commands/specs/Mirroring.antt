-- The clauses of `mirror` beside its answer: the images of its area, and its output over documents that one feed
-- served.
use Rattle.std.specs.Prelude.{◌≡◌, ℕ, List, Bool, map}
use Rattle.doc_source.specs.Fetch.{FetchState}
use Rattle.doc_source.specs.Outside.{SinkState, SourceState}
use Rattle.doc_source.specs.declared.offer.Offer.{Offer}
use Rattle.feed_disk.specs.Disk.{DiskState}
use Rattle.feed_disk.specs.Moments.{NowOnly}
use Rattle.feed_disk.specs.declared.area.Area.TheVariants.{Mirror as MirrorArea}
use Rattle.feed_journal.specs.Records.{IsWhole}
use Rattle.member_rules.specs.Head.{HeadValue}
use Rattle.member_rules.specs.declared.operation.Op.{Op}
use Rattle.mirror_walk.specs.Holding.{KeptValue}
use Rattle.mirror_walk.specs.Offers.{AreServed}
use Rattle.mirror_walk.specs.Walk.{IsServedBy, WalkEnding}
use Rattle.command_ends.specs.declared.status.Status.TheVariants.{DiskFault, FetchFault}
use Rattle.mirror_commands.specs.FetchEnds.{AsksOf, EndsFetched}
use Rattle.mirror_commands.specs.Mirror.{offering}
use Rattle.mirror_commands.specs.MirrorCrash.{IsAfterLoad, LeavesFetched, LeavesMirror, LeavesMirrored}
use Rattle.mirror_commands.specs.MirrorEnds.{GivesOf}
use Rattle.mirror_commands.specs.MirrorFaults.{IsHeldIn}
use Rattle.mirror_commands.specs.Served.{EndsServed, IsPileOf, IsReported, own_offers}
use Rattle.command_ends.specs.Status.{code_of}
use Rattle.mirror_commands.specs.Walked.{EndsWalk}

-- the feed with this head served the documents that the mirror holds, as the area loads to them
pub record HoldsServed (base : List ℕ) (before : DiskState) (head : HeadValue) (history : List Op)
    (kept : List KeptValue) : Type 0 where
  pub base_is : base ≡ head.name.base
  pub loaded : IsHeldIn base before.content kept
  pub served : AreServed head history (own_offers kept)

-- `mirror` from a pile
pub record EndsMirroring (report : Bool) (capacity : ℕ) (base : List ℕ) (before after : DiskState)
    (input rest : SourceState) (observable : Type 0) (output taken : SinkState) (ended : ℕ) : Type 0 where
  pub gave : GivesOf capacity base before.content input rest (ended ≡ code_of DiskFault) (IsReported ended)
  pub kept : NowOnly before MirrorArea IsWhole → LeavesMirror before after (IsAfterLoad ended)
      (LeavesMirrored capacity base input.left before after (ended ≡ code_of DiskFault) (IsReported ended))
  pub mirrored : (head : HeadValue) (history : List Op) (kept : List KeptValue) (offers : List Offer)
      → HoldsServed base before head history kept → IsPileOf offers input.left
      → AreServed head history (map offering offers) → IsReported ended
      → EndsServed report head history kept (map offering offers) observable output taken ended

-- the end of a walk, by the exit status
abbrev pub EndsWalkAt : ℕ → WalkEnding → Type 0
EndsWalkAt ended = EndsWalk (IsReported ended) (ended ≡ code_of FetchFault) (ended ≡ code_of DiskFault)

-- `mirror --fetch`
pub record EndsFetching (report : Bool) (capacity : ℕ) (base : List ℕ) (before after : DiskState)
    (fetch fetched : FetchState) (observable : Type 0) (output taken : SinkState) (ended : ℕ) : Type 0 where
  pub asks : AsksOf capacity base before.content fetch fetched (EndsWalkAt ended)
  pub kept : NowOnly before MirrorArea IsWhole → LeavesMirror before after (IsAfterLoad ended)
      (LeavesFetched capacity base fetch.answers before after (ended ≡ code_of DiskFault) (EndsWalkAt ended))
  pub mirrored : (head : HeadValue) (history : List Op) (kept : List KeptValue)
      → HoldsServed base before head history kept → IsServedBy head history fetch.answers → IsReported ended
      → EndsFetched report capacity head history kept fetch.answers observable output taken ended
