-- How `mirror --fetch` ends.
use Rattle.std.specs.Prelude.{◌≡◌, ◌⊎◌, ℕ, List, ◌++◌, Bool, Option, map, Result, Err, IsOk}
use Rattle.chain_links.specs.Address.{printed}
use Rattle.chain_links.specs.declared.address.Address.{Address}
use Rattle.doc_source.specs.Fetch.{FetchState}
use Rattle.doc_source.specs.Outside.{SinkState}
use Rattle.feed_disk.specs.Disk.{DiskState}
use Rattle.feed_disk.specs.Moments.{AlwaysLeaves, NowOnly}
use Rattle.feed_disk.specs.declared.area.Area.{Area}
use Rattle.feed_disk.specs.declared.area.Area.TheVariants.{Mirror as MirrorArea}
use Rattle.member_rules.specs.Head.{HeadValue}
use Rattle.member_rules.specs.declared.operation.Op.{Op}
use Rattle.mirror_walk.specs.Holding.{KeptValue}
use Rattle.mirror_walk.specs.Mirror.{IsAtRest, LoadsTo}
use Rattle.mirror_walk.specs.Walk.{IsWalkStep, WalkEnding, WalksFromFeed, accepted_offers}
use Rattle.mirror_walk.specs.declared.answer.Accepted.{Accepted}
use Rattle.mirror_commands.specs.declared.report_fault.ReportFault.{ReportFault}
use Rattle.mirror_commands.specs.declared.report_fault.ReportFault.TheVariants.{Fetch, OtherBase, Other}
use Rattle.command_ends.specs.declared.fault.BadStore.TheVariants.{BadRecord, Changed}
use Rattle.command_ends.specs.declared.fault.Fault.TheVariants.{NoMemory, Disk, BadStore, Full}
use Rattle.command_ends.specs.declared.status.Status.TheVariants as ends
use Rattle.command_ends.specs.Answer.{Answer}
use Rattle.mirror_commands.specs.MirrorFaults.{IsBadMirror, IsHeldIn}
use Rattle.mirror_commands.specs.Served.{EndsServed}
use Rattle.command_ends.specs.Status.{code_of}
use Rattle.mirror_commands.specs.Walked.{EndsWalk, IsFetched, IsOver, IsWalkReport, walk_setting}

-- the exit statuses of `mirror --fetch`
abbrev pub MayEndFetched : ℕ → Type 0
MayEndFetched ended =
    (ended ≡ code_of ends.Done) ⊎ (ended ≡ code_of ends.Incomplete) ⊎ (ended ≡ code_of ends.DiskFault)
    ⊎ (ended ≡ code_of ends.NoMemory) ⊎ (ended ≡ code_of ends.BadStore) ⊎ (ended ≡ code_of ends.FetchFault)
    ⊎ (ended ≡ code_of ends.OutputFault) ⊎ (ended ≡ code_of ends.Full) ⊎ (ended ≡ code_of ends.Refused)

-- the faults by which it may end
abbrev pub MayEndWalkReport : ReportFault → Type 0
MayEndWalkReport Fetch = Unit {0}
MayEndWalkReport (OtherBase base) = Unit {0}
MayEndWalkReport (Other NoMemory) = Unit {0}
MayEndWalkReport (Other Disk) = Unit {0}
MayEndWalkReport (Other (BadStore (BadRecord MirrorArea index at))) = Unit {0}
MayEndWalkReport (Other (BadStore (Changed MirrorArea index))) = Unit {0}
MayEndWalkReport (Other (Full MirrorArea size needed capacity)) = Unit {0}
MayEndWalkReport (Other _) = ⊥

-- the area loads to the documents of a mirror, and this is the report of its walk, or else its certificate
pub record IsWalkedReport (report : Bool) (capacity : ℕ) (base : List ℕ) (content : Area → List ℕ)
    (answers : List ℕ → Option (List ℕ)) (given : Answer) : Type 0 where
  pub kept : List KeptValue
  pub loaded : IsHeldIn base content kept
  pub is : IsWalkReport report capacity base kept answers given

-- the area loads to the documents of a mirror, and this is its end by the source
pub record IsWalkEnd (report : Bool) (capacity : ℕ) (base : List ℕ) (content : Area → List ℕ)
    (answers : List ℕ → Option (List ℕ)) (given : Answer) : Type 0 where
  pub kept : List KeptValue
  pub loaded : IsHeldIn base content kept
  pub is : IsFetched report capacity base kept answers given

-- how `mirror --fetch` ends by the area and the source
abbrev pub IsWalkAnswer : Bool → ℕ → List ℕ → (Area → List ℕ) → (List ℕ → Option (List ℕ)) → Answer → Type 0
IsWalkAnswer report capacity base content answers given =
    IsWalkEnd report capacity base content answers given ⊎ IsBadMirror base content given

-- the end of a walk, by the report or the fault that it led to
abbrev pub EndsWalkBy : {T : Type 0} → Result T ReportFault → WalkEnding → Type 0
EndsWalkBy result = EndsWalk (IsOk result) (result ≡ Err Fetch) (result ≡ Err (Other Disk))

-- The addresses that were asked are those of a walk of a mirror that held `kept`. `IsEnding` holds of the walk's end.
pub record AsksOfMirror (capacity : ℕ) (base : List ℕ) (kept : List KeptValue) (before after : FetchState)
    (IsEnding : WalkEnding → Type 0) : Type 0 where
  pub asked : List Address
  pub accepted : List Accepted
  pub left : List KeptValue
  pub ending : WalkEnding
  pub walks : WalksFromFeed (walk_setting capacity base before.answers) kept asked accepted left ending
  pub ends : IsEnding ending
  pub addresses : after.asked ≡ before.asked ++ map (printed base) asked

-- The walk of a mirror that held `kept`, up to its end or to a fault. While it goes on, a crash leaves of a disk at
-- rest the documents held after the first few that it takes.
pub record GoesWalk (capacity : ℕ) (base : List ℕ) (kept : List KeptValue) (answers : List ℕ → Option (List ℕ))
    (before after : DiskState) (failed : Type 0) (IsEnding : WalkEnding → Type 0) : Type 0 where
  pub asked : List Address
  pub accepted : List Accepted
  pub left : List KeptValue
  pub ending : WalkEnding
  pub walks : WalksFromFeed (walk_setting capacity base answers) kept asked accepted left ending
  pub ends : IsEnding ending
  pub images : IsAtRest before kept
      → AlwaysLeaves before after MirrorArea (IsWalkStep (walk_setting capacity base answers) kept)
  pub now : ¬ failed → IsAtRest before kept → NowOnly after MirrorArea (LoadsTo base left)

-- the mirror is the one that the area loads to
pub record AsksInWalk (capacity : ℕ) (base : List ℕ) (content : Area → List ℕ) (before after : FetchState)
    (IsEnding : WalkEnding → Type 0) : Type 0 where
  pub kept : List KeptValue
  pub loaded : IsHeldIn base content kept
  pub asks : AsksOfMirror capacity base kept before after IsEnding

-- the mirror wasn't loaded and nothing was asked, or the addresses are those of its walk
abbrev pub AsksOf : ℕ → List ℕ → (Area → List ℕ) → FetchState → FetchState → (WalkEnding → Type 0) → Type 0
AsksOf capacity base content before after IsEnding =
    (after ≡ before) ⊎ AsksInWalk capacity base content before after IsEnding

-- The program ended with the report, or else the certificate, of a walk over documents that one feed served: nothing is
-- refused, and the mirror shows as much of the feed as it held and fetched.
pub record EndsFetched (report : Bool) (capacity : ℕ) (head : HeadValue) (history : List Op) (kept : List KeptValue)
    (answers : List ℕ → Option (List ℕ)) (observable : Type 0) (before after : SinkState) (ended : ℕ) : Type 0 where
  pub asked : List Address
  pub accepted : List Accepted
  pub left : List KeptValue
  pub ending : WalkEnding
  pub walks : WalksFromFeed (walk_setting capacity head.name.base answers) kept asked accepted left ending
  pub over : IsOver ending
  pub ends : EndsServed report head history kept
      (accepted_offers (walk_setting capacity head.name.base answers) asked accepted) observable before after ended
