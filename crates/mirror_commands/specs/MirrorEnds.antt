-- How `mirror` ends, and the steps before its end.
use Rattle.std.specs.Prelude.{◌≡◌, ◌⊎◌, ℕ, List, [], ◌∷◌, ◌++◌, Bool, None, Result, Ok, Err}
use Rattle.doc_source.specs.Outside.{SourceState}
use Rattle.doc_source.specs.declared.offer.Offer.{Offer}
use Rattle.feed_disk.specs.Disk.{DiskState}
use Rattle.feed_disk.specs.Moments.{AlwaysLeaves, NowOnly}
use Rattle.feed_disk.specs.declared.area.Area.{Area}
use Rattle.feed_disk.specs.declared.area.Area.TheVariants.{Mirror as MirrorArea}
use Rattle.mirror_walk.specs.Accept.{IsTakeable}
use Rattle.mirror_walk.specs.Holding.{KeptValue}
use Rattle.mirror_walk.specs.Mirror.{IsAtRest, LoadsTo}
use Rattle.mirror_commands.specs.declared.report_fault.ReportFault.{ReportFault}
use Rattle.mirror_commands.specs.declared.report_fault.ReportFault.TheVariants.{Fetch, OtherBase, Other}
use Rattle.command_ends.specs.declared.fault.BadStore.TheVariants.{BadRecord, Changed}
use Rattle.command_ends.specs.declared.fault.Fault.{Fault}
use Rattle.command_ends.specs.declared.fault.Fault.TheVariants.{NoMemory, Input, Disk, BadStore, Full, Refused}
use Rattle.command_ends.specs.declared.fault.Refusal.TheVariants.{BadPile, TooLong}
use Rattle.command_ends.specs.declared.status.Status.TheVariants as ends
use Rattle.command_ends.specs.Answer.{Answer}
use Rattle.mirror_commands.specs.Mirror.{HasAnswered, IsMirrored, IsReport, ReadsOffers, ReadsTo, ReadsWithinPile}
use Rattle.mirror_commands.specs.MirrorCrash.{IsPileStep}
use Rattle.mirror_commands.specs.MirrorFaults.{IsBadMirror, IsHeldIn}
use Rattle.command_ends.specs.Status.{code_of}

-- the exit statuses of `mirror` from a pile
abbrev pub MayEndMirror : ℕ → Type 0
MayEndMirror ended =
    (ended ≡ code_of ends.Done) ⊎ (ended ≡ code_of ends.Incomplete) ⊎ (ended ≡ code_of ends.DiskFault)
    ⊎ (ended ≡ code_of ends.NoMemory) ⊎ (ended ≡ code_of ends.BadStore) ⊎ (ended ≡ code_of ends.OutputFault)
    ⊎ (ended ≡ code_of ends.InputFault) ⊎ (ended ≡ code_of ends.BadInput) ⊎ (ended ≡ code_of ends.Full)
    ⊎ (ended ≡ code_of ends.Refused)

-- the faults by which the offers of a pile may end it
abbrev pub MayEndOffers : Fault → Type 0
MayEndOffers NoMemory = Unit {0}
MayEndOffers Input = Unit {0}
MayEndOffers Disk = Unit {0}
MayEndOffers (BadStore (Changed MirrorArea index)) = Unit {0}
MayEndOffers (Full MirrorArea size needed capacity) = Unit {0}
MayEndOffers (Refused (BadPile at)) = Unit {0}
MayEndOffers (Refused TooLong) = Unit {0}
MayEndOffers _ = ⊥

-- the same, or a fault of the load
abbrev pub MayEndPileReport : ReportFault → Type 0
MayEndPileReport Fetch = ⊥
MayEndPileReport (OtherBase base) = Unit {0}
MayEndPileReport (Other (BadStore (BadRecord MirrorArea index at))) = Unit {0}
MayEndPileReport (Other fault) = MayEndOffers fault

-- the area loads to the documents of a mirror, and this is its report of the pile, or else its certificate
pub record IsPileReport (report : Bool) (capacity : ℕ) (base : List ℕ) (content : Area → List ℕ) (input : List ℕ)
    (given : Answer) : Type 0 where
  pub kept : List KeptValue
  pub loaded : IsHeldIn base content kept
  pub is : IsReport report capacity base kept input given

-- the area loads to the documents of a mirror, and this is its end by the pile
pub record IsPileEnd (report : Bool) (capacity : ℕ) (base : List ℕ) (content : Area → List ℕ) (input : List ℕ)
    (given : Answer) : Type 0 where
  pub kept : List KeptValue
  pub loaded : IsHeldIn base content kept
  pub is : IsMirrored report capacity base kept input given

-- how `mirror` ends by the area and the pile
abbrev pub IsPileAnswer : Bool → ℕ → List ℕ → (Area → List ℕ) → List ℕ → Answer → Type 0
IsPileAnswer report capacity base content input given =
    IsPileEnd report capacity base content input given ⊎ IsBadMirror base content given

-- The mirror answered all offers that it was given. If there is a report (`whole`) or a device call failed, these are
-- all offers of the pile, which was read to its end.
pub record AreAllAnswered (input : List ℕ) (observable failed whole : Type 0) (answered offers : List Offer) : Type 0 where
  pub same : offers ≡ answered
  pub all : whole ⊎ failed → observable → ReadsTo input offers (Ok None)

-- A device call failed while the last offer was taken. The mirror holds `left` before that offer, and takes it.
pub record FailsAtLast (capacity : ℕ) (base : List ℕ) (left : List KeptValue) (failed whole : Type 0)
    (answered offers : List Offer) : Type 0 where
  pub is : failed
  pub part : ¬ whole
  pub last : Offer
  pub one_more : offers ≡ answered ++ last ∷ []
  pub takeable : IsTakeable capacity base left last.address last.bytes

-- The offers of a pile that were given to a mirror, up to the end of the pile or to a fault. While they are, a crash
-- leaves of a disk at rest the documents held after the first few of them. It answered all of them but the last, if a
-- device call failed as that was taken, and had room for each that it answered.
pub record GivesOffers (capacity : ℕ) (base : List ℕ) (kept : List KeptValue) (input : List ℕ)
    (input_observable disk_observable : Type 0) (before after : DiskState) (failed whole : Type 0) : Type 0 where
  pub offers : List Offer
  pub read : input_observable → ReadsOffers input offers
  pub images : disk_observable → IsAtRest before kept
      → AlwaysLeaves before after MirrorArea (IsPileStep capacity base kept offers)
  pub answered : List Offer
  pub left : List KeptValue
  pub has : HasAnswered capacity base kept answered left
  pub given : AreAllAnswered input input_observable failed whole answered offers
      ⊎ FailsAtLast capacity base left failed whole answered offers
  pub now : ¬ failed → disk_observable → IsAtRest before kept → NowOnly after MirrorArea (LoadsTo base left)

-- the area loads to the documents of a mirror, and these offers of the pile were given to it
pub record HasGiven (capacity : ℕ) (base : List ℕ) (content : Area → List ℕ) (input : List ℕ) (failed whole : Type 0)
    : Type 0 where
  pub kept : List KeptValue
  pub loaded : IsHeldIn base content kept
  pub offers : List Offer
  pub read : ReadsOffers input offers
  pub answered : List Offer
  pub left : List KeptValue
  pub has : HasAnswered capacity base kept answered left
  pub given : AreAllAnswered input (Unit {0}) failed whole answered offers
      ⊎ FailsAtLast capacity base left failed whole answered offers

-- the mirror wasn't loaded and nothing was read, or these offers were given to it
abbrev pub GivesOf : ℕ → List ℕ → (Area → List ℕ) → SourceState → SourceState → Type 0 → Type 0 → Type 0
GivesOf capacity base content before after failed whole =
    (after ≡ before) ⊎ HasGiven capacity base content before.left failed whole

-- a fault that comes only after the mirror was loaded
abbrev pub IsLaterFault : ReportFault → Type 0
IsLaterFault Fetch = Unit {0}
IsLaterFault (OtherBase base) = ⊥
IsLaterFault (Other NoMemory) = ⊥
IsLaterFault (Other Disk) = ⊥
IsLaterFault (Other (BadStore bad)) = ⊥
IsLaterFault (Other Input) = Unit {0}
IsLaterFault (Other (Full area size needed capacity)) = Unit {0}
IsLaterFault (Other (Refused refusal)) = Unit {0}

-- a report, or a fault that comes only after the mirror was loaded
abbrev pub IsLater : {T : Type 0} → Result T ReportFault → Type 0
IsLater (Ok printed) = Unit {0}
IsLater (Err fault) = IsLaterFault fault

-- the mirror was loaded, a call on the input failed, and nothing that was read before it is refused
pub record IsMirrorUnrefused (base : List ℕ) (capacity : ℕ) (content : Area → List ℕ) (before after : SourceState)
    : Type 0 where
  pub kept : List KeptValue
  pub loaded : IsHeldIn base content kept
  pub reads : ReadsWithinPile capacity base kept before after
