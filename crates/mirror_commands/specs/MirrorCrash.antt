-- The images that a crash within `mirror`, or after it, leaves of the mirror's area.
use Rattle.std.specs.Prelude.{◌≡◌, ◌⊎◌, ℕ, ◌≤◌, List, ◌++◌, Option, None, Ok}
use Rattle.atom_values.specs.Counts.{HasRisen}
use Rattle.chain_links.specs.declared.address.Address.{Address}
use Rattle.doc_source.specs.declared.offer.Offer.{Offer}
use Rattle.feed_disk.specs.Disk.{DiskState}
use Rattle.feed_disk.specs.Moments.{AlwaysLeaves, LeavesOnly, NowOnly}
use Rattle.feed_disk.specs.declared.area.Area.TheVariants.{Mirror}
use Rattle.feed_journal.specs.Records.{StandsFor}
use Rattle.mirror_walk.specs.Holding.{KeptValue}
use Rattle.mirror_walk.specs.Mirror.{LoadsTo}
use Rattle.mirror_walk.specs.Walk.{IsWalkStep, WalkEnding, WalksFromFeed}
use Rattle.mirror_walk.specs.declared.answer.Accepted.{Accepted}
use Rattle.command_ends.specs.declared.status.Status.TheVariants as ends
use Rattle.mirror_commands.specs.Mirror.{HasAnswered, ReadsOffers, ReadsTo}
use Rattle.mirror_commands.specs.MirrorFaults.{IsHeldIn}
use Rattle.mirror_commands.specs.Served.{IsReported}
use Rattle.command_ends.specs.Status.{code_of}
use Rattle.mirror_commands.specs.Walked.{walk_setting}

-- a whole image that loads to the documents of a mirror that held `kept`, after the first few of these offers
pub record IsPileStep (capacity : ℕ) (base : List ℕ) (kept : List KeptValue) (offers : List Offer) (image : List ℕ)
    : Type 0 where
  pub first : List Offer
  pub rest : List Offer
  pub split : offers ≡ first ++ rest
  pub held : List KeptValue
  pub has : HasAnswered capacity base kept first held
  pub loads : LoadsTo base held image

-- The images of the area while a mirror is loaded and takes documents. `loaded` is the moment of the load's last
-- device call. An image of a moment up to it has the payloads of one that was there before. An image of a later moment
-- is a step of the taking, and so is each image of now.
pub record LeavesSteps (before after : DiskState) (IsStep : List ℕ → Type 0) : Type 0 where
  pub loaded : ℕ
  pub over : loaded ≤ after.clock
  pub moments : LeavesOnly before after Mirror (λ c image.
      ((c ≤ loaded) × StandsFor (before.image_now Mirror) image) ⊎ (HasRisen loaded c × IsStep image))
  pub now : NowOnly after Mirror IsStep

-- The mirror was loaded and took documents of a pile. A crash leaves those that it held before, with those that it
-- takes of the first few offers. If no device call failed, it leaves all of them at the end. At a report these are all
-- offers of the pile.
pub record LeavesMirrored (capacity : ℕ) (base input : List ℕ) (before after : DiskState) (failed reported : Type 0)
    : Type 0 where
  pub kept : List KeptValue
  pub loaded : IsHeldIn base before.content kept
  pub offers : List Offer
  pub read : ReadsOffers input offers
  pub all : reported → ReadsTo input offers (Ok None)
  pub images : LeavesSteps before after (IsPileStep capacity base kept offers)
  pub left : List KeptValue
  pub has : ¬ failed → HasAnswered capacity base kept offers left
  pub now : ¬ failed → NowOnly after Mirror (LoadsTo base left)

-- The same of a mirror that took documents of a source: those of its walk.
pub record LeavesFetched (capacity : ℕ) (base : List ℕ) (answers : List ℕ → Option (List ℕ)) (before after : DiskState)
    (failed : Type 0) (IsEnding : WalkEnding → Type 0) : Type 0 where
  pub kept : List KeptValue
  pub loaded : IsHeldIn base before.content kept
  pub images : LeavesSteps before after (IsWalkStep (walk_setting capacity base answers) kept)
  -- the documents that it holds at the end of its walk
  pub asked : List Address
  pub accepted : List Accepted
  pub left : List KeptValue
  pub ending : WalkEnding
  pub walks : WalksFromFeed (walk_setting capacity base answers) kept asked accepted left ending
  pub ends : IsEnding ending
  pub now : ¬ failed → NowOnly after Mirror (LoadsTo base left)

-- A crash of a mirror that isn't loaded leaves what it could leave before. `later` says that the mirror was loaded.
pub record LeavesMirror (before after : DiskState) (later taken : Type 0) : Type 0 where
  pub each : AlwaysLeaves before after Mirror (StandsFor (before.image_now Mirror)) ⊎ taken
  pub loaded : later → taken

-- the exit statuses that come only after the mirror was loaded
abbrev pub IsAfterLoad : ℕ → Type 0
IsAfterLoad ended =
    IsReported ended ⊎ (ended ≡ code_of ends.Full) ⊎ (ended ≡ code_of ends.BadInput) ⊎ (ended ≡ code_of ends.InputFault)
    ⊎ (ended ≡ code_of ends.FetchFault)
