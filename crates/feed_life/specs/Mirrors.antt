-- The effect of gifts and walks on the documents that a mirror holds, and the images that a crash within them leaves.
use Rattle.std.specs.Prelude.{◌≡◌, ◌⊎◌, ℕ, ◌+◌, ◌*◌, ◌-◌, ◌<◌, ◌≤◌, List, IfErr, Option, None, Some, length, map}
use Rattle.std.specs.Prelude.{take}
use Rattle.chain_links.specs.declared.address.Address.{Address}
use Rattle.coverage_certificate.specs.Certificate.{CertificateValue}
use Rattle.coverage_certificate.specs.Served.{served_certificate}
use Rattle.feed_disk.specs.Memory.{MemoryValue, state_of}
use Rattle.feed_disk.specs.Moments.{LeavesOnly, NowOnly}
use Rattle.feed_disk.specs.declared.area.Area.TheVariants.{Mirror as MirrorArea}
use Rattle.feed_life.specs.Crashes.{IsCutBefore, IsCutWithin, clock_of}
use Rattle.feed_life.specs.Life.{IsMirrorOf}
use Rattle.feed_life.specs.StoreFetch.{store_answers}
use Rattle.feed_life.specs.declared.event.Stop.{Stop}
use Rattle.feed_life.specs.declared.sent.SentDoc.{SentDoc}
use Rattle.member_rules.specs.Fold.{live_count}
use Rattle.member_rules.specs.Head.{HeadValue}
use Rattle.member_rules.specs.declared.operation.Op.{Op}
use Rattle.mirror_walk.specs.Accept.{Answer, IsAnswerWithin, IsForRoom}
use Rattle.mirror_walk.specs.Holding.{KeptValue, chain_of, first_missing}
use Rattle.mirror_walk.specs.Laws.{ShowsVersion}
use Rattle.mirror_walk.specs.Listing.{outcome_of}
use Rattle.mirror_walk.specs.Loaded.{own_offer}
use Rattle.mirror_walk.specs.Mirror.{IsAtRest, LoadsTo, MirrorValue, StandsFor, TakesFew, take_calls}
use Rattle.mirror_walk.specs.Offers.{AreServed}
use Rattle.mirror_walk.specs.Walk.{WalkEnding, WalkSetting, WalksFromFeed}
use Rattle.mirror_walk.specs.Walk.WalkEnding.{cut_short, filled, nothing_wanted}
use Rattle.mirror_walk.specs.declared.answer.Accepted.{Accepted}
use Rattle.mirror_walk.specs.declared.answer.Outcome.{Outcome}
use Rattle.mirror_walk.specs.declared.answer.Outcome.TheVariants.{Complete}

-- Loads

-- a mirror of a feed that was loaded from its disk, with the capacity of the feed's head
pub record IsOpenedMirror (head : HeadValue) (kept : List KeptValue) (disk : MemoryValue) (mirror : MirrorValue)
    : Type 0 where
  pub base : mirror.base ≡ head.name.base
  pub capacity : mirror.capacity ≡ head.capacity
  pub kept_is : mirror.kept ≡ kept
  pub stands : StandsFor (state_of disk) mirror
  pub rests : IsAtRest (state_of disk) kept
  pub loads : NowOnly (state_of disk) MirrorArea (LoadsTo head.name.base kept)

-- Gifts

-- a mirror was offered a document that the store sent: it accepted it, or its area is full
pub record IsGiven (head : HeadValue) (doc : SentDoc) (kept after : List KeptValue) : Type 0 where
  pub answer : Answer
  pub answered : IsAnswerWithin head.capacity head.name.base kept doc.address doc.bytes answer after
  pub unrefused : IfErr answer IsForRoom

-- A gift that ran into a stop. It left `whole` on the disk `ran`, by few device calls, and the disk left is the image
-- of that disk by the stop.
pub record IsGivenInto (head : HeadValue) (history : List Op) (doc : SentDoc) (stop : Stop) (kept : List KeptValue)
    (disk left : MemoryValue) : Type 0 where
  pub whole : List KeptValue
  pub given : IsGiven head doc kept whole
  pub ran : MemoryValue
  pub mirror : IsMirrorOf head history ran whole
  pub cut : IsCutWithin stop disk ran left
  pub few : clock_of ran ≤ clock_of cut.loaded + take_calls

-- A gift that was stopped: the mirror holds what it held before, or what it holds after the gift. A crash before the
-- first device call leaves the former, and one past the last call the latter.
pub record IsHalfGiven (head : HeadValue) (history : List Op) (doc : SentDoc) (stop : Stop) (disk left : MemoryValue)
    (kept after : List KeptValue) : Type 0 where
  pub either : (after ≡ kept) ⊎ IsGiven head doc kept after
  pub before : stop.call ≡ 0 → after ≡ kept
  pub past : take_calls < stop.call → IsGiven head doc kept after
  pub cut : stop.call ≡ 0 → IsCutBefore stop disk left
  pub within : 0 < stop.call → IsGivenInto head history doc stop kept disk left

-- the effect of a gift, with or without a stop, on a mirror's disk and on the documents held
abbrev pub IsGift : HeadValue → List Op → SentDoc → Option Stop → MemoryValue → MemoryValue → List KeptValue
    → List KeptValue → Type 0
IsGift head history doc None disk left kept after = IsGiven head doc kept after
IsGift head history doc (Some stop) disk left kept after = IsHalfGiven head history doc stop disk left kept after

-- a crash within a gift leaves the documents held before, or those after the gift, which the feed served
pub record LoadsGiven (head : HeadValue) (history : List Op) (doc : SentDoc) (kept : List KeptValue) (image : List ℕ)
    : Type 0 where
  pub after : List KeptValue
  pub either : (after ≡ kept) ⊎ IsGiven head doc kept after
  pub served : AreServed head history (map own_offer after)
  pub loads : LoadsTo head.name.base after image

-- a gift that was made, its device calls, and what a crash within it leaves
pub record RunsGift (head : HeadValue) (history : List Op) (doc : SentDoc) (kept : List KeptValue)
    (before after : MemoryValue) : Type 0 where
  pub now : List KeptValue
  pub given : IsGiven head doc kept now
  pub mirror : IsMirrorOf head history after now
  pub few : (state_of after).clock ≤ (state_of before).clock + take_calls
  pub leaves : LeavesOnly (state_of before) (state_of after) MirrorArea (λ _. LoadsGiven head history doc kept)

-- a mirror's disk after a gift
pub record LeavesGiven (head : HeadValue) (history : List Op) (doc : SentDoc) (stop : Option Stop)
    (kept : List KeptValue) (disk left : MemoryValue) : Type 0 where
  pub after : List KeptValue
  pub gift : IsGift head history doc stop disk left kept after
  pub mirror : IsMirrorOf head history left after

-- Walks

-- a walk over the documents of the store
abbrev pub setting_by : HeadValue → List Op → WalkSetting
setting_by head history =
    record { base = head.name.base; capacity = head.capacity; answers = store_answers head history }

-- A walk ends with nothing missing, complete at the whole history, or the mirror's area is full.
abbrev pub EndsWhole : List Op → List KeptValue → WalkEnding → Type 0
EndsWhole history after nothing_wanted = outcome_of after ≡ Complete (length history) (live_count history)
EndsWhole history after (filled size needed capacity) = Unit {0}
EndsWhole history after ending = ⊥

-- a mirror walked over the documents of the store
pub record IsWalkedOver (head : HeadValue) (history : List Op) (kept after : List KeptValue) : Type 0 where
  pub asked : List Address
  pub accepted : List Accepted
  pub ending : WalkEnding
  pub walks : WalksFromFeed (setting_by head history) kept asked accepted after ending
  pub ends : EndsWhole history after ending

-- the mirror holds as much as a walk holds after some of its addresses
pub record IsWalkedPart (head : HeadValue) (history : List Op) (kept after : List KeptValue) : Type 0 where
  pub asked : List Address
  pub accepted : List Accepted
  pub walks : WalksFromFeed (setting_by head history) kept asked accepted after cut_short

-- A walk that ran into a stop. It left `whole` on the disk `ran`, by few device calls for each document that it took.
-- The disk left is the image of that disk by the stop. A crash past the last device call leaves `whole`.
pub record IsPastWalk (head : HeadValue) (history : List Op) (stop : Stop) (disk left : MemoryValue)
    (kept after : List KeptValue) : Type 0 where
  pub whole : List KeptValue
  pub walked : IsWalkedOver head history kept whole
  pub ran : MemoryValue
  pub mirror : IsMirrorOf head history ran whole
  pub cut : IsCutWithin stop disk ran left
  pub few : TakesFew (state_of cut.loaded) (state_of ran) kept whole
  pub past : take_calls * (length whole - length kept) < stop.call → after ≡ whole

-- A walk that was stopped. A crash before the first device call leaves what was held before, and one past the last call
-- what the whole walk holds.
pub record IsWalkedInto (head : HeadValue) (history : List Op) (stop : Stop) (disk left : MemoryValue)
    (kept after : List KeptValue) : Type 0 where
  pub part : (after ≡ kept) ⊎ IsWalkedPart head history kept after
  pub before : stop.call ≡ 0 → after ≡ kept
  pub cut : stop.call ≡ 0 → IsCutBefore stop disk left
  pub past : 0 < stop.call → IsPastWalk head history stop disk left kept after

-- the effect of a walk, with or without a stop, on a mirror's disk and on the documents held
abbrev pub IsWalk : HeadValue → List Op → Option Stop → MemoryValue → MemoryValue → List KeptValue → List KeptValue
    → Type 0
IsWalk head history None disk left kept after = IsWalkedOver head history kept after
IsWalk head history (Some stop) disk left kept after = IsWalkedInto head history stop disk left kept after

-- a mirror's disk after a walk
pub record LeavesWalked (head : HeadValue) (history : List Op) (stop : Option Stop) (kept : List KeptValue)
    (disk left : MemoryValue) : Type 0 where
  pub after : List KeptValue
  pub walk : IsWalk head history stop disk left kept after
  pub mirror : IsMirrorOf head history left after

-- The entries that a mirror shows

-- the live entries of a complete mirror are those of the fold at its version
abbrev pub ShowsHistory : HeadValue → List Op → List KeptValue → Outcome → Type 0
ShowsHistory head history kept outcome = (version live : ℕ) → outcome ≡ Complete version live
    → ShowsVersion head history version (chain_of kept) × (live ≡ live_count (take version history))

-- the outcome of a mirror that holds these documents of the feed
pub record IsShown (head : HeadValue) (history : List Op) (kept : List KeptValue) (outcome : Outcome) : Type 0 where
  pub outcome_is : outcome ≡ outcome_of kept
  pub shows : ShowsHistory head history kept outcome

-- the certificate of a mirror is the feed's own at its version, and there is none while a document is missing
abbrev pub IsCertified : HeadValue → List Op → List KeptValue → Option CertificateValue → Type 0
IsCertified head history kept None = ¬ (first_missing kept ≡ None)
IsCertified head history kept (Some certificate) =
    (outcome_of kept ≡ Complete certificate.version certificate.live_count)
    × (certificate ≡ served_certificate head (take certificate.version history))
