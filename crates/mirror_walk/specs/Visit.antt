-- One step of a walk: an address is asked, and the document found there is offered to the mirror.
use Rattle.std.specs.Prelude.{◌≡◌, ◌≢◌, ◌⊎◌, ℕ, ◌+◌, min, List, [], ◌∷◌, ◌++◌, length, map, Some, Result}
use Rattle.std.specs.Prelude.{Ok, Err, IsSome, Option, count_by}
use Rattle.atom_values.specs.Counts.{CountsFault}
use Rattle.atom_writer.specs.Doc.{archive_limit}
use Rattle.chain_links.specs.Address.{printed}
use Rattle.chain_links.specs.declared.address.Address.{Address}
use Rattle.chain_links.specs.declared.address.Address.TheVariants.{Feed, Archive, Member}
use Rattle.doc_source.specs.declared.fetch.GetFault.{GetFault}
use Rattle.doc_source.specs.declared.fetch.GetFault.TheVariants as gets
use Rattle.feed_disk.specs.Disk.{DiskState}
use Rattle.feed_disk.specs.Moments.{AlwaysLeaves}
use Rattle.doc_source.specs.Fetch.{FetchState}
use Rattle.feed_disk.specs.declared.area.Area.TheVariants.{Mirror as MirrorArea}
use Rattle.mirror_walk.specs.declared.answer.Accepted.{Accepted}
use Rattle.mirror_walk.specs.declared.answer.Accepted.TheVariants.{Taken, Known, Stale}
use Rattle.mirror_walk.specs.declared.answer.Offered.TheVariants.{Full, DiskFault, NoMemory}
use Rattle.mirror_walk.specs.declared.walk.Tally.{Tally}
use Rattle.mirror_walk.specs.declared.walk.Visit.{Visit}
use Rattle.mirror_walk.specs.declared.walk.Visits.{Visits}
use Rattle.mirror_walk.specs.declared.walk.Visit.TheVariants as visits
use Rattle.mirror_walk.specs.declared.walk.WalkFault.{WalkFault}
use Rattle.mirror_walk.specs.declared.walk.WalkFault.TheVariants as faults
use Rattle.mirror_walk.specs.Accept.{Answer}
use Rattle.mirror_walk.specs.Holding.{KeptValue, best_of, first_missing}
use Rattle.mirror_walk.specs.Mirror.{IsAtRest, LoadsTo, MirrorValue}
use Rattle.mirror_walk.specs.Walk.{EndsAt, Exchange, HasRefusal, IsAnswered, IsWalkStep, WalkEnding, WalkSetting}
use Rattle.mirror_walk.specs.Walk.{WalksFromFeed, is_known, is_stale, is_taken, setting_by}
use Rattle.mirror_walk.specs.Walk.WalkEnding.{not_there, refused, fetch_failed, filled, disk_failed, cut_short}

-- the walk's visit for a mirror's answer to a document that was found
abbrev pub visit_of : Answer → Result Visit WalkFault
visit_of (Ok accepted) = Ok (visits.Accepted accepted)
visit_of (Err (Full size needed capacity)) = Err (faults.Full size needed capacity)
visit_of (Err DiskFault) = Err faults.DiskFault
visit_of (Err NoMemory) = Err faults.NoMemory
visit_of (Err refusal) = Ok (visits.Refused refusal)

-- a fault of the source
abbrev pub get_fault : GetFault → WalkFault
get_fault gets.Failed = faults.FetchFault
get_fault gets.NoMemory = faults.NoMemory

-- the result of asking an address, and what is held afterwards; after a failed device call that is
-- unspecified
abbrev pub IsVisit : WalkSetting → List KeptValue → Address → List KeptValue → Result Visit WalkFault → Type 0
IsVisit setting kept address left (Ok (visits.Accepted answer)) = IsAnswered setting kept address (Ok answer)
    left
IsVisit setting kept address left (Ok visits.NotThere) = (left ≡ kept) × EndsAt setting kept address not_there
IsVisit setting kept address left (Ok (visits.Refused why)) = (left ≡ kept) × EndsAt setting kept address
    (refused why)
IsVisit setting kept address left (Err faults.FetchFault) = left ≡ kept
IsVisit setting kept address left (Err (faults.Full size needed capacity)) =
    (left ≡ kept) × EndsAt setting kept address (filled size needed capacity)
IsVisit setting kept address left (Err faults.DiskFault) = EndsAt setting kept address disk_failed
IsVisit setting kept address left (Err faults.NoMemory) = left ≡ kept

-- the address was asked; if memory ran out, maybe not
abbrev pub HasAsked : List (List ℕ) → List (List ℕ) → List ℕ → Result Visit WalkFault → Type 0
HasAsked before after address (Ok _) = after ≡ before ++ address ∷ []
HasAsked before after address (Err faults.FetchFault) = after ≡ before ++ address ∷ []
HasAsked before after address (Err (faults.Full size needed capacity)) = after ≡ before ++ address ∷ []
HasAsked before after address (Err faults.DiskFault) = after ≡ before ++ address ∷ []
HasAsked before after address (Err faults.NoMemory) = (after ≡ before) ⊎ (after ≡ before ++ address ∷ [])

-- the counts of faults of the disk and of the source
pub record CountsFaults {T : Type 0} (disk disk' source source' : ℕ) (result : Result T WalkFault) : Type 0
  where
    pub disk_counts : CountsFault disk disk' (result ≡ Err faults.DiskFault)
    pub source_counts : CountsFault source source' (result ≡ Err faults.FetchFault)

-- an image that loads to the documents held, or to those after the document at this address was taken
pub record LoadsToTaken (setting : WalkSetting) (kept : List KeptValue) (address : Address) (image : List ℕ)
    : Type 0 where
  pub after : List KeptValue
  pub taken : IsAnswered setting kept address (Ok Taken) after
  pub loads : LoadsTo setting.base after image

abbrev pub IsVisitStep : WalkSetting → List KeptValue → Address → List ℕ → Type 0
IsVisitStep setting kept address image = LoadsTo setting.base kept image ⊎ LoadsToTaken setting kept address
    image

-- A visit by the answer that the source gave, which is its own where contracts see it (`seen`): what is held then, the
-- result, the addresses asked, and the images that a crash at a moment of the visit leaves
pub record VisitsByAnswer (observable seen : Type 0) (s t : DiskState) (before after : FetchState) (mirror : MirrorValue)
    (address : Address) (left : List KeptValue) (result : Result Visit WalkFault) : Type 0 where
  pub found : Option (List ℕ)
  pub found_is : seen → found ≡ before.answers (printed mirror.base address)
  pub visit : IsVisit (setting_by mirror (λ _. found)) mirror.kept address left result
  pub texts : List (List ℕ)
  pub texts_are : seen → after.asked ≡ before.asked ++ texts
  pub asked : HasAsked [] texts (printed mirror.base address) result
  pub moments : observable → IsAtRest s mirror.kept
      → AlwaysLeaves s t MirrorArea (IsVisitStep (setting_by mirror (λ _. found)) mirror.kept address)

-- the next address is the feed's at the beginning, and else that of the first missing document
abbrev pub IsNextOf : List KeptValue → Address → Type 0
IsNextOf kept next = (next ≡ Feed) ⊎ ((first_missing kept ≡ Some next) × IsSome (best_of kept))

-- how many documents a walk may ask for from its next address on
abbrev pub asks_left : Address → ℕ
asks_left Feed = archive_limit + 1
asks_left (Archive number) = min number archive_limit
asks_left (Member number) = 0

-- the numbers of a walk's addresses and answers
abbrev pub tally_of : List Address → List Accepted → Tally
tally_of asked accepted = record {
  asked = length asked;
  taken = count_by is_taken accepted;
  known = count_by is_known accepted;
  stale = count_by is_stale accepted;
}

-- the numbers after one more answer
abbrev pub counted_answer : Tally → Accepted → Tally
counted_answer tally Taken = record tally { taken = tally.taken + 1 }
counted_answer tally Known = record tally { known = tally.known + 1 }
counted_answer tally Stale = record tally { stale = tally.stale + 1 }

-- the numbers of a walk that ended without a fault, and its refusal
abbrev pub IsVisitsResult : List Address → List Accepted → WalkEnding → Result Visits WalkFault → Type 0
IsVisitsResult asked accepted ending (Ok made) =
    (made.tally ≡ tally_of asked accepted) × HasRefusal asked ending made.refused
IsVisitsResult asked accepted ending (Err faults.FetchFault) = ending ≡ fetch_failed
IsVisitsResult asked accepted ending (Err (faults.Full size needed capacity)) = ending ≡ filled size needed
    capacity
IsVisitsResult asked accepted ending (Err faults.DiskFault) = ending ≡ disk_failed
IsVisitsResult asked accepted ending (Err faults.NoMemory) = ending ≡ cut_short

-- the walk up to its end, without the outcome
pub record HasVisited (setting : WalkSetting) (kept now : List KeptValue) (before after : List (List ℕ))
    (given : Result Visits WalkFault) : Type 0 where
  pub asked : List Address
  pub accepted : List Accepted
  pub held : List KeptValue
  pub ending : WalkEnding
  pub walks : WalksFromFeed setting kept asked accepted held ending
  pub addresses : after ≡ before ++ map (printed setting.base) asked
  pub left : given ≢ Err faults.DiskFault → now ≡ held
  pub result : IsVisitsResult asked accepted ending given

-- the walk up to its end, by what the source answered
pub record VisitsByAnswers (observable seen : Type 0) (s t : DiskState) (before after : FetchState) (mirror : MirrorValue)
    (now : List KeptValue) (given : Result Visits WalkFault) : Type 0 where
  pub source : Exchange seen before after
  pub visited : HasVisited (setting_by mirror source.answers) mirror.kept now [] source.asked given
  pub moments : observable → IsAtRest s mirror.kept
      → AlwaysLeaves s t MirrorArea (IsWalkStep (setting_by mirror source.answers) mirror.kept)
