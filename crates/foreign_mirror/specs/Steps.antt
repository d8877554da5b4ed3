-- The steps of a walk, and what it keeps between them.
use Rattle.std.specs.Prelude.{◌≡◌, ◌⊎◌, ◌≤◌, ℕ, List, [], ◌∷◌, ◌++◌, length, Option, Some, None, Result, Ok, Err}
use Rattle.std.specs.Prelude.{bytes_eq, Bool, true, false}
use Rattle.std.specs.List.{list_any}
use Rattle.doc_source.specs.Fetch.{FetchState}
use Rattle.feed_reader.specs.Feed.{DocumentValue}
use Rattle.feed_reader.specs.declared.fault.ForeignRead.{ForeignRead}
use Rattle.feed_reader.specs.declared.fault.ForeignRead.TheVariants.{NotRead as NotReadAt, NoMemory as OutOfMemory}
use Rattle.foreign_entries.specs.Tally.{Tallies}
use Rattle.foreign_mirror.specs.declared.fault.ForeignFault.{ForeignFault}
use Rattle.foreign_mirror.specs.declared.fault.ForeignFault.TheVariants.{FetchFault, NoMemory}
use Rattle.foreign_mirror.specs.declared.walk.ChainEnd.{ChainEnd}
use Rattle.foreign_mirror.specs.declared.walk.ChainEnd.TheVariants.{NotRead, OtherFeed}
use Rattle.foreign_mirror.specs.declared.walk.Progress.{Progress}
use Rattle.foreign_mirror.specs.declared.walk.Visit.{Visit}
use Rattle.foreign_mirror.specs.declared.walk.Visit.TheVariants.{Taken, Ended}
use Rattle.foreign_mirror.specs.Walk.{EndsAt, EndsBefore, Ending, IsAskable, IsOfFeed, IsReadAt, WalksFrom}
use Rattle.foreign_mirror.specs.Walk.{document_limit, feed_after}
use Rattle.foreign_mirror.specs.Walk.Ending.{over, fetch_failed, cut_short}

-- the identifier of the feed that these documents are of
abbrev pub feed_of : List DocumentValue → Option (List ℕ)
feed_of [] = None
feed_of (d ∷ documents) = Some d.id

-- a walk took these documents
pub record HasTaken (documents : List DocumentValue) (walk : Progress) : Type 0 where
  pub feed : walk.feed ≡ feed_of documents
  pub live : Tallies documents walk.entries
  pub docs : walk.docs ≡ length documents

-- a walk knows the addresses that it asked
abbrev pub Knows : List (List ℕ) → Progress → Type 0
Knows asked walk = (address : List ℕ)
    → list_any (λ k. bytes_eq address k.items) walk.asked.keys ≡ list_any (bytes_eq address) asked

-- a walk asked these addresses, and took the document of each
pub record Keeps (asked : List (List ℕ)) (documents : List DocumentValue) (walk : Progress) : Type 0 where
  pub knows : Knows asked walk
  pub taken : HasTaken documents walk
  pub each : length asked ≡ length documents
  pub few : length asked ≤ document_limit

-- the next address is to be asked, or the walk ends before it
abbrev pub IsChecked : List (List ℕ) → Option (List ℕ) → Result (List ℕ) ChainEnd → Type 0
IsChecked asked next (Ok address) = (next ≡ Some address) × IsAskable asked address
IsChecked asked next (Err end) = EndsBefore asked next (over end)

-- the document is of the feed, which the walk knows then
pub record Joins (old new : Progress) (d : DocumentValue) : Type 0 where
  pub of_feed : IsOfFeed old.feed d
  pub feed : new.feed ≡ feed_after old.feed d
  pub live : new.entries ≡ old.entries
  pub docs : new.docs ≡ old.docs
  pub keys : new.asked.keys ≡ old.asked.keys

-- whether the document is of the feed
abbrev pub IsJoined : Progress → Progress → DocumentValue → Bool → Type 0
IsJoined old new d true = Joins old new d
IsJoined old new d false = (¬ IsOfFeed old.feed d) × (new ≡ old)

-- the outcome for a document that isn't counted yet
abbrev pub IsFound : Progress → Progress → List ℕ → DocumentValue → Visit → Type 0
IsFound old new address d (Taken prev) = (prev ≡ d.prev) × Joins old new d
IsFound old new address d (Ended end) = (end ≡ OtherFeed address) × (¬ IsOfFeed old.feed d) × (new ≡ old)

-- the document is of the feed and was taken, or it is of another feed
abbrev pub IsTakenVisit : List DocumentValue → List ℕ → DocumentValue → Progress → Progress → Visit → Type 0
IsTakenVisit documents address d before after (Taken prev) =
    (prev ≡ d.prev) × IsOfFeed (feed_of documents) d × HasTaken (documents ++ d ∷ []) after
    × (after.asked.keys ≡ before.asked.keys)
IsTakenVisit documents address d before after (Ended end) =
    (end ≡ OtherFeed address) × (¬ IsOfFeed (feed_of documents) d) × HasTaken documents after

-- the outcome if the document at the address can't be read
abbrev pub refused : List ℕ → ForeignRead → Result Visit ForeignFault
refused address (NotReadAt at why) = Ok (Ended (NotRead address at why))
refused address OutOfMemory = Err NoMemory

-- the address was asked; if memory ran out, maybe not
abbrev pub HasAsked : {A : Type 0} → FetchState → FetchState → List ℕ → Result A ForeignFault → Type 0
HasAsked before after address (Ok _) = after.asked ≡ before.asked ++ address ∷ []
HasAsked before after address (Err FetchFault) = after.asked ≡ before.asked ++ address ∷ []
HasAsked before after address (Err NoMemory) =
    (after.asked ≡ before.asked) ⊎ (after.asked ≡ before.asked ++ address ∷ [])

-- the outcome of asking an address; what a source answers counts if contracts see it (`observable`)
abbrev pub IsOutcome : Type 0 → FetchState → List (List ℕ) → List DocumentValue → List ℕ → Progress
    → Result Visit ForeignFault → Type 0
IsOutcome observable before asked documents address after (Ok (Taken prev)) =
    (d : DocumentValue) × (prev ≡ d.prev) × IsOfFeed (feed_of documents) d
    × (observable → IsReadAt before.answers address d)
    × Keeps (asked ++ address ∷ []) (documents ++ d ∷ []) after
IsOutcome observable before asked documents address after (Ok (Ended end)) =
    (observable → EndsAt before.answers (feed_of documents) address (over end)) × HasTaken documents after
IsOutcome observable before asked documents address after (Err fault) = Unit {0}

pub record IsVisit (observable : Type 0) (before after : FetchState) (asked : List (List ℕ))
    (documents : List DocumentValue) (address : List ℕ) (walk : Progress) (given : Result Visit ForeignFault) : Type 0
  where
    pub outcome : IsOutcome observable before asked documents address walk given
    pub addresses : observable → HasAsked before after address given

-- the end of a walk without its result, and the documents that were taken
abbrev pub IsRunResult : List DocumentValue → Ending → Progress → Result ChainEnd ForeignFault → Type 0
IsRunResult documents ending walk (Ok end) = (ending ≡ over end) × HasTaken documents walk
IsRunResult documents ending walk (Err FetchFault) = ending ≡ fetch_failed
IsRunResult documents ending walk (Err NoMemory) = ending ≡ cut_short

-- a walk to its end, without its result
pub record HasRun (before after : FetchState) (from : List ℕ) (walk : Progress) (given : Result ChainEnd ForeignFault)
    : Type 0 where
  pub asked : List (List ℕ)
  pub documents : List DocumentValue
  pub ending : Ending
  pub walks : WalksFrom before.answers from asked documents ending
  pub addresses : after.asked ≡ before.asked ++ asked
  pub result : IsRunResult documents ending walk given
