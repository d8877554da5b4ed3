-- How `foreign` ends.
use Rattle.std.specs.Prelude.{◌≡◌, ◌⊎◌, ℕ, ◌+◌, List, ◌++◌, Result, Ok, Err}
use Rattle.chain_links.specs.Address.{printed}
use Rattle.chain_links.specs.declared.address.Address.TheVariants.{Feed}
use Rattle.command_ends.specs.Answer.{Answer}
use Rattle.command_ends.specs.Ends.{EndsAs, IsAnswered}
use Rattle.command_ends.specs.Status.{code_of}
use Rattle.command_ends.specs.declared.status.Status.{Status}
use Rattle.command_ends.specs.declared.status.Status.TheVariants.{Done, Incomplete, NoMemory, FetchFault, OutputFault}
use Rattle.doc_source.specs.Fetch.{FetchState}
use Rattle.doc_source.specs.Outside.{SinkState}
use Rattle.feed_reader.specs.Feed.{DocumentValue}
use Rattle.feed_reader.specs.declared.values.ForeignEntry.{ForeignEntry}
use Rattle.foreign_mirror.specs.declared.walk.ChainEnd.{ChainEnd}
use Rattle.foreign_mirror.specs.declared.walk.ChainEnd.TheVariants.{Complete}
use Rattle.foreign_mirror.specs.declared.fault.ForeignFault.{ForeignFault}
use Rattle.foreign_mirror.specs.declared.fault.ForeignFault.TheVariants.{FetchFault as WalkFetchFault}
use Rattle.foreign_mirror.specs.declared.fault.ForeignFault.TheVariants.{NoMemory as WalkNoMemory}
use Rattle.foreign_mirror.specs.Walk.{Ending, WalksFrom}
use Rattle.foreign_mirror.specs.Walk.Ending.{fetch_failed, over}
use Rattle.member_rules.specs.Head.{HeadValue}
use Rattle.member_rules.specs.Windows.{windows_of}
use Rattle.member_rules.specs.declared.operation.Op.{Op}
use Rattle.own_chain.specs.Served.{AreLiveEntries, ServesChain}
use Rattle.foreign_command.specs.Lines.{foreign_answer}

-- the exit statuses of `foreign`
abbrev pub MayEndForeign : ℕ → Type 0
MayEndForeign ended =
    (ended ≡ code_of Done) ⊎ (ended ≡ code_of Incomplete) ⊎ (ended ≡ code_of NoMemory) ⊎ (ended ≡ code_of FetchFault)
    ⊎ (ended ≡ code_of OutputFault)

-- the status of a walk that has no result
abbrev pub status_of_fault : ForeignFault → Status
status_of_fault WalkFetchFault = FetchFault
status_of_fault WalkNoMemory = NoMemory

-- the walk came to its end, or to the fault
abbrev pub IsEndingOf : {A : Type 0} → Result A ForeignFault → Ending → Type 0
IsEndingOf (Ok value) ending = (end : ChainEnd) × (ending ≡ over end)
IsEndingOf (Err WalkFetchFault) ending = ending ≡ fetch_failed
IsEndingOf (Err WalkNoMemory) ending = Unit {0}

-- the addresses that the source was asked, up to the end of the walk or to a fault
pub record GoesWalk {A : Type 0} (before after : FetchState) (from : List ℕ) (given : Result A ForeignFault)
    : Type 0 where
  pub asked : List (List ℕ)
  pub documents : List DocumentValue
  pub ending : Ending
  pub walks : WalksFrom before.answers from asked documents ending
  pub addresses : after.asked ≡ before.asked ++ asked
  pub ends : IsEndingOf given ending

-- The addresses that the source was asked are those of the walk. It came to its end if there is an answer, and ended
-- with the last address if a call of the source failed.
pub record AsksInWalk (before after : FetchState) (from : List ℕ) (ended : ℕ) : Type 0 where
  pub asked : List (List ℕ)
  pub documents : List DocumentValue
  pub ending : Ending
  pub walks : WalksFrom before.answers from asked documents ending
  pub addresses : after.asked ≡ before.asked ++ asked
  pub over : IsAnswered ended → (end : ChainEnd) × (ending ≡ over end)
  pub failed : ended ≡ code_of FetchFault → ending ≡ fetch_failed

-- the answer for a feed of this project's own, after this history: its live entries, and the number of its documents
pub record IsOwnAnswer (head : HeadValue) (history : List Op) (given : Answer) : Type 0 where
  pub live : List ForeignEntry
  pub are_live : AreLiveEntries head history live
  pub is : given ≡ foreign_answer ((windows_of head history).sealed + 1) live Complete

-- what the source was asked, and the answer where it serves the chain of a feed of this project's own
pub record EndsForeign (from : List ℕ) (fetch fetched : FetchState) (observable : Type 0) (before after : SinkState)
    (ended : ℕ) : Type 0 where
  pub asks : AsksInWalk fetch fetched from ended
  pub own : (head : HeadValue) (history : List Op) → ServesChain head history fetch.answers
      → from ≡ printed head.name.base Feed → IsAnswered ended
      → EndsAs (IsOwnAnswer head history) observable before after ended
