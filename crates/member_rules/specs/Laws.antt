-- The laws that the crates above cite. Each is the contract of a function of laws.rt.
use Rattle.std.specs.Prelude.{◌≡◌, ◌≢◌, ◌↔◌, ◌⊎◌, ℕ, ◌+◌, ◌-◌, ◌≤◌, ℤ, List, [], ◌∷◌, ◌++◌, Some, length, take}
use Rattle.std.specs.Prelude.{slice_get, All}
use Rattle.atom_values.specs.Entry.{EntryValue}
use Rattle.atom_writer.specs.Pieced.{text_of}
use Rattle.atom_writer.specs.Pieces.{text}
use Rattle.atom_writer.specs.Doc.{DocValue, IsDoc}
use Rattle.member_rules.specs.declared.operation.Op.{Op}
use Rattle.member_rules.specs.declared.operation.Op.TheVariants.{Add, Change}
use Rattle.member_rules.specs.declared.state.State.TheVariants.{Live}
use Rattle.member_rules.specs.Coding.{operations, payload_limit}
use Rattle.member_rules.specs.Head.{HeadValue, IsHead}
use Rattle.member_rules.specs.Fold.{fold_of, made, state_of}
use Rattle.member_rules.specs.History.{AreFollowing, IsLawful}
use Rattle.member_rules.specs.Windows.{Windows, windows_of}
use Rattle.member_rules.specs.Documents.{archive, subscription}
use Rattle.member_rules.specs.Operation.{IsOperation}
use Rattle.member_rules.specs.Shows.{Shows, live_of}
use Rattle.member_rules.specs.Served.{Served, IsServedDoc}
use Rattle.member_rules.specs.Chain.{IsOpenCut, chain_of, chain, ShowsTheFold}

-- the law of the chain, for every cut of a lawful history
abbrev pub LawOfCuts : Type 0
LawOfCuts = (head : HeadValue) (history : List Op) (ends : ℕ → ℕ) (archives : ℕ) → IsHead head
    → IsLawful head history → IsOpenCut ends archives (length history)
    → ShowsTheFold (chain_of ends archives head history) history

-- windows are a cut of every history
abbrev pub WindowsAreACut : Type 0
WindowsAreACut = (head : HeadValue) (history : List Op) → IsHead head
    → let windows = windows_of head history in IsOpenCut windows.ends windows.sealed (length history)

-- so the law holds for the documents that are served
abbrev pub LawOfTheChain : Type 0
LawOfTheChain = (head : HeadValue) (history : List Op) → IsHead head → IsLawful head history
    → ShowsTheFold (chain head history) history

-- an archive never changes: once its window is full, it is the same for all later operations
abbrev pub ArchivesStay : Type 0
ArchivesStay = (head : HeadValue) (history : List Op) (version number : ℕ) → version ≤ length history
    → number ≤ (windows_of head (take version history)).full
    → archive head (take version history) number ≡ archive head history number

-- bytes that are served after the first operations of a lawful history are served after all of them
abbrev pub ServedStays : Type 0
ServedStays = (head : HeadValue) (history : List Op) (version : ℕ) → IsLawful head history
    → version ≤ length history → (address bytes : List ℕ)
    → Served head (take version history) address bytes → Served head history address bytes

-- served bytes are the text of a document of the feed, at the document's own address
abbrev pub ServedAreDocuments : Type 0
ServedAreDocuments = (head : HeadValue) (history : List Op) (address bytes : List ℕ)
    → Served head history address bytes → IsServedDoc head address bytes

-- the first operations of a lawful history are a lawful history
abbrev pub PrefixesAreLawful : Type 0
PrefixesAreLawful = (head : HeadValue) (history : List Op) (version : ℕ) → IsLawful head history
    → IsLawful head (take version history)

-- the windows before and after an operation that follows this many: it seals one window where the open one is full,
-- and else none; either way the full windows are then sealed
pub record SealsInTurn (before after : Windows) (count : ℕ) : Type 0 where
  pub within : count ≤ before.ends (before.sealed + 1)
  pub rises : before.ends (before.sealed + 1) ≡ count → after.sealed ≡ before.sealed + 1
  pub stays : before.ends (before.sealed + 1) ≢ count → after.sealed ≡ before.sealed
  pub full : after.sealed ≡ before.full

abbrev pub WindowsSealInTurn : Type 0
WindowsSealInTurn = (head : HeadValue) (history : List Op) (operation : Op) → IsHead head
    → SealsInTurn (windows_of head history) (windows_of head (history ++ operation ∷ [])) (length history)

-- A sealed window is full, and at most one full window isn't sealed yet. Each full window has an operation.
pub record HasSealed (windows : Windows) (count : ℕ) : Type 0 where
  pub full : windows.sealed ≤ windows.full
  pub all_but_one : windows.full ≤ windows.sealed + 1
  pub few : windows.full ≤ count

abbrev pub SealedAreFull : Type 0
SealedAreFull = (head : HeadValue) (history : List Op) → IsHead head
    → HasSealed (windows_of head history) (length history)

-- the documents of a lawful history are within the limit of a payload
abbrev pub DocumentsAreShort : Type 0
DocumentsAreShort = (head : HeadValue) (history : List Op) → IsHead head → IsLawful head history
    → (length (text (subscription head history)) ≤ payload_limit)
    × ((number : ℕ) → 1 ≤ number → number ≤ (windows_of head history).full
    → length (text (archive head history number)) ≤ payload_limit)

-- the fewest bytes of an operation, those of an empty title and of a window's size
abbrev pub least_operation : ℕ
least_operation = 14

abbrev pub OperationsAreLong : Type 0
OperationsAreLong = (operation : Op) → IsOperation operation → least_operation ≤ length (text_of operations operation)

-- the number of a live member is from 1 to the number of members made
abbrev pub LiveMembersAreMade : Type 0
LiveMembersAreMade = (created : ℤ) (history : List Op) (number : ℕ) (entry : EntryValue)
    → AreFollowing created history → (fold_of history).live number ≡ Some entry
    → (1 ≤ number) × (number ≤ made history)

-- operation `version`, counted from 1, set the member's live entry, which has this `updated`
pub record IsSetBy (history : List Op) (number : ℕ) (updated : ℤ) (version : ℕ) : Type 0 where
  pub entry : EntryValue
  pub live : (fold_of history).live number ≡ Some entry
  pub dated : entry.updated ≡ updated
  pub counted : 1 ≤ version
  pub set_by : (slice_get history (version - 1) ≡ Some (Add entry))
      ⊎ (slice_get history (version - 1) ≡ Some (Change entry))

-- a live member's state names the operation that set its entry
abbrev pub VersionsSetTheEntry : Type 0
VersionsSetTheEntry = (history : List Op) (number : ℕ) (updated : ℤ) (version : ℕ)
    → state_of history number ≡ Live updated version → IsSetBy history number updated version

-- `live_of` is what documents show, where each keeps the rules of documents
abbrev pub LiveOfIsShown : Type 0
LiveOfIsShown = (documents : List DocValue) (number : ℕ) (entry : EntryValue) → All IsDoc documents
    → Shows documents number entry ↔ (live_of documents number ≡ Some entry)
