-- The operation that a store prepares and commits, with the seal before it, and the room for both.
use Rattle.std.specs.Prelude.{◌≡◌, ◌≢◌, ◌⊎◌, ℕ, ◌+◌, ◌<◌, ◌≤◌, List, [], ◌∷◌, ◌++◌, length}
use Rattle.std.specs.Prelude.{Option, Some, None, Result, Ok, Err}
use Rattle.atom_writer.specs.Pieced.{text_of}
use Rattle.feed_disk.specs.declared.area.Area.{Area}
use Rattle.feed_disk.specs.declared.area.Area.TheVariants.{Journal, Sealed}
use Rattle.feed_journal.specs.Limits.{header_length}
use Rattle.feed_journal.specs.Log.{LogValue}
use Rattle.feed_recovery.specs.Opening.{seal_of}
use Rattle.feed_recovery.specs.Store.{StoreValue, seal_count}
use Rattle.feed_recovery.specs.declared.fault.PrepareFault.{PrepareFault}
use Rattle.feed_recovery.specs.declared.fault.PrepareFault.TheVariants.{Rule, Full, NoMemory}
use Rattle.member_rules.specs.Coding.{operations}
use Rattle.member_rules.specs.Decide.{decide}
use Rattle.member_rules.specs.History.{IsLawful}
use Rattle.member_rules.specs.Windows.{windows_of}
use Rattle.member_rules.specs.declared.ask.Ask.{Ask}
use Rattle.member_rules.specs.declared.fault.RuleFault.{RuleFault}
use Rattle.member_rules.specs.declared.operation.Op.{Op}

-- the decision of the ask by the rules of the feed
abbrev pub decision_of : StoreValue → Ask → ℕ → Result Op RuleFault
decision_of store ask now = decide store.head.name store.head.created store.history ask now

-- A seal is due when the open window is full, and missing when it isn't there yet.
abbrev pub IsMissing : StoreValue → Type 0
IsMissing store =
    let windows = windows_of store.head store.history in
    (windows.full ≢ windows.sealed) × (seal_count store ≡ windows.sealed)

-- the text of the next archive
abbrev pub next_seal : StoreValue → List ℕ
next_seal store = seal_of store.head store.history (seal_count store + 1)

-- the seal that has to be appended before the next operation, if one has
abbrev pub IsDueSeal : StoreValue → Option (List ℕ) → Type 0
IsDueSeal store (Some seal) = IsMissing store × (seal ≡ next_seal store)
IsDueSeal store None = ¬ IsMissing store

-- an operation that was prepared: the version that it makes, and the seal that comes before it
pub record ReadyValue : Type 0 where
  pub operation : Op
  pub version : ℕ
  pub seal : Option (List ℕ)

-- the log with the payload fits into an area of this capacity
abbrev pub Fits : LogValue → List ℕ → ℕ → Type 0
Fits log payload capacity = log.size + (length payload + header_length) ≤ capacity

-- the seal that is due fits, or none is
abbrev pub SealFits : StoreValue → Option (List ℕ) → Type 0
SealFits store None = Unit {0}
SealFits store (Some seal) = Fits store.seals seal store.head.capacity

-- An operation that the store can commit: it and the seal that is due have room within the capacity, which is within
-- the limit of an area.
pub record MayCommit (store : StoreValue) (ready : ReadyValue) : Type 0 where
  pub version : ready.version ≡ length store.history + 1
  pub lawful : IsLawful store.head (store.history ++ ready.operation ∷ [])
  pub fits : Fits store.journal (text_of operations ready.operation) store.head.capacity
  pub seal : IsDueSeal store ready.seal
  pub seal_fits : SealFits store ready.seal

-- the device calls of a commit: four for the operation, and four for the seal before it
abbrev pub commit_calls : Option (List ℕ) → ℕ
commit_calls None = 4
commit_calls (Some seal) = 8

-- the memory that `prepare` took for one operation is there
pub record HasRoom (store : StoreValue) : Type 0 where
  pub history : 0 < store.spare
  pub members : 0 < store.members.spare
  pub journal : 0 < store.journal.spare
  pub seals : 0 < store.seals.spare

-- no room that was there is lost
pub record KeepsRoom (before after : StoreValue) : Type 0 where
  pub history : before.spare ≤ after.spare
  pub members : before.members.spare ≤ after.members.spare
  pub journal : before.journal.spare ≤ after.journal.spare
  pub seals : before.seals.spare ≤ after.seals.spare

-- the payload doesn't fit into an area of this capacity
pub record IsFull (log : LogValue) (payload : List ℕ) (size needed capacity : ℕ) : Type 0 where
  pub is_size : size ≡ log.size
  pub is_needed : needed ≡ length payload + header_length
  pub over : capacity < size + needed

-- the area that is full: the sealed area first, where a seal is due and missing, and then the journal
abbrev pub IsFullArea : StoreValue → Op → Area → ℕ → ℕ → ℕ → Type 0
IsFullArea store operation area size needed capacity =
    (capacity ≡ store.head.capacity)
    × (((area ≡ Sealed) × IsMissing store × IsFull store.seals (next_seal store) size needed capacity)
    ⊎ ((area ≡ Journal) × ((seal : Option (List ℕ)) → IsDueSeal store seal → SealFits store seal)
    × IsFull store.journal (text_of operations operation) size needed capacity))

-- why an operation isn't made ready
abbrev pub IsFullFault : StoreValue → Op → PrepareFault → Type 0
IsFullFault store operation (Rule fault) = ⊥
IsFullFault store operation (Full area size needed capacity) = IsFullArea store operation area size needed capacity
IsFullFault store operation NoMemory = Unit {0}

-- why the ask isn't prepared; running out of memory has no cause in the store
abbrev pub IsPrepareFault : StoreValue → Ask → ℕ → PrepareFault → Type 0
IsPrepareFault store ask now (Rule fault) = decision_of store ask now ≡ Err fault
IsPrepareFault store ask now (Full area size needed capacity) =
    (operation : Op) × (decision_of store ask now ≡ Ok operation)
    × IsFullArea store operation area size needed capacity
IsPrepareFault store ask now NoMemory = Unit {0}
