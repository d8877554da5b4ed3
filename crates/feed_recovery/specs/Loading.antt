-- The steps of a load, of which none writes.
use Rattle.std.specs.Prelude.{◌≡◌, ◌↔◌, ◌+◌, ◌-◌, ◌*◌, ◌<◌, ◌≤◌, ℕ, min, false, List, [], ◌∷◌, ◌++◌, length, take}
use Rattle.std.specs.Prelude.{slice_get}
use Rattle.std.specs.Prelude.{Bool, IsTrue, Option, Some, None}
use Rattle.archive_sealer.specs.Window.{IsOfFeed, WindowValue}
use Rattle.atom_values.specs.Counts.{HasRisen, counter_limit}
use Rattle.feed_disk.specs.Disk.{DiskState}
use Rattle.feed_disk.specs.Moments.{LeavesAlone}
use Rattle.feed_disk.specs.declared.area.Area.{Area}
use Rattle.feed_disk.specs.declared.area.Area.TheVariants.{Journal, Sealed}
use Rattle.atom_writer.specs.Pieced.{text_of}
use Rattle.feed_journal.specs.Log.{IsListed, IsLog, LogValue, MakesSome, payloads_at}
use Rattle.feed_journal.specs.Reading.{IsAtEnd, IsReading, ReadingValue}
use Rattle.feed_journal.specs.Records.{records, size_of}
use Rattle.feed_journal.specs.declared.extent.Extent.{Extent}
use Rattle.feed_recovery.specs.Faults.{IsFirstWrong, IsLoadFault}
use Rattle.feed_recovery.specs.Opening.{AreSeals, IsSealCount, seal_of}
use Rattle.feed_recovery.specs.Places.{ArePlaces}
use Rattle.feed_recovery.specs.Store.{least_frame}
use Rattle.feed_recovery.specs.declared.fault.LoadFault.{LoadFault}
use Rattle.feed_recovery.specs.declared.fault.LoadFault.TheVariants.{NotInit, BadRecord, SealCount, BadSeal}
use Rattle.feed_recovery.specs.declared.fault.LoadFault.TheVariants.{DiskFault, NoMemory}
use Rattle.member_rules.specs.Coding.{operations}
use Rattle.member_rules.specs.Head.{HeadValue, IsHead}
use Rattle.member_rules.specs.History.{IsLawful}
use Rattle.member_rules.specs.Operation.{IsOperation}
use Rattle.member_rules.specs.Table.{IsTableOf, Table}
use Rattle.member_rules.specs.Windows.{windows_of}
use Rattle.member_rules.specs.declared.operation.Op.{Op}
use Rattle.member_rules.specs.declared.codec.CodecFault.{CodecFault}
use Rattle.member_rules.specs.declared.codec.CodecFault.TheVariants.{BadField, NoMemory as CodecNoMemory}

-- the reader of the journal, of which no call failed
pub record IsReader (observable : Type 0) (disk : DiskState) (reader : ReadingValue) : Type 0 where
  pub area : reader.log.area ≡ Journal
  pub unspent : reader.log.spent ≡ false
  pub reading : observable → IsReading reader (disk.content Journal)

-- before the first frame
pub record IsAtFirst (observable : Type 0) (disk : DiskState) (reader : ReadingValue) : Type 0 where
  pub first : IsReader observable disk reader
  pub none : reader.log.extents ≡ []

-- the log of this area, of which no call failed; its list is the payloads of the content
pub record IsReadable (observable : Type 0) (disk : DiskState) (a : Area) (log : LogValue) : Type 0 where
  pub area : log.area ≡ a
  pub unspent : log.spent ≡ false
  pub rules : IsLog log
  pub list : observable → payloads_at log.extents (disk.content a) ≡ records (disk.content a)

-- each area is left alone
pub record OnlyReads (s t : DiskState) : Type 0 where
  pub areas : (a : Area) → LeavesAlone s t a
  pub later : s.faults ≤ t.faults

-- device calls through this log worked, and the log is as it was but for their number
pub record Worked (s t : DiskState) (before after : LogValue) : Type 0 where
  pub log : after ≡ record before { calls = after.calls }
  pub calls : MakesSome s t before.calls after.calls
  pub faults : t.faults ≡ s.faults

-- device calls through the reader worked
pub record ReadsOn (s t : DiskState) (before after : ReadingValue) : Type 0 where
  pub rules : IsLog after.log
  pub calls : MakesSome s t before.log.calls after.log.calls
  pub faults : t.faults ≡ s.faults
  pub limit : after.limit ≡ before.limit
  pub within : after.log.size ≤ after.limit

-- the log's list is the payloads of the content, and it tells whether the content is whole
pub record ListsAll (log : LogValue) (content : List ℕ) : Type 0 where
  pub listed : IsListed log content
  pub size : log.size ≡ size_of (records content)
  pub end : IsAtEnd log content

-- no frame is left, and the log is as it was but for the number of calls, and whether the area is whole
pub record HasReadAll (observable : Type 0) (content : List ℕ) (before after : LogValue) : Type 0 where
  pub log : after ≡ record before { calls = after.calls; whole = after.whole }
  pub lists : observable → ListsAll after content

-- a device call that failed raised the count of faults, and all other faults left it
abbrev pub HasRaised : ℕ → ℕ → LoadFault → Type 0
HasRaised before after DiskFault = HasRisen before after
HasRaised before after NotInit = after ≡ before
HasRaised before after (BadRecord area index at) = after ≡ before
HasRaised before after (SealCount records seals) = after ≡ before
HasRaised before after (BadSeal index) = after ≡ before
HasRaised before after NoMemory = after ≡ before

-- a step fails by this fault, which has its cause in the payloads of the two areas or in its device calls
pub record FailsBy (observable : Type 0) (s t : DiskState) (fault : LoadFault) : Type 0 where
  pub cause : observable → IsLoadFault (records (s.content Journal)) (records (s.content Sealed)) fault
  pub faults : HasRaised s.faults t.faults fault

-- the device calls of two logs together
abbrev pub calls_of : LogValue → LogValue → ℕ
calls_of journal seals = min (journal.calls + seals.calls) counter_limit

-- the fault of a payload of the journal that isn't the bytes of a value
abbrev pub fault_of : ℕ → CodecFault → LoadFault
fault_of index (BadField at) = BadRecord Journal index at
fault_of index CodecNoMemory = NoMemory

-- the table and the window are those of a lawful history of a feed with this head
pub record HasReplayed (head : HeadValue) (members : Table) (window : WindowValue) : Type 0 where
  pub is_head : IsHead head
  pub lawful : IsLawful head window.history
  pub of_feed : IsOfFeed window head
  pub table : IsTableOf members head.created window.history

-- the log has the frame of the head and one for each operation, and each live member has a place
pub record LogsHistory (log : LogValue) (history : List Op) (places : List Extent) : Type 0 where
  pub rules : IsLog log
  pub count : length log.extents ≡ length history + 1
  pub long : least_frame * length history < log.size
  pub placed : ArePlaces places history log.extents

-- the payload was taken as the next operation
pub record IsTaken (payload : List ℕ) (before after : List Op) : Type 0 where
  pub operation : Op
  pub history : after ≡ before ++ operation ∷ []
  pub rules : IsOperation operation
  pub bytes : payload ≡ text_of operations operation

-- there is one more operation, and its frame was read
pub record HasGrown (before after : List Op) (log log' : LogValue) : Type 0 where
  pub operation : Op
  pub history : after ≡ before ++ operation ∷ []
  pub longer : log.size < log'.size

-- device calls through the reader and the log of the seals worked; that log is as it was but for the number of its calls
pub record WorkedBoth (s t : DiskState) (reader reader' : ReadingValue) (seals seals' : LogValue) : Type 0 where
  pub seals_log : seals' ≡ record seals { calls = seals'.calls }
  pub calls : MakesSome s t (calls_of reader.log seals) (calls_of reader'.log seals')
  pub faults : t.faults ≡ s.faults

-- the payload of this seal, counted from 1, is the text of its archive exactly if `same`
pub record IsSameSeal (head : HeadValue) (history : List Op) (payloads : List (List ℕ)) (number : ℕ) (same : Bool)
    : Type 0 where
  pub payload : List ℕ
  pub there : slice_get payloads (number - 1) ≡ Some payload
  pub exact : IsTrue same ↔ payload ≡ seal_of head history number

-- the seals of the full windows were compared with their archives, up to the first wrong one
abbrev pub AreCompared : HeadValue → List Op → List (List ℕ) → Option ℕ → Type 0
AreCompared head history payloads None = AreSeals head history (take (windows_of head history).full payloads)
AreCompared head history payloads (Some number) =
    (number ≤ (windows_of head history).full) × IsFirstWrong head history payloads number

-- the number of a seal that is listed, counted from 1
abbrev pub IsSealOf : List Extent → ℕ → Type 0
IsSealOf extents number = (1 ≤ number) × (number ≤ length extents)

-- A history can't have as many seals as were found, or the first wrong one is this. The number is looked at first.
abbrev pub IsSealFault : HeadValue → List Op → Option ℕ → ℕ → LoadFault → Type 0
IsSealFault head history wrong found NotInit = ⊥
IsSealFault head history wrong found (BadRecord area index at) = ⊥
IsSealFault head history wrong found (SealCount records seals) =
    (records ≡ length history) × (seals ≡ found) × ¬ IsSealCount head history seals
IsSealFault head history wrong found (BadSeal index) = (wrong ≡ Some index) × IsSealCount head history found
IsSealFault head history wrong found DiskFault = ⊥
IsSealFault head history wrong found NoMemory = ⊥

-- a failed call or out of memory, which have no cause in the payloads
abbrev pub IsNoCause : LoadFault → Type 0
IsNoCause NotInit = ⊥
IsNoCause (BadRecord area index at) = ⊥
IsNoCause (SealCount records seals) = ⊥
IsNoCause (BadSeal index) = ⊥
IsNoCause DiskFault = Unit {0}
IsNoCause NoMemory = Unit {0}
