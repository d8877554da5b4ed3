-- The archives and members that a store returns.
use Rattle.std.specs.Prelude.{◌≡◌, ◌⊎◌, ℕ, ◌-◌, ◌≤◌, List, ℤ, Some, length, slice_get}
use Rattle.atom_values.specs.Entry.{EntryValue, IsEntry}
use Rattle.atom_writer.specs.Members.{member_text}
use Rattle.atom_writer.specs.Pieced.{text_of}
use Rattle.atom_writer.specs.declared.doc.FeedName.{FeedName}
use Rattle.feed_disk.specs.Raised.{raised}
use Rattle.feed_journal.specs.Log.{payload_lengths}
use Rattle.feed_recovery.specs.Store.{StoreValue}
use Rattle.feed_recovery.specs.declared.fault.ArchiveFault.{ArchiveFault}
use Rattle.feed_recovery.specs.declared.fault.ArchiveFault.TheVariants as fault
use Rattle.feed_recovery.specs.declared.fault.ArchiveFault.TheVariants.{NotSealed}
use Rattle.feed_recovery.specs.declared.fault.MemberFault.{MemberFault}
use Rattle.feed_recovery.specs.declared.fault.MemberFault.TheVariants.{NotFound, Deleted, DiskFault, Changed, NoMemory}
use Rattle.member_rules.specs.Coding.{operations}
use Rattle.member_rules.specs.Fold.{fold_of, state_of}
use Rattle.member_rules.specs.Windows.{windows_of}
use Rattle.member_rules.specs.declared.operation.Op.{Op}
use Rattle.member_rules.specs.declared.operation.Op.TheVariants.{Add, Change}
use Rattle.member_rules.specs.declared.state.State.TheVariants.{Never, Live, Gone}

-- how many archives are sealed
abbrev pub sealed_count : StoreValue → ℕ
sealed_count store = (windows_of store.head store.history).sealed

-- the archive of this number is sealed
abbrev pub IsSealed : StoreValue → ℕ → Type 0
IsSealed store number = (1 ≤ number) × (number ≤ sealed_count store)

-- why an archive isn't returned; a read is made only of a sealed one
abbrev pub IsArchiveFault : StoreValue → ℕ → ArchiveFault → Type 0
IsArchiveFault store number (NotSealed named sealed) =
    (¬ IsSealed store number) × (named ≡ number) × (sealed ≡ sealed_count store)
IsArchiveFault store number fault.DiskFault = IsSealed store number
IsArchiveFault store number (fault.Changed index) = IsSealed store number × (index ≡ number - 1)
IsArchiveFault store number fault.NoMemory = IsSealed store number

-- the member is live, with the entry that this operation set, counted from 1
pub record IsLiveSince (history : List Op) (number version : ℕ) : Type 0 where
  pub updated : ℤ
  pub state : state_of history number ≡ Live updated version

-- the entry is of this member, and has these timestamps
pub record IsVersion (entry : EntryValue) (number : ℕ) (edited updated : ℤ) : Type 0 where
  pub named : entry.number ≡ number
  pub edited_is : entry.edited ≡ edited
  pub updated_is : entry.updated ≡ updated

-- the bytes are the member document of the entry that the member has
pub record IsLiveDocument (store : StoreValue) (number : ℕ) (written : List ℕ) : Type 0 where
  pub entry : EntryValue
  pub live : (fold_of store.history).live number ≡ Some entry
  pub text : written ≡ member_text store.head.name entry

-- Why a member's document isn't returned. A read is made only of a live member, of the operation that set its entry.
abbrev pub IsMemberFault : StoreValue → ℕ → MemberFault → Type 0
IsMemberFault store number (NotFound named) = (named ≡ number) × (state_of store.history number ≡ Never)
IsMemberFault store number (Deleted named when) = (named ≡ number) × (state_of store.history number ≡ Gone when)
IsMemberFault store number DiskFault = (version : ℕ) × IsLiveSince store.history number version
IsMemberFault store number (Changed index) = IsLiveSince store.history number index
IsMemberFault store number NoMemory = (version : ℕ) × IsLiveSince store.history number version

-- the bytes are those of an operation that sets this entry
abbrev pub Sets : List ℕ → EntryValue → Type 0
Sets payload entry = (payload ≡ text_of operations (Add entry)) ⊎ (payload ≡ text_of operations (Change entry))

-- the bytes are the member document of the entry that the operation's bytes set; it is of this member, and has these
-- timestamps
pub record IsDocumentOf (name : FeedName) (payload : List ℕ) (number : ℕ) (edited updated : ℤ)
    (written : List ℕ) : Type 0 where
  pub entry : EntryValue
  pub is_entry : IsEntry entry
  pub version : IsVersion entry number edited updated
  pub sets : Sets payload entry
  pub text : written ≡ member_text name entry

-- The bytes are the member document of an entry that a payload sets. The payload is as long as the journal has it for
-- the operation that set the member's entry. The entry is of this member, and has the `edited` and the `updated` of the
-- entry that the member has, so it isn't another version.
pub record IsMemberDocument (store : StoreValue) (number : ℕ) (written : List ℕ) : Type 0 where
  pub stored : EntryValue
  pub live : (fold_of store.history).live number ≡ Some stored
  pub since : ℕ
  pub is_since : IsLiveSince store.history number since
  pub payload : List ℕ
  pub long : slice_get (payload_lengths store.journal.extents) since ≡ Some (length payload)
  pub document : IsDocumentOf store.head.name payload number stored.edited stored.updated written

-- a read gave all bytes that the journal has for the operation that set the member's entry
pub record ReadsMember (store : StoreValue) (number before after : ℕ) : Type 0 where
  pub since : ℕ
  pub is_since : IsLiveSince store.history number since
  pub count : ℕ
  pub long : slice_get (payload_lengths store.journal.extents) since ≡ Some count
  pub given : after ≡ raised before count

-- why the entry of operation `version` isn't read
abbrev pub IsEntryFault : ℕ → MemberFault → Type 0
IsEntryFault version (NotFound number) = ⊥
IsEntryFault version (Deleted number when) = ⊥
IsEntryFault version DiskFault = Unit {0}
IsEntryFault version (Changed index) = index ≡ version
IsEntryFault version NoMemory = Unit {0}
