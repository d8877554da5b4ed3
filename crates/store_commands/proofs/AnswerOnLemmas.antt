-- The answer of a command on a store that was loaded, and on a disk without a store.
use Rattle.std.proofs.Common.{◌≡◌, ◌⊎◌, inl, inr, ℕ, ◌≤◌, ◌&&◌, true, false, nat_le, List, Result, Err, refl, sym, ◌∙◌, ap, subst, rules, tests}
use Rattle.std.specs.Prelude.{Option, Some, None}
use Rattle.atom_values.specs.Counts.{CountsFault}
use Rattle.std.proofs.lemmas.Bool.{cases_lt}
use Rattle.atom_writer.specs.Pieces.{text}
use Rattle.feed_disk.specs.declared.area.Area.{Area}
use Rattle.feed_disk.specs.declared.area.Area.TheVariants.{Journal, Sealed}
use Rattle.feed_journal.specs.Records.{records}
use Rattle.feed_recovery.specs.Documents.{IsArchiveFault, IsLiveDocument, IsLiveSince, IsMemberFault, IsSealed, sealed_count}
use Rattle.feed_recovery.specs.Faults.{IsLoadFault}
use Rattle.feed_recovery.specs.Opening.{Opens, OpensInOneWay, seal_of}
use Rattle.feed_recovery.specs.Store.{StoreValue}
use Rattle.feed_recovery.specs.declared.fault.ArchiveFault.{ArchiveFault}
use Rattle.feed_recovery.specs.declared.fault.ArchiveFault.TheVariants as archive
use Rattle.feed_recovery.specs.declared.fault.LoadFault.{LoadFault}
use Rattle.feed_recovery.specs.declared.fault.LoadFault.TheVariants as load
use Rattle.feed_recovery.specs.declared.fault.MemberFault.{MemberFault}
use Rattle.feed_recovery.specs.declared.fault.MemberFault.TheVariants as member
use Rattle.feed_recovery.specs.Stored.{OpensTo, Stored, stored_of}
use Rattle.command_ends.specs.declared.fault.Fault.{Fault}
use Rattle.command_ends.specs.declared.fault.Fault.TheVariants.{Disk, Input, Refused}
use Rattle.command_ends.specs.declared.fault.Refusal.TheVariants.{NotSealed}
use Rattle.command_ends.specs.declared.status.Status.TheVariants.{Done}
use Rattle.command_ends.specs.Answer.{Answer}
use Rattle.store_commands.specs.Applied.{Applied}
use Rattle.store_commands.specs.Apply.{answer_by}
use Rattle.store_commands.specs.Crash.{ComesAfterLoad}
use Rattle.command_ends.specs.Fault.{fault_answer, IsRefusal}
use Rattle.command_ends.specs.StoreFaults.{archive_fault, load_fault, member_fault}
use Rattle.store_commands.specs.Stored.{IsAnswerOn, applied_store, apply_answer, archive_answer, member_answer}
use Rattle.store_commands.proofs.CountLemmas.{counts-as}
use Rattle.member_rules.specs.Documents.{subscription}
use Rattle.member_rules.specs.Head.{HeadValue}
use Rattle.member_rules.specs.declared.operation.Op.{Op}

-- a content opens to one store
pub one-store : (content : Area → List ℕ) (one other : Stored) → OpensInOneWay → OpensTo content one
    → OpensTo content other → one ≡ other
one-store content one other law p q =
    let same = law (content Journal) (content Sealed) one.head other.head one.history other.history
    one.seals other.seals
    p q in
    rw (same.0, same.1, same.2) refl

-- the answer on the store that was loaded
pub answer-on : (content : Area → List ℕ) (on : Stored → Answer) (given : Answer) (opened : Stored) → OpensInOneWay
    → OpensTo content opened → given ≡ on opened → IsAnswerOn content on given
answer-on content on given opened law opens is = record {
  loaded = inl (opened, opens);
  exact = λ stored other. is ∙ ap on (one-store content opened stored law opens other);
}

pub not-refusal : (fault : LoadFault) → (fault ≡ load.DiskFault) ⊎ (fault ≡ load.NoMemory) →
    IsRefusal (load_fault fault)
    → ⊥
not-refusal fault (inl e) refusal = rw e at refusal
not-refusal fault (inr e) refusal = rw e at refusal

-- the answer where no store was loaded
pub answer-bad : (content : Area → List ℕ) (on : Stored → Answer) (fault : LoadFault)
    → IsLoadFault (records (content Journal)) (records (content Sealed)) fault
    → ((head : HeadValue) (history : List Op) (seals : ℕ) → Opens (content Journal) (content Sealed) head history seals
    → (fault ≡ load.DiskFault) ⊎ (fault ≡ load.NoMemory))
    → IsRefusal (load_fault fault) → IsAnswerOn content on (fault_answer (load_fault fault))
answer-bad content on fault is only refusal = record {
  loaded = inr record { fault = fault; is = is; refuses = refusal; answer = refl };
  exact = λ stored opens.
      absurd (not-refusal fault (only stored.head stored.history stored.seals opens) refusal);
}

-- the fault of an archive is the disk's only if the disk failed, and never the input's
archive-disk : (fault : ArchiveFault) → archive_fault fault ≡ Disk → fault ≡ archive.DiskFault
archive-disk (archive.NotSealed number sealed) e = cc
archive-disk archive.DiskFault e = refl
archive-disk (archive.Changed index) e = cc
archive-disk archive.NoMemory e = cc

pub archive-counts : {T U : Type 0} (before loaded after : ℕ) (fault : ArchiveFault) → loaded ≡ before
    → CountsFault loaded after (◌≡◌ {A = Result U ArchiveFault} (Err fault) (Err archive.DiskFault))
    → CountsFault before after (◌≡◌ {A = Result T Fault} (Err (archive_fault fault)) (Err Disk))
archive-counts {T = T} before loaded after fault same counts =
    subst (λ (n : ℕ). CountsFault n after (◌≡◌ {A = Result T Fault} (Err (archive_fault fault)) (Err Disk))) same
    (counts-as
    (λ e. let is : fault ≡ archive.DiskFault = cc in ap (λ (f : ArchiveFault). Err (archive_fault f)) is)
    (λ e. let is : archive_fault fault ≡ Disk = cc in ap (λ (f : ArchiveFault). Err f) (archive-disk fault is)) counts)

pub archive-input : (fault : ArchiveFault) → archive_fault fault ≡ Input → ⊥
archive-input (archive.NotSealed number sealed) e = cc
archive-input archive.DiskFault e = cc
archive-input (archive.Changed index) e = cc
archive-input archive.NoMemory e = cc

-- an archive that is sealed
pub archive-sealed : (store : StoreValue) (number : ℕ) (written : List ℕ) → IsSealed store number
    → written ≡ seal_of store.head store.history number
    → record { status = Done; printed = written } ≡ archive_answer number (stored_of store)
archive-sealed store number written sealed is =
    let from : nat_le 1 number ≡ true = let h = sealed.0 in search (rules, tests) in
    let to : nat_le number (sealed_count store) ≡ true = let h = sealed.1 in search (rules, tests) in
    rw (from, to, is) refl

-- an archive that isn't
unsealed : (number sealed : ℕ) → ((1 ≤ number) × (number ≤ sealed) → ⊥) →
    (nat_le 1 number && nat_le number sealed) ≡ false
unsealed number sealed none = elim (cases_lt number 1) [
  | inl low ↦ let from : nat_le 1 number ≡ false = search (rules, tests) in rw from refl
  | inr some ↦ elim (cases_lt sealed number) [
    | inl past ↦
        let from : nat_le 1 number ≡ true = search (rules, tests) in
        let to : nat_le number sealed ≡ false = search (rules, tests) in
        rw (from, to) refl
    | inr within ↦ absurd (none (some, within))
  ]
]

pub archive-unsealed : (store : StoreValue) (number named sealed : ℕ) → (IsSealed store number → ⊥)
    → named ≡ number → sealed ≡ sealed_count store
    → fault_answer (Refused (NotSealed named sealed)) ≡ archive_answer number (stored_of store)
archive-unsealed store number named sealed none is_number is_sealed =
    let e = unsealed number (sealed_count store) none in rw (e, is_number, is_sealed) refl

-- why an archive isn't returned
pub archive-refused : (store : StoreValue) (number : ℕ) (fault : ArchiveFault) → IsArchiveFault store number fault
    → ((index : ℕ) → fault ≡ archive.Changed index → ⊥) → IsRefusal (archive_fault fault)
    → fault_answer (archive_fault fault) ≡ archive_answer number (stored_of store)
archive-refused store number (archive.NotSealed named sealed) is never refusal =
    archive-unsealed store number named sealed is.0 is.1 is.2
archive-refused store number archive.DiskFault is never refusal = absurd refusal
archive-refused store number (archive.Changed index) is never refusal = absurd (never index refl)
archive-refused store number archive.NoMemory is never refusal = absurd refusal

-- the document of a live member
pub member-live : (store : StoreValue) (number version : ℕ) (written : List ℕ)
    → IsLiveSince store.history number version → IsLiveDocument store number written
    → record { status = Done; printed = written } ≡ member_answer number (stored_of store)
member-live store number version written live document = rw (live.state, document.live, document.text) refl

-- the fault of a member's document is the disk's only if the disk failed
member-disk : (fault : MemberFault) → member_fault fault ≡ Disk → fault ≡ member.DiskFault
member-disk (member.NotFound number) e = cc
member-disk (member.Deleted number when) e = cc
member-disk member.DiskFault e = refl
member-disk (member.Changed index) e = cc
member-disk member.NoMemory e = cc

pub member-counts : {T U : Type 0} (before loaded after : ℕ) (fault : MemberFault) → loaded ≡ before
    → CountsFault loaded after (◌≡◌ {A = Result U MemberFault} (Err fault) (Err member.DiskFault))
    → CountsFault before after (◌≡◌ {A = Result T Fault} (Err (member_fault fault)) (Err Disk))
member-counts {T = T} before loaded after fault same counts =
    subst (λ (n : ℕ). CountsFault n after (◌≡◌ {A = Result T Fault} (Err (member_fault fault)) (Err Disk))) same
    (counts-as
    (λ e. let is : fault ≡ member.DiskFault = cc in ap (λ (f : MemberFault). Err (member_fault f)) is)
    (λ e. let is : member_fault fault ≡ Disk = cc in ap (λ (f : MemberFault). Err f) (member-disk fault is)) counts)

-- why a member's document isn't returned
pub member-refused : (store : StoreValue) (number : ℕ) (fault : MemberFault) → IsMemberFault store number fault
    → ((index : ℕ) → fault ≡ member.Changed index → ⊥) → IsRefusal (member_fault fault)
    → fault_answer (member_fault fault) ≡ member_answer number (stored_of store)
member-refused store number (member.NotFound named) is never refusal = rw (is.1, is.0) refl
member-refused store number (member.Deleted named when) is never refusal = rw (is.1, is.0) refl
member-refused store number member.DiskFault is never refusal = absurd refusal
member-refused store number (member.Changed index) is never refusal = absurd (never index refl)
member-refused store number member.NoMemory is never refusal = absurd refusal

-- a store that isn't loaded, or gives no document, is no fault of the input
pub load-no-input : (fault : LoadFault) → load_fault fault ≡ Input → ⊥
load-no-input load.NotInit e = cc
load-no-input (load.BadRecord area index at) e = cc
load-no-input (load.SealCount records seals) e = cc
load-no-input (load.BadSeal index) e = cc
load-no-input load.DiskFault e = cc
load-no-input load.NoMemory e = cc

-- a store that isn't loaded ends no command after its load
pub load-unfinished : (fault : LoadFault) → ComesAfterLoad (load_fault fault) → ⊥
load-unfinished load.NotInit h = absurd h
load-unfinished (load.BadRecord area index at) h = absurd h
load-unfinished (load.SealCount records seals) h = absurd h
load-unfinished (load.BadSeal index) h = absurd h
load-unfinished load.DiskFault h = absurd h
load-unfinished load.NoMemory h = absurd h

module _ (moments : ℕ → ℕ) (input : List ℕ) (opened made : Stored) where
  -- the lines made the store
  pub apply-made : applied_store moments opened input ≡ record { feed = made; fault = None }
      → record { status = Done; printed = text (subscription made.head made.history) }
      ≡ apply_answer moments input opened
  unfolding apply_answer
  apply-made e = ap (λ (a : Applied Stored). answer_by a.feed.head a.feed.history a.fault) (sym e)

  -- a line was refused
  pub apply-refused : (fault : Fault) → applied_store moments opened input ≡ record { feed = made; fault = Some fault }
      → fault_answer fault ≡ apply_answer moments input opened
  unfolding apply_answer
  apply-refused fault e = ap (λ (a : Applied Stored). answer_by a.feed.head a.feed.history a.fault) (sym e)

  -- the store that the content then opens to
  pub opens-applied : (content after : Area → List ℕ) (fault : Option Fault) → OpensInOneWay → OpensTo content opened
      → applied_store moments opened input ≡ record { feed = made; fault = fault } → OpensTo after made
      → (stored : Stored) → OpensTo content stored → OpensTo after (applied_store moments stored input).feed
  opens-applied content after fault law opens e there stored other =
      subst (λ (s : Stored). OpensTo after (applied_store moments s input).feed)
      (one-store content opened stored law opens other)
      (subst (λ (s : Stored). OpensTo after s) (ap (λ (a : Applied Stored). a.feed) (sym e)) there)
