-- How a call leaves a fetch of a store's documents.
use Rattle.std.proofs.Common.{◌≡◌, ◌≢◌, inl, inr, ℕ, ◌<◌, ◌≤◌, true, false, Bool, ◌||◌, List, refl, ap, sym, subst, ◌∙◌, arith}
use Rattle.std.specs.Prelude.{Result, Ok, Err, IfOk, IfErr}
use Rattle.atom_values.specs.Counts.{HasRisen, counted}
use Rattle.doc_source.specs.declared.fetch.GetFault.{GetFault}
use Rattle.doc_source.specs.declared.fetch.GetFault.TheVariants.{Failed, NoMemory}
use Rattle.feed_disk.specs.Disk.{DiskState}
use Rattle.feed_disk.specs.Moments.{LeavesAlone}
use Rattle.feed_disk.specs.declared.area.Area.{Area}
use Rattle.feed_life.specs.StoreFetch.{Gets, StoreFetchValue, Worked}
use Rattle.feed_recovery.specs.Store.{StoreValue, is_spent}
use Rattle.feed_recovery.specs.declared.fault.ArchiveFault.{ArchiveFault}
use Rattle.feed_recovery.specs.declared.fault.ArchiveFault.TheVariants.{Changed, DiskFault, NotSealed}
use Rattle.feed_recovery.specs.declared.fault.ArchiveFault.TheVariants.{NoMemory as ArchiveNoMemory}

-- results that no failed device call gave

pub ok-works : {T E : Type 0} (value : T) (fault : E) → ◌≢◌ {A = Result T E} (Ok value) (Err fault)
ok-works value fault e = cc

pub not_sealed-works : {T : Type 0} (fault : ArchiveFault) (number sealed : ℕ) → fault ≡ NotSealed number sealed
    → ◌≢◌ {A = Result T ArchiveFault} (Err fault) (Err DiskFault)
not_sealed-works fault number sealed is e = cc

pub changed-works : {T : Type 0} (fault : ArchiveFault) (index : ℕ) → fault ≡ Changed index
    → ◌≢◌ {A = Result T ArchiveFault} (Err fault) (Err DiskFault)
changed-works fault index is e = cc

pub no_memory-works : {T : Type 0} (fault : ArchiveFault) → fault ≡ ArchiveNoMemory
    → ◌≢◌ {A = Result T ArchiveFault} (Err fault) (Err DiskFault)
no_memory-works fault is e = cc

pub no_memory-answers : {T : Type 0} → ◌≢◌ {A = Result T GetFault} (Err NoMemory) (Err Failed)
no_memory-answers e = cc

or_true : (b : Bool) → (b || true) ≡ true
or_true true = refl
or_true false = refl

-- a read of the store that no device call failed
pub record Reads {D : Type 0} (s t : DiskState) (before after : StoreFetchValue D) : Type 0 where
  pub head : after.store.head ≡ before.store.head
  pub history : after.store.history ≡ before.store.history
  pub areas : (a : Area) → LeavesAlone s t a
  pub worked : Worked s t before after

module _ {D : Type 0} (s t : DiskState) (before after : StoreFetchValue D) where
  -- a read changes no more of the store than its count of calls
  pub reads-by_calls :
      after.store ≡ record before.store { seals = record before.store.seals { calls = after.store.seals.calls } }
      → after.failures ≡ before.failures → ((a : Area) → LeavesAlone s t a) → t.faults ≡ s.faults
      → Reads s t before after
  reads-by_calls is failures areas faults = record {
    head = ap (λ (store : StoreValue). store.head) is;
    history = ap (λ (store : StoreValue). store.history) is;
    areas = areas;
    worked = record { spent = ap is_spent is; failures = failures; faults = faults };
  }

  module _ (observable : Type 0) {T : Type 0} (result : Result T GetFault) where
    pub gets-read : Reads s t before after → result ≢ Err Failed → Gets observable s t before after result
    gets-read reads works = record {
      head = reads.head;
      history = reads.history;
      areas = reads.areas;
      worked = λ _. reads.worked;
      failed = λ fails. absurd (works fails);
    }

    -- a device call failed
    pub gets-disk : is_spent before.store ≡ false
        → after.store ≡ record before.store {
          seals = record before.store.seals { calls = after.store.seals.calls; spent = true };
        }
        → after.failures ≡ before.failures → ((a : Area) → LeavesAlone s t a)
        → s.faults ≤ t.faults → HasRisen s.faults t.faults → result ≡ Err Failed → Gets observable s t before after result
    gets-disk unspent is failures areas later rose fails = record {
      head = ap (λ (store : StoreValue). store.head) is;
      history = ap (λ (store : StoreValue). store.history) is;
      areas = areas;
      worked = λ works. absurd (works fails);
      failed = λ _. inl record {
        unspent = unspent;
        spent = ap is_spent is ∙ or_true before.store.journal.spent;
        failures = failures;
        later = later;
        rose = rose;
      };
    }

-- a read gave other bytes than the store has
pub gets-changed : {D T : Type 0} (observable : Type 0) (state : D → DiskState) (s : DiskState)
    (before read after : StoreFetchValue D) (result : Result T GetFault) →
    Reads s (state read.disk) before read → ¬ observable
    → after ≡ record read { failures = counted read.failures } → result ≡ Err Failed
    → Gets observable s (state after.disk) before after result
gets-changed {D = D} {T = T} observable state s before read after result reads unobservable is fails =
    subst (λ (f : StoreFetchValue D). Gets {T = T} observable s (state f.disk) before f result) (sym is) record {
      head = reads.head;
      history = reads.history;
      areas = reads.areas;
      worked = λ works. absurd (works fails);
      failed = λ _. inr record {
        cause = inr unobservable;
        spent = reads.worked.spent;
        failures = ap counted reads.worked.failures;
        faults = reads.worked.faults;
      };
    }

-- a store whose calls stay
pub same-calls : (store left : StoreValue) → left ≡ store
    → left ≡ record store { seals = record store.seals { calls = left.seals.calls } }
same-calls store left is =
    is ∙ ap (λ (v : StoreValue). record store { seals = record store.seals { calls = v.seals.calls } }) (sym is)

-- a read by the fetch whose fields are these
pub reads-inside : {D : Type 0} (state : D → DiskState) (inside before : StoreFetchValue D)
    (left : StoreValue) (disk : D)
    → inside ≡ before
    → left ≡ record inside.store { seals = record inside.store.seals { calls = left.seals.calls } }
    → ((a : Area) → LeavesAlone (state inside.disk) (state disk) a)
    → (state disk).faults ≡ (state inside.disk).faults
    → Reads (state before.disk) (state disk) before (record inside { store = left; disk = disk })
reads-inside {D = D} state inside before left disk view is areas faults =
    subst (λ (f : StoreFetchValue D). Reads (state f.disk) (state disk) f (record inside { store = left; disk = disk }))
    view (reads-by_calls (state inside.disk) (state disk) inside (record inside { store = left; disk = disk }) is refl
    areas faults)

pub disk-inside : {D T : Type 0} (observable : Type 0) (state : D → DiskState) (result : Result T GetFault)
    (inside before : StoreFetchValue D) (left : StoreValue) (disk : D)
    → inside ≡ before → is_spent before.store ≡ false
    → left ≡ record inside.store { seals = record inside.store.seals { calls = left.seals.calls; spent = true } }
    → ((a : Area) → LeavesAlone (state inside.disk) (state disk) a)
    → (state inside.disk).faults ≤ (state disk).faults → HasRisen (state inside.disk).faults (state disk).faults
    → result ≡ Err Failed
    → Gets observable (state before.disk) (state disk) before (record inside { store = left; disk = disk }) result
disk-inside {D = D} observable state result inside before left disk view unspent is areas later rose fails =
    subst (λ (f : StoreFetchValue D). Gets observable (state f.disk) (state disk) f
    (record inside { store = left; disk = disk })
    result) view (gets-disk (state inside.disk) (state disk) inside (record inside { store = left; disk = disk }) observable
    result (ap (λ (f : StoreFetchValue D). is_spent f.store) view ∙ unspent) is refl areas later rose fails)

-- a document that was read, and that is longer than an answer may be or not
pub gets-limited : {D T : Type 0} (observable : Type 0) (state : D → DiskState) (s : DiskState)
    (before read after : StoreFetchValue D) (result : Result T GetFault) (limit size : ℕ)
    → Reads s (state read.disk) before read → (observable → size ≤ limit) → IfOk result (λ found. after ≡ read)
    → IfErr result (λ fault. fault ≡ Failed) → IfErr result (λ fault. limit < size)
    → IfErr result (λ fault. after ≡ record read { failures = counted read.failures })
    → Gets observable s (state after.disk) before after result
gets-limited {D = D} {T = T} observable state s before read after (Ok found) limit size reads short same fault long failures =
    subst (λ (f : StoreFetchValue D). Gets {T = T} observable s (state f.disk) before f (Ok found)) (sym same)
    (gets-read s (state read.disk) before read observable (Ok found) reads (λ e. cc))
gets-limited observable state s before read after (Err why) limit size reads short same fault long failures =
    gets-changed observable state s before read after (Err why) reads (λ tells. let within = short tells in omega
    arith) failures
    (cc)

-- the addresses asked have no part in it
pub gets-asked : {D T : Type 0} (observable : Type 0) (s t : DiskState) (before after other left : StoreFetchValue D)
    (result : Result T GetFault) → other.store ≡ before.store → other.failures ≡ before.failures
    → left.store ≡ after.store → left.failures ≡ after.failures → Gets observable s t before after result
    → Gets observable s t other left result
gets-asked observable s t before after other left result store failures store_left failures_left gets = record {
  head = ap (λ (v : StoreValue). v.head) store_left ∙ gets.head ∙ sym (ap (λ (v : StoreValue). v.head) store);
  history =
      ap (λ (v : StoreValue). v.history) store_left ∙ gets.history ∙ sym (ap (λ (v : StoreValue). v.history) store);
  areas = gets.areas;
  worked = λ works. let done = gets.worked works in record {
    spent = ap is_spent store_left ∙ done.spent ∙ sym (ap is_spent store);
    failures = failures_left ∙ done.failures ∙ sym failures;
    faults = done.faults;
  };
  failed = λ fails. elim (gets.failed fails) [
    | inl disk ↦ inl record {
      unspent = ap is_spent store ∙ disk.unspent;
      spent = ap is_spent store_left ∙ disk.spent;
      failures = failures_left ∙ disk.failures ∙ sym failures;
      later = disk.later;
      rose = disk.rose;
    }
    | inr other ↦ inr record {
      cause = elim other.cause [ inl was ↦ inl (ap is_spent store ∙ was) | inr unobservable ↦ inr unobservable ];
      spent = ap is_spent store_left ∙ other.spent ∙ sym (ap is_spent store);
      failures = failures_left ∙ other.failures ∙ sym (ap counted failures);
      faults = other.faults;
    }
  ];
}

-- a call before which an address was put among those asked, and after which they may be others
pub gets-put : {D T : Type 0} (observable : Type 0) (state : D → DiskState) (t : DiskState)
    (inside before after : StoreFetchValue D)
    (put : List (List ℕ)) (result : Result T GetFault) → inside ≡ before
    → Gets observable (state inside.disk) t (record inside { asked = put }) after result
    → Gets observable (state before.disk) t before after result
gets-put {D = D} {T = T} observable state t inside before after put result view gets =
    subst (λ (f : StoreFetchValue D). Gets {T = T} observable (state f.disk) t f after result) view
    (gets-asked observable (state inside.disk) t (record inside { asked = put }) after inside after result refl refl refl refl
    gets)

pub gets-taken : {D T : Type 0} (observable : Type 0) (state : D → DiskState) (s : DiskState)
    (before inside after : StoreFetchValue D) (left : List (List ℕ)) (result : Result T GetFault) → inside ≡ after
    → Gets observable s (state after.disk) before after result
    → Gets observable s (state inside.disk) before (record inside { asked = left }) result
gets-taken {D = D} {T = T} observable state s before inside after left result view gets =
    gets-asked observable s (state inside.disk) before inside before (record inside { asked = left }) result refl
    refl refl refl
    (subst (λ (f : StoreFetchValue D). Gets {T = T} observable s (state f.disk) before f result) (sym view) gets)
