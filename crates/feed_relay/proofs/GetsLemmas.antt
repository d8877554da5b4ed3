-- How a call leaves a fetch of a relay's documents.
use Rattle.std.proofs.Common.{◌≡◌, ◌≢◌, inl, inr, ◌≤◌, false, ℕ, List, refl, ap, sym, subst, ◌∙◌}
use Rattle.std.specs.Prelude.{Result, Ok, Err}
use Rattle.atom_values.specs.Counts.{HasRisen, counted}
use Rattle.doc_source.specs.declared.fetch.GetFault.{GetFault}
use Rattle.doc_source.specs.declared.fetch.GetFault.TheVariants.{Failed, NoMemory}
use Rattle.feed_disk.specs.Disk.{DiskState}
use Rattle.feed_disk.specs.Moments.{LeavesAlone}
use Rattle.feed_disk.specs.declared.area.Area.{Area}
use Rattle.feed_journal.specs.declared.fault.LogFault.{LogFault}
use Rattle.feed_journal.specs.declared.fault.LogFault.TheVariants.{Changed, DiskFault, NoMemory as LogNoMemory}
use Rattle.feed_relay.specs.Fetch.{Gets, RelayFetchValue, Worked}
use Rattle.mirror_walk.specs.Mirror.{MirrorValue, is_spent}
use Rattle.mirror_walk.specs.Rereading.{IsSpentBy, KeepsAllBut}

-- results that no failed device call gave

pub ok-works : {T E : Type 0} (value : T) (fault : E) → ◌≢◌ {A = Result T E} (Ok value) (Err fault)
ok-works value fault e = cc

pub changed-works : {T : Type 0} (fault : LogFault) (index : ℕ) → fault ≡ Changed index
    → ◌≢◌ {A = Result T LogFault} (Err fault) (Err DiskFault)
changed-works fault index is e = cc

pub no_memory-works : {T : Type 0} (fault : LogFault) → fault ≡ LogNoMemory
    → ◌≢◌ {A = Result T LogFault} (Err fault) (Err DiskFault)
no_memory-works fault is e = cc

pub no_memory-answers : {T : Type 0} → ◌≢◌ {A = Result T GetFault} (Err NoMemory) (Err Failed)
no_memory-answers e = cc

-- a read of the mirror that no device call failed
pub record Reads {D : Type 0} (s t : DiskState) (before after : RelayFetchValue D) : Type 0 where
  pub base : after.base ≡ before.base
  pub kept : after.mirror.kept ≡ before.mirror.kept
  pub areas : (a : Area) → LeavesAlone s t a
  pub worked : Worked s t before after

-- a read by the fetch whose fields are these
pub reads-inside : {D : Type 0} (state : D → DiskState) (inside before : RelayFetchValue D)
    (left : MirrorValue) (disk : D) → inside ≡ before → KeepsAllBut inside.mirror left
    → ((a : Area) → LeavesAlone (state inside.disk) (state disk) a)
    → (state disk).faults ≡ (state inside.disk).faults
    → Reads (state before.disk) (state disk) before (record inside { mirror = left; disk = disk })
reads-inside {D = D} state inside before left disk view is areas faults =
    subst (λ (f : RelayFetchValue D). Reads (state f.disk) (state disk) f (record inside { mirror = left; disk = disk }))
    view record {
      base = refl;
      kept = ap (λ (m : MirrorValue). m.kept) is;
      areas = areas;
      worked = record { spent = ap is_spent is; failures = refl; faults = faults };
    }

module _ {D : Type 0} (s t : DiskState) (before after : RelayFetchValue D) (observable : Type 0) {T : Type 0}
    (result : Result T GetFault) where
  pub gets-read : Reads s t before after → result ≢ Err Failed → Gets observable s t before after result
  gets-read reads works = record {
    base = reads.base;
    kept = reads.kept;
    areas = reads.areas;
    worked = λ _. reads.worked;
    failed = λ fails. absurd (works fails);
  }

-- a device call failed
pub disk-inside : {D T : Type 0} (observable : Type 0) (state : D → DiskState) (result : Result T GetFault)
    (inside before : RelayFetchValue D) (left : MirrorValue) (disk : D)
    → inside ≡ before → is_spent inside.mirror ≡ false → IsSpentBy inside.mirror left
    → ((a : Area) → LeavesAlone (state inside.disk) (state disk) a)
    → (state inside.disk).faults ≤ (state disk).faults → HasRisen (state inside.disk).faults (state disk).faults
    → result ≡ Err Failed
    → Gets observable (state before.disk) (state disk) before (record inside { mirror = left; disk = disk }) result
disk-inside {D = D} {T = T} observable state result inside before left disk view unspent is areas later rose fails =
    subst (λ (f : RelayFetchValue D). Gets {T = T} observable (state f.disk) (state disk) f
    (record inside { mirror = left; disk = disk }) result) view record {
      base = refl;
      kept = ap (λ (m : MirrorValue). m.kept) is;
      areas = areas;
      worked = λ works. absurd (works fails);
      failed = λ _. inl record {
        unspent = unspent;
        spent = ap is_spent is;
        failures = refl;
        later = later;
        rose = rose;
      };
    }

-- a read gave less than a document
pub gets-changed : {D T : Type 0} (observable : Type 0) (state : D → DiskState) (s : DiskState)
    (before read after : RelayFetchValue D) (result : Result T GetFault) →
    Reads s (state read.disk) before read → ¬ observable
    → after ≡ record read { failures = counted read.failures } → result ≡ Err Failed
    → Gets observable s (state after.disk) before after result
gets-changed {D = D} {T = T} observable state s before read after result reads unobservable is fails =
    subst (λ (f : RelayFetchValue D). Gets {T = T} observable s (state f.disk) before f result) (sym is) record {
      base = reads.base;
      kept = reads.kept;
      areas = reads.areas;
      worked = λ works. absurd (works fails);
      failed = λ _. inr record {
        cause = inr unobservable;
        spent = reads.worked.spent;
        failures = ap counted reads.worked.failures;
        faults = reads.worked.faults;
      };
    }

-- the addresses asked have no part in it
pub gets-asked : {D T : Type 0} (observable : Type 0) (s t : DiskState) (before after other left : RelayFetchValue D)
    (result : Result T GetFault) → other.mirror ≡ before.mirror → other.base ≡ before.base
    → other.failures ≡ before.failures → left.mirror ≡ after.mirror → left.base ≡ after.base
    → left.failures ≡ after.failures → Gets observable s t before after result → Gets observable s t other left result
gets-asked observable s t before after other left result mirror base failures mirror_left base_left failures_left gets =
    record {
      base = base_left ∙ gets.base ∙ sym base;
      kept = ap (λ (m : MirrorValue). m.kept) mirror_left ∙ gets.kept ∙ sym (ap (λ (m : MirrorValue). m.kept) mirror);
      areas = gets.areas;
      worked = λ works. let done = gets.worked works in record {
        spent = ap is_spent mirror_left ∙ done.spent ∙ sym (ap is_spent mirror);
        failures = failures_left ∙ done.failures ∙ sym failures;
        faults = done.faults;
      };
      failed = λ fails. elim (gets.failed fails) [
        | inl disk ↦ inl record {
          unspent = ap is_spent mirror ∙ disk.unspent;
          spent = ap is_spent mirror_left ∙ disk.spent;
          failures = failures_left ∙ disk.failures ∙ sym failures;
          later = disk.later;
          rose = disk.rose;
        }
        | inr cause ↦ inr record {
          cause = elim cause.cause [ inl was ↦ inl (ap is_spent mirror ∙ was) | inr unobservable ↦ inr unobservable ];
          spent = ap is_spent mirror_left ∙ cause.spent ∙ sym (ap is_spent mirror);
          failures = failures_left ∙ cause.failures ∙ sym (ap counted failures);
          faults = cause.faults;
        }
      ];
    }

-- a call before which an address was put among those asked, and after which they may be others
pub gets-put : {D T : Type 0} (observable : Type 0) (state : D → DiskState) (t : DiskState)
    (inside before after : RelayFetchValue D) (put : List (List ℕ)) (result : Result T GetFault) → inside ≡ before
    → Gets observable (state inside.disk) t (record inside { asked = put }) after result
    → Gets observable (state before.disk) t before after result
gets-put {D = D} {T = T} observable state t inside before after put result view gets =
    subst (λ (f : RelayFetchValue D). Gets {T = T} observable (state f.disk) t f after result) view
    (gets-asked observable (state inside.disk) t (record inside { asked = put }) after inside after result refl refl refl
    refl refl refl gets)

pub gets-taken : {D T : Type 0} (observable : Type 0) (state : D → DiskState) (s : DiskState)
    (before inside after : RelayFetchValue D) (left : List (List ℕ)) (result : Result T GetFault) → inside ≡ after
    → Gets observable s (state after.disk) before after result
    → Gets observable s (state inside.disk) before (record inside { asked = left }) result
gets-taken {D = D} {T = T} observable state s before inside after left result view gets =
    gets-asked observable s (state inside.disk) before inside before (record inside { asked = left }) result refl
    refl refl refl refl refl
    (subst (λ (f : RelayFetchValue D). Gets {T = T} observable s (state f.disk) before f result) (sym view) gets)
