-- The first pass of a repair.
use Rattle.std.proofs.Common.{◌≡◌, ◌≤◌, ℕ, false, List, length, Option, Some, None, Result, Err, refl, sym}
use Rattle.std.proofs.Common.{subst}
use Rattle.std.specs.Prelude.{IfSome}
use Rattle.atom_values.specs.Counts.{CountsFault}
use Rattle.feed_disk.specs.Disk.{DiskState}
use Rattle.feed_disk.specs.declared.area.Area.{Area}
use Rattle.feed_disk.specs.declared.area.Area.TheVariants.{Journal, Sealed}
use Rattle.feed_journal.specs.Log.{IsLog, LogValue}
use Rattle.feed_journal.specs.Records.{records}
use Rattle.feed_journal.specs.declared.extent.Extent.{Extent}
use Rattle.feed_journal.specs.declared.fault.LogFault.{LogFault}
use Rattle.feed_journal.specs.declared.fault.LogFault.TheVariants.{DiskFault as LogDiskFault, NoMemory as LogNoMemory}
use Rattle.feed_journal.specs.declared.fault.LogFault.TheVariants.{Changed}
use Rattle.feed_recovery.specs.Faults.{IsLoadFault}
use Rattle.feed_recovery.specs.Loading.{AreCompared, HasRaised, IsSealOf, ListsAll, OnlyReads}
use Rattle.feed_recovery.specs.Opening.{IsJournal}
use Rattle.feed_recovery.specs.Refused.{IsJournalRefusal}
use Rattle.feed_recovery.specs.Replayed.{ReplayedValue}
use Rattle.feed_recovery.specs.declared.fault.LoadFault.{LoadFault}
use Rattle.feed_recovery.specs.declared.fault.LoadFault.TheVariants.{NotInit as LoadNotInit, BadRecord as LoadBadRecord}
use Rattle.feed_recovery.specs.declared.fault.LoadFault.TheVariants.{SealCount as LoadSealCount, BadSeal as LoadBadSeal}
use Rattle.feed_recovery.specs.declared.fault.LoadFault.TheVariants.{DiskFault as LoadDiskFault, NoMemory as LoadNoMemory}
use Rattle.feed_recovery.proofs.ReadingLemmas.{readable_later}
use Rattle.member_rules.specs.Windows.{windows_of}
use Rattle.store_scrub.specs.Repair.{IsKeptCount}
use Rattle.store_scrub.specs.Survey.{CountsKept, HasSurvey, IsFoundSeal, IsSurveyed, IsSurveyFault, KnowsFrames}
use Rattle.store_scrub.specs.Survey.{repair_fault_of}
use Rattle.store_scrub.specs.declared.fault.RepairFault.{RepairFault}
use Rattle.store_scrub.specs.declared.fault.RepairFault.TheVariants.{DiskFault, NoMemory}
use Rattle.store_scrub.proofs.ScrubLemmas.{counts-same}

-- a look at a log fails only if a call fails or memory runs out
pub survey-look : (journal : List (List ℕ)) (log : LogFault) (fault : RepairFault)
    → ((index : ℕ) → log ≡ Changed index → ⊥)
    → (log ≡ LogDiskFault → fault ≡ DiskFault) × (log ≡ LogNoMemory → fault ≡ NoMemory) → IsSurveyFault journal fault
survey-look journal LogDiskFault fault never gives = subst (IsSurveyFault journal) (sym (gives.0 refl)) tt
survey-look journal (Changed index) fault never gives = absurd (never index refl)
survey-look journal LogNoMemory fault never gives = subst (IsSurveyFault journal) (sym (gives.1 refl)) tt

-- what a replay refuses
pub survey-replay : (journal sealed : List (List ℕ)) (fault : LoadFault) → IsLoadFault journal sealed fault
    → IsJournalRefusal fault → IsSurveyFault journal (repair_fault_of fault)
survey-replay journal sealed LoadNotInit cause refused = cause
survey-replay journal sealed (LoadBadRecord area index at) cause refused = cause
survey-replay journal sealed (LoadSealCount operations found) cause refused = tt
survey-replay journal sealed (LoadBadSeal index) cause refused = tt
survey-replay journal sealed LoadDiskFault cause refused = tt
survey-replay journal sealed LoadNoMemory cause refused = tt

-- a call failed exactly if the fault says so
pub repair-raised : {T : Type 0} (before after : ℕ) (fault : LoadFault) → before ≤ after → HasRaised before after fault
    → CountsFault before after (◌≡◌ {A = Result T RepairFault} (Err (repair_fault_of fault)) (Err DiskFault))
repair-raised before after LoadNotInit later raised = counts-same before after _ raised (λ is. cc)
repair-raised before after (LoadBadRecord area index at) later raised =
    counts-same before after _ raised (λ is. cc)
repair-raised before after (LoadSealCount operations found) later raised =
    counts-same before after _ raised (λ is. cc)
repair-raised before after (LoadBadSeal index) later raised = counts-same before after _ raised (λ is. cc)
repair-raised before after LoadDiskFault later raised =
    record { later = later; failed = λ _. raised; unfailed = λ other. absurd (other refl) }
repair-raised before after LoadNoMemory later raised = counts-same before after _ raised (λ is. cc)

-- the reader at its end, as the frames that were read
pub surveyed-journal : (observable : Type 0) (t : DiskState) (log read : LogValue) → log ≡ read → read.area ≡ Journal
    → read.spent ≡ false → IsLog read → (observable → ListsAll read (t.content Journal))
    → IsSurveyed observable t Journal log
surveyed-journal observable t log read is area unspent rules lists =
    subst (IsSurveyed observable t Journal) (sym is) (record {
      readable = record {
        area = area;
        unspent = unspent;
        rules = rules;
        list = λ tells. (lists tells).listed.list;
      };
      frames = λ tells. record { starts = (lists tells).end.starts; whole = (lists tells).end.whole };
    })

-- the log of the seals after the journal was read
pub surveyed-later : (observable : Type 0) (s t : DiskState) (a : Area) (before after : LogValue)
    → IsSurveyed observable s a before → OnlyReads s t → after ≡ record before { calls = after.calls }
    → IsSurveyed observable t a after
surveyed-later observable s t a before after surveyed reads is = record {
  readable = readable_later observable s t a before after surveyed.readable reads is;
  frames = λ tells.
      subst (λ (l : LogValue). KnowsFrames l (t.content a)) (sym is)
      (subst (λ (l : List ℕ). KnowsFrames (record before { calls = after.calls }) l) (sym (reads.areas a).content)
      (record { starts = (surveyed.frames tells).starts; whole = (surveyed.frames tells).whole }));
}

-- a wrong seal is one of those that were found
pub found-seal : (wrong : Option ℕ) (extents : List Extent) (found : ℕ) → found ≡ length extents
    → IfSome wrong (IsSealOf extents) → IfSome wrong (IsFoundSeal found)
found-seal None extents found is listed = tt
found-seal (Some index) extents found is listed = (listed.0, subst (λ (n : ℕ). index ≤ n) (sym is) listed.1)

-- the journal was read from s to t
pub has-survey : (s t : DiskState) (replayed : ReplayedValue) (kept sealed found : ℕ) → OnlyReads s t
    → IsJournal (records (s.content Journal)) replayed.head replayed.history
    → AreCompared replayed.head replayed.history (records (s.content Sealed)) replayed.wrong
    → length (records (s.content Sealed)) ≡ found
    → CountsKept replayed.head replayed.history replayed.wrong found kept
    → sealed ≡ (windows_of replayed.head replayed.history).sealed → HasSurvey t kept sealed
has-survey s t replayed kept sealed found reads is compared count counts sealed_is = record {
  head = replayed.head;
  history = replayed.history;
  is_journal = subst (λ (l : List ℕ). IsJournal (records l) replayed.head replayed.history)
      (sym (reads.areas Journal).content) is;
  is_kept = subst (λ (l : List ℕ). IsKeptCount replayed.head replayed.history (records l) kept)
      (sym (reads.areas Sealed).content) (counts (records (s.content Sealed)) count compared);
  sealed_is = sealed_is;
}
