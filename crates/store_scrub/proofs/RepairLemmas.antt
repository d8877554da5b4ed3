-- A repair, from its sync of both areas to the last seal that it makes.
use Rattle.std.proofs.Common.{◌≡◌, ◌≢◌, inl, inr, ℕ, ◌-◌, max, List, length, Result, Ok, Err, sym, ◌∙◌, ap, subst}
use Rattle.std.proofs.Common.{arith}
use Rattle.std.specs.Prelude.{IfOk, OnOk}
use Rattle.std.proofs.Math.Seq.{take-length}
use Rattle.std.proofs.lemmas.Bool.{cases_lt}
use Rattle.feed_disk.specs.Disk.{DiskState, IsDisk}
use Rattle.feed_disk.specs.Moments.{AlwaysLeaves}
use Rattle.feed_disk.specs.declared.area.Area.{Area}
use Rattle.feed_disk.specs.declared.area.Area.TheVariants.{Journal, Sealed}
use Rattle.feed_disk.proofs.MomentLemmas.{always_joins, always_weaker}
use Rattle.feed_journal.specs.Laws.{BegunAreWhole}
use Rattle.feed_journal.specs.Records.{records, Begins, HasFirst}
use Rattle.feed_recovery.specs.Loading.{OnlyReads}
use Rattle.feed_recovery.specs.Opening.{AreSeals, IsJournal, IsSealCount, Opens, journal_of}
use Rattle.feed_recovery.specs.Settled.{Settled}
use Rattle.feed_recovery.specs.Stored.{seals_of}
use Rattle.feed_recovery.proofs.FaultLemmas.{journal_one}
use Rattle.member_rules.specs.Head.{HeadValue}
use Rattle.member_rules.specs.Windows.{windows_of}
use Rattle.member_rules.specs.declared.operation.Op.{Op}
use Rattle.member_rules.proofs.CutLemmas.{windows-sealed}
use Rattle.store_scrub.specs.Making.{HasNoRoom, all_seals}
use Rattle.store_scrub.specs.Rebuild.{IsReady, IsRebuildFault, Rebuilds, RebuildsSafely, StopsBy}
use Rattle.store_scrub.specs.Repair.{HasLeft, IsKeptCount, IsRepaired, IsRepairFault, IsTooLong, LeavesFirst}
use Rattle.store_scrub.specs.Repair.{LeavesUnwritten, RepairsSafely, SettlesStore, StopsFull}
use Rattle.store_scrub.specs.Survey.{HasSurvey, HasSynced, IsSurveyFault}
use Rattle.store_scrub.specs.declared.fault.RepairFault.{RepairFault}
use Rattle.store_scrub.specs.declared.fault.RepairFault.TheVariants.{NotInit, BadRecord, Full, DiskFault, NoMemory}
use Rattle.store_scrub.proofs.CloseLemmas.{synced-alone}
use Rattle.store_scrub.proofs.KeptLemmas.{first-fewer, first-least, length-seals, seals-are}
use Rattle.store_scrub.proofs.SyncLemmas.{same-then-alone}

-- nothing is written from s to t
module _ (s t : DiskState) (journal : AlwaysLeaves s t Journal (s.image_now Journal))
    (sealed : AlwaysLeaves s t Sealed (s.image_now Sealed)) where
  pub unwritten-leaves : (head : HeadValue) (history : List Op) (kept : ℕ) → HasLeft s head history kept
      → LeavesFirst s t head history kept
  unwritten-leaves head history kept left = record {
    journal = always_weaker s t Journal (s.image_now Journal) (λ i. records i ≡ journal_of head history) left.journal
        journal;
    sealed = always_weaker s t Sealed (s.image_now Sealed) (HasFirst (seals_of head history kept)) left.sealed sealed;
  }

-- the areas are synced from s to m, and read from m to t
module _ (s m t : DiskState) (journal : AlwaysLeaves s m Journal (s.image_now Journal))
    (sealed : AlwaysLeaves s m Sealed (s.image_now Sealed)) (reads : OnlyReads m t) where
  pub read-journal : AlwaysLeaves s t Journal (s.image_now Journal)
  read-journal = same-then-alone s m t Journal journal (reads.areas Journal)

  pub read-sealed : AlwaysLeaves s t Sealed (s.image_now Sealed)
  read-sealed = same-then-alone s m t Sealed sealed (reads.areas Sealed)

  module _ (synced : HasSynced s m) where
    pub journal-same : t.content Journal ≡ s.content Journal
    journal-same = (reads.areas Journal).content ∙ synced.journal_content

    pub sealed-same : t.content Sealed ≡ s.content Sealed
    sealed-same = (reads.areas Sealed).content ∙ synced.sealed_content

    pub unwritten : LeavesUnwritten s t
    unwritten = record {
      journal = read-journal;
      sealed = read-sealed;
      journal_content = journal-same;
      sealed_content = sealed-same;
    }

    pub is-ready : (kept count : ℕ) (survey : HasSurvey t kept count) → IsReady t survey.head survey.history kept
    is-ready kept count survey = record {
      journal_synced = synced-alone m t Journal synced.journal (reads.areas Journal);
      sealed_synced = synced-alone m t Sealed synced.sealed (reads.areas Sealed);
      is_journal = survey.is_journal;
      is_kept = survey.is_kept;
    }

    -- The seals are made from t to u.
    module _ (kept count : ℕ) (survey : HasSurvey t kept count) (u : DiskState) where
      abbrev head : HeadValue
      head = survey.head

      abbrev history : List Op
      history = survey.history

      ready : IsReady t head history kept
      ready = is-ready kept count survey

      -- what was read is what the areas had
      is_journal : IsJournal (records (s.content Journal)) head history
      is_journal = subst (λ (l : List ℕ). IsJournal (records l) head history) journal-same survey.is_journal

      is_kept : IsKeptCount head history (records (s.content Sealed)) kept
      is_kept = subst (λ (l : List ℕ). IsKeptCount head history (records l) kept) sealed-same survey.is_kept

      same-history : (other : HeadValue) (left : List Op) → IsJournal (records (s.content Journal)) other left
          → (head ≡ other) × (history ≡ left)
      same-history other left is =
          journal_one (records (s.content Journal)) head other history left is_journal is

      pub is-repaired : Rebuilds t u kept → (made : ℕ) → made ≡ count - kept
          → IsRepaired (records (s.content Journal)) (records (s.content Sealed)) kept made
      is-repaired rebuilds made is = record {
        head = head;
        history = history;
        is_journal = is_journal;
        is_kept = is_kept;
        is_made = is ∙ ap (λ (n : ℕ). n - kept) survey.sealed_is;
        fit = (rebuilds head history ready).fit;
      }

      too-long : (size needed capacity : ℕ) (room : HasNoRoom u head history kept size needed capacity)
          → IsTooLong (records (s.content Journal)) (records (s.content Sealed)) room.number size needed capacity
      too-long size needed capacity room = record {
        head = head;
        history = history;
        is_journal = is_journal;
        kept = kept;
        is_kept = is_kept;
        from = room.from;
        missing = room.missing;
        fit = room.fit;
        size_is = room.size_is;
        needed_is = room.needed_is;
        capacity_is = room.capacity_is;
        past = room.past;
      }

      module _ (fault : RepairFault) (stops : StopsBy t u kept fault) where
        why : IsRebuildFault u head history kept fault
        why = stops head history ready

        pub rebuild-refused : IsRepairFault (records (s.content Journal)) (records (s.content Sealed)) fault
        rebuild-refused = refused fault why
          where
            refused : (f : RepairFault) → IsRebuildFault u head history kept f
                → IsRepairFault (records (s.content Journal)) (records (s.content Sealed)) f
            refused NotInit cause = absurd cause
            refused (BadRecord area index at) cause = absurd cause
            refused (Full size needed capacity) room = (room.number, too-long size needed capacity room)
            refused DiskFault cause = tt
            refused NoMemory cause = tt

        pub rebuild-only : (fault ≢ NotInit) × ((area : Area) (index at : ℕ) → fault ≢ BadRecord area index at)
        rebuild-only = (
          λ is. subst (IsRebuildFault u head history kept) is why,
          λ area index at is. subst (IsRebuildFault u head history kept) is why,
        )

        pub rebuild-full : (size needed capacity : ℕ) → fault ≡ Full size needed capacity
            → StopsFull (records (s.content Journal)) (records (s.content Sealed)) (records (u.content Sealed)) size
            needed capacity
        unfolding too-long
        rebuild-full size needed capacity is =
            let room : HasNoRoom u head history kept size needed capacity =
            subst (IsRebuildFault u head history kept) is why in
            record { number = room.number; cause = too-long size needed capacity room; stays = room.stays }

      -- a crash leaves the first seals that were there
      module _ {observable : Type 0} (disk : IsDisk observable s) (tells : observable)
          (safely : RebuildsSafely t u kept) where
        leaves : (number : ℕ) → HasLeft s head history number → LeavesFirst s u head history number
        leaves number left =
            let before = unwritten-leaves s t read-journal read-sealed head history number left in
            let after = safely head history ready in
            let least = first-least head history (s.content Sealed) number
            (left.sealed (s.content Sealed) (disk.content tells Sealed)) kept left.archived is_kept in
            record {
              journal = always_joins s t u Journal (λ i. records i ≡ journal_of head history) before.journal
                  after.journal;
              sealed = always_joins s t u Sealed (HasFirst (seals_of head history number)) before.sealed
                  (always_weaker t u Sealed (HasFirst (seals_of head history kept))
                  (HasFirst (seals_of head history number))
                  (λ i first. first-fewer head history i kept first number least) after.sealed);
            }

        pub repairs-safely : RepairsSafely s u
        repairs-safely other others number left =
            let is = same-history other others (record {
              is_head = left.is_head;
              lawful = left.lawful;
              is = left.journal (s.content Journal) (disk.content tells Journal);
            }) in
            subst (λ (h : HeadValue). LeavesFirst s u h others number) is.0
            (subst (λ (l : List Op). LeavesFirst s u head l number) is.1
            (leaves number (subst (λ (l : List Op). HasLeft s head l number) (sym is.1)
            (subst (λ (h : HeadValue). HasLeft s h others number) (sym is.0) left))))

      -- and at the end all of them
      module _ (law : BegunAreWhole) (rebuilds : Rebuilds t u kept) where
        abbrev most : ℕ
        most = max kept (windows_of head history).sealed

        is-count : IsSealCount head history most
        is-count =
            let within = windows-sealed head history is_journal.is_head in
            elim (cases_lt (windows_of head history).sealed kept) [
              | inl more ↦ inr (omega (arith, more, is_kept.archived, within.all_but_one))
              | inr few ↦ inl (omega (arith, few))
            ]

        settled : Settled u head history (length history)
        settled journal sealed may may' =
            let rebuilt = rebuilds head history ready in
            let first = rebuilt.journal_rests journal may in
            let second = law (u.content Sealed) sealed
            (subst (λ (l : List (List ℕ)). Begins l sealed) (sym rebuilt.seals) (rebuilt.sealed_rests sealed may')) in
            let all : records sealed ≡ all_seals head history kept = second.1 ∙ rebuilt.seals in
            record {
              journal_whole = first.0;
              sealed_whole = second.0;
              version = length history;
              at_least = omega arith;
              at_most = omega arith;
              seals = most;
              opens = subst (λ (l : List Op). Opens journal sealed head l most) (sym (take-length history)) (record {
                is_journal = record {
                  is_head = is_journal.is_head;
                  lawful = is_journal.lawful;
                  is = first.1;
                };
                are_seals = subst (AreSeals head history) (sym all) (seals-are head history most);
                number = ap length all ∙ length-seals head history most;
                count = is-count;
              });
            }

        pub settles-store : SettlesStore s u
        settles-store other left is =
            let same = same-history other left is in
            subst (λ (h : HeadValue). Settled u h left (length left)) same.0
            (subst (λ (l : List Op). Settled u head l (length l)) same.1 settled)

-- a fault of the first pass
pub survey-refused : (journal sealed : List (List ℕ)) (fault : RepairFault) → IsSurveyFault journal fault
    → IsRepairFault journal sealed fault
survey-refused journal sealed NotInit cause = cause
survey-refused journal sealed (BadRecord area index at) cause = cause
survey-refused journal sealed (Full size needed capacity) cause = absurd cause
survey-refused journal sealed DiskFault cause = tt
survey-refused journal sealed NoMemory cause = tt

pub both-ok : {T E : Type 0} (result : Result T E) (P : T → Type 0) (Q : Type 0) (R : T → Type 0)
    → ((x : T) → P x → Q → R x) → IfOk result P → OnOk result Q → IfOk result R
both-ok (Ok x) P Q R to first second = to x first second
both-ok (Err e) P Q R to first second = tt

pub err-only : {T : Type 0} (fault : RepairFault)
    → (fault ≢ NotInit) × ((area : Area) (index at : ℕ) → fault ≢ BadRecord area index at)
    → (◌≡◌ {A = Result T RepairFault} (Err fault) (Err NotInit) → ⊥)
    × ((area : Area) (index at : ℕ)
    → ◌≡◌ {A = Result T RepairFault} (Err fault) (Err (BadRecord area index at)) → ⊥)
err-only {T} fault only =
    (λ is. only.0 (one-fault fault NotInit is), λ area index at is. only.1 area index at (one-fault fault _ is))
  where
    one-fault : (a b : RepairFault) → ◌≡◌ {A = Result T RepairFault} (Err a) (Err b) → a ≡ b
    one-fault a b is = cc
