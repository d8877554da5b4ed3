-- The journal of a history has one end of a repair, and a journal that isn't a history's has its first fault's answer.
use Rattle.std.proofs.Common.{◌≡◌, ◌≢◌, ◌⊎◌, inl, inr, ⊎_elim, ℕ, List, Result, Err, codes, refl, sym, ap, ◌∙◌}
use Rattle.command_ends.specs.Answer.{Answer}
use Rattle.command_ends.specs.Fault.{fault_answer, IsRefusal}
use Rattle.command_ends.specs.declared.fault.Fault.TheVariants.{Full as NoRoom}
use Rattle.command_ends.specs.declared.status.Status.TheVariants.{Done}
use Rattle.feed_disk.specs.declared.area.Area.{Area}
use Rattle.feed_disk.specs.declared.area.Area.TheVariants.{Journal, Sealed}
use Rattle.feed_journal.specs.Records.{records}
use Rattle.feed_recovery.specs.Opening.{IsJournal}
use Rattle.member_rules.specs.Head.{HeadValue}
use Rattle.member_rules.specs.declared.operation.Op.{Op}
use Rattle.scrub_command.specs.Answer.{IsFullAnswer, IsRepairEnd, IsRepairedAnswer, IsRepairedBy, done_answer}
use Rattle.scrub_command.specs.Answer.{repair_fault}
use Rattle.store_scrub.specs.Repair.{IsRepairFault, IsRepaired, RepairsEndInOneWay}
use Rattle.store_scrub.specs.declared.fault.RepairFault.{RepairFault}
use Rattle.store_scrub.specs.declared.fault.RepairFault.TheVariants.{NotInit, BadRecord, Full, DiskFault, NoMemory}

same_numbers : {kept made count number : ℕ} → kept ≡ count → made ≡ number
    → done_answer (codes "repaired ") kept made ≡ done_answer (codes "repaired ") count number
same_numbers kept made = λ i. done_answer (codes "repaired ") (kept i) (made i)

same_room : {size needed capacity size' needed' capacity' : ℕ} → size ≡ size' → needed ≡ needed'
    → capacity ≡ capacity'
    → fault_answer (NoRoom Sealed size needed capacity) ≡ fault_answer (NoRoom Sealed size' needed' capacity')
same_room size needed capacity = λ i. fault_answer (NoRoom Sealed (size i) (needed i) (capacity i))

module _ (law : RepairsEndInOneWay) (content : Area → List ℕ) where
  repaired_once : (one other : Answer) → IsRepairedAnswer content one → IsRepairedAnswer content other → one ≡ other
  repaired_once one other is_one is_other =
      let same = (law (records (content Journal)) (records (content Sealed))).repaired is_one.kept is_one.made
      is_other.kept is_other.made is_one.repaired is_other.repaired in
      is_one.is ∙ same_numbers same.0 same.1 ∙ sym is_other.is

  full_once : (one other : Answer) → IsFullAnswer content one → IsFullAnswer content other → one ≡ other
  full_once one other is_one is_other =
      let same = (law (records (content Journal)) (records (content Sealed))).full is_one.number is_other.number
      is_one.size is_one.needed is_one.capacity is_other.size is_other.needed is_other.capacity is_one.full
      is_other.full in
      is_one.is ∙ same_room same.0 same.1 same.2 ∙ sym is_other.is

  never_both : (one other : Answer) → IsRepairedAnswer content one → IsFullAnswer content other → ⊥
  never_both one other is_one is_other =
      (law (records (content Journal)) (records (content Sealed))).apart is_one.kept is_one.made is_other.number
      is_other.size is_other.needed is_other.capacity is_one.repaired is_other.full

  -- by the law of `store_scrub`
  pub one_end : (one other : Answer) → IsRepairEnd content one → IsRepairEnd content other → one ≡ other
  one_end one other (inl is_one) (inl is_other) = repaired_once one other is_one is_other
  one_end one other (inl is_one) (inr is_other) = absurd (never_both one other is_one is_other)
  one_end one other (inr is_one) (inl is_other) = absurd (never_both other one is_other is_one)
  one_end one other (inr is_one) (inr is_other) = full_once one other is_one is_other

  ended-given : (given : Answer) → IsRepairEnd content given → IsRepairedBy content given
  ended-given given end = record { is = inl end; due = λ other due. one_end other given due end }

  pub repaired-given : (kept made : ℕ) → IsRepaired (records (content Journal)) (records (content Sealed)) kept made
      → (written : List ℕ) → written ≡ (done_answer (codes "repaired ") kept made).printed
      → IsRepairedBy content record { status = Done; printed = written }
  repaired-given kept made repaired written same = ended-given _ (inl record {
    kept = kept;
    made = made;
    repaired = repaired;
    is = ap (λ (printed : List ℕ). record { status = Done; printed = printed }) same;
  })

-- no fault of a journal that isn't a history's
abbrev pub IsUnrefused : {A : Type 0} → Result A RepairFault → Type 0
IsUnrefused result =
    (result ≢ Err NotInit) × ((area : Area) (index at : ℕ) → result ≢ Err (BadRecord area index at))

abbrev pub UnrefusedHistory : {A : Type 0} → List (List ℕ) → Result A RepairFault → Type 0
UnrefusedHistory journal result =
    (head : HeadValue) (history : List Op) → IsJournal journal head history → IsUnrefused result

module _ (content : Area → List ℕ) where
  -- there is an end only of a history's journal
  history_of : (other : Answer) → IsRepairEnd content other
      → (head : HeadValue) × (history : List Op) × IsJournal (records (content Journal)) head history
  history_of other (inl end) = (end.repaired.head, end.repaired.history, end.repaired.is_journal)
  history_of other (inr end) = (end.full.head, end.full.history, end.full.is_journal)

  pub refused-given : {A : Type 0} → RepairsEndInOneWay → (result : Result A RepairFault) (fault : RepairFault)
      → result ≡ Err fault → IsRepairFault (records (content Journal)) (records (content Sealed)) fault
      → UnrefusedHistory (records (content Journal)) result → IsRefusal (repair_fault fault)
      → IsRepairedBy content (fault_answer (repair_fault fault))
  refused-given law result NotInit is cause only refuses = record {
    is = inr record { fault = NotInit; cause = cause; refuses = refuses; is = refl };
    due = λ other due. let h = history_of other due in absurd ((only h.0 h.1 h.2).0 is);
  }
  refused-given law result (BadRecord area index at) is cause only refuses = record {
    is = inr record { fault = BadRecord area index at; cause = cause; refuses = refuses; is = refl };
    due = λ other due. let h = history_of other due in absurd ((only h.0 h.1 h.2).1 area index at is);
  }
  refused-given law result (Full size needed capacity) is cause only refuses = ended-given law content _ (inr record {
    number = cause.0;
    size = size;
    needed = needed;
    capacity = capacity;
    full = cause.1;
    is = refl;
  })
  refused-given law result DiskFault is cause only refuses = absurd refuses
  refused-given law result NoMemory is cause only refuses = absurd refuses
