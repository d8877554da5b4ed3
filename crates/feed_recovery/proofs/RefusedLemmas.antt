-- The refusals of the steps of a load, over any disk.
use Rattle.std.proofs.Common.{◌≡◌, inl, inr, false, ℕ, ◌+◌, ◌<◌, List, [], ◌∷◌, ◌++◌, length, Option, Some, refl, sym}
use Rattle.std.proofs.Common.{◌∙◌, ap, subst, arith, length-append}
use Rattle.std.specs.Prelude.{IfSome, slice_get}
use Rattle.feed_disk.specs.declared.area.Area.{Area}
use Rattle.feed_disk.specs.declared.area.Area.TheVariants.{Journal}
use Rattle.feed_journal.specs.Limits.{header_length}
use Rattle.feed_journal.specs.Log.{LogValue, IsLog, payload_lengths}
use Rattle.feed_journal.specs.declared.extent.Extent.{Extent}
use Rattle.feed_journal.specs.declared.fault.LogFault.{LogFault}
use Rattle.feed_journal.specs.declared.fault.LogFault.TheVariants.{DiskFault as LogDiskFault, NoMemory as LogNoMemory}
use Rattle.feed_journal.specs.declared.fault.LogFault.TheVariants.{Changed}
use Rattle.feed_recovery.specs.Faults.{IsBadOperation}
use Rattle.feed_recovery.specs.Loading.{IsNoCause, IsSealFault, IsSealOf, fault_of}
use Rattle.feed_recovery.specs.Refused.{IsBadAfter, IsJournalRefusal, IsNoHead, IsRefusal, Refuses, RefusesJournal}
use Rattle.feed_recovery.specs.Refused.{RefusesNext, RefusesRecord}
use Rattle.feed_recovery.specs.declared.fault.LoadFault.{LoadFault}
use Rattle.feed_recovery.specs.declared.fault.LoadFault.TheVariants.{NotInit, BadRecord, SealCount, BadSeal}
use Rattle.feed_recovery.specs.declared.fault.LoadFault.TheVariants.{DiskFault, NoMemory}
use Rattle.member_rules.specs.Head.{HeadValue, IsHead}
use Rattle.member_rules.specs.History.{IsLawful}
use Rattle.member_rules.specs.declared.codec.CodecFault.{CodecFault}
use Rattle.member_rules.specs.declared.codec.CodecFault.TheVariants.{BadField, NoMemory as CodecNoMemory}
use Rattle.member_rules.specs.declared.operation.Op.{Op}

-- a payload whose bytes aren't those of a value isn't taken
pub refused-codec : (place : ℕ → Type 0) (index : ℕ) (codec : CodecFault)
    → ((at : ℕ) → codec ≡ BadField at → place at) → RefusesRecord place index (fault_of index codec)
refused-codec place index (BadField at) refused = (refl, refl, refused at refl)
refused-codec place index CodecNoMemory refused = tt

-- the log with one more frame, whose payload has this length
abbrev longer : LogValue → ℕ → LogValue
longer log said = record log {
  extents = log.extents ++ record { offset = log.size + 4; length = said } ∷ [];
  size = log.size + said + header_length;
}

within-longer : (log : LogValue) (said : ℕ) → length log.extents < length (longer log said).extents
within-longer log said =
    omega (arith, length-append log.extents (record { offset = log.size + 4; length = said } ∷ []))

abbrev no_payloads : LogValue
no_payloads = record { area = Journal; extents = []; size = 1; calls = 0; spent = false; whole = false; spare = 0 }

no_payloads_rules : IsLog no_payloads
no_payloads_rules = record { follow = refl; few = omega arith }

refuses : (journal : LogValue) (fault : LoadFault) → IsLog journal → RefusesJournal journal.extents fault
    → IsJournalRefusal fault
refuses journal fault rules why = record { journal = journal; rules = rules; refuses = why }

spends : (fault : LoadFault) → RefusesJournal [] fault → IsJournalRefusal fault
spends fault why = refuses no_payloads fault no_payloads_rules why

refuses-both : (journal : List Extent) (fault : LoadFault) → RefusesJournal journal fault → Refuses journal [] fault
refuses-both journal NotInit refused = refused
refuses-both journal (BadRecord area index at) refused = refused
refuses-both journal (SealCount records found) refused = absurd refused
refuses-both journal (BadSeal number) refused = absurd refused
refuses-both journal DiskFault refused = tt
refuses-both journal NoMemory refused = tt

-- a load refuses what a replay refuses
pub refusal-journal : (fault : LoadFault) → IsJournalRefusal fault → IsRefusal fault
refusal-journal fault refused = record {
  journal = refused.journal;
  seals = no_payloads;
  journal_rules = refused.rules;
  seals_rules = no_payloads_rules;
  refuses = refuses-both refused.journal.extents fault refused.refuses;
}

-- a failed call or out of memory
pub refusal-without : (fault : LoadFault) → IsNoCause fault → IsJournalRefusal fault
refusal-without NotInit refused = absurd refused
refusal-without (BadRecord area index at) refused = absurd refused
refusal-without (SealCount records seals) refused = absurd refused
refusal-without (BadSeal number) refused = absurd refused
refusal-without DiskFault refused = spends DiskFault tt
refusal-without NoMemory refused = spends NoMemory tt

-- the frame of the head isn't read
pub refusal-first : (log : LogValue) (fault : LoadFault) → log.extents ≡ [] → RefusesNext log fault → IsJournalRefusal fault
refusal-first log NotInit none refused = absurd refused
refusal-first log (BadRecord area index at) none (is_area, short, lacks) =
    refuses (longer log lacks.length_said) (BadRecord area index at) lacks.rules (
      is_area,
      inl (record {
        first = lacks.is_next ∙ ap length none;
        some = omega (arith, within-longer log lacks.length_said);
        place = inl short;
      }),
    )
refusal-first log (SealCount records seals) none refused = absurd refused
refusal-first log (BadSeal number) none refused = absurd refused
refusal-first log DiskFault none refused = spends DiskFault tt
refusal-first log NoMemory none refused = spends NoMemory tt

-- the head isn't taken
pub refusal-head : (log : LogValue) (payload : List ℕ) (fault : LoadFault) → IsLog log → length log.extents ≡ 1
    → slice_get (payload_lengths log.extents) 0 ≡ Some (length payload) → RefusesRecord (IsNoHead payload) 0 fault
    → IsJournalRefusal fault
refusal-head log payload NotInit rules one whole refused = absurd refused
refusal-head log payload (BadRecord area index at) rules one whole (is_area, is, bad) =
    refuses log (BadRecord area index at) rules (
      is_area,
      inl (record {
        first = is;
        some = omega (arith, one);
        place = inr (record { payload = payload; whole = whole; is_bad = bad });
      }),
    )
refusal-head log payload (SealCount records seals) rules one whole refused = absurd refused
refusal-head log payload (BadSeal number) rules one whole refused = absurd refused
refusal-head log payload DiskFault rules one whole refused = absurd refused
refusal-head log payload NoMemory rules one whole refused = spends NoMemory tt

-- after the operations of this history
module _ (head : HeadValue) (history : List Op) (is_head : IsHead head) (lawful : IsLawful head history)
    (log : LogValue) where
  later : (journal : LogValue) (area : Area) (index at : ℕ) → IsLog journal → area ≡ Journal
      → IsBadAfter head journal.extents index at → IsJournalRefusal (BadRecord area index at)
  later journal area index at rules is_area after = refuses journal (BadRecord area index at) rules
      (is_area, inr (record { head = head; is_head = is_head; after = after }))

  -- the next frame isn't read
  pub refusal-next : (fault : LoadFault) → length log.extents ≡ length history + 1 → RefusesNext log fault
      → IsJournalRefusal fault
  refusal-next NotInit count refused = absurd refused
  refusal-next (BadRecord area index at) count (is_area, short, lacks) =
      later (longer log lacks.length_said) area index at lacks.rules is_area (record {
        history = history;
        lawful = lawful;
        follows = lacks.is_next ∙ count;
        within = omega (arith, lacks.is_next, within-longer log lacks.length_said);
        place = inl short;
      })
  refusal-next (SealCount records seals) count refused = absurd refused
  refusal-next (BadSeal number) count refused = absurd refused
  refusal-next DiskFault count refused = spends DiskFault tt
  refusal-next NoMemory count refused = spends NoMemory tt

  -- its operation isn't taken
  pub refusal-operation : (payload : List ℕ) (fault : LoadFault) → IsLog log
      → length history + 1 < length log.extents
      → slice_get (payload_lengths log.extents) (length history + 1) ≡ Some (length payload)
      → RefusesRecord (IsBadOperation head history payload) (length history + 1) fault → IsJournalRefusal fault
  refusal-operation payload NotInit rules within whole refused = absurd refused
  refusal-operation payload (BadRecord area index at) rules within whole (is_area, is, bad) =
      later log area index at rules is_area (record {
        history = history;
        lawful = lawful;
        follows = is;
        within = omega (arith, is, within);
        place = inr (record {
          payload = payload;
          whole = subst (λ (n : ℕ). slice_get (payload_lengths log.extents) n ≡ Some (length payload)) (sym is) whole;
          is_bad = bad;
        });
      })
  refusal-operation payload (SealCount records seals) rules within whole refused = absurd refused
  refusal-operation payload (BadSeal number) rules within whole refused = absurd refused
  refusal-operation payload DiskFault rules within whole refused = absurd refused
  refusal-operation payload NoMemory rules within whole refused = spends NoMemory tt

-- the seals can't be those of this journal
refuses-seals : (journal seals : List Extent) (head : HeadValue) (history : List Op) (wrong : Option ℕ)
    (fault : LoadFault) → IsHead head → IsLawful head history → length journal ≡ length history + 1
    → IfSome wrong (IsSealOf seals) → IsSealFault head history wrong (length seals) fault → Refuses journal seals fault
refuses-seals journal seals head history wrong NotInit is_head lawful many listed refused = absurd refused
refuses-seals journal seals head history wrong (BadRecord area index at) is_head lawful many listed refused =
    absurd refused
refuses-seals journal seals head history wrong (SealCount records found) is_head lawful many listed refused = record {
  head = head;
  history = history;
  is_head = is_head;
  lawful = lawful;
  records_is = refused.0;
  journal_is = omega (arith, many, refused.0);
  found_is = refused.1;
  bad = refused.2;
}
refuses-seals journal seals head history wrong (BadSeal number) is_head lawful many listed refused =
    subst (λ (w : Option ℕ). IfSome w (IsSealOf seals)) refused.0 listed
refuses-seals journal seals head history wrong DiskFault is_head lawful many listed refused = absurd refused
refuses-seals journal seals head history wrong NoMemory is_head lawful many listed refused = absurd refused

-- so a load of both refuses
pub refusal-seals : (journal seals : LogValue) (head : HeadValue) (history : List Op) (wrong : Option ℕ)
    (fault : LoadFault) → IsLog journal → IsLog seals → IsHead head → IsLawful head history
    → length journal.extents ≡ length history + 1 → IfSome wrong (IsSealOf seals.extents)
    → IsSealFault head history wrong (length seals.extents) fault → IsRefusal fault
refusal-seals journal seals head history wrong fault rules rules' is_head lawful many listed refused = record {
  journal = journal;
  seals = seals;
  journal_rules = rules;
  seals_rules = rules';
  refuses = refuses-seals journal.extents seals.extents head history wrong fault is_head lawful many listed refused;
}

-- a log isn't loaded only if a call fails or memory runs out
pub refusal-log : (log : LogFault) (fault : LoadFault) → ((index : ℕ) → log ≡ Changed index → ⊥)
    → (log ≡ LogDiskFault → fault ≡ DiskFault) × (log ≡ LogNoMemory → fault ≡ NoMemory) → IsRefusal fault
refusal-log LogDiskFault fault never gives = subst IsRefusal (sym (gives.0 refl)) (refusal-journal DiskFault (spends DiskFault tt))
refusal-log (Changed index) fault never gives = absurd (never index refl)
refusal-log LogNoMemory fault never gives = subst IsRefusal (sym (gives.1 refl)) (refusal-journal NoMemory (spends NoMemory tt))
