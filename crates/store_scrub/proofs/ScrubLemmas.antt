-- What a replay and the log of the seals say of a store.
use Rattle.std.proofs.Common.{◌≡◌, ◌≢◌, ◌⊎◌, ◌↔◌, inl, inr, true, false, ℕ, ◌+◌, ◌-◌, List, [], length, Option}
use Rattle.std.proofs.Common.{◌≤◌, Result, Ok, Err, refl, sym, ◌∙◌, ap, subst, arith}
use Rattle.std.specs.Prelude.{IfErr, IfOk, IfSome, IsTrue}
use Rattle.atom_values.specs.Counts.{CountsFault}
use Rattle.feed_disk.specs.Disk.{DiskState}
use Rattle.feed_disk.specs.declared.area.Area.{Area}
use Rattle.feed_disk.specs.declared.area.Area.TheVariants.{Journal, Sealed, Mirror}
use Rattle.feed_journal.specs.Log.{IsLog, LogValue, payloads_at}
use Rattle.feed_journal.specs.Records.{records, IsWhole}
use Rattle.feed_journal.specs.declared.fault.LogFault.{LogFault}
use Rattle.feed_journal.specs.declared.fault.LogFault.TheVariants.{DiskFault as LogDiskFault, NoMemory as LogNoMemory}
use Rattle.feed_journal.specs.declared.fault.LogFault.TheVariants.{Changed}
use Rattle.feed_recovery.specs.Faults.{IsLoadFault}
use Rattle.feed_recovery.specs.Loading.{AreCompared, HasRaised, IsSealOf, ListsAll, OnlyReads}
use Rattle.feed_recovery.specs.Opening.{IsJournal, IsSealCount, Opens}
use Rattle.feed_recovery.specs.Refused.{IsJournalRefusal, Refuses}
use Rattle.feed_recovery.specs.Replayed.{KeepsReplayed, ReplayedValue}
use Rattle.feed_recovery.specs.declared.fault.LoadFault.{LoadFault}
use Rattle.feed_recovery.specs.declared.fault.LoadFault.TheVariants.{NotInit as LoadNotInit, BadRecord as LoadBadRecord}
use Rattle.feed_recovery.specs.declared.fault.LoadFault.TheVariants.{SealCount as LoadSealCount, BadSeal as LoadBadSeal}
use Rattle.feed_recovery.specs.declared.fault.LoadFault.TheVariants.{DiskFault as LoadDiskFault, NoMemory as LoadNoMemory}
use Rattle.feed_recovery.proofs.ComparedLemmas.{compared-all}
use Rattle.feed_recovery.proofs.FaultLemmas.{journal_one, opens_without}
use Rattle.feed_recovery.proofs.ReadingLemmas.{listed-count}
use Rattle.feed_recovery.proofs.RefusedLemmas.{refusal-journal}
use Rattle.member_rules.specs.Head.{HeadValue}
use Rattle.member_rules.specs.declared.operation.Op.{Op}
use Rattle.store_scrub.specs.Scrub.{IsScrubRefusal, IsSound, IsUnsound, RefusesStore, unsound_of}
use Rattle.store_scrub.specs.Verdict.{HasSeals, IsClear, KnowsEnd, IsVerdict}
use Rattle.store_scrub.specs.declared.fault.Unsound.{Unsound}
use Rattle.store_scrub.specs.declared.fault.Unsound.TheVariants.{NotInit, BadRecord, SealCount, BadSeal, OpenGate}
use Rattle.store_scrub.specs.declared.fault.Unsound.TheVariants.{DiskFault, NoMemory}

pub ok-weaker : {T E : Type 0} (result : Result T E) (P Q : T → Type 0) → ((x : T) → P x → Q x) → IfOk result P
    → IfOk result Q
ok-weaker (Ok x) P Q weaker holds = weaker x holds
ok-weaker (Err e) P Q weaker holds = tt

pub err-weaker : {T E : Type 0} (result : Result T E) (P Q : E → Type 0) → ((e : E) → P e → Q e) → IfErr result P
    → IfErr result Q
err-weaker (Ok x) P Q weaker holds = tt
err-weaker (Err e) P Q weaker holds = weaker e holds

-- no call failed
pub counts-same : (before after : ℕ) (is_returned : Type 0) → after ≡ before → ¬ is_returned
    → CountsFault before after is_returned
counts-same before after is_returned same other = record {
  later = omega (arith, same);
  failed = λ is. absurd (other is);
  unfailed = λ _. same;
}

-- a call failed exactly if the fault says so
pub counts-raised : {T : Type 0} (before after : ℕ) (fault : LoadFault) → before ≤ after → HasRaised before after fault
    → CountsFault before after (◌≡◌ {A = Result T Unsound} (Err (unsound_of fault)) (Err DiskFault))
counts-raised before after LoadNotInit later raised = counts-same before after _ raised (λ is. cc)
counts-raised before after (LoadBadRecord area index at) later raised =
    counts-same before after _ raised (λ is. cc)
counts-raised before after (LoadSealCount operations found) later raised =
    counts-same before after _ raised (λ is. cc)
counts-raised before after (LoadBadSeal index) later raised = counts-same before after _ raised (λ is. cc)
counts-raised before after LoadDiskFault later raised =
    record { later = later; failed = λ _. raised; unfailed = λ other. absurd (other refl) }
counts-raised before after LoadNoMemory later raised = counts-same before after _ raised (λ is. cc)

no-cause : (fault : LoadFault) → (fault ≡ LoadDiskFault) ⊎ (fault ≡ LoadNoMemory) → fault ≢ LoadDiskFault
    → fault ≢ LoadNoMemory → ⊥
no-cause fault (inl is) other another = other is
no-cause fault (inr is) other another = another is

-- a sound store has no fault, but a failed call and out of memory
pub sound_without : (journal sealed : List ℕ) (operations seals : ℕ) → IsSound journal sealed operations seals
    → (fault : Unsound) → IsUnsound journal sealed fault → (fault ≡ DiskFault) ⊎ (fault ≡ NoMemory)
sound_without journal sealed operations seals sound NotInit why =
    absurd (no-cause LoadNotInit (opens_without journal sealed sound.head sound.history seals sound.opens LoadNotInit why)
    (λ is. cc) (λ is. cc))
sound_without journal sealed operations seals sound (BadRecord area index at) why =
    absurd (no-cause (LoadBadRecord area index at) (opens_without journal sealed sound.head sound.history seals sound.opens
    (LoadBadRecord area index at) why) (λ is. cc) (λ is. cc))
sound_without journal sealed operations seals sound (SealCount found count) why =
    absurd (no-cause (LoadSealCount found count) (opens_without journal sealed sound.head sound.history seals sound.opens
    (LoadSealCount found count) (record {
      head = why.head;
      history = why.history;
      is_journal = why.is_journal;
      number = why.number;
      sealed_number = why.found;
      bad = why.bad;
    })) (λ is. cc) (λ is. cc))
sound_without journal sealed operations seals sound (BadSeal index) why =
    let opens = sound.opens in
    let same = journal_one (records journal) sound.head why.head sound.history why.history opens.is_journal
    why.is_journal in
    absurd (no-cause (LoadBadSeal index) (opens_without journal sealed sound.head sound.history seals opens
    (LoadBadSeal index) (record {
      head = why.head;
      history = why.history;
      is_journal = why.is_journal;
      count = subst (λ (h : HeadValue). IsSealCount h why.history (length (records sealed))) same.0
          (subst (λ (l : List Op). IsSealCount sound.head l (length (records sealed))) same.1
          (subst (IsSealCount sound.head sound.history) (sym opens.number) opens.count));
      wrong = why.wrong;
    })) (λ is. cc) (λ is. cc))
sound_without journal sealed operations seals sound (OpenGate Journal at) why = absurd (why.gate.0 sound.journal_whole)
sound_without journal sealed operations seals sound (OpenGate Sealed at) why = absurd (why.gate.1 sound.sealed_whole)
sound_without journal sealed operations seals sound (OpenGate Mirror at) why = absurd why.gate
sound_without journal sealed operations seals sound DiskFault why = inl refl
sound_without journal sealed operations seals sound NoMemory why = inr refl

-- what a replay refuses
pub unsound-replay : (journal sealed : List ℕ) (fault : LoadFault)
    → IsLoadFault (records journal) (records sealed) fault → IsJournalRefusal fault
    → IsUnsound journal sealed (unsound_of fault)
unsound-replay journal sealed LoadNotInit cause refused = cause
unsound-replay journal sealed (LoadBadRecord area index at) cause refused = cause
unsound-replay journal sealed (LoadSealCount operations found) cause refused = absurd refused.refuses
unsound-replay journal sealed (LoadBadSeal index) cause refused = absurd refused.refuses
unsound-replay journal sealed LoadDiskFault cause refused = tt
unsound-replay journal sealed LoadNoMemory cause refused = tt

refuses-store : (journal seals : LogValue) (fault : LoadFault) → Refuses journal.extents seals.extents fault
    → RefusesStore journal seals (unsound_of fault)
refuses-store journal seals LoadNotInit why = why
refuses-store journal seals (LoadBadRecord area index at) why = why
refuses-store journal seals (LoadSealCount operations found) why = why
refuses-store journal seals (LoadBadSeal index) why = why
refuses-store journal seals LoadDiskFault why = tt
refuses-store journal seals LoadNoMemory why = tt

pub scrub-refusal : (fault : LoadFault) → IsJournalRefusal fault → IsScrubRefusal (unsound_of fault)
scrub-refusal fault refused =
    let both = refusal-journal fault refused in
    record {
      journal = both.journal;
      seals = both.seals;
      journal_rules = both.journal_rules;
      seals_rules = both.seals_rules;
      refuses = refuses-store both.journal both.seals fault both.refuses;
    }

-- the content of a store whose journal was read to its end, and whose seals are listed by this log
pub record IsRead (journal sealed : List ℕ) (replayed : ReplayedValue) (log seals : LogValue) : Type 0 where
  pub is_journal : IsJournal (records journal) replayed.head replayed.history
  pub compared : AreCompared replayed.head replayed.history (records sealed) replayed.wrong
  pub list : payloads_at seals.extents sealed ≡ records sealed
  pub journal_end : KnowsEnd log journal
  pub sealed_end : KnowsEnd seals sealed

-- the content was left alone, and the logs are as they were but for their calls
pub read-store : (s t : DiskState) (replayed : ReplayedValue) (reader journal seals seals' : LogValue)
    → IsJournal (records (s.content Journal)) replayed.head replayed.history
    → AreCompared replayed.head replayed.history (records (s.content Sealed)) replayed.wrong
    → OnlyReads s t → ListsAll reader (t.content Journal) → journal ≡ reader
    → payloads_at seals.extents (s.content Sealed) ≡ records (s.content Sealed) → KnowsEnd seals (s.content Sealed)
    → seals' ≡ record seals { calls = seals'.calls }
    → IsRead (s.content Journal) (s.content Sealed) replayed journal seals'
read-store s t replayed reader journal seals seals' is_journal compared reads lists finished list ends same = record {
  is_journal = is_journal;
  compared = compared;
  list = subst (λ (l : LogValue). payloads_at l.extents (s.content Sealed) ≡ records (s.content Sealed)) (sym same) list;
  journal_end = subst (λ (l : LogValue). KnowsEnd l (s.content Journal)) (sym finished)
      (subst (KnowsEnd reader) (reads.areas Journal).content
      (record { size = lists.size; whole = lists.end.whole }));
  sealed_end = subst (λ (l : LogValue). KnowsEnd l (s.content Sealed)) (sym same)
      (record { size = ends.size; whole = ends.whole });
}

open-gate : (journal : List ℕ) (log : LogValue) → (IsTrue log.whole ↔ IsWhole journal) → log.whole ≡ false
    → ¬ IsWhole journal
open-gate journal log exact open_ whole = never (sym (exact.1 whole) ∙ open_)
  where
    never : true ≡ false → ⊥
    never is = cc

module _ (journal sealed : List ℕ) (replayed : ReplayedValue) (log seals : LogValue)
    (read : IsRead journal sealed replayed log seals) where
  found-seals : length (records sealed) ≡ length seals.extents
  found-seals = listed-count seals sealed read.list

  opens : HasSeals replayed seals → Opens journal sealed replayed.head replayed.history (length seals.extents)
  opens has = record {
    is_journal = read.is_journal;
    are_seals = compared-all replayed.head replayed.history (records sealed) read.is_journal.is_head
        (subst (IsSealCount replayed.head replayed.history) (sym found-seals) has.count)
        (subst (AreCompared replayed.head replayed.history (records sealed)) has.right read.compared);
    number = found-seals;
    count = has.count;
  }

  pub clear-sound : (operations found : ℕ) → IsClear replayed log seals operations found
      → IsSound journal sealed operations found
  clear-sound operations found clear = record {
    head = replayed.head;
    history = replayed.history;
    opens = subst (Opens journal sealed replayed.head replayed.history) (sym clear.found_is) (opens clear.has);
    number = clear.number_is;
    journal_whole = read.journal_end.whole.0 clear.journal_whole;
    sealed_whole = read.sealed_end.whole.0 clear.sealed_whole;
  }

  pub verdict-unsound : (fault : Unsound) → IsVerdict replayed log seals fault → IsUnsound journal sealed fault
  verdict-unsound NotInit why = absurd why
  verdict-unsound (BadRecord area index at) why = absurd why
  verdict-unsound (SealCount operations found) (right, number, is, bad) = record {
    head = replayed.head;
    history = replayed.history;
    is_journal = read.is_journal;
    right = subst (AreCompared replayed.head replayed.history (records sealed)) right read.compared;
    number = number;
    found = is ∙ sym found-seals;
    bad = bad;
  }
  verdict-unsound (BadSeal index) why =
      let compared = subst (AreCompared replayed.head replayed.history (records sealed)) why read.compared in
      record {
        head = replayed.head;
        history = replayed.history;
        is_journal = read.is_journal;
        within = compared.0;
        wrong = compared.1;
      }
  verdict-unsound (OpenGate Journal at) why = record {
    head = replayed.head;
    history = replayed.history;
    seals = length seals.extents;
    opens = opens why.has;
    gate = (
      open-gate journal log read.journal_end.whole why.gate.0,
      why.gate.1 ∙ ap (λ (n : ℕ). n - 1) read.journal_end.size,
    );
  }
  verdict-unsound (OpenGate Sealed at) why = record {
    head = replayed.head;
    history = replayed.history;
    seals = length seals.extents;
    opens = opens why.has;
    gate = (
      read.journal_end.whole.0 why.gate.0,
      open-gate sealed seals read.sealed_end.whole why.gate.1,
      why.gate.2 ∙ ap (λ (n : ℕ). n - 1) read.sealed_end.size,
    );
  }
  verdict-unsound (OpenGate Mirror at) why = absurd why.gate
  verdict-unsound DiskFault why = absurd why
  verdict-unsound NoMemory why = absurd why

-- over any disk
module _ (replayed : ReplayedValue) (log seals : LogValue) (keeps : KeepsReplayed replayed) (rules : IsLog log)
    (rules' : IsLog seals) (count : length log.extents ≡ length replayed.history + 1)
    (listed : IfSome replayed.wrong (IsSealOf seals.extents)) where
  refused : (fault : Unsound) → RefusesStore log seals fault → IsScrubRefusal fault
  refused fault why =
      record { journal = log; seals = seals; journal_rules = rules; seals_rules = rules'; refuses = why }

  pub verdict-refusal : (fault : Unsound) → IsVerdict replayed log seals fault → IsScrubRefusal fault
  verdict-refusal NotInit why = absurd why
  verdict-refusal (BadRecord area index at) why = absurd why
  verdict-refusal (SealCount operations found) (right, number, is, bad) = refused (SealCount operations found) (record {
    head = replayed.head;
    history = replayed.history;
    is_head = keeps.head;
    lawful = keeps.lawful;
    records_is = number;
    journal_is = count ∙ ap (λ (n : ℕ). n + 1) (sym number);
    found_is = is;
    bad = bad;
  })
  verdict-refusal (BadSeal index) why = refused (BadSeal index)
      (subst (λ (w : Option ℕ). IfSome w (IsSealOf seals.extents)) why listed)
  verdict-refusal (OpenGate Journal at) why = refused (OpenGate Journal at) why.gate.1
  verdict-refusal (OpenGate Sealed at) why = refused (OpenGate Sealed at) why.gate.2
  verdict-refusal (OpenGate Mirror at) why = absurd why.gate
  verdict-refusal DiskFault why = absurd why
  verdict-refusal NoMemory why = absurd why

abbrev no_payloads : Area → LogValue
no_payloads area =
    record { area = area; extents = []; size = 1; calls = 0; spent = false; whole = true; spare = 0 }

-- two logs without payloads are refused
pub refusal-none : (fault : Unsound) → RefusesStore (no_payloads Journal) (no_payloads Sealed) fault
    → IsScrubRefusal fault
refusal-none fault why = record {
  journal = no_payloads Journal;
  seals = no_payloads Sealed;
  journal_rules = record { follow = refl; few = omega arith };
  seals_rules = record { follow = refl; few = omega arith };
  refuses = why;
}

-- a look at a log fails only if a call fails or memory runs out
pub refusal-look : (log : LogFault) (fault : Unsound) → ((index : ℕ) → log ≡ Changed index → ⊥)
    → (log ≡ LogDiskFault → fault ≡ DiskFault) × (log ≡ LogNoMemory → fault ≡ NoMemory) → IsScrubRefusal fault
refusal-look LogDiskFault fault never gives = subst IsScrubRefusal (sym (gives.0 refl)) (refusal-none DiskFault tt)
refusal-look (Changed index) fault never gives = absurd (never index refl)
refusal-look LogNoMemory fault never gives = subst IsScrubRefusal (sym (gives.1 refl)) (refusal-none NoMemory tt)
