-- The steps of a load, one after another.
use Rattle.std.proofs.Common.{◌≡◌, inl, inr, ℕ, ◌+◌, ◌≤◌, min, sym, refl, ◌∙◌, ap, subst, arith}
use Rattle.std.proofs.Common.{List, [], ◌∷◌, ◌++◌, length, take, Option, Some, length-append}
use Rattle.std.specs.Prelude.{slice_get}
use Rattle.atom_writer.specs.Pieced.{IsNoText, IsPlaceOfRefusal}
use Rattle.atom_values.specs.Counts.{counter_limit}
use Rattle.feed_disk.specs.Disk.{DiskState}
use Rattle.feed_disk.specs.declared.area.Area.{Area}
use Rattle.feed_disk.specs.declared.area.Area.TheVariants.{Journal, Sealed}
use Rattle.feed_disk.proofs.MomentLemmas.{alone_begins, alone_joins}
use Rattle.feed_journal.specs.Log.{IsLog, LogValue, MakesSome, payload_lengths, payloads_at}
use Rattle.feed_journal.specs.Reading.{HasRead, IsReading, ReadingValue}
use Rattle.feed_journal.specs.Records.{records}
use Rattle.feed_journal.specs.declared.extent.Extent.{Extent}
use Rattle.feed_journal.proofs.ExtentLemmas.{length-payloads}
use Rattle.feed_recovery.specs.Faults.{IsBadOperation, IsFirstBad, IsLoadFault}
use Rattle.feed_recovery.specs.Loading.{AreCompared, FailsBy, HasRaised, IsReadable, IsReader, IsSealFault, OnlyReads}
use Rattle.feed_recovery.specs.Loading.{ReadsOn, Worked, WorkedBoth, calls_of, fault_of}
use Rattle.feed_recovery.specs.Opening.{IsJournal, IsSealCount}
use Rattle.feed_recovery.specs.Refused.{RefusesRecord}
use Rattle.feed_recovery.specs.declared.fault.LoadFault.{LoadFault}
use Rattle.feed_recovery.specs.declared.fault.LoadFault.TheVariants.{NotInit, BadRecord, SealCount, BadSeal}
use Rattle.feed_recovery.specs.declared.fault.LoadFault.TheVariants.{DiskFault, NoMemory}
use Rattle.member_rules.specs.Coding.{heads}
use Rattle.member_rules.specs.Head.{HeadValue}
use Rattle.member_rules.specs.declared.codec.CodecFault.{CodecFault}
use Rattle.member_rules.specs.declared.codec.CodecFault.TheVariants.{BadField, NoMemory as CodecNoMemory}
use Rattle.member_rules.specs.declared.operation.Op.{Op}

pub reads_begin : (s : DiskState) → OnlyReads s s
reads_begin s = record { areas = λ a. alone_begins s a; later = omega arith }

pub reads_join : (s t u : DiskState) → OnlyReads s t → OnlyReads t u → OnlyReads s u
reads_join s t u first second = record {
  areas = λ a. alone_joins s t u a (first.areas a) (second.areas a);
  later = omega (arith, first.later, second.later);
}

some_join : (s t u : DiskState) (a b c : ℕ) → MakesSome s t a b → MakesSome t u b c → MakesSome s u a c
some_join s t u a b c first (inl none) = subst (λ (n : ℕ). MakesSome s u a n) (sym none.1) (still first)
  where
    still : MakesSome s t a b → MakesSome s u a b
    still (inl same) = inl (none.0 ∙ same.0, same.1)
    still (inr some) = inr (some.0, record { clock = none.0 ∙ some.1.clock; calls = some.1.calls })
some_join s t u a b c (inl none) (inr some) = inr (
  some.0,
  record {
    clock = omega (arith, some.1.clock, none.0);
    calls = omega (arith, some.1.calls, none.1);
  },
)
some_join s t u a b c (inr first) (inr second) = inr (
  first.0 + second.0,
  record {
    clock = omega (arith, first.1.clock, second.1.clock);
    calls = omega (arith, first.1.calls, second.1.calls);
  },
)

-- the calls of one log are calls of both
calls-too : (s t : DiskState) (before after other from to : ℕ) → from ≡ min (before + other) counter_limit
    → to ≡ min (after + other) counter_limit → MakesSome s t before after → MakesSome s t from to
calls-too s t before after other from to is is' (inl none) = inl (none.0, omega (arith, is, is', none.1))
calls-too s t before after other from to is is' (inr some) = inr (
  some.0,
  record { clock = some.1.clock; calls = omega (arith, is, is', some.1.calls) },
)

-- no call was made
pub worked-begin : (s : DiskState) (reader : ReadingValue) (seals : LogValue) → WorkedBoth s s reader reader seals seals
worked-begin s reader seals = record { seals_log = refl; calls = inl (refl, refl); faults = refl }

same-log : (a b c : LogValue) → b ≡ record a { calls = b.calls } → c ≡ record b { calls = c.calls }
    → c ≡ record a { calls = c.calls }
same-log a b c first second = second ∙ ap (λ (l : LogValue). record l { calls = c.calls }) first

pub worked-reader : (s t u : DiskState) (a b c : ReadingValue) (seals seals' : LogValue) → WorkedBoth s t a b seals seals'
    → ReadsOn t u b c → WorkedBoth s u a c seals seals'
worked-reader s t u a b c seals seals' first second = record {
  seals_log = first.seals_log;
  calls = some_join s t u (calls_of a.log seals) (calls_of b.log seals') (calls_of c.log seals') first.calls
      (calls-too t u b.log.calls c.log.calls seals'.calls (calls_of b.log seals') (calls_of c.log seals') refl refl
      second.calls);
  faults = second.faults ∙ first.faults;
}

pub worked-seals : (s t u : DiskState) (reader reader' : ReadingValue) (a b c : LogValue)
    → WorkedBoth s t reader reader' a b → Worked t u b c → WorkedBoth s u reader reader' a c
worked-seals s t u reader reader' a b c first second = record {
  seals_log = same-log a b c first.seals_log second.log;
  calls = some_join s t u (calls_of reader.log a) (calls_of reader'.log b) (calls_of reader'.log c) first.calls
      (calls-too t u b.calls c.calls reader'.log.calls (calls_of reader'.log b) (calls_of reader'.log c) (omega arith)
      (omega arith) second.calls);
  faults = second.faults ∙ first.faults;
}

pub worked-after : (s t u : DiskState) (a b c : ReadingValue) (seals seals' : LogValue) → ReadsOn s t a b
    → WorkedBoth t u b c seals seals' → WorkedBoth s u a c seals seals'
worked-after s t u a b c seals seals' first second = record {
  seals_log = second.seals_log;
  calls = some_join s t u (calls_of a.log seals) (calls_of b.log seals) (calls_of c.log seals')
      (calls-too s t a.log.calls b.log.calls seals.calls (calls_of a.log seals) (calls_of b.log seals) refl refl
      first.calls) second.calls;
  faults = second.faults ∙ first.faults;
}

-- the reader of an area that is left alone
pub reader_alone : (observable : Type 0) (s t : DiskState) (reader : ReadingValue) → IsReader observable s reader
    → OnlyReads s t → IsReader observable t reader
reader_alone observable s t reader is reads = record {
  area = is.area;
  unspent = is.unspent;
  reading = λ tells. subst (IsReading reader) (sym (reads.areas Journal).content) (is.reading tells);
}

lengths-push : (extents : List Extent) (extent : Extent)
    → slice_get (payload_lengths (extents ++ extent ∷ [])) (length extents) ≡ Some extent.length
lengths-push [] extent = refl
lengths-push (first ∷ rest) extent = lengths-push rest extent

-- the log after one more frame
module _ (extent : Extent) (payload : List ℕ) (before after : LogValue) (read : HasRead extent payload before after) where
  pub read_count : length after.extents ≡ length before.extents + 1
  read_count = ap (λ (l : LogValue). length l.extents) read.log ∙ length-append before.extents (extent ∷ [])

  pub read_length : slice_get (payload_lengths after.extents) (length before.extents) ≡ Some (length payload)
  read_length =
      ap (λ (l : LogValue). slice_get (payload_lengths l.extents) (length before.extents)) read.log
      ∙ lengths-push before.extents extent
      ∙ ap Some (sym read.whole)

-- a log can still be read after a step that worked
pub readable_later : (observable : Type 0) (s t : DiskState) (a : Area) (before after : LogValue)
    → IsReadable observable s a before → OnlyReads s t → after ≡ record before { calls = after.calls }
    → IsReadable observable t a after
readable_later observable s t a before after readable reads is = record {
  area = ap (λ (l : LogValue). l.area) is ∙ readable.area;
  unspent = ap (λ (l : LogValue). l.spent) is ∙ readable.unspent;
  rules = subst IsLog (sym is) readable.rules;
  list = λ tells.
      subst (λ (l : LogValue). payloads_at l.extents (t.content a) ≡ records (t.content a)) (sym is)
      (subst (λ (l : List ℕ). payloads_at before.extents l ≡ records l) (sym (reads.areas a).content)
      (readable.list tells));
}

-- the other log too, which was lent to no call
pub readable_alone : (observable : Type 0) (s t : DiskState) (a : Area) (log : LogValue) → IsReadable observable s a log
    → OnlyReads s t → IsReadable observable t a log
readable_alone observable s t a log readable reads = record {
  area = readable.area;
  unspent = readable.unspent;
  rules = readable.rules;
  list = λ tells. subst (λ (l : List ℕ). payloads_at log.extents l ≡ records l) (sym (reads.areas a).content)
      (readable.list tells);
}

-- a fault of a step is that of all steps until then
pub fails_later : (observable : Type 0) (s t u : DiskState) (fault : LoadFault) → OnlyReads s t → t.faults ≡ s.faults
    → FailsBy observable t u fault → FailsBy observable s u fault
fails_later observable s t u fault reads same fails = record {
  cause = λ tells.
      subst (λ (l : List ℕ). IsLoadFault (records l) (records (s.content Sealed)) fault)
      (reads.areas Journal).content
      (subst (λ (l : List ℕ). IsLoadFault (records (t.content Journal)) (records l) fault)
      (reads.areas Sealed).content (fails.cause tells));
  faults = subst (λ (n : ℕ). HasRaised n u.faults fault) same fails.faults;
}

-- a payload that isn't the bytes of a head, the journal's first
pub head_fails : (observable : Type 0) (s t : DiskState) (codec : CodecFault) (payload : List ℕ) → t.faults ≡ s.faults
    → (observable → slice_get (records (s.content Journal)) 0 ≡ Some payload)
    → ((at : ℕ) → codec ≡ BadField at → IsNoText heads payload × IsPlaceOfRefusal heads payload at)
    → FailsBy observable s t (fault_of 0 codec)
head_fails observable s t (BadField at) payload same there refused = record {
  cause = λ tells.
      let why = refused at refl in
      (refl, inl (refl, record { payload = payload; there = there tells; none = why.0; place = why.1 }));
  faults = same;
}
head_fails observable s t CodecNoMemory payload same there refused =
    record { cause = λ tells. tt; faults = same }

-- or of an operation that may follow these
pub operation_fails : (observable : Type 0) (s t : DiskState) (index : ℕ) (head : HeadValue) (history : List Op)
    (payload : List ℕ) (fault : LoadFault) → 1 ≤ index
    → (observable → IsJournal (take index (records (s.content Journal))) head history) → t.faults ≡ s.faults
    → (observable → slice_get (records (s.content Journal)) index ≡ Some payload)
    → RefusesRecord (IsBadOperation head history payload) index fault → FailsBy observable s t fault
operation_fails observable s t index head history payload NotInit from_one before same there refused = absurd refused
operation_fails observable s t index head history payload (BadRecord area named at) from_one before same there
    (is_area, is, bad) = record {
      cause = λ tells. (
        is_area,
        inr (
          omega (arith, is, from_one),
          subst (λ (n : ℕ). IsFirstBad (records (s.content Journal)) n at) (sym is) (record {
            head = head;
            history = history;
            before = before tells;
            payload = payload;
            there = there tells;
            bad = bad;
          }),
        ),
      );
      faults = same;
    }
operation_fails observable s t index head history payload (SealCount count found) from_one before same there refused =
    absurd refused
operation_fails observable s t index head history payload (BadSeal number) from_one before same there refused =
    absurd refused
operation_fails observable s t index head history payload DiskFault from_one before same there refused = absurd refused
operation_fails observable s t index head history payload NoMemory from_one before same there refused =
    record { cause = λ tells. tt; faults = same }

-- the log has as many extents as the content has payloads
pub listed-count : (log : LogValue) (content : List ℕ) → payloads_at log.extents content ≡ records content
    → length (records content) ≡ length log.extents
listed-count log content list = sym (ap length list) ∙ length-payloads log.extents content

-- a number of seals that can't be, or a wrong seal
pub seals-fail : (observable : Type 0) (s t : DiskState) (seals : LogValue) (head : HeadValue) (history : List Op)
    (wrong : Option ℕ) (fault : LoadFault) → IsReadable observable s Sealed seals
    → (observable → IsJournal (records (s.content Journal)) head history)
    → (observable → AreCompared head history (records (s.content Sealed)) wrong) → t.faults ≡ s.faults
    → IsSealFault head history wrong (length seals.extents) fault → FailsBy observable s t fault
seals-fail observable s t seals head history wrong NotInit readable is_journal compared same fails = absurd fails
seals-fail observable s t seals head history wrong (BadRecord area index at) readable is_journal compared same fails =
    absurd fails
seals-fail observable s t seals head history wrong (SealCount count found) readable is_journal compared same fails =
    record {
      cause = λ tells. record {
        head = head;
        history = history;
        is_journal = is_journal tells;
        number = fails.0;
        sealed_number = fails.1 ∙ sym (listed-count seals (s.content Sealed) (readable.list tells));
        bad = fails.2;
      };
      faults = same;
    }
seals-fail observable s t seals head history wrong (BadSeal index) readable is_journal compared same fails = record {
  cause = λ tells. record {
    head = head;
    history = history;
    is_journal = is_journal tells;
    count = subst (IsSealCount head history)
        (sym (listed-count seals (s.content Sealed) (readable.list tells))) fails.1;
    wrong = (subst (AreCompared head history (records (s.content Sealed))) fails.0 (compared tells)).1;
  };
  faults = same;
}
seals-fail observable s t seals head history wrong DiskFault readable is_journal compared same fails = absurd fails
seals-fail observable s t seals head history wrong NoMemory readable is_journal compared same fails = absurd fails
