-- The device calls of a commit, on the disk's clock and on the counters of the two logs.
use Rattle.std.proofs.Common.{◌≡◌, ℕ, ◌+◌, List, Option, Some, None, Ok, Err, Result, ◌∙◌, ap, arith}
use Rattle.std.specs.Prelude.{OnOk}
use Rattle.feed_disk.specs.Disk.{DiskState}
use Rattle.feed_journal.specs.Log.{LogValue, MakesCalls, MakesOrFails, MakesUpTo}
use Rattle.feed_recovery.specs.Commit.{MakesSealCalls}
use Rattle.feed_recovery.specs.Prepare.{commit_calls}
use Rattle.feed_recovery.specs.Store.{StoreValue, call_count}

calls_most : (seal : Option (List ℕ)) (s m t : DiskState) (old mid new : StoreValue)
    → mid.journal ≡ old.journal → new.seals ≡ mid.seals → MakesSealCalls seal s m old.seals.calls mid.seals.calls
    → MakesUpTo m t mid.journal.calls new.journal.calls 4
    → MakesUpTo s t (call_count old) (call_count new) (commit_calls seal)
calls_most None s m t old mid new same same' first second = record {
  number = second.number;
  within = second.within;
  makes = record {
    clock = omega (arith, first.0, second.makes.clock);
    calls = omega (
      arith,
      first.1,
      second.makes.calls,
      ap (λ (v : LogValue). v.calls) same,
      ap (λ (v : LogValue). v.calls) same',
    );
  };
}
calls_most (Some seal) s m t old mid new same same' first second = record {
  number = 4 + second.number;
  within = omega (arith, second.within);
  makes = record {
    clock = omega (arith, first.clock, second.makes.clock);
    calls = omega (
      arith,
      first.calls,
      second.makes.calls,
      ap (λ (v : LogValue). v.calls) same,
      ap (λ (v : LogValue). v.calls) same',
    );
  };
}

calls_all : (seal : Option (List ℕ)) (s m t : DiskState) (old mid new : StoreValue)
    → mid.journal ≡ old.journal → new.seals ≡ mid.seals → MakesSealCalls seal s m old.seals.calls mid.seals.calls
    → MakesCalls m t mid.journal.calls new.journal.calls 4
    → MakesCalls s t (call_count old) (call_count new) (commit_calls seal)
calls_all None s m t old mid new same same' first second = record {
  clock = omega (arith, first.0, second.clock);
  calls = omega (
    arith,
    first.1,
    second.calls,
    ap (λ (v : LogValue). v.calls) same,
    ap (λ (v : LogValue). v.calls) same',
  );
}
calls_all (Some seal) s m t old mid new same same' first second = record {
  clock = omega (arith, first.clock, second.clock);
  calls = omega (
    arith,
    first.calls,
    second.calls,
    ap (λ (v : LogValue). v.calls) same,
    ap (λ (v : LogValue). v.calls) same',
  );
}

-- the append of the operation, after that of the seal worked
pub calls_both : {T E : Type 0} (seal : Option (List ℕ)) (s m t : DiskState) (old mid new : StoreValue)
    (result : Result T E) → mid.journal ≡ old.journal → new.seals ≡ mid.seals
    → MakesSealCalls seal s m old.seals.calls mid.seals.calls → m.faults ≡ s.faults
    → MakesOrFails m t mid.journal.calls new.journal.calls 4 result
    → MakesOrFails s t (call_count old) (call_count new) (commit_calls seal) result
calls_both seal s m t old mid new (Ok value) same same' first still second = record {
  all = calls_all seal s m t old mid new same same' first second.all;
  most = calls_most seal s m t old mid new same same' first second.most;
  faults = record {
    later = omega (arith, still, second.faults.later);
    failed = tt;
    worked = second.faults.worked ∙ still;
  };
}
calls_both seal s m t old mid new (Err fault) same same' first still second = record {
  all = tt;
  most = calls_most seal s m t old mid new same same' first second.most;
  faults = record {
    later = omega (arith, still, second.faults.later);
    failed = omega (arith, still, second.faults.failed);
    worked = tt;
  };
}

-- the append of the seal alone, which failed
pub calls_spent : (seal : Option (List ℕ)) (s t : DiskState) (old new : StoreValue) → new.journal ≡ old.journal
    → MakesUpTo s t old.seals.calls new.seals.calls 4
    → MakesUpTo s t (call_count old) (call_count new) (commit_calls seal)
calls_spent None s t old new same made = record {
  number = made.number;
  within = made.within;
  makes = record {
    clock = made.makes.clock;
    calls = omega (arith, made.makes.calls, ap (λ (v : LogValue). v.calls) same);
  };
}
calls_spent (Some seal) s t old new same made = record {
  number = made.number;
  within = omega (arith, made.within);
  makes = record {
    clock = made.makes.clock;
    calls = omega (arith, made.makes.calls, ap (λ (v : LogValue). v.calls) same);
  };
}

-- where two facts hold of a call that worked, so does what follows from both
pub ok_both : {T E : Type 0} (result : Result T E) (P Q R : Type 0) → (P → Q → R) → OnOk result P → OnOk result Q
    → OnOk result R
ok_both (Ok value) P Q R to first second = to first second
ok_both (Err fault) P Q R to first second = tt
