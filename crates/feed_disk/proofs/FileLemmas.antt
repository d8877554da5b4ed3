-- A disk of files after one device call: its images, which are any bytes, and its counters.
use Rattle.std.proofs.Common.{◌≡◌, ◌⊎◌, inl, inr, ℕ, ◌≤◌, arith, Result, Ok, Err, IfOk, OnOk}
use Rattle.std.proofs.lemmas.Bool.{cases_lt}
use Rattle.atom_values.specs.Counts.{counted}
use Rattle.feed_disk.specs.Disk.{TornFrom, Passes, CountsCall}
use Rattle.feed_disk.specs.FileState.{file_state}
use Rattle.feed_disk.specs.declared.area.Area.{Area}
use Rattle.feed_disk.specs.declared.disk_counts.DiskCounts.{DiskCounts}
use Rattle.feed_disk.proofs.TornLemmas.{torn_same}

moment_cases : (moment before after : ℕ) → after ≡ counted before → moment ≤ after
    → (moment ≤ before) ⊎ (moment ≡ after)
moment_cases moment before after is by = elim (cases_lt before moment) [
  | inl past ↦ inr (omega (arith, is, by))
  | inr begun ↦ inl begun
]

pub passes_torn : (s t : DiskCounts) (a : Area) (at n : ℕ) → t.clock ≡ counted s.clock → s.clock ≤ t.clock
    → Passes (file_state s) (file_state t) a (TornFrom at n (λ _. Unit {0}))
passes_torn s t a at n is later = record {
  moments = λ c i by. elim (moment_cases c s.clock t.clock is by) [
    | inl begun ↦ inl begun
    | inr now ↦ inr (now, (i, tt, torn_same at n i))
  ];
  keeps = λ c i begun. omega (arith, begun, later);
  was = λ i _. omega arith;
  now = λ i _. (i, tt, torn_same at n i);
}

pub counts_failed : {T E : Type 0} (s t : DiskCounts) (e : E) → t.clock ≡ counted s.clock → s.clock ≤ t.clock
    → t.faults ≡ counted s.faults → s.faults ≤ t.faults → let result : Result T E = Err e in
    CountsCall (file_state s) (file_state t) result
counts_failed s t e clock later faults more = record {
  clock = clock;
  later = later;
  faults = more;
  failed = omega (arith, faults);
  worked = tt;
}

-- clauses on content that nobody is told
pub if_ok_untold : {T E : Type 0} (P : T → Type 0) (result : Result T E) → IfOk result (λ value. ⊥ → P value)
if_ok_untold P (Ok value) = λ observable. absurd observable
if_ok_untold P (Err e) = tt

pub on_ok_untold : {T E : Type 0} (P : Type 0) (result : Result T E) → OnOk result (⊥ → P)
on_ok_untold P (Ok value) = λ observable. absurd observable
on_ok_untold P (Err e) = tt
