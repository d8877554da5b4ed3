-- The images of a run of device calls, made from those of each call. Callers of a `Disk` prove their clauses by these.
use Rattle.std.proofs.Common.{inl, inr, ⊎_elim, ℕ, ◌-◌, ◌<◌, ◌≤◌, ◌^◌, List, refl, sym, ◌∙◌, subst, arith, Result}
use Rattle.std.proofs.lemmas.Bool.{cases_lt}
use Rattle.atom_values.specs.Counts.{HasRisen}
use Rattle.feed_disk.specs.Disk.{DiskState, IsDisk, Passes, PassesBy, CountsCall}
use Rattle.feed_disk.specs.Moments.{LeavesOnly, NowOnly, LeavesAlone, LeavesOnlyBoth, AlwaysLeaves}
use Rattle.feed_disk.specs.declared.area.Area.{Area}

-- a run begins
pub leaves_begin : (s : DiskState) (a : Area) (P : ℕ → List ℕ → Type 0) → LeavesOnly s s a P
leaves_begin s a P = record { later = omega arith; each = λ c i may. inl may; keeps = λ c i may. may }

-- one call more
pub leaves_more : {T E : Type 0} (s m t : DiskState) (a : Area) (P : ℕ → List ℕ → Type 0) (within : List ℕ → Type 0)
    (r : Result T E) → LeavesOnly s m a P → Passes m t a within → CountsCall m t r
    → ((i : List ℕ) → within i → P t.clock i) → LeavesOnly s t a P
leaves_more s m t a P within r run call counts here = record {
  later = omega (arith, run.later, counts.later);
  each = λ c i may. ⊎_elim (run.each c i) (λ now.
      inr (omega (arith, now.0, run.later, counts.clock), subst (λ (k : ℕ). P k i) (sym now.0) (here i now.1)))
      (call.moments c i may);
  keeps = λ c i may. call.keeps c i (run.keeps c i may);
}

-- two runs, one after the other
pub leaves_join : (s m t : DiskState) (a : Area) (P : ℕ → List ℕ → Type 0) → LeavesOnly s m a P → LeavesOnly m t a P
    → LeavesOnly s t a P
leaves_join s m t a P first second = record {
  later = omega (arith, first.later, second.later);
  each = λ c i may. ⊎_elim (first.each c i) (λ now. inr (omega (arith, now.0, first.later), now.1))
      (second.each c i may);
  keeps = λ c i may. second.keeps c i (first.keeps c i may);
}

pub leaves_weaker : (s t : DiskState) (a : Area) (P Q : ℕ → List ℕ → Type 0)
    → ((c : ℕ) (i : List ℕ) → HasRisen s.clock c → P c i → Q c i) → LeavesOnly s t a P → LeavesOnly s t a Q
leaves_weaker s t a P Q to run = record {
  later = run.later;
  each = λ c i may. ⊎_elim (λ past. inl past) (λ now. inr (now.0, to c i now.0 now.1)) (run.each c i may);
  keeps = run.keeps;
}

-- a moment inside the run
pub leaves_inside : {observable : Type 0} (s t : DiskState) (a : Area) (P : ℕ → List ℕ → Type 0) → IsDisk observable s
    → LeavesOnly s t a P → (c : ℕ) (i : List ℕ) → s.clock < c → t.image_at a c i → P c i
leaves_inside s t a P disk run c i inside may =
    ⊎_elim (λ past. absurd (omega (arith, disk.begun a c i past))) (λ now. now.1) (run.each c i may)

-- a moment that was over as the run began
pub leaves_over : (s t : DiskState) (a : Area) (P : ℕ → List ℕ → Type 0) → LeavesOnly s t a P → s.clock < 2 ^ 64 - 1
    → (c : ℕ) (i : List ℕ) → c ≤ s.clock → t.image_at a c i → s.image_at a c i
leaves_over s t a P run below c i over may =
    ⊎_elim (λ past. past) (λ now. absurd (omega (arith, now.0))) (run.each c i may)

-- an area that is left alone
pub alone_begins : (s : DiskState) (a : Area) → LeavesAlone s s a
alone_begins s a = record {
  leaves = leaves_begin s a (λ _. s.image_now a);
  now = λ i may. may;
  still = λ i may. may;
  content = refl;
}

pub alone_more : {T E : Type 0} (s m t : DiskState) (a : Area) (r : Result T E) → LeavesAlone s m a → PassesBy m t a
    → CountsCall m t r → LeavesAlone s t a
alone_more s m t a r run call counts = record {
  leaves = leaves_more s m t a (λ _. s.image_now a) (m.image_now a) r run.leaves call.passes counts run.now;
  now = λ i may. run.now i (call.passes.now i may);
  still = λ i may. call.still i (run.still i may);
  content = call.content ∙ run.content;
}

pub alone_joins : (s m t : DiskState) (a : Area) → LeavesAlone s m a → LeavesAlone m t a → LeavesAlone s t a
alone_joins s m t a first second = record {
  leaves = leaves_join s m t a (λ _. s.image_now a) first.leaves
      (leaves_weaker m t a (λ _. m.image_now a) (λ _. s.image_now a) (λ c i rose may. first.now i may) second.leaves);
  now = λ i may. first.now i (second.now i may);
  still = λ i may. second.still i (first.still i may);
  content = second.content ∙ first.content;
}

-- over a run that leaves the area alone, each image keeps a property that each had at the start
pub alone_leaves : (s t : DiskState) (a : Area) (P : List ℕ → Type 0) → NowOnly s a P → LeavesAlone s t a
    → AlwaysLeaves s t a P
alone_leaves s t a P held run = record {
  moments = leaves_weaker s t a (λ _. s.image_now a) (λ _. P) (λ c i rose may. held i may) run.leaves;
  now = λ i may. held i (run.now i may);
}

-- a run whose images all satisfy P, those of now too
pub always_begins : (s : DiskState) (a : Area) (P : List ℕ → Type 0) → NowOnly s a P → AlwaysLeaves s s a P
always_begins s a P held = record { moments = leaves_begin s a (λ _. P); now = held }

pub always_more : {T E : Type 0} (s m t : DiskState) (a : Area) (P : List ℕ → Type 0) (within : List ℕ → Type 0)
    (r : Result T E) → AlwaysLeaves s m a P → Passes m t a within → CountsCall m t r → ((i : List ℕ) → within i → P i)
    → AlwaysLeaves s t a P
always_more s m t a P within r run call counts here = record {
  moments = leaves_more s m t a (λ _. P) within r run.moments call counts here;
  now = λ i may. here i (call.now i may);
}

-- a call that doesn't change the area, or makes it more certain
pub always_same : {T E : Type 0} (s m t : DiskState) (a : Area) (P : List ℕ → Type 0) (r : Result T E)
    → AlwaysLeaves s m a P → Passes m t a (m.image_now a) → CountsCall m t r → AlwaysLeaves s t a P
always_same s m t a P r run call counts = always_more s m t a P (m.image_now a) r run call counts run.now

pub always_joins : (s m t : DiskState) (a : Area) (P : List ℕ → Type 0) → AlwaysLeaves s m a P → AlwaysLeaves m t a P
    → AlwaysLeaves s t a P
always_joins s m t a P first second = record
    { moments = leaves_join s m t a (λ _. P) first.moments second.moments; now = second.now }

pub always_weaker : (s t : DiskState) (a : Area) (P Q : List ℕ → Type 0) → ((i : List ℕ) → P i → Q i)
    → AlwaysLeaves s t a P → AlwaysLeaves s t a Q
always_weaker s t a P Q to run = record {
  moments = leaves_weaker s t a (λ _. P) (λ _. Q) (λ c i rose holds. to i holds) run.moments;
  now = λ i may. to i (run.now i may);
}

-- two areas together
pub both_leave : {observable : Type 0} (s t : DiskState) (a b : Area) (P Q : ℕ → List ℕ → Type 0)
    (R : ℕ → List ℕ → List ℕ → Type 0) → IsDisk observable s → LeavesOnly s t a P → LeavesOnly s t b Q
    → ((c : ℕ) (i j : List ℕ) → P c i → Q c j → R c i j) → LeavesOnlyBoth s t a b R
both_leave s t a b P Q R disk first second both = record {
  first = leaves_weaker s t a P (λ _ _. Unit {0}) (λ c i rose holds. tt) first;
  second = leaves_weaker s t b Q (λ _ _. Unit {0}) (λ c i rose holds. tt) second;
  each = λ below c i j inside may may'. both c i j (leaves_inside s t a P disk first c i inside may)
      (leaves_inside s t b Q disk second c j inside may');
}

pub both_join : (s m t : DiskState) (a b : Area) (R : ℕ → List ℕ → List ℕ → Type 0) → LeavesOnlyBoth s m a b R
    → LeavesOnlyBoth m t a b R → LeavesOnlyBoth s t a b R
both_join s m t a b R first second = record {
  first = leaves_join s m t a (λ _ _. Unit {0}) first.first second.first;
  second = leaves_join s m t b (λ _ _. Unit {0}) first.second second.second;
  each = λ below c i j inside may may'. elim (cases_lt m.clock c) [
    | inl later ↦ second.each below c i j later may may'
    | inr earlier ↦
        let short : m.clock < 2 ^ 64 - 1 = omega (arith, below, second.first.later) in
        first.each short c i j inside (leaves_over m t a (λ _ _. Unit {0}) second.first short c i earlier may)
        (leaves_over m t b (λ _ _. Unit {0}) second.second short c j earlier may')
  ];
}

pub both_weaker : (s t : DiskState) (a b : Area) (R S : ℕ → List ℕ → List ℕ → Type 0)
    → ((c : ℕ) (i j : List ℕ) → R c i j → S c i j) → LeavesOnlyBoth s t a b R → LeavesOnlyBoth s t a b S
both_weaker s t a b R S to run = record {
  first = run.first;
  second = run.second;
  each = λ below c i j inside may may'. to c i j (run.each below c i j inside may may');
}
