-- The store that a crash within a request leaves.
use Rattle.std.proofs.Common.{◌≡◌, inl, inr, ℕ, ◌+◌, ◌<◌, List, [], length, take, refl, sym, ◌∙◌, ap}
use Rattle.std.proofs.Common.{subst, arith}
use Rattle.std.specs.Prelude.{Result, Ok, Err, IfOk}
use Rattle.std.proofs.Math.Seq.{take-length}
use Rattle.std.proofs.lemmas.Grind.{same_number_lists}
use Rattle.std.proofs.lemmas.List.{take_all}
use Rattle.feed_disk.specs.AreaRecord.{MayLeave}
use Rattle.feed_disk.specs.Disk.{PassesBy}
use Rattle.feed_disk.specs.Image.{crashed_disk, image_in}
use Rattle.feed_disk.specs.DiskLaw.{memory_is_disk}
use Rattle.feed_disk.specs.Memory.{MemoryValue, fresh_disk, state_of, worked}
use Rattle.feed_disk.specs.declared.area.Area.{Area}
use Rattle.feed_disk.specs.declared.area.Area.TheVariants.{Journal, Sealed, Mirror}
use Rattle.feed_disk.specs.declared.choice.Choice.{Choice}
use Rattle.feed_life.specs.Life.{IsStoreOf}
use Rattle.feed_life.specs.Crashes.{IsCrash, IsImageAfter, clock_of}
use Rattle.feed_recovery.specs.Opening.{Opens}
use Rattle.feed_recovery.specs.Settled.{OpensPast, Settled}
use Rattle.member_rules.specs.Head.{HeadValue}
use Rattle.member_rules.specs.declared.operation.Op.{Op}

-- what two clauses of a call together say of its result
pub ok-both : {X E : Type 0} (result : Result X E) (P Q R : X → Type 0) → ((value : X) → P value → Q value → R value)
    → IfOk result P → IfOk result Q → IfOk result R
ok-both (Ok value) P Q R both p q = both value p q
ok-both (Err fault) P Q R both p q = tt

-- the one image of an area that is synced
synced-image : (first image : List ℕ) → MayLeave first [] image → image ≡ first
synced-image first image may =
    same_number_lists image first (omega (arith, may.no_shorter, may.no_longer))
    (λ offset within. may.certain offset (omega (arith, within, may.no_longer)) refl)

pub fresh-synced : (journal sealed mirror : List ℕ) (failing : List ℕ) (a : Area) (i : List ℕ)
    → (state_of (fresh_disk journal sealed mirror failing)).image_now a i
    → i ≡ (state_of (fresh_disk journal sealed mirror failing)).content a
fresh-synced journal sealed mirror failing Journal i may = synced-image journal i may
fresh-synced journal sealed mirror failing Sealed i may = synced-image sealed i may
fresh-synced journal sealed mirror failing Mirror i may = synced-image mirror i may

-- a synced disk whose areas open to the first operations is a store's disk with those
pub crash-past : (head : HeadValue) (operations : List Op) (least : ℕ) (images : Area → List ℕ → Type 0)
    (left : MemoryValue) → (crash : IsCrash images left)
    → (past : OpensPast head operations least ((state_of left).content Journal) ((state_of left).content Sealed))
    → IsStoreOf head (take past.version operations) left
crash-past head operations least images left crash past =
    let later = take past.version operations in
    record {
      seals = past.seals;
      opens = past.opens;
      settled = λ journal sealed first second.
          subst (λ (j : List ℕ). OpensPast head later (length later) j sealed)
          (sym (crash.synced Journal journal first))
          (subst (λ (s : List ℕ). OpensPast head later (length later) ((state_of left).content Journal) s)
          (sym (crash.synced Sealed sealed second)) record {
            journal_whole = past.journal_whole;
            sealed_whole = past.sealed_whole;
            version = length later;
            at_least = omega arith;
            at_most = omega arith;
            seals = past.seals;
            opens =
                subst (λ (l : List Op). Opens ((state_of left).content Journal)
                ((state_of left).content Sealed) head l past.seals) (sym (take-length later)) past.opens;
          });
    }

-- after a settled history, whole
pub crash-settled : (head : HeadValue) (history : List Op) (before left : MemoryValue)
    → Settled (state_of before) head history (length history) → IsCrash (state_of before).image_now left
    → IsStoreOf head history left
crash-settled head history before left settled crash =
    let past = settled ((state_of left).content Journal) ((state_of left).content Sealed) (crash.among Journal)
    (crash.among Sealed) in
    subst (λ (l : List Op). IsStoreOf head l left) (take_all past.version history past.at_least)
    (crash-past head history (length history) (state_of before).image_now left crash past)

-- the image of a disk at a moment
pub crash-made : {E : Type 0} (result : Result MemoryValue E) (m : MemoryValue) (call : ℕ) (choice : Choice)
    → IfOk result (λ d. d ≡ crashed_disk m call choice)
    → IfOk result (λ d. (a : Area) → (state_of m).image_at a call ((state_of d).content a))
    → IfOk result (IsCrash (λ a. (state_of m).image_at a call))
crash-made (Ok left) m call choice is among = record {
  among = among;
  synced =
      subst (λ (d : MemoryValue). (a : Area) (i : List ℕ) → (state_of d).image_now a i → i ≡ (state_of d).content a)
      (sym is) (fresh-synced (image_in m call choice Journal) (image_in m call choice Sealed)
      (image_in m call choice Mirror) []);
}
crash-made (Err fault) m call choice is among = tt

-- A call that writes nothing leaves the image after the last call.
pub image-last : {E : Type 0} (result : Result MemoryValue E) (before after : MemoryValue) (call : ℕ)
    (choice : Choice) → call ≡ clock_of before + 1 → after ≡ worked before before.areas
    → IfOk result (λ left. left ≡ crashed_disk after call choice) → IfOk result (IsImageAfter before choice)
image-last (Ok left) before after call choice at is image =
    image ∙ ap (λ (d : MemoryValue). crashed_disk d call choice) is
    ∙ ap (λ (n : ℕ). crashed_disk before n choice) at
image-last (Err fault) before after call choice at is image = tt

-- within one call that changes nothing
pub crash-last : {E : Type 0} (result : Result MemoryValue E) (before after : MemoryValue) (call : ℕ)
    → ((a : Area) → PassesBy (state_of before) (state_of after) a) → (state_of before).clock < call
    → IfOk result (IsCrash (λ a. (state_of after).image_at a call)) → IfOk result (IsCrash (state_of before).image_now)
crash-last (Ok left) before after call passes over crash = record {
  among = λ a. elim ((passes a).passes.moments call ((state_of left).content a) (crash.among a)) [
    | inl earlier ↦ absurd (let begun = (memory_is_disk before).begun a call ((state_of left).content a) earlier in
        omega (arith, begun, over))
    | inr now ↦ now.1
  ];
  synced = crash.synced;
}
crash-last (Err fault) before after call passes over crash = tt
