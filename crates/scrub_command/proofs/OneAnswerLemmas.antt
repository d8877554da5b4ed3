-- A sound store has one answer of `scrub`, and one that isn't sound has its first fault's.
use Rattle.std.proofs.Common.{◌≡◌, ◌⊎◌, inl, inr, ⊎_elim, ℕ, List, codes, refl, sym, subst, ap, ◌∙◌}
use Rattle.command_ends.specs.Answer.{Answer}
use Rattle.command_ends.specs.Fault.{fault_answer, IsRefusal}
use Rattle.command_ends.specs.declared.status.Status.TheVariants.{Done}
use Rattle.feed_disk.specs.declared.area.Area.{Area}
use Rattle.feed_disk.specs.declared.area.Area.TheVariants.{Journal, Sealed}
use Rattle.scrub_command.specs.Answer.{IsScrubbed, IsSoundAnswer, done_answer, unsound_fault}
use Rattle.store_scrub.specs.Scrub.{IsSound, IsSoundInOneWay, IsUnsound}
use Rattle.store_scrub.specs.declared.fault.Unsound.{Unsound}
use Rattle.store_scrub.specs.declared.fault.Unsound.TheVariants.{DiskFault, NoMemory}

numbers_same : {operations seals number count : ℕ} → operations ≡ number → seals ≡ count
    → done_answer (codes "sound ") operations seals ≡ done_answer (codes "sound ") number count
numbers_same operations seals = λ i. done_answer (codes "sound ") (operations i) (seals i)

-- by the law of `store_scrub`
pub one_sound : IsSoundInOneWay → (content : Area → List ℕ) (one other : Answer) → IsSoundAnswer content one
    → IsSoundAnswer content other → one ≡ other
one_sound unique content one other is_one is_other =
    let same = unique _ _ _ _ _ _ is_one.sound is_other.sound in
    is_one.is ∙ numbers_same same.0 same.1 ∙ sym is_other.is

module _ (content : Area → List ℕ) where
  pub sound-given : IsSoundInOneWay → (operations seals : ℕ)
      → IsSound (content Journal) (content Sealed) operations seals → (written : List ℕ)
      → written ≡ (done_answer (codes "sound ") operations seals).printed
      → IsScrubbed content record { status = Done; printed = written }
  sound-given unique operations seals sound written same =
      let is : IsSoundAnswer content record { status = Done; printed = written } = record {
        operations = operations;
        seals = seals;
        sound = sound;
        is = ap (λ (printed : List ℕ). record { status = Done; printed = printed }) same;
      } in
      record { is = inl is; due = λ other due. one_sound unique content other _ due is }

  pub unsound-given : (fault : Unsound) → IsUnsound (content Journal) (content Sealed) fault
      → IsRefusal (unsound_fault fault)
      → ((operations seals : ℕ) → IsSound (content Journal) (content Sealed) operations seals
      → (fault ≡ DiskFault) ⊎ (fault ≡ NoMemory)) → IsScrubbed content (fault_answer (unsound_fault fault))
  unsound-given fault cause refuses only = record {
    is = inr record { fault = fault; cause = cause; refuses = refuses; is = refl };
    due = λ other due. absurd (⊎_elim (λ e. subst (λ (f : Unsound). IsRefusal (unsound_fault f)) e refuses)
        (λ e. subst (λ (f : Unsound). IsRefusal (unsound_fault f)) e refuses) (only _ _ due.sound));
  }
