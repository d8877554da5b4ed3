-- Counts of faults, by how a function ended.
use Rattle.std.proofs.Common.{◌≡◌, ◌≤◌, ℕ, ◌∙◌, subst, arith}
use Rattle.atom_values.specs.Counts.{CountsFault, HasRisen}

-- a call left the count as it was, and the next one failed, or left it too
module _ {before mid after : ℕ} {Returned : Type 0} (same : mid ≡ before) where
  pub counts-failed : mid ≤ after → HasRisen mid after → Returned → CountsFault before after Returned
  counts-failed later rose is = subst (λ (n : ℕ). CountsFault n after Returned) same (record {
    later = later;
    failed = λ _. rose;
    unfailed = λ none. absurd (none is);
  })

  pub counts-worked : after ≡ mid → (Returned → ⊥) → CountsFault before after Returned
  counts-worked worked none = record {
    later = omega arith;
    failed = λ is. absurd (none is);
    unfailed = λ _. worked ∙ same;
  }

-- the same fault by another name
pub counts-as : {before after : ℕ} {One Other : Type 0} → (One → Other) → (Other → One) → CountsFault before after One
    → CountsFault before after Other
counts-as to from counts = record {
  later = counts.later;
  failed = λ is. counts.failed (from is);
  unfailed = λ none. counts.unfailed (λ is. none (to is));
}
