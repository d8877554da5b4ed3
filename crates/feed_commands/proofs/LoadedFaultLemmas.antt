-- The faults after a store was loaded.
use Rattle.std.proofs.Common.{◌≡◌, inl, inr, ℕ, refl, arith}
use Rattle.command_ends.specs.declared.fault.Fault.{Fault}
use Rattle.command_ends.specs.declared.fault.Fault.TheVariants.{NoMemory, Input, Disk, BadStore, Full, Refused}
use Rattle.command_ends.specs.Fault.{fault_answer}
use Rattle.command_ends.specs.Status.{code_of}
use Rattle.store_commands.specs.Crash.{ComesAfterLoad, IsStatusAfterLoad}

-- a status after the load of a store is one of six
loaded_at : (P : ℕ → Type 0) → P 0 → P 8 → P 9 → P 10 → P 11 → P 12 → (n : ℕ) → IsStatusAfterLoad n → P n
loaded_at P p0 p8 p9 p10 p11 p12 n (inl e) = rw e p0
loaded_at P p0 p8 p9 p10 p11 p12 n (inr (inl e)) = rw e p8
loaded_at P p0 p8 p9 p10 p11 p12 n (inr (inr (inl e))) = rw e p9
loaded_at P p0 p8 p9 p10 p11 p12 n (inr (inr (inr (inl e)))) = rw e p10
loaded_at P p0 p8 p9 p10 p11 p12 n (inr (inr (inr (inr (inl e))))) = rw e p11
loaded_at P p0 p8 p9 p10 p11 p12 n (inr (inr (inr (inr (inr e))))) = rw e p12

-- none of these statuses comes only after the load
unloaded_four : IsStatusAfterLoad 4 → ⊥
unloaded_four h = loaded_at (λ n. n ≡ 4 → ⊥) (λ e. omega (arith, e)) (λ e. omega (arith, e)) (λ e. omega (arith, e))
    (λ e. omega (arith, e)) (λ e. omega (arith, e)) (λ e. omega (arith, e)) 4 h refl

pub unloaded_five : IsStatusAfterLoad 5 → ⊥
unloaded_five h = loaded_at (λ n. n ≡ 5 → ⊥) (λ e. omega (arith, e)) (λ e. omega (arith, e)) (λ e. omega (arith, e))
    (λ e. omega (arith, e)) (λ e. omega (arith, e)) (λ e. omega (arith, e)) 5 h refl

unloaded_six : IsStatusAfterLoad 6 → ⊥
unloaded_six h = loaded_at (λ n. n ≡ 6 → ⊥) (λ e. omega (arith, e)) (λ e. omega (arith, e)) (λ e. omega (arith, e))
    (λ e. omega (arith, e)) (λ e. omega (arith, e)) (λ e. omega (arith, e)) 6 h refl

-- after the load the fault is one that comes only then
pub loaded_fault : (fault : Fault) → IsStatusAfterLoad (code_of (fault_answer fault).status) → ComesAfterLoad fault
loaded_fault NoMemory h = absurd (unloaded_five h)
loaded_fault Input h = tt
loaded_fault Disk h = absurd (unloaded_four h)
loaded_fault (BadStore bad) h = absurd (unloaded_six h)
loaded_fault (Full area size needed capacity) h = tt
loaded_fault (Refused refusal) h = tt
