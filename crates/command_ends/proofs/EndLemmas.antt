-- The exit statuses of faults.
use Rattle.std.proofs.Common.{◌≡◌, inl, inr, ℕ, refl, arith}
use Rattle.command_ends.specs.declared.fault.Fault.{Fault}
use Rattle.command_ends.specs.declared.fault.Fault.TheVariants.{NoMemory, Input, Disk, BadStore, Full, Refused}
use Rattle.command_ends.specs.declared.fault.Refusal.{Refusal}
use Rattle.command_ends.specs.declared.fault.Refusal.TheVariants.{
  TooLong,
  BadDocument,
  BadPile,
  BadCertificate,
  TooManyOffers,
  BadService,
  BadLine,
  NotFound,
  Deleted,
  Clock,
  TooLarge,
  NotSealed,
  NoMember,
  DeletedMember,
}
use Rattle.command_ends.specs.Fault.{fault_answer, refusal_answer, IsRefusal}
use Rattle.command_ends.specs.Ends.{IsAnswered, IsDone}
use Rattle.command_ends.specs.Status.{code_of}

-- a status after an answer is one of seven
answered_at : (P : ℕ → Type 0) → P 0 → P 3 → P 6 → P 8 → P 10 → P 11 → P 12 → (n : ℕ) → IsAnswered n → P n
answered_at P p0 p3 p6 p8 p10 p11 p12 n (inl (inl e)) = rw e p0
answered_at P p0 p3 p6 p8 p10 p11 p12 n (inl (inr (inl e))) = rw e p3
answered_at P p0 p3 p6 p8 p10 p11 p12 n (inl (inr (inr (inl e)))) = rw e p6
answered_at P p0 p3 p6 p8 p10 p11 p12 n (inl (inr (inr (inr (inl e))))) = rw e p10
answered_at P p0 p3 p6 p8 p10 p11 p12 n (inl (inr (inr (inr (inr (inl e)))))) = rw e p11
answered_at P p0 p3 p6 p8 p10 p11 p12 n (inl (inr (inr (inr (inr (inr e)))))) = rw e p12
answered_at P p0 p3 p6 p8 p10 p11 p12 n (inr e) = rw e p8

-- none of these statuses comes after an answer
no_four : IsAnswered 4 → ⊥
no_four h = answered_at (λ n. n ≡ 4 → ⊥) (λ e. omega (arith, e)) (λ e. omega (arith, e)) (λ e. omega (arith, e))
    (λ e. omega (arith, e)) (λ e. omega (arith, e)) (λ e. omega (arith, e)) (λ e. omega (arith, e)) 4 h refl

no_five : IsAnswered 5 → ⊥
no_five h = answered_at (λ n. n ≡ 5 → ⊥) (λ e. omega (arith, e)) (λ e. omega (arith, e)) (λ e. omega (arith, e))
    (λ e. omega (arith, e)) (λ e. omega (arith, e)) (λ e. omega (arith, e)) (λ e. omega (arith, e)) 5 h refl

no_nine : IsAnswered 9 → ⊥
no_nine h = answered_at (λ n. n ≡ 9 → ⊥) (λ e. omega (arith, e)) (λ e. omega (arith, e)) (λ e. omega (arith, e))
    (λ e. omega (arith, e)) (λ e. omega (arith, e)) (λ e. omega (arith, e)) (λ e. omega (arith, e)) 9 h refl

-- after an answer the fault is a refusal
pub answered-refusal : (fault : Fault) → IsAnswered (code_of (fault_answer fault).status) → IsRefusal fault
answered-refusal NoMemory h = absurd (no_five h)
answered-refusal Input h = absurd (no_nine h)
answered-refusal Disk h = absurd (no_four h)
answered-refusal (BadStore bad) h = tt
answered-refusal (Full area size needed capacity) h = tt
answered-refusal (Refused refusal) h = tt

-- a refusal has the status 10 or 12
pub refusal_code : (P : ℕ → Type 0) → P 10 → P 12 → (refusal : Refusal) → P (code_of (refusal_answer refusal).status)
refusal_code P ten twelve TooLong = ten
refusal_code P ten twelve (BadDocument offset) = ten
refusal_code P ten twelve (BadPile at) = ten
refusal_code P ten twelve (BadCertificate line) = ten
refusal_code P ten twelve TooManyOffers = ten
refusal_code P ten twelve (BadService at) = ten
refusal_code P ten twelve (BadLine line) = ten
refusal_code P ten twelve (NotFound line member) = twelve
refusal_code P ten twelve (Deleted line member) = twelve
refusal_code P ten twelve (Clock line) = twelve
refusal_code P ten twelve (TooLarge line) = twelve
refusal_code P ten twelve (NotSealed number sealed) = twelve
refusal_code P ten twelve (NoMember number) = twelve
refusal_code P ten twelve (DeletedMember number) = twelve

-- a fault has one of seven statuses
fault_code : (P : ℕ → Type 0) → P 4 → P 5 → P 6 → P 9 → P 10 → P 11 → P 12 → (fault : Fault) →
    P (code_of (fault_answer fault).status)
fault_code P p4 p5 p6 p9 p10 p11 p12 NoMemory = p5
fault_code P p4 p5 p6 p9 p10 p11 p12 Input = p9
fault_code P p4 p5 p6 p9 p10 p11 p12 Disk = p4
fault_code P p4 p5 p6 p9 p10 p11 p12 (BadStore bad) = p6
fault_code P p4 p5 p6 p9 p10 p11 p12 (Full area size needed capacity) = p11
fault_code P p4 p5 p6 p9 p10 p11 p12 (Refused refusal) = refusal_code P p10 p12 refusal

-- a fault is neither a defined end nor a failure of the output
pub no_end : (fault : Fault) → code_of (fault_answer fault).status ≡ 0 → ⊥
no_end fault = fault_code (λ n. n ≡ 0 → ⊥) (λ e. omega (arith, e)) (λ e. omega (arith, e)) (λ e. omega (arith, e))
    (λ e. omega (arith, e)) (λ e. omega (arith, e)) (λ e. omega (arith, e)) (λ e. omega (arith, e)) fault

pub no_three : (fault : Fault) → code_of (fault_answer fault).status ≡ 3 → ⊥
no_three fault = fault_code (λ n. n ≡ 3 → ⊥) (λ e. omega (arith, e)) (λ e. omega (arith, e)) (λ e. omega (arith, e))
    (λ e. omega (arith, e)) (λ e. omega (arith, e)) (λ e. omega (arith, e)) (λ e. omega (arith, e)) fault

pub no_done : (fault : Fault) → IsDone (code_of (fault_answer fault).status) → ⊥
no_done fault (inl e) = no_end fault e
no_done fault (inr e) = no_three fault e

pub no_output : (fault : Fault) → code_of (fault_answer fault).status ≡ 8 → ⊥
no_output fault = fault_code (λ n. n ≡ 8 → ⊥) (λ e. omega (arith, e)) (λ e. omega (arith, e)) (λ e. omega (arith, e))
    (λ e. omega (arith, e)) (λ e. omega (arith, e)) (λ e. omega (arith, e)) (λ e. omega (arith, e)) fault

-- nor one of the door
pub no_door : (fault : Fault) → code_of (fault_answer fault).status ≡ 7 → ⊥
no_door fault = fault_code (λ n. n ≡ 7 → ⊥) (λ e. omega (arith, e)) (λ e. omega (arith, e)) (λ e. omega (arith, e))
    (λ e. omega (arith, e)) (λ e. omega (arith, e)) (λ e. omega (arith, e)) (λ e. omega (arith, e)) fault

-- the fault of the input alone has its status
pub input_end : (fault : Fault) → code_of (fault_answer fault).status ≡ 9 → fault ≡ Input
input_end NoMemory e = absurd (omega (arith, e))
input_end Input e = refl
input_end Disk e = absurd (omega (arith, e))
input_end (BadStore bad) e = absurd (omega (arith, e))
input_end (Full area size needed capacity) e = absurd (omega (arith, e))
input_end (Refused refusal) e =
    absurd (refusal_code (λ n. n ≡ 9 → ⊥) (λ e. omega (arith, e)) (λ e. omega (arith, e)) refusal e)
