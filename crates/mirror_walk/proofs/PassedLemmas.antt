-- A result that passes a fault on.
use Rattle.std.proofs.Common.{◌≡◌, ℕ, Result, Ok, Err, sym, ap, ◌∙◌}
use Rattle.std.specs.Prelude.{IsErrAnd}
use Rattle.atom_values.specs.Counts.{CountsFault}

pub err-of : {T E : Type 0} (result : Result T E) (fault : E) → IsErrAnd result (λ given. given ≡ fault)
    → result ≡ Err fault
err-of (Ok value) fault is = absurd is
err-of {E = E} (Err given) fault is = ap (λ (f : E). Err f) is

-- the same fault of another result
pub err-again : {T U E : Type 0} (one other : E) → (let result : Result T E = Err one in result) ≡ Err other
    → (let result : Result U E = Err one in result) ≡ Err other
err-again {E = E} one other e = let is : one ≡ other = cc in ap (λ (f : E). Err f) is

-- its count of faults
pub counts-passed : {T U E : Type 0} (before after : ℕ) (result : Result U E) (fault named : E)
    → IsErrAnd result (λ given. given ≡ fault)
    → CountsFault before after ((let given : Result T E = Err fault in given) ≡ Err named)
    → CountsFault before after (result ≡ Err named)
counts-passed before after result fault named passed counts =
    let is = err-of result fault passed in
    record {
      later = counts.later;
      failed = λ e. counts.failed (err-again fault named (sym is ∙ e));
      unfailed = λ other. counts.unfailed (λ e. other (is ∙ err-again fault named e));
    }
