-- The history and the store after a line, by what the line asks for.
use Rattle.std.proofs.Common.{◌≡◌, ℕ, ◌+◌, List, [], ◌∷◌, ◌++◌, take, Result, Ok, ap, ◌∙◌}
use Rattle.member_rules.specs.declared.operation.Op.{Op}
use Rattle.member_rules.specs.Head.{HeadValue}
use Rattle.command_ends.specs.declared.fault.Fault.{Fault}
use Rattle.store_commands.specs.Line.{line_ask, prefix_limit}
use Rattle.store_commands.specs.Apply.{asked, history_step, line_operation, ◌>>=◌}
use Rattle.store_commands.specs.Stored.{stored_operation, stored_step}
use Rattle.store_commands.proofs.LineLemmas.{line_ask-prefix}
use Rattle.store_commands.proofs.ProgressLemmas.{SeesPrefix}

operation-prefix : (head : HeadValue) (moments : ℕ → ℕ) (history : List Op) (before : ℕ) (line prefix : List ℕ) →
    prefix ≡ take prefix_limit line →
    line_operation head moments history before prefix ≡ line_operation head moments history before line
unfolding line_operation
operation-prefix head moments history before line prefix e =
    ap (asked head history (before + 1) (moments before)) (ap line_ask e ∙ line_ask-prefix line)

-- the prefix that is kept of a line decides what the line makes
pub history_step-prefix : (head : HeadValue) (moments : ℕ → ℕ) → SeesPrefix (history_step head moments)
history_step-prefix head moments history before line prefix e =
    ap (λ made. made >>= λ operation. Ok (history ++ operation ∷ []))
    (operation-prefix head moments history before line prefix e)

pub stored_step-prefix : (moments : ℕ → ℕ) → SeesPrefix (stored_step moments)
stored_step-prefix moments stored before line prefix e =
    ap (λ made. made >>= stored_operation stored)
    (operation-prefix stored.head moments stored.history before line prefix e)

-- the result of a line, by what the line asks for
pub line_operation-is : (head : HeadValue) (moments : ℕ → ℕ) (history : List Op) (before : ℕ) (line read : List ℕ)
    (number now : ℕ) (made : Result Op Fault) →
    read ≡ line → number ≡ before + 1 → now ≡ moments before →
    asked head history number now (line_ask read) ≡ made →
    line_operation head moments history before line ≡ made
unfolding line_operation
line_operation-is head moments history before line read number now made el es en e = rw (← en, ← el, ← es) e

pub history_step-is : (head : HeadValue) (moments : ℕ → ℕ) (history : List Op) (before : ℕ) (line read : List ℕ)
    (number now : ℕ) (made : Result Op Fault) →
    read ≡ line → number ≡ before + 1 → now ≡ moments before →
    asked head history number now (line_ask read) ≡ made →
    history_step head moments history before line ≡ (made >>= λ operation. Ok (history ++ operation ∷ []))
history_step-is head moments history before line read number now made el es en e =
    ap (λ r. r >>= λ operation. Ok (history ++ operation ∷ []))
    (line_operation-is head moments history before line read number now made el es en e)
