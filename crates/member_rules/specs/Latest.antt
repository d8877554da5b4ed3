-- What the last operation of a kind has set.
use Rattle.std.specs.Prelude.{List, fold, Option, unwrap_or}
use Rattle.member_rules.specs.declared.operation.Op.{Op}

-- the value after the operations: each that sets one replaces the value before it
abbrev pub latest : {A : Type 0} → (Op → Option A) → A → List Op → A
latest set first operations = fold (λ value operation. unwrap_or (set operation) value) first operations
