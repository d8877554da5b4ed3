-- How operations cut a history into windows, and what the last operation of a kind has set.
use Rattle.std.proofs.Common.{◌≡◌, inl, inr, ℕ, zero, suc, ◌+◌, ◌-◌, ◌<◌, ◌≤◌, List, [], ◌∷◌, ◌++◌, length}
use Rattle.std.proofs.Common.{take, take-take, Option, Some, None, refl, sym, ap, ◌∙◌, arith, add-one}
use Rattle.std.specs.Prelude.{unwrap_or, nat_le, ◌&&◌, All, IfSome}
use Rattle.std.proofs.lemmas.Bool.{cases_lt, cases_Bool, and_parts, leb-true, le-leb, lt-leb}
use Rattle.std.proofs.lemmas.List.{take-append-le}
use Rattle.std.proofs.lemmas.List.Elements.{All-head, All-tail}
use Rattle.std.proofs.lemmas.List.Sums.{fold-append}
use Rattle.member_rules.specs.declared.operation.Op.{Op}
use Rattle.member_rules.specs.declared.operation.Op.TheVariants.{Add, Change, Remove, Set}
use Rattle.member_rules.specs.declared.setting.Setting.TheVariants.{Title, Window}
use Rattle.member_rules.specs.Documents.{title_set, title_after}
use Rattle.member_rules.specs.Head.{window_limit}
use Rattle.member_rules.specs.Latest.{latest}
use Rattle.member_rules.specs.Operation.{IsOperation}
use Rattle.member_rules.specs.Setting.{IsTitle, IsWindowSize}
use Rattle.member_rules.specs.Windows.{window_size, size_set, size_after, window_ends, last_within}

-- what operations have set

-- the operations of two lists, one after the other
latest-append : {A : Type 0} (set : Op → Option A) (first : A) (before after : List Op)
    → latest set first (before ++ after) ≡ latest set (latest set first before) after
latest-append {A} set first before after =
    fold-append (λ (value : A) (operation : Op). unwrap_or (set operation) value) first before after

-- what holds of the value before and of the one that is set
set-keeps : {A : Type 0} (P : A → Type 0) (value : Option A) (before : A) → IfSome value P → P before
    → P (unwrap_or value before)
set-keeps P None before h is = is
set-keeps P (Some value) before h is = h

-- what holds of the first value and of each value that an operation of some kind sets, holds of the latest
latest-keeps : {A : Type 0} (set : Op → Option A) (P : A → Type 0) (K : Op → Type 0)
    → ((operation : Op) → K operation → IfSome (set operation) P) → (first : A) → P first
    → (operations : List Op) → All K operations → P (latest set first operations)
latest-keeps set P K keeps first is [] are = is
latest-keeps set P K keeps first is (operation ∷ later) are =
    latest-keeps set P K keeps (unwrap_or (set operation) first)
    (set-keeps P (set operation) first (keeps operation (All-head K operation later are)) is) later
    (All-tail K operation later are)

-- one more operation
pub size_after-push : (first : ℕ) (history : List Op) (operation : Op)
    → size_after first (history ++ operation ∷ []) ≡ unwrap_or (size_set operation) (size_after first history)
unfolding size_after
size_after-push first history operation = latest-append size_set first history (operation ∷ [])

-- later operations begin with the size that the earlier ones leave
pub size_after-append : (first : ℕ) (before after : List Op)
    → size_after first (before ++ after) ≡ latest size_set (size_after first before) after
unfolding size_after
size_after-append first before after = latest-append size_set first before after

window_size-limits : (size : ℕ) → IfSome (window_size size) IsWindowSize
window_size-limits size = elim (cases_Bool (nat_le 1 size && nat_le size window_limit)) [
  | inl fits ↦
      let parts = and_parts (nat_le 1 size) (nat_le size window_limit) fits in
      rw fits (leb-true 1 size parts.0, leb-true size window_limit parts.1)
  | inr fails ↦ rw fails tt
]

size_set-limits : (operation : Op) → IfSome (size_set operation) IsWindowSize
size_set-limits (Add entry) = tt
size_set-limits (Change entry) = tt
size_set-limits (Remove removal) = tt
size_set-limits (Set (Title title) moment) = tt
size_set-limits (Set (Window size) moment) = window_size-limits size

-- a size of windows is 1 to 100 after any operations
pub size_after-limits : (first : ℕ) (history : List Op) → IsWindowSize first → IsWindowSize (size_after first history)
unfolding size_after
size_after-limits first [] is = is
size_after-limits first (operation ∷ later) is =
    size_after-limits (unwrap_or (size_set operation) first) later
    (set-keeps IsWindowSize (size_set operation) first (size_set-limits operation) is)

-- one more operation
pub title_after-push : (first : List ℕ) (history : List Op) (operation : Op)
    → title_after first (history ++ operation ∷ []) ≡ unwrap_or (title_set operation) (title_after first history)
unfolding title_after
title_after-push first history operation = latest-append title_set first history (operation ∷ [])

title_set-keeps : (operation : Op) → IsOperation operation → IfSome (title_set operation) IsTitle
title_set-keeps (Add entry) h = tt
title_set-keeps (Change entry) h = tt
title_set-keeps (Remove removal) h = tt
title_set-keeps (Set (Title title) moment) h = h.0
title_set-keeps (Set (Window size) moment) h = tt

-- a title keeps the rules of titles
pub title_after-keeps : (first : List ℕ) (operations : List Op) → IsTitle first → All IsOperation operations
    → IsTitle (title_after first operations)
unfolding title_after
title_after-keeps first operations is are =
    latest-keeps title_set IsTitle IsOperation title_set-keeps first is operations are

-- where windows end

-- a window has the size that the operations before it leave
pub ends-next : (first : ℕ) (history : List Op) (number : ℕ) → window_ends first history (number + 1)
    ≡ window_ends first history number + size_after first (take (window_ends first history number) history)
unfolding window_ends
ends-next first history number = ap (window_ends first history) (add-one number)

-- each window has 1 to 100 operations
pub ends-rise : (first : ℕ) (history : List Op) (number : ℕ) → IsWindowSize first
    → (window_ends first history number < window_ends first history (suc number))
    × (window_ends first history (suc number) ≤ window_ends first history number + 100)
unfolding window_ends
ends-rise first history number is =
    let size = size_after-limits first (take (window_ends first history number) history) is in
    (omega (arith, size.0), omega (arith, size.1))

-- the same for the next number as a sum
pub ends-step : (first : ℕ) (history : List Op) (number : ℕ) → IsWindowSize first
    → (window_ends first history number < window_ends first history (number + 1))
    × (window_ends first history (number + 1) ≤ window_ends first history number + 100)
ends-step first history number is = rw (add-one number) (ends-rise first history number is)

ends-up : (first : ℕ) (history : List Op) (number : ℕ)
    → window_ends first history number ≤ window_ends first history (suc number)
unfolding window_ends
ends-up first history number = omega arith

ends-up_by : (first : ℕ) (history : List Op) (number more : ℕ)
    → window_ends first history number ≤ window_ends first history (number + more)
ends-up_by first history number zero =
    let same : number + 0 ≡ number = omega arith in
    rw same (omega arith)
ends-up_by first history number (suc more) =
    let same : number + suc more ≡ suc (number + more) = omega arith in
    rw same (omega (arith, ends-up_by first history number more, ends-up first history (number + more)))

-- no window ends before an earlier one
pub ends-monotone : (first : ℕ) (history : List Op) (one other : ℕ) → one ≤ other
    → window_ends first history one ≤ window_ends first history other
ends-monotone first history one other up =
    let same : one + (other - one) ≡ other = omega arith in
    rw same at (ends-up_by first history one (other - one))

-- each window has an operation
pub ends-counted : (first : ℕ) (history : List Op) (number : ℕ) → IsWindowSize first
    → number ≤ window_ends first history number
ends-counted first history zero is = omega arith
ends-counted first history (suc number) is =
    omega (arith, ends-counted first history number is, (ends-rise first history number is).0)

-- windows that begin within equal first operations end alike
agree : (first : ℕ) (one other : List Op) (version number : ℕ) → take version one ≡ take version other
    → window_ends first one number ≤ version
    → (window_ends first other number ≡ window_ends first one number)
    × (window_ends first other (suc number) ≡ window_ends first one (suc number))
unfolding window_ends
agree first one other version zero same within = (refl, refl)
agree first one other version (suc number) same within =
    let end = window_ends first one (suc number) in
    let ends = (agree first one other version number same (omega (arith, ends-up first one number))).1 in
    let front : take end other ≡ take end one =
    sym (take-take end version other within) ∙ ap (take end) (sym same) ∙ take-take end version one within in (
      ends,
      ap (λ (n : ℕ). n + size_after first (take n other)) ends
          ∙ ap (λ (operations : List Op). end + size_after first operations) front,
    )

pub ends-agree : (first : ℕ) (one other : List Op) (version number : ℕ) → take version one ≡ take version other
    → window_ends first one number ≤ version
    → (window_ends first other number ≡ window_ends first one number)
    × (window_ends first other (number + 1) ≡ window_ends first one (number + 1))
ends-agree first one other version number same within =
    rw (add-one number) (agree first one other version number same within)

-- the first operations have the windows that begin within them
pub ends-take : (first : ℕ) (history : List Op) (version number : ℕ) → version ≤ length history
    → window_ends first history number ≤ version
    → (window_ends first (take version history) number ≡ window_ends first history number)
    × (window_ends first (take version history) (number + 1) ≡ window_ends first history (number + 1))
ends-take first history version number past within =
    ends-agree first history (take version history) version number
    (sym (take-take version version history (omega arith))) within

-- one more operation leaves the windows that begin before it
pub ends-push : (first : ℕ) (history : List Op) (operation : Op) (number : ℕ)
    → window_ends first history number ≤ length history
    → (window_ends first (history ++ operation ∷ []) number ≡ window_ends first history number)
    × (window_ends first (history ++ operation ∷ []) (number + 1) ≡ window_ends first history (number + 1))
ends-push first history operation number within =
    ends-agree first history (history ++ operation ∷ []) (length history) number
    (sym (take-append-le (length history) history (operation ∷ []) (omega arith))) within

-- the last window that ends within so many operations

last_within-ends : (ends : ℕ → ℕ) (count number : ℕ) → ends 0 ≡ 0 → ends (last_within ends count number) ≤ count
last_within-ends ends count zero none = omega (arith, none)
last_within-ends ends count (suc number) none = elim (cases_lt count (ends (suc number))) [
  | inl past ↦ rw (lt-leb (ends (suc number)) count past) (last_within-ends ends count number none)
  | inr within ↦ rw (le-leb (ends (suc number)) count within) within
]

last_within-next : (ends : ℕ → ℕ) (count number : ℕ) → count < ends (suc number)
    → count < ends (suc (last_within ends count number))
last_within-next ends count zero after = after
last_within-next ends count (suc number) after = elim (cases_lt count (ends (suc number))) [
  | inl past ↦ rw (lt-leb (ends (suc number)) count past) (last_within-next ends count number past)
  | inr within ↦ rw (le-leb (ends (suc number)) count within) after
]

-- it ends within them
pub last-ends : (first : ℕ) (history : List Op) (count : ℕ)
    → window_ends first history (last_within (window_ends first history) count count) ≤ count
unfolding window_ends
last-ends first history count = last_within-ends (window_ends first history) count count refl

-- and the next one doesn't
pub last-within : (first : ℕ) (history : List Op) (count : ℕ) → IsWindowSize first
    → let last = last_within (window_ends first history) count count in
    (window_ends first history last ≤ count) × (count < window_ends first history (last + 1))
last-within first history count is =
    let ends = window_ends first history in
    let last = last_within ends count count in
    rw (add-one last) (
      last-ends first history count,
      last_within-next ends count count (omega (arith, ends-counted first history (suc count) is)),
    )

-- a window that ends within them isn't past one whose next doesn't
pub last-apart : (first : ℕ) (history : List Op) (count one other : ℕ) → window_ends first history other ≤ count
    → count < window_ends first history (one + 1) → other ≤ one
last-apart first history count one other within after = elim (cases_lt one other) [
  | inl past ↦ absurd (omega (arith, ends-monotone first history (one + 1) other (omega arith)))
  | inr up ↦ up
]

-- no other window is the last
pub last-only : (first : ℕ) (history : List Op) (count number : ℕ) → IsWindowSize first
    → window_ends first history number ≤ count → count < window_ends first history (number + 1)
    → last_within (window_ends first history) count count ≡ number
last-only first history count number is within after =
    let last = last_within (window_ends first history) count count in
    let at = last-within first history count is in
    omega (
      arith,
      last-apart first history count number last at.0 after,
      last-apart first history count last number within at.1,
    )
