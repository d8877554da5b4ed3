-- Cuts of a history into spans, and windows as one of them.
use Rattle.std.proofs.Common.{◌≡◌, ◌≢◌, inl, inr, ℕ, zero, suc, ◌+◌, ◌-◌, ◌<◌, ◌≤◌, List, [], ◌∷◌, ◌++◌, length, take}
use Rattle.std.proofs.Common.{take-take, refl, ap, subst, ◌∙◌, add-one, arith, length-append}
use Rattle.std.proofs.lemmas.Bool.{cases_lt}
use Rattle.std.proofs.lemmas.List.{length-take-le}
use Rattle.member_rules.specs.declared.operation.Op.{Op}
use Rattle.member_rules.specs.Head.{HeadValue, IsHead, window_limit}
use Rattle.member_rules.specs.Setting.{IsWindowSize}
use Rattle.member_rules.specs.Windows.{window_ends, last_within, windows_from, windows_of}
use Rattle.member_rules.specs.Chain.{IsOpenCut}
use Rattle.member_rules.specs.Laws.{SealsInTurn, HasSealed, SealedAreFull}
use Rattle.member_rules.proofs.WindowLemmas.{ends-rise, ends-step, ends-monotone, ends-counted, ends-agree, ends-push, last-ends}
use Rattle.member_rules.proofs.WindowLemmas.{last-within, last-apart, last-only}

-- the archives cut the first operations, each into a run of 1 to 100 operations
pub record IsCut (ends : ℕ → ℕ) (archives count : ℕ) : Type 0 where
  pub from_none : ends 0 ≡ 0
  pub rises : (k : ℕ) → k < archives → ends k < ends (suc k)
  pub narrow : (k : ℕ) → k < archives → ends (suc k) ≤ ends k + 100
  pub within : ends archives ≤ count

pub IsCut-open : (ends : ℕ → ℕ) (archives count : ℕ) → IsOpenCut ends archives count → IsCut ends archives count
IsCut-open ends archives count cut = record {
  from_none = cut.from_none;
  rises = λ k l. subst (λ (n : ℕ). ends k < ends n) (add-one k) (cut.rising k l);
  narrow = λ k l. subst (λ (n : ℕ). ends n ≤ ends k + 100) (add-one k) (cut.narrow k l);
  within = elim cut.some_open [
    | inl some ↦ omega arith
    | inr none ↦ let first : ends archives ≡ 0 = ap ends none.1 ∙ cut.from_none in omega arith
  ];
}

-- some operation comes after the archives
pub some-open : (ends : ℕ → ℕ) (archives count : ℕ) → IsOpenCut ends archives count → archives ≢ 0
    → ends archives < count
some-open ends archives count cut n = elim cut.some_open [
  | inl some ↦ some
  | inr none ↦ absurd (n none.1)
]

-- each archive has an operation
pub ends-at_least : (ends : ℕ → ℕ) (archives count : ℕ) → IsCut ends archives count → (number : ℕ) → number ≤ archives
    → number ≤ ends number
ends-at_least ends archives count cut zero l = omega arith
ends-at_least ends archives count cut (suc n) l =
    omega (arith, ends-at_least ends archives count cut n (omega arith), cut.rises n (omega arith))

ends-up_to : (ends : ℕ → ℕ) (archives count : ℕ) → IsCut ends archives count → (number more : ℕ)
    → number + more ≤ archives → ends number ≤ ends (number + more)
ends-up_to ends archives count cut number zero l = let same : number + 0 ≡ number = omega arith in rw same (omega arith)
ends-up_to ends archives count cut number (suc more) l =
    let same : number + suc more ≡ suc (number + more) = omega arith in
    rw same (omega (
      arith,
      ends-up_to ends archives count cut number more (omega arith),
      cut.rises (number + more) (omega arith),
    ))

pub ends-within : (ends : ℕ → ℕ) (archives count : ℕ) → IsCut ends archives count → (number : ℕ) → number ≤ archives
    → ends number ≤ count
ends-within ends archives count cut number l =
    let same : number + (archives - number) ≡ archives = omega arith in
    let up : ends number ≤ ends archives = rw same at
    (ends-up_to ends archives count cut number (archives - number) (omega arith)) in
    omega (arith, cut.within)

-- where the span of archive `number` begins and ends
pub record IsSpan (number before end count : ℕ) : Type 0 where
  pub rises : before < end
  pub narrow : end ≤ before + 100
  pub counted : number ≤ end
  pub behind : number - 1 ≤ before
  pub first : number ≡ 1 → before ≡ 0
  pub within : end ≤ count

pub span-of : (ends : ℕ → ℕ) (archives count : ℕ) → IsCut ends archives count → (number : ℕ) → 1 ≤ number
    → number ≤ archives → IsSpan number (ends (number - 1)) (ends number) count
span-of ends archives count cut number one l =
    let same : suc (number - 1) ≡ number = omega arith in
    let rises : ends (number - 1) < ends number = rw same at (cut.rises (number - 1) (omega arith)) in
    let narrow : ends number ≤ ends (number - 1) + 100 = rw same at (cut.narrow (number - 1) (omega arith)) in
    record {
      rises = rises;
      narrow = narrow;
      counted = ends-at_least ends archives count cut number l;
      behind = ends-at_least ends archives count cut (number - 1) (omega arith);
      first = λ e. let none : number - 1 ≡ 0 = omega arith in ap ends none ∙ cut.from_none;
      within = ends-within ends archives count cut number l;
    }

-- windows

-- windows that end within the operations
ends-cut : (first : ℕ) (history : List Op) (archives count : ℕ) → IsWindowSize first
    → window_ends first history archives ≤ count → IsCut (window_ends first history) archives count
unfolding window_ends
ends-cut first history archives count is within = record {
  from_none = refl;
  rises = λ k l. (ends-rise first history k is).0;
  narrow = λ k l. (ends-rise first history k is).1;
  within = within;
}

-- full windows are a cut
pub full-cut : (head : HeadValue) (history : List Op) (number : ℕ) → (1 ≤ head.window) × (head.window ≤ window_limit)
    → number ≤ (windows_of head history).full → IsCut (windows_of head history).ends number (length history)
unfolding windows_of windows_from
full-cut head history number limits l =
    let full = (windows_of head history).full in
    ends-cut head.window history number (length history) limits
    (omega (
      arith,
      ends-monotone head.window history number full l,
      last-ends head.window history (length history),
    ))

-- sealed windows, with the operations after them
open-cut : (first : ℕ) (history : List Op) (count : ℕ) → IsWindowSize first
    → IsOpenCut (window_ends first history) (last_within (window_ends first history) (count - 1) (count - 1)) count
unfolding window_ends
open-cut first history count is =
    let sealed = last_within (window_ends first history) (count - 1) (count - 1) in
    let at = last-within first history (count - 1) is in
    record {
      from_none = refl;
      rising = λ k l. (ends-step first history k is).0;
      narrow = λ k l. (ends-step first history k is).1;
      some_open = elim (cases_lt 0 count) [
        | inl some ↦ inl (omega (arith, at.0))
        | inr none ↦ inr (omega arith, omega (arith, at.0, ends-counted first history sealed is))
      ];
      few_open = omega (arith, at.1, (ends-step first history sealed is).1);
    }

pub windows-cut : (head : HeadValue) (history : List Op) → (1 ≤ head.window) × (head.window ≤ window_limit)
    → IsOpenCut (windows_of head history).ends (windows_of head history).sealed (length history)
unfolding windows_of windows_from
windows-cut head history limits = open-cut head.window history (length history) limits

-- an operation after a full window seals it

seals_in-turn : (first : ℕ) (history : List Op) (operation : Op) → IsWindowSize first
    → SealsInTurn (windows_from first history) (windows_from first (history ++ operation ∷ [])) (length history)
unfolding windows_from
seals_in-turn first history operation is =
    let count = length history in
    let more = history ++ operation ∷ [] in
    let size : length more - 1 ≡ count = omega (arith, length-append history (operation ∷ [])) in
    let sealed = (windows_from first history).sealed in
    let full = (windows_from first history).full in
    let before = last-within first history (count - 1) is in
    let filled = last-within first history count is in
    let past = ends-push first history operation full filled.0 in
    rw size record {
      within = omega (arith, before.1);
      rises = λ e.
          let next = ends-push first history operation (sealed + 1) (omega arith) in
          let up = (ends-step first more (sealed + 1) is).0 in
          last-only first more count (sealed + 1) is (omega (arith, next.0)) (omega (arith, next.0, up));
      stays = λ n.
          let same = ends-push first history operation sealed (omega (arith, before.0)) in
          last-only first more count sealed is (omega (arith, same.0, before.0)) (omega (arith, same.1, before.1));
      full = last-only first more count full is (omega (arith, past.0)) (omega (arith, past.1));
    }

pub windows-in_turn : (head : HeadValue) (history : List Op) (operation : Op) → IsHead head
    → SealsInTurn (windows_of head history) (windows_of head (history ++ operation ∷ [])) (length history)
unfolding windows_of
windows-in_turn head history operation is_head =
    seals_in-turn head.window history operation is_head.limits.window

-- the full windows of the first operations stay where they are

pub full-ends : (head : HeadValue) (history : List Op) (version number : ℕ) → version ≤ length history
    → number ≤ (windows_of head (take version history)).full
    → ((windows_of head history).ends number ≡ (windows_of head (take version history)).ends number)
    × ((windows_of head history).ends number ≤ version)
unfolding windows_of windows_from
full-ends head history version number past l =
    let some = take version history in
    let size = length-take-le version history past in
    let within : window_ends head.window some number ≤ version = omega (
      arith,
      ends-monotone head.window some number (windows_of head some).full l,
      last-ends head.window some (length some),
    ) in
    let agree = take-take version version history (omega arith) in
    let same = (ends-agree head.window some history version number agree within).0 in
    (same, omega arith)

sealed-full : (first : ℕ) (history : List Op) → IsWindowSize first
    → (windows_from first history).sealed ≤ (windows_from first history).full
unfolding windows_from
sealed-full first history is =
    let count = length history in
    let windows = windows_from first history in
    last-apart first history count windows.full windows.sealed
    (omega (arith, last-ends first history (count - 1))) (last-within first history count is).1

pub sealed-are_full : (head : HeadValue) (history : List Op) → IsHead head
    → (windows_of head history).sealed ≤ (windows_of head history).full
unfolding windows_of
sealed-are_full head history is_head = sealed-full head.window history is_head.limits.window

has_sealed : (first : ℕ) (history : List Op) → IsWindowSize first
    → HasSealed (windows_from first history) (length history)
unfolding windows_from
has_sealed first history is =
    let count = length history in
    let windows = windows_from first history in
    let at = last-within first history (count - 1) is in
    let up = (ends-step first history (windows.sealed + 1) is).0 in
    record {
      full = sealed-full first history is;
      all_but_one = last-apart first history count (windows.sealed + 1) windows.full
          (last-ends first history count) (omega (arith, at.1, up));
      few = omega (arith, ends-counted first history windows.full is, last-ends first history count);
    }

pub windows-sealed : SealedAreFull
unfolding windows_of
windows-sealed head history is_head = has_sealed head.window history is_head.limits.window

pub sealed-stay : (head : HeadValue) (history : List Op) (version : ℕ) → IsHead head → version ≤ length history
    → (windows_of head (take version history)).sealed ≤ (windows_of head history).sealed
unfolding windows_of windows_from
sealed-stay head history version is_head past =
    let some = take version history in
    let sealed = (windows_of head some).sealed in
    let full = sealed-are_full head some is_head in
    let ends = full-ends head history version sealed past full in
    let size = length-take-le version history past in
    last-apart head.window history (length history - 1) (windows_of head history).sealed sealed
    (omega (arith, ends.0, last-ends head.window some (length some - 1)))
    (last-within head.window history (length history - 1) is_head.limits.window).1
