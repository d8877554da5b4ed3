-- Places of windows in a list of operations.
use Rattle.std.proofs.Common.{◌≡◌, ℕ, ◌+◌, ◌<◌, ◌≤◌, List, length, take, drop, take-take, sym, ap, ◌∙◌, arith}
use Rattle.std.proofs.lemmas.List.{take-append-drop}
use Rattle.member_rules.specs.declared.operation.Op.{Op}
use Rattle.member_rules.specs.Latest.{latest}
use Rattle.member_rules.specs.Setting.{IsWindowSize}
use Rattle.member_rules.specs.Windows.{last_within, size_after, size_set, window_ends, windows_from}
use Rattle.member_rules.proofs.WindowLemmas.{ends-monotone, ends-next, last-only, last-within}
use Rattle.member_rules.proofs.WindowLemmas.{size_after-append, size_after-limits}
use Rattle.archive_sealer.specs.declared.place.Place.{Place}
use Rattle.archive_sealer.specs.Place.{IsPlaceOf}

-- the first window begins before all operations
pub place-first : (first : ℕ) (history : List Op) (place : Place) → IsWindowSize first → place.windows ≡ 0
    → place.before ≡ 0 → place.size ≡ first → IsPlaceOf first history place
unfolding window_ends size_after
place-first first history place limits windows before size = record {
  first_size = limits;
  before = before ∙ ap (window_ends first history) (sym windows);
  size = size ∙ ap (λ n. size_after first (take n history)) (sym before);
  limits = (omega (arith, limits.0), omega (arith, limits.1));
  within = omega arith;
  counted = omega arith;
}

-- a window ends where it is full
pub place-end : (first : ℕ) (history : List Op) (place : Place) → IsPlaceOf first history place
    → window_ends first history (place.windows + 1) ≡ place.before + place.size
place-end first history place of =
    ends-next first history place.windows
    ∙ ap (λ n. n + size_after first (take n history)) (sym of.before)
    ∙ ap (λ n. place.before + n) (sym of.size)

-- the next window begins there, with the size that the operations of this one leave
pub place-next : (first : ℕ) (history : List Op) (place next : Place) → IsPlaceOf first history place
    → next.windows ≡ place.windows + 1 → next.before ≡ place.before + place.size → next.before ≤ length history
    → next.size ≡ latest size_set place.size (drop place.before (take next.before history))
    → IsPlaceOf first history next
place-next first history place next of windows before within size =
    let filled = take next.before history in
    let operations = drop place.before filled in
    let front : take place.before filled ≡ take place.before history =
    take-take place.before next.before history (omega arith) in
    let whole : size_after first filled ≡ latest size_set (size_after first (take place.before history)) operations =
    ap (size_after first) (sym (take-append-drop place.before filled))
    ∙ size_after-append first (take place.before filled) operations
    ∙ ap (λ (some : List Op). latest size_set (size_after first some) operations) front in
    let is : next.size ≡ size_after first filled =
    size ∙ ap (λ n. latest size_set n operations) of.size ∙ sym whole in
    let limits = size_after-limits first filled of.first_size in
    record {
      first_size = of.first_size;
      before = before ∙ sym (place-end first history place of) ∙ ap (window_ends first history) (sym windows);
      size = is;
      limits = (omega (arith, is, limits.0), omega (arith, is, limits.1));
      within = within;
      counted = omega (arith, of.counted, of.limits.0);
    }

-- the windows before an open one are the last that end within so many operations
pub place-last : (first : ℕ) (history : List Op) (place : Place) (count : ℕ) → IsPlaceOf first history place
    → place.before ≤ count → count < place.before + place.size
    → place.windows ≡ last_within (window_ends first history) count count
place-last first history place count of within less =
    sym (last-only first history count place.windows of.first_size (omega (arith, of.before))
    (omega (arith, place-end first history place of)))

-- the operations fill a full window
pub place-filled : (first : ℕ) (history : List Op) (place : Place) → IsPlaceOf first history place
    → place.windows < (windows_from first history).full → place.before + place.size ≤ length history
unfolding windows_from
place-filled first history place of less =
    let full = (windows_from first history).full in
    omega (
      arith,
      place-end first history place of,
      ends-monotone first history (place.windows + 1) full (omega arith),
      (last-within first history (length history) of.first_size).0,
    )
