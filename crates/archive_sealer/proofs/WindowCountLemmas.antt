-- The numbers of a window after some operations, and after one more.
use Rattle.std.proofs.Common.{◌≡◌, ◌≢◌, ◌↔◌, ℕ, ◌+◌, ◌-◌, ◌<◌, ◌≤◌, List, [], ◌∷◌, ◌++◌, length, take}
use Rattle.std.proofs.Common.{sym, ap, ◌∙◌, arith}
use Rattle.std.proofs.lemmas.List.{length_push, take_all}
use Rattle.member_rules.specs.declared.operation.Op.{Op}
use Rattle.member_rules.specs.Head.{HeadValue}
use Rattle.member_rules.specs.History.{history_limit}
use Rattle.member_rules.specs.Setting.{IsWindowSize}
use Rattle.member_rules.specs.Windows.{size_after, window_ends, windows_from, windows_of}
use Rattle.member_rules.proofs.WindowLemmas.{ends-next, ends-push, ends-step, last-only, last-within, size_after-limits}
use Rattle.archive_sealer.specs.Window.{IsFull, Kept, AreCounts}

-- the numbers with an open window that isn't full: how many operations fill it, how many windows are sealed, how many
-- operations those have, and how many are in the open one
pub record IsOpen (size sealed before count first : ℕ) (history : List Op) : Type 0 where
  pub first_size : IsWindowSize first
  pub limits : IsWindowSize size
  pub before_is : before ≡ window_ends first history sealed
  pub size_is : window_ends first history (sealed + 1) ≡ before + size
  pub count_is : before + count ≡ length history
  pub less : count < size
  pub counted : sealed ≤ before

module _ (kept : Kept) (first : ℕ) (history : List Op) (counts : AreCounts kept first history) where
  -- the open window is full, so the next one has the size that holds by now
  pub IsOpen-sealed : kept.count ≡ kept.size
      → IsOpen kept.next_size (kept.sealed + 1) (kept.before + kept.size) 0 first history
  unfolding windows_from
  IsOpen-sealed full =
      let whole : kept.before + kept.size ≡ length history = omega (arith, counts.count) in
      let ends : window_ends first history (kept.sealed + 1) ≡ length history = counts.size ∙ whole in
      let next : window_ends first history (kept.sealed + 1 + 1) ≡ length history + size_after first history =
      ends-next first history (kept.sealed + 1)
      ∙ ap (λ n. n + size_after first (take n history)) ends
      ∙ ap (λ (some : List Op). length history + size_after first some)
      (take_all (length history) history (omega arith)) in
      record {
        first_size = counts.first_size;
        limits = counts.next_limits;
        before_is = sym counts.size;
        size_is = omega (arith, next, counts.next_size, whole);
        count_is = omega (arith, whole);
        less = omega (arith, counts.next_limits.0);
        counted = omega (arith, counts.counted, counts.limits.0);
      }

  -- the open window isn't full
  pub IsOpen-still : kept.count ≢ kept.size
      → IsOpen kept.size kept.sealed kept.before kept.count first history
  unfolding windows_from
  IsOpen-still other = record {
    first_size = counts.first_size;
    limits = counts.limits;
    before_is = counts.before;
    size_is = counts.size;
    count_is = counts.count;
    less = omega (arith, counts.within);
    counted = counts.counted;
  }

  -- as many windows are full as are sealed, and one more, exactly if the open one is full
  full-is : kept.count ≡ kept.size → (windows_from first history).full ≡ (windows_from first history).sealed + 1
  unfolding windows_from
  full-is full =
      let whole : kept.before + kept.size ≡ length history = omega (arith, counts.count) in
      let rise = (ends-step first history (kept.sealed + 1) counts.first_size).0 in
      last-only first history (length history) (kept.sealed + 1) counts.first_size
      (omega (arith, counts.size, whole)) (omega (arith, counts.size, whole))
      ∙ ap (λ n. n + 1) counts.sealed

  full-then : (windows_from first history).full ≡ (windows_from first history).sealed + 1 → kept.count ≡ kept.size
  unfolding windows_from
  full-then e =
      let full = (windows_from first history).full in
      let ends : window_ends first history full ≡ kept.before + kept.size =
      ap (window_ends first history) (e ∙ ap (λ n. n + 1) (sym counts.sealed)) ∙ counts.size in
      let within = (last-within first history (length history) counts.first_size).0 in
      omega (arith, ends, counts.count, counts.within)

  -- the same, by the feed's head
  pub full-iff : (head : HeadValue) (operations : List Op) → head.window ≡ first → history ≡ operations
      → (kept.count ≡ kept.size) ↔ IsFull head operations
  unfolding windows_of
  full-iff head operations w h = rw (w, ← h) (full-is, full-then)

  -- the sealed windows, by the feed's head
  pub sealed-is : (head : HeadValue) (operations : List Op) → head.window ≡ first → history ≡ operations
      → kept.sealed ≡ (windows_of head operations).sealed
  unfolding windows_of
  sealed-is head operations w h = rw (w, ← h) counts.sealed

-- one more operation in an open window
pub AreCounts-more : (kept : Kept) (count first : ℕ) (history : List Op) (operation : Op)
    → IsOpen kept.size kept.sealed kept.before count first history → length history < history_limit
    → kept.count ≡ count + 1 → kept.next_size ≡ size_after first (history ++ operation ∷ [])
    → AreCounts kept first (history ++ operation ∷ [])
unfolding windows_from
AreCounts-more kept count first history operation free few more next =
    let after = history ++ operation ∷ [] in
    let longer : length after ≡ length history + 1 = length_push history operation in
    let one_less : length after - 1 ≡ length history = omega arith in
    let ends = ends-push first history operation kept.sealed (omega (arith, free.before_is, free.count_is)) in
    let before : window_ends first after kept.sealed ≡ kept.before = ends.0 ∙ sym free.before_is in
    let end : window_ends first after (kept.sealed + 1) ≡ kept.before + kept.size = ends.1 ∙ free.size_is in
    let limits = size_after-limits first after free.first_size in
    record {
      first_size = free.first_size;
      size = end;
      next_size = next;
      limits = free.limits;
      next_limits = (omega (arith, next, limits.0), omega (arith, next, limits.1));
      few = omega (arith, longer);
      sealed =
          rw one_less (sym (last-only first after (length history) kept.sealed free.first_size
          (omega (arith, before, free.count_is)) (omega (arith, end, free.count_is, free.less))));
      before = sym before;
      count = omega (arith, longer, free.count_is);
      within = omega (arith, free.less);
      counted = free.counted;
    }
