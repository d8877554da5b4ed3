use Rattle.std.proofs.Common.{◌≡◌, ◌+◌, true, arith, subst, ◌∙◌}
use Rattle.std.proofs.lemmas.Bool.{cases_lt}
use Rattle.std.proofs.Common.{inl, inr}
use Rattle.archive_sealer.specs.Window.{IsFull}
use Rattle.feed_recovery.specs.Replayed.{ReplayedValue}
use Rattle.feed_recovery.proofs.replayed.Replayed.full.Goals as goal
use Rattle.member_rules.proofs.CutLemmas.{windows-sealed}
use Rattle.member_rules.specs.Windows.{windows_of}

pub overflow_add-result : goal.overflow_add-result
overflow_add-result c =
    let head = c.self.inside.head in
    let is = c.self.invariant in
    let within = windows-sealed head c.self.inside.window.history is.is_head in
    omega (arith, c.sealed-sealed.ensures head is.of_feed, within.full, within.few, is.lawful.few)

pub returns-then-is_full : goal.returns-then-is_full
returns-then-is_full c =
    let head = c.self.inside.head in
    let history = c.self.inside.window.history in
    let is = c.self.invariant in
    let full : IsFull head history = (c.is_full.ensures head is.of_feed).0 c.if-is_full.true in
    subst (λ (v : ReplayedValue). c.sealed-sealed.result + 1 ≡ (windows_of v.head v.history).full) c.self.view_is
    (omega (arith, c.sealed-sealed.ensures head is.of_feed, full))

pub returns-else-is_full : goal.returns-else-is_full
returns-else-is_full c =
    let head = c.self.inside.head in
    let history = c.self.inside.window.history in
    let is = c.self.invariant in
    let windows = windows_of head history in
    let within = windows-sealed head history is.is_head in
    let not : IsFull head history → ⊥ = λ full.
    let is_full : c.is_full.result ≡ true = (c.is_full.ensures head is.of_feed).1 full in
    let never = c.if-is_full.false in
    cc in
    let sealed : windows.sealed ≡ windows.full = elim (cases_lt windows.sealed windows.full) [
      | inl more ↦ absurd (not (omega (arith, more, within.all_but_one)))
      | inr none ↦ omega (arith, none, within.full)
    ] in
    subst (λ (v : ReplayedValue). c.sealed-sealed.result ≡ (windows_of v.head v.history).full) c.self.view_is
    (c.sealed-sealed.ensures head is.of_feed ∙ sealed)
