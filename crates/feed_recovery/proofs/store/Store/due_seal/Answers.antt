use Rattle.std.proofs.Common.{◌≤◌, ℕ, List, length, subst, sym, ◌∙◌}
use Rattle.feed_recovery.specs.Prepare.{IsMissing}
use Rattle.feed_recovery.proofs.SealLemmas.{next-full, next-short, seal-made}
use Rattle.feed_recovery.proofs.store.Store.due_seal.Goals as goal
use Rattle.member_rules.specs.Coding.{payload_limit}

pub archive-requires-clause-full : goal.archive-requires-clause-full
archive-requires-clause-full c =
    next-full _ c.self.invariant.0
    (subst IsMissing (sym c.self.view_is) (c.is_seal_missing.ensures.0 c.if-not-is_seal_missing.false))

pub of-requires : goal.of-requires
of-requires c =
    let missing = subst IsMissing (sym c.self.view_is) (c.is_seal_missing.ensures.0 c.if-not-is_seal_missing.false) in
    let is = seal-made _ c.self.invariant.0 missing c.in_ok-document.document c.in_ok-text.text.items
    c.in_ok-document.ensures c.in_ok-text.ensures in
    subst (λ (bytes : List ℕ). length bytes ≤ payload_limit) (sym is ∙ sym c.as_slice.ensures.value)
    (next-short _ c.self.invariant.0 missing)
