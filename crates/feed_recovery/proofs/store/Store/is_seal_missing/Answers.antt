use Rattle.std.proofs.Common.{sym, subst}
use Rattle.feed_recovery.specs.Prepare.{IsMissing}
use Rattle.feed_recovery.proofs.SealLemmas.{next-full}
use Rattle.feed_recovery.proofs.store.Store.is_seal_missing.Goals as goal

pub returns-else-is_full : goal.returns-else-is_full
returns-else-is_full c = (
  λ is. let never = c.if-is_full.false in absurd (cc),
  λ missing. (c.is_full.ensures c.self.inside.head c.self.invariant.1).1
      (next-full _ c.self.invariant.0 (subst IsMissing (sym c.self.view_is) missing)),
)
