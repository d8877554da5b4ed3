-- The journal and the sealed area together, at each moment of a run and now.
use Rattle.std.proofs.Common.{List, ℕ}
use Rattle.feed_disk.specs.Disk.{DiskState, IsDisk}
use Rattle.feed_disk.specs.Moments.{AlwaysLeaves}
use Rattle.feed_disk.specs.declared.area.Area.TheVariants.{Journal, Sealed}
use Rattle.feed_disk.proofs.MomentLemmas.{both_leave, both_join}
use Rattle.feed_recovery.specs.Settled.{AlwaysLeavesBoth}

pub both_always : {observable : Type 0} (s t : DiskState) (P Q : List ℕ → Type 0) (R : List ℕ → List ℕ → Type 0)
    → IsDisk observable s → AlwaysLeaves s t Journal P → AlwaysLeaves s t Sealed Q
    → ((i j : List ℕ) → P i → Q j → R i j) → AlwaysLeavesBoth s t R
both_always s t P Q R disk first second both = record {
  moments = both_leave s t Journal Sealed (λ _. P) (λ _. Q) (λ _. R) disk first.moments second.moments
      (λ c i j holds holds'. both i j holds holds');
  now = λ i j may may'. both i j (first.now i may) (second.now j may');
}

-- two runs, one after the other
pub both_joins : (s m t : DiskState) (R : List ℕ → List ℕ → Type 0) → AlwaysLeavesBoth s m R → AlwaysLeavesBoth m t R
    → AlwaysLeavesBoth s t R
both_joins s m t R first second = record {
  moments = both_join s m t Journal Sealed (λ _. R) first.moments second.moments;
  now = second.now;
}
