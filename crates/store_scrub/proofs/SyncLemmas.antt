-- The two areas after their syncs.
use Rattle.std.proofs.Common.{◌≡◌, Result, ◌∙◌}
use Rattle.feed_disk.specs.Disk.{CountsCall, DiskState, Passes, PassesBy}
use Rattle.feed_disk.specs.Moments.{AlwaysLeaves, LeavesAlone}
use Rattle.feed_disk.specs.declared.area.Area.{Area}
use Rattle.feed_disk.specs.declared.area.Area.TheVariants.{Journal, Sealed}
use Rattle.feed_disk.proofs.MomentLemmas.{alone_begins, alone_leaves, alone_more, always_begins, always_joins}
use Rattle.feed_disk.proofs.MomentLemmas.{always_same, always_weaker}
use Rattle.feed_journal.specs.Log.{IsSynced}
use Rattle.store_scrub.specs.Survey.{HasSynced}
use Rattle.store_scrub.proofs.CloseLemmas.{synced-alone}

-- one call
module _ {T E : Type 0} (s t : DiskState) (a : Area) (r : Result T E) (counts : CountsCall s t r) where
  pub call-leaves : Passes s t a (s.image_now a) → AlwaysLeaves s t a (s.image_now a)
  call-leaves passes =
      always_same s s t a (s.image_now a) r (always_begins s a (s.image_now a) (λ i may. may)) passes counts

  pub call-alone : PassesBy s t a → LeavesAlone s t a
  call-alone by = alone_more s s t a r (alone_begins s a) by counts

pub alone-same : (s t : DiskState) (a : Area) → LeavesAlone s t a → AlwaysLeaves s t a (s.image_now a)
alone-same s t a alone = alone_leaves s t a (s.image_now a) (λ i may. may) alone

pub same-then-alone : (s m t : DiskState) (a : Area) → AlwaysLeaves s m a (s.image_now a) → LeavesAlone m t a
    → AlwaysLeaves s t a (s.image_now a)
same-then-alone s m t a run alone =
    always_joins s m t a (s.image_now a) run (alone_leaves m t a (s.image_now a) run.now alone)

pub alone-then-same : (s m t : DiskState) (a : Area) → LeavesAlone s m a → AlwaysLeaves m t a (m.image_now a)
    → AlwaysLeaves s t a (s.image_now a)
alone-then-same s m t a alone run =
    always_joins s m t a (s.image_now a) (alone-same s m a alone)
    (always_weaker m t a (m.image_now a) (s.image_now a) alone.now run)

-- the journal is synced from s to m, and the sealed area from m to t
pub has-synced : (s m t : DiskState) → IsSynced m Journal → m.content Journal ≡ s.content Journal
    → LeavesAlone s m Sealed → IsSynced t Sealed → t.content Sealed ≡ m.content Sealed → LeavesAlone m t Journal
    → HasSynced s t
has-synced s m t synced same alone synced' same' alone' = record {
  journal = synced-alone m t Journal synced alone';
  sealed = synced';
  journal_content = alone'.content ∙ same;
  sealed_content = same' ∙ alone.content;
}
