-- The frames of an area that were read in one pass.
use Rattle.std.proofs.Common.{◌≡◌, ℕ, ◌+◌, ◌-◌, ◌<◌, ◌≤◌, List, length, drop, None, ap, subst, arith}
use Rattle.std.specs.Prelude.{IsTrue, ◌↔◌}
use Rattle.feed_journal.specs.Limits.{payload_count_limit}
use Rattle.feed_journal.specs.Log.{LogValue, Follow, IsListed, IsLog, IsScanned}
use Rattle.feed_journal.specs.Reading.{AreFirst, IsAtEnd}
use Rattle.feed_journal.specs.Records.{records, size_of, Begins, IsClosed}
use Rattle.feed_journal.specs.Scan.{IsClosedAt, IsNext}
use Rattle.feed_journal.specs.declared.extent.Extent.{Extent}
use Rattle.feed_journal.proofs.ExtentLemmas.{follow_above}
use Rattle.feed_journal.proofs.LoadLemmas.{size_is, begins_so, closed_whole}
use Rattle.feed_journal.proofs.ScanLemmas.{found_end, found_last, found_most}

pub follow_end : (extents : List Extent) (size : ℕ) → Follow 0 extents size → Follow 0 extents (size - 1 + 1)
follow_end extents size follow =
    let same : size ≡ size - 1 + 1 = omega (arith, follow_above 0 extents size follow) in
    subst (Follow 0 extents) same follow

module _ (log : LogValue) (content : List ℕ) (keeps : IsLog log)
    (first : AreFirst log.extents (log.size - 1) content) where
  above : 0 < log.size
  above = follow_above 0 log.extents log.size keeps.follow

  follow : Follow 0 log.extents (log.size - 1 + 1)
  follow = follow_end log.extents log.size keeps.follow

  -- no frame follows
  pub scanned_most : payload_count_limit ≤ length log.extents → IsScanned log.extents (log.size - 1) content
  scanned_most most = found_most log.extents (log.size - 1) content first follow most

  pub scanned_end : length content < log.size + 5 → IsScanned log.extents (log.size - 1) content
  scanned_end short = found_end log.extents (log.size - 1) content first follow (omega (arith, short, above))

  pub scanned_last : IsNext (drop (log.size - 1) content) None → IsScanned log.extents (log.size - 1) content
  scanned_last next = found_last log.extents (log.size - 1) content first follow next

  module _ (scanned : IsScanned log.extents (log.size - 1) content) where
    pub all_listed : IsListed log content × (log.size ≡ size_of (records content))
    all_listed = (
      record { list = scanned.list; long = omega (arith, first.below, above) },
      omega (arith, above, size_is log.extents (log.size - 1) content follow first.below scanned),
    )

    pub all_begin : IsClosed content → Begins (records content) content
    all_begin closed = begins_so log.extents (log.size - 1) content follow first.below scanned closed

    pub at_end : (IsTrue log.whole ↔ IsClosedAt (log.size - 1) content) → IsAtEnd log content
    at_end tells = record {
      whole = closed_whole log.whole (log.size - 1) content (ap (λ (n : ℕ). n - 1) all_listed.1) tells;
      starts = record { rest = drop (log.size - 1) content; is = scanned.begins };
      begins = all_begin;
    }
