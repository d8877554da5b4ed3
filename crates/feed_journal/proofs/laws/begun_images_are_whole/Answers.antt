use Rattle.std.proofs.Common.{◌≤◌, min, length, arith}
use Rattle.feed_journal.specs.Limits.{payload_count_limit}
use Rattle.feed_journal.specs.Records.{records}
use Rattle.feed_journal.proofs.AppendLemmas.{begins_reads, begins_whole}
use Rattle.feed_journal.proofs.RecordLemmas.{small_read, few_read}
use Rattle.feed_journal.proofs.laws.begun_images_are_whole.Goals as goal

pub returns : goal.returns
returns c = λ content image begins.
    let count = min (length content) payload_count_limit in
    let small = small_read count content in
    let few : length (records content) ≤ payload_count_limit = omega (arith, few_read count content) in
    (begins_whole (records content) small few image begins, begins_reads (records content) small few image begins)
