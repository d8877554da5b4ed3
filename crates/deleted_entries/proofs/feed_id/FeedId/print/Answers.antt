use Rattle.std.proofs.Common.{length, ap, sym, ◌∙◌}
use Rattle.deleted_entries.proofs.IdLemmas.{length-by_index}
use Rattle.deleted_entries.proofs.feed_id.FeedId.print.Goals as goal

pub copy_from_slice-requires : goal.copy_from_slice-requires
copy_from_slice-requires c = sym (ap length (c.as_bytes.ensures.value ∙ c.encode_lower-text.ensures.text)
    ∙ length-by_index 36 _)
