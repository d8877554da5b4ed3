use Rattle.feed_reader.proofs.FeedLawLemmas.{feed_not_refused, one_feed, one_feed_refusal}
use Rattle.feed_reader.proofs.laws.bytes_are_read_as_a_feed_in_one_way.Goals as goal

pub returns-clause-documents : goal.returns-clause-documents
returns-clause-documents c = one_feed

pub returns-clause-refusals : goal.returns-clause-refusals
returns-clause-refusals c = one_feed_refusal

pub returns-clause-apart : goal.returns-clause-apart
returns-clause-apart c = feed_not_refused
