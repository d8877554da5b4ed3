use Rattle.std.proofs.Common.{sym, ◌∙◌}
use Rattle.feed_journal.specs.Records.{records}
use Rattle.feed_recovery.proofs.FaultLemmas.{journal_one}
use Rattle.feed_recovery.proofs.laws.stores_open_in_one_way.Goals as goal

pub returns : goal.returns
returns c = λ journal sealed head other history left seals count one two.
    let same = journal_one (records journal) head other history left one.is_journal two.is_journal in
    (same.0, same.1, sym one.number ∙ two.number)
