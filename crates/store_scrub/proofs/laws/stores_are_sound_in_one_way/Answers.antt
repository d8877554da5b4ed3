use Rattle.std.proofs.Common.{List, length, sym, ◌∙◌, ap}
use Rattle.feed_journal.specs.Records.{records}
use Rattle.feed_recovery.proofs.FaultLemmas.{journal_one}
use Rattle.member_rules.specs.declared.operation.Op.{Op}
use Rattle.store_scrub.proofs.laws.stores_are_sound_in_one_way.Goals as goal

pub returns : goal.returns
returns c = λ journal sealed operations seals number count one two.
    let same = journal_one (records journal) one.head two.head one.history two.history one.opens.is_journal
    two.opens.is_journal in (
      one.number ∙ ap (λ (l : List Op). length l) same.1 ∙ sym two.number,
      sym one.opens.number ∙ two.opens.number,
    )
