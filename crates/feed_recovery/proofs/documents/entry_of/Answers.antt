use Rattle.std.proofs.Common.{Ok, Err, Result, ap, ◌∙◌}
use Rattle.member_rules.specs.declared.codec.CodecFault.{CodecFault}
use Rattle.member_rules.specs.declared.operation.Op.{Op}
use Rattle.feed_recovery.proofs.EntryLemmas.{no_removal, no_refusal, no_setting}
use Rattle.feed_recovery.proofs.documents.entry_of.Goals as goal

pub returns-in-Ok-Remove-clause-never : goal.returns-in-Ok-Remove-clause-never
returns-in-Ok-Remove-clause-never c = λ entry is_entry sets index.
    absurd (no_removal c.read_op.result c.args.payload.now entry is_entry sets c.read_op.ensures.only
    c.in-Ok-Remove.field-0-0
    (let found : Op → Result Op CodecFault = λ o. Ok o in c.in-Ok-Remove.is ∙ ap found c.in-Ok-Remove.field-0-is))

pub returns-in-Ok-Set-clause-never : goal.returns-in-Ok-Set-clause-never
returns-in-Ok-Set-clause-never c = λ entry is_entry sets index.
    absurd (no_setting c.read_op.result c.args.payload.now entry is_entry sets c.read_op.ensures.only
    c.in-Ok-Set.field-0-0 c.in-Ok-Set.field-0-1
    (let found : Op → Result Op CodecFault = λ o. Ok o in c.in-Ok-Set.is ∙ ap found c.in-Ok-Set.field-0-is))

pub returns-in-Err-BadField-clause-never : goal.returns-in-Err-BadField-clause-never
returns-in-Err-BadField-clause-never c = λ entry is_entry sets index.
    let failed : CodecFault → Result Op CodecFault = λ fault. Err fault in
    absurd (no_refusal c.read_op.result c.args.payload.now entry is_entry sets c.read_op.ensures.only _
    (c.in-Err-BadField.is ∙ ap failed c.in-Err-BadField.field-0-is))
