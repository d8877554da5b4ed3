use Rattle.std.proofs.Common.{◌≡◌, ◌-◌, sym, ◌∙◌, ap, inl, refl, length, Ok}
use Rattle.atom_writer.proofs.PiecedLemmas.{one_reading, refused_there}
use Rattle.member_rules.specs.Coding.{operations}
use Rattle.member_rules.proofs.OperationLemmas.{operations_compared}
use Rattle.member_rules.proofs.SequenceLemmas.{whole_refused}
use Rattle.member_rules.proofs.codec.read_op.Goals as goal

pub returns-in-Ok-clause-only : goal.returns-in-Ok-clause-only
returns-in-Ok-clause-only c = λ v is e.
    inl (ap (λ z. Ok z) (one_reading operations operations_compared _ v c.in-Ok.ensures.0 is (sym c.in-Ok.ensures.1
    ∙ e)))

pub returns-in-Err-Mismatch-clause-only : goal.returns-in-Err-Mismatch-clause-only
returns-in-Err-Mismatch-clause-only c = λ v is e.
    let left = c.read_whole.new.unread.rest.now in
    let refused = whole_refused operations c.args.bytes.now left _ c.in-Err-Mismatch.field-0-is
    c.in-Err-Mismatch.ensures in
    absurd ((refused_there operations operations_compared c.args.bytes.now left _ refused refl).0 v is e)

pub returns-in-Err-Mismatch-clause-refused : goal.returns-in-Err-Mismatch-clause-refused
returns-in-Err-Mismatch-clause-refused c = λ at e.
    let left = c.read_whole.new.unread.rest.now in
    let place : length c.args.bytes.now - length left ≡ at = cc in
    let refused = whole_refused operations c.args.bytes.now left _ c.in-Err-Mismatch.field-0-is
    c.in-Err-Mismatch.ensures in
    refused_there operations operations_compared c.args.bytes.now left at refused (sym place)
