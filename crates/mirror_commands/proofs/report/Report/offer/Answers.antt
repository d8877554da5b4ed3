use Rattle.std.proofs.Common.{◌≡◌, ◌∙◌, Err, Some, ap, sym}
use Rattle.command_ends.specs.declared.fault.Fault.TheVariants.{Disk}
use Rattle.mirror_commands.proofs.RoomFaultLemmas.{reportable-not_disk, room-disk, room-not_disk}
use Rattle.mirror_commands.proofs.report.Report.offer.Goals as goal

pub returns-in-Some-clause-usable : goal.returns-in-Some-clause-usable
returns-in-Some-clause-usable g c = λ other.
    let not_disk = room-not_disk c.offer-answer.result c.in-Some.fault (sym c.in-Some.ensures)
    (λ e. other (ap Err e)) in
    record {
      unspent = (c.offer-answer.ensures.sound not_disk).unspent;
      stands = (c.offer-answer.ensures.sound not_disk).stands;
    }

pub returns-in_err-added-clause-usable : goal.returns-in_err-added-clause-usable
returns-in_err-added-clause-usable g c = λ other.
    let not_disk = reportable-not_disk c.offer-answer.result (sym c.in_default.ensures) in
    record {
      unspent = (c.offer-answer.ensures.sound not_disk).unspent;
      stands = (c.offer-answer.ensures.sound not_disk).stands;
    }

pub returns-clause-usable : goal.returns-clause-usable
returns-clause-usable g c = λ other.
    let not_disk = reportable-not_disk c.offer-answer.result (sym c.in_default.ensures) in
    record {
      unspent = (c.offer-answer.ensures.sound not_disk).unspent;
      stands = (c.offer-answer.ensures.sound not_disk).stands;
    }

pub returns-in-Some-clause-failed_taking : goal.returns-in-Some-clause-failed_taking
returns-in-Some-clause-failed_taking g c = λ is.
    let disk : c.in-Some.fault ≡ Disk = cc in
    c.offer-answer.ensures.failed_taking
    (room-disk c.offer-answer.result (sym c.in-Some.ensures ∙ ap Some disk))
