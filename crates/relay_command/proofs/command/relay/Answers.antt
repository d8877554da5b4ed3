use Rattle.std.proofs.Common.{ap, inl, inr}
use Rattle.std.proofs.lemmas.Result.{on_ok_weaker}
use Rattle.command_ends.proofs.PrintLemmas.{prints-from}
use Rattle.command_ends.specs.Status.{code_of}
use Rattle.relay_command.proofs.EndLemmas.{disk-counts, door-counts, end-may, end-status, end-whole, output-counts}
use Rattle.relay_command.proofs.command.relay.Goals as goal

pub returns-clause-ends : goal.returns-clause-ends
returns-clause-ends g c =
    let session = c.serve-session in
    let end = session.result.end in
    let printed = c.print-printed.result in
    let is = ap code_of c.status-status.ensures in
    record {
      end = end;
      lines = session.result.lines.items;
      status = end-status end printed (code_of c.status-status.result) is;
      prints = λ seen. prints-from printed _ _ _ (c.print-printed.ensures.prefix seen)
          (on_ok_weaker printed (λ whole. whole seen) c.print-printed.ensures.whole) c.print-printed.ensures.counts;
      ends = session.ensures.ends;
      relays = session.ensures.relays;
      unopened = session.ensures.unopened;
      load = session.ensures.load;
      area = session.ensures.area;
      whole = λ seen kept loads. record {
        ends = λ disk door output.
            end-whole end printed (code_of c.status-status.result) is _ _
            (session.ensures.load.only seen kept loads)
            (λ e. disk (session.ensures.disk_faults.failed (inl e)))
            (λ e. disk (session.ensures.disk_faults.failed (inr e)))
            (λ e. door (session.ensures.door_faults.failed e)) c.print-printed.ensures.counts output;
      };
    }

pub returns-clause-statuses : goal.returns-clause-statuses
returns-clause-statuses g c =
    end-may c.serve-session.result.end c.print-printed.result (code_of c.status-status.result)
    (ap code_of c.status-status.ensures)

pub returns-clause-disk_faults : goal.returns-clause-disk_faults
returns-clause-disk_faults g c =
    disk-counts c.serve-session.result.end c.print-printed.result (code_of c.status-status.result)
    (ap code_of c.status-status.ensures) _ _ c.serve-session.ensures.disk_faults

pub returns-clause-door_faults : goal.returns-clause-door_faults
returns-clause-door_faults g c =
    door-counts c.serve-session.result.end c.print-printed.result (code_of c.status-status.result)
    (ap code_of c.status-status.ensures) _ _ c.serve-session.ensures.door_faults

pub returns-clause-output_faults : goal.returns-clause-output_faults
returns-clause-output_faults g c =
    output-counts c.serve-session.result.end c.print-printed.result (code_of c.status-status.result)
    (ap code_of c.status-status.ensures) _ _ c.print-printed.ensures.counts
