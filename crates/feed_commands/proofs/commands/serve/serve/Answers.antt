use Rattle.std.proofs.Common.{◌∙◌, sym, subst, ap, inl, inr}
use Rattle.std.specs.Prelude.{Option}
use Rattle.std.proofs.lemmas.Result.{on_ok_weaker}
use Rattle.feed_commands.specs.declared.commands.serve.SessionFault.{SessionFault}
use Rattle.feed_commands.specs.Serve.{session_status}
use Rattle.command_ends.specs.Status.{code_of}
use Rattle.feed_commands.proofs.ServeLemmas.{IsServeCode, disk-counts, door-counts, output-counts, serve-code}
use Rattle.feed_commands.proofs.ServeLemmas.{opened-load, served-whole, session-prints, session-status, unopened-end}
use Rattle.feed_commands.proofs.commands.serve.serve.Goals as goal

pub returns-clause-serves : goal.returns-clause-serves
returns-clause-serves g c =
    let session = c.serve-session in
    let end = session.result.end in
    record {
      end = end;
      status = session-status end c.of-fault.result c.print_session-printed.result c.code.result
          c.of-fault.ensures (c.code.ensures ∙ ap code_of c.status_of.ensures);
      prints = λ observable. session-prints c.print_session-printed.result _ _ c.as_slice.result.now
          session.result.lines.items
          c.of-fault.result _ c.as_slice.ensures.items c.of-fault.ensures
          (c.print_session-printed.ensures.prefix observable)
          (on_ok_weaker c.print_session-printed.result (λ whole. whole observable) c.print_session-printed.ensures.whole)
          c.print_session-printed.ensures.counts;
      most = session.ensures.ends.most;
      serves = λ opened. session.ensures.serves (λ fault is. opened-load end fault opened is);
      ends = session.ensures.ends.cause;
      unopened = λ closed. record {
        no_lines = (session.ensures.unopened.unserved (unopened-end end closed)).0;
        same_door = ap g.L.Door.state (session.ensures.unopened.unserved (unopened-end end closed)).1;
        safe = session.ensures.unopened.safe (unopened-end end closed);
      };
      refused = session.ensures.unopened.refused;
      only = session.ensures.unopened.only;
      whole = λ observable stored opens. record {
        ends = λ disk door output.
            served-whole end c.of-fault.result c.print_session-printed.result c.code.result _ _
            c.of-fault.ensures (c.code.ensures ∙ ap code_of c.status_of.ensures)
            (session.ensures.unopened.only observable stored opens)
            (λ is. disk (session.ensures.disk_faults.failed (inl is)))
            (λ is. disk (session.ensures.disk_faults.failed (inr is)))
            (λ is. door (session.ensures.door_faults.failed is)) c.print_session-printed.ensures.counts output;
      };
    }

pub returns-clause-statuses : goal.returns-clause-statuses
returns-clause-statuses g c =
    subst IsServeCode
    (sym (c.code.ensures ∙ ap code_of c.status_of.ensures
    ∙ ap (λ (f : Option SessionFault). code_of (session_status f c.print_session-printed.result)) c.of-fault.ensures))
    (serve-code c.serve-session.result.end c.print_session-printed.result)

pub returns-clause-disk_faults : goal.returns-clause-disk_faults
returns-clause-disk_faults g c =
    disk-counts c.serve-session.result.end c.print_session-printed.result c.code.result _ _
    (c.code.ensures ∙ ap code_of c.status_of.ensures
    ∙ ap (λ (f : Option SessionFault). code_of (session_status f c.print_session-printed.result)) c.of-fault.ensures)
    c.serve-session.ensures.disk_faults

pub returns-clause-door_faults : goal.returns-clause-door_faults
returns-clause-door_faults g c =
    door-counts c.serve-session.result.end c.print_session-printed.result c.code.result _ _
    (c.code.ensures ∙ ap code_of c.status_of.ensures
    ∙ ap (λ (f : Option SessionFault). code_of (session_status f c.print_session-printed.result)) c.of-fault.ensures)
    c.serve-session.ensures.door_faults

pub returns-clause-output_faults : goal.returns-clause-output_faults
returns-clause-output_faults g c =
    output-counts c.serve-session.result.end c.print_session-printed.result c.code.result _ _
    (c.code.ensures ∙ ap code_of c.status_of.ensures
    ∙ ap (λ (f : Option SessionFault). code_of (session_status f c.print_session-printed.result)) c.of-fault.ensures)
    c.print_session-printed.ensures.counts
