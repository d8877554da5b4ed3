use Rattle.std.proofs.Common.{ap, ◌≡◌, Err}
use Rattle.command_ends.specs.Printed.{printed_answer}
use Rattle.command_ends.specs.Status.{code_of}
use Rattle.command_ends.proofs.AnsweredLemmas.{ends-printed}
use Rattle.discover_command.specs.Ends.{own_answer}
use Rattle.discover_command.proofs.EndLemmas.{asks_weaker, fault_answered, own_given, ran_out_status}
use Rattle.discover_command.proofs.command.discover.Goals as goal

pub returns-in-Ok-clause-asks : goal.returns-in-Ok-clause-asks
returns-in-Ok-clause-asks g c = λ observable.
    record {
      asks = asks_weaker _ _ c.args.address.now _ _ (c.in-Ok.ensures.asks observable) (λ e. absurd (cc));
      own = λ name is_name url there answered.
          ends-printed (λ given. given ≡ own_answer name) g.O.Sink.observable (g.O.Sink.state c.args.output.now)
          (g.O.Sink.state c.end_printed.new.output) (printed_answer c.in-Ok.printed) (code_of c.end_printed.result)
          (own_given c.service_doc_is_read.ensures c.discover_has_one_answer.ensures
          (g.F.Fetch.state c.args.fetch.now).answers c.args.address.now name
          (printed_answer c.in-Ok.printed) is_name c.requires url there (c.in-Ok.ensures.given observable))
          c.in-Ok.ensures.ends c.end_printed.ensures.ends c.end_printed.ensures.prints c.end_printed.ensures.whole;
    }

pub returns-in-Err-clause-asks : goal.returns-in-Err-clause-asks
returns-in-Err-clause-asks g c = λ observable.
    record {
      asks = asks_weaker _ _ c.args.address.now _ _ (c.in-Err.ensures.asks observable)
          (ran_out_status c.in-Err.fault c.print_discover_fault.result c.print_discover_fault.ensures.status);
      own = λ name is_name url there answered.
          fault_answered (λ given. given ≡ own_answer name) g.O.Sink.observable (g.O.Sink.state c.args.output.now)
          (g.O.Sink.state c.print_discover_fault.new.output) c.in-Err.fault (code_of c.print_discover_fault.result)
          (ap code_of c.print_discover_fault.ensures.status)
          (λ at is. own_given c.service_doc_is_read.ensures c.discover_has_one_answer.ensures
          (g.F.Fetch.state c.args.fetch.now).answers c.args.address.now name _
          is_name c.requires url there (c.in-Err.ensures.refused at (ap Err is) observable))
          c.print_discover_fault.ensures.prints answered;
    }
