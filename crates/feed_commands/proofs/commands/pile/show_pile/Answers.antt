use Rattle.std.proofs.Common.{ap, arith, refl, subst}
use Rattle.doc_source.specs.Outside.{SinkState}
use Rattle.feed_commands.specs.declared.commands.pile.PrintFault.TheVariants.{Other}
use Rattle.command_ends.specs.declared.fault.Fault.{Fault}
use Rattle.command_ends.specs.Answer.{Prints}
use Rattle.command_ends.specs.Fault.{fault_answer}
use Rattle.command_ends.specs.Status.{code_of}
use Rattle.command_ends.proofs.EndLemmas.{answered-refusal}
use Rattle.feed_commands.proofs.CountLemmas.{output-counts, output-of_fault}
use Rattle.store_commands.proofs.CountLemmas.{counts-as}
use Rattle.feed_commands.proofs.PileEndLemmas.{ends-piled, ends-unopened, ends-unpiled, failed-by, only-memory, pile-disk, pile-status}
use Rattle.feed_commands.proofs.commands.pile.show_pile.Goals as goal

pub returns-in-Ok-clause-answered : goal.returns-in-Ok-clause-answered
returns-in-Ok-clause-answered g c = λ observable answered moments input source.
    let whole = c.in-Ok.ensures.whole observable in
    ends-piled _ g.O.Sink.observable _ _ _ whole.0 whole.1 refl whole.2

pub returns-in-Err-Output-clause-answered : goal.returns-in-Err-Output-clause-answered
returns-in-Err-Output-clause-answered g c = λ observable answered moments input source.
    let is = failed-by c.in-Err-Output.is c.in-Err-Output.field-0-is in
    let prefix = c.print_pile.ensures.prefix is observable in
    ends-unpiled _ g.O.Sink.observable _ _ _ prefix.0 prefix.1 refl prefix.2
    (c.print_pile.ensures.output_faults.failed is)

pub returns-in-Err-Other-clause-answered : goal.returns-in-Err-Other-clause-answered
returns-in-Err-Other-clause-answered g c = λ observable answered moments input source.
    let fault = c.in-Err-Other.fault in
    let refused = c.print_pile.ensures.refused fault (failed-by c.in-Err-Other.is c.in-Err-Other.field-0-is)
    (answered-refusal fault (rw c.print_fault.ensures.status at answered)) observable in
    ends-unopened _ g.O.Sink.observable _ _ _ fault refused.0 (ap code_of c.print_fault.ensures.status)
    (λ sink. subst (λ (sent : SinkState). Prints sent (g.O.Sink.state c.print_fault.new.output)
    (fault_answer fault).printed)
    (ap g.O.Sink.state refused.1) (c.print_fault.ensures.prints sink))

pub returns-in-Err-Other-clause-complete : goal.returns-in-Err-Other-clause-complete
returns-in-Err-Other-clause-complete g c = λ observable stored opens disk output.
    let is = failed-by c.in-Err-Other.is c.in-Err-Other.field-0-is in
    only-memory c.in-Err-Other.fault _ (c.print_pile.ensures.faults c.in-Err-Other.fault is)
    (c.print_pile.ensures.opened c.in-Err-Other.fault is observable stored opens)
    (λ same. disk (c.print_pile.ensures.disk_faults.failed (failed-by is (ap (λ (fault : Fault). Other fault) same))))
    (ap code_of c.print_fault.ensures.status)

pub returns-in-Err-Other-clause-statuses : goal.returns-in-Err-Other-clause-statuses
returns-in-Err-Other-clause-statuses g c =
    let is = failed-by c.in-Err-Other.is c.in-Err-Other.field-0-is in
    pile-status c.in-Err-Other.fault _ (c.print_pile.ensures.faults c.in-Err-Other.fault is)
    (ap code_of c.print_fault.ensures.status)

pub returns-in-Ok-clause-disk_faults : goal.returns-in-Ok-clause-disk_faults
returns-in-Ok-clause-disk_faults g c =
    counts-as (λ e. cc) (λ e. absurd (omega (arith, e))) c.in-Ok.ensures.disk_faults

pub returns-in-Ok-clause-output_faults : goal.returns-in-Ok-clause-output_faults
returns-in-Ok-clause-output_faults g c = output-counts
    (counts-as (λ e. cc) (λ e. absurd (omega (arith, e))) c.in-Ok.ensures.output_faults)

pub returns-in-Err-Output-clause-disk_faults : goal.returns-in-Err-Output-clause-disk_faults
returns-in-Err-Output-clause-disk_faults g c =
    let is = failed-by c.in-Err-Output.is c.in-Err-Output.field-0-is in
    counts-as (λ e. cc (is, e)) (λ e. absurd (omega (arith, e))) c.print_pile.ensures.disk_faults

pub returns-in-Err-Output-clause-output_faults : goal.returns-in-Err-Output-clause-output_faults
returns-in-Err-Output-clause-output_faults g c = output-counts
    (counts-as (λ e. refl) (λ e. failed-by c.in-Err-Output.is c.in-Err-Output.field-0-is)
    c.print_pile.ensures.output_faults)

pub returns-in-Err-Other-clause-disk_faults : goal.returns-in-Err-Other-clause-disk_faults
returns-in-Err-Other-clause-disk_faults g c =
    pile-disk _ _ _ _ c.in-Err-Other.fault (failed-by c.in-Err-Other.is c.in-Err-Other.field-0-is)
    (ap code_of c.print_fault.ensures.status) c.print_pile.ensures.disk_faults

pub returns-in-Err-Other-clause-output_faults : goal.returns-in-Err-Other-clause-output_faults
returns-in-Err-Other-clause-output_faults g c = output-of_fault c.in-Err-Other.fault
    (ap code_of c.print_fault.ensures.status)
    (omega (arith, c.print_pile.ensures.output_faults.later, c.print_fault.ensures.faults))
