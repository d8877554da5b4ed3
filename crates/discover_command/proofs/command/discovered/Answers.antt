use Rattle.std.proofs.Common.{ap, sym, ◌∙◌, Err, Some}
use Rattle.std.specs.Prelude.{option_map}
use Rattle.discover_command.proofs.EndLemmas.{refused_given}
use Rattle.discover_command.proofs.command.discovered.Goals as goal

pub returns-in_err-collections-clause-refused : goal.returns-in_err-collections-clause-refused
returns-in_err-collections-clause-refused g c = λ at is observable.
    refused_given (g.F.Fetch.state c.args.fetch.now).answers c.args.address.now c.as_slice.result.now
    c.in_err-collections.field-0.0 c.from_residual-in_err-collections.result at
    (ap Some c.as_slice.ensures.value ∙ sym (ap (option_map (λ bytes. bytes.items)) c.in-Some.is)
    ∙ c.in_ok-body.ensures.answer observable)
    c.from_residual-in_err-collections.ensures.1
    (λ place why e. c.in_err-collections.ensures.refused place why (ap Err e)) is
