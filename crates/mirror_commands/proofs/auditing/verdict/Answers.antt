use Rattle.std.proofs.Common.{inr}
use Rattle.std.proofs.lemmas.Result.{err_from_is_err_and}
use Rattle.command_ends.specs.declared.fault.Fault.{Fault}
use Rattle.mirror_commands.specs.Audit.{IsAudited}
use Rattle.mirror_commands.specs.AuditedPile.{RefusesPile}
use Rattle.command_ends.specs.Fault.{IsRefusal, fault_answer}
use Rattle.mirror_commands.proofs.AuditEndLemmas.{err-weaker, pile-refused, pile-stops}
use Rattle.mirror_commands.proofs.auditing.verdict.Goals as goal

pub returns-in_err-certificate-clause-refused : goal.returns-in_err-certificate-clause-refused
returns-in_err-certificate-clause-refused g c =
    let p = err_from_is_err_and c.from_residual.result c.from_residual.ensures.1 in
    rw (p.1, p.2) (λ refusal observable. c.in_err-certificate.ensures.refused refusal observable)

pub returns-clause-refused : goal.returns-clause-refused
returns-clause-refused g c =
    let first = (g.I.Source.state c.args.input.now).left in
    let pile = (g.I.Source.state c.read_certificate.new.input).left in
    let room = c.in_ok-certificate.room in
    err-weaker (λ (fault : Fault). IsRefusal fault → g.I.Source.observable → RefusesPile room pile fault)
    (λ (fault : Fault). IsRefusal fault → g.I.Source.observable → IsAudited first (fault_answer fault)) c.judge-printed.result
    (λ fault refuses refusal observable.
    pile-refused first c.in_ok-certificate.certificate pile room (c.in_ok-certificate.ensures.begins observable)
    c.in_ok-certificate.ensures.room fault (refuses refusal observable))
    c.judge-printed.ensures.refused

pub returns-clause-within : goal.returns-clause-within
returns-clause-within g c = λ is observable.
    inr (pile-stops (g.I.Source.state c.args.input.now) (g.I.Source.state c.read_certificate.new.input)
    (g.I.Source.state c.judge-printed.new.input) c.in_ok-certificate.certificate c.in_ok-certificate.room
    (c.in_ok-certificate.ensures.begins observable) c.in_ok-certificate.ensures.room (c.judge-printed.ensures.within is observable))
