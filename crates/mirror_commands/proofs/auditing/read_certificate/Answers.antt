use Rattle.std.proofs.Common.{ℕ, List, Err, ap, subst}
use Rattle.std.proofs.lemmas.Result.{err_from_is_err_and}
use Rattle.coverage_certificate.specs.Text.{IsFirstBadLine}
use Rattle.mirror_commands.proofs.AuditEndLemmas.{part-refused, text-refused}
use Rattle.mirror_commands.proofs.auditing.read_certificate.Goals as goal

pub returns-in_err-text-clause-refused : goal.returns-in_err-text-clause-refused
returns-in_err-text-clause-refused g c =
    let p = err_from_is_err_and c.from_residual.result c.from_residual.ensures.1 in
    rw (p.1, p.2) (λ refusal observable.
    part-refused (g.I.Source.state c.args.input.now).left c.in_err-text.field-0.0 c.in_err-text.ensures.only_errors
    (λ is. c.in_err-text.ensures.past (ap Err is) observable) refusal)

pub returns-in-Err-clause-refused : goal.returns-in-Err-clause-refused
returns-in-Err-clause-refused g c = rw c.fault_of.ensures (λ refusal observable.
    text-refused (g.I.Source.state c.args.input.now) (g.I.Source.state c.read_part.new.input) c.in_ok-text.text.items
    (c.in_ok-text.ensures.part observable) c.in_ok-text.ensures.room c.in-Err.fault
    (λ line is. subst (λ (t : List ℕ). IsFirstBadLine t line) c.as_slice.ensures.value
    (c.in-Err.ensures.bad line (ap Err is))) refusal)
