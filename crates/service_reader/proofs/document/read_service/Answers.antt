use Rattle.std.proofs.Common.{◌≡◌, Ok, Err, subst}
use Rattle.std.specs.Prelude.{MatchResult}
use Rattle.xml_tokens.proofs.ProgressLemmas.{err_is}
use Rattle.service_reader.specs.declared.fault.ServiceRead.TheVariants.{NotRead, NoMemory}
use Rattle.service_reader.specs.ServiceDocument.{IsServiceRefusedAt}
use Rattle.service_reader.specs.ServiceReading.{IsReadAs, service_fault}
use Rattle.service_reader.proofs.ServiceEndLemmas.{fault_memory, fault_said, made_refused, made_spelled}
use Rattle.service_reader.proofs.ServiceLawLemmas.{one_service, service_not_refused}
use Rattle.service_reader.proofs.document.read_service.Goals as goal

pub returns-in_err-collections-clause-only : goal.returns-in_err-collections-clause-only
returns-in_err-collections-clause-only c = λ spelled s.
    let fault = c.in_err-collections.field-0.0 in
    err_is (λ r. MatchResult r (λ made. made.items ≡ spelled) (λ why. why ≡ NoMemory)) (service_fault fault)
    c.from_residual.result c.from_residual.ensures.1
    (fault_memory c.args.bytes.now c.args.address.now spelled fault s c.in_err-collections.ensures)

pub returns-in_err-collections-clause-refused : goal.returns-in_err-collections-clause-refused
returns-in_err-collections-clause-refused c = λ at why.
    let bytes = c.args.bytes.now in
    let address = c.args.address.now in
    let fault = c.in_err-collections.field-0.0 in
    err_is (λ r. r ≡ Err (NotRead at why) → IsServiceRefusedAt bytes address at why) (service_fault fault)
    c.from_residual.result c.from_residual.ensures.1
    (λ same. let e : service_fault fault ≡ NotRead at why = cc in
    fault_said bytes address fault at why c.in_err-collections.ensures e)

pub returns-in-Ok-clause-found : goal.returns-in-Ok-clause-found
returns-in-Ok-clause-found c =
    let bytes = c.args.bytes.now in
    let address = c.args.address.now in
    made_spelled bytes address c.in-Ok.collections
    (subst (λ k. IsReadAs bytes address (Ok k)) c.in-Ok.is c.in_ok-collections.ensures)

pub returns-in-Ok-clause-only : goal.returns-in-Ok-clause-only
returns-in-Ok-clause-only c = λ spelled s.
    let bytes = c.args.bytes.now in
    let address = c.args.address.now in
    let made = c.in-Ok.collections in
    one_service bytes address made.items spelled
    (made_spelled bytes address made
    (subst (λ k. IsReadAs bytes address (Ok k)) c.in-Ok.is c.in_ok-collections.ensures))
    s

pub returns-in-Err-clause-only : goal.returns-in-Err-clause-only
returns-in-Err-clause-only c = λ spelled s.
    let bytes = c.args.bytes.now in
    let address = c.args.address.now in
    absurd (service_not_refused bytes address spelled c.in-Err.at c.in-Err.why s
    (made_refused bytes address c.in-Err.at c.in-Err.why
    (subst (λ k. IsReadAs bytes address (Ok k)) c.in-Err.is c.in_ok-collections.ensures)))

pub returns-in-Err-clause-refused : goal.returns-in-Err-clause-refused
returns-in-Err-clause-refused c = λ at why stated.
    let bytes = c.args.bytes.now in
    let address = c.args.address.now in
    let here : c.in-Err.at ≡ at = cc in
    let cause : c.in-Err.why ≡ why = cc in
    subst (λ k. IsServiceRefusedAt bytes address k why) here
    (subst (λ k. IsServiceRefusedAt bytes address c.in-Err.at k) cause
    (made_refused bytes address c.in-Err.at c.in-Err.why
    (subst (λ k. IsReadAs bytes address (Ok k)) c.in-Err.is c.in_ok-collections.ensures)))
