use Rattle.std.proofs.Common.{◌≡◌, true, false, sym, ◌∙◌}
use Rattle.std.specs.Prelude.{codes}
use Rattle.xml_tokens.proofs.ProgressLemmas.{err_is, fault_on}
use Rattle.xml_tokens.specs.Progress.{pending}
use Rattle.service_reader.specs.Service.{is_app}
use Rattle.service_reader.specs.ServiceReading.{IsReadAs}
use Rattle.service_reader.proofs.ServiceEndLemmas.{fault_after, fault_read, other_read, service_ended}
use Rattle.service_reader.proofs.document.document.Goals as goal

pub returns-in_err-root : goal.returns-in_err-root
returns-in_err-root c =
    let bytes = c.args.bytes.now in
    let address = c.args.address.now in
    let fault = c.in_err-root.field-0.0 in
    err_is (λ r. IsReadAs bytes address r) fault c.from_residual-in_err-root.result
    c.from_residual-in_err-root.ensures.1
    (fault_read bytes address fault c.in_ok-elements.ensures.utf8 c.in_err-root.ensures.read)

pub returns-then-is_app : goal.returns-then-is_app
returns-then-is_app c =
    let bytes = c.args.bytes.now in
    let mid = c.read_root.new.elements in
    let x = c.in_ok-root.ensures.read in
    let is : is_app (codes "service") x.0.name ≡ true = sym (c.is_app.ensures x.0 x.1) ∙ c.if-is_app.true in
    service_ended bytes c.in_ok-elements.ensures.utf8 x.0 mid x.2 c.args.address.now c.service.result
    c.service.new.elements is (c.service.ensures.read x.2.to x.2.is_at) c.service.ensures.over

pub returns-in_err-skip : goal.returns-in_err-skip
returns-in_err-skip c =
    let bytes = c.args.bytes.now in
    let address = c.args.address.now in
    let mid = c.read_root.new.elements in
    let x = c.in_ok-root.ensures.read in
    let fault = c.in_err-skip.field-0.0 in
    err_is (λ r. IsReadAs bytes address r) fault c.from_residual-in_err-skip.result
    c.from_residual-in_err-skip.ensures.1
    (fault_after bytes c.in_ok-elements.ensures.utf8 x.0 mid x.2 address fault
    (c.in_err-skip.ensures.read x.2.to x.2.is_at))

pub returns-in_err-drain : goal.returns-in_err-drain
returns-in_err-drain c =
    let bytes = c.args.bytes.now in
    let address = c.args.address.now in
    let mid = c.read_root.new.elements in
    let x = c.in_ok-root.ensures.read in
    let y = c.in_ok-skip.ensures.read x.2.to x.2.is_at in
    let fault = c.in_err-drain.field-0.0 in
    err_is (λ r. IsReadAs bytes address r) fault c.from_residual-in_err-drain.result
    c.from_residual-in_err-drain.ensures.1
    (fault_after bytes c.in_ok-elements.ensures.utf8 x.0 mid x.2 address fault
    (fault_on mid.length (pending mid) x.2.to y.1 c.skip.new.self y.2 fault
    (c.in_err-drain.ensures.read y.2.to y.2.is_at)))

pub returns : goal.returns
returns c =
    let mid = c.read_root.new.elements in
    let x = c.in_ok-root.ensures.read in
    let y = c.in_ok-skip.ensures.read x.2.to x.2.is_at in
    let other : is_app (codes "service") x.0.name ≡ false = sym (c.is_app.ensures x.0 x.1) ∙ c.if-is_app.false in
    other_read c.args.bytes.now c.in_ok-elements.ensures.utf8 x.0 mid x.2 c.args.address.now c.in_ok-root.root.at
    c.skip.new.self c.drain.new.self x.1.place other y (c.in_ok-drain.ensures.read y.2.to y.2.is_at)
    c.in_ok-drain.ensures.over
