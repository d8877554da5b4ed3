use Rattle.std.proofs.Common.{◌≡◌, [], ◌∷◌, length, Ok, Some, None, refl, sym, ap, subst, ◌∙◌, rules}
use Rattle.xml_tokens.specs.declared.elements.Event.TheVariants.{Begin, Said}
use Rattle.xml_tokens.specs.Progress.{IsFaultFrom, IsLed, first_point, pending}
use Rattle.xml_tokens.specs.Tree.Event.{begin}
use Rattle.xml_tokens.proofs.DocumentLemmas.{root_comes, root_led}
use Rattle.xml_tokens.proofs.ProgressLemmas.{err_is}
use Rattle.service_reader.specs.ServiceDocument.{service_depth}
use Rattle.service_reader.specs.ServiceReading.{IsRootRead}
use Rattle.service_reader.proofs.document.read_root.Goals as goal

pub returns-in_err-root-clause-read : goal.returns-in_err-root-clause-read
returns-in_err-root-clause-read c =
    let bytes = c.args.bytes.now in
    let from = first_point service_depth bytes in
    let fault = c.in_err-root.field-0.0 in
    let f : IsFaultFrom (length bytes) from fault =
    subst (λ n. IsFaultFrom n from fault) c.requires.total (c.in_err-root.ensures.read from c.requires.at) in
    err_is (λ r. IsRootRead bytes r c.next.new.self) fault c.from_residual.result c.from_residual.ensures.1 f

pub returns-in-Some-Begin-clause-read : goal.returns-in-Some-Begin-clause-read
returns-in-Some-Begin-clause-read c =
    let old = c.args.elements.now in
    let new = c.next.new.self in
    let from = first_point service_depth c.args.bytes.now in
    let is : c.in-Some-Begin.field-0 ≡ Begin c.in-Some-Begin.root = search rules in
    let x = root_led old.length (pending old) from c.in_ok-root.field-0 c.in-Some-Begin.root new
    (c.in-Some-Begin.is ∙ ap (λ k. Some k) is) (c.in_ok-root.ensures.read from c.requires.at) in (
      x.0,
      x.1,
      subst (λ n. IsLed n [] from (begin x.0 ∷ []) new) c.requires.total
          (subst (λ f. IsLed old.length f from (begin x.0 ∷ []) new) c.requires.none x.2),
    )

pub returns-in-Some-Said-clause-read : goal.returns-in-Some-Said-clause-read
returns-in-Some-Said-clause-read c =
    let old = c.args.elements.now in
    let from = first_point service_depth c.args.bytes.now in
    let comes = root_comes old.length (pending old) from c.in_ok-root.field-0 c.next.new.self c.requires.none refl
    (c.in_ok-root.ensures.read from c.requires.at) (λ e. (c.in_ok-root.ensures.ended (ap Ok e)).0) in
    let is : c.in-Some-Said.field-0 ≡ Said c.in-Some-Said.field-0-0 = search rules in
    let bad : Some (Said c.in-Some-Said.field-0-0) ≡ Some (Begin comes.0) =
    sym (c.in-Some-Said.is ∙ ap (λ k. Some k) is) ∙ comes.1 in
    absurd cc

pub returns-in-None-clause-read : goal.returns-in-None-clause-read
returns-in-None-clause-read c =
    let old = c.args.elements.now in
    let from = first_point service_depth c.args.bytes.now in
    let comes = root_comes old.length (pending old) from c.in_ok-root.field-0 c.next.new.self c.requires.none refl
    (c.in_ok-root.ensures.read from c.requires.at) (λ e. (c.in_ok-root.ensures.ended (ap Ok e)).0) in
    let bad : None ≡ Some (Begin comes.0) = sym c.in-None.is ∙ comes.1 in
    absurd cc
