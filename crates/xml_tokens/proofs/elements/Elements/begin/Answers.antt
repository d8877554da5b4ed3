use Rattle.std.proofs.Common.{◌≡◌, refl, sym, ap, subst, ◌∙◌}
use Rattle.xml_tokens.specs.declared.elements.Elements.{Elements}
use Rattle.xml_tokens.specs.declared.elements.Stage.TheVariants.{Root}
use Rattle.xml_tokens.specs.declared.fault.TokenFault.TheVariants.{NoMemory}
use Rattle.xml_tokens.specs.Scopes.{AreScopesOf, OpensScope}
use Rattle.xml_tokens.specs.Progress.{IsBegun, IsFaultFrom}
use Rattle.xml_tokens.proofs.ProgressLemmas.{err_is}
use Rattle.xml_tokens.proofs.BeginTagLemmas.{admitted, begin_led, whole_tag}
use Rattle.xml_tokens.proofs.RefusalLemmas.{admit_refused, slash_refused, unset_refused}
use Rattle.xml_tokens.proofs.StepLemmas.{read_shorter}
use Rattle.xml_tokens.proofs.elements.Elements.begin.Goals as goal

pub returns-in_err-admit-clause-read : goal.returns-in_err-admit-clause-read
returns-in_err-admit-clause-read c = λ place before from x is only read xml same some.
    let old = c.args.self.now in
    err_is (λ r. IsBegun old.length from r old) c.in_err-admit.field-0.0 c.from_residual.result
    c.from_residual.ensures.1
    (admit_refused from old before x only some place c.args.tag old.cursor.rest.now c.args.at c.in_err-admit.field-0.0
    c.requires read same (sym c.in_err-admit.ensures))

pub returns-in_err-declare-clause-read : goal.returns-in_err-declare-clause-read
returns-in_err-declare-clause-read c = λ place before from x is only read xml same some.
    err_is (λ r. IsBegun c.args.self.now.length from r (record c.args.self.now { scopes = c.declare.new.self }))
    NoMemory
    c.from_residual-in_err-declare.result c.from_residual-in_err-declare.ensures.1 tt

pub returns-in_default-clause-read : goal.returns-in_default-clause-read
returns-in_default-clause-read c = λ place before from x is only read xml same some.
    let old = c.args.self.now in
    let opens : OpensScope c.args.tag.attributes.items old.scopes c.declare.new.self =
    subst (λ r. OpensScope r old.scopes c.declare.new.self) c.as_slice.ensures.value c.in_ok-declare.ensures in
    let may = admitted old c.args.at c.args.tag.end (sym c.in_ok-admit.ensures) in
    subst (IsFaultFrom old.length from) (sym c.broken.ensures)
    (unset_refused from old before x only some place c.args.tag old.cursor.rest.now c.args.at c.declare.new.self
    c.split_name.result.0 c.split_name.result.1 c.requires read same may opens c.in_default.ensures
    c.split_name.ensures)

pub returns-in_default-emptiness-clause-read : goal.returns-in_default-emptiness-clause-read
returns-in_default-emptiness-clause-read c = λ place before from x is only read xml same some.
    let old = c.args.self.now in
    let opens : OpensScope c.args.tag.attributes.items old.scopes c.declare.new.self =
    subst (λ r. OpensScope r old.scopes c.declare.new.self) c.as_slice.ensures.value c.in_ok-declare.ensures in
    let may = admitted old c.args.at c.args.tag.end (sym c.in_ok-admit.ensures) in
    subst (IsFaultFrom old.length from) (sym c.broken-in_default-emptiness.ensures)
    (slash_refused from old before x only some place c.args.tag old.cursor.rest.now c.declare.new.self
    c.split_name.result.0 c.split_name.result.1 c.in-Some.namespace c.requires read may
    (sym c.in_default-emptiness.is ∙ c.emptiness.ensures) opens c.in-Some.ensures c.split_name.ensures)

pub returns-in_err-push-clause-read : goal.returns-in_err-push-clause-read
returns-in_err-push-clause-read c = λ place before from x is only read xml same some.
    err_is (λ r. IsBegun c.args.self.now.length from r c.push.new.self) NoMemory
    c.from_residual-in_err-push.result c.from_residual-in_err-push.ensures.1 tt

pub returns-clause-read : goal.returns-clause-read
returns-clause-read c = λ place before from x is only read xml same some.
    let old = c.args.self.now in
    let b = c.in-Some-emptiness.is_empty in
    let new : Elements = record c.push.new.self { stage = Root; empty = b } in
    let pushed = c.in_ok-push.ensures.0 in
    let scopes : c.push.new.self.scopes ≡ c.declare.new.self = ap (λ e. e.scopes) pushed in
    begin_led from old new before x place c.args.tag b c.args.at c.in-Some.namespace c.split_name.result.0
    c.split_name.result.1 c.requires
    (whole_tag c.args.tag.end b place before c.args.tag old.cursor.rest.now
    (sym c.in-Some-emptiness.is ∙ c.emptiness.ensures) read) xml same
    (admitted old c.args.at c.args.tag.end (sym c.in_ok-admit.ensures))
    (subst (λ r. OpensScope r old.scopes new.scopes) c.as_slice.ensures.value
    (subst (λ s. OpensScope c.as_slice.result.now old.scopes s) (sym scopes) c.in_ok-declare.ensures))
    (λ opened are. c.in-Some.ensures opened (subst (AreScopesOf opened) scopes are)) c.split_name.ensures
    (ap (λ e. e.most) pushed, ap (λ e. e.end) pushed, ap (λ e. e.length) pushed) (ap (λ e. e.cursor.rest.now) pushed)
    c.in_ok-push.ensures.1 refl refl

pub returns-clause-shorter : goal.returns-clause-shorter
returns-clause-shorter c = λ place before read.
    let b = c.in-Some-emptiness.is_empty in
    let r = whole_tag c.args.tag.end b place before c.args.tag c.args.self.now.cursor.rest.now
    (sym c.in-Some-emptiness.is ∙ c.emptiness.ensures) read in
    read_shorter place before r.lexemes c.args.self.now.cursor.rest.now r.read
