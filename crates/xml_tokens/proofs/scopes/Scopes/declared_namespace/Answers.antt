use Rattle.std.proofs.Common.{ap, sym, ◌∙◌, option_map}
use Rattle.std.specs.BTreeMap.{get_by}
use Rattle.std.specs.Prelude.{option_and_then, slice_get}
use Rattle.xml_tokens.specs.declared.scopes.Declaration.{Declaration}
use Rattle.xml_tokens.specs.Keys.{key_cmp}
use Rattle.xml_tokens.specs.Scopes.{checked_place}
use Rattle.xml_tokens.proofs.PlaceLemmas.{at_place, finds_declared, past_end}
use Rattle.xml_tokens.proofs.scopes.Scopes.declared_namespace.Goals as goal

pub returns-in_err-place : goal.returns-in_err-place
returns-in_err-place c = λ indexed.
    let s = c.args.self.now in
    let ds = s.declared.items in
    c.from_residual.ensures
    ∙ ap (option_and_then (λ i. option_map (λ (d : Declaration). d.namespace) (slice_get ds i)))
    (sym c.in_err-place.was)
    ∙ finds_declared s c.args.prefix.now c.checked.result indexed (c.checked.ensures
    ∙ ap (checked_place ds c.args.prefix.now) (c.copied-place.ensures ∙ c.get.ensures.value
    ∙ ap (λ k. get_by (key_cmp k) s.places) c.key.ensures))

pub returns-in_err-get : goal.returns-in_err-get
returns-in_err-get c = λ indexed.
    let s = c.args.self.now in
    let ds = s.declared.items in
    c.from_residual-in_err-get.ensures
    ∙ past_end c.deref.result.now ds c.in_ok-place.place c.deref.ensures.value c.in_err-get.ensures.lookup.0
    ∙ ap (option_and_then (λ i. option_map (λ (d : Declaration). d.namespace) (slice_get ds i)))
    (sym c.in_ok-place.was)
    ∙ finds_declared s c.args.prefix.now c.checked.result indexed (c.checked.ensures
    ∙ ap (checked_place ds c.args.prefix.now) (c.copied-place.ensures ∙ c.get.ensures.value
    ∙ ap (λ k. get_by (key_cmp k) s.places) c.key.ensures))

pub returns : goal.returns
returns c = λ indexed.
    let s = c.args.self.now in
    let ds = s.declared.items in
    at_place c.deref.result.now ds c.in_ok-place.place c.in_ok-get.field-0.now c.deref.ensures.value
    c.in_ok-get.ensures.lookup.0 c.in_ok-get.ensures.lookup.1
    ∙ ap (option_and_then (λ i. option_map (λ (d : Declaration). d.namespace) (slice_get ds i)))
    (sym c.in_ok-place.was)
    ∙ finds_declared s c.args.prefix.now c.checked.result indexed (c.checked.ensures
    ∙ ap (checked_place ds c.args.prefix.now) (c.copied-place.ensures ∙ c.get.ensures.value
    ∙ ap (λ k. get_by (key_cmp k) s.places) c.key.ensures))
