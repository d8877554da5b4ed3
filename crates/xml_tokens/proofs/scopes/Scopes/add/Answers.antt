use Rattle.std.proofs.Common.{refl, sym, ap, ◌∙◌, cond, bytes_eq, Some, length, arith, ◌≡◌}
use Rattle.std.specs.BTreeMap.{get_by}
use Rattle.xml_tokens.specs.Keys.{key_cmp}
use Rattle.xml_tokens.specs.Reading.{kind_of}
use Rattle.xml_tokens.specs.Scopes.{checked_place, place_of}
use Rattle.xml_tokens.proofs.KeyLemmas.{key_updates}
use Rattle.xml_tokens.proofs.ScopeLemmas.{adds_declaration, adds_nothing}
use Rattle.xml_tokens.proofs.scopes.Scopes.add.Goals as goal

pub returns-in_default : goal.returns-in_default
returns-in_default c =
    adds_nothing c.args.attribute.now c.args.self.now (λ a lawful. c.in_default.ensures a lawful.0 (sym lawful.1.0))

pub returns : goal.returns
returns c =
    let count : c.len.result ≡ length c.args.self.now.declared.items =
    omega (arith, c.len.ensures, c.args.self.now.declared.ok.0) in
    adds_declaration c.args.attribute.now c.in-Some.prefix.now _ c.args.self.now
    (record c.args.self.now { places = c.insert.new.self; declared = c.push.new.self })
    (λ a lawful. (
      c.in-Some.ensures a lawful.0 (sym lawful.1.0),
      c.namespace_of-namespace.ensures
          ∙ ap kind_of (c.as_slice.ensures.value ∙ c.in_ok-name.ensures lawful.1.1.0 a.value lawful.1.1.1),
    ))
    refl refl
    (c.checked-before.ensures ∙ ap (checked_place c.args.self.now.declared.items c.in-Some.prefix.now)
    (c.in_ok-place.ensures.old ∙ ap (λ k. get_by (key_cmp k) c.args.self.now.places) c.key.ensures))
    (λ p. key_updates c.in-Some.prefix c.key.result c.args.self.now.places c.insert.new.self _ c.key.ensures
    c.in_ok-place.ensures.updates p
    ∙ ap (λ n. cond (bytes_eq c.in-Some.prefix.now p) (Some n) (place_of c.args.self.now p)) count)
    refl c.in_ok-push.ensures.items
