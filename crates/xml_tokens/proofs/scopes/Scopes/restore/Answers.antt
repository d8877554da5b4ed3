use Rattle.std.proofs.Common.{◌≡◌, subst, sym, ap, cond, bytes_eq, Some, None, ◌∙◌}
use Rattle.std.specs.BTreeMap.{get_by}
use Rattle.std.specs.Option.{option_or}
use Rattle.std.specs.Prelude.{OnErr}
use Rattle.xml_tokens.specs.Keys.{key_cmp}
use Rattle.xml_tokens.specs.Scopes.{place_of}
use Rattle.xml_tokens.proofs.KeyLemmas.{key_updates}
use Rattle.xml_tokens.proofs.PlaceLemmas.{changed, same_place}
use Rattle.xml_tokens.proofs.scopes.Scopes.restore.Goals as goal

pub returns-in-Some-clause-restored : goal.returns-in-Some-clause-restored
returns-in-Some-clause-restored c = λ some prefix.
    let d = c.args.declaration in
    let before = c.args.self.now in
    key_updates d.prefix c.key.result before.places c.insert.new.self (Some c.in-Some.place) c.key.ensures
    (changed c.insert.result _ (place_of before d.prefix.now) c.insert.ensures.updates
    (subst (λ k. OnErr c.insert.result (get_by (key_cmp k) before.places ≡ None)) c.key.ensures
    c.insert.ensures.absent) some) prefix
    ∙ ap (λ o. cond (bytes_eq d.prefix.now prefix) (option_or o (place_of before prefix)) (place_of before prefix))
    (sym c.in-Some.is)

pub returns-in_default-clause-restored : goal.returns-in_default-clause-restored
returns-in_default-clause-restored c = λ some prefix.
    same_place c.args.declaration c.args.self.now prefix c.in_default.is
