use Rattle.std.proofs.Common.{◌≡◌, ℕ, ◌<◌, List, Some, ap, length, sym, subst, ◌∙◌, arith}
use Rattle.std.specs.Prelude.{slice_get}
use Rattle.std.proofs.lemmas.Option.{slice_get-get_or}
use Rattle.atom_writer.specs.Doc.{DocValue}
use Rattle.coverage_auditor.proofs.ChainLemmas.{length-shown, shown-at}
use Rattle.coverage_auditor.proofs.chain.Chain.document.Goals as goal

pub index-requires : goal.index-requires
index-requires c =
    let size = length-shown c.self.inside.documents.items c.self.inside.places.items c.self.invariant.placed in
    let view = ap (λ (documents : List DocValue). length documents) c.self.view_is in
    omega (arith, size, view, c.self.inside.places.ok, c.requires)

pub index-requires-2 : goal.index-requires-2
index-requires-2 c =
    let documents = c.self.inside.documents.items in
    let places = c.self.inside.places.items in
    let size = length-shown documents places c.self.invariant.placed in
    let view = ap (λ (documents : List DocValue). length documents) c.self.view_is in
    let within : c.args.at < length places = omega (arith, size, view, c.requires) in
    let place : c.index.result.now < length documents =
    subst (λ n. n < length documents) (sym c.index.ensures) (c.self.invariant.placed c.args.at _ within) in
    omega (arith, place, c.self.inside.documents.ok)

pub returns : goal.returns
returns c =
    let documents = c.self.inside.documents.items in
    let places = c.self.inside.places.items in
    let place = c.index.result.now in
    let size = length-shown documents places c.self.invariant.placed in
    let view = ap (λ (documents : List DocValue). length documents) c.self.view_is in
    let within : c.args.at < length places = omega (arith, size, view, c.requires) in
    let below : place < length documents =
    subst (λ n. n < length documents) (sym c.index.ensures) (c.self.invariant.placed c.args.at _ within) in
    let there : slice_get places c.args.at ≡ Some place =
    slice_get-get_or places c.args.at _ within ∙ ap (λ (n : ℕ). Some n) (sym c.index.ensures) in
    let document : slice_get documents place ≡ Some c.index-2.result.now =
    slice_get-get_or documents place _ below ∙ ap (λ (d : DocValue). Some d) (sym c.index-2.ensures) in
    ap (λ (ds : List DocValue). slice_get ds c.args.at) (sym c.self.view_is)
    ∙ shown-at documents places c.args.at place c.self.invariant.placed there ∙ document
