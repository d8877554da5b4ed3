use Rattle.std.proofs.Common.{◌≡◌, ℕ, ◌<◌, ◌≤◌, List, [], ◌∷◌, ◌++◌, Some, ap, get_or, length, sym, subst, ◌∙◌, arith}
use Rattle.std.specs.Prelude.{slice_get}
use Rattle.std.specs.BTreeMap.{BTreeMap, Updates, get}
use Rattle.std.proofs.lemmas.Option.{same_Some, slice_get_within}
use Rattle.atom_writer.specs.Doc.{DocValue}
use Rattle.doc_source.specs.Pile.{offer_limit}
use Rattle.doc_source.specs.declared.offer.Offer.{Offer}
use Rattle.coverage_auditor.specs.Chain.{IsShelf, IsShelved}
use Rattle.coverage_auditor.specs.Finding.{HasDocument, offer_of}
use Rattle.coverage_auditor.specs.Offers.{Key, key_cmp, line_key}
use Rattle.coverage_auditor.proofs.ChainLemmas.{halted, shelf-more, shelved-at, shelved-last, shelved-some}
use Rattle.coverage_auditor.proofs.ListLemmas.{slice_get-before}
use Rattle.coverage_auditor.proofs.chain.Shelf.place.Goals as goal
use Rattle.coverage_auditor.proofs.chain.Shelf.place.Goals.{After-keep}

pub returns-in-Some-clause-place : goal.returns-in-Some-clause-place
returns-in-Some-clause-place c =
    let read = c.args.self.now.read in
    let line = c.args.line.now in
    shelved-at c.args.certificate.now c.args.pile.now c.args.self.now.documents.items line
    (get key_cmp read (line_key line)) c.in-Some.at.now (c.requires.shelf line c.requires.address)
    (ap (get key_cmp read) (sym c.line_key-key.ensures) ∙ sym c.in-Some.ensures.value)

pub offer_at-offer-requires : goal.offer_at-offer-requires
offer_at-offer-requires c =
    let found = c.in_ok-place.ensures c.args.certificate.now c.args.pile.now c.requires.offers in
    slice_get_within c.args.pile.now c.in_ok-place.field-0 found.0 found.1

pub returns-in-Some-clause-first : goal.returns-in-Some-clause-first
returns-in-Some-clause-first c none =
    let documents = c.args.self.now.documents.items in
    absurd (shelved-some c.args.certificate.now c.args.pile.now documents c.args.line.now c.in-Some.at.now none
    (returns-in-Some-clause-place c))

-- the line's document
found-of : (c : After-keep) → HasDocument c.args.certificate.now c.args.pile.now c.args.line.now
    c.in_ok-found.found.document × (c.in_ok-found.found.name ≡ c.in_ok-found.found.document.name)
found-of c =
    let offer = c.offer_at-offer.result.now in
    let found = c.in_ok-place.ensures c.args.certificate.now c.args.pile.now c.requires.offers in
    let same : found.0 ≡ offer = same_Some found.0 offer (sym found.1 ∙ c.offer_at-offer.ensures) in
    c.in_ok-found.ensures c.args.pile.now offer (found.2 ∙ ap (λ (o : Offer). Some o) same) (sym c.slice.ensures)

pub returns-clause-place : goal.returns-clause-place
returns-clause-place c =
    let cert = c.args.certificate.now in
    let pile = c.args.pile.now in
    let line = c.args.line.now in
    let documents = c.args.self.now.documents.items in
    let document = c.in_ok-found.found.document in
    let size : length documents ≡ c.len-at.result = omega (arith, c.len-at.ensures, c.args.self.now.documents.ok) in
    subst (λ (n : ℕ). IsShelved cert pile c.keep.new.self.documents.items line n) size
    (subst (λ (ds : List DocValue). IsShelved cert pile ds line (length documents))
    (sym c.in_ok-keep.ensures.documents)
    (shelved-last cert pile documents document line (found-of (goal.at.returns-clause-place c).After-keep).0))

pub returns-clause-shelf : goal.returns-clause-shelf
returns-clause-shelf c =
    let cert = c.args.certificate.now in
    let pile = c.args.pile.now in
    let line = c.args.line.now in
    let documents = c.args.self.now.documents.items in
    let document = c.in_ok-found.found.document in
    let read = c.args.self.now.read in
    let has = (found-of (goal.at.returns-clause-shelf c).After-keep).0 in
    let size : length documents ≡ c.len-at.result = omega (arith, c.len-at.ensures, c.args.self.now.documents.ok) in
    let updates = subst (λ (k : Key). Updates key_cmp read c.insert.new.self k (Some (length documents)))
    c.line_key-key.ensures
    (subst (λ (n : ℕ). Updates key_cmp read c.insert.new.self c.line_key-key.result (Some n)) (sym size)
    (subst (λ (r : BTreeMap Key ℕ). Updates key_cmp r c.insert.new.self c.line_key-key.result (Some c.len-at.result))
    c.keep.ensures.read c.in_ok-insert.ensures.updates)) in
    subst (λ (ds : List DocValue). IsShelf cert pile ds c.insert.new.self) (sym c.in_ok-keep.ensures.documents)
    (shelf-more cert pile documents document line read c.insert.new.self c.requires.address has updates
    c.requires.shelf)

pub returns-clause-longer : goal.returns-clause-longer
returns-clause-longer c at document there =
    let documents = c.args.self.now.documents.items in
    subst (λ (ds : List DocValue). slice_get ds at ≡ Some document) (sym c.in_ok-keep.ensures.documents)
    (slice_get-before documents c.in_ok-found.found.document at document there)
