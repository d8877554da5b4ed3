use Rattle.std.proofs.Common.{◌≡◌, ◌-◌, ℕ, List, Some, length, sym, ap, subst, ◌∙◌, arith}
use Rattle.std.specs.Prelude.{IfOk, option_map, slice_get}
use Rattle.atom_values.specs.Entry.{EntryValue}
use Rattle.atom_writer.specs.declared.doc.FeedName.{FeedName}
use Rattle.feed_recovery.specs.Documents.{IsDocumentOf, IsLiveDocument, Sets}
use Rattle.feed_recovery.specs.Store.{StoreValue}
use Rattle.feed_recovery.specs.declared.store.Store.TheInside.{Inside}
use Rattle.member_rules.proofs.VersionLemmas.{version-is}
use Rattle.member_rules.specs.Fold.{fold_of, state_of}
use Rattle.member_rules.specs.Head.{HeadValue, IsHead}
use Rattle.member_rules.specs.Table.{IsTableOf}
use Rattle.member_rules.specs.declared.state.State.TheVariants.{Live}
use Rattle.feed_recovery.proofs.EntryLemmas.{document_live, document_version, edited_is, inward, item_there}
use Rattle.feed_recovery.proofs.EntryLemmas.{live_from_one, live_named, live_rules, live_sets, on-ok, some_edited}
use Rattle.feed_recovery.proofs.EntryLemmas.{state_within}
use Rattle.feed_recovery.proofs.store.Store.member.Given.{Over}
use Rattle.feed_recovery.proofs.store.Store.member.Goals as goal
use Rattle.feed_recovery.proofs.store.Store.member.Goals.{In-Some}

-- the state of the member in the history that the window has
stated : (g : Over) (c : In-Some g) → state_of c.self.inside.window.history c.args.number
    ≡ Live c.in-Live.updated c.in-Live.version
stated g c = ap (λ (v : StoreValue). state_of v.history c.args.number) c.self.view_is ∙ sym c.in-Live.ensures

pub get-requires : goal.get-requires
get-requires g c =
    let keeps = c.self.invariant.0 in
    live_from_one c.self.inside.head.created c.self.inside.window.history c.args.number c.in-Live.version
    c.in-Live.updated keeps.members.following (stated g (goal.at.get-requires g c).In-Some)

-- its place is that of the operation that set its entry
placed : (g : Over) (c : In-Some g) → slice_get c.self.inside.places.extents (c.args.number - 1)
    ≡ slice_get c.self.inside.journal.extents c.in-Live.version
placed g c = c.self.invariant.4.live c.args.number c.in-Live.version
    (record { updated = c.in-Live.updated; state = stated g c })

pub unreachable-requires-in_default-get : goal.unreachable-requires-in_default-get
unreachable-requires-in_default-get g c =
    let after = (goal.at.unreachable-requires-in_default-get g c).In-Some in
    let within = state_within c.self.inside.window.history c.args.number c.in-Live.version c.in-Live.updated
    (stated g after) in
    item_there c.self.inside.journal.extents c.in-Live.version (omega (arith, within, c.self.invariant.0.records))
    (sym c.in_default-get.is ∙ c.get.ensures ∙ placed g after)

pub read_operation-requires-clause-place : goal.read_operation-requires-clause-place
read_operation-requires-clause-place g c =
    ap (λ (v : StoreValue). slice_get v.journal.extents c.in-Live.version) (sym c.self.view_is)
    ∙ sym (placed g (goal.at.read_operation-requires-clause-place g c).In-Some) ∙ sym c.get.ensures ∙ c.in-Some-get.is

pub unreachable-requires : goal.unreachable-requires
unreachable-requires g c =
    let history = c.args.self.now.history in
    let set = version-is history c.args.number c.in-Live.updated c.in-Live.version (sym c.in-Live.ensures) in
    some_edited ((fold_of history).live c.args.number) set.entry
    (sym c.in_default.is ∙ c.edited.ensures c.self.inside.head.created history
    (subst (λ (v : StoreValue). IsTableOf c.self.inside.members c.self.inside.head.created v.history) c.self.view_is
    c.self.invariant.0.members)) set.live

-- the `edited` of the table is that of the member's entry
dated : (g : Over) (c : In-Some g) → Some c.in-Some.edited ≡ option_map (λ (e : EntryValue). e.edited)
    ((fold_of c.args.self.now.history).live c.args.number)
dated g c = c.in-Some.ensures c.self.inside.head.created c.args.self.now.history
    (subst (λ (v : StoreValue). IsTableOf c.self.inside.members c.self.inside.head.created v.history) c.self.view_is
    c.self.invariant.0.members)

pub returns-clause-document : goal.returns-clause-document
returns-clause-document g c =
    let store = c.args.self.now in
    let same = c.in_ok-payload.ensures.store.same (λ clash. cc) in
    let head : c.self-2.inside.head ≡ store.head = ap (λ (v : StoreValue). v.head) (c.self-2.view_is ∙ same) in
    let name = ap (λ (v : Inside). v.head.name) c.self-inside.view_is ∙ ap (λ (h : HeadValue). h.name) head in
    let is_head : IsHead store.head = subst IsHead head c.self-2.invariant.0.head in
    let made : IfOk c.document_of.result (λ written. IsDocumentOf store.head.name c.in_ok-payload.payload.items
    c.args.number c.in-Some.edited c.in-Live.updated written.items) =
    subst
    (λ (n : FeedName). IfOk c.document_of.result (λ written. IsDocumentOf n c.in_ok-payload.payload.items
    c.args.number c.in-Some.edited c.in-Live.updated written.items)) name
    (rw c.as_slice.ensures.value at c.document_of.ensures.document) in
    inward g.D.Disk.observable (λ written. IsLiveDocument store c.args.number written.items) c.document_of.result
    (λ tells. document_live store is_head c.args.number c.in-Live.version c.in-Some.edited c.in-Live.updated
    (sym c.in-Live.ensures) _ c.in_ok-payload.payload.items (c.requires.stands tells).opens.is_journal
    (c.in_ok-payload.ensures.payload tells) c.document_of.result made)

pub returns-clause-never : goal.returns-clause-never
returns-clause-never g c = λ tells index.
    let store = c.args.self.now in
    let same = c.in_ok-payload.ensures.store.same (λ clash. cc) in
    let head : c.self-2.inside.head ≡ store.head = ap (λ (v : StoreValue). v.head) (c.self-2.view_is ∙ same) in
    let is_head : IsHead store.head = subst IsHead head c.self-2.invariant.0.head in
    let is = (c.requires.stands tells).opens.is_journal in
    let version = c.in-Live.version in
    let set = version-is store.history c.args.number c.in-Live.updated version (sym c.in-Live.ensures) in
    let rules = live_rules store.head store.history is_head is.lawful c.args.number version set.entry set.live
    set.counted set.set_by in
    let named = live_named store.head store.history is_head is.lawful c.args.number version set.entry set.live
    set.counted set.set_by in
    let sets = live_sets store.head store.history is_head is.lawful c.args.number version set.entry set.live set.counted
    set.set_by _ c.in_ok-payload.payload.items is (c.in_ok-payload.ensures.payload tells) in
    let edited = edited_is c.in-Some.edited ((fold_of store.history).live c.args.number) set.entry
    (dated g (goal.at.returns-clause-never g c).In-Some) set.live in
    c.document_of.ensures.never set.entry rules
    (subst (λ (bytes : List ℕ). Sets bytes set.entry) (sym c.as_slice.ensures.value) sets)
    (record { named = named; edited_is = sym edited; updated_is = set.dated }) index

pub returns-clause-entry : goal.returns-clause-entry
returns-clause-entry g c =
    let store = c.args.self.now in
    let same = c.in_ok-payload.ensures.store.same (λ clash. cc) in
    let head : c.self-2.inside.head ≡ store.head = ap (λ (v : StoreValue). v.head) (c.self-2.view_is ∙ same) in
    let name = ap (λ (v : Inside). v.head.name) c.self-inside.view_is ∙ ap (λ (h : HeadValue). h.name) head in
    document_version store c.args.number c.in-Live.version c.in-Some.edited c.in-Live.updated c.as_slice.result.now
    (c.in_ok-payload.ensures.length ∙ ap (λ (bytes : List ℕ). Some (length bytes)) (sym c.as_slice.ensures.value))
    (sym c.in-Live.ensures) (dated g (goal.at.returns-clause-entry g c).In-Some) c.document_of.result
    (subst (λ (n : FeedName). IfOk c.document_of.result (λ written. IsDocumentOf n c.as_slice.result.now c.args.number
    c.in-Some.edited c.in-Live.updated written.items)) name c.document_of.ensures.document)

pub returns-clause-read : goal.returns-clause-read
returns-clause-read g c = on-ok _ c.document_of.result (record {
  since = c.in-Live.version;
  is_since = record { updated = c.in-Live.updated; state = sym c.in-Live.ensures };
  count = length c.in_ok-payload.payload.items;
  long = c.in_ok-payload.ensures.length;
  given = c.in_ok-payload.ensures.read;
})
