use Rattle.std.proofs.Common.{◌≡◌, ◌-◌, ◌++◌, ◌∷◌, [], List, length, slice_set, ap, ap₂, sym, subst, ◌∙◌, arith}
use Rattle.atom_values.specs.Entry.{EntryValue}
use Rattle.feed_journal.specs.declared.extent.Extent.{Extent}
use Rattle.feed_recovery.specs.Places.{ArePlaces, PlacesValue}
use Rattle.feed_recovery.proofs.PlacesLemmas.{change-made, places-add, places-change, places-remove, places-set}
use Rattle.feed_recovery.proofs.places.Places.commit.Goals as goal
use Rattle.member_rules.specs.History.{Fits}

pub index_mut-requires : goal.index_mut-requires
index_mut-requires c =
    let may = c.requires.follows in
    let within = change-made may.created may.history may.following c.in-Change.entry
    (subst (Fits may.history) c.in-Change.is may.follows.fits) in
    let number = ap (λ (e : EntryValue). e.number) c.entry.view_is in
    let size = ap (λ (v : PlacesValue). length v.extents) c.self.view_is in
    let len = c.self.inside.extents.ok.0 in
    omega (arith, within.0, within.1, may.count)

pub returns-in-Add : goal.returns-in-Add
returns-in-Add c = record {
  places = λ created history journal places following follows count.
      let pushed : c.push.new.self.items ≡ c.self.inside.extents.items ++ c.args.extent ∷ [] =
      rw c.unwrap.ensures at c.push.ensures.items in
      let is = pushed ∙ ap (λ (v : PlacesValue). v.extents ++ c.args.extent ∷ []) c.self.view_is in
      subst (λ (l : List Extent). ArePlaces l (history ++ c.args.operation.now ∷ []) (journal ++ c.args.extent ∷ []))
      (sym is) (places-add created history c.args.operation.now c.args.self.now.extents journal c.args.extent places
      following follows.fits count c.in-Add.field-0 c.in-Add.is);
}

pub returns-in-Change : goal.returns-in-Change
returns-in-Change c = record {
  places = λ created history journal places following follows count.
      let is = ap₂ (λ (v : PlacesValue) (e : EntryValue). slice_set v.extents (e.number - 1) c.args.extent) c.self.view_is
      c.entry.view_is in
      subst (λ (l : List Extent). ArePlaces l (history ++ c.args.operation.now ∷ []) (journal ++ c.args.extent ∷ []))
      (sym is) (places-change created history c.args.operation.now c.args.self.now.extents journal c.args.extent places
      following follows.fits count c.in-Change.entry c.in-Change.is);
}

pub returns-in-Remove : goal.returns-in-Remove
returns-in-Remove c = record {
  places = λ created history journal places following follows count.
      places-remove created history c.args.operation.now c.args.self.now.extents journal c.args.extent places
      following follows.fits count c.in-Remove.field-0 c.in-Remove.is;
}

pub returns-in-Set : goal.returns-in-Set
returns-in-Set c = record {
  places = λ created history journal places following follows count.
      places-set created history c.args.operation.now c.args.self.now.extents journal c.args.extent places
      following follows.fits count c.in-Set.setting c.in-Set.moment c.in-Set.is;
}
