-- The places of the members' entries, after one more operation.
use Rattle.std.proofs.Common.{◌≡◌, ◌≢◌, inl, inr, ℕ, zero, suc, ◌+◌, ◌-◌, ◌<◌, ◌≤◌, ℤ, false, if◌then◌else◌, List, []}
use Rattle.std.proofs.Common.{◌∷◌, ◌++◌, length, Some, None, refl, sym, ap, subst, ◌∙◌, arith, length-append, length-set}
use Rattle.std.proofs.Common.{slice_get, slice_set}
use Rattle.std.specs.Prelude.{is_some}
use Rattle.std.proofs.lemmas.Bool.{cases_eq}
use Rattle.atom_values.specs.Entry.{EntryValue}
use Rattle.feed_journal.specs.declared.extent.Extent.{Extent}
use Rattle.feed_recovery.specs.Documents.{IsLiveSince}
use Rattle.feed_recovery.specs.Places.{ArePlaces}
use Rattle.feed_recovery.proofs.EntryLemmas.{state_within}
use Rattle.member_rules.specs.Fold.{fold_of, made, state_of}
use Rattle.member_rules.specs.History.{AreFollowing, Fits}
use Rattle.member_rules.specs.Operation.{makes, names}
use Rattle.member_rules.specs.Removal.{RemovalValue}
use Rattle.member_rules.specs.declared.operation.Op.{Op}
use Rattle.member_rules.specs.declared.operation.Op.TheVariants.{Add, Change, Remove, Set}
use Rattle.member_rules.specs.declared.setting.Setting.{Setting}
use Rattle.member_rules.specs.declared.state.State.TheVariants.{Live, Gone as Deleted}
use Rattle.member_rules.proofs.FoldLemmas.{get-push, get-push-other, made-push}
use Rattle.member_rules.proofs.StateLemmas.{AreMembers-of, differ, is_there, live_within, state_of-push-item}
use Rattle.member_rules.proofs.StateLemmas.{state_of-push-other}
use Rattle.member_rules.proofs.VersionLemmas.{version-is}

-- a history without operations has no live member
pub places-none : (journal : List Extent) → ArePlaces [] [] journal
places-none journal = record {
  count = refl;
  live = λ number version since. absurd (omega (
    arith,
    state_within [] number version since.updated since.state,
    (version-is [] number since.updated version since.state).counted,
  ));
}

get-set : {A : Type 0} (list : List A) (k : ℕ) (item : A) → k < length list
    → slice_get (slice_set list k item) k ≡ Some item
get-set [] k item inside = absurd (omega arith)
get-set (first ∷ rest) zero item inside = refl
get-set (first ∷ rest) (suc k) item inside = get-set rest k item (omega arith)

get-set-other : {A : Type 0} (list : List A) (at k : ℕ) (item : A) → k ≢ at
    → slice_get (slice_set list at item) k ≡ slice_get list k
get-set-other [] at k item ne = refl
get-set-other (first ∷ rest) zero zero item ne = absurd (ne refl)
get-set-other (first ∷ rest) zero (suc k) item ne = refl
get-set-other (first ∷ rest) (suc at) zero item ne = refl
get-set-other (first ∷ rest) (suc at) (suc k) item ne = get-set-other rest at k item (omega arith)

-- an operation on a live member
module _ (created : ℤ) (history : List Op) (following : AreFollowing created history) where
  pub change-made : (entry : EntryValue) → Fits history (Change entry)
      → (1 ≤ entry.number) × (entry.number ≤ made history) × ((fold_of history).gone entry.number ≡ None)
  change-made entry fits =
      live_within (fold_of history) (made history) entry.number (AreMembers-of created history following)
      (is_there ((fold_of history).live entry.number) _ fits)

  remove-made : (removal : RemovalValue) → Fits history (Remove removal)
      → (fold_of history).gone removal.tombstone.number ≡ None
  remove-made removal fits =
      (live_within (fold_of history) (made history) removal.tombstone.number (AreMembers-of created history following)
      (is_there ((fold_of history).live removal.tombstone.number) _ fits)).2

-- the places after the operation, whose payload has this extent
module _ (created : ℤ) (history : List Op) (operation : Op) (extents journal : List Extent) (extent : Extent)
    (places : ArePlaces extents history journal) (following : AreFollowing created history)
    (fits : Fits history operation) (count : length journal ≡ length history + 1) where
  -- a live member that it doesn't name keeps its place
  kept : (number version : ℕ) → names number operation ≡ false → IsLiveSince (history ++ operation ∷ []) number version
      → (1 ≤ number) × (number ≤ length extents)
      × (slice_get extents (number - 1) ≡ slice_get (journal ++ extent ∷ []) version)
  kept number version unnamed since =
      let state : state_of history number ≡ Live since.updated version =
      sym (state_of-push-other history operation number unnamed) ∙ since.state in
      let set = version-is history number since.updated version state in
      let within = live_within (fold_of history) (made history) number (AreMembers-of created history following)
      (ap is_some set.live) in
      let early = state_within history number version since.updated state in (
        within.0,
        omega (arith, within.1, places.count),
        places.live number version (record { updated = since.updated; state = state })
            ∙ sym (get-push-other journal extent version (omega (arith, early, count))),
      )

  -- the one that it names has the new place
  named : (entry : EntryValue) (number version : ℕ)
      → state_of (history ++ operation ∷ []) entry.number ≡ Live entry.updated (length history + 1)
      → entry.number ≡ number → IsLiveSince (history ++ operation ∷ []) number version
      → Some extent ≡ slice_get (journal ++ extent ∷ []) version
  named entry number version state same since =
      let both : Live entry.updated (length history + 1) ≡ Live since.updated version =
      sym state ∙ ap (state_of (history ++ operation ∷ [])) same ∙ since.state in
      let last : length history + 1 ≡ version = cc in
      sym (ap (slice_get (journal ++ extent ∷ [])) (sym last ∙ sym count) ∙ get-push journal extent)

  pub places-add : (entry : EntryValue) → operation ≡ Add entry
      → ArePlaces (extents ++ extent ∷ []) (history ++ operation ∷ []) (journal ++ extent ∷ [])
  places-add entry is =
      let next : entry.number ≡ made history + 1 = subst (Fits history) is fits in
      let more : made (history ++ operation ∷ []) ≡ made history + 1 =
      made-push history operation ∙ ap (λ (o : Op). made history + (if makes o then 1 else 0)) is in
      let absent = ((AreMembers-of created history following).none_past entry.number (omega (arith, next))).1 in
      let state = subst
      (λ (o : Op). state_of (history ++ o ∷ []) entry.number ≡ Live entry.updated (length history + 1)) (sym is)
      (state_of-push-item history (Add entry) _ refl absent) in
      record {
        count = omega (arith, more, length-append extents (extent ∷ []), places.count);
        live = λ number version since. elim (cases_eq entry.number number) [
          | inl same ↦
              let at : number - 1 ≡ length extents = omega (arith, same, next, places.count) in
              ap (slice_get (extents ++ extent ∷ [])) at
              ∙ get-push extents extent
              ∙ named entry number version state same since
          | inr apart ↦
              let old = kept number version (ap (names number) is ∙ differ entry.number number apart) since in
              get-push-other extents extent (number - 1) (omega (arith, old.0, old.1)) ∙ old.2
        ];
      }

  pub places-change : (entry : EntryValue) → operation ≡ Change entry
      → ArePlaces (slice_set extents (entry.number - 1) extent) (history ++ operation ∷ []) (journal ++ extent ∷ [])
  places-change entry is =
      let was = change-made created history following entry (subst (Fits history) is fits) in
      let state = subst
      (λ (o : Op). state_of (history ++ o ∷ []) entry.number ≡ Live entry.updated (length history + 1)) (sym is)
      (state_of-push-item history (Change entry) _ refl was.2) in
      let more : made (history ++ operation ∷ []) ≡ made history + 0 =
      made-push history operation ∙ ap (λ (o : Op). made history + (if makes o then 1 else 0)) is in
      record {
        count = omega (arith, more, length-set extents (entry.number - 1) extent, places.count);
        live = λ number version since. elim (cases_eq entry.number number) [
          | inl same ↦
              ap (λ (n : ℕ). slice_get (slice_set extents (entry.number - 1) extent) (n - 1)) (sym same)
              ∙ get-set extents (entry.number - 1) extent (omega (arith, was.0, was.1, places.count))
              ∙ named entry number version state same since
          | inr apart ↦
              let old = kept number version (ap (names number) is ∙ differ entry.number number apart) since in
              get-set-other extents (entry.number - 1) (number - 1) extent (omega (arith, was.0, old.0, apart)) ∙ old.2
        ];
      }

  pub places-remove : (removal : RemovalValue) → operation ≡ Remove removal
      → ArePlaces extents (history ++ operation ∷ []) (journal ++ extent ∷ [])
  places-remove removal is =
      let absent = remove-made created history following removal (subst (Fits history) is fits) in
      let more : made (history ++ operation ∷ []) ≡ made history + 0 =
      made-push history operation ∙ ap (λ (o : Op). made history + (if makes o then 1 else 0)) is in
      let state = subst
      (λ (o : Op). state_of (history ++ o ∷ []) removal.tombstone.number ≡ Deleted removal.tombstone.when) (sym is)
      (state_of-push-item history (Remove removal) _ refl absent) in
      record {
        count = omega (arith, more, places.count);
        live = λ number version since. elim (cases_eq removal.tombstone.number number) [
          | inl same ↦
              let both : Deleted removal.tombstone.when ≡ Live since.updated version =
              sym state ∙ ap (state_of (history ++ operation ∷ [])) same ∙ since.state in
              absurd (cc)
          | inr apart ↦
              (kept number version (ap (names number) is ∙ differ removal.tombstone.number number apart) since).2
        ];
      }

  -- an operation that changes a setting names no member
  pub places-set : (setting : Setting) (moment : ℤ) → operation ≡ Set setting moment
      → ArePlaces extents (history ++ operation ∷ []) (journal ++ extent ∷ [])
  places-set setting moment is =
      let more : made (history ++ operation ∷ []) ≡ made history + 0 =
      made-push history operation ∙ ap (λ (o : Op). made history + (if makes o then 1 else 0)) is in
      record {
        count = omega (arith, more, places.count);
        live = λ number version since. (kept number version (ap (names number) is) since).2;
      }
