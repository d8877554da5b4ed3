-- The map after the entries and the tombstones of a document.
use Rattle.std.proofs.Common.{◌≡◌, List, [], ◌∷◌, ◌++◌, map, refl, sym, ap, subst, ◌∙◌, append_assoc, append-nil, ℤ}
use Rattle.std.proofs.lemmas.List.{map-append}
use Rattle.std.proofs.lemmas.List.Concat.{flat_map-append}
use Rattle.feed_reader.specs.Feed.{DocumentValue}
use Rattle.feed_reader.specs.declared.values.ForeignEntry.{ForeignEntry}
use Rattle.feed_reader.specs.declared.values.ForeignGone.{ForeignGone}
use Rattle.foreign_entries.specs.Occurrence.{Occurrence, occurrences, occurrences_in}
use Rattle.foreign_entries.specs.Tally.{Tallies, TalliesIn, tombstones}
use Rattle.foreign_entries.specs.Added.{AddsEntry, AddsEntries, AddsTombstone, AddsTombstones}
use Rattle.foreign_entries.specs.declared.live.LiveEntries.{LiveEntries}

in_document : DocumentValue → ForeignEntry → Occurrence
in_document d e = record { document = d; entry = e }

-- no entries
pub no_entries : (updated : ℤ) (live : LiveEntries) → AddsEntries [] updated live live
no_entries updated live entries gone d is tallies =
    subst (λ xs. TalliesIn xs gone live) (sym (append-nil entries)) tallies

-- one more entry
pub one_more_entry : (done : List ForeignEntry) (e : ForeignEntry) (updated : ℤ) (before middle after : LiveEntries)
    → AddsEntries done updated before middle
    → AddsEntry (record { entry = e; document_updated = updated }) middle after
    → AddsEntries (done ++ e ∷ []) updated before after
one_more_entry done e updated before middle after adds adds_one entries gone d is tallies =
    let f : ForeignEntry → Occurrence = λ (x : ForeignEntry). record { document = d; entry = x } in
    let split : (entries ++ map f done) ++ f e ∷ [] ≡ entries ++ map f (done ++ e ∷ []) =
    append_assoc entries (map f done) (f e ∷ []) ∙ ap (λ xs. entries ++ xs) (sym (map-append f done (e ∷ []))) in
    subst (λ xs. TalliesIn xs gone after) split
    (adds_one (entries ++ map f done) gone (f e) (record { entry = refl; document = sym is })
    (adds entries gone d is tallies))

-- no tombstones
pub no_tombstones : (live : LiveEntries) → AddsTombstones [] live live
no_tombstones live entries gone tallies = subst (λ xs. TalliesIn entries xs live) (sym (append-nil gone)) tallies

-- one more tombstone
pub one_more_tombstone : (done : List ForeignGone) (g : ForeignGone) (before middle after : LiveEntries)
    → AddsTombstones done before middle → AddsTombstone g middle after → AddsTombstones (done ++ g ∷ []) before after
one_more_tombstone done g before middle after adds adds_one entries gone tallies =
    subst (λ xs. TalliesIn entries xs after) (append_assoc gone done (g ∷ []))
    (adds_one entries (gone ++ done) (adds entries gone tallies))

-- a document
pub one_more_document : (documents : List DocumentValue) (d : DocumentValue) (before middle after : LiveEntries)
    (entries : List ForeignEntry) (gone : List ForeignGone) → entries ≡ d.entries → gone ≡ d.gone
    → AddsEntries entries d.updated before middle → AddsTombstones gone middle after → Tallies documents before
    → Tallies (documents ++ d ∷ []) after
one_more_document documents d before middle after entries gone same same_gone adds_more adds_more_gone tallies =
    let adds_entries = subst (λ xs. AddsEntries xs d.updated before middle) same adds_more in
    let adds_gone = subst (λ xs. AddsTombstones xs middle after) same_gone adds_more_gone in
    let all : occurrences documents ++ occurrences_in d ≡ occurrences (documents ++ d ∷ []) =
    ap (λ xs. occurrences documents ++ xs) (sym (append-nil (occurrences_in d)))
    ∙ sym (flat_map-append occurrences_in documents (d ∷ [])) in
    let all_gone : tombstones documents ++ d.gone ≡ tombstones (documents ++ d ∷ []) =
    ap (λ xs. tombstones documents ++ xs) (sym (append-nil d.gone))
    ∙ sym (flat_map-append (λ (x : DocumentValue). x.gone) documents (d ∷ [])) in
    record {
      members = subst (λ xs. TalliesIn xs (tombstones (documents ++ d ∷ [])) after) all
          (subst (λ xs. TalliesIn (occurrences documents ++ occurrences_in d) xs after) all_gone
          (adds_gone (occurrences documents ++ occurrences_in d) (tombstones documents)
          (adds_entries (occurrences documents) (tombstones documents) d refl tallies.members)));
    }

-- a step of a loop over a list, of which `rest` is left
pub one_less : {X : Type 0} (done rest before all : List X) (x : X) → done ++ before ≡ all → before ≡ x ∷ rest
    → (done ++ x ∷ []) ++ rest ≡ all
one_less done rest before all x e step = append_assoc done (x ∷ []) rest ∙ ap (λ xs. done ++ xs) (sym step) ∙ e

-- the end of the loop
pub none_left : {X : Type 0} (done rest all : List X) → done ++ rest ≡ all → rest ≡ [] → done ≡ all
none_left done rest all e nil = sym (append-nil done) ∙ ap (λ xs. done ++ xs) (sym nil) ∙ e
