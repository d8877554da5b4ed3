-- The live entries of the documents from the oldest to the newest, and one entry by its place.
use Rattle.std.proofs.Common.{◌≡◌, ℕ, ◌+◌, ◌-◌, ◌≤◌, List, [], ◌∷◌, length, drop, Some, refl, sym, ap, subst, ◌∙◌, arith}
use Rattle.std.specs.Prelude.{slice_get}
use Rattle.std.specs.BTreeMap.{BTreeMap}
use Rattle.std.proofs.lemmas.List.{drop_more}
use Rattle.std.proofs.lemmas.Option.{get_or_from_slice_get, same_Some, slice_get_within}
use Rattle.atom_values.specs.Entry.{EntryValue}
use Rattle.atom_writer.specs.Doc.{DocValue}
use Rattle.deleted_entries.specs.declared.item.Item.TheVariants.{Kept}
use Rattle.mirror_walk.specs.Index.{LaysOver}
use Rattle.mirror_walk.specs.Marks.{marked_number, marks_of}
use Rattle.coverage_auditor.specs.declared.live.EntryPlace.{EntryPlace}
use Rattle.coverage_auditor.specs.LiveList.{HasEntries, HasEntryAt, entry_place}
use Rattle.coverage_auditor.proofs.EntriesLemmas.{HasEntries-more, HasEntries-none}

pub same-entry : (documents : List DocValue) (place : EntryPlace) (a b : EntryValue) → HasEntryAt documents place a
    → HasEntryAt documents place b → a ≡ b
same-entry documents place a b p q =
    let document : p.document ≡ q.document = same_Some p.document q.document (sym p.there ∙ q.there) in
    let item : Kept a ≡ Kept b = same_Some (Kept a) (Kept b)
    (sym p.item ∙ ap (λ (d : DocValue). slice_get d.items place.item) document ∙ q.item) in
    cc

drop-zero : (xs : List DocValue) → drop 0 xs ≡ xs
drop-zero [] = refl
drop-zero (x ∷ xs) = refl

drop-all : (xs : List DocValue) → drop (length xs) xs ≡ []
drop-all [] = refl
drop-all (x ∷ xs) = drop-all xs

pub listed-none : (documents : List DocValue) (live : BTreeMap ℕ EntryPlace) → live.entries ≡ []
    → HasEntries documents (drop (length documents - 0) documents) live
listed-none documents live empty =
    let all : length documents - 0 ≡ length documents = omega arith in
    subst (λ (ds : List DocValue). HasEntries documents ds live)
    (sym (ap (λ n. drop n documents) all ∙ drop-all documents)) (HasEntries-none documents live empty)

pub listed-more : (documents : List DocValue) (older at : ℕ) (document : DocValue)
    (old new : BTreeMap ℕ EntryPlace) → at + 1 ≡ length documents - older
    → slice_get documents at ≡ Some document → LaysOver marked_number (entry_place at) (marks_of document) old new
    → HasEntries documents (drop (length documents - older) documents) old
    → HasEntries documents (drop (length documents - (older + 1)) documents) new
listed-more documents older at document old new next there laid entries =
    let within = slice_get_within documents at document there in
    let here : drop at documents ≡ document ∷ drop (at + 1) documents =
    drop_more documents at document within
    ∙ ap (λ (d : DocValue). d ∷ drop (at + 1) documents)
    (get_or_from_slice_get documents at document document there) in
    let count : length documents - (older + 1) ≡ at = omega (arith, next) in
    subst (λ n. HasEntries documents (drop n documents) new) (sym count)
    (subst (λ (ds : List DocValue). HasEntries documents ds new) (sym here)
    (HasEntries-more documents at document (drop (at + 1) documents) old new there laid
    (subst (λ n. HasEntries documents (drop n documents) old) (sym next) entries)))

pub listed-all : (documents : List DocValue) (older : ℕ) (live : BTreeMap ℕ EntryPlace)
    → length documents ≤ older
    → HasEntries documents (drop (length documents - older) documents) live → HasEntries documents documents live
listed-all documents older live all entries =
    let none : length documents - older ≡ 0 = omega (arith, all) in
    subst (λ (ds : List DocValue). HasEntries documents ds live)
    (ap (λ n. drop n documents) none ∙ drop-zero documents) entries
