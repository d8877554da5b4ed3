use Rattle.std.proofs.Common.{◌≡◌, ◌+◌, ◌-◌, List, Option, Some, None, ap, refl, sym, subst, ◌∙◌, arith}
use Rattle.std.specs.Prelude.{IsSome, drop, slice_get, take}
use Rattle.std.proofs.lemmas.Option.{same_Some}
use Rattle.atom_values.specs.Entry.{EntryValue}
use Rattle.atom_writer.specs.Doc.{DocValue}
use Rattle.deleted_entries.specs.declared.item.Item.TheVariants.{Kept}
use Rattle.coverage_auditor.specs.Chain.{IsOfFeed}
use Rattle.coverage_auditor.proofs.DocumentLemmas.{piece-lawful, piece-read}
use Rattle.coverage_auditor.proofs.document.Document.entry.Goals as goal
use Rattle.coverage_auditor.proofs.document.Document.entry.Goals.{In_ok-read_entry}

is-some : (found : Option EntryValue) (entry : EntryValue) → found ≡ Some entry → IsSome found
is-some None entry e = absurd (cc)
is-some (Some other) entry e = refl

-- the reader of the piece returns the entry
read : (c : In_ok-read_entry) → c.in_ok-read_entry.field-0 ≡ Some c.requires.there.0
read c =
    let document = c.self.inside.outline in
    let place = c.piece-place.result in
    let length : place.at + place.length - place.at ≡ place.length = omega arith in
    let entry = c.requires.there.0 in
    let there = subst (λ (d : DocValue). slice_get d.items c.args.index ≡ Some (Kept entry)) (sym c.self.view_is)
    c.requires.there.1 in
    let of = subst (λ (d : DocValue). IsOfFeed c.args.name.now d) (sym c.self.view_is) c.requires.feed in
    c.in_ok-read_entry.ensures.only entry
    (piece-lawful document c.self.inside.text.now c.self.invariant c.args.index entry there place
    c.piece-place.ensures)
    (ap (λ n. take n (drop place.at c.self.inside.text.now)) length
    ∙ piece-read document c.self.inside.text.now c.self.invariant c.args.index entry there place
    c.piece-place.ensures c.args.name.now of)

pub unwrap-requires : goal.unwrap-requires
unwrap-requires c = is-some c.in_ok-read_entry.field-0 c.requires.there.0
    (read (goal.at.unwrap-requires c).In_ok-read_entry)

pub returns : goal.returns
returns c =
    c.requires.there.1
    ∙ ap (λ (e : EntryValue). Some (Kept e))
    (same_Some c.requires.there.0 c.unwrap.result
    (sym (read (goal.at.returns c).In_ok-read_entry) ∙ c.unwrap.ensures))
