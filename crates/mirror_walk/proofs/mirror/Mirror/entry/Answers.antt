use Rattle.std.proofs.Common.{◌≡◌, ◌⊎◌, ◌+◌, ◌≤◌, inl, inr, ℕ, List, Result, Ok, Err, Option, Some, None, false, refl, ap, sym, subst, ◌∙◌, arith}
use Rattle.std.specs.Prelude.{IfOk, IfSome, IsSome, slice_get}
use Rattle.std.specs.Option.{option_copied, option_map}
use Rattle.std.proofs.lemmas.Grind.{common_steps}
use Rattle.atom_grammar.specs.Places.{HasPiece}
use Rattle.atom_values.specs.Entry.{EntryValue}
use Rattle.atom_writer.specs.Pieces.{entry_piece, text}
use Rattle.atom_writer.specs.declared.doc.FeedName.{FeedName}
use Rattle.deleted_entries.specs.declared.item.Item.TheVariants.{Kept as KeptItem}
use Rattle.feed_journal.specs.Log.{payload_lengths}
use Rattle.feed_journal.specs.declared.fault.LogFault.{LogFault}
use Rattle.feed_journal.specs.declared.fault.LogFault.TheVariants.{NoMemory}
use Rattle.mirror_walk.specs.Holding.{KeptValue, best_of, first_missing, name_of_best, payloads_of}
use Rattle.mirror_walk.specs.Listing.{live_at}
use Rattle.mirror_walk.specs.Mirror.{MirrorValue, StandsFor, is_spent}
use Rattle.mirror_walk.proofs.OutcomeLemmas.{best-of_whole}
use Rattle.mirror_walk.proofs.PublishedLemmas.{entry-counts}
use Rattle.mirror_walk.proofs.RereadLemmas.{IsLiveAt, live-place, piece-given, piece-lawful, piece-named}
use Rattle.mirror_walk.proofs.RereadLemmas.{piece-within}
use Rattle.mirror_walk.proofs.VisitAnswerLemmas.{loaded-of}
use Rattle.mirror_walk.proofs.mirror.Mirror.entry.Given.{Over}
use Rattle.mirror_walk.proofs.mirror.Mirror.entry.Goals as goal
use Rattle.mirror_walk.proofs.mirror.Mirror.entry.Goals.{After-drop-piece, After-entry_place-place}
use Rattle.mirror_walk.proofs.mirror.Mirror.entry.Goals.{After-piece_place-piece_place}

-- the mirror before the call, by its fields
abbrev before : (g : Over) → After-entry_place-place g → MirrorValue
before g c = record {
  base = c.self.inside.documents.base;
  kept = c.self.inside.documents.kept;
  listed = c.self.inside.documents.listed;
  capacity = c.self.inside.capacity;
  log = c.self.inside.log;
}

unspent : (g : Over) (c : After-entry_place-place g) → is_spent (before g c) ≡ false
unspent g c = subst (λ (m : MirrorValue). is_spent m ≡ false) (sym c.self.view_is) c.requires.unspent

-- the entry of the member, and its place
live : (g : Over) (c : After-entry_place-place g) → IsLiveAt (before g c).kept c.args.number
    c.entry_place-place.result
live g c = live-place (before g c).kept c.args.number c.entry_place-place.result
    (subst (λ (m : MirrorValue). IsSome (live_at m.kept c.args.number)) (sym c.self.view_is) c.requires.live)
    c.entry_place-place.ensures.place

pub piece_place-piece_place-requires : goal.piece_place-piece_place-requires
piece_place-piece_place-requires g c =
    let d = (goal.at.piece_place-piece_place-requires g c).After-entry_place-place in
    ((live g d).entry, (live g d).held)

has : (g : Over) (c : After-piece_place-piece_place g) (is : IsLiveAt c.self.inside.documents.kept c.args.number
    c.entry_place-place.result)
    → HasPiece (text is.held.document.document) is.held.document.document.name (KeptItem is.entry)
    c.piece_place-piece_place.result
has g c is = c.piece_place-piece_place.ensures is.entry is.held

if-some : (found : Option ℕ) (P : ℕ → Type 0) → ((x : ℕ) → found ≡ Some x → P x) → IfSome found P
if-some None P then = tt
if-some (Some x) P then = then x refl

pub read_part-requires-clause-inside : goal.read_part-requires-clause-inside
read_part-requires-clause-inside g c =
    let d = (goal.at.read_part-requires-clause-inside g c).After-entry_place-place in
    let e = (goal.at.read_part-requires-clause-inside g c).After-piece_place-piece_place in
    let is = live g d in
    if-some (slice_get (payload_lengths c.self.inside.log.extents) c.entry_place-place.result.document)
    (λ whole. c.piece_place-piece_place.result.at + c.piece_place-piece_place.result.length ≤ whole)
    (piece-within (before g d) c.self.invariant (unspent g d) c.entry_place-place.result is.entry is.held
    c.piece_place-piece_place.result (has g e is))

some-same : {one other : FeedName} → Some one ≡ Some other → one ≡ other
some-same same = cc

-- a mirror that lists its live entries has a best subscription document
best : (kept : List KeptValue) → first_missing kept ≡ None
    → (best : KeptValue) × (best_of kept ≡ Some best) × (name_of_best kept ≡ Some best.document.name)
best kept whole =
    let (found, is) = best-of_whole kept whole in
    (found, is, ap (option_map (λ (k : KeptValue). k.document.name)) is)

pub unwrap-name-requires : goal.unwrap-name-requires
unwrap-name-requires g c =
    let found = best c.self.inside.documents.kept c.entry_place-place.ensures.whole in
    let named : option_copied c.name.result ≡ Some found.0.document.name = c.name.ensures ∙ found.2 in
    grind (arith, common_steps)

-- the entry of the member
shown : (g : Over) (c : After-drop-piece g) → IsLiveAt c.self.inside.documents.kept c.args.number
    c.entry_place-place.result
shown g c = live g (goal.at.returns-clause-entry g c).After-entry_place-place

-- the reader of its piece returns it
read : (g : Over) (c : After-drop-piece g) → g.D.Disk.observable
    → (c.entry_of.result ≡ Ok (shown g c).entry) ⊎ (c.entry_of.result ≡ Err NoMemory)
read g c tells =
    let d = (goal.at.returns-clause-entry g c).After-entry_place-place in
    let e = (goal.at.returns-clause-entry g c).After-piece_place-piece_place in
    let is = shown g c in
    let s = g.D.Disk.state c.args.disk.now in
    let found = best c.self.inside.documents.kept c.entry_place-place.ensures.whole in
    let named : c.unwrap-name.result.now ≡ found.0.document.name =
    some-same (ap option_copied (sym c.unwrap-name.ensures) ∙ c.name.ensures ∙ found.2) in
    let given = piece-given (before g d) c.self.invariant (unspent g d) c.entry_place-place.result is.entry is.held
    c.piece_place-piece_place.result (has g e is) s c.self.inside.log.area c.self.invariant.area
    (subst (StandsFor s) (sym c.self.view_is) (c.requires.stands tells)) c.in_ok-piece.piece.items
    (c.in_ok-piece.ensures.part tells) in
    c.entry_of.ensures.only is.entry
    (piece-lawful (before g d) c.self.invariant (unspent g d) c.entry_place-place.result is.entry is.held
    c.piece_place-piece_place.result (has g e is)) is.number_is
    (c.as_slice.ensures.value ∙ given
    ∙ piece-named (before g d) c.self.invariant (unspent g d) c.entry_place-place.result is.entry is.held
    c.piece_place-piece_place.result (has g e is) found.0 found.1
    ∙ ap (λ (n : FeedName). entry_piece n is.entry) (sym named))

-- an entry that is returned is this one
returned : (result : Result EntryValue LogFault) (entry other : EntryValue)
    → (result ≡ Ok entry) ⊎ (result ≡ Err NoMemory) → result ≡ Ok other → entry ≡ other
returned result entry other (inl read) is = cc
returned result entry other (inr spent) is = absurd (cc)

ok-then : (result : Result EntryValue LogFault) (P : EntryValue → Type 0)
    → ((entry : EntryValue) → result ≡ Ok entry → P entry) → IfOk result P
ok-then (Ok entry) P then = then entry refl
ok-then (Err fault) P then = tt

-- where contracts see the disk, it is the live one
there : (g : Over) (c : After-drop-piece g) (entry : EntryValue) → c.entry_of.result ≡ Ok entry
    → g.D.Disk.observable → live_at c.args.self.now.kept c.args.number ≡ Some entry
there g c entry is tells =
    subst (λ (m : MirrorValue). live_at m.kept c.args.number ≡ Some entry) c.self.view_is
    ((shown g c).live
    ∙ ap (λ (e : EntryValue). Some e) (returned c.entry_of.result (shown g c).entry entry (read g c tells) is))

pub returns-clause-entry : goal.returns-clause-entry
returns-clause-entry g c = ok-then c.entry_of.result _ (there g c)

pub returns-clause-never : goal.returns-clause-never
returns-clause-never g c = λ tells index changed.
    elim (read g c tells) [
      | inl found ↦ absurd (cc)
      | inr spent ↦ absurd (cc)
    ]

pub returns-clause-published : goal.returns-clause-published
returns-clause-published g c =
    let now = c.args.self.now in
    ok-then c.entry_of.result _ (λ entry is tells head history same served.
    entry-counts now.base (payloads_of now.kept) now.kept
    (loaded-of _ now c.self.invariant c.self.view_is c.requires.unspent)
    (subst (λ (m : MirrorValue). first_missing m.kept ≡ None) c.self.view_is c.entry_place-place.ensures.whole)
    head history same served c.args.number entry (there g c entry is tells))
