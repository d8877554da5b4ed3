use Rattle.std.proofs.Common.{◌≡◌, ◌<◌, ◌+◌, suc, length, get_or, ap, sym, subst, ◌∙◌, add-one, arith}
use Rattle.std.proofs.lemmas.List.{get_or_default}
use Rattle.std.specs.Prelude.{IfSome, slice_get}
use Rattle.atom_grammar.specs.Places.{HasPiece, place_between}
use Rattle.atom_writer.specs.Doc.{DocValue}
use Rattle.atom_writer.specs.Pieces.{text}
use Rattle.mirror_walk.proofs.PlaceLemmas.{offsets-count, offsets-rise, piece-there}
use Rattle.mirror_walk.proofs.outline.Outline.piece.Goals as goal
use Rattle.mirror_walk.proofs.outline.Outline.piece.Goals.{After-index, After-self}

within : (c : After-self) → c.args.index + 1 < length c.self.inside.offsets.items
within c =
    let document = c.self.inside.origin.document in
    let count = offsets-count (text document) document.name document.items c.self.inside.offsets.items
    c.self.invariant.offsets_are in
    omega (arith, count, c.requires, ap (λ (d : DocValue). length d.items) c.self.view_is)

pub index-at-requires : goal.index-at-requires
index-at-requires c = omega (arith, within c, c.self.inside.offsets.ok)

pub index-requires : goal.index-requires
index-requires c = omega (arith, within (goal.at.index-requires c).After-self, c.self.inside.offsets.ok)

-- the offset of the item's piece, and the next one
abbrev pub AreRead : After-index → Type 0
AreRead c =
    let offsets = c.self.inside.offsets.items in
    (c.index-at.result.now ≡ get_or offsets c.args.index 0) × (c.index.result.now ≡ get_or offsets (suc c.args.index) 0)

are-read : (c : After-index) → c.args.index + 1 < length c.self.inside.offsets.items → AreRead c
are-read c short =
    let offsets = c.self.inside.offsets.items in
    let at = c.args.index in (
      c.index-at.ensures ∙ get_or_default offsets at c.index-at.result.now 0 (omega (arith, short)),
      c.index.ensures ∙ get_or_default offsets (at + 1) c.index.result.now 0 short
          ∙ ap (λ k. get_or offsets k 0) (add-one at),
    )

pub overflow_sub-result : goal.overflow_sub-result
overflow_sub-result c =
    let document = c.self.inside.origin.document in
    let offsets = c.self.inside.offsets.items in
    let read = are-read (goal.at.overflow_sub-result c).After-index (within (goal.at.overflow_sub-result c).After-self) in
    let rises = offsets-rise (text document) document.name document.items offsets c.self.invariant.offsets_are
    c.args.index (subst (λ (d : DocValue). c.args.index < length d.items) (sym c.self.view_is) c.requires) in
    omega (arith, read.0, read.1, rises)

pub returns : goal.returns
returns c =
    let document = c.self.inside.origin.document in
    let offsets = c.self.inside.offsets.items in
    let index = c.args.index in
    let read = are-read (goal.at.returns c).After-index (within (goal.at.returns c).After-self) in
    let there = piece-there (text document) document.name document.items offsets c.self.invariant.offsets_are index in
    subst (λ (d : DocValue). IfSome (slice_get d.items index) (λ item.
    HasPiece (text d) d.name item (place_between c.index-at.result.now c.index.result.now))) c.self.view_is
    (subst (λ at. IfSome (slice_get document.items index) (λ item.
    HasPiece (text document) document.name item (place_between at c.index.result.now))) (sym read.0)
    (subst (λ next. IfSome (slice_get document.items index) (λ item.
    HasPiece (text document) document.name item (place_between (get_or offsets index 0) next))) (sym read.1) there))
