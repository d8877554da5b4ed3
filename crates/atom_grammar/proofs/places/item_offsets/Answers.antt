use Rattle.std.proofs.Common.{◌≡◌, ◌++◌, List, sym, ap, ◌∙◌, subst, IfOk, map, drop, codes, [], ◌∷◌, ℕ}
use Rattle.std.proofs.lemmas.Result.{IfOk-weaker}
use Rattle.chain_links.specs.Base.{IsBase}
use Rattle.chain_links.specs.declared.place.Span.{Span}
use Rattle.deleted_entries.specs.declared.item.Item.{Item}
use Rattle.atom_writer.specs.declared.doc.FeedName.{FeedName}
use Rattle.atom_writer.specs.Doc.{DocValue}
use Rattle.atom_writer.specs.Pieces.{item_piece, joined, text}
use Rattle.atom_grammar.specs.Places.{AreItemOffsets, first_pieces}
use Rattle.atom_grammar.proofs.PlaceLemmas.{text_parts}
use Rattle.atom_grammar.proofs.places.item_offsets.Goals as goal

pub returns : goal.returns
returns c =
    let d = c.args.document.now in
    let inside = c.document.inside in
    let span = c.place-place.result.span in
    let prev = c.place-place.result.prev in
    let written = c.args.written.now in
    let from = c.after_pieces-from.result in
    let parts : Span → ℕ → DocValue = λ s p. record {
      name = inside.name;
      kind = inside.kind;
      span = s;
      prev = p;
      updated = inside.updated;
      items = inside.items.items;
    } in
    let seen = parts span prev in
    let opened = sym c.document.view_is in
    let same : d ≡ seen = opened
    ∙ ap (λ s. parts s inside.prev) (sym (c.place-place.ensures.span ∙ ap (λ (z : DocValue). z.span) opened))
    ∙ ap (λ p. parts span p) (sym (c.place-place.ensures.prev ∙ ap (λ (z : DocValue). z.prev) opened)) in
    let rest = joined (map (item_piece seen.name) seen.items) ++ joined (codes "</feed>\n" ∷ []) in
    let first = first_pieces seen.name seen.updated seen.kind seen.span seen.prev in
    let left : drop from written ≡ rest =
    c.after_pieces-from.ensures.rest first rest
    (c.first_count.ensures.cut seen.name seen.updated c.text.ensures.base)
    (c.first_count.ensures.count seen.name seen.updated)
    (c.requires.text ∙ ap (λ (z : DocValue). text z) same ∙ text_parts seen) in
    let found =
    subst (λ (xs : List Item). IfOk c.offsets_from.result (λ offsets. (name : FeedName) (rest : List ℕ) → IsBase name.base
    → drop from written ≡ joined (map (item_piece name) xs) ++ rest → AreItemOffsets written name xs offsets.items))
    c.as_slice.ensures.items c.offsets_from.ensures in
    subst (λ (z : DocValue). IfOk c.offsets_from.result (λ offsets. AreItemOffsets written z.name z.items offsets.items))
    (sym same)
    (IfOk-weaker c.offsets_from.result _ _
    (λ offsets each. each seen.name (joined (codes "</feed>\n" ∷ [])) c.text.ensures.base left) found)
