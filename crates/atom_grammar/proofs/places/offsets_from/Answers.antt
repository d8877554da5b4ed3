use Rattle.std.proofs.Common.{List, ℕ, ◌≤◌, ◌<◌, ◌+◌, ◌^◌, ap, sym, ◌∙◌, arith, length, subst}
use Rattle.std.proofs.lemmas.List.{take_rest, take_all, length-drop}
use Rattle.deleted_entries.specs.declared.item.Item.{Item}
use Rattle.atom_grammar.specs.Places.{AreItemOffsets}
use Rattle.atom_grammar.proofs.PlaceLemmas.{HasPlaced, one_placed}
use Rattle.atom_grammar.proofs.places.offsets_from.Goals as goal

pub loop-item-preserved : goal.loop-item-preserved
loop-item-preserved c =
    let text = c.args.written.now in
    let items = c.args.items.now in
    let at = c.loop-item.at in
    let i = c.loop-item.item-index in
    let n = c.piece_len-at.result in
    let same = take_rest text at in
    let within : at + n ≤ length text =
    omega (arith, c.loop-item.invariant.0, c.piece_len-at.ensures.within, ap length same, length-drop at text) in (
      within,
      λ name rest is_base e.
          subst (λ (ps : List ℕ). HasPlaced text name items (i + 1) ps (at + n) rest)
          (sym c.in_ok-push-2.ensures.items)
          (one_placed text name items i c.loop-item.offsets.items at n rest c.item-item.result is_base
          (c.loop-item.invariant.1 name rest is_base e) c.loop-item-test.true c.item-item.is
          (subst (λ k. 1 ≤ k) c.number.ensures.number c.number.ensures.from_one)
          (subst (λ k. k < 2 ^ 32) c.number.ensures.number c.number.type_inv)
          (λ piece behind is_cut split. c.piece_len-at.ensures.cut piece behind is_cut (same ∙ split)) within),
    )

pub returns : goal.returns
returns c = λ name rest is_base e.
    let items = c.args.items.now in
    let has = c.loop-item.invariant.1 name rest is_base e in
    subst (λ (xs : List Item). AreItemOffsets c.args.written.now name xs c.loop-item.offsets.items)
    (take_all c.loop-item.item-index items c.loop-item-test.false) has.offsets
