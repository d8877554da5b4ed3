-- The walk over the path decides the whole text.
use Rattle.std.proofs.Common.{◌≡◌, ◌↔◌, ℕ, List, ◌∷◌, ◌<◌, ◌==◌, Bool, true, false, get_or, drop, length, IsTrue, not}
use Rattle.std.proofs.Common.{◌||◌, sym, ap, ◌∙◌, refl}
use Rattle.std.proofs.lemmas.List.{at_drop_more, at_drop_all}
use Rattle.std.proofs.lemmas.Bool.{or_left, or_right}
use Rattle.chain_links.specs.Base.{is_segment_char}
use Rattle.chain_links.specs.Front.{IsPath}
use Rattle.chain_links.proofs.PathLemmas.{is_behind, segments_text, path_found, path_only}
use Rattle.chain_links.proofs.front.is_path.Goals.{then-is_closed, else-is_closed}
use Rattle.chain_links.proofs.front.is_path.Goals as goal

tells : (text segments : List ℕ) (answer : Bool) → text ≡ 47 ∷ segments → is_behind true segments ≡ answer →
    IsTrue answer ↔ IsPath text
tells text segments answer e walk = (
  λ yes. let f = path_found segments (walk ∙ yes) in (f.0, f.1, e ∙ ap (λ x. 47 ∷ x) (sym f.2)),
  λ p. let same : segments_text p.0 ≡ segments = let h : 47 ∷ segments ≡ 47 ∷ segments_text p.0 = sym e ∙ p.2 in cc in
      sym walk ∙ path_only segments p.0 p.1 same,
)

stuck : (text : List ℕ) (i : ℕ) (fresh : Bool) → is_behind fresh (drop i text) ≡ is_behind true text → i < length text →
    is_segment_char (get_or text i 0) ≡ false → (fresh || not (get_or text i 0 == 47)) ≡ true →
    is_behind true text ≡ false
stuck text i fresh walk lt other bad =
    sym walk ∙ at_drop_more (is_behind fresh) text i 0 lt ∙ rw (other, bad) refl

pub returns-then-byte-ne47 : goal.returns-then-byte-ne47
returns-then-byte-ne47 c =
    let bad : (c.loop-byte.is_closed || not (get_or c.in-Some.segments.now c.loop-byte.byte-index 0 == 47)) ≡ true =
    elim c.if-is_closed.branch [
      | then-is_closed w ↦ or_left c.loop-byte.is_closed _ w.if-is_closed.true
      | else-is_closed w ↦ or_right
          c.loop-byte.is_closed _ (sym w.value-is ∙ c.if-byte-ne47.true)
    ] in
    tells c.args.text.now c.in-Some.segments.now false c.in-Some.ensures.found
    (stuck c.in-Some.segments.now c.loop-byte.byte-index c.loop-byte.is_closed c.loop-byte.invariant
    c.loop-byte-test.true (sym c.is_segment_char.ensures ∙ c.if-is_segment_char.false) bad)

pub returns : goal.returns
returns c =
    tells c.args.text.now c.in-Some.segments.now c.loop-byte.is_closed c.in-Some.ensures.found
    (sym c.loop-byte.invariant
    ∙ at_drop_all (is_behind c.loop-byte.is_closed) c.in-Some.segments.now c.loop-byte.byte-index
    c.loop-byte-test.false)
