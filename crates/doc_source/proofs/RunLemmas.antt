-- The calls of a used limit, taken together.
use Rattle.std.proofs.Common.{◌≡◌, ℕ, ◌<◌, List, [], ◌∷◌, ◌++◌, length, sym, ap, ◌∙◌, arith, length-append}
use Rattle.std.specs.Prelude.{flat_map}
use Rattle.std.proofs.lemmas.List.{append-nil, append_assoc}
use Rattle.std.proofs.lemmas.List.Concat.{flat_map-append}
use Rattle.std.proofs.lemmas.List.Elements.{All-push}
use Rattle.doc_source.specs.declared.offer.Offer.{Offer}
use Rattle.doc_source.specs.Laws.{OffersAreReadInOrder, PilesAreReadWhole, read_text}
use Rattle.doc_source.specs.Pile.{IsOffer, head_at, offer_text, pile_head, pile_text}
use Rattle.doc_source.proofs.PileLemmas.{head_later}

-- the first line of the pile is used with the first offer
more_read : (offers : List Offer) (offer : Offer) (used : ℕ) → used ≡ length (read_text offers) →
    read_text offers ++ (head_at used ++ offer_text offer) ≡ read_text (offers ++ offer ∷ [])
more_read [] offer used e =
    ap (λ (n : ℕ). head_at n ++ offer_text offer) e
    ∙ ap (λ (x : List ℕ). pile_head ++ x) (sym (append-nil (offer_text offer)))
more_read (o ∷ offers) offer used e =
    let some : 0 < used = omega (arith, e, length-append pile_head (flat_map offer_text (o ∷ offers))) in
    ap (λ (x : List ℕ). pile_text (o ∷ offers) ++ (x ++ offer_text offer)) (head_later used some)
    ∙ append_assoc pile_head (flat_map offer_text (o ∷ offers)) (offer_text offer)
    ∙ ap (λ (x : List ℕ). pile_head ++ x)
    (ap (λ (x : List ℕ). flat_map offer_text (o ∷ offers) ++ x) (sym (append-nil (offer_text offer)))
    ∙ sym (flat_map-append offer_text (o ∷ offers) (offer ∷ [])))

pub in_order : OffersAreReadInOrder
in_order pile offers used limit bytes offer after r b e =
    let piece = head_at used ++ offer_text offer in
    let text : read_text offers ++ piece ≡ read_text (offers ++ offer ∷ []) =
    more_read offers offer used r.counted in
    record {
      are = All-push IsOffer offers offer r.are b.is_offer;
      whole =
          r.whole ∙ ap (λ (x : List ℕ). read_text offers ++ x) e
          ∙ sym (append_assoc (read_text offers) piece after)
          ∙ ap (λ (x : List ℕ). x ++ after) text;
      counted = omega (arith, r.counted, ap length text, length-append (read_text offers) piece);
    }

ended : (offers : List Offer) (used : ℕ) → used ≡ length (read_text offers) →
    read_text offers ++ head_at used ≡ pile_text offers
ended [] used e = ap head_at e ∙ sym (append-nil pile_head)
ended (o ∷ offers) used e =
    let some : 0 < used = omega (arith, e, length-append pile_head (flat_map offer_text (o ∷ offers))) in
    ap (λ (x : List ℕ). pile_text (o ∷ offers) ++ x) (head_later used some) ∙ append-nil (pile_text (o ∷ offers))

pub at_the_end : PilesAreReadWhole
at_the_end pile offers used limit bytes r e =
    r.whole ∙ ap (λ (x : List ℕ). read_text offers ++ x) e.whole ∙ ended offers used r.counted
