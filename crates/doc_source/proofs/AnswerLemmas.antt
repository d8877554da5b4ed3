-- The bytes of a pile have one answer.
use Rattle.std.proofs.Common.{◌≡◌, ◌≢◌, ⊎_elim, ℕ, zero, suc, ◌-◌, List, ◌++◌, length, Option, Some, None, Result, Ok, Err, refl, sym, ap, ◌∙◌, arith, length-append, length-take}
use Rattle.std.proofs.lemmas.Bool.{cases_eq}
use Rattle.std.proofs.lemmas.List.{append_cancel_left}
use Rattle.doc_source.specs.declared.fault.PileFault.{PileFault}
use Rattle.doc_source.specs.declared.fault.PileFault.TheVariants.{BadPile, TooLong, SourceFault, NoMemory}
use Rattle.doc_source.specs.declared.offer.Offer.{Offer}
use Rattle.doc_source.specs.Pile.{
  BeginsPile,
  BeginsWith,
  IsAnswer,
  IsEnd,
  IsOfBytes,
  IsPlace,
  head_at,
  offer_text,
  within,
}
use Rattle.doc_source.proofs.OneReading.{offer_some, offer_unique}

offer_at_end : {A : Type 0} (used limit : ℕ) (bytes : List ℕ) (offer : Offer) →
    BeginsWith used (within used limit bytes) offer → IsEnd used limit bytes → A
offer_at_end used limit bytes offer b e =
    absurd (omega (
      arith,
      ap length b.whole,
      ap length e.whole,
      length-take (limit - used) bytes,
      length-append (head_at used) (offer_text offer ++ b.rest),
      length-append (offer_text offer) b.rest,
      offer_some offer b.is_offer,
    ))

one_offer : (used : ℕ) (bytes : List ℕ) (one other : Offer) → BeginsWith used bytes one → BeginsWith used bytes other →
    one ≡ other
one_offer used bytes one other p q =
    (offer_unique one other p.rest q.rest p.is_offer q.is_offer
    (append_cancel_left (head_at used) (offer_text one ++ p.rest) (offer_text other ++ q.rest)
    (sym p.whole ∙ q.whole))).0

one_place : (used : ℕ) (bytes : List ℕ) (one other : ℕ) → IsPlace used bytes one → IsPlace used bytes other
    → one ≡ other
one_place zero bytes one other p q =
    ⊎_elim (λ same. same)
    (λ differ.
    let not : BeginsPile bytes → ⊥ = λ b. differ (p.behind_head refl b ∙ sym (q.behind_head refl b)) in
    absurd (differ (p.in_head refl not ∙ sym (q.in_head refl not))))
    (cases_eq one other)
one_place (suc n) bytes one other p q =
    let later : suc n ≢ 0 = λ z. absurd (omega (arith, z)) in
    p.behind_offers later ∙ sym (q.behind_offers later)

pub one_answer : (used limit : ℕ) (bytes : List ℕ) (one other : Result (Option Offer) PileFault) →
    IsAnswer used limit bytes one → IsAnswer used limit bytes other → IsOfBytes one → IsOfBytes other → one ≡ other
one_answer used limit bytes (Ok (Some o)) (Ok (Some v)) p q u w =
    ap (λ (x : Offer). Ok (Some x)) (one_offer used (within used limit bytes) o v p q)
one_answer used limit bytes (Ok (Some o)) (Ok None) p q u w = offer_at_end used limit bytes o p q
one_answer used limit bytes (Ok (Some o)) (Err (BadPile a)) p q u w = absurd (q.no_offer o p)
one_answer used limit bytes (Ok (Some o)) (Err (TooLong l)) p q u w = absurd (q.1.no_offer o p)
one_answer used limit bytes (Ok None) (Ok (Some v)) p q u w = offer_at_end used limit bytes v q p
one_answer used limit bytes (Ok None) (Ok None) p q u w = refl
one_answer used limit bytes (Ok None) (Err (BadPile a)) p q u w = absurd (q.no_end p)
one_answer used limit bytes (Ok None) (Err (TooLong l)) p q u w = absurd (omega (arith, p.short, q.1.more))
one_answer used limit bytes (Err (BadPile a)) (Ok (Some v)) p q u w = absurd (p.no_offer v q)
one_answer used limit bytes (Err (BadPile a)) (Ok None) p q u w = absurd (p.no_end q)
one_answer used limit bytes (Err (BadPile a)) (Err (BadPile b)) p q u w =
    ap (λ (x : ℕ). Err (BadPile x)) (one_place used bytes a b p.place q.place)
one_answer used limit bytes (Err (BadPile a)) (Err (TooLong l)) p q u w = absurd (p.not_too_long q.1)
one_answer used limit bytes (Err (TooLong l)) (Ok (Some v)) p q u w = absurd (p.1.no_offer v q)
one_answer used limit bytes (Err (TooLong l)) (Ok None) p q u w = absurd (omega (arith, q.short, p.1.more))
one_answer used limit bytes (Err (TooLong l)) (Err (BadPile b)) p q u w = absurd (q.not_too_long p.1)
one_answer used limit bytes (Err (TooLong l)) (Err (TooLong m)) p q u w =
    ap (λ (x : ℕ). Err (TooLong x)) (p.0 ∙ sym q.0)
one_answer used limit bytes (Err SourceFault) other p q u w = absurd u
one_answer used limit bytes (Err NoMemory) other p q u w = absurd u
one_answer used limit bytes (Ok (Some o)) (Err SourceFault) p q u w = absurd w
one_answer used limit bytes (Ok (Some o)) (Err NoMemory) p q u w = absurd w
one_answer used limit bytes (Ok None) (Err SourceFault) p q u w = absurd w
one_answer used limit bytes (Ok None) (Err NoMemory) p q u w = absurd w
one_answer used limit bytes (Err (BadPile a)) (Err SourceFault) p q u w = absurd w
one_answer used limit bytes (Err (BadPile a)) (Err NoMemory) p q u w = absurd w
one_answer used limit bytes (Err (TooLong l)) (Err SourceFault) p q u w = absurd w
one_answer used limit bytes (Err (TooLong l)) (Err NoMemory) p q u w = absurd w
