-- A pile is read in one way.
use Rattle.std.proofs.Common.{◌≡◌, ◌⊎◌, inl, inr, ℕ, ◌-◌, ◌<◌, ◌≤◌, List, [], ◌∷◌, ◌++◌, Option, Some, None}
use Rattle.std.proofs.Common.{Result}
use Rattle.std.proofs.Common.{Ok, Err, length, refl, sym, ap, subst, ◌∙◌, arith, length-append, append_assoc}
use Rattle.std.specs.Prelude.{All, flat_map}
use Rattle.std.proofs.lemmas.List.{append-nil, append_cancel_left}
use Rattle.std.proofs.lemmas.List.Concat.{flat_map-append}
use Rattle.std.proofs.lemmas.List.Elements.{All-head, All-tail}
use Rattle.doc_source.specs.Laws.{read_text}
use Rattle.doc_source.specs.Pile.{IsAnswer as IsPileAnswer, IsOfBytes, IsOffer, head_at, offer_text, pile_head}
use Rattle.doc_source.specs.declared.fault.PileFault.{PileFault}
use Rattle.doc_source.specs.declared.fault.PileFault.TheVariants as piles
use Rattle.doc_source.specs.declared.offer.Offer.{Offer}
use Rattle.doc_source.proofs.AnswerLemmas.{one_answer}
use Rattle.doc_source.proofs.OneReading.{offer_unique}
use Rattle.doc_source.proofs.PileLemmas.{head_later}
use Rattle.doc_source.proofs.ReaderLemmas.{offer_within}
use Rattle.mirror_commands.specs.Mirror.{ReadsOffersWithin, ReadsToWithin}

-- the second list is the first and more
pub record Extends (first whole : List Offer) : Type 0 where
  pub rest : List Offer
  pub split : whole ≡ first ++ rest

extends-cons : (o v : Offer) (first whole : List Offer) → o ≡ v → Extends first whole
    → Extends (o ∷ first) (v ∷ whole)
extends-cons o v first whole same more = record { rest = more.rest; split = λ i. sym same i ∷ more.split i }

-- two lists of offers with which one text begins: one is the other and more
goes-on : (one other : List Offer) (a b : List ℕ) → All IsOffer one → All IsOffer other
    → flat_map offer_text one ++ a ≡ flat_map offer_text other ++ b → Extends one other ⊎ Extends other one
goes-on [] other a b p q e = inl (record { rest = other; split = refl })
goes-on (o ∷ one) [] a b p q e = inr (record { rest = o ∷ one; split = refl })
goes-on (o ∷ one) (v ∷ other) a b p q e =
    let same = offer_unique o v (flat_map offer_text one ++ a) (flat_map offer_text other ++ b)
    (All-head IsOffer o one p) (All-head IsOffer v other q)
    (sym (append_assoc (offer_text o) (flat_map offer_text one) a) ∙ e
    ∙ append_assoc (offer_text v) (flat_map offer_text other) b) in
    elim (goes-on one other a b (All-tail IsOffer o one p) (All-tail IsOffer v other q) same.1) [
      | inl more ↦ inl (extends-cons o v one other same.0 more)
      | inr more ↦ inr (extends-cons v o other one (sym same.0) more)
    ]

-- the same of what was read of a pile
pub both-read : (one other : List Offer) (a b : List ℕ) → All IsOffer one → All IsOffer other
    → read_text one ++ a ≡ read_text other ++ b → Extends one other ⊎ Extends other one
both-read [] other a b p q e = inl (record { rest = other; split = refl })
both-read (o ∷ one) [] a b p q e = inr (record { rest = o ∷ one; split = refl })
both-read (o ∷ one) (v ∷ other) a b p q e =
    goes-on (o ∷ one) (v ∷ other) a b p q
    (append_cancel_left pile_head (flat_map offer_text (o ∷ one) ++ a) (flat_map offer_text (v ∷ other) ++ b)
    (sym (append_assoc pile_head (flat_map offer_text (o ∷ one)) a) ∙ e
    ∙ append_assoc pile_head (flat_map offer_text (v ∷ other)) b))

-- the offers that are read, with one more and others after it
read-more : (first rest : List Offer) (offer : Offer) (used : ℕ) → used ≡ length (read_text first)
    → read_text (first ++ offer ∷ rest)
    ≡ read_text first ++ ((head_at used ++ offer_text offer) ++ flat_map offer_text rest)
read-more [] rest offer used e =
    sym (append_assoc pile_head (offer_text offer) (flat_map offer_text rest))
    ∙ ap (λ (n : ℕ). (head_at n ++ offer_text offer) ++ flat_map offer_text rest) (sym e)
read-more (o ∷ first) rest offer used e =
    let some : 0 < used = omega (arith, e, length-append pile_head (flat_map offer_text (o ∷ first))) in
    ap (λ (x : List ℕ). pile_head ++ x) (flat_map-append offer_text (o ∷ first) (offer ∷ rest))
    ∙ sym (append_assoc pile_head (flat_map offer_text (o ∷ first)) (flat_map offer_text (offer ∷ rest)))
    ∙ ap (λ (x : List ℕ). read_text (o ∷ first) ++ ((x ++ offer_text offer) ++ flat_map offer_text rest))
    (sym (head_later used some))

All-middle : (first rest : List Offer) (offer : Offer) → All IsOffer (first ++ offer ∷ rest) → IsOffer offer
All-middle [] rest offer p = All-head IsOffer offer rest p
All-middle (o ∷ first) rest offer p = All-middle first rest offer (All-tail IsOffer o (first ++ offer ∷ rest) p)

-- an answer with which a pile isn't read on, and which depends on its bytes
abbrev pub Ends : Result (Option Offer) PileFault → Type 0
Ends (Ok None) = Unit {0}
Ends (Ok (Some offer)) = ⊥
Ends (Err (piles.BadPile at)) = Unit {0}
Ends (Err (piles.TooLong stated)) = Unit {0}
Ends (Err piles.SourceFault) = ⊥
Ends (Err piles.NoMemory) = ⊥

ends-of_bytes : (last : Result (Option Offer) PileFault) → Ends last → IsOfBytes last
ends-of_bytes (Ok found) ends = tt
ends-of_bytes (Err (piles.BadPile at)) ends = tt
ends-of_bytes (Err (piles.TooLong stated)) ends = tt
ends-of_bytes (Err piles.SourceFault) ends = absurd ends
ends-of_bytes (Err piles.NoMemory) ends = absurd ends

-- where a reading ends, no other reading of the pile goes on
pub no-more : (limit : ℕ) (pile : List ℕ) (first whole rest : List Offer) (last : Result (Option Offer) PileFault)
    → ReadsToWithin limit pile first last → ReadsOffersWithin limit pile whole → Ends last → whole ≡ first ++ rest
    → rest ≡ []
no-more limit pile first whole [] last p q ends e = refl
no-more limit pile first whole (offer ∷ rest) last p q ends e =
    let text = head_at p.used ++ offer_text offer in
    let more = flat_map offer_text rest in
    let is = All-middle first rest offer (subst (All IsOffer) e q.read.are) in
    let read : read_text whole ≡ read_text first ++ (text ++ more) =
    ap read_text e ∙ read-more first rest offer p.used p.read.counted in
    let bytes : p.bytes ≡ (text ++ more) ++ q.bytes =
    append_cancel_left (read_text first) p.bytes ((text ++ more) ++ q.bytes)
    (sym p.read.whole ∙ q.read.whole ∙ ap (λ (x : List ℕ). x ++ q.bytes) read
    ∙ append_assoc (read_text first) (text ++ more) q.bytes) in
    let short : length text ≤ limit - p.used = omega (
      arith,
      q.within,
      q.read.counted,
      p.read.counted,
      ap length read,
      length-append (read_text first) (text ++ more),
      length-append text more,
    ) in
    let begins = offer_within p.used limit text more q.bytes p.bytes offer is refl bytes short in
    let same = one_answer p.used limit p.bytes (Ok (Some offer)) last begins p.answer tt
    (ends-of_bytes last ends) in
    absurd (subst Ends (sym same) ends)

same-end : (limit : ℕ) (pile : List ℕ) (offers : List Offer) (last final : Result (Option Offer) PileFault)
    → ReadsToWithin limit pile offers last → ReadsToWithin limit pile offers final → Ends last → Ends final
    → last ≡ final
same-end limit pile offers last final p q ends_p ends_q =
    let used : q.used ≡ p.used = q.read.counted ∙ sym p.read.counted in
    let bytes : q.bytes ≡ p.bytes =
    append_cancel_left (read_text offers) q.bytes p.bytes (sym q.read.whole ∙ p.read.whole) in
    one_answer p.used limit p.bytes last final p.answer
    (subst (λ (b : List ℕ). IsPileAnswer p.used limit b final) bytes
    (subst (λ (n : ℕ). IsPileAnswer n limit q.bytes final) used q.answer)) (ends-of_bytes last ends_p)
    (ends-of_bytes final ends_q)

-- the offers that a whole reading has
offers-of : (limit : ℕ) (pile : List ℕ) (offers : List Offer) (last : Result (Option Offer) PileFault)
    → ReadsToWithin limit pile offers last → ReadsOffersWithin limit pile offers
offers-of limit pile offers last p = record { used = p.used; bytes = p.bytes; read = p.read; within = p.within }

pub extended : (limit : ℕ) (pile : List ℕ) (first whole : List Offer) (last : Result (Option Offer) PileFault)
    → ReadsToWithin limit pile first last → ReadsOffersWithin limit pile whole → Ends last → Extends first whole
    → whole ≡ first
extended limit pile first whole last p q ends more =
    more.split
    ∙ ap (λ (rest : List Offer). first ++ rest) (no-more limit pile first whole more.rest last p q ends more.split)
    ∙ append-nil first

-- a pile is read in one way
pub reads-once : (limit : ℕ) (pile : List ℕ) (one other : List Offer) (last final : Result (Option Offer) PileFault)
    → ReadsToWithin limit pile one last → ReadsToWithin limit pile other final → Ends last → Ends final
    → (other ≡ one) × (final ≡ last)
reads-once limit pile one other last final p q ends_p ends_q =
    let same : other ≡ one =
    elim (both-read one other p.bytes q.bytes p.read.are q.read.are (sym p.read.whole ∙ q.read.whole)) [
      | inl more ↦ extended limit pile one other last p (offers-of limit pile other final q) ends_p more
      | inr more ↦ sym (extended limit pile other one final q (offers-of limit pile one last p) ends_q more)
    ] in
    let read = subst (λ (os : List Offer). ReadsToWithin limit pile os final) same q in
    (same, sym (same-end limit pile one last final p read ends_p ends_q))
