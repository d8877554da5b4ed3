-- `mirror` from a pile: the input has one answer.
use Rattle.std.proofs.Common.{◌≡◌, ◌⊎◌, inl, inr, ℕ, List, [], ◌∷◌, ◌++◌, Bool, Option, None}
use Rattle.std.proofs.Common.{Result, Ok, Err, map, refl, sym, ap, ap₂, subst, ◌∙◌}
use Rattle.std.proofs.Common.{append_assoc}
use Rattle.std.proofs.lemmas.List.{append-nil, map-append}
use Rattle.doc_source.specs.declared.fault.PileFault.{PileFault}
use Rattle.doc_source.specs.declared.fault.PileFault.TheVariants as piles
use Rattle.doc_source.specs.declared.offer.Offer.{Offer}
use Rattle.mirror_walk.specs.Accept.{Answer as MirrorAnswer, IsAnswerWithin}
use Rattle.mirror_walk.specs.Holding.{KeptValue}
use Rattle.mirror_walk.specs.Offers.{Offering}
use Rattle.mirror_walk.specs.declared.answer.Offered.TheVariants.{Full as NoRoom}
use Rattle.command_ends.specs.Answer.{Answer}
use Rattle.command_ends.specs.Fault.{fault_answer, refusal_answer}
use Rattle.mirror_commands.specs.Mirror.{HasAnswered, IsFilled, IsMirrored, ReadsTo}
use Rattle.mirror_commands.specs.Mirror.{offering, pile_limit}
use Rattle.mirror_commands.specs.MirrorFaults.{full_fault}
use Rattle.mirror_commands.specs.Report.{AreAnsweredWithin, report_of}
use Rattle.command_ends.specs.declared.fault.Refusal.TheVariants.{BadPile, TooLong}
use Rattle.mirror_commands.proofs.AnswersLemmas.{answer-once, answers-once, full-unanswered}
use Rattle.mirror_commands.proofs.OnePileLemmas.{Ends, Extends, both-read, extended, reads-once}

-- an end at which the pile was read whole, as far as it can be
abbrev end_answer : Bool → List ℕ → List Offer → List MirrorAnswer → List KeptValue → Result (Option Offer) PileFault
    → Answer
end_answer report base offers answers left (Ok found) = report_of report base (map offering offers) answers left
end_answer report base offers answers left (Err (piles.BadPile at)) = refusal_answer (BadPile at)
end_answer report base offers answers left (Err (piles.TooLong limit)) = refusal_answer TooLong
end_answer report base offers answers left (Err piles.SourceFault) = refusal_answer TooLong
end_answer report base offers answers left (Err piles.NoMemory) = refusal_answer TooLong

record IsWhole (report : Bool) (capacity : ℕ) (base : List ℕ) (kept : List KeptValue) (input : List ℕ)
    (given : Answer) : Type 0 where
  offers : List Offer
  last : Result (Option Offer) PileFault
  read : ReadsTo input offers last
  ends : Ends last
  left : List KeptValue
  has : HasAnswered capacity base kept offers left
  is : given ≡ end_answer report base offers has.answers left last

-- the ends of a pile, by whether an offer filled the area
whole-of : (report : Bool) (capacity : ℕ) (base : List ℕ) (kept : List KeptValue) (input : List ℕ) (given : Answer)
    → IsMirrored report capacity base kept input given
    → IsWhole report capacity base kept input given ⊎ IsFilled capacity base kept input given
whole-of report capacity base kept input given (inl p) = inl record {
  offers = p.offers;
  last = Ok None;
  read = p.read;
  ends = tt;
  left = p.left;
  has = p.has;
  is = p.is;
}
whole-of report capacity base kept input given (inr (inl p)) = inr p
whole-of report capacity base kept input given (inr (inr (inl p))) = inl record {
  offers = p.offers;
  last = Err (piles.BadPile p.at);
  read = p.read;
  ends = tt;
  left = p.left;
  has = p.has;
  is = p.is;
}
whole-of report capacity base kept input given (inr (inr (inr p))) = inl record {
  offers = p.offers;
  last = Err (piles.TooLong pile_limit);
  read = p.read;
  ends = tt;
  left = p.left;
  has = p.has;
  is = p.is;
}

-- the last one of a list
record HasLast (xs : List Offer) : Type 0 where
  front : List Offer
  last : Offer
  split : xs ≡ front ++ last ∷ []

has-last : (x : Offer) (xs : List Offer) → HasLast (x ∷ xs)
has-last x [] = record { front = []; last = x; split = refl }
has-last x (y ∷ ys) =
    let more = has-last y ys in
    record { front = x ∷ more.front; last = more.last; split = ap (λ (zs : List Offer). x ∷ zs) more.split }

snoc-same : (xs ys : List Offer) (x y : Offer) → xs ++ x ∷ [] ≡ ys ++ y ∷ [] → (xs ≡ ys) × (x ≡ y)
snoc-same [] [] x y e = (refl, let same : x ≡ y = cc in same)
snoc-same [] (b ∷ []) x y e = absurd (let none : ◌≡◌ {A = List Offer} [] (y ∷ []) = cc in cc)
snoc-same [] (b ∷ c ∷ ys) x y e = absurd (let none : [] ≡ c ∷ ys ++ y ∷ [] = cc in cc)
snoc-same (a ∷ []) [] x y e = absurd (let none : ◌≡◌ {A = List Offer} (x ∷ []) [] = cc in cc)
snoc-same (a ∷ c ∷ xs) [] x y e = absurd (let none : c ∷ xs ++ x ∷ [] ≡ [] = cc in cc)
snoc-same (a ∷ xs) (b ∷ ys) x y e =
    let head : a ≡ b = cc in
    let tail : xs ++ x ∷ [] ≡ ys ++ y ∷ [] = cc in
    let more = snoc-same xs ys x y tail in
    ((λ i. head i ∷ more.0 i), more.1)

module _ (report : Bool) (capacity : ℕ) (base : List ℕ) (kept : List KeptValue) (input : List ℕ) where
  whole-once : (one other : Answer) → IsWhole report capacity base kept input one
      → IsWhole report capacity base kept input other
      → one ≡ other
  whole-once one other p q =
      let read = reads-once pile_limit input p.offers q.offers p.last q.last p.read q.read p.ends q.ends in
      let same = answers-once capacity base kept (map offering p.offers) p.has.answers q.has.answers p.left q.left
      p.has.answered
      (subst (λ (os : List Offer). AreAnsweredWithin capacity base kept (map offering os) q.has.answers q.left) read.0
      q.has.answered) in
      p.is
      ∙ ap₂ (λ (os : List Offer) (last : Result (Option Offer) PileFault).
      end_answer report base os p.has.answers p.left last) (sym read.0) (sym read.1)
      ∙ ap₂ (λ (answers : List MirrorAnswer) (left : List KeptValue).
      end_answer report base q.offers answers left q.last)
      (sym same.0) (sym same.1)
      ∙ sym q.is

  -- an offer that fills the area isn't among offers that were all answered
  not-among : (given : Answer) (f : IsFilled capacity base kept input given) (whole rest : List Offer)
      (left : List KeptValue) → HasAnswered capacity base kept whole left → whole ≡ f.offers ++ f.offer ∷ rest → ⊥
  not-among given f whole rest left has e =
      full-unanswered capacity base kept (map offering f.offers) (offering f.offer) (map offering rest) f.has.answers
      has.answers f.left left f.size f.needed f.has.answered f.full
      (subst (λ (os : List Offering). AreAnsweredWithin capacity base kept os has.answers left)
      (ap (map offering) e ∙ map-append offering f.offers (f.offer ∷ rest)) has.answered)

  filled-whole : (one other : Answer) → IsFilled capacity base kept input one
      → IsWhole report capacity base kept input other → ⊥
  filled-whole one other f w =
      let upto = f.offers ++ f.offer ∷ [] in
      elim (both-read upto w.offers f.read.bytes w.read.bytes f.read.read.are w.read.read.are
      (sym f.read.read.whole ∙ w.read.read.whole)) [
        | inl more ↦ not-among one f w.offers more.rest w.left w.has
            (more.split ∙ append_assoc f.offers (f.offer ∷ []) more.rest)
        | inr more ↦ not-among one f w.offers [] w.left w.has
            (sym (extended pile_limit input w.offers upto w.last w.read f.read w.ends more))
      ]

  filled-longer : (one other : Answer) (p : IsFilled capacity base kept input one)
      (q : IsFilled capacity base kept input other)
      → Extends (p.offers ++ p.offer ∷ []) (q.offers ++ q.offer ∷ [])
      → q.offers ++ q.offer ∷ [] ≡ p.offers ++ p.offer ∷ []
  filled-longer one other p q more = go more.rest more.split
    where
      go : (rest : List Offer) → q.offers ++ q.offer ∷ [] ≡ (p.offers ++ p.offer ∷ []) ++ rest
          → q.offers ++ q.offer ∷ [] ≡ p.offers ++ p.offer ∷ []
      go [] e = e ∙ append-nil (p.offers ++ p.offer ∷ [])
      go (r ∷ rest) e =
          let last = has-last r rest in
          let split : q.offers ++ q.offer ∷ [] ≡ ((p.offers ++ p.offer ∷ []) ++ last.front) ++ last.last ∷ [] =
          e ∙ ap (λ (zs : List Offer). (p.offers ++ p.offer ∷ []) ++ zs) last.split
          ∙ sym (append_assoc (p.offers ++ p.offer ∷ []) last.front (last.last ∷ [])) in
          let same = snoc-same q.offers ((p.offers ++ p.offer ∷ []) ++ last.front) q.offer last.last split in
          absurd (not-among one p q.offers last.front q.left q.has
          (same.0 ∙ append_assoc p.offers (p.offer ∷ []) last.front))

  filled-same : (one other : Answer) (p : IsFilled capacity base kept input one)
      (q : IsFilled capacity base kept input other) → q.offers ++ q.offer ∷ [] ≡ p.offers ++ p.offer ∷ []
      → one ≡ other
  filled-same one other p q e =
      let same = snoc-same q.offers p.offers q.offer p.offer e in
      let held = answers-once capacity base kept (map offering p.offers) p.has.answers q.has.answers p.left q.left
      p.has.answered
      (subst (λ (os : List Offer). AreAnsweredWithin capacity base kept (map offering os) q.has.answers q.left) same.0
      q.has.answered) in
      let full : IsAnswerWithin capacity base p.left p.offer.address p.offer.bytes
      (Err (NoRoom q.size q.needed capacity)) p.left =
      subst (λ (ks : List KeptValue). IsAnswerWithin capacity base ks p.offer.address p.offer.bytes
      (Err (NoRoom q.size q.needed capacity)) ks) held.1
      (subst (λ (o : Offer). IsAnswerWithin capacity base q.left o.address o.bytes
      (Err (NoRoom q.size q.needed capacity)) q.left) same.1 q.full) in
      let answer = answer-once capacity base p.left p.offer.address p.offer.bytes
      (Err (NoRoom p.size p.needed capacity))
      (Err (NoRoom q.size q.needed capacity)) p.left p.left p.full full in
      let size : q.size ≡ p.size = let a = answer.0 in cc in
      let needed : q.needed ≡ p.needed = let a = answer.0 in cc in
      p.is ∙ ap₂ (λ (s n : ℕ). fault_answer (full_fault s n capacity)) (sym size) (sym needed) ∙ sym q.is

  filled-once : (one other : Answer) → IsFilled capacity base kept input one
      → IsFilled capacity base kept input other → one ≡ other
  filled-once one other p q =
      filled-same one other p q
      (elim (both-read (p.offers ++ p.offer ∷ []) (q.offers ++ q.offer ∷ []) p.read.bytes q.read.bytes p.read.read.are
      q.read.read.are (sym p.read.read.whole ∙ q.read.read.whole)) [
        | inl more ↦ filled-longer one other p q more
        | inr more ↦ sym (filled-longer other one q p more)
      ])

  -- the input of `mirror` has one answer, by the documents held before
  pub mirrored-once : (one other : Answer) → IsMirrored report capacity base kept input one
      → IsMirrored report capacity base kept input other → one ≡ other
  mirrored-once one other p q =
      elim (whole-of report capacity base kept input one p) [
        | inl a ↦ elim (whole-of report capacity base kept input other q) [
          | inl b ↦ whole-once one other a b
          | inr b ↦ absurd (filled-whole other one b a)
        ]
        | inr a ↦ elim (whole-of report capacity base kept input other q) [
          | inl b ↦ absurd (filled-whole one other a b)
          | inr b ↦ filled-once one other a b
        ]
      ]
