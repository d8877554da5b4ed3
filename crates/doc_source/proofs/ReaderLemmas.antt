-- The state of a reader, and what a call leaves unused.
use Rattle.std.proofs.Common.{◌≡◌, ℕ, ◌+◌, ◌-◌, ◌≤◌, List, [], ◌∷◌, ◌++◌, length, take, drop, decimal, Option, Some, None, Result, Err, refl, sym, ap, ◌∙◌, subst, arith, length-append}
use Rattle.std.proofs.lemmas.List.{append-nil, append_assoc, drop-append-le, length-take-le}
use Rattle.std.proofs.lemmas.Slice.{between_is}
use Rattle.atom_values.specs.Ascii.{lf, space}
use Rattle.doc_source.specs.declared.fault.PileFault.{PileFault}
use Rattle.doc_source.specs.declared.fault.PileFault.TheVariants.{BadPile, TooLong, SourceFault, NoMemory}
use Rattle.doc_source.specs.declared.offer.Offer.{Offer}
use Rattle.doc_source.specs.Intake.{IntakeState, TakesMore}
use Rattle.doc_source.specs.Outside.{SourceState}
use Rattle.doc_source.specs.Line.{HasNoLf, IsLine}
use Rattle.doc_source.specs.Part.{HasHead, IsLineEnd, Stays, part_text, with_part}
use Rattle.doc_source.specs.Pile.{BeginsWith, IsAnswer, IsEnd, IsOffer, head_at, line_text, offer_text, refusal_after, within}
use Rattle.doc_source.specs.declared.part.Part.{Part}
use Rattle.doc_source.proofs.CutLemmas.{take_past}
use Rattle.doc_source.proofs.SeenLemmas.{head_split}

-- each byte that was taken is counted
pub takes_sum : (T : Type 0) (used : ℕ) (s t : IntakeState) (a b : SourceState) → TakesMore T s t a b →
    used + length s.ahead ≡ s.taken → used + length t.ahead ≡ t.taken
takes_sum T used s t a b m sum = omega (arith, m.taken, ap length m.ahead, length-append s.ahead m.read, sum)

-- the bytes that are unused stay
pub takes_same : (T : Type 0) (s t : IntakeState) (a b : SourceState) → T → TakesMore T s t a b →
    s.ahead ++ a.left ≡ t.ahead ++ b.left
takes_same T s t a b observable m =
    ap (λ (x : List ℕ). s.ahead ++ x) (m.from observable)
    ∙ sym (append_assoc s.ahead m.read b.left)
    ∙ ap (λ (x : List ℕ). x ++ b.left) (sym m.ahead)

-- after a fault that is not given again the reader goes on
pub stays_from : (A : Type 0) (fault : PileFault) (e : ◌≡◌ {A = Option PileFault} (refusal_after (Err fault)) None) →
    Stays {A = A} (Err fault)
stays_from A (BadPile at) e = absurd (let f : ◌≡◌ {A = Option PileFault} (Some (BadPile at)) None = e in cc)
stays_from A (TooLong limit) e = absurd (let f : ◌≡◌ {A = Option PileFault} (Some (TooLong limit)) None = e in cc)
stays_from A SourceFault e = tt
stays_from A NoMemory e = absurd (let f : ◌≡◌ {A = Option PileFault} (Some NoMemory) None = e in cc)

-- an offer whose text is ahead is whole within the limit
pub offer_within : (used limit : ℕ) (text ahead left bytes : List ℕ) (offer : Offer) → IsOffer offer →
    text ≡ head_at used ++ offer_text offer → bytes ≡ (text ++ ahead) ++ left → length text ≤ limit - used →
    BeginsWith used (within used limit bytes) offer
offer_within used limit text ahead left bytes offer is own e h =
    let rest = take (limit - used - length text) (ahead ++ left) in
    record {
      rest = rest;
      is_offer = is;
      whole =
          ap (take (limit - used)) (e ∙ append_assoc text ahead left)
          ∙ take_past (limit - used) text (ahead ++ left) h
          ∙ ap (λ (x : List ℕ). x ++ rest) own
          ∙ append_assoc (head_at used) (offer_text offer) rest;
    }

pub offer_used : (used : ℕ) (text ahead left bytes : List ℕ) (offer : Offer) →
    text ≡ head_at used ++ offer_text offer → bytes ≡ (text ++ ahead) ++ left →
    bytes ≡ (head_at used ++ offer_text offer) ++ (ahead ++ left)
offer_used used text ahead left bytes offer own e =
    e ∙ append_assoc text ahead left ∙ ap (λ (x : List ℕ). x ++ (ahead ++ left)) own

-- an answer by the bytes that are unused now is one by those that were unused before
pub answer_before : (T : Type 0) (used : ℕ) (s t : IntakeState) (a b : SourceState)
    (answer : Result (Option Offer) PileFault) → T → TakesMore T s t a b →
    IsAnswer used t.limit (t.ahead ++ b.left) answer → IsAnswer used s.limit (s.ahead ++ a.left) answer
answer_before T used s t a b answer observable m is =
    subst (λ (x : List ℕ). IsAnswer used s.limit x answer) (sym (takes_same T s t a b observable m))
    (subst (λ (n : ℕ). IsAnswer used n (t.ahead ++ b.left) answer) m.limit is)

pub end_before : (T : Type 0) (used : ℕ) (s t : IntakeState) (a b : SourceState) → T → TakesMore T s t a b →
    IsEnd used t.limit (t.ahead ++ b.left) → IsEnd used s.limit (s.ahead ++ a.left)
end_before T used s t a b observable m is =
    subst (λ (x : List ℕ). IsEnd used s.limit x) (sym (takes_same T s t a b observable m))
    (subst (λ (n : ℕ). IsEnd used n (t.ahead ++ b.left)) m.limit is)

-- the line that was found, and what is after it
pub line_parts : (head end : ℕ) (ahead : List ℕ) → IsLineEnd ahead head end →
    drop head ahead ≡ take (end - head) (drop head ahead) ++ (lf ∷ drop (end + 1) ahead)
line_parts head end ahead e =
    let long = length-take-le end ahead (omega (arith, e.within)) in
    ap (drop head) e.split
    ∙ drop-append-le head (take end ahead) (lf ∷ drop (end + 1) ahead) (omega (arith, long, e.after))
    ∙ ap (λ (x : List ℕ). x ++ (lf ∷ drop (end + 1) ahead)) (sym (between_is ahead head end))

pub line_no_lf : (head end : ℕ) (ahead : List ℕ) → IsLineEnd ahead head end →
    HasNoLf (take (end - head) (drop head ahead))
line_no_lf head end ahead e = subst HasNoLf (sym (between_is ahead head end)) e.no_lf

-- the text of a part whose line was read
pub line_used : (used head end : ℕ) (ahead : List ℕ) (part : Part) → head ≡ length (head_at used) → HasHead used ahead →
    IsLineEnd ahead head end → IsLine (take (end - head) (drop head ahead)) part.address part.count →
    part.behind.items ≡ [] → part_text used part ++ drop (end + 1) ahead ≡ ahead
line_used used head end ahead part len has e line none =
    let rest = drop (end + 1) ahead in
    ap (λ (x : List ℕ). (head_at used ++ (line_text part.address part.count ++ x)) ++ rest) none
    ∙ regroup (head_at used) part.address (decimal part.count) rest
    ∙ ap (λ (x : List ℕ). head_at used ++ (x ++ (lf ∷ rest))) (sym line.whole)
    ∙ ap (λ (x : List ℕ). head_at used ++ x) (sym (line_parts head end ahead e))
    ∙ sym (head_split used head ahead len has)
  where
    regroup : (h a d r : List ℕ) →
        (h ++ ((a ++ (space ∷ (d ++ lf ∷ []))) ++ [])) ++ r ≡ h ++ ((a ++ (space ∷ d)) ++ (lf ∷ r))
    regroup h a d r = simp (append-nil, append_assoc)

pub with_part-limit : (used : ℕ) (part : Option Part) (intake : IntakeState) →
    (with_part used part intake).limit ≡ intake.limit
with_part-limit used None intake = refl
with_part-limit used (Some part) intake = refl

pub with_part-taken : (used : ℕ) (part : Option Part) (intake : IntakeState) →
    (with_part used part intake).taken ≡ intake.taken
with_part-taken used None intake = refl
with_part-taken used (Some part) intake = refl
