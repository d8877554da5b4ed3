-- The bytes that a reader has seen when it has to answer, and the answer.
use Rattle.std.proofs.Common.{◌≡◌, ◌≢◌, ℕ, zero, suc, ◌+◌, ◌-◌, ◌<◌, ◌≤◌, true, false, List, [], ◌∷◌, ◌++◌, length, take, drop, nat_eq, refl, sym, ap, ◌∙◌, subst, arith, length-append, length-take}
use Rattle.std.specs.List.{ends_with, starts_with}
use Rattle.std.proofs.lemmas.Bool.{false≢true}
use Rattle.std.proofs.lemmas.List.{append-nil, append_assoc, drop_at, drop-append-le, length-take-le, take_at, take-append-drop, take-take}
use Rattle.std.proofs.lemmas.List.Elements.{All-append}
use Rattle.std.proofs.lemmas.Slice.Eq.{bytes_eq-Decides}
use Rattle.atom_values.specs.Ascii.{lf}
use Rattle.doc_source.specs.Intake.{IntakeState, TakesMore}
use Rattle.doc_source.specs.Line.{BeginsLine, HasNoLf, IsLine}
use Rattle.doc_source.specs.Outside.{SourceState}
use Rattle.doc_source.specs.Part.{HasHead, IsLineEnd, IsPart, IsWhole, part_text}
use Rattle.doc_source.specs.Pile.{BeginsPile, IsBad, IsEnd, IsOpen, IsTooLong, head_at, line_text, pile_head}
use Rattle.doc_source.specs.declared.part.Part.{Part}
use Rattle.doc_source.proofs.CutLemmas.{front_of}
use Rattle.doc_source.proofs.PileLemmas.{
  Fits,
  bad_at_end,
  bad_from,
  body_goes_on,
  body_some,
  fits_body,
  fits_ended,
  fits_head,
  fits_line,
  fits_past_head,
  head_goes_on,
  head_later,
  line_goes_on,
  no_offer_in_body,
  no_offer_in_head,
  no_offer_in_line,
  place_behind,
  place_in_head,
  too_long_at,
}

pub starts_from : (xs needle rest : List ℕ) → xs ≡ needle ++ rest → starts_with nat_eq xs needle ≡ true
starts_from xs needle rest e =
    (bytes_eq-Decides needle (take (length needle) xs)).1
    (sym (ap (take (length needle)) e ∙ take_at needle rest (length needle) refl))

pub starts_to : (xs needle : List ℕ) → starts_with nat_eq xs needle ≡ true → xs ≡ needle ++ drop (length needle) xs
starts_to xs needle e =
    sym (take-append-drop (length needle) xs)
    ∙ ap (λ (x : List ℕ). x ++ drop (length needle) xs)
    (sym ((bytes_eq-Decides needle (take (length needle) xs)).0 e))

-- the bytes that were unused before are those ahead and those left
pub record Seen (used : ℕ) (before : IntakeState) (source : SourceState) (ahead left : List ℕ) : Type 0 where
  pub stream : before.ahead ++ source.left ≡ ahead ++ left
  pub short : length ahead ≤ before.limit - used

pub seen : (T : Type 0) (used : ℕ) (before after : IntakeState) (source rest : SourceState) → T →
    TakesMore T before after source rest → used + length before.ahead ≡ before.taken → after.taken ≤ after.limit →
    Seen used before source after.ahead rest.left
seen T used before after source rest observable m sum within = record {
  stream =
      ap (λ (x : List ℕ). before.ahead ++ x) (m.from observable)
      ∙ sym (append_assoc before.ahead m.read rest.left)
      ∙ ap (λ (x : List ℕ). x ++ rest.left) (sym m.ahead);
  short = omega (arith, m.taken, m.limit, ap length m.ahead, length-append before.ahead m.read, sum, within);
}

-- all bytes within the limit were taken
pub seen_all : (T : Type 0) (used : ℕ) (before after : IntakeState) (source rest : SourceState) →
    TakesMore T before after source rest → used + length before.ahead ≡ before.taken → after.taken ≡ after.limit →
    length after.ahead ≡ before.limit - used
seen_all T used before after source rest m sum full =
    omega (arith, m.taken, m.limit, ap length m.ahead, length-append before.ahead m.read, sum, full)

bad_seen : (used : ℕ) (before : IntakeState) (source : SourceState) (ahead left : List ℕ) (at : ℕ) →
    Seen used before source ahead left → IsBad used before.limit (ahead ++ left) at →
    IsBad used before.limit (before.ahead ++ source.left) at
bad_seen used before source ahead left at s b =
    subst (λ (x : List ℕ). IsBad used before.limit x at) (sym s.stream) b

long_seen : (used : ℕ) (before : IntakeState) (source : SourceState) (ahead left : List ℕ) →
    Seen used before source ahead left → IsTooLong used before.limit (ahead ++ left) →
    IsTooLong used before.limit (before.ahead ++ source.left)
long_seen used before source ahead left s b =
    subst (λ (x : List ℕ). IsTooLong used before.limit x) (sym s.stream) b

-- within the first line of the pile

pub has_head : (used : ℕ) (ahead : List ℕ) → used ≡ 0 → starts_with nat_eq ahead pile_head ≡ true → HasHead used ahead
has_head zero ahead z is = record { rest = drop (length pile_head) ahead; whole = starts_to ahead pile_head is }
has_head (suc n) ahead z is = absurd (omega (arith, z))

pub needs_no_head : (used : ℕ) (ahead : List ℕ) → 0 < used → HasHead used ahead
needs_no_head used ahead h =
    record { rest = ahead; whole = sym (ap (λ (x : List ℕ). x ++ ahead) (head_later used h)) }

pub has_head_more : (used : ℕ) (ahead more : List ℕ) → HasHead used ahead → HasHead used (ahead ++ more)
has_head_more used ahead more h = record {
  rest = h.rest ++ more;
  whole = ap (λ (x : List ℕ). x ++ more) h.whole ∙ append_assoc (head_at used) h.rest more;
}

-- the bytes after the first line of the pile
pub head_split : (used head : ℕ) (ahead : List ℕ) → head ≡ length (head_at used) → HasHead used ahead →
    ahead ≡ head_at used ++ drop head ahead
head_split used head ahead len h =
    let rest : drop head ahead ≡ h.rest = ap (drop head) h.whole ∙ drop_at (head_at used) h.rest head (sym len) in
    h.whole ∙ ap (λ (x : List ℕ). head_at used ++ x) (sym rest)

pub head_within : (used head : ℕ) (ahead : List ℕ) → head ≡ length (head_at used) → HasHead used ahead →
    head ≤ length ahead
head_within used head ahead len h = omega (arith, len, ap length h.whole, length-append (head_at used) h.rest)

pub seen_part : (used head : ℕ) (before : IntakeState) (source : SourceState) (ahead left : List ℕ) →
    head ≡ length (head_at used) → HasHead used ahead → Seen used before source ahead left →
    Seen used before source (head_at used ++ drop head ahead) left
seen_part used head before source ahead left len h s =
    subst (λ (x : List ℕ). Seen used before source x left) (head_split used head ahead len h) s

-- no LF in what was searched before and now
pub no_lf_all : (head searched : ℕ) (ahead : List ℕ) → head ≤ searched → searched ≤ length ahead →
    HasNoLf (drop head (take searched ahead)) → HasNoLf (drop searched ahead) → HasNoLf (drop head ahead)
no_lf_all head searched ahead h within before now =
    let long = length-take-le searched ahead within in
    let parts : drop head ahead ≡ drop head (take searched ahead) ++ drop searched ahead =
    ap (drop head) (sym (take-append-drop searched ahead))
    ∙ drop-append-le head (take searched ahead) (drop searched ahead) (omega (arith, long, h)) in
    subst HasNoLf (sym parts)
    (All-append (λ b. b ≢ lf) (drop head (take searched ahead)) (drop searched ahead) before now)

-- an LF that ends the line, from where the search began
pub line_end_all : (head searched at : ℕ) (ahead : List ℕ) → head ≤ searched → searched ≤ length ahead →
    HasNoLf (drop head (take searched ahead)) → IsLineEnd ahead searched at → IsLineEnd ahead head at
line_end_all head searched at ahead h within before e =
    let long = length-take-le searched ahead within in
    let front : take searched (take at ahead) ≡ take searched ahead = take-take searched at ahead e.after in
    let parts : drop head (take at ahead) ≡ drop head (take searched ahead) ++ drop searched (take at ahead) =
    ap (drop head) (sym (take-append-drop searched (take at ahead))
    ∙ ap (λ (x : List ℕ). x ++ drop searched (take at ahead)) front)
    ∙ drop-append-le head (take searched ahead) (drop searched (take at ahead)) (omega (arith, long, h)) in
    record {
      after = omega (arith, h, e.after);
      within = e.within;
      no_lf = subst HasNoLf (sym parts)
          (All-append (λ b. b ≢ lf) (drop head (take searched ahead)) (drop searched (take at ahead)) before e.no_lf);
      split = e.split;
    }

no_pile : (ahead left : List ℕ) → length ahead ≤ length pile_head →
    (ahead ++ drop (length ahead) pile_head ≡ pile_head → ⊥) → BeginsPile (ahead ++ left) → ⊥
no_pile ahead left h other b = other (front_of ahead left pile_head b.0 b.1 h)

pub head_ends : (used : ℕ) (before : IntakeState) (source : SourceState) (ahead left : List ℕ) → used ≡ 0 →
    Seen used before source ahead left → left ≡ [] → length ahead < length pile_head →
    IsBad used before.limit (before.ahead ++ source.left) 0
head_ends zero before source ahead left z s ends h =
    bad_seen 0 before source ahead left 0 s
    (bad_at_end 0 before.limit ahead left 0 ends s.short (no_offer_in_head ahead h)
    (λ e. absurd (omega (arith, h, ap length e)))
    (place_in_head (ahead ++ left) (λ b. absurd (omega (
      arith,
      h,
      ap length b.1,
      ap length ends,
      length-append ahead left,
      length-append pile_head b.0,
    )))))
head_ends (suc n) before source ahead left z s ends h = absurd (omega (arith, z))

pub head_unfit : (used : ℕ) (before : IntakeState) (source : SourceState) (ahead left : List ℕ) → used ≡ 0 →
    Seen used before source ahead left → length ahead < length pile_head →
    starts_with nat_eq pile_head ahead ≡ false → IsBad used before.limit (before.ahead ++ source.left) 0
head_unfit zero before source ahead left z s h not =
    let other : ahead ++ drop (length ahead) pile_head ≡ pile_head → ⊥ =
    λ e. false≢true (sym not ∙ starts_from pile_head ahead (drop (length ahead) pile_head) (sym e)) in
    bad_seen 0 before source ahead left 0 s
    (bad_from 0 before.limit ahead left 0 s.short (λ f. other (fits_head ahead (omega (arith, h)) f))
    (place_in_head (ahead ++ left) (no_pile ahead left (omega (arith, h)) other)))
head_unfit (suc n) before source ahead left z s h not = absurd (omega (arith, z))

pub head_too_long : (used : ℕ) (before : IntakeState) (source : SourceState) (ahead left : List ℕ) → used ≡ 0 →
    Seen used before source ahead left → length ahead ≡ before.limit - used → 0 < length left →
    length ahead < length pile_head → starts_with nat_eq pile_head ahead ≡ true →
    IsTooLong used before.limit (before.ahead ++ source.left)
head_too_long zero before source ahead left z s full more h is =
    long_seen 0 before source ahead left s
    (too_long_at 0 before.limit ahead left full more (no_offer_in_head ahead h)
    (head_goes_on ahead (drop (length ahead) pile_head) (sym (starts_to pile_head ahead is))))
head_too_long (suc n) before source ahead left z s full more h is = absurd (omega (arith, z))

pub head_other : (used : ℕ) (before : IntakeState) (source : SourceState) (ahead left : List ℕ) → used ≡ 0 →
    Seen used before source ahead left → length pile_head ≤ length ahead →
    starts_with nat_eq ahead pile_head ≡ false → IsBad used before.limit (before.ahead ++ source.left) 0
head_other zero before source ahead left z s h not =
    let other : BeginsPile ahead → ⊥ = λ b. false≢true (sym not ∙ starts_from ahead pile_head b.0 b.1) in
    bad_seen 0 before source ahead left 0 s
    (bad_from 0 before.limit ahead left 0 s.short (λ f. other (fits_past_head ahead h f))
    (place_in_head (ahead ++ left) (λ b. other (
      drop (length pile_head) ahead,
      sym (front_of pile_head b.0 ahead left (sym b.1) h),
    ))))
head_other (suc n) before source ahead left z s h not = absurd (omega (arith, z))

pub head_open : (used : ℕ) (ahead : List ℕ) → used ≡ 0 → length ahead < length pile_head →
    starts_with nat_eq pile_head ahead ≡ true → IsOpen used ahead
head_open zero ahead z h is = record {
  no_offer = no_offer_in_head ahead h;
  goes_on = head_goes_on ahead (drop (length ahead) pile_head) (sym (starts_to pile_head ahead is));
}
head_open (suc n) ahead z h is = absurd (omega (arith, z))

-- within the first line of an offer

pub head_short : (used : ℕ) → length (head_at used) ≤ length pile_head
head_short zero = omega arith
head_short (suc n) = omega (arith, ap length (head_later (suc n) (omega arith)))

pub line_open : (used head : ℕ) (ahead : List ℕ) → head ≡ length (head_at used) → HasHead used ahead →
    HasNoLf (drop head ahead) → BeginsLine (drop head ahead) → IsOpen used ahead
line_open used head ahead len has no_lf begins =
    let part = drop head ahead in
    let begun : IsOpen used (head_at used ++ part) =
    record { no_offer = no_offer_in_line used part no_lf; goes_on = line_goes_on used part begins } in
    subst (IsOpen used) (sym (head_split used head ahead len has)) begun

pub line_ends : (used : ℕ) (before : IntakeState) (source : SourceState) (ahead left : List ℕ) →
    Seen used before source ahead left → left ≡ [] → ahead ≡ head_at used →
    IsEnd used before.limit (before.ahead ++ source.left)
line_ends used before source ahead left s ends e =
    let all : before.ahead ++ source.left ≡ ahead =
    s.stream ∙ ap (λ (x : List ℕ). ahead ++ x) ends ∙ append-nil ahead in
    record { whole = all ∙ e; short = omega (arith, ap length all, s.short) }

-- the head line and a part of an offer's line are ahead
bad_line_from : (used : ℕ) (before : IntakeState) (source : SourceState) (part left : List ℕ) →
    Seen used before source (head_at used ++ part) left → (Fits used (head_at used ++ part) → ⊥) →
    IsBad used before.limit (before.ahead ++ source.left) (used + length (head_at used))
bad_line_from used before source part left s unfit =
    let ahead = head_at used ++ part in
    let at = used + length (head_at used) in
    bad_seen used before source ahead left at s
    (bad_from used before.limit ahead left at s.short unfit
    (place_behind used (ahead ++ left) (part ++ left) (append_assoc (head_at used) part left)))

pub line_ends_amid : (used : ℕ) (before : IntakeState) (source : SourceState) (part left : List ℕ) →
    Seen used before source (head_at used ++ part) left → left ≡ [] → HasNoLf part → 0 < length part →
    IsBad used before.limit (before.ahead ++ source.left) (used + length (head_at used))
line_ends_amid used before source part left s ends no_lf some =
    let ahead = head_at used ++ part in
    let at = used + length (head_at used) in
    bad_seen used before source ahead left at s
    (bad_at_end used before.limit ahead left at ends s.short (no_offer_in_line used part no_lf)
    (λ e. absurd (omega (arith, some, ap length e, length-append (head_at used) part)))
    (place_behind used (ahead ++ left) (part ++ left) (append_assoc (head_at used) part left)))

pub line_unfit : (used : ℕ) (before : IntakeState) (source : SourceState) (part left : List ℕ) →
    Seen used before source (head_at used ++ part) left → HasNoLf part → (BeginsLine part → ⊥) →
    IsBad used before.limit (before.ahead ++ source.left) (used + length (head_at used))
line_unfit used before source part left s no_lf other =
    bad_line_from used before source part left s (λ f. other (fits_line used part no_lf f))

pub line_too_long : (used : ℕ) (before : IntakeState) (source : SourceState) (part left : List ℕ) →
    Seen used before source (head_at used ++ part) left → length (head_at used ++ part) ≡ before.limit - used →
    0 < length left → HasNoLf part → BeginsLine part →
    IsTooLong used before.limit (before.ahead ++ source.left)
line_too_long used before source part left s full more no_lf begins =
    let ahead = head_at used ++ part in
    long_seen used before source ahead left s
    (too_long_at used before.limit ahead left full more (no_offer_in_line used part no_lf)
    (line_goes_on used part begins))

pub line_other : (used : ℕ) (before : IntakeState) (source : SourceState) (line more left : List ℕ) →
    Seen used before source (head_at used ++ (line ++ (lf ∷ more))) left → HasNoLf line →
    ((address : List ℕ) (count : ℕ) → IsLine line address count → ⊥) →
    IsBad used before.limit (before.ahead ++ source.left) (used + length (head_at used))
line_other used before source line more left s no_lf none =
    bad_line_from used before source (line ++ (lf ∷ more)) left s
    (λ f. let l = fits_ended used line more no_lf f in none l.0 l.1 l.2)

-- within the bytes of an offer

pub body_ends : (used : ℕ) (before : IntakeState) (source : SourceState) (part : Part) (left : List ℕ) →
    Seen used before source (part_text used part) left → left ≡ [] → IsPart part →
    length part.behind.items ≤ part.count →
    IsBad used before.limit (before.ahead ++ source.left) (used + length (head_at used))
body_ends used before source part left s ends p h =
    let ahead = part_text used part in
    let at = used + length (head_at used) in
    let rest = line_text part.address part.count ++ part.behind.items in
    bad_seen used before source ahead left at s
    (bad_at_end used before.limit ahead left at ends s.short (no_offer_in_body used part p h)
    (body_some used part) (place_behind used (ahead ++ left) (rest ++ left) (append_assoc (head_at used) rest left)))

pub body_too_long : (used : ℕ) (before : IntakeState) (source : SourceState) (part : Part) (left : List ℕ) →
    Seen used before source (part_text used part) left → length (part_text used part) ≡ before.limit - used →
    0 < length left → IsPart part → length part.behind.items ≤ part.count →
    IsTooLong used before.limit (before.ahead ++ source.left)
body_too_long used before source part left s full more p h =
    long_seen used before source (part_text used part) left s
    (too_long_at used before.limit (part_text used part) left full more (no_offer_in_body used part p h)
    (body_goes_on used part p h))

pub body_open : (used : ℕ) (part : Part) (text : List ℕ) → text ≡ part_text used part → IsPart part →
    length part.behind.items ≤ part.count → IsOpen used text
body_open used part text e p h =
    let begun : IsOpen used (part_text used part) =
    record { no_offer = no_offer_in_body used part p h; goes_on = body_goes_on used part p h } in
    subst (IsOpen used) (sym e) begun

pub body_other : (used : ℕ) (before : IntakeState) (source : SourceState) (part : Part) (more left : List ℕ) →
    Seen used before source (part_text used part ++ more) left → IsPart part →
    length part.behind.items ≡ part.count + 1 → (IsWhole part → ⊥) →
    IsBad used before.limit (before.ahead ++ source.left) (used + length (head_at used))
body_other used before source part more left s p full other =
    let ahead = part_text used part ++ more in
    let at = used + length (head_at used) in
    let rest = line_text part.address part.count ++ part.behind.items in
    bad_seen used before source ahead left at s
    (bad_from used before.limit ahead left at s.short (λ f. other (fits_body used part more p full f))
    (place_behind used (ahead ++ left) ((rest ++ more) ++ left)
    (ap (λ (x : List ℕ). x ++ left) (append_assoc (head_at used) rest more)
    ∙ append_assoc (head_at used) (rest ++ more) left)))

pub seen_as : (used : ℕ) (before : IntakeState) (source : SourceState) (ahead same left : List ℕ) → ahead ≡ same →
    Seen used before source ahead left → Seen used before source same left
seen_as used before source ahead same left e s = subst (λ (x : List ℕ). Seen used before source x left) e s

-- bytes that moved from the bytes ahead to the part
pub part_moved : (used : ℕ) (p q : Part) (a b : List ℕ) → q.address ≡ p.address → q.count ≡ p.count →
    q.behind.items ++ b ≡ p.behind.items ++ a → part_text used q ++ b ≡ part_text used p ++ a
part_moved used p q a b address count moved =
    regroup (head_at used) (line_text q.address q.count) q.behind.items b
    ∙ ap (λ (x : List ℕ). head_at used ++ (line_text x q.count ++ (q.behind.items ++ b))) address
    ∙ ap (λ (n : ℕ). head_at used ++ (line_text p.address n ++ (q.behind.items ++ b))) count
    ∙ ap (λ (x : List ℕ). head_at used ++ (line_text p.address p.count ++ x)) moved
    ∙ sym (regroup (head_at used) (line_text p.address p.count) p.behind.items a)
  where
    regroup : (h l x y : List ℕ) → (h ++ (l ++ x)) ++ y ≡ h ++ (l ++ (x ++ y))
    regroup h l x y = simp append_assoc

-- the bytes and LF, from a test of the last byte
pub ends_whole : (part : Part) → IsPart part → part.count < length part.behind.items →
    ends_with nat_eq part.behind.items (lf ∷ []) ≡ true → IsWhole part
ends_whole part p past is =
    let behind = part.behind.items in
    let before = length behind - 1 in
    let last : lf ∷ [] ≡ drop before behind = (bytes_eq-Decides (lf ∷ []) (drop before behind)).0 is in
    record {
      bytes = take before behind;
      count = omega (arith, p.within, past, length-take before behind);
      split = sym (take-append-drop before behind) ∙ ap (λ (x : List ℕ). take before behind ++ x) (sym last);
    }

pub ends_other : (part : Part) → ends_with nat_eq part.behind.items (lf ∷ []) ≡ false → IsWhole part → ⊥
ends_other part other w =
    let behind = part.behind.items in
    let at : length w.bytes ≡ length behind - 1 = omega (arith, ap length w.split, length-append w.bytes (lf ∷ [])) in
    let last : drop (length behind - 1) behind ≡ lf ∷ [] =
    ap (drop (length behind - 1)) w.split ∙ drop_at w.bytes (lf ∷ []) (length behind - 1) at in
    false≢true (sym other ∙ (bytes_eq-Decides (lf ∷ []) (drop (length behind - 1) behind)).1 (sym last))
