-- Which answer the bytes of a pile have, from those that were read.
use Rattle.std.proofs.Common.{◌≡◌, ◌≢◌, ℕ, zero, suc, ◌+◌, ◌-◌, ◌<◌, ◌≤◌, List, [], ◌∷◌, ◌++◌, length, take, drop, decimal, refl, sym, ap, ◌∙◌, subst, arith, replicate}
use Rattle.std.specs.Prelude.{All, flat_map}
use Rattle.std.proofs.lemmas.Bool.Decides.{nat_tests}
use Rattle.std.proofs.lemmas.Fmt.{length-decimal-le}
use Rattle.std.proofs.lemmas.List.{append-nil, append_assoc, append_cancel_left, length-append, length-replicate, take_all, take_at}
use Rattle.std.proofs.lemmas.List.Elements.{All-nil, All-cons, All-append, All-head}
use Rattle.atom_values.specs.Ascii.{lf, space}
use Rattle.doc_source.specs.declared.offer.Offer.{Offer}
use Rattle.doc_source.specs.declared.part.Part.{Part}
use Rattle.doc_source.specs.Line.{HasNoLf, IsLine, BeginsLine, line_limit}
use Rattle.doc_source.specs.Part.{IsPart, IsWhole, part_text}
use Rattle.doc_source.specs.Pile.{BeginsPile, BeginsWith, GoesOn, HasNoOffer, IsBad, IsOffer, IsPlace, IsTooLong, head_at, line_text, offer_text, pile_head}
use Rattle.doc_source.proofs.CutLemmas.{cut_unique, front_of, no_longer, same_fronts, take_past}
use Rattle.doc_source.proofs.OneReading.{decimal_no_lf, line_unique, offer_spelt}

pub head_later : (used : ℕ) → 0 < used → head_at used ≡ []
head_later used h = grind (arith, nat_tests)

-- some offer and what follows it go on from the bytes
pub record Fits (used : ℕ) (bytes : List ℕ) : Type 0 where
  pub offer : Offer
  pub is_offer : IsOffer offer
  pub more : List ℕ
  pub rest : List ℕ
  pub whole : bytes ++ more ≡ head_at used ++ (offer_text offer ++ rest)

abbrev shortest : Offer
shortest = record { address = 97 ∷ []; bytes = [] }

shortest_is : IsOffer shortest
shortest_is = record {
  address = record {
    some = omega arith;
    short = omega arith;
    no_space = All-cons (λ b. b ≢ space) 97 [] (λ e. omega (arith, e)) (All-nil (λ b. b ≢ space));
    no_lf = All-cons (λ b. b ≢ lf) 97 [] (λ e. omega (arith, e)) (All-nil (λ b. b ≢ lf));
  };
  short = omega arith;
}

fits_offer : (used : ℕ) (ahead more : List ℕ) (offer : Offer) → BeginsWith used (ahead ++ more) offer → Fits used ahead
fits_offer used ahead more offer b =
    record { offer = offer; is_offer = b.is_offer; more = more; rest = b.rest; whole = b.whole }

fits_end : (used : ℕ) (ahead more : List ℕ) → ahead ++ more ≡ head_at used → Fits used ahead
fits_end used ahead more e = record {
  offer = shortest;
  is_offer = shortest_is;
  more = more ++ offer_text shortest;
  rest = [];
  whole = sym (append_assoc ahead more (offer_text shortest)) ∙ ap (λ (x : List ℕ). x ++ offer_text shortest) e
      ∙ ap (λ (x : List ℕ). head_at used ++ x) (sym (append-nil (offer_text shortest)));
}

fits_list : (used : ℕ) (ahead more : List ℕ) (offers : List Offer) (rest : List ℕ) → All IsOffer offers →
    head_at used ++ flat_map offer_text offers ≡ (ahead ++ more) ++ rest → Fits used ahead
fits_list used ahead more [] rest are e =
    fits_end used ahead (more ++ rest) (sym (append_assoc ahead more rest) ∙ sym e ∙ append-nil (head_at used))
fits_list used ahead more (o ∷ offers) rest are e = record {
  offer = o;
  is_offer = All-head IsOffer o offers are;
  more = more ++ rest;
  rest = flat_map offer_text offers;
  whole = sym (append_assoc ahead more rest) ∙ sym e;
}

fits_goes_on : (used : ℕ) (ahead more : List ℕ) → GoesOn used (ahead ++ more) → Fits used ahead
fits_goes_on used ahead more g = fits_list used ahead more g.offers g.more g.are g.whole

-- bytes from which no offer goes on are bad
pub bad_from : (used limit : ℕ) (ahead left : List ℕ) (at : ℕ) → length ahead ≤ limit - used →
    (Fits used ahead → ⊥) → IsPlace used (ahead ++ left) at → IsBad used limit (ahead ++ left) at
bad_from used limit ahead left at h unfit place =
    let part = take_past (limit - used) ahead left h in
    let more = take (limit - used - length ahead) left in
    record {
      no_offer = λ offer b. unfit (fits_offer used ahead more offer
          (subst (λ (x : List ℕ). BeginsWith used x offer) part b));
      no_end = λ e. unfit (fits_end used ahead left e.whole);
      not_too_long = λ t. unfit (fits_goes_on used ahead more
          (subst (λ (x : List ℕ). GoesOn used x) part t.goes_on));
      place = place;
    }

-- bytes that end within an offer are bad
pub bad_at_end : (used limit : ℕ) (ahead left : List ℕ) (at : ℕ) → left ≡ [] → length ahead ≤ limit - used →
    HasNoOffer used ahead → (ahead ≡ head_at used → ⊥) → IsPlace used (ahead ++ left) at →
    IsBad used limit (ahead ++ left) at
bad_at_end used limit ahead left at ends h none other place =
    let all : ahead ++ left ≡ ahead = ap (λ (x : List ℕ). ahead ++ x) ends ∙ append-nil ahead in
    let part : take (limit - used) (ahead ++ left) ≡ ahead =
    ap (take (limit - used)) all ∙ take_all (limit - used) ahead h in
    record {
      no_offer = λ offer b. none offer (subst (λ (x : List ℕ). BeginsWith used x offer) part b);
      no_end = λ e. other (sym all ∙ e.whole);
      not_too_long = λ t. absurd (omega (arith, t.more, ap length all, h));
      place = place;
    }

-- bytes that go on after the limit within an offer are too long
pub too_long_at : (used limit : ℕ) (ahead left : List ℕ) → length ahead ≡ limit - used → 0 < length left →
    HasNoOffer used ahead → GoesOn used ahead → IsTooLong used limit (ahead ++ left)
too_long_at used limit ahead left h some none goes_on =
    let part = take_at ahead left (limit - used) h in
    record {
      no_offer = λ offer b. none offer (subst (λ (x : List ℕ). BeginsWith used x offer) part b);
      more = omega (arith, length-append ahead left);
      goes_on = subst (λ (x : List ℕ). GoesOn used x) (sym part) goes_on;
    }

-- within the first line of an offer

abbrev line_of : List ℕ → ℕ → List ℕ
line_of address count = address ++ (space ∷ decimal count)

-- an offer's text is cut at the LF of its line
offer_cut : (offer : Offer) (rest : List ℕ) →
    offer_text offer ++ rest ≡ line_of offer.address (length offer.bytes) ++ (lf ∷ (offer.bytes ++ (lf ∷ rest)))
offer_cut offer rest =
    offer_spelt offer rest
    ∙ cut offer.address (decimal (length offer.bytes)) (offer.bytes ++ (lf ∷ rest))
  where
    cut : (a d x : List ℕ) → (a ++ (space ∷ (d ++ lf ∷ []))) ++ x ≡ (a ++ (space ∷ d)) ++ (lf ∷ x)
    cut a d x = simp append_assoc

pub no_offer_in_line : (used : ℕ) (part : List ℕ) → HasNoLf part → HasNoOffer used (head_at used ++ part)
no_offer_in_line used part p offer b =
    let line = line_of offer.address (length offer.bytes) in
    let behind = offer.bytes ++ (lf ∷ b.rest) in
    let e : part ≡ line ++ (lf ∷ behind) =
    append_cancel_left (head_at used) part (offer_text offer ++ b.rest) b.whole ∙ offer_cut offer b.rest in
    let h = no_longer lf part [] line behind p (append-nil part ∙ e) in
    absurd (omega (arith, h, ap length e, length-append line (lf ∷ behind)))

-- the bytes after the first line of the pile go on with an offer
fits_behind : (used : ℕ) (part : List ℕ) (f : Fits used (head_at used ++ part)) →
    part ++ f.more ≡ line_of f.offer.address (length f.offer.bytes) ++ (lf ∷ (f.offer.bytes ++ (lf ∷ f.rest)))
fits_behind used part f =
    append_cancel_left (head_at used) (part ++ f.more) (offer_text f.offer ++ f.rest)
    (sym (append_assoc (head_at used) part f.more) ∙ f.whole)
    ∙ offer_cut f.offer f.rest

pub fits_line : (used : ℕ) (part : List ℕ) → HasNoLf part → Fits used (head_at used ++ part) → BeginsLine part
fits_line used part p f =
    let line = line_of f.offer.address (length f.offer.bytes) in
    let behind = f.offer.bytes ++ (lf ∷ f.rest) in
    let e = fits_behind used part f in
    record {
      address = f.offer.address;
      count = length f.offer.bytes;
      more = drop (length part) line;
      is_address = f.is_offer.address;
      short = f.is_offer.short;
      whole = front_of part f.more line (lf ∷ behind) e (no_longer lf part f.more line behind p e);
    }

-- the text of an offer of zeros
zeros_spelt : (address : List ℕ) (count : ℕ) (zeros : List ℕ) → length zeros ≡ count →
    offer_text record { address = address; bytes = zeros } ++ [] ≡ line_of address count ++ (lf ∷ (zeros ++ (lf ∷ [])))
zeros_spelt address count zeros e =
    offer_cut record { address = address; bytes = zeros } []
    ∙ ap (λ (n : ℕ). line_of address n ++ (lf ∷ (zeros ++ (lf ∷ [])))) e

pub line_goes_on : (used : ℕ) (part : List ℕ) → BeginsLine part → GoesOn used (head_at used ++ part)
line_goes_on used part b =
    let zeros = replicate b.count 0 in
    let long : length zeros ≡ b.count = length-replicate b.count 0 in
    let offer : Offer = record { address = b.address; bytes = zeros } in
    let behind = lf ∷ (zeros ++ (lf ∷ [])) in
    let is : IsOffer offer = record { address = b.is_address; short = omega (arith, long, b.short) } in
    record {
      offers = offer ∷ [];
      more = b.more ++ behind;
      are = All-cons IsOffer offer [] is (All-nil IsOffer);
      whole =
          ap (λ (x : List ℕ). head_at used ++ x)
          (zeros_spelt b.address b.count zeros long ∙ ap (λ (x : List ℕ). x ++ behind) (sym b.whole)
          ∙ append_assoc part b.more behind)
          ∙ sym (append_assoc (head_at used) part (b.more ++ behind));
    }

pub line_short : (part : List ℕ) → BeginsLine part → length part ≤ line_limit
line_short part b =
    omega (
      arith,
      ap length b.whole,
      length-append part b.more,
      length-append b.address (space ∷ decimal b.count),
      b.is_address.short,
      length-decimal-le 8 b.count (omega arith) (omega (arith, b.short)) (omega (arith, b.short)),
    )

-- a line that ended is an offer's, if some offer goes on from it
pub fits_ended : (used : ℕ) (line more : List ℕ) → HasNoLf line → Fits used (head_at used ++ (line ++ (lf ∷ more))) →
    (address : List ℕ) × (count : ℕ) × IsLine line address count
fits_ended used line more p f =
    let address = f.offer.address in
    let count = length f.offer.bytes in
    let digits : HasNoLf (decimal count) = decimal_no_lf count (omega (arith, f.is_offer.short)) in
    let own : HasNoLf (line_of address count) = All-append (λ b. b ≢ lf) address (space ∷ decimal count)
    f.is_offer.address.no_lf (All-cons (λ b. b ≢ lf) space (decimal count) (λ e. omega (arith, e)) digits) in
    let e = sym (append_assoc line (lf ∷ more) f.more) ∙ fits_behind used (line ++ (lf ∷ more)) f in
    let cut = cut_unique lf line (more ++ f.more) (line_of address count) (f.offer.bytes ++ (lf ∷ f.rest)) p own e in
    (address, count, record { is_address = f.is_offer.address; short = f.is_offer.short; whole = cut.0 })

-- within the first line of a pile

pub fits_head : (ahead : List ℕ) → length ahead ≤ length pile_head → Fits 0 ahead →
    ahead ++ drop (length ahead) pile_head ≡ pile_head
fits_head ahead h f = front_of ahead f.more pile_head (offer_text f.offer ++ f.rest) f.whole h

pub fits_past_head : (ahead : List ℕ) → length pile_head ≤ length ahead → Fits 0 ahead → BeginsPile ahead
fits_past_head ahead h f = (
  drop (length pile_head) ahead,
  sym (front_of pile_head (offer_text f.offer ++ f.rest) ahead f.more (sym f.whole) h),
)

pub head_goes_on : (ahead more : List ℕ) → ahead ++ more ≡ pile_head → GoesOn 0 ahead
head_goes_on ahead more e =
    record { offers = []; more = more; are = All-nil IsOffer; whole = append-nil pile_head ∙ sym e }

pub no_offer_in_head : (ahead : List ℕ) → length ahead < length pile_head → HasNoOffer 0 ahead
no_offer_in_head ahead h offer b =
    absurd (omega (arith, h, ap length b.whole, length-append pile_head (offer_text offer ++ b.rest)))

pub place_in_head : (bytes : List ℕ) → (BeginsPile bytes → ⊥) → IsPlace 0 bytes 0
place_in_head bytes other = record {
  behind_offers = λ n. absurd (n refl);
  behind_head = λ _ b. absurd (other b);
  in_head = λ _ _. refl;
}

pub place_behind : (used : ℕ) (bytes rest : List ℕ) → bytes ≡ head_at used ++ rest →
    IsPlace used bytes (used + length (head_at used))
place_behind zero bytes rest e = record {
  behind_offers = λ n. absurd (n refl);
  behind_head = λ _ _. omega arith;
  in_head = λ _ other. absurd (other (rest, e));
}
place_behind (suc n) bytes rest e = record {
  behind_offers = λ _. omega (arith, ap length (head_later (suc n) (omega arith)));
  behind_head = λ z _. absurd (omega (arith, z));
  in_head = λ z _. absurd (omega (arith, z));
}

-- within the bytes of an offer

pub fits_body : (used : ℕ) (part : Part) (more : List ℕ) → IsPart part →
    length part.behind.items ≡ part.count + 1 → Fits used (part_text used part ++ more) → IsWhole part
fits_body used part more p full f =
    let behind = part.behind.items in
    let line = line_text part.address part.count in
    let e : line ++ (behind ++ (more ++ f.more)) ≡ offer_text f.offer ++ f.rest =
    append_cancel_left (head_at used) (line ++ (behind ++ (more ++ f.more))) (offer_text f.offer ++ f.rest)
    (sym (regroup (head_at used) line behind more f.more) ∙ f.whole) in
    let same = line_unique part.address f.offer.address part.count (length f.offer.bytes)
    (behind ++ (more ++ f.more)) (f.offer.bytes ++ (lf ∷ f.rest)) p.is_address f.is_offer.address p.short
    f.is_offer.short (e ∙ offer_spelt f.offer f.rest) in
    let whole : behind ++ (more ++ f.more) ≡ (f.offer.bytes ++ lf ∷ []) ++ f.rest =
    same.rest ∙ sym (append_assoc f.offer.bytes (lf ∷ []) f.rest) in
    let fronts = same_fronts behind (more ++ f.more) (f.offer.bytes ++ lf ∷ []) f.rest
    (omega (arith, full, same.count, length-append f.offer.bytes (lf ∷ []))) whole in
    record { bytes = f.offer.bytes; count = sym same.count; split = fronts.0 }
  where
    regroup : (h l b m x : List ℕ) → ((h ++ (l ++ b)) ++ m) ++ x ≡ h ++ (l ++ (b ++ (m ++ x)))
    regroup h l b m x = simp append_assoc

pub no_offer_in_body : (used : ℕ) (part : Part) → IsPart part → length part.behind.items ≤ part.count →
    HasNoOffer used (part_text used part)
no_offer_in_body used part p h offer b =
    let behind = part.behind.items in
    let e = append_cancel_left (head_at used) (line_text part.address part.count ++ behind) (offer_text offer ++ b.rest)
    b.whole ∙ offer_spelt offer b.rest in
    let same = line_unique part.address offer.address part.count (length offer.bytes) behind
    (offer.bytes ++ (lf ∷ b.rest)) p.is_address b.is_offer.address p.short b.is_offer.short e in
    absurd (omega (arith, h, ap length same.rest, same.count, length-append offer.bytes (lf ∷ b.rest)))

pub body_goes_on : (used : ℕ) (part : Part) → IsPart part → length part.behind.items ≤ part.count →
    GoesOn used (part_text used part)
body_goes_on used part p h =
    let behind = part.behind.items in
    let zeros = replicate (part.count - length behind) 0 in
    let bytes = behind ++ zeros in
    let long : length bytes ≡ part.count =
    omega (arith, h, length-append behind zeros, length-replicate {A = ℕ} (part.count - length behind) 0) in
    let offer : Offer = record { address = part.address; bytes = bytes } in
    let line = line_text part.address part.count in
    let is : IsOffer offer = record { address = p.is_address; short = omega (arith, long, p.short) } in
    record {
      offers = offer ∷ [];
      more = zeros ++ (lf ∷ []);
      are = All-cons IsOffer offer [] is (All-nil IsOffer);
      whole =
          ap (λ (x : List ℕ). head_at used ++ x)
          (offer_spelt offer [] ∙ ap (λ (n : ℕ). line_text part.address n ++ (bytes ++ (lf ∷ []))) long)
          ∙ regroup (head_at used) line behind zeros (lf ∷ []);
    }
  where
    regroup : (h l b z x : List ℕ) → h ++ (l ++ ((b ++ z) ++ x)) ≡ (h ++ (l ++ b)) ++ (z ++ x)
    regroup h l b z x = simp append_assoc

pub body_some : (used : ℕ) (part : Part) → part_text used part ≡ head_at used → ⊥
body_some used part e =
    let line = line_text part.address part.count in
    let rest = space ∷ (decimal part.count ++ lf ∷ []) in
    absurd (omega (
      arith,
      ap length e,
      length-append (head_at used) (line ++ part.behind.items),
      length-append line part.behind.items,
      length-append part.address rest,
    ))
