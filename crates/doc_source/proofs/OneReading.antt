-- A text is the pile of one list of offers at most.
use Rattle.std.proofs.Common.{◌≡◌, ◌≢◌, ℕ, ◌+◌, ◌^◌, ◌<◌, ◌≤◌, ◌%◌, List, [], ◌∷◌, ◌++◌, length, decimal, refl, sym, ap, ◌∙◌, arith}
use Rattle.std.specs.Prelude.{All, flat_map}
use Rattle.std.proofs.lemmas.Fmt.{decimal_by_steps, decimal_injective}
use Rattle.std.proofs.lemmas.List.{append_assoc, append_cancel_left, length-append}
use Rattle.std.proofs.lemmas.List.Elements.{All-nil, All-cons, All-push, All-head, All-tail}
use Rattle.atom_values.specs.Ascii.{lf, space}
use Rattle.doc_source.specs.declared.offer.Offer.{Offer}
use Rattle.doc_source.specs.Pile.{IsAddress, IsOffer, line_text, offer_text, offer_limit, pile_head}
use Rattle.doc_source.specs.Laws.{PilesHaveOneReading}
use Rattle.doc_source.proofs.CutLemmas.{cut_unique, same_fronts}

pub decimal_no_lf : (n : ℕ) → n < 2 ^ 64 → All (λ b. b ≢ lf) (decimal n)
decimal_no_lf n h = decimal_by_steps (λ _ ds. All (λ b. b ≢ lf) ds)
    (λ m small. All-cons (λ b. b ≢ lf) (48 + m) [] (λ e. omega (arith, e)) (All-nil (λ b. b ≢ lf)))
    (λ m ds big are. All-push (λ b. b ≢ lf) ds (48 + m % 10) are (λ e. omega (arith, e))) n h

-- the text of a line as it is cut
pub line_spelt : (address : List ℕ) (count : ℕ) (rest : List ℕ) →
    line_text address count ++ rest ≡ address ++ (space ∷ (decimal count ++ (lf ∷ rest)))
line_spelt address count rest = simp append_assoc

pub record SameLine (a b : List ℕ) (m n : ℕ) (x y : List ℕ) : Type 0 where
  pub address : a ≡ b
  pub count : m ≡ n
  pub rest : x ≡ y

pub line_unique : (a b : List ℕ) (m n : ℕ) (x y : List ℕ) → IsAddress a → IsAddress b → m ≤ offer_limit →
    n ≤ offer_limit → line_text a m ++ x ≡ line_text b n ++ y → SameLine a b m n x y
line_unique a b m n x y p q hm hn e =
    let first = cut_unique space a (decimal m ++ (lf ∷ x)) b (decimal n ++ (lf ∷ y)) p.no_space q.no_space
    (sym (line_spelt a m x) ∙ e ∙ line_spelt b n y) in
    let second =
    cut_unique lf (decimal m) x (decimal n) y (decimal_no_lf m (omega arith)) (decimal_no_lf n (omega arith))
    first.1 in
    record {
      address = first.0;
      count = decimal_injective m n (omega arith) (omega arith) second.0;
      rest = second.1;
    }

pub offer_spelt : (offer : Offer) (rest : List ℕ) →
    offer_text offer ++ rest ≡ line_text offer.address (length offer.bytes) ++ (offer.bytes ++ (lf ∷ rest))
offer_spelt offer rest =
    append_assoc (line_text offer.address (length offer.bytes)) (offer.bytes ++ lf ∷ []) rest
    ∙ ap (λ (bs : List ℕ). line_text offer.address (length offer.bytes) ++ bs) (append_assoc offer.bytes (lf ∷ []) rest)

offer_same : (one other : Offer) → one.address ≡ other.address → one.bytes ≡ other.bytes → one ≡ other
offer_same one other address bytes =
    ap (λ (x : List ℕ). let o : Offer = record { address = x; bytes = one.bytes } in o) address
    ∙ ap (λ (x : List ℕ). let o : Offer = record { address = other.address; bytes = x } in o) bytes

-- no offer's text begins another's
pub offer_unique : (one other : Offer) (x y : List ℕ) → IsOffer one → IsOffer other →
    offer_text one ++ x ≡ offer_text other ++ y → (one ≡ other) × (x ≡ y)
offer_unique one other x y p q e =
    let line = line_unique one.address other.address (length one.bytes) (length other.bytes) (one.bytes ++ (lf ∷ x))
    (other.bytes ++ (lf ∷ y)) p.address q.address p.short q.short
    (sym (offer_spelt one x) ∙ e ∙ offer_spelt other y) in
    let behind = same_fronts one.bytes (lf ∷ x) other.bytes (lf ∷ y) line.count line.rest in
    let rest : x ≡ y = let f : lf ∷ x ≡ lf ∷ y = behind.1 in cc in
    (offer_same one other line.address behind.0, rest)

-- an offer's text has at least five bytes
pub offer_some : (offer : Offer) → IsOffer offer → 0 < length (offer_text offer)
offer_some offer p =
    omega (
      arith,
      length-append (line_text offer.address (length offer.bytes)) (offer.bytes ++ lf ∷ []),
      length-append offer.bytes (lf ∷ []),
    )

texts_unique : (one other : List Offer) → All IsOffer one → All IsOffer other →
    flat_map offer_text one ≡ flat_map offer_text other → one ≡ other
texts_unique [] [] p q e = refl
texts_unique [] (o ∷ other) p q e =
    absurd (omega (
      arith,
      offer_some o (All-head IsOffer o other q),
      ap length e,
      length-append (offer_text o) (flat_map offer_text other),
    ))
texts_unique (o ∷ one) [] p q e =
    absurd (omega (
      arith,
      offer_some o (All-head IsOffer o one p),
      ap length e,
      length-append (offer_text o) (flat_map offer_text one),
    ))
texts_unique (o ∷ one) (v ∷ other) p q e =
    let r = offer_unique o v (flat_map offer_text one) (flat_map offer_text other) (All-head IsOffer o one p)
    (All-head IsOffer v other q) e in
    ap (λ (x : Offer). x ∷ one) r.0
    ∙ ap (λ (x : List Offer). v ∷ x)
    (texts_unique one other (All-tail IsOffer o one p) (All-tail IsOffer v other q) r.1)

pub one_reading : PilesHaveOneReading
one_reading one other p q e =
    texts_unique one other p q (append_cancel_left pile_head (flat_map offer_text one) (flat_map offer_text other) e)
