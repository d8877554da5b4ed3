-- The index of the offers, as one offer after another is added.
use Rattle.std.proofs.Common.{◌≡◌, inl, inr, ℕ, zero, suc, ◌+◌, ◌<◌, ◌^◌, Bool, true, false, cond, ◌&&◌, List, [], ◌∷◌, ◌++◌, length}
use Rattle.std.proofs.Common.{Option, Some, None, refl, sym, ap, subst, ◌∙◌, arith, nat_eq}
use Rattle.std.specs.Prelude.{is_some, option_map, slice_get, find}
use Rattle.std.specs.BTreeMap.{BTreeMap, get, Updates}
use Rattle.std.specs.Cmp.{IsTotalOrder, tied_then, unsigned_tied}
use Rattle.std.specs.Cmp.Lexicographic.{slice_cmp}
use Rattle.std.specs.Map.{lookup}
use Rattle.std.specs.Option.{option_or}
use Rattle.std.specs.Ordering.{is_eq, nat_cmp}
use Rattle.std.specs.Str.{bytes_eq}
use Rattle.std.specs.declared.cmp.Ordering.{Ordering}
use Rattle.std.specs.declared.cmp.Ordering.TheVariants.{Less, Equal, Greater}
use Rattle.std.proofs.lemmas.Bool.{cases_Bool, cases_eq, false≢true, eq-eqb, ne_eqb, and_parts}
use Rattle.std.proofs.lemmas.List.Folds.{find-append}
use Rattle.std.proofs.lemmas.Map.Text.{is_eq-slice_cmp}
use Rattle.std.proofs.lemmas.Slice.Eq.{bytes_eq-Decides}
use Rattle.chain_links.specs.Address.{IsAddress, printed}
use Rattle.chain_links.specs.declared.address.Address.{Address}
use Rattle.chain_links.specs.declared.address.Address.TheVariants.{Feed, Archive, Member}
use Rattle.chain_links.proofs.AddressLemmas.{same_address}
use Rattle.coverage_certificate.specs.Certificate.{CoverValue}
use Rattle.coverage_certificate.specs.Digest.{digest_of}
use Rattle.doc_source.specs.declared.offer.Offer.{Offer}
use Rattle.coverage_auditor.specs.Finding.{is_at, is_of_line, offer_at, offer_of}
use Rattle.coverage_auditor.specs.Offers.{HasPlace, IsIndexOf, KeepsFirst, Key, address_number, key_cmp, key_of}
use Rattle.coverage_auditor.specs.Offers.{line_key}

-- maps that keep the first value of a key

equal_from : (o : Ordering) → is_eq o ≡ true → o ≡ Equal
equal_from Less e = absurd (false≢true e)
equal_from Equal e = refl
equal_from Greater e = absurd (false≢true e)

some-or : {X : Type 0} (o p : Option X) → is_some o ≡ true → o ≡ option_or o p
some-or None p e = absurd (false≢true e)
some-or (Some x) p e = refl

or-none : {X : Type 0} (o : Option X) → o ≡ option_or o None
or-none None = refl
or-none (Some x) = refl

none-or : {X : Type 0} (o p : Option X) → is_some o ≡ false → p ≡ option_or o p
none-or None p e = refl
none-or (Some x) p e = absurd (false≢true (sym e))

module _ {K X : Type 0} {R : K → K → Ordering} (o : IsTotalOrder R) where
  get-tied : (m : BTreeMap K X) (k q : K) → is_eq (R k q) ≡ true → get R m k ≡ get R m q
  get-tied m k q e =
      let same : R k q ≡ Equal = equal_from (R k q) e in
      (λ i. lookup (λ z. is_eq (o.congr k q z same i)) m.entries)

  pub keeps-there : (m : BTreeMap K X) (key : K) (value : X) → is_some (get R m key) ≡ true
      → KeepsFirst R m m key value
  keeps-there m key value there other = split (is_eq (R key other)) refl
    where
      split : (b : Bool) → is_eq (R key other) ≡ b
          → get R m other ≡ option_or (get R m other) (cond b (Some value) None)
      split true e = some-or (get R m other) (Some value)
          (ap (λ (p : Option X). is_some p) (sym (get-tied m key other e)) ∙ there)
      split false e = or-none (get R m other)

  pub keeps-new : (old new : BTreeMap K X) (key : K) (value : X) → is_some (get R old key) ≡ false
      → Updates R old new key (Some value) → KeepsFirst R old new key value
  keeps-new old new key value absent updates other = updates.0 other ∙ split (is_eq (R key other)) refl
    where
      split : (b : Bool) → is_eq (R key other) ≡ b → cond b (Some value) (get R old other)
          ≡ option_or (get R old other) (cond b (Some value) None)
      split true e = none-or (get R old other) (Some value)
          (ap (λ (p : Option X). is_some p) (sym (get-tied old key other e)) ∙ absent)
      split false e = or-none (get R old other)

-- keys

is_false : (b : Bool) → (b ≡ true → ⊥) → b ≡ false
is_false true h = absurd (h refl)
is_false false h = refl

pub same_key : (a b : Key) → is_eq (key_cmp a b) ≡ (nat_eq a.0 b.0 && bytes_eq a.1 b.1)
same_key a b =
    sym (tied_then (nat_cmp a.0 b.0) (slice_cmp nat_cmp a.1 b.1))
    ∙ (λ i. unsigned_tied a.0 b.0 i && is_eq-slice_cmp a.1 b.1 i)

same_number : (a b : Address) → IsAddress a → IsAddress b → address_number a ≡ address_number b → a ≡ b
same_number Feed Feed is_a is_b e = refl
same_number Feed (Archive n) is_a is_b e = absurd (omega (arith, is_b.0))
same_number Feed (Member n) is_a is_b e = absurd (omega arith)
same_number (Archive m) Feed is_a is_b e = absurd (omega (arith, is_a.0))
same_number (Archive m) (Archive n) is_a is_b e = ap Archive e
same_number (Archive m) (Member n) is_a is_b e = absurd (omega (arith, is_a.1))
same_number (Member m) Feed is_a is_b e = absurd (omega arith)
same_number (Member m) (Archive n) is_a is_b e = absurd (omega (arith, is_b.1))
same_number (Member m) (Member n) is_a is_b e = let same : m ≡ n = omega arith in ap Member same

-- lines with one key are the same line
pub same_line : (a b : CoverValue) → IsAddress a.address → IsAddress b.address
    → is_eq (key_cmp (line_key a) (line_key b)) ≡ true → a ≡ b
same_line a b is_a is_b e =
    let parts = and_parts (nat_eq (address_number a.address) (address_number b.address))
    (bytes_eq a.digest b.digest) (sym (same_key (line_key a) (line_key b)) ∙ e) in
    let number : address_number a.address ≡ address_number b.address = number_from parts.0 in
    let address = same_number a.address b.address is_a is_b number in
    let digest = (bytes_eq-Decides a.digest b.digest).0 parts.1 in
    (λ i. record { address = address i; digest = digest i })
  where
    number_from : nat_eq (address_number a.address) (address_number b.address) ≡ true
        → address_number a.address ≡ address_number b.address
    number_from e = elim (cases_eq (address_number a.address) (address_number b.address)) [
      | inl same ↦ same
      | inr other ↦ absurd (false≢true (sym (ne_eqb _ _ other) ∙ e))
    ]

-- one more offer

module _ (base : List ℕ) (offer : Offer) where
  -- the offer lies at this address, so it is of another line only if that has the same key
  at-number : (a b : Address) → IsAddress a → IsAddress b → offer.address ≡ printed base a
      → is_at (printed base b) offer ≡ nat_eq (address_number a) (address_number b)
  at-number a b is_a is_b there = elim (cases_eq (address_number a) (address_number b)) [
    | inl same ↦
        let address = same_number a b is_a is_b same in
        (bytes_eq-Decides offer.address (printed base b)).1 (there ∙ ap (printed base) address)
        ∙ sym (eq-eqb (address_number a) (address_number b) same)
    | inr other ↦
        is_false (is_at (printed base b) offer) (λ e. other (ap address_number (same_address base a b is_a is_b
        (sym there ∙ (bytes_eq-Decides offer.address (printed base b)).0 e))))
        ∙ sym (ne_eqb (address_number a) (address_number b) other)
  ]

  of_line-key : (a : Address) (line : CoverValue) → IsAddress a → IsAddress line.address
      → offer.address ≡ printed base a
      → is_of_line base line offer ≡ is_eq (key_cmp (key_of a (digest_of offer.bytes)) (line_key line))
  of_line-key a line is_a is_line there =
      ap (λ b. b && bytes_eq (digest_of offer.bytes) line.digest) (at-number a line.address is_a is_line there)
      ∙ sym (same_key (key_of a (digest_of offer.bytes)) (line_key line))

  find-more : (p : Offer → Bool) (pile : List Offer)
      → find p (pile ++ offer ∷ []) ≡ option_or (find p pile) (cond (p offer) (Some offer) None)
  find-more p pile = find-append p pile (offer ∷ [])

  map-or : (found : Option Offer) (b : Bool)
      → option_map (λ (o : Offer). digest_of o.bytes) (option_or found (cond b (Some offer) None))
      ≡ option_or (option_map (λ (o : Offer). digest_of o.bytes) found)
      (cond b (Some (digest_of offer.bytes)) None)
  map-or None true = refl
  map-or None false = refl
  map-or (Some found) b = refl

  slice_get-last : (pile : List Offer) → slice_get (pile ++ offer ∷ []) (length pile) ≡ Some offer
  slice_get-last [] = refl
  slice_get-last (first ∷ pile) = slice_get-last pile

  slice_get-before : (pile : List Offer) (at : ℕ) (found : Offer) → slice_get pile at ≡ Some found
      → slice_get (pile ++ offer ∷ []) at ≡ Some found
  slice_get-before [] at found e = absurd (none e)
    where
      none : None ≡ Some found → ⊥
      none e = cc
  slice_get-before (first ∷ pile) zero found e = e
  slice_get-before (first ∷ pile) (suc at) found e = slice_get-before pile at found e

  place-more : (pile : List Offer) (old new : Option ℕ) (found : Option Offer) (b : Bool)
      → HasPlace pile old found → new ≡ option_or old (cond b (Some (length pile)) None)
      → HasPlace (pile ++ offer ∷ []) new (option_or found (cond b (Some offer) None))
  place-more pile old new found b there e =
      subst (λ (place : Option ℕ). HasPlace (pile ++ offer ∷ []) place
      (option_or found (cond b (Some offer) None))) (sym e) (go old found b there)
    where
      go : (old : Option ℕ) (found : Option Offer) (b : Bool) → HasPlace pile old found
          → HasPlace (pile ++ offer ∷ []) (option_or old (cond b (Some (length pile)) None))
          (option_or found (cond b (Some offer) None))
      go None None true there = slice_get-last pile
      go None None false there = tt
      go None (Some other) b there = absurd there
      go (Some at) None b there = absurd there
      go (Some at) (Some other) b there = slice_get-before pile at other there

  -- an offer at an address below the base
  pub index-more : (a : Address) (pile : List Offer) (firsts firsts' : BTreeMap ℕ (List ℕ))
      (places places' : BTreeMap Key ℕ) → IsAddress a → offer.address ≡ printed base a
      → KeepsFirst nat_cmp firsts firsts' (address_number a) (digest_of offer.bytes)
      → KeepsFirst key_cmp places places' (key_of a (digest_of offer.bytes)) (length pile)
      → IsIndexOf base pile firsts places → IsIndexOf base (pile ++ offer ∷ []) firsts' places'
  unfolding offer_at offer_of
  index-more a pile firsts firsts' places places' is_a there first place index = record {
    first = λ b is_b.
        first (address_number b)
        ∙ (λ i. option_or (index.first b is_b i)
        (cond (unsigned_tied (address_number a) (address_number b) i) (Some (digest_of offer.bytes)) None))
        ∙ (λ i. option_or (option_map (λ (o : Offer). digest_of o.bytes) (find (is_at (printed base b)) pile))
        (cond (sym (at-number a b is_a is_b there) i) (Some (digest_of offer.bytes)) None))
        ∙ sym (map-or (find (is_at (printed base b)) pile) (is_at (printed base b) offer))
        ∙ ap (option_map (λ (o : Offer). digest_of o.bytes)) (sym (find-more (is_at (printed base b)) pile));
    placed = λ line is_line.
        let same = of_line-key a line is_a is_line there in
        subst (λ (found : Option Offer). HasPlace (pile ++ offer ∷ []) (get key_cmp places' (line_key line)) found)
        (sym (find-more (is_of_line base line) pile))
        (place-more pile (get key_cmp places (line_key line)) (get key_cmp places' (line_key line))
        (find (is_of_line base line) pile) (is_of_line base line offer) (index.placed line is_line)
        (place (line_key line)
        ∙ ap (λ b. option_or (get key_cmp places (line_key line)) (cond b (Some (length pile)) None)) (sym same)));
  }

  -- an offer at no address below the base
  pub index-other : (pile : List Offer) (firsts : BTreeMap ℕ (List ℕ)) (places : BTreeMap Key ℕ)
      → ((a : Address) → IsAddress a → offer.address ≡ printed base a → ⊥)
      → IsIndexOf base pile firsts places → IsIndexOf base (pile ++ offer ∷ []) firsts places
  unfolding offer_at offer_of
  index-other pile firsts places foreign index = record {
    first = λ b is_b.
        index.first b is_b
        ∙ or-none (option_map (λ (o : Offer). digest_of o.bytes) (find (is_at (printed base b)) pile))
        ∙ ap (λ (b' : Bool). option_or (option_map (λ (o : Offer). digest_of o.bytes)
        (find (is_at (printed base b)) pile)) (cond b' (Some (digest_of offer.bytes)) None)) (sym (elsewhere b is_b))
        ∙ sym (map-or (find (is_at (printed base b)) pile) (is_at (printed base b) offer))
        ∙ ap (option_map (λ (o : Offer). digest_of o.bytes)) (sym (find-more (is_at (printed base b)) pile));
    placed = λ line is_line.
        let off : is_of_line base line offer ≡ false =
        ap (λ b. b && bytes_eq (digest_of offer.bytes) line.digest) (elsewhere line.address is_line) in
        subst (λ (found : Option Offer). HasPlace (pile ++ offer ∷ []) (get key_cmp places (line_key line)) found)
        (sym (find-more (is_of_line base line) pile))
        (place-more pile (get key_cmp places (line_key line)) (get key_cmp places (line_key line))
        (find (is_of_line base line) pile) (is_of_line base line offer) (index.placed line is_line)
        (or-none (get key_cmp places (line_key line))
        ∙ ap (λ b. option_or (get key_cmp places (line_key line)) (cond b (Some (length pile)) None)) (sym off)));
  }
    where
      elsewhere : (b : Address) → IsAddress b → is_at (printed base b) offer ≡ false
      elsewhere b is_b = is_false (is_at (printed base b) offer)
          (λ e. foreign b is_b ((bytes_eq-Decides offer.address (printed base b)).0 e))

-- no offers
pub index-none : (base : List ℕ) (firsts : BTreeMap ℕ (List ℕ)) (places : BTreeMap Key ℕ)
    → firsts.entries ≡ [] → places.entries ≡ [] → IsIndexOf base [] firsts places
unfolding offer_at offer_of
index-none base firsts places no_firsts no_places = record {
  first = λ a is_a. ap (λ es. lookup (λ z. is_eq (nat_cmp (address_number a) z)) es) no_firsts;
  placed = λ line is_line.
      subst (λ (place : Option ℕ). HasPlace [] place None)
      (sym (ap (λ es. lookup (λ z. is_eq (key_cmp (line_key line) z)) es) no_places)) tt;
}

-- the place that was found
pub placed-found : (pile : List Offer) (place : Option ℕ) (at : ℕ) (found : Option Offer)
    → HasPlace pile place found → place ≡ Some at
    → (offer : Offer) × (slice_get pile at ≡ Some offer) × (found ≡ Some offer)
placed-found pile None at found there e = absurd (none e)
  where
    none : None ≡ Some at → ⊥
    none e = cc
placed-found pile (Some other) at None there e = absurd there
placed-found pile (Some other) at (Some offer) there e =
    let same : other ≡ at = cc in
    (offer, subst (λ k. slice_get pile k ≡ Some offer) same there, refl)
