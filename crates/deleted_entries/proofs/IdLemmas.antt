-- How a member's UUID is put together, and how long its text is.
use Rattle.std.proofs.Common.{◌≡◌, ℕ, zero, suc, ◌+◌, ◌%◌, ◌/◌, ◌≤◌, ◌<◌, ◌^◌, List, [], ◌∷◌, ◌++◌, Some, inl, length}
use Rattle.std.proofs.Common.{get_or, take, drop, refl, ap, ◌∙◌, sym, arith, length-append, All}
use Rattle.std.proofs.lemmas.List.Elements.{All-nil, All-cons, All-append, All-take}
use Rattle.std.proofs.lemmas.Nat.{from_be_bytes-to_be_bytes_4}
use Rattle.std.specs.Int.{to_be_bytes, from_be_bytes, w32}
use Rattle.uuid.proofs.RoundTrips.{parses_urn}
use Rattle.uuid.specs.Text.{by_index, parsed, lower}
use Rattle.uuid.specs.Parts.{with_version, with_variant}
use Rattle.uuid.specs.declared.Version.TheVariants.{Custom}
use Rattle.uuid.specs.declared.Variant.TheVariants.{RFC4122}
use Rattle.deleted_entries.specs.FeedId.{IsFeedId, IsMemberId, member_bytes, member_id}

pub length-by_index : {X : Type 0} (n : ℕ) (f : ℕ → X) → length (by_index n f) ≡ n
unfolding by_index
length-by_index zero f = refl
length-by_index (suc n) f = omega (arith, length-append (by_index n f) (f n ∷ []), length-by_index n f)

-- the first six
six : (f : List ℕ) → 6 ≤ length f →
    take 6 f ≡ get_or f 0 0 ∷ get_or f 1 0 ∷ get_or f 2 0 ∷ get_or f 3 0 ∷ get_or f 4 0 ∷ get_or f 5 0 ∷ []
six (a ∷ b ∷ c ∷ d ∷ e ∷ g ∷ rest) h = refl
six _ h = absurd (omega (arith, h))

four : (n : List ℕ) → length n ≡ 4 → n ≡ get_or n 0 0 ∷ get_or n 1 0 ∷ get_or n 2 0 ∷ get_or n 3 0 ∷ []
four (a ∷ b ∷ c ∷ d ∷ []) h = refl
four _ h = absurd (omega (arith, h))

pub member_from_parts : (f n : List ℕ) → length f ≡ 16 → length n ≡ 4 →
    with_version (with_variant
    (get_or f 0 0 ∷ get_or f 1 0 ∷ get_or f 2 0 ∷ get_or f 3 0 ∷ get_or f 4 0 ∷ get_or f 5 0 ∷ get_or f 6 0 ∷
    get_or f 7 0 ∷ 0 ∷ 0 ∷ 0 ∷ 0 ∷ get_or n 0 0 ∷ get_or n 1 0 ∷ get_or n 2 0 ∷ get_or n 3 0 ∷ []) RFC4122) Custom
    ≡ take 6 f ++ (128 + get_or f 6 0 % 16) ∷ get_or f 7 0 ∷ 128 ∷ 0 ∷ 0 ∷ 0 ∷ n
member_from_parts f n hf hn = let e : get_or f 6 0 % 16 + 128 ≡ 128 + get_or f 6 0 % 16 = omega arith in
    rw (six f (omega (arith, hf)), four n hn, e)

-- the last four
twelve : (f : List ℕ) → length f ≡ 16 → drop 12 f ≡ get_or f 12 0 ∷ get_or f 13 0 ∷ get_or f 14 0 ∷ get_or f 15 0 ∷ []
twelve (a ∷ b ∷ c ∷ d ∷ e ∷ g ∷ h ∷ i ∷ j ∷ k ∷ l ∷ m ∷ n ∷ o ∷ p ∷ q ∷ []) size = refl
twelve _ size = absurd (omega (arith, size))

number_bytes_fit : (n : ℕ) → All (λ b. b < 256) (to_be_bytes w32 n)
number_bytes_fit n =
    let P = λ (b : ℕ). b < 256 in
    let one : List ℕ = n % 256 ∷ [] in
    let two : List ℕ = n / 256 ^ 1 % 256 ∷ one in
    let three : List ℕ = n / 256 ^ 2 % 256 ∷ two in
    All-cons P (n / 256 ^ 3 % 256) three (omega arith)
    (All-cons P (n / 256 ^ 2 % 256) two (omega arith)
    (All-cons P (n / 256 ^ 1 % 256) one (omega arith) (All-cons P (n % 256) [] (omega arith) (All-nil P))))

member_size : (f : List ℕ) (n : ℕ) → length f ≡ 16 → length (member_bytes f n) ≡ 16
unfolding member_bytes
member_size f n hf = rw (six f (omega (arith, hf))) refl

member_bytes_fit : (f : List ℕ) (n : ℕ) → IsFeedId f → All (λ b. b < 256) (member_bytes f n)
unfolding member_bytes
member_bytes_fit f n is =
    let fits : (k : ℕ) → k < 16 → get_or f k 0 < 256 = λ k below. is.each k 0 (omega (arith, is.size)) in
    let P = λ (b : ℕ). b < 256 in
    let number = to_be_bytes w32 n in
    let zeros : All P (0 ∷ 0 ∷ 0 ∷ number) =
    All-cons P 0 (0 ∷ 0 ∷ number) (omega arith)
    (All-cons P 0 (0 ∷ number) (omega arith) (All-cons P 0 number (omega arith) (number_bytes_fit n))) in
    let last : All P (128 ∷ 0 ∷ 0 ∷ 0 ∷ number) = All-cons P 128 (0 ∷ 0 ∷ 0 ∷ number) (omega arith) zeros in
    let end : All P (get_or f 7 0 ∷ 128 ∷ 0 ∷ 0 ∷ 0 ∷ number) =
    All-cons P (get_or f 7 0) (128 ∷ 0 ∷ 0 ∷ 0 ∷ number) (fits 7 (omega arith)) last in
    All-append P (take 6 f) ((128 + get_or f 6 0 % 16) ∷ get_or f 7 0 ∷ 128 ∷ 0 ∷ 0 ∷ 0 ∷ number)
    (All-take P 6 f is.each)
    (All-cons P (128 + get_or f 6 0 % 16) (get_or f 7 0 ∷ 128 ∷ 0 ∷ 0 ∷ 0 ∷ number) (omega arith) end)

-- the text of a member's UUID is read back
pub member_reads : (f : List ℕ) (n : ℕ) → IsFeedId f → parsed (member_id f n) ≡ Some (member_bytes f n)
unfolding member_id
member_reads f n is = sym
    (parses_urn lower (member_bytes f n) (inl refl) (member_size f n is.size) (member_bytes_fit f n is))

-- and its last bytes are the number
pub ends_with_number : (f : List ℕ) (n : ℕ) → length f ≡ 16 → n < 2 ^ 32 →
    from_be_bytes w32 (drop 12 (member_bytes f n)) ≡ n
unfolding member_bytes
ends_with_number f n hf below = rw (six f (omega (arith, hf))) (from_be_bytes-to_be_bytes_4 n below)

pub member_parsed : (f id : List ℕ) (n : ℕ) → IsFeedId f → IsMemberId f n id → parsed id ≡ Some (member_bytes f n)
member_parsed f id n is member = ap parsed member.text ∙ member_reads f n is

-- so the text has one number
pub number_read : (f id u : List ℕ) (n : ℕ) → IsFeedId f → IsMemberId f n id → Some u ≡ parsed id →
    from_be_bytes w32 (drop 12 u) ≡ n
number_read f id u n is member reads =
    let same : Some u ≡ Some (member_bytes f n) = reads ∙ member_parsed f id n is member in
    let e : u ≡ member_bytes f n = cc in
    ap (λ (x : List ℕ). from_be_bytes w32 (drop 12 x)) e ∙ ends_with_number f n is.size member.below

-- members of different numbers have different identifiers
pub one_number : (f : List ℕ) (n m : ℕ) → IsFeedId f → n < 2 ^ 32 → m < 2 ^ 32 → member_id f n ≡ member_id f m → m ≡ n
one_number f n m is below_n below_m same =
    let e : Some (member_bytes f m) ≡ Some (member_bytes f n) = sym (member_reads f m is) ∙ ap parsed (sym same)
    ∙ member_reads f n is in
    let bytes : member_bytes f m ≡ member_bytes f n = cc in
    sym (ends_with_number f m is.size below_m) ∙ ap (λ (x : List ℕ). from_be_bytes w32 (drop 12 x)) bytes
    ∙ ends_with_number f n is.size below_n
