-- Texts of digits, letters and the signs of addresses: identifiers, timestamps, numbers and addresses.
use Rattle.std.proofs.Common.{◌≡◌, ◌≢◌, ℕ, zero, suc, ◌+◌, ◌/◌, ◌%◌, ◌<◌, ◌^◌, Bool, true, false, not, ◌&&◌, ◌==◌, nat_le, List, [], ◌∷◌, ◌++◌, ℤ, Option, Some, None, All, IsTrue, refl, sym, ap, ◌∙◌, arith, codes, decimal}
use Rattle.std.specs.List.{list_all}
use Rattle.std.proofs.lemmas.Bool.{and_from, and_parts, cond_both, false≢true, not_from_false, ne_eqb}
use Rattle.std.proofs.lemmas.Bool.Decides.{nat_tests}
use Rattle.std.proofs.lemmas.Fmt.{decimal_by_steps}
use Rattle.std.proofs.lemmas.List.Elements.{All-head, All-tail}
use Rattle.std.proofs.lemmas.List.Folds.{list_all-append}
use Rattle.uuid.specs.Text.{by_index, hex_digit, hyphenated_text, nibble, digit_place, is_hyphen_place, lower}
use Rattle.atom_values.specs.Calendar.{year_of, month_of, day_of}
use Rattle.atom_values.specs.Stamp as stamp
use Rattle.atom_values.specs.Stamp.{date_text, clock_text, fixed_digits, fraction_text, since_year_zero}
use Rattle.chain_links.specs.Address as address
use Rattle.chain_links.specs.Address.{IsAddress, suffix_text}
use Rattle.chain_links.specs.Base.{is_label_char, is_segment_char, IsWord, IsPort, AreSegments, IsBase, host_text, port_text, path_text}
use Rattle.chain_links.specs.declared.address.Address.{Address}
use Rattle.chain_links.specs.declared.address.Address.TheVariants.{Feed, Archive, Member}
use Rattle.chain_links.proofs.BaseLemmas.{spelling}
use Rattle.chain_links.proofs.PathLemmas.{segments_text}
use Rattle.atom_grammar.specs.Parts.{lacks}
use Rattle.deleted_entries.specs.FeedId.{member_bytes, member_id}

-- a byte from `-` on that is not `<`: so no line end and no quote
abbrev pub is_plain : ℕ → Bool
is_plain byte = nat_le 45 byte && not (byte == 60)

abbrev pub IsPlain : List ℕ → Type 0
IsPlain text = list_all is_plain text ≡ true

pub IsPlain-lacks : (byte : ℕ) (text : List ℕ) → is_plain byte ≡ false → IsPlain text → lacks byte text ≡ true
IsPlain-lacks byte [] other plain = refl
IsPlain-lacks byte (x ∷ text) other plain =
    let p = and_parts (is_plain x) (list_all is_plain text) plain in
    let differs : x ≢ byte = λ e. false≢true (sym other ∙ sym (ap is_plain e) ∙ p.0) in
    and_from (not (x == byte)) (lacks byte text) (not_from_false (x == byte) (ne_eqb x byte differs))
    (IsPlain-lacks byte text other p.1)

pub IsPlain-append : (xs ys : List ℕ) → IsPlain xs → IsPlain ys → IsPlain (xs ++ ys)
IsPlain-append xs ys a b = list_all-append is_plain xs ys ∙ and_from (list_all is_plain xs) (list_all is_plain ys) a b

one_plain : (x : ℕ) → is_plain x ≡ true → IsPlain (x ∷ [])
one_plain x plain = and_from (is_plain x) true plain refl

digit_plain : (n : ℕ) → n < 10 → is_plain (48 + n) ≡ true
digit_plain n small = grind (arith, nat_tests)

-- numbers
pub IsPlain-decimal : (n : ℕ) → n < 2 ^ 32 → IsPlain (decimal n)
IsPlain-decimal n small =
    decimal_by_steps (λ m ds. IsPlain ds) (λ m few. one_plain (48 + m) (digit_plain m few))
    (λ m ds many plain.
    IsPlain-append ds ((48 + m % 10) ∷ []) plain (one_plain (48 + m % 10) (digit_plain (m % 10) (omega arith)))) n
    (omega arith)

-- timestamps
IsPlain-fixed_digits : (width n : ℕ) → IsPlain (fixed_digits width n)
IsPlain-fixed_digits zero n = refl
IsPlain-fixed_digits (suc width) n =
    IsPlain-append (fixed_digits width (n / 10)) ((48 + n % 10) ∷ []) (IsPlain-fixed_digits width (n / 10))
    (one_plain (48 + n % 10) (digit_plain (n % 10) (omega arith)))

-- three texts with a byte after the first and the second
IsPlain-three : (a b c : List ℕ) (x : ℕ) → is_plain x ≡ true → IsPlain a → IsPlain b → IsPlain c
    → IsPlain (a ++ x ∷ [] ++ b ++ x ∷ [] ++ c)
IsPlain-three a b c x plain is_a is_b is_c =
    IsPlain-append (a ++ x ∷ [] ++ b ++ x ∷ []) c
    (IsPlain-append (a ++ x ∷ [] ++ b) (x ∷ [])
    (IsPlain-append (a ++ x ∷ []) b (IsPlain-append a (x ∷ []) is_a (one_plain x plain)) is_b) (one_plain x plain)) is_c

IsPlain-date_text : (day : ℕ) → IsPlain (date_text day)
unfolding date_text
IsPlain-date_text day =
    IsPlain-three (fixed_digits 4 (year_of day)) (fixed_digits 2 (month_of day)) (fixed_digits 2 (day_of day)) 45 refl
    (IsPlain-fixed_digits 4 (year_of day)) (IsPlain-fixed_digits 2 (month_of day))
    (IsPlain-fixed_digits 2 (day_of day))

IsPlain-clock_text : (millis : ℕ) → IsPlain (clock_text millis)
unfolding clock_text
IsPlain-clock_text millis =
    IsPlain-three (fixed_digits 2 (millis / 3_600_000)) (fixed_digits 2 (millis / 60_000 % 60))
    (fixed_digits 2 (millis / 1_000 % 60)) 58 refl (IsPlain-fixed_digits 2 (millis / 3_600_000))
    (IsPlain-fixed_digits 2 (millis / 60_000 % 60)) (IsPlain-fixed_digits 2 (millis / 1_000 % 60))

IsPlain-fraction_text : (millis : ℕ) → IsPlain (fraction_text millis)
IsPlain-fraction_text millis =
    cond_both (millis == 0) [] (46 ∷ fixed_digits 3 millis) IsPlain (λ _. refl)
    (λ _. IsPlain-append (46 ∷ []) (fixed_digits 3 millis) refl (IsPlain-fixed_digits 3 millis))

pub IsPlain-stamp : (moment : ℤ) → IsPlain (stamp.printed moment)
unfolding stamp.printed
IsPlain-stamp moment =
    let millis = since_year_zero moment in
    let date = date_text (millis / 86_400_000) in
    let clock = clock_text (millis % 86_400_000) in
    let fraction = fraction_text (millis % 86_400_000 % 1_000) in
    IsPlain-append (date ++ 84 ∷ [] ++ (clock ++ fraction)) (90 ∷ [])
    (IsPlain-append (date ++ 84 ∷ []) (clock ++ fraction)
    (IsPlain-append date (84 ∷ []) (IsPlain-date_text (millis / 86_400_000)) refl)
    (IsPlain-append clock fraction (IsPlain-clock_text (millis % 86_400_000))
    (IsPlain-fraction_text (millis % 86_400_000 % 1_000)))) refl

-- identifiers
hex_digit_plain : (d : ℕ) → is_plain (hex_digit 97 d) ≡ true
hex_digit_plain d = grind (arith, nat_tests)

IsPlain-by_index : (n : ℕ) (f : ℕ → ℕ) → ((k : ℕ) → is_plain (f k) ≡ true) → IsPlain (by_index n f)
unfolding by_index
IsPlain-by_index zero f each = refl
IsPlain-by_index (suc n) f each =
    IsPlain-append (by_index n f) (f n ∷ []) (IsPlain-by_index n f each) (one_plain (f n) (each n))

pub IsPlain-uuid : (bytes : List ℕ) → IsPlain (hyphenated_text lower bytes)
IsPlain-uuid bytes =
    IsPlain-by_index 36 _
    (λ k. cond_both (is_hyphen_place k) 45 (hex_digit 97 (nibble bytes (digit_place k))) (λ x. is_plain x ≡ true)
    (λ _. refl) (λ _. hex_digit_plain (nibble bytes (digit_place k))))

pub IsPlain-member_id : (feed : List ℕ) (number : ℕ) → IsPlain (member_id feed number)
unfolding member_id
IsPlain-member_id feed number =
    IsPlain-append (codes "urn:uuid:") (hyphenated_text lower (member_bytes feed number)) refl
    (IsPlain-uuid (member_bytes feed number))

-- addresses
label_plain : (c : ℕ) → IsTrue (is_label_char c) → is_plain c ≡ true
label_plain c is = grind (arith, nat_tests)

segment_plain : (c : ℕ) → IsTrue (is_segment_char c) → is_plain c ≡ true
segment_plain c is = grind (arith, nat_tests)

IsPlain-word : (test : ℕ → Bool) → ((c : ℕ) → IsTrue (test c) → is_plain c ≡ true) → (word : List ℕ)
    → All (λ c. IsTrue (test c)) word → IsPlain word
IsPlain-word test each [] chars = refl
IsPlain-word test each (c ∷ word) chars =
    and_from (is_plain c) (list_all is_plain word) (each c (All-head (λ x. IsTrue (test x)) c word chars))
    (IsPlain-word test each word (All-tail (λ x. IsTrue (test x)) c word chars))

IsPlain-host : (labels : List (List ℕ)) → All (IsWord is_label_char) labels → IsPlain (host_text labels)
IsPlain-host [] are = refl
IsPlain-host (l ∷ []) are = IsPlain-word is_label_char label_plain l (All-head (IsWord is_label_char) l [] are).1
IsPlain-host (l ∷ m ∷ ms) are =
    IsPlain-append l (46 ∷ host_text (m ∷ ms))
    (IsPlain-word is_label_char label_plain l (All-head (IsWord is_label_char) l (m ∷ ms) are).1)
    (IsPlain-append (46 ∷ []) (host_text (m ∷ ms)) refl
    (IsPlain-host (m ∷ ms) (All-tail (IsWord is_label_char) l (m ∷ ms) are)))

IsPlain-port : (port : Option ℕ) → IsPort port → IsPlain (port_text port)
IsPlain-port None is = refl
IsPlain-port (Some n) is =
    IsPlain-append (58 ∷ []) (decimal n) refl (IsPlain-decimal n (omega (arith, is.1)))

IsPlain-segments : (segments : List (List ℕ)) → AreSegments segments → IsPlain (segments_text segments)
IsPlain-segments [] are = refl
IsPlain-segments (s ∷ ss) are =
    IsPlain-append (s ++ 47 ∷ []) (segments_text ss)
    (IsPlain-append s (47 ∷ [])
    (IsPlain-word is_segment_char segment_plain s (All-head (IsWord is_segment_char) s ss are).1) refl)
    (IsPlain-segments ss (All-tail (IsWord is_segment_char) s ss are))

IsPlain-base : (text : List ℕ) → IsBase text → IsPlain text
IsPlain-base text base =
    let parts = base.parts in
    let host = host_text parts.labels in
    let port = port_text parts.port in
    let path = path_text parts.segments in
    ap (list_all is_plain) (spelling text base)
    ∙ IsPlain-append (codes "http://") (host ++ (port ++ path)) refl
    (IsPlain-append host (port ++ path) (IsPlain-host parts.labels base.rules.labels.1)
    (IsPlain-append port path (IsPlain-port parts.port base.rules.port)
    (IsPlain-append (47 ∷ []) (segments_text parts.segments) refl
    (IsPlain-segments parts.segments base.rules.segments))))

IsPlain-suffix : (to : Address) → IsAddress to → IsPlain (suffix_text to)
IsPlain-suffix Feed is = refl
IsPlain-suffix (Archive n) is = IsPlain-append (codes "archive/") (decimal n) refl (IsPlain-decimal n is.1)
IsPlain-suffix (Member n) is = IsPlain-append (codes "member/") (decimal n) refl (IsPlain-decimal n is.1)

pub IsPlain-address : (base : List ℕ) (to : Address) → IsBase base → IsAddress to → IsPlain (address.printed base to)
unfolding address.printed
IsPlain-address base to is_base is_to =
    IsPlain-append base (suffix_text to) (IsPlain-base base is_base) (IsPlain-suffix to is_to)
