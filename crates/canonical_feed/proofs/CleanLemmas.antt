-- Texts that are written as they are: identifiers, timestamps, numbers and addresses.
use Rattle.std.proofs.Common.{◌≡◌, ◌≢◌, ℕ, zero, suc, ◌+◌, ◌-◌, ◌/◌, ◌%◌, ◌<◌, ◌≤◌, ◌^◌, Bool, true, false, ◌&&◌, ◌||◌}
use Rattle.std.proofs.Common.{◌==◌, eqb, not, List, [], ◌∷◌, ◌++◌, ltb, leb, nat_lt, refl, sym, ap, subst, ◌∙◌, codes, arith, All}
use Rattle.std.proofs.Common.{decimal, drop, nat_le, reverse, ℤ, Option, Some, None, ⊎_elim}
use Rattle.std.specs.Prelude.{if◌then◌else◌, flat_map}
use Rattle.std.specs.List.{list_all, prefix_len}
use Rattle.std.proofs.lemmas.Bool.{and_from, and_parts, cases_Bool, cond-true, cond-false, le-leb, lt-ltb, ltb-true}
use Rattle.std.proofs.lemmas.Bool.{eqb-false, leb-true, ne_eqb, or_from, not-true}
use Rattle.std.proofs.lemmas.List.{reverse-append, reverse-reverse}
use Rattle.std.proofs.lemmas.Bool.Decides.{nat_tests}
use Rattle.std.proofs.lemmas.Fmt.{decimal_by_steps}
use Rattle.std.proofs.lemmas.List.Elements.{All-head, All-tail}
use Rattle.std.proofs.lemmas.List.Folds.{list_all-append}
use Rattle.atom_values.specs.Escape.{escaped, may_escape}
use Rattle.atom_values.specs.Space.{is_space, trimmed, without_leading}
use Rattle.atom_values.specs.Stamp.{printed, date_text, clock_text, fixed_digits, fraction_text, since_year_zero}
use Rattle.atom_values.specs.Calendar.{year_of, month_of, day_of}
use Rattle.atom_values.specs.XmlText.{IsXmlText}
use Rattle.atom_values.proofs.EscapeLemmas.{escaped-nil, escaped-cons, escaped_byte-plain}
use Rattle.chain_links.specs.Base.{IsBase, IsPort, IsWord, base_text, host_text, is_label_char, is_segment_char, path_text}
use Rattle.chain_links.specs.Base.{port_text}
use Rattle.chain_links.specs.Address as address
use Rattle.chain_links.specs.declared.address.Address.{Address}
use Rattle.chain_links.specs.declared.address.Address.TheVariants.{Feed, Archive, Member}
use Rattle.deleted_entries.specs.FeedId.{feed_text, member_bytes, member_id}
use Rattle.uuid.specs.Text.{by_index, digit_place, hex_digit, hyphen, hyphenated_text, is_hyphen_place, lower, nibble}
use Rattle.uuid.proofs.TextLemmas.{nibble_small}
use Rattle.xml_tokens.proofs.XmlLemmas.{printable, printable_xml}

-- a byte of ASCII from `(` on that no text escapes, and no `?`
abbrev pub is_clean : ℕ → Bool
is_clean b = nat_le 40 b && nat_lt b 127 && not (b == 60) && not (b == 62) && not (b == 63)

abbrev pub IsClean : List ℕ → Type 0
IsClean t = list_all is_clean t ≡ true

pub record IsCleanByte (b : ℕ) : Type 0 where
  pub low : 40 ≤ b
  pub high : b < 127
  pub no_tag : b ≢ 60
  pub no_end : b ≢ 62
  pub no_question : b ≢ 63

clean_from : (b : ℕ) → IsCleanByte b → is_clean b ≡ true
clean_from b is =
    and_from (nat_le 40 b && nat_lt b 127 && not (b == 60) && not (b == 62)) (not (b == 63))
    (and_from (nat_le 40 b && nat_lt b 127 && not (b == 60)) (not (b == 62))
    (and_from (nat_le 40 b && nat_lt b 127) (not (b == 60))
    (and_from (nat_le 40 b) (nat_lt b 127) (le-leb 40 b is.low) (lt-ltb b 127 is.high))
    (ap not (ne_eqb b 60 is.no_tag)))
    (ap not (ne_eqb b 62 is.no_end)))
    (ap not (ne_eqb b 63 is.no_question))

pub clean_is : (b : ℕ) → is_clean b ≡ true → IsCleanByte b
clean_is b is =
    let p4 = and_parts (nat_le 40 b && nat_lt b 127 && not (b == 60) && not (b == 62)) (not (b == 63)) is in
    let p3 = and_parts (nat_le 40 b && nat_lt b 127 && not (b == 60)) (not (b == 62)) p4.0 in
    let p2 = and_parts (nat_le 40 b && nat_lt b 127) (not (b == 60)) p3.0 in
    let p1 = and_parts (nat_le 40 b) (nat_lt b 127) p2.0 in
    record {
      low = leb-true 40 b p1.0;
      high = ltb-true b 127 p1.1;
      no_tag = eqb-false b 60 (not-true (b == 60) p2.1);
      no_end = eqb-false b 62 (not-true (b == 62) p3.1);
      no_question = eqb-false b 63 (not-true (b == 63) p4.1);
    }

clean_escape : (b : ℕ) → IsCleanByte b → may_escape b ≡ false
clean_escape b is =
    let n : (k : ℕ) → b ≢ k → eqb b k ≡ false = λ k other. ne_eqb b k other in
    or_from (b == 38 || b == 60 || b == 62 || b == 13 || b == 34 || b == 9) (b == 10)
    (or_from (b == 38 || b == 60 || b == 62 || b == 13 || b == 34) (b == 9)
    (or_from (b == 38 || b == 60 || b == 62 || b == 13) (b == 34)
    (or_from (b == 38 || b == 60 || b == 62) (b == 13)
    (or_from (b == 38 || b == 60) (b == 62)
    (or_from (b == 38) (b == 60) (n 38 (λ e. omega arith)) (n 60 is.no_tag))
    (n 62 is.no_end)) (n 13 (λ e. omega arith))) (n 34 (λ e. omega arith))) (n 9 (λ e. omega arith)))
    (n 10 (λ e. omega arith))

pub clean_first : (b : ℕ) (t : List ℕ) → IsClean (b ∷ t) → IsCleanByte b × IsClean t
clean_first b t is =
    let p = and_parts (is_clean b) (list_all is_clean t) is in
    (clean_is b p.0, p.1)

pub clean_append : (s t : List ℕ) → IsClean s → IsClean t → IsClean (s ++ t)
clean_append s t is_s is_t = list_all-append is_clean s t ∙ and_from (list_all is_clean s) (list_all is_clean t) is_s is_t

clean_cons : (b : ℕ) (t : List ℕ) → is_clean b ≡ true → IsClean t → IsClean (b ∷ t)
clean_cons b t is more = and_from (is_clean b) (list_all is_clean t) is more

-- a clean text is escaped as itself
pub clean_kept : (quoted : Bool) (t : List ℕ) → IsClean t → escaped quoted t ≡ t
clean_kept quoted [] is = escaped-nil quoted
clean_kept quoted (b ∷ t) is =
    let p = clean_first b t is in
    escaped-cons quoted b t
    ∙ ap (λ x. x ++ escaped quoted t) (escaped_byte-plain quoted b (clean_escape b p.0))
    ∙ ap (λ x. b ∷ x) (clean_kept quoted t p.1)

clean_printable : (t : List ℕ) → IsClean t → list_all printable t ≡ true
clean_printable [] is = refl
clean_printable (b ∷ t) is =
    let p = clean_first b t is in
    and_from (printable b) (list_all printable t)
    (and_from (leb 32 b) (ltb b 127) (le-leb 32 b (let low = p.0.low in omega arith)) (lt-ltb b 127 p.0.high))
    (clean_printable t p.1)

pub clean_reverse : (t : List ℕ) → IsClean t → IsClean (reverse t)
clean_reverse [] is = refl
clean_reverse (b ∷ t) is =
    let p = and_parts (is_clean b) (list_all is_clean t) is in
    subst IsClean (sym (reverse-append (b ∷ []) t))
    (clean_append (reverse t) (b ∷ []) (clean_reverse t p.1) (and_from (is_clean b) true p.0 refl))

clean_space : (b : ℕ) → IsCleanByte b → is_space b ≡ false
clean_space b is =
    let n : (k : ℕ) → k < 40 → eqb b k ≡ false = λ k low. ne_eqb b k (λ e. omega arith) in
    or_from (b == 9 || b == 10 || b == 13) (b == 32)
    (or_from (b == 9 || b == 10) (b == 13)
    (or_from (b == 9) (b == 10) (n 9 (omega arith)) (n 10 (omega arith))) (n 13 (omega arith))) (n 32 (omega arith))

clean_leading : (t : List ℕ) → IsClean t → without_leading t ≡ t
clean_leading [] is = refl
clean_leading (b ∷ t) is =
    ap (λ k. drop k (b ∷ t)) (cond-false (is_space b) (1 + prefix_len is_space t) 0 (clean_space b (clean_first b t is).0))

-- no white space stands at its ends
pub clean_trimmed : (t : List ℕ) → IsClean t → trimmed t ≡ t
clean_trimmed t is =
    ap (λ x. reverse (without_leading (reverse x))) (clean_leading t is)
    ∙ ap reverse (clean_leading (reverse t) (clean_reverse t is)) ∙ reverse-reverse t

pub clean_xml : (t : List ℕ) → IsClean t → IsXmlText t
clean_xml t is = printable_xml t (clean_printable t is)

clean_digit : (n : ℕ) → n < 10 → is_clean (48 + n) ≡ true
clean_digit n low = clean_from (48 + n) (record {
  low = omega arith;
  high = omega arith;
  no_tag = λ e. omega arith;
  no_end = λ e. omega arith;
  no_question = λ e. omega arith;
})

clean_digits : (width n : ℕ) → IsClean (fixed_digits width n)
clean_digits zero n = refl
clean_digits (suc width) n =
    clean_append (fixed_digits width (n / 10)) ((48 + n % 10) ∷ []) (clean_digits width (n / 10))
    (clean_cons (48 + n % 10) [] (clean_digit (n % 10) (omega arith)) refl)

clean_date : (day : ℕ) → IsClean (date_text day)
unfolding date_text
clean_date day =
    let y = fixed_digits 4 (year_of day) in
    let m = fixed_digits 2 (month_of day) in
    let d = fixed_digits 2 (day_of day) in
    clean_append (y ++ 45 ∷ [] ++ m ++ 45 ∷ []) d
    (clean_append (y ++ 45 ∷ [] ++ m) (45 ∷ [])
    (clean_append (y ++ 45 ∷ []) m (clean_append y (45 ∷ []) (clean_digits 4 (year_of day)) refl)
    (clean_digits 2 (month_of day))) refl)
    (clean_digits 2 (day_of day))

clean_clock : (millis : ℕ) → IsClean (clock_text millis)
unfolding clock_text
clean_clock millis =
    let h = fixed_digits 2 (millis / 3_600_000) in
    let m = fixed_digits 2 (millis / 60_000 % 60) in
    let s = fixed_digits 2 (millis / 1_000 % 60) in
    clean_append (h ++ 58 ∷ [] ++ m ++ 58 ∷ []) s
    (clean_append (h ++ 58 ∷ [] ++ m) (58 ∷ [])
    (clean_append (h ++ 58 ∷ []) m (clean_append h (58 ∷ []) (clean_digits 2 (millis / 3_600_000)) refl)
    (clean_digits 2 (millis / 60_000 % 60))) refl)
    (clean_digits 2 (millis / 1_000 % 60))

clean_fraction : (millis : ℕ) → IsClean (fraction_text millis)
clean_fraction millis =
    elim (millis == 0) as (λ b. IsClean (if b then [] else 46 ∷ fixed_digits 3 millis))
    [ true ↦ refl | false ↦ clean_cons 46 (fixed_digits 3 millis) refl (clean_digits 3 millis) ]

-- a timestamp as it is printed
pub clean_stamp : (z : ℤ) → IsClean (printed z)
unfolding printed
clean_stamp z =
    let millis = since_year_zero z in
    let date = date_text (millis / 86_400_000) in
    let clock = clock_text (millis % 86_400_000) in
    let fraction = fraction_text (millis % 86_400_000 % 1_000) in
    clean_append (date ++ 84 ∷ [] ++ (clock ++ fraction)) (90 ∷ [])
    (clean_append (date ++ 84 ∷ []) (clock ++ fraction)
    (clean_append date (84 ∷ []) (clean_date (millis / 86_400_000)) refl)
    (clean_append clock fraction (clean_clock (millis % 86_400_000)) (clean_fraction (millis % 86_400_000 % 1_000))))
    refl

-- a number as it is printed
pub clean_decimal : (n : ℕ) → n < 2 ^ 64 → IsClean (decimal n)
clean_decimal =
    decimal_by_steps (λ n ds. IsClean ds)
    (λ n low. clean_cons (48 + n) [] (clean_digit n low) refl)
    (λ n ds high is.
    clean_append ds ((48 + n % 10) ∷ []) is (clean_cons (48 + n % 10) [] (clean_digit (n % 10) (omega arith)) refl))

clean_by_index : (n : ℕ) (f : ℕ → ℕ) → ((k : ℕ) → is_clean (f k) ≡ true) → IsClean (by_index n f)
unfolding by_index
clean_by_index zero f each = refl
clean_by_index (suc n) f each =
    clean_append (by_index n f) (f n ∷ []) (clean_by_index n f each) (clean_cons (f n) [] (each n) refl)

clean_hex : (d : ℕ) → d < 16 → is_clean (hex_digit lower d) ≡ true
clean_hex d low =
    let C : ℕ → Type 0 = λ b. is_clean b ≡ true in
    ⊎_elim
    (λ (is : ltb d 10 ≡ true). subst C (sym (cond-true (ltb d 10) (48 + d) (97 + d - 10) is))
    (clean_digit d (ltb-true d 10 is)))
    (λ other. subst C (sym (cond-false (ltb d 10) (48 + d) (97 + d - 10) other))
    (clean_from (97 + d - 10) (record {
      low = omega arith;
      high = omega arith;
      no_tag = λ e. omega arith;
      no_end = λ e. omega arith;
      no_question = λ e. omega arith;
    })))
    (cases_Bool (ltb d 10))

clean_place : (xs : List ℕ) (k : ℕ) →
    is_clean (if is_hyphen_place k then hyphen else hex_digit lower (nibble xs (digit_place k))) ≡ true
clean_place xs k =
    elim (is_hyphen_place k) as (λ b.
    is_clean (if b then hyphen else hex_digit lower (nibble xs (digit_place k))) ≡ true)
    [ true ↦ refl | false ↦ clean_hex (nibble xs (digit_place k)) (nibble_small xs (digit_place k)) ]

clean_uuid : (xs : List ℕ) → IsClean (hyphenated_text lower xs)
clean_uuid xs =
    clean_by_index 36 (λ k. if is_hyphen_place k then hyphen else hex_digit lower (nibble xs (digit_place k)))
    (clean_place xs)

-- the identifier of a feed
pub clean_feed : (id : List ℕ) → IsClean (codes "urn:uuid:" ++ feed_text id)
clean_feed id = clean_append (codes "urn:uuid:") (feed_text id) refl (clean_uuid id)

-- the identifier of a member
pub clean_member : (id : List ℕ) (number : ℕ) → IsClean (member_id id number)
unfolding member_id
clean_member id number =
    clean_append (codes "urn:uuid:") (hyphenated_text lower (member_bytes id number)) refl
    (clean_uuid (member_bytes id number))

clean_label : (c : ℕ) → is_label_char c ≡ true → is_clean c ≡ true
clean_label c is =
    let low : 40 ≤ c = grind (arith, nat_tests) in
    let high : c < 127 = grind (arith, nat_tests) in
    let no60 : c ≢ 60 = λ e. grind (arith, nat_tests) in
    let no62 : c ≢ 62 = λ e. grind (arith, nat_tests) in
    let no63 : c ≢ 63 = λ e. grind (arith, nat_tests) in
    clean_from c (record { low = low; high = high; no_tag = no60; no_end = no62; no_question = no63 })

clean_segment : (c : ℕ) → is_segment_char c ≡ true → is_clean c ≡ true
clean_segment c is =
    let low : 40 ≤ c = grind (arith, nat_tests) in
    let high : c < 127 = grind (arith, nat_tests) in
    let no60 : c ≢ 60 = λ e. grind (arith, nat_tests) in
    let no62 : c ≢ 62 = λ e. grind (arith, nat_tests) in
    let no63 : c ≢ 63 = λ e. grind (arith, nat_tests) in
    clean_from c (record { low = low; high = high; no_tag = no60; no_end = no62; no_question = no63 })

clean_word : (test : ℕ → Bool) → ((c : ℕ) → test c ≡ true → is_clean c ≡ true) → (word : List ℕ) →
    All (λ c. test c ≡ true) word → IsClean word
clean_word test each [] all = refl
clean_word test each (c ∷ word) all =
    clean_cons c word (each c (All-head (λ k. test k ≡ true) c word all))
    (clean_word test each word (All-tail (λ k. test k ≡ true) c word all))

clean_host : (labels : List (List ℕ)) → All (IsWord is_label_char) labels → IsClean (host_text labels)
clean_host [] all = refl
clean_host (x ∷ []) all =
    clean_word is_label_char clean_label x (All-head (IsWord is_label_char) x [] all).1
clean_host (x ∷ y ∷ more) all =
    clean_append x (46 ∷ host_text (y ∷ more))
    (clean_word is_label_char clean_label x (All-head (IsWord is_label_char) x (y ∷ more) all).1)
    (clean_cons 46 (host_text (y ∷ more)) refl (clean_host (y ∷ more) (All-tail (IsWord is_label_char) x (y ∷ more) all)))

clean_segments : (segments : List (List ℕ)) → All (IsWord is_segment_char) segments →
    IsClean (flat_map (λ segment. segment ++ 47 ∷ []) segments)
clean_segments [] all = refl
clean_segments (s ∷ more) all =
    clean_append (s ++ 47 ∷ []) (flat_map (λ segment. segment ++ 47 ∷ []) more)
    (clean_append s (47 ∷ [])
    (clean_word is_segment_char clean_segment s (All-head (IsWord is_segment_char) s more all).1) refl)
    (clean_segments more (All-tail (IsWord is_segment_char) s more all))

clean_port : (port : Option ℕ) → IsPort port → IsClean (port_text port)
clean_port None is = refl
clean_port (Some n) is = clean_cons 58 (decimal n) refl (clean_decimal n (omega (arith, is.1)))

-- a base address
pub clean_base : (base : List ℕ) → IsBase base → IsClean base
unfolding base_text
clean_base base is =
    let p = is.parts in
    subst IsClean is.spelt
    (clean_append (codes "http://") (host_text p.labels ++ (port_text p.port ++ path_text p.segments)) refl
    (clean_append (host_text p.labels) (port_text p.port ++ path_text p.segments)
    (clean_host p.labels is.rules.labels.1)
    (clean_append (port_text p.port) (path_text p.segments) (clean_port p.port is.rules.port)
    (clean_cons 47 (flat_map (λ segment. segment ++ 47 ∷ []) p.segments) refl
    (clean_segments p.segments is.rules.segments)))))

-- the number of an address fits
abbrev pub IsNumbered : Address → Type 0
IsNumbered Feed = Unit {0}
IsNumbered (Archive number) = number < 2 ^ 32
IsNumbered (Member number) = number < 2 ^ 32

-- the address of a document
pub clean_address : (base : List ℕ) (a : Address) → IsBase base → IsNumbered a → IsClean (address.printed base a)
unfolding address.printed
clean_address base Feed is few = clean_append base (codes "feed") (clean_base base is) refl
clean_address base (Archive number) is few =
    clean_append base (codes "archive/" ++ decimal number) (clean_base base is)
    (clean_append (codes "archive/") (decimal number) refl (clean_decimal number (omega arith)))
clean_address base (Member number) is few =
    clean_append base (codes "member/" ++ decimal number) (clean_base base is)
    (clean_append (codes "member/") (decimal number) refl (clean_decimal number (omega arith)))
