-- The longest front of some bytes that is UTF-8 of XML characters.
use Rattle.std.proofs.Common.{◌≡◌, ℕ, zero, suc, ◌+◌, ◌<◌, ◌≤◌, true, false, not, List, [], ◌∷◌, ◌++◌, length, take}
use Rattle.std.proofs.Common.{drop, Some, refl, sym, ap, subst, ◌∙◌, ⊎_elim, arith}
use Rattle.std.specs.Char.{encode_utf8}
use Rattle.std.specs.List.{AllPass, list_all}
use Rattle.std.specs.Str.{IsUtf8, is_utf8, chars, encode_utf8_all, IsCharBoundary, NoCharPasses, NonePass}
use Rattle.std.specs.Str.Lossy.{utf8_valid_len, valid_len_up_to}
use Rattle.std.specs.Str.Pattern.{FindsBy}
use Rattle.std.proofs.lemmas.Bool.{both_ways, cases_lt, cases_Bool, cond-true, cond-false, and_parts, and_from}
use Rattle.std.proofs.lemmas.Bool.{and_left, not-true, not-false, false_from_ne_true}
use Rattle.std.proofs.lemmas.List.{append-nil, append_assoc, take-append-drop, take-append-le, take-take, take_all}
use Rattle.std.proofs.lemmas.List.{take_at, drop-append-le, length-take-le, length-drop, length-append, nil_from_length}
use Rattle.std.proofs.lemmas.List.Folds.{list_all-append}
use Rattle.std.proofs.lemmas.Str.{IsUtf8-nil, IsUtf8-from_is_utf8, is_utf8-from_IsUtf8, IsUtf8-take, IsUtf8-drop}
use Rattle.std.proofs.lemmas.Str.{IsCharBoundary-from_take, chars-append, chars_from_encodes, encode_same}
use Rattle.std.proofs.lemmas.Str.{len_utf8_bounds}
use Rattle.std.specs.Str.{IsAscii}
use Rattle.std.proofs.lemmas.Str.{IsUtf8-from_ascii, chars-IsAscii}
use Rattle.std.proofs.lemmas.Str.Ascii.{IsAscii-nil, IsAscii-cons}
use Rattle.std.proofs.lemmas.List.Elements.{All-head, All-tail, All-weaker}
use Rattle.std.proofs.lemmas.List.Sums.{AllPass-from_list_all, list_all-from_AllPass}
use Rattle.std.proofs.lemmas.Bool.Decides.{nat_tests}
use Rattle.atom_values.specs.XmlText.{is_plain, is_xml_char, is_xml_text, IsXmlText, IsLongestXmlPrefix}

-- the two parts of the test
is_xml_text-parts : (bs : List ℕ) → is_xml_text bs ≡ true → IsUtf8 bs × (list_all is_xml_char (chars bs) ≡ true)
unfolding is_xml_text
is_xml_text-parts bs h = let p = and_parts _ _ h in (IsUtf8-from_is_utf8 bs p.0, p.1)

is_xml_text-from : (bs : List ℕ) → IsUtf8 bs → list_all is_xml_char (chars bs) ≡ true → is_xml_text bs ≡ true
unfolding is_xml_text
is_xml_text-from bs u h = and_from _ _ (is_utf8-from_IsUtf8 bs u) h

none_refused : (cs : List ℕ) → NonePass (λ c. not (is_xml_char c)) cs → list_all is_xml_char cs ≡ true
none_refused [] h = refl
none_refused (c ∷ cs) h = and_from _ _ (not-false _ h.0) (none_refused cs h.1)

-- a text none of whose characters is refused
is_xml_text-clean : (bs : List ℕ) → IsUtf8 bs → NoCharPasses (λ c. not (is_xml_char c)) bs → is_xml_text bs ≡ true
is_xml_text-clean bs u h =
    let P : List ℕ → Type 0 = λ cs. list_all is_xml_char cs ≡ true in
    is_xml_text-from bs u (subst P (chars_from_encodes h.0 bs u h.1) (none_refused h.0 h.2))

-- the prefix of n bytes is a text, and no longer one is
is_longest : (bytes : List ℕ) (n : ℕ) → n < length bytes → is_xml_text (take n bytes) ≡ true →
    ((k : ℕ) → n < k → k ≤ length bytes → is_xml_text (take k bytes) ≡ false) → IsLongestXmlPrefix bytes n
is_longest bytes n within front longer = record {
  before_end = within;
  is_text = front;
  longest = λ k above below text. both_ways _ (longer k above below) text;
}

-- characters whose bytes begin with those of a refused one
begins_refused : (cs ys rest : List ℕ) (c : ℕ) → 0 < length (encode_utf8_all cs) →
    encode_utf8_all cs ++ ys ≡ encode_utf8 c ++ rest → is_xml_char c ≡ false → list_all is_xml_char cs ≡ false
begins_refused [] ys rest c some same refused = absurd (omega arith)
begins_refused (d ∷ ds) ys rest c some same refused =
    let joined : encode_utf8 d ++ (encode_utf8_all ds ++ ys) ≡ encode_utf8 c ++ rest =
    sym (append_assoc (encode_utf8 d) (encode_utf8_all ds) ys) ∙ same in
    let is = (encode_same d c _ _ joined).0 in
    and_left _ _ (ap is_xml_char is ∙ refused)

-- no longer front is a text where a refused character follows
refused_next : (bytes rest : List ℕ) (n m c : ℕ) → is_xml_text (take n bytes) ≡ true →
    drop n bytes ≡ encode_utf8 c ++ rest → is_xml_char c ≡ false → n < m → m ≤ length bytes →
    is_xml_text (take m bytes) ≡ false
refused_next bytes rest n m c front next refused after within = false_from_ne_true _
    (λ text.
    let longer = is_xml_text-parts _ text in
    let full : length (take m bytes) ≡ m = length-take-le m bytes within in
    let below : n ≤ length (take m bytes) = omega arith in
    let front_is : take n (take m bytes) ≡ take n bytes = take-take n m bytes (omega arith) in
    let front_text = (is_xml_text-parts _ front).0 in
    let cut_text : IsUtf8 (take n (take m bytes)) = subst IsUtf8 (sym front_is) front_text in
    let more_text = IsUtf8-drop (take m bytes) n longer.0
    (IsCharBoundary-from_take (take m bytes) n longer.0 below cut_text) in
    let split = sym (chars-append _ (drop n (take m bytes)) cut_text) ∙ ap chars (take-append-drop n (take m bytes)) in
    let all_split = sym (list_all-append is_xml_char (chars (take n (take m bytes))) (chars (drop n (take m bytes))))
    ∙ ap (list_all is_xml_char) split ∙ longer.1 in
    let more_is : encode_utf8_all more_text.0 ≡ drop n (take m bytes) = more_text.1.1 in
    let more_chars = chars_from_encodes more_text.0 _ more_text more_is in
    let some : 0 < length (encode_utf8_all more_text.0) = rw more_is (omega (arith, length-drop n (take m bytes))) in
    let begins : encode_utf8_all more_text.0 ++ drop m bytes ≡ encode_utf8 c ++ rest =
    ap (λ xs. xs ++ drop m bytes) more_is ∙ sym (drop-append-le n (take m bytes) (drop m bytes) below)
    ∙ ap (drop n) (take-append-drop m bytes) ∙ next in
    both_ways _ (ap (list_all is_xml_char) (sym more_chars)
    ∙ begins_refused more_text.0 (drop m bytes) rest c some begins refused) (and_parts _ _ all_split).1)

-- no front that is longer than the longest text is one
longer_than_valid : (bs : List ℕ) (m k : ℕ) → valid_len_up_to bs m < k → k ≤ m → is_utf8 (take k bs) ≡ false
longer_than_valid bs zero k above within = absurd (omega arith)
longer_than_valid bs (suc m) k above within =
    let U : ℕ → Type 0 = λ j. is_utf8 (take j bs) ≡ false in
    ⊎_elim
    (λ t. let here = cond-true _ (suc m) (valid_len_up_to bs m) t in absurd (omega arith))
    (λ f.
    let here = cond-false _ (suc m) (valid_len_up_to bs m) f in
    ⊎_elim (λ past. let same : suc m ≡ k = omega arith in subst U same f)
    (λ low. longer_than_valid bs m k (omega arith) low) (cases_lt m k))
    (cases_Bool (is_utf8 (take (suc m) bs)))

broken_next : (bytes : List ℕ) (k : ℕ) → utf8_valid_len bytes < k → k ≤ length bytes →
    is_xml_text (take k bytes) ≡ false
unfolding is_xml_text utf8_valid_len
broken_next bytes k above within = and_left _ _ (longer_than_valid bytes (length bytes) k above within)

-- the bytes begin with a text, and the first refused character is at n
pub IsLongestXmlPrefix-refused : (bytes valid more : List ℕ) (n j : ℕ) → bytes ≡ valid ++ more → IsUtf8 valid →
    FindsBy (λ c. not (is_xml_char c)) valid (Some (n, j)) → IsCharBoundary valid n → IsLongestXmlPrefix bytes n
IsLongestXmlPrefix-refused bytes valid more n j parts u found cut =
    let place = found.1 in
    let at = place.2 in
    let width = len_utf8_bounds place.0 in
    let ends = at.after.0 in
    let total : length bytes ≡ length valid + length more = ap length parts ∙ length-append valid more in
    let short : n < length valid = omega arith in
    let front_is : take n bytes ≡ take n valid = ap (take n) parts ∙ take-append-le n valid more (omega arith) in
    let F : List ℕ → Type 0 = λ xs. is_xml_text xs ≡ true in
    let front = subst F (sym front_is) (is_xml_text-clean _ (IsUtf8-take valid n u cut) found.0) in
    let next : drop n bytes ≡ encode_utf8 place.0 ++ (drop j valid ++ more) =
    ap (drop n) parts ∙ drop-append-le n valid more (omega arith) ∙ ap (λ xs. xs ++ more) at.split
    ∙ append_assoc (encode_utf8 place.0) (drop j valid) more in
    is_longest bytes n (omega arith) front
    (λ k p q. refused_next bytes (drop j valid ++ more) n k place.0 front next (not-true _ place.1) p q)

-- the bytes are a text in which no character is refused
pub IsXmlText-clean : (bytes valid more : List ℕ) → bytes ≡ valid ++ more → IsUtf8 valid →
    NoCharPasses (λ c. not (is_xml_char c)) valid → length more ≡ 0 → IsXmlText bytes
IsXmlText-clean bytes valid more parts u clean none =
    let same : valid ≡ bytes = sym (append-nil valid) ∙ ap (λ xs. valid ++ xs) (sym (nil_from_length more none))
    ∙ sym parts in
    let F : List ℕ → Type 0 = λ xs. is_xml_text xs ≡ true in
    subst F same (is_xml_text-clean valid u clean)

-- the bytes begin with their longest text, in which no character is refused, and go on
pub IsLongestXmlPrefix-broken : (bytes valid more : List ℕ) → bytes ≡ valid ++ more → IsUtf8 valid →
    NoCharPasses (λ c. not (is_xml_char c)) valid → 0 < length more → length valid ≡ utf8_valid_len bytes →
    IsLongestXmlPrefix bytes (length valid)
IsLongestXmlPrefix-broken bytes valid more parts u clean some longest =
    let total : length bytes ≡ length valid + length more = ap length parts ∙ length-append valid more in
    let front_is : take (length valid) bytes ≡ valid = ap (take (length valid)) parts
    ∙ take_at valid more (length valid) refl in
    let F : List ℕ → Type 0 = λ xs. is_xml_text xs ≡ true in
    let front = subst F (sym front_is) (is_xml_text-clean valid u clean) in
    is_longest bytes (length valid) (omega arith) front (λ k p q. broken_next bytes k (omega arith) q)

-- no bytes
pub IsXmlText-nil : (bytes : List ℕ) → length bytes ≡ 0 → IsXmlText bytes
IsXmlText-nil bytes none =
    IsXmlText-clean bytes [] [] (nil_from_length bytes none) IsUtf8-nil ([], refl, tt) refl

-- bytes with a refused sequence are no text
pub IsXmlText-refused : (bytes : List ℕ) (at : ℕ) → IsLongestXmlPrefix bytes at → IsXmlText bytes → ⊥
IsXmlText-refused bytes at prefix text =
    let F : List ℕ → Type 0 = λ xs. is_xml_text xs ≡ true in
    let whole = subst F (sym (take_all (length bytes) bytes (omega arith))) text in
    prefix.longest (length bytes) prefix.before_end (omega arith) whole

plain-char : (b : ℕ) → is_plain b ≡ true → (b < 128) × (is_xml_char b ≡ true)
plain-char b is = (grind (arith, nat_tests), grind (arith, nat_tests))

plain-ascii : (bytes : List ℕ) → AllPass is_plain bytes → IsAscii bytes
plain-ascii [] are = IsAscii-nil
plain-ascii (b ∷ bytes) are =
    IsAscii-cons b bytes (plain-char b (All-head (λ x. is_plain x ≡ true) b bytes are)).0
    (plain-ascii bytes (All-tail (λ x. is_plain x ≡ true) b bytes are))

-- bytes of ASCII that are XML characters
pub IsXmlText-plain : (bytes : List ℕ) → list_all is_plain bytes ≡ true → IsXmlText bytes
IsXmlText-plain bytes is =
    let are = AllPass-from_list_all is_plain bytes is in
    let ascii = plain-ascii bytes are in
    let each : AllPass is_xml_char bytes =
    All-weaker (λ x. is_plain x ≡ true) (λ x. is_xml_char x ≡ true) (λ x plain. (plain-char x plain).1) bytes are in
    let P : List ℕ → Type 0 = λ cs. list_all is_xml_char cs ≡ true in
    is_xml_text-from bytes (IsUtf8-from_ascii bytes ascii)
    (subst P (sym (chars-IsAscii bytes ascii)) (list_all-from_AllPass is_xml_char bytes each))
