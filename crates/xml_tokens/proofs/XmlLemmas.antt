-- Texts of XML characters, put together.
use Rattle.std.proofs.Common.{◌≡◌, ℕ, zero, suc, ◌<◌, ◌≤◌, Bool, true, false, ◌&&◌, ◌||◌, ◌==◌, List, [], ◌∷◌, ◌++◌}
use Rattle.std.proofs.Common.{length}
use Rattle.std.proofs.Common.{refl, sym, ap, subst, ◌∙◌, ⊎_elim, inl, inr, arith, codes, leb, ltb, ltb-true, ltb-false}
use Rattle.std.proofs.Common.{nat_lt, nat_le}
use Rattle.std.specs.List.{list_all}
use Rattle.std.specs.Prelude.{chars}
use Rattle.std.specs.Str.{is_utf8, IsAscii}
use Rattle.std.specs.Char.{digit_value}
use Rattle.std.specs.Str.Parse.{AllDigits}
use Rattle.std.proofs.lemmas.Bool.{and_parts, and_from, both_ways, cases_Bool, cond-true, cond-false, le-leb, lt-ltb}
use Rattle.std.proofs.lemmas.Bool.{le-ltb}
use Rattle.std.proofs.lemmas.List.Folds.{list_all-append}
use Rattle.std.proofs.lemmas.Str.{IsUtf8-append, IsUtf8-from_is_utf8, is_utf8-from_IsUtf8, chars-append, chars-IsAscii}
use Rattle.std.proofs.lemmas.Str.{IsUtf8-from_ascii, IsUtf8-nil, chars-nil, IsUtf8-past_char, encode_ascii}
use Rattle.std.proofs.lemmas.Str.{chars_past_char, IsUtf8-take, IsUtf8-drop, IsCharBoundary-before_ascii}
use Rattle.std.proofs.lemmas.Str.{IsCharBoundary-from_take}
use Rattle.std.proofs.lemmas.List.{take_at, drop_at, length-append}
use Rattle.std.proofs.Common.{get_or}
use Rattle.std.proofs.Math.Seq.{get_or-append_seam}
use Rattle.std.specs.Str.{IsUtf8}
use Rattle.std.specs.Int.{is_in_range}
use Rattle.atom_values.specs.Ascii.{tab, lf, cr}
use Rattle.atom_values.specs.XmlText.{IsXmlText, is_xml_text, is_xml_char}
use Rattle.xml_tokens.specs.Characters.{IsReference}
use Rattle.xml_tokens.proofs.NumberLemmas.{IsBase}

pub xml_parts : (text : List ℕ) → IsXmlText text → (is_utf8 text ≡ true) × (list_all is_xml_char (chars text) ≡ true)
unfolding is_xml_text
xml_parts text is = and_parts (is_utf8 text) (list_all is_xml_char (chars text)) is

pub xml_from : (text : List ℕ) → is_utf8 text ≡ true → list_all is_xml_char (chars text) ≡ true → IsXmlText text
unfolding is_xml_text
xml_from text utf8 all = and_from (is_utf8 text) (list_all is_xml_char (chars text)) utf8 all

pub xml_append : (s t : List ℕ) → IsXmlText s → IsXmlText t → IsXmlText (s ++ t)
xml_append s t is_s is_t =
    let a = xml_parts s is_s in
    let b = xml_parts t is_t in
    let u = IsUtf8-from_is_utf8 s a.0 in
    xml_from (s ++ t) (is_utf8-from_IsUtf8 (s ++ t) (IsUtf8-append s t u (IsUtf8-from_is_utf8 t b.0)))
    (ap (list_all is_xml_char) (chars-append s t u) ∙ list_all-append is_xml_char (chars s) (chars t)
    ∙ and_from (list_all is_xml_char (chars s)) (list_all is_xml_char (chars t)) a.1 b.1)

-- an ASCII character that isn't a control character
abbrev pub printable : ℕ → Bool
printable b = nat_le 32 b && nat_lt b 127

pub ascii_one : (b : ℕ) → b < 128 → IsAscii (b ∷ [])
ascii_one b low zero = low
ascii_one b low (suc i) = omega arith

fourth : (a b c d e f : Bool) → d ≡ true → (a || b || c || d || e || f) ≡ true
fourth true b c d e f is = refl
fourth false true c d e f is = refl
fourth false false true d e f is = refl
fourth false false false true e f is = refl
fourth false false false false e f is = absurd (both_ways false refl is)

printable_char : (b : ℕ) → printable b ≡ true → is_xml_char b ≡ true
printable_char b e =
    let p = and_parts (leb 32 b) (ltb b 127) e in
    let high = ltb-true b 127 p.1 in
    fourth (b == tab) (b == lf) (b == cr) (is_in_range 0x20 0xD7FF b) (is_in_range 0xE000 0xFFFD b)
    (is_in_range 0x1_0000 0x10_FFFF b) (and_from (leb 0x20 b) (leb b 0xD7FF) p.0 (le-leb b 0xD7FF (omega arith)))

printable_one : (b : ℕ) → printable b ≡ true → IsXmlText (b ∷ [])
printable_one b e =
    let p = and_parts (leb 32 b) (ltb b 127) e in
    let high = ltb-true b 127 p.1 in
    let ascii = ascii_one b (omega arith) in
    xml_from (b ∷ []) (is_utf8-from_IsUtf8 (b ∷ []) (IsUtf8-from_ascii (b ∷ []) ascii))
    (ap (list_all is_xml_char) (chars-IsAscii (b ∷ []) ascii)
    ∙ and_from (is_xml_char b) true (printable_char b e) refl)

pub xml_nil : IsXmlText []
xml_nil = xml_from [] (is_utf8-from_IsUtf8 [] IsUtf8-nil) (ap (list_all is_xml_char) chars-nil)

pub printable_xml : (text : List ℕ) → list_all printable text ≡ true → IsXmlText text
printable_xml [] all = xml_nil
printable_xml (b ∷ text) all =
    let p = and_parts (printable b) (list_all printable text) all in
    xml_append (b ∷ []) text (printable_one b p.0) (printable_xml text p.1)

pub printable_append : (s t : List ℕ) → list_all printable s ≡ true → list_all printable t ≡ true →
    list_all printable (s ++ t) ≡ true
printable_append s t all_s all_t =
    list_all-append printable s t ∙ and_from (list_all printable s) (list_all printable t) all_s all_t

pub printable_rest : (s t : List ℕ) → list_all printable (s ++ t) ≡ true → list_all printable t ≡ true
printable_rest s t all =
    (and_parts (list_all printable s) (list_all printable t) (sym (list_all-append printable s t) ∙ all)).1

digit_low : (d : ℕ) → d < 48 → digit_value d ≡ 36
digit_low d low = cond-true (nat_lt d 48) _ _ (lt-ltb d 48 low)

digit_high : (d : ℕ) → 123 ≤ d → digit_value d ≡ 36
digit_high d high =
    let above : (k : ℕ) → k ≤ 123 → nat_lt d k ≡ false = λ k under. le-ltb d k (omega arith) in
    cond-false (nat_lt d 48) _ _ (above 48 (omega arith)) ∙ cond-false (nat_lt d 58) _ _ (above 58 (omega arith))
    ∙ cond-false (nat_lt d 65) _ _ (above 65 (omega arith)) ∙ cond-false (nat_lt d 91) _ _ (above 91 (omega arith))
    ∙ cond-false (nat_lt d 97) _ _ (above 97 (omega arith)) ∙ cond-false (nat_lt d 123) _ _ (above 123 (omega arith))

printable_digit : (d : ℕ) → digit_value d < 16 → printable d ≡ true
printable_digit d low =
    and_from (leb 32 d) (ltb d 127)
    (⊎_elim
    (λ (under : ltb d 48 ≡ true). absurd (let e = digit_low d (ltb-true d 48 under) in omega arith))
    (λ over. le-leb 32 d (let o = ltb-false d 48 over in omega arith))
    (cases_Bool (ltb d 48)))
    (⊎_elim
    (λ (under : ltb d 123 ≡ true). lt-ltb d 127 (let u = ltb-true d 123 under in omega arith))
    (λ over. absurd (let e = digit_high d (ltb-false d 123 over) in omega arith))
    (cases_Bool (ltb d 123)))

printable_digits : (base : ℕ) → IsBase base → (ds : List ℕ) → AllDigits base ds → list_all printable ds ≡ true
printable_digits base is [] all = refl
printable_digits base is (d ∷ ds) all =
    let low : digit_value d < 16 = ⊎_elim
    (λ ten. let P : ℕ → Type 0 = λ b. digit_value d < b in let h : digit_value d < 10 = subst P ten all.0 in omega
    arith)
    (λ hex. let P : ℕ → Type 0 = λ b. digit_value d < b in subst P hex all.0) is in
    and_from (printable d) (list_all printable ds) (printable_digit d low) (printable_digits base is ds all.1)

-- a reference is written in ASCII
pub printable_reference : (c : ℕ) (t : List ℕ) → IsReference c t → list_all printable t ≡ true
printable_reference c t is =
    let C : List ℕ → Type 0 = λ xs. list_all printable xs ≡ true in
    ⊎_elim
    (λ named. ⊎_elim (λ a. subst C (sym a.1) refl)
    (λ is2. ⊎_elim (λ a. subst C (sym a.1) refl)
    (λ is3. ⊎_elim (λ a. subst C (sym a.1) refl)
    (λ is4. ⊎_elim (λ a. subst C (sym a.1) refl) (λ a. subst C (sym a.1) refl) is4) is3) is2) named)
    (λ numbered. ⊎_elim
    (λ ten. subst C (sym ten.spelled) (printable_append (codes "&#" ++ ten.digits) (codes ";")
    (printable_append (codes "&#") ten.digits refl (printable_digits 10 (inl refl) ten.digits ten.numeral.1)) refl))
    (λ hex. subst C (sym hex.spelled) (printable_append (codes "&#x" ++ hex.digits) (codes ";")
    (printable_append (codes "&#x") hex.digits refl (printable_digits 16 (inr refl) hex.digits hex.numeral.1)) refl))
    numbered)
    is.1

-- the text after an ASCII character is XML text
pub xml_behind : (b : ℕ) (text : List ℕ) → b < 128 → IsXmlText (b ∷ text) → IsXmlText text
xml_behind b text low is =
    let p = xml_parts (b ∷ text) is in
    let u = IsUtf8-from_is_utf8 (b ∷ text) p.0 in
    let ascii = ascii_one b low in
    let rest : IsUtf8 text = IsUtf8-past_char (b ∷ text) text b u (ap (λ xs. xs ++ text) (sym (encode_ascii b low))) in
    let split : chars (b ∷ text) ≡ b ∷ chars text =
    chars_past_char (b ∷ text) text b u (ap (λ xs. xs ++ text) (sym (encode_ascii b low))) in
    xml_from text (is_utf8-from_IsUtf8 text rest)
    (and_parts (is_xml_char b) (list_all is_xml_char (chars text)) (sym (ap (list_all is_xml_char) split) ∙ p.1)).1

-- the text before an ASCII character is XML text
pub xml_before : (b : ℕ) (s t : List ℕ) → b < 128 → IsXmlText (s ++ b ∷ t) → IsXmlText s
xml_before b s t low is =
    let p = xml_parts (s ++ b ∷ t) is in
    let u = IsUtf8-from_is_utf8 (s ++ b ∷ t) p.0 in
    let here : get_or (s ++ b ∷ t) (length s) 0 ≡ b = get_or-append_seam s b t 0 in
    let U : List ℕ → Type 0 = IsUtf8 in
    let front : IsUtf8 s = subst U (take_at s (b ∷ t) (length s) refl)
    (IsUtf8-take (s ++ b ∷ t) (length s) u
    (IsCharBoundary-before_ascii (s ++ b ∷ t) (length s) (omega (arith, length-append s (b ∷ t)))
    (omega (arith, here)))) in
    xml_from s (is_utf8-from_IsUtf8 s front)
    (and_parts (list_all is_xml_char (chars s)) (list_all is_xml_char (chars (b ∷ t)))
    (sym (list_all-append is_xml_char (chars s) (chars (b ∷ t)))
    ∙ sym (ap (list_all is_xml_char) (chars-append s (b ∷ t) front))
    ∙ p.1)).0

-- a suffix of XML text after XML text is XML text
pub xml_rest : (s t : List ℕ) → IsXmlText s → IsXmlText (s ++ t) → IsXmlText t
xml_rest s t is_s is =
    let p = xml_parts (s ++ t) is in
    let u = IsUtf8-from_is_utf8 (s ++ t) p.0 in
    let us = IsUtf8-from_is_utf8 s (xml_parts s is_s).0 in
    let n = length s in
    let U : List ℕ → Type 0 = IsUtf8 in
    let boundary = IsCharBoundary-from_take (s ++ t) n u (omega (arith, length-append s t))
    (subst U (sym (take_at s t n refl)) us) in
    let back : IsUtf8 t = subst U (drop_at s t n refl) (IsUtf8-drop (s ++ t) n u boundary) in
    xml_from t (is_utf8-from_IsUtf8 t back)
    (and_parts (list_all is_xml_char (chars s)) (list_all is_xml_char (chars t))
    (sym (list_all-append is_xml_char (chars s) (chars t))
    ∙ sym (ap (list_all is_xml_char) (chars-append s t us)) ∙ p.1)).1
