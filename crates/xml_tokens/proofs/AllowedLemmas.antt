-- The longest front of a UTF-8 text that has XML characters only, byte by byte.
use Rattle.std.proofs.Common.{MatchOption, suc}
use Rattle.std.proofs.Common.{◌≡◌, ◌≢◌, ◌⊎◌, ℕ, ◌+◌, ◌/◌, ◌%◌, ◌<◌, ◌≤◌, Bool, true, false, not, cond, ◌&&◌, ◌||◌}
use Rattle.std.proofs.Common.{◌==◌, List, [], ◌∷◌, ◌++◌, length, take, drop, Option, Some, None, get_or, inl, inr}
use Rattle.std.proofs.Common.{refl, sym, ap, subst, ◌∙◌, ⊎_elim, append_assoc, arith, leb, ltb, nat_lt, nat_eq, eqb}
use Rattle.std.specs.Prelude.{chars, position}
use Rattle.std.specs.Char.{encode_utf8}
use Rattle.std.specs.Int.{is_in_range}
use Rattle.std.specs.List.{list_all, position_or_len}
use Rattle.std.specs.Str.{IsUtf8, encode_utf8_all}
use Rattle.std.proofs.Math.Utf8.{scalar, scalars, scalar_cases}
use Rattle.std.proofs.lemmas.Bool.{and_parts, and_from, both_ways, cases_Bool, cases_lt, cond-true, cond-false, le-leb}
use Rattle.std.proofs.lemmas.Bool.{lt-ltb, le-ltb, lt-leb, eqb-true, eqb-false, ne_eqb, false_from_ne_true}
use Rattle.std.proofs.lemmas.Bool.{ltb-true, ltb-false}
use Rattle.std.proofs.lemmas.Option.{same_Some}
use Rattle.std.proofs.lemmas.List.{drop_more, length-drop, nil_from_length}
use Rattle.std.proofs.lemmas.List.{append-nil, take_at, drop_at, length-append}
use Rattle.std.proofs.lemmas.Str.{IsUtf8-encode, IsUtf8-from_is_utf8, is_utf8-from_IsUtf8, chars-encodes, encode_same}
use Rattle.atom_values.specs.Ascii.{tab, lf, cr}
use Rattle.atom_values.specs.XmlText.{IsXmlText, is_xml_char}
use Rattle.xml_tokens.specs.Characters.{allowed_length, begins, is_control, is_refused, is_suspect}
use Rattle.xml_tokens.specs.Progress.{IsBehindXml, IsXmlLength}
use Rattle.xml_tokens.proofs.XmlLemmas.{xml_append, xml_from, xml_nil, xml_parts}

-- bytes that are looked at

none_of_two : (a b : Bool) → (a || b) ≡ false → (a ≡ false) × (b ≡ false)
none_of_two true b e = absurd (both_ways true e refl)
none_of_two false b e = (refl, e)

none_of_three : (a b c : Bool) → a ≡ false → b ≡ false → c ≡ false → (a || b || c) ≡ false
none_of_three true b c e f g = absurd (both_ways true e refl)
none_of_three false true c e f g = absurd (both_ways true f refl)
none_of_three false false c e f g = g

-- a byte that isn't suspect
pub not_suspect : (b : ℕ) (bs : List ℕ) → is_suspect b ≡ false → is_refused (b ∷ bs) ≡ false
not_suspect b bs e =
    let p = none_of_two (is_control b) (b == 0xEF) e in
    let away : eqb 0xEF b ≡ false = ne_eqb 0xEF b (λ same. eqb-false b 0xEF p.1 (sym same)) in
    let other : (x : ℕ) → begins (0xEF ∷ 0xBF ∷ x ∷ []) (b ∷ bs) ≡ false = λ x. false_from_ne_true _
    (λ is. both_ways (eqb 0xEF b) away (and_parts (nat_eq 0xEF b) _ is).0) in
    none_of_three (is_control b) (begins (0xEF ∷ 0xBF ∷ 0xBE ∷ []) (b ∷ bs)) (begins (0xEF ∷ 0xBF ∷ 0xBF ∷ []) (b ∷ bs))
    p.0 (other 0xBE) (other 0xBF)

-- a byte that is passed over
pub over : (b : ℕ) (bs : List ℕ) → is_refused (b ∷ bs) ≡ false → allowed_length (b ∷ bs) ≡ 1 + allowed_length bs
over b bs e = cond-false (is_refused (b ∷ bs)) 0 (1 + allowed_length bs) e

-- a place that is refused
pub under : (xs : List ℕ) → is_refused xs ≡ true → allowed_length xs ≡ 0
under [] e = refl
under (b ∷ bs) e = cond-true (is_refused (b ∷ bs)) 0 (1 + allowed_length bs) e

high : (b : ℕ) → 32 ≤ b → is_control b ≡ false
high b le = ap (λ t. t && not ((b == tab) || (b == lf) || (b == cr))) (le-ltb b 32 le)

-- a byte of a character from U+80 on that doesn't begin with 0xEF
inner : (b : ℕ) (bs : List ℕ) → 128 ≤ b → b ≢ 0xEF → allowed_length (b ∷ bs) ≡ 1 + allowed_length bs
inner b bs le away =
    over b bs (not_suspect b bs (ap (λ t. t || (b == 0xEF)) (high b (omega arith)) ∙ ne_eqb b 0xEF away))

-- the bytes of a character

encode_one : (c : ℕ) → c < 128 → encode_utf8 c ≡ c ∷ []
unfolding lib.Utf8.encode
encode_one c low = cond-true (ltb c 128) (c ∷ []) _ (lt-ltb c 128 low)

encode_two : (c : ℕ) → 128 ≤ c → c < 2048 → encode_utf8 c ≡ (192 + c / 64) ∷ (128 + c % 64) ∷ []
unfolding lib.Utf8.encode
encode_two c up low =
    cond-false (ltb c 128) (c ∷ []) _ (le-ltb c 128 up)
    ∙ cond-true (ltb c 2048) ((192 + c / 64) ∷ (128 + c % 64) ∷ []) _ (lt-ltb c 2048 low)

encode_three : (c : ℕ) → 2048 ≤ c → c < 65536 →
    encode_utf8 c ≡ (224 + c / 4096) ∷ (128 + c / 64 % 64) ∷ (128 + c % 64) ∷ []
unfolding lib.Utf8.encode
encode_three c up low =
    cond-false (ltb c 128) (c ∷ []) _ (le-ltb c 128 (omega arith))
    ∙ cond-false (ltb c 2048) ((192 + c / 64) ∷ (128 + c % 64) ∷ []) _ (le-ltb c 2048 up)
    ∙ cond-true (ltb c 65536) ((224 + c / 4096) ∷ (128 + c / 64 % 64) ∷ (128 + c % 64) ∷ []) _ (lt-ltb c 65536 low)

encode_four : (c : ℕ) → 65536 ≤ c →
    encode_utf8 c ≡ (240 + c / 262144) ∷ (128 + c / 4096 % 64) ∷ (128 + c / 64 % 64) ∷ (128 + c % 64) ∷ []
unfolding lib.Utf8.encode
encode_four c up =
    cond-false (ltb c 128) (c ∷ []) _ (le-ltb c 128 (omega arith))
    ∙ cond-false (ltb c 2048) ((192 + c / 64) ∷ (128 + c % 64) ∷ []) _ (le-ltb c 2048 (omega arith))
    ∙ cond-false (ltb c 65536) ((224 + c / 4096) ∷ (128 + c / 64 % 64) ∷ (128 + c % 64) ∷ []) _ (le-ltb c 65536 up)

-- which characters are allowed

some_of_six : (a b c d e f : Bool) → (d || e || f) ≡ true → (a || b || c || d || e || f) ≡ true
some_of_six true b c d e f is = refl
some_of_six false true c d e f is = refl
some_of_six false false true d e f is = refl
some_of_six false false false d e f is = is

first_three : (a b c : Bool) → (a || b || c || false || false || false) ≡ (a || b || c)
first_three true b c = refl
first_three false true c = refl
first_three false false true = refl
first_three false false false = refl

some_of_three : (a b c : Bool) → (a ≡ true) ⊎ ((b ≡ true) ⊎ (c ≡ true)) → (a || b || c) ≡ true
some_of_three true b c is = refl
some_of_three false true c is = refl
some_of_three false false c is =
    ⊎_elim (λ e. absurd (both_ways false refl e)) (⊎_elim (λ e. absurd (both_ways false refl e)) (λ e. e)) is

in_range : (low high c : ℕ) → low ≤ c → c ≤ high → is_in_range low high c ≡ true
in_range low high c le ge = and_from (leb low c) (leb c high) (le-leb low c le) (le-leb c high ge)

allowed_from : (c : ℕ) → 32 ≤ c → (c < 55296) ⊎ ((57344 ≤ c) × (c < 1114112)) → c ≢ 65534 → c ≢ 65535 →
    is_xml_char c ≡ true
allowed_from c up is not_one not_other =
    some_of_six (c == tab) (c == lf) (c == cr) (is_in_range 0x20 0xD7FF c) (is_in_range 0xE000 0xFFFD c)
    (is_in_range 0x1_0000 0x10_FFFF c)
    (some_of_three (is_in_range 0x20 0xD7FF c) (is_in_range 0xE000 0xFFFD c) (is_in_range 0x1_0000 0x10_FFFF c)
    (⊎_elim (λ low. inl (in_range 0x20 0xD7FF c up (omega arith)))
    (λ p. inr (⊎_elim (λ low. inl (in_range 0xE000 0xFFFD c p.0 (omega arith)))
    (λ le. inr (in_range 0x1_0000 0x10_FFFF c (omega arith) (omega (arith, p.1)))) (cases_lt c 65534))) is))

-- a control character is refused
low_char : (c : ℕ) → c < 32 → is_xml_char c ≡ not (is_control c)
low_char c low =
    let t = c == tab in
    let l = c == lf in
    let r = c == cr in
    let x : is_in_range 0x20 0xD7FF c ≡ false = ap (λ b. b && leb c 0xD7FF) (lt-leb 0x20 c low) in
    let y : is_in_range 0xE000 0xFFFD c ≡ false = ap (λ b. b && leb c 0xFFFD) (lt-leb 0xE000 c (omega arith)) in
    let z : is_in_range 0x1_0000 0x10_FFFF c ≡ false =
    ap (λ b. b && leb c 0x10_FFFF) (lt-leb 0x1_0000 c (omega arith)) in
    let left : is_control c ≡ not (t || l || r) = ap (λ b. b && not (t || l || r)) (lt-ltb c 32 low) in
    ap (λ b. t || l || r || b || is_in_range 0xE000 0xFFFD c || is_in_range 0x1_0000 0x10_FFFF c) x
    ∙ ap (λ b. t || l || r || false || b || is_in_range 0x1_0000 0x10_FFFF c) y
    ∙ ap (λ b. t || l || r || false || false || b) z ∙ first_three t l r ∙ sym (twice (t || l || r)) ∙ ap not (sym left)
  where
    twice : (b : Bool) → not (not b) ≡ b
    twice true = refl
    twice false = refl

control_refused : (c : ℕ) (rest : List ℕ) → is_control c ≡ true → is_refused (c ∷ rest) ≡ true
control_refused c rest bad =
    some_of_three (is_control c) (begins (0xEF ∷ 0xBF ∷ 0xBE ∷ []) (c ∷ rest))
    (begins (0xEF ∷ 0xBF ∷ 0xBF ∷ []) (c ∷ rest)) (inl bad)

-- what the front of a text with this character first allows
abbrev Steps : ℕ → List ℕ → Type 0
Steps c rest =
    ((is_xml_char c ≡ true) × (allowed_length (encode_utf8 c ++ rest) ≡ length (encode_utf8 c) + allowed_length rest))
    ⊎ ((is_xml_char c ≡ false) × (allowed_length (encode_utf8 c ++ rest) ≡ 0))

one_byte : (c : ℕ) (rest : List ℕ) → c < 128 → Steps c rest
one_byte c rest low =
    let e = encode_one c low in
    let away : c ≢ 0xEF = λ same. omega arith in
    let alone : is_suspect c ≡ is_control c =
    ap (λ t. is_control c || t) (ne_eqb c 0xEF away) ∙ or_none (is_control c) in
    let place : allowed_length (encode_utf8 c ++ rest) ≡ allowed_length (c ∷ rest) =
    ap (λ xs. allowed_length (xs ++ rest)) e in
    let long : length (encode_utf8 c) ≡ 1 = ap length e in
    let passed : is_control c ≡ false →
    allowed_length (encode_utf8 c ++ rest) ≡ length (encode_utf8 c) + allowed_length rest = λ free.
    place ∙ over c rest (not_suspect c rest (alone ∙ free)) ∙ ap (λ n. n + allowed_length rest) (sym long) in
    ⊎_elim
    (λ below. ⊎_elim
    (λ bad. inr (low_char c below ∙ ap not bad, place ∙ under (c ∷ rest) (control_refused c rest bad)))
    (λ free. inl (low_char c below ∙ ap not free, passed free))
    (cases_Bool (is_control c)))
    (λ up. inl (allowed_from c up (inl (omega arith)) (λ same. omega arith) (λ same. omega arith), passed (high c up)))
    (cases_lt c 32)
  where
    or_none : (b : Bool) → (b || false) ≡ b
    or_none true = refl
    or_none false = refl

two_bytes : (c : ℕ) (rest : List ℕ) → 128 ≤ c → c < 2048 → Steps c rest
two_bytes c rest up low =
    let e = encode_two c up low in
    let h = 192 + c / 64 in
    let m = 128 + c % 64 in
    let place : allowed_length (encode_utf8 c ++ rest) ≡ allowed_length (h ∷ m ∷ rest) =
    ap (λ xs. allowed_length (xs ++ rest)) e in
    let long : length (encode_utf8 c) ≡ 2 = ap length e in
    let one = inner h (m ∷ rest) (omega arith) (λ same. omega arith) in
    let two = inner m rest (omega arith) (λ same. omega arith) in
    inl (
      allowed_from c (omega arith) (inl (omega arith)) (λ same. omega arith) (λ same. omega arith),
      place ∙ one ∙ ap (λ n. 1 + n) two ∙ omega (arith, long),
    )

four_bytes : (c : ℕ) (rest : List ℕ) → 65536 ≤ c → c < 1114112 → Steps c rest
four_bytes c rest up low =
    let e = encode_four c up in
    let h = 240 + c / 262144 in
    let i = 128 + c / 4096 % 64 in
    let m = 128 + c / 64 % 64 in
    let l = 128 + c % 64 in
    let place : allowed_length (encode_utf8 c ++ rest) ≡ allowed_length (h ∷ i ∷ m ∷ l ∷ rest) =
    ap (λ xs. allowed_length (xs ++ rest)) e in
    let long : length (encode_utf8 c) ≡ 4 = ap length e in
    let one = inner h (i ∷ m ∷ l ∷ rest) (omega arith) (λ same. omega arith) in
    let two = inner i (m ∷ l ∷ rest) (omega arith) (λ same. omega arith) in
    let three = inner m (l ∷ rest) (omega arith) (λ same. omega arith) in
    let four = inner l rest (omega arith) (λ same. omega arith) in
    inl (
      allowed_from c (omega arith) (inr (omega arith, low)) (λ same. omega arith) (λ same. omega arith),
      place ∙ one ∙ ap (λ n. 1 + n) (two ∙ ap (λ n. 1 + n) (three ∙ ap (λ n. 1 + n) four)) ∙ omega (arith, long),
    )

-- three bytes of which not all are those of U+FFFE or U+FFFF
not_last : (h m l : ℕ) (rest : List ℕ) → 128 ≤ h → (h ≡ 239 → m ≡ 191 → l ≢ 190 × l ≢ 191) →
    is_refused (h ∷ m ∷ l ∷ rest) ≡ false
not_last h m l rest up away =
    let ends : (x : ℕ) → (h ≡ 239 → m ≡ 191 → l ≢ x) →
    begins (0xEF ∷ 0xBF ∷ x ∷ []) (h ∷ m ∷ l ∷ rest) ≡ false = λ x no. false_from_ne_true _
    (λ is.
    let p = and_parts (nat_eq 0xEF h) _ is in
    let q = and_parts (nat_eq 0xBF m) _ p.1 in
    let r = and_parts (nat_eq x l) _ q.1 in
    no (sym (eqb-true 0xEF h p.0)) (sym (eqb-true 0xBF m q.0)) (sym (eqb-true x l r.0))) in
    none_of_three (is_control h) (begins (0xEF ∷ 0xBF ∷ 0xBE ∷ []) (h ∷ m ∷ l ∷ rest))
    (begins (0xEF ∷ 0xBF ∷ 0xBF ∷ []) (h ∷ m ∷ l ∷ rest)) (high h (omega arith))
    (ends 190 (λ a b. (away a b).0)) (ends 191 (λ a b. (away a b).1))

three_bytes : (c : ℕ) (rest : List ℕ) → scalar c ≡ true → 2048 ≤ c → c < 65536 → Steps c rest
unfolding lib.Utf8.encode
three_bytes c rest is up low =
    let e = encode_three c up low in
    let h = 224 + c / 4096 in
    let m = 128 + c / 64 % 64 in
    let l = 128 + c % 64 in
    let place : allowed_length (encode_utf8 c ++ rest) ≡ allowed_length (h ∷ m ∷ l ∷ rest) =
    ap (λ xs. allowed_length (xs ++ rest)) e in
    let long : length (encode_utf8 c) ≡ 3 = ap length e in
    let two = inner m (l ∷ rest) (omega arith) (λ same. omega arith) in
    let three = inner l rest (omega arith) (λ same. omega arith) in
    ⊎_elim
    (λ below.
    let one = over h (m ∷ l ∷ rest) (not_last h m l rest (omega arith)
    (λ a b. ((λ d. omega arith), (λ d. omega arith)))) in
    inl (
      allowed_from c (omega arith) (scalar_cases c is) (λ same. omega arith) (λ same. omega arith),
      place ∙ one ∙ ap (λ n. 1 + n) (two ∙ ap (λ n. 1 + n) three) ∙ omega (arith, long),
    ))
    (λ le. inr (⊎_elim
    (λ lower. let same : c ≡ 65534 = omega arith in last c 65534 same refl refl)
    (λ upper. let same : c ≡ 65535 = omega arith in last c 65535 same refl refl) (cases_lt c 65535)))
    (cases_lt c 65534)
  where
    last : (c d : ℕ) → c ≡ d → is_xml_char d ≡ false → allowed_length (encode_utf8 d ++ rest) ≡ 0 →
        (is_xml_char c ≡ false) × (allowed_length (encode_utf8 c ++ rest) ≡ 0)
    last c d same bad none =
        (ap is_xml_char same ∙ bad, ap (λ x. allowed_length (encode_utf8 x ++ rest)) same ∙ none)

char_step : (c : ℕ) (rest : List ℕ) → scalar c ≡ true → Steps c rest
char_step c rest is =
    ⊎_elim (one_byte c rest)
    (λ up. ⊎_elim (two_bytes c rest up)
    (λ up. ⊎_elim (three_bytes c rest is up)
    (λ up. four_bytes c rest up
    (⊎_elim (λ low. absurd (omega arith)) (λ p. p.1) (scalar_cases c is)))
    (cases_lt c 65536)) (cases_lt c 2048)) (cases_lt c 128)

-- the text of one character that is allowed
one_char : (c : ℕ) → scalar c ≡ true → is_xml_char c ≡ true → IsXmlText (encode_utf8 c)
one_char c is good =
    let spelt : encode_utf8_all (c ∷ []) ≡ encode_utf8 c = append-nil (encode_utf8 c) in
    xml_from (encode_utf8 c) (is_utf8-from_IsUtf8 (encode_utf8 c) (IsUtf8-encode c is))
    (ap (λ xs. list_all is_xml_char (chars xs)) (sym spelt)
    ∙ ap (list_all is_xml_char) (chars-encodes (c ∷ []) (and_from (scalar c) true is refl))
    ∙ and_from (is_xml_char c) true good refl)

-- no text begins with a character that isn't allowed
behind_refused : (c : ℕ) (rest : List ℕ) → is_xml_char c ≡ false → IsBehindXml (encode_utf8 c ++ rest)
behind_refused c rest bad front back more some e xml =
    let p = xml_parts front xml in
    let u = IsUtf8-from_is_utf8 front p.0 in
    by u.0 u.1.0 u.1.1 (subst (λ f. list_all is_xml_char (chars f) ≡ true) (sym u.1.1) p.1)
  where
    by : (ds : List ℕ) → scalars ds ≡ true → encode_utf8_all ds ≡ front →
        list_all is_xml_char (chars (encode_utf8_all ds)) ≡ true → front ≡ []
    by [] s k all = sym k
    by (d ∷ ds) s k all =
        let joined : encode_utf8 c ++ (rest ++ more) ≡ encode_utf8 d ++ (encode_utf8_all ds ++ back) =
        sym (append_assoc (encode_utf8 c) rest more) ∙ e ∙ ap (λ f. f ++ back) (sym k)
        ∙ append_assoc (encode_utf8 d) (encode_utf8_all ds) back in
        let same = (encode_same c d _ _ joined).0 in
        let good = and_parts (is_xml_char d) (list_all is_xml_char ds)
        (ap (list_all is_xml_char) (sym (chars-encodes (d ∷ ds) s)) ∙ all) in
        absurd (both_ways (is_xml_char d) (ap is_xml_char (sym same) ∙ bad) good.0)

-- a text, cut before its first character that isn't allowed
record Cut (bytes : List ℕ) : Type 0 where
  front : List ℕ
  tail : List ℕ
  split : bytes ≡ front ++ tail
  text : IsXmlText front
  behind : IsBehindXml tail
  long : allowed_length bytes ≡ length front

cut : (cs : List ℕ) → scalars cs ≡ true → Cut (encode_utf8_all cs)
cut [] s = record {
  front = [];
  tail = [];
  split = refl;
  text = xml_nil;
  behind = λ front back more some e xml. absurd (some refl);
  long = refl;
}
cut (c ∷ cs) s =
    let p = and_parts (scalar c) (scalars cs) s in
    let next = cut cs p.1 in
    let rest = encode_utf8_all cs in
    ⊎_elim
    (λ good. record {
      front = encode_utf8 c ++ next.front;
      tail = next.tail;
      split = ap (λ xs. encode_utf8 c ++ xs) next.split ∙ sym (append_assoc (encode_utf8 c) next.front next.tail);
      text = xml_append (encode_utf8 c) next.front (one_char c p.0 good.0) next.text;
      behind = next.behind;
      long = good.1 ∙ ap (λ n. length (encode_utf8 c) + n) next.long
          ∙ sym (length-append (encode_utf8 c) next.front);
    })
    (λ bad. record {
      front = [];
      tail = encode_utf8 c ++ rest;
      split = refl;
      text = xml_nil;
      behind = behind_refused c rest bad.0;
      long = bad.1;
    })
    (char_step c rest p.0)

-- the front of the text that has XML characters only
pub allowed_front : (bytes : List ℕ) → IsUtf8 bytes → IsXmlLength bytes (allowed_length bytes)
allowed_front bytes u =
    let c = subst Cut u.1.1 (cut u.0 u.1.0) in
    let sizes = length-append c.front c.tail in
    let all = ap length c.split in
    record {
      within = omega (arith, c.long);
      utf8 = is_utf8-from_IsUtf8 bytes u;
      text = subst IsXmlText (sym (ap (take (allowed_length bytes)) c.split
          ∙ take_at c.front c.tail (allowed_length bytes) (sym c.long))) c.text;
      behind = subst IsBehindXml (sym (ap (drop (allowed_length bytes)) c.split
          ∙ drop_at c.front c.tail (allowed_length bytes) (sym c.long))) c.behind;
    }

-- the search for the first suspect byte

-- the bytes before the first suspect one are passed over
past_clean : (xs : List ℕ) → allowed_length xs ≡ position_or_len is_suspect xs
    + allowed_length (drop (position_or_len is_suspect xs) xs)
past_clean [] = refl
past_clean (b ∷ bs) =
    ⊎_elim
    (λ is.
    let here : position_or_len is_suspect (b ∷ bs) ≡ 0 =
    ap (λ t. cond (not t) (1 + position_or_len is_suspect bs) 0) is in
    none_more (allowed_length (b ∷ bs)) ∙ ap (λ n. n + allowed_length (drop n (b ∷ bs))) (sym here))
    (λ free.
    let later : position_or_len is_suspect (b ∷ bs) ≡ suc (position_or_len is_suspect bs) =
    ap (λ t. cond (not t) (1 + position_or_len is_suspect bs) 0) free ∙ omega arith in
    over b bs (not_suspect b bs free) ∙ ap (λ n. 1 + n) (past_clean bs)
    ∙ more (position_or_len is_suspect bs) (allowed_length (drop (position_or_len is_suspect bs) bs))
    ∙ ap (λ n. n + allowed_length (drop n (b ∷ bs))) (sym later))
    (cases_Bool (is_suspect b))
  where
    more : (n m : ℕ) → 1 + (n + m) ≡ suc n + m
    more n m = omega arith

    none_more : (m : ℕ) → m ≡ 0 + m
    none_more m = omega arith

short : (xs : List ℕ) → position_or_len is_suspect xs ≤ length xs
short [] = omega arith
short (b ∷ bs) =
    let here : (t : Bool) → cond (not t) (1 + position_or_len is_suspect bs) 0 ≤ length (b ∷ bs) = λ t.
    elim t as (λ t. cond (not t) (1 + position_or_len is_suspect bs) 0 ≤ length (b ∷ bs))
    [ true ↦ omega arith | false ↦ omega (arith, short bs) ] in
    here (is_suspect b)

place_of : (xs : List ℕ) (t : Bool) → nat_lt (position_or_len is_suspect xs) (length xs) ≡ t → (r : Option ℕ) →
    r ≡ cond t (Some (position_or_len is_suspect xs)) None →
    MatchOption r (length xs ≤ position_or_len is_suspect xs)
    (λ at. (at ≡ position_or_len is_suspect xs) × (at < length xs))
place_of xs true e None is = absurd (let g : None ≡ Some (position_or_len is_suspect xs) = is in cc)
place_of xs true e (Some at) is =
    let same : at ≡ position_or_len is_suspect xs = same_Some _ _ is in
    (same, omega (arith, ltb-true (position_or_len is_suspect xs) (length xs) e))
place_of xs false e None is = ltb-false (position_or_len is_suspect xs) (length xs) e
place_of xs false e (Some at) is = absurd (let g : Some at ≡ None = is in cc)

-- the first suspect byte
pub found : (xs : List ℕ) (at : ℕ) → Some at ≡ position is_suspect xs →
    (at < length xs) × (allowed_length xs ≡ at + allowed_length (drop at xs))
found xs at e =
    let p = place_of xs (nat_lt (position_or_len is_suspect xs) (length xs)) refl (Some at) e in
    (p.1, past_clean xs ∙ ap (λ n. n + allowed_length (drop n xs)) (sym p.0))

-- a text without one
pub none : (xs : List ℕ) → None ≡ position is_suspect xs → allowed_length xs ≡ length xs
none xs e =
    let past = place_of xs (nat_lt (position_or_len is_suspect xs) (length xs)) refl None e in
    let within = short xs in
    let same : position_or_len is_suspect xs ≡ length xs = omega arith in
    let empty : drop (length xs) xs ≡ [] = nil_from_length (drop (length xs) xs)
    (omega (arith, length-drop (length xs) xs)) in
    past_clean xs ∙ ap (λ n. n + allowed_length (drop n xs)) same ∙ ap (λ ys. length xs + allowed_length ys) empty
    ∙ omega arith

-- a suspect byte with which no character begins that isn't allowed
pub passed : (xs : List ℕ) (at : ℕ) → at < length xs → is_refused (drop at xs) ≡ false →
    allowed_length (drop at xs) ≡ 1 + allowed_length (drop (at + 1) xs)
passed xs at within free =
    let split = drop_more xs at 0 within in
    ap allowed_length split ∙ over (get_or xs at 0) (drop (at + 1) xs) (ap is_refused (sym split) ∙ free)
