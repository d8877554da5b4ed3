-- A declaration is XML text.
use Rattle.std.proofs.Common.{◌≡◌, ◌≤◌, ℕ, List, [], ◌∷◌, ◌++◌, Bool, true, false, ◌||◌, ◌==◌, Option, Some, None}
use Rattle.std.proofs.Common.{codes, refl, sym, subst, ◌∙◌}
use Rattle.std.proofs.Common.{⊎_elim, arith, nat_lt, nat_le, leb-true, eqb-true}
use Rattle.std.specs.List.{list_all}
use Rattle.std.specs.Int.{is_in_range}
use Rattle.std.specs.Char.{is_ascii_alphabetic, is_ascii_alphanumeric}
use Rattle.std.proofs.lemmas.Bool.{and_from, and_parts, or_cases, both_ways, le-leb, lt-ltb}
use Rattle.std.proofs.lemmas.List.Folds.{list_all-append}
use Rattle.atom_values.specs.Ascii.{tab, lf, cr}
use Rattle.atom_values.specs.XmlText.{IsXmlText, is_xml_char}
use Rattle.atom_values.specs.Space.{is_space}
use Rattle.xml_tokens.specs.Characters.{AreSpaces}
use Rattle.xml_tokens.specs.Tokens.{IsDeclaration, IsOptionalEncoding, IsOptionalSetting, IsQuote, IsSetting}
use Rattle.xml_tokens.specs.Tokens.{IsStandalone, is_encoding_name}
use Rattle.xml_tokens.proofs.SuffixLemmas.{ascii_char, xml_ascii}

fourth : (a b c d e f : Bool) → d ≡ true → (a || b || c || d || e || f) ≡ true
fourth true b c d e f is = refl
fourth false true c d e f is = refl
fourth false false true d e f is = refl
fourth false false false true e f is = refl
fourth false false false false e f is = absurd (both_ways false refl is)

-- a byte from space to `~`
graphic : (b lo hi : ℕ) → is_in_range lo hi b ≡ true → 32 ≤ lo → hi ≤ 126 → ascii_char b ≡ true
graphic b lo hi is low high =
    let p = and_parts (nat_le lo b) (nat_le b hi) is in
    let above = leb-true lo b p.0 in
    let below = leb-true b hi p.1 in
    and_from (nat_lt b 128) (is_xml_char b) (lt-ltb b 128 (omega arith))
    (fourth (b == tab) (b == lf) (b == cr) (is_in_range 0x20 0xD7FF b) (is_in_range 0xE000 0xFFFD b)
    (is_in_range 0x1_0000 0x10_FFFF b)
    (and_from (nat_le 0x20 b) (nat_le b 0xD7FF) (le-leb 0x20 b (omega arith)) (le-leb b 0xD7FF (omega arith))))

one_byte : (b k : ℕ) → (b == k) ≡ true → ascii_char k ≡ true → ascii_char b ≡ true
one_byte b k is ok = let C : ℕ → Type 0 = λ n. ascii_char n ≡ true in subst C (sym (eqb-true b k is)) ok

space_char : (b : ℕ) → is_space b ≡ true → ascii_char b ≡ true
space_char b is =
    ⊎_elim
    (λ a. ⊎_elim
    (λ d. ⊎_elim
    (λ t. one_byte b 9 t refl)
    (λ l. one_byte b 10 l refl)
    (or_cases (b == 9) (b == 10) d))
    (λ r. one_byte b 13 r refl)
    (or_cases ((b == 9) || (b == 10)) (b == 13) a))
    (λ s. one_byte b 32 s refl)
    (or_cases ((b == 9) || (b == 10) || (b == 13)) (b == 32) is)

letter_char : (b : ℕ) → is_ascii_alphabetic b ≡ true → ascii_char b ≡ true
letter_char b is =
    ⊎_elim
    (λ u. graphic b 65 90 u (omega arith) (omega arith))
    (λ l. graphic b 97 122 l (omega arith) (omega arith))
    (or_cases (is_in_range 65 90 b) (is_in_range 97 122 b) is)

later_char : (b : ℕ) → (is_ascii_alphanumeric b || (b == 46) || (b == 95) || (b == 45)) ≡ true → ascii_char b ≡ true
later_char b is =
    ⊎_elim
    (λ a. ⊎_elim
    (λ d. ⊎_elim
    (λ n. ⊎_elim
    (λ k. ⊎_elim
    (λ digit. graphic b 48 57 digit (omega arith) (omega arith))
    (λ upper. graphic b 65 90 upper (omega arith) (omega arith))
    (or_cases (is_in_range 48 57 b) (is_in_range 65 90 b) k))
    (λ lower. graphic b 97 122 lower (omega arith) (omega arith))
    (or_cases (is_in_range 48 57 b || is_in_range 65 90 b) (is_in_range 97 122 b) n))
    (λ p. one_byte b 46 p refl)
    (or_cases (is_ascii_alphanumeric b) (b == 46) d))
    (λ u. one_byte b 95 u refl)
    (or_cases (is_ascii_alphanumeric b || (b == 46)) (b == 95) a))
    (λ m. one_byte b 45 m refl)
    (or_cases (is_ascii_alphanumeric b || (b == 46) || (b == 95)) (b == 45) is)

each_char : (p : ℕ → Bool) → ((b : ℕ) → p b ≡ true → ascii_char b ≡ true) → (bs : List ℕ) → list_all p bs ≡ true →
    list_all ascii_char bs ≡ true
each_char p one [] all = refl
each_char p one (b ∷ bs) all =
    let k = and_parts (p b) (list_all p bs) all in
    and_from (ascii_char b) (list_all ascii_char bs) (one b k.0) (each_char p one bs k.1)

spaces_ascii : (bs : List ℕ) → AreSpaces bs → list_all ascii_char bs ≡ true
spaces_ascii = each_char is_space space_char

ascii_joined : (a b : List ℕ) → list_all ascii_char a ≡ true → list_all ascii_char b ≡ true →
    list_all ascii_char (a ++ b) ≡ true
ascii_joined a b x y =
    list_all-append ascii_char a b ∙ and_from (list_all ascii_char a) (list_all ascii_char b) x y

quote_ascii : (q : ℕ) → IsQuote q → ascii_char q ≡ true
quote_ascii q is =
    let C : ℕ → Type 0 = λ n. ascii_char n ≡ true in
    ⊎_elim (λ d. subst C (sym d) refl) (λ s. subst C (sym s) refl) is

setting_ascii : (q : ℕ) (name value text : List ℕ) → list_all ascii_char name ≡ true →
    list_all ascii_char value ≡ true → IsSetting q name value text → list_all ascii_char text ≡ true
setting_ascii q name value text is_name is_value s =
    let quote = quote_ascii q s.is_quote in
    let L : List ℕ → Type 0 = λ t. list_all ascii_char t ≡ true in
    let one = ascii_joined s.gap name (spaces_ascii s.gap s.is_gap.0) is_name in
    let two = ascii_joined (s.gap ++ name) s.before one (spaces_ascii s.before s.is_before) in
    let three = ascii_joined (s.gap ++ name ++ s.before) (codes "=") two refl in
    let four = ascii_joined (s.gap ++ name ++ s.before ++ codes "=") s.behind three
    (spaces_ascii s.behind s.is_behind) in
    let five = ascii_joined (s.gap ++ name ++ s.before ++ codes "=" ++ s.behind) (q ∷ value) four
    (and_from (ascii_char q) (list_all ascii_char value) quote is_value) in
    let six = ascii_joined (s.gap ++ name ++ s.before ++ codes "=" ++ s.behind ++ q ∷ value) (q ∷ []) five
    (and_from (ascii_char q) true quote refl) in
    subst L (sym s.spelled) six

optional_ascii : (name : List ℕ) (value : Option (List ℕ)) (text : List ℕ) → list_all ascii_char name ≡ true →
    ((v : List ℕ) → value ≡ Some v → list_all ascii_char v ≡ true) → IsOptionalSetting name value text →
    list_all ascii_char text ≡ true
optional_ascii name None text is_name is_value none =
    let L : List ℕ → Type 0 = λ t. list_all ascii_char t ≡ true in subst L (sym none) refl
optional_ascii name (Some v) text is_name is_value s = setting_ascii s.0 name v text is_name (is_value v refl) s.1

name_ascii : (name : List ℕ) → is_encoding_name name ≡ true → list_all ascii_char name ≡ true
name_ascii [] is = refl
name_ascii (b ∷ bs) is =
    let rest = list_all (λ c. is_ascii_alphanumeric c || (c == 46) || (c == 95) || (c == 45)) bs in
    let p = and_parts (is_ascii_alphabetic b) rest is in
    and_from (ascii_char b) (list_all ascii_char bs) (letter_char b p.0)
    (each_char (λ c. is_ascii_alphanumeric c || (c == 46) || (c == 95) || (c == 45)) later_char bs p.1)

encoding_ascii : (encoding : Option (List ℕ)) → IsOptionalEncoding encoding → (v : List ℕ) → encoding ≡ Some v →
    list_all ascii_char v ≡ true
encoding_ascii None is v e = let bad : None ≡ Some v = e in absurd cc
encoding_ascii (Some name) is v e =
    let same : name ≡ v = cc in
    let L : List ℕ → Type 0 = λ t. list_all ascii_char t ≡ true in subst L same (name_ascii name is)

standalone_ascii : (standalone : Option (List ℕ)) → IsStandalone standalone → (v : List ℕ) → standalone ≡ Some v →
    list_all ascii_char v ≡ true
standalone_ascii None is v e = let bad : None ≡ Some v = e in absurd cc
standalone_ascii (Some value) is v e =
    let same : value ≡ v = cc in
    let L : List ℕ → Type 0 = λ t. list_all ascii_char t ≡ true in
    ⊎_elim (λ y. subst L (sym y ∙ same) refl) (λ n. subst L (sym n ∙ same) refl) is

version_ascii : (v : List ℕ) → Some (codes "1.0") ≡ Some v → list_all ascii_char v ≡ true
version_ascii v e =
    let same : codes "1.0" ≡ v = cc in
    let L : List ℕ → Type 0 = λ t. list_all ascii_char t ≡ true in subst L same refl

some_end : (front : List ℕ) → front ++ codes "?>" ≡ [] → ⊥
some_end [] e = cc
some_end (b ∷ bs) e = let bad : b ∷ (bs ++ codes "?>") ≡ [] = e in cc

pub declared_xml : (encoding : Option (List ℕ)) (text : List ℕ) → IsDeclaration encoding text → IsXmlText text
declared_xml encoding text is =
    let L : List ℕ → Type 0 = λ t. list_all ascii_char t ≡ true in
    let one = ascii_joined (codes "<?xml") is.version refl
    (optional_ascii (codes "version") (Some (codes "1.0")) is.version refl version_ascii is.is_version) in
    let two = ascii_joined (codes "<?xml" ++ is.version) is.encoded one
    (optional_ascii (codes "encoding") encoding is.encoded refl (encoding_ascii encoding is.is_encoding)
    is.is_encoded) in
    let three = ascii_joined (codes "<?xml" ++ is.version ++ is.encoded) is.alone two
    (optional_ascii (codes "standalone") is.standalone is.alone refl (standalone_ascii is.standalone is.is_standalone)
    is.is_alone) in
    let four = ascii_joined (codes "<?xml" ++ is.version ++ is.encoded ++ is.alone) is.spaces three
    (spaces_ascii is.spaces is.are_spaces) in
    let five = ascii_joined (codes "<?xml" ++ is.version ++ is.encoded ++ is.alone ++ is.spaces)
    (codes "?>") four refl in
    xml_ascii text (subst L (sym is.spelled) five) (λ none. let bad = sym is.spelled ∙ none in
    some_end (codes "<?xml" ++ is.version ++ is.encoded ++ is.alone ++ is.spaces) bad)
