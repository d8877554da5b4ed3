-- A reference, part by part.
use Rattle.std.proofs.Common.{◌≡◌, ◌⊎◌, ℕ, ◌<◌, true, false, List, [], ◌∷◌, ◌++◌, length, drop, IsTrue, refl}
use Rattle.std.proofs.Common.{sym, ap, subst}
use Rattle.std.proofs.Common.{append_assoc, cond, eqb, get_or, ◌∙◌, ⊎_elim, inl, inr, arith, codes}
use Rattle.std.specs.Prelude.{Result, Err}
use Rattle.std.specs.Char.{digit_value}
use Rattle.std.specs.Str.Parse.{AllDigits, digits_value}
use Rattle.std.proofs.lemmas.Bool.{both_ways, false_from_ne_true}
use Rattle.atom_values.specs.XmlText.{is_xml_char}
use Rattle.xml_tokens.specs.declared.cursor.Lapse.{Lapse}
use Rattle.xml_tokens.specs.Characters.{begins, IsNamed, IsReference}
use Rattle.xml_tokens.specs.Reading.{IsFound, Continues, Reads, exactly, named_behind, numbered_behind}
use Rattle.xml_tokens.proofs.BeginLemmas.{begins_split, begins_from}
use Rattle.xml_tokens.proofs.PartLemmas.{IsPart, Joins, apart, chosen_reads, apart_reads, same_reads, then_reads}
use Rattle.xml_tokens.proofs.PartLemmas.{found_reads}
use Rattle.xml_tokens.specs.Reading.{seq}
use Rattle.xml_tokens.proofs.PartLemmas.{joins_fails, choice_part, same_part, seq_part}
use Rattle.xml_tokens.proofs.CursorLemmas.{exactly_part}
use Rattle.xml_tokens.proofs.ReferenceLemmas.{named_cases, first_same}
use Rattle.xml_tokens.proofs.NumberLemmas.{IsBase, no_digit}

abbrev pub a_reference : ℕ → List ℕ → List ℕ → Type 0
a_reference c text rest = IsReference c text

-- after `&#`
abbrev pub behind_hash : ℕ → List ℕ → List ℕ → Type 0
behind_hash c text rest =
    numbered_behind 10 c text rest ⊎ ((digits : List ℕ) × (text ≡ 120 ∷ digits) × numbered_behind 16 c digits rest)

-- after `&`
abbrev pub behind_and : ℕ → List ℕ → List ℕ → Type 0
behind_and c text rest =
    named_behind c text rest ⊎ ((number : List ℕ) × (text ≡ 35 ∷ number) × behind_hash c number rest)

one_decimal : numbered_behind 10 9 (codes "9;") []
one_decimal = (57 ∷ [], (omega arith, (omega arith, tt)), refl, refl, refl)

one_hex : numbered_behind 16 9 (codes "9;") []
one_hex = (57 ∷ [], (omega arith, (omega arith, tt)), refl, refl, refl)

byte_joins : {A : Type 0} (b : ℕ) (R : A → List ℕ → List ℕ → Type 0) (v : A) (t : List ℕ) → R v t [] →
    Joins (exactly (b ∷ [])) (λ _. R)
byte_joins b R v t is = record {
  part = exactly_part (b ∷ []);
  lives = (tt, b ∷ [], refl);
  follows = λ _ s w u rest same r. same;
  goes = λ _ s same. (v, t, is);
}

and_joins : Joins (exactly (codes "&")) (λ _. behind_and)
and_joins = byte_joins 38 behind_and 38 (codes "amp;") (inl (inl (refl, refl)))

hash_joins : Joins (exactly (codes "#")) (λ _. behind_hash)
hash_joins = byte_joins 35 behind_hash 9 (codes "9;") (inl one_decimal)

hex_joins : Joins (exactly (codes "x")) (λ _. numbered_behind 16)
hex_joins = byte_joins 120 (numbered_behind 16) 9 (codes "9;") one_hex

named_xml : (c : ℕ) (t : List ℕ) → IsNamed c (38 ∷ t) → IsTrue (is_xml_char c)
named_xml c t is =
    let X : ℕ → Type 0 = λ k. IsTrue (is_xml_char k) in
    named_cases (IsTrue (is_xml_char c)) c t is (λ e _. subst X (sym e) refl) (λ e _. subst X (sym e) refl)
    (λ e _. subst X (sym e) refl) (λ e _. subst X (sym e) refl) (λ e _. subst X (sym e) refl)

to_reference : (c : ℕ) (s rest : List ℕ) → seq (exactly (codes "&")) (λ _. behind_and) c s rest → a_reference c s rest
to_reference c s rest r =
    let whole : s ≡ 38 ∷ r.2 = r.3 ∙ ap (λ xs. xs ++ r.2) r.4 in
    let N : List ℕ → Type 0 = λ xs. IsNamed c xs in
    ⊎_elim
    (λ named. (named_xml c r.2 named, inl (subst N (sym whole) named)))
    (λ hash. ⊎_elim
    (λ ten. (
      ten.3,
      inr (inl (record {
        digits = ten.0;
        numeral = ten.1;
        value = ten.2;
        spelled = whole ∙ ap (λ xs. 38 ∷ xs) (hash.1 ∙ ap (λ xs. 35 ∷ xs) ten.4);
      })),
    ))
    (λ hex. (
      hex.2.3,
      inr (inr (record {
        digits = hex.2.0;
        numeral = hex.2.1;
        value = hex.2.2;
        spelled = whole ∙ ap (λ xs. 38 ∷ xs) (hash.1 ∙ ap (λ xs. 35 ∷ xs) (hex.1 ∙ ap (λ xs. 120 ∷ xs) hex.2.4));
      })),
    ))
    hash.2)
    r.5

pub from_reference : (c : ℕ) (s rest : List ℕ) → a_reference c s rest →
    seq (exactly (codes "&")) (λ _. behind_and) c s rest
from_reference c s rest is =
    ⊎_elim
    (λ named.
    let behind : (t : List ℕ) → IsNamed c (38 ∷ t) → s ≡ 38 ∷ t → seq (exactly (codes "&")) (λ _. behind_and) c s rest =
    λ t n e. (tt, codes "&", t, e, refl, inl n) in
    let N : List ℕ → Type 0 = λ xs. IsNamed c xs in
    let front : s ≡ 38 ∷ drop 1 s = ⊎_elim (λ a. a.1 ∙ ap (λ xs. 38 ∷ drop 1 xs) (sym a.1))
    (λ is2. ⊎_elim (λ a. a.1 ∙ ap (λ xs. 38 ∷ drop 1 xs) (sym a.1))
    (λ is3. ⊎_elim (λ a. a.1 ∙ ap (λ xs. 38 ∷ drop 1 xs) (sym a.1))
    (λ is4. ⊎_elim (λ a. a.1 ∙ ap (λ xs. 38 ∷ drop 1 xs) (sym a.1))
    (λ a. a.1 ∙ ap (λ xs. 38 ∷ drop 1 xs) (sym a.1)) is4) is3) is2) named in
    behind (drop 1 s) (subst N front named) front)
    (λ numbered. ⊎_elim
    (λ ten. (
      tt,
      codes "&",
      35 ∷ (ten.digits ++ codes ";"),
      ten.spelled,
      refl,
      inr (ten.digits ++ codes ";", refl, inl (ten.digits, ten.numeral, ten.value, is.0, refl)),
    ))
    (λ hex. (
      tt,
      codes "&",
      35 ∷ 120 ∷ (hex.digits ++ codes ";"),
      hex.spelled,
      refl,
      inr (
        120 ∷ (hex.digits ++ codes ";"),
        refl,
        inr (hex.digits ++ codes ";", refl, (hex.digits, hex.numeral, hex.value, is.0, refl)),
      ),
    ))
    numbered)
    is.1

pub and_fails : (text : List ℕ) (e : Lapse) (end : List ℕ) → Reads (exactly (codes "&")) text (Err e) end →
    Reads a_reference text (Err e) end
and_fails text e end none =
    same_reads a_reference (seq (exactly (codes "&")) (λ _. behind_and)) to_reference from_reference text (Err e) end
    (joins_fails and_joins text e end end none)

pub and_reads : (text after : List ℕ) → IsFound (exactly (codes "&")) text tt after → (r : Result ℕ Lapse)
    (end : List ℕ) → Reads behind_and after r end → Reads a_reference text r end
and_reads text after found r end read =
    same_reads a_reference (seq (exactly (codes "&")) (λ _. behind_and)) to_reference from_reference text r end
    (then_reads and_joins text tt after found r end read)

-- where a number follows
pub hash_reads : (text after : List ℕ) → IsFound (exactly (codes "#")) text tt after → (r : Result ℕ Lapse)
    (end : List ℕ) → Reads behind_hash after r end → Reads behind_and text r end
hash_reads text after found r end read =
    let is : text ≡ 35 ∷ after = found.split ∙ ap (λ xs. xs ++ after) found.spelled in
    chosen_reads behind_and (seq (exactly (codes "#")) (λ _. behind_hash)) text
    (λ c s rest p. inr (p.2, p.3 ∙ ap (λ xs. xs ++ p.2) p.4, p.5))
    (λ c more s rest e p. ⊎_elim
    (λ named. named_cases (seq (exactly (codes "#")) (λ _. behind_hash) c s rest) c s named
    (λ _ t. absurd (omega (arith, first_same 35 text after more s rest is e 97 (codes "mp;") t)))
    (λ _ t. absurd (omega (arith, first_same 35 text after more s rest is e 108 (codes "t;") t)))
    (λ _ t. absurd (omega (arith, first_same 35 text after more s rest is e 103 (codes "t;") t)))
    (λ _ t. absurd (omega (arith, first_same 35 text after more s rest is e 113 (codes "uot;") t)))
    (λ _ t. absurd (omega (arith, first_same 35 text after more s rest is e 97 (codes "pos;") t))))
    (λ hash. (tt, codes "#", hash.0, hash.1, refl, hash.2))
    p)
    r end (then_reads hash_joins text tt after found r end read)

digits_first : (digits tail rest : List ℕ) (b : ℕ) → 0 < length digits → AllDigits 10 digits →
    b ∷ tail ≡ digits ++ rest → digit_value b < 10
digits_first [] tail rest b some all e = absurd (omega arith)
digits_first (d ∷ ds) tail rest b some all e =
    let heads : d ≡ b = cc in
    let D : ℕ → Type 0 = λ x. digit_value x < 10 in
    subst D heads all.0

pub hex_reads : (text after : List ℕ) → IsFound (exactly (codes "x")) text tt after → (r : Result ℕ Lapse)
    (end : List ℕ) → Reads (numbered_behind 16) after r end → Reads behind_hash text r end
hex_reads text after found r end read =
    let is : text ≡ 120 ∷ after = found.split ∙ ap (λ xs. xs ++ after) found.spelled in
    chosen_reads behind_hash (seq (exactly (codes "x")) (λ _. numbered_behind 16)) text
    (λ c s rest p. inr (p.2, p.3 ∙ ap (λ xs. xs ++ p.2) p.4, p.5))
    (λ c more s rest e p. ⊎_elim
    (λ ten.
    let same : 120 ∷ (after ++ more) ≡ ten.0 ++ (codes ";" ++ rest) =
    ap (λ xs. xs ++ more) (sym is) ∙ e ∙ ap (λ xs. xs ++ rest) ten.4 ∙ append_assoc ten.0 (codes ";") rest in
    let small : 33 < 10 = digits_first ten.0 (after ++ more) (codes ";" ++ rest) 120 ten.1.0 ten.1.1 same in
    absurd (omega arith))
    (λ hex. (tt, codes "x", hex.0, hex.1, refl, hex.2))
    p)
    r end (then_reads hex_joins text tt after found r end read)

-- only the empty text is shorter than one byte
pub one_left : (b : ℕ) (text m : List ℕ) → begins (b ∷ []) text ≡ false → b ∷ [] ≡ text ++ m → text ≡ []
one_left b [] m none e = refl
one_left b (a ∷ text) m none e =
    let heads : a ≡ b = cc in
    absurd (both_ways (begins (b ∷ []) (a ∷ text)) none
    (begins_from (b ∷ []) (a ∷ text) text (ap (λ x. x ∷ text) heads)))

ten_apart : (c : ℕ) (s rest : List ℕ) → numbered_behind 10 c s rest → apart (codes "x") behind_hash c s rest
ten_apart c s rest ten = (
  inl ten,
  false_from_ne_true (begins (codes "x") s) (λ begun.
      let same : 120 ∷ drop 1 s ≡ ten.0 ++ codes ";" = sym (begins_split (codes "x") s begun) ∙ ten.4 in
      let small : 33 < 10 = digits_first ten.0 (drop 1 s) (codes ";") 120 ten.1.0 ten.1.1 same in
      omega arith),
)

apart_ten : (c : ℕ) (s rest : List ℕ) → apart (codes "x") behind_hash c s rest → numbered_behind 10 c s rest
apart_ten c s rest p =
    ⊎_elim (λ ten. ten)
    (λ hex. absurd (both_ways (begins (codes "x") s) p.1 (begins_from (codes "x") s hex.0 hex.1))) p.0

pub ten_reads : (text : List ℕ) → begins (codes "x") text ≡ false → (r : Result ℕ Lapse) (end : List ℕ) →
    Reads (numbered_behind 10) text r end → Reads behind_hash text r end
ten_reads text none r end read =
    let C : List ℕ → Type 0 = Continues (apart (codes "x") behind_hash) in
    let lives : C [] = (
      codes "9;",
      (
        9,
        [],
        record {
          front = codes "9;";
          split = refl;
          spelled = ten_apart 9 (codes "9;") [] one_decimal;
        },
      ),
    ) in
    apart_reads behind_hash (codes "x") text none (λ m e. subst C (sym (one_left 120 text m none e)) lives) r end
    (same_reads (apart (codes "x") behind_hash) (numbered_behind 10) ten_apart apart_ten text r end read)

named_apart : (c : ℕ) (s rest : List ℕ) → named_behind c s rest → apart (codes "#") behind_and c s rest
named_apart c s rest named =
    let B : List ℕ → Type 0 = λ xs. begins (codes "#") xs ≡ false in (
      inl named,
      named_cases (B s) c s named (λ _ t. subst B (sym t) refl) (λ _ t. subst B (sym t) refl)
          (λ _ t. subst B (sym t) refl) (λ _ t. subst B (sym t) refl) (λ _ t. subst B (sym t) refl),
    )

apart_named : (c : ℕ) (s rest : List ℕ) → apart (codes "#") behind_and c s rest → named_behind c s rest
apart_named c s rest p =
    ⊎_elim (λ named. named)
    (λ hash. absurd (both_ways (begins (codes "#") s) p.1 (begins_from (codes "#") s hash.0 hash.1))) p.0

pub named_reads : (text : List ℕ) → begins (codes "#") text ≡ false → (r : Result ℕ Lapse) (end : List ℕ) →
    Reads named_behind text r end → Reads behind_and text r end
named_reads text none r end read =
    let C : List ℕ → Type 0 = Continues (apart (codes "#") behind_and) in
    let lives : C [] = (
      codes "amp;",
      (
        38,
        [],
        record {
          front = codes "amp;";
          split = refl;
          spelled = named_apart 38 (codes "amp;") [] (inl (refl, refl));
        },
      ),
    ) in
    apart_reads behind_and (codes "#") text none (λ m e. subst C (sym (one_left 35 text m none e)) lives) r end
    (same_reads (apart (codes "#") behind_and) named_behind named_apart apart_named text r end read)

-- the byte is read if the text begins with it
pub byte_fails : {B : Type 0} (S : B → List ℕ → List ℕ → Type 0) (b : ℕ) (text before : List ℕ) →
    begins (b ∷ []) text ≡ true → (e : Lapse) (end : List ℕ) → Reads (exactly (b ∷ [])) text (Err e) end →
    Reads S before (Err e) end
byte_fails S b text before begun e end none =
    found_reads S text tt (drop 1 text) (record {
      front = b ∷ [];
      split = begins_split (b ∷ []) text begun;
      spelled = refl;
    }) e end before end none

-- the character of a name, told by the letters in which the names differ
char_of : List ℕ → ℕ
char_of xs =
    cond (eqb (get_or xs 0 0) 108) 60 (cond (eqb (get_or xs 0 0) 103) 62
    (cond (eqb (get_or xs 0 0) 113) 34 (cond (eqb (get_or xs 1 0) 109) 38 39)))

text_of : ℕ → List ℕ
text_of c =
    cond (eqb c 60) (codes "lt;") (cond (eqb c 62) (codes "gt;") (cond (eqb c 34) (codes "quot;")
    (cond (eqb c 38) (codes "amp;") (codes "apos;"))))

named_char : (c : ℕ) (t x : List ℕ) → IsNamed c (38 ∷ t) → char_of (t ++ x) ≡ c
unfolding char_of
named_char c t x is =
    named_cases (char_of (t ++ x) ≡ c) c t is
    (λ a e. ap (λ xs. char_of (xs ++ x)) e ∙ sym a) (λ a e. ap (λ xs. char_of (xs ++ x)) e ∙ sym a)
    (λ a e. ap (λ xs. char_of (xs ++ x)) e ∙ sym a) (λ a e. ap (λ xs. char_of (xs ++ x)) e ∙ sym a)
    (λ a e. ap (λ xs. char_of (xs ++ x)) e ∙ sym a)

named_text : (c : ℕ) (t : List ℕ) → IsNamed c (38 ∷ t) → t ≡ text_of c
unfolding text_of
named_text c t is =
    named_cases (t ≡ text_of c) c t is (λ a e. e ∙ sym (ap text_of a)) (λ a e. e ∙ sym (ap text_of a))
    (λ a e. e ∙ sym (ap text_of a)) (λ a e. e ∙ sym (ap text_of a)) (λ a e. e ∙ sym (ap text_of a))

named_part : IsPart named_behind
named_part = record {
  unique = λ a b s x t y is_s is_t e.
      let one : a ≡ b = sym (named_char a s x is_s) ∙ ap char_of e ∙ named_char b t y is_t in
      (one, named_text a s is_s ∙ ap text_of one ∙ sym (named_text b t is_t));
  grows = λ a s x more some is. is;
  shrinks = λ a s x more is. is;
}

digits_one : (base : ℕ) → IsBase base → (ds es x y : List ℕ) → AllDigits base ds → AllDigits base es →
    ds ++ (59 ∷ x) ≡ es ++ (59 ∷ y) → ds ≡ es
digits_one base is [] [] x y all_ds all_es e = refl
digits_one base is [] (d ∷ es) x y all_ds all_es e =
    let heads : 59 ≡ d = cc in
    let D : ℕ → Type 0 = λ k. digit_value k < base in
    absurd (no_digit base is (subst D (sym heads) all_es.0))
digits_one base is (d ∷ ds) [] x y all_ds all_es e =
    let heads : d ≡ 59 = cc in
    let D : ℕ → Type 0 = λ k. digit_value k < base in
    absurd (no_digit base is (subst D heads all_ds.0))
digits_one base is (d ∷ ds) (k ∷ es) x y all_ds all_es e =
    let heads : d ≡ k = cc in
    let tails : ds ++ (59 ∷ x) ≡ es ++ (59 ∷ y) = cc in
    let more = digits_one base is ds es x y all_ds.1 all_es.1 tails in
    λ i. heads i ∷ more i

numbered_part : (base : ℕ) → IsBase base → IsPart (numbered_behind base)
numbered_part base is = record {
  unique = λ a b s x t y is_s is_t e.
      let one = digits_one base is is_s.0 is_t.0 x y is_s.1.1 is_t.1.1
      (sym (append_assoc is_s.0 (codes ";") x) ∙ ap (λ xs. xs ++ x) (sym is_s.4) ∙ e ∙ ap (λ xs. xs ++ y) is_t.4
      ∙ append_assoc is_t.0 (codes ";") y) in
      (is_s.2 ∙ ap (digits_value base) one ∙ sym is_t.2, is_s.4 ∙ ap (λ xs. xs ++ codes ";") one ∙ sym is_t.4);
  grows = λ a s x more some i. i;
  shrinks = λ a s x more i. i;
}

abbrev hex_behind : ℕ → List ℕ → List ℕ → Type 0
hex_behind c text rest = (digits : List ℕ) × (text ≡ 120 ∷ digits) × numbered_behind 16 c digits rest

hex_part : IsPart hex_behind
hex_part = record {
  unique = λ a b s x t y is_s is_t e.
      let same : 120 ∷ (is_s.0 ++ x) ≡ 120 ∷ (is_t.0 ++ y) =
      ap (λ xs. xs ++ x) (sym is_s.1) ∙ e ∙ ap (λ xs. xs ++ y) is_t.1 in
      let tails : is_s.0 ++ x ≡ is_t.0 ++ y = cc in
      let one = (numbered_part 16 (inr refl)).unique a b is_s.0 x is_t.0 y is_s.2 is_t.2 tails in
      (one.0, is_s.1 ∙ ap (λ xs. 120 ∷ xs) one.1 ∙ sym is_t.1);
  grows = λ a s x more some i. i;
  shrinks = λ a s x more i. i;
}

hash_part : IsPart behind_hash
hash_part = choice_part (numbered_behind 10) hex_behind (numbered_part 10 (inl refl)) hex_part
    (λ a b s x t y ten hex e.
    let same : 120 ∷ (hex.0 ++ y) ≡ ten.0 ++ (codes ";" ++ x) =
    ap (λ xs. xs ++ y) (sym hex.1) ∙ sym e ∙ ap (λ xs. xs ++ x) ten.4 ∙ append_assoc ten.0 (codes ";") x in
    let small : 33 < 10 = digits_first ten.0 (hex.0 ++ y) (codes ";" ++ x) 120 ten.1.0 ten.1.1 same in
    omega arith)

abbrev number_behind : ℕ → List ℕ → List ℕ → Type 0
number_behind c text rest = (number : List ℕ) × (text ≡ 35 ∷ number) × behind_hash c number rest

number_part : IsPart number_behind
number_part = record {
  unique = λ a b s x t y is_s is_t e.
      let same : 35 ∷ (is_s.0 ++ x) ≡ 35 ∷ (is_t.0 ++ y) =
      ap (λ xs. xs ++ x) (sym is_s.1) ∙ e ∙ ap (λ xs. xs ++ y) is_t.1 in
      let tails : is_s.0 ++ x ≡ is_t.0 ++ y = cc in
      let one = hash_part.unique a b is_s.0 x is_t.0 y is_s.2 is_t.2 tails in
      (one.0, is_s.1 ∙ ap (λ xs. 35 ∷ xs) one.1 ∙ sym is_t.1);
  grows = λ a s x more some i. i;
  shrinks = λ a s x more i. i;
}

and_part : IsPart behind_and
and_part = choice_part named_behind number_behind named_part number_part
    (λ a b s x t y named number e.
    let same : t ++ y ≡ s ++ x = sym e in
    named_cases ⊥ a s named
    (λ _ k. omega (arith, first_same 35 t number.0 y s x number.1 same 97 (codes "mp;") k))
    (λ _ k. omega (arith, first_same 35 t number.0 y s x number.1 same 108 (codes "t;") k))
    (λ _ k. omega (arith, first_same 35 t number.0 y s x number.1 same 103 (codes "t;") k))
    (λ _ k. omega (arith, first_same 35 t number.0 y s x number.1 same 113 (codes "uot;") k))
    (λ _ k. omega (arith, first_same 35 t number.0 y s x number.1 same 97 (codes "pos;") k)))

-- a text begins with one reference at most
pub reference_part : IsPart a_reference
reference_part =
    same_part a_reference (seq (exactly (codes "&")) (λ _. behind_and)) to_reference from_reference
    (seq_part and_joins (λ _. and_part))
