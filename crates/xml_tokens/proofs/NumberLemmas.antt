-- Character references by number, digit by digit.
use Rattle.std.proofs.Common.{◌≡◌, ◌≢◌, ◌⊎◌, ℕ, ◌+◌, ◌*◌, ◌^◌, ◌<◌, ◌≤◌, true, false, List, [], ◌∷◌, ◌++◌, length}
use Rattle.std.proofs.Common.{IsTrue, Option}
use Rattle.std.proofs.Common.{Some, None, refl, sym, ap, subst, ◌∙◌, ⊎_elim, arith, codes, cond, nat_lt}
use Rattle.std.proofs.Common.{le-leb, leb, eqb, Bool, ◌||◌, leb-true, eqb-true, ltb-true, ltb-false}
use Rattle.std.specs.Prelude.{Result, Ok, Err, unwrap_or, IfSome}
use Rattle.std.specs.Option.{ok_or}
use Rattle.std.specs.Char.{digit_value}
use Rattle.std.specs.Str.Parse.{AllDigits, digits_value_after}
use Rattle.std.specs.Int.{is_in_range}
use Rattle.std.proofs.lemmas.Bool.{both_ways, cases_lt, cases_Bool, cond-true, cond-false, and_from, and_parts}
use Rattle.std.proofs.lemmas.Bool.{or_left, or_right}
use Rattle.atom_values.specs.XmlText.{is_xml_char}
use Rattle.xml_tokens.specs.declared.cursor.Lapse.{Lapse}
use Rattle.xml_tokens.specs.declared.cursor.Lapse.TheVariants.{Broken, Cut}
use Rattle.xml_tokens.specs.Reading.{IsFound, Continues, Reads, numbered_behind}
use Rattle.std.proofs.lemmas.List.{append-nil, length-append}
use Rattle.xml_tokens.proofs.PartLemmas.{Leads, ended_reads}

-- the bases of references
abbrev pub IsBase : ℕ → Type 0
IsBase base = (base ≡ 10) ⊎ (base ≡ 16)

-- the rest of the number `c` after digits with this value, if there were digits
abbrev pub left : ℕ → Option ℕ → ℕ → List ℕ → List ℕ → Type 0
left base value c text rest =
    (digits : List ℕ) × AllDigits base digits × (value ≡ None → digits ≢ [])
    × (c ≡ digits_value_after base (unwrap_or value 0) digits) × IsTrue (is_xml_char c) × (text ≡ digits ++ codes ";")

some_digit : (digits : List ℕ) → digits ≢ [] → 0 < length digits
some_digit [] some = absurd (some refl)
some_digit (d ∷ ds) some = omega arith

to_numbered : (base c : ℕ) (s rest : List ℕ) → left base None c s rest → numbered_behind base c s rest
to_numbered base c s rest is =
    (is.0, (some_digit is.0 (is.2 refl), is.1), is.3, is.4, is.5)

from_numbered : (base c : ℕ) (s rest : List ℕ) → numbered_behind base c s rest → left base None c s rest
from_numbered base c s rest is =
    (is.0, is.1.1, (λ _ e. let long = ap length e in let some = is.1.0 in omega arith), is.2, is.3, is.4)

pub number_begun : (base : ℕ) (text : List ℕ) → Leads (numbered_behind base) text (left base None) text
number_begun base text = record {
  forth = λ c more rest found. record {
    front = found.front;
    split = found.split;
    spelled = to_numbered base c found.front rest found.spelled;
  };
  back = λ c more rest none found. record {
    front = found.front;
    split = found.split;
    spelled = from_numbered base c found.front rest found.spelled;
  };
  ends = λ e. e;
}

-- one digit more
digit_back : (base byte c : ℕ) (value : Option ℕ) (tail more s rest : List ℕ) → byte ≢ 59 → (digits : List ℕ) →
    AllDigits base digits → c ≡ digits_value_after base (unwrap_or value 0) digits → IsTrue (is_xml_char c) →
    byte ∷ (tail ++ more) ≡ (digits ++ codes ";") ++ rest →
    IsFound (left base (Some (unwrap_or value 0 * base + digit_value byte))) (tail ++ more) c rest
digit_back base byte c value tail more s rest other [] all is xml e =
    absurd (let heads : byte ≡ 59 = cc in other heads)
digit_back base byte c value tail more s rest other (d ∷ ds) all is xml e =
    let heads : byte ≡ d = cc in
    let tails : tail ++ more ≡ (ds ++ codes ";") ++ rest = cc in
    record {
      front = ds ++ codes ";";
      split = tails;
      spelled = (
        ds,
        all.1,
        (λ (n : Some (unwrap_or value 0 * base + digit_value byte) ≡ None). cc),
        is ∙ ap (λ x. digits_value_after base (unwrap_or value 0 * base + digit_value x) ds) (sym heads),
        xml,
        refl,
      );
    }

pub digit_leads : (base byte : ℕ) (value : Option ℕ) (tail : List ℕ) → byte ≢ 59 → digit_value byte < base →
    Leads (left base value) (byte ∷ tail) (left base (Some (unwrap_or value 0 * base + digit_value byte))) tail
digit_leads base byte value tail other digit = record {
  forth = λ c more rest found.
      let is = found.spelled in
      record {
        front = byte ∷ found.front;
        split = ap (λ xs. byte ∷ xs) found.split;
        spelled = (
          byte ∷ is.0,
          (digit, is.1),
          (λ _ (e : byte ∷ is.0 ≡ []). cc),
          is.3,
          is.4,
          ap (λ xs. byte ∷ xs) is.5,
        );
      };
  back = λ c more rest none found.
      let is = found.spelled in
      digit_back base byte c value tail more found.front rest other is.0 is.1 is.3 is.4
      (found.split ∙ ap (λ xs. xs ++ rest) is.5);
  ends = λ e. absurd (let g : byte ∷ tail ≡ [] = e in cc);
}

value_ge : (base : ℕ) → IsBase base → (n : ℕ) (ds : List ℕ) → n ≤ digits_value_after base n ds
value_ge base is n [] = omega arith
value_ge base is n (d ∷ ds) =
    let step : n ≤ n * base + digit_value d =
    ⊎_elim
    (λ ten. let P : ℕ → Type 0 = λ b. n ≤ n * b + digit_value d in subst P (sym ten) (omega arith))
    (λ hex. let P : ℕ → Type 0 = λ b. n ≤ n * b + digit_value d in subst P (sym hex) (omega arith))
    is in
    let more = value_ge base is (n * base + digit_value d) ds in
    omega arith

in_range : (low high c : ℕ) → low ≤ c → c ≤ high → is_in_range low high c ≡ true
in_range low high c above below = and_from _ _ (le-leb low c above) (le-leb c high below)

xml_low : (c : ℕ) → 0x20 ≤ c → c ≤ 0xD7FF → is_xml_char c ≡ true
xml_low c above below = or_left _ _ (or_left _ _ (or_right _ _ (in_range 0x20 0xD7FF c above below)))

xml_high : (c : ℕ) → 0x1_0000 ≤ c → c ≤ 0x10_FFFF → is_xml_char c ≡ true
xml_high c above below = or_right _ _ (in_range 0x1_0000 0x10_FFFF c above below)

six : (Q : Type 0) (t l r a b d : Bool) → (t || l || r || a || b || d) ≡ true → (t ≡ true → Q) → (l ≡ true → Q) →
    (r ≡ true → Q) → (a ≡ true → Q) → (b ≡ true → Q) → (d ≡ true → Q) → Q
six Q true l r a b d e ft fl fr fa fb fd = ft refl
six Q false true r a b d e ft fl fr fa fb fd = fl refl
six Q false false true a b d e ft fl fr fa fb fd = fr refl
six Q false false false true b d e ft fl fr fa fb fd = fa refl
six Q false false false false true d e ft fl fr fa fb fd = fb refl
six Q false false false false false true e ft fl fr fa fb fd = fd refl
six Q false false false false false false e ft fl fr fa fb fd = absurd (both_ways false refl e)

xml_bound : (c : ℕ) → is_xml_char c ≡ true → c ≤ 0x10_FFFF
xml_bound c is =
    six (c ≤ 0x10_FFFF) (eqb c 9) (eqb c 10) (eqb c 13) (is_in_range 0x20 0xD7FF c) (is_in_range 0xE000 0xFFFD c)
    (is_in_range 0x1_0000 0x10_FFFF c) is
    (λ e. omega (arith, eqb-true c 9 e)) (λ e. omega (arith, eqb-true c 10 e)) (λ e. omega (arith, eqb-true c 13 e))
    (λ e. omega (arith, leb-true c 0xD7FF (and_parts (leb 0x20 c) (leb c 0xD7FF) e).1))
    (λ e. omega (arith, leb-true c 0xFFFD (and_parts (leb 0xE000 c) (leb c 0xFFFD) e).1))
    (λ e. leb-true c 0x10_FFFF (and_parts (leb 0x1_0000 c) (leb c 0x10_FFFF) e).1)

by_base : (P : ℕ → Type 0) (base : ℕ) → IsBase base → P 10 → P 16 → P base
by_base P base is ten hex = ⊎_elim (λ e. subst P (sym e) ten) (λ e. subst P (sym e) hex) is

goes_on : (base v : ℕ) (ds : List ℕ) → AllDigits base ds → is_xml_char (digits_value_after base v ds) ≡ true →
    Continues (left base (Some v)) []
goes_on base v ds all xml = (
  ds ++ codes ";",
  (
    digits_value_after base v ds,
    [],
    record {
      front = ds ++ codes ";";
      split = sym (append-nil (ds ++ codes ";"));
      spelled = (ds, all, (λ (n : Some v ≡ None). cc), refl, xml, refl);
    },
  ),
)

-- each number up to that of the last character goes on to that of some character
some_lives : (base v : ℕ) → IsBase base → v ≤ 0x10_FFFF → Continues (left base (Some v)) []
some_lives base v is small =
    let low : v * 10 ≤ v * base = by_base (λ b. v * 10 ≤ v * b) base is (omega arith) (omega arith) in
    let high : v * base ≤ v * 16 = by_base (λ b. v * b ≤ v * 16) base is (omega arith) (omega arith) in
    let nine : digit_value 57 < base = by_base (λ b. 9 < b) base is (omega arith) (omega arith) in
    let nought : digit_value 48 < base = omega arith in
    let twice_low : (v * base + digit_value 48) * 10 ≤ (v * base + digit_value 48) * base =
    by_base (λ b. (v * base + 0) * 10 ≤ (v * base + 0) * b) base is (omega arith) (omega arith) in
    let twice_high : (v * base + digit_value 48) * base ≤ (v * base + digit_value 48) * 16 =
    by_base (λ b. (v * base + 0) * b ≤ (v * base + 0) * 16) base is (omega arith) (omega arith) in
    ⊎_elim
    (λ none.
    let tab : 9 ≡ v * base + digit_value 57 = omega arith in
    goes_on base v (57 ∷ []) (nine, tt) (subst (λ (c : ℕ). is_xml_char c ≡ true) tab refl))
    (λ from1. ⊎_elim
    (λ below32. goes_on base v (48 ∷ 48 ∷ []) (nought, (nought, tt))
    (xml_low ((v * base + digit_value 48) * base + digit_value 48) (omega arith) (omega arith)))
    (λ from32. ⊎_elim
    (λ plain. goes_on base v [] tt (xml_low v (omega arith) (omega arith)))
    (λ above. ⊎_elim
    (λ short. goes_on base v (48 ∷ []) (nought, tt)
    (xml_high (v * base + digit_value 48) (omega arith) (omega arith)))
    (λ long. goes_on base v [] tt (xml_high v (omega arith) (omega arith)))
    (cases_lt v 0x1_0000)) (cases_lt v 0xD800)) (cases_lt v 32)) (cases_lt v 1)

pub number_lives : (base : ℕ) (value : Option ℕ) → IsBase base → unwrap_or value 0 ≤ 0x10_FFFF →
    Continues (left base value) []
number_lives base (Some v) is small = some_lives base v is small
number_lives base None is small =
    let nine : digit_value 57 < base = by_base (λ b. 9 < b) base is (omega arith) (omega arith) in
    let tab : 9 ≡ 0 * base + digit_value 57 = omega arith in (
      codes "9;",
      (
        0 * base + digit_value 57,
        [],
        record {
          front = codes "9;";
          split = refl;
          spelled = (
            57 ∷ [],
            (nine, tt),
            (λ _ (e : 57 ∷ [] ≡ []). cc),
            refl,
            subst (λ (c : ℕ). is_xml_char c ≡ true) tab refl,
            refl,
          );
        },
      ),
    )

-- no digit is `;`
pub no_digit : (base : ℕ) → IsBase base → digit_value 59 < base → ⊥
no_digit base is small = by_base (λ b. 36 < b → ⊥) base is (λ h. omega arith) (λ h. omega arith) small

semicolon_none : (base c : ℕ) (value found : Option ℕ) (xs rest : List ℕ) → IsBase base →
    ((c : ℕ) → value ≡ Some c → IsTrue (is_xml_char c) → found ≡ Some c) → found ≡ None → (digits : List ℕ) →
    AllDigits base digits → (value ≡ None → digits ≢ []) → c ≡ digits_value_after base (unwrap_or value 0) digits →
    IsTrue (is_xml_char c) → 59 ∷ xs ≡ (digits ++ codes ";") ++ rest → ⊥
semicolon_none base c None found xs rest is only none [] all some v xml e = some refl refl
semicolon_none base c (Some v) found xs rest is only none [] all some same xml e =
    let X : ℕ → Type 0 = λ k. IsTrue (is_xml_char k) in
    let one : found ≡ Some v = only v refl (subst X same xml) in
    let no : None ≡ Some v = sym none ∙ one in
    cc
semicolon_none base c value found xs rest is only none (d ∷ ds) all some same xml e =
    let heads : 59 ≡ d = cc in
    let D : ℕ → Type 0 = λ x. digit_value x < base in
    no_digit base is (subst D (sym heads) all.0)

pub semicolon_reads : (base : ℕ) (value : Option ℕ) (tail : List ℕ) → IsBase base → (found : Option ℕ) →
    IfSome found (λ c. (value ≡ Some c) × IsTrue (is_xml_char c)) →
    ((c : ℕ) → value ≡ Some c → IsTrue (is_xml_char c) → found ≡ Some c) → (r : Result ℕ Lapse) →
    r ≡ ok_or found Broken → Reads (left base value) (59 ∷ tail) r tail
semicolon_reads base value tail is (Some c) found only r e =
    let R : Result ℕ Lapse → Type 0 = λ x. Reads (left base value) (59 ∷ tail) x tail in
    subst R (sym e) (record {
      front = codes ";";
      split = refl;
      spelled = (
        [],
        tt,
        (λ n. absurd (let g : None ≡ Some c = sym n ∙ found.0 in cc)),
        sym (ap (λ o. unwrap_or o 0) found.0),
        found.1,
        refl,
      );
    })
semicolon_reads base value tail is None found only r e =
    let R : Result ℕ Lapse → Type 0 = λ x. Reads (left base value) (59 ∷ tail) x tail in
    subst R (sym e) (λ (some : Continues (left base value) (59 ∷ tail)).
    let f = some.1.2 in
    let p = f.spelled in
    semicolon_none base some.1.0 value None (tail ++ some.0) some.1.1 is only refl p.0 p.1 p.2 p.3 p.4
    (f.split ∙ ap (λ xs. xs ++ some.1.1) p.5))

-- a byte that is no digit, or one too many
byte_none : (base byte c : ℕ) (value : Option ℕ) (xs rest : List ℕ) → IsBase base → byte ≢ 59 →
    ((base ≤ digit_value byte) ⊎ (0x10_FFFF < unwrap_or value 0 * base + digit_value byte)) → (digits : List ℕ) →
    AllDigits base digits → c ≡ digits_value_after base (unwrap_or value 0) digits → IsTrue (is_xml_char c) →
    byte ∷ xs ≡ (digits ++ codes ";") ++ rest → ⊥
byte_none base byte c value xs rest is other bad [] all same xml e = let heads : byte ≡ 59 = cc in other heads
byte_none base byte c value xs rest is other bad (d ∷ ds) all same xml e =
    let heads : byte ≡ d = cc in
    let D : ℕ → Type 0 = λ x. digit_value x < base in
    let digit : digit_value byte < base = subst D (sym heads) all.0 in
    let value_is : c ≡ digits_value_after base (unwrap_or value 0 * base + digit_value byte) ds =
    same ∙ ap (λ x. digits_value_after base (unwrap_or value 0 * base + digit_value x) ds) (sym heads) in
    ⊎_elim
    (λ none. omega arith)
    (λ large. omega (arith, xml_bound c xml, value_ge base is (unwrap_or value 0 * base + digit_value byte) ds))
    bad

pub byte_stops : (base byte : ℕ) (value : Option ℕ) (tail : List ℕ) → IsBase base → byte ≢ 59 →
    ((base ≤ digit_value byte) ⊎ (0x10_FFFF < unwrap_or value 0 * base + digit_value byte)) →
    Continues (left base value) (byte ∷ tail) → ⊥
byte_stops base byte value tail is other bad some =
    let f = some.1.2 in
    let p = f.spelled in
    byte_none base byte some.1.0 value (tail ++ some.0) some.1.1 is other bad p.0 p.1 p.3 p.4
    (f.split ∙ ap (λ xs. xs ++ some.1.1) p.5)

pub number_ended : (base : ℕ) (value : Option ℕ) (text : List ℕ) → IsBase base → unwrap_or value 0 ≤ 0x10_FFFF →
    text ≡ [] → (end : List ℕ) → Reads (left base value) text (Err Cut) end
number_ended base value text is small e end =
    ended_reads {P = left base value}
    (λ c rest p. let total = ap length p.5 in omega (arith, length-append p.0 (codes ";")))
    (number_lives base value is small) text e end

-- `digit` fails exactly if the digit isn't below the base
pub digit_err : (d base : ℕ) (o : Option ℕ) → o ≡ cond (nat_lt d base) (Some d) None → (e : Lapse) →
    Err e ≡ ok_or o Broken → (e ≡ Broken) × (base ≤ d)
digit_err d base o is e was =
    ⊎_elim
    (λ t. absurd (let some : o ≡ Some d = is ∙ cond-true (nat_lt d base) (Some d) None t in
    let g : Err e ≡ Ok d = was ∙ ap (λ x. ok_or x Broken) some in cc))
    (λ f. let none : o ≡ None = is ∙ cond-false (nat_lt d base) (Some d) None f in
    let g : Err e ≡ Err Broken = was ∙ ap (λ x. ok_or x Broken) none in
    let same : e ≡ Broken = cc in
    (same, ltb-false d base f))
    (cases_Bool (nat_lt d base))

pub digit_ok : (d base : ℕ) (o : Option ℕ) → o ≡ cond (nat_lt d base) (Some d) None → (x : ℕ) →
    Ok x ≡ ok_or o Broken → (x ≡ d) × (d < base)
digit_ok d base o is x was =
    ⊎_elim
    (λ t. let some : o ≡ Some d = is ∙ cond-true (nat_lt d base) (Some d) None t in
    let g : Ok x ≡ Ok d = was ∙ ap (λ y. ok_or y Broken) some in
    let same : x ≡ d = cc in
    (same, ltb-true d base t))
    (λ f. absurd (let none : o ≡ None = is ∙ cond-false (nat_lt d base) (Some d) None f in
    let g : Ok x ≡ Err Broken = was ∙ ap (λ y. ok_or y Broken) none in cc))
    (cases_Bool (nat_lt d base))

pub number_fits : (base v d : ℕ) → IsBase base → v ≤ 0x10_FFFF → d < base → v * base + d < 2 ^ 32
number_fits base v d is small digit =
    let high : v * base ≤ v * 16 = by_base (λ b. v * b ≤ v * 16) base is (omega arith) (omega arith) in
    let low : d < 16 = by_base (λ b. d < b → d < 16) base is (λ h. omega arith) (λ h. h) digit in
    omega arith
