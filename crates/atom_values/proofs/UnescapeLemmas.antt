-- The escaped text is read back in one way.
use Rattle.std.proofs.Common.{◌≡◌, ◌≢◌, ℕ, ◌*◌, ◌<◌, ◌≤◌, Bool, true, false, cond, ◌&&◌, eqb, List, [], ◌∷◌, ◌++◌}
use Rattle.std.proofs.Common.{length, get_or, Option, Some, None, MatchOption, refl, sym, ap, subst, ◌∙◌, arith}
use Rattle.std.specs.Prelude.{codes}
use Rattle.std.proofs.lemmas.Bool.{eqb-true, ne_eqb, and_parts, cond-false}
use Rattle.std.proofs.lemmas.List.{append_assoc, append-nil, append_cancel_left, length-append, get_or_append_left}
use Rattle.atom_values.specs.Escape.{escaped_byte, escaped, IsNotWritten, IsReadBack}
use Rattle.atom_values.specs.XmlText.{IsAtomText}
use Rattle.atom_values.proofs.EscapeLemmas.{length-escaped_byte, escaped-nil, escaped-cons, escaped-append, escaped_one}

-- the byte that written bytes begin with, by what tells the references apart
abbrev first_byte : List ℕ → ℕ
first_byte xs =
    cond (eqb (get_or xs 0 0) 38)
    (cond (eqb (get_or xs 1 0) 97) 38
    (cond (eqb (get_or xs 1 0) 108) 60
    (cond (eqb (get_or xs 1 0) 103) 62
    (cond (eqb (get_or xs 1 0) 113) 34
    (cond (eqb (get_or xs 2 0) 57) 9
    (cond (eqb (get_or xs 3 0) 51) 13 10))))))
    (get_or xs 0 0)

first_plain : (b : ℕ) (ys : List ℕ) → eqb b 38 ≡ false → first_byte (b ∷ ys) ≡ b
first_plain b ys h = cond-false (eqb b 38) _ b h

first_byte_by : (b : ℕ) (ys : List ℕ) (a1 a2 a3 a4 a5 a6 a7 : Bool) → eqb b 38 ≡ a1 → (a2 ≡ true → b ≡ 60) →
    (a3 ≡ true → b ≡ 62) → (a4 ≡ true → b ≡ 13) → (a5 ≡ true → b ≡ 34) → (a6 ≡ true → b ≡ 9) → (a7 ≡ true → b ≡ 10) →
    first_byte (cond a1 (codes "&amp;")
    (cond a2 (codes "&lt;")
    (cond a3 (codes "&gt;")
    (cond a4 (codes "&#13;") (cond a5 (codes "&quot;") (cond a6 (codes "&#9;") (cond a7 (codes "&#10;") (b ∷ [])))))))
    ++ ys) ≡ b
first_byte_by b ys true a2 a3 a4 a5 a6 a7 h1 h2 h3 h4 h5 h6 h7 = sym (eqb-true b 38 h1)
first_byte_by b ys false true a3 a4 a5 a6 a7 h1 h2 h3 h4 h5 h6 h7 = sym (h2 refl)
first_byte_by b ys false false true a4 a5 a6 a7 h1 h2 h3 h4 h5 h6 h7 = sym (h3 refl)
first_byte_by b ys false false false true a5 a6 a7 h1 h2 h3 h4 h5 h6 h7 = sym (h4 refl)
first_byte_by b ys false false false false true a6 a7 h1 h2 h3 h4 h5 h6 h7 = sym (h5 refl)
first_byte_by b ys false false false false false true a7 h1 h2 h3 h4 h5 h6 h7 = sym (h6 refl)
first_byte_by b ys false false false false false false true h1 h2 h3 h4 h5 h6 h7 = sym (h7 refl)
first_byte_by b ys false false false false false false false h1 h2 h3 h4 h5 h6 h7 = first_plain b ys h1

first_byte-escaped : (quoted : Bool) (b : ℕ) (ys : List ℕ) → first_byte (escaped_byte quoted b ++ ys) ≡ b
first_byte-escaped quoted b ys =
    first_byte_by b ys (eqb b 38) (eqb b 60) (eqb b 62) (eqb b 13) (quoted && eqb b 34) (quoted && eqb b 9)
    (quoted && eqb b 10) refl
    (eqb-true b 60) (eqb-true b 62) (eqb-true b 13)
    (λ h. eqb-true b 34 (and_parts quoted (eqb b 34) h).1)
    (λ h. eqb-true b 9 (and_parts quoted (eqb b 9) h).1)
    (λ h. eqb-true b 10 (and_parts quoted (eqb b 10) h).1)

-- two bytes that are written alike are one, and so is what follows
escaped_byte-unique : (quoted : Bool) (b d : ℕ) (xs ys : List ℕ) →
    escaped_byte quoted b ++ xs ≡ escaped_byte quoted d ++ ys → (b ≡ d) × (xs ≡ ys)
escaped_byte-unique quoted b d xs ys same =
    let bytes : b ≡ d = sym (first_byte-escaped quoted b xs) ∙ ap first_byte same ∙ first_byte-escaped quoted d ys in
    let tails : escaped_byte quoted d ++ xs ≡ escaped_byte quoted d ++ ys =
    ap (λ e. escaped_byte quoted e ++ xs) (sym bytes) ∙ same in
    (bytes, append_cancel_left (escaped_byte quoted d) xs ys tails)

written_some : (quoted : Bool) (b : ℕ) (a1 a2 a3 a4 a5 a6 a7 : Bool) →
    0 < length (cond a1 (codes "&amp;")
    (cond a2 (codes "&lt;")
    (cond a3 (codes "&gt;")
    (cond a4 (codes "&#13;") (cond a5 (codes "&quot;") (cond a6 (codes "&#9;") (cond a7 (codes "&#10;") (b ∷ []))))))))
written_some quoted b true a2 a3 a4 a5 a6 a7 = omega arith
written_some quoted b false true a3 a4 a5 a6 a7 = omega arith
written_some quoted b false false true a4 a5 a6 a7 = omega arith
written_some quoted b false false false true a5 a6 a7 = omega arith
written_some quoted b false false false false true a6 a7 = omega arith
written_some quoted b false false false false false true a7 = omega arith
written_some quoted b false false false false false false true = omega arith
written_some quoted b false false false false false false false = omega arith

pub escaped_byte-some : (quoted : Bool) (b : ℕ) → 0 < length (escaped_byte quoted b)
escaped_byte-some quoted b =
    written_some quoted b (eqb b 38) (eqb b 60) (eqb b 62) (eqb b 13) (quoted && eqb b 34) (quoted && eqb b 9)
    (quoted && eqb b 10)

-- where a written text begins with a written front, that front begins the text
escaped-after : (quoted : Bool) (text front rest : List ℕ) → escaped quoted text ≡ escaped quoted front ++ rest →
    (more : List ℕ) × (text ≡ front ++ more) × (escaped quoted more ≡ rest)
escaped-after quoted text [] rest same = (text, refl, same ∙ ap (λ xs. xs ++ rest) (escaped-nil quoted))
escaped-after quoted [] (b ∷ front) rest same =
    let total = ap length (sym (escaped-nil quoted) ∙ same) in
    let parts = length-append (escaped quoted (b ∷ front)) rest in
    let head = ap length (escaped-cons quoted b front) ∙ length-append (escaped_byte quoted b) (escaped quoted front) in
    let some = escaped_byte-some quoted b in
    absurd (omega arith)
escaped-after quoted (x ∷ text) (b ∷ front) rest same =
    let heads : escaped_byte quoted x ++ escaped quoted text ≡ escaped_byte quoted b ++ (escaped quoted front ++ rest) =
    sym (escaped-cons quoted x text) ∙ same ∙ ap (λ xs. xs ++ rest) (escaped-cons quoted b front)
    ∙ append_assoc (escaped_byte quoted b) (escaped quoted front) rest in
    let one = escaped_byte-unique quoted x b _ _ heads in
    let later = escaped-after quoted text front rest one.1 in
    (later.0, (λ i. one.0 i ∷ later.1 i), later.2)

-- a text whose written form has no bytes has none
escaped-none : (quoted : Bool) (text : List ℕ) → escaped quoted text ≡ [] → text ≡ []
escaped-none quoted [] same = refl
escaped-none quoted (x ∷ text) same =
    let total = ap length (sym (escaped-cons quoted x text) ∙ same) in
    let parts = length-append (escaped_byte quoted x) (escaped quoted text) in
    let some = escaped_byte-some quoted x in
    absurd (omega arith)

length-escaped : (quoted : Bool) (text : List ℕ) → length (escaped quoted text) ≤ 6 * length text
length-escaped quoted [] = let none = ap length (escaped-nil quoted) in omega arith
length-escaped quoted (x ∷ text) =
    let parts = ap length (escaped-cons quoted x text) ∙ length-append (escaped_byte quoted x) (escaped quoted text) in
    let one = length-escaped_byte quoted x in
    let more = length-escaped quoted text in
    omega arith

-- no written form begins with a byte that is escaped, except &
pub IsNotWritten-bare : (quoted : Bool) (written : List ℕ) (first : ℕ) (tail : List ℕ) → written ≡ first ∷ tail →
    first ≢ 38 → get_or (escaped_byte quoted first) 0 0 ≡ 38 → (b : ℕ) → IsNotWritten quoted written b
IsNotWritten-bare quoted written first tail is other starts b rest same =
    let one : b ≡ first = sym (first_byte-escaped quoted b rest) ∙ ap first_byte (same ∙ is)
    ∙ first_plain first tail (ne_eqb first 38 other) in
    let spelt : escaped_byte quoted first ++ rest ≡ first ∷ tail = ap (λ e. escaped_byte quoted e ++ rest) (sym one)
    ∙ same ∙ is in
    let head = get_or_append_left (escaped_byte quoted first) rest 0 0 (escaped_byte-some quoted first) in
    other (sym (ap (λ xs. get_or xs 0 0) spelt) ∙ head ∙ starts)

-- the bytes that are escaped
abbrev pub escaped_list : List ℕ
escaped_list = 38 ∷ 60 ∷ 62 ∷ 13 ∷ 34 ∷ 9 ∷ 10 ∷ []

listed : (a1 a2 a3 a4 a5 a6 : Bool) →
    (k : ℕ) × (k < 7) × (get_or escaped_list k 0
    ≡ cond a1 38 (cond a2 60 (cond a3 62 (cond a4 34 (cond a5 9 (cond a6 13 10))))))
listed true a2 a3 a4 a5 a6 = (0, omega arith, refl)
listed false true a3 a4 a5 a6 = (1, omega arith, refl)
listed false false true a4 a5 a6 = (2, omega arith, refl)
listed false false false true a5 a6 = (4, omega arith, refl)
listed false false false false true a6 = (5, omega arith, refl)
listed false false false false false true = (3, omega arith, refl)
listed false false false false false false = (6, omega arith, refl)

-- nor with a & that begins the reference of none of these bytes
pub IsNotWritten-reference : (quoted : Bool) (written tail : List ℕ) → written ≡ 38 ∷ tail →
    ((k : ℕ) → k < 7 → IsNotWritten quoted written (get_or escaped_list k 0)) → (b : ℕ) → IsNotWritten quoted written b
IsNotWritten-reference quoted written tail is none b rest same =
    let one : b ≡ first_byte (38 ∷ tail) = sym (first_byte-escaped quoted b rest) ∙ ap first_byte (same ∙ is) in
    let place = listed (eqb (get_or tail 0 0) 97) (eqb (get_or tail 0 0) 108) (eqb (get_or tail 0 0) 103)
    (eqb (get_or tail 0 0) 113) (eqb (get_or tail 1 0) 57) (eqb (get_or tail 2 0) 51) in
    none place.0 place.1 rest (ap (λ e. escaped_byte quoted e ++ rest) (place.2 ∙ sym one) ∙ same)

escaped-same : (quoted : Bool) (text bytes : List ℕ) → escaped quoted text ≡ escaped quoted bytes → text ≡ bytes
escaped-same quoted text bytes same =
    let later = escaped-after quoted text bytes [] (same ∙ sym (append-nil (escaped quoted bytes))) in
    later.1 ∙ ap (λ xs. bytes ++ xs) (escaped-none quoted later.0 later.2) ∙ append-nil bytes

pub IsReadBack-none : (quoted : Bool) (written : List ℕ) →
    ((t : List ℕ) → IsAtomText t → escaped quoted t ≡ written → ⊥) → IsReadBack quoted written None
IsReadBack-none quoted written none = record {
  text = tt;
  exact = λ t rules. ((λ (e : None ≡ Some t). cc), (λ same. absurd (none t rules same)));
}

IsReadBack-some : (quoted : Bool) (written bytes : List ℕ) → IsAtomText bytes → escaped quoted bytes ≡ written →
    IsReadBack quoted written (Some bytes)
IsReadBack-some quoted written bytes rules same = record {
  text = rules;
  exact = λ t _. (
    (λ (e : Some bytes ≡ Some t). let one : bytes ≡ t = cc in ap (escaped quoted) (sym one) ∙ same),
    (λ s. ap Some (sym (escaped-same quoted t bytes (s ∙ sym same)))),
  );
}

-- the bytes were read to the end
pub IsReadBack-all : (quoted : Bool) (written bytes : List ℕ) (found : Option (List ℕ)) →
    escaped quoted bytes ≡ written →
    MatchOption found (IsAtomText bytes → ⊥) (λ text. (text ≡ bytes) × IsAtomText bytes) →
    IsReadBack quoted written found
IsReadBack-all quoted written bytes None same none =
    let A : List ℕ → Type 0 = IsAtomText in
    IsReadBack-none quoted written (λ t rules s. none (subst A (escaped-same quoted t bytes (s ∙ sym same)) rules))
IsReadBack-all quoted written bytes (Some text) same is =
    let R : List ℕ → Type 0 = λ xs. IsReadBack quoted written (Some xs) in
    subst R (sym is.0) (IsReadBack-some quoted written bytes is.1 same)

begins : (quoted : Bool) (more rest : List ℕ) → escaped quoted more ≡ rest → 0 < length rest →
    ((b : ℕ) → IsNotWritten quoted rest b) → ⊥
begins quoted [] rest same some none = let empty = ap length (sym (escaped-nil quoted) ∙ same) in absurd (omega arith)
begins quoted (x ∷ more) rest same some none = none x (escaped quoted more) (sym (escaped-cons quoted x more) ∙ same)

-- nothing is written where the rest begins
pub IsReadBack-stuck : (quoted : Bool) (written front rest : List ℕ) → escaped quoted front ++ rest ≡ written →
    0 < length rest → ((b : ℕ) → IsNotWritten quoted rest b) → IsReadBack quoted written None
IsReadBack-stuck quoted written front rest parts some none = IsReadBack-none quoted written
    (λ t _ same. let later = escaped-after quoted t front rest (same ∙ sym parts) in
    begins quoted later.0 rest later.2 some none)

-- no text has a written form of this length
pub IsReadBack-long : (quoted : Bool) (written : List ℕ) → 6 * 65_536 < length written → IsReadBack quoted written None
IsReadBack-long quoted written long = IsReadBack-none quoted written
    (λ t rules same. let bound = length-escaped quoted t in let total = ap length same in let short = rules.short in
    absurd (omega arith))

-- one more byte is read
pub escaped-read : (quoted : Bool) (written front rest tail : List ℕ) (b : ℕ) → escaped quoted front ++ rest ≡ written →
    escaped_byte quoted b ++ tail ≡ rest → escaped quoted (front ++ b ∷ []) ++ tail ≡ written
escaped-read quoted written front rest tail b parts next =
    ap (λ xs. xs ++ tail) (escaped-append quoted front (b ∷ [])
    ∙ ap (λ xs. escaped quoted front ++ xs) (escaped_one quoted b))
    ∙ append_assoc (escaped quoted front) (escaped_byte quoted b) tail
    ∙ ap (λ xs. escaped quoted front ++ xs) next
    ∙ parts
