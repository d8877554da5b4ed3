-- The name of an encoding, up to its quote.
use Rattle.std.proofs.Common.{◌≡◌, ◌≢◌, ℕ, ◌≤◌, Bool, true, false, not, ◌||◌, ◌==◌, List, [], ◌∷◌, ◌++◌, length}
use Rattle.std.proofs.Common.{map, take, drop, min, IsTrue, Some, refl, sym, ap, subst, ◌∙◌, ⊎_elim, codes}
use Rattle.std.proofs.Common.{arith, append_assoc, eqb-true, ltb-true, ltb-false, leb}
use Rattle.std.specs.List.{list_all}
use Rattle.std.specs.Int.{is_in_range}
use Rattle.std.specs.Prelude.{nat_lt}
use Rattle.std.specs.Str.{str_eq_ignore_ascii_case}
use Rattle.std.specs.Char.{is_ascii_alphabetic, is_ascii_alphanumeric, to_ascii_lowercase}
use Rattle.std.proofs.lemmas.Slice.Eq.{bytes_eq-Decides}
use Rattle.std.proofs.lemmas.Bool.{and_parts, and_from, both_ways, not-true, cases_Bool, cond-true, cond-false}
use Rattle.std.proofs.lemmas.Bool.{or_cases}
use Rattle.std.proofs.lemmas.Bool.{or_left, le-leb}
use Rattle.std.proofs.lemmas.List.{append-nil, length-map, map-append, take-append-drop}
use Rattle.atom_values.specs.Ascii.{minus, point, underscore}
use Rattle.xml_tokens.specs.Tokens.{IsQuote, is_encoding_name, is_utf8_name}
use Rattle.xml_tokens.specs.Reading.{first_is_no, IsFound, StartsAs, ContinuesAs, encoding_name}
use Rattle.xml_tokens.proofs.PartLemmas.{same_front, splits}
use Rattle.xml_tokens.proofs.RunLemmas.{run_unique}
use Rattle.xml_tokens.proofs.EncodingLemmas.{apart, name_free, ends_first}

-- texts that are the same in lower case
pub begins_lower : (front begin whole : List ℕ) → begin ≡ take (length front) whole →
    map to_ascii_lowercase front ≡ map to_ascii_lowercase begin →
    IsTrue (str_eq_ignore_ascii_case (front ++ drop (length front) whole) whole)
begins_lower front begin whole is same =
    let L = map to_ascii_lowercase in
    let n = length front in
    (bytes_eq-Decides (L (front ++ drop n whole)) (L whole)).1
    (map-append to_ascii_lowercase front (drop n whole) ∙ ap (λ xs. xs ++ L (drop n whole)) (same ∙ ap L is)
    ∙ sym (map-append to_ascii_lowercase (take n whole) (drop n whole)) ∙ ap L (take-append-drop n whole))

pub lower_begins : (front begin whole more : List ℕ) → begin ≡ take (length front) whole →
    length begin ≡ length front → IsTrue (str_eq_ignore_ascii_case (front ++ more) whole) →
    map to_ascii_lowercase front ≡ map to_ascii_lowercase begin
lower_begins front begin whole more is long e =
    let L = map to_ascii_lowercase in
    let rest = drop (length front) whole in
    let same = (bytes_eq-Decides (L (front ++ more)) (L whole)).0 e in
    let split : whole ≡ begin ++ rest =
    sym (take-append-drop (length front) whole) ∙ ap (λ xs. xs ++ rest) (sym is) in
    (same_front (L front) (L more) (L begin) (L rest)
    (sym (map-append to_ascii_lowercase front more) ∙ same ∙ ap L split ∙ map-append to_ascii_lowercase begin rest)
    (simp length-map (sym long))).0

-- a test that holds of capitals holds of a byte if it holds in lower case
lower_test : (T : ℕ → Bool) (b : ℕ) → (65 ≤ b → b ≤ 90 → T b ≡ true) → T (to_ascii_lowercase b) ≡ true → T b ≡ true
lower_test T b capital e =
    let N : ℕ → Type 0 = λ k. T k ≡ true in
    ⊎_elim
    (λ low. subst N (cond-true (nat_lt b 65) _ _ low) e)
    (λ high. ⊎_elim
    (λ within. capital (ltb-false b 65 high) (omega (arith, ltb-true b 91 within)))
    (λ past. subst N (cond-false (nat_lt b 65) _ _ high ∙ cond-false (nat_lt b 91) _ _ past) e)
    (cases_Bool (nat_lt b 91)))
    (cases_Bool (nat_lt b 65))

capital_in : (b : ℕ) → 65 ≤ b → b ≤ 90 → is_in_range 65 90 b ≡ true
capital_in b low high = and_from (leb 65 b) (leb b 90) (le-leb 65 b low) (le-leb b 90 high)

continues_name : ℕ → Bool
continues_name c = is_ascii_alphanumeric c || (c == point) || (c == underscore) || (c == minus)

capital_continues : (d u l p q r : Bool) → u ≡ true → (d || u || l || p || q || r) ≡ true
capital_continues true u l p q r e = refl
capital_continues false true l p q r e = refl
capital_continues false false l p q r e = absurd (both_ways false refl e)

lower_continues : (b : ℕ) → continues_name (to_ascii_lowercase b) ≡ true → continues_name b ≡ true
unfolding continues_name
lower_continues b = lower_test continues_name b
    (λ low high. capital_continues (is_in_range 48 57 b) (is_in_range 65 90 b) (is_in_range 97 122 b) (b == point)
    (b == underscore) (b == minus) (capital_in b low high))

lower_all : (bs : List ℕ) → list_all continues_name (map to_ascii_lowercase bs) ≡ true →
    list_all continues_name bs ≡ true
lower_all [] e = refl
lower_all (b ∷ bs) e =
    let p = and_parts (continues_name (to_ascii_lowercase b)) (list_all continues_name (map to_ascii_lowercase bs)) e in
    and_from (continues_name b) (list_all continues_name bs) (lower_continues b p.0) (lower_all bs p.1)

lower_name : (name : List ℕ) → is_encoding_name (map to_ascii_lowercase name) ≡ true → is_encoding_name name ≡ true
unfolding continues_name
lower_name [] e = e
lower_name (b ∷ bs) e =
    let p = and_parts (is_ascii_alphabetic (to_ascii_lowercase b))
    (list_all continues_name (map to_ascii_lowercase bs)) e in
    and_from (is_ascii_alphabetic b) (list_all continues_name bs)
    (lower_test is_ascii_alphabetic b (λ low high. or_left (is_in_range 65 90 b) (is_in_range 97 122 b)
    (capital_in b low high)) p.0)
    (lower_all bs p.1)

-- the names of UTF-8 are names
utf8_is_name : (name : List ℕ) → is_utf8_name (Some name) ≡ true → is_encoding_name name ≡ true
utf8_is_name name e =
    let L = map to_ascii_lowercase name in
    let N : List ℕ → Type 0 = λ xs. is_encoding_name xs ≡ true in
    lower_name name
    (⊎_elim
    (λ one. subst N (sym ((bytes_eq-Decides L (codes "utf-8")).0 one)) refl)
    (λ other. subst N (sym ((bytes_eq-Decides L (codes "us-ascii")).0 other)) refl)
    (or_cases (str_eq_ignore_ascii_case name (codes "utf-8")) (str_eq_ignore_ascii_case name (codes "us-ascii")) e))

-- the quote, after the bytes before it
pub quote_behind : (q : ℕ) (rest taken after : List ℕ) → rest ≢ [] → IsTrue (first_is_no (apart q) rest) →
    rest ≡ taken ++ after → length taken ≡ min 1 (length rest) → rest ≡ q ∷ after
quote_behind q [] taken after some ends split long = absurd (some refl)
quote_behind q (b ∷ bs) taken after some ends split long =
    let both : ((b == q) || (b == q)) ≡ true = ⊎_elim
    (λ t. t)
    (λ f. absurd (both_ways (apart q b) (not-true (apart q b) ends) (ap not f)))
    (cases_Bool ((b == q) || (b == q))) in
    let same : b ≡ q = eqb-true b q (⊎_elim (λ t. t) (λ t. t) (or_cases (b == q) (b == q) both)) in
    let parts = same_front taken after (b ∷ []) bs (sym split) (omega arith) in
    let back = sym parts.1 in
    (λ i. same i ∷ back i)

-- no quote is in bytes before it
no_end : (q : ℕ) (n x : List ℕ) → list_all (apart q) (n ++ q ∷ x) ≡ true → ⊥
no_end q [] x free =
    both_ways (apart q q) (not-true (apart q q) (ends_first q x)) (and_parts (apart q q) (list_all (apart q) x) free).0
no_end q (b ∷ n) x free = no_end q n x (and_parts (apart q b) (list_all (apart q) (n ++ q ∷ x)) free).1

-- the bytes before the quote are the only name that can be there
pub one_name : (q : ℕ) (name after more s x : List ℕ) (v : Bool) → IsTrue (list_all (apart q) name) →
    encoding_name q v s x → (name ++ q ∷ after) ++ more ≡ s ++ x →
    (v ≡ is_utf8_name (Some name)) × IsTrue (is_encoding_name name)
one_name q name after more s x v free is e =
    let n = is.1 in
    let same : name ++ q ∷ (after ++ more) ≡ n.0 ++ q ∷ x =
    sym (append_assoc name (q ∷ after) more) ∙ e ∙ ap (λ xs. xs ++ x) n.3 ∙ append_assoc n.0 (q ∷ []) x in
    let one = run_unique (apart q) name (q ∷ (after ++ more)) n.0 (q ∷ x) free (ends_first q (after ++ more))
    (name_free q is.0 n.0 n.1) (ends_first q x) same in
    let N : List ℕ → Type 0 = λ xs. IsTrue (is_encoding_name xs) in
    (n.2 ∙ ap (λ xs. is_utf8_name (Some xs)) (sym one), subst N (sym one) n.1)

-- if the text between the quotes is no encoding name, the whole is none
pub no_name : (q : ℕ) (text name after : List ℕ) → text ≡ name ++ q ∷ after → IsTrue (list_all (apart q) name) →
    is_encoding_name name ≡ false →
    (ContinuesAs (encoding_name q) true text → ⊥) × (StartsAs (encoding_name q) false text → ⊥)
no_name q text name after split free none = (
  (λ (some : ContinuesAs (encoding_name q) true text).
      let f = some.1.1 in
      both_ways (is_encoding_name name) none
      (one_name q name after some.0 f.front some.1.0 true free f.spelled (ap (λ xs. xs ++ some.0) (sym split)
      ∙ f.split)).1),
  (λ (some : StartsAs (encoding_name q) false text).
      let f = some.1 in
      both_ways (is_encoding_name name) none
      (one_name q name after [] f.front some.0 false free f.spelled
      (append-nil (name ++ q ∷ after) ∙ sym split ∙ f.split)).1),
)

pub found_name : (q : ℕ) → IsQuote q → (text name after : List ℕ) (v : Bool) → text ≡ name ++ q ∷ after →
    IsTrue (is_encoding_name name) → v ≡ is_utf8_name (Some name) → IsFound (encoding_name q) text v after
found_name q is text name after v split named utf8 = record {
  front = name ++ q ∷ [];
  split = split ∙ sym (append_assoc name (q ∷ []) after);
  spelled = (is, (name, named, utf8, refl));
}

not_ended : (q : ℕ) (text name rest : List ℕ) (v : Bool) → text ≡ name ++ rest → rest ≡ [] →
    IsTrue (list_all (apart q) name) → StartsAs (encoding_name q) v text → ⊥
not_ended q text name rest v split over free some =
    let f = some.1 in
    let n = f.spelled.1 in
    let A : List ℕ → Type 0 = λ xs. list_all (apart q) xs ≡ true in
    let same : name ≡ n.0 ++ q ∷ some.0 =
    sym (append-nil name) ∙ ap (λ xs. name ++ xs) (sym over) ∙ sym split ∙ f.split ∙ ap (λ xs. xs ++ some.0) n.3
    ∙ append_assoc n.0 (q ∷ []) some.0 in
    no_end q n.0 some.0 (subst A same free)

-- the text ends within the name
pub cut_name : (q : ℕ) → IsQuote q → (text name rest : List ℕ) → text ≡ name ++ rest → rest ≡ [] →
    IsTrue (list_all (apart q) name) → (more : List ℕ) → IsTrue (is_utf8_name (Some (name ++ more))) →
    (StartsAs (encoding_name q) true text → ⊥) × ContinuesAs (encoding_name q) true text
cut_name q is text name rest split over free more utf8 = (
  not_ended q text name rest true split over free,
  (
    more ++ q ∷ [],
    (
      [],
      found_name q is (text ++ (more ++ q ∷ [])) (name ++ more) [] true
          (ap (λ xs. xs ++ (more ++ q ∷ [])) (split ∙ ap (λ xs. name ++ xs) over ∙ append-nil name)
          ∙ sym (append_assoc name more (q ∷ []))) (utf8_is_name (name ++ more) utf8) (sym utf8),
    ),
  ),
)

elim_end : (q : ℕ) (name n m more x : List ℕ) → list_all (apart q) name ≡ true → name ≡ n ++ m →
    q ∷ x ≡ m ++ more → (m ≡ [] → ⊥) → ⊥
elim_end q name n [] more x free split e some = some refl
elim_end q name n (b ∷ m) more x free split e some =
    let A : List ℕ → Type 0 = λ xs. list_all (apart q) xs ≡ true in
    let heads : b ≡ q = cc in
    no_end q n m (subst A (split ∙ ap (λ k. n ++ k ∷ m) heads) free)

pub broken_name : (q : ℕ) (text name rest : List ℕ) → text ≡ name ++ rest → rest ≡ [] →
    IsTrue (list_all (apart q) name) → ((more : List ℕ) → IsTrue (is_utf8_name (Some (name ++ more))) → ⊥) →
    (ContinuesAs (encoding_name q) true text → ⊥) × (StartsAs (encoding_name q) false text → ⊥)
broken_name q text name rest split over free none = (
  (λ (some : ContinuesAs (encoding_name q) true text).
      let f = some.1.1 in
      let n = f.spelled.1 in
      let U : List ℕ → Type 0 = λ xs. IsTrue (is_utf8_name (Some xs)) in
      let A : List ℕ → Type 0 = λ xs. list_all (apart q) xs ≡ true in
      let same : name ++ some.0 ≡ n.0 ++ q ∷ some.1.0 =
      ap (λ xs. xs ++ some.0) (sym (split ∙ ap (λ xs. name ++ xs) over ∙ append-nil name)) ∙ f.split
      ∙ ap (λ xs. xs ++ some.1.0) n.3 ∙ append_assoc n.0 (q ∷ []) some.1.0 in
      ⊎_elim
      (λ longer. none longer.0 (subst U longer.1 (sym n.2)))
      (λ shorter. (elim_end q name n.0 shorter.0 some.0 some.1.0 free shorter.1 shorter.2 (λ e. none [] (subst U
      (sym (append-nil name ∙ shorter.1 ∙ ap (λ xs. n.0 ++ xs) e ∙ append-nil n.0)) (sym n.2)))))
      (splits name some.0 n.0 (q ∷ some.1.0) same)),
  not_ended q text name rest false split over free,
)
