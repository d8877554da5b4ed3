-- The texts that are read byte by byte: where they end, and that each is read in one way.
use Rattle.std.proofs.Common.{◌≡◌, ◌≢◌, ℕ, zero, suc, ◌+◌, ◌/◌, ◌%◌, ◌<◌, ◌≤◌, ◌⊎◌, inl, inr, Bool, true, false, not, cond, ◌&&◌, eqb, List, [], ◌∷◌, ◌++◌, length, take, drop, get_or, Option, Some, None, MatchOption, refl, sym, ap, subst, ◌∙◌, append_assoc, length-append, arith}
use Rattle.std.specs.Prelude.{codes, ℤ}
use Rattle.std.proofs.lemmas.Bool.{and_from, and_parts, cases_Bool, eqb-true, eqb-false, not_from_false, false_from_ne_true, false≢true, not-true, lt-ltb, le-ltb}
use Rattle.std.proofs.lemmas.List.Sums.{fails_before_first, passes_at_first, position_or_len_is}
use Rattle.std.proofs.lemmas.Option.{same_Some}
use Rattle.std.proofs.Common.{nat_lt, ltb-true, ltb-false}
use Rattle.std.specs.Prelude.{position}
use Rattle.std.specs.List.{position_or_len}
use Rattle.std.proofs.lemmas.List.{take_more, take_all, drop_more, take-append-drop, get_or_at, take_at, drop_at}
use Rattle.atom_values.specs.Escape.{escaped_byte, escaped, IsReadBack}
use Rattle.atom_values.specs.Stamp.{IsStamp, since_year_zero, date_text, clock_text, fraction_text, fixed_digits, printed}
use Rattle.atom_values.specs.XmlText.{IsAtomText}
use Rattle.atom_values.proofs.EscapeLemmas.{escaped-nil, escaped-cons}
use Rattle.atom_values.proofs.UnescapeLemmas.{IsReadBack-all}
use Rattle.memchr.specs.Find.{IsFirstByte}
use Rattle.atom_grammar.proofs.MomentLemmas.{printed_injective}
use Rattle.atom_grammar.specs.Parts.{IsFound, IsAbsent, IsReadAlone, BeginsWithByte, starts, lacks, IsCutAt, content, quoted, moment}
use Rattle.atom_grammar.proofs.ReadingLemmas.{found, starts_append}

pub starts_split : (bytes text : List ℕ) → starts bytes text ≡ true → (rest : List ℕ) × (text ≡ bytes ++ rest)
starts_split [] text e = (text, refl)
starts_split (x ∷ xs) [] e = absurd (false≢true e)
starts_split (x ∷ xs) (y ∷ ys) e =
    let p = and_parts (eqb x y) (starts xs ys) e in
    let more = starts_split xs ys p.1 in
    let same : y ≡ x = sym (eqb-true x y p.0) in
    (more.0, λ i. same i ∷ more.1 i)

-- a test at the front decides whether the text begins with the bytes
pub starts_by : (bytes text : List ℕ) (r : Bool) → (r ≡ true → (rest : List ℕ) × (text ≡ bytes ++ rest))
    → ((rest : List ℕ) → text ≡ bytes ++ rest → r ≡ true) → r ≡ starts bytes text
starts_by bytes text true so other = let p = so refl in sym (ap (starts bytes) p.1 ∙ starts_append bytes p.0)
starts_by bytes text false so other =
    let c : (starts bytes text ≡ true) ⊎ (starts bytes text ≡ false) = cases_Bool (starts bytes text) in
    elim c [ inl e ↦ absurd (false≢true (let p = starts_split bytes text e in other p.0 p.1)) | inr e ↦ sym e ]

pub lacks_append : (byte : ℕ) (xs ys : List ℕ) → lacks byte xs ≡ true → lacks byte ys ≡ true
    → lacks byte (xs ++ ys) ≡ true
lacks_append byte [] ys a b = b
lacks_append byte (x ∷ xs) ys a b =
    let p = and_parts (not (eqb x byte)) (lacks byte xs) a in
    and_from (not (eqb x byte)) (lacks byte (xs ++ ys)) p.0 (lacks_append byte xs ys p.1 b)

lacks_not : (byte : ℕ) (xs rest : List ℕ) → lacks byte (xs ++ byte ∷ rest) ≡ true → ⊥
lacks_not byte [] rest e =
    let p = and_parts (not (eqb byte byte)) (lacks byte rest) e in
    eqb-false byte byte (not-true (eqb byte byte) p.0) refl
lacks_not byte (x ∷ xs) rest e =
    lacks_not byte xs rest (and_parts (not (eqb x byte)) (lacks byte (xs ++ byte ∷ rest)) e).1

-- nothing is cut if the input doesn't have the byte
pub no_cut : (byte : ℕ) (input front rest : List ℕ) → lacks byte input ≡ true → BeginsWithByte byte rest
    → input ≡ front ++ rest → ⊥
no_cut byte input front rest e b split =
    lacks_not byte front b.0 (ap (lacks byte) (sym (split ∙ ap (λ x. front ++ x) b.1)) ∙ e)

pub other_byte : (byte x : ℕ) (xs : List ℕ) → lacks byte (x ∷ xs) ≡ true → x ≢ byte
other_byte byte x xs e = eqb-false x byte (not-true (eqb x byte) (and_parts (not (eqb x byte)) (lacks byte xs) e).0)

-- a text is cut in one place
pub cut_once : (byte : ℕ) (x y r s : List ℕ) → lacks byte x ≡ true → lacks byte y ≡ true
    → x ++ byte ∷ r ≡ y ++ byte ∷ s → (x ≡ y) × (r ≡ s)
cut_once byte [] [] r s lx ly e = (refl, let h : r ≡ s = cc in h)
cut_once byte [] (b ∷ ys) r s lx ly e = absurd (let h : b ≡ byte = cc in other_byte byte b ys ly h)
cut_once byte (a ∷ xs) [] r s lx ly e = absurd (let h : a ≡ byte = cc in other_byte byte a xs lx h)
cut_once byte (a ∷ xs) (b ∷ ys) r s lx ly e =
    let h : a ≡ b = cc in
    let t : xs ++ byte ∷ r ≡ ys ++ byte ∷ s = cc in
    let p =
    cut_once byte xs ys r s (and_parts (not (eqb a byte)) (lacks byte xs) lx).1
    (and_parts (not (eqb b byte)) (lacks byte ys) ly).1 t in
    (λ i. h i ∷ p.0 i, p.1)

pub cut_same : (byte : ℕ) (x y rest left : List ℕ) → lacks byte x ≡ true → lacks byte y ≡ true
    → BeginsWithByte byte rest → BeginsWithByte byte left → x ++ rest ≡ y ++ left → (x ≡ y) × (rest ≡ left)
cut_same byte x y rest left lx ly a b e =
    let p = cut_once byte x y a.0 b.0 lx ly (ap (λ t. x ++ t) (sym a.1) ∙ e ∙ ap (λ t. y ++ t) b.1) in
    (p.0, a.1 ∙ ap (λ t. byte ∷ t) p.1 ∙ sym b.1)

-- no byte of a written form is the delimiter
written_lacks : (byte b : ℕ) (a1 a2 a3 a4 a5 a6 a7 : Bool) → lacks byte (codes "&amp;") ≡ true
    → lacks byte (codes "&lt;") ≡ true → lacks byte (codes "&gt;") ≡ true → lacks byte (codes "&#13;") ≡ true
    → lacks byte (codes "&quot;") ≡ true → lacks byte (codes "&#9;") ≡ true → lacks byte (codes "&#10;") ≡ true
    → (a2 ≡ false → a5 ≡ false → eqb b byte ≡ false)
    → lacks byte
    (cond a1 (codes "&amp;")
    (cond a2 (codes "&lt;")
    (cond a3 (codes "&gt;")
    (cond a4 (codes "&#13;")
    (cond a5 (codes "&quot;") (cond a6 (codes "&#9;") (cond a7 (codes "&#10;") (b ∷ [])))))))) ≡ true
written_lacks byte b true a2 a3 a4 a5 a6 a7 l1 l2 l3 l4 l5 l6 l7 h = l1
written_lacks byte b false true a3 a4 a5 a6 a7 l1 l2 l3 l4 l5 l6 l7 h = l2
written_lacks byte b false false true a4 a5 a6 a7 l1 l2 l3 l4 l5 l6 l7 h = l3
written_lacks byte b false false false true a5 a6 a7 l1 l2 l3 l4 l5 l6 l7 h = l4
written_lacks byte b false false false false true a6 a7 l1 l2 l3 l4 l5 l6 l7 h = l5
written_lacks byte b false false false false false true a7 l1 l2 l3 l4 l5 l6 l7 h = l6
written_lacks byte b false false false false false false true l1 l2 l3 l4 l5 l6 l7 h = l7
written_lacks byte b false false false false false false false l1 l2 l3 l4 l5 l6 l7 h =
    and_from (not (eqb b byte)) true (not_from_false (eqb b byte) (h refl refl)) refl

byte_lacks_tag : (q : Bool) (b : ℕ) → lacks 60 (escaped_byte q b) ≡ true
byte_lacks_tag q b =
    written_lacks 60 b (eqb b 38) (eqb b 60) (eqb b 62) (eqb b 13) (q && eqb b 34) (q && eqb b 9) (q && eqb b 10) refl
    refl refl refl refl refl refl (λ h _. h)

byte_lacks_quote : (b : ℕ) → lacks 34 (escaped_byte true b) ≡ true
byte_lacks_quote b =
    written_lacks 34 b (eqb b 38) (eqb b 60) (eqb b 62) (eqb b 13) (eqb b 34) (eqb b 9) (eqb b 10) refl refl refl refl
    refl refl refl (λ _ h. h)

pub escaped_lacks_tag : (q : Bool) (t : List ℕ) → lacks 60 (escaped q t) ≡ true
escaped_lacks_tag q [] = ap (lacks 60) (escaped-nil q)
escaped_lacks_tag q (b ∷ t) =
    ap (lacks 60) (escaped-cons q b t)
    ∙ lacks_append 60 (escaped_byte q b) (escaped q t) (byte_lacks_tag q b) (escaped_lacks_tag q t)

pub escaped_lacks_quote : (t : List ℕ) → lacks 34 (escaped true t) ≡ true
escaped_lacks_quote [] = ap (lacks 34) (escaped-nil true)
escaped_lacks_quote (b ∷ t) =
    ap (lacks 34) (escaped-cons true b t)
    ∙ lacks_append 34 (escaped_byte true b) (escaped true t) (byte_lacks_quote b) (escaped_lacks_quote t)

-- two texts that are written alike are one
pub escaped_same : (q : Bool) (t u : List ℕ) → IsAtomText t → IsAtomText u → escaped q t ≡ escaped q u → t ≡ u
escaped_same q t u is_t is_u e =
    let back = IsReadBack-all q (escaped q u) u (Some u) refl (refl, is_u) in
    let h : Some u ≡ Some t = (back.exact t is_t).1 e in
    let g : u ≡ t = cc in sym g

pub content_alone : IsReadAlone content
unfolding content
content_alone v w rest left is_v is_w a b e =
    let p =
    cut_same 60 (escaped false v) (escaped false w) rest left (escaped_lacks_tag false v)
    (escaped_lacks_tag false w) a b e in
    (escaped_same false v w is_v is_w p.0, p.1)

pub quoted_alone : IsReadAlone quoted
unfolding quoted
quoted_alone v w rest left is_v is_w a b e =
    let p =
    cut_same 34 (escaped true v) (escaped true w) rest left (escaped_lacks_quote v) (escaped_lacks_quote w) a b e
    in
    (escaped_same true v w is_v is_w p.0, p.1)

-- if `unescape` reads the bytes before the delimiter, the content is found, and else there is none
pub content_found : (input front rest text : List ℕ) → IsCutAt 60 input front rest
    → IsReadBack false front (Some text) → IsFound content input text rest
unfolding content
content_found input front rest text cut back =
    let e : escaped false text ≡ front = (back.exact text back.text).0 refl in
    found content content_alone input text rest back.text cut.begins (cut.split ∙ ap (λ x. x ++ rest) (sym e))

pub quoted_found : (input front rest text : List ℕ) → IsCutAt 34 input front rest → IsReadBack true front (Some text)
    → IsFound quoted input text rest
unfolding quoted
quoted_found input front rest text cut back =
    let e : escaped true text ≡ front = (back.exact text back.text).0 refl in
    found quoted quoted_alone input text rest back.text cut.begins (cut.split ∙ ap (λ x. x ++ rest) (sym e))

pub content_refused : (input front rest : List ℕ) → IsCutAt 60 input front rest → IsReadBack false front None
    → IsAbsent content input
unfolding content
content_refused input front rest cut back other left is before e =
    let p =
    cut_same 60 front (escaped false other) rest left cut.free (escaped_lacks_tag false other) cut.begins before
    (sym cut.split ∙ e) in
    let h : None ≡ Some other = (back.exact other is).1 (sym p.0) in cc

pub quoted_refused : (input front rest : List ℕ) → IsCutAt 34 input front rest → IsReadBack true front None
    → IsAbsent quoted input
unfolding quoted
quoted_refused input front rest cut back other left is before e =
    let p =
    cut_same 34 front (escaped true other) rest left cut.free (escaped_lacks_quote other) cut.begins before
    (sym cut.split ∙ e) in
    let h : None ≡ Some other = (back.exact other is).1 (sym p.0) in cc

pub content_nowhere : (input : List ℕ) → lacks 60 input ≡ true → IsAbsent content input
unfolding content
content_nowhere input e other left is before split = no_cut 60 input (escaped false other) left e before split

pub quoted_nowhere : (input : List ℕ) → lacks 34 input ≡ true → IsAbsent quoted input
unfolding quoted
quoted_nowhere input e other left is before split = no_cut 34 input (escaped true other) left e before split

-- the printed form of a moment has 20 bytes or 24, and the twentieth tells which
pub record HasSize (text : List ℕ) (size byte : ℕ) : Type 0 where
  pub long : length text ≡ size
  pub twentieth : (rest : List ℕ) → get_or (text ++ rest) 19 0 ≡ byte

at_end : (front : List ℕ) (byte : ℕ) (rest : List ℕ) → length front ≡ 19 → get_or (front ++ byte ∷ rest) 19 0 ≡ byte
at_end front byte rest h = get_or_at front byte rest 0 19 h

sized : (front digits : List ℕ) (b : Bool) → length front ≡ 19 → length digits ≡ 3
    → HasSize (front ++ (cond b [] (46 ∷ digits) ++ 90 ∷ [])) 20 90 ⊎ HasSize
    (front ++ (cond b [] (46 ∷ digits) ++ 90 ∷ [])) 24 46
sized front digits true h k = inl record {
  long = omega (arith, length-append front (90 ∷ []));
  twentieth = λ rest. ap (λ x. get_or x 19 0) (append_assoc front (90 ∷ []) rest) ∙ at_end front 90 rest h;
}
sized front digits false h k = inr record {
  long = omega (arith, length-append front (46 ∷ digits ++ 90 ∷ []), length-append digits (90 ∷ []));
  twentieth = λ rest. ap (λ x. get_or x 19 0) (append_assoc front (46 ∷ digits ++ 90 ∷ []) rest)
      ∙ at_end front 46 ((digits ++ 90 ∷ []) ++ rest) h;
}

length-front : (day millis : ℕ) → length (date_text day ++ 84 ∷ [] ++ clock_text millis) ≡ 19
unfolding date_text clock_text
length-front day millis = refl

regroup : (a b c d : List ℕ) → (a ++ (b ++ c)) ++ d ≡ (a ++ b) ++ (c ++ d)
regroup a b c d = rw (← append_assoc a b c) (append_assoc (a ++ b) c d)

printed_front : (z : ℤ)
    → printed z
    ≡ (date_text (since_year_zero z / 86_400_000) ++ 84 ∷ [] ++ clock_text (since_year_zero z % 86_400_000))
    ++ (fraction_text (since_year_zero z % 86_400_000 % 1_000) ++ 90 ∷ [])
unfolding printed
printed_front z =
    regroup (date_text (since_year_zero z / 86_400_000) ++ 84 ∷ []) (clock_text (since_year_zero z % 86_400_000))
    (fraction_text (since_year_zero z % 86_400_000 % 1_000)) (90 ∷ [])

pub printed_sized : (z : ℤ) → HasSize (printed z) 20 90 ⊎ HasSize (printed z) 24 46
printed_sized z =
    let day = since_year_zero z / 86_400_000 in
    let millis = since_year_zero z % 86_400_000 in
    let e : printed z ≡ (date_text day ++ 84 ∷ [] ++ clock_text millis)
    ++ (fraction_text (millis % 1_000) ++ 90 ∷ []) = printed_front z in
    let P : List ℕ → Type 0 = λ x. HasSize x 20 90 ⊎ HasSize x 24 46 in
    subst P (sym e)
    (sized (date_text day ++ 84 ∷ [] ++ clock_text millis) (fixed_digits 3 (millis % 1_000))
    (eqb (millis % 1_000) 0) (length-front day millis) refl)

same_size : (x y rest left : List ℕ) (n : ℕ) → length x ≡ n → length y ≡ n → x ++ rest ≡ y ++ left
    → (x ≡ y) × (rest ≡ left)
same_size x y rest left n a b e = (
  sym (take_at x rest n a) ∙ ap (take n) e ∙ take_at y left n b,
  sym (drop_at x rest n a) ∙ ap (drop n) e
      ∙ drop_at y left n b,
)

printed_same : (x y : List ℕ) (rest left : List ℕ) → HasSize x 20 90 ⊎ HasSize x 24 46
    → HasSize y 20 90 ⊎ HasSize y 24 46 → x ++ rest ≡ y ++ left → (x ≡ y) × (rest ≡ left)
printed_same x y rest left (inl a) (inl b) e = same_size x y rest left 20 a.long b.long e
printed_same x y rest left (inl a) (inr b) e =
    absurd (omega (arith, a.twentieth rest, b.twentieth left, ap (λ t. get_or t 19 0) e))
printed_same x y rest left (inr a) (inl b) e =
    absurd (omega (arith, a.twentieth rest, b.twentieth left, ap (λ t. get_or t 19 0) e))
printed_same x y rest left (inr a) (inr b) e = same_size x y rest left 24 a.long b.long e

pub moment_alone : IsReadAlone moment
unfolding moment
moment_alone v w rest left is_v is_w _ _ e =
    let p = printed_same (printed v) (printed w) rest left (printed_sized v) (printed_sized w) e in
    (printed_injective v w is_v is_w p.0, p.1)

-- no byte before the first that passes is the delimiter
lacks_up_to : (byte : ℕ) (xs : List ℕ) (k : ℕ) → k ≤ position_or_len (λ x. eqb x byte) xs → k ≤ length xs
    → lacks byte (take k xs) ≡ true
lacks_up_to byte xs zero before within = refl
lacks_up_to byte xs (suc k) before within =
    let h : lacks byte (take k xs) ≡ true = lacks_up_to byte xs k (omega arith) (omega arith) in
    let other = fails_before_first (λ x. eqb x byte) xs k 0 (omega arith) in
    let last : lacks byte (get_or xs k 0 ∷ []) ≡ true =
    and_from (not (eqb (get_or xs k 0) byte)) true (not_from_false (eqb (get_or xs k 0) byte) other) refl in
    let next : k + 1 ≡ suc k = omega arith in
    ap (λ n. lacks byte (take n xs)) (sym next) ∙ ap (lacks byte) (take_more xs k 0 (omega arith))
    ∙ lacks_append byte (take k xs) (get_or xs k 0 ∷ []) h last

position_cases : (byte : ℕ) (xs : List ℕ) (b : Bool) → nat_lt (position_or_len (λ x. eqb x byte) xs) (length xs) ≡ b
    → (r : Option ℕ) → r ≡ cond b (Some (position_or_len (λ x. eqb x byte) xs)) None
    → MatchOption r (length xs ≤ position_or_len (λ x. eqb x byte) xs)
    (λ i. (i ≡ position_or_len (λ x. eqb x byte) xs) × (i < length xs))
position_cases byte xs true e None h = absurd (let g : None ≡ Some (position_or_len (λ x. eqb x byte) xs) = h in cc)
position_cases byte xs true e (Some i) h =
    let g : i ≡ position_or_len (λ x. eqb x byte) xs = same_Some _ _ h in
    (g, omega (arith, ltb-true (position_or_len (λ x. eqb x byte) xs) (length xs) e))
position_cases byte xs false e None h = ltb-false (position_or_len (λ x. eqb x byte) xs) (length xs) e
position_cases byte xs false e (Some i) h = absurd (let g : Some i ≡ None = h in cc)

-- the first place where a test passes, as a search finds it
pub first_place : (p : ℕ → Bool) (xs : List ℕ) (r : Option ℕ) → IsFirstByte p xs r → r ≡ position p xs
first_place p xs None none =
    let is : position_or_len p xs ≡ length xs =
    position_or_len_is p xs (length xs) 0 (omega arith)
    (λ k low. false_from_ne_true (p (get_or xs k 0)) (none k (omega arith) low)) (λ past. absurd (omega arith)) in
    let past : nat_lt (position_or_len p xs) (length xs) ≡ false =
    le-ltb (position_or_len p xs) (length xs) (omega (arith, is)) in
    ap (λ b. cond b (Some (position_or_len p xs)) None) (sym past)
first_place p xs (Some k) found =
    let is : position_or_len p xs ≡ k =
    position_or_len_is p xs k 0 (omega (arith, found.0.high))
    (λ i low. false_from_ne_true (p (get_or xs i 0)) (found.0.before i (omega arith) low)) (λ within. found.1) in
    let within : nat_lt (position_or_len p xs) (length xs) ≡ true =
    lt-ltb (position_or_len p xs) (length xs) (omega (arith, is, found.0.high)) in
    ap (λ n. Some n) (sym is) ∙ ap (λ b. cond b (Some (position_or_len p xs)) None) (sym within)

pub never : (byte : ℕ) (xs : List ℕ) → None ≡ position (λ x. eqb x byte) xs → lacks byte xs ≡ true
never byte xs e =
    let past = position_cases byte xs (nat_lt (position_or_len (λ x. eqb x byte) xs) (length xs)) refl None e in
    ap (lacks byte) (sym (take_all (length xs) xs (omega arith))) ∙ lacks_up_to byte xs (length xs) past (omega arith)

pub place_within : (byte : ℕ) (xs : List ℕ) (i : ℕ) → Some i ≡ position (λ x. eqb x byte) xs → i < length xs
place_within byte xs i e =
    (position_cases byte xs (nat_lt (position_or_len (λ x. eqb x byte) xs) (length xs)) refl (Some i) e).1

pub cut_there : (byte : ℕ) (xs : List ℕ) (i : ℕ) → Some i ≡ position (λ x. eqb x byte) xs
    → IsCutAt byte xs (take i xs) (drop i xs)
cut_there byte xs i e =
    let p = position_cases byte xs (nat_lt (position_or_len (λ x. eqb x byte) xs) (length xs)) refl (Some i) e in
    let at = passes_at_first (λ x. eqb x byte) xs 0 (omega (arith, p.0, p.1)) in
    let here : get_or xs i 0 ≡ byte =
    ap (λ n. get_or xs n 0) p.0 ∙ eqb-true (get_or xs (position_or_len (λ x. eqb x byte) xs) 0) byte at in
    record {
      split = sym (take-append-drop i xs);
      begins = (drop (i + 1) xs, drop_more xs i 0 p.1 ∙ ap (λ b. b ∷ drop (i + 1) xs) here);
      free = lacks_up_to byte xs i (omega (arith, p.0)) (omega (arith, p.1));
    }

-- how many bytes a moment's text has is seen at the twentieth
size_of : (text rest : List ℕ) → HasSize text 20 90 ⊎ HasSize text 24 46
    → cond (eqb (get_or (text ++ rest) 19 0) 90) 20 24 ≡ length text
size_of text rest (inl a) = ap (λ b. cond (eqb b 90) 20 24) (a.twentieth rest) ∙ sym a.long
size_of text rest (inr a) = ap (λ b. cond (eqb b 90) 20 24) (a.twentieth rest) ∙ sym a.long

moment_size : (input left : List ℕ) (z : ℤ) (size : ℕ) → size ≡ cond (eqb (get_or input 19 0) 90) 20 24
    → input ≡ printed z ++ left → length (printed z) ≡ size
moment_size input left z size is e =
    sym (size_of (printed z) left (printed_sized z)) ∙ ap (λ t. cond (eqb (get_or t 19 0) 90) 20 24) (sym e) ∙ sym is

pub moment_short : (input : List ℕ) (size : ℕ) → size ≡ cond (eqb (get_or input 19 0) 90) 20 24 → length input < size
    → IsAbsent moment input
unfolding moment
moment_short input size is short z left _ _ e =
    omega (arith, moment_size input left z size is e, ap length e, length-append (printed z) left)

pub moment_refused : (input front : List ℕ) (size : ℕ) → size ≡ cond (eqb (get_or input 19 0) 90) 20 24
    → front ≡ take size input → ((z : ℤ) → IsStamp z → front ≡ printed z → ⊥) → IsAbsent moment input
unfolding moment
moment_refused input front size is cut none z left law _ e =
    none z law (cut ∙ ap (take size) e ∙ take_at (printed z) left size (moment_size input left z size is e))

pub moment_found : (input front rest : List ℕ) (size : ℕ) (z : ℤ) → front ≡ take size input → rest ≡ drop size input
    → IsStamp z → front ≡ printed z → IsFound moment input z rest
unfolding moment
moment_found input front rest size z cut back law text =
    found moment moment_alone input z rest law tt (sym (take-append-drop size input) ∙ (λ i. sym cut i ++ sym back i)
    ∙ ap (λ t. t ++ rest) text)

pub cut_given : (byte : ℕ) (xs front rest : List ℕ) (i : ℕ) → Some i ≡ position (λ x. eqb x byte) xs
    → front ≡ take i xs → rest ≡ drop i xs → IsCutAt byte xs front rest
cut_given byte xs front rest i e a b =
    let P : List ℕ → Type 0 = λ x. IsCutAt byte xs x rest in
    let Q : List ℕ → Type 0 = λ x. IsCutAt byte xs (take i xs) x in
    subst P (sym a) (subst Q (sym b) (cut_there byte xs i e))

pub none_given : {X : Type 0} (A : Type 0) (B : X → Type 0) (r : Option X) → r ≡ None → A → MatchOption r A B
none_given A B None e a = a
none_given A B (Some x) e a = absurd (cc)

pub read_none : (q : Bool) (written : List ℕ) (o : Option (List ℕ)) → o ≡ None → IsReadBack q written o
    → IsReadBack q written None
read_none q written o e back = let P : Option (List ℕ) → Type 0 = IsReadBack q written in subst P e back

pub read_some : (q : Bool) (written text : List ℕ) (o : Option (List ℕ)) → o ≡ Some text → IsReadBack q written o
    → IsReadBack q written (Some text)
read_some q written text o e back = let P : Option (List ℕ) → Type 0 = IsReadBack q written in subst P e back
