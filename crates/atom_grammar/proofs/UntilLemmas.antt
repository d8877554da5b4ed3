-- Texts without a byte, and the text before its first and last occurrence.
use Rattle.std.proofs.Common.{◌≡◌, ◌≢◌, ℕ, zero, suc, ◌+◌, ◌/◌, ◌%◌, ◌<◌, ◌≤◌, ◌^◌, Bool, true, false, cond, ◌==◌, ◌&&◌, not, List, [], ◌∷◌, ◌++◌, ℤ, Some, inl, refl, sym, ap, ◌∙◌, arith, rules, tests, codes, decimal}
use Rattle.std.proofs.lemmas.Bool.{and_parts, true≢false}
use Rattle.std.proofs.lemmas.Fmt.{decimal_by_steps}
use Rattle.uuid.proofs.RoundTrips.{parses_hyphenated}
use Rattle.uuid.specs.Text.{by_index, hex_digit, nibble, digit_place, is_hyphen_place, parsed, lower}
use Rattle.atom_values.specs.Escape.{escaped, escaped_byte}
use Rattle.atom_values.specs.Stamp.{printed, date_text, clock_text, time_text, fixed_digits, fraction_text, since_year_zero}
use Rattle.std.proofs.lemmas.Bool.Decides.{nat_tests}
use Rattle.atom_values.specs.XmlText.{IsAtomText}
use Rattle.atom_values.proofs.EscapeLemmas.{escaped-nil, escaped-cons}
use Rattle.atom_values.specs.Calendar.{year_of, month_of, day_of}
use Rattle.atom_values.proofs.UnescapeLemmas.{IsReadBack-all}
use Rattle.deleted_entries.specs.FeedId.{IsFeedId, feed_text}

-- the byte isn't in the text
abbrev pub Lacks : ℕ → List ℕ → Type 0
Lacks c [] = Unit {0}
Lacks c (x ∷ xs) = (x ≢ c) × Lacks c xs

pub Lacks-append : (c : ℕ) (xs ys : List ℕ) → Lacks c xs → Lacks c ys → Lacks c (xs ++ ys)
Lacks-append c [] ys a b = b
Lacks-append c (x ∷ xs) ys a b = (a.0, Lacks-append c xs ys a.1 b)

-- a test that a fixed text passes by computation
abbrev pub lacks : ℕ → List ℕ → Bool
lacks c [] = true
lacks c (x ∷ xs) = not (x == c) && lacks c xs

pub Lacks-tested : (c : ℕ) (xs : List ℕ) → lacks c xs ≡ true → Lacks c xs
Lacks-tested c [] e = tt
Lacks-tested c (x ∷ xs) e =
    let p = and_parts (not (x == c)) (lacks c xs) e in
    ((λ h. let P : x ≢ c = search (rules, tests) in P h), Lacks-tested c xs p.1)

-- two texts up to the first `byte`
pub until : (c : ℕ) (a b x y : List ℕ) → Lacks c a → Lacks c b → a ++ c ∷ x ≡ b ++ c ∷ y → (a ≡ b) × (x ≡ y)
until c [] [] x y lacks_a lacks_b e = (refl, cc)
until c [] (d ∷ b) x y lacks_a lacks_b e = let h : d ≡ c = cc in absurd (lacks_b.0 h)
until c (d ∷ a) [] x y lacks_a lacks_b e = let h : d ≡ c = cc in absurd (lacks_a.0 h)
until c (d ∷ a) (f ∷ b) x y lacks_a lacks_b e =
    let heads : d ≡ f = cc in
    let tails : a ++ c ∷ x ≡ b ++ c ∷ y = cc in
    let rest = until c a b x y lacks_a.1 lacks_b.1 tails in
    let same : d ∷ a ≡ f ∷ b = ap (λ z. d ∷ z) rest.0 ∙ ap (λ z. z ∷ b) heads in
    (same, rest.1)

has_none : (c : ℕ) (x b y : List ℕ) → Lacks c x → x ≡ b ++ c ∷ y → ⊥
has_none c [] [] y lacks_x e = cc
has_none c [] (d ∷ b) y lacks_x e = cc
has_none c (d ∷ x) [] y lacks_x e = let h : d ≡ c = cc in lacks_x.0 h
has_none c (d ∷ x) (f ∷ b) y lacks_x e = let tails : x ≡ b ++ c ∷ y = cc in has_none c x b y lacks_x.1 tails

-- two texts from the last `byte` on
pub behind_last : (c : ℕ) (a b x y : List ℕ) → Lacks c x → Lacks c y → a ++ c ∷ x ≡ b ++ c ∷ y → (a ≡ b) × (x ≡ y)
behind_last c [] [] x y lacks_x lacks_y e = (refl, cc)
behind_last c [] (d ∷ b) x y lacks_x lacks_y e = let h : x ≡ b ++ c ∷ y = cc in absurd (has_none c x b y lacks_x h)
behind_last c (d ∷ a) [] x y lacks_x lacks_y e = let h : y ≡ a ++ c ∷ x = cc in absurd (has_none c y a x lacks_y h)
behind_last c (d ∷ a) (f ∷ b) x y lacks_x lacks_y e =
    let heads : d ≡ f = cc in
    let tails : a ++ c ∷ x ≡ b ++ c ∷ y = cc in
    let rest = behind_last c a b x y lacks_x lacks_y tails in
    let same : d ∷ a ≡ f ∷ b = ap (λ z. d ∷ z) rest.0 ∙ ap (λ z. z ∷ b) heads in
    (same, rest.1)

Lacks-chosen : (c : ℕ) (t : Bool) (xs ys : List ℕ) → Lacks c xs → (t ≡ false → Lacks c ys) → Lacks c (cond t xs ys)
Lacks-chosen c true xs ys a b = a
Lacks-chosen c false xs ys a b = b refl

Lacks-escaped_byte : (b : ℕ) → Lacks 60 (escaped_byte false b)
Lacks-escaped_byte b =
    Lacks-chosen 60 (b == 38) _ _ (Lacks-tested 60 (codes "&amp;") refl)
    (λ _. Lacks-chosen 60 (b == 60) _ _ (Lacks-tested 60 (codes "&lt;") refl)
    (λ other. Lacks-chosen 60 (b == 62) _ _ (Lacks-tested 60 (codes "&gt;") refl)
    (λ _. Lacks-chosen 60 (b == 13) _ _ (Lacks-tested 60 (codes "&#13;") refl)
    (λ _. ((λ h. true≢false (sym (ap (λ n. n == 60) h) ∙ other)), tt)))))

pub Lacks-escaped : (t : List ℕ) → Lacks 60 (escaped false t)
Lacks-escaped [] = rw (escaped-nil false) tt
Lacks-escaped (x ∷ t) =
    rw (escaped-cons false x t)
    (Lacks-append 60 (escaped_byte false x) (escaped false t) (Lacks-escaped_byte x) (Lacks-escaped t))

Lacks-fixed_digits : (width n : ℕ) → Lacks 60 (fixed_digits width n)
Lacks-fixed_digits zero n = tt
Lacks-fixed_digits (suc width) n =
    Lacks-append 60 (fixed_digits width (n / 10)) ((48 + n % 10) ∷ []) (Lacks-fixed_digits width (n / 10))
    ((λ e. absurd (omega arith)), tt)

Lacks-then : (c x : ℕ) (xs ys : List ℕ) → lacks c (x ∷ []) ≡ true → Lacks c xs → Lacks c ys
    → Lacks c (xs ++ x ∷ [] ++ ys)
Lacks-then c x xs ys e a b =
    Lacks-append c (xs ++ x ∷ []) ys (Lacks-append c xs (x ∷ []) a (Lacks-tested c (x ∷ []) e)) b

Lacks-date_text : (day : ℕ) → Lacks 60 (date_text day)
unfolding date_text
Lacks-date_text day =
    Lacks-then 60 45 (fixed_digits 4 (year_of day) ++ 45 ∷ [] ++ fixed_digits 2 (month_of day))
    (fixed_digits 2 (day_of day)) refl
    (Lacks-then 60 45 (fixed_digits 4 (year_of day)) (fixed_digits 2 (month_of day)) refl
    (Lacks-fixed_digits 4 (year_of day)) (Lacks-fixed_digits 2 (month_of day)))
    (Lacks-fixed_digits 2 (day_of day))

Lacks-clock_text : (millis : ℕ) → Lacks 60 (clock_text millis)
unfolding clock_text
Lacks-clock_text millis =
    Lacks-then 60 58 (fixed_digits 2 (millis / 3_600_000) ++ 58 ∷ [] ++ fixed_digits 2 (millis / 60_000 % 60))
    (fixed_digits 2 (millis / 1_000 % 60)) refl
    (Lacks-then 60 58 (fixed_digits 2 (millis / 3_600_000)) (fixed_digits 2 (millis / 60_000 % 60)) refl
    (Lacks-fixed_digits 2 (millis / 3_600_000)) (Lacks-fixed_digits 2 (millis / 60_000 % 60)))
    (Lacks-fixed_digits 2 (millis / 1_000 % 60))

Lacks-fraction_text : (millis : ℕ) → Lacks 60 (fraction_text millis)
Lacks-fraction_text millis =
    Lacks-chosen 60 (millis == 0) [] (46 ∷ fixed_digits 3 millis) tt
    (λ _. ((λ e. absurd (omega arith)), Lacks-fixed_digits 3 millis))

pub Lacks-printed : (z : ℤ) → Lacks 60 (printed z)
unfolding printed
Lacks-printed z =
    let millis = since_year_zero z in
    Lacks-append 60 (date_text (millis / 86_400_000) ++ 84 ∷ [] ++ time_text (millis % 86_400_000)) (90 ∷ [])
    (Lacks-then 60 84 (date_text (millis / 86_400_000)) (time_text (millis % 86_400_000)) refl
    (Lacks-date_text (millis / 86_400_000))
    (Lacks-append 60 (clock_text (millis % 86_400_000)) (fraction_text (millis % 86_400_000 % 1_000))
    (Lacks-clock_text (millis % 86_400_000)) (Lacks-fraction_text (millis % 86_400_000 % 1_000))))
    ((λ e. absurd (omega arith)), tt)

hex_digit-ne : (d : ℕ) → hex_digit 97 d ≢ 60
hex_digit-ne d = grind (arith, nat_tests)

chosen-ne : (t : Bool) (a b c : ℕ) → a ≢ c → b ≢ c → cond t a b ≢ c
chosen-ne true a b c h k = h
chosen-ne false a b c h k = k

Lacks-by_index : (c n : ℕ) (f : ℕ → ℕ) → ((k : ℕ) → f k ≢ c) → Lacks c (by_index n f)
unfolding by_index
Lacks-by_index c zero f h = tt
Lacks-by_index c (suc n) f h = Lacks-append c (by_index n f) (f n ∷ []) (Lacks-by_index c n f h) (h n, tt)

pub Lacks-feed_text : (id : List ℕ) → IsFeedId id → Lacks 60 (feed_text id)
Lacks-feed_text id is =
    Lacks-by_index 60 36 _
    (λ k. chosen-ne (is_hyphen_place k) 45 (hex_digit 97 (nibble id (digit_place k))) 60
    (λ e. absurd (omega arith)) (hex_digit-ne (nibble id (digit_place k))))

-- a byte below the digits
pub Lacks-decimal_below : (c n : ℕ) → c < 48 → n < 2 ^ 32 → Lacks c (decimal n)
Lacks-decimal_below c n below small =
    decimal_by_steps (λ m ds. Lacks c ds) (λ m few. ((λ e. absurd (omega arith)), tt))
    (λ m ds many lacks_ds. Lacks-append c ds ((48 + m % 10) ∷ []) lacks_ds ((λ e. absurd (omega arith)), tt)) n
    (omega arith)

pub escaped_injective : (s t : List ℕ) → IsAtomText s → IsAtomText t → escaped false s ≡ escaped false t → s ≡ t
escaped_injective s t is_s is_t e =
    let both : Some s ≡ Some t =
    ((IsReadBack-all false (escaped false s) s (Some s) refl (refl, is_s)).exact t is_t).1 (sym e) in
    cc

pub feed_text_injective : (a b : List ℕ) → IsFeedId a → IsFeedId b → feed_text a ≡ feed_text b → a ≡ b
feed_text_injective a b is_a is_b e =
    let both : Some a ≡ Some b = parses_hyphenated lower a (inl refl) is_a.size is_a.each ∙ ap parsed e
    ∙ sym (parses_hyphenated lower b (inl refl) is_b.size is_b.each) in
    cc

-- lists that end with a byte each
pub last_same : (xs ys : List ℕ) (x y : ℕ) → xs ++ x ∷ [] ≡ ys ++ y ∷ [] → x ≡ y
last_same [] [] x y e = cc
last_same [] (d ∷ []) x y e = cc
last_same [] (d ∷ f ∷ ys) x y e = cc
last_same (d ∷ []) [] x y e = cc
last_same (d ∷ f ∷ xs) [] x y e = cc
last_same (d ∷ xs) (f ∷ ys) x y e = let tails : xs ++ x ∷ [] ≡ ys ++ y ∷ [] = cc in last_same xs ys x y tails

-- a number ends with a digit
pub record EndsWithDigit (ds : List ℕ) : Type 0 where
  pub front : List ℕ
  pub digit : ℕ
  pub above : 48 ≤ digit
  pub below : digit ≤ 57
  pub is : ds ≡ front ++ digit ∷ []

pub decimal_ends : (n : ℕ) → n < 2 ^ 32 → EndsWithDigit (decimal n)
decimal_ends n small =
    decimal_by_steps (λ m ds. EndsWithDigit ds) (λ m few. record {
      front = [];
      digit = 48 + m;
      above =
          omega arith;
      below = omega arith;
      is = refl;
    })
    (λ m ds many ends. record {
      front = ds;
      digit = 48 + m % 10;
      above = omega arith;
      below = omega arith;
      is =
          refl;
    }) n (omega arith)
