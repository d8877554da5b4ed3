-- The walk over a number takes exactly the digits that `decimal` writes of it.
use Rattle.std.proofs.Common.{◌≡◌, ℕ, List, [], ◌∷◌, ◌++◌, length, get_or, drop, ◌+◌, ◌-◌, ◌*◌, ◌^◌, ◌<◌, ◌≤◌, true}
use Rattle.std.proofs.Common.{false, cond, nat_lt, Option, Some, None, decimal, refl, sym, ap, ◌∙◌, ⊎_elim, arith}
use Rattle.std.proofs.Common.{rules, lt-ltb, ltb-false, le-ltb, leb, le-leb, leb-true, zero-add}
use Rattle.std.specs.Char.{is_ascii_digit}
use Rattle.std.proofs.lemmas.Option.{some_pair_parts}
use Rattle.std.specs.Str.{all_ascii_digits}
use Rattle.std.proofs.lemmas.Bool.{cases_Bool, cond-true, cond-false, false_from_ne_true, and_parts, and_from}
use Rattle.std.proofs.lemmas.List.{at_drop_more, at_drop_all, drop_more}
use Rattle.std.proofs.lemmas.Str.Parse.{IsNumeralModel, numerals_by_fold, tells_all_ascii_digits}
use Rattle.std.proofs.lemmas.Fmt.{digits_decimal, digits_value-decimal, decimal-digits_value, first_decimal}
use Rattle.std.proofs.lemmas.Fmt.{decimal_nonempty}
use Rattle.chain_links.specs.Front.{BeginsWith, BeginsWithout, is_first_digit, HasNumber}

-- the number that digits give, after what was read before them
abbrev pub read_on : ℕ → List ℕ → ℕ
read_on n [] = n
read_on n (c ∷ cs) = read_on (n * 10 + (c - 48)) cs

own : IsNumeralModel (λ ds. all_ascii_digits ds ≡ true) (read_on 0)
own = numerals_by_fold _ tells_all_ascii_digits read_on (search rules)

-- the number below 2 ^ 32 whose digits come next, with the digits read before, and the text after them
abbrev pub number_after : ℕ → List ℕ → Option (ℕ × List ℕ)
number_after n [] = Some (n, [])
number_after n (c ∷ cs) =
    cond (is_ascii_digit c)
    (cond (nat_lt 4_294_967_295 (n * 10 + (c - 48))) None (number_after (n * 10 + (c - 48)) cs)) (Some (n, c ∷ cs))

record Taken (n : ℕ) (text : List ℕ) (value : ℕ) (rest : List ℕ) : Type 0 where
  digits : List ℕ
  are : all_ascii_digits digits ≡ true
  value_is : read_on n digits ≡ value
  small : value < 2 ^ 32
  spelt : digits ++ rest ≡ text

with_digit : (n c : ℕ) (cs : List ℕ) (value : ℕ) (rest : List ℕ) → is_ascii_digit c ≡ true →
    Taken (n * 10 + (c - 48)) cs value rest → Taken n (c ∷ cs) value rest
with_digit n c cs value rest e t = record {
  digits = c ∷ t.digits;
  are = and_from (is_ascii_digit c) (all_ascii_digits t.digits) e t.are;
  value_is = t.value_is;
  small = t.small;
  spelt = ap (λ x. c ∷ x) t.spelt;
}

at_end : (n : ℕ) (text : List ℕ) (value : ℕ) (rest : List ℕ) → n < 2 ^ 32 →
    ◌≡◌ {A = Option (ℕ × List ℕ)} (Some (n, text)) (Some (value, rest)) → Taken n text value rest
at_end n text value rest small e =
    let p = some_pair_parts n value text rest e in
    record { digits = []; are = refl; value_is = p.0; small = omega (arith, p.0); spelt = sym p.1 }

taken : (n : ℕ) (text : List ℕ) (value : ℕ) (rest : List ℕ) → n < 2 ^ 32 → number_after n text ≡ Some (value, rest) →
    Taken n text value rest
taken n [] value rest small e = at_end n [] value rest small e
taken n (c ∷ cs) value rest small e =
    ⊎_elim
    (λ digit.
    let h : cond (nat_lt 4_294_967_295 (n * 10 + (c - 48))) None (number_after (n * 10 + (c - 48)) cs)
    ≡ Some (value, rest) = rw digit at e in
    ⊎_elim
    (λ big. absurd (let k = rw big at h in cc))
    (λ fits. with_digit n c cs value rest digit
    (taken (n * 10 + (c - 48)) cs value rest (omega (arith, ltb-false 4_294_967_295 (n * 10 + (c - 48)) fits))
    (rw fits at h)))
    (cases_Bool (nat_lt 4_294_967_295 (n * 10 + (c - 48)))))
    (λ other. at_end n (c ∷ cs) value rest small (rw other at e))
    (cases_Bool (is_ascii_digit c))

read_on_ge : (n : ℕ) (ds : List ℕ) → n ≤ read_on n ds
read_on_ge n [] = omega arith
read_on_ge n (d ∷ ds) = omega (arith, read_on_ge (n * 10 + (d - 48)) ds)

stops : (n : ℕ) (rest : List ℕ) → BeginsWithout is_ascii_digit rest → number_after n rest ≡ Some (n, rest)
stops n [] e = refl
stops n (c ∷ cs) e = cond-false (is_ascii_digit c) _ _ (false_from_ne_true (is_ascii_digit c) e)

over : (n : ℕ) (ds rest : List ℕ) → all_ascii_digits ds ≡ true → read_on n ds < 2 ^ 32 →
    BeginsWithout is_ascii_digit rest → number_after n (ds ++ rest) ≡ Some (read_on n ds, rest)
over n [] rest are small ends = stops n rest ends
over n (d ∷ ds) rest are small ends =
    let p = and_parts (is_ascii_digit d) (all_ascii_digits ds) are in
    let below : nat_lt 4_294_967_295 (n * 10 + (d - 48)) ≡ false =
    le-ltb 4_294_967_295 (n * 10 + (d - 48)) (omega (arith, read_on_ge (n * 10 + (d - 48)) ds)) in
    cond-true (is_ascii_digit d) _ _ p.0 ∙ cond-false (nat_lt 4_294_967_295 (n * 10 + (d - 48))) _ _ below
    ∙ over (n * 10 + (d - 48)) ds rest p.1 small ends

digit_tells : (c : ℕ) → is_ascii_digit c ≡ true → (48 ≤ c) × (c ≤ 57)
digit_tells c e =
    let p = and_parts (leb 48 c) (leb c 57) e in
    (leb-true 48 c p.0, leb-true c 57 p.1)

is_digit : (c : ℕ) → 48 ≤ c → c ≤ 57 → is_ascii_digit c ≡ true
is_digit c low high = and_from (leb 48 c) (leb c 57) (le-leb 48 c low) (le-leb c 57 high)

first_digit : (ds : List ℕ) → all_ascii_digits ds ≡ true → 0 < length ds → get_or ds 0 0 ≤ 57
first_digit [] are some = absurd (omega arith)
first_digit (d ∷ ds) are some = (digit_tells d (and_parts (is_ascii_digit d) (all_ascii_digits ds) are).0).1

spelt_so : (d : ℕ) (ds : List ℕ) (value : ℕ) → 49 ≤ d → all_ascii_digits (d ∷ ds) ≡ true → read_on (d - 48) ds ≡ value →
    value < 2 ^ 32 → (1 ≤ value) × (decimal value ≡ d ∷ ds)
spelt_so d ds value low are v small =
    let whole : read_on 0 (d ∷ ds) ≡ value = ap (λ x. read_on x ds) (zero-add (d - 48)) ∙ v in
    let again : decimal (read_on 0 (d ∷ ds)) ≡ d ∷ ds =
    decimal-digits_value own (d ∷ ds) are (omega arith) (λ z. absurd (omega arith)) (omega arith) in
    (omega (arith, read_on_ge (d - 48) ds), ap decimal (sym whole) ∙ again)

above_zero : (c : ℕ) → is_first_digit c ≡ true → (49 ≤ c) × (c ≤ 57)
above_zero c e =
    let p = and_parts (leb 49 c) (leb c 57) e in
    (leb-true 49 c p.0, leb-true c 57 p.1)

-- the walk takes a number if the text begins with a digit other than 0
pub number_found : (text : List ℕ) (value : ℕ) (rest : List ℕ) → BeginsWith is_first_digit text →
    number_after 0 text ≡ Some (value, rest) → HasNumber text value rest
number_found [] value rest above e = absurd above
number_found (d ∷ cs) value rest above e =
    let low : 49 ≤ d = (above_zero d above).0 in
    let digit = is_digit d (omega arith) (above_zero d above).1 in
    let fits : nat_lt 4_294_967_295 (0 * 10 + (d - 48)) ≡ false =
    le-ltb 4_294_967_295 (0 * 10 + (d - 48)) (omega (arith, (above_zero d above).1)) in
    let h : number_after (0 * 10 + (d - 48)) cs ≡ Some (value, rest) = sym (cond-true (is_ascii_digit d) _ _ digit
    ∙ cond-false (nat_lt 4_294_967_295 (0 * 10 + (d - 48))) _ _ fits) ∙ e in
    let t = taken (0 * 10 + (d - 48)) cs value rest (omega (arith, (above_zero d above).1)) h in
    let p = spelt_so d t.digits value low (and_from (is_ascii_digit d) (all_ascii_digits t.digits) digit t.are)
    (ap (λ x. read_on x t.digits) (sym (zero-add (d - 48))) ∙ t.value_is) t.small in
    (p.0, sym (ap (λ x. x ++ rest) p.1 ∙ ap (λ x. d ∷ x) t.spelt))

begins_above : (digits rest : List ℕ) → 0 < length digits → 48 < get_or digits 0 0 → get_or digits 0 0 ≤ 57 →
    BeginsWith is_first_digit (digits ++ rest)
begins_above [] rest some low high = absurd (omega arith)
begins_above (d ∷ ds) rest some low high = and_from (leb 49 d) (leb d 57) (le-leb 49 d low) (le-leb d 57 high)

-- a number from 1 begins with a digit other than 0
pub number_begins : (text : List ℕ) (n : ℕ) (rest : List ℕ) → 1 ≤ n → n < 2 ^ 32 → text ≡ decimal n ++ rest →
    BeginsWith is_first_digit text
number_begins text n rest some small e =
    let some_digits = decimal_nonempty n (omega arith) in
    rw e
    (begins_above (decimal n) rest some_digits (first_decimal n some (omega arith))
    (first_digit (decimal n) (digits_decimal own n (omega arith)) some_digits))

pub number_only : (text : List ℕ) (n : ℕ) (rest : List ℕ) → n < 2 ^ 32 → BeginsWithout is_ascii_digit rest →
    text ≡ decimal n ++ rest → number_after 0 text ≡ Some (n, rest)
number_only text n rest small ends e =
    let v : read_on 0 (decimal n) ≡ n = digits_value-decimal own n (omega arith) in
    ap (number_after 0) e ∙ over 0 (decimal n) rest (digits_decimal own n (omega arith)) (omega arith) ends
    ∙ ap (λ (x : ℕ). Some (x, rest)) v

-- the state of the walk
pub number_ends : (text : List ℕ) (i n : ℕ) → number_after n (drop i text) ≡ number_after 0 text → i < length text →
    is_ascii_digit (get_or text i 0) ≡ false → number_after 0 text ≡ Some (n, drop i text)
number_ends text i n walk lt other =
    let more : number_after n (drop i text) ≡ Some (n, get_or text i 0 ∷ drop (i + 1) text) =
    at_drop_more (number_after n) text i 0 lt ∙ cond-false (is_ascii_digit (get_or text i 0)) _ _ other in
    sym walk ∙ more ∙ ap (λ (x : List ℕ). Some (n, x)) (sym (drop_more text i 0 lt))

pub number_too_large : (text : List ℕ) (i n : ℕ) → number_after n (drop i text) ≡ number_after 0 text →
    i < length text →
    is_ascii_digit (get_or text i 0) ≡ true → 4_294_967_295 < n * 10 + (get_or text i 0 - 48) →
    number_after 0 text ≡ None
number_too_large text i n walk lt digit big =
    sym walk ∙ at_drop_more (number_after n) text i 0 lt ∙ cond-true (is_ascii_digit (get_or text i 0)) _ _ digit
    ∙ cond-true (nat_lt 4_294_967_295 (n * 10 + (get_or text i 0 - 48))) _ _
    (lt-ltb 4_294_967_295 (n * 10 + (get_or text i 0 - 48)) big)

pub number_more : (text : List ℕ) (i n : ℕ) → number_after n (drop i text) ≡ number_after 0 text → i < length text →
    is_ascii_digit (get_or text i 0) ≡ true → n * 10 + (get_or text i 0 - 48) ≤ 4_294_967_295 →
    number_after (n * 10 + (get_or text i 0 - 48)) (drop (i + 1) text) ≡ number_after 0 text
number_more text i n walk lt digit fits =
    sym (at_drop_more (number_after n) text i 0 lt ∙ cond-true (is_ascii_digit (get_or text i 0)) _ _ digit
    ∙ cond-false (nat_lt 4_294_967_295 (n * 10 + (get_or text i 0 - 48))) _ _
    (le-ltb 4_294_967_295 (n * 10 + (get_or text i 0 - 48)) fits)) ∙ walk

pub text_ends : (text : List ℕ) (i n : ℕ) → number_after n (drop i text) ≡ number_after 0 text → length text ≤ i →
    number_after 0 text ≡ Some (n, [])
text_ends text i n walk ends = sym walk ∙ at_drop_all (number_after n) text i ends
