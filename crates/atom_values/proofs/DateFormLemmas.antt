-- Texts of a form, in which each 0 means a digit.
use Rattle.std.proofs.Common.{rules, ◌*◌, ◌/◌, ◌%◌, Option, ℤ, pos, ◌-ℤ◌, IsSome, IfSome, ◌↔◌, codes, Bool, refl, cond}
use Rattle.std.proofs.Common.{◌&&◌, nat_le, Some, None, ◌+◌, ◌≡◌, ◌≢◌, inl, inr, ℕ, ◌-◌, ◌<◌, ◌≤◌, true, false, List}
use Rattle.std.proofs.Common.{map, length, get_or, sym, ap, ◌∙◌, arith}
use Rattle.std.proofs.lemmas.Int.{ints}
use Rattle.std.proofs.lemmas.Bool.{false_from_ne_true, cases_lt}
use Rattle.std.proofs.lemmas.Bool.Decides.{nat_tests}
use Rattle.std.proofs.lemmas.List.{length-map, get_or_past, get_or-map, get_or_default, same_lists}
use Rattle.std.proofs.lemmas.Slice.Eq.{bytes_eq-Decides}
use Rattle.atom_values.specs.DateFormula.{stamp_at, is_date_time, date_time_millis, is_fraction, fraction_millis}
use Rattle.atom_values.specs.DateFormula.{is_offset, offset_millis, value_of_parts, shape_of, has_form, year_in}
use Rattle.atom_values.specs.DateFormula.{month_in, day_in}
use Rattle.atom_values.specs.DateText.{digit_at}
use Rattle.atom_values.specs.Stamp.{IsStamp}
use Rattle.atom_values.specs.Calendar.{days_in_month}

pub has_form_all : (text form : List ℕ) → length text ≡ length form →
    ((k : ℕ) → k < length text → shape_of (get_or text k 0) ≡ get_or form k 0) → true ≡ has_form text form
has_form_all text form same each =
    sym ((bytes_eq-Decides (map shape_of text) form).1 (same_lists (map shape_of text) form (simp length-map same)
    (λ k d h.
    let within : k < length text = simp length-map at h in
    get_or-map shape_of text k 0 d within ∙ each k within ∙ get_or_default form k 0 d (omega arith))))

pub has_form_not : (text form : List ℕ) (i : ℕ) → i < length text → shape_of (get_or text i 0) ≢ get_or form i 0 →
    false ≡ has_form text form
has_form_not text form i within differs =
    sym (false_from_ne_true (has_form text form)
    (λ h. differs (sym (get_or-map shape_of text i 0 0 within)
    ∙ ap (λ xs. get_or xs i 0) ((bytes_eq-Decides (map shape_of text) form).0 h))))

shape_digit : (byte : ℕ) → shape_of byte ≡ 48 → byte - 48 ≤ 9
shape_digit byte e = grind (arith, nat_tests)

-- there is a digit at each 0 of the form
pub form_digit : (text form : List ℕ) (i : ℕ) → has_form text form ≡ true → get_or form i 0 ≡ 48 → digit_at text i ≤ 9
form_digit text form i h e =
    elim (cases_lt i (length text)) [
      | inl within ↦
          shape_digit (get_or text i 0)
          (sym (get_or-map shape_of text i 0 0 within)
          ∙ ap (λ xs. get_or xs i 0) ((bytes_eq-Decides (map shape_of text) form).0 h) ∙ e)
      | inr past ↦ omega (arith, get_or_past text i 0 past)
    ]

-- so the parts of a date and time are numbers with their number of digits
pub date_time_bounds : (text : List ℕ) → has_form text (codes "0000-00-00T00:00:00") ≡ true →
    (year_in text ≤ 9_999) × (month_in text ≤ 99) × (day_in text ≤ 99)
date_time_bounds text h =
    let digit : (i : ℕ) → get_or (codes "0000-00-00T00:00:00") i 0 ≡ 48 →
    digit_at text i ≤ 9 = λ i e. form_digit text (codes "0000-00-00T00:00:00") i h e in
    let year : year_in text ≤ 9_999 = omega (arith, digit 0 refl, digit 1 refl, digit 2 refl, digit 3 refl) in
    let month : month_in text ≤ 99 = omega (arith, digit 5 refl, digit 6 refl) in
    let day : day_in text ≤ 99 = omega (arith, digit 8 refl, digit 9 refl) in
    (year, month, day)

pub refused_date : (a b c d e : Bool) (x y : ℕ) → None ≡ cond b (Some x) None →
    None ≡ cond (a && b && c && d && e) (Some y) None
refused_date true true c d e x y h = cc
refused_date true false c d e x y h = refl
refused_date false b c d e x y h = refl

pub refused_time : (a b : Bool) (hour minute second y : ℕ) → (hour ≤ 23 → minute ≤ 59 → second ≤ 60 → ⊥) →
    None ≡ cond (a && b && nat_le hour 23 && nat_le minute 59 && nat_le second 60) (Some y) None
refused_time a b hour minute second y h = grind (arith, nat_tests)

pub stamp_at_some : (z : ℤ) → IsStamp z → Some z ≡ stamp_at z
stamp_at_some z h = grind (arith, ints)

stamp_at_none : (z : ℤ) → ¬ IsStamp z → None ≡ stamp_at z
stamp_at_none z h = grind (arith, ints)

-- `Stamp::new` returns the timestamp of a number of milliseconds
stamp_at_is : (given : Option ℤ) (z : ℤ) → IsSome given ↔ IsStamp z → IfSome given (λ stamp. stamp ≡ z) →
    given ≡ stamp_at z
stamp_at_is None z range value = stamp_at_none z (λ h. let none : false ≡ true = range.1 h in cc)
stamp_at_is (Some stamp) z range value = ap Some value ∙ stamp_at_some z (range.0 (search rules))

some_given : (b : Bool) (x y : ℕ) → Some x ≡ cond b (Some y) None → (b ≡ true) × (x ≡ y)
some_given true x y h = (refl, cc)
some_given false x y h = cc

pub value_given : (date_time fraction offset : List ℕ) (local : ℕ) (z : ℤ) (given : Option ℤ) →
    Some local ≡ cond (is_date_time date_time) (Some (date_time_millis date_time)) None → true ≡ is_fraction fraction →
    true ≡ is_offset offset →
    z ≡ pos (local + fraction_millis fraction) -ℤ pos 62_167_219_200_000 -ℤ offset_millis offset →
    IsSome given ↔ IsStamp z → IfSome given (λ stamp. stamp ≡ z) → given ≡ value_of_parts date_time fraction offset
unfolding value_of_parts
value_given date_time fraction offset local z given first second third e range value =
    let found = some_given (is_date_time date_time) local (date_time_millis date_time) first in
    let same : z ≡ pos (date_time_millis date_time + fraction_millis fraction) -ℤ pos 62_167_219_200_000 -ℤ
    offset_millis offset = rw found.1 at e in
    rw (found.0, ← second, ← third, ← same) (stamp_at_is given z range value)

pub refused_rest : (a b c : Bool) (value : Option ℤ) → (b ≡ true → c ≡ true → ⊥) → None ≡ cond (a && b && c) value None
refused_rest true true true value h = absurd (h refl refl)
refused_rest true true false value h = refl
refused_rest true false c value h = refl
refused_rest false b c value h = refl

pub refused_first : (a b c : Bool) (millis : ℕ) (value : Option ℤ) → None ≡ cond a (Some millis) None →
    None ≡ cond (a && b && c) value None
refused_first true b c millis value h = cc
refused_first false b c millis value h = refl

pub le_tested : (m n : ℕ) → nat_le m n ≡ true → m ≤ n
le_tested m n h = grind (arith, nat_tests)

pub le_test : (m n : ℕ) → m ≤ n → nat_le m n ≡ true
le_test m n h = grind (arith, nat_tests)

pub digit_shape : (n : ℕ) → shape_of (48 + n % 10) ≡ 48
digit_shape n = grind (arith, nat_tests)

-- a number of two or four digits is read back
pub two_back : (n : ℕ) → n < 100 → 10 * (48 + n / 10 % 10 - 48) + (48 + n % 10 - 48) ≡ n
two_back n h = omega arith

pub four_back : (n : ℕ) → n < 10_000 →
    100 * (10 * (48 + n / 10 / 10 / 10 % 10 - 48) + (48 + n / 10 / 10 % 10 - 48))
    + (10 * (48 + n / 10 % 10 - 48) + (48 + n % 10 - 48)) ≡ n
four_back n h = omega arith

pub days_short : (y m : ℕ) → days_in_month y m ≤ 31
days_short y m = grind (arith, nat_tests)

pub all_five : (a b c d e : Bool) → a ≡ true → b ≡ true → c ≡ true → d ≡ true → e ≡ true →
    (a && b && c && d && e) ≡ true
all_five a b c d e f g h i j = rw (f, g, h, i, j) refl
