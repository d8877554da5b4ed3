-- A text with a value is a date text.
use Rattle.std.proofs.Common.{int_le, ◌≤ℤ◌, ◌≡◌, ◌≢◌, ℕ, ◌+◌, ◌-◌, ◌*◌, ◌/◌, ◌%◌, ◌<◌, ◌≤◌, ◌⊎◌, inl, inr, Bool, true}
use Rattle.std.proofs.Common.{false, cond, nat_le, nat_lt, List, [], ◌∷◌, ◌++◌, map, length, take, drop, refl, sym, ap}
use Rattle.std.proofs.Common.{◌∙◌, arith, ℤ, pos, neg_ℤ, ◌&&◌, ◌||◌, ◌==◌, Option, Some, None, codes, bytes_eq, ◌↔◌}
use Rattle.std.specs.Char.{is_ascii_digit}
use Rattle.std.specs.List.{list_all}
use Rattle.std.proofs.lemmas.Int.{ints}
use Rattle.std.proofs.lemmas.Bool.Decides.{nat_tests}
use Rattle.std.proofs.lemmas.List.{take-append-drop}
use Rattle.std.proofs.lemmas.Slice.Eq.{bytes_eq-Decides}
use Rattle.atom_values.specs.Calendar.{days_in_month}
use Rattle.atom_values.specs.DateFormula.{is_date, shape_of, has_form, is_date_time, is_fraction, is_offset}
use Rattle.atom_values.specs.DateFormula.{offset_length, year_in, month_in, day_in, hour_in, minute_in, second_in}
use Rattle.atom_values.specs.DateFormula.{stamp_at, value_of_parts, value_of, two_digits}
use Rattle.atom_values.specs.Stamp.{IsStamp, fixed_digits}
use Rattle.atom_values.specs.DateText.{Offset, utc, ahead, behind, offset_text, IsOffset, Parts, fraction_part, text_of}
use Rattle.atom_values.specs.DateText.{IsParts, date_time_text, moment_of, States}
use Rattle.atom_values.proofs.CalendarLemmas.{is_date_parts}
use Rattle.atom_values.proofs.DateFormLemmas.{two_back, four_back, le_tested}
use Rattle.atom_values.proofs.DateTextLemmas.{value_of-text_of}
use Rattle.atom_values.proofs.DateFormLemmas.{stamp_at_some}

-- two digits at the front of a text
record Two (text form : List ℕ) : Type 0 where
  number : ℕ
  rest : List ℕ
  is : text ≡ fixed_digits 2 number ++ rest
  small : number < 100
  more : map shape_of rest ≡ form

digit_range : (byte : ℕ) → shape_of byte ≡ 48 → (48 ≤ byte) × (byte ≤ 57)
digit_range byte h = grind (arith, nat_tests)

mark_is : (byte mark : ℕ) → mark ≢ 48 → shape_of byte ≡ mark → byte ≡ mark
mark_is byte mark apart h = grind (arith, nat_tests)

pair_is : (a b : ℕ) → (48 ≤ a) × (a ≤ 57) → (48 ≤ b) × (b ≤ 57) → fixed_digits 2 (10 * (a - 48) + (b - 48)) ≡ a ∷ b ∷ []
pair_is a b h k =
    let first : 48 + (10 * (a - 48) + (b - 48)) / 10 % 10 ≡ a = omega arith in
    let second : 48 + (10 * (a - 48) + (b - 48)) % 10 ≡ b = omega arith in
    cc (first, second)

two : (text form : List ℕ) → map shape_of text ≡ 48 ∷ 48 ∷ form → Two text form
two [] form h = cc
two (a ∷ []) form h = cc
two (a ∷ b ∷ rest) form h =
    let first = digit_range a (cc h) in
    let second = digit_range b (cc h) in
    record {
      number = 10 * (a - 48) + (b - 48);
      rest = rest;
      is = ap (λ xs. xs ++ rest) (sym (pair_is a b first second));
      small = omega arith;
      more = cc h;
    }

-- one other byte
record Mark (text : List ℕ) (mark : ℕ) (form : List ℕ) : Type 0 where
  rest : List ℕ
  is : text ≡ mark ∷ rest
  more : map shape_of rest ≡ form

mark_at : (text : List ℕ) (mark : ℕ) (form : List ℕ) → mark ≢ 48 → map shape_of text ≡ mark ∷ form → Mark text mark form
mark_at [] mark form apart h = cc
mark_at (byte ∷ rest) mark form apart h =
    let same = mark_is byte mark apart (cc h) in
    record { rest = rest; is = cc same; more = cc h }

ends : (text : List ℕ) → map shape_of text ≡ [] → text ≡ []
ends [] h = refl
ends (byte ∷ rest) h = cc

year_digits : (century year : ℕ) → century < 100 → year < 100 →
    fixed_digits 2 century ++ fixed_digits 2 year ≡ fixed_digits 4 (100 * century + year)
year_digits century year h k =
    let n = 100 * century + year in
    let a : 48 + century / 10 % 10 ≡ 48 + n / 10 / 10 / 10 % 10 = omega arith in
    let b : 48 + century % 10 ≡ 48 + n / 10 / 10 % 10 = omega arith in
    let c : 48 + year / 10 % 10 ≡ 48 + n / 10 % 10 = omega arith in
    let d : 48 + year % 10 ≡ 48 + n % 10 = omega arith in
    cc (a, b, c, d)

-- the parts of a date and time
pub record IsDateTime (text : List ℕ) : Type 0 where
  pub year : ℕ
  pub month : ℕ
  pub day : ℕ
  pub hour : ℕ
  pub minute : ℕ
  pub second : ℕ
  pub is : text ≡ fixed_digits 4 year ++ 45 ∷ [] ++ fixed_digits 2 month ++ 45 ∷ [] ++ fixed_digits 2 day ++ 84 ∷ []
      ++ fixed_digits 2 hour ++ 58 ∷ [] ++ fixed_digits 2 minute ++ 58 ∷ [] ++ fixed_digits 2 second
  pub year_small : year < 10_000
  pub month_small : month < 100
  pub day_small : day < 100
  pub hour_small : hour < 100
  pub minute_small : minute < 100
  pub second_small : second < 100

join : (text t₁ t₂ t₃ t₄ t₅ t₆ t₇ t₈ t₉ u v : List ℕ) (year month day hour minute second : ℕ) →
    text ≡ fixed_digits 4 year ++ t₁ → t₁ ≡ 45 ∷ t₂ → t₂ ≡ fixed_digits 2 month ++ t₃ → t₃ ≡ 45 ∷ t₄ →
    t₄ ≡ fixed_digits 2 day ++ t₅ → t₅ ≡ 84 ∷ t₆ → t₆ ≡ fixed_digits 2 hour ++ t₇ → t₇ ≡ 58 ∷ t₈ →
    t₈ ≡ fixed_digits 2 minute ++ t₉ → t₉ ≡ 58 ∷ u → u ≡ fixed_digits 2 second ++ v → v ≡ [] →
    text ≡ fixed_digits 4 year ++ 45 ∷ [] ++ fixed_digits 2 month ++ 45 ∷ [] ++ fixed_digits 2 day ++ 84 ∷ []
    ++ fixed_digits 2 hour ++ 58 ∷ [] ++ fixed_digits 2 minute ++ 58 ∷ [] ++ fixed_digits 2 second
join text t₁ t₂ t₃ t₄ t₅ t₆ t₇ t₈ t₉ u v year month day hour minute second e₁ e₂ e₃ e₄ e₅ e₆ e₇ e₈ e₉ f g h =
    rw (e₁, e₂, e₃, e₄, e₅, e₆, e₇, e₈, e₉, f, g, h) refl

pub date_time_parts : (text : List ℕ) → has_form text (codes "0000-00-00T00:00:00") ≡ true → IsDateTime text
date_time_parts text h =
    let same : map shape_of text ≡ codes "0000-00-00T00:00:00" =
    (bytes_eq-Decides (map shape_of text) (codes "0000-00-00T00:00:00")).0 h in
    let c = two text (codes "00-00-00T00:00:00") same in
    let y = two c.rest (codes "-00-00T00:00:00") c.more in
    let m1 = mark_at y.rest 45 (codes "00-00T00:00:00") (omega arith) y.more in
    let m = two m1.rest (codes "-00T00:00:00") m1.more in
    let m2 = mark_at m.rest 45 (codes "00T00:00:00") (omega arith) m.more in
    let d = two m2.rest (codes "T00:00:00") m2.more in
    let m3 = mark_at d.rest 84 (codes "00:00:00") (omega arith) d.more in
    let ho = two m3.rest (codes ":00:00") m3.more in
    let m4 = mark_at ho.rest 58 (codes "00:00") (omega arith) ho.more in
    let mi = two m4.rest (codes ":00") m4.more in
    let m5 = mark_at mi.rest 58 (codes "00") (omega arith) mi.more in
    let s = two m5.rest [] m5.more in
    let front : text ≡ fixed_digits 4 (100 * c.number + y.number) ++ y.rest =
    c.is ∙ ap (λ xs. fixed_digits 2 c.number ++ xs) y.is
    ∙ ap (λ xs. xs ++ y.rest) (year_digits c.number y.number c.small y.small) in
    record {
      year = 100 * c.number + y.number;
      month = m.number;
      day = d.number;
      hour = ho.number;
      minute = mi.number;
      second = s.number;
      is = join text y.rest m1.rest m.rest m2.rest d.rest m3.rest ho.rest m4.rest mi.rest m5.rest s.rest
          (100 * c.number + y.number) m.number d.number ho.number mi.number s.number front m1.is m.is m2.is d.is m3.is
          ho.is m4.is mi.is m5.is s.is (ends s.rest s.more);
      year_small = omega (arith, c.small, y.small);
      month_small = m.small;
      day_small = d.small;
      hour_small = ho.small;
      minute_small = mi.small;
      second_small = s.small;
    }

and_both : (a b : Bool) → (a && b) ≡ true → (a ≡ true) × (b ≡ true)
and_both true b h = (refl, h)
and_both false b h = cc

or_either : (a b : Bool) → (a || b) ≡ true → (a ≡ true) ⊎ (b ≡ true)
or_either true b h = inl refl
or_either false b h = inr h

eq_tested : (m n : ℕ) → (m == n) ≡ true → m ≡ n
eq_tested m n h = grind (arith, nat_tests)

-- a sign, hours and minutes
pub record IsSigned (text : List ℕ) (sign : ℕ) : Type 0 where
  hours : ℕ
  minutes : ℕ
  is : text ≡ sign ∷ (fixed_digits 2 hours ++ 58 ∷ [] ++ fixed_digits 2 minutes)
  hours_in : hours ≤ 23
  minutes_in : minutes ≤ 59

join_signed : (text t₁ t₂ t₃ t₄ : List ℕ) (sign hours minutes : ℕ) → text ≡ sign ∷ t₁ →
    t₁ ≡ fixed_digits 2 hours ++ t₂ →
    t₂ ≡ 58 ∷ t₃ → t₃ ≡ fixed_digits 2 minutes ++ t₄ → t₄ ≡ [] →
    text ≡ sign ∷ (fixed_digits 2 hours ++ 58 ∷ [] ++ fixed_digits 2 minutes)
join_signed text t₁ t₂ t₃ t₄ sign hours minutes e₁ e₂ e₃ e₄ e₅ = rw (e₁, e₂, e₃, e₄, e₅) refl

signed_parts : (text : List ℕ) (sign : ℕ) → sign ≢ 48 → map shape_of text ≡ sign ∷ codes "00:00" →
    two_digits text 1 ≤ 23 → two_digits text 4 ≤ 59 → IsSigned text sign
signed_parts text sign apart same hours minutes =
    let m = mark_at text sign (codes "00:00") apart same in
    let h = two m.rest (codes ":00") m.more in
    let m2 = mark_at h.rest 58 (codes "00") (omega arith) h.more in
    let mi = two m2.rest [] m2.more in
    let whole = join_signed text m.rest h.rest m2.rest mi.rest sign h.number mi.number m.is h.is m2.is mi.is
    (ends mi.rest mi.more) in
    let first = rw whole at hours in
    let second = rw whole at minutes in
    record {
      hours = h.number;
      minutes = mi.number;
      is = whole;
      hours_in = omega (arith, first, two_back h.number h.small);
      minutes_in = omega (arith, second, two_back mi.number mi.small);
    }

pub record IsOffsetText (text : List ℕ) : Type 0 where
  offset : Offset
  is : text ≡ offset_text offset
  offset_in : IsOffset offset

pub offset_parts : (text : List ℕ) → is_offset text ≡ true → IsOffsetText text
offset_parts text h =
    elim (or_either (bytes_eq text (codes "Z"))
    ((has_form text (codes "+00:00") || has_form text (codes "-00:00")) && nat_le (two_digits text 1) 23 && nat_le
    (two_digits text 4) 59) h) [
      | inl z ↦ record { offset = utc; is = (bytes_eq-Decides text (codes "Z")).0 z; offset_in = tt }
      | inr signed ↦
          let outer = and_both
          ((has_form text (codes "+00:00") || has_form text (codes "-00:00")) && nat_le (two_digits text 1) 23)
          (nat_le (two_digits text 4) 59) signed in
          let inner = and_both (has_form text (codes "+00:00") || has_form text (codes "-00:00"))
          (nat_le (two_digits text 1) 23) outer.0 in
          let hours = le_tested (two_digits text 1) 23 inner.1 in
          let minutes = le_tested (two_digits text 4) 59 outer.1 in
          elim (or_either (has_form text (codes "+00:00")) (has_form text (codes "-00:00")) inner.0) [
            | inl plus ↦
                let k = signed_parts text 43 (omega arith)
                ((bytes_eq-Decides (map shape_of text) (codes "+00:00")).0 plus) hours minutes in
                record { offset = ahead k.hours k.minutes; is = k.is; offset_in = (k.hours_in, k.minutes_in) }
            | inr minus ↦
                let k = signed_parts text 45 (omega arith)
                ((bytes_eq-Decides (map shape_of text) (codes "-00:00")).0 minus) hours minutes in
                record { offset = behind k.hours k.minutes; is = k.is; offset_in = (k.hours_in, k.minutes_in) }
          ]
    ]

pub record IsFractionText (text : List ℕ) : Type 0 where
  digits : List ℕ
  is : text ≡ fraction_part digits
  all : list_all is_ascii_digit digits ≡ true

pub fraction_parts : (text : List ℕ) → is_fraction text ≡ true → IsFractionText text
fraction_parts [] h = record { digits = []; is = refl; all = refl }
fraction_parts (point ∷ []) h =
    let outer = and_both ((point == 46) && nat_lt 0 0) true h in
    absurd (let none = and_both (point == 46) (nat_lt 0 0) outer.0 in cc none.1)
fraction_parts (point ∷ digit ∷ digits) h =
    let outer = and_both ((point == 46) && nat_lt 0 (length (digit ∷ digits)))
    (list_all is_ascii_digit (digit ∷ digits)) h in
    let first = eq_tested point 46 (and_both (point == 46) (nat_lt 0 (length (digit ∷ digits))) outer.0).0 in
    record { digits = digit ∷ digits; is = rw first refl; all = outer.1 }

given_some : (b : Bool) (value : Option ℤ) (z : ℤ) → cond b value None ≡ Some z → b ≡ true
given_some true value z h = refl
given_some false value z h = cc

pub parts_pass : (date_time fraction offset : List ℕ) (z : ℤ) → value_of_parts date_time fraction offset ≡ Some z →
    (is_date_time date_time ≡ true) × (is_fraction fraction ≡ true) × (is_offset offset ≡ true)
unfolding value_of_parts
parts_pass date_time fraction offset z h =
    let all = given_some (is_date_time date_time && is_fraction fraction && is_offset offset) _ z h in
    let outer = and_both (is_date_time date_time && is_fraction fraction) (is_offset offset) all in
    let inner = and_both (is_date_time date_time) (is_fraction fraction) outer.0 in
    (inner.0, inner.1, outer.1)

-- a text in three pieces that pass is a date text
record IsDateText (text : List ℕ) : Type 0 where
  parts : Parts
  are : IsParts parts
  is : text ≡ text_of parts

read_back : (text : List ℕ) (year month day hour minute second : ℕ) →
    text ≡ fixed_digits 4 year ++ 45 ∷ [] ++ fixed_digits 2 month ++ 45 ∷ [] ++ fixed_digits 2 day ++ 84 ∷ []
    ++ fixed_digits 2 hour ++ 58 ∷ [] ++ fixed_digits 2 minute ++ 58 ∷ [] ++ fixed_digits 2 second → year < 10_000 →
    month < 100 → day < 100 → hour < 100 → minute < 100 → second < 100 →
    (year_in text ≡ year) × (month_in text ≡ month) × (day_in text ≡ day) × (hour_in text ≡ hour)
    × (minute_in text ≡ minute) × (second_in text ≡ second)
read_back text year month day hour minute second e a b c d f g = (
  rw e (four_back year a),
  rw e (two_back month b),
  rw e (two_back day c),
  rw e (two_back hour d),
  rw e (two_back minute f),
  rw e (two_back second g),
)

date_facts : (year month day y m d : ℕ) → y ≡ year → m ≡ month → d ≡ day → is_date y m d ≡ true →
    (1 ≤ month) × (month ≤ 12) × (1 ≤ day) × (day ≤ days_in_month year month)
date_facts year month day y m d e f g h =
    rw (e, f, g) at ((is_date_parts m d (days_in_month y m)).0 h)

joined : (a x b y c z : List ℕ) → a ≡ x → b ≡ y → c ≡ z → a ++ (b ++ c) ≡ x ++ (y ++ z)
joined a x b y c z e f g = cc

-- three pieces with their parts
assembled : (date_time fraction offset : List ℕ) (d : IsDateTime date_time) (f : IsFractionText fraction)
    (o : IsOffsetText offset) → is_date (year_in date_time) (month_in date_time) (day_in date_time) ≡ true →
    hour_in date_time ≤ 23 → minute_in date_time ≤ 59 → second_in date_time ≤ 60 →
    IsDateText (date_time ++ (fraction ++ offset))
unfolding text_of
assembled date_time fraction offset d f o date hour minute second =
    let read = read_back date_time d.year d.month d.day d.hour d.minute d.second d.is d.year_small d.month_small
    d.day_small d.hour_small d.minute_small d.second_small in
    let valid = date_facts d.year d.month d.day (year_in date_time) (month_in date_time)
    (day_in date_time) read.0 read.1 read.2 date in
    let parts : Parts = record {
      year = d.year;
      month = d.month;
      day = d.day;
      hour = d.hour;
      minute = d.minute;
      second = d.second;
      fraction = f.digits;
      offset = o.offset;
    } in
    record {
      parts = parts;
      are = record {
        year_in = omega (arith, d.year_small);
        month_in = (valid.0, valid.1);
        day_in = (valid.2, valid.3);
        hour_in = omega (arith, read.3, hour);
        minute_in = omega (arith, read.4, minute);
        second_in = omega (arith, read.5, second);
        digits = f.all;
        offset_in = o.offset_in;
      };
      is = joined date_time (date_time_text parts) fraction (fraction_part f.digits) offset (offset_text o.offset)
          d.is f.is o.is;
    }

pieces : (date_time fraction offset : List ℕ) → is_date_time date_time ≡ true → is_fraction fraction ≡ true →
    is_offset offset ≡ true → IsDateText (date_time ++ (fraction ++ offset))
pieces date_time fraction offset a b c =
    let form = has_form date_time (codes "0000-00-00T00:00:00") in
    let date = is_date (year_in date_time) (month_in date_time) (day_in date_time) in
    let fifth = and_both (form && date && nat_le (hour_in date_time) 23 && nat_le (minute_in date_time) 59)
    (nat_le (second_in date_time) 60) a in
    let fourth = and_both (form && date && nat_le (hour_in date_time) 23) (nat_le (minute_in date_time) 59) fifth.0 in
    let third = and_both (form && date) (nat_le (hour_in date_time) 23) fourth.0 in
    let second = and_both form date third.0 in
    assembled date_time fraction offset (date_time_parts date_time second.0) (fraction_parts fraction b)
    (offset_parts offset c) second.1 (le_tested (hour_in date_time) 23 third.1)
    (le_tested (minute_in date_time) 59 fourth.1) (le_tested (second_in date_time) 60 fifth.1)

taken : (text : List ℕ) (n : ℕ) → text ≡ take 19 text ++ (take n (drop 19 text) ++ drop n (drop 19 text))
taken text n = rw (take-append-drop n (drop 19 text)) (sym (take-append-drop 19 text))

is_date_text : (text : List ℕ) (z : ℤ) → value_of text ≡ Some z → IsDateText text
unfolding value_of
is_date_text text z h =
    let rest = drop 19 text in
    let n = length rest - offset_length rest in
    let pass = parts_pass (take 19 text) (take n rest) (drop n rest) z h in
    rw (← taken text n) at (pieces (take 19 text) (take n rest) (drop n rest) pass.0 pass.1 pass.2)

le_from_test : (x y : ℤ) → int_le x y ≡ true → x ≤ℤ y
le_from_test x y h = grind (arith, ints)

in_range : (y : ℤ) → (int_le (neg_ℤ (pos 62_167_219_200_000)) y && int_le y (pos 253_402_300_799_999)) ≡ true →
    IsStamp y
in_range y h =
    let both = and_both (int_le (neg_ℤ (pos 62_167_219_200_000)) y) (int_le y (pos 253_402_300_799_999)) h in
    (le_from_test (neg_ℤ (pos 62_167_219_200_000)) y both.0, le_from_test y (pos 253_402_300_799_999) both.1)

stamp_given : (z y : ℤ) → stamp_at y ≡ Some z → (y ≡ z) × IsStamp z
stamp_given z y h =
    let pass = given_some (int_le (neg_ℤ (pos 62_167_219_200_000)) y && int_le y (pos 253_402_300_799_999))
    (Some y) z h in
    let some : Some y ≡ Some z = stamp_at_some y (in_range y pass) ∙ h in
    let same : y ≡ z = cc some in
    (same, rw same at (in_range y pass))

-- a text has the value z exactly where it is a date text that states z
pub value_of-states : (text : List ℕ) (z : ℤ) → (value_of text ≡ Some z) ↔ States text z
value_of-states text z = (
  λ h. let d = is_date_text text z h in
      let given = stamp_given z (moment_of d.parts) (sym (value_of-text_of d.parts d.are) ∙ ap value_of (sym d.is)
      ∙ h) in
      (d.parts, d.are, d.is, given.0, given.1),
  λ s. ap value_of s.2 ∙ value_of-text_of s.0 s.1 ∙ ap stamp_at s.3 ∙ sym (stamp_at_some z s.4),
)
