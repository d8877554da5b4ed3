-- The first line of an offer.
use Rattle.std.proofs.Common.{◌≡◌, ◌≢◌, ℕ, ◌+◌, ◌^◌, ◌/◌, ◌%◌, ◌<◌, ◌≤◌, Bool, true, false, List, [], ◌∷◌, ◌++◌, length, take, drop, decimal, Option, Some, None, Result, Ok, refl, sym, ap, ◌∙◌, subst, arith, length-drop}
use Rattle.std.specs.Prelude.{IfSome, IsTrue, is_some}
use Rattle.std.specs.Str.Parse.{ParsesUnsigned}
use Rattle.std.proofs.Math.Seq.{take-add}
use Rattle.std.proofs.lemmas.Fmt.{decimal_by_steps, decimal_digit, decimal_step, parse-decimal}
use Rattle.std.proofs.lemmas.List.{append-nil, append_assoc, drop-take, drop-drop, length-append, length-take-le, take-append-drop}
use Rattle.std.proofs.lemmas.List.Elements.{All-nil, All-cons, All-take}
use Rattle.atom_values.specs.Ascii.{lf, space}
use Rattle.doc_source.specs.Line.{BeginsCount, BeginsLine, HasNo, HasNoLf, IsFirst, IsLine}
use Rattle.doc_source.specs.Part.{IsLineEnd}
use Rattle.doc_source.specs.Pile.{IsAddress, address_limit, offer_limit}
use Rattle.doc_source.proofs.CutLemmas.{cut_unique, front_of, no_longer}

pub line_end_from : (bytes : List ℕ) (start at : ℕ) → start ≤ length bytes → IsFirst lf (drop start bytes) at →
    IsLineEnd bytes start (start + at)
line_end_from bytes start at h f =
    let rest : drop (at + 1) (drop start bytes) ≡ drop (start + at + 1) bytes =
    drop-drop (at + 1) start bytes ∙ ap (λ (n : ℕ). drop n bytes) (omega arith) in
    record {
      after = omega arith;
      within = omega (arith, f.within, length-drop start bytes);
      no_lf = subst HasNoLf (sym (drop-take start at bytes)) f.none_before;
      split =
          sym (take-append-drop start bytes)
          ∙ ap (λ (x : List ℕ). take start bytes ++ x) f.split
          ∙ sym (append_assoc (take start bytes) (take at (drop start bytes)) (lf ∷ drop (at + 1) (drop start bytes)))
          ∙ ap (λ (x : List ℕ). x ++ (lf ∷ drop (at + 1) (drop start bytes))) (sym (take-add start at bytes))
          ∙ ap (λ (x : List ℕ). take (start + at) bytes ++ (lf ∷ x)) rest;
    }

-- the number of an offer's bytes, as the parser of std reads it
pub parsed : {E : Type 0} (n : ℕ) (text digits : List ℕ) (r : Result ℕ E) → n ≤ offer_limit → digits ≡ decimal n →
    text ≡ digits → ParsesUnsigned 32 10 text r → r ≡ Ok n
parsed n text digits r h e same p = parse-decimal 32 n text r (omega arith) (omega arith) (same ∙ e) p

-- the text of a number, and its prefixes
record Fronts (n : ℕ) (text : List ℕ) : Type 0 where
  own : text ≡ decimal n
  fronts : (front back : List ℕ) → front ++ back ≡ text → 0 < length front →
      (k : ℕ) × (k ≤ n) × (front ≡ decimal k)

one_front : (n : ℕ) (front back : List ℕ) → n < 10 → front ++ back ≡ (48 + n) ∷ [] → 0 < length front →
    (k : ℕ) × (k ≤ n) × (front ≡ decimal k)
one_front n [] back small e some = absurd (omega arith)
one_front n (d ∷ []) back small e some =
    let digit : d ≡ 48 + n = cc in
    (n, omega arith, ap (λ (x : ℕ). x ∷ []) digit ∙ sym (decimal_digit n small))
one_front n (d ∷ c ∷ front) back small e some = absurd (omega (arith, ap length e))

more_front : (n digit : ℕ) (digits : List ℕ) (front back : List ℕ) → 10 ≤ n → digits ++ (digit ∷ []) ≡ decimal n →
    ((front' back' : List ℕ) → front' ++ back' ≡ digits → 0 < length front' →
    (k : ℕ) × (k ≤ n / 10) × (front' ≡ decimal k)) → front ++ back ≡ digits ++ (digit ∷ []) → 0 < length front →
    (k : ℕ) × (k ≤ n) × (front ≡ decimal k)
more_front n digit digits front [] big own less e some =
    (n, omega arith, sym (append-nil front) ∙ e ∙ own)
more_front n digit digits front (b ∷ back) big own less e some =
    let short : length front ≤ length digits =
    omega (arith, ap length e, length-append front (b ∷ back), length-append digits (digit ∷ [])) in
    let k = less front (drop (length front) digits) (front_of front (b ∷ back) digits (digit ∷ []) e short) some in
    (k.0, omega (arith, k.1), k.2)

fronts_of : (n : ℕ) → n < 2 ^ 64 → n < 2 ^ 64 → Fronts n (decimal n)
fronts_of n h = decimal_by_steps (λ m text. m < 2 ^ 64 → Fronts m text)
    (λ m small _. record {
      own = sym (decimal_digit m small);
      fronts = λ front back e some. one_front m front back small e some;
    })
    (λ m digits big less fits.
    let before = less (omega arith) in
    let own : digits ++ ((48 + m % 10) ∷ []) ≡ decimal m =
    ap (λ (x : List ℕ). x ++ ((48 + m % 10) ∷ [])) before.own ∙ sym (decimal_step m big fits) in
    record {
      own = own;
      fronts = λ front back e some. more_front m (48 + m % 10) digits front back big own before.fronts e some;
    })
    n h

-- a prefix of a number that isn't empty is a number
pub count_front : (digits : List ℕ) → 0 < length digits → BeginsCount digits →
    (k : ℕ) × (k ≤ offer_limit) × (digits ≡ decimal k)
count_front digits some b =
    let small : b.count < 2 ^ 64 = omega (arith, b.short) in
    let k = (fronts_of b.count small small).fronts digits b.more b.whole some in
    (k.0, omega (arith, k.1, b.short), k.2)

pub counts_begin : (digits : List ℕ) (r : Option ℕ) (b : Bool) → b ≡ is_some r →
    IfSome r (λ n. (n ≤ offer_limit) × (digits ≡ decimal n)) → IsTrue b → BeginsCount digits
counts_begin digits None b e found is = absurd (let h : false ≡ true = sym e ∙ is in cc)
counts_begin digits (Some n) b e found is =
    record { count = n; more = []; short = found.0; whole = append-nil digits ∙ found.1 }

pub begins_counts : (digits : List ℕ) (r : Option ℕ) (b : Bool) → b ≡ is_some r → 0 < length digits →
    ((n : ℕ) → n ≤ offer_limit → digits ≡ decimal n → r ≡ Some n) → BeginsCount digits → IsTrue b
begins_counts digits r b e some only begins =
    let k = count_front digits some begins in
    e ∙ ap is_some (only k.0 k.1 k.2)

pub nothing_begins : (digits : List ℕ) → digits ≡ [] → BeginsCount digits
nothing_begins digits e =
    record { count = 0; more = decimal 0; short = omega arith; whole = ap (λ (x : List ℕ). x ++ decimal 0) e }

-- a part with no space is a prefix of an address
pub no_space_begins : (part : List ℕ) → HasNoLf part → HasNo space part → length part ≤ address_limit → BeginsLine part
no_space_begins [] no_lf no_space short = record {
  address = 97 ∷ [];
  count = 0;
  more = (97 ∷ []) ++ (space ∷ decimal 0);
  is_address = record {
    some = omega arith;
    short = omega arith;
    no_space = All-cons (λ b. b ≢ space) 97 [] (λ e. omega (arith, e)) (All-nil (λ b. b ≢ space));
    no_lf = All-cons (λ b. b ≢ lf) 97 [] (λ e. omega (arith, e)) (All-nil (λ b. b ≢ lf));
  };
  short = omega arith;
  whole = refl;
}
no_space_begins (b ∷ part) no_lf no_space short = record {
  address = b ∷ part;
  count = 0;
  more = space ∷ decimal 0;
  is_address = record { some = omega arith; short = short; no_space = no_space; no_lf = no_lf };
  short = omega arith;
  whole = refl;
}

pub no_space_short : (part : List ℕ) → HasNo space part → BeginsLine part → length part ≤ address_limit
no_space_short part no_space b =
    omega (arith, no_longer space part b.more b.address (decimal b.count) no_space b.whole, b.is_address.short)

-- the parts round the first space
pub record Spaced (part : List ℕ) (at : ℕ) (front : List ℕ) (count : ℕ) (more : List ℕ) : Type 0 where
  pub address : take at part ≡ front
  pub digits : drop (at + 1) part ++ more ≡ decimal count
  pub some : 0 < at
  pub short : at ≤ address_limit

pub spaced : (part : List ℕ) (at : ℕ) → IsFirst space part at → (b : BeginsLine part) →
    Spaced part at b.address b.count b.more
spaced part at f b =
    let front = take at part in
    let back = drop (at + 1) part in
    let e : front ++ (space ∷ (back ++ b.more)) ≡ b.address ++ (space ∷ decimal b.count) =
    sym (append_assoc front (space ∷ back) b.more) ∙ ap (λ (x : List ℕ). x ++ b.more) (sym f.split) ∙ b.whole in
    let cut =
    cut_unique space front (back ++ b.more) b.address (decimal b.count) f.none_before b.is_address.no_space e in
    let long : length front ≡ at = length-take-le at part (omega (arith, f.within)) in
    record {
      address = cut.0;
      digits = cut.1;
      some = omega (arith, long, ap length cut.0, b.is_address.some);
      short = omega (arith, long, ap length cut.0, b.is_address.short);
    }

-- the part before the first space as an address
pub address_at : (part : List ℕ) (at : ℕ) → HasNoLf part → IsFirst space part at → 0 < at → at ≤ address_limit →
    IsAddress (take at part)
address_at part at no_lf f some short =
    let long : length (take at part) ≡ at = length-take-le at part (omega (arith, f.within)) in
    record {
      some = omega (arith, long, some);
      short = omega (arith, long, short);
      no_space = f.none_before;
      no_lf = All-take (λ b. b ≢ lf) at part no_lf;
    }

pub spaced_begins : (part : List ℕ) (at : ℕ) → HasNoLf part → IsFirst space part at → 0 < at → at ≤ address_limit →
    BeginsCount (drop (at + 1) part) → BeginsLine part
spaced_begins part at no_lf f some short b = record {
  address = take at part;
  count = b.count;
  more = b.more;
  is_address = address_at part at no_lf f some short;
  short = b.short;
  whole =
      ap (λ (x : List ℕ). x ++ b.more) f.split
      ∙ append_assoc (take at part) (space ∷ drop (at + 1) part) b.more
      ∙ ap (λ (x : List ℕ). take at part ++ (space ∷ x)) b.whole;
}

-- a line begins itself
pub line_begins : (line address : List ℕ) (count : ℕ) → IsLine line address count → BeginsLine line
line_begins line address count l = record {
  address = address;
  count = count;
  more = [];
  is_address = l.is_address;
  short = l.short;
  whole = append-nil line ∙ l.whole;
}

pub no_line : (line address : List ℕ) (count : ℕ) → HasNo space line → IsLine line address count → ⊥
no_line line address count no_space l =
    let h = no_longer space line [] address (decimal count) no_space (append-nil line ∙ l.whole) in
    absurd (omega (arith, h, ap length l.whole, length-append address (space ∷ decimal count)))

pub line_digits : (line address : List ℕ) (count at : ℕ) → IsFirst space line at → IsLine line address count →
    drop (at + 1) line ≡ decimal count
unfolding line_begins
line_digits line address count at f l =
    sym (append-nil (drop (at + 1) line)) ∙ (spaced line at f (line_begins line address count l)).digits

pub line_at : (line : List ℕ) (at count : ℕ) → HasNoLf line → IsFirst space line at → 0 < at → at ≤ address_limit →
    count ≤ offer_limit → drop (at + 1) line ≡ decimal count → IsLine line (take at line) count
line_at line at count no_lf f some short small digits = record {
  is_address = address_at line at no_lf f some short;
  short = small;
  whole = f.split ∙ ap (λ (x : List ℕ). take at line ++ (space ∷ x)) digits;
}
