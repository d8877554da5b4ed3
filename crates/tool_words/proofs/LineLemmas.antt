-- The ask of a line of `apply`, by its parts.
use Rattle.std.proofs.Common.{◌≡◌, ◌≢◌, ◌⊎◌, ℕ, ◌+◌, ◌-◌, ◌<◌, ◌≤◌, ◌^◌, Bool, true, false, ◌&&◌, if◌then◌else◌, eqb}
use Rattle.std.proofs.Common.{List, [], ◌∷◌, ◌++◌, length, take, drop, codes, decimal, Option, Some, None, option_map}
use Rattle.std.proofs.Common.{option_and_then, Result, Ok, Err, IfOk, IfSome, inl, inr, subst, nat_le, nat_eq, refl}
use Rattle.std.proofs.Common.{sym, ap, ◌∙◌, ⊎_elim, arith, leb-true}
use Rattle.std.specs.List.{starts_with}
use Rattle.std.specs.Result.{IsErrAnd}
use Rattle.std.specs.Str.{bytes_eq}
use Rattle.std.specs.Str.Parse.{digits_value, AllDigits}
use Rattle.std.proofs.lemmas.Bool.{and_parts, both_ways, false_from_ne_true, le-leb, lt-leb, eqb-true}
use Rattle.std.proofs.lemmas.Fmt.{digits_value-decimal}
use Rattle.std.proofs.lemmas.List.{take_all, length-drop}
use Rattle.std.proofs.lemmas.List.Elements.{All-head, All-tail}
use Rattle.std.proofs.lemmas.Slice.Eq.{bytes_eq-Decides}
use Rattle.std.proofs.lemmas.Str.Parse.{numerals_by_value, tells_digits}
use Rattle.atom_values.specs.declared.text.TextFault.{TextFault}
use Rattle.atom_values.specs.declared.text.TextFault.TheVariants.{TooLong, NotXmlChar, NoMemory}
use Rattle.atom_values.specs.XmlText.{is_xml_text, IsAtomText, IsTextFault}
use Rattle.tool_words.specs.declared.line.LineAsk.{LineAsk}
use Rattle.tool_words.specs.declared.line.LineAsk.TheVariants.{Add, Change, Remove, Title, Window}
use Rattle.tool_words.specs.declared.fault.LineFault.{LineFault}
use Rattle.tool_words.specs.declared.fault.LineFault.TheVariants.{BadLine, NoMemory as OutOfMemory}
use Rattle.tool_words.specs.Line.{HasNo, IsFirst, IsLineAsk, change_by, change_of, line_ask, line_title_limit}
use Rattle.tool_words.specs.Line.{line_window_limit, member_number, number_up_to, parted, title_of, window_number}

-- the title
pub title_of-long : (title : List ℕ) → line_title_limit < length title → title_of title ≡ None
unfolding title_of
title_of-long title h = let long : nat_le (length title) line_title_limit ≡ false =
    lt-leb (length title) line_title_limit h in rw long refl

pub title_of-no_text : (title : List ℕ) → is_xml_text title ≡ false → title_of title ≡ None
unfolding title_of
title_of-no_text title h =
    elim (nat_le (length title) line_title_limit) as
    (λ b. (if b && is_xml_text title then Some title else None) ≡ None) [ true ↦ rw h refl | false ↦ refl ]

pub title_of-text : (title : List ℕ) → length title ≤ line_title_limit → IsAtomText title →
    title_of title ≡ Some title
unfolding title_of
title_of-text title short h = let few : nat_le (length title) line_title_limit ≡ true =
    le-leb (length title) line_title_limit short in rw (few, h.xml) refl

-- a number up to a limit
digits-are : (n : ℕ) → n < 2 ^ 32 → digits_value 10 (decimal n) ≡ n
digits-are n h = digits_value-decimal (numerals_by_value (AllDigits 10) tells_digits) n (omega arith)

same_bytes : (xs ys : List ℕ) → xs ≡ ys → bytes_eq xs ys ≡ true
same_bytes xs ys e = (bytes_eq-Decides xs ys).1 e

number_up_to-some : (limit : ℕ) (digits : List ℕ) (n : ℕ) → 1 ≤ n → n ≤ limit → n < 2 ^ 32 → digits ≡ decimal n →
    number_up_to limit digits ≡ Some n
unfolding number_up_to
number_up_to-some limit digits n low high fits e =
    let value : digits_value 10 digits ≡ n = ap (digits_value 10) e ∙ digits-are n fits in
    let same = same_bytes digits (decimal n) e in
    let above : nat_le 1 n ≡ true = le-leb 1 n low in
    let below : nat_le n limit ≡ true = le-leb n limit high in
    rw value (rw (same, above, below) refl)

number_up_to-none : (limit : ℕ) (digits : List ℕ) → ((n : ℕ) → 1 ≤ n → n ≤ limit → digits ≢ decimal n) →
    number_up_to limit digits ≡ None
unfolding number_up_to
number_up_to-none limit digits other =
    let n = digits_value 10 digits in
    let bad : (bytes_eq digits (decimal n) && nat_le 1 n && nat_le n limit) ≡ false =
    false_from_ne_true (bytes_eq digits (decimal n) && nat_le 1 n && nat_le n limit) (λ good.
    let parts = and_parts (bytes_eq digits (decimal n) && nat_le 1 n) (nat_le n limit) good in
    let first = and_parts (bytes_eq digits (decimal n)) (nat_le 1 n) parts.0 in
    other n (leb-true 1 n first.1) (leb-true n limit parts.1) ((bytes_eq-Decides digits (decimal n)).0 first.0)) in
    rw bad refl

-- a member's number
pub member_number-some : (digits : List ℕ) (n : ℕ) → 1 ≤ n → n < 2 ^ 32 → digits ≡ decimal n →
    member_number digits ≡ Some n
member_number-some digits n low high e = number_up_to-some 4_294_967_295 digits n low (omega arith) high e

pub member_number-none : (digits : List ℕ) → ((n : ℕ) → 1 ≤ n → n < 2 ^ 32 → digits ≢ decimal n) →
    member_number digits ≡ None
member_number-none digits other =
    number_up_to-none 4_294_967_295 digits (λ n low high. other n low (omega arith))

-- a number of operations of a window
pub window_number-some : (digits : List ℕ) (n : ℕ) → 1 ≤ n → n ≤ line_window_limit → digits ≡ decimal n →
    window_number digits ≡ Some n
window_number-some digits n low high e = number_up_to-some line_window_limit digits n low high (omega arith) e

pub window_number-none : (digits : List ℕ) → ((n : ℕ) → 1 ≤ n → n ≤ line_window_limit → digits ≢ decimal n) →
    window_number digits ≡ None
window_number-none digits other = number_up_to-none line_window_limit digits other

-- the digits of a number that is too large are no number of operations
pub window_number-large : (digits : List ℕ) (n : ℕ) → line_window_limit < n → n < 2 ^ 32 → digits ≡ decimal n →
    window_number digits ≡ None
window_number-large digits n large fits e = window_number-none digits (λ m low high other.
    let same : m ≡ n =
    sym (digits-are m (omega arith)) ∙ ap (digits_value 10) (sym other ∙ e) ∙ digits-are n fits in
    omega arith)

-- words with a first space
pub parted-some : (front back : List ℕ) → HasNo 32 front → parted (front ++ 32 ∷ back) ≡ Some (front, back)
parted-some [] back h = refl
parted-some (b ∷ front) back h =
    let other : eqb b 32 ≡ false =
    false_from_ne_true (eqb b 32) (λ e. All-head (λ x. x ≢ 32) b front h (eqb-true b 32 e)) in
    rw other (rw (parted-some front back (All-tail (λ x. x ≢ 32) b front h)) refl)

pub parted-none : (words : List ℕ) → HasNo 32 words → parted words ≡ None
parted-none [] h = refl
parted-none (b ∷ words) h =
    let other : eqb b 32 ≡ false =
    false_from_ne_true (eqb b 32) (λ e. All-head (λ x. x ≢ 32) b words h (eqb-true b 32 e)) in
    rw other (rw (parted-none words (All-tail (λ x. x ≢ 32) b words h)) refl)

-- the words are cut at the first space
pub parted-at : (words : List ℕ) (at : ℕ) → IsFirst 32 words at →
    parted words ≡ Some (take at words, take (length words - (at + 1)) (drop (at + 1) words))
parted-at words at h =
    let whole : take (length words - (at + 1)) (drop (at + 1) words) ≡ drop (at + 1) words =
    take_all (length words - (at + 1)) (drop (at + 1) words) (omega (arith, length-drop (at + 1) words)) in
    ap parted h.split ∙ parted-some (take at words) (drop (at + 1) words) h.none_before
    ∙ ap (λ (back : List ℕ). Some (take at words, back)) (sym whole)

-- the change that words ask for, by their parts
pub change_of-unparted : (words : List ℕ) → parted words ≡ None → change_of words ≡ None
unfolding change_of
change_of-unparted words e = rw e refl

change_of-parts : (words digits title : List ℕ) → parted words ≡ Some (digits, title) →
    change_of words ≡ option_and_then (λ (n : ℕ). option_map (Change n) (title_of title)) (member_number digits)
unfolding change_of
change_of-parts words digits title e = rw e refl

pub change_of-no_number : (words digits title : List ℕ) → parted words ≡ Some (digits, title) →
    member_number digits ≡ None → change_of words ≡ None
change_of-no_number words digits title e none = change_of-parts words digits title e ∙ rw none refl

pub change_of-no_title : (words digits title : List ℕ) (number : ℕ) → parted words ≡ Some (digits, title) →
    member_number digits ≡ Some number → title_of title ≡ None → change_of words ≡ None
change_of-no_title words digits title number e some none = change_of-parts words digits title e ∙ rw (some, none) refl

pub change_of-both : (words digits title text : List ℕ) (number : ℕ) → parted words ≡ Some (digits, title) →
    member_number digits ≡ Some number → title_of title ≡ Some text → change_of words ≡ Some (Change number text)
change_of-both words digits title text number e some found = change_of-parts words digits title e
    ∙ rw (some, found) refl

swapped : (xs ys : List ℕ) → bytes_eq xs ys ≡ true → bytes_eq ys xs ≡ true
swapped xs ys h = (bytes_eq-Decides ys xs).1 (sym ((bytes_eq-Decides xs ys).0 h))

swapped-false : (xs ys : List ℕ) → bytes_eq xs ys ≡ false → bytes_eq ys xs ≡ false
swapped-false xs ys h = false_from_ne_true _ (λ t. both_ways _ h (swapped ys xs t))

-- the ask of a line, by its first word
pub line_ask-add : (line : List ℕ) → bytes_eq (take 4 line) (codes "add ") ≡ true →
    line_ask line ≡ option_map Add (title_of (drop 4 line))
unfolding line_ask
line_ask-add line a = rw (swapped (take 4 line) (codes "add ") a) refl

pub line_ask-change : (line : List ℕ) → bytes_eq (take 4 line) (codes "add ") ≡ false →
    bytes_eq (take 7 line) (codes "change ") ≡ true → line_ask line ≡ change_of (drop 7 line)
unfolding line_ask
line_ask-change line a b =
    rw (swapped-false (take 4 line) (codes "add ") a, swapped (take 7 line) (codes "change ") b) refl

pub line_ask-remove : (line : List ℕ) → bytes_eq (take 4 line) (codes "add ") ≡ false →
    bytes_eq (take 7 line) (codes "change ") ≡ false → bytes_eq (take 7 line) (codes "remove ") ≡ true →
    line_ask line ≡ option_map Remove (member_number (drop 7 line))
unfolding line_ask
line_ask-remove line a b c =
    rw (
      swapped-false (take 4 line) (codes "add ") a,
      swapped-false (take 7 line) (codes "change ") b,
      swapped (take 7 line) (codes "remove ") c,
    ) refl

pub line_ask-title : (line : List ℕ) → bytes_eq (take 4 line) (codes "add ") ≡ false →
    bytes_eq (take 7 line) (codes "change ") ≡ false → bytes_eq (take 7 line) (codes "remove ") ≡ false →
    bytes_eq (take 6 line) (codes "title ") ≡ true → line_ask line ≡ option_map Title (title_of (drop 6 line))
unfolding line_ask
line_ask-title line a b c d =
    rw (
      swapped-false (take 4 line) (codes "add ") a,
      swapped-false (take 7 line) (codes "change ") b,
      swapped-false (take 7 line) (codes "remove ") c,
      swapped (take 6 line) (codes "title ") d,
    ) refl

pub line_ask-window : (line : List ℕ) → bytes_eq (take 4 line) (codes "add ") ≡ false →
    bytes_eq (take 7 line) (codes "change ") ≡ false → bytes_eq (take 7 line) (codes "remove ") ≡ false →
    bytes_eq (take 6 line) (codes "title ") ≡ false → bytes_eq (take 7 line) (codes "window ") ≡ true →
    line_ask line ≡ option_map Window (window_number (drop 7 line))
unfolding line_ask
line_ask-window line a b c d e =
    rw (
      swapped-false (take 4 line) (codes "add ") a,
      swapped-false (take 7 line) (codes "change ") b,
      swapped-false (take 7 line) (codes "remove ") c,
      swapped-false (take 6 line) (codes "title ") d,
      swapped (take 7 line) (codes "window ") e,
    ) refl

pub line_ask-none : (line : List ℕ) → bytes_eq (take 4 line) (codes "add ") ≡ false →
    bytes_eq (take 7 line) (codes "change ") ≡ false → bytes_eq (take 7 line) (codes "remove ") ≡ false →
    bytes_eq (take 6 line) (codes "title ") ≡ false → bytes_eq (take 7 line) (codes "window ") ≡ false →
    line_ask line ≡ None
unfolding line_ask
line_ask-none line a b c d e =
    rw (
      swapped-false (take 4 line) (codes "add ") a,
      swapped-false (take 7 line) (codes "change ") b,
      swapped-false (take 7 line) (codes "remove ") c,
      swapped-false (take 6 line) (codes "title ") d,
      swapped-false (take 7 line) (codes "window ") e,
    ) refl

-- ---- the limits of what a line asks for

-- a new title of the feed has at most as many bytes as a title may have
title_of-limit : (title : List ℕ) → IfSome (option_map Title (title_of title)) IsLineAsk
unfolding title_of
title_of-limit title =
    elim (nat_le (length title) line_title_limit) as
    (λ b. nat_le (length title) line_title_limit ≡ b →
    IfSome (option_map Title (if b && is_xml_text title then Some title else None)) IsLineAsk) [
      | true ↦ λ short. elim (is_xml_text title) as
          (λ b. IfSome (option_map Title (if b then Some title else None)) IsLineAsk) [
            | true ↦ leb-true (length title) line_title_limit short
            | false ↦ tt
          ]
      | false ↦ λ _. tt
    ] refl

-- a new size is one that a window may have
window_number-limit : (digits : List ℕ) → IfSome (option_map Window (window_number digits)) IsLineAsk
unfolding number_up_to
window_number-limit digits =
    let n = digits_value 10 digits in
    elim (bytes_eq digits (decimal n) && nat_le 1 n && nat_le n line_window_limit) as
    (λ b. (bytes_eq digits (decimal n) && nat_le 1 n && nat_le n line_window_limit) ≡ b →
    IfSome (option_map Window (if b then Some n else None)) IsLineAsk) [
      | true ↦ λ good.
          let parts = and_parts (bytes_eq digits (decimal n) && nat_le 1 n) (nat_le n line_window_limit) good in
          let first = and_parts (bytes_eq digits (decimal n)) (nat_le 1 n) parts.0 in
          (leb-true 1 n first.1, leb-true n line_window_limit parts.1)
      | false ↦ λ _. tt
    ] refl

-- the other lines ask for nothing that has a limit here
add-limit : (title : Option (List ℕ)) → IfSome (option_map Add title) IsLineAsk
add-limit (Some title) = tt
add-limit None = tt

remove-limit : (number : Option ℕ) → IfSome (option_map Remove number) IsLineAsk
remove-limit (Some number) = tt
remove-limit None = tt

titled-limit : (number : ℕ) (title : Option (List ℕ)) → IfSome (option_map (Change number) title) IsLineAsk
titled-limit number (Some title) = tt
titled-limit number None = tt

numbered-limit : (number : Option ℕ) (title : Option (List ℕ)) →
    IfSome (option_and_then (λ (n : ℕ). option_map (Change n) title) number) IsLineAsk
numbered-limit (Some number) title = titled-limit number title
numbered-limit None title = tt

parts-limit : (parts : Option (List ℕ × List ℕ)) → IfSome (option_and_then change_by parts) IsLineAsk
parts-limit (Some parts) = numbered-limit (member_number parts.0) (title_of parts.1)
parts-limit None = tt

change_of-limit : (words : List ℕ) → IfSome (change_of words) IsLineAsk
unfolding change_of
change_of-limit words = parts-limit (parted words)

-- what holds of both values holds of the one that the test takes
either : {X : Type 0} (Q : X → Type 0) (b : Bool) (x y : X) → Q x → Q y → Q (if b then x else y)
either Q true x y h k = h
either Q false x y h k = k

-- what a line asks for is within the limits
pub line_ask-limits : (line : List ℕ) → IfSome (line_ask line) IsLineAsk
unfolding line_ask
line_ask-limits line =
    let Q = λ (o : Option LineAsk). IfSome o IsLineAsk in
    either Q (starts_with nat_eq line (codes "add ")) _ _ (add-limit _)
    (either Q (starts_with nat_eq line (codes "change ")) _ _ (change_of-limit _)
    (either Q (starts_with nat_eq line (codes "remove ")) _ _ (remove-limit _)
    (either Q (starts_with nat_eq line (codes "title ")) _ _ (title_of-limit _)
    (either Q (starts_with nat_eq line (codes "window ")) _ _ (window_number-limit _) tt))))

-- a fault other than out of memory refuses a short text
pub refused_text : (bytes : List ℕ) (fault : TextFault) → fault ≢ NoMemory → length bytes ≤ line_title_limit →
    IsTextFault bytes fault → is_xml_text bytes ≡ false
refused_text bytes (TooLong n) other short h = absurd (omega (arith, h.0))
refused_text bytes (NotXmlChar at) other short h = false_from_ne_true _ (λ t.
    h.1.longest (length bytes) h.1.before_end (omega arith) (rw (take_all (length bytes) bytes (omega arith)) t))
refused_text bytes NoMemory other short h = absurd (other refl)

pub other_fault : (fault : TextFault) → ((n : ℕ) × (fault ≡ TooLong n)) ⊎ ((n : ℕ) × (fault ≡ NotXmlChar n)) →
    fault ≢ NoMemory
other_fault fault h = λ e. ⊎_elim (λ w. let is = w.1 in cc) (λ w. let is = w.1 in cc) h

-- ---- results

pub same_fault : {X : Type 0} (r : Result X LineFault) (fault other : LineFault) → IsErrAnd r (λ f. f ≡ fault) →
    r ≡ Err other → fault ≡ other
same_fault (Ok x) fault other h e = absurd h
same_fault (Err f) fault other h e = cc

-- the words are read or not as their parts are
pub read_as : (o p : Option LineAsk) (r : Result LineAsk LineFault) → o ≡ p → IfOk r (λ ask. p ≡ Some ask) →
    IfOk r (λ ask. o ≡ Some ask)
read_as o p r e h = subst (λ q. IfOk r (λ ask. q ≡ Some ask)) (sym e) h

-- a good line is read as what it asks for
pub only_good : (o : Option LineAsk) (r : Result LineAsk LineFault) → IfOk r (λ ask. o ≡ Some ask) →
    (r ≡ Err BadLine → o ≡ None) → (ask : LineAsk) → o ≡ Some ask → (r ≡ Ok ask) ⊎ (r ≡ Err OutOfMemory)
only_good o (Ok read) found bad ask e = inl (let same : read ≡ ask = cc in ap Ok same)
only_good o (Err BadLine) found bad ask e = absurd (let none : o ≡ None = bad refl in cc)
only_good o (Err OutOfMemory) found bad ask e = inr refl

-- what was read is within the limits
pub within_limits : (o : Option LineAsk) (r : Result LineAsk LineFault) → IfSome o IsLineAsk →
    IfOk r (λ ask. o ≡ Some ask) → IfOk r IsLineAsk
within_limits o (Ok ask) h found = subst (λ p. IfSome p IsLineAsk) found h
within_limits o (Err fault) h found = tt
