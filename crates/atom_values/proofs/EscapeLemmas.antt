-- The escaped text, byte by byte.
use Rattle.std.proofs.Common.{◌≡◌, ℕ, zero, suc, ◌+◌, ◌-◌, ◌<◌, ◌≤◌, Bool, true, false, cond, ◌&&◌, ◌||◌, eqb, List, [], ◌∷◌, ◌++◌}
use Rattle.std.proofs.Common.{length, take, drop, get_or, refl, sym, ap, ◌∙◌, arith}
use Rattle.std.specs.Prelude.{codes}
use Rattle.std.proofs.lemmas.List.{append_assoc, append-nil, take_more, take_all, take-append-drop, get_or-drop}
use Rattle.std.proofs.lemmas.List.{length-append, length-drop}
use Rattle.std.proofs.lemmas.List.Concat.{flat_map-append}
use Rattle.std.proofs.lemmas.Bool.{true≢false, ltb-false}
use Rattle.std.proofs.lemmas.Option.{same_Some}
use Rattle.std.specs.Prelude.{position, not, MatchOption, Option, Some, None}
use Rattle.std.proofs.Common.{ltb}
use Rattle.std.proofs.lemmas.List.Sums.{fails_before_first, prefix_len-le-length}
use Rattle.std.specs.List.{position_or_len}
use Rattle.atom_values.specs.Escape.{escaped_byte, escaped, may_escape}

at_most_six : (a b c d e f g : Bool) (x : ℕ) →
    length (cond a (codes "&amp;")
    (cond b (codes "&lt;")
    (cond c (codes "&gt;")
    (cond d (codes "&#13;") (cond e (codes "&quot;") (cond f (codes "&#9;") (cond g (codes "&#10;") (x ∷ [])))))))) ≤ 6
at_most_six true b c d e f g x = omega arith
at_most_six false true c d e f g x = omega arith
at_most_six false false true d e f g x = omega arith
at_most_six false false false true e f g x = omega arith
at_most_six false false false false true f g x = omega arith
at_most_six false false false false false true g x = omega arith
at_most_six false false false false false false true x = omega arith
at_most_six false false false false false false false x = omega arith

-- a byte is written in at most six
pub length-escaped_byte : (quoted : Bool) (b : ℕ) → length (escaped_byte quoted b) ≤ 6
length-escaped_byte quoted b =
    at_most_six (eqb b 38) (eqb b 60) (eqb b 62) (eqb b 13) (quoted && eqb b 34) (quoted && eqb b 9)
    (quoted && eqb b 10) b

pub escaped-nil : (quoted : Bool) → escaped quoted [] ≡ []
unfolding escaped
escaped-nil quoted = refl

pub escaped-append : (quoted : Bool) (xs ys : List ℕ) →
    escaped quoted (xs ++ ys) ≡ escaped quoted xs ++ escaped quoted ys
unfolding escaped
escaped-append quoted xs ys = flat_map-append (escaped_byte quoted) xs ys

pub escaped_one : (quoted : Bool) (b : ℕ) → escaped quoted (b ∷ []) ≡ escaped_byte quoted b
unfolding escaped
escaped_one quoted b = append-nil (escaped_byte quoted b)

-- one more byte
pub escaped_more : (quoted : Bool) (bytes : List ℕ) (i : ℕ) → i < length bytes →
    escaped quoted (take (i + 1) bytes) ≡ escaped quoted (take i bytes) ++ escaped_byte quoted (get_or bytes i 0)
escaped_more quoted bytes i within =
    ap (escaped quoted) (take_more bytes i 0 within)
    ∙ escaped-append quoted (take i bytes) (get_or bytes i 0 ∷ [])
    ∙ ap (λ xs. escaped quoted (take i bytes) ++ xs) (escaped_one quoted (get_or bytes i 0))

pub length-escaped_more : (quoted : Bool) (bytes : List ℕ) (i : ℕ) → i < length bytes →
    length (escaped quoted (take (i + 1) bytes)) ≡ length (escaped quoted (take i bytes)) + length
    (escaped_byte quoted (get_or bytes i 0))
length-escaped_more quoted bytes i within =
    ap length (escaped_more quoted bytes i within)
    ∙ length-append (escaped quoted (take i bytes)) (escaped_byte quoted (get_or bytes i 0))

length-escaped_front : (quoted : Bool) (bytes : List ℕ) (i : ℕ) →
    length (escaped quoted (take i bytes)) ≤ length (escaped quoted bytes)
length-escaped_front quoted bytes i =
    let parts = ap (escaped quoted) (sym (take-append-drop i bytes))
    ∙ escaped-append quoted (take i bytes) (drop i bytes) in
    let total = ap length parts ∙ length-append (escaped quoted (take i bytes)) (escaped quoted (drop i bytes)) in
    omega arith

-- `out` with the run that is still to be copied is the old content and the escaped front
abbrev pub IsWritten : Bool → List ℕ → List ℕ → List ℕ → ℕ → ℕ → Type 0
IsWritten quoted before out bytes copied at =
    out ++ take (at - copied) (drop copied bytes) ≡ before ++ escaped quoted (take at bytes)

-- `out` with that run is no longer than the old content and the escaped text
pub length-run : (quoted : Bool) (before out bytes : List ℕ) (copied at : ℕ) →
    IsWritten quoted before out bytes copied at →
    length out + length (take (at - copied) (drop copied bytes)) ≤ length before + length (escaped quoted bytes)
length-run quoted before out bytes copied at written =
    let total = ap length written in
    let left = length-append out (take (at - copied) (drop copied bytes)) in
    let right = length-append before (escaped quoted (take at bytes)) in
    let front = length-escaped_front quoted bytes at in
    omega arith

pub length-run_more : (quoted : Bool) (before out bytes : List ℕ) (copied at : ℕ) → at < length bytes →
    IsWritten quoted before out bytes copied at →
    length out + length (take (at - copied) (drop copied bytes)) + length
    (escaped_byte quoted (get_or bytes at 0)) ≤ length before + length (escaped quoted bytes)
length-run_more quoted before out bytes copied at within written =
    let total = ap length written in
    let left = length-append out (take (at - copied) (drop copied bytes)) in
    let right = length-append before (escaped quoted (take at bytes)) in
    let more = length-escaped_more quoted bytes at within in
    let front = length-escaped_front quoted bytes (at + 1) in
    omega arith

nothing_left : (out bytes : List ℕ) (at : ℕ) → out ++ take (at - at) (drop at bytes) ≡ out
nothing_left out bytes at =
    let none : at - at ≡ 0 = omega arith in
    ap (λ n. out ++ take n (drop at bytes)) none ∙ append-nil out

-- the run is copied, and the escape of the byte at `at` after it
pub IsWritten-escape : (quoted : Bool) (before out bytes escape : List ℕ) (copied at : ℕ) → at < length bytes →
    IsWritten quoted before out bytes copied at → escape ≡ escaped_byte quoted (get_or bytes at 0) →
    IsWritten quoted before (out ++ take (at - copied) (drop copied bytes) ++ escape) bytes (at + 1) (at + 1)
IsWritten-escape quoted before out bytes escape copied at within written is =
    let run = take (at - copied) (drop copied bytes) in
    let front = escaped quoted (take at bytes) in
    nothing_left (out ++ run ++ escape) bytes (at + 1)
    ∙ ap (λ xs. xs ++ escape) written
    ∙ ap (λ xs. before ++ front ++ xs) is
    ∙ append_assoc before front (escaped_byte quoted (get_or bytes at 0))
    ∙ ap (λ xs. before ++ xs) (sym (escaped_more quoted bytes at within))

run_more : (bytes : List ℕ) (copied at : ℕ) → copied ≤ at → at < length bytes →
    take (at + 1 - copied) (drop copied bytes) ≡ take (at - copied) (drop copied bytes) ++ get_or bytes at 0 ∷ []
run_more bytes copied at low within =
    let next : at + 1 - copied ≡ at - copied + 1 = omega arith in
    let place : copied + (at - copied) ≡ at = omega arith in
    ap (λ n. take n (drop copied bytes)) next
    ∙ take_more (drop copied bytes) (at - copied) 0 (omega (arith, length-drop copied bytes))
    ∙ ap (λ b. take (at - copied) (drop copied bytes) ++ b ∷ []) (get_or-drop copied bytes (at - copied) 0
    ∙ ap (λ n. get_or bytes n 0) place)

-- the byte at `at` is written as itself
pub IsWritten-plain : (quoted : Bool) (before out bytes : List ℕ) (copied at : ℕ) → copied ≤ at → at < length bytes →
    IsWritten quoted before out bytes copied at → escaped_byte quoted (get_or bytes at 0) ≡ get_or bytes at 0 ∷ [] →
    IsWritten quoted before out bytes copied (at + 1)
IsWritten-plain quoted before out bytes copied at low within written plain =
    let run = take (at - copied) (drop copied bytes) in
    let front = escaped quoted (take at bytes) in
    ap (λ xs. out ++ xs) (run_more bytes copied at low within)
    ∙ sym (append_assoc out run (get_or bytes at 0 ∷ []))
    ∙ ap (λ xs. xs ++ get_or bytes at 0 ∷ []) written
    ∙ ap (λ xs. before ++ front ++ xs) (sym plain)
    ∙ append_assoc before front (escaped_byte quoted (get_or bytes at 0))
    ∙ ap (λ xs. before ++ xs) (sym (escaped_more quoted bytes at within))

-- at the end
pub IsWritten-all : (quoted : Bool) (before out bytes : List ℕ) (copied at : ℕ) → length bytes ≤ at →
    IsWritten quoted before out bytes copied at →
    out ++ take (at - copied) (drop copied bytes) ≡ before ++ escaped quoted bytes
IsWritten-all quoted before out bytes copied at over written =
    written ∙ ap (λ xs. before ++ escaped quoted xs) (take_all at bytes over)

pub escaped-cons : (quoted : Bool) (x : ℕ) (xs : List ℕ) →
    escaped quoted (x ∷ xs) ≡ escaped_byte quoted x ++ escaped quoted xs
unfolding escaped
escaped-cons quoted x xs = refl

plain_by : (quoted a b c d e f g : Bool) (x : ℕ) → a || b || c || d || e || f || g ≡ false →
    cond a (codes "&amp;")
    (cond b (codes "&lt;")
    (cond c (codes "&gt;")
    (cond d (codes "&#13;")
    (cond (quoted && e) (codes "&quot;") (cond (quoted && f) (codes "&#9;") (cond (quoted && g) (codes "&#10;") (x ∷ []))))))) ≡ x ∷ []
plain_by true false false false false false false false x none = refl
plain_by false false false false false false false false x none = refl
plain_by quoted true b c d e f g x none = absurd (true≢false none)
plain_by quoted false true c d e f g x none = absurd (true≢false none)
plain_by quoted false false true d e f g x none = absurd (true≢false none)
plain_by quoted false false false true e f g x none = absurd (true≢false none)
plain_by quoted false false false false true f g x none = absurd (true≢false none)
plain_by quoted false false false false false true g x none = absurd (true≢false none)
plain_by quoted false false false false false false true x none = absurd (true≢false none)

-- a byte that is escaped nowhere
pub escaped_byte-plain : (quoted : Bool) (b : ℕ) → may_escape b ≡ false → escaped_byte quoted b ≡ b ∷ []
escaped_byte-plain quoted b none =
    plain_by quoted (eqb b 38) (eqb b 60) (eqb b 62) (eqb b 13) (eqb b 34) (eqb b 9) (eqb b 10) b none

-- a front without a byte that may be escaped is written as itself
pub escaped-plain : (quoted : Bool) (bytes : List ℕ) (n : ℕ) → n ≤ position_or_len may_escape bytes → n ≤ length bytes →
    escaped quoted (take n bytes) ≡ take n bytes
escaped-plain quoted bytes zero before within = escaped-nil quoted
escaped-plain quoted bytes (suc n) before within =
    let next : n + 1 ≡ suc n = omega arith in
    let front = escaped-plain quoted bytes n (omega arith) (omega arith) in
    let here = escaped_byte-plain quoted (get_or bytes n 0) (fails_before_first may_escape bytes n 0 (omega arith)) in
    ap (λ m. escaped quoted (take m bytes)) (sym next)
    ∙ escaped_more quoted bytes n (omega arith)
    ∙ ap (λ xs. xs ++ escaped_byte quoted (get_or bytes n 0)) front
    ∙ ap (λ xs. take n bytes ++ xs) here
    ∙ sym (take_more bytes n 0 (omega arith))
    ∙ ap (λ m. take m bytes) next

position_by : (p : ℕ → Bool) (xs : List ℕ) (b : Bool) → ltb (position_or_len p xs) (length xs) ≡ b → (r : Option ℕ) →
    r ≡ cond b (Some (position_or_len p xs)) None → MatchOption r (length xs ≡ position_or_len p xs) (λ at. at ≡ position_or_len p xs)
position_by p xs true e None is = absurd (let wrong : None ≡ Some (position_or_len p xs) = is in cc)
position_by p xs true e (Some at) is = same_Some at (position_or_len p xs) is
position_by p xs false e None is = omega (arith, ltb-false (position_or_len p xs) (length xs) e, prefix_len-le-length (λ x. not (p x)) xs)
position_by p xs false e (Some at) is = absurd (let wrong : Some at ≡ None = is in cc)

-- where a test passes first, or the length
pub position_is : (p : ℕ → Bool) (xs : List ℕ) (r : Option ℕ) → r ≡ position p xs →
    MatchOption r (length xs ≡ position_or_len p xs) (λ at. at ≡ position_or_len p xs)
position_is p xs r is = position_by p xs (ltb (position_or_len p xs) (length xs)) refl r is

-- a run of such bytes is read
pub escaped-run : (quoted : Bool) (written front rest plain behind : List ℕ) (n : ℕ) →
    escaped quoted front ++ rest ≡ written → n ≡ position_or_len may_escape rest → plain ≡ take n rest →
    behind ≡ drop n rest → escaped quoted (front ++ plain) ++ behind ≡ written
escaped-run quoted written front rest plain behind n parts is run left =
    let within = prefix_len-le-length (λ x. not (may_escape x)) rest in
    let same : escaped quoted plain ≡ plain =
    ap (escaped quoted) run ∙ escaped-plain quoted rest n (omega (arith, is)) (omega (arith, is)) ∙ sym run in
    ap (λ xs. xs ++ behind) (escaped-append quoted front plain ∙ ap (λ xs. escaped quoted front ++ xs) same)
    ∙ append_assoc (escaped quoted front) plain behind
    ∙ ap (λ xs. escaped quoted front ++ xs) (ap (λ xs. xs ++ behind) run ∙ ap (λ xs. take n rest ++ xs) left
    ∙ take-append-drop n rest)
    ∙ parts
