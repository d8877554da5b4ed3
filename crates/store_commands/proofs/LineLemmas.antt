-- The lines of bytes one after another, and the bytes of a line that decide what it asks.
use Rattle.std.proofs.Common.{◌≡◌, ◌≢◌, ℕ, ◌+◌, ◌<◌, ◌≤◌, Bool, true, false, cond, if◌then◌else◌, eqb, List, []}
use Rattle.std.proofs.Common.{◌∷◌, ◌++◌, length, take, drop, codes, Option, Some, None, option_map, option_and_then, IfSome}
use Rattle.std.proofs.Common.{nat_eq, refl, sym, ap, ◌∙◌, ⊎_elim, arith}
use Rattle.std.specs.List.{All, flat_map, starts_with}
use Rattle.std.proofs.lemmas.Bool.{cases_lt}
use Rattle.std.proofs.lemmas.Bool.Decides.{nat_tests}
use Rattle.std.proofs.lemmas.Fmt.{length-decimal-le}
use Rattle.std.proofs.lemmas.List.{append_assoc, take_all, length-drop, length-take-le}
use Rattle.std.proofs.lemmas.List.Elements.{All-head, All-tail}
use Rattle.tool_words.specs.declared.line.LineAsk.{LineAsk}
use Rattle.tool_words.specs.declared.line.LineAsk.TheVariants.{Add, Change, Remove, Title, Window}
use Rattle.tool_words.specs.Line as words
use Rattle.tool_words.specs.Line.{change_by, change_of, line_title_limit, member_number, parted, title_of, window_number}
use Rattle.tool_words.proofs.LineLemmas.{member_number-none, title_of-long, window_number-none}
use Rattle.store_commands.specs.Line.{ask_of, line_ask, prefix_limit}
use Rattle.store_commands.specs.Lines.{HasNoLf, ended_lines, lines, onto_ended, onto_first}

-- a byte that is no LF goes on with a line
goes_on : (b : ℕ) (x y : List (List ℕ)) → b ≢ 10 → cond (eqb b 10) x y ≡ y
goes_on b x y h = grind (arith, nat_tests)

first_byte : (b : ℕ) (line : List ℕ) → HasNoLf (b ∷ line) → b ≢ 10
first_byte b line h = All-head (λ x. x ≢ 10) b line h

later_bytes : (b : ℕ) (line : List ℕ) → HasNoLf (b ∷ line) → HasNoLf line
later_bytes b line h = All-tail (λ x. x ≢ 10) b line h

pub lines-nil : lines [] ≡ []
lines-nil = refl

-- a line that ends with LF, before others
pub lines-ended : (line rest : List ℕ) → HasNoLf line → lines (line ++ 10 ∷ rest) ≡ line ∷ lines rest
lines-ended [] rest h = refl
lines-ended (b ∷ line) rest h = goes_on b _ _ (first_byte b line h)
    ∙ ap (onto_first b) (lines-ended line rest (later_bytes b line h))

pub ended_lines-ended : (line rest : List ℕ) → HasNoLf line → ended_lines (line ++ 10 ∷ rest) ≡ line ∷ ended_lines rest
ended_lines-ended [] rest h = refl
ended_lines-ended (b ∷ line) rest h = goes_on b _ _ (first_byte b line h)
    ∙ ap (onto_ended b) (ended_lines-ended line rest (later_bytes b line h))

-- a last line, which ends with the input
pub lines-last : (line : List ℕ) → HasNoLf line → 0 < length line → lines line ≡ line ∷ []
lines-last [] h some = absurd (omega arith)
lines-last (b ∷ []) h some = goes_on b _ _ (first_byte b [] h)
lines-last (b ∷ c ∷ line) h some = goes_on b _ _ (first_byte b (c ∷ line) h)
    ∙ ap (onto_first b) (lines-last (c ∷ line) (later_bytes b (c ∷ line) h) (omega arith))

-- bytes with no LF end no line
pub ended_lines-none : (bytes : List ℕ) → HasNoLf bytes → ended_lines bytes ≡ []
ended_lines-none [] h = refl
ended_lines-none (b ∷ bytes) h = goes_on b _ _ (first_byte b bytes h)
    ∙ ap (onto_ended b) (ended_lines-none bytes (later_bytes b bytes h))

-- the bytes of lines that end with LF
abbrev pub with_lf : List (List ℕ) → List ℕ
with_lf ls = flat_map (λ l. l ++ 10 ∷ []) ls

pub with_lf-first : (l more rest : List ℕ) → ((l ++ 10 ∷ []) ++ more) ++ rest ≡ l ++ 10 ∷ (more ++ rest)
with_lf-first l more rest = simp append_assoc

-- lines that end with LF, and then the bytes of one that doesn't end yet
pub ended_lines-joined : (ls : List (List ℕ)) (pending : List ℕ) → All HasNoLf ls → HasNoLf pending →
    ended_lines (with_lf ls ++ pending) ≡ ls
ended_lines-joined [] pending h open' = ended_lines-none pending open'
ended_lines-joined (l ∷ ls) pending h open' =
    ap ended_lines (with_lf-first l (with_lf ls) pending)
    ∙ ended_lines-ended l (with_lf ls ++ pending) (All-head HasNoLf l ls h)
    ∙ ap (λ rest. l ∷ rest) (ended_lines-joined ls pending (All-tail HasNoLf l ls h) open')

-- lines that end with LF, and then those of the rest
pub lines-joined : (ls : List (List ℕ)) (rest : List ℕ) → All HasNoLf ls → lines (with_lf ls ++ rest) ≡ ls ++ lines rest
lines-joined [] rest h = refl
lines-joined (l ∷ ls) rest h =
    ap lines (with_lf-first l (with_lf ls) rest) ∙ lines-ended l (with_lf ls ++ rest) (All-head HasNoLf l ls h)
    ∙ ap (λ more. l ∷ more) (lines-joined ls rest (All-tail HasNoLf l ls h))

-- a number has at most ten digits
member_number-long : (digits : List ℕ) → 10 < length digits → member_number digits ≡ None
member_number-long digits h =
    member_number-none digits
    (λ n low high e. absurd
    (omega (arith, ap length e, length-decimal-le 10 n (omega arith) (omega arith) (omega arith))))

window_number-long : (digits : List ℕ) → 10 < length digits → window_number digits ≡ None
window_number-long digits h =
    window_number-none digits
    (λ n low high e. absurd
    (omega (arith, ap length e, length-decimal-le 10 n (omega arith) (omega arith) (omega arith))))

-- the parts are the words but the space
abbrev HasSize : List ℕ → List ℕ × List ℕ → Type 0
HasSize words parts = length words ≡ length parts.0 + 1 + length parts.1

parted-step : (b : ℕ) (words : List ℕ) (found : Option (List ℕ × List ℕ)) → IfSome found (HasSize words) →
    IfSome (option_map (λ (parts : List ℕ × List ℕ). (b ∷ parts.0, parts.1)) found) (HasSize (b ∷ words))
parted-step b words None h = tt
parted-step b words (Some parts) h = omega (arith, h)

parted-size : (words : List ℕ) → IfSome (parted words) (HasSize words)
parted-size [] = tt
parted-size (b ∷ words) =
    elim (eqb b 32) as (λ t. IfSome
    (if t then Some ([], words) else option_map (λ (parts : List ℕ × List ℕ). (b ∷ parts.0, parts.1))
    (parted words)) (HasSize (b ∷ words)))
    [ true ↦ omega arith | false ↦ parted-step b words (parted words) (parted-size words) ]

no_title : (number : Option ℕ) → option_and_then (λ (n : ℕ). option_map (Change n) None) number ≡ None
no_title None = refl
no_title (Some n) = refl

change_by-long : (parts : List ℕ × List ℕ) → line_title_limit + 11 < length parts.0 + 1 + length parts.1 →
    change_by parts ≡ None
change_by-long parts h =
    ⊎_elim
    (λ (number : 10 < length parts.0). rw (member_number-long parts.0 number) refl)
    (λ (short : length parts.0 ≤ 10).
    let title : title_of parts.1 ≡ None = title_of-long parts.1 (omega arith) in
    ap (λ (t : Option (List ℕ)). option_and_then (λ (n : ℕ). option_map (Change n) t) (member_number parts.0)) title
    ∙ no_title (member_number parts.0))
    (cases_lt 10 (length parts.0))

change-step : (words : List ℕ) (found : Option (List ℕ × List ℕ)) → IfSome found (HasSize words) →
    line_title_limit + 11 < length words → option_and_then change_by found ≡ None
change-step words None h long = refl
change-step words (Some parts) h long = change_by-long parts (omega (arith, h))

change_of-long : (words : List ℕ) → line_title_limit + 11 < length words → change_of words ≡ None
unfolding change_of
change_of-long words long = change-step words (parted words) (parted-size words) long

-- a line that is longer than the longest good one is bad
words_ask-long : (line : List ℕ) → line_title_limit + 18 < length line → words.line_ask line ≡ None
unfolding words.line_ask
words_ask-long line h =
    let add : option_map Add (title_of (drop 4 line)) ≡ None =
    ap (option_map Add) (title_of-long (drop 4 line) (omega (arith, length-drop 4 line))) in
    let change : change_of (drop 7 line) ≡ None = change_of-long (drop 7 line) (omega (arith, length-drop 7 line)) in
    let remove : option_map Remove (member_number (drop 7 line)) ≡ None =
    ap (option_map Remove) (member_number-long (drop 7 line) (omega (arith, length-drop 7 line))) in
    let title : option_map Title (title_of (drop 6 line)) ≡ None =
    ap (option_map Title) (title_of-long (drop 6 line) (omega (arith, length-drop 6 line))) in
    let window : option_map Window (window_number (drop 7 line)) ≡ None =
    ap (option_map Window) (window_number-long (drop 7 line) (omega (arith, length-drop 7 line))) in
    rw (add, change, remove, title, window)
    (same_choice (starts_with nat_eq line (codes "add ")) (starts_with nat_eq line (codes "change "))
    (starts_with nat_eq line (codes "remove ")) (starts_with nat_eq line (codes "title "))
    (starts_with nat_eq line (codes "window ")))
  where
    same_choice : (a b c d e : Bool) → ◌≡◌ {A = Option LineAsk}
        (if a then None else (if b then None else (if c then None else (if d then None else (if e then None else
        None))))) None
    same_choice true b c d e = refl
    same_choice false true c d e = refl
    same_choice false false true d e = refl
    same_choice false false false true e = refl
    same_choice false false false false true = refl
    same_choice false false false false false = refl

line_ask-long : (line : List ℕ) → line_title_limit + 18 < length line → line_ask line ≡ None
unfolding line_ask
line_ask-long line h = ap (option_map ask_of) (words_ask-long line h)

-- a line asks what its kept prefix asks
pub line_ask-prefix : (line : List ℕ) → line_ask (take prefix_limit line) ≡ line_ask line
line_ask-prefix line = ⊎_elim
    (λ long.
    let front : length (take prefix_limit line) ≡ prefix_limit = length-take-le prefix_limit line (omega arith) in
    line_ask-long (take prefix_limit line) (omega arith) ∙ sym (line_ask-long line (omega arith)))
    (λ short. ap line_ask (take_all prefix_limit line short))
    (cases_lt prefix_limit (length line))

-- the ask of a line, by how its words are read
pub line_ask-read : (line : List ℕ) (ask : LineAsk) → words.line_ask line ≡ Some ask → line_ask line ≡ Some (ask_of ask)
unfolding line_ask
line_ask-read line ask e = ap (option_map ask_of) e

pub line_ask-bad : (line : List ℕ) → words.line_ask line ≡ None → line_ask line ≡ None
unfolding line_ask
line_ask-bad line e = ap (option_map ask_of) e
