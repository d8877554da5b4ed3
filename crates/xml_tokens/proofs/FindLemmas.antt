-- The first place of a pattern.
use Rattle.std.proofs.Common.{◌≡◌, ℕ, suc, ◌-◌, ◌<◌, ◌≤◌, true, false, not, List, [], ◌∷◌, ◌++◌}
use Rattle.std.proofs.Common.{length}
use Rattle.std.proofs.Common.{take, drop, refl, sym, ap, subst, ◌∙◌, ⊎_elim, append_assoc, arith}
use Rattle.std.proofs.lemmas.Bool.{cases_Bool, and_parts, and_from, both_ways, not-true, not_from_false}
use Rattle.std.proofs.lemmas.Bool.{false_from_ne_true}
use Rattle.std.proofs.lemmas.List.{length-append, length-take-le, append-nil, take-append-drop}
use Rattle.std.proofs.lemmas.List.{nil_from_length}
use Rattle.xml_tokens.specs.Characters.{begins, lacks}
use Rattle.xml_tokens.specs.Reading.{up_to_end}
use Rattle.xml_tokens.proofs.BeginLemmas.{begins_split, begins_from}
use Rattle.xml_tokens.proofs.PartLemmas.{IsPart, splits}

-- a text that begins no longer text with the pattern doesn't begin with it
pub not_before : (bytes text more : List ℕ) → begins bytes (text ++ more) ≡ false → begins bytes text ≡ false
not_before bytes text more e = false_from_ne_true (begins bytes text)
    (λ begun. both_ways (begins bytes (text ++ more)) e
    (begins_from bytes (text ++ more) (drop (length bytes) text ++ more)
    (ap (λ xs. xs ++ more) (begins_split bytes text begun) ∙ append_assoc bytes (drop (length bytes) text) more)))

-- a text that is shorter than the pattern
pub short_lacks : (bytes text : List ℕ) → length text < length bytes → lacks bytes text ≡ true
short_lacks bytes [] short = refl
short_lacks bytes (b ∷ text) short =
    and_from (not (begins bytes (b ∷ text))) (lacks bytes text)
    (not_from_false (begins bytes (b ∷ text)) (false_from_ne_true (begins bytes (b ∷ text)) (λ begun.
    let total = ap length (begins_split bytes (b ∷ text) begun) in
    let parts = length-append bytes (drop (length bytes) (b ∷ text)) in
    omega arith)))
    (short_lacks bytes text (omega arith))

-- all of a pattern but its last byte
abbrev pub short_of : List ℕ → List ℕ
short_of bytes = take (length bytes - 1) bytes

pub short_of_lacks : (bytes : List ℕ) → 1 ≤ length bytes → lacks bytes (short_of bytes) ≡ true
short_of_lacks bytes some =
    short_lacks bytes (short_of bytes) (omega (arith, length-take-le (length bytes - 1) bytes (omega arith)))

-- one byte more before the first place
earlier : (bytes front rest : List ℕ) (b : ℕ) → begins bytes (b ∷ (front ++ (bytes ++ rest))) ≡ false →
    lacks bytes (front ++ short_of bytes) ≡ true → lacks bytes (b ∷ (front ++ short_of bytes)) ≡ true
earlier bytes front rest b none later =
    let B : List ℕ → Type 0 = λ xs. begins bytes (b ∷ xs) ≡ false in
    let whole : front ++ (bytes ++ rest) ≡ (front ++ short_of bytes) ++ (drop (length bytes - 1) bytes ++ rest) =
    ap (λ xs. front ++ (xs ++ rest)) (sym (take-append-drop (length bytes - 1) bytes))
    ∙ ap (λ xs. front ++ xs) (append_assoc (short_of bytes) (drop (length bytes - 1) bytes) rest)
    ∙ sym (append_assoc front (short_of bytes) (drop (length bytes - 1) bytes ++ rest)) in
    and_from (not (begins bytes (b ∷ (front ++ short_of bytes)))) (lacks bytes (front ++ short_of bytes))
    (not_from_false (begins bytes (b ∷ (front ++ short_of bytes)))
    (not_before bytes (b ∷ (front ++ short_of bytes)) (drop (length bytes - 1) bytes ++ rest) (subst B whole none)))
    later

pub first_lacks : (bytes front rest : List ℕ) → 1 ≤ length bytes →
    ((k : ℕ) → k < length front → begins bytes (drop k (front ++ (bytes ++ rest))) ≡ false) →
    lacks bytes (front ++ short_of bytes) ≡ true
first_lacks bytes [] rest some none = short_of_lacks bytes some
first_lacks bytes (b ∷ front) rest some none =
    earlier bytes front rest b (none 0 (omega arith))
    (first_lacks bytes front rest some (λ k below. none (suc k) (omega arith)))

pub all_lacks : (bytes text : List ℕ) → ((k : ℕ) → k < length text → begins bytes (drop k text) ≡ false) →
    lacks bytes text ≡ true
all_lacks bytes [] none = refl
all_lacks bytes (b ∷ text) none =
    and_from (not (begins bytes (b ∷ text))) (lacks bytes text)
    (not_from_false (begins bytes (b ∷ text)) (none 0 (omega arith)))
    (all_lacks bytes text (λ k below. none (suc k) (omega arith)))

-- no pattern stands in a text that lacks it
pub lacks_not : (bytes front rest : List ℕ) → 1 ≤ length bytes → lacks bytes (front ++ (bytes ++ rest)) ≡ true → ⊥
lacks_not [] front rest some none = omega arith
lacks_not (b ∷ bytes) [] rest some none =
    let p = and_parts (not (begins (b ∷ bytes) (b ∷ (bytes ++ rest)))) (lacks (b ∷ bytes) (bytes ++ rest)) none in
    both_ways (begins (b ∷ bytes) (b ∷ (bytes ++ rest))) (not-true (begins (b ∷ bytes) (b ∷ (bytes ++ rest))) p.0)
    (begins_from (b ∷ bytes) (b ∷ (bytes ++ rest)) rest refl)
lacks_not (b ∷ bytes) (a ∷ front) rest some none =
    lacks_not (b ∷ bytes) front rest some
    (and_parts (not (begins (b ∷ bytes) (a ∷ (front ++ ((b ∷ bytes) ++ rest)))))
    (lacks (b ∷ bytes) (front ++ ((b ∷ bytes) ++ rest))) none).1

-- a text with the pattern after it has a first place
pub record HasFirst (bytes text rest : List ℕ) : Type 0 where
  pub front : List ℕ
  pub behind : List ℕ
  pub split : text ++ (bytes ++ rest) ≡ front ++ (bytes ++ behind)
  pub first : lacks bytes (front ++ short_of bytes) ≡ true

pub has_first : (bytes text rest : List ℕ) → 1 ≤ length bytes → HasFirst bytes text rest
has_first bytes [] rest some =
    record { front = []; behind = rest; split = refl; first = short_of_lacks bytes some }
has_first bytes (b ∷ text) rest some =
    let whole = b ∷ (text ++ (bytes ++ rest)) in
    ⊎_elim
    (λ here. record {
      front = [];
      behind = drop (length bytes) whole;
      split = begins_split bytes whole here;
      first = short_of_lacks bytes some;
    })
    (λ later.
    let h = has_first bytes text rest some in
    let B : List ℕ → Type 0 = λ xs. begins bytes (b ∷ xs) ≡ false in
    record {
      front = b ∷ h.front;
      behind = h.behind;
      split = (λ i. b ∷ h.split i);
      first = earlier bytes h.front h.behind b (subst B h.split later) h.first;
    })
    (cases_Bool (begins bytes whole))

no_more : (xs ys zs : List ℕ) → xs ≡ ys ++ zs → length xs ≤ length ys → xs ≡ ys
no_more xs ys zs e short =
    let total = ap length e in
    let parts = length-append ys zs in
    e ∙ ap (λ rest. ys ++ rest) (nil_from_length zs (omega arith)) ∙ append-nil ys

-- the pattern doesn't stand before its first place
not_earlier : (bytes one other x y : List ℕ) → 1 ≤ length bytes → lacks bytes (other ++ short_of bytes) ≡ true →
    (m : List ℕ) → other ≡ one ++ m → bytes ++ x ≡ m ++ (bytes ++ y) → m ≡ []
not_earlier bytes one other x y some first [] is e = refl
not_earlier bytes one other x y some first (b ∷ m) is e =
    let L : List ℕ → Type 0 = λ xs. lacks bytes xs ≡ true in
    let whole : bytes ++ x ≡ ((b ∷ m) ++ short_of bytes) ++ (drop (length bytes - 1) bytes ++ y) =
    e ∙ ap (λ xs. (b ∷ m) ++ (xs ++ y)) (sym (take-append-drop (length bytes - 1) bytes))
    ∙ ap (λ xs. (b ∷ m) ++ xs) (append_assoc (short_of bytes) (drop (length bytes - 1) bytes) y)
    ∙ sym (append_assoc (b ∷ m) (short_of bytes) (drop (length bytes - 1) bytes ++ y)) in
    absurd (⊎_elim
    (λ longer. lacks_not bytes one longer.0 some
    (subst L (ap (λ xs. xs ++ short_of bytes) is ∙ append_assoc one (b ∷ m) (short_of bytes)
    ∙ ap (λ xs. one ++ xs) longer.1) first))
    (λ shorter.
    let front = length-append (b ∷ m) (short_of bytes) in
    let same =
    no_more bytes ((b ∷ m) ++ short_of bytes) shorter.0 shorter.1
    (omega (arith, length-take-le (length bytes - 1) bytes (omega arith))) in
    lacks_not bytes one [] some
    (subst L (ap (λ xs. xs ++ short_of bytes) is ∙ append_assoc one (b ∷ m) (short_of bytes)
    ∙ ap (λ xs. one ++ xs) (sym same ∙ sym (append-nil bytes))) first))
    (splits bytes x ((b ∷ m) ++ short_of bytes) (drop (length bytes - 1) bytes ++ y) whole))

first_one : (bytes one other x y : List ℕ) → 1 ≤ length bytes → lacks bytes (one ++ short_of bytes) ≡ true →
    lacks bytes (other ++ short_of bytes) ≡ true → one ++ (bytes ++ x) ≡ other ++ (bytes ++ y) → one ≡ other
first_one bytes one other x y some first_of_one first_of_other e =
    ⊎_elim
    (λ longer. sym (longer.1 ∙ ap (λ xs. one ++ xs)
    (not_earlier bytes one other x y some first_of_other longer.0 longer.1 longer.2) ∙ append-nil one))
    (λ shorter. shorter.1 ∙ ap (λ xs. other ++ xs)
    (not_earlier bytes other one y x some first_of_one shorter.0 shorter.1 shorter.2) ∙ append-nil other)
    (splits one (bytes ++ x) other (bytes ++ y) e)

pub up_to_part : (bytes : List ℕ) → 1 ≤ length bytes → IsPart (up_to_end bytes)
up_to_part bytes some = record {
  unique = λ a b s x t y is_s is_t e.
      let one = first_one bytes a b x y some is_s.1 is_t.1
      (sym (append_assoc a bytes x) ∙ ap (λ xs. xs ++ x) (sym is_s.0) ∙ e ∙ ap (λ xs. xs ++ y) is_t.0
      ∙ append_assoc b bytes y) in
      (one, is_s.0 ∙ ap (λ xs. xs ++ bytes) one ∙ sym is_t.0);
  grows = λ a s x more any is. is;
  shrinks = λ a s x more is. is;
}
