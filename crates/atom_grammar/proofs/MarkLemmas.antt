-- The marks that end pieces, and texts in which a mark begins nowhere.
use Rattle.std.proofs.Common.{◌≡◌, ℕ, ◌⊎◌, inl, inr, Bool, true, false, not, ◌&&◌, ◌||◌, ◌==◌, List, [], ◌∷◌, ◌++◌, length, refl, sym, ap, ◌∙◌, append_assoc, append-nil, length-append, codes, arith}
use Rattle.std.proofs.lemmas.Bool.{and_from, and_parts, or_cases, or_left, or_right, cond_both, eqb-false, not-true, not_from_false, ne_eqb, false≢true}
use Rattle.std.proofs.lemmas.List.{append_cancel_left}
use Rattle.atom_values.specs.Ascii.{lf}
use Rattle.atom_grammar.specs.Cutting.{mark_of, IsWhole, IsCut, IsUnfinished}
use Rattle.atom_grammar.specs.Parts.{starts, lacks}
use Rattle.atom_grammar.proofs.TextLemmas.{no_cut, other_byte}

-- the last byte is a line end
pub record EndsLine (text : List ℕ) : Type 0 where
  pub front : List ℕ
  pub split : text ≡ front ++ lf ∷ []

mark_ends : (text : List ℕ) → EndsLine (mark_of text)
mark_ends text =
    cond_both (starts (codes "<title>") text) _ _ EndsLine (λ _. record { front = codes "</title>"; split = refl })
    (λ _. cond_both (starts (codes "<author>") text) _ _ EndsLine
    (λ _. record { front = codes "</author>"; split = refl })
    (λ _. cond_both (starts (codes "<entry>") text) _ _ EndsLine
    (λ _. record { front = codes "</entry>"; split = refl }) (λ _. record { front = []; split = refl })))

pub whole_ends : (text : List ℕ) → IsWhole text → EndsLine text
whole_ends text whole =
    let end = mark_ends text in
    record {
      front = whole.front ++ end.front;
      split = whole.split ∙ ap (λ x. whole.front ++ x) end.split ∙ sym (append_assoc whole.front end.front (lf ∷ []));
    }

-- a text without a line end begins with no whole text
pub lacking_unfinished : (text : List ℕ) → lacks lf text ≡ true → IsUnfinished text
lacking_unfinished text none front back e whole =
    let end = whole_ends front whole in
    no_cut lf text end.front (lf ∷ back) none (back, refl)
    (e ∙ ap (λ x. x ++ back) end.split ∙ append_assoc end.front (lf ∷ []) back)

-- two splits of one text
pub split_cases : (a b c d : List ℕ) → a ++ b ≡ c ++ d
    → ((more : List ℕ) × (a ≡ c ++ more) × (d ≡ more ++ b)) ⊎ ((more : List ℕ) × (c ≡ a ++ more) × (b ≡ more ++ d))
split_cases [] b c d e = inr (c, refl, e)
split_cases (x ∷ a) b [] d e = inl (x ∷ a, refl, sym e)
split_cases (x ∷ a) b (y ∷ c) d e =
    let heads : x ≡ y = cc in
    let tails : a ++ b ≡ c ++ d = cc in
    elim (split_cases a b c d tails) [
      | inl p ↦ inl (p.0, let f : x ∷ a ≡ y ∷ (c ++ p.0) = cc in f, p.2)
      | inr p ↦ inr (p.0, let f : y ∷ c ≡ x ∷ (a ++ p.0) = cc in f, p.2)
    ]

ends_behind : (text middle front : List ℕ) → text ++ middle ≡ front ++ lf ∷ [] → (middle ≡ []) ⊎ EndsLine middle
ends_behind [] middle front e = inr (record { front = front; split = e })
ends_behind (x ∷ []) middle [] e = inl cc
ends_behind (x ∷ y ∷ text) middle [] e = absurd cc
ends_behind (x ∷ text) middle (y ∷ front) e =
    let tails : text ++ middle ≡ front ++ lf ∷ [] = cc in
    ends_behind text middle front tails

-- a text that goes on, where it first ends with its mark
pub record EndsIn (text more front back : List ℕ) : Type 0 where
  pub middle : List ℕ
  pub is : front ≡ text ++ (middle ++ lf ∷ [])
  pub rest : more ≡ middle ++ lf ∷ back

pub ends_in : (text more front back : List ℕ) → IsUnfinished text → IsWhole front → text ++ more ≡ front ++ back
    → EndsIn text more front back
ends_in text more front back unfinished whole e =
    elim (split_cases text more front back e) [
      | inl p ↦ absurd (unfinished front p.0 p.1 whole)
      | inr p ↦
          let end = whole_ends front whole in
          elim (ends_behind text p.0 end.front (sym p.1 ∙ end.split)) [
            | inl none ↦
                let same : text ≡ front ++ [] = cc (p.1, append-nil text, append-nil front) in
                absurd (unfinished front [] same whole)
            | inr last ↦
                record {
                  middle = last.front;
                  is = p.1 ∙ ap (λ x. text ++ x) last.split;
                  rest = p.2 ∙ ap (λ x. x ++ back) last.split ∙ append_assoc last.front (lf ∷ []) back;
                }
          ]
    ]

-- a line has one line end
pub one_line_end : (line middle back : List ℕ) → lacks lf line ≡ true → line ++ lf ∷ [] ≡ middle ++ lf ∷ back
    → back ≡ []
one_line_end [] [] back none e = cc
one_line_end [] (m ∷ []) back none e = cc
one_line_end [] (m ∷ n ∷ middle) back none e = cc
one_line_end (x ∷ line) [] back none e = let h : x ≡ lf = cc in absurd (other_byte lf x line none h)
one_line_end (x ∷ line) (m ∷ middle) back none e =
    let tails : line ++ lf ∷ [] ≡ middle ++ lf ∷ back = cc in
    one_line_end line middle back (and_parts (not (x == lf)) (lacks lf line) none).1 tails

-- the text differs from the mark in one of its bytes
abbrev pub differs : List ℕ → List ℕ → Bool
differs [] text = false
differs (m ∷ mark) [] = false
differs (m ∷ mark) (x ∷ text) = not (m == x) || differs mark text

-- the mark begins nowhere in the text, whatever follows the text
abbrev pub clear : List ℕ → List ℕ → Bool
clear mark [] = true
clear mark (x ∷ text) = differs mark (x ∷ text) && clear mark text

differs_append : (mark text more : List ℕ) → differs mark text ≡ true → differs mark (text ++ more) ≡ true
differs_append [] text more e = absurd (false≢true e)
differs_append (m ∷ mark) [] more e = absurd (false≢true e)
differs_append (m ∷ mark) (x ∷ text) more e =
    elim (or_cases (not (m == x)) (differs mark text) e) [
      | inl here ↦ or_left (not (m == x)) (differs mark (text ++ more)) here
      | inr later ↦ or_right (not (m == x)) (differs mark (text ++ more)) (differs_append mark text more later)
    ]

pub clear_append : (mark xs ys : List ℕ) → clear mark xs ≡ true → clear mark ys ≡ true → clear mark (xs ++ ys) ≡ true
clear_append mark [] ys a b = b
clear_append mark (x ∷ xs) ys a b =
    let p = and_parts (differs mark (x ∷ xs)) (clear mark xs) a in
    and_from (differs mark (x ∷ (xs ++ ys))) (clear mark (xs ++ ys)) (differs_append mark (x ∷ xs) ys p.0)
    (clear_append mark xs ys p.1 b)

-- a text without the first byte of the mark
pub clear_lacks : (m : ℕ) (mark text : List ℕ) → lacks m text ≡ true → clear (m ∷ mark) text ≡ true
clear_lacks m mark [] none = refl
clear_lacks m mark (x ∷ text) none =
    let other : not (m == x) ≡ true =
    not_from_false (m == x) (ne_eqb m x (λ e. other_byte m x text none (sym e))) in
    and_from (differs (m ∷ mark) (x ∷ text)) (clear (m ∷ mark) text)
    (or_left (not (m == x)) (differs mark text) other)
    (clear_lacks m mark text (and_parts (not (x == m)) (lacks m text) none).1)

differs_not : (mark text back rest : List ℕ) → differs mark text ≡ true → mark ++ back ≡ text ++ rest → ⊥
differs_not [] text back rest d e = false≢true d
differs_not (m ∷ mark) [] back rest d e = false≢true d
differs_not (m ∷ mark) (x ∷ text) back rest d e =
    let heads : m ≡ x = cc in
    let tails : mark ++ back ≡ text ++ rest = cc in
    elim (or_cases (not (m == x)) (differs mark text) d) [
      | inl here ↦ eqb-false m x (not-true (m == x) here) heads
      | inr later ↦ differs_not mark text back rest later tails
    ]

-- behind a text that is clear of it, a mark is found first
clear_end : (mark text front back : List ℕ) → clear mark text ≡ true → text ++ mark ≡ front ++ (mark ++ back)
    → back ≡ []
clear_end mark [] [] back is_clear e = append_cancel_left mark back [] (sym e ∙ sym (append-nil mark))
clear_end mark [] (f ∷ front) back is_clear e =
    let size = simp length-append at (ap length e) in
    absurd (omega arith)
clear_end mark (x ∷ text) [] back is_clear e =
    let here = (and_parts (differs mark (x ∷ text)) (clear mark text) is_clear).0 in
    absurd (differs_not mark (x ∷ text) back mark here (sym e))
clear_end mark (x ∷ text) (f ∷ front) back is_clear e =
    let tails : text ++ mark ≡ front ++ (mark ++ back) = cc in
    clear_end mark text front back (and_parts (differs mark (x ∷ text)) (clear mark text) is_clear).1 tails

-- a piece from a tag to a mark that begins nowhere before
pub tagged_cut : (tag body mark : List ℕ) → lacks lf tag ≡ true
    → ((rest : List ℕ) → mark_of (tag ++ rest) ≡ mark) → clear mark (tag ++ body) ≡ true
    → IsCut (tag ++ body ++ mark)
tagged_cut tag body mark one_line is is_clear = record {
  whole = record {
    front = tag ++ body;
    split = ap (λ x. (tag ++ body) ++ x) (sym (ap mark_of (append_assoc tag body mark) ∙ is (body ++ mark)));
  };
  first = λ front back e whole.
      elim (split_cases tag (body ++ mark) front back (sym (append_assoc tag body mark) ∙ e)) [
        | inl p ↦ absurd (lacking_unfinished tag one_line front p.0 p.1 whole)
        | inr p ↦
            let same : mark_of front ≡ mark = ap mark_of p.1 ∙ is p.0 in
            let split : front ≡ whole.front ++ mark = whole.split ∙ ap (λ x. whole.front ++ x) same in
            clear_end mark (tag ++ body) whole.front back is_clear
            (e ∙ ap (λ x. x ++ back) split ∙ append_assoc whole.front mark back)
      ];
}
