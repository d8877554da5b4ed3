-- The lines of a text: where two lists of lines begin alike, and the first line that isn't allowed.
use Rattle.std.proofs.Common.{◌≡◌, ◌≢◌, ◌⊎◌, ℕ, ◌+◌, ◌≤◌, List, [], ◌∷◌, ◌++◌, length, take, drop, inl, inr, refl, sym, ap, subst, ◌∙◌, arith, append_assoc, append-nil, length-append}
use Rattle.std.specs.Prelude.{All}
use Rattle.std.proofs.lemmas.Bool.{cases_lt}
use Rattle.std.proofs.lemmas.List.{length-take, take-append-drop, take-append-le}
use Rattle.std.proofs.lemmas.List.Elements.{All-append, All-cons, All-head, All-nil, All-tail, All-take}
use Rattle.doc_source.proofs.CutLemmas.{cut_unique}
use Rattle.coverage_certificate.specs.Certificate.{CertificateValue, IsCertificate}
use Rattle.coverage_certificate.specs.Reading.{HasNoLf, HasNoLine, IsNextLine}
use Rattle.coverage_certificate.specs.Text.{CanStand, IsFirstBadLine, IsNoCertificate, certificate_lines, certificate_text, text_of_lines}
use Rattle.coverage_certificate.proofs.BreakLemmas.{certificate_lacks}

-- a text that has no LF has no line
pub no_cut : (text line rest : List ℕ) → HasNoLf text → text ≢ line ++ 10 ∷ rest
no_cut [] [] rest none e = cc
no_cut [] (y ∷ line) rest none e = cc
no_cut (x ∷ text) [] rest none e = absurd (All-head (λ b. b ≢ 10) x text none (cc))
no_cut (x ∷ text) (y ∷ line) rest none e =
    let tail : text ≡ line ++ 10 ∷ rest = cc in
    no_cut text line rest (All-tail (λ b. b ≢ 10) x text none) tail

-- the first line of a text of lines
pub line_split : (line : List ℕ) (lines : List (List ℕ)) (rest : List ℕ)
    → text_of_lines (line ∷ lines) ++ rest ≡ line ++ 10 ∷ (text_of_lines lines ++ rest)
line_split line lines rest =
    append_assoc (line ++ 10 ∷ []) (text_of_lines lines) rest
    ∙ append_assoc line (10 ∷ []) (text_of_lines lines ++ rest)

pub text-append : (xs ys : List (List ℕ)) → text_of_lines (xs ++ ys) ≡ text_of_lines xs ++ text_of_lines ys
text-append [] ys = refl
text-append (x ∷ xs) ys =
    ap (λ (t : List ℕ). (x ++ 10 ∷ []) ++ t) (text-append xs ys)
    ∙ sym (append_assoc (x ++ 10 ∷ []) (text_of_lines xs) (text_of_lines ys))

-- the longer of two lists of lines goes on after the shorter one
pub record GoesOn (shorter longer : List (List ℕ)) (x y : List ℕ) : Type 0 where
  pub more : List (List ℕ)
  pub lines : longer ≡ shorter ++ more
  pub rest : x ≡ text_of_lines more ++ y

pub goes_on : (ps qs : List (List ℕ)) (x y : List ℕ) → All HasNoLf ps → All HasNoLf qs → length ps ≤ length qs
    → text_of_lines ps ++ x ≡ text_of_lines qs ++ y → GoesOn ps qs x y
goes_on [] qs x y p q h e = record { more = qs; lines = refl; rest = e }
goes_on (a ∷ ps) [] x y p q h e = absurd (omega arith)
goes_on (a ∷ ps) (b ∷ qs) x y p q h e =
    let cut = cut_unique 10 a (text_of_lines ps ++ x) b (text_of_lines qs ++ y) (All-head HasNoLf a ps p)
    (All-head HasNoLf b qs q) (sym (line_split a ps x) ∙ e ∙ line_split b qs y) in
    let r = goes_on ps qs x y (All-tail HasNoLf a ps p) (All-tail HasNoLf b qs q) (omega arith) cut.1 in
    record {
      more = r.more;
      lines = ap (λ (l : List ℕ). l ∷ qs) (sym cut.0) ∙ ap (λ (ls : List (List ℕ)). a ∷ ls) r.lines;
      rest = r.rest;
    }

-- a text begins with lines
pub record Front (text : List ℕ) (lines : List (List ℕ)) (rest : List ℕ) : Type 0 where
  pub no_lf : All HasNoLf lines
  pub split : text ≡ text_of_lines lines ++ rest

pub front_nil : (text : List ℕ) → Front text [] text
front_nil text = record { no_lf = All-nil HasNoLf; split = refl }

pub front_more : (text : List ℕ) (lines : List (List ℕ)) (rest line after : List ℕ) → Front text lines rest
    → HasNoLf line → rest ≡ line ++ 10 ∷ after → Front text (lines ++ line ∷ []) after
front_more text lines rest line after front none e = record {
  no_lf = All-append HasNoLf lines (line ∷ []) front.no_lf (All-cons HasNoLf line [] none (All-nil HasNoLf));
  split =
      front.split ∙ ap (λ (r : List ℕ). text_of_lines lines ++ r) (e ∙ sym (line_split line [] after))
      ∙ sym (append_assoc (text_of_lines lines) (text_of_lines (line ∷ [])) after)
      ∙ ap (λ (t : List ℕ). t ++ after) (sym (text-append lines (line ∷ [])));
}

pub front_most : (text : List ℕ) (lines more : List (List ℕ)) (rest after : List ℕ) → Front text lines rest
    → All HasNoLf more → rest ≡ text_of_lines more ++ after → Front text (lines ++ more) after
front_most text lines more rest after front none e = record {
  no_lf = All-append HasNoLf lines more front.no_lf none;
  split =
      front.split ∙ ap (λ (r : List ℕ). text_of_lines lines ++ r) e
      ∙ sym (append_assoc (text_of_lines lines) (text_of_lines more) after)
      ∙ ap (λ (t : List ℕ). t ++ after) (sym (text-append lines more));
}

-- some certificate begins with these lines
pub record Begins (lines : List (List ℕ)) : Type 0 where
  pub certificate : CertificateValue
  pub rules : IsCertificate certificate
  pub more : List (List ℕ)
  pub whole : certificate_lines certificate ≡ lines ++ more

-- no certificate goes on after these lines with a line that the rest begins with
abbrev pub EndsHere : List (List ℕ) → List ℕ → Type 0
EndsHere lines rest = (c : CertificateValue) → IsCertificate c → (line : List ℕ) (more : List (List ℕ))
    → certificate_lines c ≡ lines ++ line ∷ more → (after : List ℕ) → rest ≢ line ++ 10 ∷ after

-- these lines and no rest aren't a certificate
abbrev pub IsNotWhole : List (List ℕ) → List ℕ → Type 0
IsNotWhole lines rest = (c : CertificateValue) → IsCertificate c → certificate_lines c ≡ lines → rest ≢ []

stands_before : (text : List ℕ) (lines : List (List ℕ)) (rest : List ℕ) → Front text lines rest → Begins lines
    → (count : ℕ) → count ≤ length lines → CanStand text count
stands_before text lines rest front b count h = record {
  certificate = b.certificate;
  rules = b.rules;
  there = omega (arith, ap length b.whole, length-append lines b.more);
  rest = text_of_lines (drop count lines) ++ rest;
  begins =
      front.split
      ∙ ap (λ (ls : List (List ℕ)). text_of_lines ls ++ rest) (sym (take-append-drop count lines))
      ∙ ap (λ (t : List ℕ). t ++ rest) (text-append (take count lines) (drop count lines))
      ∙ append_assoc (text_of_lines (take count lines)) (text_of_lines (drop count lines)) rest
      ∙ ap (λ (ls : List (List ℕ)). text_of_lines ls ++ (text_of_lines (drop count lines) ++ rest))
      (sym (ap (take count) b.whole ∙ take-append-le count lines b.more h));
}

one_line : (more : List (List ℕ)) → length more ≡ 1 → (line : List ℕ) × (more ≡ line ∷ [])
one_line [] h = absurd (omega arith)
one_line (line ∷ []) h = (line, refl)
one_line (line ∷ other ∷ more) h = absurd (omega arith)

cannot_stand : (text : List ℕ) (lines : List (List ℕ)) (rest : List ℕ) → Front text lines rest
    → EndsHere lines rest → ¬ CanStand text (length lines + 1)
cannot_stand text lines rest front ends s =
    let all = certificate_lines s.certificate in
    let first = take (length lines + 1) all in
    let size : length first ≡ length lines + 1 = omega (arith, length-take (length lines + 1) all, s.there) in
    let g = goes_on lines first rest s.rest front.no_lf
    (All-take HasNoLf (length lines + 1) all (certificate_lacks s.certificate s.rules)) (omega arith)
    (sym front.split ∙ s.begins) in
    let one = one_line g.more (omega (arith, size, ap length g.lines, length-append lines g.more)) in
    ends s.certificate s.rules one.0 (drop (length lines + 1) all)
    (sym (take-append-drop (length lines + 1) all)
    ∙ ap (λ (ls : List (List ℕ)). ls ++ drop (length lines + 1) all) (g.lines
    ∙ ap (λ (ls : List (List ℕ)). lines ++ ls) one.1)
    ∙ append_assoc lines (one.0 ∷ []) (drop (length lines + 1) all))
    s.rest
    (g.rest ∙ ap (λ (ls : List (List ℕ)). text_of_lines ls ++ s.rest) one.1 ∙ line_split one.0 [] s.rest)

pub no_text : (more : List (List ℕ)) (rest : List ℕ) → [] ≡ text_of_lines more ++ rest → more ≡ []
no_text [] rest e = refl
no_text (line ∷ more) rest e =
    absurd (omega (
      arith,
      ap length (e ∙ line_split line more rest),
      length-append line (10 ∷ (text_of_lines more ++ rest)),
    ))

pub text-is : (c : CertificateValue) → certificate_text c ≡ text_of_lines (certificate_lines c)
unfolding certificate_text
text-is c = refl

whole_ends : (c : CertificateValue) → IsCertificate c → (lines : List (List ℕ)) (rest : List ℕ)
    → EndsHere lines rest → IsNotWhole lines rest → (more : List (List ℕ))
    → certificate_lines c ≡ lines ++ more → rest ≡ text_of_lines more ++ [] → ⊥
whole_ends c is lines rest ends not_whole [] same e = not_whole c is (same ∙ append-nil lines) e
whole_ends c is lines rest ends not_whole (line ∷ more) same e =
    ends c is line more same (text_of_lines more ++ []) (e ∙ line_split line more [])

no_certificate : (text : List ℕ) (lines : List (List ℕ)) (rest : List ℕ) → Front text lines rest
    → EndsHere lines rest → IsNotWhole lines rest → IsNoCertificate text
no_certificate text lines rest front ends not_whole c is e =
    let all = certificate_lines c in
    let whole : text_of_lines all ++ [] ≡ text_of_lines lines ++ rest =
    append-nil (text_of_lines all) ∙ sym (text-is c) ∙ e ∙ front.split in
    let lacks = certificate_lacks c is in
    elim (cases_lt (length all) (length lines)) [
      | inl less ↦
          let g = goes_on all lines [] rest lacks front.no_lf (omega arith) whole in
          let none = no_text g.more rest g.rest in
          absurd (omega (arith, ap length g.lines, length-append all g.more, ap length none))
      | inr past ↦
          let g = goes_on lines all rest [] front.no_lf lacks past (sym whole) in
          whole_ends c is lines rest ends not_whole g.more g.lines g.rest
    ]

-- the line after these lines is the first that isn't allowed
pub first_bad : (text : List ℕ) (lines : List (List ℕ)) (rest : List ℕ) → Front text lines rest
    → ((lines ≡ []) ⊎ Begins lines) → EndsHere lines rest → IsNotWhole lines rest
    → IsFirstBadLine text (length lines + 1)
first_bad text lines rest front begins ends not_whole = record {
  no_certificate = no_certificate text lines rest front ends not_whole;
  from_one = omega arith;
  before = λ count some below.
      elim begins [
        | inl none ↦ absurd (omega (arith, ap length none))
        | inr b ↦ stands_before text lines rest front b count (omega arith)
      ];
  there = cannot_stand text lines rest front ends;
}

-- no line of a text without LF
pub none_text : (Is : List ℕ → Type 0) (text : List ℕ) → HasNoLf text → HasNoLine Is text
none_text Is text none line rest is e = no_cut text line rest none e

-- the first line of a text has another form
pub none_line : (Is : List ℕ → Type 0) → ((line : List ℕ) → Is line → HasNoLf line) → (text line rest : List ℕ)
    → IsNextLine text line rest → ¬ Is line → HasNoLine Is text
none_line Is lacks text line rest next not other after is e =
    let cut = cut_unique 10 line rest other after next.no_lf (lacks other is) (sym next.split ∙ e) in
    not (subst Is (sym cut.0) is)
