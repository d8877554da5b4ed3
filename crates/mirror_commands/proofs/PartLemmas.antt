-- `audit`: the text of a certificate ends at the first line `end` of an input.
use Rattle.std.proofs.Common.{◌≡◌, ◌≢◌, ℕ, ◌≤◌, List, [], ◌∷◌, ◌++◌, length, drop, refl, sym, ap, subst, ◌∙◌}
use Rattle.std.proofs.Common.{arith, append_assoc, append-nil}
use Rattle.std.proofs.Common.{length-append, codes, take, ◌-◌, inr}
use Rattle.std.specs.Prelude.{All}
use Rattle.std.proofs.Math.Seq.{take-length}
use Rattle.std.proofs.lemmas.List.{drop_at, length-drop, take_at}
use Rattle.std.proofs.lemmas.List.Elements.{All-append, All-cons, All-head, All-nil, All-tail}
use Rattle.doc_source.proofs.CutLemmas.{cut_unique}
use Rattle.coverage_certificate.specs.Text.{end_line, text_of_lines}
use Rattle.doc_source.specs.Outside.{SourceState}
use Rattle.mirror_commands.specs.Audit.{EndsOnce, HasNoEnd, IsOtherLine, StopsInCertificate, audit_limit}
use Rattle.mirror_commands.specs.CertificatePart.{IsAmid, IsLongPart, ReadsPart}

-- a text with no LF has no line
no-cut : (text line rest : List ℕ) → All (λ b. b ≢ 10) text → text ≡ line ++ 10 ∷ rest → ⊥
no-cut [] [] rest none e = cc
no-cut [] (y ∷ line) rest none e = cc
no-cut (x ∷ text) [] rest none e = absurd (All-head (λ b. b ≢ 10) x text none (cc))
no-cut (x ∷ text) (y ∷ line) rest none e =
    let tail : text ≡ line ++ 10 ∷ rest = cc in
    no-cut text line rest (All-tail (λ b. b ≢ 10) x text none) tail

-- the first line of lines
first-line : (line : List ℕ) (lines : List (List ℕ)) (rest : List ℕ)
    → text_of_lines (line ∷ lines) ++ rest ≡ line ++ 10 ∷ (text_of_lines lines ++ rest)
first-line line lines rest =
    append_assoc (line ++ 10 ∷ []) (text_of_lines lines) rest
    ∙ append_assoc line (10 ∷ []) (text_of_lines lines ++ rest)

pub lines-append : (xs ys : List (List ℕ)) → text_of_lines (xs ++ ys) ≡ text_of_lines xs ++ text_of_lines ys
lines-append [] ys = refl
lines-append (x ∷ xs) ys =
    ap (λ (t : List ℕ). (x ++ 10 ∷ []) ++ t) (lines-append xs ys)
    ∙ sym (append_assoc (x ++ 10 ∷ []) (text_of_lines xs) (text_of_lines ys))

pub end-no_lf : All (λ b. b ≢ 10) end_line
end-no_lf =
    All-cons (λ b. b ≢ 10) 101 (110 ∷ 100 ∷ []) (λ e. omega (arith, e))
    (All-cons (λ b. b ≢ 10) 110 (100 ∷ []) (λ e. omega (arith, e))
    (All-cons (λ b. b ≢ 10) 100 [] (λ e. omega (arith, e)) (All-nil (λ b. b ≢ 10))))

-- lines of which none is `end`, and the beginning of one more, don't begin with lines that end with `end`
no-end_lines : (before first : List (List ℕ)) (line rest : List ℕ) → All IsOtherLine before
    → All IsOtherLine first → All (λ b. b ≢ 10) line
    → text_of_lines before ++ line ≡ text_of_lines (first ++ end_line ∷ []) ++ rest → ⊥
no-end_lines [] [] line rest p q none e =
    no-cut line end_line rest none (e ∙ first-line end_line [] rest)
no-end_lines [] (f ∷ first) line rest p q none e =
    no-cut line f (text_of_lines (first ++ end_line ∷ []) ++ rest) none
    (e ∙ first-line f (first ++ end_line ∷ []) rest)
no-end_lines (b ∷ before) [] line rest p q none e =
    let is = All-head IsOtherLine b before p in
    let cut = cut_unique 10 b (text_of_lines before ++ line) end_line rest is.no_lf end-no_lf
    (sym (first-line b before line) ∙ e ∙ first-line end_line [] rest) in
    is.other cut.0
no-end_lines (b ∷ before) (f ∷ first) line rest p q none e =
    let cut = cut_unique 10 b (text_of_lines before ++ line) f (text_of_lines (first ++ end_line ∷ []) ++ rest)
    (All-head IsOtherLine b before p).no_lf (All-head IsOtherLine f first q).no_lf
    (sym (first-line b before line) ∙ e ∙ first-line f (first ++ end_line ∷ []) rest) in
    no-end_lines before first line rest (All-tail IsOtherLine b before p) (All-tail IsOtherLine f first q) none cut.1

-- two lists of lines that end with `end` and begin one text are equal
same-lines : (one other : List (List ℕ)) (x y : List ℕ) → All IsOtherLine one → All IsOtherLine other
    → text_of_lines (one ++ end_line ∷ []) ++ x ≡ text_of_lines (other ++ end_line ∷ []) ++ y
    → (one ≡ other) × (x ≡ y)
same-lines [] [] x y p q e =
    let cut = cut_unique 10 end_line x end_line y end-no_lf end-no_lf
    (sym (first-line end_line [] x) ∙ e ∙ first-line end_line [] y) in
    (refl, cut.1)
same-lines [] (f ∷ other) x y p q e =
    let is = All-head IsOtherLine f other q in
    let cut = cut_unique 10 end_line x f (text_of_lines (other ++ end_line ∷ []) ++ y) end-no_lf is.no_lf
    (sym (first-line end_line [] x) ∙ e ∙ first-line f (other ++ end_line ∷ []) y) in
    absurd (is.other (sym cut.0))
same-lines (b ∷ one) [] x y p q e =
    let is = All-head IsOtherLine b one p in
    let cut = cut_unique 10 b (text_of_lines (one ++ end_line ∷ []) ++ x) end_line y is.no_lf end-no_lf
    (sym (first-line b (one ++ end_line ∷ []) x) ∙ e ∙ first-line end_line [] y) in
    absurd (is.other cut.0)
same-lines (b ∷ one) (f ∷ other) x y p q e =
    let cut = cut_unique 10 b (text_of_lines (one ++ end_line ∷ []) ++ x) f
    (text_of_lines (other ++ end_line ∷ []) ++ y)
    (All-head IsOtherLine b one p).no_lf (All-head IsOtherLine f other q).no_lf
    (sym (first-line b (one ++ end_line ∷ []) x) ∙ e ∙ first-line f (other ++ end_line ∷ []) y) in
    let more = same-lines one other x y (All-tail IsOtherLine b one p) (All-tail IsOtherLine f other q) cut.1 in
    ((λ i. cut.0 i ∷ more.0 i), more.1)

-- a text is parted at one place
pub parted-once : (one other x y : List ℕ) → EndsOnce one → EndsOnce other → one ++ x ≡ other ++ y
    → (one ≡ other) × (x ≡ y)
parted-once one other x y p q e =
    let same = same-lines p.before q.before x y p.others q.others
    (ap (λ (t : List ℕ). t ++ x) (sym p.is) ∙ e ∙ ap (λ (t : List ℕ). t ++ y) q.is) in
    (p.is ∙ ap (λ (ls : List (List ℕ)). text_of_lines (ls ++ end_line ∷ [])) same.0 ∙ sym q.is, same.1)

-- the beginning of a text without a line `end` has none
pub no-end_before : (text rest : List ℕ) → HasNoEnd (text ++ rest) → HasNoEnd text
no-end_before text rest none first more ends e =
    none first (more ++ rest) ends
    (ap (λ (t : List ℕ). t ++ rest) e ∙ append_assoc first more rest)

-- lines that are read byte by byte

pub amid-nothing : IsAmid [] 0
amid-nothing = record {
  before = [];
  others = All-nil IsOtherLine;
  line = [];
  no_lf = All-nil (λ b. b ≢ 10);
  is = refl;
  at = refl;
}

pub amid-no_end : (text : List ℕ) (start : ℕ) → IsAmid text start → HasNoEnd text
amid-no_end text start h first rest ends e =
    no-end_lines h.before ends.before h.line rest h.others ends.others h.no_lf
    (sym h.is ∙ e ∙ ap (λ (t : List ℕ). t ++ rest) ends.is)

-- a byte within a line
pub amid-byte : (text : List ℕ) (start byte : ℕ) → IsAmid text start → byte ≢ 10 → IsAmid (text ++ byte ∷ []) start
amid-byte text start byte h other = record {
  before = h.before;
  others = h.others;
  line = h.line ++ byte ∷ [];
  no_lf = All-append (λ b. b ≢ 10) h.line (byte ∷ []) h.no_lf
      (All-cons (λ b. b ≢ 10) byte [] other (All-nil (λ b. b ≢ 10)));
  is = ap (λ (t : List ℕ). t ++ byte ∷ []) h.is ∙ append_assoc (text_of_lines h.before) h.line (byte ∷ []);
  at = h.at;
}

-- the last line, with its LF
pub last-line : (text : List ℕ) (start : ℕ) (h : IsAmid text start) → drop start (text ++ 10 ∷ []) ≡ h.line ++ 10 ∷ []
last-line text start h =
    ap (λ (t : List ℕ). drop start (t ++ 10 ∷ [])) h.is
    ∙ ap (drop start) (append_assoc (text_of_lines h.before) h.line (10 ∷ []))
    ∙ drop_at (text_of_lines h.before) (h.line ++ 10 ∷ []) start (sym h.at)

with-line : (before : List (List ℕ)) (line : List ℕ)
    → text_of_lines (before ++ line ∷ []) ≡ (text_of_lines before ++ line) ++ 10 ∷ []
with-line before line =
    lines-append before (line ∷ [])
    ∙ ap (λ (t : List ℕ). text_of_lines before ++ t) (append-nil (line ++ 10 ∷ []))
    ∙ sym (append_assoc (text_of_lines before) line (10 ∷ []))

-- the last line is `end`
pub amid-ends : (text : List ℕ) (start : ℕ) → IsAmid text start → drop start (text ++ 10 ∷ []) ≡ codes "end\n"
    → EndsOnce (text ++ 10 ∷ [])
amid-ends text start h e =
    let line = cut_unique 10 h.line [] end_line [] h.no_lf end-no_lf (sym (last-line text start h) ∙ e) in
    record {
      before = h.before;
      others = h.others;
      is = ap (λ (t : List ℕ). t ++ 10 ∷ []) h.is
          ∙ ap (λ (l : List ℕ). (text_of_lines h.before ++ l) ++ 10 ∷ []) line.0 ∙ sym (with-line h.before end_line);
    }

-- the last line isn't `end`
pub amid-line : (text : List ℕ) (start : ℕ) → IsAmid text start → (drop start (text ++ 10 ∷ []) ≡ codes "end\n" → ⊥)
    → IsAmid (text ++ 10 ∷ []) (length (text ++ 10 ∷ []))
amid-line text start h differs =
    let other : h.line ≢ end_line =
    λ e. differs (last-line text start h ∙ ap (λ (l : List ℕ). l ++ 10 ∷ []) e) in
    let is : text ++ 10 ∷ [] ≡ text_of_lines (h.before ++ h.line ∷ []) =
    ap (λ (t : List ℕ). t ++ 10 ∷ []) h.is ∙ sym (with-line h.before h.line) in
    record {
      before = h.before ++ h.line ∷ [];
      others = All-append IsOtherLine h.before (h.line ∷ []) h.others
          (All-cons IsOtherLine h.line [] (record { no_lf = h.no_lf; other = other }) (All-nil IsOtherLine));
      line = [];
      no_lf = All-nil (λ b. b ≢ 10);
      is = is ∙ sym (append-nil (text_of_lines (h.before ++ h.line ∷ [])));
      at = ap length is;
    }

-- the bytes after an offset
pub rest-of : (text : List ℕ) (start : ℕ) → take (length text - start) (drop start text) ≡ drop start text
rest-of text start =
    ap (λ (n : ℕ). take n (drop start text)) (sym (length-drop start text)) ∙ take-length (drop start text)

-- how the reading of the part ends, within lines of which none is `end`
module _ (before now after : SourceState) (text : List ℕ) (start : ℕ) (h : IsAmid text start)
    (within : length text ≤ audit_limit) (left : before.left ≡ text ++ now.left) where
  pub part-stops : after.left ≡ now.left → StopsInCertificate before after
  part-stops same = record {
    read = text;
    from = left ∙ ap (λ (x : List ℕ). text ++ x) (sym same);
    within = within;
    no_end = amid-no_end text start h;
  }

  pub part-ends : now.left ≡ [] → after.left ≡ [] → ReadsPart before after text
  part-ends spent none = record {
    part = inr (amid-no_end text start h, none);
    from = left ∙ ap (λ (x : List ℕ). text ++ x) (spent ∙ sym none);
  }

  pub part-long : (byte : ℕ) → now.left ≡ byte ∷ after.left → length text ≡ audit_limit → IsLongPart before.left
  part-long byte more full = record {
    more = omega (
      arith,
      ap length left,
      length-append text now.left,
      ap length more,
      full,
    );
    no_end = subst HasNoEnd
        (sym (ap (take audit_limit) left ∙ take_at text now.left audit_limit full)) (amid-no_end text start h);
  }
