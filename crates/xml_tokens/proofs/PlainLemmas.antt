-- The pieces of a value as they are written.
use Rattle.std.proofs.Common.{◌≡◌, ◌≢◌, ℕ, zero, suc, ◌≤◌, Bool, true, false, cond, ◌&&◌, ◌==◌}
use Rattle.std.proofs.Common.{List, [], ◌∷◌, ◌++◌}
use Rattle.std.proofs.Common.{length, All, IsTrue, refl, sym, ap, subst, ◌∙◌, ⊎_elim, arith}
use Rattle.std.proofs.Common.{eqb-true, eq-eqb}
use Rattle.std.specs.Prelude.{flat_map}
use Rattle.std.specs.List.{list_all}
use Rattle.std.proofs.lemmas.Bool.{cases_Bool, cond-true, cond-false, and_parts, both_ways, not-true}
use Rattle.std.proofs.lemmas.List.{length-append}
use Rattle.std.proofs.lemmas.List.Elements.{All-head, All-tail, All-append, All-cons}
use Rattle.std.proofs.lemmas.Grind.{flat_map-append}
use Rattle.xml_tokens.specs.Characters.{IsReference, lines, lines_after}
use Rattle.xml_tokens.specs.Tokens.{Piece, piece_text, piece_read, IsPiece, IsValue, IsQuote}
use Rattle.xml_tokens.specs.Tokens.Piece.{byte, reference}
use Rattle.xml_tokens.proofs.ValueLemmas.{reference_first, reference_clean, not_end, is_inner, first_byte, without_cr}
use Rattle.xml_tokens.proofs.LineLemmas.{lines_clean}

-- the text is made of such pieces
pub record Plain (q : ℕ) (text : List ℕ) : Type 0 where
  pub pieces : List Piece
  pub each : All (IsPiece q) pieces
  pub spelled : text ≡ flat_map piece_text pieces

-- the pieces as they are read, where `after` says that CR is before them
line_pieces : Bool → List Piece → List Piece
line_pieces after [] = []
line_pieces after (byte b ∷ ps) =
    cond (b == 13) (byte 10 ∷ line_pieces true ps)
    (cond (after && (b == 10)) (line_pieces false ps) (byte b ∷ line_pieces false ps))
line_pieces after (reference c t ∷ ps) = reference c t ∷ line_pieces false ps

no_lf : (q : ℕ) → IsQuote q → IsPiece q (byte 10)
no_lf q is = (
  (λ e. ⊎_elim (λ (k : q ≡ 34). omega arith) (λ (k : q ≡ 39). omega arith) is),
  (λ (e : 10 ≡ 60). omega arith),
  (λ (e : 10 ≡ 38). omega arith),
)

line_each : (q : ℕ) → IsQuote q → (after : Bool) (ps : List Piece) → All (IsPiece q) ps →
    All (IsPiece q) (line_pieces after ps)
unfolding line_pieces
line_each q is after [] each = each
line_each q is after (byte b ∷ ps) each =
    let P : List Piece → Type 0 = All (IsPiece q) in
    let head = All-head (IsPiece q) (byte b) ps each in
    let tail = All-tail (IsPiece q) (byte b) ps each in
    ⊎_elim
    (λ cr. subst P (sym (cond-true (b == 13) _ _ cr)) (All-cons (IsPiece q) (byte 10) _ (no_lf q is)
    (line_each q is true ps tail)))
    (λ other. subst P (sym (cond-false (b == 13) _ _ other))
    (⊎_elim
    (λ lf. subst P (sym (cond-true (after && (b == 10)) _ _ lf)) (line_each q is false ps tail))
    (λ plain. subst P (sym (cond-false (after && (b == 10)) _ _ plain))
    (All-cons (IsPiece q) (byte b) _ head (line_each q is false ps tail)))
    (cases_Bool (after && (b == 10)))))
    (cases_Bool (b == 13))
line_each q is after (reference c t ∷ ps) each =
    All-cons (IsPiece q) (reference c t) _ (All-head (IsPiece q) (reference c t) ps each)
    (line_each q is false ps (All-tail (IsPiece q) (reference c t) ps each))

and_false : (a b : Bool) → b ≡ false → (a && b) ≡ false
and_false true b e = e
and_false false b e = refl

-- no line end is in a front without one, whose first byte isn't LF
pub clean_after : (after : Bool) (front rest : List ℕ) → IsTrue (list_all not_end front) → front ≢ [] →
    lines_after after (front ++ rest) ≡ front ++ lines rest
clean_after after [] rest clean some = absurd (some refl)
clean_after after (b ∷ front) rest clean some =
    let p = and_parts (not_end b) (list_all not_end front) clean in
    let i = is_inner b p.0 in
    let no_lf : (after && (b == 10)) ≡ false = and_false after (b == 10) (not-true (b == 10) i.no_lf) in
    cond-false (b == 13) _ _ (not-true (b == 13) i.no_cr) ∙ cond-false (after && (b == 10)) _ _ no_lf
    ∙ ap (λ xs. b ∷ xs) (lines_clean front rest (without_cr front p.1))

reference_lines : (after : Bool) (c : ℕ) (t rest : List ℕ) → IsReference c t →
    lines_after after (t ++ rest) ≡ t ++ lines rest
reference_lines after c t rest is =
    clean_after after t rest (reference_clean c t is)
    (λ e. let start = reference_first c t is in let g : [] ≡ 38 ∷ start.0 = sym e ∙ start.1 in cc)

line_text : (q : ℕ) (after : Bool) (ps : List Piece) → All (IsPiece q) ps →
    lines_after after (flat_map piece_text ps) ≡ flat_map piece_text (line_pieces after ps)
unfolding line_pieces
line_text q after [] each = refl
line_text q after (byte b ∷ ps) each =
    let F : List Piece → List ℕ = flat_map piece_text in
    let tail = All-tail (IsPiece q) (byte b) ps each in
    ⊎_elim
    (λ cr. cond-true (b == 13) _ _ cr ∙ ap (λ xs. 10 ∷ xs) (line_text q true ps tail)
    ∙ ap F (sym (cond-true (b == 13) _ _ cr)))
    (λ other. cond-false (b == 13) _ _ other
    ∙ ⊎_elim
    (λ lf. cond-true (after && (b == 10)) _ _ lf ∙ line_text q false ps tail
    ∙ ap F (sym (cond-true (after && (b == 10)) _ _ lf)))
    (λ plain. cond-false (after && (b == 10)) _ _ plain ∙ ap (λ xs. b ∷ xs) (line_text q false ps tail)
    ∙ ap F (sym (cond-false (after && (b == 10)) _ _ plain)))
    (cases_Bool (after && (b == 10)))
    ∙ ap F (sym (cond-false (b == 13) _ _ other)))
    (cases_Bool (b == 13))
line_text q after (reference c t ∷ ps) each =
    reference_lines after c t (flat_map piece_text ps) (All-head (IsPiece q) (reference c t) ps each)
    ∙ ap (λ xs. t ++ xs) (line_text q false ps (All-tail (IsPiece q) (reference c t) ps each))

pub plain_value : (q : ℕ) → IsQuote q → (text : List ℕ) → Plain q text → (value : List ℕ) × IsValue q value text
plain_value q is text p =
    let pieces = line_pieces false p.pieces in (
      flat_map piece_read pieces,
      record {
        pieces = pieces;
        each = line_each q is false p.pieces p.each;
        spelled = ap lines p.spelled ∙ line_text q false p.pieces p.each;
        read = refl;
      },
    )

pub plain_nil : (q : ℕ) → Plain q []
plain_nil q = record {
  pieces = [];
  each = (λ k d (below : suc k ≤ 0). absurd (omega arith));
  spelled = refl;
}

pub plain_byte : (q b : ℕ) (text : List ℕ) → IsPiece q (byte b) → Plain q text → Plain q (b ∷ text)
plain_byte q b text is p = record {
  pieces = byte b ∷ p.pieces;
  each = All-cons (IsPiece q) (byte b) p.pieces is p.each;
  spelled = ap (λ xs. b ∷ xs) p.spelled;
}

pub plain_reference : (q c : ℕ) (t text : List ℕ) → IsReference c t → Plain q text → Plain q (t ++ text)
plain_reference q c t text is p = record {
  pieces = reference c t ∷ p.pieces;
  each = All-cons (IsPiece q) (reference c t) p.pieces is p.each;
  spelled = ap (λ xs. t ++ xs) p.spelled;
}

pub plain_append : (q : ℕ) (front text : List ℕ) → Plain q front → Plain q text → Plain q (front ++ text)
plain_append q front text f p = record {
  pieces = f.pieces ++ p.pieces;
  each = All-append (IsPiece q) f.pieces p.pieces f.each p.each;
  spelled = (λ i. f.spelled i ++ p.spelled i) ∙ sym (flat_map-append piece_text f.pieces p.pieces);
}

-- a front of a text that is read so
unlined : (front z text : List ℕ) → IsTrue (list_all not_end front) → front ++ z ≡ lines text →
    (rest : List ℕ) × (text ≡ front ++ rest) × (z ≡ lines rest)
unlined [] z text clean e = (text, refl, e)
unlined (d ∷ front) z [] clean e = absurd (let g : d ∷ (front ++ z) ≡ [] = e in cc)
unlined (d ∷ front) z (b ∷ text) clean e =
    let p = and_parts (not_end d) (list_all not_end front) clean in
    let i = is_inner d p.0 in
    ⊎_elim
    (λ cr.
    let g : d ∷ (front ++ z) ≡ 10 ∷ lines_after true text = e ∙ cond-true (b == 13) _ _ cr in
    let lf : d ≡ 10 = cc in
    absurd (both_ways (d == 10) (not-true (d == 10) i.no_lf) (eq-eqb d 10 lf)))
    (λ other.
    let g : d ∷ (front ++ z) ≡ b ∷ lines text = e ∙ cond-false (b == 13) _ _ other in
    let heads : b ≡ d = cc in
    let tails : front ++ z ≡ lines text = cc in
    let more = unlined front z text p.1 tails in
    (more.0, (λ k. heads k ∷ more.1 k), more.2))
    (cases_Bool (b == 13))

is_byte : (q b : ℕ) (rest : List ℕ) → b ≢ 38 → (pieces : List Piece) → All (IsPiece q) pieces →
    b ∷ rest ≡ flat_map piece_text pieces → IsPiece q (byte b)
is_byte q b rest other [] each e = absurd (let g : b ∷ rest ≡ [] = e in cc)
is_byte q b rest other (byte d ∷ ps) each e =
    let g : b ∷ rest ≡ d ∷ flat_map piece_text ps = e in
    let heads : d ≡ b = cc in
    let P : ℕ → Type 0 = λ k. IsPiece q (byte k) in
    subst P heads (All-head (IsPiece q) (byte d) ps each)
is_byte q b rest other (reference c t ∷ ps) each e =
    let start = reference_first c t (All-head (IsPiece q) (reference c t) ps each) in
    let g : b ∷ rest ≡ 38 ∷ (start.0 ++ flat_map piece_text ps) = e ∙ ap (λ xs. xs ++ flat_map piece_text ps) start.1 in
    let heads : b ≡ 38 = cc in
    absurd (other heads)

no_cr : (q : ℕ) → IsQuote q → IsPiece q (byte 13)
no_cr q is = (
  (λ e. ⊎_elim (λ (k : q ≡ 34). omega arith) (λ (k : q ≡ 39). omega arith) is),
  (λ (e : 13 ≡ 60). omega arith),
  (λ (e : 13 ≡ 38). omega arith),
)

-- pieces that begin with `&` begin with a reference
and_piece : (q : ℕ) (rest : List ℕ) (pieces : List Piece) → All (IsPiece q) pieces →
    38 ∷ rest ≡ flat_map piece_text pieces →
    (c : ℕ) × (t : List ℕ) × (more : List Piece) × IsReference c t × All (IsPiece q) more
    × (38 ∷ rest ≡ t ++ flat_map piece_text more)
and_piece q rest [] each e = absurd (let g : 38 ∷ rest ≡ [] = e in cc)
and_piece q rest (byte d ∷ ps) each e =
    let g : 38 ∷ rest ≡ d ∷ flat_map piece_text ps = e in
    let heads : d ≡ 38 = cc in
    absurd ((All-head (IsPiece q) (byte d) ps each).2 heads)
and_piece q rest (reference c t ∷ ps) each e =
    (c, t, ps, All-head (IsPiece q) (reference c t) ps each, All-tail (IsPiece q) (reference c t) ps each, e)

plain_of : (q : ℕ) → IsQuote q → (n : ℕ) (after : Bool) (text : List ℕ) → length text ≤ n → (pieces : List Piece) →
    All (IsPiece q) pieces → lines_after after text ≡ flat_map piece_text pieces → Plain q text
plain_of q is n after [] short pieces each e = plain_nil q
plain_of q is zero after (b ∷ text) short pieces each e = absurd (omega arith)
plain_of q is (suc n) after (b ∷ text) short pieces each e =
    let P : ℕ → Type 0 = λ k. IsPiece q (byte k) in
    ⊎_elim
    (λ cr.
    let f = first_byte q 10 (lines_after true text) (λ (k : 10 ≡ 38). omega arith) pieces each
    (sym (cond-true (b == 13) _ _ cr) ∙ e) in
    plain_byte q b text (subst P (sym (eqb-true b 13 cr)) (no_cr q is))
    (plain_of q is n true text (omega arith) f.more f.each f.spelled))
    (λ other.
    let g = sym (cond-false (b == 13) _ _ other) ∙ e in
    ⊎_elim
    (λ lf.
    let ten : b ≡ 10 = eqb-true b 10 (and_parts after (b == 10) lf).1 in
    plain_byte q b text (subst P (sym ten) (no_lf q is))
    (plain_of q is n false text (omega arith) pieces each (sym (cond-true (after && (b == 10)) _ _ lf) ∙ g)))
    (λ plain.
    let h : b ∷ lines text ≡ flat_map piece_text pieces = sym (cond-false (after && (b == 10)) _ _ plain) ∙ g in
    ⊎_elim
    (λ and.
    let is38 : b ≡ 38 = eqb-true b 38 and in
    let a = and_piece q (lines text) pieces each (ap (λ k. k ∷ lines text) (sym is38) ∙ h) in
    let u = unlined a.1 (flat_map piece_text a.2) (38 ∷ text) (reference_clean a.0 a.1 a.3) (sym a.5) in
    let start = reference_first a.0 a.1 a.3 in
    let total = ap length u.1 in
    let parts = length-append a.1 u.0 in
    let some = ap length start.1 in
    let later = plain_of q is n false u.0 (omega arith) a.2 a.4 (sym u.2) in
    let L : List ℕ → Type 0 = Plain q in
    subst L (sym u.1 ∙ ap (λ k. k ∷ text) (sym is38)) (plain_reference q a.0 a.1 u.0 a.3 later))
    (λ no_and.
    let not38 : b ≢ 38 = λ k. both_ways (b == 38) no_and (eq-eqb b 38 k) in
    let f = first_byte q b (lines text) not38 pieces each h in
    plain_byte q b text (is_byte q b (lines text) not38 pieces each h)
    (plain_of q is n false text (omega arith) f.more f.each f.spelled))
    (cases_Bool (b == 38)))
    (cases_Bool (after && (b == 10))))
    (cases_Bool (b == 13))

pub value_plain : (q : ℕ) → IsQuote q → (text value : List ℕ) → IsValue q value text → Plain q text
value_plain q is text value v = plain_of q is (length text) false text (omega arith) v.pieces v.each v.spelled
