-- The pieces of an attribute's value.
use Rattle.std.proofs.Common.{◌≡◌, ◌≢◌, ℕ, ◌<◌, ◌≤◌, Bool, true, cond, not, ◌&&◌, ◌||◌, ◌==◌}
use Rattle.std.proofs.Common.{List, [], ◌∷◌}
use Rattle.std.proofs.Common.{◌++◌, All, IsTrue, refl, sym, ap, subst, ◌∙◌, ⊎_elim, inl, inr, arith}
use Rattle.std.proofs.Common.{append_assoc, codes, eqb-true, eq-eqb, nat_lt}
use Rattle.std.specs.Prelude.{flat_map, encode_utf8}
use Rattle.std.specs.List.{list_all}
use Rattle.std.specs.Char.{digit_value}
use Rattle.std.specs.Str.Parse.{AllDigits}
use Rattle.std.proofs.lemmas.Bool.{cases_Bool, or_left, or_right, or_from, cond-true, cond-false, and_parts, and_from}
use Rattle.std.proofs.lemmas.Bool.{both_ways, false_from_ne_true, ltb-true, not-true}
use Rattle.std.proofs.lemmas.List.{append-nil, append_cancel_left}
use Rattle.std.proofs.lemmas.List.Elements.{All-head, All-tail}
use Rattle.std.proofs.lemmas.List.Folds.{list_all-append}
use Rattle.xml_tokens.specs.Characters.{IsReference, lines, lines_after}
use Rattle.xml_tokens.specs.Tokens.{Piece, piece_text, piece_read, IsPiece, IsValue}
use Rattle.xml_tokens.specs.Tokens.Piece.{byte, reference}
use Rattle.xml_tokens.specs.Reading.{IsFound, is_verbatim}
use Rattle.xml_tokens.proofs.LineLemmas.{not_cr, lines_clean}
use Rattle.xml_tokens.proofs.NumberLemmas.{IsBase}
use Rattle.xml_tokens.proofs.ReferencePartLemmas.{a_reference, from_reference, reference_part}

pub reference_first : (c : ℕ) (t : List ℕ) → IsReference c t → (u : List ℕ) × (t ≡ 38 ∷ u)
reference_first c t is =
    let r = from_reference c t [] is in
    (r.2, r.3 ∙ ap (λ xs. xs ++ r.2) r.4)

-- no line end, quote or `<`
abbrev pub not_end : ℕ → Bool
not_end b = not (b == 13) && not (b == 10) && not (b == 34) && not (b == 39) && not (b == 60)

pub not_end_from : (b : ℕ) → b ≢ 13 → b ≢ 10 → b ≢ 34 → b ≢ 39 → b ≢ 60 → IsTrue (not_end b)
not_end_from b no13 no10 no34 no39 no60 =
    let one : (k : ℕ) → b ≢ k → not (b == k) ≡ true =
    λ k no. ap not (false_from_ne_true (b == k) (λ e. no (eqb-true b k e))) in
    and_from _ (not (b == 60)) (and_from _ (not (b == 39)) (and_from _ (not (b == 34))
    (and_from (not (b == 13)) (not (b == 10)) (one 13 no13) (one 10 no10)) (one 34 no34)) (one 39 no39)) (one 60 no60)

pub record IsInner (b : ℕ) : Type 0 where
  pub no_cr : not (b == 13) ≡ true
  pub no_lf : not (b == 10) ≡ true
  pub no_quote : not (b == 34) ≡ true
  pub no_apostrophe : not (b == 39) ≡ true
  pub no_tag : not (b == 60) ≡ true

pub is_inner : (b : ℕ) → IsTrue (not_end b) → IsInner b
is_inner b is =
    let p4 = and_parts (not (b == 13) && not (b == 10) && not (b == 34) && not (b == 39)) (not (b == 60)) is in
    let p3 = and_parts (not (b == 13) && not (b == 10) && not (b == 34)) (not (b == 39)) p4.0 in
    let p2 = and_parts (not (b == 13) && not (b == 10)) (not (b == 34)) p3.0 in
    let p1 = and_parts (not (b == 13)) (not (b == 10)) p2.0 in
    record { no_cr = p1.0; no_lf = p1.1; no_quote = p2.1; no_apostrophe = p3.1; no_tag = p4.1 }

digits_clean : (base : ℕ) → IsBase base → (ds : List ℕ) → AllDigits base ds → IsTrue (list_all not_end ds)
digits_clean base is [] all = refl
digits_clean base is (d ∷ ds) all =
    let low : digit_value d < 16 = ⊎_elim
    (λ ten. let P : ℕ → Type 0 = λ b. digit_value d < b in let h : digit_value d < 10 = subst P ten all.0 in omega
    arith)
    (λ hex. let P : ℕ → Type 0 = λ b. digit_value d < b in subst P hex all.0) is in
    let D : ℕ → Type 0 = λ k. digit_value k < 16 in
    and_from (not_end d) (list_all not_end ds)
    (not_end_from d (λ (e : d ≡ 13). let h : 36 < 16 = subst D e low in omega arith)
    (λ (e : d ≡ 10). let h : 36 < 16 = subst D e low in omega arith)
    (λ (e : d ≡ 34). let h : 36 < 16 = subst D e low in omega arith)
    (λ (e : d ≡ 39). let h : 36 < 16 = subst D e low in omega arith)
    (λ (e : d ≡ 60). let h : 36 < 16 = subst D e low in omega arith))
    (digits_clean base is ds all.1)

numbered_clean : (base : ℕ) → IsBase base → (start ds : List ℕ) → IsTrue (list_all not_end start) → AllDigits base ds →
    IsTrue (list_all not_end (start ++ ds ++ codes ";"))
numbered_clean base is start ds clean all =
    list_all-append not_end (start ++ ds) (codes ";")
    ∙ and_from (list_all not_end (start ++ ds)) true
    (list_all-append not_end start ds ∙ and_from (list_all not_end start) (list_all not_end ds) clean
    (digits_clean base is ds all)) refl

-- no line end stands in a reference
pub reference_clean : (c : ℕ) (t : List ℕ) → IsReference c t → IsTrue (list_all not_end t)
reference_clean c t is =
    let C : List ℕ → Type 0 = λ xs. IsTrue (list_all not_end xs) in
    ⊎_elim
    (λ named. ⊎_elim (λ a. subst C (sym a.1) refl)
    (λ is2. ⊎_elim (λ a. subst C (sym a.1) refl)
    (λ is3. ⊎_elim (λ a. subst C (sym a.1) refl)
    (λ is4. ⊎_elim (λ a. subst C (sym a.1) refl) (λ a. subst C (sym a.1) refl) is4) is3) is2) named)
    (λ numbered. ⊎_elim
    (λ ten. subst C (sym ten.spelled) (numbered_clean 10 (inl refl) (codes "&#") ten.digits refl ten.numeral.1))
    (λ hex. subst C (sym hex.spelled) (numbered_clean 16 (inr refl) (codes "&#x") hex.digits refl hex.numeral.1))
    numbered)
    is.1

pub without_cr : (xs : List ℕ) → IsTrue (list_all not_end xs) → IsTrue (list_all not_cr xs)
without_cr [] clean = refl
without_cr (b ∷ xs) clean =
    let p = and_parts (not_end b) (list_all not_end xs) clean in
    and_from (not_cr b) (list_all not_cr xs) (is_inner b p.0).no_cr (without_cr xs p.1)

-- how a byte of a value is read
abbrev pub read_byte : ℕ → ℕ
read_byte b = cond ((b == 9) || (b == 10)) 32 b

-- the pieces after the first one
pub record Behind (q : ℕ) (pieces : List Piece) (front rest : List ℕ) : Type 0 where
  pub more : List Piece
  pub each : All (IsPiece q) more
  pub spelled : rest ≡ flat_map piece_text more
  pub read : flat_map piece_read pieces ≡ front ++ flat_map piece_read more

pub first_byte : (q b : ℕ) (rest : List ℕ) → b ≢ 38 → (pieces : List Piece) → All (IsPiece q) pieces →
    b ∷ rest ≡ flat_map piece_text pieces → Behind q pieces (read_byte b ∷ []) rest
first_byte q b rest other [] each e = absurd (let g : b ∷ rest ≡ [] = e in cc)
first_byte q b rest other (byte d ∷ ps) each e =
    let same : b ∷ rest ≡ d ∷ flat_map piece_text ps = e in
    let heads : d ≡ b = cc in
    let tails : rest ≡ flat_map piece_text ps = cc in
    record {
      more = ps;
      each = All-tail (IsPiece q) (byte d) ps each;
      spelled = tails;
      read = ap (λ x. read_byte x ∷ flat_map piece_read ps) heads;
    }
first_byte q b rest other (reference c t ∷ ps) each e =
    let start = reference_first c t (All-head (IsPiece q) (reference c t) ps each) in
    let same : b ∷ rest ≡ 38 ∷ (start.0 ++ flat_map piece_text ps) = e
    ∙ ap (λ xs. xs ++ flat_map piece_text ps) start.1 in
    let heads : b ≡ 38 = cc in
    absurd (other heads)

first_reference : (q c : ℕ) (t rest : List ℕ) → IsReference c t → (pieces : List Piece) → All (IsPiece q) pieces →
    t ++ rest ≡ flat_map piece_text pieces → Behind q pieces (encode_utf8 c) rest
first_reference q c t rest is [] each e =
    let start = reference_first c t is in
    absurd (let g : 38 ∷ (start.0 ++ rest) ≡ [] = ap (λ xs. xs ++ rest) (sym start.1) ∙ e in cc)
first_reference q c t rest is (byte d ∷ ps) each e =
    let start = reference_first c t is in
    let same : 38 ∷ (start.0 ++ rest) ≡ d ∷ flat_map piece_text ps = ap (λ xs. xs ++ rest) (sym start.1) ∙ e in
    let heads : d ≡ 38 = cc in
    absurd ((All-head (IsPiece q) (byte d) ps each).2 heads)
first_reference q c t rest is (reference k u ∷ ps) each e =
    let one = reference_part.unique c k t rest u (flat_map piece_text ps) is
    (All-head (IsPiece q) (reference k u) ps each) e in
    record {
      more = ps;
      each = All-tail (IsPiece q) (reference k u) ps each;
      spelled = append_cancel_left t rest (flat_map piece_text ps)
          (e ∙ ap (λ xs. xs ++ flat_map piece_text ps) (sym one.1));
      read = ap (λ x. encode_utf8 x ++ flat_map piece_read ps) (sym one.0);
    }

-- after what was appended, the value goes on as that of the rest
abbrev pub GoesOn : List ℕ → List ℕ → List ℕ → Type 0
GoesOn written items rest =
    (q : ℕ) (value : List ℕ) → IsValue q value written → (later : List ℕ) × IsValue q later rest ×
    (value ≡ items ++ later)

behind_value : (q : ℕ) (value text front rest : List ℕ) (v : IsValue q value text) →
    Behind q v.pieces front (lines rest) → (later : List ℕ) × IsValue q later rest × (value ≡ front ++ later)
behind_value q value text front rest v b = (
  flat_map piece_read b.more,
  record { pieces = b.more; each = b.each; spelled = b.spelled; read = refl },
  v.read
      ∙ b.read,
)

goes_further : (written items text front rest : List ℕ) → GoesOn written items text →
    ((q : ℕ) (value : List ℕ) (v : IsValue q value text) → Behind q v.pieces front (lines rest)) → (more : List ℕ) →
    more ≡ items ++ front → GoesOn written more rest
goes_further written items text front rest on step more is q value v =
    let a = on q value v in
    let b = behind_value q a.0 text front rest a.1 (step q a.0 a.1) in
    (b.0, b.1, a.2 ∙ ap (λ xs. items ++ xs) b.2 ∙ sym (append_assoc items front b.0) ∙ ap (λ xs. xs ++ b.0) (sym is))

pub byte_goes : (written items text tail : List ℕ) (b : ℕ) → b ≢ 13 → b ≢ 38 → text ≡ b ∷ tail →
    GoesOn written items text → (more : List ℕ) → more ≡ items ++ read_byte b ∷ [] → GoesOn written more tail
byte_goes written items text tail b no_cr no_and is on =
    goes_further written items text (read_byte b ∷ []) tail on (λ q value v.
    first_byte q b (lines tail) no_and v.pieces v.each
    (sym (ap lines is ∙ cond-false (b == 13) _ _ (false_from_ne_true (b == 13) (λ e. no_cr (eqb-true b 13 e))))
    ∙ v.spelled))

pub line_goes : (written items text tail rest : List ℕ) → text ≡ 13 ∷ tail → lines rest ≡ lines_after true tail →
    GoesOn written items text → (more : List ℕ) → more ≡ items ++ 32 ∷ [] → GoesOn written more rest
line_goes written items text tail rest is behind on =
    goes_further written items text (32 ∷ []) rest on (λ q value v.
    first_byte q 10 (lines rest) (λ (e : 10 ≡ 38). omega arith) v.pieces v.each
    (ap (λ xs. 10 ∷ xs) behind ∙ sym (ap lines is) ∙ v.spelled))

pub reference_goes : (written items text rest : List ℕ) (c : ℕ) → IsFound a_reference text c rest →
    GoesOn written items text → (more : List ℕ) → more ≡ items ++ encode_utf8 c → GoesOn written more rest
reference_goes written items text rest c f on =
    goes_further written items text (encode_utf8 c) rest on (λ q value v.
    first_reference q c f.front (lines rest) f.spelled v.pieces v.each
    (sym (ap lines f.split ∙ lines_clean f.front rest (without_cr f.front (reference_clean c f.front f.spelled)))
    ∙ v.spelled))

pub plain_read : (b : ℕ) → b ≢ 9 → b ≢ 10 → read_byte b ≡ b
plain_read b no_tab no_lf =
    cond-false ((b == 9) || (b == 10)) 32 b
    (or_from (b == 9) (b == 10) (false_from_ne_true (b == 9) (λ e. no_tab (eqb-true b 9 e)))
    (false_from_ne_true (b == 10) (λ e. no_lf (eqb-true b 10 e))))

pub none_gone : (written : List ℕ) → GoesOn written [] written
none_gone written q value v = (value, v, refl)

pub verbatim_goes : (written items text run rest : List ℕ) → text ≡ run ++ rest → IsTrue (list_all is_verbatim run) →
    GoesOn written items text → (more : List ℕ) → more ≡ items ++ run → GoesOn written more rest
verbatim_goes written items text [] rest split all on more is =
    subst (λ xs. GoesOn written xs rest) (sym (is ∙ append-nil items)) (subst (GoesOn written items) split on)
verbatim_goes written items text (b ∷ run) rest split all on more is =
    let p = and_parts (is_verbatim b) (list_all is_verbatim run) all in
    let parts = and_parts (nat_lt 13 b) (not (b == 38)) p.0 in
    let above = ltb-true 13 b parts.0 in
    let no_and : b ≢ 38 = λ e. both_ways (b == 38) (not-true (b == 38) parts.1) (eq-eqb b 38 e) in
    let read = plain_read b (λ e. omega (arith, above, e)) (λ e. omega (arith, above, e)) in
    verbatim_goes written (items ++ b ∷ []) (run ++ rest) run rest refl p.1
    (byte_goes written items text (run ++ rest) b (λ e. omega (arith, above, e)) no_and split on (items ++ b ∷ [])
    (ap (λ x. items ++ x ∷ []) (sym read))) more (is ∙ sym (append_assoc items (b ∷ []) run))

no_pieces : (q : ℕ) (pieces : List Piece) → All (IsPiece q) pieces → [] ≡ flat_map piece_text pieces →
    flat_map piece_read pieces ≡ []
no_pieces q [] each e = refl
no_pieces q (byte d ∷ ps) each e = absurd (let g : [] ≡ d ∷ flat_map piece_text ps = e in cc)
no_pieces q (reference c t ∷ ps) each e =
    let start = reference_first c t (All-head (IsPiece q) (reference c t) ps each) in
    absurd (let g : [] ≡ 38 ∷ (start.0 ++ flat_map piece_text ps) = e
    ∙ ap (λ xs. xs ++ flat_map piece_text ps) start.1 in cc)

pub value_ends : (written items text : List ℕ) → GoesOn written items text → text ≡ [] → (q : ℕ) (value : List ℕ) →
    IsValue q value written → items ≡ value
value_ends written items text on is q value v =
    let a = on q value v in
    let none = no_pieces q a.1.pieces a.1.each (sym (ap lines is) ∙ a.1.spelled) in
    sym (a.2 ∙ ap (λ xs. items ++ xs) (a.1.read ∙ none) ∙ append-nil items)

pub blank_read : (b : ℕ) → 9 ≤ b → b ≤ 10 → read_byte b ≡ 32
blank_read b low high =
    ⊎_elim
    (λ tab. cond-true ((b == 9) || (b == 10)) 32 b (or_left (b == 9) (b == 10) tab))
    (λ other.
    let no_tab : b ≢ 9 = λ e. both_ways (b == 9) other (eq-eqb b 9 e) in
    let lf : b ≡ 10 = omega arith in
    cond-true ((b == 9) || (b == 10)) 32 b (or_right (b == 9) (b == 10) (eq-eqb b 10 lf)))
    (cases_Bool (b == 9))
