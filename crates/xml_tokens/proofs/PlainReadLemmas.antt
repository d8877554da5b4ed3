-- A value up to its quote.
use Rattle.std.proofs.Common.{◌≡◌, ◌≢◌, ◌⊎◌, ℕ, not, ◌||◌, ◌==◌, List, [], ◌∷◌}
use Rattle.std.proofs.Common.{◌++◌, length}
use Rattle.std.proofs.Common.{drop, All, IsTrue, refl, sym, ap, subst, ◌∙◌, ⊎_elim, inl, inr, arith, append_assoc}
use Rattle.std.proofs.Common.{eqb-true, eq-eqb}
use Rattle.std.specs.Prelude.{flat_map, Result, Err}
use Rattle.std.specs.List.{list_all}
use Rattle.std.proofs.lemmas.Bool.{cases_Bool, and_parts, both_ways, not-true, or_parts, or_cases}
use Rattle.std.proofs.lemmas.List.{append-nil, append_cancel_left, length-append}
use Rattle.std.proofs.lemmas.List.Elements.{All-head, All-tail}
use Rattle.std.proofs.lemmas.List.Folds.{list_all-append}
use Rattle.xml_tokens.specs.declared.cursor.Lapse.{Lapse}
use Rattle.xml_tokens.specs.declared.cursor.Lapse.TheVariants.{Broken, Cut, NoMemory}
use Rattle.xml_tokens.specs.Tokens.{Piece, piece_text, IsPiece, IsQuote}
use Rattle.xml_tokens.specs.Tokens.Piece.{byte, reference}
use Rattle.xml_tokens.specs.Reading.{IsFound, Starts, Continues, Reads, IsCutBefore, exactly, value_behind}
use Rattle.xml_tokens.specs.Reading.{first_is_no}
use Rattle.xml_tokens.proofs.PartLemmas.{Leads, splits, mapped_fails, nil_back, leads_reads, same_reads}
use Rattle.xml_tokens.specs.Reading.{mapped}
use Rattle.xml_tokens.proofs.ReferencePartLemmas.{a_reference, reference_part}
use Rattle.xml_tokens.proofs.ValueLemmas.{reference_first, reference_clean, not_end, is_inner}
use Rattle.xml_tokens.proofs.PlainLemmas.{Plain, plain_nil, plain_byte, plain_append, plain_reference, plain_value}
use Rattle.xml_tokens.proofs.PlainLemmas.{value_plain}

-- a value as it is written, and its quote
abbrev pub plain_behind : ℕ → List ℕ → List ℕ → List ℕ → Type 0
plain_behind q written text rest = Plain q written × (text ≡ written ++ q ∷ [])

pub to_value : (q : ℕ) → IsQuote q → (w s rest : List ℕ) → plain_behind q w s rest → value_behind q w s rest
to_value q is w s rest p = (plain_value q is w p.0, p.1)

pub from_value : (q : ℕ) → IsQuote q → (w s rest : List ℕ) → value_behind q w s rest → plain_behind q w s rest
from_value q is w s rest p = (value_plain q is w p.0.0 p.0.1, p.1)

pub value_reads : (q : ℕ) → IsQuote q → (text : List ℕ) (r : Result (List ℕ) Lapse) (end : List ℕ) →
    Reads (plain_behind q) text r end → Reads (value_behind q) text r end
value_reads q is text r end read = same_reads (value_behind q) (plain_behind q) (to_value q is)
    (from_value q is) text r end read

pub quote_is : (q : ℕ) → IsQuote q → q ≢ 38
quote_is q is e = ⊎_elim (λ (k : q ≡ 34). omega arith) (λ (k : q ≡ 39). omega arith) is

-- pieces at the front of a value are its first ones
pub plain_rest : (q : ℕ) → IsQuote q → (z y : List ℕ) (ps ws : List Piece) → All (IsPiece q) ps → All (IsPiece q) ws →
    flat_map piece_text ps ++ z ≡ flat_map piece_text ws ++ q ∷ y →
    (more : List ℕ) × (flat_map piece_text ws ≡ flat_map piece_text ps ++ more) × Plain q more × (z ≡ more ++ q ∷ y)
plain_rest q is z y [] ws each_p each_w e =
    (flat_map piece_text ws, refl, record { pieces = ws; each = each_w; spelled = refl }, e)
plain_rest q is z y (byte b ∷ ps) [] each_p each_w e =
    let heads : b ≡ q = cc in
    absurd ((All-head (IsPiece q) (byte b) ps each_p).0 heads)
plain_rest q is z y (byte b ∷ ps) (byte d ∷ ws) each_p each_w e =
    let heads : b ≡ d = cc in
    let tails : flat_map piece_text ps ++ z ≡ flat_map piece_text ws ++ q ∷ y = cc in
    let r = plain_rest q is z y ps ws (All-tail (IsPiece q) (byte b) ps each_p) (All-tail (IsPiece q)
    (byte d) ws each_w) tails in
    (r.0, (λ i. sym heads i ∷ r.1 i), r.2, r.3)
plain_rest q is z y (byte b ∷ ps) (reference c t ∷ ws) each_p each_w e =
    let start = reference_first c t (All-head (IsPiece q) (reference c t) ws each_w) in
    let same : b ∷ (flat_map piece_text ps ++ z) ≡ 38 ∷ ((start.0 ++ flat_map piece_text ws) ++ q ∷ y) =
    e ∙ ap (λ xs. (xs ++ flat_map piece_text ws) ++ q ∷ y) start.1 in
    let heads : b ≡ 38 = cc in
    absurd ((All-head (IsPiece q) (byte b) ps each_p).2 heads)
plain_rest q is z y (reference c t ∷ ps) [] each_p each_w e =
    let start = reference_first c t (All-head (IsPiece q) (reference c t) ps each_p) in
    let same : 38 ∷ ((start.0 ++ flat_map piece_text ps) ++ z) ≡ q ∷ y =
    ap (λ xs. (xs ++ flat_map piece_text ps) ++ z) (sym start.1) ∙ e in
    let heads : q ≡ 38 = cc in
    absurd (quote_is q is heads)
plain_rest q is z y (reference c t ∷ ps) (byte d ∷ ws) each_p each_w e =
    let start = reference_first c t (All-head (IsPiece q) (reference c t) ps each_p) in
    let same : 38 ∷ ((start.0 ++ flat_map piece_text ps) ++ z) ≡ d ∷ (flat_map piece_text ws ++ q ∷ y) =
    ap (λ xs. (xs ++ flat_map piece_text ps) ++ z) (sym start.1) ∙ e in
    let heads : d ≡ 38 = cc in
    absurd ((All-head (IsPiece q) (byte d) ws each_w).2 heads)
plain_rest q is z y (reference c t ∷ ps) (reference k u ∷ ws) each_p each_w e =
    let is_t = All-head (IsPiece q) (reference c t) ps each_p in
    let is_u = All-head (IsPiece q) (reference k u) ws each_w in
    let same : t ++ (flat_map piece_text ps ++ z) ≡ u ++ (flat_map piece_text ws ++ q ∷ y) =
    sym (append_assoc t (flat_map piece_text ps) z) ∙ e ∙ append_assoc u (flat_map piece_text ws) (q ∷ y) in
    let one = reference_part.unique c k t (flat_map piece_text ps ++ z) u
    (flat_map piece_text ws ++ q ∷ y) is_t is_u same in
    let tails = append_cancel_left t (flat_map piece_text ps ++ z) (flat_map piece_text ws ++ q ∷ y)
    (same ∙ ap (λ xs. xs ++ (flat_map piece_text ws ++ q ∷ y)) (sym one.1)) in
    let r = plain_rest q is z y ps ws (All-tail (IsPiece q) (reference c t) ps each_p)
    (All-tail (IsPiece q) (reference k u) ws each_w) tails in (
      r.0,
      ap (λ xs. xs ++ flat_map piece_text ws) (sym one.1) ∙ ap (λ xs. t ++ xs) r.1
          ∙ sym (append_assoc t (flat_map piece_text ps) r.0),
      r.2,
      r.3,
    )

-- a value after a front
abbrev pub behind_front : ℕ → List ℕ → List ℕ → List ℕ → List ℕ → Type 0
behind_front q front = mapped (λ w. front ++ w) (plain_behind q)

pub front_leads : (q : ℕ) → IsQuote q → (front rest : List ℕ) → Plain q front →
    Leads (plain_behind q) (front ++ rest) (behind_front q front) rest
front_leads q is front rest p = record {
  forth = λ v more after found.
      let b = found.spelled in
      let P : List ℕ → Type 0 = Plain q in
      record {
        front = front ++ found.front;
        split = append_assoc front rest more ∙ ap (λ xs. front ++ xs) found.split
            ∙ sym (append_assoc front found.front after);
        spelled = (
          subst P (sym b.1) (plain_append q front b.0 p b.2.0),
          ap (λ xs. front ++ xs) b.2.1 ∙ sym (append_assoc front b.0 (q ∷ [])) ∙ ap (λ xs. xs ++ q ∷ []) (sym b.1),
        );
      };
  back = λ v more after none found.
      let w = found.spelled.0 in
      let F : List ℕ = flat_map piece_text p.pieces in
      let W : List ℕ = flat_map piece_text w.pieces in
      let same : F ++ (rest ++ more) ≡ W ++ q ∷ after =
      ap (λ xs. xs ++ (rest ++ more)) (sym p.spelled) ∙ sym (append_assoc front rest more) ∙ found.split
      ∙ ap (λ xs. xs ++ after) found.spelled.1 ∙ append_assoc v (q ∷ []) after
      ∙ ap (λ xs. xs ++ q ∷ after) w.spelled in
      let r = plain_rest q is (rest ++ more) after p.pieces w.pieces p.each w.each same in
      record {
        front = r.0 ++ q ∷ [];
        split = r.3 ∙ sym (append_assoc r.0 (q ∷ []) after);
        spelled = (r.0, w.spelled ∙ r.1 ∙ ap (λ xs. xs ++ r.0) (sym p.spelled), (r.2, refl));
      };
  ends = λ e. nil_back front rest e;
}

pub front_lives : (q : ℕ) (front : List ℕ) → Continues (behind_front q front) []
front_lives q front =
    (q ∷ [], (front ++ [], [], record { front = q ∷ []; split = refl; spelled = ([], refl, (plain_nil q, refl)) }))

-- a value ends at its quote, or at `<`
abbrev pub Ends : ℕ → List ℕ → Type 0
Ends q rest = (rest ≡ []) ⊎ ((b : ℕ) × (tail : List ℕ) × ((b ≡ q) ⊎ (b ≡ 60)) × (rest ≡ b ∷ tail))

pub ends_of : (q : ℕ) (rest : List ℕ) → IsTrue (first_is_no (λ b. not ((b == q) || (b == 60))) rest) → Ends q rest
ends_of q [] is = inl refl
ends_of q (b ∷ rest) is =
    ⊎_elim
    (λ t. inr (
      b,
      rest,
      ⊎_elim (λ e. inl (eqb-true b q e)) (λ e. inr (eqb-true b 60 e)) (or_cases (b == q)
          (b == 60) t),
      refl,
    ))
    (λ f. absurd (both_ways (not ((b == q) || (b == 60))) (not-true (not ((b == q) || (b == 60))) is) (ap not f)))
    (cases_Bool ((b == q) || (b == 60)))

pub plain_run : (q : ℕ) (run : List ℕ) → IsTrue (list_all (λ b. not ((b == q) || (b == 60))) run) →
    IsTrue (list_all (λ b. not ((b == 38) || (b == 38))) run) → Plain q run
plain_run q [] free no_and = plain_nil q
plain_run q (b ∷ run) free no_and =
    let f = and_parts (not ((b == q) || (b == 60))) (list_all (λ k. not ((k == q) || (k == 60))) run) free in
    let a = and_parts (not ((b == 38) || (b == 38))) (list_all (λ k. not ((k == 38) || (k == 38))) run) no_and in
    let p = or_parts (b == q) (b == 60) (not-true ((b == q) || (b == 60)) f.0) in
    let n = or_parts (b == 38) (b == 38) (not-true ((b == 38) || (b == 38)) a.0) in
    plain_byte q b run (
      (λ e. both_ways (b == q) p.0 (eq-eqb b q e)),
      (λ e. both_ways (b == 60) p.1 (eq-eqb b 60 e)),
      (λ e. both_ways (b == 38) n.0 (eq-eqb b 38 e)),
    ) (plain_run q run f.1 a.1)

reference_of : (q : ℕ) → IsQuote q → (tail after : List ℕ) (pieces : List Piece) → All (IsPiece q) pieces →
    38 ∷ tail ≡ flat_map piece_text pieces ++ q ∷ after → Starts a_reference (38 ∷ tail)
reference_of q is tail after [] each e = let heads : q ≡ 38 = cc in absurd (quote_is q is heads)
reference_of q is tail after (byte d ∷ ps) each e =
    let heads : d ≡ 38 = cc in absurd ((All-head (IsPiece q) (byte d) ps each).2 heads)
reference_of q is tail after (reference c t ∷ ps) each e = (
  c,
  flat_map piece_text ps ++ q ∷ after,
  record {
    front = t;
    split = e ∙ append_assoc t (flat_map piece_text ps) (q ∷ after);
    spelled = All-head (IsPiece q) (reference c t) ps each;
  },
)

-- a value that begins with `&` begins with a reference
begins_reference : (q : ℕ) → IsQuote q → (tail w text after : List ℕ) → 38 ∷ tail ≡ text ++ after →
    plain_behind q w text after → Starts a_reference (38 ∷ tail)
begins_reference q is tail w text after e p =
    let same : 38 ∷ tail ≡ flat_map piece_text p.0.pieces ++ q ∷ after =
    e ∙ ap (λ xs. xs ++ after) p.1 ∙ append_assoc w (q ∷ []) after ∙ ap (λ xs. xs ++ q ∷ after) p.0.spelled in
    reference_of q is tail after p.0.pieces p.0.each same

-- a reference that can't be read, at the end of the text
pub last_fails : (q : ℕ) → IsQuote q → (text tail : List ℕ) → text ≡ 38 ∷ tail → (e : Lapse) (end last : List ℕ) →
    Reads a_reference text (Err e) end → Reads (plain_behind q) text (Err e) last
last_fails q is text tail and Broken end last none = λ (some : Continues (plain_behind q) text).
    let f = some.1.2 in
    let A : List ℕ → Type 0 = λ xs. Starts a_reference (xs ++ some.0) in
    none (
      some.0,
      subst A (sym and) (begins_reference q is (tail ++ some.0) some.1.0 f.front some.1.1
          (ap (λ xs. xs ++ some.0) (sym and) ∙ f.split) f.spelled),
    )
last_fails q is text tail and Cut end last cut =
    let f = cut.1.1.2 in (
      (λ (some : Starts (plain_behind q) text).
          let g = some.2 in
          let A : List ℕ → Type 0 = λ xs. Starts a_reference xs in
          cut.0 (subst A (sym and) (begins_reference q is tail some.0 g.front some.1 (sym and ∙ g.split) g.spelled))),
      ⊎_elim
          (λ longer.
          let P : List ℕ → Type 0 = Plain q in (
            longer.0 ++ q ∷ [],
            (
              f.front,
              [],
              record {
                front = f.front ++ q ∷ [];
                split = sym (append_assoc text longer.0 (q ∷ [])) ∙ ap (λ xs. xs ++ q ∷ []) (sym longer.1)
                    ∙ sym (append-nil (f.front ++ q ∷ []));
                spelled = (
                  subst P (append-nil f.front) (plain_reference q cut.1.1.0 f.front [] f.spelled
                      (plain_nil q)),
                  refl,
                );
              },
            ),
          ))
          (λ shorter. absurd (cut.0 (
            cut.1.1.0,
            shorter.0,
            record {
              front = f.front;
              split = shorter.1;
              spelled = f.spelled;
            },
          )))
          (splits text cut.1.0 f.front cut.1.1.1 f.split),
    )
last_fails q is text tail and NoMemory end last none = tt

-- no reference goes over the end of a value
not_over : (q : ℕ) → IsQuote q → (c : ℕ) (inside m : List ℕ) (b : ℕ) → ((b ≡ q) ⊎ (b ≡ 60)) →
    a_reference c (inside ++ b ∷ m) [] → ⊥
not_over q is c inside m b ends r =
    let all = reference_clean c (inside ++ b ∷ m) r in
    let p = and_parts (list_all not_end inside) (list_all not_end (b ∷ m)) (sym (list_all-append not_end inside
    (b ∷ m)) ∙ all) in
    let i = is_inner b (and_parts (not_end b) (list_all not_end m) p.1).0 in
    ⊎_elim
    (λ at_q. ⊎_elim
    (λ e. both_ways (b == 34) (not-true (b == 34) i.no_quote) (eq-eqb b 34 (at_q ∙ e)))
    (λ e. both_ways (b == 39) (not-true (b == 39) i.no_apostrophe) (eq-eqb b 39 (at_q ∙ e))) is)
    (λ e. both_ways (b == 60) (not-true (b == 60) i.no_tag) (eq-eqb b 60 e))
    ends

over : (q : ℕ) → IsQuote q → (inside rest more z : List ℕ) (c : ℕ) (t : List ℕ) →
    ((b : ℕ) × (tail : List ℕ) × ((b ≡ q) ⊎ (b ≡ 60)) × (rest ≡ b ∷ tail)) → (Starts a_reference inside → ⊥) →
    (m : List ℕ) → t ≡ inside ++ m → rest ++ more ≡ m ++ z → a_reference c t z → ⊥
over q is inside rest more z c t end none [] longer e r =
    let R : List ℕ → Type 0 = λ xs. a_reference c xs [] in
    none (
      c,
      [],
      record {
        front = t;
        split = sym (append-nil inside) ∙ sym longer ∙ sym (append-nil t);
        spelled = r;
      },
    )
over q is inside rest more z c t end none (x ∷ m) longer e r =
    let same : end.0 ∷ (end.1 ++ more) ≡ x ∷ (m ++ z) = ap (λ xs. xs ++ more) (sym end.3) ∙ e in
    let heads : end.0 ≡ x = cc in
    let R : List ℕ → Type 0 = λ xs. a_reference c xs [] in
    not_over q is c inside m end.0 end.2 (subst R (longer ∙ ap (λ k. inside ++ k ∷ m) (sym heads)) r)

-- a reference that can't be read before the end of its value
pub inner_fails : (q : ℕ) → IsQuote q → (inside tail rest : List ℕ) → inside ≡ 38 ∷ tail → Ends q rest → rest ≢ [] →
    (Starts a_reference inside → ⊥) → Continues (plain_behind q) (inside ++ rest) → ⊥
inner_fails q is inside tail rest and ends some none goes =
    let f = goes.1.2 in
    let whole : (inside ++ rest) ++ goes.0 ≡ 38 ∷ ((tail ++ rest) ++ goes.0) =
    ap (λ xs. (xs ++ rest) ++ goes.0) and in
    let start = begins_reference q is ((tail ++ rest) ++ goes.0) goes.1.0 f.front goes.1.1 (sym whole
    ∙ f.split) f.spelled in
    let r = start.2 in
    ⊎_elim (λ e. some e)
    (λ end.
    let same : inside ++ (rest ++ goes.0) ≡ r.front ++ start.1 =
    sym (append_assoc inside rest goes.0) ∙ whole ∙ r.split in
    ⊎_elim
    (λ longer. over q is inside rest goes.0 start.1 start.0 r.front end none longer.0 longer.1 longer.2 r.spelled)
    (λ shorter. none (start.0, shorter.0, record { front = r.front; split = shorter.1; spelled = r.spelled }))
    (splits inside (rest ++ goes.0) r.front start.1 same))
    ends

-- no quote after the value
no_quote_none : (q : ℕ) → IsQuote q → (rest more after : List ℕ) → Ends q rest → (Continues (exactly (q ∷ [])) rest →
    ⊥) →
    (pieces : List Piece) → All (IsPiece q) pieces → rest ++ more ≡ flat_map piece_text pieces ++ q ∷ after → ⊥
no_quote_none q is rest more after ends none [] each e =
    none (more, (tt, after, record { front = q ∷ []; split = e; spelled = refl }))
no_quote_none q is rest more after ends none (byte d ∷ ps) each e =
    let p = All-head (IsPiece q) (byte d) ps each in
    ⊎_elim
    (λ nil. none (q ∷ [], (tt, [], record { front = q ∷ []; split = ap (λ xs. xs ++ q ∷ []) nil; spelled = refl })))
    (λ end.
    let same : end.0 ∷ (end.1 ++ more) ≡ d ∷ (flat_map piece_text ps ++ q ∷ after) = ap (λ xs. xs ++ more) (sym end.3)
    ∙ e in
    let heads : d ≡ end.0 = cc in
    ⊎_elim (λ k. p.0 (heads ∙ k)) (λ k. p.1 (heads ∙ k)) end.2)
    ends
no_quote_none q is rest more after ends none (reference c t ∷ ps) each e =
    let start = reference_first c t (All-head (IsPiece q) (reference c t) ps each) in
    ⊎_elim
    (λ nil. none (q ∷ [], (tt, [], record { front = q ∷ []; split = ap (λ xs. xs ++ q ∷ []) nil; spelled = refl })))
    (λ end.
    let same : end.0 ∷ (end.1 ++ more) ≡ 38 ∷ ((start.0 ++ flat_map piece_text ps) ++ q ∷ after) =
    ap (λ xs. xs ++ more) (sym end.3) ∙ e ∙ ap (λ xs. (xs ++ flat_map piece_text ps) ++ q ∷ after) start.1 in
    let heads : end.0 ≡ 38 = cc in
    ⊎_elim (λ k. quote_is q is (sym k ∙ heads)) (λ (k : end.0 ≡ 60). omega arith) end.2)
    ends

-- the quote can't be read
pub quote_fails : (q : ℕ) → IsQuote q → (rest : List ℕ) → Ends q rest → (e : Lapse) (end : List ℕ) →
    Reads (exactly (q ∷ [])) rest (Err e) end → Reads (plain_behind q) rest (Err e) end
quote_fails q is rest ends Broken end none = λ (some : Continues (plain_behind q) rest).
    let f = some.1.2 in
    let p = f.spelled.0 in
    no_quote_none q is rest some.0 some.1.1 ends none p.pieces p.each
    (f.split ∙ ap (λ xs. xs ++ some.1.1) f.spelled.1 ∙ append_assoc some.1.0 (q ∷ []) some.1.1
    ∙ ap (λ xs. xs ++ q ∷ some.1.1) p.spelled)
quote_fails q is rest ends Cut end cut =
    let f = cut.1.1.2 in
    let nil : rest ≡ [] = ⊎_elim (λ n. n) (λ at. ⊎_elim
    (λ k. absurd (cut.0 (tt, at.1, record { front = q ∷ []; split = at.3 ∙ ap (λ b. b ∷ at.1) k; spelled = refl })))
    (λ k. absurd (
    let same : at.0 ∷ (at.1 ++ cut.1.0) ≡ q ∷ cut.1.1.1 =
    ap (λ xs. xs ++ cut.1.0) (sym at.3) ∙ f.split ∙ ap (λ xs. xs ++ cut.1.1.1) f.spelled in
    let heads : at.0 ≡ q = cc in
    ⊎_elim (λ (j : q ≡ 34). omega arith) (λ (j : q ≡ 39). omega arith) is)) at.2) ends in (
      (λ (some : Starts (plain_behind q) rest).
          let g = some.2 in
          let total = ap length (sym nil ∙ g.split) in
          let parts = length-append g.front some.1 in
          let long = ap length g.spelled.1 in
          let inner = length-append some.0 (q ∷ []) in
          omega arith),
      (
        cut.1.0,
        (
          [],
          cut.1.1.1,
          record {
            front = q ∷ [];
            split = f.split
                ∙ ap (λ xs. xs ++ cut.1.1.1) f.spelled;
            spelled = (plain_nil q, refl);
          },
        ),
      ),
    )
quote_fails q is rest ends NoMemory end none = tt

-- the value as far as it is read, and that what is left of it has no end of a value
abbrev pub State : ℕ → List ℕ → List ℕ → Type 0
State q written inside = (front : List ℕ) × (written ≡ front ++ inside) × Plain q front

abbrev pub Free : ℕ → List ℕ → Type 0
Free q text = IsTrue (list_all (λ b. not ((b == q) || (b == 60))) text)

free_parts : (q : ℕ) (front rest : List ℕ) → Free q (front ++ rest) → Free q front × Free q rest
free_parts q front rest free =
    and_parts (list_all (λ b. not ((b == q) || (b == 60))) front) (list_all (λ b. not ((b == q) || (b == 60))) rest)
    (sym (list_all-append (λ b. not ((b == q) || (b == 60))) front rest) ∙ free)

pub over_run : (q : ℕ) (written inside run after : List ℕ) → State q written inside → Free q inside →
    IsCutBefore (λ b. (b == 38) || (b == 38)) inside run after → State q written after × Free q after
over_run q written inside run after s free cut =
    let F : List ℕ → Type 0 = Free q in
    let p = free_parts q run after (subst F cut.split free) in (
      (
        s.0 ++ run,
        s.1 ∙ ap (λ xs. s.0 ++ xs) cut.split ∙ sym (append_assoc s.0 run after),
        plain_append q s.0 run s.2 (plain_run q run p.0 cut.free),
      ),
      p.1,
    )

pub over_reference : (q c : ℕ) (written inside after : List ℕ) → State q written inside → Free q inside →
    IsFound a_reference inside c after → State q written after × Free q after
over_reference q c written inside after s free f =
    let F : List ℕ → Type 0 = Free q in
    let P : List ℕ → Type 0 = Plain q in (
      (
        s.0 ++ f.front,
        s.1 ∙ ap (λ xs. s.0 ++ xs) f.split ∙ sym (append_assoc s.0 f.front after),
        plain_append q s.0 f.front s.2 (subst P (append-nil f.front) (plain_reference q c f.front [] f.spelled
            (plain_nil q))),
      ),
      (free_parts q f.front after (subst F f.split free)).1,
    )

pub and_first : (inside run after : List ℕ) → IsCutBefore (λ b. (b == 38) || (b == 38)) inside run after →
    length after ≢ 0 → after ≡ 38 ∷ drop 1 after
and_first inside run [] cut some = absurd (some refl)
and_first inside run (b ∷ after) cut some =
    ⊎_elim
    (λ t. ap (λ k. k ∷ after) (⊎_elim (λ e. eqb-true b 38 e) (λ e. eqb-true b 38 e) (or_cases (b == 38) (b == 38) t)))
    (λ f. absurd (both_ways (not ((b == 38) || (b == 38))) (not-true (not ((b == 38) || (b == 38))) cut.longest)
    (ap not f)))
    (cases_Bool ((b == 38) || (b == 38)))

pub whole_fails : (q : ℕ) → IsQuote q → (text written rest inside : List ℕ) → text ≡ written ++ rest →
    State q written inside → (e : Lapse) (end : List ℕ) → Reads (plain_behind q) (inside ++ rest) (Err e) end →
    Reads (value_behind q) text (Err e) end
whole_fails q is text written rest inside split s e end fails =
    let R : List ℕ → Type 0 = λ xs. Reads (plain_behind q) xs (Err e) end in
    let whole : text ≡ s.0 ++ (inside ++ rest) =
    split ∙ ap (λ xs. xs ++ rest) s.1 ∙ append_assoc s.0 inside rest in
    value_reads q is text (Err e) end
    (subst R (sym whole) (leads_reads (front_leads q is s.0 (inside ++ rest) s.2) (front_lives q s.0) (Err e) end
    (mapped_fails (λ w. s.0 ++ w) (plain_behind q) (inside ++ rest) e end fails)))

pub whole_found : (q : ℕ) → IsQuote q → (text written rest after : List ℕ) → text ≡ written ++ rest →
    State q written [] → IsFound (exactly (q ∷ [])) rest tt after → IsFound (value_behind q) text written after
whole_found q is text written rest after split s f =
    let P : List ℕ → Type 0 = Plain q in
    let same : s.0 ≡ written = sym (append-nil s.0) ∙ sym s.1 in
    record {
      front = written ++ q ∷ [];
      split = split ∙ ap (λ xs. written ++ xs) (f.split ∙ ap (λ xs. xs ++ after) f.spelled)
          ∙ sym (append_assoc written (q ∷ []) after);
      spelled = to_value q is written (written ++ q ∷ []) after (subst P same s.2, refl);
    }

-- before the end of the value a cut reference is a broken one
pub ended_fails : (q : ℕ) → IsQuote q → (inside rest : List ℕ) → inside ≡ 38 ∷ drop 1 inside → Ends q rest →
    rest ≢ [] → (e x : Lapse) → (e ≡ Cut → x ≡ Broken) → (e ≢ Cut → x ≡ e) → (end last : List ℕ) →
    Reads a_reference inside (Err e) end → Reads (plain_behind q) (inside ++ rest) (Err x) last
ended_fails q is inside rest and ends some Broken x cut other end last none =
    let R : Lapse → Type 0 = λ l. Reads (plain_behind q) (inside ++ rest) (Err l) last in
    let same : x ≡ Broken = other (λ (k : Broken ≡ Cut). cc) in
    let A : List ℕ → Type 0 = Starts a_reference in
    subst R (sym same) (inner_fails q is inside (drop 1 inside) rest and ends some
    (λ starts. none ([], subst A (sym (append-nil inside)) starts)))
ended_fails q is inside rest and ends some Cut x cut other end last none =
    let R : Lapse → Type 0 = λ l. Reads (plain_behind q) (inside ++ rest) (Err l) last in
    subst R (sym (cut refl)) (inner_fails q is inside (drop 1 inside) rest and ends some none.0)
ended_fails q is inside rest and ends some NoMemory x cut other end last none =
    let R : Lapse → Type 0 = λ l. Reads (plain_behind q) (inside ++ rest) (Err l) last in
    subst R (sym (other (λ (k : NoMemory ≡ Cut). cc))) tt
