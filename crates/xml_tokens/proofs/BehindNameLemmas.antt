-- The attributes of a tag and its end.
use Rattle.std.proofs.Common.{◌≡◌, ◌≢◌, ◌⊎◌, ℕ, ◌<◌, Bool, true, false, ◌||◌, ◌==◌, List, [], ◌∷◌, ◌++◌}
use Rattle.std.proofs.Common.{length, map, IsTrue, refl, sym, ap, subst, ◌∙◌, inl, inr, ⊎_elim, codes, arith}
use Rattle.std.proofs.Common.{append_assoc, All}
use Rattle.std.proofs.Common.{eqb-true}
use Rattle.std.specs.Prelude.{Result, Err, Ok, flat_map}
use Rattle.std.specs.List.{list_all}
use Rattle.std.proofs.lemmas.Bool.{and_parts, both_ways, not_from_false, cases_Bool, or_cases}
use Rattle.std.proofs.lemmas.List.{append-nil, append_cancel_left, append_cancel_right, length-append, map-append}
use Rattle.std.proofs.lemmas.List.{nil_from_length}
use Rattle.std.proofs.lemmas.List.Elements.{All-head}
use Rattle.xml_tokens.specs.declared.cursor.Lapse.TheVariants.{Broken, Cut, NoMemory}
use Rattle.xml_tokens.specs.declared.cursor.Lapse.{Lapse}
use Rattle.xml_tokens.specs.declared.tag.TagEnd.{TagEnd}
use Rattle.xml_tokens.specs.declared.tag.TagEnd.TheVariants.{Open as Whole, Empty, Cut as CutTag, CutAtSlash}
use Rattle.xml_tokens.specs.declared.tag.Attribute.{Attribute as Raw}
use Rattle.xml_tokens.specs.Characters.{QName, IsQName, IsName, IsGap, AreSpaces, begins_name, continues_name}
use Rattle.xml_tokens.specs.Characters.{name_text}
use Rattle.xml_tokens.specs.Tokens.{IsQuote, Piece, piece_text, IsPiece}
use Rattle.xml_tokens.specs.Tokens.Piece.{byte, reference}
use Rattle.xml_tokens.specs.Reading.{IsFound, Starts, Continues, whole_qname, value_behind}
use Rattle.xml_tokens.specs.Reading.{sign_behind, attribute_parts, first_is_no, are_attributes}
use Rattle.xml_tokens.specs.Reading.{behind_name, tag_end, names, pairs, IsAttributeCut, CanGrow, HasFirst}
use Rattle.xml_tokens.specs.Reading.{IsAttributeRead, IsSpaceRead, ReadsBehindName, ReadsEmptyEnd}
use Rattle.xml_tokens.proofs.PartLemmas.{IsPart, seq_part, seq_part_of, mapped_part, same_part}
use Rattle.xml_tokens.proofs.PartLemmas.{found_whole}
use Rattle.xml_tokens.proofs.RunLemmas.{run_unique, first_grows}
use Rattle.xml_tokens.proofs.CursorLemmas.{name_some, written}
use Rattle.xml_tokens.proofs.DeclarationLemmas.{no_space}
use Rattle.xml_tokens.proofs.AttributeLemmas.{qname_part, attribute_name, attribute_sign, attribute_quote}
use Rattle.xml_tokens.proofs.PlainLemmas.{Plain}
use Rattle.xml_tokens.proofs.PlainReadLemmas.{plain_behind, plain_rest, to_value, from_value, quote_is}
use Rattle.xml_tokens.proofs.ValueLemmas.{reference_first}
use Rattle.atom_values.specs.XmlText.{IsXmlText}
use Rattle.atom_values.specs.Space.{is_space}
use Rattle.xml_tokens.proofs.XmlLemmas.{xml_nil}

-- no quote begins a value
no_quote : (q : ℕ) → IsQuote q → (m : List ℕ) (ps : List Piece) → All (IsPiece q) ps →
    q ∷ m ≡ flat_map piece_text ps → ⊥
no_quote q is m [] each e = let g : q ∷ m ≡ [] = e in cc
no_quote q is m (byte b ∷ ps) each e =
    let g : q ∷ m ≡ b ∷ flat_map piece_text ps = e in
    let heads : b ≡ q = cc in
    (All-head (IsPiece q) (byte b) ps each).0 heads
no_quote q is m (reference c t ∷ ps) each e =
    let start = reference_first c t (All-head (IsPiece q) (reference c t) ps each) in
    let g : q ∷ m ≡ 38 ∷ (start.0 ++ flat_map piece_text ps) = e ∙ ap (λ xs. xs ++ flat_map piece_text ps) start.1 in
    let heads : q ≡ 38 = cc in
    quote_is q is heads

quoted_end : (q : ℕ) → IsQuote q → (x y m : List ℕ) → Plain q m → q ∷ x ≡ m ++ q ∷ y → m ≡ []
quoted_end q is x y [] p e = refl
quoted_end q is x y (b ∷ m) p e =
    let heads : b ≡ q = cc in
    absurd (no_quote q is m p.pieces p.each (ap (λ k. k ∷ m) (sym heads) ∙ p.spelled))

plain_part : (q : ℕ) → IsQuote q → IsPart (plain_behind q)
plain_part q is = record {
  unique = λ a b s x t y is_s is_t e.
      let same : flat_map piece_text is_s.0.pieces ++ q ∷ x ≡ flat_map piece_text is_t.0.pieces ++ q ∷ y =
      ap (λ xs. xs ++ q ∷ x) (sym is_s.0.spelled) ∙ sym (append_assoc a (q ∷ []) x)
      ∙ ap (λ xs. xs ++ x) (sym is_s.1) ∙ e
      ∙ ap (λ xs. xs ++ y) is_t.1 ∙ append_assoc b (q ∷ []) y ∙ ap (λ xs. xs ++ q ∷ y) is_t.0.spelled in
      let r = plain_rest q is (q ∷ x) y is_s.0.pieces is_t.0.pieces is_s.0.each is_t.0.each same in
      let none = quoted_end q is x y r.0 r.2 r.3 in
      let one : a ≡ b = is_s.0.spelled ∙ sym (append-nil (flat_map piece_text is_s.0.pieces))
      ∙ ap (λ xs. flat_map piece_text is_s.0.pieces ++ xs) (sym none) ∙ sym r.1 ∙ sym is_t.0.spelled in
      (one, is_s.1 ∙ ap (λ xs. xs ++ q ∷ []) one ∙ sym is_t.1);
  grows = λ a s x more some is. is;
  shrinks = λ a s x more is. is;
}

value_part : (q : ℕ) → IsQuote q → IsPart (value_behind q)
value_part q is = same_part (value_behind q) (plain_behind q) (to_value q is) (from_value q is) (plain_part q is)

-- a text begins with one attribute at most
pub attribute_part : IsPart attribute_parts
attribute_part = seq_part attribute_name
    (λ name. seq_part (attribute_sign name) (λ _. seq_part_of (attribute_quote name)
    (λ q s x is. mapped_part (λ w. (name, w)) (value_part q is.0))))

sign_closed : (name : List ℕ) (v : List ℕ × List ℕ) (s x y : List ℕ) → sign_behind name v s x → sign_behind name v s y
sign_closed name v s x y sign =
    let quoted = sign.5 in
    let same : sign.2 ≡ quoted.0 ∷ quoted.2 = quoted.3 ∙ ap (λ xs. xs ++ quoted.2) quoted.4.1 in
    let N : List ℕ → Type 0 = λ xs. IsTrue (first_is_no is_space (xs ++ y)) in (
      sign.0,
      sign.1,
      sign.2,
      sign.3,
      (
        sign.4.0,
        sign.4.1,
        sign.4.2,
        sign.4.3,
        sign.4.4,
        subst N (sym same) (no_space quoted.0 quoted.4.0 (quoted.2 ++ y)),
      ),
      (quoted.0, quoted.1, quoted.2, quoted.3, quoted.4, quoted.5),
    )

-- nothing after an attribute matters
pub attribute_closed : (a : List ℕ × List ℕ) (s x y : List ℕ) → attribute_parts a s x → attribute_parts a s y
attribute_closed a s x y p =
    let sign = sign_closed p.0 a p.2 x y p.5 in (
      p.0,
      p.1,
      p.2,
      p.3,
      attribute_name.follows p.0 p.1 a p.2 y
          (qname_part.shrinks p.0 p.1 [] (p.2 ++ x) p.4) sign,
      sign,
    )

name_first : (name : List ℕ) → IsName name → (b : ℕ) × (u : List ℕ) × (name ≡ b ∷ u) × (begins_name b ≡ true)
name_first [] is = absurd (name_some [] is refl)
name_first (b ∷ u) is = (b, u, refl, (and_parts (begins_name b) (list_all continues_name u) is).0)

pub qname_first : (q : QName) → IsQName q → (b : ℕ) × (u : List ℕ) × (name_text q ≡ b ∷ u) × (begins_name b ≡ true)
qname_first q is =
    ⊎_elim
    (λ none.
    let f = name_first q.local is.1 in
    (f.0, f.1, ap (λ p. name_text (record { prefix = p; local = q.local })) none ∙ f.2, f.3))
    (λ name.
    let f = name_first q.prefix name in
    (f.0, f.1 ++ 58 ∷ q.local, written q.prefix q.local name ∙ ap (λ xs. xs ++ 58 ∷ q.local) f.2, f.3))
    is.0

-- an attribute begins with a name
pub attribute_first : (a : List ℕ × List ℕ) (s x : List ℕ) → attribute_parts a s x →
    (b : ℕ) × (u : List ℕ) × (s ≡ b ∷ u) × (begins_name b ≡ true)
attribute_first a s x p =
    let w = p.4 in
    let f = qname_first w.0 w.3 in
    (f.0, f.1 ++ p.2, p.3 ∙ ap (λ xs. xs ++ p.2) (w.1 ∙ w.2 ∙ f.2), f.3)

pub attribute_named : (a : List ℕ × List ℕ) (s x : List ℕ) (p : attribute_parts a s x) → a.0 ≡ p.0
attribute_named a s x p = ap (λ v. v.0) p.5.5.5.1

pub not_name : (k b : ℕ) → begins_name k ≡ false → begins_name b ≡ true → b ≢ k
not_name k b none is e =
    let N : ℕ → Type 0 = λ n. begins_name n ≡ true in
    both_ways (begins_name k) none (subst N e is)

pub name_no_space : (b : ℕ) → begins_name b ≡ true → is_space b ≡ false
name_no_space b is =
    ⊎_elim
    (λ space. absurd (⊎_elim
    (λ three. ⊎_elim
    (λ two. ⊎_elim
    (λ t. not_name 9 b refl is (eqb-true b 9 t))
    (λ l. not_name 10 b refl is (eqb-true b 10 l))
    (or_cases (b == 9) (b == 10) two))
    (λ r. not_name 13 b refl is (eqb-true b 13 r))
    (or_cases ((b == 9) || (b == 10)) (b == 13) three))
    (λ s. not_name 32 b refl is (eqb-true b 32 s))
    (or_cases ((b == 9) || (b == 10) || (b == 13)) (b == 32) space)))
    (λ other. other)
    (cases_Bool (is_space b))

-- an attribute isn't white space
attribute_no_space : (a : List ℕ × List ℕ) (s x y : List ℕ) → attribute_parts a s x →
    IsTrue (first_is_no is_space (s ++ y))
attribute_no_space a s x y p =
    let f = attribute_first a s x p in
    let N : List ℕ → Type 0 = λ xs. IsTrue (first_is_no is_space (xs ++ y)) in
    subst N (sym f.2) (not_from_false (is_space f.0) (name_no_space f.0 f.3))

end_no_space : (is_empty : Bool) (y : List ℕ) → IsTrue (first_is_no is_space (tag_end is_empty ++ y))
end_no_space true y = refl
end_no_space false y = refl

-- the first byte of an end
pub end_byte : (is_empty : Bool) → (b : ℕ) × (u : List ℕ) × (tag_end is_empty ≡ b ∷ u) × (begins_name b ≡ false)
    × ((b ≡ 62) ⊎ (b ≡ 47))
end_byte true = (47, codes ">", refl, refl, inr refl)
end_byte false = (62, [], refl, refl, inl refl)

-- no attribute begins read an end does
end_no_attribute : (is_empty : Bool) (a : List ℕ × List ℕ) (s x y z : List ℕ) → attribute_parts a s x →
    s ++ y ≡ tag_end is_empty ++ z → ⊥
end_no_attribute is_empty a s x y z p e =
    let f = attribute_first a s x p in
    let b = end_byte is_empty in
    let same : f.0 ∷ (f.1 ++ y) ≡ b.0 ∷ (b.1 ++ z) =
    ap (λ xs. xs ++ y) (sym f.2) ∙ e ∙ ap (λ xs. xs ++ z) b.2 in
    let heads : f.0 ≡ b.0 = cc in
    not_name b.0 f.0 b.3 f.3 heads

pub are_append : (read bs : List (List ℕ × List ℕ)) (front inside : List ℕ) → are_attributes read front →
    are_attributes bs inside → are_attributes (read ++ bs) (front ++ inside)
are_append [] bs front inside are more =
    let A : List ℕ → Type 0 = are_attributes bs in
    subst A (ap (λ xs. xs ++ inside) (sym are)) more
are_append (a ∷ read) bs front inside are more = (
  are.0,
  are.1,
  are.2 ++ inside,
  are.3,
  are.4,
  are_append read bs are.2 inside are.5 more,
  ap (λ xs. xs ++ inside) are.6 ∙ simp append_assoc,
)

pub one_attribute : (a : List ℕ × List ℕ) (gap s : List ℕ) → IsGap gap → attribute_parts a s [] →
    are_attributes (a ∷ []) (gap ++ s)
one_attribute a gap s is p = (gap, s, [], is, p, refl, ap (λ xs. gap ++ xs) (sym (append-nil s)))

pub regroup : (a b c d : List ℕ) → (a ++ (b ++ c)) ++ d ≡ a ++ (b ++ (c ++ d))
regroup a b c d = simp append_assoc

regroup_last : (a b c d e : List ℕ) → ((a ++ (b ++ c)) ++ d) ++ e ≡ a ++ (b ++ (c ++ (d ++ e)))
regroup_last a b c d e = simp append_assoc

-- after attributes that were read
behind_back : (read : List (List ℕ × List ℕ)) (front x : List ℕ) (vs : List (List ℕ × List ℕ)) (is_empty : Bool)
    (rest : List ℕ) → are_attributes read front → IsFound behind_name (front ++ x) (vs, is_empty) rest →
    (w : List (List ℕ × List ℕ)) × (vs ≡ read ++ w) × IsFound behind_name x (w, is_empty) rest
behind_back [] front x vs is_empty rest are f =
    let F : List ℕ → Type 0 = λ xs. IsFound behind_name (xs ++ x) (vs, is_empty) rest in
    (vs, refl, subst F are f)
behind_back (a ∷ read) front x [] is_empty rest are f =
    let b = f.spelled in
    let gap = are.0 in
    let s = are.1 in
    let back = are.2 in
    let same : gap ++ (s ++ (back ++ x)) ≡ b.1 ++ (tag_end is_empty ++ rest) =
    sym (regroup gap s back x) ∙ ap (λ xs. xs ++ x) (sym are.6) ∙ f.split
    ∙ ap (λ xs. xs ++ rest) (b.4 ∙ ap (λ xs. xs ++ (b.1 ++ tag_end is_empty)) b.2)
    ∙ append_assoc b.1 (tag_end is_empty) rest in
    let one = run_unique is_space gap (s ++ (back ++ x)) b.1 (tag_end is_empty ++ rest) are.3.0
    (attribute_no_space a s [] (back ++ x) are.4) b.3 (end_no_space is_empty rest) same in
    absurd (end_no_attribute is_empty a s [] (back ++ x) rest are.4
    (append_cancel_left gap (s ++ (back ++ x)) (tag_end is_empty ++ rest)
    (same ∙ ap (λ xs. xs ++ (tag_end is_empty ++ rest)) (sym one))))
behind_back (a ∷ read) front x (v ∷ vs) is_empty rest are f =
    let b = f.spelled in
    let i = b.2 in
    let gap = are.0 in
    let s = are.1 in
    let back = are.2 in
    let last = b.1 ++ tag_end is_empty in
    let same : gap ++ (s ++ (back ++ x)) ≡ i.0 ++ (i.1 ++ (i.2 ++ (last ++ rest))) =
    sym (regroup gap s back x) ∙ ap (λ xs. xs ++ x) (sym are.6) ∙ f.split
    ∙ ap (λ xs. xs ++ rest) (b.4 ∙ ap (λ xs. xs ++ last) i.6) ∙ regroup_last i.0 i.1 i.2 last rest in
    let one = run_unique is_space gap (s ++ (back ++ x)) i.0 (i.1 ++ (i.2 ++ (last ++ rest))) are.3.0
    (attribute_no_space a s [] (back ++ x) are.4) i.3.0
    (attribute_no_space v i.1 [] (i.2 ++ (last ++ rest)) i.4) same in
    let tails : s ++ (back ++ x) ≡ i.1 ++ (i.2 ++ (last ++ rest)) =
    append_cancel_left gap (s ++ (back ++ x)) (i.1 ++ (i.2 ++ (last ++ rest)))
    (same ∙ ap (λ xs. xs ++ (i.1 ++ (i.2 ++ (last ++ rest)))) (sym one)) in
    let two = attribute_part.unique a v s (back ++ x) i.1 (i.2 ++ (last ++ rest))
    (attribute_closed a s [] (back ++ x) are.4) (attribute_closed v i.1 [] (i.2 ++ (last ++ rest)) i.4) tails in
    let later : back ++ x ≡ i.2 ++ (last ++ rest) =
    append_cancel_left s (back ++ x) (i.2 ++ (last ++ rest))
    (tails ∙ ap (λ xs. xs ++ (i.2 ++ (last ++ rest))) (sym two.1)) in
    let r = behind_back read back x vs is_empty rest are.5 (record {
      front = i.2 ++ last;
      split = later ∙ sym (append_assoc i.2 last rest);
      spelled = (i.2, b.1, i.5, b.3, refl);
    }) in
    (r.0, (λ k. sym two.0 k ∷ r.1 k), r.2)

-- the end of a tag or an attribute may follow white space
pub record BehindSpaces (spaces text : List ℕ) (vs : List (List ℕ × List ℕ)) (is_empty : Bool) (rest : List ℕ)
    : Type 0 where
  pub stands : ((vs ≡ []) × (text ≡ tag_end is_empty ++ rest))
      ⊎ ((a : List ℕ × List ℕ) × (more : List (List ℕ × List ℕ)) × (vs ≡ a ∷ more) × (spaces ≢ [])
      × Starts attribute_parts text
      × ((behind : List ℕ) × IsFound attribute_parts text a behind))

behind_spaces : (spaces text : List ℕ) (vs : List (List ℕ × List ℕ)) (is_empty : Bool) (rest : List ℕ) →
    AreSpaces spaces →
    IsTrue (first_is_no is_space text) → IsFound behind_name (spaces ++ text) (vs, is_empty) rest →
    BehindSpaces spaces text vs is_empty rest
behind_spaces spaces text [] is_empty rest are first f =
    let b = f.spelled in
    let same : spaces ++ text ≡ b.1 ++ (tag_end is_empty ++ rest) =
    f.split ∙ ap (λ xs. xs ++ rest) (b.4 ∙ ap (λ xs. xs ++ (b.1 ++ tag_end is_empty)) b.2)
    ∙ append_assoc b.1 (tag_end is_empty) rest in
    let one = run_unique is_space spaces text b.1 (tag_end is_empty ++ rest) are first b.3
    (end_no_space is_empty rest) same in
    record {
      stands = inl (
        refl,
        append_cancel_left spaces text (tag_end is_empty ++ rest)
            (same ∙ ap (λ xs. xs ++ (tag_end is_empty ++ rest)) (sym one)),
      );
    }
behind_spaces spaces text (v ∷ vs) is_empty rest are first f =
    let b = f.spelled in
    let i = b.2 in
    let last = b.1 ++ tag_end is_empty in
    let back = i.2 ++ (last ++ rest) in
    let same : spaces ++ text ≡ i.0 ++ (i.1 ++ back) =
    f.split ∙ ap (λ xs. xs ++ rest) (b.4 ∙ ap (λ xs. xs ++ last) i.6) ∙ regroup_last i.0 i.1 i.2 last rest in
    let one = run_unique is_space spaces text i.0 (i.1 ++ back) are first i.3.0
    (attribute_no_space v i.1 [] back i.4) same in
    let found : IsFound attribute_parts text v back = record {
      front = i.1;
      split = append_cancel_left spaces text (i.1 ++ back) (same ∙ ap (λ xs. xs ++ (i.1 ++ back)) (sym one));
      spelled = attribute_closed v i.1 [] back i.4;
    } in
    record { stands = inr (v, vs, refl, (λ e. i.3.1 (sym one ∙ e)), (v, back, found), (back, found)) }

heads_of : (a b : ℕ) (s t : List ℕ) → a ∷ s ≡ b ∷ t → a ≡ b
heads_of a b s t e = cc

-- a text begins with one end at most
ends_one : (a b : Bool) (x y : List ℕ) → tag_end a ++ x ≡ tag_end b ++ y → a ≡ b
ends_one true true x y e = refl
ends_one true false x y e = absurd (omega (arith, heads_of 47 62 (62 ∷ x) y e))
ends_one false true x y e = absurd (omega (arith, heads_of 62 47 x (62 ∷ y) e))
ends_one false false x y e = refl

-- the attributes of a tag and its end are read in one way
pub behind_one : (vs ws : List (List ℕ × List ℕ)) (a b : Bool) (s t x y : List ℕ) → behind_name (vs, a) s x →
    behind_name (ws, b) t y → s ++ x ≡ t ++ y → (vs ≡ ws) × (a ≡ b) × (s ≡ t)
behind_one vs ws a b s t x y is_s is_t e =
    let last = tag_end a ++ x in
    let whole : is_s.0 ++ (is_s.1 ++ last) ≡ t ++ y =
    sym (regroup is_s.0 is_s.1 (tag_end a) x) ∙ ap (λ xs. xs ++ x) (sym is_s.4) ∙ e in
    let f : IsFound behind_name (is_s.0 ++ (is_s.1 ++ last)) (ws, b) y =
    record { front = t; split = whole; spelled = is_t } in
    let r = behind_back vs is_s.0 (is_s.1 ++ last) ws b y is_s.2 f in
    let same : (vs ≡ ws) × (last ≡ tag_end b ++ y) = ⊎_elim
    (λ end. (sym (r.1 ∙ ap (λ w. vs ++ w) end.0 ∙ append-nil vs), end.1))
    (λ more.
    let starts = more.4 in
    absurd (end_no_attribute a starts.0 starts.2.front starts.1 starts.1 x starts.2.spelled (sym starts.2.split)))
    (behind_spaces is_s.1 last r.0 b y is_s.3 (end_no_space a x) r.2).stands in
    let ends = ends_one a b x y same.1 in
    let rest : x ≡ y = append_cancel_left (tag_end a) x y (same.1 ∙ ap (λ k. tag_end k ++ y) (sym ends)) in
    (same.0, ends, append_cancel_right s t x (e ∙ ap (λ xs. t ++ xs) (sym rest)))

slash_alone : (is_empty : Bool) (end : List ℕ) → codes "/" ≡ tag_end is_empty ++ end → ⊥
slash_alone true end e = let total = ap length e in omega (arith, length-append (codes "/>") end)
slash_alone false end e = omega (arith, heads_of 47 62 [] end e)

slash_empty : (is_empty : Bool) (more end : List ℕ) → 47 ∷ more ≡ tag_end is_empty ++ end → is_empty ≡ true
slash_empty true more end e = refl
slash_empty false more end e = absurd (omega (arith, heads_of 47 62 more end e))

none_are : (raws : List Raw) → raws ≡ [] → are_attributes (pairs raws) []
none_are [] none = refl
none_are (a ∷ raws) none = absurd (cc)

slash_other : (is_empty : Bool) (c : ℕ) (tail more end : List ℕ) → c ≢ 62 →
    (47 ∷ (c ∷ tail)) ++ more ≡ tag_end is_empty ++ end → ⊥
slash_other true c tail more end no_end e =
    let g : 47 ∷ (c ∷ (tail ++ more)) ≡ 47 ∷ (62 ∷ end) = e in
    let tails : c ∷ (tail ++ more) ≡ 62 ∷ end = cc in
    no_end (heads_of c 62 (tail ++ more) end tails)
slash_other false c tail more end no_end e = omega (arith, heads_of 47 62 (c ∷ (tail ++ more)) end e)

-- how far the attributes of a tag are read
pub record TagState (text : List ℕ) (raws : List Raw) (rest : List ℕ) : Type 0 where
  pub front : List ℕ
  pub split : text ≡ front ++ rest
  pub are : are_attributes (pairs raws) front

pub no_state : (text : List ℕ) (raws : List Raw) → raws ≡ [] → TagState text raws text
no_state text raws none = record { front = []; split = refl; are = none_are raws none }

-- a continuation begins with the attributes that were read
behind_state : {text : List ℕ} {raws : List Raw} {rest : List ℕ} {any : Bool} {spaced : List ℕ} →
    TagState text raws rest →
    (r : IsSpaceRead rest any spaced) (more : List ℕ) (v : List (List ℕ × List ℕ) × Bool) (end : List ℕ) →
    IsTrue (first_is_no is_space (spaced ++ more)) → IsFound behind_name (text ++ more) v end →
    (w : List (List ℕ × List ℕ)) × (v.0 ≡ pairs raws ++ w) × BehindSpaces r.spaces (spaced ++ more) w v.1 end
behind_state {text} {raws} {rest} {any} {spaced} s r more v end first f =
    let whole : text ++ more ≡ s.front ++ (r.spaces ++ (spaced ++ more)) =
    ap (λ xs. xs ++ more) (s.split ∙ ap (λ xs. s.front ++ xs) r.split) ∙ regroup s.front r.spaces spaced more in
    let F : List ℕ → Type 0 = λ xs. IsFound behind_name xs (v.0, v.1) end in
    let b = behind_back (pairs raws) s.front (r.spaces ++ (spaced ++ more)) v.0 v.1 end s.are (subst F whole f) in
    (b.0, b.1, behind_spaces r.spaces (spaced ++ more) b.0 v.1 end r.are_spaces first b.2)

-- the end of the tag
pub end_read : {text : List ℕ} {raws : List Raw} {rest : List ℕ} {any : Bool} {spaced : List ℕ} →
    TagState text raws rest →
    IsSpaceRead rest any spaced → (is_empty : Bool) (after : List ℕ) → spaced ≡ tag_end is_empty ++ after →
    IsFound behind_name text (pairs raws, is_empty) after
end_read {text} {raws} {rest} {any} {spaced} s r is_empty after is = record {
  front = s.front ++ (r.spaces ++ tag_end is_empty);
  split = s.split ∙ ap (λ xs. s.front ++ xs) (r.split ∙ ap (λ xs. r.spaces ++ xs) is)
      ∙ sym (regroup s.front r.spaces (tag_end is_empty) after);
  spelled = (s.front, r.spaces, s.are, r.are_spaces, refl);
}

-- after white space, neither the end of a tag nor an attribute that could be read
pub tag_broken : {text : List ℕ} {raws : List Raw} {rest : List ℕ} {any : Bool} {spaced : List ℕ} →
    TagState text raws rest →
    (r : IsSpaceRead rest any spaced) → spaced ≢ [] →
    ((is_empty : Bool) (more end : List ℕ) → spaced ++ more ≡ tag_end is_empty ++ end → ⊥) →
    ((more : List ℕ) → r.spaces ≢ [] → Starts attribute_parts (spaced ++ more) → ⊥) → Continues behind_name text → ⊥
tag_broken {text} {raws} {rest} {any} {spaced} s r some no_end no_attribute found =
    let more = found.0 in
    let v = found.1.0 in
    let b = behind_state s r more v found.1.1 (first_grows is_space spaced more some r.longest) found.1.2 in
    ⊎_elim
    (λ over. no_end v.1 more found.1.1 over.1)
    (λ attribute. no_attribute more attribute.3 attribute.4)
    b.2.stands

-- the text itself is no rest of a tag
pub tag_unfinished : {text : List ℕ} {raws : List Raw} {rest : List ℕ} {any : Bool} {spaced : List ℕ} →
    TagState text raws rest → (r : IsSpaceRead rest any spaced) →
    ((is_empty : Bool) (end : List ℕ) → spaced ≡ tag_end is_empty ++ end → ⊥) → (Starts attribute_parts spaced → ⊥) →
    Starts behind_name text → ⊥
tag_unfinished {text} {raws} {rest} {any} {spaced} s r no_end no_attribute found =
    let v = found.0 in
    let F : List ℕ → Type 0 = λ xs. IsTrue (first_is_no is_space xs) in
    let S : List ℕ → Type 0 = λ xs. Starts attribute_parts xs in
    let b = behind_state s r [] v found.1 (subst F (sym (append-nil spaced)) r.longest)
    (found_whole behind_name text v found.1 found.2) in
    ⊎_elim
    (λ over. no_end v.1 found.1 (sym (append-nil spaced) ∙ over.1))
    (λ attribute. no_attribute (subst S (append-nil spaced) attribute.4))
    b.2.stands

names_pairs : (raws : List Raw) → map (λ (a : List ℕ × List ℕ). a.0) (pairs raws) ≡ names raws
names_pairs [] = refl
names_pairs (a ∷ raws) = ap (λ xs. a.name.now ∷ xs) (names_pairs raws)

abbrev firsts : List (List ℕ × List ℕ) → List (List ℕ)
firsts read = map (λ (a : List ℕ × List ℕ). a.0) read

firsts_append : (raws : List Raw) (w : List (List ℕ × List ℕ)) → firsts (pairs raws ++ w) ≡ names raws ++ firsts w
firsts_append raws w =
    map-append (λ (a : List ℕ × List ℕ). a.0) (pairs raws) w ∙ ap (λ xs. xs ++ firsts w) (names_pairs raws)

-- each continuation has the names that were read
pub state_has : {text : List ℕ} {raws : List Raw} {rest : List ℕ} → TagState text raws rest → HasFirst (names raws) text
state_has {text} {raws} {rest} s = λ more v end f.
    let F : List ℕ → Type 0 = λ xs. IsFound behind_name xs (v.0, v.1) end in
    let whole : text ++ more ≡ s.front ++ (rest ++ more) =
    ap (λ xs. xs ++ more) s.split ∙ append_assoc s.front rest more in
    let b = behind_back (pairs raws) s.front (rest ++ more) v.0 v.1 end s.are (subst F whole f) in
    (firsts b.0, ap firsts b.1 ∙ firsts_append raws b.0)

-- the text ends after white space
pub cut_behind : {text : List ℕ} {raws : List Raw} {rest : List ℕ} {any : Bool} {spaced : List ℕ} →
    TagState text raws rest →
    (r : IsSpaceRead rest any spaced) → spaced ≡ [] →
    (Starts behind_name text → ⊥) × HasFirst (names raws) text × ((n : ℕ) → CanGrow n (names raws) text)
cut_behind {text} {raws} {rest} {any} {spaced} s r over =
    let no_end : (is_empty : Bool) (end : List ℕ) → spaced ≡ tag_end is_empty ++ end → ⊥ = λ is_empty end e.
    let b = end_byte is_empty in
    let g : [] ≡ b.0 ∷ (b.1 ++ end) = sym over ∙ e ∙ ap (λ xs. xs ++ end) b.2 in cc in
    let no_attribute : Starts attribute_parts spaced → ⊥ = λ a.
    let f = attribute_first a.0 a.2.front a.1 a.2.spelled in
    let g : [] ≡ f.0 ∷ (f.1 ++ a.1) = sym over ∙ a.2.split ∙ ap (λ xs. xs ++ a.1) f.2 in cc in (
      tag_unfinished s r no_end no_attribute,
      state_has s,
      (λ n. record {
        more = [];
        read = pairs raws;
        inside = s.front;
        spaces = r.spaces;
        xml = xml_nil;
        are = s.are;
        are_spaces = r.are_spaces;
        split = append-nil text ∙ s.split
            ∙ ap (λ xs. s.front ++ xs) (r.split ∙ ap (λ xs. r.spaces ++ xs) over ∙ append-nil r.spaces);
        has = inl (names_pairs raws);
      }),
    )

some_gap : {rest : List ℕ} {any : Bool} {spaced : List ℕ} (r : IsSpaceRead rest any spaced) → any ≡ true →
    IsGap r.spaces
some_gap r is = (r.are_spaces, (λ none. r.some is (ap length none)))

-- an attribute was read
pub attribute_state : {text : List ℕ} {raws : List Raw} {rest : List ℕ} {any : Bool} {spaced : List ℕ} →
    TagState text raws rest → (r : IsSpaceRead rest any spaced) → any ≡ true → (kept : List Raw) (after : List ℕ) →
    IsAttributeRead spaced raws kept after → TagState text kept after
attribute_state {text} {raws} {rest} {any} {spaced} s r is kept after a =
    let f = a.2 in
    let A : List (List ℕ × List ℕ) → Type 0 = λ xs. are_attributes xs (s.front ++ (r.spaces ++ f.front)) in
    let one = one_attribute (a.0.name.now, a.0.written.now) r.spaces f.front (some_gap r is)
    (attribute_closed (a.0.name.now, a.0.written.now) f.front after [] f.spelled) in
    record {
      front = s.front ++ (r.spaces ++ f.front);
      split = s.split ∙ ap (λ xs. s.front ++ xs) (r.split ∙ ap (λ xs. r.spaces ++ xs) f.split)
          ∙ sym (regroup s.front r.spaces f.front after);
      are = subst A (sym (ap pairs a.1 ∙ map-append (λ (x : Raw). (x.name.now, x.written.now)) raws (a.0 ∷ [])))
          (are_append (pairs raws) ((a.0.name.now, a.0.written.now) ∷ []) s.front (r.spaces ++ f.front) s.are one);
    }

-- an attribute after those that were read, in which the text ends
grown : {text : List ℕ} {raws : List Raw} {rest : List ℕ} {any : Bool} {spaced : List ℕ} → TagState text raws rest →
    (r : IsSpaceRead rest any spaced) → any ≡ true → (n : ℕ) (named : List (List ℕ)) (a : List ℕ × List ℕ)
    (more : List ℕ) → IsXmlText more → attribute_parts a (spaced ++ more) [] →
    ((names raws ++ a.0 ∷ [] ≡ named) ⊎ ((n < length a.0) × (names raws ≡ named))) → CanGrow n named text
grown {text} {raws} {rest} {any} {spaced} s r is n named a more xml p has = record {
  more = more;
  read = pairs raws ++ a ∷ [];
  inside = s.front ++ (r.spaces ++ (spaced ++ more));
  spaces = [];
  xml = xml;
  are = are_append (pairs raws) (a ∷ []) s.front (r.spaces ++ (spaced ++ more)) s.are
      (one_attribute a r.spaces (spaced ++ more) (some_gap r is) p);
  are_spaces = refl;
  split = ap (λ xs. xs ++ more) (s.split ∙ ap (λ xs. s.front ++ xs) r.split) ∙ regroup s.front r.spaces spaced more
      ∙ sym (append-nil (s.front ++ (r.spaces ++ (spaced ++ more))));
  has = ⊎_elim
      (λ kept. inl (firsts_append raws (a ∷ []) ∙ kept))
      (λ new. inr (a.0, new.0, firsts_append raws (a ∷ []) ∙ ap (λ xs. xs ++ a.0 ∷ []) new.1))
      has;
}

-- the name of the attribute that a continuation has there
same_name : (spaced name rest more : List ℕ) (a : List ℕ × List ℕ) (end : List ℕ) →
    IsFound whole_qname spaced name rest → rest ≢ [] → IsFound attribute_parts (spaced ++ more) a end → a.0 ≡ name
same_name spaced name rest more a end f some g =
    let p = g.spelled in
    let here = qname_part.grows name f.front rest more some f.spelled in
    attribute_named a g.front end p
    ∙ sym (qname_part.unique name p.0 f.front (rest ++ more) p.1 (p.2 ++ end) here p.4
    (sym (append_assoc f.front rest more) ∙ ap (λ xs. xs ++ more) (sym f.split) ∙ g.split
    ∙ ap (λ xs. xs ++ end) p.3 ∙ append_assoc p.1 p.2 end)).0

-- the text ends within an attribute
pub cut_within : {text : List ℕ} {raws : List Raw} {rest : List ℕ} {any : Bool} {spaced : List ℕ} →
    TagState text raws rest →
    (r : IsSpaceRead rest any spaced) → any ≡ true → spaced ≢ [] →
    ((is_empty : Bool) (more end : List ℕ) → spaced ++ more ≡ tag_end is_empty ++ end → ⊥) →
    (Starts attribute_parts spaced → ⊥) → (kept : List Raw) → IsAttributeCut spaced raws kept →
    (Starts behind_name text → ⊥) × HasFirst (names kept) text × ((n : ℕ) → CanGrow n (names kept) text)
cut_within {text} {raws} {rest} {any} {spaced} s r is some no_end no_attribute kept cut = (
  tag_unfinished s r (λ is_empty end e. no_end is_empty [] end (append-nil spaced ∙ e)) no_attribute,
  ⊎_elim
      (λ grows.
      let H : List Raw → Type 0 = λ xs. HasFirst (names xs) text in
      subst H (sym grows.0) (state_has s))
      (λ ends. λ more v end f.
      let b = behind_state s r more v end (first_grows is_space spaced more some r.longest) f in
      let e = ends.2 in
      ⊎_elim
      (λ over. absurd (no_end v.1 more end over.1))
      (λ attribute.
      let one = same_name spaced ends.0 e.0 more attribute.0 attribute.5.0 e.1 e.2 attribute.5.1 in (
        firsts attribute.1,
        ap firsts (b.1 ∙ ap (λ xs. pairs raws ++ xs) attribute.2) ∙ firsts_append raws (attribute.0 ∷ attribute.1)
            ∙ ap (λ x. names raws ++ x ∷ firsts attribute.1) one
            ∙ sym (append_assoc (names raws) (ends.0 ∷ []) (firsts attribute.1))
            ∙ ap (λ xs. xs ++ firsts attribute.1) (sym ends.1),
      ))
      b.2.stands)
      cut,
  (λ n. ⊎_elim
      (λ grows.
      let g = grows.1 n in
      grown s r is n (names kept) (g.0, []) g.2 g.3 g.4 (inr (g.1, ap names (sym grows.0))))
      (λ ends.
      let e = ends.2 in
      grown s r is n (names kept) (ends.0, e.3) e.4 e.5 e.6 (inl (sym ends.1)))
      cut),
)

-- the text ends after `/`
pub cut_at_slash : {text : List ℕ} {raws : List Raw} {rest : List ℕ} {any : Bool} {spaced : List ℕ} →
    TagState text raws rest → (r : IsSpaceRead rest any spaced) → spaced ≡ codes "/" →
    behind_name (pairs raws, true) (text ++ codes ">") [] × (Starts behind_name text → ⊥)
    × ((more : List ℕ) (v : List (List ℕ × List ℕ) × Bool) (end : List ℕ) → IsFound behind_name (text ++ more) v end →
    v ≡ (pairs raws, true))
cut_at_slash {text} {raws} {rest} {any} {spaced} s r is =
    let no_attribute : (more : List ℕ) → Starts attribute_parts (spaced ++ more) → ⊥ = λ more a.
    let f = attribute_first a.0 a.2.front a.1 a.2.spelled in
    let g : 47 ∷ more ≡ f.0 ∷ (f.1 ++ a.1) = ap (λ xs. xs ++ more) (sym is) ∙ a.2.split ∙ ap (λ xs. xs ++ a.1) f.2 in
    let heads : f.0 ≡ 47 = cc in
    not_name 47 f.0 refl f.3 heads in
    let S : List ℕ → Type 0 = λ xs. Starts attribute_parts xs in
    let N : List ℕ → Type 0 = λ xs. IsTrue (first_is_no is_space xs) in (
      (
        s.front,
        r.spaces,
        s.are,
        r.are_spaces,
        ap (λ xs. xs ++ codes ">") (s.split ∙ ap (λ xs. s.front ++ xs) (r.split ∙ ap (λ xs. r.spaces ++ xs) is))
            ∙ regroup s.front r.spaces (codes "/") (codes ">"),
      ),
      tag_unfinished s r
          (λ is_empty end e. slash_alone is_empty end (sym is ∙ e))
          (λ a. no_attribute [] (subst S (sym (append-nil spaced)) a)),
      (λ more v end f.
          let first : IsTrue (first_is_no is_space (spaced ++ more)) =
          subst N (ap (λ xs. xs ++ more) (sym is)) refl in
          let b = behind_state s r more v end first f in
          ⊎_elim
          (λ over.
          let e = slash_empty v.1 more end (ap (λ xs. xs ++ more) (sym is) ∙ over.1) in
          let p = b.1 ∙ ap (λ xs. pairs raws ++ xs) over.0 ∙ append-nil (pairs raws) in
          λ i. (p i, e i))
          (λ attribute. absurd (no_attribute more attribute.4))
          b.2.stands),
    )

-- a byte that ends no tag
pub no_end_at : (text : List ℕ) (b : ℕ) (tail : List ℕ) → text ≡ b ∷ tail → b ≢ 62 → b ≢ 47 → (is_empty : Bool)
    (more end : List ℕ) → text ++ more ≡ tag_end is_empty ++ end → ⊥
no_end_at text b tail is no_end no_slash is_empty more end e =
    let f = end_byte is_empty in
    let same : b ∷ (tail ++ more) ≡ f.0 ∷ (f.1 ++ end) = ap (λ xs. xs ++ more) (sym is) ∙ e
    ∙ ap (λ xs. xs ++ end) f.2 in
    let one = heads_of b f.0 (tail ++ more) (f.1 ++ end) same in
    ⊎_elim (λ k. no_end (one ∙ k)) (λ k. no_slash (one ∙ k)) f.4

-- after `/`
pub slash_reads : {text : List ℕ} {raws : List Raw} {rest : List ℕ} {any : Bool} {spaced : List ℕ} →
    TagState text raws rest →
    (r : IsSpaceRead rest any spaced) → (tail : List ℕ) → spaced ≡ 47 ∷ tail → (result : Result TagEnd Lapse)
    (after : List ℕ) → ReadsEmptyEnd spaced result after → ReadsBehindName text raws result after
slash_reads s r tail is (Ok Whole) after e = absurd e
slash_reads s r tail is (Ok CutTag) after e = absurd e
slash_reads {text} {raws} {rest} {any} {spaced} s r tail is (Ok Empty) after e =
    let same : 47 ∷ tail ≡ e.0 ∷ 62 ∷ after = sym is ∙ e.1 in
    let one = heads_of 47 e.0 tail (62 ∷ after) same in
    end_read s r true after (e.1 ∙ ap (λ k. k ∷ 62 ∷ after) (sym one))
slash_reads {text} {raws} {rest} {any} {spaced} s r tail is (Ok CutAtSlash) after e =
    let total = ap length is in
    cut_at_slash s r (is ∙ ap (λ xs. 47 ∷ xs) (nil_from_length tail (omega arith)))
slash_reads {text} {raws} {rest} {any} {spaced} s r tail is (Err Broken) after e =
    let same : 47 ∷ tail ≡ e.0 ∷ (e.1 ∷ e.2) = sym is ∙ e.3 in
    let tails : tail ≡ e.1 ∷ e.2 = cc in
    let whole : spaced ≡ 47 ∷ (e.1 ∷ e.2) = is ∙ ap (λ xs. 47 ∷ xs) tails in
    tag_broken s r (λ none. let g : 47 ∷ tail ≡ [] = sym is ∙ none in cc)
    (λ is_empty more end k. slash_other is_empty e.1 e.2 more end e.4 (ap (λ xs. xs ++ more) (sym whole) ∙ k))
    (λ more gap a.
    let f = attribute_first a.0 a.2.front a.1 a.2.spelled in
    not_name 47 f.0 refl f.3
    (sym (heads_of 47 f.0 (tail ++ more) (f.1 ++ a.1)
    (ap (λ xs. xs ++ more) (sym is) ∙ a.2.split ∙ ap (λ xs. xs ++ a.1) f.2))))
slash_reads s r tail is (Err Cut) after e = absurd e
slash_reads s r tail is (Err NoMemory) after e = absurd e
