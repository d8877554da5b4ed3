-- A tag as it is read: each text has one at most.
use Rattle.std.proofs.Common.{◌≡◌, ◌≢◌, ℕ, true, false, List, [], ◌∷◌, ◌++◌, length, All, refl, sym, ap, subst, ◌∙◌}
use Rattle.std.proofs.Common.{codes, arith, append_assoc}
use Rattle.std.specs.Prelude.{Result, Ok, Err, bytes_eq, flat_map, encode_utf8}
use Rattle.std.specs.List.{IsDistinct, AllZip}
use Rattle.std.proofs.lemmas.List.{append_cancel_left, length-append}
use Rattle.std.proofs.lemmas.List.Elements.{All-head, All-tail}
use Rattle.xml_tokens.specs.declared.tag.Attribute.{Attribute as Raw}
use Rattle.xml_tokens.specs.declared.tag.Tag.{Tag as RawTag}
use Rattle.xml_tokens.specs.declared.tag.TagEnd.{TagEnd}
use Rattle.xml_tokens.specs.declared.tag.TagEnd.TheVariants.{Open as Whole, Empty, Cut as CutTag, CutAtSlash}
use Rattle.xml_tokens.specs.Characters.{QName, IsQName, IsReference, name_text}
use Rattle.xml_tokens.specs.Tokens.{Attribute, Tag, IsTag, IsValue, Piece, piece_text, piece_read, IsPiece}
use Rattle.xml_tokens.specs.Tokens.Piece.{byte, reference}
use Rattle.xml_tokens.specs.Reading.{IsFound, whole_qname, names, pairs, ReadsBehindName, ReadsTagTo}
use Rattle.xml_tokens.specs.Reading.{IsTagAtSlash, ReadsTag}
use Rattle.std.specs.Result.{IsErrAnd}
use Rattle.xml_tokens.specs.declared.cursor.Lapse.{Lapse}
use Rattle.xml_tokens.specs.declared.cursor.Lapse.TheVariants.{Broken, Cut, NoMemory}
use Rattle.xml_tokens.proofs.NameLemmas.{name_text_one}
use Rattle.xml_tokens.proofs.ReferencePartLemmas.{reference_part}
use Rattle.xml_tokens.proofs.ValueLemmas.{reference_first}
use Rattle.xml_tokens.proofs.TagLemmas.{IsPairOf, to_tag, whole_tag, broken_tag, unfinished_tag, behind_tag, of_raws}
use Rattle.xml_tokens.proofs.TagLemmas.{raw_names, tag_text}
use Rattle.xml_tokens.proofs.OwnTagLemmas.{own_grow}

no_reference : (b : ℕ) (xs : List ℕ) (c : ℕ) (t ys : List ℕ) → b ≢ 38 → IsReference c t → b ∷ xs ≡ t ++ ys → ⊥
no_reference b xs c t ys other is e =
    let start = reference_first c t is in
    let same : b ∷ xs ≡ 38 ∷ (start.0 ++ ys) = e ∙ ap (λ zs. zs ++ ys) start.1 in
    let heads : b ≡ 38 = cc in
    other heads

-- pieces with one spelling are read as one value
pieces_one : (q r : ℕ) (ps ws : List Piece) → All (IsPiece q) ps → All (IsPiece r) ws →
    flat_map piece_text ps ≡ flat_map piece_text ws → flat_map piece_read ps ≡ flat_map piece_read ws
pieces_one q r [] [] each_p each_w e = refl
pieces_one q r [] (byte d ∷ ws) each_p each_w e = absurd (let g : [] ≡ d ∷ flat_map piece_text ws = e in cc)
pieces_one q r [] (reference k u ∷ ws) each_p each_w e =
    let start = reference_first k u (All-head (IsPiece r) (reference k u) ws each_w) in
    absurd (let g : [] ≡ 38 ∷ (start.0 ++ flat_map piece_text ws) = e
    ∙ ap (λ xs. xs ++ flat_map piece_text ws) start.1 in cc)
pieces_one q r (byte b ∷ ps) [] each_p each_w e = absurd (let g : b ∷ flat_map piece_text ps ≡ [] = e in cc)
pieces_one q r (byte b ∷ ps) (byte d ∷ ws) each_p each_w e =
    let g : b ∷ flat_map piece_text ps ≡ d ∷ flat_map piece_text ws = e in
    let heads : b ≡ d = cc in
    let tails : flat_map piece_text ps ≡ flat_map piece_text ws = cc in
    let more = pieces_one q r ps ws (All-tail (IsPiece q) (byte b) ps each_p)
    (All-tail (IsPiece r) (byte d) ws each_w) tails in
    λ i. piece_read (byte (heads i)) ++ more i
pieces_one q r (byte b ∷ ps) (reference k u ∷ ws) each_p each_w e =
    absurd (no_reference b (flat_map piece_text ps) k u (flat_map piece_text ws)
    (All-head (IsPiece q) (byte b) ps each_p).2 (All-head (IsPiece r) (reference k u) ws each_w) e)
pieces_one q r (reference c t ∷ ps) [] each_p each_w e =
    let start = reference_first c t (All-head (IsPiece q) (reference c t) ps each_p) in
    absurd (let g : 38 ∷ (start.0 ++ flat_map piece_text ps) ≡ [] =
    ap (λ xs. xs ++ flat_map piece_text ps) (sym start.1) ∙ e in cc)
pieces_one q r (reference c t ∷ ps) (byte d ∷ ws) each_p each_w e =
    absurd (no_reference d (flat_map piece_text ws) c t (flat_map piece_text ps)
    (All-head (IsPiece r) (byte d) ws each_w).2 (All-head (IsPiece q) (reference c t) ps each_p) (sym e))
pieces_one q r (reference c t ∷ ps) (reference k u ∷ ws) each_p each_w e =
    let is_t = All-head (IsPiece q) (reference c t) ps each_p in
    let is_u = All-head (IsPiece r) (reference k u) ws each_w in
    let one = reference_part.unique c k t (flat_map piece_text ps) u (flat_map piece_text ws) is_t is_u e in
    let tails = append_cancel_left t (flat_map piece_text ps) (flat_map piece_text ws)
    (e ∙ ap (λ xs. xs ++ flat_map piece_text ws) (sym one.1)) in
    let more = pieces_one q r ps ws (All-tail (IsPiece q) (reference c t) ps each_p)
    (All-tail (IsPiece r) (reference k u) ws each_w) tails in
    λ i. encode_utf8 (one.0 i) ++ more i

value_one : (q r : ℕ) (v u written : List ℕ) → IsValue q v written → IsValue r u written → v ≡ u
value_one q r v u written is_v is_u =
    is_v.read ∙ pieces_one q r is_v.pieces is_u.pieces is_v.each is_u.each (sym is_v.spelled ∙ is_u.spelled)
    ∙ sym is_u.read

pub qname_one : (q r : QName) → IsQName q → IsQName r → name_text q ≡ name_text r → q ≡ r
qname_one q r is_q is_r e =
    let p = name_text_one q r is_q is_r e in
    let a = p.0 in
    let b = p.1 in
    λ i. record { prefix = a i; local = b i }

attributes_one : (xs ys : List Attribute) (read : List (List ℕ × List ℕ)) → AllZip IsPairOf xs read →
    AllZip IsPairOf ys read → xs ≡ ys
attributes_one [] [] [] of_x of_y = refl
attributes_one [] [] (p ∷ read) of_x of_y = absurd of_x
attributes_one [] (y ∷ ys) [] of_x of_y = absurd of_y
attributes_one [] (y ∷ ys) (p ∷ read) of_x of_y = absurd of_x
attributes_one (x ∷ xs) ys [] of_x of_y = absurd of_x
attributes_one (x ∷ xs) [] (p ∷ read) of_x of_y = absurd of_y
attributes_one (x ∷ xs) (y ∷ ys) (p ∷ read) of_x of_y =
    let n = qname_one x.name y.name of_x.0.0 of_y.0.0 (sym of_x.0.1 ∙ of_y.0.1) in
    let v = value_one of_x.0.2.0 of_y.0.2.0 x.value y.value p.1 of_x.0.2.1 of_y.0.2.1 in
    let more = attributes_one xs ys read of_x.1 of_y.1 in
    λ i. record { name = n i; value = v i } ∷ more i

-- two tags with the same parts
pub tag_one : (t u : Tag) (read : List (List ℕ × List ℕ)) → IsQName t.name → IsQName u.name →
    name_text t.name ≡ name_text u.name → AllZip IsPairOf t.attributes read → AllZip IsPairOf u.attributes read →
    t.is_empty ≡ u.is_empty → t ≡ u
tag_one t u read is_t is_u name of_t of_u ends =
    let n = qname_one t.name u.name is_t is_u name in
    let a = attributes_one t.attributes u.attributes read of_t of_u in
    λ i. record { name = n i; attributes = a i; is_empty = ends i }

no_slash : (named inside spaces : List ℕ) → named ++ codes ">" ≡ inside ++ (spaces ++ codes "/>") → named ≡ [] → ⊥
no_slash named inside spaces e over =
    let total = ap length (ap (λ xs. xs ++ codes ">") (sym over) ∙ e) in
    let outer = length-append inside (spaces ++ codes "/>") in
    let inner = length-append spaces (codes "/>") in
    omega arith

slash_tag : (text opened name named : List ℕ) → text ≡ codes "<" ++ opened → IsFound whole_qname opened name named →
    (raw : RawTag) → raw.name.now ≡ name → IsDistinct bytes_eq (names raw.attributes.items) → (after : List ℕ) →
    ReadsBehindName named raw.attributes.items (Ok CutAtSlash) after → IsTagAtSlash text raw
slash_tag text opened name named start f raw is distinct after r =
    let q = f.spelled.0 in
    let raws = raw.attributes.items in
    let D : List (List ℕ) → Type 0 = IsDistinct bytes_eq in
    let t = to_tag q f.spelled.3 (pairs raws) true (named ++ codes ">") [] r.0
    (subst D (sym (raw_names raws)) distinct) in
    let T : List ℕ → Type 0 = IsTag t.tag in
    let whole : tag_text (name_text q) (named ++ codes ">") ≡ text ++ codes ">" =
    ap (λ xs. 60 ∷ (xs ++ (named ++ codes ">"))) (sym (f.spelled.1 ∙ f.spelled.2))
    ∙ ap (λ xs. 60 ∷ xs) (sym (append_assoc f.front named (codes ">")) ∙ ap (λ xs. xs ++ codes ">") (sym f.split))
    ∙ ap (λ xs. xs ++ codes ">") (sym start) in
    record {
      tag = t.tag;
      is_tag = subst T whole t.is;
      tag_of = record { name = is ∙ f.spelled.2 ∙ t.named; attributes = of_raws t.tag.attributes raws t.of };
      ends = t.ends;
      none = unfinished_tag text opened name named start f r.1;
      only = λ more other rest found.
          let b = behind_tag text opened name named start f more
          (λ over. absurd (no_slash named r.0.0 r.0.1 r.0.4 over)) other rest found in
          let e = r.2 more (b.0, other.is_empty) rest b.3 in
          let A : List (List ℕ × List ℕ) → Type 0 = AllZip IsPairOf other.attributes in
          tag_one other t.tag (pairs raws) found.spelled.name t.is.name
          (sym b.1 ∙ f.spelled.2 ∙ t.named) (subst A (ap (λ p. p.0) e) b.2) t.of (ap (λ p. p.1) e ∙ sym t.ends);
    }

-- the result for a tag with this end
pub tag_reads : (text opened name named : List ℕ) → text ≡ codes "<" ++ opened → IsFound whole_qname opened name named →
    (raw : RawTag) → raw.name.now ≡ name → IsDistinct bytes_eq (names raw.attributes.items) → (end : TagEnd)
    (after : List ℕ) → ReadsBehindName named raw.attributes.items (Ok end) after → ReadsTagTo end text raw after
tag_reads text opened name named start f raw is distinct Whole after r =
    whole_tag text opened name named after start f raw is false distinct r
tag_reads text opened name named start f raw is distinct Empty after r =
    whole_tag text opened name named after start f raw is true distinct r
tag_reads text opened name named start f raw is distinct CutTag after r = (
  unfinished_tag text opened name named start f r.0,
  own_grow text opened name named start f (names raw.attributes.items) distinct r.2,
)
tag_reads text opened name named start f raw is distinct CutAtSlash after r =
    slash_tag text opened name named start f raw is distinct after r

tag_lapse : (text opened name named : List ℕ) → text ≡ codes "<" ++ opened → IsFound whole_qname opened name named →
    (raws : List Raw) (e : Lapse) (after : List ℕ) → ReadsBehindName named raws (Err e) after →
    ReadsTag text (Err e) after
tag_lapse text opened name named start f raws Broken after r = broken_tag text opened name named start f r
tag_lapse text opened name named start f raws Cut after r = r
tag_lapse text opened name named start f raws NoMemory after r = tt

-- the exit of a `?`
pub tag_fails : (text opened name named : List ℕ) → text ≡ codes "<" ++ opened → IsFound whole_qname opened name named →
    (raws : List Raw) (e : Lapse) (after : List ℕ) → ReadsBehindName named raws (Err e) after →
    (r : Result RawTag Lapse) →
    IsErrAnd r (λ s. s ≡ e) → ReadsTag text r after
tag_fails text opened name named start f raws e after b (Ok tag) same = absurd same
tag_fails text opened name named start f raws e after b (Err x) same =
    let F : Lapse → Type 0 = λ l. ReadsTag text (Err l) after in
    subst F (sym same) (tag_lapse text opened name named start f raws e after b)
