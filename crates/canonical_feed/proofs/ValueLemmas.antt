-- The values of attributes as the canonical text writes them.
use Rattle.std.proofs.Common.{◌≡◌, ◌≢◌, ℕ, ◌<◌, true, ◌||◌, ◌==◌, eqb, not, List, [], ◌∷◌}
use Rattle.std.proofs.Common.{◌++◌, ltb, refl, sym, ap, subst, ◌∙◌, ⊎_elim, inl, inr, codes}
use Rattle.std.proofs.Common.{lit<, map, All}
use Rattle.std.specs.Prelude.{if◌then◌else◌, chars, flat_map}
use Rattle.std.specs.List.{list_all}
use Rattle.std.proofs.Math.Utf8.{encode, encodes, scalar}
use Rattle.std.proofs.lemmas.Bool.{and_from, or_from, cases_Bool, cond-false, eqb-true, eqb-false, ne_eqb, ltb-true}
use Rattle.std.proofs.lemmas.Bool.{ltb-false}
use Rattle.std.proofs.lemmas.Str.{encode_ascii}
use Rattle.std.proofs.lemmas.List.Elements.{All-nil, All-cons}
use Rattle.std.proofs.lemmas.List.Folds.{list_all-append}
use Rattle.atom_values.specs.Escape.{escaped, escaped_byte}
use Rattle.atom_values.specs.XmlText.{IsXmlText, is_xml_char}
use Rattle.atom_values.proofs.EscapeLemmas.{escaped-nil, escaped-append, escaped-cons}
use Rattle.xml_tokens.specs.Characters.{IsReference}
use Rattle.xml_tokens.specs.Tokens.{Piece, IsPiece, IsValue, piece_read, piece_text}
use Rattle.xml_tokens.specs.Tokens.Piece.{byte, reference}
use Rattle.xml_tokens.proofs.CharacterLemmas.{one_character}
use Rattle.xml_tokens.proofs.LineLemmas.{not_cr, lines_alone}
use Rattle.xml_tokens.proofs.XmlLemmas.{xml_append, xml_nil, printable_xml}
use Rattle.canonical_feed.proofs.CharacterLemmas.{AreXml, and_reference, cr_reference, end_reference, escaped_as}
use Rattle.canonical_feed.proofs.CharacterLemmas.{first_xml, high_character, tag_reference, xml_characters}

-- a byte that a value has as it is
pub record Plain (b : ℕ) : Type 0 where
  pub no_and : b ≢ 38
  pub no_tag : b ≢ 60
  pub no_end : b ≢ 62
  pub no_cr : b ≢ 13
  pub no_quote : b ≢ 34
  pub no_tab : b ≢ 9
  pub no_lf : b ≢ 10

-- what holds of the bytes that a value has as references, and of the others
record Each (P : ℕ → Type 0) : Type 0 where
  at_and : P 38
  at_tag : P 60
  at_end : P 62
  at_cr : P 13
  at_quote : P 34
  at_tab : P 9
  at_lf : P 10
  at_plain : (b : ℕ) → Plain b → P b

by_byte : (P : ℕ → Type 0) → Each P → (b : ℕ) → P b
by_byte P each b =
    ⊎_elim (λ (is : eqb b 38 ≡ true). subst P (sym (eqb-true b 38 is)) each.at_and) (λ no38.
    ⊎_elim (λ (is : eqb b 60 ≡ true). subst P (sym (eqb-true b 60 is)) each.at_tag) (λ no60.
    ⊎_elim (λ (is : eqb b 62 ≡ true). subst P (sym (eqb-true b 62 is)) each.at_end) (λ no62.
    ⊎_elim (λ (is : eqb b 13 ≡ true). subst P (sym (eqb-true b 13 is)) each.at_cr) (λ no13.
    ⊎_elim (λ (is : eqb b 34 ≡ true). subst P (sym (eqb-true b 34 is)) each.at_quote) (λ no34.
    ⊎_elim (λ (is : eqb b 9 ≡ true). subst P (sym (eqb-true b 9 is)) each.at_tab) (λ no9.
    ⊎_elim (λ (is : eqb b 10 ≡ true). subst P (sym (eqb-true b 10 is)) each.at_lf) (λ no10.
    each.at_plain b (record {
      no_and = eqb-false b 38 no38;
      no_tag = eqb-false b 60 no60;
      no_end = eqb-false b 62 no62;
      no_cr = eqb-false b 13 no13;
      no_quote = eqb-false b 34 no34;
      no_tab = eqb-false b 9 no9;
      no_lf = eqb-false b 10 no10;
    }))
    (cases_Bool (eqb b 10))) (cases_Bool (eqb b 9))) (cases_Bool (eqb b 34))) (cases_Bool (eqb b 13)))
    (cases_Bool (eqb b 62))) (cases_Bool (eqb b 60))) (cases_Bool (eqb b 38))

-- a byte of a value as it is written
abbrev pub piece_of : ℕ → Piece
piece_of b =
    if b == 38 then reference 38 (codes "&amp;")
    else (if b == 60 then reference 60 (codes "&lt;")
    else (if b == 62 then reference 62 (codes "&gt;")
    else (if b == 13 then reference 13 (codes "&#13;")
    else (if b == 34 then reference 34 (codes "&quot;")
    else (if b == 9 then reference 9 (codes "&#9;")
    else (if b == 10 then reference 10 (codes "&#10;") else byte b))))))

plain_piece : (b : ℕ) → Plain b → piece_of b ≡ byte b
plain_piece b p =
    cond-false (b == 38) _ _ (ne_eqb b 38 p.no_and) ∙ cond-false (b == 60) _ _ (ne_eqb b 60 p.no_tag)
    ∙ cond-false (b == 62) _ _ (ne_eqb b 62 p.no_end) ∙ cond-false (b == 13) _ _ (ne_eqb b 13 p.no_cr)
    ∙ cond-false (b == 34) _ _ (ne_eqb b 34 p.no_quote) ∙ cond-false (b == 9) _ _ (ne_eqb b 9 p.no_tab)
    ∙ cond-false (b == 10) _ _ (ne_eqb b 10 p.no_lf)

plain_byte : (b : ℕ) → Plain b → escaped_byte true b ≡ b ∷ []
plain_byte b p =
    cond-false (b == 38) _ _ (ne_eqb b 38 p.no_and) ∙ cond-false (b == 60) _ _ (ne_eqb b 60 p.no_tag)
    ∙ cond-false (b == 62) _ _ (ne_eqb b 62 p.no_end) ∙ cond-false (b == 13) _ _ (ne_eqb b 13 p.no_cr)
    ∙ cond-false (b == 34) _ _ (ne_eqb b 34 p.no_quote) ∙ cond-false (b == 9) _ _ (ne_eqb b 9 p.no_tab)
    ∙ cond-false (b == 10) _ _ (ne_eqb b 10 p.no_lf)

-- a piece is a byte as it is written
record IsPieceOf (b : ℕ) (p : Piece) : Type 0 where
  is : IsPiece 34 p
  text : piece_text p ≡ escaped_byte true b
  clean : list_all not_cr (escaped_byte true b) ≡ true
  read : piece_read p ≡ b ∷ []

as_piece : (c : ℕ) (t : List ℕ) → c < 128 → IsReference c t → t ≡ escaped_byte true c → list_all not_cr t ≡ true →
    IsPieceOf c (reference c t)
as_piece c t low is same clean = record {
  is = is;
  text = same;
  clean = ap (list_all not_cr) (sym same) ∙ clean;
  read = encode_ascii c low;
}

quote_reference : IsReference 34 (codes "&quot;")
quote_reference = (refl, inl (inr (inr (inr (inl (refl, refl))))))

tab_reference : IsReference 9 (codes "&#9;")
tab_reference = (
  refl,
  inr (inl (record { digits = codes "9"; numeral = (lit< tt, (lit< tt, tt)); value = refl; spelled = refl })),
)

lf_reference : IsReference 10 (codes "&#10;")
lf_reference = (
  refl,
  inr (inl (record {
    digits = codes "10";
    numeral = (lit< tt, (lit< tt, (lit< tt, tt)));
    value = refl;
    spelled = refl;
  })),
)

clean_byte : (b : ℕ) → b ≢ 13 → list_all not_cr (b ∷ []) ≡ true
clean_byte b other = and_from (not (b == 13)) true (ap not (ne_eqb b 13 other)) refl

read_plain : (b : ℕ) → Plain b → piece_read (byte b) ≡ b ∷ []
read_plain b p =
    ap (λ k. k ∷ []) (cond-false ((b == 9) || (b == 10)) 32 b
    (or_from (b == 9) (b == 10) (ne_eqb b 9 p.no_tab) (ne_eqb b 10 p.no_lf)))

plain_is : (b : ℕ) → Plain b → IsPieceOf b (byte b)
plain_is b p = record {
  is = (p.no_quote, p.no_tag, p.no_and);
  text = sym (plain_byte b p);
  clean = ap (list_all not_cr) (plain_byte b p) ∙ clean_byte b p.no_cr;
  read = read_plain b p;
}

piece_is : (b : ℕ) → IsPieceOf b (piece_of b)
piece_is = by_byte (λ b. IsPieceOf b (piece_of b)) (record {
  at_and = as_piece 38 (codes "&amp;") (lit< tt) and_reference refl refl;
  at_tag = as_piece 60 (codes "&lt;") (lit< tt) tag_reference refl refl;
  at_end = as_piece 62 (codes "&gt;") (lit< tt) end_reference refl refl;
  at_cr = as_piece 13 (codes "&#13;") (lit< tt) cr_reference refl refl;
  at_quote = as_piece 34 (codes "&quot;") (lit< tt) quote_reference refl refl;
  at_tab = as_piece 9 (codes "&#9;") (lit< tt) tab_reference refl refl;
  at_lf = as_piece 10 (codes "&#10;") (lit< tt) lf_reference refl refl;
  at_plain = λ b p. subst (IsPieceOf b) (sym (plain_piece b p)) (plain_is b p);
})

pieces_each : (v : List ℕ) → All (IsPiece 34) (map piece_of v)
pieces_each [] = All-nil (IsPiece 34)
pieces_each (b ∷ v) = All-cons (IsPiece 34) (piece_of b) (map piece_of v) (piece_is b).is (pieces_each v)

pieces_clean : (v : List ℕ) → list_all not_cr (escaped true v) ≡ true
pieces_clean [] = ap (list_all not_cr) (escaped-nil true)
pieces_clean (b ∷ v) =
    ap (list_all not_cr) (escaped-cons true b v) ∙ list_all-append not_cr (escaped_byte true b) (escaped true v)
    ∙ and_from (list_all not_cr (escaped_byte true b)) (list_all not_cr (escaped true v)) (piece_is b).clean
    (pieces_clean v)

pieces_text : (v : List ℕ) → escaped true v ≡ flat_map piece_text (map piece_of v)
pieces_text [] = escaped-nil true
pieces_text (b ∷ v) =
    escaped-cons true b v ∙ ap (λ t. t ++ escaped true v) (sym (piece_is b).text)
    ∙ ap (λ t. piece_text (piece_of b) ++ t) (pieces_text v)

pieces_read : (v : List ℕ) → v ≡ flat_map piece_read (map piece_of v)
pieces_read [] = refl
pieces_read (b ∷ v) =
    ap (λ t. b ∷ t) (pieces_read v) ∙ ap (λ t. t ++ flat_map piece_read (map piece_of v)) (sym (piece_is b).read)

-- the escaped text is read as the value
pub value_read : (v : List ℕ) → IsValue 34 v (escaped true v)
value_read v = record {
  pieces = map piece_of v;
  each = pieces_each v;
  spelled = lines_alone (escaped true v) (pieces_clean v) ∙ pieces_text v;
  read = pieces_read v;
}

-- the escaped text of a character is XML text
low_xml : (c : ℕ) → c < 128 → IsXmlText (escaped_byte true c) → IsXmlText (escaped true (encode c))
low_xml c low is = subst IsXmlText (sym (escaped_as true c low)) is

plain_kept : (c : ℕ) → Plain c → escaped true (encode c) ≡ encode c
plain_kept c p =
    ⊎_elim
    (λ (low : ltb c 128 ≡ true).
    let l = ltb-true c 128 low in escaped_as true c l ∙ plain_byte c p ∙ sym (encode_ascii c l))
    (λ above. high_character true c (ltb-false c 128 above))
    (cases_Bool (ltb c 128))

character_xml : (c : ℕ) → scalar c ≡ true → is_xml_char c ≡ true → IsXmlText (escaped true (encode c))
character_xml = by_byte (λ c. scalar c ≡ true → is_xml_char c ≡ true → IsXmlText (escaped true (encode c))) (record {
  at_and = λ s x. low_xml 38 (lit< tt) (printable_xml (codes "&amp;") refl);
  at_tag = λ s x. low_xml 60 (lit< tt) (printable_xml (codes "&lt;") refl);
  at_end = λ s x. low_xml 62 (lit< tt) (printable_xml (codes "&gt;") refl);
  at_cr = λ s x. low_xml 13 (lit< tt) (printable_xml (codes "&#13;") refl);
  at_quote = λ s x. low_xml 34 (lit< tt) (printable_xml (codes "&quot;") refl);
  at_tab = λ s x. low_xml 9 (lit< tt) (printable_xml (codes "&#9;") refl);
  at_lf = λ s x. low_xml 10 (lit< tt) (printable_xml (codes "&#10;") refl);
  at_plain = λ c p s x. subst IsXmlText (sym (plain_kept c p)) (one_character c s x).0;
})

characters_xml : (cs : List ℕ) → AreXml cs → IsXmlText (escaped true (encodes cs))
characters_xml [] are = subst IsXmlText (sym (escaped-nil true)) xml_nil
characters_xml (c ∷ cs) are =
    let f = first_xml c cs are in
    subst IsXmlText (sym (escaped-append true (encode c) (encodes cs)))
    (xml_append (escaped true (encode c)) (escaped true (encodes cs)) (character_xml c f.0 f.1)
    (characters_xml cs f.2))

-- the escaped value is XML text
pub value_xml : (v : List ℕ) → IsXmlText v → IsXmlText (escaped true v)
value_xml v is =
    let x = xml_characters v is in
    subst (λ t. IsXmlText (escaped true t)) x.1 (characters_xml (chars v) x.0)
