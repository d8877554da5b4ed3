-- A text begins with one token at most.
use Rattle.std.proofs.Common.{◌≡◌, ℕ, Bool, true, false, List, [], ◌∷◌, ◌++◌, length, Option}
use Rattle.std.proofs.Common.{refl, sym, ap, subst, ◌∙◌, ⊎_elim, codes, append_assoc, arith}
use Rattle.std.specs.Prelude.{chars}
use Rattle.std.specs.List.{AllZip}
use Rattle.std.proofs.Math.Utf8.{encode, encodes}
use Rattle.std.proofs.lemmas.Bool.{both_ways}
use Rattle.std.proofs.lemmas.List.{append-nil, append_cancel_left}
use Rattle.std.proofs.lemmas.Str.{encode_ascii, encode_same, encodes-chars, IsUtf8-from_is_utf8}
use Rattle.xml_tokens.specs.Characters.{IsCharacter, IsQName, QName, begins, begins_name, lines, name_text}
use Rattle.xml_tokens.specs.Tokens.{Token, Tag, IsSpelled, IsDeclaration, IsSection, IsComment, IsInstruction, IsTag}
use Rattle.xml_tokens.specs.Tokens.{IsEndTag}
use Rattle.xml_tokens.specs.Tokens.{IsPlain, IsLineEnd, IsLiteral}
use Rattle.xml_tokens.specs.Tokens.Token.{declaration, character, referred, section, comment, instruction, opening}
use Rattle.xml_tokens.specs.Tokens.Token.{closing}
use Rattle.xml_tokens.specs.Reading.{a_comment, behind_name, whole_name, whole_qname, written_section}
use Rattle.xml_tokens.proofs.BeginLemmas.{begins_from}
use Rattle.xml_tokens.proofs.PartLemmas.{IsPart, same_part, seq_part}
use Rattle.xml_tokens.proofs.FindLemmas.{up_to_part}
use Rattle.xml_tokens.proofs.CursorLemmas.{exactly_part, name_part}
use Rattle.xml_tokens.proofs.ReferencePartLemmas.{reference_part}
use Rattle.xml_tokens.proofs.AttributeLemmas.{qname_part}
use Rattle.xml_tokens.proofs.BehindNameLemmas.{behind_one, not_name}
use Rattle.xml_tokens.proofs.TagLemmas.{IsPairOf, from_tag, behind_first, tag_text}
use Rattle.xml_tokens.proofs.WholeTagLemmas.{tag_one, qname_one}
use Rattle.xml_tokens.proofs.XmlLemmas.{xml_parts}
use Rattle.xml_tokens.proofs.CharacterLemmas.{char_head}
use Rattle.xml_tokens.proofs.TokenLemmas.{section_parts, section_joins, to_section, from_section, comment_parts}
use Rattle.xml_tokens.proofs.TokenLemmas.{comment_joins, comment_end_joins, to_comment, from_comment}
use Rattle.xml_tokens.proofs.TokenFirstLemmas.{token_begins, heads_of, tails_of}
use Rattle.xml_tokens.proofs.TokenReadLemmas.{first_byte, said_cases}
use Rattle.xml_tokens.proofs.OpenTokenLemmas.{OpenCases, open_cases, third_byte, comment_first, section_written}
use Rattle.xml_tokens.proofs.InstructionNameLemmas.{name_end}
use Rattle.xml_tokens.proofs.InstructedLemmas.{declared_split, declared_begins, xml_no_instruction}
use Rattle.xml_tokens.proofs.OneDeclarationLemmas.{declaration_one}

only_character : (text cs : List ℕ) → encodes cs ≡ text → length cs ≡ 1 → (c : ℕ) × (text ≡ encode c)
only_character text [] e one = absurd (omega arith)
only_character text (c ∷ []) e one = (c, sym e ∙ append-nil (encode c))
only_character text (c ∷ d ∷ ds) e one = absurd (omega arith)

character_of : (text : List ℕ) → IsCharacter text → (c : ℕ) × (text ≡ encode c)
character_of text is =
    only_character text (chars text) (encodes-chars text (IsUtf8-from_is_utf8 text (xml_parts text is.0).0)) is.1

plain_one : (s t x y : List ℕ) → IsPlain s x → IsPlain t y → s ++ x ≡ t ++ y → s ≡ t
plain_one s t x y is_s is_t e =
    let a = character_of s is_s.is_character in
    let b = character_of t is_t.is_character in
    let one = encode_same a.0 b.0 x y (ap (λ xs. xs ++ x) (sym a.1) ∙ e ∙ ap (λ xs. xs ++ y) b.1) in
    a.1 ∙ ap encode one.0 ∙ sym b.1

-- no line end begins with a character that is written as it is
plain_no_line : (s x z : List ℕ) → IsPlain s x → s ++ x ≡ 13 ∷ z → ⊥
plain_no_line s x z is e =
    let a = character_of s is.is_character in
    let h = char_head a.0 in
    let first = heads_of h.0 13 (h.1 ++ x) z (ap (λ xs. xs ++ x) (sym (a.1 ∙ h.2)) ∙ e) in
    ⊎_elim
    (λ same. is.no_line_end (a.1 ∙ ap encode (sym same ∙ first) ∙ encode_ascii 13 (omega arith)))
    (λ above. omega arith)
    h.3

line_first : (t y : List ℕ) → IsLineEnd t y → (z : List ℕ) × (t ++ y ≡ 13 ∷ z)
line_first t y is =
    ⊎_elim (λ two. (10 ∷ y, ap (λ xs. xs ++ y) two)) (λ one. (y, ap (λ xs. xs ++ y) one.0)) is

lone_return : (s t x y : List ℕ) → s ≡ 13 ∷ 10 ∷ [] → t ≡ 13 ∷ [] → begins (10 ∷ []) y ≡ false → s ++ x ≡ t ++ y → ⊥
lone_return s t x y two one no_feed e =
    let whole : 13 ∷ (10 ∷ x) ≡ 13 ∷ y = ap (λ xs. xs ++ x) (sym two) ∙ e ∙ ap (λ xs. xs ++ y) one in
    both_ways (begins (10 ∷ []) y) no_feed (begins_from (10 ∷ []) y x (sym (tails_of 13 13 (10 ∷ x) y whole)))

line_one : (s t x y : List ℕ) → IsLineEnd s x → IsLineEnd t y → s ++ x ≡ t ++ y → s ≡ t
line_one s t x y is_s is_t e =
    ⊎_elim
    (λ two. ⊎_elim
    (λ other. two ∙ sym other)
    (λ one. absurd (lone_return s t x y two one.0 one.1 e))
    is_t)
    (λ one. ⊎_elim
    (λ two. absurd (lone_return t s y x two one.0 one.1 (sym e)))
    (λ other. one.0 ∙ sym other.0)
    is_t)
    is_s

literal_one : (a b s t x y : List ℕ) → IsLiteral a s x → IsLiteral b t y → s ++ x ≡ t ++ y → (a ≡ b) × (s ≡ t)
literal_one a b s t x y is_s is_t e =
    ⊎_elim
    (λ plain. ⊎_elim
    (λ other. let one = plain_one s t x y plain.1 other.1 e in (plain.0 ∙ one ∙ sym other.0, one))
    (λ line. let z = line_first t y line.1 in absurd (plain_no_line s x z.0 plain.1 (e ∙ z.1)))
    is_t)
    (λ line. ⊎_elim
    (λ plain. let z = line_first s x line.1 in absurd (plain_no_line t y z.0 plain.1 (sym e ∙ z.1)))
    (λ other. (line.0 ∙ sym other.0, line_one s t x y line.1 other.1 e))
    is_t)
    is_s

section_part : IsPart written_section
section_part =
    same_part written_section section_parts to_section from_section
    (seq_part section_joins (λ _. up_to_part (codes "]]>") (omega arith)))

section_one : (a b s t x y : List ℕ) → IsSection a s → IsSection b t → s ++ x ≡ t ++ y → (a ≡ b) × (s ≡ t)
section_one a b s t x y is_s is_t e =
    let one = section_part.unique is_s.inside is_t.inside s x t y (section_written a s x is_s)
    (section_written b t y is_t) e in
    (is_s.is_read ∙ ap lines one.0 ∙ sym is_t.is_read, one.1)

comment_part : IsPart a_comment
comment_part =
    same_part a_comment comment_parts to_comment from_comment
    (seq_part comment_joins (λ _. seq_part comment_end_joins (λ _. exactly_part (codes ">"))))

instruction_one : (s t x y : List ℕ) → IsInstruction s → IsInstruction t → s ++ x ≡ t ++ y → s ≡ t
instruction_one s t x y is_s is_t e =
    let c = is_s.inside ++ codes "?>" in
    let d = is_t.inside ++ codes "?>" in
    let a : whole_name is_s.name is_s.name (c ++ x) = (refl, is_s.is_name, name_end is_s.inside x is_s.apart) in
    let b : whole_name is_t.name is_t.name (d ++ y) = (refl, is_t.is_name, name_end is_t.inside y is_t.apart) in
    let first : s ++ x ≡ codes "<?" ++ (is_s.name ++ (c ++ x)) = ap (λ xs. xs ++ x) is_s.spelled ∙ simp append_assoc in
    let other : t ++ y ≡ codes "<?" ++ (is_t.name ++ (d ++ y)) = ap (λ xs. xs ++ y) is_t.spelled ∙ simp append_assoc in
    let whole : is_s.name ++ (c ++ x) ≡ is_t.name ++ (d ++ y) =
    append_cancel_left (codes "<?") (is_s.name ++ (c ++ x)) (is_t.name ++ (d ++ y)) (sym first ∙ e ∙ other) in
    let name = (name_part.unique is_s.name is_t.name is_s.name (c ++ x) is_t.name (d ++ y) a b whole).1 in
    let behind : c ++ x ≡ d ++ y =
    append_cancel_left is_s.name (c ++ x) (d ++ y) (whole ∙ ap (λ xs. xs ++ (d ++ y)) (sym name)) in
    let end = ((up_to_part (codes "?>") (omega arith)).unique is_s.inside is_t.inside c x d y (refl, is_s.first_end)
    (refl, is_t.first_end) behind).0 in
    is_s.spelled ∙ (λ i. codes "<?" ++ name i ++ end i ++ codes "?>") ∙ sym is_t.spelled

-- a name, and the rest of a tag
record NamedOne (q r : QName) (vs ws : List (List ℕ × List ℕ)) (a b : Bool) (c d : List ℕ) : Type 0 where
  name : q ≡ r
  read : vs ≡ ws
  ends : a ≡ b
  back : c ≡ d

named_one : (q r : QName) (vs ws : List (List ℕ × List ℕ)) (a b : Bool) (c d x y : List ℕ) → IsQName q → IsQName r →
    behind_name (vs, a) c x → behind_name (ws, b) d y → name_text q ++ (c ++ x) ≡ name_text r ++ (d ++ y) →
    NamedOne q r vs ws a b c d
named_one q r vs ws a b c d x y is_q is_r is_c is_d e =
    let m = name_text q in
    let n = name_text r in
    let first = behind_first vs a c x is_c in
    let other = behind_first ws b d y is_d in
    let here : whole_qname m m (c ++ x) = (q, refl, refl, is_q, first.0, (λ _. first.1)) in
    let there : whole_qname n n (d ++ y) = (r, refl, refl, is_r, other.0, (λ _. other.1)) in
    let one = (qname_part.unique m n m (c ++ x) n (d ++ y) here there e).0 in
    let behind : c ++ x ≡ d ++ y =
    append_cancel_left m (c ++ x) (d ++ y) (e ∙ ap (λ xs. xs ++ (d ++ y)) (sym one)) in
    let two = behind_one vs ws a b c d x y is_c is_d behind in
    record { name = qname_one q r is_q is_r one; read = two.0; ends = two.1; back = two.2 }

opening_one : (a b : Tag) (s t x y : List ℕ) → IsTag a s → IsTag b t → s ++ x ≡ t ++ y → (a ≡ b) × (s ≡ t)
opening_one a b s t x y is_s is_t e =
    let c = from_tag a s x is_s in
    let d = from_tag b t y is_t in
    let m = name_text a.name in
    let n = name_text b.name in
    let whole : 60 ∷ (m ++ (c.1 ++ x)) ≡ 60 ∷ (n ++ (d.1 ++ y)) =
    ap (λ xs. 60 ∷ xs) (sym (append_assoc m c.1 x)) ∙ ap (λ xs. xs ++ x) (sym c.3) ∙ e ∙ ap (λ xs. xs ++ y) d.3
    ∙ ap (λ xs. 60 ∷ xs) (append_assoc n d.1 y) in
    let one = named_one a.name b.name c.0 d.0 a.is_empty b.is_empty c.1 d.1 x y is_s.name is_t.name c.2 d.2
    (tails_of 60 60 (m ++ (c.1 ++ x)) (n ++ (d.1 ++ y)) whole) in
    let same = one.name in
    let back = one.back in
    let A : List (List ℕ × List ℕ) → Type 0 = AllZip IsPairOf a.attributes in
    let tag = tag_one a b d.0 is_s.name is_t.name (ap name_text same) (subst A one.read c.4) d.4 one.ends in
    (tag, c.3 ∙ (λ i. tag_text (name_text (same i)) (back i)) ∙ sym d.3)

closing_one : (q r : QName) (s t x y : List ℕ) → IsEndTag q s → IsEndTag r t → s ++ x ≡ t ++ y → (q ≡ r) × (s ≡ t)
closing_one q r s t x y is_s is_t e =
    let m = name_text q in
    let n = name_text r in
    let c = is_s.spaces ++ codes ">" in
    let d = is_t.spaces ++ codes ">" in
    let first : s ≡ codes "</" ++ (m ++ c) = is_s.spelled ∙ simp append_assoc in
    let other : t ≡ codes "</" ++ (n ++ d) = is_t.spelled ∙ simp append_assoc in
    let whole : codes "</" ++ (m ++ (c ++ x)) ≡ codes "</" ++ (n ++ (d ++ y)) =
    ap (λ xs. codes "</" ++ xs) (sym (append_assoc m c x)) ∙ ap (λ xs. xs ++ x) (sym first) ∙ e
    ∙ ap (λ xs. xs ++ y) other ∙ ap (λ xs. codes "</" ++ xs) (append_assoc n d y) in
    let one = named_one q r [] [] false false c d x y is_s.is_name is_t.is_name
    ([], is_s.spaces, refl, is_s.are_spaces, refl) ([], is_t.spaces, refl, is_t.are_spaces, refl)
    (append_cancel_left (codes "</") (m ++ (c ++ x)) (n ++ (d ++ y)) whole) in
    let same = one.name in
    let back = one.back in
    (same, first ∙ (λ i. codes "</" ++ (name_text (same i) ++ back i)) ∙ sym other)

declared_no_instruction : {X : Type 0} (name : Option (List ℕ)) (s t x y : List ℕ) → IsDeclaration name s →
    IsInstruction t → s ++ x ≡ t ++ y → X
declared_no_instruction name s t x y d i e =
    let text = s ++ x in
    let p = declared_split text (declared_begins name text s x d refl) in
    xml_no_instruction text [] t y p.0 p.1 p.2 (append-nil text ∙ e) i

section_no_comment : {X : Type 0} (read s t x y : List ℕ) → IsSection read s → IsComment t → s ++ x ≡ t ++ y → X
section_no_comment read s t x y is_s is_t e =
    let u = codes "CDATA[" ++ (is_s.inside ++ codes "]]>") in
    let starts : s ≡ codes "<![" ++ u = is_s.spelled ∙ simp append_assoc in
    absurd (third_byte s x t y (codes "-" ++ (is_t.inside ++ codes "-->")) e (comment_first t is_t) u starts)

-- the spelling of another token that begins the same text
abbrev Meets : Token → Token → List ℕ → List ℕ → List ℕ → Token → Type 0
Meets a b s t y c = IsSpelled c t y × (a ≡ c → s ≡ t → (a ≡ b) × (s ≡ t))

no_name_byte : {X : Type 0} (k : ℕ) → begins_name k ≡ false → begins_name k ≡ true → X
no_name_byte k none is = absurd (both_ways (begins_name k) none is)

-- tokens whose spellings begin with `<`
opened : (k : ℕ) (tail : List ℕ) (a b : Token) (s t x y : List ℕ) → s ≡ 60 ∷ k ∷ tail → IsSpelled b t y →
    s ++ x ≡ t ++ y →
    OpenCases (Meets a b s t y) k ((a ≡ b) × (s ≡ t)) → (a ≡ b) × (s ≡ t)
opened k tail a b s t x y starts is_b e cases =
    open_cases (Meets a b s t y) k (tail ++ x) (s ++ x) [] t y (ap (λ xs. xs ++ x) starts) (append-nil (s ++ x) ∙ e)
    b is_b (is_b, λ p q. (p, q)) cases

pub one_token : (a b : Token) (s x t y : List ℕ) → IsSpelled a s x → IsSpelled b t y → s ++ x ≡ t ++ y →
    (a ≡ b) × (s ≡ t)
one_token (declaration name) b s x t y is_a is_b e =
    let a = declaration name in
    let f = token_begins a s x is_a in
    opened 63 (codes "xml" ++ f.0) a b s t x y f.1 is_b e (record {
      on_declaration = λ other same p.
          let one = declaration_one name other s t x y is_a.1 p.0.1 e in p.1 (ap (λ v. declaration v) one.0) one.1;
      on_section = λ read same p. absurd (let k : 63 ≡ 33 = same in omega arith);
      on_comment = λ same p. absurd (let k : 63 ≡ 33 = same in omega arith);
      on_instruction = λ same p. declared_no_instruction name s t x y is_a.1 p.0.1 e;
      on_opening = λ tag first p. no_name_byte 63 refl first;
      on_closing = λ q same p. absurd (let k : 63 ≡ 47 = same in omega arith);
    })
one_token (character read) b s x t y is_a is_b e =
    let a = character read in
    let f = token_begins a s x is_a in
    let starts : s ++ x ≡ f.0 ∷ (f.1 ++ x) = ap (λ xs. xs ++ x) f.2 in
    let same = append-nil (s ++ x) ∙ e in
    said_cases (Meets a b s t y) f.0 (f.1 ++ x) (s ++ x) [] t y starts f.3 same b is_b (is_b, λ p q. (p, q))
    (λ other p. let one = literal_one read other s t x y is_a.1 p.0.1 e in p.1 (ap (λ v. character v) one.0) one.1)
    (λ c p.
    let g = token_begins (referred c) t y p.0 in
    absurd (f.4 (sym (first_byte f.0 (f.1 ++ x) (s ++ x) [] t y g.0 38 starts same g.1))))
one_token (referred c) b s x t y is_a is_b e =
    let a = referred c in
    let f = token_begins a s x is_a in
    let starts : s ++ x ≡ 38 ∷ (f.0 ++ x) = ap (λ xs. xs ++ x) f.1 in
    let same = append-nil (s ++ x) ∙ e in
    said_cases (Meets a b s t y) 38 (f.0 ++ x) (s ++ x) [] t y starts (λ (k : 38 ≡ 60). omega arith) same b is_b
    (is_b, λ p q. (p, q))
    (λ read p.
    let g = token_begins (character read) t y p.0 in
    absurd (g.4 (first_byte 38 (f.0 ++ x) (s ++ x) [] t y g.1 g.0 starts same g.2)))
    (λ d p. let one = reference_part.unique c d s x t y is_a.1 p.0.1 e in p.1 (ap (λ v. referred v) one.0) one.1)
one_token (section read) b s x t y is_a is_b e =
    let a = section read in
    let f = token_begins a s x is_a in
    opened 33 (codes "[" ++ f.0) a b s t x y f.1 is_b e (record {
      on_declaration = λ name same p. absurd (let k : 33 ≡ 63 = same in omega arith);
      on_section = λ other same p.
          let one = section_one read other s t x y is_a.1 p.0.1 e in p.1 (ap (λ v. section v) one.0) one.1;
      on_comment = λ same p. section_no_comment read s t x y is_a.1 p.0.1 e;
      on_instruction = λ same p. absurd (let k : 33 ≡ 63 = same in omega arith);
      on_opening = λ tag first p. no_name_byte 33 refl first;
      on_closing = λ q same p. absurd (let k : 33 ≡ 47 = same in omega arith);
    })
one_token comment b s x t y is_a is_b e =
    let f = token_begins comment s x is_a in
    opened 33 (codes "-" ++ f.0) comment b s t x y f.1 is_b e (record {
      on_declaration = λ name same p. absurd (let k : 33 ≡ 63 = same in omega arith);
      on_section = λ read same p. section_no_comment read t s y x p.0.1 is_a.1 (sym e);
      on_comment = λ same p. p.1 refl (comment_part.unique tt tt s x t y is_a.1 p.0.1 e).1;
      on_instruction = λ same p. absurd (let k : 33 ≡ 63 = same in omega arith);
      on_opening = λ tag first p. no_name_byte 33 refl first;
      on_closing = λ q same p. absurd (let k : 33 ≡ 47 = same in omega arith);
    })
one_token instruction b s x t y is_a is_b e =
    let f = token_begins instruction s x is_a in
    opened 63 f.0 instruction b s t x y f.1 is_b e (record {
      on_declaration = λ name same p. declared_no_instruction name t s y x p.0.1 is_a.1 (sym e);
      on_section = λ read same p. absurd (let k : 63 ≡ 33 = same in omega arith);
      on_comment = λ same p. absurd (let k : 63 ≡ 33 = same in omega arith);
      on_instruction = λ same p. p.1 refl (instruction_one s t x y is_a.1 p.0.1 e);
      on_opening = λ tag first p. no_name_byte 63 refl first;
      on_closing = λ q same p. absurd (let k : 63 ≡ 47 = same in omega arith);
    })
one_token (opening tag) b s x t y is_a is_b e =
    let a = opening tag in
    let f = token_begins a s x is_a in
    let other : (k : ℕ) → begins_name k ≡ false → f.0 ≡ k → (a ≡ b) × (s ≡ t) = λ k none same.
    absurd (not_name k f.0 none f.3 same) in
    opened f.0 f.1 a b s t x y f.2 is_b e (record {
      on_declaration = λ name same p. other 63 refl same;
      on_section = λ read same p. other 33 refl same;
      on_comment = λ same p. other 33 refl same;
      on_instruction = λ same p. other 63 refl same;
      on_opening = λ second first p.
          let one = opening_one tag second s t x y is_a.1 p.0.1 e in p.1 (ap (λ v. opening v) one.0) one.1;
      on_closing = λ q same p. other 47 refl same;
    })
one_token (closing name) b s x t y is_a is_b e =
    let a = closing name in
    let f = token_begins a s x is_a in
    opened 47 f.0 a b s t x y f.1 is_b e (record {
      on_declaration = λ n same p. absurd (let k : 47 ≡ 63 = same in omega arith);
      on_section = λ read same p. absurd (let k : 47 ≡ 33 = same in omega arith);
      on_comment = λ same p. absurd (let k : 47 ≡ 33 = same in omega arith);
      on_instruction = λ same p. absurd (let k : 47 ≡ 63 = same in omega arith);
      on_opening = λ tag first p. no_name_byte 47 refl first;
      on_closing = λ q same p.
          let one = closing_one name q s t x y is_a.1 p.0.1 e in p.1 (ap (λ v. closing v) one.0) one.1;
    })
