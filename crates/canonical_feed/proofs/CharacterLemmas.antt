-- The characters of content as the canonical text writes them, one after another.
use Rattle.std.proofs.Common.{◌≡◌, ◌≢◌, ℕ, ◌+◌, ◌<◌, ◌≤◌, Bool, true, false, ◌||◌, ◌==◌, eqb, List, [], ◌∷◌}
use Rattle.std.proofs.Common.{◌++◌, length, ltb, refl, sym, ap, subst, ◌∙◌, ⊎_elim, inl, inr, codes, arith, append_assoc}
use Rattle.std.proofs.Common.{lit<, ◌/◌, ◌%◌}
use Rattle.std.specs.Prelude.{if◌then◌else◌, chars}
use Rattle.std.specs.List.{list_all}
use Rattle.std.proofs.Math.Utf8.{encode, encodes, scalar, scalars}
use Rattle.std.proofs.lemmas.Bool.{and_parts, and_left, and_right, or_from, cases_Bool, cond-true, cond-false, eqb-true}
use Rattle.std.proofs.lemmas.Bool.{eqb-false, ne_eqb, ltb-true, ltb-false}
use Rattle.std.proofs.lemmas.Str.{encode_ascii, encode_same, encodes-chars, scalars-chars, IsUtf8-from_is_utf8}
use Rattle.atom_values.specs.Escape.{escaped, escaped_byte, may_escape}
use Rattle.atom_values.specs.XmlText.{IsXmlText, is_xml_char}
use Rattle.atom_values.proofs.EscapeLemmas.{escaped-nil, escaped-append, escaped-cons, escaped_one, escaped_byte-plain}
use Rattle.xml_tokens.specs.Characters.{begins, IsReference}
use Rattle.xml_tokens.specs.Tokens.{IsSpelled}
use Rattle.xml_tokens.specs.Tokens.Token.{character, referred}
use Rattle.xml_tokens.specs.Stages.{Open, Lexeme, CanStand, CanAllStand, lexemes_text, stage_after}
use Rattle.xml_tokens.specs.Stages.Stage.{inside}
use Rattle.xml_tokens.specs.Tree.{Content, contents, events, events_of, with_said}
use Rattle.xml_tokens.specs.Tree.Content.{said}
use Rattle.xml_tokens.specs.Tree.Event.{say}
use Rattle.xml_tokens.proofs.CharacterLemmas.{one_character, char_head}
use Rattle.xml_tokens.proofs.ValueLemmas.{reference_first}
use Rattle.xml_tokens.proofs.XmlLemmas.{xml_parts, printable_xml, printable_reference}

-- the text completes no `]]>` that begins before it
pub record IsSafe (rest : List ℕ) : Type 0 where
  pub no_close : begins (93 ∷ 62 ∷ []) rest ≡ false
  pub no_end : begins (62 ∷ []) rest ≡ false

-- a character that content has as it is
pub record Ordinary (c : ℕ) : Type 0 where
  pub no_and : c ≢ 38
  pub no_tag : c ≢ 60
  pub no_end : c ≢ 62
  pub no_cr : c ≢ 13

-- by the characters that content has as references
by_character : (P : ℕ → Type 0) → P 38 → P 60 → P 62 → P 13 → ((c : ℕ) → Ordinary c → P c) → (c : ℕ) → P c
by_character P a t e r other c =
    ⊎_elim (λ (is : eqb c 38 ≡ true). subst P (sym (eqb-true c 38 is)) a) (λ no38.
    ⊎_elim (λ (is : eqb c 60 ≡ true). subst P (sym (eqb-true c 60 is)) t) (λ no60.
    ⊎_elim (λ (is : eqb c 62 ≡ true). subst P (sym (eqb-true c 62 is)) e) (λ no62.
    ⊎_elim (λ (is : eqb c 13 ≡ true). subst P (sym (eqb-true c 13 is)) r) (λ no13.
    other c (record {
      no_and = eqb-false c 38 no38;
      no_tag = eqb-false c 60 no60;
      no_end = eqb-false c 62 no62;
      no_cr = eqb-false c 13 no13;
    }))
    (cases_Bool (eqb c 13))) (cases_Bool (eqb c 62))) (cases_Bool (eqb c 60))) (cases_Bool (eqb c 38))

-- a character as it is written
abbrev pub lexeme_of : ℕ → Lexeme
lexeme_of c =
    if c == 38 then record { token = referred 38; text = codes "&amp;" }
    else (if c == 60 then record { token = referred 60; text = codes "&lt;" }
    else (if c == 62 then record { token = referred 62; text = codes "&gt;" }
    else (if c == 13 then record { token = referred 13; text = codes "&#13;" }
    else record { token = character (encode c); text = encode c })))

-- a byte from 128 on is escaped nowhere
pub high_kept : (b : ℕ) → 128 ≤ b → may_escape b ≡ false
high_kept b high =
    let n : (k : ℕ) → k < 128 → eqb b k ≡ false = λ k low. ne_eqb b k (λ e. omega arith) in
    or_from (b == 38 || b == 60 || b == 62 || b == 13 || b == 34 || b == 9) (b == 10)
    (or_from (b == 38 || b == 60 || b == 62 || b == 13 || b == 34) (b == 9)
    (or_from (b == 38 || b == 60 || b == 62 || b == 13) (b == 34)
    (or_from (b == 38 || b == 60 || b == 62) (b == 13)
    (or_from (b == 38 || b == 60) (b == 62)
    (or_from (b == 38) (b == 60) (n 38 (omega arith)) (n 60 (omega arith)))
    (n 62 (omega arith))) (n 13 (omega arith))) (n 34 (omega arith))) (n 9 (omega arith))) (n 10 (omega arith))

-- a character from U+80 on is escaped nowhere
pub high_character : (quoted : Bool) (c : ℕ) → 128 ≤ c → escaped quoted (encode c) ≡ encode c
unfolding encode
high_character quoted c low =
    let K : List ℕ → Type 0 = λ xs. escaped quoted xs ≡ xs in
    let two = (192 + c / 64) ∷ (128 + c % 64) ∷ [] in
    let three = (224 + c / 4096) ∷ (128 + (c / 64) % 64) ∷ (128 + c % 64) ∷ [] in
    let four = (240 + c / 262144) ∷ (128 + (c / 4096) % 64) ∷ (128 + (c / 64) % 64) ∷ (128 + c % 64) ∷ [] in
    let all : (x y : ℕ) (xs : List ℕ) → 128 ≤ x → escaped quoted xs ≡ xs →
    escaped quoted ((x + y) ∷ xs) ≡ (x + y) ∷ xs = λ x y xs high e.
    escaped-cons quoted (x + y) xs
    ∙ ap (λ t. t ++ escaped quoted xs) (escaped_byte-plain quoted (x + y) (high_kept (x + y) (omega arith)))
    ∙ ap (λ t. (x + y) ∷ t) e in
    let last = all 128 (c % 64) [] (omega arith) (escaped-nil quoted) in
    let last_two = all 128 ((c / 64) % 64) ((128 + c % 64) ∷ []) (omega arith) last in
    let last_three = all 128 ((c / 4096) % 64) ((128 + (c / 64) % 64) ∷ (128 + c % 64) ∷ []) (omega arith) last_two in
    ⊎_elim
    (λ (under : ltb c 128 ≡ true). absurd (let u = ltb-true c 128 under in omega arith))
    (λ one. subst K (sym (cond-false (ltb c 128) _ _ one))
    (⊎_elim
    (λ is_two. subst K (sym (cond-true (ltb c 2048) _ _ is_two))
    (all 192 (c / 64) ((128 + c % 64) ∷ []) (omega arith) last))
    (λ more. subst K (sym (cond-false (ltb c 2048) _ _ more))
    (⊎_elim
    (λ is_three. subst K (sym (cond-true (ltb c 65536) _ _ is_three))
    (all 224 (c / 4096) ((128 + (c / 64) % 64) ∷ (128 + c % 64) ∷ []) (omega arith) last_two))
    (λ is_four. subst K (sym (cond-false (ltb c 65536) _ _ is_four))
    (all 240 (c / 262144) ((128 + (c / 4096) % 64) ∷ (128 + (c / 64) % 64) ∷ (128 + c % 64) ∷ [])
    (omega arith) last_three))
    (cases_Bool (ltb c 65536))))
    (cases_Bool (ltb c 2048))))
    (cases_Bool (ltb c 128))

-- a byte that content has as it is
ordinary_byte : (b : ℕ) → Ordinary b → escaped_byte false b ≡ b ∷ []
ordinary_byte b o =
    cond-false (b == 38) _ _ (ne_eqb b 38 o.no_and) ∙ cond-false (b == 60) _ _ (ne_eqb b 60 o.no_tag)
    ∙ cond-false (b == 62) _ _ (ne_eqb b 62 o.no_end) ∙ cond-false (b == 13) _ _ (ne_eqb b 13 o.no_cr)

ordinary_kept : (c : ℕ) → Ordinary c → escaped false (encode c) ≡ encode c
ordinary_kept c o =
    ⊎_elim
    (λ (low : ltb c 128 ≡ true).
    let e = encode_ascii c (ltb-true c 128 low) in
    ap (escaped false) e ∙ escaped_one false c ∙ ordinary_byte c o ∙ sym e)
    (λ above. high_character false c (ltb-false c 128 above))
    (cases_Bool (ltb c 128))

ordinary_lexeme : (c : ℕ) → Ordinary c → lexeme_of c ≡ record { token = character (encode c); text = encode c }
ordinary_lexeme c o =
    cond-false (c == 38) _ _ (ne_eqb c 38 o.no_and) ∙ cond-false (c == 60) _ _ (ne_eqb c 60 o.no_tag)
    ∙ cond-false (c == 62) _ _ (ne_eqb c 62 o.no_end) ∙ cond-false (c == 13) _ _ (ne_eqb c 13 o.no_cr)

-- a lexeme is a character as it is written
pub record IsWritten (c : ℕ) (l : Lexeme) : Type 0 where
  pub text : l.text ≡ escaped false (encode c)
  pub safe : (rest : List ℕ) → IsSafe rest → IsSafe (l.text ++ rest)
  pub spelled : (rest : List ℕ) → IsSafe rest → IsSpelled l.token l.text rest
  pub stands : (most : ℕ) (e : Open) (outer : List Open) → CanStand most (inside e outer) l.token
  pub stays : (e : Open) (outer : List Open) → stage_after (inside e outer) l.token ≡ inside e outer
  pub says : (e : Open) (outer : List Open) (at : ℕ) →
      events_of (inside e outer) at l.token ≡ say (encode c) ∷ []

-- a reference begins with `&`
safe_and : (u rest : List ℕ) → IsSafe (38 ∷ u ++ rest)
safe_and u rest = record { no_close = refl; no_end = refl }

as_reference : (c : ℕ) (t : List ℕ) → IsReference c t → t ≡ escaped false (encode c) →
    IsWritten c (record { token = referred c; text = t })
as_reference c t is same = record {
  text = same;
  safe = λ rest safe.
      let first = reference_first c t is in
      subst (λ xs. IsSafe (xs ++ rest)) (sym first.1) (safe_and first.0 rest);
  spelled = λ rest safe. (printable_xml t (printable_reference c t is), is);
  stands = λ most e outer. tt;
  stays = λ e outer. refl;
  says = λ e outer at. refl;
}

not_one : (c k : ℕ) → k < 128 → c ≢ k → encode c ≢ k ∷ []
not_one c k low other e =
    other (encode_same c k [] [] (ap (λ xs. xs ++ []) (e ∙ sym (encode_ascii k low)))).0

-- no pattern of ASCII begins with a character from U+80 on
no_high : (k b : ℕ) (bytes xs : List ℕ) → k < 128 → 128 ≤ b → begins (k ∷ bytes) (b ∷ xs) ≡ false
no_high k b bytes xs low high = and_left (eqb k b) _ (ne_eqb k b (λ e. omega arith))

no_high_begin : (k c : ℕ) (bytes xs : List ℕ) → k < 128 → 128 ≤ c → begins (k ∷ bytes) (encode c ++ xs) ≡ false
no_high_begin k c bytes xs low high =
    let h = char_head c in
    let B : List ℕ → Type 0 = λ ys. begins (k ∷ bytes) (ys ++ xs) ≡ false in
    subst B (sym h.2) (no_high k h.0 bytes (h.1 ++ xs) low
    (⊎_elim (λ (same : h.0 ≡ c). omega arith) (λ above. above) h.3))

ordinary_safe : (c : ℕ) → Ordinary c → (rest : List ℕ) → IsSafe rest → IsSafe (encode c ++ rest)
ordinary_safe c o rest safe =
    ⊎_elim
    (λ (low : ltb c 128 ≡ true).
    let S : List ℕ → Type 0 = λ xs. IsSafe (xs ++ rest) in
    subst S (sym (encode_ascii c (ltb-true c 128 low)))
    (record {
      no_close = and_right (eqb 93 c) (begins (62 ∷ []) rest) safe.no_end;
      no_end = and_left (eqb 62 c) _ (ne_eqb 62 c (λ e. o.no_end (sym e)));
    }))
    (λ above. record {
      no_close = no_high_begin 93 c (62 ∷ []) rest (omega arith) (ltb-false c 128 above);
      no_end = no_high_begin 62 c [] rest (omega arith) (ltb-false c 128 above);
    })
    (cases_Bool (ltb c 128))

no_section_end : (c : ℕ) (rest : List ℕ) → IsSafe rest → begins (codes "]]>") (encode c ++ rest) ≡ false
no_section_end c rest safe =
    ⊎_elim
    (λ (low : ltb c 128 ≡ true).
    let B : List ℕ → Type 0 = λ xs. begins (codes "]]>") (xs ++ rest) ≡ false in
    subst B (sym (encode_ascii c (ltb-true c 128 low)))
    (and_right (eqb 93 c) (begins (93 ∷ 62 ∷ []) rest) safe.no_close))
    (λ above. no_high_begin 93 c (93 ∷ 62 ∷ []) rest (omega arith) (ltb-false c 128 above))
    (cases_Bool (ltb c 128))

as_ordinary : (c : ℕ) → scalar c ≡ true → is_xml_char c ≡ true → Ordinary c →
    IsWritten c (record { token = character (encode c); text = encode c })
as_ordinary c is xml o = record {
  text = sym (ordinary_kept c o);
  safe = ordinary_safe c o;
  spelled = λ rest safe. (
    (one_character c is xml).0,
    inl (
      refl,
      record {
        is_character = one_character c is xml;
        no_tag = not_one c 60 (omega arith) o.no_tag;
        no_reference = not_one c 38 (omega arith) o.no_and;
        no_line_end = not_one c 13 (omega arith) o.no_cr;
        no_section_end = no_section_end c rest safe;
      },
    ),
  );
  stands = λ most e outer. inl tt;
  stays = λ e outer. refl;
  says = λ e outer at. refl;
}

-- the text of a reference is the escaped character
pub escaped_as : (quoted : Bool) (c : ℕ) → c < 128 → escaped quoted (encode c) ≡ escaped_byte quoted c
escaped_as quoted c low = ap (escaped quoted) (encode_ascii c low) ∙ escaped_one quoted c

pub and_reference : IsReference 38 (codes "&amp;")
and_reference = (refl, inl (inl (refl, refl)))

pub tag_reference : IsReference 60 (codes "&lt;")
tag_reference = (refl, inl (inr (inl (refl, refl))))

pub end_reference : IsReference 62 (codes "&gt;")
end_reference = (refl, inl (inr (inr (inl (refl, refl)))))

pub cr_reference : IsReference 13 (codes "&#13;")
cr_reference = (
  refl,
  inr (inl (record {
    digits = codes "13";
    numeral = (lit< tt, (lit< tt, (lit< tt, tt)));
    value = refl;
    spelled = refl;
  })),
)

pub written : (c : ℕ) → scalar c ≡ true → is_xml_char c ≡ true → IsWritten c (lexeme_of c)
written c =
    let P : ℕ → Type 0 = λ k. scalar k ≡ true → is_xml_char k ≡ true → IsWritten k (lexeme_of k) in
    by_character P
    (λ is xml. as_reference 38 (codes "&amp;") and_reference (sym (escaped_as false 38 (lit< tt))))
    (λ is xml. as_reference 60 (codes "&lt;") tag_reference (sym (escaped_as false 60 (lit< tt))))
    (λ is xml. as_reference 62 (codes "&gt;") end_reference (sym (escaped_as false 62 (lit< tt))))
    (λ is xml. as_reference 13 (codes "&#13;") cr_reference (sym (escaped_as false 13 (lit< tt))))
    (λ k o is xml. subst (IsWritten k) (sym (ordinary_lexeme k o)) (as_ordinary k is xml o))
    c

-- characters before other lexemes
abbrev pub lexemes_of : List ℕ → List Lexeme → List Lexeme
lexemes_of [] more = more
lexemes_of (c ∷ cs) more = lexeme_of c ∷ lexemes_of cs more

-- the offset after characters that begin at an offset
abbrev pub end_of : ℕ → List ℕ → ℕ
end_of at [] = at
end_of at (c ∷ cs) = end_of (at + length (lexeme_of c).text) cs

-- characters before a content
abbrev pub said_before : List ℕ → Content → Content
said_before [] tail = tail
said_before (c ∷ cs) tail = said (encode c) (said_before cs tail)

-- characters of XML
pub record AreXml (cs : List ℕ) : Type 0 where
  pub scalar : scalars cs ≡ true
  pub xml : list_all is_xml_char cs ≡ true

pub xml_characters : (t : List ℕ) → IsXmlText t → AreXml (chars t) × (encodes (chars t) ≡ t)
xml_characters t is =
    let p = xml_parts t is in
    let u = IsUtf8-from_is_utf8 t p.0 in
    (record { scalar = scalars-chars t u; xml = p.1 }, encodes-chars t u)

pub first_xml : (c : ℕ) (cs : List ℕ) → AreXml (c ∷ cs) → (scalar c ≡ true) × (is_xml_char c ≡ true) × AreXml cs
first_xml c cs are =
    let s = and_parts (scalar c) (scalars cs) are.scalar in
    let x = and_parts (is_xml_char c) (list_all is_xml_char cs) are.xml in
    (s.0, x.0, record { scalar = s.1; xml = x.1 })

pub run_text : (cs : List ℕ) (more : List Lexeme) → AreXml cs →
    lexemes_text (lexemes_of cs more) ≡ escaped false (encodes cs) ++ lexemes_text more
run_text [] more are = ap (λ xs. xs ++ lexemes_text more) (sym (escaped-nil false))
run_text (c ∷ cs) more are =
    let f = first_xml c cs are in
    let w = written c f.0 f.1 in
    ap (λ xs. xs ++ lexemes_text (lexemes_of cs more)) w.text
    ∙ ap (λ xs. escaped false (encode c) ++ xs) (run_text cs more f.2)
    ∙ sym (append_assoc (escaped false (encode c)) (escaped false (encodes cs)) (lexemes_text more))
    ∙ ap (λ xs. xs ++ lexemes_text more) (sym (escaped-append false (encode c) (encodes cs)))

-- the lexemes stand inside an element, and their text is safe
pub record Stand (most : ℕ) (e : Open) (outer : List Open) (ls : List Lexeme) (rest : List ℕ) : Type 0 where
  pub stand : CanAllStand most (inside e outer) ls rest
  pub safe : IsSafe (lexemes_text ls ++ rest)

pub run_stands : (most : ℕ) (e : Open) (outer : List Open) (cs : List ℕ) (more : List Lexeme) (rest : List ℕ) →
    AreXml cs → Stand most e outer more rest → Stand most e outer (lexemes_of cs more) rest
run_stands most e outer [] more rest are s = s
run_stands most e outer (c ∷ cs) more rest are s =
    let f = first_xml c cs are in
    let w = written c f.0 f.1 in
    let r = run_stands most e outer cs more rest f.2 s in
    let ls = lexemes_of cs more in
    record {
      stand = (
        w.spelled (lexemes_text ls ++ rest) r.safe,
        w.stands most e outer,
        subst (λ k. CanAllStand most k ls rest) (sym (w.stays e outer)) r.stand,
      );
      safe = subst IsSafe (sym (append_assoc (lexeme_of c).text (lexemes_text ls) rest))
          (w.safe (lexemes_text ls ++ rest) r.safe);
    }

pub run_tree : (e : Open) (outer : List Open) (at : ℕ) (cs : List ℕ) (more : List Lexeme) (tail : Content)
    (up : List Content) → AreXml cs → contents (events (inside e outer) (end_of at cs) more) ≡ tail ∷ up →
    contents (events (inside e outer) at (lexemes_of cs more)) ≡ said_before cs tail ∷ up
run_tree e outer at [] more tail up are is = is
run_tree e outer at (c ∷ cs) more tail up are is =
    let f = first_xml c cs are in
    let w = written c f.0 f.1 in
    let l = lexeme_of c in
    let ls = lexemes_of cs more in
    let next = at + length l.text in
    ap (λ es. contents (es ++ events (stage_after (inside e outer) l.token) next ls)) (w.says e outer at)
    ∙ ap (λ k. with_said (encode c) (contents (events k next ls))) (w.stays e outer)
    ∙ ap (with_said (encode c)) (run_tree e outer next cs more tail up f.2 is)
