-- Characters of content, one after another.
use Rattle.std.proofs.Common.{◌≡◌, ◌≢◌, ◌⊎◌, ℕ, ◌+◌, ◌<◌, ◌≤◌, ◌/◌, ◌%◌, Bool, true, false, ◌||◌, ◌==◌, List, [], ◌∷◌}
use Rattle.std.proofs.Common.{◌++◌}
use Rattle.std.proofs.Common.{length, refl, sym, ap, subst, ◌∙◌, inl, inr, ⊎_elim, codes, arith, append_assoc, ltb, leb}
use Rattle.std.proofs.Common.{ltb-true, ltb-false, eqb-true, leb-true, eq-eqb, drop}
use Rattle.std.specs.Prelude.{chars}
use Rattle.std.specs.List.{list_all}
use Rattle.std.proofs.Math.Utf8.{encode, encodes, scalar, scalars}
use Rattle.std.proofs.lemmas.Bool.{and_parts, and_from, both_ways, cases_Bool, cond-true, cond-false, le-leb}
use Rattle.std.proofs.lemmas.Bool.{not_from_false, false_from_ne_true, or_cases}
use Rattle.std.proofs.lemmas.List.{append-nil}
use Rattle.std.proofs.lemmas.List.Folds.{list_all-append}
use Rattle.std.proofs.lemmas.Str.{encode_ascii, encode_same, encodes-chars, scalars-chars, chars-encodes, IsUtf8-encode}
use Rattle.std.proofs.lemmas.Str.{IsUtf8-from_is_utf8}
use Rattle.std.proofs.lemmas.Str.{is_utf8-from_IsUtf8, length-encode, len_utf8_bounds}
use Rattle.atom_values.specs.XmlText.{IsXmlText, is_xml_char}
use Rattle.atom_values.specs.Space.{is_space}
use Rattle.xml_tokens.specs.Characters.{begins, lines, IsCharacter, AreSpaces}
use Rattle.xml_tokens.specs.Tokens.{IsLineEnd}
use Rattle.xml_tokens.specs.Tokens.Token.{character}
use Rattle.xml_tokens.specs.Stages.{Lexeme, lexemes_text}
use Rattle.xml_tokens.specs.Reading.{is_plain, AreSpelled, AreCharacters}
use Rattle.xml_tokens.proofs.BeginLemmas.{begins_split}
use Rattle.xml_tokens.proofs.LineLemmas.{not_cr, lines_clean, after_cr}
use Rattle.xml_tokens.proofs.XmlLemmas.{xml_from, xml_parts, xml_append, xml_nil, printable_xml}

high : ℕ → Bool
high b = leb 128 b

high_from : (b : ℕ) → 128 ≤ b → high b ≡ true
unfolding high
high_from b low = le-leb 128 b low

high_not_cr : (b : ℕ) → high b ≡ true → not_cr b ≡ true
unfolding high
high_not_cr b e =
    not_from_false (b == 13) (false_from_ne_true (b == 13) (λ same.
    let low = leb-true 128 b e in
    let is = eqb-true b 13 same in
    omega arith))

high_clean : (bs : List ℕ) → list_all high bs ≡ true → list_all not_cr bs ≡ true
high_clean [] all = refl
high_clean (b ∷ bs) all =
    let p = and_parts (high b) (list_all high bs) all in
    and_from (not_cr b) (list_all not_cr bs) (high_not_cr b p.0) (high_clean bs p.1)

-- each byte of a character from U+80 on is one from 128 on
high_bytes : (c : ℕ) → 128 ≤ c → list_all high (encode c) ≡ true
unfolding encode
high_bytes c low =
    let L : List ℕ → Type 0 = λ xs. list_all high xs ≡ true in
    let two = (192 + c / 64) ∷ (128 + c % 64) ∷ [] in
    let three = (224 + c / 4096) ∷ (128 + (c / 64) % 64) ∷ (128 + c % 64) ∷ [] in
    let four = (240 + c / 262144) ∷ (128 + (c / 4096) % 64) ∷ (128 + (c / 64) % 64) ∷ (128 + c % 64) ∷ [] in
    let h : (k n : ℕ) → 128 ≤ k → high (k + n) ≡ true = λ k n k_low. high_from (k + n) (omega arith) in
    let all : (x y : ℕ) (xs : List ℕ) → 128 ≤ x → list_all high xs ≡ true → list_all high ((x + y) ∷ xs) ≡ true =
    λ x y xs x_low e. and_from (high (x + y)) (list_all high xs) (h x y x_low) e in
    let last = all 128 (c % 64) [] (omega arith) refl in
    let last_two = all 128 ((c / 64) % 64) ((128 + c % 64) ∷ []) (omega arith) last in
    let last_three = all 128 ((c / 4096) % 64) ((128 + (c / 64) % 64) ∷ (128 + c % 64) ∷ []) (omega arith) last_two in
    ⊎_elim
    (λ (under : ltb c 128 ≡ true). absurd (let u = ltb-true c 128 under in omega arith))
    (λ one. subst L (sym (cond-false (ltb c 128) _ _ one))
    (⊎_elim
    (λ is_two. subst L (sym (cond-true (ltb c 2048) _ _ is_two))
    (all 192 (c / 64) ((128 + c % 64) ∷ []) (omega arith) last))
    (λ more. subst L (sym (cond-false (ltb c 2048) _ _ more))
    (⊎_elim
    (λ is_three. subst L (sym (cond-true (ltb c 65536) _ _ is_three))
    (all 224 (c / 4096) ((128 + (c / 64) % 64) ∷ (128 + c % 64) ∷ []) (omega arith) last_two))
    (λ is_four. subst L (sym (cond-false (ltb c 65536) _ _ is_four))
    (all 240 (c / 262144) ((128 + (c / 4096) % 64) ∷ (128 + (c / 64) % 64) ∷ (128 + c % 64) ∷ [])
    (omega arith) last_three))
    (cases_Bool (ltb c 65536))))
    (cases_Bool (ltb c 2048))))
    (cases_Bool (ltb c 128))

-- a character in UTF-8
pub one_character : (c : ℕ) → scalar c ≡ true → is_xml_char c ≡ true → IsCharacter (encode c)
one_character c is xml =
    let whole : chars (encode c) ≡ c ∷ [] =
    ap chars (sym (append-nil (encode c))) ∙ chars-encodes (c ∷ []) (and_from (scalar c) true is refl) in (
      xml_from (encode c) (is_utf8-from_IsUtf8 (encode c) (IsUtf8-encode c is))
          (ap (list_all is_xml_char) whole ∙ and_from (is_xml_char c) true xml refl),
      ap length whole,
    )

clean_character : (c : ℕ) → c ≢ 13 → list_all not_cr (encode c) ≡ true
clean_character c other =
    let N : List ℕ → Type 0 = λ xs. list_all not_cr xs ≡ true in
    ⊎_elim
    (λ (low : ltb c 128 ≡ true). subst N (sym (encode_ascii c (ltb-true c 128 low)))
    (and_from (not_cr c) true
    (not_from_false (c == 13) (false_from_ne_true (c == 13) (λ e. other (eqb-true c 13 e)))) refl))
    (λ above. high_clean (encode c) (high_bytes c (ltb-false c 128 above)))
    (cases_Bool (ltb c 128))

-- characters with what they are read as
pub record Lexed (run rest : List ℕ) : Type 0 where
  pub lexemes : List Lexeme
  pub text : lexemes_text lexemes ≡ run
  pub spelled : AreSpelled lexemes rest
  pub read : AreCharacters (lines run) lexemes
  pub some : run ≢ [] → lexemes ≢ []

no_lexemes : (rest : List ℕ) → Lexed [] rest
no_lexemes rest = record { lexemes = []; text = refl; spelled = tt; read = refl; some = λ some. absurd (some refl) }

-- one more character
pub lex_plain : (c : ℕ) (run rest : List ℕ) → scalar c ≡ true → is_xml_char c ≡ true → c ≢ 13 → encode c ≢ 60 ∷ [] →
    encode c ≢ 38 ∷ [] → begins (codes "]]>") (encode c ++ (run ++ rest)) ≡ false → Lexed run rest →
    Lexed (encode c ++ run) rest
unfolding encode
lex_plain c run rest is xml no_cr no_tag no_and no_end l =
    let here = one_character c is xml in
    let B : List ℕ → Type 0 = λ xs. begins (codes "]]>") (encode c ++ (xs ++ rest)) ≡ false in
    let l0 : Lexeme = record { token = character (encode c); text = encode c } in
    record {
      lexemes = l0 ∷ l.lexemes;
      text = ap (λ xs. encode c ++ xs) l.text;
      spelled = (
        (
          here.0,
          inl (
            refl,
            record {
              is_character = here;
              no_tag = no_tag;
              no_reference = no_and;
              no_line_end = λ e. no_cr (encode_same c 13 [] [] (append-nil (encode c) ∙ e)).0;
              no_section_end = subst B (sym l.text) no_end;
            },
          ),
        ),
        l.spelled,
      );
      read = (encode c, lines run, refl, lines_clean (encode c) run (clean_character c no_cr), l.read);
      some = λ some e. let g : l0 ∷ l.lexemes ≡ [] = e in cc;
    }

-- one more line end
lex_line : (end run rest : List ℕ) → IsXmlText end → IsLineEnd end (run ++ rest) → lines (end ++ run) ≡ 10 ∷ lines run →
    Lexed run rest → Lexed (end ++ run) rest
lex_line end run rest xml is read l =
    let L : List ℕ → Type 0 = λ xs. IsLineEnd end (xs ++ rest) in
    let l0 : Lexeme = record { token = character (10 ∷ []); text = end } in
    record {
      lexemes = l0 ∷ l.lexemes;
      text = ap (λ xs. end ++ xs) l.text;
      spelled = ((xml, inr (refl, subst L (sym l.text) is)), l.spelled);
      read = (10 ∷ [], lines run, refl, read, l.read);
      some = λ some e. let g : l0 ∷ l.lexemes ≡ [] = e in cc;
    }

heads_of : (a b : ℕ) (s t : List ℕ) → a ∷ s ≡ b ∷ t → a ≡ b
heads_of a b s t e = cc

high_head : {c : ℕ} (bs : List ℕ) → list_all high bs ≡ true → 0 < length bs →
    (b : ℕ) × (u : List ℕ) × (bs ≡ b ∷ u) × ((b ≡ c) ⊎ (128 ≤ b))
unfolding high
high_head [] all some = absurd (omega arith)
high_head (b ∷ u) all some = (b, u, refl, inr (leb-true 128 b (and_parts (leb 128 b) (list_all high u) all).0))

length_some : (c : ℕ) → 0 < length (encode c)
length_some c = let long = length-encode c in let some = (len_utf8_bounds c).0 in omega arith

cr_bytes : (c : ℕ) → c ≡ 13 → encode c ≡ 13 ∷ []
cr_bytes c is = encode_ascii c (omega arith) ∙ ap (λ k. k ∷ []) is

lf_bytes : (c : ℕ) → c ≡ 10 → encode c ≡ 10 ∷ []
lf_bytes c is = encode_ascii c (omega arith) ∙ ap (λ k. k ∷ []) is

cr_xml : IsXmlText (13 ∷ [])
unfolding encode
cr_xml = (one_character 13 refl refl).0

tab_xml : IsXmlText (9 ∷ [])
unfolding encode
tab_xml = (one_character 9 refl refl).0

lf_xml : IsXmlText (10 ∷ [])
unfolding encode
lf_xml = (one_character 10 refl refl).0

crlf_xml : IsXmlText (13 ∷ 10 ∷ [])
unfolding encode
crlf_xml = xml_append (13 ∷ []) (10 ∷ []) (one_character 13 refl refl).0 (one_character 10 refl refl).0

bracket_is : (k : ℕ) → k < 93 → encode 93 ≡ k ∷ [] → ⊥
unfolding encode
bracket_is k low e = let same = heads_of 93 k [] [] e in omega arith

-- the first byte of a character
pub char_head : (c : ℕ) → (b : ℕ) × (u : List ℕ) × (encode c ≡ b ∷ u) × ((b ≡ c) ⊎ (128 ≤ b))
char_head c =
    ⊎_elim
    (λ (low : ltb c 128 ≡ true). (c, [], encode_ascii c (ltb-true c 128 low), inl refl))
    (λ above. high_head (encode c) (high_bytes c (ltb-false c 128 above)) (length_some c))
    (cases_Bool (ltb c 128))

no_begin : (k b : ℕ) (u : List ℕ) (bytes : List ℕ) → b ≢ k → begins (k ∷ bytes) (b ∷ u) ≡ false
no_begin k b u bytes other =
    false_from_ne_true (begins (k ∷ bytes) (b ∷ u)) (λ begun.
    other (heads_of b k u (bytes ++ drop (length (k ∷ bytes)) (b ∷ u)) (begins_split (k ∷ bytes) (b ∷ u) begun)))

no_char_begin : (k c : ℕ) (bytes xs : List ℕ) → k < 128 → c ≢ k → begins (k ∷ bytes) (encode c ++ xs) ≡ false
no_char_begin k c bytes xs low other =
    let h = char_head c in
    let B : List ℕ → Type 0 = λ ys. begins (k ∷ bytes) (ys ++ xs) ≡ false in
    subst B (sym h.2) (no_begin k h.0 (h.1 ++ xs) bytes
    (λ e. ⊎_elim (λ same. other (sym same ∙ e)) (λ above. omega arith) h.3))

not_plain : (k b : ℕ) → is_plain k ≡ false → is_plain b ≡ true → b ≢ k
not_plain k b none is e =
    let N : ℕ → Type 0 = λ n. is_plain n ≡ true in
    both_ways (is_plain k) none (subst N e is)

-- a plain character before others
plain_char : (c : ℕ) (run rest : List ℕ) → scalar c ≡ true → is_xml_char c ≡ true → c ≢ 13 →
    list_all is_plain (encode c ++ run) ≡ true → Lexed run rest → Lexed (encode c ++ run) rest
plain_char c run rest is xml no_cr free l =
    let h = char_head c in
    let F : List ℕ → Type 0 = λ xs. list_all is_plain (xs ++ run) ≡ true in
    let first = (and_parts (is_plain h.0) (list_all is_plain (h.1 ++ run)) (subst F h.2 free)).0 in
    let B : List ℕ → Type 0 = λ xs. begins (codes "]]>") (xs ++ (run ++ rest)) ≡ false in
    lex_plain c run rest is xml no_cr
    (λ e. not_plain 60 h.0 refl first (heads_of h.0 60 h.1 [] (sym h.2 ∙ e)))
    (λ e. not_plain 38 h.0 refl first (heads_of h.0 38 h.1 [] (sym h.2 ∙ e)))
    (subst B (sym h.2) (no_begin 93 h.0 (h.1 ++ (run ++ rest)) (codes "]>") (not_plain 93 h.0 refl first))) l

-- characters without `<`, `&` and `]`, before a text that LF doesn't begin
lex : (cs : List ℕ) (rest : List ℕ) → scalars cs ≡ true → list_all is_xml_char cs ≡ true →
    list_all is_plain (encodes cs) ≡ true → begins (10 ∷ []) rest ≡ false → Lexed (encodes cs) rest
lex [] rest are xml free no_lf = no_lexemes rest
lex (c ∷ []) rest are xml free no_lf =
    let a = and_parts (scalar c) true are in
    let x = and_parts (is_xml_char c) true xml in
    ⊎_elim
    (λ cr.
    let L : List ℕ → Type 0 = λ xs. Lexed (xs ++ []) rest in
    subst L (sym (cr_bytes c (eqb-true c 13 cr)))
    (lex_line (13 ∷ []) [] rest cr_xml (inr (refl, no_lf)) refl (no_lexemes rest)))
    (λ other. plain_char c [] rest a.0 x.0 (λ e. both_ways (c == 13) other (eq-eqb c 13 e)) free (no_lexemes rest))
    (cases_Bool (c == 13))
lex (c ∷ d ∷ ds) rest are xml free no_lf =
    let a = and_parts (scalar c) (scalars (d ∷ ds)) are in
    let x = and_parts (is_xml_char c) (list_all is_xml_char (d ∷ ds)) xml in
    let tail = encodes (d ∷ ds) in
    let f = and_parts (list_all is_plain (encode c)) (list_all is_plain tail)
    (sym (list_all-append is_plain (encode c) tail) ∙ free) in
    let more = lex (d ∷ ds) rest a.1 x.1 f.1 no_lf in
    let C : List ℕ → Type 0 = λ xs. Lexed (xs ++ tail) rest in
    ⊎_elim
    (λ cr. subst C (sym (cr_bytes c (eqb-true c 13 cr)))
    (⊎_elim
    (λ lf.
    let D : List ℕ → Type 0 = λ xs. Lexed ((13 ∷ []) ++ (xs ++ encodes ds)) rest in
    let g = and_parts (list_all is_plain (encode d)) (list_all is_plain (encodes ds))
    (sym (list_all-append is_plain (encode d) (encodes ds)) ∙ f.1) in
    let later = lex ds rest (and_parts (scalar d) (scalars ds) a.1).1
    (and_parts (is_xml_char d) (list_all is_xml_char ds) x.1).1 g.1 no_lf in
    subst D (sym (lf_bytes d (eqb-true d 10 lf)))
    (lex_line (13 ∷ 10 ∷ []) (encodes ds) rest crlf_xml (inl refl) refl later))
    (λ no.
    let apart : begins (10 ∷ []) (tail ++ rest) ≡ false =
    ap (begins (10 ∷ [])) (append_assoc (encode d) (encodes ds) rest)
    ∙ no_char_begin 10 d [] (encodes ds ++ rest) (omega arith) (λ e. both_ways (d == 10) no (eq-eqb d 10 e)) in
    lex_line (13 ∷ []) tail rest cr_xml (inr (refl, apart))
    (ap (λ xs. 10 ∷ xs) (after_cr tail (no_char_begin 10 d [] (encodes ds) (omega arith)
    (λ e. both_ways (d == 10) no (eq-eqb d 10 e))))) more)
    (cases_Bool (d == 10))))
    (λ other. plain_char c tail rest a.0 x.0 (λ e. both_ways (c == 13) other (eq-eqb c 13 e)) free more)
    (cases_Bool (c == 13))

-- a run of characters without `<`, `&` and `]`
pub lex_run : (run rest : List ℕ) → IsXmlText run → list_all is_plain run ≡ true → begins (10 ∷ []) rest ≡ false →
    Lexed run rest
lex_run run rest is free no_lf =
    let p = xml_parts run is in
    let u = IsUtf8-from_is_utf8 run p.0 in
    let e = encodes-chars run u in
    let L : List ℕ → Type 0 = λ xs. Lexed xs rest in
    let F : List ℕ → Type 0 = λ xs. list_all is_plain xs ≡ true in
    subst L e (lex (chars run) rest (scalars-chars run u) p.1 (subst F (sym e) free) no_lf)

-- a `]` alone
pub lex_bracket : (rest : List ℕ) → begins (codes "]]>") (93 ∷ rest) ≡ false → Lexed (93 ∷ []) rest
unfolding encode
lex_bracket rest no_end =
    lex_plain 93 [] rest refl refl (λ (e : 93 ≡ 13). omega arith) (λ e. bracket_is 60 (omega arith) e)
    (λ e. bracket_is 38 (omega arith) e) no_end (no_lexemes rest)

-- white space is plain XML text
one_space : (b : ℕ) → is_space b ≡ true → IsXmlText (b ∷ []) × (is_plain b ≡ true)
one_space b e =
    let P : ℕ → Type 0 = λ k. IsXmlText (k ∷ []) × (is_plain k ≡ true) in
    ⊎_elim
    (λ three. ⊎_elim
    (λ two. ⊎_elim
    (λ t. subst P (sym (eqb-true b 9 t)) (tab_xml, refl))
    (λ l. subst P (sym (eqb-true b 10 l)) (lf_xml, refl))
    (or_cases (b == 9) (b == 10) two))
    (λ r. subst P (sym (eqb-true b 13 r)) (cr_xml, refl))
    (or_cases ((b == 9) || (b == 10)) (b == 13) three))
    (λ s. subst P (sym (eqb-true b 32 s)) (printable_xml (32 ∷ []) refl, refl))
    (or_cases ((b == 9) || (b == 10) || (b == 13)) (b == 32) e)

pub spaces_xml : (spaces : List ℕ) → AreSpaces spaces → IsXmlText spaces × (list_all is_plain spaces ≡ true)
spaces_xml [] are = (xml_nil, refl)
spaces_xml (b ∷ spaces) are =
    let p = and_parts (is_space b) (list_all is_space spaces) are in
    let one = one_space b p.0 in
    let more = spaces_xml spaces p.1 in
    (xml_append (b ∷ []) spaces one.0 more.0, and_from (is_plain b) (list_all is_plain spaces) one.1 more.1)
