-- Tokens as they are read: characters, white space and references.
use Rattle.std.proofs.Common.{◌≡◌, ◌≢◌, ℕ, ◌<◌, Bool, true, false, not, ◌&&◌, ◌||◌, ◌==◌, List, [], ◌∷◌, ◌++◌, All}
use Rattle.std.proofs.Common.{IsTrue}
use Rattle.std.proofs.Common.{refl, sym, ap, subst, ◌∙◌, inl, inr, ⊎_elim, codes, arith, drop, eqb-true}
use Rattle.std.specs.Prelude.{Result, Ok, Err}
use Rattle.std.specs.List.{list_all}
use Rattle.std.proofs.lemmas.Bool.{and_parts, and_from, both_ways, not-true, cases_Bool, false_from_ne_true, or_cases}
use Rattle.std.proofs.lemmas.Bool.{or_from, not-false, cond-true, cond-false}
use Rattle.std.proofs.lemmas.List.{append-nil}
use Rattle.std.proofs.lemmas.List.Elements.{All-cons}
use Rattle.std.proofs.lemmas.List.Folds.{list_all-append}
use Rattle.atom_values.specs.XmlText.{IsXmlText}
use Rattle.atom_values.specs.Space.{is_space}
use Rattle.xml_tokens.specs.declared.cursor.Lapse.{Lapse}
use Rattle.xml_tokens.specs.declared.cursor.Lapse.TheVariants.{Broken, Cut, NoMemory}
use Rattle.xml_tokens.specs.declared.token.Context.{Context}
use Rattle.xml_tokens.specs.declared.token.Token.{Token as RawToken}
use Rattle.xml_tokens.specs.declared.token.Token.TheVariants.{Declaration, Silent, Characters as Run, Reference}
use Rattle.xml_tokens.specs.declared.token.Token.TheVariants.{Section, Tag as TagToken, EndTag}
use Rattle.xml_tokens.specs.declared.declaration.Encoding.TheVariants.{Utf8, Foreign}
use Rattle.xml_tokens.specs.Characters.{AreSpaces, begins, lines, lines_after}
use Rattle.xml_tokens.specs.Tokens.{Token, IsSpelled}
use Rattle.xml_tokens.specs.Tokens.Token.{declaration, character, referred, section, comment, instruction, opening}
use Rattle.xml_tokens.specs.Tokens.Token.{closing}
use Rattle.xml_tokens.specs.Stages.{Lexeme}
use Rattle.xml_tokens.specs.Reading.{IsFound, Starts, Reads, first_is_no, a_gap, is_plain, IsPlainRun}
use Rattle.xml_tokens.specs.Reading.{IsInContent, MayStand, IsOpening, BeginsAt, AreRead, AreCharacters}
use Rattle.xml_tokens.specs.Reading.{IsSilentAt, ReadsToken, ReadsSaid, ReadsBlank}
use Rattle.xml_tokens.proofs.BeginLemmas.{begins_split, begins_from}
use Rattle.xml_tokens.proofs.ReferencePartLemmas.{a_reference}
use Rattle.xml_tokens.proofs.CharacterLemmas.{lex_run, lex_bracket, spaces_xml}
use Rattle.xml_tokens.proofs.TokenFirstLemmas.{token_begins, heads_of}
use Rattle.xml_tokens.proofs.XmlLemmas.{printable_xml, printable_reference, xml_nil, xml_before, xml_rest}

-- one token is read
pub one_read : (place : Context) (before front after : List ℕ) (token : Token) → before ≡ front ++ after →
    IsSpelled token front after → MayStand place token →
    AreRead place before (record { token = token; text = front } ∷ []) after
one_read place before front after token split is stands =
    let l : Lexeme = record { token = token; text = front } in
    record {
      split = split ∙ ap (λ xs. xs ++ after) (sym (append-nil front));
      spelled = (is, tt);
      stand = All-cons (λ (x : Lexeme). MayStand place x.token) l [] stands
          (λ k d (below : k < 0). absurd (omega arith));
      some = λ e. let g : l ∷ [] ≡ [] = e in cc;
    }

all_stand : (place : Context) (read : List ℕ) (ls : List Lexeme) → AreCharacters read ls → IsInContent place →
    All (λ (l : Lexeme). MayStand place l.token) ls
all_stand place read [] are is = λ k d (below : k < 0). absurd (omega arith)
all_stand place read (l ∷ ls) are is =
    let M : Token → Type 0 = MayStand place in
    All-cons (λ (x : Lexeme). MayStand place x.token) l ls (subst M (sym are.2) (inl is))
    (all_stand place are.1 ls are.4 is)

-- the first byte of a continuation's token
pub first_byte : (b : ℕ) (tail text more s x u : List ℕ) (d : ℕ) → text ≡ b ∷ tail → text ++ more ≡ s ++ x → s ≡ d ∷ u →
    d ≡ b
first_byte b tail text more s x u d is e starts =
    heads_of d b (u ++ x) (tail ++ more) (ap (λ xs. xs ++ x) (sym starts) ∙ sym e ∙ ap (λ xs. xs ++ more) is)

-- no token that begins with `<`
not_open : {X : Type 0} (b : ℕ) (tail text more s x u : List ℕ) → text ≡ b ∷ tail → b ≢ 60 → text ++ more ≡ s ++ x →
    s ≡ 60 ∷ u → X
not_open b tail text more s x u is other e starts =
    absurd (other (sym (first_byte b tail text more s x u 60 is e starts)))

-- a token that doesn't begin with `<` is a character or a reference
pub said_cases : {X : Type 0} (P : Token → Type 0) (b : ℕ) (tail text more s x : List ℕ) → text ≡ b ∷ tail → b ≢ 60 →
    text ++ more ≡ s ++ x → (a : Token) → IsSpelled a s x → P a → ((read : List ℕ) → P (character read) → X) →
    ((c : ℕ) → P (referred c) → X) → X
said_cases P b tail text more s x is other e (declaration encoding) spelled p of_character of_reference =
    let f = token_begins (declaration encoding) s x spelled in
    not_open b tail text more s x (codes "?xml" ++ f.0) is other e f.1
said_cases P b tail text more s x is other e (character read) spelled p of_character of_reference = of_character read p
said_cases P b tail text more s x is other e (referred c) spelled p of_character of_reference = of_reference c p
said_cases P b tail text more s x is other e (section read) spelled p of_character of_reference =
    let f = token_begins (section read) s x spelled in
    not_open b tail text more s x (codes "![" ++ f.0) is other e f.1
said_cases P b tail text more s x is other e comment spelled p of_character of_reference =
    let f = token_begins comment s x spelled in
    not_open b tail text more s x (codes "!-" ++ f.0) is other e f.1
said_cases P b tail text more s x is other e instruction spelled p of_character of_reference =
    let f = token_begins instruction s x spelled in
    not_open b tail text more s x (codes "?" ++ f.0) is other e f.1
said_cases P b tail text more s x is other e (opening tag) spelled p of_character of_reference =
    let f = token_begins (opening tag) s x spelled in
    not_open b tail text more s x (f.0 ∷ f.1) is other e f.2
said_cases P b tail text more s x is other e (closing name) spelled p of_character of_reference =
    let f = token_begins (closing name) s x spelled in
    not_open b tail text more s x (codes "/" ++ f.0) is other e f.1

-- a text that begins with `&` begins with no other token than a reference
reference_only : (place : Context) (tail text more : List ℕ) → text ≡ 38 ∷ tail → BeginsAt place (text ++ more) →
    Starts a_reference (text ++ more)
reference_only place tail text more is b =
    said_cases (λ t. IsSpelled t b.front b.rest) 38 tail text more b.front b.rest is (λ (k : 38 ≡ 60). omega arith)
    b.split b.token
    b.spelled b.spelled
    (λ read spelled.
    let f = token_begins (character read) b.front b.rest spelled in
    absurd (f.4 (first_byte 38 tail text more b.front b.rest f.1 f.0 is b.split f.2)))
    (λ c spelled. (c, b.rest, record { front = b.front; split = b.split; spelled = spelled.1 }))

-- a reference can go on in XML text
reference_goes : (place : Context) → IsInContent place → (before end : List ℕ) → IsXmlText before →
    Reads a_reference before (Err Cut) end →
    (more : List ℕ) × (b : BeginsAt place (before ++ more)) × (IsOpening b.token → ⊥)
reference_goes place inside before end xml cut =
    let f = cut.1.1.2 in
    let c = cut.1.1.0 in
    let rest = cut.1.1.1 in (
      cut.1.0,
      record {
        token = referred c;
        front = f.front;
        rest = rest;
        split = f.split;
        spelled = (printable_xml f.front (printable_reference c f.front f.spelled), f.spelled);
        stands = inside;
      },
      (λ no. no),
    )

-- no text goes on with a line feed after a run
pub no_feed : (test : ℕ → Bool) (after : List ℕ) → test 10 ≡ true → IsTrue (first_is_no test after) →
    begins (10 ∷ []) after ≡ false
no_feed test [] is first = refl
no_feed test (b ∷ after) is first =
    false_from_ne_true (begins (10 ∷ []) (b ∷ after)) (λ begun.
    let T : ℕ → Type 0 = λ k. test k ≡ true in
    let same = heads_of b 10 after (drop 1 (b ∷ after)) (begins_split (10 ∷ []) (b ∷ after) begun) in
    both_ways (test b) (not-true (test b) first) (subst T (sym same) is))

plain_end : (b : ℕ) → is_plain b ≡ false → b < 128
plain_end b e =
    ⊎_elim
    (λ two. ⊎_elim
    (λ t. let k = eqb-true b 60 t in omega arith)
    (λ a. let k = eqb-true b 38 a in omega arith)
    (or_cases (b == 60) (b == 38) two))
    (λ c. let k = eqb-true b 93 c in omega arith)
    (or_cases ((b == 60) || (b == 38)) (b == 93) (not-false ((b == 60) || (b == 38) || (b == 93)) e))

cut_broken : Cut ≡ Broken → ⊥
cut_broken e = cc

-- a run of plain characters and the text after it are each XML text
run_xml : (run after : List ℕ) → IsTrue (first_is_no is_plain after) → IsXmlText (run ++ after) →
    IsXmlText run × IsXmlText after
run_xml run [] first is =
    let X : List ℕ → Type 0 = IsXmlText in
    (subst X (append-nil run) is, xml_nil)
run_xml run (b ∷ after) first is =
    let front = xml_before b run after (plain_end b (not-true (is_plain b) first)) is in
    (front, xml_rest run (b ∷ after) front is)

pub not_begun : (b : ℕ) (text : List ℕ) (tail : List ℕ) (k : ℕ) → text ≡ b ∷ tail → begins (k ∷ []) text ≡ false → b ≢ k
not_begun b text tail k is none same =
    both_ways (begins (k ∷ []) text) none (begins_from (k ∷ []) text tail (is ∙ ap (λ x. x ∷ tail) same))

plain_from : (b : ℕ) → b ≢ 60 → b ≢ 38 → b ≢ 93 → is_plain b ≡ true
plain_from b no_tag no_and no_bracket =
    let none : (k : ℕ) → b ≢ k → (b == k) ≡ false =
    λ k other. false_from_ne_true (b == k) (λ e. other (eqb-true b k e)) in
    ap not (or_from ((b == 60) || (b == 38)) (b == 93) (or_from (b == 60) (b == 38) (none 60 no_tag) (none 38 no_and))
    (none 93 no_bracket))

run_some : (before run after : List ℕ) → before ≢ [] → begins (codes "<") before ≡ false →
    begins (codes "&") before ≡ false → begins (codes "]") before ≡ false → IsPlainRun before run after → run ≢ []
run_some [] run after some no_tag no_and no_bracket r none = some refl
run_some (b ∷ before) run after some no_tag no_and no_bracket r none =
    let N : List ℕ → Type 0 = λ xs. IsTrue (first_is_no is_plain xs) in
    let same : b ∷ before ≡ after = r.split ∙ ap (λ xs. xs ++ after) none in
    both_ways (is_plain b) (not-true (is_plain b) (subst N (sym same) r.longest))
    (plain_from b (not_begun b (b ∷ before) before 60 refl no_tag) (not_begun b (b ∷ before) before 38 refl no_and)
    (not_begun b (b ∷ before) before 93 refl no_bracket))

-- characters of content
run_reads : (place : Context) → IsInContent place → (before run after : List ℕ) → IsXmlText before → before ≢ [] →
    begins (codes "<") before ≡ false → begins (codes "&") before ≡ false → begins (codes "]") before ≡ false →
    IsPlainRun before run after → (ls : List Lexeme) × AreRead place before ls after × AreCharacters (lines run) ls
    × IsXmlText after
run_reads place inside before run after xml some no_tag no_and no_bracket r =
    let X : List ℕ → Type 0 = IsXmlText in
    let x = run_xml run after r.longest (subst X r.split xml) in
    let l = lex_run run after x.0 r.free (no_feed is_plain after refl r.longest) in (
      l.lexemes,
      record {
        split = r.split ∙ ap (λ xs. xs ++ after) (sym l.text);
        spelled = l.spelled;
        stand = all_stand place (lines run) l.lexemes l.read inside;
        some = l.some (run_some before run after some no_tag no_and no_bracket r);
      },
      l.read,
      x.1,
    )

-- a `]` alone
bracket_reads : (place : Context) → IsInContent place → (before after : List ℕ) → IsXmlText before →
    before ≡ 93 ∷ after →
    begins (codes "]]>") before ≡ false →
    (ls : List Lexeme) × AreRead place before ls after × AreCharacters (lines (93 ∷ [])) ls × IsXmlText after
bracket_reads place inside before after xml is no_end =
    let X : List ℕ → Type 0 = IsXmlText in
    let B : List ℕ → Type 0 = λ xs. begins (codes "]]>") xs ≡ false in
    let l = lex_bracket after (subst B is no_end) in (
      l.lexemes,
      record {
        split = is ∙ ap (λ xs. xs ++ after) (sym l.text);
        spelled = l.spelled;
        stand = all_stand place (lines (93 ∷ [])) l.lexemes l.read inside;
        some = l.some (λ (e : 93 ∷ [] ≡ []). cc);
      },
      l.read,
      xml_rest (93 ∷ []) after (printable_xml (93 ∷ []) refl) (subst X is xml),
    )

-- `]]>` begins no token of content
no_section_end : (place : Context) (before more : List ℕ) → IsTrue (begins (codes "]]>") before) →
    BeginsAt place (before ++ more) → ⊥
no_section_end place before more begun b =
    let tail = drop 3 before in
    let is : before ≡ 93 ∷ (codes "]>" ++ tail) = begins_split (codes "]]>") before begun in
    said_cases (λ t. IsSpelled t b.front b.rest) 93 (codes "]>" ++ tail) before more b.front b.rest is
    (λ (k : 93 ≡ 60). omega arith) b.split b.token b.spelled b.spelled
    (λ read spelled. ⊎_elim
    (λ plain. both_ways (begins (codes "]]>") (b.front ++ b.rest)) plain.1.no_section_end
    (begins_from (codes "]]>") (b.front ++ b.rest) (tail ++ more) (sym b.split ∙ ap (λ xs. xs ++ more) is)))
    (λ line. ⊎_elim
    (λ two. let k = first_byte 93 (codes "]>" ++ tail) before more b.front b.rest (10 ∷ []) 13 is b.split
    two in omega arith)
    (λ one. let k = first_byte 93 (codes "]>" ++ tail) before more b.front b.rest [] 13 is b.split one.0 in omega arith)
    line.1)
    spelled.1)
    (λ c spelled.
    let f = token_begins (referred c) b.front b.rest spelled in
    let k = first_byte 93 (codes "]>" ++ tail) before more b.front b.rest f.0 38 is b.split f.1 in omega arith)

-- a read of characters or of a reference is a read of a token
pub said_reads : (place : Context) → IsInContent place → (before : List ℕ) → IsXmlText before → before ≢ [] →
    begins (codes "<") before ≡ false → (r : Result RawToken Lapse) (after : List ℕ) → ReadsSaid before r after →
    ReadsToken place before r after
said_reads place inside before xml some no_tag (Ok (Declaration Utf8)) after r = absurd r
said_reads place inside before xml some no_tag (Ok (Declaration Foreign)) after r = absurd r
said_reads place inside before xml some no_tag (Ok Silent) after r = absurd r
said_reads place inside before xml some no_tag (Ok (Section x)) after r = absurd r
said_reads place inside before xml some no_tag (Ok (TagToken x)) after r = absurd r
said_reads place inside before xml some no_tag (Ok EndTag) after r = absurd r
said_reads place inside before xml some no_tag (Ok (Reference c)) after r =
    let X : List ℕ → Type 0 = IsXmlText in
    let front = printable_xml r.front (printable_reference c r.front r.spelled) in (
      (
        record { token = referred c; text = r.front } ∷ [],
        one_read place before r.front after (referred c) r.split (front, r.spelled) inside,
        (r.front, refl),
      ),
      xml_rest r.front after front (subst X r.split xml),
    )
said_reads place inside before xml some no_tag (Ok (Run run)) after r =
    ⊎_elim
    (λ p.
    let k = run_reads place inside before run.now after xml some no_tag p.1 p.2 p.0 in
    ((k.0, k.1, (inside, k.2)), k.3))
    (λ b.
    let k = bracket_reads place inside before after xml b.1 b.2 in
    let A : List ℕ → Type 0 = λ xs. AreCharacters (lines xs) k.0 in
    ((k.0, k.1, (inside, subst A (sym b.0) k.2)), k.3))
    r
said_reads place inside before xml some no_tag (Err Broken) after r = λ more b.
    ⊎_elim
    (λ ref.
    let is = begins_split (codes "&") before ref.0 in
    ref.1 (more, reference_only place (drop 1 before) before more is b))
    (λ end. no_section_end place before more end.0 b)
    r
said_reads place inside before xml some no_tag (Err Cut) after r =
    ⊎_elim
    (λ ref.
    let is = begins_split (codes "&") before ref.0 in
    let B : List ℕ → Type 0 = BeginsAt place in
    let S : List ℕ → Type 0 = Starts a_reference in (
      (λ b. ref.1.0 (subst S (append-nil before)
          (reference_only place (drop 1 before) before [] is (subst B (sym (append-nil before)) b)))),
      reference_goes place inside before after xml ref.1,
    ))
    (λ end. absurd (cut_broken end.1))
    r
said_reads place inside before xml some no_tag (Err NoMemory) after r = tt

spaces_lines : (after : Bool) (s : List ℕ) → AreSpaces s → AreSpaces (lines_after after s)
spaces_lines after [] are = refl
spaces_lines after (b ∷ s) are =
    let p = and_parts (is_space b) (list_all is_space s) are in
    let A : List ℕ → Type 0 = AreSpaces in
    ⊎_elim
    (λ cr. subst A (sym (cond-true (b == 13) _ _ cr)) (spaces_lines true s p.1))
    (λ other. subst A (sym (cond-false (b == 13) _ _ other))
    (⊎_elim
    (λ lf. subst A (sym (cond-true (after && (b == 10)) _ _ lf)) (spaces_lines false s p.1))
    (λ plain. subst A (sym (cond-false (after && (b == 10)) _ _ plain))
    (and_from (is_space b) (list_all is_space (lines_after false s)) p.0 (spaces_lines false s p.1)))
    (cases_Bool (after && (b == 10)))))
    (cases_Bool (b == 13))

-- white space outside the root
blank_all : (place : Context) → (IsInContent place → ⊥) → (read : List ℕ) (ls : List Lexeme) → AreCharacters read ls →
    AreSpaces read →
    All (λ (l : Lexeme). MayStand place l.token) ls × All (λ (l : Lexeme). IsSilentAt place l.token) ls
blank_all place outside read [] are spaces =
    ((λ k d (below : k < 0). absurd (omega arith)), (λ k d (below : k < 0). absurd (omega arith)))
blank_all place outside read (l ∷ ls) are spaces =
    let A : List ℕ → Type 0 = AreSpaces in
    let p = and_parts (list_all is_space are.0) (list_all is_space are.1)
    (sym (list_all-append is_space are.0 are.1) ∙ subst A are.3 spaces) in
    let more = blank_all place outside are.1 ls are.4 p.1 in
    let M : Token → Type 0 = MayStand place in
    let S : Token → Type 0 = IsSilentAt place in (
      All-cons (λ (x : Lexeme). MayStand place x.token) l ls (subst M (sym are.2) (inr p.0)) more.0,
      All-cons (λ (x : Lexeme). IsSilentAt place x.token) l ls (subst S (sym are.2) outside) more.1,
    )

blank_found : (place : Context) → (IsInContent place → ⊥) → (before after : List ℕ) → IsXmlText before →
    IsFound a_gap before tt after → ReadsToken place before (Ok Silent) after
blank_found place outside before after xml f =
    let X : List ℕ → Type 0 = IsXmlText in
    let gap = f.spelled.0 in
    let x = spaces_xml f.front gap.0 in
    let l = lex_run f.front after x.0 x.1 (no_feed is_space after refl f.spelled.1) in
    let all = blank_all place outside (lines f.front) l.lexemes l.read (spaces_lines false f.front gap.0) in (
      (
        l.lexemes,
        record {
          split = f.split ∙ ap (λ xs. xs ++ after) (sym l.text);
          spelled = l.spelled;
          stand = all.0;
          some = l.some gap.1;
        },
        all.1,
      ),
      xml_rest f.front after x.0 (subst X f.split xml),
    )

-- no white space, and nothing else that stands outside the root
no_blank : (place : Context) → (IsInContent place → ⊥) → (b : ℕ) (tail before : List ℕ) → before ≡ b ∷ tail → b ≢ 60 →
    is_space b ≡ false → (more : List ℕ) → BeginsAt place (before ++ more) → ⊥
no_blank place outside b tail before is other none more a =
    let P : Token → Type 0 = λ t. IsSpelled t a.front a.rest × MayStand place t in
    said_cases P b tail before more a.front a.rest is other a.split a.token a.spelled (a.spelled, a.stands)
    (λ read p.
    let f = token_begins (character read) a.front a.rest p.0 in
    let same = first_byte b tail before more a.front a.rest f.1 f.0 is a.split f.2 in
    let S : ℕ → Type 0 = λ k. is_space k ≡ true in
    ⊎_elim
    (λ inside. outside inside)
    (λ spaces. ⊎_elim
    (λ plain.
    let A : List ℕ → Type 0 = AreSpaces in
    let first = and_parts (is_space f.0) (list_all is_space f.1) (subst A (plain.0 ∙ f.2) spaces) in
    both_ways (is_space b) none (subst S same first.0))
    (λ line. ⊎_elim
    (λ two. both_ways (is_space b) none
    (subst S (first_byte b tail before more a.front a.rest (10 ∷ []) 13 is a.split two) refl))
    (λ one. both_ways (is_space b) none
    (subst S (first_byte b tail before more a.front a.rest [] 13 is a.split one.0) refl))
    line.1)
    p.0.1)
    p.1)
    (λ c p. outside p.1)

pub blank_reads : (place : Context) → (IsInContent place → ⊥) → (before : List ℕ) → IsXmlText before → before ≢ [] →
    begins (codes "<") before ≡ false → (r : Result RawToken Lapse) (after : List ℕ) → ReadsBlank before r after →
    ReadsToken place before r after
blank_reads place outside before xml some no_tag (Ok (Declaration x)) after r = absurd r
blank_reads place outside before xml some no_tag (Ok (Section x)) after r = absurd r
blank_reads place outside before xml some no_tag (Ok (TagToken x)) after r = absurd r
blank_reads place outside before xml some no_tag (Ok EndTag) after r = absurd r
blank_reads place outside before xml some no_tag (Ok (Reference c)) after r = absurd r
blank_reads place outside before xml some no_tag (Ok (Run run)) after r = absurd r
blank_reads place outside before xml some no_tag (Ok Silent) after r = blank_found place outside before after xml r
blank_reads place outside [] xml some no_tag (Err Broken) after r = λ more b. some refl
blank_reads place outside (b ∷ before) xml some no_tag (Err Broken) after r =
    no_blank place outside b before (b ∷ before) refl (not_begun b (b ∷ before) before 60 refl no_tag)
    (not-true (is_space b) r)
blank_reads place outside before xml some no_tag (Err Cut) after r = absurd r
blank_reads place outside before xml some no_tag (Err NoMemory) after r = absurd r
