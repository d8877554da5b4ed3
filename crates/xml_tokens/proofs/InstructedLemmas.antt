-- Instructions and declarations as tokens.
use Rattle.std.proofs.Common.{◌≡◌, ℕ, ◌<◌, true, false, not, List, [], ◌∷◌, ◌++◌, IsTrue, Option}
use Rattle.std.proofs.Common.{refl, sym, ap, subst, ◌∙◌, inl, inr, ⊎_elim, codes, arith, append_assoc, drop}
use Rattle.std.specs.Prelude.{Result, Ok, Err}
use Rattle.std.proofs.lemmas.Bool.{both_ways, and_parts, and_from, not-false, not-true}
use Rattle.std.specs.List.{list_all}
use Rattle.xml_tokens.specs.Characters.{IsGap, begins}
use Rattle.xml_tokens.proofs.BeginLemmas.{begins_from, begins_split}
use Rattle.std.proofs.lemmas.List.{append-nil}
use Rattle.std.proofs.lemmas.List.Elements.{All-cons}
use Rattle.atom_values.specs.XmlText.{IsXmlText}
use Rattle.atom_values.specs.Space.{is_space}
use Rattle.xml_tokens.specs.declared.declaration.Encoding.{Encoding}
use Rattle.xml_tokens.specs.declared.declaration.Encoding.TheVariants.{Utf8, Foreign}
use Rattle.xml_tokens.specs.declared.token.Context.{Context}
use Rattle.xml_tokens.specs.declared.token.Context.TheVariants.{Start}
use Rattle.xml_tokens.specs.declared.token.Token.TheVariants.{Declaration, Silent}
use Rattle.xml_tokens.specs.Tokens.{Token, IsDeclaration, IsInstruction, IsSpelled, is_utf8_name}
use Rattle.std.specs.Str.{str_eq_ignore_ascii_case}
use Rattle.xml_tokens.specs.Reading.{BeginsAt, MayStand, whole_name}
use Rattle.xml_tokens.proofs.OpenTokenLemmas.{OpenCases, open_cases, cut_more}
use Rattle.xml_tokens.proofs.InstructionNameLemmas.{from_instruction}
use Rattle.xml_tokens.proofs.InstructionCutLemmas.{xml_lives, instruction_goes}
use Rattle.xml_tokens.proofs.DeclaredXmlLemmas.{declared_xml}
use Rattle.xml_tokens.proofs.PartLemmas.{splits}
use Rattle.xml_tokens.proofs.TokenFirstLemmas.{tails_of}
use Rattle.xml_tokens.proofs.TagLemmas.{gap_first}
use Rattle.xml_tokens.proofs.CursorLemmas.{name_part}
use Rattle.xml_tokens.specs.Tokens.Token.{declaration, instruction}
use Rattle.xml_tokens.specs.Stages.{Lexeme}
use Rattle.xml_tokens.specs.Reading.{IsFound, Starts, Continues, Reads, an_instruction, utf8_declaration}
use Rattle.xml_tokens.specs.Reading.{foreign_declaration, begins_declaration, first_is_no, IsSilentAt, IsForeignRead}
use Rattle.xml_tokens.specs.Reading.{ReadsDeclaration, ReadsToken}
use Rattle.xml_tokens.specs.declared.cursor.Lapse.{Lapse}
use Rattle.xml_tokens.specs.declared.cursor.Lapse.TheVariants.{Broken, Cut, NoMemory}
use Rattle.xml_tokens.specs.declared.token.Token.{Token as RawToken}
use Rattle.std.specs.Result.{IsErrAnd}
use Rattle.xml_tokens.proofs.DeclaredLemmas.{one_encoding}
use Rattle.xml_tokens.proofs.TokenFirstLemmas.{xml_front}
use Rattle.xml_tokens.proofs.TokenReadLemmas.{one_read}

-- an instruction as a token
pub instruction_read : (place : Context) (before after : List ℕ) → IsXmlText before →
    IsFound an_instruction before tt after → ReadsToken place before (Ok Silent) after
instruction_read place before after xml f =
    let s = f.spelled in
    let x = xml_front before f.front (codes "<?" ++ s.name ++ s.inside ++ codes "?") after f.split
    (s.spelled ∙ simp append_assoc) xml in
    let l : Lexeme = record { token = instruction; text = f.front } in (
      (
        l ∷ [],
        one_read place before f.front after instruction f.split (x.0, s) tt,
        All-cons (λ (x : Lexeme). IsSilentAt place x.token) l [] tt (λ k d (below : k < 0). absurd (omega arith)),
      ),
      x.1,
    )

declaration_xml : (name : Option (List ℕ)) (before front after : List ℕ) → IsXmlText before → before ≡ front ++ after →
    IsDeclaration name front → IsXmlText front × IsXmlText after
declaration_xml name before front after xml split d =
    xml_front before front (codes "<?xml" ++ d.version ++ d.encoded ++ d.alone ++ d.spaces ++ codes "?") after split
    (d.spelled ∙ simp append_assoc) xml

-- a declaration as a token
utf8_read : (place : Context) → place ≡ Start → (before after : List ℕ) → IsXmlText before →
    IsFound utf8_declaration before tt after → ReadsToken place before (Ok (Declaration Utf8)) after
utf8_read place start before after xml f =
    let name = f.spelled.0 in
    let x = declaration_xml name before f.front after xml f.split f.spelled.1 in (
      (
        record { token = declaration name; text = f.front } ∷ [],
        one_read place before f.front after (declaration name) f.split (x.0, f.spelled.1) (start, f.spelled.2),
        (name, (f.front, refl)),
      ),
      x.1,
    )

foreign_read : (place : Context) → place ≡ Start → (before after : List ℕ) → IsXmlText before →
    IsFound foreign_declaration before tt after → ReadsToken place before (Ok (Declaration Foreign)) after
foreign_read place start before after xml f =
    ((start, (tt, after, f)), (declaration_xml f.spelled.0 before f.front after xml f.split f.spelled.1).1)

pub declaration_read : (place : Context) → place ≡ Start → (before after : List ℕ) → IsXmlText before → (k : Encoding) →
    ReadsDeclaration before (Ok k) after → ReadsToken place before (Ok (Declaration k)) after
declaration_read place start before after xml Utf8 f = utf8_read place start before after xml f
declaration_read place start before after xml Foreign f = foreign_read place start before after xml f

-- a declaration of another encoding is read as one
pub foreign_is : (before after : List ℕ) (k : Encoding) → ReadsDeclaration before (Ok k) after →
    Starts foreign_declaration before → IsForeignRead (Ok (Declaration k))
foreign_is before after Utf8 f some =
    let S : List ℕ → Type 0 = Starts utf8_declaration in
    absurd (one_encoding before [] some (subst S (sym (append-nil before)) (tt, after, f)))
foreign_is before after Foreign f some = inl refl

foreign_lapse : (before after : List ℕ) (e : Lapse) → ReadsDeclaration before (Err e) after →
    Starts foreign_declaration before → IsForeignRead (Err e)
foreign_lapse before after Broken r some = absurd (r.1 some)
foreign_lapse before after Cut r some = absurd (one_encoding before r.1.0 some r.1.1)
foreign_lapse before after NoMemory r some = inr refl

pub foreign_err : (before after : List ℕ) (e : Lapse) (r : Result RawToken Lapse) → IsErrAnd r (λ s. s ≡ e) →
    ReadsDeclaration before (Err e) after → Starts foreign_declaration before → IsForeignRead r
foreign_err before after e (Ok v) same read some = absurd same
foreign_err before after e (Err x) same read some =
    let F : Lapse → Type 0 = λ s. IsForeignRead (Err s) in
    subst F (sym same) (foreign_lapse before after e read some)

space_begins : (text w : List ℕ) → text ≡ codes "<?xml" ++ w → first_is_no is_space w ≡ false →
    begins_declaration text ≡ true
space_begins text w is space =
    let N : List ℕ → Type 0 = λ xs. not (first_is_no is_space (drop 5 xs)) ≡ true in
    and_from (begins (codes "<?xml") text) (not (first_is_no is_space (drop 5 text)))
    (begins_from (codes "<?xml") text w is) (subst N (sym is) (ap not space))

gap_space : (gap w : List ℕ) → IsGap gap → first_is_no is_space (gap ++ w) ≡ false
gap_space [] w is = absurd (is.1 refl)
gap_space (b ∷ gap) w is = ap not (and_parts (is_space b) (list_all is_space gap) is.0).0

regroup : (g b e a s x : List ℕ) → (codes "<?xml" ++ (g ++ b) ++ e ++ a ++ s ++ codes "?>") ++ x
    ≡ codes "<?xml" ++ (g ++ (b ++ ((e ++ (a ++ (s ++ codes "?>"))) ++ x)))
regroup g b e a s x = simp append_assoc

-- where a declaration is, one begins
pub declared_begins : (name : Option (List ℕ)) (text front x : List ℕ) → IsDeclaration name front → text ≡ front ++ x →
    begins_declaration text ≡ true
declared_begins name text front x d split =
    let set = d.is_version.1 in
    let q = d.is_version.0 in
    let behind = codes "version" ++ set.before ++ codes "=" ++ set.behind ++ (q ∷ codes "1.0") ++ q ∷ [] in
    let end = d.encoded ++ (d.alone ++ (d.spaces ++ codes "?>")) in
    let rest = behind ++ (end ++ x) in
    let version : d.version ≡ set.gap ++ behind = set.spelled ∙ simp append_assoc in
    let whole : text ≡ codes "<?xml" ++ (set.gap ++ rest) =
    split ∙ ap (λ xs. xs ++ x)
    (d.spelled ∙ ap (λ v. codes "<?xml" ++ v ++ d.encoded ++ d.alone ++ d.spaces ++ codes "?>") version)
    ∙ regroup set.gap behind d.encoded d.alone d.spaces x in
    space_begins text (set.gap ++ rest) whole (gap_space set.gap rest set.is_gap)

pub no_foreign : {X : Type 0} (text : List ℕ) → begins_declaration text ≡ false → Starts foreign_declaration text → X
no_foreign text none some =
    let f = some.2 in
    absurd (both_ways (begins_declaration text) none
    (declared_begins f.spelled.0 text f.front some.1 f.spelled.1 f.split))

-- the text begins with `<?`
instructed_only : {X : Type 0} (place : Context) (tail text more : List ℕ) → text ≡ 60 ∷ 63 ∷ tail →
    (b : BeginsAt place (text ++ more)) →
    ((name : Option (List ℕ)) → IsDeclaration name b.front → (place ≡ Start) × IsTrue (is_utf8_name name) → X) →
    (IsInstruction b.front → X) → X
instructed_only {X} place tail text more is b x y =
    let P : Token → Type 0 = λ t. IsSpelled t b.front b.rest × MayStand place t in
    let cases : OpenCases P 63 X = record {
      on_declaration = λ name same p. x name p.0.1 p.1;
      on_section = λ read same p. absurd (let k : 63 ≡ 33 = same in omega arith);
      on_comment = λ same p. absurd (let k : 63 ≡ 33 = same in omega arith);
      on_instruction = λ same p. y p.0.1;
      on_opening = λ tag name p. absurd (both_ways false refl name);
      on_closing = λ name same p. absurd (let k : 63 ≡ 47 = same in omega arith);
    } in
    open_cases P 63 tail text more b.front b.rest is b.split b.token b.spelled (b.spelled, b.stands) cases

-- no instruction has the name of a declaration
pub xml_no_instruction : {X : Type 0} (text more front rest w : List ℕ) → text ≡ codes "<?xml" ++ w →
    first_is_no is_space w ≡ false → text ++ more ≡ front ++ rest → IsInstruction front → X
xml_no_instruction text more front rest [] is space e i = absurd (both_ways true space refl)
xml_no_instruction text more front rest (b ∷ w) is space e i =
    let p = from_instruction tt front rest i in
    let n = p.5 in
    let named = codes "xml" ++ (b ∷ (w ++ more)) in
    let other = n.1 ++ (n.2 ++ rest) in
    let whole : 60 ∷ (63 ∷ named) ≡ 60 ∷ (63 ∷ other) =
    ap (λ xs. xs ++ more) (sym is) ∙ e ∙ ap (λ xs. xs ++ rest) (p.3 ∙ (λ k. p.4 k ++ n.3 k))
    ∙ ap (λ xs. 60 ∷ (63 ∷ xs)) (append_assoc n.1 n.2 rest) in
    let tails = tails_of 63 63 named other (tails_of 60 60 (63 ∷ named) (63 ∷ other) whole) in
    let gap : IsGap (b ∷ []) =
    (and_from (is_space b) true (not-false (is_space b) space) refl, (λ (none : b ∷ [] ≡ []). cc)) in
    let here : whole_name (codes "xml") (codes "xml") (b ∷ (w ++ more)) =
    (refl, refl, (gap_first (b ∷ []) (w ++ more) gap).0) in
    let one = name_part.unique (codes "xml") n.0 (codes "xml") (b ∷ (w ++ more)) n.1 (n.2 ++ rest) here n.4 tails in
    let N : List ℕ → Type 0 = λ xs. str_eq_ignore_ascii_case xs (codes "xml") ≡ false in
    absurd (both_ways true (subst N (sym one.0) n.5.0) refl)

pub declared_split : (text : List ℕ) → begins_declaration text ≡ true →
    (w : List ℕ) × (text ≡ codes "<?xml" ++ w) × (first_is_no is_space w ≡ false)
declared_split text is =
    let p = and_parts (begins (codes "<?xml") text) (not (first_is_no is_space (drop 5 text))) is in
    (drop 5 text, begins_split (codes "<?xml") text p.0, not-true (first_is_no is_space (drop 5 text)) p.1)

-- only a declaration begins there
declared_only : {X : Type 0} (place : Context) (before more : List ℕ) → begins_declaration before ≡ true →
    (b : BeginsAt place (before ++ more)) →
    ((name : Option (List ℕ)) → IsDeclaration name b.front → IsTrue (is_utf8_name name) → X) → X
declared_only place before more begun b x =
    let d = declared_split before begun in
    instructed_only place (codes "xml" ++ d.0) before more d.1 b
    (λ name declared stands. x name declared stands.1)
    (λ i. xml_no_instruction before more b.front b.rest d.0 d.1 d.2 b.split i)

-- a declaration that isn't read
pub declaration_lapse : (place : Context) → place ≡ Start → (before after : List ℕ) → begins_declaration before ≡ true →
    (e : Lapse) → ReadsDeclaration before (Err e) after → ReadsToken place before (Err e) after
declaration_lapse place start before after begun Broken r = λ more b.
    declared_only place before more begun b (λ name d utf8. r.0 (
      more,
      (tt, b.rest, record { front = b.front; split = b.split; spelled = (name, d, utf8) }),
    ))
declaration_lapse place start before after begun Cut r =
    let B : List ℕ → Type 0 = BeginsAt place in
    let f = r.1.1.2 in (
      (λ b.
          let c = subst B (sym (append-nil before)) b in
          declared_only place before [] begun c (λ name d utf8. r.0 (
            tt,
            c.rest,
            record { front = c.front; split = sym (append-nil before) ∙ c.split; spelled = (name, d, utf8) },
          ))),
      (
        r.1.0,
        record {
          token = declaration f.spelled.0;
          front = f.front;
          rest = r.1.1.1;
          split = f.split;
          spelled = (declared_xml f.spelled.0 f.front f.spelled.1, f.spelled.1);
          stands = (start, f.spelled.2);
        },
        (λ no. no),
      ),
    )
declaration_lapse place start before after begun NoMemory r = tt

-- the text that some continuation makes a declaration, but that begins none
never_declared : (before more m w : List ℕ) → (Continues an_instruction before → ⊥) →
    begins_declaration before ≡ false → before ≡ codes "<?xml" ++ m → w ≡ m ++ more → first_is_no is_space w ≡ false → ⊥
never_declared before more [] w none no_declaration is split space =
    none (xml_lives before [] (sym is ∙ sym (append-nil before)))
never_declared before more (c ∷ m) w none no_declaration is split space =
    let N : List ℕ → Type 0 = λ xs. first_is_no is_space xs ≡ false in
    both_ways (begins_declaration before) no_declaration (space_begins before (c ∷ m) is (subst N split space))

no_declared : (name : Option (List ℕ)) (before more front rest : List ℕ) → (Continues an_instruction before → ⊥) →
    begins_declaration before ≡ false → before ++ more ≡ front ++ rest → IsDeclaration name front → ⊥
no_declared name before more front rest none no_declaration e d =
    let s = declared_split (before ++ more) (declared_begins name (before ++ more) front rest d e) in
    ⊎_elim
    (λ over. none (xml_lives before over.0 over.1))
    (λ whole. never_declared before more whole.0 s.0 none no_declaration whole.1 whole.2 s.2)
    (splits before more (codes "<?xml") s.0 s.1)

-- an instruction that isn't read
pub instruction_lapse : (place : Context) (before after : List ℕ) → IsXmlText before →
    IsTrue (begins (codes "<?") before) → (place ≡ Start → begins_declaration before ≡ false) → (e : Lapse) →
    Reads an_instruction before (Err e) after → ReadsToken place before (Err e) after
instruction_lapse place before after xml begun no_declaration Broken none = λ more b.
    instructed_only place (drop 2 before) before more (begins_split (codes "<?") before begun) b
    (λ name d stands. no_declared name before more b.front b.rest none (no_declaration stands.0) b.split d)
    (λ i. none (more, (tt, b.rest, record { front = b.front; split = b.split; spelled = i })))
instruction_lapse place before after xml begun no_declaration Cut cut =
    let B : List ℕ → Type 0 = BeginsAt place in
    let f = cut.1.1.2 in
    let m = cut_more before cut.1.0 f.front cut.1.1.1 f.split (λ k e. cut.0 (
      tt,
      k,
      record { front = f.front; split = e; spelled = f.spelled },
    )) in
    let g = instruction_goes before m.0 f.front begun m.1 f.spelled xml in (
      (λ b.
          let c = subst B (sym (append-nil before)) b in
          let split = sym (append-nil before) ∙ c.split in
          instructed_only place (drop 2 before) before [] (begins_split (codes "<?") before begun) c
          (λ name d stands.
          both_ways (begins_declaration before) (no_declaration stands.0)
          (declared_begins name before c.front c.rest d split))
          (λ i. cut.0 (tt, c.rest, record { front = c.front; split = split; spelled = i }))),
      (
        g.more,
        record {
          token = instruction;
          front = before ++ g.more;
          rest = [];
          split = sym (append-nil (before ++ g.more));
          spelled = (g.xml, g.is);
          stands = tt;
        },
        (λ no. no),
      ),
    )
instruction_lapse place before after xml begun no_declaration NoMemory none = tt
