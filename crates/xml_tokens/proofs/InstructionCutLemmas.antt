-- An instruction in which a text ends can go on in XML characters.
use Rattle.std.proofs.Common.{◌≡◌, ◌≢◌, ◌⊎◌, ℕ, true, List, [], ◌∷◌, ◌++◌, IsTrue, refl, sym}
use Rattle.std.proofs.Common.{ap, subst}
use Rattle.std.proofs.Common.{◌∙◌, inl, inr, ⊎_elim, codes, append_assoc, drop}
use Rattle.std.specs.List.{list_all}
use Rattle.std.proofs.lemmas.Bool.{and_parts, and_from}
use Rattle.std.proofs.lemmas.List.{append-nil}
use Rattle.std.proofs.lemmas.List.Folds.{list_all-append}
use Rattle.atom_values.specs.XmlText.{IsXmlText}
use Rattle.atom_values.specs.Space.{is_space}
use Rattle.xml_tokens.specs.Characters.{IsName, IsGap, begins, begins_name, continues_name, lacks}
use Rattle.xml_tokens.specs.Tokens.{IsInstruction}
use Rattle.xml_tokens.specs.Reading.{Continues, an_instruction}
use Rattle.xml_tokens.proofs.BeginLemmas.{begins_split}
use Rattle.xml_tokens.proofs.PartLemmas.{splits, nil_front}
use Rattle.xml_tokens.proofs.TokenFirstLemmas.{heads_of, tails_of}
use Rattle.xml_tokens.proofs.InstructionNameLemmas.{longer_name, longer_no_xml}
use Rattle.xml_tokens.proofs.OpenTokenLemmas.{lacks_front, lacks_space}
use Rattle.xml_tokens.proofs.XmlLemmas.{printable, printable_xml, printable_rest, xml_append}

-- XML characters after the text make it an instruction
pub record InstructionGoes (before : List ℕ) : Type 0 where
  pub more : List ℕ
  pub is : IsInstruction (before ++ more)
  pub xml : IsXmlText (before ++ more)

-- the front of `<?xml` begins an instruction
pub xml_lives : (before m : List ℕ) → codes "<?xml" ≡ before ++ m → Continues an_instruction before
xml_lives before m e = (
  m ++ codes "a?>",
  (
    tt,
    [],
    record {
      front = codes "<?xmla?>";
      split = sym (append_assoc before m (codes "a?>")) ∙ ap (λ xs. xs ++ codes "a?>") (sym e);
      spelled = record {
        name = codes "xmla";
        inside = [];
        is_name = refl;
        no_declaration = refl;
        apart = inl refl;
        first_end = refl;
        spelled = refl;
      };
    },
  ),
)

grown_name : (opened k : List ℕ) → IsName (opened ++ k) → IsName (opened ++ codes "a")
grown_name [] k is = refl
grown_name (b ∷ bs) k is =
    let p = and_parts (begins_name b) (list_all continues_name (bs ++ k)) is in
    let q = and_parts (list_all continues_name bs) (list_all continues_name k)
    (sym (list_all-append continues_name bs k) ∙ p.1) in
    longer_name (b ∷ bs) (and_from (begins_name b) (list_all continues_name bs) p.0 q.0)

-- the text ends within the name, or after it
name_goes : (before opened k : List ℕ) → before ≡ codes "<?" ++ opened → IsName (opened ++ k) → IsXmlText before →
    InstructionGoes before
name_goes before opened k is name xml = record {
  more = codes "a?>";
  is = record {
    name = opened ++ codes "a";
    inside = [];
    is_name = grown_name opened k name;
    no_declaration = longer_no_xml opened;
    apart = inl refl;
    first_end = refl;
    spelled = ap (λ xs. xs ++ codes "a?>") is ∙ simp append_assoc;
  };
  xml = xml_append before (codes "a?>") xml (printable_xml (codes "a?>") refl);
}

gap_begins : (k e gap rest : List ℕ) → k ≢ [] → IsGap gap → k ++ e ≡ gap ++ rest →
    (first : List ℕ) × (more : List ℕ) × IsGap first × (k ≡ first ++ more)
gap_begins [] e gap rest some is same = absurd (some refl)
gap_begins (c ∷ k) e [] rest some is same = absurd (is.1 refl)
gap_begins (c ∷ k) e (d ∷ gap) rest some is same =
    let S : ℕ → Type 0 = λ b. is_space b ≡ true in
    let one = heads_of c d (k ++ e) (gap ++ rest) same in
    let space = subst S (sym one) (and_parts (is_space d) (list_all is_space gap) is.0).0 in
    (c ∷ [], k, (and_from (is_space c) true space refl, (λ (none : c ∷ [] ≡ []). cc)), refl)

-- the text ends within the characters of the instruction
inside_goes : (before k e front : List ℕ) → (s : IsInstruction front) → before ≡ codes "<?" ++ (s.name ++ k) →
    k ≢ [] → s.inside ≡ k ++ e → IsXmlText before → InstructionGoes before
inside_goes before k e front s is some within xml =
    let L : List ℕ → Type 0 = λ xs. lacks (codes "?>") xs ≡ true in
    let none = lacks_front (codes "?>") k (e ++ codes "?")
    (subst L (ap (λ xs. xs ++ codes "?") within ∙ append_assoc k e (codes "?")) s.first_end) in
    let first = ⊎_elim
    (λ over. absurd (some (nil_front k e (sym within ∙ over))))
    (λ gap. gap_begins k e gap.0 gap.1 some gap.2 (sym within ∙ gap.3))
    s.apart in
    record {
      more = codes " ?>";
      is = record {
        name = s.name;
        inside = k ++ codes " ";
        is_name = s.is_name;
        no_declaration = s.no_declaration;
        apart = inr (
          first.0,
          first.1 ++ codes " ",
          first.2,
          ap (λ xs. xs ++ codes " ") first.3 ∙ append_assoc first.0 first.1 (codes " "),
        );
        first_end = ap (lacks (codes "?>")) (append_assoc k (codes " ") (codes "?"))
            ∙ lacks_space (codes "?>") k (codes "?") refl none refl;
        spelled = ap (λ xs. xs ++ codes " ?>") is ∙ simp append_assoc;
      };
      xml = xml_append before (codes " ?>") xml (printable_xml (codes " ?>") refl);
    }

nil_or : (text : List ℕ) → (text ≡ []) ⊎ (text ≢ [])
nil_or [] = inl refl
nil_or (b ∷ text) = inr (λ (e : b ∷ text ≡ []). cc)

-- the text ends after the name
named_goes : (before k m front : List ℕ) → (s : IsInstruction front) → before ≡ codes "<?" ++ (s.name ++ k) →
    s.inside ++ codes "?>" ≡ k ++ m → front ≡ before ++ m → IsXmlText before → InstructionGoes before
named_goes before k m front s is behind whole xml =
    let I : List ℕ → Type 0 = IsInstruction in
    let N : List ℕ → Type 0 = IsName in
    let R : List ℕ → Type 0 = λ xs. list_all printable xs ≡ true in
    ⊎_elim
    (λ none.
    let same : s.name ≡ (s.name ++ k) ++ [] =
    sym (append-nil s.name) ∙ ap (λ xs. s.name ++ xs) (sym none) ∙ sym (append-nil (s.name ++ k)) in
    name_goes before (s.name ++ k) [] is (subst N same s.is_name) xml)
    (λ some. ⊎_elim
    (λ ended. record {
      more = m;
      is = subst I whole s;
      xml = xml_append before m xml (printable_xml m (printable_rest ended.0 m (subst R ended.2 refl)));
    })
    (λ within. inside_goes before k within.0 front s is some within.1 xml)
    (splits s.inside (codes "?>") k m behind))
    (nil_or k)

-- an instruction that begins with the text, and is longer
pub instruction_goes : (before m front : List ℕ) → IsTrue (begins (codes "<?") before) → front ≡ before ++ m →
    IsInstruction front → IsXmlText before → InstructionGoes before
instruction_goes before m front begun whole s xml =
    let opened = drop 2 before in
    let back = s.inside ++ codes "?>" in
    let N : List ℕ → Type 0 = IsName in
    let is : before ≡ codes "<?" ++ opened = begins_split (codes "<?") before begun in
    let parts : front ≡ 60 ∷ (63 ∷ (s.name ++ back)) = s.spelled ∙ simp append_assoc in
    let same : 60 ∷ (63 ∷ (s.name ++ back)) ≡ 60 ∷ (63 ∷ (opened ++ m)) =
    sym parts ∙ whole ∙ ap (λ xs. xs ++ m) is in
    let behind : s.name ++ back ≡ opened ++ m =
    tails_of 63 63 (s.name ++ back) (opened ++ m)
    (tails_of 60 60 (63 ∷ (s.name ++ back)) (63 ∷ (opened ++ m)) same) in
    ⊎_elim
    (λ over. named_goes before over.0 m front s (is ∙ ap (λ xs. codes "<?" ++ xs) over.1) over.2 whole xml)
    (λ early. name_goes before opened early.0 is (subst N early.1 s.is_name) xml)
    (splits s.name back opened m behind)
