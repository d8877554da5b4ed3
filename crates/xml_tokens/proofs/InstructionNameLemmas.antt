-- The name of an instruction.
use Rattle.std.proofs.Common.{◌≡◌, ◌≢◌, ◌⊎◌, ℕ, true, false, List, [], ◌∷◌, ◌++◌, length, map, IsTrue, refl, sym, ap}
use Rattle.std.proofs.Common.{subst}
use Rattle.std.proofs.Common.{◌∙◌, inl, inr, ⊎_elim, codes, arith, append_assoc}
use Rattle.std.specs.Prelude.{Result, Err}
use Rattle.std.specs.List.{list_all}
use Rattle.std.specs.Str.{str_eq_ignore_ascii_case}
use Rattle.std.specs.Char.{to_ascii_lowercase}
use Rattle.std.proofs.lemmas.Bool.{and_parts, and_from, both_ways, cases_Bool, not_from_false, false_from_ne_true}
use Rattle.std.proofs.lemmas.List.{append-nil, append_cancel_left, map-append, length-append}
use Rattle.std.proofs.lemmas.List.Folds.{list_all-append}
use Rattle.std.proofs.lemmas.Slice.Eq.{bytes_eq-Decides}
use Rattle.xml_tokens.specs.declared.cursor.Lapse.{Lapse}
use Rattle.xml_tokens.specs.declared.cursor.Lapse.TheVariants.{Broken, Cut, NoMemory}
use Rattle.xml_tokens.specs.Characters.{IsName, IsGap, begins_name, continues_name}
use Rattle.xml_tokens.specs.Reading.{IsFound, Starts, Continues, Reads, seq, exactly, first_is_no, whole_name}
use Rattle.xml_tokens.specs.Reading.{instruction_end}
use Rattle.xml_tokens.specs.Reading.{an_instruction}
use Rattle.xml_tokens.proofs.PartLemmas.{Joins, Leads, leads_reads, first_found, nil_front}
use Rattle.xml_tokens.proofs.CursorLemmas.{name_part, name_from, name_some}
use Rattle.xml_tokens.proofs.DeclarationLemmas.{exactly_joins}
use Rattle.xml_tokens.proofs.TagLemmas.{gap_first}

-- after the name of an instruction
abbrev pub name_rest : List ℕ → Unit {0} → List ℕ → List ℕ → Type 0
name_rest name v s rest = (str_eq_ignore_ascii_case name (codes "xml") ≡ false) × instruction_end v s rest

abbrev pub named_end : Unit {0} → List ℕ → List ℕ → Type 0
named_end = seq whole_name name_rest

abbrev pub instruction_parts : Unit {0} → List ℕ → List ℕ → Type 0
instruction_parts = seq (exactly (codes "<?")) (λ _. named_end)

pub to_instruction : (v : Unit {0}) (s rest : List ℕ) → instruction_parts v s rest → an_instruction v s rest
to_instruction v s rest p =
    let n = p.5 in
    let e = n.5.1 in
    record {
      name = n.0;
      inside = e.0;
      is_name = n.4.1;
      no_declaration = n.5.0;
      apart = e.3;
      first_end = e.2;
      spelled = p.3 ∙ (λ i. p.4 i ++ (n.3 ∙ (λ k. n.4.0 k ++ e.1 k)) i) ∙ simp append_assoc;
    }

-- no name goes on after that of an instruction
pub name_end : (inside rest : List ℕ) →
    ((inside ≡ []) ⊎ ((gap : List ℕ) × (more : List ℕ) × IsGap gap × (inside ≡ gap ++ more))) →
    IsTrue (first_is_no continues_name ((inside ++ codes "?>") ++ rest))
name_end inside rest is =
    let N : List ℕ → Type 0 = λ xs. IsTrue (first_is_no continues_name xs) in
    ⊎_elim
    (λ none. subst N (ap (λ xs. (xs ++ codes "?>") ++ rest) (sym none)) refl)
    (λ gap.
    let whole : gap.0 ++ ((gap.1 ++ codes "?>") ++ rest) ≡ (inside ++ codes "?>") ++ rest =
    sym (ap (λ xs. (xs ++ codes "?>") ++ rest) gap.3 ∙ simp append_assoc) in
    subst N whole (gap_first gap.0 ((gap.1 ++ codes "?>") ++ rest) gap.2).0)
    is

pub from_instruction : (v : Unit {0}) (s rest : List ℕ) → an_instruction v s rest → instruction_parts v s rest
from_instruction v s rest is = (
  tt,
  codes "<?",
  is.name ++ (is.inside ++ codes "?>"),
  is.spelled ∙ simp append_assoc,
  refl,
  (
    is.name,
    is.name,
    is.inside ++ codes "?>",
    refl,
    (refl, is.is_name, name_end is.inside rest is.apart),
    (is.no_declaration, (is.inside, refl, is.first_end, is.apart)),
  ),
)

one_end : (rest : List ℕ) → instruction_end tt (codes "?>") rest
one_end rest = ([], refl, refl, inl refl)

one_named : named_end tt (codes "a?>") []
one_named = (codes "a", codes "a", codes "?>", refl, (refl, refl, refl), (refl, one_end []))

pub start_joins : Joins (exactly (codes "<?")) (λ (_ : Unit {0}). named_end)
start_joins = exactly_joins (codes "<?") named_end tt (codes "a?>") one_named

-- all bytes of a name at the front
longest : (text : List ℕ) → (s t : List ℕ) × (text ≡ s ++ t) × (list_all continues_name s ≡ true)
    × IsTrue (first_is_no continues_name t)
longest [] = ([], [], refl, refl, refl)
longest (b ∷ text) =
    ⊎_elim
    (λ is.
    let r = longest text in
    (b ∷ r.0, r.1, ap (λ xs. b ∷ xs) r.2, and_from (continues_name b) (list_all continues_name r.0) is r.3, r.4))
    (λ other. ([], b ∷ text, refl, refl, not_from_false (continues_name b) other))
    (cases_Bool (continues_name b))

heads_of : (a b : ℕ) (s t : List ℕ) → a ∷ s ≡ b ∷ t → a ≡ b
heads_of a b s t e = cc

tails : (a b : ℕ) (s t : List ℕ) → a ∷ s ≡ b ∷ t → s ≡ t
tails a b s t e = cc

nil_or : (text : List ℕ) → (text ≡ []) ⊎ (text ≢ [])
nil_or [] = inl refl
nil_or (b ∷ text) = inr (λ (e : b ∷ text ≡ []). cc)

name_not_nil : (opened name named : List ℕ) → IsFound whole_name opened name named → opened ≡ [] → ⊥
name_not_nil opened name named f none =
    name_some name f.spelled.1 (sym f.spelled.0 ∙ nil_front f.front named (sym f.split ∙ none))

first_of_name : (b : ℕ) (text name rest : List ℕ) → IsName name → b ∷ text ≡ name ++ rest → begins_name b ≡ true
first_of_name b text [] rest is e = absurd (both_ways false refl is)
first_of_name b text (d ∷ name) rest is e =
    let B : ℕ → Type 0 = λ k. begins_name k ≡ true in
    subst B (heads_of d b (name ++ rest) text (sym e)) (and_parts (begins_name d) (list_all continues_name name) is).0

-- the text ends before a name
name_nil : (text end : List ℕ) → Reads whole_name text (Err Cut) end → text ≡ []
name_nil [] end cut = refl
name_nil (b ∷ text) end cut =
    let f = cut.1.1.2 in
    let r = longest (b ∷ text) in
    let first = first_of_name b (text ++ cut.1.0) cut.1.1.0 cut.1.1.1 f.spelled.1
    (f.split ∙ ap (λ xs. xs ++ cut.1.1.1) f.spelled.0) in
    absurd (cut.0 (
      r.0,
      r.1,
      record {
        front = r.0;
        split = r.2;
        spelled = (refl, name_from (b ∷ text) r.0 r.1 text b first refl r.2 r.3 r.4, r.4);
      },
    ))

pub name_fails : (opened : List ℕ) (e : Lapse) (end last : List ℕ) → Reads whole_name opened (Err e) end →
    Reads named_end opened (Err e) last
name_fails opened Broken end last none = λ (some : Continues named_end opened).
    none (some.0, first_found {R = name_rest} (opened ++ some.0) some.1.0 some.1.1 some.1.2)
name_fails opened Cut end last cut =
    let C : List ℕ → Type 0 = Continues named_end in (
      (λ (some : Starts named_end opened). cut.0 (first_found {R = name_rest} opened some.0 some.1 some.2)),
      subst C (sym (name_nil opened end cut))
          (codes "a?>", (tt, [], record { front = codes "a?>"; split = refl; spelled = one_named })),
    )
name_fails opened NoMemory end last none = tt

-- the name that a continuation has there
one_name : (opened name named more : List ℕ) → IsFound whole_name opened name named → (named ≡ [] → more ≡ []) →
    (v : Unit {0}) (rest : List ℕ) → IsFound named_end (opened ++ more) v rest →
    (str_eq_ignore_ascii_case name (codes "xml") ≡ false) × IsFound instruction_end (named ++ more) v rest
one_name opened name named more f none v rest g =
    let q = g.spelled in
    let N : List ℕ → Type 0 = λ xs. whole_name name f.front xs in
    let here : whole_name name f.front (named ++ more) = ⊎_elim
    (λ over. subst N (sym (append-nil named) ∙ ap (λ xs. named ++ xs) (sym (none over))) f.spelled)
    (λ some. name_part.grows name f.front named more some f.spelled)
    (nil_or named) in
    let same : f.front ++ (named ++ more) ≡ q.1 ++ (q.2 ++ rest) =
    sym (append_assoc f.front named more) ∙ ap (λ xs. xs ++ more) (sym f.split) ∙ g.split
    ∙ ap (λ xs. xs ++ rest) q.3 ∙ append_assoc q.1 q.2 rest in
    let one = name_part.unique name q.0 f.front (named ++ more) q.1 (q.2 ++ rest) here q.4 same in
    let X : List ℕ → Type 0 = λ xs. str_eq_ignore_ascii_case xs (codes "xml") ≡ false in (
      subst X (sym one.0) q.5.0,
      record {
        front = q.2;
        split = append_cancel_left f.front (named ++ more) (q.2 ++ rest)
            (same ∙ ap (λ xs. xs ++ (q.2 ++ rest)) (sym one.1));
        spelled = q.5.1;
      },
    )

-- the name is `xml`
pub xml_fails : (opened name named : List ℕ) → IsFound whole_name opened name named → named ≢ [] →
    str_eq_ignore_ascii_case name (codes "xml") ≡ true → Continues named_end opened → ⊥
xml_fails opened name named f some is found =
    both_ways (str_eq_ignore_ascii_case name (codes "xml"))
    (one_name opened name named found.0 f (λ over. absurd (some over)) found.1.0 found.1.1 found.1.2).0 is

-- after a name that isn't `xml`
pub name_then : (opened name named : List ℕ) → IsFound whole_name opened name named → named ≢ [] →
    str_eq_ignore_ascii_case name (codes "xml") ≡ false → (r : Result (Unit {0}) Lapse) (end : List ℕ) →
    Reads instruction_end named r end → Reads named_end opened r end
name_then opened name named f some is =
    let leads : Leads named_end opened instruction_end named = record {
      forth = λ v more rest g. record {
        front = f.front ++ g.front;
        split = ap (λ xs. xs ++ more) f.split ∙ append_assoc f.front named more ∙ ap (λ xs. f.front ++ xs) g.split
            ∙ sym (append_assoc f.front g.front rest);
        spelled = (
          name,
          f.front,
          g.front,
          refl,
          (let N : List ℕ → Type 0 = λ xs. whole_name name f.front xs in
              subst N g.split (name_part.grows name f.front named more some f.spelled)),
          (is, g.spelled),
        );
      };
      back = λ v more rest none g. (one_name opened name named more f (λ over. absurd (some over)) v rest g).1;
      ends = λ none. absurd (name_not_nil opened name named f none);
    } in
    leads_reads leads (codes "?>", (tt, [], record { front = codes "?>"; split = refl; spelled = one_end [] }))

no_xml : (xs : List ℕ) → xs ++ 97 ∷ [] ≡ codes "xml" → ⊥
no_xml [] e = omega (arith, heads_of 97 120 [] (codes "ml") e)
no_xml (a ∷ []) e =
    let t : 97 ∷ [] ≡ codes "ml" = tails a 120 (97 ∷ []) (codes "ml") e in
    omega (arith, heads_of 97 109 [] (codes "l") t)
no_xml (a ∷ b ∷ []) e =
    let t : b ∷ 97 ∷ [] ≡ codes "ml" = tails a 120 (b ∷ 97 ∷ []) (codes "ml") e in
    let u : 97 ∷ [] ≡ codes "l" = tails b 109 (97 ∷ []) (codes "l") t in
    omega (arith, heads_of 97 108 [] [] u)
no_xml (a ∷ b ∷ d ∷ xs) e = let long = ap length e in omega (arith, length-append xs (97 ∷ []))

pub longer_name : (name : List ℕ) → IsName name → IsName (name ++ codes "a")
longer_name [] is = refl
longer_name (b ∷ bs) is =
    let p = and_parts (begins_name b) (list_all continues_name bs) is in
    and_from (begins_name b) (list_all continues_name (bs ++ codes "a")) p.0
    (list_all-append continues_name bs (codes "a") ∙ and_from (list_all continues_name bs) true p.1 refl)

pub longer_no_xml : (name : List ℕ) → str_eq_ignore_ascii_case (name ++ codes "a") (codes "xml") ≡ false
longer_no_xml name = false_from_ne_true (str_eq_ignore_ascii_case (name ++ codes "a") (codes "xml")) (λ e.
    let L = map to_ascii_lowercase in
    no_xml (L name) (sym (map-append to_ascii_lowercase name (codes "a"))
    ∙ (bytes_eq-Decides (L (name ++ codes "a")) (codes "xml")).0 e))

-- the text ends after the name
pub name_cut : (opened name named : List ℕ) → IsFound whole_name opened name named → named ≡ [] → (end : List ℕ) →
    Reads named_end opened (Err Cut) end
name_cut opened name named f over end = (
  (λ (some : Starts named_end opened).
      let F : List ℕ → Type 0 = λ xs. IsFound named_end xs some.0 some.1 in
      let g = (one_name opened name named [] f (λ _. refl) some.0 some.1
      (subst F (sym (append-nil opened)) some.2)).1 in
      let total = ap length (ap (λ xs. xs ++ []) (sym over) ∙ g.split ∙ ap (λ xs. xs ++ some.1) g.spelled.1) in
      let outer = length-append (g.spelled.0 ++ codes "?>") some.1 in
      let inner = length-append g.spelled.0 (codes "?>") in
      omega arith),
  (
    codes "a?>",
    (
      tt,
      [],
      record {
        front = opened ++ codes "a?>";
        split = sym (append-nil (opened ++ codes "a?>"));
        spelled = (
          name ++ codes "a",
          name ++ codes "a",
          codes "?>",
          ap (λ xs. xs ++ codes "a?>") (f.split ∙ (λ i. f.spelled.0 i ++ over i) ∙ append-nil name)
              ∙ sym (append_assoc name (codes "a") (codes "?>")),
          (refl, longer_name name f.spelled.1, refl),
          (longer_no_xml name, one_end []),
        );
      },
    ),
  ),
)
