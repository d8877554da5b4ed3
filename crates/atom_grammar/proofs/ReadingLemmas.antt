-- How readings of parts are put together.
use Rattle.std.proofs.Common.{◌≡◌, ℕ, true, false, eqb, List, [], ◌∷◌, ◌++◌, Option, Some, None, refl, sym, ap, subst, ◌∙◌, append_assoc}
use Rattle.std.specs.Prelude.{IfSome}
use Rattle.std.proofs.lemmas.Bool.{and_from, eq-eqb}
use Rattle.std.proofs.lemmas.List.{append_cancel_left}
use Rattle.std.specs.Result.{IsErrAnd}
use Rattle.std.specs.Prelude.{Result, Ok, Err}
use Rattle.atom_grammar.specs.declared.part_fault.PartFault.{PartFault}
use Rattle.atom_grammar.specs.declared.part_fault.PartFault.TheVariants.{Mismatch, NoMemory}
use Rattle.atom_grammar.specs.Parts.{Part, IsFound, IsAbsent, IsReadAlone, IsPartFault, ReadsAs, starts, literal, both, behind, ended, optional, optional_text, alone}

-- a reading is the only one, where no two values are read of one text
pub found : {A : Type 0} (part : Part A) → IsReadAlone part → (input : List ℕ) (value : A) (rest : List ℕ)
    → part.Is value → part.Before rest → input ≡ part.text value ++ rest → IsFound part input value rest
found part one input value rest is before split = record {
  lawful = is;
  split = split;
  only = λ other left is_other before_left e. one value other rest left is is_other before before_left (sym split ∙ e);
}

pub literal_alone : (bytes : List ℕ) → IsReadAlone (literal bytes)
unfolding literal
literal_alone bytes one other rest left _ _ _ _ e = (refl, append_cancel_left bytes rest left e)

pub both_alone : {A B : Type 0} (first : Part A) (second : Part B) → IsReadAlone first → IsReadAlone second
    → IsReadAlone (both first second)
unfolding both
both_alone first second alone_first alone_second one other rest left is_one is_other before_rest before_left e =
    let heads =
    alone_first one.0 other.0 (second.text one.1 ++ rest) (second.text other.1 ++ left) is_one.0 is_other.0
    (before_rest.1 one.1 is_one.1) (before_left.1 other.1 is_other.1)
    (sym (append_assoc (first.text one.0) (second.text one.1) rest) ∙ e
    ∙ append_assoc (first.text other.0) (second.text other.1) left) in
    let tails = alone_second one.1 other.1 rest left is_one.1 is_other.1 before_rest.0 before_left.0 heads.1 in
    (λ i. (heads.0 i, tails.0 i), tails.1)

pub behind_alone : {A : Type 0} (bytes : List ℕ) (part : Part A) → IsReadAlone part → IsReadAlone (behind bytes part)
unfolding behind
behind_alone bytes part one v w rest left is_v is_w before_rest before_left e =
    one v w rest left is_v is_w before_rest before_left
    (append_cancel_left bytes (part.text v ++ rest) (part.text w ++ left) (sym (append_assoc bytes (part.text v) rest)
    ∙ e ∙ append_assoc bytes (part.text w) left))

pub ended_alone : {A : Type 0} (part : Part A) (bytes : List ℕ) → IsReadAlone part → IsReadAlone (ended part bytes)
unfolding ended
ended_alone part bytes one v w rest left is_v is_w before_rest before_left e =
    let p =
    one v w (bytes ++ rest) (bytes ++ left) is_v is_w before_rest before_left
    (sym (append_assoc (part.text v) bytes rest) ∙ e ∙ append_assoc (part.text w) bytes left) in
    (p.0, append_cancel_left bytes rest left p.1)

-- a part that anything may follow
abbrev pub IsClosed : {A : Type 0} → Part A → Type 0
IsClosed part = (rest : List ℕ) → part.Before rest

pub closed_alone : {A : Type 0} (part : Part A) → IsClosed part → IsReadAlone part → IsReadAlone (alone part)
unfolding alone
closed_alone part closed one v w rest left is_v is_w _ _ e = one v w rest left is_v is_w (closed rest) (closed left) e

pub alone_found : {A : Type 0} (part : Part A) → IsClosed part → (input rest : List ℕ) (a : A)
    → IsFound part input a rest → IsFound (alone part) input a rest
unfolding alone
alone_found part closed input rest a f = record {
  lawful = f.lawful;
  split = f.split;
  only = λ other left is _ e. f.only other left is (closed left) e;
}

pub alone_absent : {A : Type 0} (part : Part A) → IsClosed part → (input : List ℕ) → IsAbsent part input
    → IsAbsent (alone part) input
unfolding alone
alone_absent part closed input none other left is _ e = none other left is (closed left) e

pub alone_closed : {A : Type 0} (part : Part A) → IsClosed (alone part)
unfolding alone
alone_closed part rest = tt

-- a failure of a part is one of the whole
pub stopped : {A B C : Type 0} (part : Part A) (view : C → B) (whole : Part B) (at input rest : List ℕ)
    (e : PartFault) (r : Result C PartFault) → IsPartFault part at e → IsErrAnd r (λ s. s ≡ e)
    → (IsAbsent part at → IsAbsent whole input) → ReadsAs view whole input r rest
stopped part view whole at input rest e (Ok x) s same f = absurd same
stopped part view whole at input rest Mismatch (Err x) s same f =
    let P : PartFault → Type 0 = IsPartFault whole input in
    subst P (sym same) (f s)
stopped part view whole at input rest NoMemory (Err x) s same f =
    let P : PartFault → Type 0 = IsPartFault whole input in
    subst P (sym same) tt

-- memory ran out
pub no_memory : {B C : Type 0} (view : C → B) (whole : Part B) (input rest : List ℕ) (r : Result C PartFault)
    → IsErrAnd r (λ s. s ≡ NoMemory) → ReadsAs view whole input r rest
no_memory view whole input rest (Ok x) same = absurd same
no_memory view whole input rest (Err x) same =
    let P : PartFault → Type 0 = IsPartFault whole input in
    subst P (sym same) tt

-- the next part is read after what was read
pub both_found : {A B : Type 0} (first : Part A) (second : Part B) (input middle rest : List ℕ) (a : A) (b : B)
    → IsFound first input a middle → IsFound second middle b rest → IsFound (both first second) input (a, b) rest
unfolding both
both_found first second input middle rest a b f s = record {
  lawful = (f.lawful, s.lawful);
  split = f.split ∙ ap (λ x. first.text a ++ x) s.split ∙ sym (append_assoc (first.text a) (second.text b) rest);
  only = λ other left is before e.
      let head =
      f.only other.0 (second.text other.1 ++ left) is.0 (before.1 other.1 is.1) (e
      ∙ append_assoc (first.text other.0) (second.text other.1) left) in
      let tail = s.only other.1 left is.1 before.0 head.1 in
      (λ i. (head.0 i, tail.0 i), tail.1);
}

-- or it isn't there
pub both_stuck : {A B : Type 0} (first : Part A) (second : Part B) (input middle : List ℕ) (a : A)
    → IsFound first input a middle → IsAbsent second middle → IsAbsent (both first second) input
unfolding both
both_stuck first second input middle a f none other left is before e =
    let head =
    f.only other.0 (second.text other.1 ++ left) is.0 (before.1 other.1 is.1) (e
    ∙ append_assoc (first.text other.0) (second.text other.1) left) in
    none other.1 left is.1 before.0 head.1

pub both_absent : {A B : Type 0} (first : Part A) (second : Part B) (input : List ℕ) → IsAbsent first input
    → IsAbsent (both first second) input
unfolding both
both_absent first second input none other left is before e =
    none other.0 (second.text other.1 ++ left) is.0 (before.1 other.1 is.1) (e
    ∙ append_assoc (first.text other.0) (second.text other.1) left)

pub behind_found : {A : Type 0} (bytes : List ℕ) (part : Part A) (input middle rest : List ℕ) (a : A)
    → IsFound (literal bytes) input tt middle → IsFound part middle a rest → IsFound (behind bytes part) input a rest
unfolding behind literal
behind_found bytes part input middle rest a l f = record {
  lawful = f.lawful;
  split = l.split ∙ ap (λ x. bytes ++ x) f.split ∙ sym (append_assoc bytes (part.text a) rest);
  only = λ other left is before e.
      f.only other left is before
      (l.only tt (part.text other ++ left) tt tt (e ∙ append_assoc bytes (part.text other) left)).1;
}

pub behind_stuck : {A : Type 0} (bytes : List ℕ) (part : Part A) (input middle : List ℕ)
    → IsFound (literal bytes) input tt middle → IsAbsent part middle → IsAbsent (behind bytes part) input
unfolding behind literal
behind_stuck bytes part input middle l none other left is before e =
    none other left is before
    (l.only tt (part.text other ++ left) tt tt (e ∙ append_assoc bytes (part.text other) left)).1

pub behind_absent : {A : Type 0} (bytes : List ℕ) (part : Part A) (input : List ℕ) → IsAbsent (literal bytes) input
    → IsAbsent (behind bytes part) input
unfolding behind literal
behind_absent bytes part input none other left is before e =
    none tt (part.text other ++ left) tt tt (e ∙ append_assoc bytes (part.text other) left)

pub ended_found : {A : Type 0} (part : Part A) (bytes input middle rest : List ℕ) (a : A)
    → IsFound part input a middle → IsFound (literal bytes) middle tt rest → IsFound (ended part bytes) input a rest
unfolding ended literal
ended_found part bytes input middle rest a f l = record {
  lawful = f.lawful;
  split = f.split ∙ ap (λ x. part.text a ++ x) l.split ∙ sym (append_assoc (part.text a) bytes rest);
  only = λ other left is before e.
      let head = f.only other (bytes ++ left) is before (e ∙ append_assoc (part.text other) bytes left) in
      (head.0, (l.only tt left tt tt head.1).1);
}

pub ended_stuck : {A : Type 0} (part : Part A) (bytes input middle : List ℕ) (a : A) → IsFound part input a middle
    → IsAbsent (literal bytes) middle → IsAbsent (ended part bytes) input
unfolding ended literal
ended_stuck part bytes input middle a f none other left is before e =
    none tt left tt tt (f.only other (bytes ++ left) is before (e ∙ append_assoc (part.text other) bytes left)).1

pub ended_absent : {A : Type 0} (part : Part A) (bytes input : List ℕ) → IsAbsent part input
    → IsAbsent (ended part bytes) input
unfolding ended
ended_absent part bytes input none other left is before e =
    none other (bytes ++ left) is before (e ∙ append_assoc (part.text other) bytes left)

-- After some parts of `whole` were read at `input`, `left` remains to be read at `middle`. Its value completes the
-- value of the whole.
pub record Continues {A B : Type 0} (whole : Part B) (input : List ℕ) (left : Part A) (middle : List ℕ) (complete : A
    → B) : Type 0 where
  pub found : (value : A) (rest : List ℕ) → IsFound left middle value rest → IsFound whole input (complete value) rest
  pub absent : IsAbsent left middle → IsAbsent whole input

-- nothing was read so far
pub begun : {B : Type 0} (whole : Part B) (input : List ℕ) → Continues whole input whole input (λ value. value)
begun whole input = record { found = λ value rest f. f; absent = λ none. none }

-- one more part was read
pub then : {A B C : Type 0} {whole : Part C} {input middle after : List ℕ} {first : Part A} {second : Part B}
    {complete : A × B → C} {value : A}
    → Continues whole input (both first second) middle complete → IsFound first middle value after
    → Continues whole input second after (λ more. complete (value, more))
then {value} so f = record {
  found = λ more rest s. so.found (value, more) rest (both_found _ _ _ _ _ _ _ f s);
  absent = λ none. so.absent (both_stuck _ _ _ _ _ f none);
}

-- the bytes before a part were read
pub then_bytes : {A C : Type 0} {whole : Part C} {input middle after : List ℕ} {part : Part A} {complete : A → C}
    (bytes : List ℕ) → Continues whole input (behind bytes part) middle complete
    → IsFound (literal bytes) middle tt after
    → Continues whole input part after complete
then_bytes bytes so l = record {
  found = λ value rest f. so.found value rest (behind_found _ _ _ _ _ _ l f);
  absent = λ none. so.absent (behind_stuck _ _ _ _ l none);
}

-- the part before the last bytes was read
pub then_end : {A C : Type 0} {whole : Part C} {input middle after : List ℕ} {part : Part A} {complete : A
    → C} {value : A}
    (bytes : List ℕ) → Continues whole input (ended part bytes) middle complete → IsFound part middle value after
    → Continues whole input (literal bytes) after (λ _. complete value)
then_end {value} bytes so f = record {
  found = λ done rest l. so.found value rest (ended_found _ _ _ _ _ _ f l);
  absent = λ none. so.absent (ended_stuck _ _ _ _ _ f none);
}

-- one part's values are another's, seen in another way
pub record Renames {A B : Type 0} (from : Part B) (to : Part A) (Keeps : B → Type 0) (there : B → A) (back : A
    → B) : Type 0 where
  pub is : (b : B) → from.Is b → Keeps b → to.Is (there b)
  pub text : (b : B) → from.Is b → Keeps b → from.text b ≡ to.text (there b)
  pub was : (a : A) → to.Is a → from.Is (back a)
  pub keeps : (a : A) → to.Is a → Keeps (back a)
  pub same : (a : A) → to.Is a → to.text a ≡ from.text (back a)
  pub again : (a : A) → to.Is a → there (back a) ≡ a
  pub before : (rest : List ℕ) → to.Before rest → from.Before rest

pub renamed_found : {A B : Type 0} (from : Part B) (to : Part A) (Keeps : B → Type 0) (there : B → A) (back : A → B)
    → Renames from to Keeps there back → (input rest : List ℕ) (b : B) → IsFound from input b rest → Keeps b
    → IsFound to input (there b) rest
renamed_found from to Keeps there back r input rest b f k = record {
  lawful = r.is b f.lawful k;
  split = f.split ∙ ap (λ x. x ++ rest) (r.text b f.lawful k);
  only = λ other left is before e.
      let p =
      f.only (back other) left (r.was other is) (r.before left before) (e ∙ ap (λ x. x ++ left) (r.same other is))
      in
      (ap there p.0 ∙ r.again other is, p.1);
}

pub renamed_absent : {A B : Type 0} (from : Part B) (to : Part A) (Keeps : B → Type 0) (there : B → A) (back : A → B)
    → Renames from to Keeps there back → (input : List ℕ) → IsAbsent from input → IsAbsent to input
renamed_absent from to Keeps there back r input none other left is before e =
    none (back other) left (r.was other is) (r.before left before) (e ∙ ap (λ x. x ++ left) (r.same other is))

-- a reading that breaks a rule is none
pub renamed_refused : {A B : Type 0} (from : Part B) (to : Part A) (Keeps : B → Type 0) (there : B → A) (back : A → B)
    → Renames from to Keeps there back → (input rest : List ℕ) (b : B) → IsFound from input b rest → ¬ Keeps b
    → IsAbsent to input
renamed_refused from to Keeps there back r input rest b f broken other left is before e =
    let p =
    f.only (back other) left (r.was other is) (r.before left before) (e ∙ ap (λ x. x ++ left) (r.same other is))
    in
    broken (subst Keeps (sym p.0) (r.keeps other is))

pub renamed_alone : {A B : Type 0} (from : Part B) (to : Part A) (Keeps : B → Type 0) (there : B → A) (back : A → B)
    → Renames from to Keeps there back → IsReadAlone from → IsReadAlone to
renamed_alone from to Keeps there back r one v w rest left is_v is_w before_rest before_left e =
    let p =
    one (back v) (back w) rest left (r.was v is_v) (r.was w is_w) (r.before rest before_rest)
    (r.before left before_left)
    (sym (ap (λ x. x ++ rest) (r.same v is_v)) ∙ e ∙ ap (λ x. x ++ left) (r.same w is_w)) in
    (sym (r.again v is_v) ∙ ap there p.0 ∙ r.again w is_w, p.1)

-- a list that begins with the bytes
pub starts_append : (bytes rest : List ℕ) → starts bytes (bytes ++ rest) ≡ true
starts_append [] rest = refl
starts_append (x ∷ xs) rest = and_from (eqb x x) (starts xs (xs ++ rest)) (eq-eqb x x refl) (starts_append xs rest)

-- each text begins with these bytes
abbrev pub Starts : {A : Type 0} → List ℕ → Part A → Type 0
Starts {A} bytes part = (value : A) (rest : List ℕ) → part.Is value → starts bytes (part.text value ++ rest) ≡ true

optional_cases : {A : Type 0} (bytes : List ℕ) (part : Part A) → IsClosed part → Starts bytes part → IsReadAlone part
    → (v w : Option A) (rest left : List ℕ) → IfSome v part.Is → IfSome w part.Is → starts bytes rest ≡ false
    → starts bytes left ≡ false → optional_text part.text v ++ rest ≡ optional_text part.text w ++ left
    → (v ≡ w) × (rest ≡ left)
optional_cases bytes part closed begins one None None rest left _ _ before_rest before_left e = (refl, e)
optional_cases bytes part closed begins one None (Some w) rest left _ is before_rest before_left e =
    absurd (let h : true ≡ false = sym (begins w left is) ∙ ap (starts bytes) (sym e) ∙ before_rest in cc)
optional_cases bytes part closed begins one (Some v) None rest left is _ before_rest before_left e =
    absurd (let h : true ≡ false = sym (begins v rest is) ∙ ap (starts bytes) e ∙ before_left in cc)
optional_cases bytes part closed begins one (Some v) (Some w) rest left is_v is_w before_rest before_left e =
    let p = one v w rest left is_v is_w (closed rest) (closed left) e in
    (ap (λ x. Some x) p.0, p.1)

pub optional_alone : {A : Type 0} (bytes : List ℕ) (part : Part A) → IsClosed part → Starts bytes part
    → IsReadAlone part → IsReadAlone (optional bytes part)
unfolding optional
optional_alone bytes part closed begins one v w rest left is_v is_w before_rest before_left e =
    optional_cases bytes part closed begins one v w rest left is_v is_w before_rest before_left e

none_only : {A : Type 0} (bytes : List ℕ) (part : Part A) → Starts bytes part → (input : List ℕ)
    → starts bytes input ≡ false → (other : Option A) (left : List ℕ) → IfSome other part.Is
    → input ≡ optional_text part.text other ++ left → (None ≡ other) × (input ≡ left)
none_only bytes part begins input not None left is e = (refl, e)
none_only bytes part begins input not (Some w) left is e =
    absurd (let h : true ≡ false = sym (begins w left is) ∙ ap (starts bytes) (sym e) ∙ not in cc)

some_only : {A : Type 0} (bytes : List ℕ) (part : Part A) → IsClosed part → (input rest : List ℕ) (value : A)
    → starts bytes input ≡ true → IsFound part input value rest → (other : Option A) (left : List ℕ)
    → IfSome other part.Is → starts bytes left ≡ false → input ≡ optional_text part.text other ++ left
    → (Some value ≡ other) × (rest ≡ left)
some_only bytes part closed input rest value there f None left is before e =
    absurd (let h : true ≡ false = sym there ∙ ap (starts bytes) e ∙ before in cc)
some_only bytes part closed input rest value there f (Some w) left is before e =
    let p = f.only w left is (closed left) e in
    (ap (λ x. Some x) p.0, p.1)

-- no part comes next
pub optional_none : {A : Type 0} (bytes : List ℕ) (part : Part A) → Starts bytes part → (input : List ℕ)
    → starts bytes input ≡ false → IsFound (optional bytes part) input None input
unfolding optional
optional_none bytes part begins input not = record {
  lawful = tt;
  split = refl;
  only = λ other left is before e. none_only bytes part begins input not other left is e;
}

pub optional_some : {A : Type 0} (bytes : List ℕ) (part : Part A) → IsClosed part → (input rest : List ℕ) (value : A)
    → starts bytes input ≡ true → IsFound part input value rest
    → IsFound (optional bytes part) input (Some value) rest
unfolding optional
optional_some bytes part closed input rest value there f = record {
  lawful = f.lawful;
  split = f.split;
  only = λ other left is before e. some_only bytes part closed input rest value there f other left is before e;
}

pub optional_absent : {A : Type 0} (bytes : List ℕ) (part : Part A) → IsClosed part → (input : List ℕ)
    → starts bytes input ≡ true → IsAbsent part input → IsAbsent (optional bytes part) input
unfolding optional
optional_absent bytes part closed input there none None left is before e = let h : true ≡ false =
    sym there ∙ ap (starts bytes) e ∙ before in cc
optional_absent bytes part closed input there none (Some w) left is before e = none w left is (closed left) e
