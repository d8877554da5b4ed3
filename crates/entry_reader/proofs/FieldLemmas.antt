-- The fields of a person, child by child.
use Rattle.std.proofs.Common.{◌≡◌, ◌≤◌, ℕ, List, [], ◌∷◌, ◌++◌, length, map, filter, Bool, true, false, cond, Option}
use Rattle.std.proofs.Common.{Some, None}
use Rattle.std.proofs.Common.{option_map, refl, sym, ap, subst, ◌∙◌, arith, bytes_eq, codes}
use Rattle.std.specs.Prelude.{if◌then◌else◌, is_some}
use Rattle.std.specs.Option.{option_or}
use Rattle.std.proofs.lemmas.Bool.{cond-true, and_parts, and_from, both_ways, false_from_ne_true}
use Rattle.std.proofs.lemmas.Slice.Eq.{bytes_eq-Decides}
use Rattle.entry_reader.specs.declared.fault.Why.{Why}
use Rattle.entry_reader.specs.declared.fault.Why.TheVariants.{NotAnEntry, Twice}
use Rattle.entry_reader.specs.declared.person.Field.{Field}
use Rattle.entry_reader.specs.declared.person.Field.TheVariants.{Name as NameField, Uri, Email}
use Rattle.entry_reader.specs.declared.person.Fields.{Fields}
use Rattle.xml_tokens.specs.Tree.{Name, Element, Content}
use Rattle.xml_tokens.specs.Tree.Content.{nothing, element}
use Rattle.xml_tokens.specs.Children.{Child, child_text, children, first_of, named, named_in, same_name, text_of}
use Rattle.xml_tokens.specs.Names.{atom}
use Rattle.entry_reader.specs.Faults.{IsRefusalIn, entry_rules, is_one_of, person_parts}
use Rattle.entry_reader.specs.Faults.Within.{in_person}
use Rattle.std.specs.Prelude.{Result, Ok, Err}
use Rattle.xml_tokens.specs.declared.elements.Elements.{Elements}
use Rattle.xml_tokens.specs.declared.fault.TokenFault.{TokenFault}
use Rattle.xml_tokens.specs.Tree.{Event}
use Rattle.xml_tokens.specs.Progress.{IsSkippedFrom, Point, first_place}
use Rattle.entry_reader.specs.Parts.{AreFieldsOf, IsFieldsChild, count_of, elements_of, field_name}
use Rattle.xml_tokens.specs.Children.{joined}
use Rattle.entry_reader.specs.Parts.{slot_refusal, taken_fields}
use Rattle.xml_tokens.specs.Children.{with_child}
use Rattle.std.proofs.lemmas.List.{append-nil}
use Rattle.std.proofs.lemmas.List.Elements.{All-nil}
use Rattle.xml_tokens.specs.Order.{IsFaultless, IsFirst}
use Rattle.xml_tokens.proofs.ContentLemmas.{says}
use Rattle.xml_tokens.proofs.OrderLemmas.{first_with_child}
use Rattle.entry_reader.proofs.PlacedLemmas.{named_joined, named_more, named_other, person_once, person_other}
use Rattle.entry_reader.proofs.PlacedLemmas.{person_twice, said_placed}

-- two names that are told to be the same are
pub name_is : (a b : Name) → same_name a b ≡ true → a ≡ b
name_is a b is =
    let p = and_parts (bytes_eq a.namespace b.namespace) (bytes_eq a.local b.local) is in
    let n = (bytes_eq-Decides a.namespace b.namespace).0 p.0 in
    let l = (bytes_eq-Decides a.local b.local).0 p.1 in
    λ i. record { namespace = n i; local = l i }

pub same_refl : (a : Name) → same_name a a ≡ true
same_refl a =
    and_from (bytes_eq a.namespace a.namespace) (bytes_eq a.local a.local)
    ((bytes_eq-Decides a.namespace a.namespace).1 refl) ((bytes_eq-Decides a.local a.local).1 refl)

-- the elements of a name, counted
pub count_named : (n : Name) (cs : List Child) → count_of n (map (λ (c : Child). c.element) cs) ≡ length (named_in n cs)
count_named n [] = refl
count_named n (c ∷ cs) =
    let rest = filter (λ (e : Element). same_name e.name n) (map (λ (c : Child). c.element) cs) in
    elim (same_name c.element.name n) as (λ t. length (cond t (c.element ∷ rest) rest)
    ≡ length (cond t (c ∷ named_in n cs) (named_in n cs)))
    [ true ↦ (let more = count_named n cs in omega arith) | false ↦ count_named n cs ]

some_first : (xs : List Child) → is_some (first_of xs) ≡ true → 1 ≤ length xs
some_first [] is = absurd (both_ways false refl is)
some_first (x ∷ xs) is = omega arith

none_first : (xs : List Child) → is_some (first_of xs) ≡ false → xs ≡ []
none_first [] is = refl
none_first (x ∷ xs) is = absurd (both_ways true is refl)

first_push : (xs : List Child) (c : Child) → is_some (first_of (xs ++ c ∷ [])) ≡ true
first_push [] c = refl
first_push (x ∷ xs) c = refl

-- the refusals of the children so far and of one more, as they are read
pub refusal_read : (old inner one all : Option (ℕ × Why)) (taken : Bool) (has : Option (List ℕ)) (at : ℕ)
    (first : Option ℕ) → taken ≡ is_some has → inner ≡ option_map (λ place. (place, NotAnEntry)) first →
    one ≡ (if taken then Some (at, Twice) else inner) → all ≡ option_or old one →
    all ≡ option_or old (slot_refusal (is_some has) at first)
refusal_read old inner one all taken has at first is_taken is_inner is_one is_all =
    is_all ∙ ap (option_or old) (is_one ∙ (λ i. if is_taken i then Some (at, Twice) else is_inner i))

or_none : (r s : Option (ℕ × Why)) → option_or r s ≡ None → (r ≡ None) × (s ≡ None)
or_none None s e = (refl, e)
or_none (Some p) s e = let bad : Some p ≡ None = e in absurd cc

module _ (b : Content) (e : Element) (inner : Content) (n : Name) (same : same_name e.name n ≡ true)
    (field : is_one_of person_parts e.name ≡ true) where
  -- why a child with this name is refused
  field_refusal : (taken : Bool) (r : Option (ℕ × Why)) → taken ≡ is_some (first_of (named n b)) →
      IsRefusalIn in_person [] b r →
      IsRefusalIn in_person [] (with_child b e inner) (option_or r (slot_refusal taken e.place (first_place inner)))
  field_refusal taken r is before =
      let count : count_of e.name (elements_of b) ≡ length (named n b) =
      ap (λ m. count_of m (elements_of b)) (name_is e.name n same) ∙ count_named n (children b) in
      let own : (t : Bool) → t ≡ is_some (first_of (named n b)) →
      IsRefusalIn in_person (elements_of b) (element e inner nothing) (slot_refusal t e.place (first_place inner)) =
      λ t.
      elim t as (λ t. t ≡ is_some (first_of (named n b)) →
      IsRefusalIn in_person (elements_of b) (element e inner nothing) (slot_refusal t e.place (first_place inner))) [
        | true ↦ λ some.
            let one = some_first (named n b) (sym some) in
            person_twice (elements_of b) e inner field (omega (arith, count, one))
        | false ↦ λ none.
            person_once (elements_of b) e inner field (count ∙ ap length (none_first (named n b) (sym none)))
      ] in
      first_with_child entry_rules in_person b e inner r (slot_refusal taken e.place (first_place inner)) before
      (own taken is)

  field_some : true ≡ is_some (first_of (named n (with_child b e inner)))
  field_some =
      sym (ap (λ xs. is_some (first_of xs)) (named_more n b e inner same)
      ∙ first_push (named n b) (record { element = e; content = inner }))

  field_read : (taken : Bool) (r : Option (ℕ × Why)) → taken ≡ is_some (first_of (named n b)) →
      option_or r (slot_refusal taken e.place (first_place inner)) ≡ None →
      Some (text_of inner) ≡ option_map child_text (first_of (named n (with_child b e inner)))
  field_read taken r is none =
      let free : taken ≡ false = false_from_ne_true taken (λ t.
      let bad : Some (e.place, Twice) ≡ None =
      sym (cond-true taken (Some (e.place, Twice)) (option_map (λ place. (place, NotAnEntry)) (first_place inner)) t)
      ∙ (or_none r (slot_refusal taken e.place (first_place inner)) none).1 in cc) in
      let nil = none_first (named n b) (sym is ∙ free) in
      sym (ap (λ xs. option_map child_text (first_of xs))
      (named_more n b e inner same ∙ ap (λ xs. xs ++ record { element = e; content = inner } ∷ []) nil))

  field_other : (m : Name) → same_name n m ≡ false → named m (with_child b e inner) ≡ named m b
  field_other m apart =
      named_other m b e inner (ap (λ k. same_name k m) (name_is e.name n same) ∙ apart)

is_part : (f : Field) (name : Name) → same_name name (atom (field_name f)) ≡ true → is_one_of person_parts name ≡ true
is_part NameField name same =
    let P : Name → Type 0 = λ k. is_one_of person_parts k ≡ true in
    subst P (sym (name_is name (atom (codes "name")) same)) refl
is_part Uri name same =
    let P : Name → Type 0 = λ k. is_one_of person_parts k ≡ true in
    subst P (sym (name_is name (atom (codes "uri")) same)) refl
is_part Email name same =
    let P : Name → Type 0 = λ k. is_one_of person_parts k ≡ true in
    subst P (sym (name_is name (atom (codes "email")) same)) refl

-- a child that is a field is read
pub fields_taken : (f : Field) (b : Content) (e : Element) (inner : Content) (fields : Fields) → AreFieldsOf b fields →
    same_name e.name (atom (field_name f)) ≡ true →
    AreFieldsOf (with_child b e inner) (taken_fields f (text_of inner) (first_place inner) e.place fields)
fields_taken NameField b e inner fields are same =
    let n = atom (codes "name") in
    let part = is_part NameField e.name same in
    let other : (m : Name) → same_name n m ≡ false → named m (with_child b e inner) ≡ named m b =
    field_other b e inner n same part in
    let uri = other (atom (codes "uri")) refl in
    let email = other (atom (codes "email")) refl in
    record {
      name = field_some b e inner n same part;
      uri = are.uri ∙ ap (λ xs. is_some (first_of xs)) (sym uri);
      email = are.email ∙ ap (λ xs. is_some (first_of xs)) (sym email);
      refused = field_refusal b e inner n same part (is_some fields.name) fields.refused are.name are.refused;
      read = λ none.
          let old = are.read (or_none fields.refused
          (slot_refusal (is_some fields.name) e.place (first_place inner)) none).0
          in (
            field_read b e inner n same part (is_some fields.name) fields.refused are.name none,
            old.1 ∙ ap (λ xs. option_map child_text (first_of xs)) (sym uri),
            old.2 ∙ ap (λ xs. option_map child_text (first_of xs)) (sym email),
          );
    }
fields_taken Uri b e inner fields are same =
    let n = atom (codes "uri") in
    let part = is_part Uri e.name same in
    let other : (m : Name) → same_name n m ≡ false → named m (with_child b e inner) ≡ named m b =
    field_other b e inner n same part in
    let name = other (atom (codes "name")) refl in
    let email = other (atom (codes "email")) refl in
    record {
      name = are.name ∙ ap (λ xs. is_some (first_of xs)) (sym name);
      uri = field_some b e inner n same part;
      email = are.email ∙ ap (λ xs. is_some (first_of xs)) (sym email);
      refused = field_refusal b e inner n same part (is_some fields.uri) fields.refused are.uri are.refused;
      read = λ none.
          let old = are.read (or_none fields.refused
          (slot_refusal (is_some fields.uri) e.place (first_place inner)) none).0
          in (
            old.0 ∙ ap (λ xs. option_map child_text (first_of xs)) (sym name),
            field_read b e inner n same part (is_some fields.uri) fields.refused are.uri none,
            old.2 ∙ ap (λ xs. option_map child_text (first_of xs)) (sym email),
          );
    }
fields_taken Email b e inner fields are same =
    let n = atom (codes "email") in
    let part = is_part Email e.name same in
    let other : (m : Name) → same_name n m ≡ false → named m (with_child b e inner) ≡ named m b =
    field_other b e inner n same part in
    let name = other (atom (codes "name")) refl in
    let uri = other (atom (codes "uri")) refl in
    record {
      name = are.name ∙ ap (λ xs. is_some (first_of xs)) (sym name);
      uri = are.uri ∙ ap (λ xs. is_some (first_of xs)) (sym uri);
      email = field_some b e inner n same part;
      refused = field_refusal b e inner n same part (is_some fields.email) fields.refused are.email are.refused;
      read = λ none.
          let old = are.read (or_none fields.refused
          (slot_refusal (is_some fields.email) e.place (first_place inner)) none).0
          in (
            old.0 ∙ ap (λ xs. option_map child_text (first_of xs)) (sym name),
            old.1 ∙ ap (λ xs. option_map child_text (first_of xs)) (sym uri),
            field_read b e inner n same part (is_some fields.email) fields.refused are.email none,
          );
    }

or_left_none : (r : Option (ℕ × Why)) → option_or r None ≡ r
or_left_none None = refl
or_left_none (Some p) = refl

kept : (b : Content) (e : Element) (inner : Content) (r : Option (ℕ × Why)) → IsRefusalIn in_person [] b r →
    IsRefusalIn in_person (elements_of b) (element e inner nothing) None →
    IsRefusalIn in_person [] (with_child b e inner) r
kept b e inner r before own =
    subst (λ s. IsRefusalIn in_person [] (with_child b e inner) s) (or_left_none r)
    (first_with_child entry_rules in_person b e inner r None before own)

-- a child that is no field is read over
pub fields_skipped : (b : Content) (e : Element) (inner : Content) (fields : Fields) → AreFieldsOf b fields →
    is_one_of person_parts e.name ≡ false → AreFieldsOf (with_child b e inner) fields
fields_skipped b e inner fields are other =
    let apart : (f : Field) → same_name e.name (atom (field_name f)) ≡ false = λ f.
    false_from_ne_true (same_name e.name (atom (field_name f))) (λ t.
    both_ways (is_one_of person_parts e.name) other (is_part f e.name t)) in
    let name = named_other (atom (codes "name")) b e inner (apart NameField) in
    let uri = named_other (atom (codes "uri")) b e inner (apart Uri) in
    let email = named_other (atom (codes "email")) b e inner (apart Email) in
    record {
      name = are.name ∙ ap (λ xs. is_some (first_of xs)) (sym name);
      uri = are.uri ∙ ap (λ xs. is_some (first_of xs)) (sym uri);
      email = are.email ∙ ap (λ xs. is_some (first_of xs)) (sym email);
      refused = kept b e inner fields.refused are.refused (person_other (elements_of b) e inner other);
      read = λ none.
          let old = are.read none in (
            old.0 ∙ ap (λ xs. option_map child_text (first_of xs)) (sym name),
            old.1 ∙ ap (λ xs. option_map child_text (first_of xs)) (sym uri),
            old.2 ∙ ap (λ xs. option_map child_text (first_of xs)) (sym email),
          );
    }

-- a child that is read over, and a fault in it
pub skip_child : (total : ℕ) (first : List Event) (from : Point) (b : Content) (e : Element) (fields : Fields)
    (new : Elements) (r : Result (Unit {0}) TokenFault) → IsSkippedFrom total first from r new → AreFieldsOf b fields →
    is_one_of person_parts e.name ≡ false → IsFieldsChild total first from b e r fields new
skip_child total first from b e fields new (Ok done) s are other =
    (s.0, s.1, s.2, s.3, fields_skipped b e s.0 fields are other)
skip_child total first from b e fields new (Err fault) s are other = s

says_named : (n : Name) (parts : List (List ℕ)) → named n (says parts) ≡ []
says_named n [] = refl
says_named n (read ∷ more) = says_named n more

pub said_named : (n : Name) (b : Content) (parts : List (List ℕ)) → named n (joined b (says parts)) ≡ named n b
said_named n b parts =
    named_joined n b (says parts) ∙ ap (λ k. named n b ++ k) (says_named n parts) ∙ append-nil (named n b)

-- characters between the fields
pub fields_said : (b : Content) (parts : List (List ℕ)) (fields : Fields) → AreFieldsOf b fields →
    AreFieldsOf (joined b (says parts)) fields
fields_said b parts fields are =
    let name = said_named (atom (codes "name")) b parts in
    let uri = said_named (atom (codes "uri")) b parts in
    let email = said_named (atom (codes "email")) b parts in
    record {
      name = are.name ∙ ap (λ xs. is_some (first_of xs)) (sym name);
      uri = are.uri ∙ ap (λ xs. is_some (first_of xs)) (sym uri);
      email = are.email ∙ ap (λ xs. is_some (first_of xs)) (sym email);
      refused = subst (λ all. IsFirst entry_rules all fields.refused) (sym (said_placed in_person b parts)) are.refused;
      read = λ none.
          let old = are.read none in (
            old.0 ∙ ap (λ xs. option_map child_text (first_of xs)) (sym name),
            old.1 ∙ ap (λ xs. option_map child_text (first_of xs)) (sym uri),
            old.2 ∙ ap (λ xs. option_map child_text (first_of xs)) (sym email),
          );
    }

-- a person of whom nothing is read
pub no_fields : AreFieldsOf nothing (record { name = None; uri = None; email = None; refused = None })
no_fields = record {
  name = refl;
  uri = refl;
  email = refl;
  refused = All-nil (IsFaultless entry_rules);
  read = λ none. (refl, refl, refl);
}
