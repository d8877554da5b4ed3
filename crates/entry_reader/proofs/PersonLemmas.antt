-- A person: its own refusals, and those of its children.
use Rattle.std.proofs.Common.{◌≡◌, ◌⊎◌, ◌≤◌, ◌<◌, ℕ, List, [], ◌∷◌, Bool, true, false, cond, Option, Some, None}
use Rattle.std.proofs.Common.{option_map, refl, sym, ap, subst, ◌∙◌, arith, inl, codes}
use Rattle.std.specs.Prelude.{is_some, unwrap_or}
use Rattle.std.proofs.lemmas.Bool.{both_ways, cond-false, cond-true}
use Rattle.atom_values.specs.Entry.{person_limit}
use Rattle.atom_values.specs.declared.person.Person.{Person}
use Rattle.entry_reader.specs.declared.fault.Why.{Why}
use Rattle.entry_reader.specs.declared.fault.Why.TheVariants.{Missing, TooMany}
use Rattle.entry_reader.specs.declared.person.Fields.{Fields}
use Rattle.xml_tokens.specs.declared.elements.Elements.{Elements}
use Rattle.xml_tokens.specs.Tree.{Element, Content, Event}
use Rattle.xml_tokens.specs.Children.{Child, child, child_text, same_name}
use Rattle.xml_tokens.specs.Names.{app}
use Rattle.xml_tokens.specs.Order.{IsFaultless, count_before}
use Rattle.xml_tokens.specs.Progress.{AreInner, IsLed, Point}
use Rattle.entry_reader.specs.Entry.{person}
use Rattle.entry_reader.specs.Faults.{Is, IsRefusalIn, entry_rules, inside_of, is_one_of, persons, single_parts}
use Rattle.entry_reader.specs.Faults.Within.{in_entry, in_person, in_skipped, in_text}
use Rattle.entry_reader.specs.Parts.{AreFieldsOf, IsFaultlessIn, IsPartRead, count_of, named_person, person_in}
use Rattle.entry_reader.specs.Parts.{person_of}
use Rattle.entry_reader.proofs.ChildLemmas.{IsChildRefusal, a_child, beside_reason, child_inside, listed, none_of}
use Rattle.entry_reader.proofs.ChildLemmas.{refuses_read}
use Rattle.entry_reader.proofs.ItemLemmas.{item_many, item_missing}

module _ (before : List Element) (e : Element) (inner : Content) (is : is_one_of persons e.name ≡ true) where
  no_single : is_one_of single_parts e.name ≡ false
  no_single = none_of (is_one_of single_parts) persons e.name is refl

  no_control : same_name e.name (app (codes "control")) ≡ false
  no_control = none_of (λ n. same_name n (app (codes "control"))) persons e.name is refl

  -- neither a link nor a category
  a_person : {A B C : Type 0} → (A → ⊥) → (Is in_entry persons (a_child before e inner) × A)
      ⊎ (Is in_entry (codes "link" ∷ []) (a_child before e inner) × B)
      ⊎ (Is in_entry (codes "category" ∷ []) (a_child before e inner) × C) → ⊥
  a_person person h =
      listed before e inner h (λ p. person)
      (λ p b. both_ways (is_one_of (codes "link" ∷ []) e.name)
      (none_of (is_one_of (codes "link" ∷ [])) persons e.name is refl) p)
      (λ p c. both_ways (is_one_of (codes "category" ∷ []) e.name)
      (none_of (is_one_of (codes "category" ∷ [])) persons e.name is refl) p)

  -- a person without a name
  pub person_missing : child (codes "name") inner ≡ None → IsChildRefusal before e inner (Some (e.place, Missing))
  person_missing none = item_missing before e inner no_single no_control (inl ((refl, is), none))

  -- one more person than an entry may have
  pub person_many : (child (codes "name") inner ≡ None → ⊥) → person_limit ≤ count_before (a_child before e inner) →
      IsChildRefusal before e inner (Some (e.place, TooMany))
  person_many some full = item_many before e inner no_single no_control (λ p. a_person some p) (inl ((refl, is), full))

  -- a person that isn't refused itself
  pub person_own : (child (codes "name") inner ≡ None → ⊥) → count_before (a_child before e inner) < person_limit →
      IsFaultless entry_rules (a_child before e inner)
  person_own some room why =
      beside_reason before e inner no_single why
      (λ p same. both_ways (same_name e.name (app (codes "control"))) no_control p.1)
      (λ p same. a_person some p) (λ p same. a_person (λ full. omega (arith, room, full)) p)

  -- the children of a person
  pub person_inside : IsFaultless entry_rules (a_child before e inner) → (refusal : Option (ℕ × Why)) →
      IsRefusalIn in_person [] inner refusal → IsChildRefusal before e inner refusal
  person_inside own refusal children =
      let inside : inside_of in_entry e.name ≡ in_person =
      cond-false (is_one_of single_parts e.name) in_text (cond (is_one_of persons e.name) in_person in_skipped)
      no_single
      ∙ cond-true (is_one_of persons e.name) in_person in_skipped is in
      child_inside before e inner own refusal (subst (λ w. IsRefusalIn w [] inner refusal) (sym inside) children)

no_child : (o : Option Child) → false ≡ is_some o → o ≡ None
no_child None e = refl
no_child (Some c) e = absurd (both_ways true (sym e) refl)

one_child : (o : Option Child) → true ≡ is_some o → o ≡ None → ⊥
one_child o e none = both_ways (is_some o) (ap is_some none) (sym e)

module _ (total : ℕ) (first : List Event) (from : Point) (before : List Element) (e : Element) (inner : Content)
    (told : List Event) (fields : Fields) (new : Elements) (led : IsLed total first from told new)
    (are_inner : AreInner inner told) (are : AreFieldsOf inner fields) (is : is_one_of persons e.name ≡ true) where
  abbrev pub Made : Content → Person → Type 0
  Made content made =
      (made ≡ person (record { element = e; content = content })) × IsFaultlessIn in_entry before e content

  person_named : (name : List ℕ) → fields.name ≡ Some name → IsFaultless entry_rules (a_child before e inner) →
      (r : Option (ℕ × Why)) → fields.refused ≡ r →
      IsPartRead total first from in_entry before e Made (named_person name fields r) new
  person_named name has own None none =
      let read = are.read none in
      let named : name ≡ unwrap_or (option_map child_text (child (codes "name") inner)) [] =
      ap (λ o. unwrap_or o []) (sym has ∙ read.0) in (
        inner,
        told,
        led,
        are_inner,
        (
          (λ i. record { name = named i; uri = read.1 i; email = read.2 i }),
          person_inside before e inner is own None (subst (IsRefusalIn in_person [] inner) none are.refused),
        ),
      )
  person_named name has own (Some (at, why)) some = (
    told,
    led,
    refuses_read before e inner told are_inner at why
        (person_inside before e inner is own (Some (at, why))
        (subst (IsRefusalIn in_person [] inner) some are.refused)),
  )

  person_full : (name : List ℕ) → fields.name ≡ Some name → (full : Bool) →
      (full ≡ true → person_limit ≤ count_of e.name before) → (full ≡ false → count_of e.name before < person_limit) →
      IsPartRead total first from in_entry before e Made (person_in (Some name) fields e.place full) new
  person_full name has true many few =
      let some = one_child (child (codes "name") inner) (sym (ap is_some has) ∙ are.name) in
      let over = person_many before e inner is some (many refl) in
      (told, led, refuses_read before e inner told are_inner e.place TooMany over)
  person_full name has false many few =
      let some = one_child (child (codes "name") inner) (sym (ap is_some has) ∙ are.name) in
      person_named name has (person_own before e inner is some (few refl)) fields.refused refl

  -- a person whose fields are read
  pub person_read : (full : Bool) → (full ≡ true → person_limit ≤ count_of e.name before) →
      (full ≡ false → count_of e.name before < person_limit) →
      IsPartRead total first from in_entry before e Made (person_of fields e.place full) new
  person_read full many few =
      let at : (o : Option (List ℕ)) → fields.name ≡ o →
      IsPartRead total first from in_entry before e Made (person_in o fields e.place full) new = λ o.
      elim o as (λ o. fields.name ≡ o →
      IsPartRead total first from in_entry before e Made (person_in o fields e.place full) new) [
        | None ↦ λ none.
            let gone = no_child (child (codes "name") inner) (sym (ap is_some none) ∙ are.name) in
            let missing = person_missing before e inner is gone in
            (told, led, refuses_read before e inner told are_inner e.place Missing missing)
        | Some name ↦ λ has. person_full name has full many few
      ] in at fields.name refl
