-- A child of an entry: its own refusals, and those of the elements in it.
use Rattle.std.proofs.Common.{◌≡◌, ◌⊎◌, ◌≤◌, ◌<◌, ℕ, List, [], ◌∷◌, ◌++◌, Bool, true, false, cond, not, Option, Some}
use Rattle.std.proofs.Common.{None}
use Rattle.std.proofs.Common.{option_map, refl, sym, ap, subst, ◌∙◌, arith, inl, ⊎_elim, codes, IsTrue}
use Rattle.std.specs.Prelude.{is_some, ℤ, Result, Err, Ok}
use Rattle.std.specs.List.{list_all}
use Rattle.std.proofs.lemmas.Bool.{and_parts, both_ways, cond-false, cond-true, not-true, or_cases}
use Rattle.std.proofs.lemmas.List.Elements.{All-head}
use Rattle.atom_values.specs.DateText.{States}
use Rattle.atom_values.specs.Space.{trimmed}
use Rattle.entry_reader.specs.declared.fault.Why.{Why}
use Rattle.entry_reader.specs.declared.fault.Why.TheVariants.{NotUtf8, Doctype, NotWellFormed, TooDeep, NotAnEntry}
use Rattle.entry_reader.specs.declared.fault.Why.TheVariants.{Xhtml, OutOfLine, Draft, Missing, Twice, BadDate, TooMany}
use Rattle.xml_tokens.specs.Tree.{Name, Element, Content, Event, contents}
use Rattle.xml_tokens.specs.Tree.Content.{nothing, element}
use Rattle.xml_tokens.specs.Children.{attribute, same_name, text_of}
use Rattle.xml_tokens.specs.Names.{app, atom}
use Rattle.xml_tokens.specs.Order.{Placed, IsFaultless, all_placed, count_before}
use Rattle.entry_reader.specs.Faults.{Within, HasFault, HasOtherType, Is, IsPastLimit, IsRefusalIn, LacksPart}
use Rattle.entry_reader.specs.Faults.{SaysDraft, constructs, dates, entry_rules, inline_texts, inside_of, is_one_of}
use Rattle.entry_reader.specs.Faults.{persons, rank, single_parts, type_of}
use Rattle.entry_reader.specs.Faults.Within.{in_entry, in_person, in_text, in_skipped}
use Rattle.std.specs.Result.{IsErrAnd}
use Rattle.xml_tokens.specs.declared.elements.Elements.{Elements}
use Rattle.xml_tokens.specs.declared.elements.Element.{Element as RawElement}
use Rattle.entry_reader.specs.declared.fault.EarlyEnd.{EarlyEnd}
use Rattle.entry_reader.specs.declared.fault.EarlyEnd.TheVariants.{Refused}
use Rattle.xml_tokens.specs.Progress.{AreInner, IsAt, IsElementOf, IsLed, Point, first_place, pending}
use Rattle.entry_reader.specs.Parts.{IsFaultlessIn, IsPartRead, IsStopped, Refuses}
use Rattle.entry_reader.proofs.FieldLemmas.{name_is}
use Rattle.entry_reader.proofs.PlacedLemmas.{before_rest, earlier, skipped_faultless, text_refusal}
use Rattle.xml_tokens.proofs.OrderLemmas.{first_of_element, first_own, placed}
use Rattle.xml_tokens.proofs.ProgressLemmas.{led_nowhere}

-- a test that each of these names of Atom passes
pub all_of : (f : Name → Bool) (locals : List (List ℕ)) (name : Name) → is_one_of locals name ≡ true →
    list_all (λ l. f (atom l)) locals ≡ true → f name ≡ true
all_of f [] name is all = absurd (both_ways false refl is)
all_of f (l ∷ ls) name is all =
    let parts = and_parts (f (atom l)) (list_all (λ k. f (atom k)) ls) all in
    ⊎_elim
    (λ a. ap f (name_is name (atom l) a) ∙ parts.0)
    (λ b. all_of f ls name b parts.1)
    (or_cases (same_name name (atom l)) (is_one_of ls name) is)

-- a test that none of them passes
pub none_of : (f : Name → Bool) (locals : List (List ℕ)) (name : Name) → is_one_of locals name ≡ true →
    list_all (λ l. not (f (atom l))) locals ≡ true → f name ≡ false
none_of f locals name is none = not-true (f name) (all_of (λ n. not (f n)) locals name is none)

-- why an element in a text is refused
abbrev pub refused_at : ℕ → ℕ × Why
refused_at place = (place, NotAnEntry)

entry_text : in_entry ≡ in_text → ⊥
entry_text e = cc

entry_person : in_entry ≡ in_person → ⊥
entry_person e = cc

module _ (before : List Element) (e : Element) (inner : Content) where
  abbrev pub a_child : Placed Within
  a_child = placed entry_rules in_entry before e inner

  -- the first refusal of the child and the elements in it, if there is one
  abbrev pub IsChildRefusal : Option (ℕ × Why) → Type 0
  IsChildRefusal refusal = IsRefusalIn in_entry before (element e inner nothing) refusal

  -- a child is refused for one of these reasons
  pub child_reason : (other : Why) →
      (is_one_of inline_texts e.name ≡ true → HasOtherType a_child → other ≡ NotAnEntry → ⊥) →
      (is_one_of constructs e.name ≡ true → type_of a_child ≡ Some (codes "xhtml") → other ≡ Xhtml → ⊥) →
      (is_one_of (codes "content" ∷ []) e.name ≡ true →
      IsTrue (is_some (attribute (codes "src") a_child.child)) ⊎ HasOtherType a_child → other ≡ OutOfLine → ⊥) →
      (SaysDraft a_child → other ≡ Draft → ⊥) → (LacksPart a_child → other ≡ Missing → ⊥) →
      (is_one_of single_parts e.name ≡ true → 1 ≤ count_before a_child → other ≡ Twice → ⊥) →
      (is_one_of dates e.name ≡ true → ((z : ℤ) → States (trimmed (text_of inner)) z → ⊥) → other ≡ BadDate → ⊥) →
      (IsPastLimit a_child → other ≡ TooMany → ⊥) → HasFault other a_child → ⊥
  child_reason NotUtf8 inline xhtml outside draft part twice date room h = h
  child_reason Doctype inline xhtml outside draft part twice date room h = h
  child_reason NotWellFormed inline xhtml outside draft part twice date room h = h
  child_reason TooDeep inline xhtml outside draft part twice date room h = h
  child_reason NotAnEntry inline xhtml outside draft part twice date room h =
      ⊎_elim entry_text (λ p. inline p.0.1 p.1 refl) h
  child_reason Xhtml inline xhtml outside draft part twice date room h = xhtml h.0.1 h.1 refl
  child_reason OutOfLine inline xhtml outside draft part twice date room h = outside h.0.1 h.1 refl
  child_reason Draft inline xhtml outside draft part twice date room h = draft h refl
  child_reason Missing inline xhtml outside draft part twice date room h = part h refl
  child_reason Twice inline xhtml outside draft part twice date room h =
      ⊎_elim (λ p. twice p.1 h.1 refl) (λ p. entry_person p.0) h.0
  child_reason BadDate inline xhtml outside draft part twice date room h = date h.0.1 h.1 refl
  child_reason TooMany inline xhtml outside draft part twice date room h = room h refl

  -- the child is refused itself
  pub child_fault : (why : Why) → HasFault why a_child →
      ((other : Why) → rank other < rank why → HasFault other a_child → ⊥) → IsChildRefusal (Some (e.place, why))
  child_fault why fault first = first_own entry_rules in_entry before e inner why (fault, first)

  -- the child isn't refused itself
  pub child_inside : IsFaultless entry_rules a_child → (refusal : Option (ℕ × Why)) →
      IsRefusalIn (inside_of in_entry e.name) [] inner refusal → IsChildRefusal refusal
  child_inside own refusal inside = first_of_element entry_rules in_entry before e inner None refusal own inside

  pub own_faultless : IsFaultlessIn in_entry before e inner → IsFaultless entry_rules a_child
  own_faultless all =
      All-head (IsFaultless entry_rules) a_child (all_placed entry_rules (inside_of in_entry e.name) [] inner ++ []) all

  -- a person, a link or a category
  pub listed : {A B C : Type 0} → (Is in_entry persons a_child × A) ⊎ (Is in_entry (codes "link" ∷ []) a_child × B)
      ⊎ (Is in_entry (codes "category" ∷ []) a_child × C) → (is_one_of persons e.name ≡ true → A → ⊥) →
      (is_one_of (codes "link" ∷ []) e.name ≡ true → B → ⊥) →
      (is_one_of (codes "category" ∷ []) e.name ≡ true → C → ⊥) → ⊥
  listed h person link category =
      ⊎_elim (λ p. person p.0.1 p.1) (λ q. ⊎_elim (λ p. link p.0.1 p.1) (λ p. category p.0.1 p.1) q) h

  -- none of these
  pub no_list : {A B C : Type 0} → is_one_of persons e.name ≡ false → is_one_of (codes "link" ∷ []) e.name ≡ false →
      is_one_of (codes "category" ∷ []) e.name ≡ false → (Is in_entry persons a_child × A)
      ⊎ (Is in_entry (codes "link" ∷ []) a_child × B) ⊎ (Is in_entry (codes "category" ∷ []) a_child × C) → ⊥
  no_list person link category h =
      listed h (λ p a. both_ways (is_one_of persons e.name) person p)
      (λ p b. both_ways (is_one_of (codes "link" ∷ []) e.name) link p)
      (λ p c. both_ways (is_one_of (codes "category" ∷ []) e.name) category p)

  -- its attributes are no reason to refuse it
  pub record IsTyped : Type 0 where
    pub inline : is_one_of inline_texts e.name ≡ true → HasOtherType a_child → ⊥
    pub xhtml : is_one_of constructs e.name ≡ true → type_of a_child ≡ Some (codes "xhtml") → ⊥
    pub outside : is_one_of (codes "content" ∷ []) e.name ≡ true →
        IsTrue (is_some (attribute (codes "src") a_child.child)) ⊎ HasOtherType a_child → ⊥

  -- a child that is no text construct
  pub untyped : is_one_of constructs e.name ≡ false → IsTyped
  untyped other =
      let none : (locals : List (List ℕ)) → list_all (λ l. is_one_of constructs (atom l)) locals ≡ true →
      is_one_of locals e.name ≡ true → ⊥ = λ locals all is.
      both_ways (is_one_of constructs e.name) other (all_of (is_one_of constructs) locals e.name is all) in
      record {
        inline = λ p o. none inline_texts refl p;
        xhtml = λ p x. none constructs refl p;
        outside = λ p h. none (codes "content" ∷ []) refl p;
      }

  -- a child that an entry has once at most
  pub single_reason : is_one_of single_parts e.name ≡ true → (other : Why) →
      (is_one_of inline_texts e.name ≡ true → HasOtherType a_child → other ≡ NotAnEntry → ⊥) →
      (is_one_of constructs e.name ≡ true → type_of a_child ≡ Some (codes "xhtml") → other ≡ Xhtml → ⊥) →
      (is_one_of (codes "content" ∷ []) e.name ≡ true →
      IsTrue (is_some (attribute (codes "src") a_child.child)) ⊎ HasOtherType a_child → other ≡ OutOfLine → ⊥) →
      (1 ≤ count_before a_child → other ≡ Twice → ⊥) →
      (is_one_of dates e.name ≡ true → ((z : ℤ) → States (trimmed (text_of inner)) z → ⊥) → other ≡ BadDate → ⊥) →
      HasFault other a_child → ⊥
  single_reason is other inline xhtml outside twice date =
      let control = none_of (λ n. same_name n (app (codes "control"))) single_parts e.name is refl in
      let person = none_of (is_one_of persons) single_parts e.name is refl in
      let link = none_of (is_one_of (codes "link" ∷ [])) single_parts e.name is refl in
      let category = none_of (is_one_of (codes "category" ∷ [])) single_parts e.name is refl in
      child_reason other inline xhtml outside
      (λ p same. both_ways (same_name e.name (app (codes "control"))) control p.1)
      (λ p same. no_list person link category p) (λ single. twice) date (λ p same. no_list person link category p)

  -- a second one
  pub single_twice : is_one_of single_parts e.name ≡ true → IsTyped → 1 ≤ count_before a_child →
      IsChildRefusal (Some (e.place, Twice))
  single_twice is typed more =
      child_fault Twice (inl (refl, is), more)
      (λ other low. single_reason is other (λ p q same. typed.inline p q) (λ p q same. typed.xhtml p q)
      (λ p q same. typed.outside p q) (λ p. earlier Twice other Twice low (omega arith))
      (λ p q. earlier Twice other BadDate low (omega arith)))

  -- a first one
  pub single_own : is_one_of single_parts e.name ≡ true → IsTyped → count_before a_child ≡ 0 →
      (is_one_of dates e.name ≡ true → ((z : ℤ) → States (trimmed (text_of inner)) z → ⊥) → ⊥) →
      IsFaultless entry_rules a_child
  single_own is typed none date why =
      single_reason is why (λ p q same. typed.inline p q) (λ p q same. typed.xhtml p q)
      (λ p q same. typed.outside p q) (λ p same. let zero = none in omega arith) (λ p q same. date p q)

  -- a date whose text states none
  pub date_bad : is_one_of dates e.name ≡ true → IsTyped → count_before a_child ≡ 0 →
      ((z : ℤ) → States (trimmed (text_of inner)) z → ⊥) → IsChildRefusal (Some (e.place, BadDate))
  date_bad is typed none bad =
      child_fault BadDate ((refl, is), bad)
      (λ other low. single_reason (all_of (is_one_of single_parts) dates e.name is refl) other
      (λ p q same. typed.inline p q) (λ p q same. typed.xhtml p q) (λ p q same. typed.outside p q)
      (λ p same. let zero = none in omega arith) (λ p q. earlier BadDate other BadDate low (omega arith)))

  -- the elements in it
  pub single_inside : is_one_of single_parts e.name ≡ true → IsFaultless entry_rules a_child →
      (refusal : Option (ℕ × Why)) → option_map refused_at (first_place inner) ≡ refusal → IsChildRefusal refusal
  single_inside is own refusal same =
      child_inside own refusal
      (subst (λ w. IsRefusalIn w [] inner refusal)
      (sym (cond-true (is_one_of single_parts e.name) in_text (cond (is_one_of persons e.name) in_person in_skipped)
      is))
      (subst (IsRefusalIn in_text [] inner) same (text_refusal [] inner)))

  -- a child whose elements are read over
  pub skipped_child : is_one_of single_parts e.name ≡ false → is_one_of persons e.name ≡ false →
      IsFaultless entry_rules a_child → IsChildRefusal None
  skipped_child single person own =
      let inside : inside_of in_entry e.name ≡ in_skipped =
      cond-false (is_one_of single_parts e.name) in_text (cond (is_one_of persons e.name) in_person in_skipped) single
      ∙ cond-false (is_one_of persons e.name) in_person in_skipped person in
      child_inside own None (subst (λ w. IsRefusalIn w [] inner None) (sym inside) (skipped_faultless [] inner))

  -- a child that an entry may have more than once, or that is no part of it
  pub beside_reason : is_one_of single_parts e.name ≡ false → (other : Why) → (SaysDraft a_child → other ≡ Draft → ⊥) →
      (LacksPart a_child → other ≡ Missing → ⊥) → (IsPastLimit a_child → other ≡ TooMany → ⊥) →
      HasFault other a_child → ⊥
  beside_reason single other draft part room =
      let none : (locals : List (List ℕ)) → list_all (λ l. is_one_of single_parts (atom l)) locals ≡ true →
      is_one_of locals e.name ≡ true → ⊥ = λ locals all is.
      both_ways (is_one_of single_parts e.name) single (all_of (is_one_of single_parts) locals e.name is all) in
      child_reason other (λ p q same. none inline_texts refl p) (λ p q same. none constructs refl p)
      (λ p q same. none (codes "content" ∷ []) refl p) draft part (λ p q same. none single_parts refl p)
      (λ p q same. none dates refl p) room

-- a child that is refused when its content is read
pub refuses_read : (before : List Element) (e : Element) (inner : Content) (told : List Event) → AreInner inner told →
    (at : ℕ) (why : Why) → IsChildRefusal before e inner (Some (at, why)) → Refuses in_entry before e told at why
refuses_read before e inner told are at why fault later content rest outer same =
    let whole : inner ∷ contents later ≡ content ∷ (rest ∷ outer) = sym (are later) ∙ same in
    let one : inner ≡ content = cc in
    before_rest in_entry before e content rest (at, why)
    (subst (λ k. IsChildRefusal before e k (Some (at, why))) one fault)

-- a part that is stopped
pub stop_is : {A : Type 0} (P : Result A EarlyEnd → Type 0) (stop : EarlyEnd) (r : Result A EarlyEnd) →
    IsErrAnd r (λ s. s ≡ stop) → P (Err stop) → P r
stop_is P stop (Ok v) same none = absurd same
stop_is {A} P stop (Err x) same none =
    let F : EarlyEnd → Type 0 = λ s. P (Err s) in
    subst F (sym same) none

-- a part that ends early
pub part_stopped : {A : Type 0} (total : ℕ) (first : List Event) (from : Point) (before : List Element) (e : Element)
    (R : Content → A → Type 0) (stop : EarlyEnd) (r : Result A EarlyEnd) (new : Elements) → IsErrAnd r (λ s. s ≡ stop) →
    IsStopped total first from in_entry before e stop new → IsPartRead total first from in_entry before e R r new
part_stopped total first from before e R stop r new same stopped =
    stop_is (λ r. IsPartRead total first from in_entry before e R r new) stop r same stopped

-- a child that is refused itself before its content is read
pub stopped_here : (old : Elements) (from : Point) (before : List Element) (e : Element) (raw : RawElement)
    (stop : EarlyEnd) (why : Why) → IsAt old from → IsElementOf e raw → stop ≡ Refused raw.at why →
    ((inner : Content) → IsChildRefusal before e inner (Some (e.place, why))) →
    IsStopped old.length (pending old) from in_entry before e stop old
stopped_here old from before e raw stop why at of same fault =
    subst (λ s. IsStopped old.length (pending old) from in_entry before e s old)
    (ap (λ place. Refused place why) of.place ∙ sym same) (
      [],
      led_nowhere old from at,
      λ later inner rest outer whole. before_rest in_entry before e inner rest (e.place, why) (fault inner),
    )

-- a child that is refused itself when its content is read
pub stopped_read : (total : ℕ) (first : List Event) (from : Point) (before : List Element) (e : Element)
    (raw : RawElement) (stop : EarlyEnd) (why : Why) (inner : Content) (told : List Event) (new : Elements) →
    IsLed total first from told new → AreInner inner told → IsElementOf e raw → stop ≡ Refused raw.at why →
    IsChildRefusal before e inner (Some (e.place, why)) → IsStopped total first from in_entry before e stop new
stopped_read total first from before e raw stop why inner told new led are of same fault =
    subst (λ s. IsStopped total first from in_entry before e s new)
    (ap (λ place. Refused place why) of.place ∙ sym same)
    (told, led, refuses_read before e inner told are e.place why fault)

-- an option that has nothing
pub no_some : {A : Type 0} (o : Option A) → ((x : A) → o ≡ Some x → ⊥) → o ≡ None
no_some None none = refl
no_some (Some x) none = absurd (none x refl)
