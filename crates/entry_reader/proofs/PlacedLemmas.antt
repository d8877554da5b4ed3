-- The children of a name, and the refusals of elements in a person, in a text, and in an element that is skipped.
use Rattle.std.proofs.Common.{◌≡◌, ◌≤◌, ◌<◌, ℕ, List, [], ◌∷◌, ◌++◌, true, false, cond, Option, Some, None, ◌==◌}
use Rattle.std.proofs.Common.{option_map, refl, sym, ap, subst, ◌∙◌, arith, inl, inr, ⊎_elim}
use Rattle.std.specs.Prelude.{if◌then◌else◌}
use Rattle.std.proofs.lemmas.Bool.{cond-true, cond-false, both_ways}
use Rattle.std.proofs.lemmas.List.{append-nil}
use Rattle.std.proofs.lemmas.List.Elements.{All-nil}
use Rattle.entry_reader.specs.declared.fault.Why.{Why}
use Rattle.entry_reader.specs.declared.fault.Why.TheVariants.{NotUtf8, Doctype, NotWellFormed, TooDeep, NotAnEntry}
use Rattle.entry_reader.specs.declared.fault.Why.TheVariants.{Xhtml, OutOfLine, Draft, Missing, Twice, BadDate, TooMany}
use Rattle.xml_tokens.specs.Tree.{Name, Element, Content}
use Rattle.xml_tokens.specs.Tree.Content.{nothing, said, element}
use Rattle.xml_tokens.specs.Children.{Child, children, joined, named, named_in, same_name, with_child}
use Rattle.xml_tokens.specs.Order.{Placed, IsFaultless, IsFirst, all_placed, count_before}
use Rattle.xml_tokens.specs.Progress.{first_place}
use Rattle.entry_reader.specs.Faults.{Within, HasFault, Is, IsRefusalIn, entry_rules, is_one_of, person_parts, rank}
use Rattle.entry_reader.specs.Faults.Within.{in_entry, in_person, in_text, in_skipped}
use Rattle.entry_reader.specs.Parts.{elements_of}
use Rattle.xml_tokens.proofs.ContentLemmas.{children_joined, says}
use Rattle.xml_tokens.proofs.OrderLemmas.{first_of_element, first_own, first_stays, placed, placed_joined, silent_place}

named_append : (name : Name) (xs ys : List Child) → named_in name (xs ++ ys) ≡ named_in name xs ++ named_in name ys
named_append name [] ys = refl
named_append name (c ∷ cs) ys =
    elim (same_name c.element.name name) as (λ t.
    cond t (c ∷ named_in name (cs ++ ys)) (named_in name (cs ++ ys))
    ≡ cond t (c ∷ named_in name cs) (named_in name cs) ++ named_in name ys)
    [ true ↦ ap (λ k. c ∷ k) (named_append name cs ys) | false ↦ named_append name cs ys ]

-- the children with a name
pub named_joined : (name : Name) (b c : Content) → named name (joined b c) ≡ named name b ++ named name c
named_joined name b c =
    ap (named_in name) (children_joined b c) ∙ named_append name (children b) (children c)

pub named_other : (name : Name) (b : Content) (e : Element) (inner : Content) → same_name e.name name ≡ false →
    named name (with_child b e inner) ≡ named name b
named_other name b e inner other =
    named_joined name b (element e inner nothing)
    ∙ ap (λ k. named name b ++ k)
    (cond-false (same_name e.name name) (record { element = e; content = inner } ∷ []) [] other)
    ∙ append-nil (named name b)

pub named_more : (name : Name) (b : Content) (e : Element) (inner : Content) → same_name e.name name ≡ true →
    named name (with_child b e inner) ≡ named name b ++ record { element = e; content = inner } ∷ []
named_more name b e inner same =
    named_joined name b (element e inner nothing)
    ∙ ap (λ k. named name b ++ k)
    (cond-true (same_name e.name name) (record { element = e; content = inner } ∷ []) [] same)

says_placed : (within : Within) (before : List Element) (parts : List (List ℕ)) →
    all_placed entry_rules within before (says parts) ≡ []
says_placed within before [] = refl
says_placed within before (read ∷ more) = says_placed within before more

-- characters after a content are no elements
pub said_placed : (within : Within) (b : Content) (parts : List (List ℕ)) →
    all_placed entry_rules within [] (joined b (says parts)) ≡ all_placed entry_rules within [] b
said_placed within b parts =
    placed_joined entry_rules within [] b (says parts)
    ∙ ap (λ k. all_placed entry_rules within [] b ++ k) (says_placed within (elements_of b) parts)
    ∙ append-nil (all_placed entry_rules within [] b)

-- an element that is refused, or one in it, is the first refusal whatever is behind the element
pub before_rest : (within : Within) (before : List Element) (e : Element) (inner rest : Content) (refusal : ℕ × Why) →
    IsRefusalIn within before (element e inner nothing) (Some refusal) →
    IsRefusalIn within before (element e inner rest) (Some refusal)
before_rest within before e inner rest refusal first =
    subst (λ all. IsFirst entry_rules all (Some refusal))
    (sym (placed_joined entry_rules within before (element e inner nothing) rest))
    (first_stays entry_rules (all_placed entry_rules within before (element e inner nothing))
    (all_placed entry_rules within (before ++ e ∷ []) rest) refusal first)

-- the reason of a rank
abbrev pub ranked : ℕ → Why
ranked n =
    if n == 1 then NotAnEntry else (if n == 2 then Xhtml else (if n == 3 then OutOfLine else (if n == 4 then Draft
    else (if n == 5 then Missing else (if n == 6 then Twice else (if n == 7 then BadDate else TooMany))))))

-- the reason of an element, by its rank
pub reason_ranked : (p : Placed Within) (why : Why) → HasFault why p → ranked (rank why) ≡ why
reason_ranked p NotUtf8 h = absurd h
reason_ranked p Doctype h = absurd h
reason_ranked p NotWellFormed h = absurd h
reason_ranked p TooDeep h = absurd h
reason_ranked p NotAnEntry h = refl
reason_ranked p Xhtml h = refl
reason_ranked p OutOfLine h = refl
reason_ranked p Draft h = refl
reason_ranked p Missing h = refl
reason_ranked p Twice h = refl
reason_ranked p BadDate h = refl
reason_ranked p TooMany h = refl

-- a reason that is tried earlier isn't one that is tried later
pub earlier : (why other later : Why) → rank other < rank why → rank why ≤ rank later → other ≡ later → ⊥
earlier why other later low high same = let place : rank other ≡ rank later = ap rank same in omega arith

-- no reason of an element is tried before this one
first_reason : (p : Placed Within) (other : Why) → rank other < 1 → HasFault other p → ⊥
first_reason p other low h =
    let zero : rank other ≡ 0 = omega (arith, low) in
    let eight : 8 ≡ rank other = ap (λ n. rank (ranked n)) (sym zero) ∙ ap rank (reason_ranked p other h) in
    omega (arith, zero, eight)

-- an element that is neither in an entry nor in a text is refused if it is a second one in a person, and else not
only_twice : (p : Placed Within) (why : Why) → (p.within ≡ in_entry → ⊥) → (p.within ≡ in_text → ⊥) →
    HasFault why p → (why ≡ Twice) × Is in_person person_parts p × (1 ≤ count_before p)
only_twice p NotUtf8 entry text h = absurd h
only_twice p Doctype entry text h = absurd h
only_twice p NotWellFormed entry text h = absurd h
only_twice p TooDeep entry text h = absurd h
only_twice p NotAnEntry entry text h = absurd (⊎_elim text (λ q. entry q.0.0) h)
only_twice p Xhtml entry text h = absurd (entry h.0.0)
only_twice p OutOfLine entry text h = absurd (entry h.0.0)
only_twice p Draft entry text h = absurd (entry h.0)
only_twice p Missing entry text h =
    absurd (⊎_elim (λ q. entry q.0.0) (λ r. ⊎_elim (λ q. entry q.0.0) (λ q. entry q.0.0) r) h)
only_twice p Twice entry text h = (refl, ⊎_elim (λ q. absurd (entry q.0)) (λ q. q) h.0, h.1)
only_twice p BadDate entry text h = absurd (entry h.0.0)
only_twice p TooMany entry text h =
    absurd (⊎_elim (λ q. entry q.0.0) (λ r. ⊎_elim (λ q. entry q.0.0) (λ q. entry q.0.0) r) h)

skipped_entry : in_skipped ≡ in_entry → ⊥
skipped_entry e = cc

skipped_text : in_skipped ≡ in_text → ⊥
skipped_text e = cc

skipped_person : in_skipped ≡ in_person → ⊥
skipped_person e = cc

-- no element of one that is skipped is refused
pub skipped_faultless : (before : List Element) (c : Content) → IsRefusalIn in_skipped before c None
skipped_faultless before c =
    silent_place entry_rules in_skipped (λ name. refl)
    (λ p is why h. skipped_person (sym is
    ∙ (only_twice p why (λ e. skipped_entry (sym is ∙ e)) (λ e. skipped_text (sym is ∙ e)) h).1.0))
    before c

-- the first element in a text is refused
pub text_refusal : (before : List Element) (c : Content) →
    IsRefusalIn in_text before c (option_map (λ at. (at, NotAnEntry)) (first_place c))
text_refusal before nothing = All-nil (IsFaultless entry_rules)
text_refusal before (said read c) = text_refusal before c
text_refusal before (element e inner c) =
    before_rest in_text before e inner c (e.place, NotAnEntry)
    (first_own entry_rules in_text before e inner NotAnEntry
    (inl refl, first_reason (placed entry_rules in_text before e inner)))

person_entry : in_person ≡ in_entry → ⊥
person_entry e = cc

person_text : in_person ≡ in_text → ⊥
person_text e = cc

module _ (before : List Element) (e : Element) (inner : Content) where
  abbrev pub in_a_person : Placed Within
  in_a_person = placed entry_rules in_person before e inner

  person_reason : (why : Why) → HasFault why in_a_person →
      (why ≡ Twice) × Is in_person person_parts in_a_person × (1 ≤ count_before in_a_person)
  person_reason why h = only_twice in_a_person why person_entry person_text h

  -- an element of another name in a person
  pub person_other : is_one_of person_parts e.name ≡ false →
      IsRefusalIn in_person before (element e inner nothing) None
  person_other other =
      first_of_element entry_rules in_person before e inner None None
      (λ why h. both_ways (is_one_of person_parts e.name) other (person_reason why h).1.1)
      (subst (λ w. IsRefusalIn w [] inner None)
      (sym (cond-false (is_one_of person_parts e.name) in_text in_skipped other)) (skipped_faultless [] inner))

  -- a second element of a name in a person
  pub person_twice : is_one_of person_parts e.name ≡ true → 1 ≤ count_before in_a_person →
      IsRefusalIn in_person before (element e inner nothing) (Some (e.place, Twice))
  person_twice field more =
      first_own entry_rules in_person before e inner Twice
      ((inr (refl, field), more), λ other low h. earlier Twice other Twice low (omega arith) (person_reason other h).0)

  -- a first one
  pub person_once : is_one_of person_parts e.name ≡ true → count_before in_a_person ≡ 0 →
      IsRefusalIn in_person before (element e inner nothing) (option_map (λ at. (at, NotAnEntry)) (first_place inner))
  person_once field none =
      let first : Option (ℕ × Why) = option_map (λ at. (at, NotAnEntry)) (first_place inner) in
      first_of_element entry_rules in_person before e inner None first
      (λ why h. let one = (person_reason why h).2 in omega (arith, none, one))
      (subst (λ w. IsRefusalIn w [] inner first)
      (sym (cond-true (is_one_of person_parts e.name) in_text in_skipped field)) (text_refusal [] inner))
