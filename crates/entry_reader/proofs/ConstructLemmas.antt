-- Text constructs: what their types state.
use Rattle.std.proofs.Common.{◌≡◌, ◌≢◌, ◌<◌, ℕ, List, [], ◌∷◌, Bool, true, false, cond, ◌||◌, Option, Some, None, Ok}
use Rattle.std.proofs.Common.{Err}
use Rattle.std.proofs.Common.{refl, sym, ap, subst, ◌∙◌, arith, inl, inr, ⊎_elim, bytes_eq, codes}
use Rattle.std.specs.Prelude.{is_some, unwrap_or}
use Rattle.std.proofs.lemmas.Bool.{both_ways, cases_Bool, or_cases}
use Rattle.atom_values.specs.declared.text.TextKind.{TextKind}
use Rattle.atom_values.specs.declared.text.TextKind.TheVariants.{Plain, Html}
use Rattle.entry_reader.specs.declared.fault.Why.{Why}
use Rattle.entry_reader.specs.declared.fault.Why.TheVariants.{NotAnEntry, Xhtml, OutOfLine, Twice, BadDate}
use Rattle.xml_tokens.specs.Tree.{Element, Content}
use Rattle.xml_tokens.specs.Children.{attribute, same_name}
use Rattle.xml_tokens.specs.Names.{atom}
use Rattle.entry_reader.specs.Faults.{HasFault, HasOtherType, constructs, dates, inline_texts, is_one_of, rank}
use Rattle.entry_reader.specs.Faults.{single_parts, type_of}
use Rattle.entry_reader.specs.Parts.{IsConstructKind, IsKindRead}
use Rattle.entry_reader.proofs.ChildLemmas.{IsChildRefusal, IsTyped, a_child, all_of, child_fault, none_of}
use Rattle.entry_reader.proofs.ChildLemmas.{single_reason}
use Rattle.entry_reader.proofs.PlacedLemmas.{earlier}

-- no other type is one that is read
pub kind_known : (type : Option (List ℕ)) (unknown : Why) (k : TextKind) → IsKindRead type unknown (Ok k) →
    (kind : List ℕ) → type ≡ Some kind → kind ≢ codes "text" → kind ≢ codes "html" → ⊥
kind_known type unknown Plain read kind some text html =
    ⊎_elim
    (λ none. let bad : None ≡ Some kind = sym none ∙ some in cc)
    (λ same. let one : Some kind ≡ Some (codes "text") = sym some ∙ same in
    let two : kind ≡ codes "text" = cc in text two)
    read
kind_known type unknown Html read kind some text html =
    let one : Some kind ≡ Some (codes "html") = sym some ∙ read in
    let two : kind ≡ codes "html" = cc in html two

pub kind_xhtml : (type : Option (List ℕ)) (unknown : Why) (k : TextKind) → IsKindRead type unknown (Ok k) →
    type ≡ Some (codes "xhtml") → ⊥
kind_xhtml type unknown k read some =
    kind_known type unknown k read (codes "xhtml") some (λ same. cc) (λ same. cc)

pub kind_value : (type : Option (List ℕ)) (unknown : Why) (k : TextKind) → IsKindRead type unknown (Ok k) →
    k ≡ cond (bytes_eq (unwrap_or type (codes "text")) (codes "html")) Html Plain
kind_value type unknown Plain read =
    let P : Option (List ℕ) → Type 0 = λ t.
    Plain ≡ cond (bytes_eq (unwrap_or t (codes "text")) (codes "html")) Html Plain in
    ⊎_elim (λ none. subst P (sym none) refl) (λ text. subst P (sym text) refl) read
kind_value type unknown Html read =
    let P : Option (List ℕ) → Type 0 = λ t.
    Html ≡ cond (bytes_eq (unwrap_or t (codes "text")) (codes "html")) Html Plain in
    subst P (sym read) refl

module _ (before : List Element) (e : Element) (inner : Content) (is : is_one_of constructs e.name ≡ true) where
  -- a reason that is tried before a second element
  early : (other : Why) →
      (is_one_of inline_texts e.name ≡ true → HasOtherType (a_child before e inner) → other ≡ NotAnEntry → ⊥) →
      (type_of (a_child before e inner) ≡ Some (codes "xhtml") → other ≡ Xhtml → ⊥) → rank other < 3 →
      HasFault other (a_child before e inner) → ⊥
  early other inline xhtml low =
      single_reason before e inner (all_of (is_one_of single_parts) constructs e.name is refl) other inline
      (λ p. xhtml) (λ p q. earlier OutOfLine other OutOfLine low (omega arith))
      (λ p. earlier OutOfLine other Twice low (omega arith)) (λ p q. earlier OutOfLine other BadDate low (omega arith))

  -- a construct with an unknown type or with xhtml
  construct_kind : (is_content : Bool) (why : Why) → is_content ≡ same_name e.name (atom (codes "content")) →
      IsKindRead (type_of (a_child before e inner)) (cond is_content OutOfLine NotAnEntry) (Err why) →
      IsChildRefusal before e inner (Some (e.place, why))
  construct_kind is_content why content read =
      let G : Why → Type 0 = λ w. IsChildRefusal before e inner (Some (e.place, w)) in
      let type : Option (List ℕ) = type_of (a_child before e inner) in
      ⊎_elim
      (λ x. subst G (sym x.1)
      (child_fault before e inner Xhtml ((refl, is), x.0)
      (λ other low. early other (λ p o same. let one : Some o.0 ≡ Some (codes "xhtml") = sym o.1 ∙ x.0 in
      let two : o.0 ≡ codes "xhtml" = cc in o.4 two) (λ p. earlier Xhtml other Xhtml low (omega arith)) (omega arith))))
      (λ y.
      let other_type : HasOtherType (a_child before e inner) = y.0 in
      let no_xhtml : type ≡ Some (codes "xhtml") → ⊥ = λ x.
      let one : Some other_type.0 ≡ Some (codes "xhtml") = sym other_type.1 ∙ x in
      let two : other_type.0 ≡ codes "xhtml" = cc in other_type.4 two in
      let at : (b : Bool) → b ≡ same_name e.name (atom (codes "content")) → G (cond b OutOfLine NotAnEntry) = λ b.
      elim b as (λ b. b ≡ same_name e.name (atom (codes "content")) → G (cond b OutOfLine NotAnEntry)) [
        | true ↦ λ named.
            let one : is_one_of (codes "content" ∷ []) e.name ≡ true =
            ap (λ t. t || false) (sym named) in
            child_fault before e inner OutOfLine ((refl, one), inr other_type)
            (λ other low. early other
            (λ p o same. both_ways (is_one_of inline_texts e.name)
            (none_of (is_one_of inline_texts) (codes "content" ∷ []) e.name one refl) p)
            (λ x same. no_xhtml x) low)
        | false ↦ λ named.
            let inline : is_one_of inline_texts e.name ≡ true =
            ap (λ t. t || is_one_of inline_texts e.name) named ∙ is in
            child_fault before e inner NotAnEntry (inr ((refl, inline), other_type))
            (λ other low. early other (λ p o. earlier NotAnEntry other NotAnEntry low (omega arith))
            (λ x. earlier NotAnEntry other Xhtml low (omega arith)) (omega arith))
      ] in subst G (sym y.1) (at is_content content))
      read

  -- content that is elsewhere
  construct_src : (unknown : Why) (k : TextKind) → IsKindRead (type_of (a_child before e inner)) unknown (Ok k) →
      same_name e.name (atom (codes "content")) ≡ true →
      is_some (attribute (codes "src") (a_child before e inner).child) ≡ true →
      IsChildRefusal before e inner (Some (e.place, OutOfLine))
  construct_src unknown k read content src =
      let type : Option (List ℕ) = type_of (a_child before e inner) in
      child_fault before e inner OutOfLine ((refl, ap (λ t. t || false) content), inl src)
      (λ other low. early other (λ p o same. kind_known type unknown k read o.0 o.1 o.2 o.3)
      (λ x same. kind_xhtml type unknown k read x) low)

  -- a construct whose type is read, and that isn't elsewhere
  construct_typed : (unknown : Why) (k : TextKind) → IsKindRead (type_of (a_child before e inner)) unknown (Ok k) →
      (same_name e.name (atom (codes "content")) ≡ true →
      is_some (attribute (codes "src") (a_child before e inner).child) ≡ true → ⊥) → IsTyped before e inner
  construct_typed unknown k read src =
      let type : Option (List ℕ) = type_of (a_child before e inner) in
      record {
        inline = λ p o. kind_known type unknown k read o.0 o.1 o.2 o.3;
        xhtml = λ p x. kind_xhtml type unknown k read x;
        outside = λ p h.
            ⊎_elim
            (λ s. ⊎_elim (λ c. src c s) (λ none. both_ways false refl none)
            (or_cases (same_name e.name (atom (codes "content"))) false p))
            (λ o. kind_known type unknown k read o.0 o.1 o.2 o.3)
            h;
      }

  -- why a construct is refused for its attributes
  pub construct_refused : (why : Why) → IsConstructKind e (Err why) →
      IsChildRefusal before e inner (Some (e.place, why))
  construct_refused why read =
      ⊎_elim
      (λ content. ⊎_elim
      (λ type. construct_kind true why (sym content) type)
      (λ src. subst (λ w. IsChildRefusal before e inner (Some (e.place, w))) (sym src.3)
      (construct_src OutOfLine src.0 src.1 content src.2))
      (read.0 content))
      (λ other. construct_kind false why (sym other) (read.1 other))
      (cases_Bool (same_name e.name (atom (codes "content"))))

  -- a construct that isn't refused for its attributes
  pub construct_read : (k : TextKind) → IsConstructKind e (Ok k) →
      IsTyped before e inner
      × (k ≡ cond (bytes_eq (unwrap_or (type_of (a_child before e inner)) (codes "text")) (codes "html")) Html Plain)
  construct_read k read =
      let type : Option (List ℕ) = type_of (a_child before e inner) in
      ⊎_elim
      (λ content.
      let known = read.0 content in (
        construct_typed OutOfLine k known.0 (λ c src.
            both_ways (is_some (attribute (codes "src") (a_child before e inner).child)) (ap is_some known.1) src),
        kind_value type OutOfLine k known.0,
      ))
      (λ other. (
        construct_typed NotAnEntry k (read.1 other) (λ content src.
            both_ways (same_name e.name (atom (codes "content"))) other content),
        kind_value type NotAnEntry k (read.1 other),
      ))
      (cases_Bool (same_name e.name (atom (codes "content"))))

  pub construct_date : is_one_of dates e.name ≡ true → ⊥
  construct_date date =
      both_ways (is_one_of dates e.name) (none_of (is_one_of dates) constructs e.name is refl) date
