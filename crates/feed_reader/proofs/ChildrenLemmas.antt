-- What is said of the elements of a content alone, whatever characters are between them.
use Rattle.std.proofs.Common.{◌≡◌, ℕ, List, [], ◌∷◌, ◌++◌, ap, refl}
use Rattle.std.specs.Prelude.{Result}
use Rattle.std.specs.Result.{IsErrAnd}
use Rattle.xml_tokens.specs.declared.elements.Elements.{Elements}
use Rattle.xml_tokens.specs.declared.fault.TokenFault.{TokenFault}
use Rattle.xml_tokens.specs.Progress.{IsFaultFrom, Point}
use Rattle.feed_reader.specs.Rest.{IsRestRead}
use Rattle.xml_tokens.specs.Tree.{Event}
use Rattle.xml_tokens.proofs.ProgressLemmas.{err_is}
use Rattle.xml_tokens.specs.Tree.{Name, Element, Content}
use Rattle.xml_tokens.specs.Tree.Content.{nothing, said, element}
use Rattle.xml_tokens.specs.Children.{children, named, named_in, joined, with_child}
use Rattle.xml_tokens.specs.Order.{Rules, all_placed}
use Rattle.feed_reader.specs.Rest.{elements_only}
use Rattle.xml_tokens.proofs.ContentLemmas.{says}

pub only_children : (c : Content) → children (elements_only c) ≡ children c
only_children nothing = refl
only_children (said read c) = only_children c
only_children (element e inner c) = ap (λ cs. record { element = e; content = inner } ∷ cs) (only_children c)

pub only_named : (name : Name) (c : Content) → named name (elements_only c) ≡ named name c
only_named name c = ap (named_in name) (only_children c)

pub only_placed : {Place Reason : Type 0} (rules : Rules Place Reason) (within : Place) (before : List Element)
    (c : Content) → all_placed rules within before (elements_only c) ≡ all_placed rules within before c
only_placed rules within before nothing = refl
only_placed rules within before (said read c) = only_placed rules within before c
only_placed rules within before (element e inner c) =
    ap (λ ps. record { within = within; before = before; child = record { element = e; content = inner } }
    ∷ all_placed rules (rules.inside within e.name) [] inner ++ ps) (only_placed rules within (before ++ e ∷ []) c)

-- characters after a content
pub only_says : (b : Content) (parts : List (List ℕ)) → elements_only (joined b (says parts)) ≡ elements_only b
only_says nothing [] = refl
only_says nothing (read ∷ parts) = only_says nothing parts
only_says (said read b) parts = only_says b parts
only_says (element e inner b) parts = ap (element e inner) (only_says b parts)

-- a child after a content
pub only_with_child : (b : Content) (e : Element) (inner : Content) →
    elements_only (with_child b e inner) ≡ with_child (elements_only b) e inner
only_with_child nothing e inner = refl
only_with_child (said read b) e inner = only_with_child b e inner
only_with_child (element f deep b) e inner = ap (element f deep) (only_with_child b e inner)

-- why the rest of an element isn't read
pub rest_err : {A : Type 0} (R : Content → A → Type 0) (total : ℕ) (first : List Event) (from : Point) (new : Elements)
    (e : TokenFault) (r : Result A TokenFault) → IsErrAnd r (λ s. s ≡ e) → IsFaultFrom total from e →
    IsRestRead R total first from r new
rest_err R total first from new e r same fault = err_is (λ k. IsRestRead R total first from k new) e r same fault
