-- The children of a name, and names that are told to be the same.
use Rattle.std.proofs.Common.{◌≡◌, List, [], ◌∷◌, ◌++◌, true, false, cond, refl, ap, ◌∙◌, bytes_eq}
use Rattle.std.proofs.lemmas.Bool.{and_parts, cond-true, cond-false}
use Rattle.std.proofs.lemmas.List.{append-nil}
use Rattle.std.proofs.lemmas.Slice.Eq.{bytes_eq-Decides}
use Rattle.xml_tokens.specs.Tree.{Name, Element, Content}
use Rattle.xml_tokens.specs.Tree.Content.{nothing, element}
use Rattle.xml_tokens.specs.Children.{Child, children, joined, named, named_in, same_name, with_child}
use Rattle.xml_tokens.proofs.ContentLemmas.{children_joined}

-- two names that are told to be the same are
pub name_is : (a b : Name) → same_name a b ≡ true → a ≡ b
name_is a b is =
    let p = and_parts (bytes_eq a.namespace b.namespace) (bytes_eq a.local b.local) is in
    let n = (bytes_eq-Decides a.namespace b.namespace).0 p.0 in
    let l = (bytes_eq-Decides a.local b.local).0 p.1 in
    λ i. record { namespace = n i; local = l i }

named_append : (name : Name) (xs ys : List Child) → named_in name (xs ++ ys) ≡ named_in name xs ++ named_in name ys
named_append name [] ys = refl
named_append name (c ∷ cs) ys =
    elim (same_name c.element.name name) as (λ t.
    cond t (c ∷ named_in name (cs ++ ys)) (named_in name (cs ++ ys))
    ≡ cond t (c ∷ named_in name cs) (named_in name cs) ++ named_in name ys)
    [ true ↦ ap (λ k. c ∷ k) (named_append name cs ys) | false ↦ named_append name cs ys ]

named_joined : (name : Name) (b c : Content) → named name (joined b c) ≡ named name b ++ named name c
named_joined name b c =
    ap (named_in name) (children_joined b c) ∙ named_append name (children b) (children c)

-- a child with another name
pub named_other : (name : Name) (b : Content) (e : Element) (inner : Content) → same_name e.name name ≡ false →
    named name (with_child b e inner) ≡ named name b
named_other name b e inner other =
    named_joined name b (element e inner nothing)
    ∙ ap (λ k. named name b ++ k)
    (cond-false (same_name e.name name) (record { element = e; content = inner } ∷ []) [] other)
    ∙ append-nil (named name b)

-- a child with the name
pub named_more : (name : Name) (b : Content) (e : Element) (inner : Content) → same_name e.name name ≡ true →
    named name (with_child b e inner) ≡ named name b ++ record { element = e; content = inner } ∷ []
named_more name b e inner same =
    named_joined name b (element e inner nothing)
    ∙ ap (λ k. named name b ++ k)
    (cond-true (same_name e.name name) (record { element = e; content = inner } ∷ []) [] same)
