-- Control elements: which of them say that the entry is a draft.
use Rattle.std.proofs.Common.{◌≡◌, ℕ, List, [], ◌∷◌, Bool, true, false, not, ◌&&◌, ◌||◌}
use Rattle.std.proofs.Common.{refl, sym, ap, ◌∙◌, ⊎_elim, bytes_eq, codes}
use Rattle.std.specs.List.{list_any}
use Rattle.std.proofs.lemmas.Bool.{both_ways, cases_Bool, not-true, not_from_false}
use Rattle.std.proofs.lemmas.List.Folds.{Any-from_list_any, list_any-append, list_any-from_Any}
use Rattle.std.proofs.lemmas.Slice.Eq.{bytes_eq-Decides}
use Rattle.atom_values.specs.Space.{trimmed}
use Rattle.xml_tokens.specs.Tree.{Name, Element, Content}
use Rattle.xml_tokens.specs.Children.{Child, child_text, named, same_name, text_of}
use Rattle.xml_tokens.specs.Names.{app}
use Rattle.entry_reader.specs.Faults.{SaysDraft}
use Rattle.entry_reader.specs.Parts.{has_draft}
use Rattle.xml_tokens.specs.Children.{joined, with_child}
use Rattle.entry_reader.proofs.ChildLemmas.{a_child}
use Rattle.xml_tokens.proofs.ContentLemmas.{says}
use Rattle.entry_reader.proofs.FieldLemmas.{said_named}
use Rattle.entry_reader.proofs.PlacedLemmas.{named_more, named_other}

abbrev draft : Name
draft = app (codes "draft")

-- whether a `draft` element has another text than `no`
abbrev is_other : Child → Bool
is_other c = not (bytes_eq (trimmed (child_text c)) (codes "no"))

or_none : (x : Bool) → (x || false) ≡ x
or_none true = refl
or_none false = refl

-- characters between the children of a control element
pub drafts_said : (b : Content) (parts : List (List ℕ)) → has_draft (joined b (says parts)) ≡ has_draft b
drafts_said b parts = ap (list_any is_other) (said_named draft b parts)

-- one more child
pub drafts_more : (b : Content) (e : Element) (inner : Content) →
    has_draft (with_child b e inner)
    ≡ (has_draft b || (same_name e.name draft && not (bytes_eq (trimmed (text_of inner)) (codes "no"))))
drafts_more b e inner =
    let c : Child = record { element = e; content = inner } in
    ⊎_elim
    (λ same. ap (list_any is_other) (named_more draft b e inner same)
    ∙ list_any-append is_other (named draft b) (c ∷ [])
    ∙ ap (λ x. has_draft b || x) (or_none (is_other c) ∙ ap (λ t. t && is_other c) (sym same)))
    (λ other. ap (list_any is_other) (named_other draft b e inner other) ∙ sym (or_none (has_draft b))
    ∙ ap (λ t. has_draft b || (t && is_other c)) (sym other))
    (cases_Bool (same_name e.name draft))

module _ (before : List Element) (e : Element) (inner : Content) (is : e.name ≡ app (codes "control")) where
  pub says_draft : has_draft inner ≡ true → SaysDraft (a_child before e inner)
  says_draft has =
      let some = Any-from_list_any is_other (named draft inner) has in (
        refl,
        ap (λ n. same_name n (app (codes "control"))) is,
        (
          some.0,
          some.1,
          some.2,
          some.3,
          λ no.
              both_ways (bytes_eq (trimmed (child_text some.1)) (codes "no")) (not-true _ some.4)
              ((bytes_eq-Decides (trimmed (child_text some.1)) (codes "no")).1 no),
        ),
      )

  pub says_no_draft : has_draft inner ≡ false → SaysDraft (a_child before e inner) → ⊥
  says_no_draft none says =
      let some = says.2 in
      let text = trimmed (child_text some.1) in
      both_ways (has_draft inner) none
      (list_any-from_Any is_other (named draft inner) (
        some.0,
        some.1,
        some.2,
        some.3,
        not_from_false (bytes_eq text (codes "no"))
            (⊎_elim (λ t. absurd (some.4 ((bytes_eq-Decides text (codes "no")).0 t))) (λ f. f)
            (cases_Bool (bytes_eq text (codes "no")))),
      ))
