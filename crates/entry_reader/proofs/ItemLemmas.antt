-- Links, categories, control elements and elements of other names in an entry: what they are refused for.
use Rattle.std.proofs.Common.{◌≡◌, ◌<◌, List, [], ◌∷◌, false, Option, Some, None, refl, option_map, ap, arith, codes}
use Rattle.std.proofs.lemmas.Bool.{both_ways}
use Rattle.atom_values.specs.Entry.{category_limit, link_limit}
use Rattle.entry_reader.specs.declared.fault.Why.TheVariants.{Draft, Missing, TooMany}
use Rattle.xml_tokens.specs.Tree.{Element, Content}
use Rattle.xml_tokens.specs.Children.{attribute, same_name}
use Rattle.xml_tokens.specs.Names.{app, atom}
use Rattle.xml_tokens.specs.Order.{count_before}
use Rattle.entry_reader.specs.Faults.{IsPastLimit, LacksPart, SaysDraft, is_one_of, persons, single_parts}
use Rattle.entry_reader.specs.Faults.Within.{in_entry}
use Rattle.entry_reader.specs.Parts.{IsFaultlessIn}
use Rattle.entry_reader.proofs.ChildLemmas.{IsChildRefusal, a_child, beside_reason, child_fault, listed, skipped_child}
use Rattle.entry_reader.proofs.PlacedLemmas.{earlier}

-- the parts of an option
pub no_value : {A B : Type 0} (x : B) (o : Option A) → option_map (λ _. x) o ≡ None → o ≡ None
no_value x None none = refl
no_value x (Some v) none = let bad : Some x ≡ None = none in cc

pub one_value : {A B : Type 0} (x y : B) (o : Option A) → Some y ≡ option_map (λ _. x) o → (y ≡ x) × (o ≡ None → ⊥)
one_value x y None some = let bad : Some y ≡ None = some in cc
one_value x y (Some v) some = let same : Some y ≡ Some x = some in (cc, λ none. let bad : Some v ≡ None = none in cc)

module _ (before : List Element) (e : Element) (inner : Content) where
  -- an item that lacks a part
  pub item_missing : is_one_of single_parts e.name ≡ false → same_name e.name (app (codes "control")) ≡ false →
      LacksPart (a_child before e inner) → IsChildRefusal before e inner (Some (e.place, Missing))
  item_missing single control lacks =
      child_fault before e inner Missing lacks
      (λ other low. beside_reason before e inner single other
      (λ p same. both_ways (same_name e.name (app (codes "control"))) control p.1)
      (λ p. earlier Missing other Missing low (omega arith)) (λ p. earlier Missing other TooMany low (omega arith)))

  -- one more item than an entry may have
  pub item_many : is_one_of single_parts e.name ≡ false → same_name e.name (app (codes "control")) ≡ false →
      (LacksPart (a_child before e inner) → ⊥) → IsPastLimit (a_child before e inner) →
      IsChildRefusal before e inner (Some (e.place, TooMany))
  item_many single control part full =
      child_fault before e inner TooMany full
      (λ other low. beside_reason before e inner single other
      (λ p same. both_ways (same_name e.name (app (codes "control"))) control p.1)
      (λ p same. part p) (λ p. earlier TooMany other TooMany low (omega arith)))

  -- a control element that says that the entry is a draft
  pub control_draft : is_one_of single_parts e.name ≡ false → SaysDraft (a_child before e inner) →
      IsChildRefusal before e inner (Some (e.place, Draft))
  control_draft single draft =
      child_fault before e inner Draft draft
      (λ other low. beside_reason before e inner single other (λ p. earlier Draft other Draft low (omega arith))
      (λ p. earlier Draft other Missing low (omega arith)) (λ p. earlier Draft other TooMany low (omega arith)))

  -- a child that isn't refused
  pub beside_faultless : is_one_of single_parts e.name ≡ false → is_one_of persons e.name ≡ false →
      (SaysDraft (a_child before e inner) → ⊥) → (LacksPart (a_child before e inner) → ⊥) →
      (IsPastLimit (a_child before e inner) → ⊥) → IsFaultlessIn in_entry before e inner
  beside_faultless single person draft part room =
      skipped_child before e inner single person
      (λ why. beside_reason before e inner single why (λ p same. draft p) (λ p same. part p) (λ p same. room p))

  -- a link that lacks a part lacks its `href`
  pub link_part : e.name ≡ atom (codes "link") →
      (attribute (codes "href") (a_child before e inner).child ≡ None → ⊥) → LacksPart (a_child before e inner) → ⊥
  link_part is has h =
      listed before e inner h (λ p none. both_ways (is_one_of persons e.name) (ap (is_one_of persons) is) p)
      (λ p none. has none)
      (λ p none. both_ways (is_one_of (codes "category" ∷ []) e.name) (ap (is_one_of (codes "category" ∷ [])) is) p)

  pub link_room : e.name ≡ atom (codes "link") → count_before (a_child before e inner) < link_limit →
      IsPastLimit (a_child before e inner) → ⊥
  link_room is few h =
      listed before e inner h (λ p many. both_ways (is_one_of persons e.name) (ap (is_one_of persons) is) p)
      (λ p many. omega (arith, few, many))
      (λ p many. both_ways (is_one_of (codes "category" ∷ []) e.name) (ap (is_one_of (codes "category" ∷ [])) is) p)

  -- a category that lacks a part lacks its `term`
  pub category_part : e.name ≡ atom (codes "category") →
      (attribute (codes "term") (a_child before e inner).child ≡ None → ⊥) → LacksPart (a_child before e inner) → ⊥
  category_part is has h =
      listed before e inner h (λ p none. both_ways (is_one_of persons e.name) (ap (is_one_of persons) is) p)
      (λ p none. both_ways (is_one_of (codes "link" ∷ []) e.name) (ap (is_one_of (codes "link" ∷ [])) is) p)
      (λ p none. has none)

  pub category_room : e.name ≡ atom (codes "category") → count_before (a_child before e inner) < category_limit →
      IsPastLimit (a_child before e inner) → ⊥
  category_room is few h =
      listed before e inner h (λ p many. both_ways (is_one_of persons e.name) (ap (is_one_of persons) is) p)
      (λ p many. both_ways (is_one_of (codes "link" ∷ []) e.name) (ap (is_one_of (codes "link" ∷ [])) is) p)
      (λ p many. omega (arith, few, many))
