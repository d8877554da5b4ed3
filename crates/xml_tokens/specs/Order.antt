-- The first element of a document that a reader refuses, in document order. A reader gives its rules: the kinds of places
-- in a document, the reasons, which element has which reason, and the order in which the reasons of one element are tried.
use Rattle.std.specs.Prelude.{◌≡◌, ℕ, ◌<◌, List, [], ◌∷◌, ◌++◌, length, filter, All, Option, Some, None}
use Rattle.xml_tokens.specs.Tree.{Name, Element, Content}
use Rattle.xml_tokens.specs.Tree.Content.{nothing, said, element}
use Rattle.xml_tokens.specs.Children.{Child, same_name}

-- an element with the kind of place that it is in, and the elements before it there
pub record Placed (Place : Type 0) : Type 0 where
  pub within : Place
  pub before : List Element
  pub child : Child

pub record Rules (Place Reason : Type 0) : Type 1 where
  -- the kind of place inside an element with this name, which is in a place itself
  pub inside : Place → Name → Place
  pub Has : Reason → Placed Place → Type 0
  pub rank : Reason → ℕ

abbrev pub name_of : {Place : Type 0} → Placed Place → Name
name_of p = p.child.element.name

-- how many elements of its name are before it
abbrev pub count_before : {Place : Type 0} → Placed Place → ℕ
count_before p = length (filter (λ (e : Element). same_name e.name (name_of p)) p.before)

-- all elements of a content, in document order
abbrev pub all_placed : {Place Reason : Type 0} → Rules Place Reason → Place → List Element → Content →
    List (Placed Place)
all_placed rules within before nothing = []
all_placed rules within before (said read rest) = all_placed rules within before rest
all_placed rules within before (element e content rest) =
    record { within = within; before = before; child = record { element = e; content = content } }
    ∷ all_placed rules (rules.inside within e.name) [] content ++ all_placed rules within (before ++ e ∷ []) rest

abbrev pub IsFaultless : {Place Reason : Type 0} → Rules Place Reason → Placed Place → Type 0
IsFaultless {Place} {Reason} rules p = (why : Reason) → ¬ rules.Has why p

-- the reason that an element is refused for
abbrev pub IsFaultOf : {Place Reason : Type 0} → Rules Place Reason → Placed Place → Reason → Type 0
IsFaultOf {Place} {Reason} rules p why =
    rules.Has why p × ((other : Reason) → rules.rank other < rules.rank why → ¬ rules.Has other p)

-- the first element that is refused, its offset and the reason
pub record IsFirstFault {Place Reason : Type 0} (rules : Rules Place Reason) (all : List (Placed Place)) (at : ℕ)
    (why : Reason) : Type 0 where
  pub before : List (Placed Place)
  pub first : Placed Place
  pub later : List (Placed Place)
  pub split : all ≡ before ++ first ∷ later
  pub faultless : All (IsFaultless rules) before
  pub fault : IsFaultOf rules first why
  pub place : at ≡ first.child.element.place

-- the first refusal, if there is one
abbrev pub IsFirst : {Place Reason : Type 0} → Rules Place Reason → List (Placed Place) → Option (ℕ × Reason) → Type 0
IsFirst rules all None = All (IsFaultless rules) all
IsFirst rules all (Some (at, why)) = IsFirstFault rules all at why
