-- The elements of a content in document order, and the first of them that is refused, by any rules.
use Rattle.std.proofs.Common.{◌≡◌, ◌<◌, ℕ, List, [], ◌∷◌, ◌++◌, Option, Some, None}
use Rattle.std.proofs.Common.{option_map, refl, sym, ap, subst, ◌∙◌, append_assoc, arith, All, map}
use Rattle.std.specs.Option.{option_or}
use Rattle.std.proofs.lemmas.List.{append-nil}
use Rattle.std.proofs.lemmas.List.Elements.{All-append, All-cons, All-nil, All-head, All-tail}
use Rattle.xml_tokens.specs.Tree.{Name, Element, Content}
use Rattle.xml_tokens.specs.Tree.Content.{nothing, said, element}
use Rattle.xml_tokens.specs.Children.{Child, children, joined}
use Rattle.xml_tokens.specs.Order.{Placed, Rules, IsFaultless, IsFaultOf, IsFirst, IsFirstFault, all_placed}

-- the elements of a content, without those inside them
abbrev pub elements_of : Content → List Element
elements_of b = map (λ (c : Child). c.element) (children b)

module _ {Place Reason : Type 0} (rules : Rules Place Reason) where
  -- an element in its place
  abbrev pub placed : Place → List Element → Element → Content → Placed Place
  placed within before e inner =
      record { within = within; before = before; child = record { element = e; content = inner } }

  -- the elements of two contents, one after the other
  pub placed_joined : (within : Place) (before : List Element) (b c : Content) →
      all_placed rules within before (joined b c)
      ≡ all_placed rules within before b ++ all_placed rules within (before ++ elements_of b) c
  placed_joined within before nothing c = ap (λ n. all_placed rules within n c) (sym (append-nil before))
  placed_joined within before (said read b) c = placed_joined within before b c
  placed_joined within before (element e inner b) c =
      let first = placed within before e inner ∷ all_placed rules (rules.inside within e.name) [] inner in
      let next = before ++ e ∷ [] in
      ap (λ k. first ++ k) (placed_joined within next b c)
      ∙ sym (append_assoc first (all_placed rules within next b) (all_placed rules within (next ++ elements_of b) c))
      ∙ ap (λ n. (first ++ all_placed rules within next b) ++ all_placed rules within n c)
      (append_assoc before (e ∷ []) (elements_of b))

  -- characters are no elements
  pub placed_said : (within : Place) (before : List Element) (b : Content) (read : List ℕ) →
      all_placed rules within before (joined b (said read nothing)) ≡ all_placed rules within before b
  placed_said within before b read =
      placed_joined within before b (said read nothing) ∙ append-nil (all_placed rules within before b)

  -- the first refusal after elements without one
  pub fault_behind : (xs ys : List (Placed Place)) (at : ℕ) (why : Reason) → All (IsFaultless rules) xs →
      IsFirstFault rules ys at why → IsFirstFault rules (xs ++ ys) at why
  fault_behind xs ys at why none f = record {
    before = xs ++ f.before;
    first = f.first;
    later = f.later;
    split = ap (λ k. xs ++ k) f.split ∙ sym (append_assoc xs f.before (f.first ∷ f.later));
    faultless = All-append (IsFaultless rules) xs f.before none f.faultless;
    fault = f.fault;
    place = f.place;
  }

  -- the first refusal before other elements
  pub fault_before : (xs ys : List (Placed Place)) (at : ℕ) (why : Reason) → IsFirstFault rules xs at why →
      IsFirstFault rules (xs ++ ys) at why
  fault_before xs ys at why f = record {
    before = f.before;
    first = f.first;
    later = f.later ++ ys;
    split = ap (λ k. k ++ ys) f.split ∙ append_assoc f.before (f.first ∷ f.later) ys;
    faultless = f.faultless;
    fault = f.fault;
    place = f.place;
  }

  -- the first refusal of elements and others after them
  pub first_joined : (xs ys : List (Placed Place)) (r s : Option (ℕ × Reason)) → IsFirst rules xs r →
      IsFirst rules ys s → IsFirst rules (xs ++ ys) (option_or r s)
  first_joined xs ys None None a b = All-append (IsFaultless rules) xs ys a b
  first_joined xs ys None (Some (at, why)) a b = fault_behind xs ys at why a b
  first_joined xs ys (Some (at, why)) s a b = fault_before xs ys at why a

  -- whatever is behind the first refusal
  pub first_stays : (xs ys : List (Placed Place)) (refusal : ℕ × Reason) → IsFirst rules xs (Some refusal) →
      IsFirst rules (xs ++ ys) (Some refusal)
  first_stays xs ys (at, why) f = fault_before xs ys at why f

  -- why an element is refused itself, if it is
  abbrev pub IsOwn : Placed Place → Option Reason → Type 0
  IsOwn p None = IsFaultless rules p
  IsOwn p (Some why) = IsFaultOf rules p why

  abbrev pub at_tag : Element → Option Reason → Option (ℕ × Reason)
  at_tag e own = option_map (λ why. (e.place, why)) own

  own_first : (p : Placed Place) (own : Option Reason) → IsOwn p own →
      IsFirst rules (p ∷ []) (at_tag p.child.element own)
  own_first p None none = All-cons (IsFaultless rules) p [] none (All-nil (IsFaultless rules))
  own_first p (Some why) fault = record {
    before = [];
    first = p;
    later = [];
    split = refl;
    faultless = All-nil (IsFaultless rules);
    fault = fault;
    place = refl;
  }

  -- the first refusal of an element and those inside it
  pub first_of_element : (within : Place) (before : List Element) (e : Element) (inner : Content) (own : Option Reason)
      (r : Option (ℕ × Reason)) → IsOwn (placed within before e inner) own →
      IsFirst rules (all_placed rules (rules.inside within e.name) [] inner) r →
      IsFirst rules (all_placed rules within before (element e inner nothing)) (option_or (at_tag e own) r)
  first_of_element within before e inner own r is inside =
      subst (λ xs. IsFirst rules (placed within before e inner ∷ xs) (option_or (at_tag e own) r))
      (sym (append-nil (all_placed rules (rules.inside within e.name) [] inner)))
      (first_joined (placed within before e inner ∷ []) (all_placed rules (rules.inside within e.name) [] inner)
      (at_tag e own) r (own_first (placed within before e inner) own is) inside)

  -- an element that is refused itself
  pub first_own : (within : Place) (before : List Element) (e : Element) (inner : Content) (why : Reason) →
      IsFaultOf rules (placed within before e inner) why →
      IsFirstFault rules (all_placed rules within before (element e inner nothing)) e.place why
  first_own within before e inner why fault = record {
    before = [];
    first = placed within before e inner;
    later = all_placed rules (rules.inside within e.name) [] inner ++ [];
    split = refl;
    faultless = All-nil (IsFaultless rules);
    fault = fault;
    place = refl;
  }

  -- the first refusal of a content with a child after it
  pub first_with_child : (within : Place) (b : Content) (e : Element) (inner : Content) (r s : Option (ℕ × Reason)) →
      IsFirst rules (all_placed rules within [] b) r →
      IsFirst rules (all_placed rules within (elements_of b) (element e inner nothing)) s →
      IsFirst rules (all_placed rules within [] (joined b (element e inner nothing))) (option_or r s)
  first_with_child within b e inner r s before here =
      subst (λ xs. IsFirst rules xs (option_or r s)) (sym (placed_joined within [] b (element e inner nothing)))
      (first_joined (all_placed rules within [] b) (all_placed rules within (elements_of b) (element e inner nothing))
      r s before here)

  -- the same if an element of the content is refused
  pub first_before_child : (within : Place) (b : Content) (e : Element) (inner : Content) (refusal : ℕ × Reason) →
      IsFirst rules (all_placed rules within [] b) (Some refusal) →
      IsFirst rules (all_placed rules within [] (joined b (element e inner nothing))) (Some refusal)
  first_before_child within b e inner refusal before =
      subst (λ xs. IsFirst rules xs (Some refusal)) (sym (placed_joined within [] b (element e inner nothing)))
      (first_stays (all_placed rules within [] b) (all_placed rules within (elements_of b) (element e inner nothing))
      refusal before)

  -- no element is refused where there are no rules, to any depth
  pub silent_place : (within : Place) → ((name : Name) → rules.inside within name ≡ within) →
      ((p : Placed Place) → p.within ≡ within → IsFaultless rules p) → (before : List Element) (c : Content) →
      All (IsFaultless rules) (all_placed rules within before c)
  silent_place within same none before nothing = All-nil (IsFaultless rules)
  silent_place within same none before (said read c) = silent_place within same none before c
  silent_place within same none before (element e inner c) =
      let deeper = all_placed rules (rules.inside within e.name) [] inner in
      let next = all_placed rules within (before ++ e ∷ []) c in
      All-cons (IsFaultless rules) (placed within before e inner) (deeper ++ next)
      (none (placed within before e inner) refl)
      (All-append (IsFaultless rules) deeper next
      (subst (λ w. All (IsFaultless rules) (all_placed rules w [] inner)) (sym (same e.name))
      (silent_place within same none [] inner))
      (silent_place within same none (before ++ e ∷ []) c))

  all_after : (xs ys : List (Placed Place)) → All (IsFaultless rules) (xs ++ ys) → All (IsFaultless rules) ys
  all_after [] ys all = all
  all_after (x ∷ xs) ys all = all_after xs ys (All-tail (IsFaultless rules) x (xs ++ ys) all)

  -- elements without a refusal have no first one
  pub no_first : (all : List (Placed Place)) (at : ℕ) (why : Reason) → All (IsFaultless rules) all →
      IsFirstFault rules all at why → ⊥
  no_first all at why none f =
      All-head (IsFaultless rules) f.first f.later
      (all_after f.before (f.first ∷ f.later) (subst (All (IsFaultless rules)) f.split none)) why f.fault.0

  one_place : (xs ys : List (Placed Place)) (a b : Placed Place) (us vs : List (Placed Place)) →
      xs ++ a ∷ us ≡ ys ++ b ∷ vs → All (IsFaultless rules) xs → All (IsFaultless rules) ys →
      (IsFaultless rules a → ⊥) → (IsFaultless rules b → ⊥) → a ≡ b
  one_place [] [] a b us vs e none none' bad bad' = cc
  one_place [] (y ∷ ys) a b us vs e none none' bad bad' =
      let same : a ≡ y = cc in
      absurd (bad (subst (IsFaultless rules) (sym same) (All-head (IsFaultless rules) y ys none')))
  one_place (x ∷ xs) [] a b us vs e none none' bad bad' =
      let same : x ≡ b = cc in absurd (bad' (subst (IsFaultless rules) same (All-head (IsFaultless rules) x xs none)))
  one_place (x ∷ xs) (y ∷ ys) a b us vs e none none' bad bad' =
      let more : xs ++ a ∷ us ≡ ys ++ b ∷ vs = cc in
      one_place xs ys a b us vs more (All-tail (IsFaultless rules) x xs none) (All-tail (IsFaultless rules) y ys none')
      bad bad'

  -- an element is refused for one reason, if no two reasons of it are tried at once
  abbrev pub AreRanked : Type 0
  AreRanked = (p : Placed Place) (why cause : Reason) → rules.Has why p → rules.Has cause p →
      rules.rank why ≡ rules.rank cause → why ≡ cause

  one_reason : AreRanked → (p : Placed Place) (why cause : Reason) → IsFaultOf rules p why →
      IsFaultOf rules p cause → why ≡ cause
  one_reason ranked p why cause x y =
      let low : rules.rank why < rules.rank cause → ⊥ = λ less. y.1 why less x.0 in
      let high : rules.rank cause < rules.rank why → ⊥ = λ less. x.1 cause less y.0 in
      ranked p why cause x.0 y.0 (omega (arith, low, high))

  -- there is one first refusal at most
  pub one_first : AreRanked → (all : List (Placed Place)) (at place : ℕ) (why cause : Reason) →
      IsFirstFault rules all at why → IsFirstFault rules all place cause → (at ≡ place) × (why ≡ cause)
  one_first ranked all at place why cause x y =
      let same : x.first ≡ y.first = one_place x.before y.before x.first y.first x.later y.later
      (sym x.split ∙ y.split) x.faultless y.faultless (λ none. none why x.fault.0) (λ none. none cause y.fault.0) in (
        x.place ∙ ap (λ (p : Placed Place). p.child.element.place) same ∙ sym y.place,
        one_reason ranked y.first why cause (subst (λ p. IsFaultOf rules p why) same x.fault) y.fault,
      )

  -- no reason of a lower rank is one of the element
  abbrev pub NoneBelow : Placed Place → ℕ → Type 0
  NoneBelow p n = (other : Reason) → rules.rank other < n → rules.Has other p → ⊥
