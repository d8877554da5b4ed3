-- The slots of a list, and those of the list after each change.
use Rattle.std.proofs.Common.{◌≡◌, ◌≢◌, inl, inr, ◌⊎◌, ℕ, zero, suc, ◌-◌, max, ◌<◌, List, [], ◌∷◌, ◌++◌, true, false, nat_eq, Option, Some, None, is_some, length, set, replicate, get_or, refl, sym, ap, subst, ◌∙◌, arith, length-append, Result, Ok, Err}
use Rattle.std.specs.Prelude.{All, Contains, OnOk, OnErr}
use Rattle.std.specs.List.{IsDistinct, list_any}
use Rattle.std.specs.Option.{ForSome}
use Rattle.std.proofs.lemmas.Bool.{cases_Bool, eq-eqb, eqb-true, eqb-false, or_parts}
use Rattle.std.proofs.lemmas.List.{get_or-set_same, get_or-set_other, length-replicate}
use Rattle.std.proofs.lemmas.List.Folds.{list_any_at}
use Rattle.std.proofs.lemmas.Option.{none-some}
use Rattle.std.proofs.lemmas.Map.Steps.{length-le_from_distinct_below}
use Rattle.recency_list.specs.Links.{slot_at, unlisted, facing_newer_at, facing_older_at}
use Rattle.recency_list.specs.Links.{AreLinked, IsLinked, IsOrder, first_or, followed, listed}
use Rattle.recency_list.specs.Recency.{HasNoDoubles, RecencyValue, first_of, older_than, without}
use Rattle.recency_list.specs.declared.slots.Slot.{Slot}
use Rattle.recency_list.proofs.ApartLemmas.{Absent, IsSplit, any_absent, absent_split, any_skip, split_at, split_distinct}
use Rattle.recency_list.proofs.ApartLemmas.{without-absent, without-split, older_than-split}
use Rattle.recency_list.proofs.LinkLemmas.{last_or, frame, link_here, linked_join, linked_front, linked_back, older_set, older_frame}
use Rattle.recency_list.proofs.LinkLemmas.{newer_set, newer_frame, newer_apart, older_apart, length-facing_newer_at}
use Rattle.recency_list.proofs.LinkLemmas.{length-facing_older_at, last_exists, first_exists, each_exists, followed_is, linked_same}

first_is : (list : List ℕ) → first_or list None ≡ first_of list
first_is [] = refl
first_is (x ∷ list) = refl

some_last : (x : ℕ) (xs : List ℕ) → is_some (last_or (Some x) xs) ≡ true
some_last x [] = refl
some_last x (y ∷ xs) = some_last y xs

-- a slot that isn't the first has one before it
last_later : (before : List ℕ) (at : ℕ) (behind : List ℕ) (first : Option ℕ) → first ≢ Some at
    → first ≡ first_or (before ++ at ∷ behind) None → is_some (last_or None before) ≡ true
last_later [] at behind first later starts = absurd (later starts)
last_later (x ∷ before) at behind first later starts = some_last x before

-- the slots of a list
module _ (slots : List Slot) (first : Option ℕ) (list : List ℕ) (order : IsOrder slots first list) where
  pub exists : (at : ℕ) → list_any (λ other. nat_eq at other) list ≡ true → at < length slots
  exists at h = each_exists slots None list None order.linked at h

  pub listed_is : listed slots first ≡ list
  listed_is =
      ap (followed (length slots) slots) order.starts
      ∙ followed_is (length slots) slots None list order.linked
      (length-le_from_distinct_below list (length slots) order.distinct exists)

  pub is_order_listed : IsOrder slots first (listed slots first)
  is_order_listed = subst (IsOrder slots first) (sym listed_is) order

  pub no_doubles : (value : RecencyValue) → value.list ≡ list → value.slots ≡ length slots → HasNoDoubles value
  no_doubles value is_list is_count = record {
    distinct = subst (IsDistinct (λ slot other. nat_eq slot other)) (sym is_list) order.distinct;
    exist =
        subst (λ n. All (λ slot. slot < n) value.list) (sym is_count)
        (subst (All (λ slot. slot < length slots)) (sym is_list)
        (λ k d h. exists (get_or list k d)
        (list_any_at (λ other. nat_eq (get_or list k d) other) list k d h (eq-eqb _ _ refl))));
  }

  pub contained : (at : ℕ) → Contains list at → list_any (λ other. nat_eq at other) list ≡ true
  contained at there = list_any_at (λ other. nat_eq at other) list there.0 at there.1 (eq-eqb _ _ (sym there.2))

  pub starts_with : first ≡ first_of list
  starts_with = order.starts ∙ first_is list

  pub unlisted_order : (at : ℕ) → list_any (λ other. nat_eq at other) list ≡ false → IsOrder slots first (without at list)
  unlisted_order at h = subst (IsOrder slots first) (sym (without-absent at list (any_absent at list h))) order

  -- a slot that isn't the first is in the list if it has a newer neighbour
  pub later_listed : (at : ℕ) → first ≢ Some at
      → is_some (slot_at slots at).newer ≡ list_any (λ other. nat_eq at other) list
  later_listed at later =
      let c : (list_any (λ other. nat_eq at other) list ≡ true) ⊎ (list_any (λ other. nat_eq at other) list ≡ false) =
      cases_Bool (list_any (λ other. nat_eq at other) list) in
      elim c [
        | inl y ↦
            let parts = split_at at list y in
            let split : IsOrder slots first (parts.0 ++ at ∷ parts.1) = subst (IsOrder slots first) parts.2 order in
            let link = (linked_back slots None parts.0 (at ∷ parts.1) None split.linked).0 in
            ap (λ (s : Slot). is_some s.newer) link.is ∙ last_later parts.0 at parts.1 first later split.starts ∙ sym y
        | inr n ↦ ap (λ (s : Slot). is_some s.newer) (order.others at n) ∙ sym n
      ]

-- the slots of a list with a slot between others
module _ (slots : List Slot) (first : Option ℕ) (before : List ℕ) (at : ℕ) (behind : List ℕ)
    (order : IsOrder slots first (before ++ at ∷ behind)) (newer older : Option ℕ)
    (is : slot_at slots at ≡ record { newer = newer; older = older }) where
  parts : IsSplit before at behind
  parts = split_distinct before at behind order.distinct

  here : IsLinked slots at (last_or None before) (first_or behind None)
  here = (linked_back slots None before (at ∷ behind) None order.linked).0

  is_newer : newer ≡ last_or None before
  is_newer = ap (λ (s : Slot). s.newer) (sym is ∙ here.is)

  is_older : older ≡ first_or behind None
  is_older = ap (λ (s : Slot). s.older) (sym is ∙ here.is)

  front_links : AreLinked slots None before (Some at)
  front_links = linked_front slots None before (at ∷ behind) None order.linked

  back_links : AreLinked slots (Some at) behind None
  back_links = (linked_back slots None before (at ∷ behind) None order.linked).1

  pub part_next : older ≡ older_than at (before ++ at ∷ behind)
  part_next = is_older ∙ first_is behind ∙ sym (older_than-split before at behind parts.not_before)

  pub part_newer_exists : ForSome newer (λ q. q < length slots)
  part_newer_exists q e = last_exists slots before (Some at) front_links q (sym is_newer ∙ e)

  pub part_older_exists : ForSome older (λ q. q < length slots)
  part_older_exists q e = first_exists slots (Some at) behind None back_links q (sym is_older ∙ e)

  abbrev left : List Slot
  left = facing_newer_at (first_or behind None) (last_or None before)
      (facing_older_at (last_or None before) (first_or behind None) slots)

  length-left : length left ≡ length slots
  length-left =
      length-facing_newer_at (first_or behind None) (last_or None before)
      (facing_older_at (last_or None before) (first_or behind None) slots)
      ∙ length-facing_older_at (last_or None before) (first_or behind None) slots

  left_linked : AreLinked (set left at unlisted) None (before ++ behind) None
  left_linked =
      let once = facing_older_at (last_or None before) (first_or behind None) slots in
      linked_join (set left at unlisted) None before behind None
      (frame left at unlisted None before (first_or behind None) parts.not_before
      (newer_frame once (last_or None before) None before behind (first_or behind None) parts.apart
      (older_set slots before (Some at) (first_or behind None) parts.front front_links)))
      (frame left at unlisted (last_or None before) behind None parts.not_behind
      (newer_set once (Some at) (last_or None before) behind None parts.back
      (older_frame slots (first_or behind None) (Some at) before behind None parts.apart back_links)))

  left_others : (q : ℕ) → list_any (λ other. nat_eq q other) (before ++ behind) ≡ false
      → slot_at (set left at unlisted) q ≡ unlisted
  left_others q h =
      let c : (nat_eq q at ≡ true) ⊎ (nat_eq q at ≡ false) = cases_Bool (nat_eq q at) in
      let low : at < length left = subst (λ n. at < n) (sym length-left) here.exists in
      let apart : Absent q before × Absent q behind = absent_split q before behind (any_absent q (before ++ behind) h) in
      let once = facing_older_at (last_or None before) (first_or behind None) slots in
      elim c [
        | inl e ↦
            ap (slot_at (set left at unlisted)) (eqb-true q at e) ∙ get_or-set_same left at unlisted unlisted low
        | inr n ↦
            get_or-set_other left at q unlisted unlisted (eqb-false q at n)
            ∙ newer_apart once (last_or None before) q behind apart.1
            ∙ older_apart slots (first_or behind None) q before apart.0
            ∙ order.others q (any_skip q at before behind n ∙ h)
      ]

  left_order : (start : Option ℕ) → start ≡ first_or (before ++ behind) None
      → IsOrder (set (facing_newer_at older newer (facing_older_at newer older slots)) at unlisted) start
      (without at (before ++ at ∷ behind))
  left_order start starts =
      subst (IsOrder (set (facing_newer_at older newer (facing_older_at newer older slots)) at unlisted) start)
      (sym (without-split before at behind parts.not_before parts.not_behind))
      (subst (λ (o : Option ℕ). IsOrder (set (facing_newer_at o newer (facing_older_at newer o slots)) at unlisted) start (before ++ behind))
      (sym is_older)
      (subst (λ (n : Option ℕ). IsOrder (set (facing_newer_at (first_or behind None) n (facing_older_at n (first_or behind None) slots)) at unlisted) start (before ++ behind))
      (sym is_newer)
      (record { starts = starts; linked = left_linked; distinct = parts.whole; others = left_others })))

last_is : (x : ℕ) (xs : List ℕ) → last_or (Some x) xs ≡ None → ⊥
last_is x [] e = none-some x (sym e)
last_is x (y ∷ xs) e = last_is y xs e

-- where the list begins once the slot is taken out
start_at_first : (before : List ℕ) (at : ℕ) (behind : List ℕ) (older : Option ℕ) → last_or None before ≡ None
    → older ≡ first_or behind None → older ≡ first_or (before ++ behind) None
start_at_first [] at behind older none is = is
start_at_first (x ∷ before) at behind older none is = absurd (last_is x before none)

start_later : (before : List ℕ) (at : ℕ) (behind : List ℕ) (first : Option ℕ) (q : ℕ) → last_or None before ≡ Some q
    → first ≡ first_or (before ++ at ∷ behind) None → first ≡ first_or (before ++ behind) None
start_later [] at behind first q some is = absurd (none-some q some)
start_later (x ∷ before) at behind first q some is = is

module _ (slots : List Slot) (first : Option ℕ) (list : List ℕ) (order : IsOrder slots first list) (at : ℕ)
    (present : list_any (λ other. nat_eq at other) list ≡ true) (newer older : Option ℕ)
    (is : slot_at slots at ≡ record { newer = newer; older = older }) where
  there : (before : List ℕ) × (behind : List ℕ) × (list ≡ before ++ at ∷ behind)
  there = split_at at list present

  split_order : IsOrder slots first (there.0 ++ at ∷ there.1)
  split_order = subst (IsOrder slots first) there.2 order

  pub next_is : older ≡ older_than at list
  next_is =
      part_next slots first there.0 at there.1 split_order newer older is ∙ ap (older_than at) (sym there.2)

  pub newer_exists : ForSome newer (λ q. q < length slots)
  newer_exists = part_newer_exists slots first there.0 at there.1 split_order newer older is

  pub older_exists : ForSome older (λ q. q < length slots)
  older_exists = part_older_exists slots first there.0 at there.1 split_order newer older is

  pub unlinked_first : newer ≡ None
      → IsOrder (set (facing_newer_at older newer (facing_older_at newer older slots)) at unlisted) older (without at list)
  unlinked_first none =
      subst (λ (l : List ℕ). IsOrder (set (facing_newer_at older newer (facing_older_at newer older slots)) at unlisted)
      older (without at l)) (sym there.2)
      (left_order slots first there.0 at there.1 split_order newer older is older
      (start_at_first there.0 at there.1 older
      (sym (is_newer slots first there.0 at there.1 split_order newer older is) ∙ none)
      (is_older slots first there.0 at there.1 split_order newer older is)))

  pub unlinked_later : (q : ℕ) → newer ≡ Some q
      → IsOrder (set (facing_newer_at older newer (facing_older_at newer older slots)) at unlisted) first (without at list)
  unlinked_later q some =
      subst (λ (l : List ℕ). IsOrder (set (facing_newer_at older newer (facing_older_at newer older slots)) at unlisted)
      first (without at l)) (sym there.2)
      (left_order slots first there.0 at there.1 split_order newer older is first
      (start_later there.0 at there.1 first q
      (sym (is_newer slots first there.0 at there.1 split_order newer older is) ∙ some) split_order.starts))

-- the slots of a list with a slot before it
module _ (slots : List Slot) (first : Option ℕ) (list : List ℕ) (order : IsOrder slots first list) (at : ℕ)
    (low : at < length slots) (none : list_any (λ other. nat_eq at other) list ≡ false) where
  abbrev moved : List Slot
  moved = facing_newer_at first (Some at) slots

  low_moved : at < length moved
  low_moved = subst (λ n. at < n) (sym (length-facing_newer_at first (Some at) slots)) low

  moved_linked : AreLinked moved (Some at) list None
  moved_linked =
      subst (λ (o : Option ℕ). AreLinked (facing_newer_at o (Some at) slots) (Some at) list None) (sym order.starts)
      (newer_set slots None (Some at) list None order.distinct order.linked)

  moved_others : (q : ℕ) → list_any (λ other. nat_eq q other) (at ∷ list) ≡ false
      → slot_at (set moved at (record { newer = None; older = first })) q ≡ unlisted
  moved_others q h =
      let apart : (nat_eq q at ≡ false) × (list_any (λ other. nat_eq q other) list ≡ false) =
      or_parts (nat_eq q at) (list_any (λ other. nat_eq q other) list) h in
      get_or-set_other moved at q (record { newer = None; older = first }) unlisted (eqb-false q at apart.0)
      ∙ ap (λ (o : Option ℕ). slot_at (facing_newer_at o (Some at) slots) q) order.starts
      ∙ newer_apart slots (Some at) q list (any_absent q list apart.1)
      ∙ order.others q apart.1

  pub linked_first : IsOrder (set (facing_newer_at first (Some at) slots) at (record { newer = None; older = first })) (Some at)
      (at ∷ list)
  unfolding IsDistinct
  linked_first = record {
    starts = refl;
    linked = (
      subst (IsLinked (set moved at (record { newer = None; older = first })) at None) order.starts
          (link_here moved at None first low_moved),
      frame moved at (record { newer = None; older = first }) (Some at) list None (any_absent at list none) moved_linked,
    );
    distinct = (any_absent at list none, order.distinct);
    others = moved_others;
  }

  pub first_below : ForSome first (λ q. q < length slots)
  first_below q e = first_exists slots None list None order.linked q (sym order.starts ∙ e)

-- slots that aren't in the list
at_replicate : (n q : ℕ) → slot_at (replicate n unlisted) q ≡ unlisted
at_replicate zero q = refl
at_replicate (suc n) zero = refl
at_replicate (suc n) (suc q) = at_replicate n q

pub followed_none : (most : ℕ) (slots : List Slot) → followed most slots None ≡ []
followed_none zero slots = refl
followed_none (suc most) slots = refl

pub no_order : (n : ℕ) → IsOrder (replicate n unlisted) None []
unfolding IsDistinct
no_order n = record { starts = refl; linked = tt; distinct = tt; others = λ q _. at_replicate n q }

at_grown : (slots : List Slot) (n q : ℕ) → slot_at (slots ++ replicate n unlisted) q ≡ slot_at slots q
at_grown [] n q = at_replicate n q
at_grown (slot ∷ slots) n zero = refl
at_grown (slot ∷ slots) n (suc q) = at_grown slots n q

pub grown_order : (slots : List Slot) (first : Option ℕ) (list : List ℕ) (n : ℕ) → IsOrder slots first list
    → IsOrder (slots ++ replicate n unlisted) first list
grown_order slots first list n order = record {
  starts = order.starts;
  linked = linked_same slots (slots ++ replicate n unlisted) (omega (arith, length-append slots (replicate n unlisted))) (at_grown slots n) None list None order.linked;
  distinct = order.distinct;
  others = λ q h. at_grown slots n q ∙ order.others q h;
}

pub cleared_order : (slots : List Slot) (n : ℕ) → slots ≡ replicate n unlisted
    → IsOrder slots None (listed slots None)
cleared_order slots n is =
    subst (λ (s : List Slot). IsOrder s None (listed s None)) (sym is)
    (is_order_listed (replicate n unlisted) None [] (no_order n))

pub same_value : (one other : RecencyValue) → one.list ≡ other.list → one.slots ≡ other.slots → one ≡ other
same_value one other list slots = λ i. record { list = list i; slots = slots i }

grown_to : (old new : List Slot) (first : Option ℕ) (count : ℕ) → IsOrder old first (listed old first)
    → new ≡ old ++ replicate (count - length old) unlisted → IsOrder new first (listed old first)
grown_to old new first count order is =
    subst (λ (s : List Slot). IsOrder s first (listed old first)) (sym is)
    (grown_order old first (listed old first) (count - length old) order)

pub grown : {T E : Type 0} (result : Result T E) (old new : List Slot) (first : Option ℕ) (count : ℕ)
    → IsOrder old first (listed old first) → OnOk result (new ≡ old ++ replicate (count - length old) unlisted)
    → OnErr result (new ≡ old) → IsOrder new first (listed new first)
grown (Ok _) old new first count order ok err =
    is_order_listed new first (listed old first) (grown_to old new first count order ok)
grown (Err _) old new first count order ok err =
    subst (λ (s : List Slot). IsOrder s first (listed s first)) (sym err) order

pub grown_value : {T E : Type 0} (result : Result T E) (old new : List Slot) (first : Option ℕ) (count : ℕ)
    (value : RecencyValue) → value.list ≡ listed old first → value.slots ≡ length old
    → IsOrder old first (listed old first) → OnOk result (new ≡ old ++ replicate (count - length old) unlisted)
    → OnOk result (◌≡◌ {A = RecencyValue} (record { list = listed new first; slots = length new })
    (record { list = value.list; slots = max value.slots count }))
grown_value (Ok _) old new first count value list slots order ok =
    same_value _ _
    (listed_is new first (listed old first) (grown_to old new first count order ok) ∙ sym list)
    (omega (
      arith,
      ap length ok,
      length-append old (replicate (count - length old) unlisted),
      length-replicate (count - length old) unlisted,
      slots,
    ))
grown_value (Err _) old new first count value list slots order ok = tt
