-- A walk along a list of slots, from the first one on, that copies the item of each.
use Rattle.std.proofs.Common.{◌≡◌, ℕ, ◌+◌, ◌<◌, ◌≤◌, List, [], ◌∷◌, ◌++◌, Option, Some, None, length, take, drop}
use Rattle.std.proofs.Common.{nat_eq, slice_get, get_or, refl, sym, ap, ◌∙◌, subst, arith, inl, inr}
use Rattle.std.specs.Prelude.{All, Contains}
use Rattle.std.specs.List.{IsDistinct, filter_map, cons_option}
use Rattle.std.proofs.lemmas.List.{append-nil, drop_more, drop_all, take_more, take-append-drop, length_push}
use Rattle.std.proofs.lemmas.List.Elements.{filter_map-append, All-get_or}
use Rattle.std.proofs.lemmas.Bool.{cases_lt}
use Rattle.std.proofs.lemmas.Option.{none-some, same_Some}
use Rattle.deleted_entries.specs.declared.item.Item.{Item}
use Rattle.recency_list.specs.Recency.{RecencyValue, HasNoDoubles, first_of, older_than}
use Rattle.recency_list.proofs.ApartLemmas.{split_distinct, older_than-split}

-- the items of the first slots are copied, and this slot is the next one
pub record IsWalked (items : List Item) (order : RecencyValue) (next : Option ℕ) (copied : List Item) : Type 0 where
  pub rules : HasNoDoubles order
  pub within : length copied ≤ length order.list
  pub comes : next ≡ first_of (drop (length copied) order.list)
  pub are : copied ≡ filter_map (slice_get items) (take (length copied) order.list)

pub IsWalked-none : (items : List Item) (order : RecencyValue) (next : Option ℕ) (copied : List Item)
    → HasNoDoubles order → next ≡ first_of order.list → copied ≡ [] → IsWalked items order next copied
IsWalked-none items order next copied rules first empty = rw empty record {
  rules = rules;
  within = omega arith;
  comes = first;
  are = refl;
}

-- a slot that comes next is in the list, at this place
at_next : (list : List ℕ) (n slot : ℕ) → first_of (drop n list) ≡ Some slot
    → (n < length list) × (get_or list n slot ≡ slot)
at_next list n slot e = elim (cases_lt n (length list)) [
  | inl less ↦ (less, same_Some (get_or list n slot) slot (sym (ap first_of (drop_more list n slot less)) ∙ e))
  | inr past ↦ absurd (none-some slot (sym (ap first_of (drop_all n list past)) ∙ e))
]

module _ (items : List Item) (order : RecencyValue) (next : Option ℕ) (copied : List Item)
    (walked : IsWalked items order next copied) where
  abbrev count : ℕ
  count = length copied

  module _ (slot : ℕ) (is : next ≡ Some slot) where
    at : (count < length order.list) × (get_or order.list count slot ≡ slot)
    at = at_next order.list count slot (sym walked.comes ∙ is)

    pub walked-less : length copied < length order.list
    walked-less = at.0

    pub walked-contains : Contains order.list slot
    walked-contains = (count, at.0, at.1)

    split : order.list ≡ take count order.list ++ slot ∷ drop (count + 1) order.list
    split =
        sym (take-append-drop count order.list)
        ∙ ap (λ (rest : List ℕ). take count order.list ++ rest)
        (drop_more order.list count slot at.0 ∙ ap (λ (s : ℕ). s ∷ drop (count + 1) order.list) at.1)

    older-is : older_than slot order.list ≡ first_of (drop (count + 1) order.list)
    older-is =
        let front = take count order.list in
        let behind = drop (count + 1) order.list in
        let parts = split_distinct front slot behind
        (subst (λ (list : List ℕ). IsDistinct (λ one other. nat_eq one other) list) split walked.rules.distinct) in
        ap (older_than slot) split ∙ older_than-split front slot behind parts.not_before

    pub walked-there : All (λ s. s < length items) order.list → slot < length items
    walked-there there =
        subst (λ s. s < length items) at.1 (All-get_or (λ s. s < length items) order.list count slot at.0 there)

    pub IsWalked-more : (item : Item) (after : List Item) (later : Option ℕ) → slice_get items slot ≡ Some item
        → after ≡ copied ++ item ∷ [] → later ≡ older_than slot order.list → IsWalked items order later after
    IsWalked-more item after later here pushed moved =
        let longer : length after ≡ count + 1 = ap length pushed ∙ length_push copied item in
        let front = take count order.list in
        let more : take (count + 1) order.list ≡ front ++ slot ∷ [] =
        take_more order.list count slot at.0 ∙ ap (λ s. front ++ s ∷ []) at.1 in
        record {
          rules = walked.rules;
          within = omega (arith, at.0);
          comes = moved ∙ older-is ∙ ap (λ n. first_of (drop n order.list)) (sym longer);
          are =
              pushed
              ∙ ap (λ (xs : List Item). xs ++ item ∷ []) walked.are
              ∙ ap (λ (o : Option Item). filter_map (slice_get items) front ++ cons_option o []) (sym here)
              ∙ sym (filter_map-append (slice_get items) front (slot ∷ []))
              ∙ ap (filter_map (slice_get items)) (sym more)
              ∙ ap (λ n. filter_map (slice_get items) (take n order.list)) (sym longer);
        }

  first-none : (list : List ℕ) → first_of list ≡ None → list ≡ []
  first-none [] e = refl
  first-none (s ∷ list) e = absurd (none-some s (sym e))

  pub IsWalked-all : next ≡ None → copied ≡ filter_map (slice_get items) order.list
  IsWalked-all none =
      let ended : drop count order.list ≡ [] = first-none (drop count order.list) (sym walked.comes ∙ none) in
      let whole : take count order.list ≡ order.list =
      sym (append-nil (take count order.list))
      ∙ ap (λ (rest : List ℕ). take count order.list ++ rest) (sym ended)
      ∙ take-append-drop count order.list in
      walked.are ∙ ap (filter_map (slice_get items)) whole
