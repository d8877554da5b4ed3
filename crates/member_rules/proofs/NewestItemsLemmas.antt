-- The items of operations by recursion, newest operation first, as a pass over a span finds them.
use Rattle.std.proofs.Common.{◌≡◌, inl, inr, ℕ, Bool, true, false, not, ◌||◌, ◌==◌, if◌then◌else◌, List, [], ◌∷◌, ◌++◌}
use Rattle.std.proofs.Common.{reverse, Option, Some, None, option_map, refl, ap, sym, ◌∙◌}
use Rattle.std.specs.Prelude.{filter}
use Rattle.std.specs.List.{list_any, cons_option, filter_map}
use Rattle.std.proofs.lemmas.List.{append-nil, reverse-append}
use Rattle.std.proofs.lemmas.List.Elements.{filter-append, filter_map-append}
use Rattle.std.proofs.lemmas.List.Sorted.{IsPermutation-reverse, list_any-IsPermutation}
use Rattle.std.proofs.lemmas.Bool.{cases_eq, eq-eqb, ne_eqb}
use Rattle.deleted_entries.specs.Item.{item_number}
use Rattle.deleted_entries.specs.declared.item.Item.{Item}
use Rattle.member_rules.specs.declared.operation.Op.{Op}
use Rattle.member_rules.specs.Operation.{item_of, names}
use Rattle.member_rules.specs.Items.{is_named_again, last_of_each, items_of}

-- the items without those of a member
abbrev pub without : ℕ → List Item → List Item
without number items = filter (λ item. not (item_number item == number)) items

-- in front of the older items, where it takes the place of its member's
abbrev pub in_place : Option Item → List Item → List Item
in_place None older = older
in_place (Some item) older = item ∷ without (item_number item) older

-- of operations, newest first
abbrev pub newest_items : List Op → List Item
newest_items [] = []
newest_items (operation ∷ older) = in_place (item_of operation) (newest_items older)

-- an oldest operation that names no member
push-none : (newer : List Op) (operation : Op) → item_of operation ≡ None
    → newest_items (newer ++ operation ∷ []) ≡ newest_items newer
push-none [] operation is = rw is refl
push-none (first ∷ newer) operation is = ap (in_place (item_of first)) (push-none newer operation is)

-- an oldest operation's item stays where no newer operation names its member
abbrev kept : Bool → List Item → Item → List Item
kept again items item = if again then items else items ++ item ∷ []

abbrev is_of : Option Item → Item → Bool
is_of first item = elim (option_map item_number first) as (λ _. Bool)
    [ None ↦ false | Some other ↦ other == item_number item ]

kept-in_place : (first : Option Item) (again : Bool) (items : List Item) (item : Item)
    → in_place first (kept again items item) ≡ kept (is_of first item || again) (in_place first items) item
kept-in_place None again items item = refl
kept-in_place (Some first) true items item = elim (cases_eq (item_number first) (item_number item)) [
  | inl same ↦ rw (eq-eqb (item_number first) (item_number item) same) refl
  | inr other ↦ rw (ne_eqb (item_number first) (item_number item) other) refl
]
kept-in_place (Some first) false items item = elim (cases_eq (item_number first) (item_number item)) [
  | inl same ↦
      rw (
        eq-eqb (item_number first) (item_number item) same,
        filter-append (λ (i : Item). not (item_number i == item_number first)) items (item ∷ []),
        eq-eqb (item_number item) (item_number first) (sym same),
      )
      (ap (λ (rest : List Item). first ∷ rest) (append-nil (without (item_number first) items)))
  | inr other ↦
      rw (
        ne_eqb (item_number first) (item_number item) other,
        filter-append (λ (i : Item). not (item_number i == item_number first)) items (item ∷ []),
        ne_eqb (item_number item) (item_number first) (λ e. other (sym e)),
      )
      refl
]

push-item : (newer : List Op) (operation : Op) (item : Item) → item_of operation ≡ Some item
    → newest_items (newer ++ operation ∷ []) ≡ kept (list_any (names (item_number item)) newer) (newest_items newer)
    item
push-item [] operation item is = rw is refl
push-item (first ∷ newer) operation item is =
    ap (in_place (item_of first)) (push-item newer operation item is)
    ∙ kept-in_place (item_of first) (list_any (names (item_number item)) newer) (newest_items newer) item

any-reverse : (p : Op → Bool) (operations : List Op) → list_any p (reverse operations) ≡ list_any p operations
any-reverse p operations = sym (list_any-IsPermutation p operations (reverse operations)
    (IsPermutation-reverse operations))

abbrev stated : List Op → List Item
stated operations = filter_map item_of (reverse operations)

stated-push : (operation : Op) (later : List Op)
    → stated (operation ∷ later) ≡ stated later ++ cons_option (item_of operation) []
stated-push operation later =
    ap (filter_map item_of) (reverse-append (operation ∷ []) later)
    ∙ filter_map-append item_of (reverse later) (operation ∷ [])

-- the items that specs/ states directly are those of the recursion
pub items_of-newest : (operations : List Op) → items_of operations ≡ newest_items (reverse operations)
unfolding items_of
items_of-newest [] = refl
items_of-newest (operation ∷ later) = go (item_of operation) refl (items_of-newest later)
  where
    older : newest_items (reverse (operation ∷ later)) ≡ newest_items (reverse later ++ operation ∷ [])
    older = ap newest_items (reverse-append (operation ∷ []) later)

    by_item : (item : Item) → item_of operation ≡ Some item → (again : Bool)
        → list_any (names (item_number item)) later ≡ again → stated (last_of_each later) ≡ newest_items (reverse later)
        → stated (if again then last_of_each later else operation ∷ last_of_each later)
        ≡ kept again (newest_items (reverse later)) item
    by_item item is true again behind = behind
    by_item item is false again behind =
        stated-push operation (last_of_each later)
        ∙ ap (λ (o : Option Item). stated (last_of_each later) ++ cons_option o []) is
        ∙ ap (λ (items : List Item). items ++ item ∷ []) behind

    go : (o : Option Item) → item_of operation ≡ o → stated (last_of_each later) ≡ newest_items (reverse later)
        → stated (last_of_each (operation ∷ later)) ≡ newest_items (reverse (operation ∷ later))
    go None is behind =
        let alone : is_named_again later operation ≡ false = rw (is, is_named_again) refl in
        rw alone
        (stated-push operation (last_of_each later)
        ∙ ap (λ (o : Option Item). stated (last_of_each later) ++ cons_option o []) is
        ∙ append-nil (stated (last_of_each later))
        ∙ behind
        ∙ sym (older ∙ push-none (reverse later) operation is))
    go (Some item) is behind =
        let again : is_named_again later operation ≡ list_any (names (item_number item)) later =
        rw (is, is_named_again) refl in
        rw again
        (by_item item is (list_any (names (item_number item)) later) refl behind
        ∙ ap (λ (b : Bool). kept b (newest_items (reverse later)) item)
        (sym (any-reverse (names (item_number item)) later))
        ∙ sym (older ∙ push-item (reverse later) operation item is))
