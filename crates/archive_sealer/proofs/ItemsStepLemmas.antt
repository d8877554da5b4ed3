-- One step of the pass over a span, newest operation first: what is left of its items, without the members that were
-- met.
use Rattle.std.proofs.Common.{◌≡◌, inl, inr, ℕ, ◌+◌, ◌<◌, ◌≤◌, Option, Some, None, cond, length, drop, get_or, nat_cmp, arith}
use Rattle.std.proofs.Common.{append_assoc, Bool, true, false, not, nat_eq, List, [], ◌∷◌, ◌++◌, if◌then◌else◌, subst}
use Rattle.std.proofs.Common.{refl, ap, sym, ◌∙◌}
use Rattle.std.specs.Prelude.{filter}
use Rattle.std.specs.Ordering.{is_eq}
use Rattle.std.proofs.lemmas.List.{append-nil, drop_more, drop_all}
use Rattle.std.proofs.lemmas.Bool.Decides.{nat_tests}
use Rattle.std.proofs.lemmas.Bool.{cases_eq, eq-eqb, ne_eqb}
use Rattle.std.proofs.lemmas.Option.{none-some, same_Some}
use Rattle.deleted_entries.specs.Item.{item_number}
use Rattle.deleted_entries.specs.declared.item.Item.{Item}
use Rattle.member_rules.specs.declared.operation.Op.{Op}
use Rattle.member_rules.specs.declared.operation.Op.TheVariants.{Add, Change, Remove, Set}
use Rattle.deleted_entries.specs.declared.item.Item.TheVariants.{Kept, Gone}
use Rattle.member_rules.specs.Operation.{item_of, member_of}
use Rattle.member_rules.proofs.NewestItemsLemmas.{without, in_place, newest_items}

-- the items of members that were not met
abbrev pub unmet : (ℕ → Bool) → List Item → List Item
unmet met items = filter (λ item. not (met (item_number item))) items

-- met, and one more member
abbrev pub AlsoMet : (ℕ → Bool) → ℕ → (ℕ → Bool) → Type 0
AlsoMet met number after = (q : ℕ) → after q ≡ (if nat_eq q number then true else met q)

unmet-without : (met : ℕ → Bool) (number : ℕ) (after : ℕ → Bool) (items : List Item) → AlsoMet met number after
    → unmet met (without number items) ≡ unmet after items
unmet-without met number after [] also = refl
unmet-without met number after (item ∷ items) also = elim (cases_eq (item_number item) number) [
  | inl e ↦
      let gone : after (item_number item) ≡ true = also (item_number item)
      ∙ rw (eq-eqb (item_number item) number e) refl in
      rw (eq-eqb (item_number item) number e, gone) (unmet-without met number after items also)
  | inr n ↦
      let same : after (item_number item) ≡ met (item_number item) =
      also (item_number item) ∙ rw (ne_eqb (item_number item) number n) refl in
      rw (ne_eqb (item_number item) number n, same, unmet-without met number after items also) refl
]

-- the newest item of a member that was not met
pub unmet-new : (met : ℕ → Bool) (after : ℕ → Bool) (item : Item) (older : List Item)
    → AlsoMet met (item_number item) after → met (item_number item) ≡ false
    → unmet met (item ∷ without (item_number item) older) ≡ item ∷ unmet after older
unmet-new met after item older also n = rw (n, unmet-without met (item_number item) after older also) refl

-- an older item of a member that was met
pub unmet-old : (met : ℕ → Bool) (after : ℕ → Bool) (item : Item) (older : List Item)
    → AlsoMet met (item_number item) after → met (item_number item) ≡ true
    → unmet met (item ∷ without (item_number item) older) ≡ unmet after older
unmet-old met after item older also y = rw (y, unmet-without met (item_number item) after older also) refl

unmet-none : (met : ℕ → Bool) (items : List Item) → ((q : ℕ) → met q ≡ false) → unmet met items ≡ items
unmet-none met [] none = refl
unmet-none met (item ∷ items) none = rw (none (item_number item), unmet-none met items none) refl

-- the items taken after a number of operations, newest first
pub Taken : (ℕ → Bool) → List Item → ℕ → List Op → Type 0
Taken met items count operations = items ++ unmet met (newest_items (drop count operations)) ≡ newest_items operations

pub Taken-none : (met : ℕ → Bool) (items : List Item) (operations : List Op) → ((q : ℕ) → met q ≡ false) → items ≡ []
    → Taken met items 0 operations
unfolding Taken
Taken-none met items operations none empty = rw empty (unmet-none met (newest_items operations) none)

pub Taken-all : (met : ℕ → Bool) (items : List Item) (count : ℕ) (operations : List Op) → length operations ≤ count
    → Taken met items count operations → items ≡ newest_items operations
unfolding Taken
Taken-all met items count operations l taken =
    sym (append-nil items) ∙ ap (λ (ops : List Op). items ++ unmet met (newest_items ops))
    (sym (drop_all count operations l)) ∙ taken

newest-at : (operations : List Op) (count : ℕ) (operation : Op) (item : Item) → count < length operations
    → operation ≡ get_or operations count operation → item_of operation ≡ Some item
    → newest_items (drop count operations) ≡ item ∷ without (item_number item)
    (newest_items (drop (count + 1) operations))
newest-at operations count operation item l at is =
    ap newest_items (drop_more operations count operation l)
    ∙ ap (λ (o : Op). newest_items (o ∷ drop (count + 1) operations)) (sym at)
    ∙ ap (λ (i : Option Item). in_place i (newest_items (drop (count + 1) operations))) is

-- the next operation names a member that was not met
pub Taken-new : (met : ℕ → Bool) (after : ℕ → Bool) (items : List Item) (count : ℕ) (operations : List Op)
    (operation : Op) (item : Item) → count < length operations → operation ≡ get_or operations count operation
    → item_of operation ≡ Some item → AlsoMet met (item_number item) after → met (item_number item) ≡ false
    → Taken met items count operations → Taken after (items ++ item ∷ []) (count + 1) operations
unfolding Taken
Taken-new met after items count operations operation item l at is also n taken =
    let older = newest_items (drop (count + 1) operations) in
    append_assoc items (item ∷ []) (unmet after older)
    ∙ ap (λ (rest : List Item). items ++ rest) (sym (unmet-new met after item older also n))
    ∙ ap (λ (rest : List Item). items ++ unmet met rest) (sym (newest-at operations count operation item l at is))
    ∙ taken

-- the next operation names a member that was met
pub Taken-old : (met : ℕ → Bool) (after : ℕ → Bool) (items : List Item) (count : ℕ) (operations : List Op)
    (operation : Op) (item : Item) → count < length operations → operation ≡ get_or operations count operation
    → item_of operation ≡ Some item → AlsoMet met (item_number item) after → met (item_number item) ≡ true
    → Taken met items count operations → Taken after items (count + 1) operations
unfolding Taken
Taken-old met after items count operations operation item l at is also y taken =
    let older = newest_items (drop (count + 1) operations) in
    ap (λ (rest : List Item). items ++ rest) (sym (unmet-old met after item older also y))
    ∙ ap (λ (rest : List Item). items ++ unmet met rest) (sym (newest-at operations count operation item l at is))
    ∙ taken

-- the next operation names no member
pub Taken-skip : (met : ℕ → Bool) (items : List Item) (count : ℕ) (operations : List Op) (operation : Op)
    → count < length operations → operation ≡ get_or operations count operation → item_of operation ≡ None
    → Taken met items count operations → Taken met items (count + 1) operations
unfolding Taken
Taken-skip met items count operations operation l at is taken =
    let later = drop (count + 1) operations in
    let same : newest_items (drop count operations) ≡ newest_items later =
    ap newest_items (drop_more operations count operation l)
    ∙ ap (λ (o : Op). newest_items (o ∷ later)) (sym at)
    ∙ ap (λ (i : Option Item). in_place i (newest_items later)) is in
    ap (λ (rest : List Item). items ++ unmet met rest) (sym same) ∙ taken

-- the item of an operation, by the number of the member that it names
pub item-of_member : (operation : Op) (number : ℕ) → Some number ≡ member_of operation
    → (item : Item) × (item_of operation ≡ Some item) × (item_number item ≡ number)
item-of_member (Add entry) number e = (Kept entry, refl, same_Some entry.number number (sym e))
item-of_member (Change entry) number e = (Kept entry, refl, same_Some entry.number number (sym e))
item-of_member (Remove removal) number e =
    (Gone removal.tombstone, refl, same_Some removal.tombstone.number number (sym e))
item-of_member (Set setting moment) number e = absurd (none-some number (sym e))

-- an operation that names no member leaves no item
pub no-item : (operation : Op) → None ≡ member_of operation → item_of operation ≡ None
no-item (Add entry) e = absurd (none-some entry.number e)
no-item (Change entry) e = absurd (none-some entry.number e)
no-item (Remove removal) e = absurd (none-some removal.tombstone.number e)
no-item (Set setting moment) e = refl

is_eq-nat_cmp : (x y : ℕ) → is_eq (nat_cmp x y) ≡ nat_eq y x
is_eq-nat_cmp x y = grind (arith, nat_tests)

-- a number was put into a set of numbers
pub AlsoMet-inserted : (met : ℕ → Bool) (number : ℕ) (after : ℕ → Bool)
    → ((q : ℕ) → after q ≡ cond (is_eq (nat_cmp number q)) true (met q)) → AlsoMet met number after
AlsoMet-inserted met number after h = λ q. h q ∙ ap (λ (b : Bool). cond b true (met q)) (is_eq-nat_cmp number q)

pub AlsoMet-same : (met : ℕ → Bool) (number other : ℕ) (after : ℕ → Bool) → number ≡ other → AlsoMet met other after
    → AlsoMet met number after
AlsoMet-same met number other after same also = subst (λ (n : ℕ). AlsoMet met n after) (sym same) also
