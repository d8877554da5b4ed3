-- The last item of a member in a list of operations. The lemmas use an operation through `item_of` alone.
use Rattle.std.proofs.Common.{◌≡◌, ◌≢◌, inl, inr, ℕ, nat_eq, List, [], ◌∷◌, ◌++◌, reverse, Option, Some, None}
use Rattle.std.proofs.Common.{if◌then◌else◌, refl, ap, sym, ◌∙◌}
use Rattle.std.specs.Prelude.{fold, option_map, unwrap_or}
use Rattle.std.proofs.lemmas.List.{reverse-append}
use Rattle.std.proofs.lemmas.Bool.{cases_eq, eq-eqb, ne_eqb}
use Rattle.atom_values.specs.Entry.{EntryValue}
use Rattle.deleted_entries.specs.Item.{item_number}
use Rattle.deleted_entries.specs.declared.item.Item.{Item}
use Rattle.deleted_entries.specs.declared.item.Item.TheVariants.{Kept, Gone}
use Rattle.member_rules.specs.declared.operation.Op.{Op}
use Rattle.member_rules.specs.Operation.{item_of}
use Rattle.member_rules.specs.Fold.{Fold, with_item, no_members, after_operation, fold_of}
use Rattle.member_rules.proofs.NewestItemsLemmas.{without, in_place, newest_items}

-- the item where it is the member's, and else the older one
abbrev pub or_older : ℕ → Option Item → Option Item → Option Item
or_older number None older = older
or_older number (Some item) older = if nat_eq number (item_number item) then Some item else older

-- of operations, newest first: the item of the first one that names the member
abbrev pub newest_of : ℕ → List Op → Option Item
newest_of number [] = None
newest_of number (operation ∷ older) = or_older number (item_of operation) (newest_of number older)

-- the first item of the member
abbrev pub item_in : ℕ → List Item → Option Item
item_in number [] = None
item_in number (item ∷ items) = if nat_eq number (item_number item) then Some item else item_in number items

-- the first, and else the second
abbrev pub or_else : {A : Type 0} → Option A → Option A → Option A
or_else None other = other
or_else (Some x) other = Some x

or_older-is : (number : ℕ) (item older : Option Item)
    → or_older number item older ≡ or_else (or_older number item None) older
or_older-is number None older = refl
or_older-is number (Some item) older = elim (cases_eq number (item_number item)) [
  | inl e ↦ rw (eq-eqb number (item_number item) e) refl
  | inr n ↦ rw (ne_eqb number (item_number item) n) refl
]

or_else-assoc : {A : Type 0} (a b c : Option A) → or_else (or_else a b) c ≡ or_else a (or_else b c)
or_else-assoc None b c = refl
or_else-assoc (Some x) b c = refl

pub newest_of-append : (number : ℕ) (newer older : List Op)
    → newest_of number (newer ++ older) ≡ or_else (newest_of number newer) (newest_of number older)
newest_of-append number [] older = refl
newest_of-append number (operation ∷ newer) older =
    or_older-is number (item_of operation) (newest_of number (newer ++ older))
    ∙ ap (or_else (or_older number (item_of operation) None)) (newest_of-append number newer older)
    ∙ sym (or_else-assoc (or_older number (item_of operation) None) (newest_of number newer) (newest_of number older))
    ∙ ap (λ (o : Option Item). or_else o (newest_of number older))
    (sym (or_older-is number (item_of operation) (newest_of number newer)))

item_in-without : (number other : ℕ) (items : List Item) → number ≢ other
    → item_in number (without other items) ≡ item_in number items
item_in-without number other [] n = refl
item_in-without number other (item ∷ items) n = elim (cases_eq (item_number item) other) [
  | inl e ↦
      let apart : number ≢ item_number item = λ same. n (same ∙ e) in
      rw (eq-eqb (item_number item) other e, ne_eqb number (item_number item) apart)
      (item_in-without number other items n)
  | inr k ↦ rw (ne_eqb (item_number item) other k, item_in-without number other items n) refl
]

item_in-in_place : (number : ℕ) (item : Option Item) (items : List Item)
    → item_in number (in_place item items) ≡ or_older number item (item_in number items)
item_in-in_place number None items = refl
item_in-in_place number (Some item) items = elim (cases_eq number (item_number item)) [
  | inl e ↦ rw (eq-eqb number (item_number item) e) refl
  | inr n ↦ rw (ne_eqb number (item_number item) n, item_in-without number (item_number item) items n) refl
]

-- the items of operations have a member's item exactly where the operations name it, and then its newest
pub item_in-newest : (number : ℕ) (operations : List Op)
    → item_in number (newest_items operations) ≡ newest_of number operations
item_in-newest number [] = refl
item_in-newest number (operation ∷ older) =
    item_in-in_place number (item_of operation) (newest_items older)
    ∙ ap (or_older number (item_of operation)) (item_in-newest number older)

-- the entry of a kept item; none of a tombstone; and else the one from before
abbrev pub entry_or : Option Item → Option EntryValue → Option EntryValue
entry_or None before = before
entry_or (Some (Kept entry)) before = Some entry
entry_or (Some (Gone tombstone)) before = None

entry_or-or_else : (a b : Option Item) (before : Option EntryValue)
    → entry_or (or_else a b) before ≡ entry_or a (entry_or b before)
entry_or-or_else None b before = refl
entry_or-or_else (Some (Kept entry)) b before = refl
entry_or-or_else (Some (Gone tombstone)) b before = refl

live-with : (number : ℕ) (members : Fold) (item : Option Item)
    → (unwrap_or (option_map (with_item members) item) members).live number
    ≡ entry_or (or_older number item None) (members.live number)
live-with number members None = refl
live-with number members (Some (Kept entry)) = elim (cases_eq number entry.number) [
  | inl e ↦ rw (eq-eqb number entry.number e) refl
  | inr n ↦ rw (ne_eqb number entry.number n) refl
]
live-with number members (Some (Gone tombstone)) = elim (cases_eq number tombstone.number) [
  | inl e ↦ rw (eq-eqb number tombstone.number e) refl
  | inr n ↦ rw (ne_eqb number tombstone.number n) refl
]

live-folded : (number : ℕ) (members : Fold) (operations : List Op)
    → (fold after_operation members operations).live number
    ≡ entry_or (newest_of number (reverse operations)) (members.live number)
live-folded number members [] = refl
live-folded number members (operation ∷ later) =
    live-folded number (after_operation members operation) later
    ∙ ap (entry_or (newest_of number (reverse later))) (live-with number members (item_of operation))
    ∙ sym (entry_or-or_else (newest_of number (reverse later)) (newest_of number (operation ∷ []))
    (members.live number))
    ∙ ap (λ (o : Option Item). entry_or o (members.live number))
    (sym (newest_of-append number (reverse later) (operation ∷ [])))
    ∙ ap (λ (operations : List Op). entry_or (newest_of number operations) (members.live number))
    (sym (reverse-append (operation ∷ []) later))

-- a member is live exactly where the last operation that names it keeps an entry
pub live-is : (number : ℕ) (operations : List Op)
    → (fold_of operations).live number ≡ entry_or (newest_of number (reverse operations)) None
unfolding fold_of
live-is number operations = live-folded number no_members operations

pub entry_or-kept : (item : Option Item) (entry : EntryValue) → entry_or item None ≡ Some entry
    → item ≡ Some (Kept entry)
entry_or-kept None entry e = absurd (cc)
entry_or-kept (Some (Kept other)) entry e = let same : other ≡ entry = cc in ap (λ (x : EntryValue). Some (Kept x)) same
entry_or-kept (Some (Gone tombstone)) entry e = absurd (cc)
