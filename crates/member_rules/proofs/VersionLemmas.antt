-- The operation that last named a member has the member's newest item.
use Rattle.std.proofs.Common.{◌≡◌, inl, inr, ◌⊎◌, ℕ, suc, ◌+◌, ◌-◌, ◌≤◌, ◌==◌, ℤ, Bool, true, false, List, [], ◌∷◌}
use Rattle.std.proofs.Common.{reverse, slice_get, if◌then◌else◌, Option, Some, None, option_map, refl, ap, sym, subst}
use Rattle.std.proofs.Common.{◌∙◌, arith}
use Rattle.std.proofs.lemmas.Bool.{cases_eq, eq-eqb, ne_eqb}
use Rattle.std.proofs.lemmas.Bool.Decides.{nat_tests}
use Rattle.std.proofs.lemmas.List.{reverse-append}
use Rattle.atom_values.specs.Entry.{EntryValue}
use Rattle.deleted_entries.specs.Item.{item_number}
use Rattle.deleted_entries.specs.declared.item.Item.{Item}
use Rattle.deleted_entries.specs.declared.item.Item.TheVariants.{Kept}
use Rattle.member_rules.specs.declared.operation.Op.{Op}
use Rattle.member_rules.specs.declared.operation.Op.TheVariants.{Add, Change, Remove, Set}
use Rattle.member_rules.specs.declared.state.State.TheVariants.{Live}
use Rattle.member_rules.specs.Operation.{item_of, names}
use Rattle.member_rules.specs.Fold.{fold_of, last_naming, state_by, state_of}
use Rattle.member_rules.specs.Laws.{IsSetBy}
use Rattle.member_rules.proofs.ItemsLemmas.{newest_of, newest_of-append, or_older, or_else, entry_or-kept, live-is}

-- the operation that last named the member, which left this item
record IsLast (number : ℕ) (operations : List Op) (item : Item) : Type 0 where
  operation : Op
  counted : 1 ≤ last_naming number operations
  at : slice_get operations (last_naming number operations - 1) ≡ Some operation
  is : item_of operation ≡ Some item

abbrev LastBy : ℕ → List Op → Option Item → Type 0
LastBy number operations None = last_naming number operations ≡ 0
LastBy number operations (Some item) = IsLast number operations item

front : (number : ℕ) (operation : Op) (later : List Op)
    → newest_of number (reverse (operation ∷ later))
    ≡ or_else (newest_of number (reverse later)) (or_older number (item_of operation) None)
front number operation later =
    ap (newest_of number) (reverse-append (operation ∷ []) later)
    ∙ newest_of-append number (reverse later) (operation ∷ [])

-- the first of the operations is the last one that names the member
first-last : (number : ℕ) (operation : Op) (later : List Op) → last_naming number later ≡ 0
    → last_naming number (operation ∷ later) ≡ (if names number operation then 1 else 0)
first-last number operation later none = rw none refl

later-last : (number : ℕ) (operation : Op) (later : List Op) → 1 ≤ last_naming number later
    → last_naming number (operation ∷ later) ≡ last_naming number later + 1
later-last number operation later some =
    let there : (last_naming number later == 0) ≡ false = grind (arith, nat_tests) in
    rw there refl

last-is : (number : ℕ) (operations : List Op) → LastBy number operations (newest_of number (reverse operations))
last-is number [] = refl
last-is number (operation ∷ later) = subst (LastBy number (operation ∷ later)) (sym (front number operation later))
    (go (newest_of number (reverse later)) (last-is number later))
  where
    own : (o : Option Item) → item_of operation ≡ o → last_naming number later ≡ 0
        → LastBy number (operation ∷ later) (or_older number o None)
    own None is none =
        let unnamed : names number operation ≡ false = rw (is, names) refl in
        first-last number operation later none ∙ rw unnamed refl
    own (Some item) is none = elim (cases_eq number (item_number item)) [
      | inl same ↦
          let named : names number operation ≡ true = ap
          (λ (o : Option Item). elim (option_map item_number o) as (λ _. Bool)
          [ None ↦ false | Some other ↦ other == number ]) is ∙ eq-eqb (item_number item) number (sym same) in
          let one : last_naming number (operation ∷ later) ≡ 1 =
          first-last number operation later none ∙ rw named refl in
          let last : IsLast number (operation ∷ later) item =
          record { operation = operation; counted = omega (arith, one); at = rw one refl; is = is } in
          rw (eq-eqb number (item_number item) same) last
      | inr other ↦
          let unnamed : names number operation ≡ false =
          ap (λ (o : Option Item). elim (option_map item_number o) as (λ _. Bool)
          [ None ↦ false | Some other ↦ other == number ]) is
          ∙ ne_eqb (item_number item) number (λ e. other (sym e)) in
          let zero_is : last_naming number (operation ∷ later) ≡ 0 =
          first-last number operation later none ∙ rw unnamed refl in
          rw (ne_eqb number (item_number item) other) zero_is
    ]

    go : (o : Option Item) → LastBy number later o
        → LastBy number (operation ∷ later) (or_else o (or_older number (item_of operation) None))
    go None none = own (item_of operation) refl none
    go (Some item) last =
        let more = later-last number operation later last.counted in
        let place : last_naming number (operation ∷ later) - 1 ≡ suc (last_naming number later - 1) =
        omega (arith, more, last.counted) in
        record {
          operation = last.operation;
          counted = omega (arith, more);
          at =
              ap (slice_get (operation ∷ later)) place ∙ last.at;
          is = last.is;
        }

set-of : (operation : Op) (entry : EntryValue) → item_of operation ≡ Some (Kept entry)
    → (operation ≡ Add entry) ⊎ (operation ≡ Change entry)
set-of (Add other) entry e = let same : other ≡ entry = cc in inl (ap Add same)
set-of (Change other) entry e = let same : other ≡ entry = cc in inr (ap Change same)
set-of (Remove removal) entry e = absurd (cc)
set-of (Set setting moment) entry e = absurd (cc)

live_parts : (gone : Option ℤ) (live : Option EntryValue) (naming version : ℕ) (updated : ℤ)
    → state_by gone live naming ≡ Live updated version
    → (stored : EntryValue) × (live ≡ Some stored) × (stored.updated ≡ updated) × (naming ≡ version)
live_parts (Some when) live naming version updated e = absurd (cc)
live_parts None None naming version updated e = absurd (cc)
live_parts None (Some stored) naming version updated e = (stored, refl, (cc), (cc))

pub version-is : (history : List Op) (number : ℕ) (updated : ℤ) (version : ℕ)
    → state_of history number ≡ Live updated version → IsSetBy history number updated version
unfolding state_of
version-is history number updated version e =
    let live = live_parts ((fold_of history).gone number) ((fold_of history).live number) (last_naming number history)
    version updated e in
    let newest = entry_or-kept (newest_of number (reverse history)) live.0 (sym (live-is number history) ∙ live.1) in
    let last : IsLast number history (Kept live.0) = subst (LastBy number history) newest (last-is number history) in
    let place : slice_get history (version - 1) ≡ Some last.operation =
    ap (λ (n : ℕ). slice_get history (n - 1)) (sym live.3) ∙ last.at in
    record {
      entry = live.0;
      live = live.1;
      dated = live.2;
      counted = omega (arith, last.counted, live.3);
      set_by = elim (set-of last.operation live.0 last.is) [
        | inl add ↦ inl (place ∙ ap (λ (o : Op). Some o) add)
        | inr change ↦ inr (place ∙ ap (λ (o : Op). Some o) change)
      ];
    }
