-- The members after a list of operations: two finite maps, of the live members and of the deleted ones.
use Rattle.std.specs.Prelude.{ℕ, zero, suc, ◌+◌, ◌-◌, ◌==◌, List, [], ◌∷◌, ℤ, if◌then◌else◌, Option, Some, None}
use Rattle.std.specs.Prelude.{option_map, unwrap_or, is_some, fold, length, slice_get, count_by}
use Rattle.atom_values.specs.Entry.{EntryValue}
use Rattle.deleted_entries.specs.declared.item.Item.{Item}
use Rattle.deleted_entries.specs.declared.item.Item.TheVariants.{Kept, Gone}
use Rattle.member_rules.specs.declared.operation.Op.{Op}
use Rattle.member_rules.specs.declared.state.State.{State}
use Rattle.member_rules.specs.declared.state.State.TheVariants.{Never, Live, Gone as Deleted}
use Rattle.member_rules.specs.Operation.{item_of, moment_of, makes, names}

-- the entry of each live member, and the moment when each deleted one was deleted
pub record Fold : Type 0 where
  pub live : ℕ → Option EntryValue
  pub gone : ℕ → Option ℤ

-- the map with this at one number, and as it was at all others
abbrev pub set : {A : Type 0} → ℕ → Option A → (ℕ → Option A) → ℕ → Option A
set number value map other = if other == number then value else map other

abbrev pub no_members : Fold
no_members = record { live = λ _. None; gone = λ _. None }

-- the maps with the item of one member
abbrev pub with_item : Fold → Item → Fold
with_item members (Kept entry) = record { live = set entry.number (Some entry) members.live; gone = members.gone }
with_item members (Gone tombstone) = record {
  live = set tombstone.number None members.live;
  gone = set tombstone.number (Some tombstone.when) members.gone;
}

-- after one more operation; one that names no member leaves both maps
abbrev pub after_operation : Fold → Op → Fold
after_operation members operation = unwrap_or (option_map (with_item members) (item_of operation)) members

unfoldable pub fold_of : List Op → Fold
fold_of operations = fold after_operation no_members operations

-- how many members were ever made
abbrev pub made : List Op → ℕ
made operations = count_by makes operations

-- the moment of the last operation, or else `created`
abbrev pub last_moment : ℤ → List Op → ℤ
last_moment created operations =
    unwrap_or (option_map moment_of (slice_get operations (length operations - 1))) created

-- the operation, counted from 1, that last named the member, or 0
abbrev pub last_naming : ℕ → List Op → ℕ
last_naming number [] = 0
last_naming number (operation ∷ later) =
    let behind = last_naming number later in
    if behind == 0 then (if names number operation then 1 else 0) else behind + 1

-- how many of the members up to this number the map has
abbrev pub count_up_to : (ℕ → Option EntryValue) → ℕ → ℕ
count_up_to live zero = 0
count_up_to live (suc n) = if is_some (live (suc n)) then count_up_to live n + 1 else count_up_to live n

-- how many members are live
abbrev pub live_count : List Op → ℕ
live_count operations = count_up_to (fold_of operations).live (made operations)

-- the `updated` of an entry, where there is one
abbrev pub updated_of : Option EntryValue → Option ℤ
updated_of entry = option_map (λ (e : EntryValue). e.updated) entry

-- the state of a member; one that neither map has was never made
abbrev pub state_by : Option ℤ → Option EntryValue → ℕ → State
state_by (Some when) live version = Deleted when
state_by None (Some entry) version = Live entry.updated version
state_by None None version = Never

-- the state of a member after the operations
unfoldable pub state_of : List Op → ℕ → State
state_of operations number =
    let members = fold_of operations in
    state_by (members.gone number) (members.live number) (last_naming number operations)
