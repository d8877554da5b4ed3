-- The table of all members after a list of operations.
use Rattle.std.specs.Prelude.{◌≡◌, ℕ, ◌+◌, ◌-◌, ◌<◌, ◌≤◌, List, ℤ, Option, Some, Contains, length, slice_get}
use Rattle.atom_values.specs.Entry.{EntryValue}
use Rattle.recency_list.specs.Recency.{RecencyValue}
use Rattle.member_rules.specs.declared.operation.Op.{Op}
use Rattle.member_rules.specs.declared.state.State.{State}
use Rattle.member_rules.specs.Fold.{fold_of, made, last_moment, live_count, state_of}
use Rattle.member_rules.specs.History.{AreFollowing, MayFollow, history_limit}
use Rattle.member_rules.specs.Recent.{recent_members}

-- the states of the members, in order of number from 1; the `edited` of each one's entry, if it is live; the members by
-- their last operations, newest first; the last moment; how many members are live; how many operations there were; and
-- how many more members there is room for
pub record Table : Type 0 where
  pub states : List State
  pub edited : List (Option ℤ)
  pub recent : List ℕ
  pub last : ℤ
  pub live : ℕ
  pub operations : ℕ
  pub spare : ℕ

-- the table has this state and this `edited` of the member with this number
pub record HasMember (table : Table) (number : ℕ) (is : State) (at : Option ℤ) : Type 0 where
  pub counted : 1 ≤ number
  pub state : slice_get table.states (number - 1) ≡ Some is
  pub edited : slice_get table.edited (number - 1) ≡ Some at

-- no more members are made than there are operations, and no more are live than are made
pub record AreCounts (count live operations : ℕ) : Type 0 where
  pub members : count ≤ operations
  pub living : live ≤ count
  pub few : operations ≤ history_limit

-- each of `count` members, counted from 1, is in the order, and there are slots for their numbers
pub record AreOrdered (count : ℕ) (order : RecencyValue) : Type 0 where
  pub listed : (number : ℕ) → 1 ≤ number → number ≤ count → Contains order.list number
  pub slots : count ≤ order.slots - 1

-- the table is that of these operations, each of which may follow those before it
pub record IsTableOf (table : Table) (created : ℤ) (history : List Op) : Type 0 where
  pub following : AreFollowing created history
  pub count : length table.states ≡ made history
  pub states : (k : ℕ) → k < length table.states → slice_get table.states k ≡ Some (state_of history (k + 1))
  pub edited : (number : ℕ) (entry : EntryValue) → (fold_of history).live number ≡ Some entry
      → slice_get table.edited (number - 1) ≡ Some (Some entry.edited)
  pub recent : table.recent ≡ recent_members history
  pub last : table.last ≡ last_moment created history
  pub live : table.live ≡ live_count history
  pub operations : table.operations ≡ length history

-- the operation may follow a list of operations that the table is of
pub record MayCommit (table : Table) (operation : Op) : Type 0 where
  pub created : ℤ
  pub history : List Op
  pub table_of : IsTableOf table created history
  pub follows : MayFollow created history operation
