-- The value that the areas of a store open to, apart from how the store keeps it.
use Rattle.std.specs.Prelude.{◌≡◌, ℕ, zero, suc, List, [], ◌∷◌, ◌++◌}
use Rattle.feed_disk.specs.declared.area.Area.{Area}
use Rattle.feed_disk.specs.declared.area.Area.TheVariants.{Journal, Sealed}
use Rattle.feed_journal.specs.Records.{size_of}
use Rattle.feed_recovery.specs.Opening.{Opens, journal_of, seal_of}
use Rattle.feed_recovery.specs.Store.{StoreValue, seal_count}
use Rattle.member_rules.specs.Head.{HeadValue}
use Rattle.member_rules.specs.declared.operation.Op.{Op}

-- the head, the history and the number of seals
pub record Stored : Type 0 where
  pub head : HeadValue
  pub history : List Op
  pub seals : ℕ

-- the content of a disk opens to this
abbrev pub OpensTo : (Area → List ℕ) → Stored → Type 0
OpensTo content stored = Opens (content Journal) (content Sealed) stored.head stored.history stored.seals

-- the value that the areas of a loaded store open to
abbrev pub stored_of : StoreValue → Stored
stored_of store = record { head = store.head; history = store.history; seals = seal_count store }

-- the first seals of a history, in order
abbrev pub seals_of : HeadValue → List Op → ℕ → List (List ℕ)
seals_of head history zero = []
seals_of head history (suc number) = seals_of head history number ++ seal_of head history (suc number) ∷ []

-- the sizes of the two logs are those of the head, the history and the seals
pub record IsSized (store : StoreValue) : Type 0 where
  pub journal : store.journal.size ≡ size_of (journal_of store.head store.history)
  pub seals : store.seals.size ≡ size_of (seals_of store.head store.history (seal_count store))
