-- Which operation may follow a history, and which histories are lawful.
use Rattle.std.specs.Prelude.{◌≡◌, ℕ, ◌+◌, ◌≤◌, List, ℤ, ◌≤ℤ◌, ◌<ℤ◌, int_lt, if◌then◌else◌, Some, length, take}
use Rattle.std.specs.Prelude.{slice_get, All, IsSomeAnd}
use Rattle.atom_writer.specs.declared.doc.FeedName.{FeedName}
use Rattle.atom_writer.specs.Pieces.{entry_piece}
use Rattle.member_rules.specs.declared.operation.Op.{Op}
use Rattle.member_rules.specs.declared.operation.Op.TheVariants.{Add, Change, Remove, Set}
use Rattle.member_rules.specs.Head.{HeadValue}
use Rattle.member_rules.specs.Operation.{IsOperation, moment_of}
use Rattle.member_rules.specs.Fold.{fold_of, made, last_moment}

-- the later of two moments
abbrev pub later_of : ℤ → ℤ → ℤ
later_of a b = if int_lt a b then b else a

-- a new member has the next number; a change names a live member, whose `updated` doesn't go back; a removal names a
-- live member, and its tombstone has the later of the moment and the member's `updated`; a setting may change at any
-- time
abbrev pub Fits : List Op → Op → Type 0
Fits history (Add entry) = entry.number ≡ made history + 1
Fits history (Change entry) =
    IsSomeAnd ((fold_of history).live entry.number) (λ stored. stored.updated ≤ℤ entry.updated)
Fits history (Remove removal) =
    IsSomeAnd ((fold_of history).live removal.tombstone.number) (λ stored.
    removal.tombstone.when ≡ later_of removal.moment stored.updated)
Fits history (Set setting moment) = Unit {0}

-- the operation may follow the history of a feed that was made at this moment: it is later than all before it, and fits
pub record MayFollow (created : ℤ) (history : List Op) (operation : Op) : Type 0 where
  pub later : last_moment created history <ℤ moment_of operation
  pub fits : Fits history operation

-- each operation of the history may follow those before it
abbrev pub AreFollowing : ℤ → List Op → Type 0
AreFollowing created history =
    (k : ℕ) (operation : Op) → slice_get history k ≡ Some operation → MayFollow created (take k history) operation

-- the most operations of a history
abbrev pub history_limit : ℕ
history_limit = 4_294_967_294

-- the most bytes that an entry's piece of a document may have
abbrev pub entry_limit : ℕ
entry_limit = 394_240

-- the operation's entry, if it has one, keeps `entry_limit`
abbrev pub IsSmall : FeedName → Op → Type 0
IsSmall name (Add entry) = length (entry_piece name entry) ≤ entry_limit
IsSmall name (Change entry) = length (entry_piece name entry) ≤ entry_limit
IsSmall name (Remove removal) = Unit {0}
IsSmall name (Set setting moment) = Unit {0}

-- a lawful history of the feed with this head
pub record IsLawful (head : HeadValue) (history : List Op) : Type 0 where
  pub few : length history ≤ history_limit
  pub following : AreFollowing head.created history
  pub small : All (IsSmall head.name) history
  pub operations : All IsOperation history
