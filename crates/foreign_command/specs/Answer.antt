-- The answer of `foreign` to what a source has at each address.
use Rattle.std.specs.Prelude.{◌≡◌, ℕ, List, length, Option}
use Rattle.command_ends.specs.Answer.{Answer}
use Rattle.feed_reader.specs.Feed.{DocumentValue}
use Rattle.feed_reader.specs.declared.values.ForeignEntry.{ForeignEntry}
use Rattle.foreign_entries.specs.Live.{IsForeignLive}
use Rattle.foreign_mirror.specs.declared.walk.ChainEnd.{ChainEnd}
use Rattle.foreign_mirror.specs.Walk.{WalksFrom}
use Rattle.foreign_mirror.specs.Walk.Ending.{over}
use Rattle.foreign_command.specs.Lines.{foreign_answer}

-- the answer is that of the walk from this address on
pub record IsForeignAnswer (answers : List ℕ → Option (List ℕ)) (from : List ℕ) (given : Answer) : Type 0 where
  pub asked : List (List ℕ)
  pub documents : List DocumentValue
  pub end : ChainEnd
  pub walks : WalksFrom answers from asked documents (over end)
  pub live : List ForeignEntry
  pub is_live : IsForeignLive documents live
  pub is : given ≡ foreign_answer (length documents) live end

-- there is one answer at most
abbrev pub ForeignHasOneAnswer : Type 0
ForeignHasOneAnswer =
    (answers : List ℕ → Option (List ℕ)) (from : List ℕ) (one other : Answer) → IsForeignAnswer answers from one
    → IsForeignAnswer answers from other → one ≡ other
