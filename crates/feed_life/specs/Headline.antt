-- The facts of a life that each later life keeps.
use Rattle.std.specs.Prelude.{◌≡◌, ℕ, ◌≤◌, List, ◌++◌, Some, slice_get}
use Rattle.feed_life.specs.Events.{IsLifeOf, LivesOn}
use Rattle.feed_life.specs.Life.{LifeValue, Lives}
use Rattle.feed_life.specs.Mirrors.{IsShown}
use Rattle.feed_life.specs.declared.event.Event.{Event}
use Rattle.feed_life.specs.declared.sent.SentDoc.{SentDoc}
use Rattle.feed_recovery.specs.Opening.{seal_of}
use Rattle.member_rules.specs.Head.{HeadValue}
use Rattle.member_rules.specs.declared.operation.Op.{Op}
use Rattle.mirror_walk.specs.Holding.{KeptValue}
use Rattle.mirror_walk.specs.Listing.{outcome_of}

-- The first events lead to an earlier life, and the rest of the events lead from it to the last life, with one step for
-- each. The last life's history is that of the earlier one, with more operations or none. Each archive that was sealed
-- has the text that it had. Each document that was sent is among those sent at the end. Each mirror shows what it holds
-- of the last life's history.
pub record KeepsAll (head : HeadValue) (mirrors : ℕ) (first rest : List Event) (last : LifeValue) : Type 0 where
  pub earlier : LifeValue
  pub is_life : IsLifeOf head mirrors first earlier
  pub history : List Op
  pub held : List (List KeptValue)
  pub lives : Lives earlier history held
  pub lived : LivesOn earlier history held rest last
  pub more : List Op
  pub left : List (List KeptValue)
  pub lives_on : Lives last (history ++ more) left
  pub head_is : last.head ≡ head
  pub archives : (number : ℕ) → 1 ≤ number → number ≤ earlier.sealed
      → seal_of head (history ++ more) number ≡ seal_of head history number
  pub docs : List SentDoc
  pub sent : last.sent ≡ earlier.sent ++ docs
  pub shown : (mirror : ℕ) (kept : List KeptValue) → slice_get left mirror ≡ Some kept
      → IsShown head (history ++ more) kept (outcome_of kept)
