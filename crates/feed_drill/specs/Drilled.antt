-- The operations of a drill, the documents that are sent in it, and its events.
use Rattle.std.specs.Prelude.{◌≡◌, ℕ, zero, suc, ◌-◌, ◌/◌, length, List, [], ◌∷◌, ◌++◌, Result, Ok, Err, filter, map}
use Rattle.std.specs.Prelude.{Bool, None, false, take}
use Rattle.std.specs.List.{range_with_len}
use Rattle.atom_writer.specs.Pieces.{text}
use Rattle.chain_links.specs.Address.{printed}
use Rattle.chain_links.specs.declared.address.Address.TheVariants.{Feed}
use Rattle.feed_drill.specs.Events.{Goes, IsTurnOf, Moment, moment_of, turn_events}
use Rattle.feed_drill.specs.Turn.{Turn, has_offer, live_numbers, state_past, turn_of}
use Rattle.feed_life.specs.Events.{IsBorn, IsLifeOf}
use Rattle.feed_life.specs.Life.{LifeValue, Lives}
use Rattle.feed_life.specs.declared.event.Event.{Event}
use Rattle.feed_life.specs.declared.event.Event.TheVariants.{Walk}
use Rattle.feed_life.specs.declared.sent.SentDoc.{SentDoc}
use Rattle.member_rules.specs.Decide.{decide}
use Rattle.member_rules.specs.Documents.{subscription}
use Rattle.member_rules.specs.Fold.{live_count}
use Rattle.member_rules.specs.Head.{HeadValue}
use Rattle.member_rules.specs.declared.fault.RuleFault.{RuleFault}
use Rattle.member_rules.specs.declared.operation.Op.{Op}
use Rattle.mirror_walk.specs.Holding.{KeptValue}
use Rattle.mirror_walk.specs.Listing.{outcome_of}
use Rattle.mirror_walk.specs.declared.answer.Outcome.TheVariants.{Complete}

-- Operations

-- the history, and the generator's state
pub record Drilled : Type 0 where
  pub history : List Op
  pub state : ℕ

abbrev pub decided : Result Op RuleFault → List Op
decided (Ok operation) = operation ∷ []
decided (Err fault) = []

-- the history with the operation that a turn's ask becomes
abbrev pub with_turn : HeadValue → List Op → Turn → List Op
with_turn head history turn = history ++ decided (decide head.name head.created history turn.ask turn.now)

-- after the turn of this number
abbrev pub after_turn : HeadValue → ℕ → Drilled → Drilled
after_turn head turn before =
    let live = live_numbers before.history in record {
      history = with_turn head before.history (turn_of live turn before.state);
      state = state_past live turn before.state;
    }

-- after this many turns of the drill with this seed
unfoldable pub drilled : HeadValue → ℕ → ℕ → Drilled
drilled head seed zero = record { history = []; state = seed }
drilled head seed (suc count) = after_turn head (suc count) (drilled head seed count)

-- the operations of the first `count` turns
abbrev pub operations : HeadValue → ℕ → ℕ → List Op
operations head seed count = (drilled head seed count).history

-- the turn of this number, counted from 1
abbrev pub turn_at : HeadValue → ℕ → ℕ → Turn
turn_at head seed turn =
    let before = drilled head seed (turn - 1) in turn_of (live_numbers before.history) turn before.state

-- Sent documents

-- the numbers of operations after which a document is sent, in order
unfoldable pub sent_versions : ℕ → List ℕ
sent_versions count = filter has_offer (range_with_len 1 count)

-- the document after the first `version` operations of a history
abbrev pub text_at : HeadValue → List Op → ℕ → List ℕ
text_at head history version = text (subscription head (take version history))

-- the feed's document after the first `version` operations of a history, as it is sent
abbrev pub sent_doc : HeadValue → List Op → ℕ → SentDoc
sent_doc head history version = record {
  address = printed head.name.base Feed;
  bytes = text_at head history version;
  version = version;
}

-- the documents that are sent, in order
abbrev pub sent_docs : HeadValue → List Op → ℕ → List SentDoc
sent_docs head history count = map (sent_doc head history) (sent_versions count)

-- Events

-- The events of the turns. `keeps` has an item for each turn, the last turn first: whether its operation outlived the
-- crash of its request. The item of a turn without a crash means nothing.
unfoldable pub turns_events : HeadValue → ℕ → List Bool → List Event
turns_events head seed [] = []
turns_events head seed (kept ∷ earlier) =
    let number = suc (length earlier) in
    turns_events head seed earlier ++ turn_events head.name.base number (turn_at head seed number) kept

-- at the end the mirror walks
abbrev pub walk_events : List Event
walk_events = Walk 0 None ∷ []

-- the events of a drill
abbrev pub drill_events : HeadValue → ℕ → List Bool → List Event
drill_events head seed keeps = turns_events head seed keeps ++ walk_events

-- from one moment to another by the turns, one after the other
abbrev pub HasTurns : HeadValue → ℕ → List Bool → Moment → Moment → Type 0
HasTurns head seed [] before after = after ≡ before
HasTurns head seed (kept ∷ earlier) before after =
    (between : Moment) × HasTurns head seed earlier before between
    × IsTurnOf head.name.base (suc (length earlier)) (turn_at head seed (suc (length earlier))) kept between after

-- the first moment of a life
abbrev pub first_of : LifeValue → Moment
first_of life = moment_of life [] (map (λ _. []) life.mirrors)

-- a life went through the turns of a drill, up to this number and this moment
pub record HadTurns (head : HeadValue) (seed count : ℕ) (after : Moment) : Type 0 where
  pub keeps : List Bool
  pub each : length keeps ≡ count
  pub begun : LifeValue
  pub born : IsBorn head 1 begun
  pub turns : HasTurns head seed keeps (first_of begun) after

-- A life went through the events of a drill: those of its turns, and the walk. `lived` says so of the whole life, and
-- `turns` of each turn, with the version that decided whether its request was made again.
pub record HadDrill (head : HeadValue) (seed count : ℕ) (life : LifeValue) : Type 0 where
  pub turned : Moment
  pub turns : HadTurns head seed count turned
  pub last : Moment
  pub walked : Goes turned walk_events last
  pub life_is : last.life ≡ life
  pub lived : IsLifeOf head 1 (drill_events head seed turns.keeps) life

-- Lives

-- A life that has had the turns of a drill up to this number: each operation of a turn is in its history, and its one
-- mirror holds `kept`.
pub record IsDrilledTo (head : HeadValue) (seed count : ℕ) (life : LifeValue) (kept : List KeptValue) : Type 0 where
  pub head_is : life.head ≡ head
  pub lives : Lives life (operations head seed count) (kept ∷ [])
  pub whole : length (operations head seed count) ≡ count
  pub stops : life.stops ≡ count / 7
  pub mirror_stops : life.mirror_stops ≡ count / 15
  pub sent : life.sent ≡ sent_docs head (operations head seed count) count

-- A life that has had a whole drill: its mirror is complete at its last operation. `before` is the life that went
-- through the drill's events. Then the certificate of its mirror was made, which changes only the mirror's disk.
pub record IsDrilled (head : HeadValue) (seed count : ℕ) (life : LifeValue) : Type 0 where
  pub kept : List KeptValue
  pub drilled : IsDrilledTo head seed count life kept
  pub complete : outcome_of kept ≡ Complete count (live_count (operations head seed count))
  pub before : LifeValue
  pub had : HadDrill head seed count before
  pub same : life ≡ record before { mirrors = life.mirrors }
  pub alive : life.lost ≡ false
