-- The events of a turn, and the lives that go through events.
use Rattle.std.specs.Prelude.{◌≡◌, ℕ, ◌-◌, ◌/◌, ◌==◌, List, [], ◌∷◌, ◌++◌, Bool, true, if◌then◌else◌, Option, None}
use Rattle.std.specs.Prelude.{is_some, map}
use Rattle.document_server.specs.declared.line.Line.{Line}
use Rattle.feed_drill.specs.Requests.{feed_request, offer_crashes, request_crashes, request_of}
use Rattle.feed_drill.specs.Turn.{Turn, has_offer}
use Rattle.feed_life.specs.Events.{IsStep}
use Rattle.feed_life.specs.Life.{LifeValue}
use Rattle.feed_life.specs.declared.event.Event.{Event}
use Rattle.feed_life.specs.declared.event.Event.TheVariants.{Ask, Give}
use Rattle.member_rules.specs.declared.operation.Op.{Op}
use Rattle.mirror_walk.specs.Holding.{KeptValue}

-- Events

-- the requests of the turn of this number, in order, by whether its operation outlived a crash
abbrev pub request_events : List ℕ → ℕ → Turn → Bool → List Event
request_events base number turn kept =
    map (λ crash. Ask (request_of base number turn.ask) turn.now crash) (request_crashes turn.crash kept)

-- the feed's document is asked for, and offered to the mirror by its place among the documents that were sent
abbrev pub shown_events : List ℕ → ℕ → ℕ → ℕ → List Event
shown_events base number now sent =
    Ask (feed_request base) now None ∷ map (λ crash. Give 0 sent crash) (offer_crashes number)

-- The offers of a turn, if it has any. Each fifth turn sends one document, so this turn's place is counted from 0.
abbrev pub offer_events : List ℕ → ℕ → ℕ → List Event
offer_events base number now = if has_offer number then shown_events base number now (number / 5 - 1) else []

abbrev pub turn_events : List ℕ → ℕ → Turn → Bool → List Event
turn_events base number turn kept = request_events base number turn kept ++ offer_events base number turn.now

-- Lives

-- a life with its history, and the documents that its mirrors hold
pub record Moment : Type 0 where
  pub life : LifeValue
  pub history : List Op
  pub held : List (List KeptValue)

abbrev pub moment_of : LifeValue → List Op → List (List KeptValue) → Moment
moment_of life history held = record { life = life; history = history; held = held }

-- from one moment to another by these events, in order
abbrev pub Goes : Moment → List Event → Moment → Type 0
Goes before [] after = after ≡ before
Goes before (event ∷ events) after =
    (next : LifeValue) × (line : Option Line) × (step : IsStep before.life next event before.history before.held line)
    × Goes (moment_of next step.later step.left) events after

-- A life went through the requests of a turn. If the first had a crash, the operation counts as kept exactly if the
-- version was then the turn's number. Otherwise the request was made again.
pub record IsRequested (base : List ℕ) (number : ℕ) (turn : Turn) (kept : Bool) (before after : Moment) : Type 0 where
  pub goes : Goes before (request_events base number turn kept) after
  pub kept_is : is_some turn.crash ≡ true → kept ≡ (goes.0.version == number)

-- a life went through the requests of a turn, and its offers
pub record IsTurnOf (base : List ℕ) (number : ℕ) (turn : Turn) (kept : Bool) (before after : Moment) : Type 0 where
  pub goes : Goes before (turn_events base number turn kept) after
  pub kept_is : is_some turn.crash ≡ true → kept ≡ (goes.0.version == number)
