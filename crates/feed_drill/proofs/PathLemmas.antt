-- Lives that go through events.
use Rattle.std.proofs.Common.{◌≡◌, ℕ, suc, ◌-◌, ◌/◌, List, [], ◌∷◌, ◌++◌, Bool, true, false, Option, refl, sym, ap}
use Rattle.std.proofs.Common.{subst, ◌∙◌, arith, map}
use Rattle.std.specs.Prelude.{if◌then◌else◌}
use Rattle.document_server.specs.declared.line.Line.{Line}
use Rattle.feed_drill.specs.Drilled.{HasTurns, drilled, turn_at, turns_events}
use Rattle.feed_drill.specs.Events.{Goes, IsRequested, IsTurnOf, Moment, moment_of, offer_events, shown_events}
use Rattle.feed_drill.specs.Requests.{request_again, request_of}
use Rattle.feed_drill.specs.Turn.{Turn, has_offer, live_numbers, turn_of}
use Rattle.feed_life.specs.Events.{IsStep, LivesOn}
use Rattle.feed_life.specs.Life.{LifeValue}
use Rattle.feed_life.specs.declared.event.Event.{Event}
use Rattle.feed_life.specs.declared.event.Event.TheVariants.{Ask as AskEvent}
use Rattle.feed_life.specs.declared.event.Stop.{Stop}
use Rattle.member_rules.specs.Head.{HeadValue}
use Rattle.member_rules.specs.declared.operation.Op.{Op}
use Rattle.mirror_walk.specs.Holding.{KeptValue}

pub moment-is : (life : LifeValue) (history later : List Op) (held left : List (List KeptValue)) → later ≡ history
    → left ≡ held → moment_of life later left ≡ moment_of life history held
moment-is life history later held left e f =
    ap (λ (l : List Op). moment_of life l left) e ∙ ap (λ (h : List (List KeptValue)). moment_of life history h) f

-- a step goes through its event
pub step-goes : (old new : LifeValue) (event : Event) (history : List Op) (held : List (List KeptValue))
    (line : Option Line) (step : IsStep old new event history held line) (later : List Op)
    (left : List (List KeptValue)) → later ≡ step.later → left ≡ step.left
    → Goes (moment_of old history held) (event ∷ []) (moment_of new later left)
step-goes old new event history held line step later left e f =
    (new, line, step, moment-is new step.later later step.left left e f)

pub goes-append : (before between after : Moment) (events more : List Event) → Goes before events between
    → Goes between more after → Goes before (events ++ more) after
goes-append before between after [] more first second = subst (λ (m : Moment). Goes m more after) first second
goes-append before between after (event ∷ events) more first second = (
  first.0,
  first.1,
  first.2,
  goes-append (moment_of first.0 first.2.later first.2.left) between after events more first.3 second,
)

pub goes-lives : (before after : Moment) (events : List Event) → Goes before events after
    → LivesOn before.life before.history before.held events after.life
goes-lives before after [] goes = ap (λ (m : Moment). m.life) goes
goes-lives before after (event ∷ events) goes = (
  goes.0,
  goes.1,
  goes.2,
  goes-lives (moment_of goes.0 goes.2.later goes.2.left) after events goes.3,
)

pub turns-go : (head : HeadValue) (seed : ℕ) (keeps : List Bool) (before after : Moment)
    → HasTurns head seed keeps before after → Goes before (turns_events head seed keeps) after
unfolding turns_events
turns-go head seed [] before after same = same
turns-go head seed (kept ∷ earlier) before after turns =
    goes-append before turns.0 after (turns_events head seed earlier) _ (turns-go head seed earlier before turns.0
    turns.1) turns.2.goes

-- the requests of a turn, and then its offers
pub turn-had : (base : List ℕ) (number : ℕ) (turn : Turn) (kept : Bool) (before between after : Moment)
    → IsRequested base number turn kept before between → Goes between (offer_events base number turn.now) after
    → IsTurnOf base number turn kept before after
turn-had base number turn kept before between after requested offers =
    let first = requested.goes in
    record {
      goes = (
        first.0,
        first.1,
        first.2,
        goes-append (moment_of first.0 first.2.later first.2.left) between after
            (map (λ (crash : Option Stop). AskEvent (request_of base number turn.ask) turn.now crash)
            (request_again turn.crash kept))
            (offer_events base number turn.now) first.3 offers,
      );
      kept_is = requested.kept_is;
    }

pub no-offers : (base : List ℕ) (number now : ℕ) (moment : Moment) → has_offer number ≡ false
    → Goes moment (offer_events base number now) moment
no-offers base number now moment none =
    subst (λ (b : Bool). Goes moment (if b then shown_events base number now (number / 5 - 1) else []) moment)
    (sym none) refl

pub some-offers : (base : List ℕ) (number now : ℕ) (before after : Moment) → has_offer number ≡ true
    → Goes before (shown_events base number now (number / 5 - 1)) after
    → Goes before (offer_events base number now) after
some-offers base number now before after some goes =
    subst (λ (b : Bool). Goes before (if b then shown_events base number now (number / 5 - 1) else []) after) (sym some)
    goes

pub turn-at-more : (head : HeadValue) (seed count : ℕ)
    → turn_at head seed (suc count)
    ≡ turn_of (live_numbers (drilled head seed count).history) (suc count) (drilled head seed count).state
turn-at-more head seed count =
    let before : suc count - 1 ≡ count = omega arith in
    ap (λ (n : ℕ). turn_of (live_numbers (drilled head seed n).history) (suc count) (drilled head seed n).state) before
