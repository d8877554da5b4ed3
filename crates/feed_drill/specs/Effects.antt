-- The effects of the parts of a turn on a life, and on the values that a drill keeps beside it.
use Rattle.std.specs.Prelude.{◌≡◌, ◌⊎◌, ℕ, suc, ◌≤◌, ◌<◌, ◌^◌, ◌==◌, not, List, [], ◌∷◌, ◌++◌, None, Ok}
use Rattle.std.specs.Prelude.{Bool, Option, Some, false, filter, if◌then◌else◌, length}
use Rattle.atom_values.specs.Counts.{counted}
use Rattle.atom_values.specs.Entry.{DraftValue, titled}
use Rattle.entry_reader.specs.Spells.{Spells}
use Rattle.feed_drill.specs.Drilled.{Drilled, HadDrill, HadTurns, IsDrilledTo, after_turn, drilled, operations}
use Rattle.feed_drill.specs.Drilled.{sent_doc}
use Rattle.feed_drill.specs.Events.{Goes, IsRequested, moment_of, shown_events}
use Rattle.feed_drill.specs.Requests.{entry_body, feed_request, has_offer_crash, request_of}
use Rattle.feed_drill.specs.Turn.{clock_at, has_crash, live_numbers, title_of, turn_of}
use Rattle.feed_drill.specs.declared.wish.Wish.{Wish}
use Rattle.feed_drill.specs.declared.wish.Wish.TheVariants as wish
use Rattle.feed_life.specs.Events.{with_stop}
use Rattle.feed_life.specs.Life.{LifeValue, Lives}
use Rattle.feed_life.specs.declared.event.Event.{Event}
use Rattle.feed_life.specs.declared.event.Event.TheVariants.{Ask as AskEvent}
use Rattle.feed_life.specs.declared.event.Stop.{Stop}
use Rattle.member_rules.specs.Decide.{decide}
use Rattle.member_rules.specs.Fold.{made}
use Rattle.member_rules.specs.Head.{HeadValue}
use Rattle.member_rules.specs.declared.ask.Ask.{Ask}
use Rattle.member_rules.specs.declared.ask.Ask.TheVariants.{Create, Replace, Delete}
use Rattle.member_rules.specs.declared.operation.Op.{Op}
use Rattle.mirror_walk.specs.Holding.{KeptValue}

-- Asks

-- the ask of a turn
abbrev pub ask_of : ℕ → Wish → Ask
ask_of turn wish.Create = Create (titled (title_of turn))
ask_of turn (wish.Replace number) = Replace number (titled (title_of turn))
ask_of turn (wish.Delete number) = Delete number

-- it names no member, or one whose number is from 1
abbrev pub IsWish : Wish → Type 0
IsWish wish.Create = Unit {0}
IsWish (wish.Replace number) = (1 ≤ number) × (number < 2 ^ 32)
IsWish (wish.Delete number) = (1 ≤ number) × (number < 2 ^ 32)

-- a draft without authors, contributors, links and categories
pub record HasNoLists (draft : DraftValue) : Type 0 where
  pub authors : draft.authors ≡ []
  pub contributors : draft.contributors ≡ []
  pub links : draft.links ≡ []
  pub categories : draft.categories ≡ []

-- a draft without an identifier, dates, and texts beside its title
pub record HasNoOptions (draft : DraftValue) : Type 0 where
  pub id : draft.id ≡ None
  pub updated : draft.updated ≡ None
  pub published : draft.published ≡ None
  pub rights : draft.rights ≡ None
  pub summary : draft.summary ≡ None
  pub content : draft.content ≡ None

-- the entry document of a turn is read as no other draft than its own
abbrev pub ReadsAsTitle : ℕ → Type 0
ReadsAsTitle turn = (draft : DraftValue) → Spells (entry_body turn) draft → draft ≡ titled (title_of turn)

-- the request has no entry document, or it is read so
abbrev pub IsWishRead : ℕ → Wish → Type 0
IsWishRead turn wish.Create = ReadsAsTitle turn
IsWishRead turn (wish.Replace number) = ReadsAsTitle turn
IsWishRead turn (wish.Delete number) = Unit {0}

-- Requests

-- the history gained the operation that an ask becomes
pub record Gained (head : HeadValue) (history later : List Op) (ask : Ask) (now : ℕ) : Type 0 where
  pub operation : Op
  pub decided : decide head.name head.created history ask now ≡ Ok operation
  pub later_is : later ≡ history ++ operation ∷ []

-- only the store of a life changed, and the number of its stops is this
abbrev pub KeepsRest : LifeValue → LifeValue → ℕ → Type 0
KeepsRest old new stops =
    new ≡ record old { disk = new.disk; version = new.version; sealed = new.sealed; stops = stops }

-- a life after the requests of a turn, whose history gained the operation
pub record IsDone (old new : LifeValue) (turn : ℕ) (ask : Ask) (now : ℕ) (stop : Option Stop) (history : List Op)
    (held : List (List KeptValue)) : Type 0 where
  pub later : List Op
  pub gained : Gained old.head history later ask now
  pub lives : Lives new later held
  pub rest : KeepsRest old new (with_stop stop old.stops)
  pub kept : Bool
  pub requested : IsRequested old.head.name.base turn (record { ask = ask; now = now; crash = stop }) kept
      (moment_of old history held) (moment_of new later held)

-- a life after a request of a turn with a crash
pub record IsCrashed (old new : LifeValue) (turn : ℕ) (ask : Ask) (now : ℕ) (stop : Stop) (history : List Op)
    (held : List (List KeptValue)) : Type 0 where
  pub later : List Op
  pub either : (later ≡ history) ⊎ Gained old.head history later ask now
  pub lives : Lives new later held
  pub rest : KeepsRest old new (counted old.stops)
  pub goes : Goes (moment_of old history held)
      (AskEvent (request_of old.head.name.base turn ask) now (Some stop) ∷ []) (moment_of new later held)

-- Members

-- the generator's state, the numbers of the live members in order, and how many members were made
pub record CourseValue : Type 0 where
  pub state : ℕ
  pub live : List ℕ
  pub made : ℕ

abbrev pub course_of : Drilled → CourseValue
course_of drilled = record {
  state = drilled.state;
  live = live_numbers drilled.history;
  made = made drilled.history;
}

-- the members after a change
abbrev pub noted : CourseValue → Wish → CourseValue
noted course wish.Create = record course { live = course.live ++ suc course.made ∷ []; made = suc course.made }
noted course (wish.Replace number) = course
noted course (wish.Delete number) = record course { live = filter (λ other. not (other == number)) course.live }

-- Turns

abbrev pub stops_after : ℕ → ℕ → ℕ
stops_after turn stops = if has_crash turn then counted stops else stops

-- a life and its course after the request of a turn
pub record IsTurned (old new : LifeValue) (course : CourseValue) (head : HeadValue) (turn : ℕ) (before : Drilled)
    (held : List (List KeptValue)) : Type 0 where
  pub lives : Lives new (after_turn head turn before).history held
  pub course_is : course ≡ course_of (after_turn head turn before)
  pub whole : length (after_turn head turn before).history ≡ turn
  pub rest : KeepsRest old new (stops_after turn old.stops)
  pub kept : Bool
  pub requested : IsRequested head.name.base turn (turn_of (live_numbers before.history) turn before.state) kept
      (moment_of old before.history held) (moment_of new (after_turn head turn before).history held)

-- Offers

-- a life that was asked for the feed's document
pub record IsShownFeed (old new : LifeValue) (now : ℕ) (history : List Op) (held : List (List KeptValue))
    : Type 0 where
  pub lives : Lives new history held
  pub rest : new ≡ record old {
    disk = new.disk;
    version = new.version;
    sealed = new.sealed;
    sent = old.sent ++ sent_doc old.head history (length history) ∷ [];
  }
  pub goes : Goes (moment_of old history held) (AskEvent (feed_request old.head.name.base) now None ∷ [])
      (moment_of new history held)

-- a life whose one mirror was offered a document
pub record IsOffered (old new : LifeValue) (history : List Op) (held : List KeptValue) (stops : ℕ)
    (events : List Event) : Type 0 where
  pub kept : List KeptValue
  pub lives : Lives new history (kept ∷ [])
  pub rest : new ≡ record old { disk = new.disk; mirrors = new.mirrors; mirror_stops = stops }
  pub goes : Goes (moment_of old history (held ∷ [])) events (moment_of new history (kept ∷ []))

abbrev pub offer_stops_after : ℕ → ℕ → ℕ
offer_stops_after turn stops = if has_offer_crash turn then counted stops else stops

-- a life after the feed's document was asked for and offered
pub record IsFed (old new : LifeValue) (turn : ℕ) (history : List Op) (held : List KeptValue) : Type 0 where
  pub kept : List KeptValue
  pub lives : Lives new history (kept ∷ [])
  pub rest : new ≡ record old {
    disk = new.disk;
    mirrors = new.mirrors;
    version = new.version;
    sealed = new.sealed;
    sent = old.sent ++ sent_doc old.head history (length history) ∷ [];
    mirror_stops = offer_stops_after turn old.mirror_stops;
  }
  pub goes : Goes (moment_of old history (held ∷ []))
      (shown_events old.head.name.base turn (clock_at turn) (length old.sent)) (moment_of new history (kept ∷ []))

-- Lives

-- a life that has had the turns of a drill up to this number
pub record IsLived (head : HeadValue) (seed count : ℕ) (life : LifeValue) : Type 0 where
  pub kept : List KeptValue
  pub drilled : IsDrilledTo head seed count life kept
  pub had : HadTurns head seed count (moment_of life (operations head seed count) (kept ∷ []))

-- a life that has had the turns of a drill, and whose mirror walked then
pub record IsWalked (head : HeadValue) (seed count : ℕ) (life : LifeValue) : Type 0 where
  pub kept : List KeptValue
  pub drilled : IsDrilledTo head seed count life kept
  pub had : HadDrill head seed count life
  pub alive : life.lost ≡ false

-- a life that has had the turns of a drill, and its course
pub record IsReached (head : HeadValue) (seed count : ℕ) (life : LifeValue) (course : CourseValue) : Type 0 where
  pub lived : IsLived head seed count life
  pub course_is : course ≡ course_of (drilled head seed count)
