-- The events of a life, one after another.
use Rattle.std.specs.Prelude.{◌≡◌, ◌⊎◌, ℕ, ◌≤◌, List, [], ◌∷◌, Option, None, Some, false, length, map}
use Rattle.std.specs.Prelude.{slice_get, slice_set}
use Rattle.atom_values.specs.Counts.{counted}
use Rattle.document_server.specs.declared.line.Line.{Line}
use Rattle.feed_disk.specs.Memory.{MemoryValue}
use Rattle.feed_life.specs.Asks.{IsAsked, IsHalted, IsSet, Outcomes, of_request, of_setting}
use Rattle.feed_life.specs.Life.{LifeValue, Lives}
use Rattle.feed_life.specs.Mirrors.{IsGift, IsWalk}
use Rattle.feed_life.specs.declared.event.Event.{Event}
use Rattle.feed_life.specs.declared.event.Event.TheVariants.{Ask, Give, Walk, Set}
use Rattle.feed_life.specs.declared.event.Stop.{Stop}
use Rattle.feed_life.specs.declared.sent.SentDoc.{SentDoc}
use Rattle.http_face.specs.Request.{RequestValue}
use Rattle.member_rules.specs.Head.{HeadValue}
use Rattle.member_rules.specs.declared.operation.Op.{Op}
use Rattle.member_rules.specs.declared.setting.Setting.{Setting}
use Rattle.mirror_walk.specs.Holding.{KeptValue}

-- Mirrors

-- the disk and the documents of one mirror change, and those of the others stay
pub record ChangesOne (disks now : List MemoryValue) (held left : List (List KeptValue)) (mirror : ℕ)
    (changes : MemoryValue → MemoryValue → List KeptValue → List KeptValue → Type 0) : Type 0 where
  pub disk : MemoryValue
  pub disk_left : MemoryValue
  pub kept : List KeptValue
  pub after : List KeptValue
  pub disk_there : slice_get disks mirror ≡ Some disk
  pub there : slice_get held mirror ≡ Some kept
  pub changed : changes disk disk_left kept after
  pub disks_are : now ≡ slice_set disks mirror disk_left
  pub left_is : left ≡ slice_set held mirror after

abbrev pub with_stop : Option Stop → ℕ → ℕ
with_stop None stops = stops
with_stop (Some stop) stops = counted stops

-- an event of a mirror that exists: the store, its history and what was sent stay
pub record StepsMirror (old new : LifeValue) (history later : List Op) (held left : List (List KeptValue)) (mirror : ℕ)
    (stop : Option Stop) (changes : MemoryValue → MemoryValue → List KeptValue → List KeptValue → Type 0)
    : Type 0 where
  pub changed : ChangesOne old.mirrors new.mirrors held left mirror changes
  pub history_is : later ≡ history
  pub stays : new ≡ record old {
    disk = new.disk;
    mirrors = new.mirrors;
    mirror_stops = with_stop stop old.mirror_stops;
  }

-- an event that names no mirror or no document
pub record StepsNothing (old new : LifeValue) (history later : List Op) (held left : List (List KeptValue))
    : Type 0 where
  pub same : new ≡ old
  pub history_is : later ≡ history
  pub held_is : left ≡ held

-- an event of the mirror of this number, if there is one
abbrev pub StepsAnyMirror : LifeValue → LifeValue → List Op → List Op → List (List KeptValue)
    → List (List KeptValue) → ℕ → Option Stop
    → (MemoryValue → MemoryValue → List KeptValue → List KeptValue → Type 0) → Type 0
StepsAnyMirror old new history later held left mirror stop changes =
    ((length old.mirrors ≤ mirror) × StepsNothing old new history later held left)
    ⊎ StepsMirror old new history later held left mirror stop changes

-- a gift of a document, if there is one
abbrev pub StepsGift : LifeValue → LifeValue → List Op → List Op → List (List KeptValue) → List (List KeptValue) → ℕ
    → Option Stop → Option SentDoc → Type 0
StepsGift old new history later held left mirror stop None = StepsNothing old new history later held left
StepsGift old new history later held left mirror stop (Some doc) =
    StepsAnyMirror old new history later held left mirror stop (IsGift old.head history doc stop)

-- Asks

-- a request that was answered: its line, and the mirrors stay
pub record StepsAsk (old new : LifeValue) (request : RequestValue) (now : ℕ) (history later : List Op)
    (held left : List (List KeptValue)) (line : Option Line) : Type 0 where
  pub answer : Line
  pub line_is : line ≡ Some answer
  pub asked : IsAsked old new request now history held answer
  pub history_is : later ≡ asked.later
  pub held_is : left ≡ held
  pub stays : new ≡ record old { disk = new.disk; sent = new.sent; version = new.version; sealed = new.sealed }

-- a change of a setting: no line, and the mirrors and what was sent stay
pub record StepsSet (old new : LifeValue) (setting : Setting) (now : ℕ) (history later : List Op)
    (held left : List (List KeptValue)) (line : Option Line) : Type 0 where
  pub no_line : line ≡ None
  pub is_set : IsSet old new setting now history held
  pub history_is : later ≡ is_set.later
  pub held_is : left ≡ held
  pub stays : new ≡ record old { disk = new.disk; version = new.version; sealed = new.sealed }

-- a request or a change of a setting that was stopped: no line, and nothing is sent
pub record StepsHalt (old new : LifeValue) (outcomes : Outcomes) (stop : Stop) (history later : List Op)
    (held left : List (List KeptValue)) (line : Option Line) : Type 0 where
  pub no_line : line ≡ None
  pub halted : IsHalted old new outcomes stop history held
  pub history_is : later ≡ halted.later
  pub held_is : left ≡ held
  pub stays : new ≡ record old {
    disk = new.disk;
    version = new.version;
    sealed = new.sealed;
    stops = counted old.stops;
  }

-- Events

-- The effect of an event on a life: on its history and on the documents that its mirrors hold.
abbrev pub StepsBy : LifeValue → LifeValue → Event → List Op → List Op → List (List KeptValue) → List (List KeptValue)
    → Option Line → Type 0
StepsBy old new (Ask request now None) history later held left line =
    StepsAsk old new request now history later held left line
StepsBy old new (Ask request now (Some stop)) history later held left line =
    StepsHalt old new (of_request request now) stop history later held left line
StepsBy old new (Set setting now None) history later held left line =
    StepsSet old new setting now history later held left line
StepsBy old new (Set setting now (Some stop)) history later held left line =
    StepsHalt old new (of_setting setting now) stop history later held left line
StepsBy old new (Give mirror sent stop) history later held left line =
    (line ≡ None) × StepsGift old new history later held left mirror stop (slice_get old.sent sent)
StepsBy old new (Walk mirror stop) history later held left line =
    (line ≡ None) × StepsAnyMirror old new history later held left mirror stop (IsWalk old.head history stop)

-- a step by an event, from a history and the documents held to others, with which the life lives on
pub record IsStep (old new : LifeValue) (event : Event) (history : List Op) (held : List (List KeptValue))
    (line : Option Line) : Type 0 where
  pub later : List Op
  pub left : List (List KeptValue)
  pub steps : StepsBy old new event history later held left line
  pub lives : Lives new later left

-- a life before its first event
pub record IsBorn (head : HeadValue) (mirrors : ℕ) (life : LifeValue) : Type 0 where
  pub head_is : life.head ≡ head
  pub mirrors_are : length life.mirrors ≡ mirrors
  pub lives : Lives life [] (map (λ _. []) life.mirrors)
  pub sent : life.sent ≡ []
  pub stops : (life.stops ≡ 0) × (life.mirror_stops ≡ 0)
  pub lost : life.lost ≡ false

-- from one life to another by these events, in order
abbrev pub LivesOn : LifeValue → List Op → List (List KeptValue) → List Event → LifeValue → Type 0
LivesOn old history held [] new = new ≡ old
LivesOn old history held (event ∷ events) new =
    (next : LifeValue) × (line : Option Line) × (step : IsStep old next event history held line)
    × LivesOn next step.later step.left events new

-- a life that began with this head and had these events
pub record IsLifeOf (head : HeadValue) (mirrors : ℕ) (events : List Event) (life : LifeValue) : Type 0 where
  pub begun : LifeValue
  pub born : IsBorn head mirrors begun
  pub lived : LivesOn begun [] (map (λ _. []) begun.mirrors) events life
