-- The effect of a step on a life.
use Rattle.std.specs.Prelude.{◌≡◌, ◌⊎◌, ◌<◌, ◌≤◌, ℕ, List, [], ◌∷◌, ◌++◌, Option, None, Some, true, length}
use Rattle.chain_links.specs.Address.{IsAddress, IsTarget, printed}
use Rattle.chain_links.specs.declared.address.Address.{Address}
use Rattle.document_server.specs.Answer.{IsSealedBy, added}
use Rattle.document_server.specs.Reply.{IsAsked as IsAskedOf, IsOutcome, Outcome}
use Rattle.document_server.specs.declared.line.Line.{Line}
use Rattle.feed_disk.specs.Memory.{MemoryValue, state_of}
use Rattle.feed_disk.specs.Moments.{LeavesOnlyBoth}
use Rattle.feed_disk.specs.Raised.{raised}
use Rattle.feed_disk.specs.declared.area.Area.TheVariants.{Journal, Sealed}
use Rattle.feed_life.specs.Crashes.{HasPayloadsOf, IsCutBefore, IsCutWithin, clock_of}
use Rattle.feed_life.specs.Life.{IsStoreOf, LifeValue, Lives}
use Rattle.feed_life.specs.declared.event.Stop.{Stop}
use Rattle.feed_life.specs.declared.sent.SentDoc.{SentDoc}
use Rattle.feed_journal.specs.Log.{MakesCalls}
use Rattle.feed_recovery.specs.Prepare.{IsDueSeal, commit_calls}
use Rattle.feed_recovery.specs.Settled.{IsAtRest, OpensPast, Settled}
use Rattle.feed_recovery.specs.Store.{StandsFor, StoreValue}
use Rattle.feed_recovery.specs.Stored.{IsSized, OpensTo, stored_of}
use Rattle.http_face.specs.Reply.{body_text}
use Rattle.http_face.specs.Request.{RequestValue}
use Rattle.http_face.specs.declared.reply.Media.TheVariants.{Feed as FeedMedia}
use Rattle.http_face.specs.declared.reply.Reply.{Reply}
use Rattle.member_rules.specs.Head.{HeadValue}
use Rattle.member_rules.specs.Windows.{windows_of}
use Rattle.member_rules.specs.declared.ask.Ask.TheVariants.{Change}
use Rattle.member_rules.specs.declared.operation.Op.{Op}
use Rattle.member_rules.specs.declared.setting.Setting.{Setting}
use Rattle.mirror_walk.specs.Holding.{KeptValue}

-- Asks

-- the outcomes that an event may have, by the store that it meets: of a request, or of a change of a setting
abbrev pub Outcomes : Type 1
Outcomes = StoreValue → Outcome → Type 0

abbrev pub of_request : RequestValue → ℕ → Outcomes
of_request request now = λ store. IsOutcome store request now

abbrev pub of_setting : Setting → ℕ → Outcomes
of_setting setting now = λ store. IsAskedOf store (Change setting) now

-- the store of a disk, which opens to this head and this history, with the store's number of seals and its sizes
pub record IsLoadedFrom (head : HeadValue) (history : List Op) (disk : MemoryValue) (store : StoreValue)
    : Type 0 where
  pub head_is : store.head ≡ head
  pub history_is : store.history ≡ history
  pub opens : OpensTo (state_of disk).content (stored_of store)
  pub sized : IsSized store

-- a store that was loaded from a disk, and the disk after the load
pub record IsOpened (head : HeadValue) (history : List Op) (disk after : MemoryValue) (store : StoreValue)
    : Type 0 where
  pub loaded : IsLoadedFrom head history disk store
  pub same : HasPayloadsOf disk after
  pub stands : StandsFor (state_of after) store
  pub rests : IsAtRest (state_of after)
  pub settled : Settled (state_of after) head history (length history)

-- A request was answered by the store of a disk: the reply is an outcome's. The disk after it opens to the history with
-- the outcome's operation, and the seal that was due and missing was made with the operation, and no other.
pub record IsReplied (head : HeadValue) (outcomes : Outcomes) (history later : List Op)
    (disk after : MemoryValue) (reply : Reply) : Type 0 where
  pub store : StoreValue
  pub loaded : IsLoadedFrom head history disk store
  pub outcome : Outcome
  pub is_outcome : outcomes store outcome
  pub history_is : later ≡ history ++ added outcome.adds
  pub reply_is : reply ≡ outcome.reply
  pub seals : ℕ
  pub sealed : IsSealedBy store outcome.adds seals
  pub opens : OpensTo (state_of after).content (record { head = head; history = later; seals = seals })

-- the document that a feed document in a reply is sent as: it has the address that the request names
pub record IsDocOf (base : List ℕ) (request : RequestValue) (reply : Reply) (version : ℕ) (doc : SentDoc) : Type 0 where
  pub media : reply.media ≡ FeedMedia
  pub address : Address
  pub named : IsTarget base address request.target
  pub only : (other : Address) → IsAddress other → IsTarget base other request.target → other ≡ address
  pub is : doc ≡ record { address = printed base address; bytes = body_text reply.body; version = version }

-- a reply sends the document of its request, if it is a feed document, and else none
abbrev pub Sends : List ℕ → RequestValue → Reply → ℕ → Option SentDoc → Type 0
Sends base request reply version None = ¬ (reply.media ≡ FeedMedia)
Sends base request reply version (Some doc) = IsDocOf base request reply version doc

abbrev pub docs_of : Option SentDoc → List SentDoc
docs_of None = []
docs_of (Some doc) = doc ∷ []

-- a reply, its line, and the number of archives that are sealed then
pub record IsAnswered (head : HeadValue) (outcomes : Outcomes) (history : List Op)
    (disk after : MemoryValue) (reply : Reply) (line : Line) (sealed : ℕ) : Type 0 where
  pub later : List Op
  pub replied : IsReplied head outcomes history later disk after reply
  pub store : IsStoreOf head later after
  pub sealed_is : sealed ≡ (windows_of head later).sealed
  pub status : line.status ≡ reply.status
  pub version : line.version ≡ length later
  pub whole : line.whole ≡ true

-- the line counts the device calls since the load of the store began
abbrev pub CountsCalls : MemoryValue → MemoryValue → Line → Type 0
CountsCalls before after line = (number : ℕ) × MakesCalls (state_of before) (state_of after) 0 line.calls number

-- A life after a request that it answered: the history, the documents that were sent, and the line. Mirrors and stops
-- stay.
pub record IsAsked (old new : LifeValue) (request : RequestValue) (now : ℕ) (history : List Op)
    (held : List (List KeptValue)) (line : Line) : Type 0 where
  pub later : List Op
  pub reply : Reply
  pub gained : Option SentDoc
  pub replied : IsReplied old.head (of_request request now) history later old.disk new.disk reply
  pub sends : Sends old.head.name.base request reply (length later) gained
  pub sent : new.sent ≡ old.sent ++ docs_of gained
  pub lives : Lives new later held
  pub status : line.status ≡ reply.status
  pub version : line.version ≡ length later
  pub calls : CountsCalls old.disk new.disk line
  pub whole : line.whole ≡ true

-- A life after a change of a setting: the history. Mirrors, what was sent and stops stay.
pub record IsSet (old new : LifeValue) (setting : Setting) (now : ℕ) (history : List Op) (held : List (List KeptValue))
    : Type 0 where
  pub later : List Op
  pub reply : Reply
  pub replied : IsReplied old.head (of_setting setting now) history later old.disk new.disk reply
  pub lives : Lives new later held

-- Asks with a stop

-- the history gains the operation of an outcome of the store of a disk, if the outcome has one
pub record Gains (head : HeadValue) (outcomes : Outcomes) (history later : List Op) (disk : MemoryValue)
    : Type 0 where
  pub store : StoreValue
  pub loaded : IsLoadedFrom head history disk store
  pub outcome : Outcome
  pub is_outcome : outcomes store outcome
  pub history_is : later ≡ history ++ added outcome.adds

-- The device calls of a request that adds this: for an operation those of its append, and those of the append of the
-- seal that is due and missing, if one is.
abbrev pub TakesCalls : StoreValue → Option Op → ℕ → Type 0
TakesCalls store None number = Unit {0}
TakesCalls store (Some operation) number =
    (seal : Option (List ℕ)) × IsDueSeal store seal × (number ≡ commit_calls seal)

-- A request that was answered after the load of its store, by this number of device calls. It left the history `whole`
-- on the disk `ran`. The disk left is the image of that disk by the stop. It has the history before, or `whole`. Past
-- the last device call it has all that the request leaves without the stop.
pub record IsRunInto (head : HeadValue) (outcomes : Outcomes) (stop : Stop) (history later : List Op)
    (disk left : MemoryValue) : Type 0 where
  pub whole : List Op
  pub ran : MemoryValue
  pub reply : Reply
  pub replied : IsReplied head outcomes history whole disk ran reply
  pub cut : IsCutWithin stop disk ran left
  pub number : ℕ
  pub made : clock_of ran ≡ raised (clock_of cut.loaded) number
  pub takes : TakesCalls replied.store replied.outcome.adds number
  pub either : (later ≡ history) ⊎ (later ≡ whole)
  pub past : number < stop.call → IsReplied head outcomes history later disk left reply

-- A request that was stopped: the history is as before, or gains the operation of an outcome. A crash before the first
-- device call leaves it as before.
pub record IsStopped (head : HeadValue) (outcomes : Outcomes) (stop : Stop) (history later : List Op)
    (disk left : MemoryValue) : Type 0 where
  pub gains : (later ≡ history) ⊎ Gains head outcomes history later disk
  pub before : stop.call ≡ 0 → later ≡ history
  pub cut : stop.call ≡ 0 → IsCutBefore stop disk left
  pub within : 0 < stop.call → IsRunInto head outcomes stop history later disk left

-- a request that was answered on the disk that a store was loaded from, and what a crash within it leaves
pub record Runs (head : HeadValue) (outcomes : Outcomes) (history : List Op)
    (disk loaded ran : MemoryValue) : Type 0 where
  pub whole : List Op
  pub reply : Reply
  pub replied : IsReplied head outcomes history whole disk ran reply
  pub rests : IsAtRest (state_of ran)
  pub settled : Settled (state_of ran) head whole (length whole)
  pub number : ℕ
  pub made : clock_of ran ≡ raised (clock_of loaded) number
  pub takes : TakesCalls replied.store replied.outcome.adds number
  pub operations : List Op
  pub few : length operations ≤ 1
  pub gained : whole ≡ history ++ operations
  pub leaves : LeavesOnlyBoth (state_of loaded) (state_of ran) Journal Sealed
      (λ _. OpensPast head (history ++ operations) (length history))

-- the disk that a stopped request leaves
pub record LeavesStopped (head : HeadValue) (outcomes : Outcomes) (stop : Stop) (history : List Op)
    (disk left : MemoryValue) : Type 0 where
  pub later : List Op
  pub stopped : IsStopped head outcomes stop history later disk left
  pub store : IsStoreOf head later left

-- a store's disk, the number of operations and that of sealed archives
pub record IsLeft (head : HeadValue) (history : List Op) (disk : MemoryValue) (version sealed : ℕ) : Type 0 where
  pub store : IsStoreOf head history disk
  pub version_is : version ≡ length history
  pub sealed_is : sealed ≡ (windows_of head history).sealed

-- A life after a request that was stopped. Its store's disk is the one left, which was loaded. Nothing is sent.
pub record IsHalted (old new : LifeValue) (outcomes : Outcomes) (stop : Stop) (history : List Op)
    (held : List (List KeptValue)) : Type 0 where
  pub later : List Op
  pub left : MemoryValue
  pub stopped : IsStopped old.head outcomes stop history later old.disk left
  pub same : HasPayloadsOf left new.disk
  pub lives : Lives new later held
