-- The store and its disk after connections were served, and the facts that the lines state of them.
use Rattle.std.specs.Prelude.{◌≡◌, ◌≢◌, ◌⊎◌, ℕ, ◌+◌, ◌<◌, ◌≤◌, List, [], ◌∷◌, ◌++◌, length, map, All, Option}
use Rattle.std.specs.Prelude.{Some}
use Rattle.std.specs.Prelude.{true, false, Result, Ok, Err}
use Rattle.atom_values.specs.Counts.{counter_limit}
use Rattle.document_server.specs.Answer.{Gains, Grows, MayAdd}
use Rattle.document_server.specs.Door.{DoorState}
use Rattle.document_server.specs.Served.{Answering}
use Rattle.document_server.specs.Session.{Ends, Exchange, IsBrokenOff, IsMarked, IsOneFailed, IsReported, IsSent}
use Rattle.document_server.specs.Session.{IsServed, IsSession, IsTurn, IsUnfailed, SendsServed, Turn}
use Rattle.document_server.specs.declared.line.Line.{Line}
use Rattle.document_server.specs.declared.session.End.{End}
use Rattle.document_server.specs.declared.session.End.TheVariants.{Done, Load, DoorFault, NoMemory}
use Rattle.feed_disk.specs.Disk.{DiskState}
use Rattle.feed_disk.specs.Moments.{LeavesOnlyBoth}
use Rattle.feed_disk.specs.declared.area.Area.TheVariants.{Journal, Sealed}
use Rattle.feed_journal.specs.Log.{IsLog}
use Rattle.feed_journal.specs.Records.{records}
use Rattle.feed_recovery.specs.Faults.{IsLoadFault}
use Rattle.feed_recovery.specs.Settled.{AlwaysLeavesBoth, IsAtRest, LeavesStores, NowBoth, OpensPast, Settled}
use Rattle.feed_recovery.specs.Store.{StoreValue, call_count, is_spent}
use Rattle.feed_recovery.specs.Stored.{IsSized, OpensTo, Stored, stored_of}
use Rattle.feed_recovery.specs.declared.fault.LoadFault.{LoadFault}
use Rattle.feed_recovery.specs.declared.fault.LoadFault.TheVariants as load
use Rattle.http_face.specs.Conn.{ConnState}
use Rattle.http_face.specs.Heard.{IsHeard}
use Rattle.http_face.specs.Reply.{disk_fault}
use Rattle.http_face.specs.Request.{IsRequest, RequestValue}
use Rattle.http_face.specs.declared.reply.Reply.{Reply}
use Rattle.member_rules.specs.Head.{HeadValue}
use Rattle.member_rules.specs.declared.operation.Op.{Op}

-- why a session ended, as `serve` says it
abbrev pub end_of : Result (Unit {0}) End → End
end_of (Ok done) = Done
end_of (Err end) = end

-- The lines

-- A line after this version and this number of device calls. Each operation more took at least four calls.
pub record Follows (version calls : ℕ) (line : Line) : Type 0 where
  pub no_fewer : version ≤ line.version
  pub one_more : line.version ≤ version + 1
  pub later : calls ≤ line.calls
  pub grown : version < line.version → calls + 4 ≤ line.calls

abbrev pub AreInOrder : ℕ → ℕ → List Line → Type 0
AreInOrder version calls [] = Unit {0}
AreInOrder version calls (line ∷ lines) = Follows version calls line × AreInOrder line.version line.calls lines

-- the version of the last line, or this one if there is none
abbrev pub version_after : ℕ → List Line → ℕ
version_after version [] = version
version_after version (line ∷ lines) = version_after line.version lines

-- Crashes

-- A crash at moment c, where `start` is the moment from which device calls are counted. The areas open to the first
-- operations of the history. All that a reply acknowledged are among them if the reply was begun before the moment.
-- None that a later connection added is among them.
pub record OpensAt (start c : ℕ) (head : HeadValue) (history : List Op) (least : ℕ) (lines unbroken : List Line)
    (journal sealed : List ℕ) : Type 0 where
  pub past : OpensPast head history least journal sealed
  pub acknowledged : All (λ (line : Line). start + line.calls < c → line.version ≤ past.version) lines
  pub not_early : All (λ (line : Line). c ≤ start + line.calls → past.version ≤ line.version) unbroken

-- a crash after the session: all operations that were acknowledged are there
pub record OpensAfter (head : HeadValue) (history : List Op) (least : ℕ) (lines : List Line)
    (journal sealed : List ℕ) : Type 0 where
  pub past : OpensPast head history least journal sealed
  pub acknowledged : All (λ (line : Line). line.version ≤ past.version) lines

-- connections were served on a store that was loaded before
pub record LeavesServing (start : ℕ) (before after : DiskState) (head : HeadValue) (least : ℕ) (history : List Op)
    (lines unbroken : List Line) (failed : Type 0) : Type 0 where
  pub each : LeavesOnlyBoth before after Journal Sealed (λ c. OpensAt start c head history least lines unbroken)
  pub now : NowBoth after (OpensAfter head history least lines)
  pub whole : ¬ failed → Settled after head history (length history)

-- A store was loaded, and connections were served on it. Until the load's last device call a crash leaves what it could
-- leave before.
pub record LeavesServed (before after : DiskState) (head : HeadValue) (operations : List Op) (least : ℕ)
    (opened : Stored) (history : List Op) (lines unbroken : List Line) (failed : Type 0) : Type 0 where
  pub same : opened.head ≡ head
  -- the moment of the last device call of the load, which comes before each line
  pub loaded : ℕ
  pub over : loaded ≤ after.clock
  pub before_lines : after.clock < counter_limit → All (λ (line : Line). loaded ≤ before.clock + line.calls) lines
  pub each : LeavesOnlyBoth before after Journal Sealed (λ c journal sealed.
      (c ≤ loaded → OpensPast head operations least journal sealed)
      × (loaded < c
      → OpensAt before.clock c head history (length opened.history) lines unbroken journal sealed))
  pub now : NowBoth after (OpensAfter head history (length opened.history) lines)
  pub whole : ¬ failed → Settled after head history (length history)

-- The session

-- the door gave these connections, in order, and has each of them back
pub record HasLinks (door rest : DoorState) (exchanges : List Exchange) : Type 0 where
  pub given : door.left ≡ map (λ e. e.given) exchanges ++ rest.left
  pub back : rest.back ≡ door.back ++ map (λ e. e.back) exchanges

-- Connections were served one after the other, with these lines. `last` has the one that a failed device call broke
-- off, if one did, and `served` those before it. The disk's count of faults was `faults` before them. The lines count
-- device calls from the moment `start`.
pub record HasExchanges (start faults : ℕ) (after : DiskState) (door rest : DoorState) (door_observable : Type 0)
    (lines : List Line) (served last : List Exchange) (failed : Type 0) : Type 0 where
  pub lines_are : lines ≡ map (λ e. e.line) (served ++ last)
  pub unfailed : All (IsUnfailed faults) served
  pub all_served : ¬ failed → last ≡ []
  pub broken_off : failed → IsOneFailed faults after.faults last
  pub reported : All IsReported (served ++ last)
  pub marked : after.clock < counter_limit → All (IsMarked start) (served ++ last)
  pub linked : door_observable → HasLinks door rest (served ++ last)
  pub sent : door_observable → All IsSent (served ++ last)

-- the exchanges are those of a session from a store of this value
abbrev pub IsSessionFrom :
    Answering → DiskState → (ℕ → ℕ) → Stored → List Exchange → List Exchange → List Op → Type 0 → Type 0
IsSessionFrom answers after moments opened served last history failed =
    (first : StoreValue) × (stored_of first ≡ opened)
    × IsSession answers (Ends answers failed after.content last history) first moments served

-- The history is the one that was opened and the operations that were added. Its length is the version of the last
-- line, or at most one more if that connection was broken off.
pub record HasHistory (answers : Answering) (after : DiskState) (moments : ℕ → ℕ)
    (clock_observable door_observable : Type 0) (opened : Stored) (lines : List Line) (served last : List Exchange)
    (history : List Op) (failed : Type 0) : Type 0 where
  pub more : List Op
  pub extends : history ≡ opened.history ++ more
  pub no_fewer : version_after (length opened.history) lines ≤ length history
  pub no_more : length history ≤ version_after (length opened.history) lines + length last
  pub documents : door_observable → All (SendsServed opened.head history) (served ++ last)
  pub session : clock_observable → door_observable
      → IsSessionFrom answers after moments opened served last history failed

-- A store was loaded, and connections were served on it. The history, and all that follows from it, is stated if
-- contracts see the disk.
pub record Serves (answers : Answering) (before after : DiskState) (moments : ℕ → ℕ) (door rest : DoorState)
    (disk_observable clock_observable door_observable : Type 0) (lines : List Line) (failed : Type 0) : Type 0 where
  pub opened : Stored
  pub opens : disk_observable → OpensTo before.content opened
  pub served : List Exchange
  pub last : List Exchange
  pub exchanges : HasExchanges before.clock before.faults after door rest door_observable lines served last failed
  pub ordered : after.clock < counter_limit → AreInOrder (length opened.history) 0 lines
  pub within : after.clock < counter_limit → All (λ (line : Line). before.clock + line.calls ≤ after.clock) lines
  pub history : disk_observable → List Op
  pub stored : (observable : disk_observable)
      → HasHistory answers after moments clock_observable door_observable opened lines served last
      (history observable) failed
  pub crash : (observable : disk_observable) (head : HeadValue) (operations : List Op) (least : ℕ)
      → Settled before head operations least
      → LeavesServed before after head operations least opened (history observable) lines (map (λ e. e.line) served) failed

-- Connections were served on a store that was loaded before, which has made its device calls since the moment `start`.
pub record ServesFrom (answers : Answering) (start : ℕ) (before after : DiskState) (moments : ℕ → ℕ) (door rest : DoorState)
    (disk_observable clock_observable door_observable : Type 0) (store : StoreValue) (lines : List Line)
    (failed : Type 0) : Type 0 where
  pub served : List Exchange
  pub last : List Exchange
  pub exchanges : HasExchanges start before.faults after door rest door_observable lines served last failed
  pub ordered : after.clock < counter_limit → AreInOrder (length store.history) (call_count store) lines
  pub within : after.clock < counter_limit
      → All (λ (line : Line). (before.clock ≤ start + line.calls) × (start + line.calls ≤ after.clock)) lines
  pub history : disk_observable → List Op
  pub stored : (observable : disk_observable)
      → HasHistory answers after moments clock_observable door_observable (stored_of store) lines served last
      (history observable) failed
  pub crash : (observable : disk_observable) → IsAtRest before
      → LeavesServing start before after store.head (length store.history) (history observable) lines
      (map (λ e. e.line) served) failed

-- How a session of at most this many connections ends: as done if it served them all or the door has no more, and by a
-- failed call of the door only before it served them all.
pub record IsEndOf (requests : ℕ) (door_observable : Type 0) (rest : DoorState) (lines : List Line) (end : End)
    : Type 0 where
  pub done : end ≡ Done → (length lines ≡ requests) ⊎ (door_observable → rest.left ≡ [])
  pub early : end ≡ DoorFault → length lines < requests

-- the lines and the end of a session of at most this many connections, and the door after it
pub record EndsWithin (requests : ℕ) (door_observable : Type 0) (door rest : DoorState) (lines : List Line) (end : End)
    : Type 0 where
  pub most : length lines ≤ requests
  pub cause : IsEndOf requests door_observable rest lines end
  -- the door has each connection back that it gave
  pub returned : door_observable → rest.out ≡ door.out

-- the session ended before the door was opened
abbrev pub IsUnopened : End → Type 0
IsUnopened end = (end ≡ NoMemory) ⊎ ((fault : LoadFault) × (end ≡ Load fault))

-- A session that ended before the door was opened: why the store wasn't loaded, and all that was there before stays.
pub record EndsUnopened {L : Type 0} (observable : Type 0) (before after : DiskState) (door rest : L) (lines : List Line)
    (end : End) : Type 0 where
  pub refused : (fault : LoadFault) → end ≡ Load fault → observable
      → IsLoadFault (records (before.content Journal)) (records (before.content Sealed)) fault
  -- a disk that opens is loaded, unless a device call fails or memory runs out
  pub only : observable → (stored : Stored) → OpensTo before.content stored → (fault : LoadFault) → end ≡ Load fault
      → (fault ≡ load.DiskFault) ⊎ (fault ≡ load.NoMemory)
  pub safe : IsUnopened end → observable → LeavesStores before after
  pub unserved : IsUnopened end → (lines ≡ []) × (rest ≡ door)

-- the store has made its device calls since this moment, unless the clock is at the greatest u64
abbrev pub CountsFrom : ℕ → DiskState → DiskState → StoreValue → Type 0
CountsFrom start before after store = after.clock < counter_limit → start + call_count store ≡ before.clock

-- the sizes of the two logs are those of their payloads
abbrev pub AreLogs : StoreValue → Type 0
AreLogs store = IsLog store.journal × IsLog store.seals

-- One connection

abbrev pub exchange_of : DiskState → DiskState → ConnState → ConnState → Option Reply → Line → Exchange
exchange_of before after given back reply line = record {
  given = given;
  back = back;
  faults_before = before.faults;
  faults_after = after.faults;
  reply = reply;
  line = line;
}

-- the clock's moments after a turn
abbrev pub GoesOn : (ℕ → ℕ) → (ℕ → ℕ) → ℕ → Type 0
GoesOn moments coming taken = (k : ℕ) → coming k ≡ moments (taken + k)

-- A connection has this reply at a moment, which isn't sent yet. `read` is the connection after its request.
pub record IsReplyOn (answers : Answering) (before after : DiskState) (moments coming : ℕ → ℕ)
    (clock_observable : Type 0) (store : StoreValue) (given read : ConnState) (reply : Option Reply) (next : StoreValue) : Type 0 where
  pub now : ℕ
  pub is_now : clock_observable → now ≡ moments 0
  pub turn : Turn
  pub is_turn : (line : Line) → IsTurn answers store now (exchange_of before after given read reply line) turn
  pub gains : Gains store next turn.adds
  pub clock : clock_observable → GoesOn moments coming turn.moments

-- the disk failed after the request of a connection, which may have added these operations
pub record IsFaultOn (answers : Answering) (moments : ℕ → ℕ) (clock_observable : Type 0) (store : StoreValue)
    (given : ConnState) (operations : List Op) (reply : Option Reply) : Type 0 where
  pub now : ℕ
  pub is_now : clock_observable → now ≡ moments 0
  pub request : RequestValue
  pub rules : IsRequest request
  pub heard : IsHeard given.left request
  pub may : MayAdd (answers store request now) operations
  pub is : reply ≡ Some disk_fault

-- The request of a connection was read and answered, or the disk failed after it. `operations` are those that the
-- request may have added.
pub record RepliesOne (answers : Answering) (before after : DiskState) (moments coming : ℕ → ℕ)
    (given read : ConnState) (clock_observable conn_observable : Type 0) (old new : StoreValue) (reply : Option Reply) : Type 0 where
  pub sized : IsSized old
  pub operations : List Op
  pub at_most_one : length operations ≤ 1
  pub leaves : IsAtRest before
      → AlwaysLeavesBoth before after (OpensPast old.head (old.history ++ operations) (length old.history))
  pub gained : is_spent new ≡ false → new.history ≡ old.history ++ operations
  pub replied : conn_observable → is_spent new ≡ false
      → IsReplyOn answers before after moments coming clock_observable old given read reply new
  pub failed : conn_observable → is_spent new ≡ true
      → IsFaultOn answers moments clock_observable old given operations reply

-- the connection was served at a moment
pub record IsServedOn (answers : Answering) (moments coming : ℕ → ℕ) (clock_observable : Type 0) (store : StoreValue)
    (exchange : Exchange) (next : StoreValue) : Type 0 where
  pub now : ℕ
  pub is_now : clock_observable → now ≡ moments 0
  pub turn : Turn
  pub served : IsServed answers store now exchange turn next
  pub clock : clock_observable → GoesOn moments coming turn.moments

-- the connection was broken off at a moment
pub record IsBrokenOffOn (answers : Answering) (moments : ℕ → ℕ) (clock_observable : Type 0) (store : StoreValue)
    (exchange : Exchange) (history : List Op) : Type 0 where
  pub now : ℕ
  pub is_now : clock_observable → now ≡ moments 0
  pub broken_off : IsBrokenOff answers store now exchange history

-- The store and the disk after a connection was served, or after the disk failed. `operations` are those that its
-- request may have added.
pub record StoresOne (answers : Answering) (before after : DiskState) (moments coming : ℕ → ℕ)
    (clock_observable conn_observable : Type 0) (old new : StoreValue) (exchange : Exchange) : Type 0 where
  pub operations : List Op
  pub at_most_one : length operations ≤ 1
  pub leaves : IsAtRest before
      → AlwaysLeavesBoth before after (OpensPast old.head (old.history ++ operations) (length old.history))
  pub gained : is_spent new ≡ false → new.history ≡ old.history ++ operations
  pub served : conn_observable → is_spent new ≡ false
      → IsServedOn answers moments coming clock_observable old exchange new
  pub broken_off : conn_observable → is_spent new ≡ true
      → IsBrokenOffOn answers moments clock_observable old exchange (old.history ++ operations)

-- A connection was served on a store, or the disk failed after its request. The line has the version and the device
-- calls of the store afterwards. The connection keeps the disk's clock as the mark of the reply, if one was begun.
pub record ServesOne (answers : Answering) (before after : DiskState) (moments coming : ℕ → ℕ)
    (given back : ConnState) (disk_observable clock_observable conn_observable : Type 0) (old new : StoreValue) (line : Line) : Type 0 where
  pub reply : Option Reply
  pub reported : IsReported (exchange_of before after given back reply line)
  pub failed : is_spent new ≡ true → reply ≡ Some disk_fault
  pub sent : conn_observable → IsSent (exchange_of before after given back reply line)
  pub stored : disk_observable
      → StoresOne answers before after moments coming clock_observable conn_observable old new
      (exchange_of before after given back reply line)
  pub version : line.version ≡ length new.history
  pub calls : line.calls ≡ call_count new
  pub grows : (new.history ≡ old.history) ⊎ Grows before after old new
  pub begun : line.status ≢ 0 → back.begun ≡ Some after.clock
