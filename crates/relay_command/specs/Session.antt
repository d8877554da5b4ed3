-- A relay's session: a mirror is loaded, and connections are served one after the other from the documents that it holds.
use Rattle.std.specs.Prelude.{◌≡◌, ◌≢◌, ◌⊎◌, ℕ, ◌<◌, ◌≤◌, List, [], ◌++◌, length, map, All, Option, Some, None, IfSome}
use Rattle.std.specs.Prelude.{Bool, Result, Ok, Err}
use Rattle.document_server.specs.Door.{DoorState}
use Rattle.document_server.specs.Serving.{HasLinks, exchange_of}
use Rattle.document_server.specs.Session.{Exchange, IsMarked, IsOneFailed, IsReported, IsSent, IsUnfailed}
use Rattle.feed_disk.specs.Disk.{DiskState}
use Rattle.feed_disk.specs.Moments.{AlwaysLeaves}
use Rattle.feed_disk.specs.declared.area.Area.TheVariants.{Mirror}
use Rattle.feed_journal.specs.Records.{records, StandsFor}
use Rattle.feed_relay.specs.Reply.{IsRelayed, SendsHeld, SendsServed}
use Rattle.http_face.specs.Conn.{ConnState}
use Rattle.http_face.specs.Heard.{IsHeard, IsMisheard}
use Rattle.http_face.specs.Reply.{disk_fault, fault_reply, no_memory}
use Rattle.http_face.specs.Request.{IsRequest, RequestValue}
use Rattle.http_face.specs.declared.fault.RequestFault.{RequestFault}
use Rattle.http_face.specs.declared.reply.Reply.{Reply}
use Rattle.member_rules.specs.Head.{HeadValue}
use Rattle.member_rules.specs.declared.operation.Op.{Op}
use Rattle.mirror_walk.specs.Holding.{KeptValue, best_of, payloads_of}
use Rattle.mirror_walk.specs.Loaded.{IsLoadedOf, IsMirrorFault}
use Rattle.mirror_walk.specs.Published.{HoldsServed}
use Rattle.mirror_walk.specs.declared.mirror_fault.MirrorFault.{MirrorFault}
use Rattle.mirror_walk.specs.declared.mirror_fault.MirrorFault.TheVariants as load
use Rattle.relay_command.specs.declared.session.End.{End}
use Rattle.relay_command.specs.declared.session.End.TheVariants.{Done, Load, DoorFault, NoMemory}
use Rattle.relay_command.specs.declared.session.Served.{Served}

-- why a session ended, as the result of its serving says it
abbrev pub end_of : Result (Unit {0}) End → End
end_of (Ok done) = Done
end_of (Err end) = end

-- the mirror was loaded, and the memory for the lines was there
abbrev pub IsOpened : End → Type 0
IsOpened (Load fault) = ⊥
IsOpened NoMemory = ⊥
IsOpened _ = Unit {0}

abbrev pub last_of : Option KeptValue → ℕ
last_of None = 0
last_of (Some best) = best.document.span.last

-- the number of operations that the best subscription document covers; 0 if none is held
abbrev pub version_of : List KeptValue → ℕ
version_of kept = last_of (best_of kept)

-- Replies. `observable` says whether contracts see the disk's content.

-- the bytes of a connection are no request, and this is the reply to them
pub record IsRefusal (bytes : List ℕ) (reply : Reply) : Type 0 where
  pub fault : RequestFault
  pub misheard : IsMisheard bytes fault
  pub is : Some reply ≡ fault_reply fault

-- the bytes begin with a request, and this is the reply to it
pub record IsAnswer (observable : Type 0) (base : List ℕ) (kept : List KeptValue) (bytes : List ℕ) (reply : Reply)
    : Type 0 where
  pub request : RequestValue
  pub rules : IsRequest request
  pub heard : IsHeard bytes request
  pub relayed : IsRelayed observable base kept request reply

-- the reply to the bytes of a connection, or memory ran out while they were read
abbrev pub IsReplyTo : Type 0 → List ℕ → List KeptValue → List ℕ → Reply → Type 0
IsReplyTo observable base kept bytes reply =
    IsRefusal bytes reply ⊎ IsAnswer observable base kept bytes reply ⊎ (reply ≡ no_memory)

-- The reply is the document held at the address that the request names. A feed that served all documents held served
-- it.
pub record IsDocument (base : List ℕ) (kept : List KeptValue) (bytes : List ℕ) (reply : Reply) : Type 0 where
  pub request : RequestValue
  pub heard : IsHeard bytes request
  pub held : SendsHeld base kept request reply
  pub served : (head : HeadValue) (history : List Op) → HoldsServed head history kept
      → SendsServed head history base request reply

-- a reply with the status 200 is a document that is held
abbrev pub SendsDocument : List ℕ → List KeptValue → List ℕ → Reply → Type 0
SendsDocument base kept bytes reply = reply.status ≡ 200 → IsDocument base kept bytes reply

-- Connections. The `calls` of a line are the disk's clock when the reply was begun.

-- a connection that was served on this disk, with this version
abbrev pub exchange_at :
    DiskState → DiskState → ConnState → ConnState → Option Reply → ℕ → ℕ → Bool → Exchange
exchange_at before after given back reply status version whole =
    exchange_of before after given back reply (record {
      status = status;
      version = version;
      calls = after.clock;
      whole = whole;
    })

-- A connection was served by a relay that holds these documents. Its reply was begun at the disk's clock. The bytes of
-- the reply were sent, or a prefix of them if a call of the connection failed.
pub record IsExchange (disk_observable door_observable : Type 0) (base : List ℕ) (kept : List KeptValue)
    (exchange : Exchange) : Type 0 where
  pub reported : IsReported exchange
  pub version : exchange.line.version ≡ version_of kept
  pub marked : IsMarked 0 exchange
  pub sent : door_observable → IsSent exchange
  pub replied : door_observable
      → IfSome exchange.reply (IsReplyTo disk_observable base kept exchange.given.left)
  pub documents : disk_observable → door_observable
      → IfSome exchange.reply (SendsDocument base kept exchange.given.left)

-- the reply was begun within a run of device calls
abbrev pub IsWithin : DiskState → DiskState → Exchange → Type 0
IsWithin before after exchange = (before.clock ≤ exchange.line.calls) × (exchange.line.calls ≤ after.clock)

-- no device call failed while the connection was served
pub record IsUnbroken (faults : ℕ) (exchange : Exchange) : Type 0 where
  pub unfailed : IsUnfailed faults exchange
  pub other : exchange.reply ≢ Some disk_fault

-- the line of a connection
abbrev pub line_of : Exchange → Served
line_of exchange = record { status = exchange.line.status; version = exchange.line.version }

-- one connection, with this status in its line; `spent` says that a device call failed, after which the mirror is spent
pub record RelaysOne (disk_observable conn_observable : Type 0) (base : List ℕ) (kept : List KeptValue)
    (before after : DiskState) (given back : ConnState) (spent : Type 0) (status : ℕ) : Type 0 where
  pub reply : Option Reply
  pub whole : Bool
  pub exchange : IsExchange disk_observable conn_observable base kept
      (exchange_at before after given back reply status (version_of kept) whole)
  pub failed : spent → reply ≡ Some disk_fault
  pub unfailed : ¬ spent → reply ≢ Some disk_fault

-- Connections were served one after the other, with these lines, by a relay that holds `kept`. `last` has the
-- connection in which a device call failed, if one did, and `served` those before it. The door gave them in order, and
-- has each of them back.
pub record Relays (disk_observable door_observable : Type 0) (base : List ℕ) (kept : List KeptValue)
    (before after : DiskState) (door rest : DoorState) (lines : List Served) (failed : Type 0) : Type 0 where
  pub served : List Exchange
  pub last : List Exchange
  pub lines_are : lines ≡ map line_of (served ++ last)
  pub each : All (IsExchange disk_observable door_observable base kept) (served ++ last)
  pub clocks : All (IsWithin before after) (served ++ last)
  pub unbroken : All (IsUnbroken before.faults) served
  pub all_served : ¬ failed → last ≡ []
  pub broken_off : failed → IsOneFailed before.faults after.faults last
  pub linked : door_observable → HasLinks door rest (served ++ last)

-- The session

-- the mirror was loaded, and connections were served from the documents of its area
pub record RelaysLoaded (disk_observable door_observable : Type 0) (base : List ℕ) (before after : DiskState)
    (door rest : DoorState) (lines : List Served) (failed : Type 0) : Type 0 where
  pub kept : List KeptValue
  pub loaded : disk_observable → IsLoadedOf base (records (before.content Mirror)) kept
  -- on any disk, each document held was taken after those before it
  pub taken : IsLoadedOf base (payloads_of kept) kept
  pub relays : Relays disk_observable door_observable base kept before after door rest lines failed

-- How a session of at most this many connections ends: as done if it served them all or the door has no more, and by a
-- failed call of the door only before it served them all.
pub record EndsWithin (requests : ℕ) (door_observable : Type 0) (rest : DoorState) (lines : List Served) (end : End)
    : Type 0 where
  pub most : length lines ≤ requests
  pub done : end ≡ Done → (length lines ≡ requests) ⊎ (door_observable → rest.left ≡ [])
  pub early : end ≡ DoorFault → length lines < requests

-- why the mirror wasn't loaded; an area that loads is loaded, unless a device call fails or memory runs out
pub record EndsLoading (observable : Type 0) (base : List ℕ) (before : DiskState) (end : End) : Type 0 where
  pub refused : (fault : MirrorFault) → end ≡ Load fault → observable
      → IsMirrorFault base (records (before.content Mirror)) fault
  pub only : observable → (kept : List KeptValue) → IsLoadedOf base (records (before.content Mirror)) kept
      → (fault : MirrorFault) → end ≡ Load fault → (fault ≡ load.DiskFault) ⊎ (fault ≡ load.NoMemory)

-- The mirror's area has the payloads that it had. A crash at any moment leaves the payloads of an image that was there
-- before, and a whole image if that one was.
pub record KeepsArea (before after : DiskState) (end : End) : Type 0 where
  pub payloads : ((fault : MirrorFault) → end ≢ Load fault)
      → records (after.content Mirror) ≡ records (before.content Mirror)
  pub moments : AlwaysLeaves before after Mirror (StandsFor (before.image_now Mirror))

-- nothing was served
pub record ServesNothing (door rest : DoorState) (lines : List Served) : Type 0 where
  pub no_lines : lines ≡ []
  pub same_door : rest ≡ door
