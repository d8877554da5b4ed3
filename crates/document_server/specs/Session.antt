-- A session: connections that are served one after the other on one store.
use Rattle.std.specs.Prelude.{◌≡◌, ◌≢◌, ◌⊎◌, ℕ, ◌+◌, ◌≤◌, List, [], ◌∷◌, ◌++◌, length, take, Option, Some, None}
use Rattle.std.specs.Prelude.{true, false}
use Rattle.atom_values.specs.Counts.{HasRisen}
use Rattle.chain_links.specs.Address.{IsTarget, printed}
use Rattle.chain_links.specs.declared.address.Address.{Address}
use Rattle.document_server.specs.Answer.{Gains, MayAdd}
use Rattle.document_server.specs.Reply.{Outcome}
use Rattle.document_server.specs.Served.{Answering}
use Rattle.document_server.specs.declared.line.Line.{Line}
use Rattle.feed_disk.specs.Raised.{RisesAtMost}
use Rattle.feed_disk.specs.declared.area.Area.{Area}
use Rattle.feed_recovery.specs.Store.{StoreValue}
use Rattle.feed_recovery.specs.Stored.{IsSized, OpensTo, stored_of}
use Rattle.http_face.specs.Conn.{ConnState, LastReadAfter}
use Rattle.http_face.specs.Heard.{IsHeard, IsMisheard}
use Rattle.http_face.specs.Reply.{body_text, disk_fault, fault_reply, no_memory, reply_bytes}
use Rattle.http_face.specs.Request.{IsRequest, RequestValue}
use Rattle.http_face.specs.Settled.{IsUnsettled}
use Rattle.http_face.specs.declared.fault.RequestFault.{RequestFault}
use Rattle.http_face.specs.declared.reply.Media.TheVariants as media
use Rattle.http_face.specs.declared.reply.Reply.{Reply}
use Rattle.member_rules.specs.Head.{HeadValue}
use Rattle.member_rules.specs.Served.{Served}
use Rattle.member_rules.specs.declared.operation.Op.{Op}

-- the greatest number of connections of a session
abbrev pub connection_limit : ℕ
connection_limit = 1_000_000

-- the most bytes that are read of a connection: those of the longest head and of the longest body
abbrev pub read_limit : ℕ
read_limit = 81_920

-- a connection that was served: as the door gave it and as it was given back, with the disk's count of faults at both
-- times, the reply that was begun on it, if one was, and its line
pub record Exchange : Type 0 where
  pub given : ConnState
  pub back : ConnState
  pub faults_before : ℕ
  pub faults_after : ℕ
  pub reply : Option Reply
  pub line : Line

-- the effect of a connection: the operation that the history gains, if it gains one, and the number of moments that
-- were taken of the clock
pub record Turn : Type 0 where
  pub adds : Option Op
  pub moments : ℕ

-- no request was read
abbrev pub unheard : Turn
unheard = record { adds = None; moments = 0 }

-- the connection failed before its request was read
pub record IsLost (exchange : Exchange) (turn : Turn) : Type 0 where
  pub cause : HasRisen exchange.given.faults exchange.back.faults
  pub reply : exchange.reply ≡ None
  pub is : turn ≡ unheard

-- the bytes of the connection are no request
pub record IsRefused (exchange : Exchange) (turn : Turn) : Type 0 where
  pub fault : RequestFault
  pub misheard : IsMisheard exchange.given.left fault
  pub reply : exchange.reply ≡ fault_reply fault
  pub is : turn ≡ unheard

-- the bytes begin with a request, which has an outcome on the store at this moment of the clock
pub record IsAnswered (answers : Answering) (store : StoreValue) (now : ℕ) (exchange : Exchange) (turn : Turn) : Type 0 where
  pub request : RequestValue
  pub rules : IsRequest request
  pub heard : IsHeard exchange.given.left request
  pub outcome : Outcome
  pub is_outcome : answers store request now outcome
  pub reply : exchange.reply ≡ Some outcome.reply
  pub is : turn ≡ record { adds = outcome.adds; moments = 1 }

-- memory ran out, while the request was read or after it
pub record IsForgotten (exchange : Exchange) (turn : Turn) : Type 0 where
  pub reply : exchange.reply ≡ Some no_memory
  pub is : (turn ≡ unheard)
      ⊎ ((request : RequestValue) × IsHeard exchange.given.left request × (turn ≡ record { adds = None; moments = 1 }))

-- the case of a connection
abbrev pub IsTurn : Answering → StoreValue → ℕ → Exchange → Turn → Type 0
IsTurn answers store now exchange turn =
    IsLost exchange turn ⊎ IsRefused exchange turn ⊎ IsAnswered answers store now exchange turn
    ⊎ IsForgotten exchange turn

abbrev pub status_of : Option Reply → ℕ
status_of None = 0
status_of (Some reply) = reply.status

abbrev pub bytes_of : Option Reply → List ℕ
bytes_of None = []
bytes_of (Some reply) = reply_bytes reply

-- The line has the status of the reply. It has status 0, or says that the reply isn't whole, only if a call of the
-- connection failed since the door gave it. With status 0 no reply was begun, and none is whole. The bytes that were read
-- are at most those of a request.
pub record IsReported (exchange : Exchange) : Type 0 where
  pub status : exchange.line.status ≡ status_of exchange.reply
  pub cause : (exchange.line.status ≡ 0) ⊎ (exchange.line.whole ≡ false)
      → HasRisen exchange.given.faults exchange.back.faults
  pub unbegun : exchange.line.status ≡ 0 → exchange.back.begun ≡ None
  pub no_reply : exchange.line.status ≡ 0 → exchange.line.whole ≡ false
  pub read : RisesAtMost read_limit exchange.given.bytes_read exchange.back.bytes_read

-- The bytes of the reply were sent, or a prefix of them if the line says that it isn't whole. The last read was made
-- because the bytes before it didn't decide the request, so none was made for anything else.
pub record IsSent (exchange : Exchange) : Type 0 where
  pub front : List ℕ
  pub rest : List ℕ
  pub split : bytes_of exchange.reply ≡ front ++ rest
  pub sent : exchange.back.sent ≡ exchange.given.sent ++ front
  pub whole : exchange.line.whole ≡ true → rest ≡ []
  pub needed : LastReadAfter IsUnsettled exchange.given exchange.back

-- no device call failed while the connection was served
pub record IsUnfailed (faults : ℕ) (exchange : Exchange) : Type 0 where
  pub before : exchange.faults_before ≡ faults
  pub after : exchange.faults_after ≡ faults

-- a device call failed while the connection was served, and the reply is 500 `disk`
pub record IsFailed (faults later : ℕ) (exchange : Exchange) : Type 0 where
  pub before : exchange.faults_before ≡ faults
  pub after : exchange.faults_after ≡ later
  pub rose : HasRisen faults later
  pub reply : exchange.reply ≡ Some disk_fault

-- the same of the one exchange of a list
abbrev pub IsOneFailed : ℕ → ℕ → List Exchange → Type 0
IsOneFailed faults later [] = ⊥
IsOneFailed faults later (exchange ∷ []) = IsFailed faults later exchange
IsOneFailed faults later (exchange ∷ other ∷ more) = ⊥

-- a connection is served on a store, which becomes the next
pub record IsServed (answers : Answering) (store : StoreValue) (now : ℕ) (exchange : Exchange) (turn : Turn)
    (next : StoreValue) : Type 0 where
  pub sized : IsSized store
  pub is_turn : IsTurn answers store now exchange turn
  pub head : next.head ≡ store.head
  pub gains : Gains store next turn.adds
  pub version : exchange.line.version ≡ length next.history

-- Connections are served one after the other from a store on, each at the next moment of the clock if its request was
-- read. After them the last store and the coming moments satisfy `ends`.
abbrev pub IsSession :
    Answering → (StoreValue → (ℕ → ℕ) → Type 0) → StoreValue → (ℕ → ℕ) → List Exchange → Type 0
IsSession answers ends store moments [] = ends store moments
IsSession answers ends store moments (exchange ∷ later) =
    (turn : Turn) × (next : StoreValue) × IsServed answers store (moments 0) exchange turn next
    × IsSession answers ends next (λ k. moments (turn.moments + k)) later

-- The disk failed after the request of a connection, which ends the session. The history has the operations of the
-- store, and the one that the request may have added.
pub record IsBrokenOff (answers : Answering) (store : StoreValue) (now : ℕ) (exchange : Exchange) (history : List Op) : Type 0 where
  pub sized : IsSized store
  pub request : RequestValue
  pub rules : IsRequest request
  pub heard : IsHeard exchange.given.left request
  pub pending : List Op
  pub may : MayAdd (answers store request now) pending
  pub history_is : history ≡ store.history ++ pending
  pub reply : exchange.reply ≡ Some disk_fault
  pub version : exchange.line.version ≡ length store.history

-- how a session ends: all connections were served, and the content opens to the last store, or one was broken off
abbrev pub Ends : Answering → Type 0 → (Area → List ℕ) → List Exchange → List Op → StoreValue → (ℕ → ℕ) → Type 0
Ends answers failed content [] history last moments =
    (history ≡ last.history) × (¬ failed → OpensTo content (stored_of last))
Ends answers failed content (exchange ∷ []) history last moments =
    failed × IsBrokenOff answers last (moments 0) exchange history
Ends answers failed content (exchange ∷ other ∷ more) history last moments = ⊥

-- If a reply was begun, it was begun when the disk had made the line's device calls, counted from `start`.
abbrev pub IsMarked : ℕ → Exchange → Type 0
IsMarked start exchange = exchange.line.status ≢ 0 → exchange.back.begun ≡ Some (start + exchange.line.calls)

-- the feed document of a reply is what the feed serves at the address that the request names
pub record IsServedDocument (head : HeadValue) (history : List Op) (exchange : Exchange) (reply : Reply) : Type 0 where
  pub request : RequestValue
  pub heard : IsHeard exchange.given.left request
  pub address : Address
  pub named : IsTarget head.name.base address request.target
  pub served : Served head history (printed head.name.base address) (body_text reply.body)

-- A feed document in a reply is served by the history of its line, and by each that has more of the operations.
abbrev pub SendsServed : HeadValue → List Op → Exchange → Type 0
SendsServed head history exchange =
    (reply : Reply) → exchange.reply ≡ Some reply → reply.media ≡ media.Feed
    → (version : ℕ) → exchange.line.version ≤ version → version ≤ length history
    → IsServedDocument head (take version history) exchange reply
