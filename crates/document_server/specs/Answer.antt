-- The store and its disk after a request was answered.
use Rattle.std.specs.Prelude.{◌≡◌, ◌⊎◌, ℕ, ◌+◌, List, [], ◌∷◌, ◌++◌, length, Option, Some, None, Result, Ok, Err}
use Rattle.std.specs.Prelude.{true, false}
use Rattle.atom_values.specs.Counts.{CountsFault}
use Rattle.atom_values.specs.Entry.{DraftValue, IsDraft}
use Rattle.entry_reader.specs.Refusal.{IsRefusedAt}
use Rattle.entry_reader.specs.Spells.{Spells}
use Rattle.entry_reader.specs.declared.fault.Why.{Why}
use Rattle.feed_disk.specs.Disk.{DiskState}
use Rattle.feed_disk.specs.Moments.{LeavesAlone}
use Rattle.feed_disk.specs.declared.area.Area.{Area}
use Rattle.feed_disk.specs.declared.area.Area.TheVariants.{Mirror}
use Rattle.feed_journal.specs.Log.{MakesCalls, MakesSome}
use Rattle.feed_recovery.specs.Prepare.{IsDueSeal, IsMissing, commit_calls}
use Rattle.feed_recovery.specs.Settled.{AlwaysLeavesBoth, IsAtRest, OpensPast}
use Rattle.feed_recovery.specs.Store.{StandsFor, StoreValue, call_count, is_spent, seal_count}
use Rattle.http_face.specs.Reply.{HasPhrase, disk_changed, disk_fault, line_reply, no_memory, not_found}
use Rattle.http_face.specs.Request.{RequestValue}
use Rattle.http_face.specs.declared.reply.Line7.TheVariants as line
use Rattle.http_face.specs.declared.reply.Reply.{Reply}
use Rattle.document_server.specs.Reply.{Outcome, entry_refusal, gone, is_entry_media}
use Rattle.document_server.specs.declared.failure.Failure.{Failure}
use Rattle.document_server.specs.declared.failure.Failure.TheVariants.{Disk, Changed, NoMemory}
use Rattle.member_rules.specs.declared.operation.Op.{Op}
use Rattle.member_rules.specs.declared.state.State.{State}
use Rattle.member_rules.specs.declared.state.State.TheVariants as member

-- The store afterwards

abbrev pub added : Option Op → List Op
added None = []
added (Some operation) = operation ∷ []

-- the number of seals after the operation: it makes the seal that was due and missing, and no other
abbrev pub IsSealedBy : StoreValue → Option Op → ℕ → Type 0
IsSealedBy old None seals = seals ≡ seal_count old
IsSealedBy old (Some operation) seals =
    (IsMissing old → seals ≡ seal_count old + 1) × ((¬ IsMissing old) → seals ≡ seal_count old)

-- the store gains the operation, if there is one
pub record Gains (old new : StoreValue) (adds : Option Op) : Type 0 where
  pub history : new.history ≡ old.history ++ added adds
  pub seals : IsSealedBy old adds (seal_count new)

-- the reply is that of an outcome, of those that are given, and the store gains its operation
pub record IsReplied (outcomes : Outcome → Type 0) (old new : StoreValue) (reply : Reply) : Type 0 where
  pub given : Outcome
  pub is_one : outcomes given
  pub reply_is : reply ≡ given.reply
  pub gains : Gains old new given.adds

-- The reply is an outcome's and the store gains its operation, or memory ran out and the store gains nothing, or the
-- disk failed.
abbrev pub IsAnswer : (Outcome → Type 0) → StoreValue → StoreValue → Reply → Type 0 → Type 0
IsAnswer outcomes old new reply failed =
    IsReplied outcomes old new reply
    ⊎ ((reply ≡ no_memory) × Gains old new None)
    ⊎ ((reply ≡ disk_fault) × failed × (new.history ≡ old.history) × (is_spent new ≡ true))

-- a reply that acknowledges a change, if its request isn't a GET
abbrev pub IsDone : Reply → Type 0
IsDone reply = (reply.status ≡ 200) ⊎ (reply.status ≡ 201)

-- The history gains an operation. Its commit makes the device calls of its append, and those of the append of the seal
-- that was due and missing, if one was.
pub record Grows (before after : DiskState) (old new : StoreValue) : Type 0 where
  pub operation : Op
  pub history : new.history ≡ old.history ++ operation ∷ []
  pub seal : Option (List ℕ)
  pub due : IsDueSeal old seal
  pub calls : MakesCalls before after (call_count old) (call_count new) (commit_calls seal)

-- Crashes

-- the operations that a request adds to the history if its commit works: none, or that of an outcome
abbrev pub MayAdd : (Outcome → Type 0) → List Op → Type 0
MayAdd outcomes operations = (operations ≡ []) ⊎ ((given : Outcome) × outcomes given × (operations ≡ added given.adds))

-- At each moment of the answer and after it, a crash leaves the history before or with the operation that was accepted,
-- if the disk was at rest before.
pub record LeavesAnswered (outcomes : Outcome → Type 0) (before after : DiskState) (old new : StoreValue)
    (failed : Type 0) : Type 0 where
  pub operations : List Op
  pub may : MayAdd outcomes operations
  pub leaves : IsAtRest before
      → AlwaysLeavesBoth before after (OpensPast old.head (old.history ++ operations) (length old.history))
  pub gained : ¬ failed → new.history ≡ old.history ++ operations

-- The parts of an answer

-- the result of a part of the answer
abbrev pub ComesTo : (Outcome → Type 0) → StoreValue → StoreValue → Result Reply Failure → Type 0
ComesTo outcomes old new (Ok reply) = IsReplied outcomes old new reply
ComesTo outcomes old new (Err Disk) = Unit {0}
ComesTo outcomes old new (Err Changed) = IsReplied outcomes old new disk_changed
ComesTo outcomes old new (Err NoMemory) = Gains old new None

-- the store and the disk after a part of the answer, which fails exactly if a device call failed
pub record Steps (observable : Type 0) (before after : DiskState) (old new : StoreValue) (failed : Type 0) : Type 0 where
  pub head : new.head ≡ old.head
  pub faults : CountsFault before.faults after.faults failed
  pub spent : failed → is_spent new ≡ true
  pub stays : failed → new.history ≡ old.history
  pub unspent : ¬ failed → is_spent new ≡ false
  pub stands : ¬ failed → observable → StandsFor after new
  pub rests : ¬ failed → observable → IsAtRest before → IsAtRest after
  pub mirror : LeavesAlone before after Mirror
  pub calls : MakesSome before after (call_count old) (call_count new)

-- no area is written
pub record OnlyReads (before after : DiskState) (old new : StoreValue) : Type 0 where
  pub areas : (a : Area) → LeavesAlone before after a
  pub history : new.history ≡ old.history

-- an operation of an outcome is committed, or its commit fails
pub record Commits (observable : Type 0) (outcomes : Outcome → Type 0) (before after : DiskState) (old new : StoreValue)
    (failed : Type 0) : Type 0 where
  pub operation : Op
  pub given : Outcome
  pub is_one : outcomes given
  pub adds : given.adds ≡ Some operation
  pub leaves : observable → IsAtRest before
      → AlwaysLeavesBoth before after (OpensPast old.head (old.history ++ operation ∷ []) (length old.history))
  pub gained : ¬ failed → new.history ≡ old.history ++ operation ∷ []

abbrev pub ReadsOrCommits : Type 0 → (Outcome → Type 0) → DiskState → DiskState → StoreValue → StoreValue → Type 0
    → Type 0
ReadsOrCommits observable outcomes before after old new failed =
    OnlyReads before after old new ⊎ Commits observable outcomes before after old new failed

-- a change is acknowledged
abbrev pub Acknowledges : Result Reply Failure → Type 0
Acknowledges (Ok reply) = IsDone reply
Acknowledges (Err failure) = ⊥

-- a reply other than `disk`, whose status is 503 only for `no memory`
pub record IsOwn (reply : Reply) : Type 0 where
  pub phrase : HasPhrase reply.status
  pub memory : reply.status ≡ 503 → reply ≡ no_memory
  pub undisk : ¬ (reply ≡ disk_fault)

-- the same of a reply that acknowledges no change
pub record IsRefusal (reply : Reply) : Type 0 where
  pub own : IsOwn reply
  pub undone : ¬ IsDone reply

-- the body of a request is read as a draft, or refused by a reply
abbrev pub IsReadAs : RequestValue → Result DraftValue Reply → Type 0
IsReadAs request (Ok draft) =
    (is_entry_media request.media ≡ true) × IsDraft draft × Spells request.body draft
IsReadAs request (Err reply) =
    ((is_entry_media request.media ≡ false) × (reply ≡ line_reply 415 line.NotEntryType))
    ⊎ ((is_entry_media request.media ≡ true)
    × ((at : ℕ) × (reason : Why) × IsRefusedAt request.body at reason × (reply ≡ entry_refusal at reason)))

-- the reply to a request of a member that isn't live
abbrev pub absent_reply : State → Option Reply
absent_reply member.Never = Some not_found
absent_reply (member.Gone when) = Some gone
absent_reply (member.Live updated version) = None
