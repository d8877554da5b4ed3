-- The images that a crash within a command, or after it, may leave of a store.
use Rattle.std.specs.Prelude.{◌≡◌, ◌⊎◌, ℕ, ◌+◌, ◌-◌, ◌*◌, ◌<◌, ◌≤◌, min, List, [], ◌∷◌, ◌++◌, length, pos, None}
use Rattle.std.specs.Prelude.{Result, Ok, Err, true}
use Rattle.atom_values.specs.Counts.{counter_limit}
use Rattle.atom_writer.specs.declared.doc.FeedName.{FeedName}
use Rattle.doc_source.specs.Outside.{SourceState}
use Rattle.feed_disk.specs.Disk.{DiskState}
use Rattle.feed_disk.specs.Moments.{LeavesOnlyBoth}
use Rattle.feed_disk.specs.declared.area.Area.TheVariants.{Journal, Sealed}
use Rattle.feed_recovery.specs.Settled.{AlwaysLeavesBoth, IsInit, LeavesStores, NowBoth, OpensPast, Settled, Unused}
use Rattle.feed_recovery.specs.Stored.{OpensTo, Stored}
use Rattle.command_ends.specs.declared.fault.Fault.{Fault}
use Rattle.command_ends.specs.declared.fault.Fault.TheVariants.{Input, Full, Refused}
use Rattle.command_ends.specs.declared.status.Status.TheVariants as ends
use Rattle.store_commands.specs.Applied.{IsMadeByFirst, IsMadeByRead, Step}
use Rattle.command_ends.specs.Status.{code_of}
use Rattle.store_commands.specs.Stored.{applied_store, stored_step}
use Rattle.member_rules.specs.Head.{HeadValue, newest_format}
use Rattle.member_rules.specs.declared.operation.Op.{Op}
use Rattle.tool_words.specs.Words.{IsCommandOf}
use Rattle.tool_words.specs.declared.command.Command.{Command}
use Rattle.tool_words.specs.declared.command.Command.TheVariants.{Apply, Init, Scrub, Serve}

-- whether the command writes nothing to a store, and makes none: all but `init`, `serve`, `scrub --repair`, and `apply`
-- without a window
abbrev pub AddsNothing : Command → Type 0
AddsNothing (Init name window capacity) = ⊥
AddsNothing (Apply None) = ⊥
AddsNothing (Serve listen requests service) = ⊥
AddsNothing (Scrub true) = ⊥
AddsNothing _ = Unit {0}

-- the words are those of a command that adds nothing to a store and makes none, or of no command
abbrev pub AddsNoOperation : List (List ℕ) → Type 0
AddsNoOperation words = (command : Command) → IsCommandOf words command → AddsNothing command

-- the greatest stamp: 9999-12-31T23:59:59.999Z
abbrev pub last_stamp : ℕ
last_stamp = 253_402_300_799_999

-- the head of a store that is made at this moment of the clock, or at the greatest stamp
abbrev pub head_at : FeedName → ℕ → ℕ → ℕ → HeadValue
head_at name window capacity now = record {
  format = newest_format;
  name = name;
  window = window;
  capacity = capacity;
  created = pos (min now last_stamp);
}

-- A store is made with this head: on an unused disk a crash leaves no payload or the head alone, and the head if all
-- is done.
pub record MakesStore (before after : DiskState) (head : HeadValue) (done : Type 0) : Type 0 where
  pub moments : Unused before → AlwaysLeavesBoth before after (IsInit head)
  pub settled : done → Unused before → Settled after head [] 0
  pub opens : done → OpensTo after.content (record { head = head; history = []; seals = 0 })

-- The store is made at this moment of the clock. Of a store that is there already a crash leaves what it could leave
-- before.
pub record MakesStoreAt (before after : DiskState) (name : FeedName) (window capacity : ℕ) (observable : Type 0)
    (moment : ℕ) (done : Type 0) : Type 0 where
  pub now : ℕ
  pub is_moment : observable → now ≡ moment
  pub makes : MakesStore before after (head_at name window capacity now) done
  pub stores : LeavesStores before after

-- the history that lines made, or that history with one operation more, whose device calls didn't all work
abbrev pub IsWithOneMore : List Op → List Op → Type 0
IsWithOneMore made history = (history ≡ made) ⊎ ((operation : Op) × (history ≡ made ++ operation ∷ []))

-- The first lines of the input made this store. The history is that of the store, or that of the store which one line
-- more makes.
pub record AddsFirstLines (step : Step Stored) (opened : Stored) (input : List ℕ) (made : Stored) (history : List Op)
    : Type 0 where
  pub count : ℕ
  pub makes : IsMadeByFirst step opened input count made
  pub adds :
      (history ≡ made.history)
      ⊎ ((next : Stored) × IsMadeByFirst step opened input (count + 1) next × (history ≡ next.history))

-- The first lines of the input made this store, and the history is that of the store which one line more makes.
pub record AddsNextLine (step : Step Stored) (opened : Stored) (input : List ℕ) (made : Stored) (history : List Op)
    : Type 0 where
  pub count : ℕ
  pub makes : IsMadeByFirst step opened input count made
  pub next : Stored
  pub adds : IsMadeByFirst step opened input (count + 1) next
  pub is : history ≡ next.history

-- The lines of the input made this store, whose history is the opened one with more operations or none. `history` is
-- that, with the operation of the next line if a device call of that failed (`failed`). If a call on the input failed
-- (`stopped`), these are all lines that ended before it.
pub record AreMadeByLines (moments : ℕ → ℕ) (input rest : SourceState) (observable failed stopped : Type 0)
    (opened made : Stored) (history : List Op) : Type 0 where
  pub more : List Op
  pub grows : made.history ≡ opened.history ++ more
  pub one_more : IsWithOneMore made.history history
  pub first : observable → AddsFirstLines (stored_step moments) opened input.left made history
  -- a device call fails only for a line that isn't refused
  pub cause : failed → observable → AddsNextLine (stored_step moments) opened input.left made history
  pub read : stopped → observable → IsMadeByRead (stored_step moments) opened input rest made

-- `apply` on a store that was loaded. Until the load's last device call a crash leaves what it could leave before; then
-- it leaves the history that was opened, with some of the operations that the lines add. If no device call failed, it
-- leaves all of them at the end.
pub record LeavesApplied (before after : DiskState) (moments : ℕ → ℕ) (input rest : SourceState) (observable : Type 0)
    (head : HeadValue) (operations : List Op) (least : ℕ) (failed stopped : Type 0) : Type 0 where
  pub opened : Stored
  pub opens : OpensTo before.content opened
  pub same : opened.head ≡ head
  pub made : Stored
  pub history : List Op
  pub lines : AreMadeByLines moments input rest observable failed stopped opened made history
  -- the moment of the last device call of the load, which comes before the four or more of each operation
  pub loaded : ℕ
  pub before_lines : after.clock < counter_limit
      → loaded + 4 * (length made.history - length opened.history) ≤ after.clock
  pub each : LeavesOnlyBoth before after Journal Sealed (λ c journal sealed.
      (c ≤ loaded → OpensPast head operations least journal sealed)
      × (loaded < c → OpensPast head history (length opened.history) journal sealed))
  pub now : NowBoth after (OpensPast head history (length opened.history))
  pub whole : ¬ failed → (history ≡ made.history) × Settled after head history (length history)

-- the fault comes only after a store was loaded
abbrev pub ComesAfterLoad : Fault → Type 0
ComesAfterLoad Input = Unit {0}
ComesAfterLoad (Full area size needed capacity) = Unit {0}
ComesAfterLoad (Refused refusal) = Unit {0}
ComesAfterLoad _ = ⊥

-- `apply` on a store ended after the load
abbrev pub EndsAfterLoad : {A : Type 0} → Result A Fault → Type 0
EndsAfterLoad (Ok written) = Unit {0}
EndsAfterLoad (Err fault) = ComesAfterLoad fault

-- the exit statuses with which `apply` on a store ends only after the load
abbrev pub IsStatusAfterLoad : ℕ → Type 0
IsStatusAfterLoad ended =
    (ended ≡ code_of ends.Done) ⊎ (ended ≡ code_of ends.OutputFault) ⊎ (ended ≡ code_of ends.InputFault)
    ⊎ (ended ≡ code_of ends.BadInput) ⊎ (ended ≡ code_of ends.Full) ⊎ (ended ≡ code_of ends.Refused)

-- `apply` on a store, whatever it ends with. If the store isn't loaded, a crash leaves what it could leave before.
-- `later` says that the command ended after the load.
abbrev pub AppliesSafely :
    DiskState → DiskState → (ℕ → ℕ) → SourceState → SourceState → Type 0 → Type 0 → Type 0 → Type 0 → Type 0
AppliesSafely before after moments input rest observable failed stopped later =
    (head : HeadValue) (operations : List Op) (least : ℕ) → Settled before head operations least
    → (¬ later × AlwaysLeavesBoth before after (OpensPast head operations least))
    ⊎ LeavesApplied before after moments input rest observable head operations least failed stopped

-- the history to which the content opens after an `apply` that came to an answer
abbrev pub OpensToApplied : DiskState → DiskState → (ℕ → ℕ) → List ℕ → Type 0
OpensToApplied before after moments input =
    (stored : Stored) → OpensTo before.content stored → OpensTo after.content (applied_store moments stored input).feed

-- `apply` on a store: what a crash leaves, and the history after an answer
pub record EndsApplying (before after : DiskState) (moments : ℕ → ℕ) (input rest : SourceState)
    (clock_observable input_observable failed stopped later answered : Type 0) : Type 0 where
  pub safe : AppliesSafely before after moments input rest (clock_observable × input_observable) failed stopped later
  pub opens : clock_observable → input_observable → answered → OpensToApplied before after moments input.left
