-- What each command's run says, by the objects before it and after it.
use Rattle.std.specs.Prelude.{◌≡◌, ◌≢◌, ◌⊎◌, ℕ, List, true, false, Option, None}
use Rattle.command_ends.specs.Ends.{IsAnswered}
use Rattle.command_ends.specs.Status.{code_of}
use Rattle.command_ends.specs.declared.status.Status.TheVariants as status
use Rattle.doc_source.specs.Fetch.{FetchState}
use Rattle.doc_source.specs.Outside.{SinkState, SourceState}
use Rattle.document_server.specs.Door.{DoorState}
use Rattle.document_server.specs.declared.line.Line.{Line}
use Rattle.feed_disk.specs.Disk.{DiskState}
use Rattle.feed_disk.specs.Moments.{LeavesAlone}
use Rattle.feed_disk.specs.declared.area.Area.{Area}
use Rattle.feed_life.specs.Life.{LifeValue}
use Rattle.discover_command.specs.Ends.{EndsDiscover}
use Rattle.foreign_command.specs.Ends.{EndsForeign}
use Rattle.mirror_commands.specs.Audit.{EndsAuditing}
use Rattle.mirror_commands.specs.Mirroring.{EndsFetching, EndsMirroring}
use Rattle.relay_command.specs.Relay.{EndsRelaying}
use Rattle.scrub_command.specs.Answer.{EndsRepairing}
use Rattle.tool_words.specs.declared.command.Command.{Command}
use Rattle.tool_words.specs.declared.command.Command.TheVariants.{Init, Apply, Serve, Show, Mirror, Audit, Drill, Foreign}
use Rattle.tool_words.specs.declared.command.Command.TheVariants.{Discover, Relay, Scrub}
use Rattle.tool_words.specs.declared.command.Show.TheVariants.{Pile}
use Rattle.store_commands.specs.Crash.{EndsApplying, IsStatusAfterLoad, MakesStoreAt}
use Rattle.feed_commands.specs.Drill.{EndsDrilling}
use Rattle.feed_commands.specs.Pile.{EndsCut}
use Rattle.feed_commands.specs.Serve.{EndsServing}

-- A run: each object before it and after it, the coming moments of the clock, which objects contracts can see, and what
-- was returned. `stays_at` says that a door which gives connections of one address alone goes on to.
pub record Ran : Type 1 where
  pub disk : DiskState
  pub left : DiskState
  pub moments : ℕ → ℕ
  pub door : DoorState
  pub shut : DoorState
  pub stays_at : List ℕ → Type 0
  pub fetch : FetchState
  pub fetched : FetchState
  pub input : SourceState
  pub rest : SourceState
  pub output : SinkState
  pub taken : SinkState
  pub sees_disk : Type 0
  pub sees_clock : Type 0
  pub sees_door : Type 0
  pub sees_fetch : Type 0
  pub sees_input : Type 0
  pub sees_output : Type 0
  pub lines : List Line
  pub life : Option LifeValue
  pub ended : ℕ

-- What a command's run says beside its answer:
--
-- - `init` and `apply`: what a crash leaves, and the history afterwards.
-- - `show pile`: the documents that were printed before a fault.
-- - `serve`: the session over the connections that the door gave, its lines, and what a crash leaves.
-- - `mirror`: the offers or addresses, what a crash leaves of the mirror's area, and the output over documents that one
--   feed served.
-- - `audit`: what the status says of the certificate and the documents.
-- - `drill`: the life whose summary was printed.
-- - `foreign`: the addresses asked, and the output over documents of one of this project's own feeds.
-- - `discover`: the address asked, and the output over the service document of one of this project's own feeds.
-- - `relay`: the session over the connections that the door gave, and what a crash leaves of the mirror's area.
-- - `scrub`: no area changes. `scrub --repair`: what a crash leaves, and the store afterwards.
abbrev pub EndsOf : Command → Ran → Type 0
EndsOf (Init name window capacity) r =
    r.sees_disk → MakesStoreAt r.disk r.left name window capacity r.sees_clock (r.moments 0)
    ((r.ended ≡ code_of status.Done) ⊎ (r.ended ≡ code_of status.OutputFault))
EndsOf (Apply None) r =
    r.sees_disk → EndsApplying r.disk r.left r.moments r.input r.rest r.sees_clock r.sees_input
    (r.ended ≡ code_of status.DiskFault) (r.ended ≡ code_of status.InputFault) (IsStatusAfterLoad r.ended)
    (IsAnswered r.ended)
EndsOf (Show Pile) r =
    r.sees_output → r.ended ≢ code_of status.Done → r.ended ≢ code_of status.OutputFault
    → EndsCut r.disk.content r.sees_disk r.output r.taken r.ended
EndsOf (Serve listen requests service) r =
    EndsServing service requests r.disk r.left r.moments r.door r.shut r.sees_disk r.sees_clock r.sees_door r.sees_output
    r.output r.taken r.lines r.ended × r.stays_at listen
EndsOf (Mirror base false report capacity) r =
    r.sees_disk → r.sees_input → EndsMirroring report capacity base r.disk r.left r.input r.rest r.sees_output r.output
    r.taken r.ended
EndsOf (Mirror base true report capacity) r =
    r.sees_disk → r.sees_fetch → EndsFetching report capacity base r.disk r.left r.fetch r.fetched r.sees_output
    r.output r.taken r.ended
EndsOf Audit r = r.sees_input → EndsAuditing r.input.left r.ended
EndsOf (Drill seed count) r = EndsDrilling seed count r.life r.ended
EndsOf (Foreign from) r = r.sees_fetch → EndsForeign from r.fetch r.fetched r.sees_output r.output r.taken r.ended
EndsOf (Discover address) r =
    r.sees_fetch → EndsDiscover address r.fetch r.fetched r.sees_output r.output r.taken r.ended
EndsOf (Relay base listen requests capacity) r =
    EndsRelaying base requests r.disk r.left r.door r.shut r.sees_disk r.sees_door r.sees_output r.output r.taken r.ended
    × r.stays_at listen
EndsOf (Scrub false) r = (a : Area) → LeavesAlone r.disk r.left a
EndsOf (Scrub true) r =
    r.sees_disk → EndsRepairing r.disk r.left ((r.ended ≡ code_of status.Done) ⊎ (r.ended ≡ code_of status.OutputFault))
    (r.ended ≡ code_of status.Full) (r.ended ≡ code_of status.BadStore)
EndsOf _ r = Unit {0}
