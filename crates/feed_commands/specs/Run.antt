-- The answer of each command, and how the program ends.
use Rattle.std.specs.Prelude.{◌≡◌, ◌⊎◌, ℕ, ◌+◌, ◌≤◌, List, length, Option, Some, None, [], Bool, true, false}
use Rattle.atom_values.specs.Counts.{CountsFault, HasRisen}
use Rattle.chain_links.specs.Checked.{IsUrlText}
use Rattle.document_server.specs.Door.{DoorState}
use Rattle.document_server.specs.declared.line.Line.{Line}
use Rattle.feed_disk.specs.Disk.{DiskState}
use Rattle.feed_disk.specs.Raised.{RisesAtMost}
use Rattle.feed_disk.specs.declared.area.Area.{Area}
use Rattle.feed_recovery.specs.Stored.{OpensTo, Stored}
use Rattle.command_ends.specs.declared.status.Status.{Status}
use Rattle.command_ends.specs.declared.status.Status.TheVariants as ends
use Rattle.doc_source.specs.Fetch.{FetchState}
use Rattle.doc_source.specs.Outside.{SourceState, SinkState}
use Rattle.command_ends.specs.Answer.{Answer}
use Rattle.command_ends.specs.Ends.{CountsOutput, EndsAs}
use Rattle.store_commands.specs.Applied.{IsUnrefused}
use Rattle.store_commands.specs.Apply.{answer, history_step, test_head}
use Rattle.mirror_commands.specs.Audit.{IsAuditUnrefused, IsAudited, audit_limit}
use Rattle.feed_commands.specs.Drill.{drill_answer}
use Rattle.feed_life.specs.Life.{LifeValue}
use Rattle.discover_command.specs.Answer.{IsDiscoverAnswer}
use Rattle.foreign_command.specs.Answer.{IsForeignAnswer}
use Rattle.scrub_command.specs.Answer.{IsRepairAnswer, IsRepairEnd, IsScrubAnswer, IsSoundAnswer}
use Rattle.foreign_mirror.specs.Walk.{IsStart}
use Rattle.mirror_commands.specs.FetchEnds.{IsWalkAnswer, IsWalkEnd}
use Rattle.mirror_commands.specs.MirrorEnds.{IsMirrorUnrefused, IsPileAnswer, IsPileEnd}
use Rattle.store_commands.specs.Lines.{input_limit}
use Rattle.mirror_commands.specs.Mirror.{pile_limit}
use Rattle.feed_commands.specs.Outside.{Outside}
use Rattle.feed_commands.specs.Pile.{pile_answer}
use Rattle.store_commands.specs.Show.{IsShown, ReadsWithinLimit, document_limit}
use Rattle.command_ends.specs.Status.{code_of}
use Rattle.store_commands.specs.Stored.{IsBadStore, IsInitAnswer, apply_answer, archive_answer, feed_answer, member_answer, stored_step}
use Rattle.member_rules.specs.Head.{window_limit, capacity_floor, capacity_limit, title_limit}
use Rattle.tool_words.specs.Words.{IsCommandOf, request_limit}
use Rattle.tool_words.specs.declared.command.Command.{Command}
use Rattle.tool_words.specs.declared.command.Command.TheVariants.{Init, Apply, Serve, Show, Mirror, Audit, Drill, Foreign}
use Rattle.tool_words.specs.declared.command.Command.TheVariants.{Discover, Relay, Scrub}
use Rattle.tool_words.specs.declared.command.Show.TheVariants.{Document, Feed, Archive, Member, Pile}

-- the ranges of a command's values
abbrev pub HasRange : Command → Type 0
HasRange (Init name window capacity) =
    ((1 ≤ window) × (window ≤ window_limit)) × ((capacity_floor ≤ capacity) × (capacity ≤ capacity_limit))
    × (length name.title ≤ title_limit) × (length name.author ≤ title_limit)
HasRange (Apply (Some window)) = (1 ≤ window) × (window ≤ window_limit)
HasRange (Serve listen requests service) = (1 ≤ requests) × (requests ≤ request_limit)
HasRange (Foreign from) = IsStart from
HasRange (Discover address) = IsUrlText address
HasRange _ = Unit {0}

-- The objects that each command depends on

-- whether the command reads the input
abbrev pub ReadsInput : Command → Type 0
ReadsInput (Apply window) = Unit {0}
ReadsInput (Show Document) = Unit {0}
ReadsInput (Mirror base false report capacity) = Unit {0}
ReadsInput Audit = Unit {0}
ReadsInput _ = ⊥

-- how many bytes of the input the command reads: its limit, and one byte more to learn whether the input goes on
abbrev pub read_limit : Command → ℕ
read_limit (Apply window) = input_limit + 1
read_limit (Show Document) = document_limit + 1
read_limit (Mirror base false report capacity) = pile_limit + 1
read_limit Audit = audit_limit + 1
read_limit _ = 0

-- whether the answer depends on the clock
abbrev pub AsksClock : Command → Type 0
AsksClock (Apply window) = Unit {0}
AsksClock _ = ⊥

-- whether the command uses the disk
abbrev pub UsesDisk : Command → Type 0
UsesDisk (Apply (Some window)) = ⊥
UsesDisk (Show Document) = ⊥
UsesDisk Audit = ⊥
UsesDisk (Drill seed count) = ⊥
UsesDisk (Foreign from) = ⊥
UsesDisk (Discover address) = ⊥
UsesDisk _ = Unit {0}

-- whether the command uses the clock
abbrev pub UsesClock : Command → Type 0
UsesClock (Init name window capacity) = Unit {0}
UsesClock (Apply window) = Unit {0}
UsesClock (Serve listen requests service) = Unit {0}
UsesClock _ = ⊥

-- whether the command takes the connections of the door
abbrev pub UsesDoor : Command → Type 0
UsesDoor (Serve listen requests service) = Unit {0}
UsesDoor (Relay base listen requests capacity) = Unit {0}
UsesDoor _ = ⊥

-- whether the command uses the mirror's area of the disk
abbrev pub UsesMirror : Command → Type 0
UsesMirror (Mirror base fetch report capacity) = Unit {0}
UsesMirror (Relay base listen requests capacity) = Unit {0}
UsesMirror _ = ⊥

-- whether the command asks the source of documents
abbrev pub Fetches : Command → Type 0
Fetches (Mirror base true report capacity) = Unit {0}
Fetches (Foreign from) = Unit {0}
Fetches (Discover address) = Unit {0}
Fetches _ = ⊥

-- whether the command has an answer that disk, clock, input and source determine: each but `serve` and `relay`, which
-- depend on the door
abbrev pub IsAnswering : Command → Type 0
IsAnswering (Serve listen requests service) = ⊥
IsAnswering (Relay base listen requests capacity) = ⊥
IsAnswering _ = Unit {0}

-- whether all that the command prints is made before the first byte is printed: each but `serve`, `relay` and
-- `show pile`
abbrev pub IsAtOnce : Command → Type 0
IsAtOnce (Serve listen requests service) = ⊥
IsAtOnce (Relay base listen requests capacity) = ⊥
IsAtOnce (Show Pile) = ⊥
IsAtOnce _ = Unit {0}

-- whether the command has one defined end, with the status 0, and returns nothing but what it prints: each but
-- `mirror`, `audit`, `drill`, `foreign` and `discover`
abbrev pub IsTextual : Command → Type 0
IsTextual (Mirror base fetch report capacity) = ⊥
IsTextual Audit = ⊥
IsTextual (Drill seed count) = ⊥
IsTextual (Foreign from) = ⊥
IsTextual (Discover address) = ⊥
IsTextual _ = Unit {0}

-- the words are those of a command that prints at once, or of none
abbrev pub PrintsAtOnce : List (List ℕ) → Type 0
PrintsAtOnce words = (command : Command) → IsCommandOf words command → IsAtOnce command

-- the words are those of another command than `serve`, or of none
abbrev pub ServesNot : List (List ℕ) → Type 0
ServesNot words = (listen : List ℕ) (requests : ℕ) (service : Bool) → ¬ IsCommandOf words (Serve listen requests service)

-- the words are those of a command that takes no connections, or of none
abbrev pub UsesNoDoor : List (List ℕ) → Type 0
UsesNoDoor words = (command : Command) → IsCommandOf words command → ¬ UsesDoor command

-- the words are those of another command than `mirror` and `relay`, or of none
abbrev pub UsesNoMirror : List (List ℕ) → Type 0
UsesNoMirror words = (command : Command) → IsCommandOf words command → ¬ UsesMirror command

-- the words are those of another command than `drill`, or of none
abbrev pub DrillsNot : List (List ℕ) → Type 0
DrillsNot words = (seed count : ℕ) → ¬ IsCommandOf words (Drill seed count)

-- the words are those of a command that doesn't ask the source of documents, or of none
abbrev pub FetchesNot : List (List ℕ) → Type 0
FetchesNot words = (command : Command) → IsCommandOf words command → ¬ Fetches command

-- the words are those of a command that has no use for the disk, or of none
abbrev pub UsesNoDisk : List (List ℕ) → Type 0
UsesNoDisk words = (command : Command) → IsCommandOf words command → ¬ UsesDisk command

-- the words are those of a command that has no use for the clock, or of none
abbrev pub UsesNoClock : List (List ℕ) → Type 0
UsesNoClock words = (command : Command) → IsCommandOf words command → ¬ UsesClock command

-- the words are those of a command that doesn't read the input, or of none
abbrev pub ReadsNoInput : List (List ℕ) → Type 0
ReadsNoInput words = (command : Command) → IsCommandOf words command → ¬ ReadsInput command

-- the words name no command
abbrev pub NameNone : List (List ℕ) → Type 0
NameNone words = (command : Command) → ¬ IsCommandOf words command

-- only words that name no command end with the status `Usage`; they end with it, or memory ran out
pub record IsUsageOf (words : List (List ℕ)) (ended : ℕ) : Type 0 where
  pub only : ended ≡ code_of ends.Usage → NameNone words
  pub all : NameNone words → (ended ≡ code_of ends.Usage) ⊎ (ended ≡ code_of ends.NoMemory)

-- each object that the words' command has no use for is as it was
pub record LeavesUnused (words : List (List ℕ)) (same_disk same_clock same_input same_door same_fetch : Type 0)
    : Type 0 where
  pub disk : UsesNoDisk words → same_disk
  pub clock : UsesNoClock words → same_clock
  pub input : ReadsNoInput words → same_input
  pub door : UsesNoDoor words → same_door
  pub fetch : FetchesNot words → same_fetch

-- only `serve` returns lines, and only `drill` a life
pub record IsBare (words : List (List ℕ)) (lines : List Line) (life : Option LifeValue) : Type 0 where
  pub no_lines : ServesNot words → lines ≡ []
  pub no_life : DrillsNot words → life ≡ None

-- The counts of faults

-- The count of one of two objects that share a status. It is as it was at another status. At the shared status it rose
-- if the command doesn't use the other object.
pub record CountsShared (before after : ℕ) (is_returned is_alone : Type 0) : Type 0 where
  pub later : before ≤ after
  pub failed : is_alone → is_returned → HasRisen before after
  pub unfailed : ¬ is_returned → after ≡ before

-- The counts of faults of all five objects, of which the door and the source of documents share a status. The input is
-- read up to the command's limit.
pub record CountsFaults (words : List (List ℕ)) (disk left : DiskState) (door shut : DoorState)
    (fetch fetched : FetchState) (input rest : SourceState) (output taken : SinkState) (ended : ℕ) : Type 0 where
  pub disk_faults : CountsFault disk.faults left.faults (ended ≡ code_of ends.DiskFault)
  pub input_faults : CountsFault input.faults rest.faults (ended ≡ code_of ends.InputFault)
  pub input_read : (command : Command) → IsCommandOf words command
      → RisesAtMost (read_limit command) input.bytes_read rest.bytes_read
  pub output_faults : CountsOutput output.faults taken.faults ended
  pub door_faults : CountsShared door.faults shut.faults (ended ≡ code_of ends.DoorFault) (FetchesNot words)
  pub fetch_faults : CountsShared fetch.faults fetched.faults (ended ≡ code_of ends.FetchFault) (UsesNoDoor words)

-- contracts can see all that the command's answer depends on
pub record IsSeen (command : Command) (disk_observable clock_observable input_observable fetch_observable : Type 0)
    : Type 0 where
  pub answering : IsAnswering command
  pub disk : UsesDisk command → disk_observable
  pub clock : AsksClock command → clock_observable
  pub input : ReadsInput command → input_observable
  pub fetch : Fetches command → fetch_observable

-- the same of a command that doesn't ask the source of documents
abbrev pub IsSeenUnfetched : Command → Type 0 → Type 0 → Type 0 → Type 0
IsSeenUnfetched command disk_observable clock_observable input_observable =
    IsSeen command disk_observable clock_observable input_observable (Unit {0})

-- Each command: its answer, by what is outside

-- the answer of a command on the store that the content opens to
abbrev pub stored_answer : Command → Outside → Stored → Answer
stored_answer (Show Feed) outside stored = feed_answer stored
stored_answer (Show (Archive number)) outside stored = archive_answer number stored
stored_answer (Show (Member number)) outside stored = member_answer number stored
stored_answer (Show Pile) outside stored = pile_answer stored
stored_answer _ outside stored = apply_answer outside.moments outside.input stored

-- the content opens to a store, and the command answers this of it
pub record IsOfStore (command : Command) (outside : Outside) (given : Answer) : Type 0 where
  pub stored : Stored
  pub opens : OpensTo outside.content stored
  pub is : given ≡ stored_answer command outside stored

abbrev pub IsAnswer : Command → Outside → Answer → Type 0
IsAnswer (Init name window capacity) outside given = IsInitAnswer outside.content given
IsAnswer (Apply (Some window)) outside given = answer (test_head window) outside.moments outside.input ≡ given
IsAnswer (Show Document) outside given = IsShown outside.input given
IsAnswer (Mirror base false report capacity) outside given =
    IsPileAnswer report capacity base outside.content outside.input given
IsAnswer (Mirror base true report capacity) outside given =
    IsWalkAnswer report capacity base outside.content outside.answers given
IsAnswer Audit outside given = IsAudited outside.input given
IsAnswer (Drill seed count) outside given = given ≡ drill_answer seed count
IsAnswer (Foreign from) outside given = IsForeignAnswer outside.answers from given
IsAnswer (Discover address) outside given = IsDiscoverAnswer outside.answers address given
IsAnswer (Serve listen requests service) outside given = ⊥
IsAnswer (Relay base listen requests capacity) outside given = ⊥
IsAnswer (Scrub false) outside given = IsScrubAnswer outside.content given
IsAnswer (Scrub true) outside given = IsRepairAnswer outside.content given
IsAnswer command outside given = IsOfStore command outside given ⊎ IsBadStore outside.content given

-- The answer of a command on a disk whose content opens to a store, is sound, can be repaired or loads to a mirror, and
-- the answer of the other commands. There is one at most.
abbrev pub IsDueAnswer : Command → Outside → Answer → Type 0
IsDueAnswer (Init name window capacity) outside given = IsInitAnswer outside.content given
IsDueAnswer (Apply (Some window)) outside given = answer (test_head window) outside.moments outside.input ≡ given
IsDueAnswer (Show Document) outside given = IsShown outside.input given
IsDueAnswer (Mirror base false report capacity) outside given =
    IsPileEnd report capacity base outside.content outside.input given
IsDueAnswer (Mirror base true report capacity) outside given =
    IsWalkEnd report capacity base outside.content outside.answers given
IsDueAnswer Audit outside given = IsAudited outside.input given
IsDueAnswer (Drill seed count) outside given = given ≡ drill_answer seed count
IsDueAnswer (Foreign from) outside given = IsForeignAnswer outside.answers from given
IsDueAnswer (Discover address) outside given = IsDiscoverAnswer outside.answers address given
IsDueAnswer (Serve listen requests service) outside given = ⊥
IsDueAnswer (Relay base listen requests capacity) outside given = ⊥
IsDueAnswer (Scrub false) outside given = IsSoundAnswer outside.content given
IsDueAnswer (Scrub true) outside given = IsRepairEnd outside.content given
IsDueAnswer command outside given = IsOfStore command outside given

-- the command's answer, which is the due one if there is one
pub record IsGiven (command : Command) (outside : Outside) (given : Answer) : Type 0 where
  pub is : IsAnswer command outside given
  pub due : (other : Answer) → IsDueAnswer command outside other → other ≡ given

-- a call on the input failed, and nothing that was read before it is refused
abbrev pub IsUnrefusedBy : Command → (ℕ → ℕ) → (Area → List ℕ) → SourceState → SourceState → Type 0
IsUnrefusedBy (Apply (Some window)) moments content before after =
    IsUnrefused (history_step (test_head window) moments) [] before after
IsUnrefusedBy (Apply None) moments content before after =
    (stored : Stored) × OpensTo content stored × IsUnrefused (stored_step moments) stored before after
IsUnrefusedBy (Show Document) moments content before after = ReadsWithinLimit before after
IsUnrefusedBy (Mirror base false report capacity) moments content before after =
    IsMirrorUnrefused base capacity content before after
IsUnrefusedBy Audit moments content before after = IsAuditUnrefused before after
IsUnrefusedBy _ moments content before after = ⊥

-- All commands

abbrev pub OneAnswer : Type 0
OneAnswer = (command : Command) (outside : Outside) (one other : Answer)
    → IsDueAnswer command outside one → IsDueAnswer command outside other → one ≡ other

-- the command ends with its answer
abbrev pub EndsWith : Command → Outside → Type 0 → SinkState → SinkState → ℕ → Type 0
EndsWith command outside observable before after ended =
    EndsAs (IsAnswer command outside) observable before after ended

-- if no call on the disk, the source of documents, the input or the output failed, the exit status is the answer's, or
-- memory ran out
pub record IsComplete (disk later : DiskState) (fetch fetched : FetchState) (input rest : SourceState)
    (output after : SinkState) (ended : ℕ) (answered : Status) : Type 0 where
  pub ends : ¬ HasRisen disk.faults later.faults → ¬ HasRisen fetch.faults fetched.faults → ¬ HasRisen input.faults rest.faults
      → ¬ HasRisen output.faults after.faults → (ended ≡ code_of answered) ⊎ (ended ≡ code_of ends.NoMemory)
