-- How a run ends, by how its command ended.
use Rattle.std.proofs.Common.{◌≡◌, ◌⊎◌, inl, inr, ⊎_elim, ℕ, Bool, List, [], ◌++◌, Option, None, Result, Ok, Err, IfOk, refl, sym, ◌∙◌, ap, subst, arith}
use Rattle.tool_words.specs.Words.{IsCommandOf}
use Rattle.tool_words.specs.declared.command.Command.{Command}
use Rattle.tool_words.specs.declared.fault.WordsFault.{WordsFault}
use Rattle.tool_words.specs.declared.command.Command.TheVariants.{Discover, Foreign, Show, Mirror}
use Rattle.tool_words.specs.declared.command.Show.{Show as Shown}
use Rattle.tool_words.specs.declared.command.Show.TheVariants.{Pile}
use Rattle.tool_words.specs.declared.fault.WordsFault.TheVariants.{NoMemory, Usage}
use Rattle.document_server.specs.Door.{DoorState}
use Rattle.document_server.specs.declared.line.Line.{Line}
use Rattle.feed_disk.specs.Disk.{DiskState}
use Rattle.feed_life.specs.Life.{LifeValue}
use Rattle.doc_source.specs.Fetch.{FetchState}
use Rattle.chain_links.specs.Checked.{IsUrlText}
use Rattle.discover_command.specs.Ends.{MayEndDiscover}
use Rattle.foreign_command.specs.Ends.{MayEndForeign}
use Rattle.foreign_mirror.specs.Walk.{IsStart}
use Rattle.command_ends.specs.declared.fault.Fault.{Fault}
use Rattle.command_ends.specs.declared.status.Status.TheVariants.{Done}
use Rattle.command_ends.specs.declared.status.Status.TheVariants as ends
use Rattle.command_ends.specs.Answer.{Prints}
use Rattle.mirror_commands.specs.Audit.{MayEndAudit}
use Rattle.feed_commands.specs.Drill.{MayEndDrill}
use Rattle.command_ends.specs.Fault.{fault_answer}
use Rattle.doc_source.specs.Outside.{SinkState, SourceState}
use Rattle.mirror_commands.specs.FetchEnds.{MayEndFetched}
use Rattle.mirror_commands.specs.MirrorEnds.{MayEndMirror}
use Rattle.relay_command.specs.Relay.{MayEndRelaying}
use Rattle.feed_commands.specs.Outside.{Outside}
use Rattle.feed_commands.specs.Run.{CountsFaults, EndsWith, Fetches, IsBare, IsGiven, IsSeen, IsSeenUnfetched, IsUsageOf}
use Rattle.feed_commands.specs.Run.{LeavesUnused, NameNone, ReadsInput, UsesClock, UsesDisk, UsesDoor}
use Rattle.command_ends.specs.Ends.{CountsOutput, IsDone, IsStatus}
use Rattle.command_ends.specs.Status.{code_of}
use Rattle.command_ends.proofs.EndLemmas.{no_done}
use Rattle.feed_commands.proofs.CountLemmas.{counts-none, shared-counts}
use Rattle.feed_commands.proofs.PileEndLemmas.{IsPileCode}
use Rattle.feed_commands.proofs.ServeLemmas.{IsServeCode}

-- a command that is seen with its source is seen without one, if it asks none
pub seen-unfetched : (command : Command) (disk_observable clock_observable input_observable fetch_observable : Type 0)
    → IsSeen command disk_observable clock_observable input_observable fetch_observable
    → IsSeenUnfetched command disk_observable clock_observable input_observable
seen-unfetched command disk_observable clock_observable input_observable fetch_observable seen = record {
  answering = seen.answering;
  disk = seen.disk;
  clock = seen.clock;
  input = seen.input;
  fetch = λ _. tt;
}

-- a property of the command that was read is one of each command of the words
pub read_all : (P : Command → Type 0) {words : List (List ℕ)} {result : Result Command WordsFault} {read : Command}
    → result ≡ Ok read
    → ((command : Command) → IsCommandOf words command → (result ≡ Ok command) ⊎ (result ≡ Err NoMemory))
    → P read → (command : Command) → IsCommandOf words command → P command
read_all P {result = result} {read = read} is only p = λ command of_words. ⊎_elim
    (λ (e : result ≡ Ok command). let same : Ok read ≡ Ok command = sym is ∙ e in
    let read_is : read ≡ command = cc in subst P read_is p)
    (λ (e : result ≡ Err NoMemory). let other : Ok read ≡ Err NoMemory = sym is ∙ e in cc)
    (only command of_words)

module _ (command : Command) (outside : Outside) (observable : Type 0) (before after : SinkState) where
  -- the answer was printed
  pub ends-done : (text : List ℕ) → IsGiven command outside (record { status = Done; printed = text }) →
      (observable → Prints before after text) → (observable → after.taken ≡ before.taken ++ text) →
      EndsWith command outside observable before after 0
  ends-done text given prints whole = record {
    answer = record { status = Done; printed = text };
    is = given.is;
    status = inl refl;
    prints = prints;
    whole = λ seen _. whole seen;
  }

  -- the output failed
  pub ends-unsent : (text : List ℕ) →
      IsGiven command outside (record { status = Done; printed = text }) →
      (observable → Prints before after text) → EndsWith command outside observable before after 8
  ends-unsent text given prints = record {
    answer = record { status = Done; printed = text };
    is = given.is;
    status = inr (refl, inl refl);
    prints = prints;
    whole = λ seen. ⊎_elim (λ e. absurd (omega (arith, e))) (λ e. absurd (omega (arith, e)));
  }

  -- the line of a refusal was printed
  pub ends-refused : (fault : Fault) (ended : ℕ) → ended ≡ code_of (fault_answer fault).status →
      IsGiven command outside (fault_answer fault) →
      (observable → Prints before after (fault_answer fault).printed) →
      EndsWith command outside observable before after ended
  ends-refused fault ended e given prints = record {
    answer = fault_answer fault;
    is = given.is;
    status = inl e;
    prints = prints;
    whole = λ seen done. absurd (no_done fault (subst IsDone e done));
  }

-- words that were refused for this fault
pub usage : {result : Result Command WordsFault} {fault : WordsFault} → result ≡ Err fault → fault ≡ Usage
    → result ≡ Err Usage
usage is same =
    let refused : WordsFault → Result Command WordsFault = λ fault. Err fault in
    is ∙ ap refused same

-- the command is `show pile`
pub show-pile : {command : Command} {shown : Shown} → command ≡ Show shown → shown ≡ Pile → command ≡ Show Pile
show-pile is same = is ∙ ap (λ (s : Shown). Show s) same

-- the command is `mirror`, with or without `--fetch`
pub mirror-is : {command : Command} {base : List ℕ} {fetch given report : Bool} {capacity : ℕ}
    → command ≡ Mirror base fetch report capacity → fetch ≡ given → command ≡ Mirror base given report capacity
mirror-is {base = base} {report = report} {capacity = capacity} is same =
    is ∙ ap (λ (f : Bool). Mirror base f report capacity) same

-- words that were refused are those of no command
pub no_command : {words : List (List ℕ)} {result : Result Command WordsFault} → result ≡ Err Usage
    → ((command : Command) → IsCommandOf words command → (result ≡ Ok command) ⊎ (result ≡ Err NoMemory))
    → (command : Command) → IsCommandOf words command → ⊥
no_command {result = result} is only command of_words = ⊎_elim
    (λ (e : result ≡ Ok command). let other : ◌≡◌ {A = Result Command WordsFault} (Err Usage) (Ok command) =
    sym is ∙ e in cc)
    (λ (e : result ≡ Err NoMemory). let other : ◌≡◌ {A = Result Command WordsFault} (Err Usage) (Err NoMemory) =
    sym is ∙ e in cc)
    (only command of_words)

-- the words that were read as a command are those of that command
pub read_as : (words : List (List ℕ)) {result : Result Command WordsFault} {read command : Command} → result ≡ Ok read
    → read ≡ command → IfOk result (IsCommandOf words) → IsCommandOf words command
read_as words is same found = subst (IsCommandOf words) same (rw is at found)

-- the words are those of the command that was read
pub read_words-of : (words : List (List ℕ)) {result : Result Command WordsFault} {read : Command} → result ≡ Ok read
    → IfOk result (IsCommandOf words) → IsCommandOf words read
read_words-of words is found = read_as words is refl found

-- and of no other command
pub read_is : {words : List (List ℕ)} {result : Result Command WordsFault} {read : Command} → result ≡ Ok read
    → ((command : Command) → IsCommandOf words command → (result ≡ Ok command) ⊎ (result ≡ Err NoMemory))
    → (command : Command) → IsCommandOf words command → read ≡ command
read_is {read = read} is only = read_all (λ command. read ≡ command) is only refl

-- The words, the objects and the results that a command leaves

module _ {words : List (List ℕ)} {ended : ℕ} where
  pub words-refused : NameNone words → ended ≡ 2 → IsUsageOf words ended
  words-refused none is = record { only = λ _. none; all = λ _. inl is }

  pub words-unread : ended ≡ 5 → IsUsageOf words ended
  words-unread is = record { only = λ e. absurd (omega (arith, e, is)); all = λ _. inr is }

  pub words-of : (command : Command) → IsCommandOf words command → (ended ≡ 2 → ⊥) → IsUsageOf words ended
  words-of command of_words other = record {
    only = λ e. absurd (other e);
    all = λ none. absurd (none command of_words);
  }

pub unused-by : (command : Command) {words : List (List ℕ)} {same_disk same_clock same_input same_door same_fetch : Type 0}
    → IsCommandOf words command → (¬ UsesDisk command → same_disk) → (¬ UsesClock command → same_clock)
    → (¬ ReadsInput command → same_input) → (¬ UsesDoor command → same_door) → (¬ Fetches command → same_fetch)
    → LeavesUnused words same_disk same_clock same_input same_door same_fetch
unused-by command of_words disk clock input door fetch = record {
  disk = λ unused. disk (unused command of_words);
  clock = λ unused. clock (unused command of_words);
  input = λ unused. input (unused command of_words);
  door = λ unused. door (unused command of_words);
  fetch = λ unused. fetch (unused command of_words);
}

pub bare-none : {words : List (List ℕ)} {lines : List Line} {life : Option LifeValue} → (lines ≡ []) × (life ≡ None)
    → IsBare words lines life
bare-none none = record { no_lines = λ _. none.0; no_life = λ _. none.1 }

pub unused-all : {words : List (List ℕ)} {same_disk same_clock same_input same_door same_fetch : Type 0}
    → same_disk → same_clock → same_input → same_door → same_fetch
    → LeavesUnused words same_disk same_clock same_input same_door same_fetch
unused-all disk clock input door fetch = record {
  disk = λ _. disk;
  clock = λ _. clock;
  input = λ _. input;
  door = λ _. door;
  fetch = λ _. fetch;
}

-- no call was made but those of the output
pub faults-none : {words : List (List ℕ)} {disk : DiskState} {door : DoorState} {fetch : FetchState} {input : SourceState}
    {output taken : SinkState} {ended : ℕ} → (ended ≡ 4 → ⊥) → (ended ≡ 7 → ⊥) → (ended ≡ 9 → ⊥)
    → CountsOutput output.faults taken.faults ended
    → CountsFaults words disk disk door door fetch fetch input input output taken ended
faults-none no_disk no_shared no_input counts = record {
  disk_faults = counts-none no_disk;
  input_faults = counts-none no_input;
  input_read = λ command of_words. omega arith;
  output_faults = counts;
  door_faults = shared-counts (counts-none no_shared);
  fetch_faults = shared-counts (counts-none no_shared);
}

-- The statuses that a command doesn't end with

pub serve-other : (n : ℕ) → IsServeCode n → (n ≡ 2 → ⊥) × (n ≡ 9 → ⊥)
serve-other n may = (λ e. omega arith, λ e. omega arith)

pub pile-other : (n : ℕ) → IsPileCode n → (n ≡ 2 → ⊥) × (n ≡ 7 → ⊥) × (n ≡ 9 → ⊥)
pile-other n may = (λ e. omega arith, λ e. omega arith, λ e. omega arith)

pub mirror-other : (n : ℕ) → MayEndMirror n → (n ≡ 2 → ⊥) × (n ≡ 7 → ⊥)
mirror-other n may = (λ e. omega arith, λ e. omega arith)

pub fetched-other : (n : ℕ) → MayEndFetched n → (n ≡ 2 → ⊥) × (n ≡ 9 → ⊥)
fetched-other n may = (λ e. omega arith, λ e. omega arith)

pub relay-other : (n : ℕ) → MayEndRelaying n → (n ≡ 2 → ⊥) × (n ≡ 9 → ⊥)
relay-other n may = (λ e. omega arith, λ e. omega arith)

pub audit-other : (n : ℕ) → MayEndAudit n → (n ≡ 2 → ⊥) × (n ≡ 4 → ⊥) × (n ≡ 7 → ⊥)
audit-other n may = (λ e. omega arith, λ e. omega arith, λ e. omega arith)

pub foreign-other : (n : ℕ) → MayEndForeign n → (n ≡ 2 → ⊥) × (n ≡ 4 → ⊥) × (n ≡ 9 → ⊥)
foreign-other n may = (λ e. omega arith, λ e. omega arith, λ e. omega arith)

pub discover-other : (n : ℕ) → MayEndDiscover n → (n ≡ 2 → ⊥) × (n ≡ 4 → ⊥) × (n ≡ 9 → ⊥)
discover-other n may = (λ e. omega arith, λ e. omega arith, λ e. omega arith)

pub drill-other : (n : ℕ) → MayEndDrill n → (n ≡ 2 → ⊥) × (n ≡ 4 → ⊥) × (n ≡ 7 → ⊥) × (n ≡ 9 → ⊥)
drill-other n may = (λ e. omega arith, λ e. omega arith, λ e. omega arith, λ e. omega arith)

-- a session's status is one of the program's
pub serve-status : (n : ℕ) → IsServeCode n → IsStatus n
serve-status n (inl e) = (ends.Done, e)
serve-status n (inr (inl e)) = (ends.DiskFault, e)
serve-status n (inr (inr (inl e))) = (ends.NoMemory, e)
serve-status n (inr (inr (inr (inl e)))) = (ends.BadStore, e)
serve-status n (inr (inr (inr (inr (inl e))))) = (ends.DoorFault, e)
serve-status n (inr (inr (inr (inr (inr e))))) = (ends.OutputFault, e)

-- the status of `relay` is one of the program's
pub relay-status : (n : ℕ) → MayEndRelaying n → IsStatus n
relay-status n (inl e) = (ends.Done, e)
relay-status n (inr (inl e)) = (ends.DiskFault, e)
relay-status n (inr (inr (inl e))) = (ends.NoMemory, e)
relay-status n (inr (inr (inr (inl e)))) = (ends.BadStore, e)
relay-status n (inr (inr (inr (inr (inl e))))) = (ends.DoorFault, e)
relay-status n (inr (inr (inr (inr (inr (inl e)))))) = (ends.OutputFault, e)
relay-status n (inr (inr (inr (inr (inr (inr e)))))) = (ends.Refused, e)

-- the status of `mirror` is one of the program's
pub mirror-status : (n : ℕ) → MayEndMirror n → IsStatus n
mirror-status n (inl e) = (ends.Done, e)
mirror-status n (inr (inl e)) = (ends.Incomplete, e)
mirror-status n (inr (inr (inl e))) = (ends.DiskFault, e)
mirror-status n (inr (inr (inr (inl e)))) = (ends.NoMemory, e)
mirror-status n (inr (inr (inr (inr (inl e))))) = (ends.BadStore, e)
mirror-status n (inr (inr (inr (inr (inr (inl e)))))) = (ends.OutputFault, e)
mirror-status n (inr (inr (inr (inr (inr (inr (inl e))))))) = (ends.InputFault, e)
mirror-status n (inr (inr (inr (inr (inr (inr (inr (inl e)))))))) = (ends.BadInput, e)
mirror-status n (inr (inr (inr (inr (inr (inr (inr (inr (inl e))))))))) = (ends.Full, e)
mirror-status n (inr (inr (inr (inr (inr (inr (inr (inr (inr e))))))))) = (ends.Refused, e)

pub fetched-status : (n : ℕ) → MayEndFetched n → IsStatus n
fetched-status n (inl e) = (ends.Done, e)
fetched-status n (inr (inl e)) = (ends.Incomplete, e)
fetched-status n (inr (inr (inl e))) = (ends.DiskFault, e)
fetched-status n (inr (inr (inr (inl e)))) = (ends.NoMemory, e)
fetched-status n (inr (inr (inr (inr (inl e))))) = (ends.BadStore, e)
fetched-status n (inr (inr (inr (inr (inr (inl e)))))) = (ends.FetchFault, e)
fetched-status n (inr (inr (inr (inr (inr (inr (inl e))))))) = (ends.OutputFault, e)
fetched-status n (inr (inr (inr (inr (inr (inr (inr (inl e)))))))) = (ends.Full, e)
fetched-status n (inr (inr (inr (inr (inr (inr (inr (inr e)))))))) = (ends.Refused, e)

-- the status of `audit` is one of the program's
pub audit-status : (n : ℕ) → MayEndAudit n → IsStatus n
audit-status n (inl e) = (ends.Done, e)
audit-status n (inr (inl e)) = (ends.Rejected, e)
audit-status n (inr (inr (inl e))) = (ends.NoMemory, e)
audit-status n (inr (inr (inr (inl e)))) = (ends.OutputFault, e)
audit-status n (inr (inr (inr (inr (inl e))))) = (ends.InputFault, e)
audit-status n (inr (inr (inr (inr (inr e))))) = (ends.BadInput, e)

-- the status of `drill` is one of the program's
pub drill-status : (n : ℕ) → MayEndDrill n → IsStatus n
drill-status n (inl e) = (ends.Done, e)
drill-status n (inr (inl e)) = (ends.OutputFault, e)
drill-status n (inr (inr e)) = (ends.NoMemory, e)

-- the status of `foreign` is one of the program's
pub foreign-status : (n : ℕ) → MayEndForeign n → IsStatus n
foreign-status n (inl e) = (ends.Done, e)
foreign-status n (inr (inl e)) = (ends.Incomplete, e)
foreign-status n (inr (inr (inl e))) = (ends.NoMemory, e)
foreign-status n (inr (inr (inr (inl e)))) = (ends.FetchFault, e)
foreign-status n (inr (inr (inr (inr e)))) = (ends.OutputFault, e)

-- the status of `discover` is one of the program's
pub discover-status : (n : ℕ) → MayEndDiscover n → IsStatus n
discover-status n (inl e) = (ends.Done, e)
discover-status n (inr (inl e)) = (ends.Incomplete, e)
discover-status n (inr (inr (inl e))) = (ends.NoMemory, e)
discover-status n (inr (inr (inr (inl e)))) = (ends.FetchFault, e)
discover-status n (inr (inr (inr (inr (inl e))))) = (ends.OutputFault, e)
discover-status n (inr (inr (inr (inr (inr e))))) = (ends.BadInput, e)

-- the address of the words of `foreign` is one that a walk may begin at
pub start-of : {words : List (List ℕ)} {from : List ℕ} → IsCommandOf words (Foreign from) → IsStart from
start-of (rest, spelt, is) = record { is_url = is.is_from.is_url; http = is.is_from.http }

-- the address of the words of `discover` is one that the parser of the URL Standard leaves as it is
pub url-of : {words : List (List ℕ)} {address : List ℕ} → IsCommandOf words (Discover address) → IsUrlText address
url-of (rest, spelt, is) = is.is_address.is_url
