-- What is said of a run beside its answer: where its command wasn't read, and where it prints a text alone.
use Rattle.std.proofs.Common.{◌≡◌, inl, ⊎_elim, ℕ, List, [], true, false, Option, Some, None}
use Rattle.std.proofs.Common.{refl, subst, sym, arith, rules, append-nil}
use Rattle.command_ends.specs.Answer.{Prints}
use Rattle.command_ends.specs.Ends.{IsAnswered}
use Rattle.command_ends.specs.Fault.{fault_answer}
use Rattle.command_ends.specs.declared.fault.Fault.TheVariants.{NoMemory}
use Rattle.command_ends.proofs.EndLemmas.{answered-refusal}
use Rattle.doc_source.specs.Fetch.{FetchState}
use Rattle.doc_source.specs.Outside.{SinkState, SourceState}
use Rattle.document_server.specs.Door.{DoorState}
use Rattle.document_server.specs.declared.line.Line.{Line}
use Rattle.feed_disk.specs.Disk.{DiskState, IsDisk}
use Rattle.feed_disk.proofs.MomentLemmas.{alone_begins}
use Rattle.feed_life.specs.Life.{LifeValue}
use Rattle.foreign_mirror.specs.Walk.Ending.{cut_short}
use Rattle.scrub_command.proofs.RepairEndLemmas.{repair-none}
use Rattle.tool_words.specs.declared.command.Command.{Command}
use Rattle.tool_words.specs.declared.command.Command.TheVariants.{Init, Apply, Serve, Show, Mirror, Audit, Drill, Foreign}
use Rattle.tool_words.specs.declared.command.Command.TheVariants.{Discover, Relay, Scrub}
use Rattle.tool_words.specs.declared.command.Show.TheVariants.{Document, Feed, Archive, Member, Pile}
use Rattle.atom_writer.specs.declared.doc.FeedName.{FeedName}
use Rattle.store_commands.specs.Crash.{IsStatusAfterLoad}
use Rattle.feed_commands.specs.Ran.{EndsOf, Ran}
use Rattle.feed_commands.specs.Run.{IsAtOnce, IsTextual}
use Rattle.store_commands.proofs.DiskLemmas.{applies-none, makes-none}
use Rattle.feed_commands.proofs.LoadedFaultLemmas.{unloaded_five}
use Rattle.feed_commands.proofs.PileEndLemmas.{cut-at-once}
use Rattle.feed_commands.proofs.RelayEndLemmas.{relay-none}

-- a command that prints a text alone is `init`, `apply`, `scrub`, or one of which nothing more is said
pub text-ends : (r : Ran) (command : Command) → IsAtOnce command → IsTextual command
    → ((name : FeedName) (window capacity : ℕ) → command ≡ Init name window capacity
    → EndsOf (Init name window capacity) r) → (command ≡ Apply None → EndsOf (Apply None) r)
    → (command ≡ Scrub false → EndsOf (Scrub false) r) → (command ≡ Scrub true → EndsOf (Scrub true) r)
    → EndsOf command r
text-ends r (Init name window capacity) once textual made applied scrubbed repaired = made name window capacity refl
text-ends r (Apply None) once textual made applied scrubbed repaired = applied refl
text-ends r (Apply (Some window)) once textual made applied scrubbed repaired = tt
text-ends r (Show Document) once textual made applied scrubbed repaired = tt
text-ends r (Show Feed) once textual made applied scrubbed repaired = tt
text-ends r (Show (Archive number)) once textual made applied scrubbed repaired = tt
text-ends r (Show (Member number)) once textual made applied scrubbed repaired = tt
text-ends r (Show Pile) once textual made applied scrubbed repaired = absurd once
text-ends r (Serve listen requests service) once textual made applied scrubbed repaired = absurd once
text-ends r (Mirror base true report capacity) once textual made applied scrubbed repaired = absurd textual
text-ends r (Mirror base false report capacity) once textual made applied scrubbed repaired = absurd textual
text-ends r Audit once textual made applied scrubbed repaired = absurd textual
text-ends r (Drill seed count) once textual made applied scrubbed repaired = absurd textual
text-ends r (Foreign from) once textual made applied scrubbed repaired = absurd textual
text-ends r (Discover address) once textual made applied scrubbed repaired = absurd textual
text-ends r (Relay base listen requests capacity) once textual made applied scrubbed repaired = absurd once
text-ends r (Scrub false) once textual made applied scrubbed repaired = scrubbed refl
text-ends r (Scrub true) once textual made applied scrubbed repaired = repaired refl

-- a run whose command wasn't read for want of memory: each object but the output is as it was
module _ (disk : DiskState) (moments : ℕ → ℕ) (door : DoorState) (stays_at : List ℕ → Type 0)
    (fetch : FetchState) (input : SourceState) (output taken : SinkState)
    (sees_disk sees_clock sees_door sees_fetch sees_input sees_output : Type 0) (lines : List Line)
    (life : Option LifeValue) (ended : ℕ) where
  abbrev pub unread_ran : Ran
  unread_ran = record {
    disk = disk;
    left = disk;
    moments = moments;
    door = door;
    shut = door;
    stays_at = stays_at;
    fetch = fetch;
    fetched = fetch;
    input = input;
    rest = input;
    output = output;
    taken = taken;
    sees_disk = sees_disk;
    sees_clock = sees_clock;
    sees_door = sees_door;
    sees_fetch = sees_fetch;
    sees_input = sees_input;
    sees_output = sees_output;
    lines = lines;
    life = life;
    ended = ended;
  }

  pub unread-ends : {T : Type 0} → IsDisk T disk → ((listen : List ℕ) → stays_at listen)
      → (sees_output → Prints output taken (fault_answer NoMemory).printed) → (lines ≡ []) × (life ≡ None) → ended ≡ 5
      → (command : Command) → EndsOf command unread_ran
  unread-ends is_disk stays prints none is (Init name window capacity) = λ seen.
      makes-none disk name window capacity sees_clock (moments 0) _ is_disk
      (⊎_elim (λ e. omega (arith, e, is)) (λ e. omega (arith, e, is)))
  unread-ends is_disk stays prints none is (Apply None) = λ seen.
      record {
        safe = applies-none disk _ _ _ _ _ _ _ is_disk (λ ends. unloaded_five (subst IsStatusAfterLoad is ends));
        opens = λ clock source answered. absurd (answered-refusal NoMemory (subst IsAnswered is answered));
      }
  unread-ends is_disk stays prints none is (Apply (Some window)) = tt
  unread-ends is_disk stays prints none is (Show Document) = tt
  unread-ends is_disk stays prints none is (Show Feed) = tt
  unread-ends is_disk stays prints none is (Show (Archive number)) = tt
  unread-ends is_disk stays prints none is (Show (Member number)) = tt
  unread-ends is_disk stays prints none is (Show Pile) = λ sink done unsent.
      cut-at-once _ _ _ _ NoMemory _ is (prints sink)
  unread-ends is_disk stays prints none is (Serve listen requests service) = (search rules, stays listen)
  unread-ends is_disk stays prints none is (Mirror base true report capacity) = search rules
  unread-ends is_disk stays prints none is (Mirror base false report capacity) = search rules
  unread-ends is_disk stays prints none is Audit = search rules
  unread-ends is_disk stays prints none is (Drill seed count) = search rules
  unread-ends is_disk stays prints none is (Foreign from) = λ seen.
      record {
        asks = record {
          asked = [];
          documents = [];
          ending = cut_short;
          walks = tt;
          addresses = sym (append-nil fetch.asked);
          over = λ answered. absurd (answered-refusal NoMemory (subst IsAnswered is answered));
          failed = λ e. absurd (omega (arith, e, is));
        };
        own = λ head history serves same answered. absurd (answered-refusal NoMemory (subst IsAnswered is answered));
      }
  unread-ends is_disk stays prints none is (Discover address) = λ seen.
      record {
        asks = record { once = λ read. absurd (read is); most = inl refl };
        own = λ name is_name url there answered. absurd (answered-refusal NoMemory (subst IsAnswered is answered));
      }
  unread-ends is_disk stays prints none is (Relay base listen requests capacity) =
      (relay-none base requests disk door _ _ _ output taken ended prints is, stays listen)
  unread-ends is_disk stays prints none is (Scrub false) = alone_begins disk
  unread-ends is_disk stays prints none is (Scrub true) = λ seen.
      repair-none disk (⊎_elim (λ e. omega (arith, e, is)) (λ e. omega (arith, e, is))) (λ e. omega (arith, e, is))
      (λ e. omega (arith, e, is))
