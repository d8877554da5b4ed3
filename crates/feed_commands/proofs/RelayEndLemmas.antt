-- What is said of `relay` where its command wasn't read for want of memory.
use Rattle.std.proofs.Common.{◌≡◌, inl, inr, refl, ℕ, List, [], arith}
use Rattle.command_ends.specs.Answer.{Prints}
use Rattle.command_ends.specs.Fault.{fault_answer}
use Rattle.command_ends.specs.declared.fault.Fault.TheVariants as fault
use Rattle.doc_source.specs.Outside.{SinkState}
use Rattle.document_server.specs.Door.{DoorState}
use Rattle.feed_disk.specs.Disk.{DiskState}
use Rattle.relay_command.proofs.LoadLemmas.{area-untouched, loading-none}
use Rattle.relay_command.specs.Relay.{EndsRelaying}
use Rattle.relay_command.specs.declared.session.End.TheVariants.{NoMemory}

-- nothing was loaded and nothing served
pub relay-none : (base : List ℕ) (requests : ℕ) (disk : DiskState) (door : DoorState)
    (sees_disk sees_door sees_output : Type 0) (output taken : SinkState) (ended : ℕ)
    → (sees_output → Prints output taken (fault_answer fault.NoMemory).printed) → ended ≡ 5
    → EndsRelaying base requests disk disk door door sees_disk sees_door sees_output output taken ended
relay-none base requests disk door sees_disk sees_door sees_output output taken ended prints is = record {
  end = NoMemory;
  lines = [];
  status = inl is;
  prints = prints;
  ends = record { most = omega arith; done = λ e. cc; early = λ e. cc };
  relays = λ opened. absurd opened;
  unopened = λ closed. record { no_lines = refl; same_door = refl };
  load = loading-none sees_disk base disk NoMemory (λ load e. cc);
  area = λ seen. area-untouched disk NoMemory;
  whole = λ seen kept loaded. record { ends = λ _ _ _. inr is };
}
