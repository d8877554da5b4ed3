-- `relay`: the lines that are printed after a session, and how the program ends.
use Rattle.std.specs.Prelude.{◌≡◌, ◌⊎◌, ℕ, List, [], ◌++◌, flat_map, codes, Result, Err}
use Rattle.atom_values.specs.Counts.{HasRisen}
use Rattle.atom_values.specs.declared.memory.Failed.{Failed}
use Rattle.command_ends.specs.Answer.{Answer, Prints}
use Rattle.command_ends.specs.Fault.{connection_line, fault_answer, other_base_line}
use Rattle.command_ends.specs.Status.{code_of}
use Rattle.command_ends.specs.declared.fault.BadStore.TheVariants.{BadRecord}
use Rattle.command_ends.specs.declared.fault.Fault.TheVariants as fault
use Rattle.command_ends.specs.declared.status.Status.{Status}
use Rattle.command_ends.specs.declared.status.Status.TheVariants as ends
use Rattle.doc_source.specs.Outside.{SinkState}
use Rattle.document_server.specs.Door.{DoorState}
use Rattle.feed_disk.specs.Disk.{DiskState}
use Rattle.feed_disk.specs.declared.area.Area.TheVariants.{Mirror}
use Rattle.feed_journal.specs.Records.{records}
use Rattle.mirror_walk.specs.Holding.{KeptValue}
use Rattle.mirror_walk.specs.Loaded.{IsLoadedOf}
use Rattle.mirror_walk.specs.declared.mirror_fault.MirrorFault.TheVariants as load
use Rattle.relay_command.specs.Session.{EndsLoading, EndsWithin, IsOpened, KeepsArea, RelaysLoaded, ServesNothing}
use Rattle.relay_command.specs.declared.session.End.{End}
use Rattle.relay_command.specs.declared.session.End.TheVariants.{Done, Load, DiskFault, DoorFault, NoMemory}
use Rattle.relay_command.specs.declared.session.Served.{Served}

-- the status of a session's end, and its line; the defined end has none
abbrev pub end_answer : End → Answer
end_answer Done = record { status = ends.Done; printed = [] }
end_answer (Load (load.OtherBase base)) = record { status = ends.Refused; printed = other_base_line base }
end_answer (Load (load.BadRecord index at)) = fault_answer (fault.BadStore (BadRecord Mirror index at))
end_answer (Load load.DiskFault) = fault_answer fault.Disk
end_answer (Load load.NoMemory) = fault_answer fault.NoMemory
end_answer DiskFault = fault_answer fault.Disk
end_answer DoorFault = record { status = ends.DoorFault; printed = codes "door fault\n" }
end_answer NoMemory = fault_answer fault.NoMemory

-- the lines of the connections in order, and then that of the end
abbrev pub session_text : List Served → End → List ℕ
session_text lines end =
    flat_map (λ (line : Served). connection_line line.status line.version) lines ++ (end_answer end).printed

-- the status is that of the end, or says at the defined end whether the lines could be printed
abbrev pub session_status : End → Result (Unit {0}) Failed → Status
session_status Done (Err failed) = ends.OutputFault
session_status end printed = (end_answer end).status

-- with an area that loads and no fault the program comes to the defined end, or memory ran out
pub record IsRelayedWhole (before after : DiskState) (door rest : DoorState) (output taken : SinkState) (ended : ℕ)
    : Type 0 where
  pub ends : ¬ HasRisen before.faults after.faults → ¬ HasRisen door.faults rest.faults
      → ¬ HasRisen output.faults taken.faults → (ended ≡ code_of ends.Done) ⊎ (ended ≡ code_of ends.NoMemory)

-- How the program ends after a session of at most `requests` connections: by the end of the session, or by a failure of
-- the output after a session that came to its defined end. What the session served is what the area held when it was
-- loaded, and the area still holds it.
pub record EndsRelaying (base : List ℕ) (requests : ℕ) (before after : DiskState) (door rest : DoorState)
    (disk_observable door_observable output_observable : Type 0) (output taken : SinkState) (ended : ℕ) : Type 0 where
  pub end : End
  pub lines : List Served
  pub status :
      (ended ≡ code_of (end_answer end).status) ⊎ ((end ≡ Done) × (ended ≡ code_of ends.OutputFault))
  pub prints : output_observable → Prints output taken (session_text lines end)
  pub ends : EndsWithin requests door_observable rest lines end
  pub relays : IsOpened end
      → RelaysLoaded disk_observable door_observable base before after door rest lines (end ≡ DiskFault)
  pub unopened : ¬ IsOpened end → ServesNothing door rest lines
  pub load : EndsLoading disk_observable base before end
  pub area : disk_observable → KeepsArea before after end
  pub whole : disk_observable → (kept : List KeptValue) → IsLoadedOf base (records (before.content Mirror)) kept
      → IsRelayedWhole before after door rest output taken ended

-- the exit statuses of `relay`
abbrev pub MayEndRelaying : ℕ → Type 0
MayEndRelaying ended =
    (ended ≡ code_of ends.Done) ⊎ (ended ≡ code_of ends.DiskFault) ⊎ (ended ≡ code_of ends.NoMemory)
    ⊎ (ended ≡ code_of ends.BadStore) ⊎ (ended ≡ code_of ends.DoorFault) ⊎ (ended ≡ code_of ends.OutputFault)
    ⊎ (ended ≡ code_of ends.Refused)
