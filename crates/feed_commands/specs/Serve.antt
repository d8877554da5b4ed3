-- `serve`: the lines that are printed after a session, and how the program ends.
use Rattle.std.specs.Prelude.{◌≡◌, ◌⊎◌, ℕ, ◌≤◌, List, [], ◌++◌, length, flat_map, codes, Option, Some, None}
use Rattle.std.specs.Prelude.{Result, Ok, Err, Bool}
use Rattle.atom_values.specs.Counts.{HasRisen}
use Rattle.atom_values.specs.declared.memory.Failed.{Failed}
use Rattle.document_server.specs.Door.{DoorState}
use Rattle.document_server.specs.Served.{answers_of}
use Rattle.document_server.specs.Serving.{IsEndOf, Serves}
use Rattle.document_server.specs.declared.line.Line.{Line}
use Rattle.document_server.specs.declared.session.End.{End}
use Rattle.document_server.specs.declared.session.End.TheVariants as session
use Rattle.feed_disk.specs.Disk.{DiskState}
use Rattle.feed_disk.specs.declared.area.Area.TheVariants.{Journal, Sealed}
use Rattle.feed_journal.specs.Records.{records}
use Rattle.feed_recovery.specs.Faults.{IsLoadFault}
use Rattle.feed_recovery.specs.Settled.{LeavesStores}
use Rattle.feed_recovery.specs.Stored.{OpensTo, Stored}
use Rattle.feed_recovery.specs.declared.fault.LoadFault.{LoadFault}
use Rattle.feed_recovery.specs.declared.fault.LoadFault.TheVariants as load
use Rattle.feed_commands.specs.declared.commands.serve.SessionFault.{SessionFault}
use Rattle.feed_commands.specs.declared.commands.serve.SessionFault.TheVariants.{Door, Other}
use Rattle.command_ends.specs.declared.fault.Fault.TheVariants.{NoMemory, Disk}
use Rattle.command_ends.specs.declared.status.Status.{Status}
use Rattle.command_ends.specs.declared.status.Status.TheVariants as ends
use Rattle.command_ends.specs.Answer.{Answer, Prints}
use Rattle.command_ends.specs.Fault.{connection_line, fault_answer}
use Rattle.doc_source.specs.Outside.{SinkState}
use Rattle.command_ends.specs.Status.{code_of}
use Rattle.command_ends.specs.StoreFaults.{load_fault}

-- the line of a connection: the status of its reply, and the version of the feed
abbrev pub session_line : Line → List ℕ
session_line line = connection_line line.status line.version

-- the fault by which a session ended, if it was one
abbrev pub end_fault : End → Option SessionFault
end_fault session.Done = None
end_fault (session.Load fault) = Some (Other (load_fault fault))
end_fault session.DiskFault = Some (Other Disk)
end_fault session.DoorFault = Some Door
end_fault session.NoMemory = Some (Other NoMemory)

-- its status and its line
abbrev pub session_answer : SessionFault → Answer
session_answer Door = record { status = ends.DoorFault; printed = codes "door fault\n" }
session_answer (Other fault) = fault_answer fault

abbrev pub fault_text : Option SessionFault → List ℕ
fault_text None = []
fault_text (Some fault) = (session_answer fault).printed

-- the status is that of the fault, or if there is none says whether the lines could be printed
abbrev pub session_status : Option SessionFault → Result (Unit {0}) Failed → Status
session_status (Some fault) printed = (session_answer fault).status
session_status None (Ok printed) = ends.Done
session_status None (Err failed) = ends.OutputFault

abbrev pub fault_status : Option SessionFault → Status
fault_status None = ends.Done
fault_status (Some fault) = (session_answer fault).status

-- the lines of the connections in order, and then that of the fault
abbrev pub session_text : List Line → Option SessionFault → List ℕ
session_text lines fault = flat_map session_line lines ++ fault_text fault

-- the store was loaded and the memory for the lines was there
abbrev pub IsOpened : End → Type 0
IsOpened (session.Load fault) = ⊥
IsOpened session.NoMemory = ⊥
IsOpened _ = Unit {0}

-- nothing was served: the door is as it was, and a crash leaves what it could leave before
pub record ServesNothing (before after : DiskState) (door rest : DoorState) (observable : Type 0) (lines : List Line)
    : Type 0 where
  pub no_lines : lines ≡ []
  pub same_door : rest ≡ door
  pub safe : observable → LeavesStores before after

-- with a store that opens and no fault the program comes to the defined end, or memory ran out
pub record IsServedWhole (before after : DiskState) (door rest : DoorState) (output taken : SinkState) (ended : ℕ)
    : Type 0 where
  pub ends : ¬ HasRisen before.faults after.faults → ¬ HasRisen door.faults rest.faults → ¬ HasRisen output.faults taken.faults
      → (ended ≡ code_of ends.Done) ⊎ (ended ≡ code_of ends.NoMemory)

-- How the program ends after a session of at most `requests` connections, which serves the service document and the
-- listing if `service`: by the end of the session, or by a failure of the output after a session that came to its
-- defined end.
pub record EndsServing (service : Bool) (requests : ℕ) (before after : DiskState) (moments : ℕ → ℕ) (door rest : DoorState)
    (disk_observable clock_observable door_observable output_observable : Type 0) (output taken : SinkState)
    (lines : List Line) (ended : ℕ) : Type 0 where
  pub end : End
  pub status :
      (ended ≡ code_of (fault_status (end_fault end)))
      ⊎ ((end ≡ session.Done) × (ended ≡ code_of ends.OutputFault))
  pub prints : output_observable → Prints output taken (session_text lines (end_fault end))
  pub most : length lines ≤ requests
  pub serves : IsOpened end
      → Serves (answers_of service) before after moments door rest disk_observable clock_observable door_observable lines
      (end ≡ session.DiskFault)
  pub ends : IsEndOf requests door_observable rest lines end
  pub unopened : ¬ IsOpened end → ServesNothing before after door rest disk_observable lines
  pub refused : (fault : LoadFault) → end ≡ session.Load fault → disk_observable
      → IsLoadFault (records (before.content Journal)) (records (before.content Sealed)) fault
  pub only : disk_observable → (stored : Stored) → OpensTo before.content stored → (fault : LoadFault)
      → end ≡ session.Load fault → (fault ≡ load.DiskFault) ⊎ (fault ≡ load.NoMemory)
  pub whole : disk_observable → (stored : Stored) → OpensTo before.content stored
      → IsServedWhole before after door rest output taken ended
