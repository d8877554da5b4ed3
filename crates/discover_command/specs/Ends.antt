-- How `discover` ends.
use Rattle.std.specs.Prelude.{◌≡◌, ◌⊎◌, ℕ, List, [], ◌∷◌, ◌++◌, Some, codes}
use Rattle.atom_writer.specs.Doc.{IsFeedName}
use Rattle.atom_writer.specs.declared.doc.FeedName.{FeedName}
use Rattle.chain_links.specs.Address.{printed}
use Rattle.chain_links.specs.Checked.{IsUrlText}
use Rattle.chain_links.specs.declared.address.Address.TheVariants.{Feed}
use Rattle.command_ends.specs.Answer.{Answer}
use Rattle.command_ends.specs.Ends.{EndsAs, IsAnswered, fetch_line}
use Rattle.command_ends.specs.Fault.{fault_answer}
use Rattle.command_ends.specs.Status.{code_of}
use Rattle.command_ends.specs.declared.fault.Fault.TheVariants.{NoMemory as MemoryFault}
use Rattle.command_ends.specs.declared.status.Status.TheVariants.{Done, Incomplete, NoMemory, FetchFault, OutputFault}
use Rattle.command_ends.specs.declared.status.Status.TheVariants.{BadInput}
use Rattle.doc_source.specs.Fetch.{FetchState}
use Rattle.doc_source.specs.Outside.{SinkState}
use Rattle.doc_source.specs.declared.fetch.GetFault.{GetFault}
use Rattle.doc_source.specs.declared.fetch.GetFault.TheVariants as got
use Rattle.service_reader.specs.declared.fault.ServiceRead.{ServiceRead}
use Rattle.service_reader.specs.declared.fault.ServiceRead.TheVariants as read
use Rattle.service_face.specs.Service.{service_text}
use Rattle.discover_command.specs.Lines.{refused_answer}
use Rattle.discover_command.specs.declared.fault.DiscoverFault.{DiscoverFault}
use Rattle.discover_command.specs.declared.fault.DiscoverFault.TheVariants as fault

-- the exit statuses of `discover`
abbrev pub MayEndDiscover : ℕ → Type 0
MayEndDiscover ended =
    (ended ≡ code_of Done) ⊎ (ended ≡ code_of Incomplete) ⊎ (ended ≡ code_of NoMemory) ⊎ (ended ≡ code_of FetchFault)
    ⊎ (ended ≡ code_of OutputFault) ⊎ (ended ≡ code_of BadInput)

-- the fault of a call of the source
abbrev pub get_fault : GetFault → DiscoverFault
get_fault got.Failed = fault.FetchFault
get_fault got.NoMemory = fault.NoMemory

-- the fault of a document that isn't read
abbrev pub read_fault : ServiceRead → DiscoverFault
read_fault (read.NotRead at why) = fault.BadService at
read_fault read.NoMemory = fault.NoMemory

-- the status of a fault, and its line
abbrev pub fault_end : DiscoverFault → Answer
fault_end fault.FetchFault = record { status = FetchFault; printed = fetch_line }
fault_end (fault.BadService at) = refused_answer at
fault_end fault.NoMemory = fault_answer MemoryFault

-- The source was asked for the document of this address, once. If memory ran out, it may not have been asked.
pub record AsksFor (before after : FetchState) (address : List ℕ) (ran_out : Type 0) : Type 0 where
  pub once : ¬ ran_out → after.asked ≡ before.asked ++ address ∷ []
  pub most : (after.asked ≡ before.asked) ⊎ (after.asked ≡ before.asked ++ address ∷ [])

-- the answer to the service document of this project's own: its one collection, which takes entries
abbrev pub own_answer : FeedName → Answer
own_answer name =
    record { status = Done; printed = codes "collection " ++ printed name.base Feed ++ codes " entries\n" }

-- what the source was asked, and the answer where it has the service document of this project's own
pub record EndsDiscover (address : List ℕ) (fetch fetched : FetchState) (observable : Type 0)
    (before after : SinkState) (ended : ℕ) : Type 0 where
  pub asks : AsksFor fetch fetched address (ended ≡ code_of NoMemory)
  pub own : (name : FeedName) → IsFeedName name → IsUrlText (printed name.base Feed)
      → fetch.answers address ≡ Some (service_text name) → IsAnswered ended
      → EndsAs (λ given. given ≡ own_answer name) observable before after ended
