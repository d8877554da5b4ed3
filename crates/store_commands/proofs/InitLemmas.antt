-- The answers of `init`.
use Rattle.std.proofs.Common.{◌≡◌, inl, ℕ, List, ℤ, pos, min, refl, subst}
use Rattle.atom_writer.specs.declared.doc.FeedName.{FeedName}
use Rattle.feed_disk.specs.Disk.{DiskState}
use Rattle.feed_disk.specs.declared.area.Area.{Area}
use Rattle.feed_recovery.specs.declared.fault.InitFault.{InitFault}
use Rattle.feed_recovery.specs.declared.fault.InitFault.TheVariants as init
use Rattle.store_commands.specs.Crash.{MakesStore, head_at, last_stamp}
use Rattle.command_ends.specs.Fault.{fault_answer, IsRefusal}
use Rattle.command_ends.specs.StoreFaults.{init_fault}
use Rattle.member_rules.specs.Head.{newest_format}
use Rattle.store_commands.specs.Stored.{HasRecords, IsInitAnswer}

pub init_refused : (content : Area → List ℕ) (fault : InitFault) → (fault ≡ init.AlreadyInit → HasRecords content)
    → IsRefusal (init_fault fault) → IsInitAnswer content (fault_answer (init_fault fault))
init_refused content init.AlreadyInit has refusal = inl (has refl, refl)
init_refused content init.DiskFault has refusal = absurd refusal
init_refused content init.NoMemory has refusal = absurd refusal

-- the stamp of the moment at which the store is made
pub made_at : (before after : DiskState) (name : FeedName) (window capacity now : ℕ) (stamp : ℤ) (done : Type 0)
    → stamp ≡ pos (min now last_stamp)
    → MakesStore before after (record {
      format = newest_format;
      name = name;
      window = window;
      capacity = capacity;
      created = stamp;
    }) done
    → MakesStore before after (head_at name window capacity now) done
made_at before after name window capacity now stamp done is makes =
    subst (λ (s : ℤ). MakesStore before after (record {
      format = newest_format;
      name = name;
      window = window;
      capacity = capacity;
      created = s;
    }) done) is makes
