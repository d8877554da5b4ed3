-- The content to which a loaded store belongs, and the sizes of its two logs.
use Rattle.std.proofs.Common.{◌≡◌, ◌⊎◌, inl, inr, Result, ℕ, ◌+◌, List, length, refl}
use Rattle.std.proofs.Common.{sym, ◌∙◌, ap, subst}
use Rattle.feed_disk.specs.declared.area.Area.{Area}
use Rattle.feed_disk.specs.declared.area.Area.TheVariants.{Journal, Sealed}
use Rattle.feed_journal.specs.Records.{records}
use Rattle.feed_recovery.specs.Opening.{AreSeals, IsJournal}
use Rattle.feed_recovery.specs.Store.{StoreValue}
use Rattle.command_ends.specs.declared.fault.Fault.{Fault}
use Rattle.command_ends.specs.declared.fault.Fault.TheVariants.{NoMemory, Input, Disk, BadStore, Full, Refused}
use Rattle.store_commands.specs.Apply.{line_operation}
use Rattle.command_ends.specs.Fault.{IsRefusal}
use Rattle.store_commands.specs.Loaded.{line_made}
use Rattle.feed_recovery.specs.Stored.{OpensTo, Stored, stored_of}
use Rattle.store_commands.specs.Stored.{stored_step}

-- the payloads decide what a content opens to
pub opens-same : (content other : Area → List ℕ) (stored : Stored)
    → ((a : Area) → records (other a) ≡ records (content a)) → OpensTo other stored → OpensTo content stored
opens-same content other stored same o = record {
  is_journal = subst (λ (ps : List (List ℕ)). IsJournal ps stored.head stored.history) (same Journal) o.is_journal;
  are_seals = subst (AreSeals stored.head stored.history) (same Sealed) o.are_seals;
  number = ap length (sym (same Sealed)) ∙ o.number;
  count = o.count;
}

-- the store after a line, by what the line asks for
pub line-is : (moments : ℕ → ℕ) (store : StoreValue) (before : ℕ) (line read : List ℕ) (number now : ℕ)
    (made : Result Stored Fault) → read ≡ line → number ≡ before + 1 → now ≡ moments before
    → line_made store number now read ≡ made → stored_step moments (stored_of store) before line ≡ made
unfolding line_operation
line-is moments store before line read number now made is_line is_number is_now e =
    rw (← is_number, ← is_line, ← is_now) e

-- a fault of a line is one of the disk, or isn't
pub disk-or-not : (fault : Fault) → (fault ≡ Disk) ⊎ (fault ≡ Disk → ⊥)
disk-or-not NoMemory = inr (λ e. cc)
disk-or-not Input = inr (λ e. cc)
disk-or-not Disk = inl refl
disk-or-not (BadStore bad) = inr (λ e. cc)
disk-or-not (Full area size needed capacity) = inr (λ e. cc)
disk-or-not (Refused refusal) = inr (λ e. cc)

pub no-disk : (fault : Fault) → IsRefusal fault → fault ≡ Disk → ⊥
no-disk fault refusal e = rw e at refusal
