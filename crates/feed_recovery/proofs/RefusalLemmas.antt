-- Why a store refuses a request, before and after it took memory.
use Rattle.std.proofs.Common.{◌≡◌, inl, inr, ℕ, List, Option, Some, None, Result, Ok, Err}
use Rattle.std.specs.Prelude.{IfErr}
use Rattle.feed_disk.specs.declared.area.Area.{Area}
use Rattle.feed_recovery.specs.Prepare.{IsDueSeal, IsFullArea, IsFullFault, IsPrepareFault, ReadyValue, decision_of}
use Rattle.feed_recovery.specs.Prepare.{SealFits}
use Rattle.feed_recovery.specs.Store.{StoreValue}
use Rattle.feed_recovery.specs.declared.fault.PrepareFault.{PrepareFault}
use Rattle.feed_recovery.specs.declared.fault.PrepareFault.TheVariants.{Rule, Full, NoMemory}
use Rattle.member_rules.specs.declared.ask.Ask.{Ask}
use Rattle.member_rules.specs.declared.operation.Op.{Op}

module _ (store : StoreValue) (members journal seals spare : ℕ) where
  -- the store with other room
  abbrev pub roomed : StoreValue
  roomed = record store {
    members = record store.members { spare = members };
    journal = record store.journal { spare = journal };
    seals = record store.seals { spare = seals };
    spare = spare;
  }

  fits_before : ((seal : Option (List ℕ)) → IsDueSeal roomed seal → SealFits roomed seal)
      → (seal : Option (List ℕ)) → IsDueSeal store seal → SealFits store seal
  fits_before fits None due = tt
  fits_before fits (Some seal) due = fits (Some seal) due

  full_before : (operation : Op) (area : Area) (size needed capacity : ℕ)
      → IsFullArea roomed operation area size needed capacity → IsFullArea store operation area size needed capacity
  full_before operation area size needed capacity full = (
    full.0,
    elim full.1 [
      | inl sealed ↦ inl (
        sealed.0,
        sealed.1,
        record {
          is_size = sealed.2.is_size;
          is_needed = sealed.2.is_needed;
          over = sealed.2.over;
        },
      )
      | inr plain ↦ inr (
        plain.0,
        fits_before plain.1,
        record {
          is_size = plain.2.is_size;
          is_needed = plain.2.is_needed;
          over = plain.2.over;
        },
      )
    ],
  )

  pub refused_before : (ask : Ask) (now : ℕ) (operation : Op) (result : Result ReadyValue PrepareFault)
      → decision_of store ask now ≡ Ok operation → IfErr result (IsFullFault roomed operation)
      → IfErr result (IsPrepareFault store ask now)
  refused_before ask now operation (Ok ready) decided refused = tt
  refused_before ask now operation (Err (Rule fault)) decided refused = absurd refused
  refused_before ask now operation (Err (Full area size needed capacity)) decided refused =
      (operation, decided, full_before operation area size needed capacity refused)
  refused_before ask now operation (Err NoMemory) decided refused = tt
