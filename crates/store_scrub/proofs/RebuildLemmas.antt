-- A rebuild of the sealed area, after the first pass of a repair.
use Rattle.std.proofs.Common.{◌≡◌, ℕ, List, Result, Err, take, refl, ◌∙◌, subst}
use Rattle.feed_disk.specs.Disk.{DiskState, IsDisk}
use Rattle.feed_disk.specs.Moments.{AlwaysLeaves, LeavesAlone, NowOnly}
use Rattle.feed_disk.specs.declared.area.Area.{Area}
use Rattle.feed_disk.specs.declared.area.Area.TheVariants.{Journal, Sealed}
use Rattle.feed_disk.proofs.MomentLemmas.{alone_leaves, always_joins, always_weaker}
use Rattle.feed_journal.specs.Records.{records, Begins, HasFirst, IsWhole}
use Rattle.feed_recovery.specs.Opening.{journal_of}
use Rattle.feed_recovery.specs.Stored.{seals_of}
use Rattle.member_rules.specs.Head.{HeadValue}
use Rattle.member_rules.specs.declared.operation.Op.{Op}
use Rattle.store_scrub.specs.Making.{HasSeals, IsNoHistory, KeepsSeals, MakesAll, StopsWithoutRoom}
use Rattle.store_scrub.specs.Rebuild.{ClosesArea, CutsArea, IsReady, IsRebuildFault, IsRebuilt, KeepsArea, KeepsFirstOf}
use Rattle.store_scrub.specs.Repair.{LeavesFirst}
use Rattle.store_scrub.specs.declared.fault.RepairFault.{RepairFault}
use Rattle.store_scrub.specs.declared.fault.RepairFault.TheVariants.{NotInit, BadRecord, Full, DiskFault, NoMemory}
use Rattle.store_scrub.proofs.KeptLemmas.{kept-taken}

-- The gates are closed from s to m.
module _ (s m : DiskState) (head : HeadValue) (history : List Op) (kept : ℕ) (ready : IsReady s head history kept) where
  taken : take kept (records (s.content Sealed)) ≡ seals_of head history kept
  taken = kept-taken head history (records (s.content Sealed)) kept ready.is_kept

  pub closing-leaves : KeepsArea s m Journal → KeepsFirstOf s m Sealed kept → LeavesFirst s m head history kept
  closing-leaves journal sealed = record {
    journal = always_weaker s m Journal (λ i. records i ≡ records (s.content Journal))
        (λ i. records i ≡ journal_of head history) (λ i is. is ∙ ready.is_journal.is) (journal ready.journal_synced);
    sealed = subst (λ (l : List (List ℕ)). AlwaysLeaves s m Sealed (HasFirst l)) taken (sealed ready.sealed_synced);
  }

  module _ (closes : ClosesArea s m Journal) (cuts : CutsArea s m Sealed kept) where
    closed : NowOnly m Journal (λ i. IsWhole i × (records i ≡ journal_of head history))
    closed i may =
        let both = closes ready.journal_synced i may in
        (both.0, both.1 ∙ ready.is_journal.is)

    pub closed-rests : NowOnly m Sealed (Begins (seals_of head history kept))
    closed-rests = subst (λ (l : List (List ℕ)). NowOnly m Sealed (Begins l)) taken (cuts.rests ready.sealed_synced)

    pub closed-seals : {observable : Type 0} → IsDisk observable m → observable → HasSeals m head history kept
    closed-seals disk tells = record {
      is_journal = record {
        is_head = ready.is_journal.is_head;
        lawful = ready.is_journal.lawful;
        is = (closed (m.content Journal) (disk.content tells Journal)).1;
      };
      archived = ready.is_kept.archived;
      seals = cuts.payloads ∙ taken;
    }

    -- The missing seals are made from m to t.
    module _ {observable : Type 0} (disk : IsDisk observable m) (tells : observable) (t : DiskState) where
      pub making-leaves : LeavesFirst s m head history kept → KeepsSeals m t → LeavesAlone m t Journal
          → LeavesFirst s t head history kept
      making-leaves first keeps alone =
          let P = λ (i : List ℕ). records i ≡ journal_of head history in
          record {
            journal = always_joins s m t Journal P first.journal (alone_leaves m t Journal P first.journal.now alone);
            sealed = always_joins s m t Sealed (HasFirst (seals_of head history kept)) first.sealed
                (keeps head history kept (closed-seals disk tells) closed-rests);
          }

      pub rebuilt : MakesAll m t → LeavesAlone m t Journal → IsRebuilt t head history kept
      rebuilt makes alone =
          let made = makes head history kept (closed-seals disk tells) in
          record {
            seals = made.seals;
            fit = made.fit;
            journal_rests = λ i may. closed i (alone.now i may);
            sealed_rests = made.rests closed-rests;
          }

      pub stopped : {T : Type 0} (fault : RepairFault)
          → ((size needed capacity : ℕ) → ◌≡◌ {A = Result T RepairFault} (Err fault) (Err (Full size needed capacity))
          → StopsWithoutRoom m t size needed capacity)
          → (◌≡◌ {A = Result T RepairFault} (Err fault) (Err NotInit) → IsNoHistory m)
          → ((area : Area) (index at : ℕ)
          → ◌≡◌ {A = Result T RepairFault} (Err fault) (Err (BadRecord area index at)) → IsNoHistory m)
          → IsRebuildFault t head history kept fault
      stopped NotInit full none bad = none refl head history (closed-seals disk tells).is_journal
      stopped (BadRecord area index at) full none bad =
          bad area index at refl head history (closed-seals disk tells).is_journal
      stopped (Full size needed capacity) full none bad =
          full size needed capacity refl head history kept (closed-seals disk tells)
      stopped DiskFault full none bad = tt
      stopped NoMemory full none bad = tt
