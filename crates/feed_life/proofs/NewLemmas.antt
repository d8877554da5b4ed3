-- A life without operations.
use Rattle.std.proofs.Common.{◌≡◌, inl, ℕ, ◌≤◌, List, [], ◌∷◌, All, length, map, refl, sym, subst, arith, false}
use Rattle.std.specs.List.{AllZip}
use Rattle.std.proofs.lemmas.List.Elements.{All-head, All-nil, All-tail}
use Rattle.feed_disk.specs.AreaRecord.{MayLeave}
use Rattle.feed_disk.specs.Memory.{MemoryValue, state_of}
use Rattle.feed_journal.specs.Records.{IsWhole}
use Rattle.feed_life.specs.Life.{IsMirrorOf, IsSentBy, IsStoreOf, Lives, empty_disk}
use Rattle.feed_life.specs.declared.sent.SentDoc.{SentDoc}
use Rattle.feed_recovery.specs.Settled.{IsUnused, Unused}
use Rattle.member_rules.specs.Head.{HeadValue, IsHead}
use Rattle.member_rules.specs.Laws.{SealedAreFull}
use Rattle.member_rules.specs.Served.{Served}
use Rattle.member_rules.specs.declared.operation.Op.{Op}
use Rattle.mirror_walk.specs.Mirror.{LoadsTo}
use Rattle.mirror_walk.specs.Offers.{Offering}

none-long : (image : List ℕ) → length image ≤ 0 → image ≡ []
none-long [] short = refl
none-long (byte ∷ image) short = absurd (omega arith)

-- the one image of an area without content
empty-image : (image : List ℕ) → MayLeave [] [] image → image ≡ []
empty-image image may = none-long image may.no_longer

empty-whole : IsWhole []
empty-whole = inl (omega arith)

pub empty-unused : Unused (state_of empty_disk)
empty-unused journal sealed first second =
    subst (λ (j : List ℕ). IsUnused j sealed) (sym (empty-image journal first))
    (subst (λ (s : List ℕ). IsUnused [] s) (sym (empty-image sealed second)) record {
      journal_whole = empty-whole;
      sealed_whole = empty-whole;
      no_records = refl;
      no_seals = refl;
    })

empty-mirror : (head : HeadValue) (history : List Op) → IsMirrorOf head history empty_disk []
empty-mirror head history = record {
  loads = λ image may. subst (λ (i : List ℕ). LoadsTo head.name.base [] i) (sym (empty-image image may)) record {
    whole = empty-whole;
    loaded = record { payloads = refl; taken = refl };
  };
  served = All-nil (λ (offer : Offering). Served head history offer.address offer.bytes);
}

-- mirrors on such disks hold nothing
pub empty-mirrors : (head : HeadValue) (history : List Op) (disks : List MemoryValue)
    → All (λ (disk : MemoryValue). disk ≡ empty_disk) disks
    → AllZip (IsMirrorOf head history) disks (map (λ _. []) disks)
empty-mirrors head history [] all = tt
empty-mirrors head history (disk ∷ disks) all = (
  subst (λ (d : MemoryValue). IsMirrorOf head history d [])
      (sym (All-head (λ (d : MemoryValue). d ≡ empty_disk) disk disks all)) (empty-mirror head history),
  empty-mirrors head history disks (All-tail (λ (d : MemoryValue). d ≡ empty_disk) disk disks all),
)

-- a new life
pub new-lives : (head : HeadValue) (disk : MemoryValue) (mirrors : List MemoryValue) (sent : List SentDoc) → IsHead head
    → SealedAreFull → IsStoreOf head [] disk → All (λ (d : MemoryValue). d ≡ empty_disk) mirrors → sent ≡ []
    → Lives (record {
      head = head;
      disk = disk;
      mirrors = mirrors;
      sent = sent;
      version = 0;
      sealed = 0;
      stops = 0;
      mirror_stops = 0;
      lost = false;
    }) [] (map (λ _. []) mirrors)
new-lives head disk mirrors sent is_head full store empty none =
    let windows = full head [] is_head in
    record {
      store = store;
      version = refl;
      sealed = omega (arith, windows.full, windows.few);
      sent = subst (λ (docs : List SentDoc). All (IsSentBy head []) docs) (sym none) (All-nil (IsSentBy head []));
      mirrors = empty-mirrors head [] mirrors empty;
    }
