-- The answers of a store's documents to an address, and the state of a fetch of them afterwards.
use Rattle.std.specs.Prelude.{◌≡◌, ◌≢◌, ◌⊎◌, ◌≤◌, ℕ, true, false, List, Option, Some, Result, Err}
use Rattle.std.specs.Prelude.{if◌then◌else◌, bytes_eq, find, option_map}
use Rattle.atom_values.specs.Counts.{HasRisen, counted}
use Rattle.atom_writer.specs.Pieces.{text}
use Rattle.chain_links.specs.Address.{printed}
use Rattle.chain_links.specs.declared.address.Address.TheVariants.{Feed, Archive}
use Rattle.doc_source.specs.declared.fetch.GetFault.{GetFault}
use Rattle.doc_source.specs.declared.fetch.GetFault.TheVariants.{Failed}
use Rattle.feed_disk.specs.Disk.{DiskState}
use Rattle.feed_disk.specs.Moments.{LeavesAlone}
use Rattle.feed_disk.specs.declared.area.Area.{Area}
use Rattle.feed_recovery.specs.Opening.{seal_of}
use Rattle.feed_recovery.specs.Store.{StoreValue, is_spent}
use Rattle.member_rules.specs.Documents.{subscription}
use Rattle.member_rules.specs.Head.{HeadValue}
use Rattle.member_rules.specs.Windows.{windows_of}
use Rattle.member_rules.specs.declared.operation.Op.{Op}
use Rattle.mirror_walk.specs.Holding.{numbers_from}

-- the number of the sealed archive that has this address
unfoldable pub archive_number : HeadValue → List Op → List ℕ → Option ℕ
archive_number head history address =
    find (λ number. bytes_eq (printed head.name.base (Archive number)) address)
    (numbers_from (windows_of head history).sealed)

-- the subscription document at the feed's address, and each sealed archive at its own
unfoldable pub store_answers : HeadValue → List Op → List ℕ → Option (List ℕ)
store_answers head history address =
    if bytes_eq (printed head.name.base Feed) address
    then Some (text (subscription head history))
    else option_map (seal_of head history) (archive_number head history address)

-- the store, its disk, the addresses that were asked, in order, and how many calls failed without a device call
pub record StoreFetchValue (D : Type 0) : Type 0 where
  pub store : StoreValue
  pub disk : D
  pub asked : List (List ℕ)
  pub failures : ℕ

-- a call that didn't fail
pub record Worked {D : Type 0} (s t : DiskState) (before after : StoreFetchValue D) : Type 0 where
  pub spent : is_spent after.store ≡ is_spent before.store
  pub failures : after.failures ≡ before.failures
  pub faults : t.faults ≡ s.faults

-- a device call failed, which spent the store
pub record FailedByDisk {D : Type 0} (s t : DiskState) (before after : StoreFetchValue D) : Type 0 where
  pub unspent : is_spent before.store ≡ false
  pub spent : is_spent after.store ≡ true
  pub failures : after.failures ≡ before.failures
  pub later : s.faults ≤ t.faults
  pub rose : HasRisen s.faults t.faults

-- the store was spent, or the disk gave other bytes than a store has, which no disk does whose content contracts see
pub record FailedByStore {D : Type 0} (observable : Type 0) (s t : DiskState) (before after : StoreFetchValue D)
    : Type 0 where
  pub cause : (is_spent before.store ≡ true) ⊎ (¬ observable)
  pub spent : is_spent after.store ≡ is_spent before.store
  pub failures : after.failures ≡ counted before.failures
  pub faults : t.faults ≡ s.faults

-- A call of a fetch. The feed stays, and so does each area of the disk. Without `Failed` the counts of failures stay.
pub record Gets {D T : Type 0} (observable : Type 0) (s t : DiskState) (before after : StoreFetchValue D)
    (result : Result T GetFault) : Type 0 where
  pub head : after.store.head ≡ before.store.head
  pub history : after.store.history ≡ before.store.history
  pub areas : (a : Area) → LeavesAlone s t a
  pub worked : result ≢ Err Failed → Worked s t before after
  pub failed : result ≡ Err Failed → FailedByDisk s t before after ⊎ FailedByStore observable s t before after
