-- The answers of a relay to an address, and the state of a fetch of them afterwards.
use Rattle.std.specs.Prelude.{◌≡◌, ◌≢◌, ◌⊎◌, ◌≤◌, ℕ, true, false, List, Option, Result, Err}
use Rattle.std.specs.Prelude.{if◌then◌else◌, bytes_eq, find, option_map}
use Rattle.atom_values.specs.Counts.{HasRisen, counted}
use Rattle.atom_writer.specs.Pieces.{own_address, text}
use Rattle.chain_links.specs.Address.{printed}
use Rattle.chain_links.specs.declared.address.Address.TheVariants.{Feed}
use Rattle.doc_source.specs.declared.fetch.GetFault.{GetFault}
use Rattle.doc_source.specs.declared.fetch.GetFault.TheVariants.{Failed}
use Rattle.feed_disk.specs.Disk.{DiskState}
use Rattle.feed_disk.specs.Moments.{LeavesAlone}
use Rattle.feed_disk.specs.declared.area.Area.{Area}
use Rattle.mirror_walk.specs.Holding.{KeptValue, text_at}
use Rattle.mirror_walk.specs.Mirror.{MirrorValue, is_spent}

-- the first held document whose own address this is
unfoldable pub held_under : List ℕ → List KeptValue → List ℕ → Option KeptValue
held_under base kept address =
    find (λ (k : KeptValue). bytes_eq (printed base (own_address k.document.kind)) address) kept

-- the best subscription document at the feed's address, and each held archive at its own
unfoldable pub relay_answers : List ℕ → List KeptValue → List ℕ → Option (List ℕ)
relay_answers base kept address =
    if bytes_eq (printed base Feed) address
    then text_at kept Feed
    else option_map (λ (k : KeptValue). text k.document) (held_under base kept address)

-- the mirror, its disk, the base, the addresses that were asked, in order, and how many calls failed without a device
-- call
pub record RelayFetchValue (D : Type 0) : Type 0 where
  pub mirror : MirrorValue
  pub disk : D
  pub base : List ℕ
  pub asked : List (List ℕ)
  pub failures : ℕ

-- a call that didn't fail
pub record Worked {D : Type 0} (s t : DiskState) (before after : RelayFetchValue D) : Type 0 where
  pub spent : is_spent after.mirror ≡ is_spent before.mirror
  pub failures : after.failures ≡ before.failures
  pub faults : t.faults ≡ s.faults

-- a device call failed, which spent the mirror
pub record FailedByDisk {D : Type 0} (s t : DiskState) (before after : RelayFetchValue D) : Type 0 where
  pub unspent : is_spent before.mirror ≡ false
  pub spent : is_spent after.mirror ≡ true
  pub failures : after.failures ≡ before.failures
  pub later : s.faults ≤ t.faults
  pub rose : HasRisen s.faults t.faults

-- the mirror was spent, or the disk gave less than a document, which no disk does whose content contracts see
pub record FailedByMirror {D : Type 0} (observable : Type 0) (s t : DiskState) (before after : RelayFetchValue D)
    : Type 0 where
  pub cause : (is_spent before.mirror ≡ true) ⊎ (¬ observable)
  pub spent : is_spent after.mirror ≡ is_spent before.mirror
  pub failures : after.failures ≡ counted before.failures
  pub faults : t.faults ≡ s.faults

-- A call of a fetch. What the mirror holds stays, and so does each area of the disk. Without `Failed` the counts of
-- failures stay.
pub record Gets {D T : Type 0} (observable : Type 0) (s t : DiskState) (before after : RelayFetchValue D)
    (result : Result T GetFault) : Type 0 where
  pub base : after.base ≡ before.base
  pub kept : after.mirror.kept ≡ before.mirror.kept
  pub areas : (a : Area) → LeavesAlone s t a
  pub worked : result ≢ Err Failed → Worked s t before after
  pub failed : result ≡ Err Failed → FailedByDisk s t before after ⊎ FailedByMirror observable s t before after
