-- `mirror --fetch`: its answer to the documents of a source and to those that it held.
use Rattle.std.specs.Prelude.{◌≡◌, ◌⊎◌, ℕ, List, Bool, Option}
use Rattle.chain_links.specs.declared.address.Address.{Address}
use Rattle.mirror_walk.specs.Holding.{KeptValue}
use Rattle.mirror_walk.specs.Walk.{IsWalked, WalkEnding, WalkSetting, WalksFromFeed}
use Rattle.mirror_walk.specs.Walk.WalkEnding.{nothing_wanted, not_there, refused, fetch_failed, filled}
use Rattle.mirror_walk.specs.Walk.WalkEnding.{cut_short, disk_failed}
use Rattle.mirror_walk.specs.declared.answer.Accepted.{Accepted}
use Rattle.mirror_walk.specs.declared.walk.Walked.{Walked}
use Rattle.command_ends.specs.Answer.{Answer}
use Rattle.command_ends.specs.Fault.{fault_answer}
use Rattle.mirror_commands.specs.MirrorFaults.{full_fault}
use Rattle.mirror_commands.specs.Report.{walk_report}

abbrev pub walk_setting : ℕ → List ℕ → (List ℕ → Option (List ℕ)) → WalkSetting
walk_setting capacity base answers = record { base = base; capacity = capacity; answers = answers }

-- the walk came to an end without a fault
abbrev pub IsOver : WalkEnding → Type 0
IsOver nothing_wanted = Unit {0}
IsOver not_there = Unit {0}
IsOver (refused why) = Unit {0}
IsOver fetch_failed = ⊥
IsOver (filled size needed capacity) = ⊥
IsOver disk_failed = ⊥
IsOver cut_short = ⊥

-- How a walk ended. If there is a report, it ended without a fault. If a call of the source failed, the walk ended with
-- that call. If a device call failed, that was while the walk's last document was taken, or after the walk's end.
pub record EndsWalk (reported source_failed device_failed : Type 0) (ending : WalkEnding) : Type 0 where
  pub over : reported → IsOver ending
  pub at_source : source_failed → ending ≡ fetch_failed
  pub at_device : device_failed → (ending ≡ disk_failed) ⊎ IsOver ending

-- the answer is the report, or else the certificate, of a mirror that held `kept` before its walk
pub record IsWalkReport (report : Bool) (capacity : ℕ) (base : List ℕ) (kept : List KeptValue)
    (answers : List ℕ → Option (List ℕ)) (given : Answer) : Type 0 where
  pub asked : List Address
  pub accepted : List Accepted
  pub left : List KeptValue
  pub ending : WalkEnding
  pub walks : WalksFromFeed (walk_setting capacity base answers) kept asked accepted left ending
  pub walked : Walked
  pub is_walked : IsWalked asked accepted left ending walked
  pub is : given ≡ walk_report report base walked left

-- the last document of the walk is to be taken and doesn't fit; those before it fitted
pub record IsWalkFilled (capacity : ℕ) (base : List ℕ) (kept : List KeptValue)
    (answers : List ℕ → Option (List ℕ)) (given : Answer) : Type 0 where
  pub asked : List Address
  pub accepted : List Accepted
  pub left : List KeptValue
  pub size : ℕ
  pub needed : ℕ
  pub walks : WalksFromFeed (walk_setting capacity base answers) kept asked accepted left (filled size needed capacity)
  pub is : given ≡ fault_answer (full_fault size needed capacity)

-- how `mirror --fetch` ends by the documents of the source
abbrev pub IsFetched : Bool → ℕ → List ℕ → List KeptValue → (List ℕ → Option (List ℕ)) → Answer → Type 0
IsFetched report capacity base kept answers given =
    IsWalkReport report capacity base kept answers given ⊎ IsWalkFilled capacity base kept answers given
