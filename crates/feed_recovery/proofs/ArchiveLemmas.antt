-- The seal of an archive that a store reads.
use Rattle.std.proofs.Common.{◌≡◌, ⊎_elim, ℕ, ◌-◌, ◌≤◌, List, Some, sym, ◌∙◌, arith}
use Rattle.std.specs.Prelude.{slice_get}
use Rattle.feed_journal.specs.Records.{records}
use Rattle.feed_recovery.proofs.FaultLemmas.{some_same}
use Rattle.feed_recovery.specs.Documents.{sealed_count}
use Rattle.feed_recovery.specs.Opening.{Opens, seal_of}
use Rattle.feed_recovery.specs.Store.{KeepsStore, StoreValue, seal_count}
use Rattle.member_rules.proofs.CutLemmas.{windows-sealed}

-- each sealed archive has its seal
pub sealed-within : (store : StoreValue) → KeepsStore store → (number : ℕ) → number ≤ sealed_count store
    → number ≤ seal_count store
sealed-within store keeps number within = ⊎_elim (λ sealed. omega (arith, sealed, within))
    (λ full. omega (arith, full, within, (windows-sealed store.head store.history keeps.head).full)) keeps.seals

pub seal-read : (store : StoreValue) → KeepsStore store → (journal sealed : List ℕ) (number : ℕ) (written : List ℕ)
    → Opens journal sealed store.head store.history (seal_count store) → 1 ≤ number → number ≤ sealed_count store
    → slice_get (records sealed) (number - 1) ≡ Some written → written ≡ seal_of store.head store.history number
seal-read store keeps journal sealed number written opens from_one within found =
    some_same written (seal_of store.head store.history number)
    (sym found ∙ opens.are_seals number from_one
    (omega (arith, opens.number, sealed-within store keeps number within)))
