-- The seals of a history, before and after one more seal or one more operation.
use Rattle.std.proofs.Common.{◌≡◌, inl, inr, ℕ, ◌+◌, ◌-◌, ◌≤◌, List, [], ◌∷◌, ◌++◌, length, take, Some}
use Rattle.std.proofs.Common.{sym, ◌∙◌, ap, subst, arith, length-append}
use Rattle.std.specs.Prelude.{slice_get}
use Rattle.std.proofs.Math.Seq.{take-append_seam}
use Rattle.std.proofs.lemmas.Bool.{cases_lt, cases_eq}
use Rattle.atom_writer.specs.Pieces.{text}
use Rattle.feed_recovery.specs.Opening.{AreSeals, IsSealCount, seal_of}
use Rattle.feed_recovery.specs.Prepare.{IsMissing}
use Rattle.feed_recovery.specs.Store.{StoreValue, seal_count}
use Rattle.member_rules.specs.Documents.{archive}
use Rattle.member_rules.specs.Head.{HeadValue}
use Rattle.member_rules.specs.Laws.{ArchivesStay, HasSealed}
use Rattle.member_rules.specs.Windows.{windows_of}
use Rattle.member_rules.specs.declared.operation.Op.{Op}
use Rattle.member_rules.proofs.FoldLemmas.{get-push, get-push-other}

pub seals-push : (head : HeadValue) (history : List Op) (payloads : List (List ℕ)) (seal : List ℕ)
    → AreSeals head history payloads → seal ≡ seal_of head history (length payloads + 1)
    → AreSeals head history (payloads ++ seal ∷ [])
seals-push head history payloads seal are is number one within = elim (cases_lt (number - 1) (length payloads)) [
  | inl inside ↦ get-push-other payloads seal (number - 1) inside ∙ are number one (omega arith)
  | inr past ↦
      let last : number - 1 ≡ length payloads = omega (arith, length-append payloads (seal ∷ [])) in
      let next : length payloads + 1 ≡ number = omega (arith, last) in
      ap (slice_get (payloads ++ seal ∷ [])) last ∙ get-push payloads seal ∙ ap (λ (l : List ℕ). Some l) is
      ∙ ap (λ (n : ℕ). Some (seal_of head history n)) next
]

-- the seal of a full window is the same after the next operation
pub seal-stays : ArchivesStay → (head : HeadValue) (history : List Op) (operation : Op) (number : ℕ)
    → number ≤ (windows_of head history).full
    → seal_of head history number ≡ seal_of head (history ++ operation ∷ []) number
seal-stays stay head history operation number within =
    let after = history ++ operation ∷ [] in
    let prefix : take (length history) after ≡ history = take-append_seam history (operation ∷ []) in
    let full : number ≤ (windows_of head (take (length history) after)).full =
    subst (λ (l : List Op). number ≤ (windows_of head l).full) (sym prefix) within in
    ap text (subst (λ (l : List Op). archive head l number ≡ archive head after number) prefix
    (stay head after (length history) number (omega (arith, length-append history (operation ∷ []))) full))

pub seals-stay : ArchivesStay → (head : HeadValue) (history : List Op) (operation : Op) (payloads : List (List ℕ))
    → length payloads ≤ (windows_of head history).full → AreSeals head history payloads
    → AreSeals head (history ++ operation ∷ []) payloads
seals-stay stay head history operation payloads few are number one within =
    are number one within
    ∙ ap (λ (l : List ℕ). Some l) (seal-stays stay head history operation number (omega (arith, within, few)))

-- where no seal is due, each full window has its seal
pub none_due : (store : StoreValue) → IsSealCount store.head store.history (seal_count store)
    → (IsMissing store → ⊥) → seal_count store ≡ (windows_of store.head store.history).full
none_due store (inr full) due = full
none_due store (inl sealed) due =
    elim (cases_eq (windows_of store.head store.history).full (windows_of store.head store.history).sealed) [
      | inl same ↦ sealed ∙ sym same
      | inr other ↦ absurd (due (other, sealed))
    ]

-- where a seal is due, it is the one of the newest full window
pub one_due : (store : StoreValue) → HasSealed (windows_of store.head store.history) (length store.history)
    → IsMissing store → seal_count store + 1 ≡ (windows_of store.head store.history).full
one_due store sealed due = omega (arith, due.0, due.1, sealed.full, sealed.all_but_one)
