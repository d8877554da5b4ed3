-- The sizes of a store's two logs.
use Rattle.std.proofs.Common.{◌≡◌, ℕ, zero, suc, ◌-◌, ◌<◌, ◌≤◌, List, [], ◌∷◌, ◌++◌, length, get_or, take, refl}
use Rattle.std.proofs.Common.{sym, ◌∙◌, ap, subst, arith}
use Rattle.std.specs.Prelude.{Some, slice_get}
use Rattle.std.proofs.Math.Seq.{take-length, take-suc}
use Rattle.std.proofs.lemmas.Option.{slice_get-get_or}
use Rattle.feed_disk.specs.Disk.{DiskState}
use Rattle.feed_disk.specs.declared.area.Area.TheVariants.{Journal, Sealed}
use Rattle.feed_journal.specs.Log.{IsLog}
use Rattle.feed_journal.specs.Records.{records, size_of}
use Rattle.feed_journal.proofs.ListLemmas.{is_size}
use Rattle.feed_recovery.specs.Opening.{AreSeals, Opens, journal_of, seal_of}
use Rattle.feed_recovery.specs.Store.{StandsFor, StoreValue, seal_count}
use Rattle.feed_recovery.specs.Stored.{IsSized, seals_of}
use Rattle.member_rules.specs.Head.{HeadValue}
use Rattle.member_rules.specs.declared.operation.Op.{Op}

-- the first seals of a history are the payloads
seals-taken : (head : HeadValue) (history : List Op) (payloads : List (List ℕ)) → AreSeals head history payloads
    → (number : ℕ) → number ≤ length payloads → take number payloads ≡ seals_of head history number
seals-taken head history payloads are zero within = refl
seals-taken head history payloads are (suc number) within =
    let seal = seal_of head history (suc number) in
    let back : suc number - 1 ≡ number = omega arith in
    let there : slice_get payloads number ≡ Some seal =
    subst (λ (n : ℕ). slice_get payloads n ≡ Some seal) back (are (suc number) (omega arith) within) in
    let inside : number < length payloads = omega arith in
    let read : slice_get payloads number ≡ Some (get_or payloads number seal) =
    slice_get-get_or payloads number seal inside in
    let is : get_or payloads number seal ≡ seal = cc in
    take-suc payloads number seal inside
    ∙ ap (λ (p : List ℕ). take number payloads ++ p ∷ []) is
    ∙ ap (λ (ps : List (List ℕ)). ps ++ seal ∷ []) (seals-taken head history payloads are number (omega arith))

pub opened-seals : (journal sealed : List ℕ) (head : HeadValue) (history : List Op) (seals : ℕ)
    → Opens journal sealed head history seals → records sealed ≡ seals_of head history seals
opened-seals journal sealed head history seals o =
    sym (take-length (records sealed))
    ∙ seals-taken head history (records sealed) o.are_seals (length (records sealed)) (omega arith)
    ∙ ap (seals_of head history) o.number

module _ (disk : DiskState) (store : StoreValue) (stands : StandsFor disk store) where
  pub journal-size : IsLog store.journal → store.journal.size ≡ size_of (journal_of store.head store.history)
  journal-size log =
      is_size store.journal.extents store.journal.size (disk.content Journal) log.follow stands.journal.list
      stands.journal.long
      ∙ ap size_of stands.opens.is_journal.is

  pub seals-size : IsLog store.seals
      → store.seals.size ≡ size_of (seals_of store.head store.history (seal_count store))
  seals-size log =
      is_size store.seals.extents store.seals.size (disk.content Sealed) log.follow stands.seals.list stands.seals.long
      ∙ ap size_of (opened-seals _ _ store.head store.history (seal_count store) stands.opens)

  pub is_sized : IsLog store.journal × IsLog store.seals → IsSized store
  is_sized logs = record { journal = journal-size logs.0; seals = seals-size logs.1 }
