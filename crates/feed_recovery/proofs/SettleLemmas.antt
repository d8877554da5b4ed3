-- The images that a crash leaves of a store at rest, and while a commit appends a seal and an operation.
use Rattle.std.proofs.Common.{◌≡◌, inl, inr, ℕ, ◌≤◌, List, [], ◌∷◌, ◌++◌, length, refl, sym, ◌∙◌, ap, subst}
use Rattle.std.proofs.Common.{Result, Ok, Err, arith, length-append}
use Rattle.std.specs.Prelude.{OnOk}
use Rattle.std.proofs.Math.Seq.{take-append_seam, take-length}
use Rattle.atom_writer.specs.Pieced.{text_of}
use Rattle.feed_disk.specs.Disk.{DiskState, IsDisk}
use Rattle.feed_disk.specs.Moments.{AlwaysLeaves, LeavesAlone}
use Rattle.feed_disk.specs.declared.area.Area.TheVariants.{Journal, Sealed}
use Rattle.feed_disk.proofs.MomentLemmas.{alone_leaves, always_joins, always_weaker}
use Rattle.feed_journal.specs.Laws.{BegunAreWhole}
use Rattle.feed_journal.specs.Records.{HasFirst, records, Begins, IsStep, IsWhole}
use Rattle.feed_recovery.specs.Commit.{HasCommitted, IsSealing}
use Rattle.feed_recovery.specs.Opening.{Opens}
use Rattle.feed_recovery.specs.Settled.{AlwaysLeavesBoth, IsAtRest, OpensPast, Settled}
use Rattle.feed_recovery.specs.Store.{StoreValue, StandsFor, seal_count}
use Rattle.feed_recovery.proofs.BothLemmas.{both_always}
use Rattle.feed_recovery.proofs.LoadedLemmas.{opens_as}
use Rattle.feed_recovery.proofs.StoreLemmas.{opens_after}
use Rattle.member_rules.specs.Coding.{operations}
use Rattle.member_rules.specs.Head.{HeadValue}
use Rattle.member_rules.specs.History.{IsLawful}
use Rattle.member_rules.specs.Laws.{ArchivesStay, WindowsSealInTurn}
use Rattle.member_rules.specs.Windows.{windows_of}
use Rattle.member_rules.specs.declared.operation.Op.{Op}

-- two whole images that open to the whole list of operations
opens_all : (head : HeadValue) (history : List Op) (least : ℕ) (journal sealed : List ℕ) (seals : ℕ)
    → least ≤ length history → IsWhole journal → IsWhole sealed → Opens journal sealed head history seals
    → OpensPast head history least journal sealed
opens_all head history least journal sealed seals past whole whole' opens = record {
  journal_whole = whole;
  sealed_whole = whole';
  version = length history;
  at_least = past;
  at_most = omega arith;
  seals = seals;
  opens = subst (λ (l : List Op). Opens journal sealed head l seals) (sym (take-length history))
      opens;
}

-- or to all but the last one
opens_before : (head : HeadValue) (history : List Op) (operation : Op) (journal sealed : List ℕ) (seals : ℕ)
    → IsWhole journal → IsWhole sealed → Opens journal sealed head history seals
    → OpensPast head (history ++ operation ∷ []) (length history) journal sealed
opens_before head history operation journal sealed seals whole whole' opens = record {
  journal_whole = whole;
  sealed_whole = whole';
  version = length history;
  at_least = omega arith;
  at_most = omega (arith, length-append history (operation ∷ []));
  seals = seals;
  opens = subst (λ (l : List Op). Opens journal sealed head l seals)
      (sym (take-append_seam history (operation ∷ []))) opens;
}

-- a disk at rest is settled with all operations that it opens to
pub rest_settles : BegunAreWhole → (disk : DiskState) (head : HeadValue) (history : List Op) (seals : ℕ)
    → Opens (disk.content Journal) (disk.content Sealed) head history seals → IsAtRest disk
    → Settled disk head history (length history)
rest_settles law disk head history seals opens rests journal sealed may may' =
    let first = law (disk.content Journal) journal (rests.journal journal may) in
    let second = law (disk.content Sealed) sealed (rests.sealed sealed may') in
    opens_all head history (length history) journal sealed seals (omega arith) first.0 second.0
    (opens_as (disk.content Journal) (disk.content Sealed) journal sealed head history seals first.1 second.1 opens)

-- while a seal is appended
pub sealing_leaves : {observable : Type 0} → BegunAreWhole → (s t : DiskState) (store : StoreValue) (operation : Op)
    → IsDisk observable s → StandsFor s store → IsAtRest s → LeavesAlone s t Journal
    → AlwaysLeaves s t Sealed (IsSealing store.head store.history (records (s.content Sealed)))
    → AlwaysLeavesBoth s t (OpensPast store.head (store.history ++ operation ∷ []) (length store.history))
sealing_leaves law s t store operation disk stands rests alone run =
    both_always s t (Begins (records (s.content Journal)))
    (IsSealing store.head store.history (records (s.content Sealed)))
    (OpensPast store.head (store.history ++ operation ∷ []) (length store.history)) disk
    (alone_leaves s t Journal (Begins (records (s.content Journal))) rests.journal alone) run (λ i j begins sealing.
    let first = law (s.content Journal) i begins in
    opens_before store.head store.history operation i j (length (records j)) first.0 sealing.whole (record {
      is_journal = record {
        is_head = stands.opens.is_journal.is_head;
        lawful = stands.opens.is_journal.lawful;
        is = first.1 ∙ stands.opens.is_journal.is;
      };
      are_seals = sealing.are_seals;
      number = refl;
      count = sealing.count;
    }))

-- the seals that were there stay while a seal is appended
pub sealing_keeps : (s t : DiskState) (head : HeadValue) (history : List Op)
    → AlwaysLeaves s t Sealed (IsSealing head history (records (s.content Sealed)))
    → AlwaysLeaves s t Sealed (HasFirst (records (s.content Sealed)))
sealing_keeps s t head history run =
    always_weaker s t Sealed (IsSealing head history (records (s.content Sealed)))
    (HasFirst (records (s.content Sealed))) (λ i sealing. sealing.kept) run

-- and while an operation is appended after it
pub adding_keeps : (s m t : DiskState) (seals : List (List ℕ)) → AlwaysLeaves s m Sealed (HasFirst seals)
    → LeavesAlone m t Sealed → AlwaysLeaves s t Sealed (HasFirst seals)
adding_keeps s m t seals run alone =
    always_joins s m t Sealed (HasFirst seals) run (alone_leaves m t Sealed (HasFirst seals) run.now alone)

-- the operation was committed to the store as it was before the seal too
pub committed_since : {T E : Type 0} (result : Result T E) (operation : Op) (before mid after : StoreValue)
    → mid.history ≡ before.history → OnOk result (HasCommitted operation mid after)
    → OnOk result (HasCommitted operation before after)
committed_since (Ok value) operation before mid after same done = record {
  history = done.history ∙ ap (λ (l : List Op). l ++ operation ∷ []) same;
  unspent = done.unspent;
  sealed = done.sealed;
}
committed_since (Err fault) operation before mid after same done = tt

-- while an operation is appended, after the seal of each full window
module _ (begun_are : BegunAreWhole) (stay : ArchivesStay) (turn : WindowsSealInTurn) (store : StoreValue)
    (operation : Op) (full : seal_count store ≡ (windows_of store.head store.history).full)
    (lawful : IsLawful store.head (store.history ++ operation ∷ [])) where
  abbrev after : List Op
  after = store.history ++ operation ∷ []

  pub adding_leaves : {observable : Type 0} (s t : DiskState) → IsDisk observable s → StandsFor s store → IsAtRest s
      → LeavesAlone s t Sealed
      → AlwaysLeaves s t Journal (IsStep (records (s.content Journal)) (text_of operations operation))
      → AlwaysLeavesBoth s t (OpensPast store.head after (length store.history))
  adding_leaves s t disk stands rests alone run =
      both_always s t (IsStep (records (s.content Journal)) (text_of operations operation))
      (Begins (records (s.content Sealed))) (OpensPast store.head after (length store.history)) disk run
      (alone_leaves s t Sealed (Begins (records (s.content Sealed))) rests.sealed alone) (λ i j step begins.
      let second = begun_are (s.content Sealed) j begins in
      elim step.payloads [
        | inl same ↦ opens_before store.head store.history operation i j (seal_count store) step.whole
            second.0 (opens_as (s.content Journal) (s.content Sealed) i j store.head store.history (seal_count store)
            same second.1 stands.opens)
        | inr added ↦ opens_all store.head after (length store.history) i j (length (records j))
            (omega (arith, length-append store.history (operation ∷ []))) step.whole second.0
            (opens_after stay turn store operation full lawful s i j stands added second.1)
      ])
