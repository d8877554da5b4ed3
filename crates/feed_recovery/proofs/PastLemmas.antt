-- The images that a run of device calls leaves of a store to which operations are added.
use Rattle.std.proofs.Common.{◌≡◌, ℕ, ◌≤◌, List, [], ◌∷◌, ◌++◌, length, take, sym, subst, arith}
use Rattle.std.proofs.Common.{length-append}
use Rattle.std.proofs.lemmas.List.{take-append-le}
use Rattle.feed_disk.specs.Disk.{DiskState, IsDisk}
use Rattle.feed_disk.specs.Moments.{LeavesAlone}
use Rattle.feed_disk.specs.declared.area.Area.TheVariants.{Journal, Sealed}
use Rattle.feed_disk.proofs.MomentLemmas.{both_leave, both_weaker, leaves_begin}
use Rattle.feed_recovery.specs.Opening.{Opens, OpensInOneWay}
use Rattle.feed_recovery.specs.Settled.{AlwaysLeavesBoth, AreWhole, NowBoth, OpensPast, Settled}
use Rattle.feed_recovery.specs.Stored.{OpensTo, Stored}
use Rattle.feed_recovery.proofs.BothLemmas.{both_joins}
use Rattle.member_rules.specs.Head.{HeadValue}
use Rattle.member_rules.specs.declared.operation.Op.{Op}

-- no call is made
pub both_stay : {observable : Type 0} (s : DiskState) (P : List ℕ → List ℕ → Type 0) → IsDisk observable s → NowBoth s P
    → AlwaysLeavesBoth s s P
both_stay s P disk held = record {
  moments = record {
    first = leaves_begin s Journal (λ _ _. Unit {0});
    second = leaves_begin s Sealed (λ _ _. Unit {0});
    each = λ below c i j inside may may'. absurd (omega (arith, inside, disk.begun Journal c i may));
  };
  now = held;
}

pub both_weaken : (s t : DiskState) (P Q : List ℕ → List ℕ → Type 0) → ((i j : List ℕ) → P i j → Q i j)
    → AlwaysLeavesBoth s t P → AlwaysLeavesBoth s t Q
both_weaken s t P Q to run = record {
  moments = both_weaker s t Journal Sealed (λ _. P) (λ _. Q) (λ c i j holds. to i j holds) run.moments;
  now = λ i j may may'. to i j (run.now i j may may');
}

-- a run that leaves both areas alone
pub both_alone : {observable : Type 0} (s t : DiskState) (P : List ℕ → List ℕ → Type 0) → IsDisk observable s
    → LeavesAlone s t Journal → LeavesAlone s t Sealed → NowBoth s P → AlwaysLeavesBoth s t P
both_alone s t P disk journal sealed held = record {
  moments = both_leave s t Journal Sealed (λ _. s.image_now Journal) (λ _. s.image_now Sealed) (λ _. P) disk
      journal.leaves sealed.leaves (λ c i j may may'. held i j may may');
  now = λ i j may may'. held i j (journal.now i may) (sealed.now j may');
}

-- A history to which an operation is added

taken-same : (history : List Op) (operation : Op) (version : ℕ) → version ≤ length history
    → take version history ≡ take version (history ++ operation ∷ [])
taken-same history operation version within = sym (take-append-le version history (operation ∷ []) within)

pub past-more : (head : HeadValue) (history : List Op) (operation : Op) (least : ℕ) (journal sealed : List ℕ)
    → OpensPast head history least journal sealed
    → OpensPast head (history ++ operation ∷ []) least journal sealed
past-more head history operation least journal sealed past = record {
  journal_whole = past.journal_whole;
  sealed_whole = past.sealed_whole;
  version = past.version;
  at_least = past.at_least;
  at_most = omega (arith, past.at_most, length-append history (operation ∷ []));
  seals = past.seals;
  opens = subst (λ (h : List Op). Opens journal sealed head h past.seals)
      (taken-same history operation past.version past.at_most) past.opens;
}

pub past-less : (head : HeadValue) (history : List Op) (least less : ℕ) (journal sealed : List ℕ) → less ≤ least
    → OpensPast head history least journal sealed → OpensPast head history less journal sealed
past-less head history least less journal sealed below past = record {
  journal_whole = past.journal_whole;
  sealed_whole = past.sealed_whole;
  version = past.version;
  at_least = omega (arith, below, past.at_least);
  at_most = past.at_most;
  seals = past.seals;
  opens = past.opens;
}

-- one operation more
pub leaves-more : (s m t : DiskState) (head : HeadValue) (history : List Op) (operation : Op) (least : ℕ)
    → least ≤ length history → AlwaysLeavesBoth s m (OpensPast head history least)
    → AlwaysLeavesBoth m t (OpensPast head (history ++ operation ∷ []) (length history))
    → AlwaysLeavesBoth s t (OpensPast head (history ++ operation ∷ []) least)
leaves-more s m t head history operation least grown first second =
    both_joins s m t (OpensPast head (history ++ operation ∷ []) least)
    (both_weaken s m (OpensPast head history least) (OpensPast head (history ++ operation ∷ []) least)
    (past-more head history operation least) first)
    (both_weaken m t (OpensPast head (history ++ operation ∷ []) (length history))
    (OpensPast head (history ++ operation ∷ []) least)
    (λ i j. past-less head (history ++ operation ∷ []) (length history) least i j grown) second)

-- A settled disk

-- the content of a disk that leaves only stores is whole
pub settled-whole : {observable : Type 0} (s : DiskState) (head : HeadValue) (operations : List Op) (least : ℕ)
    → IsDisk observable s → observable → Settled s head operations least → AreWhole s
settled-whole s head operations least disk tells settled =
    let past = settled (s.content Journal) (s.content Sealed) (disk.content tells Journal)
    (disk.content tells Sealed) in
    record { journal = past.journal_whole; sealed = past.sealed_whole }

-- the store that the content opens to has the head of a settled disk
pub settled-head : {observable : Type 0} (s : DiskState) (head : HeadValue) (operations : List Op) (least : ℕ)
    → IsDisk observable s → observable → OpensInOneWay → Settled s head operations least → (stored : Stored)
    → OpensTo s.content stored → stored.head ≡ head
settled-head s head operations least disk tells one settled stored opens =
    let past = settled (s.content Journal) (s.content Sealed) (disk.content tells Journal)
    (disk.content tells Sealed) in
    (one (s.content Journal) (s.content Sealed) stored.head head stored.history (take past.version operations)
    stored.seals past.seals opens past.opens).0
