-- The images that a crash leaves of a store that is loaded.
use Rattle.std.proofs.Common.{◌≡◌, ◌≢◌, ℕ, ◌+◌, min, List, length, take, refl, sym, ◌∙◌, ap, subst, arith}
use Rattle.atom_values.specs.Counts.{counter_limit}
use Rattle.feed_disk.specs.Disk.{DiskState, IsDisk}
use Rattle.feed_disk.specs.Moments.{AlwaysLeaves, LeavesAlone, NowOnly}
use Rattle.feed_disk.specs.declared.area.Area.{Area}
use Rattle.feed_disk.specs.declared.area.Area.TheVariants.{Journal, Sealed, Mirror}
use Rattle.feed_disk.proofs.MomentLemmas.{alone_joins, alone_leaves, always_joins, always_weaker}
use Rattle.feed_journal.specs.Log.{IsSynced, MakesCalls, MakesSome}
use Rattle.feed_journal.specs.Records.{records, Begins, IsClosed, IsWhole, StandsFor as ImageStandsFor}
use Rattle.feed_journal.proofs.CallLemmas.{calls_then}
use Rattle.feed_recovery.specs.Loading.{OnlyReads}
use Rattle.feed_recovery.specs.Opening.{AreSeals, IsJournal, Opens}
use Rattle.feed_recovery.specs.Settled.{AlwaysLeavesBoth, AreWhole, IsAtRest, KeepsPayloads, LeavesStores, OpensPast}
use Rattle.feed_recovery.specs.Settled.{Settled}
use Rattle.feed_recovery.proofs.BothLemmas.{both_always}
use Rattle.member_rules.specs.Head.{HeadValue}
use Rattle.member_rules.specs.declared.operation.Op.{Op}

-- images with the payloads of two others open as those do
pub opens_as : (journal sealed i j : List ℕ) (head : HeadValue) (history : List Op) (seals : ℕ)
    → records i ≡ records journal → records j ≡ records sealed → Opens journal sealed head history seals
    → Opens i j head history seals
opens_as journal sealed i j head history seals first second opens = record {
  is_journal = subst (λ (l : List (List ℕ)). IsJournal l head history) (sym first) opens.is_journal;
  are_seals = subst (AreSeals head history) (sym second) opens.are_seals;
  number = ap length second ∙ opens.number;
  count = opens.count;
}

past_as : (head : HeadValue) (history : List Op) (least : ℕ) (images sealed : List ℕ → Type 0)
    → ((i j : List ℕ) → images i → sealed j → OpensPast head history least i j) → (i j : List ℕ)
    → ImageStandsFor images i → ImageStandsFor sealed j → OpensPast head history least i j
past_as head history least images sealed all i j first second =
    let past = all first.of second.of first.among second.among in
    record {
      journal_whole = first.whole past.journal_whole;
      sealed_whole = second.whole past.sealed_whole;
      version = past.version;
      at_least = past.at_least;
      at_most = past.at_most;
      seals = past.seals;
      opens = opens_as first.of second.of i j head (take past.version history) past.seals first.payloads second.payloads
          past.opens;
    }

-- an area that is left alone keeps its own images
pub alone_stands : (s t : DiskState) (a : Area) → LeavesAlone s t a
    → AlwaysLeaves s t a (ImageStandsFor (s.image_now a))
alone_stands s t a alone = alone_leaves s t a (ImageStandsFor (s.image_now a))
    (λ i may. record { of = i; among = may; payloads = refl; whole = λ whole. whole }) alone

-- an area that is loaded after it was left alone
pub stands_after : (s m t : DiskState) (a : Area) → LeavesAlone s m a
    → AlwaysLeaves m t a (ImageStandsFor (m.image_now a)) → AlwaysLeaves s t a (ImageStandsFor (s.image_now a))
stands_after s m t a alone run = always_joins s m t a (ImageStandsFor (s.image_now a)) (alone_stands s m a alone)
    (always_weaker m t a (ImageStandsFor (m.image_now a)) (ImageStandsFor (s.image_now a)) (λ i stands. record {
      of = stands.of;
      among = alone.now stands.of stands.among;
      payloads = stands.payloads;
      whole = stands.whole;
    }) run)

-- an area that is left alone after it was loaded
pub stands_before : (s m t : DiskState) (a : Area) → AlwaysLeaves s m a (ImageStandsFor (s.image_now a))
    → LeavesAlone m t a → AlwaysLeaves s t a (ImageStandsFor (s.image_now a))
stands_before s m t a run alone = always_joins s m t a (ImageStandsFor (s.image_now a)) run
    (alone_leaves m t a (ImageStandsFor (s.image_now a)) run.now alone)

-- both areas have images with the payloads that they could have before
pub settled_stays : {observable : Type 0} (s t : DiskState) (head : HeadValue) (history : List Op) (least : ℕ)
    → IsDisk observable s → AlwaysLeaves s t Journal (ImageStandsFor (s.image_now Journal))
    → AlwaysLeaves s t Sealed (ImageStandsFor (s.image_now Sealed)) → Settled s head history least
    → AlwaysLeavesBoth s t (OpensPast head history least)
settled_stays s t head history least disk first second settled =
    both_always s t (ImageStandsFor (s.image_now Journal)) (ImageStandsFor (s.image_now Sealed))
    (OpensPast head history least) disk first second
    (past_as head history least (s.image_now Journal) (s.image_now Sealed) settled)

-- so a disk that was settled stays so
pub payloads-leave : {observable : Type 0} (s t : DiskState) → IsDisk observable s → KeepsPayloads s t → LeavesStores s t
payloads-leave s t disk kept = λ head history least settled.
    settled_stays s t head history least disk kept.journal kept.sealed settled

-- calls that only read keep the payloads, and so do they after others that do
pub alone-payloads : (s t : DiskState) → LeavesAlone s t Journal → LeavesAlone s t Sealed → KeepsPayloads s t
alone-payloads s t first second =
    record { journal = alone_stands s t Journal first; sealed = alone_stands s t Sealed second }

pub payloads-then-alone : (s m t : DiskState) → KeepsPayloads s m → LeavesAlone m t Journal → LeavesAlone m t Sealed
    → KeepsPayloads s t
payloads-then-alone s m t kept first second = record {
  journal = stands_before s m t Journal kept.journal first;
  sealed = stands_before s m t Sealed kept.sealed second;
}

pub alone-then-payloads : (s m t : DiskState) → LeavesAlone s m Journal → LeavesAlone s m Sealed → KeepsPayloads m t
    → KeepsPayloads s t
alone-then-payloads s m t first second kept = record {
  journal = stands_after s m t Journal first kept.journal;
  sealed = stands_after s m t Sealed second kept.sealed;
}

-- each image of an area begins with the payloads that are read, after a run that leaves the area alone too
pub begins_still : (s t : DiskState) (a : Area) → LeavesAlone s t a → NowOnly s a (Begins (records (s.content a)))
    → NowOnly t a (Begins (records (t.content a)))
begins_still s t a alone begins i may =
    subst (λ (l : List ℕ). Begins (records l) i) (sym alone.content) (begins i (alone.now i may))

pub sealed_journal : Sealed ≢ Journal
sealed_journal same = cc

pub journal_sealed : Journal ≢ Sealed
journal_sealed same = cc

pub mirror_journal : Mirror ≢ Journal
mirror_journal same = cc

pub mirror_sealed : Mirror ≢ Sealed
mirror_sealed same = cc

-- the journal is loaded from s to m, and the sealed area from m to t; what comes then only reads
module _ (s m t u : DiskState) (first : (a : Area) → a ≢ Journal → LeavesAlone s m a)
    (second : (a : Area) → a ≢ Sealed → LeavesAlone m t a) where
  pub mirror_alone : OnlyReads t u → LeavesAlone s u Mirror
  mirror_alone reads = alone_joins s t u Mirror
      (alone_joins s m t Mirror (first Mirror mirror_journal) (second Mirror mirror_sealed)) (reads.areas Mirror)

  pub journal_stands : OnlyReads t u → AlwaysLeaves s m Journal (ImageStandsFor (s.image_now Journal))
      → AlwaysLeaves s u Journal (ImageStandsFor (s.image_now Journal))
  journal_stands reads run = stands_before s t u Journal
      (stands_before s m t Journal run (second Journal journal_sealed)) (reads.areas Journal)

  pub sealed_stands : OnlyReads t u → AlwaysLeaves m t Sealed (ImageStandsFor (m.image_now Sealed))
      → AlwaysLeaves s u Sealed (ImageStandsFor (s.image_now Sealed))
  sealed_stands reads run = stands_before s t u Sealed
      (stands_after s m t Sealed (first Sealed sealed_journal) run) (reads.areas Sealed)

  pub both-payloads : OnlyReads t u → AlwaysLeaves s m Journal (ImageStandsFor (s.image_now Journal))
      → AlwaysLeaves m t Sealed (ImageStandsFor (m.image_now Sealed)) → KeepsPayloads s u
  both-payloads reads run run' = record { journal = journal_stands reads run; sealed = sealed_stands reads run' }

  module _ (same : records (m.content Journal) ≡ records (s.content Journal))
      (same' : records (t.content Sealed) ≡ records (m.content Sealed)) where
    pub journal_same : records (t.content Journal) ≡ records (s.content Journal)
    journal_same = ap records (second Journal journal_sealed).content ∙ same

    pub sealed_same : records (t.content Sealed) ≡ records (s.content Sealed)
    sealed_same = same' ∙ ap records (first Sealed sealed_journal).content

    pub all_same : OnlyReads t u → (a : Area) → records (u.content a) ≡ records (s.content a)
    all_same reads Journal = ap records (reads.areas Journal).content ∙ journal_same
    all_same reads Sealed = ap records (reads.areas Sealed).content ∙ sealed_same
    all_same reads Mirror = ap records (mirror_alone reads).content

  pub loaded_rests : OnlyReads t u → IsSynced m Journal → (IsWhole (s.content Journal) → IsClosed (m.content Journal))
      → (IsClosed (u.content Journal) → Begins (records (u.content Journal)) (u.content Journal))
      → (IsWhole (m.content Sealed) → NowOnly t Sealed (Begins (records (t.content Sealed))))
      → AreWhole s → IsAtRest u
  loaded_rests reads synced closed begins rests whole =
      let alone = alone_joins m t u Journal (second Journal journal_sealed) (reads.areas Journal) in
      record {
        journal = λ i may. subst (Begins (records (u.content Journal)))
            (alone.content ∙ sym (synced i (alone.now i may)))
            (begins (subst IsClosed (sym alone.content) (closed whole.journal)));
        sealed = begins_still t u Sealed (reads.areas Sealed)
            (rests (subst IsWhole (sym (first Sealed sealed_journal).content) whole.sealed));
      }

-- the device calls of two loads, and of what comes then
pub loaded_calls : (s m t u : DiskState) (a b c n k : ℕ) → MakesCalls s m 0 a n → MakesCalls m t 0 b k
    → MakesSome t u (min (a + b) counter_limit) c → (n : ℕ) × MakesCalls s u 0 c n
loaded_calls s m t u a b c n k first second then =
    calls_then s t u 0 (min (a + b) counter_limit) c (n + k) (record {
      clock = omega (arith, first.clock, second.clock);
      calls = omega (arith, first.calls, second.calls);
    }) then
