-- The two areas after their gates were closed.
use Rattle.std.proofs.Common.{◌≡◌, ⊎_elim, true, false, ℕ, zero, suc, ◌≤◌, min, List, []}
use Rattle.std.proofs.Common.{◌∷◌, ◌++◌, length, take, drop, refl, sym, ◌∙◌, ap, subst, arith, length-take}
use Rattle.std.proofs.lemmas.List.{append_assoc, take_all}
use Rattle.feed_disk.specs.Disk.{DiskState}
use Rattle.feed_disk.specs.Moments.{AlwaysLeaves, LeavesAlone, NowOnly}
use Rattle.feed_disk.specs.declared.area.Area.{Area}
use Rattle.feed_disk.proofs.MomentLemmas.{alone_leaves, always_joins}
use Rattle.feed_journal.specs.Limits.{least_size, payload_count_limit}
use Rattle.feed_journal.specs.Log.{IsListed, IsSynced, KeepsAll, KeepsFirst, LogValue, RestsAt}
use Rattle.feed_journal.specs.Log.{payloads_at}
use Rattle.feed_journal.specs.Records.{records, frame, frames, Begins, HasFirst, IsWhole, StartsWith}
use Rattle.feed_journal.proofs.CutLemmas.{size_within}
use Rattle.feed_journal.proofs.LoadLemmas.{starts_closed}
use Rattle.feed_recovery.proofs.ReadingLemmas.{listed-count}
use Rattle.store_scrub.specs.Rebuild.{ClosesArea, CutsArea, KeepsArea, KeepsFirstOf}
use Rattle.store_scrub.specs.Survey.{IsSurveyed, KnowsFrames}

-- an area that is left alone stays synced
pub synced-alone : (s t : DiskState) (a : Area) → IsSynced s a → LeavesAlone s t a → IsSynced t a
synced-alone s t a synced alone i may = synced i (alone.now i may) ∙ sym alone.content

pub surveyed-alone : (observable : Type 0) (s t : DiskState) (a : Area) (log : LogValue) → IsSurveyed observable s a log
    → LeavesAlone s t a → IsSurveyed observable t a log
surveyed-alone observable s t a log is alone = record {
  readable = record {
    area = is.readable.area;
    unspent = is.readable.unspent;
    rules = is.readable.rules;
    list = λ tells. subst (λ (l : List ℕ). payloads_at log.extents l ≡ records l) (sym alone.content)
        (is.readable.list tells);
  };
  frames = λ tells. subst (KnowsFrames log) (sym alone.content) (is.frames tells);
}

-- the frames of the first payloads, and those of the rest
frames-split : (k : ℕ) (payloads : List (List ℕ))
    → frames payloads ≡ frames (take k payloads) ++ frames (drop k payloads)
frames-split zero payloads = refl
frames-split (suc k) [] = refl
frames-split (suc k) (payload ∷ payloads) =
    ap (λ (l : List ℕ). frame payload ++ l) (frames-split k payloads)
    ∙ sym (append_assoc (frame payload) (frames (take k payloads)) (frames (drop k payloads)))

pub starts-first : (k : ℕ) (payloads : List (List ℕ)) (bytes : List ℕ) → StartsWith payloads bytes
    → StartsWith (take k payloads) bytes
starts-first k payloads bytes starts = record {
  rest = frames (drop k payloads) ++ starts.rest;
  is = starts.is ∙ ap (λ (l : List ℕ). l ++ starts.rest) (frames-split k payloads)
      ∙ append_assoc (frames (take k payloads)) (frames (drop k payloads)) starts.rest;
}

-- bytes have their own first payloads first
pub has-first : (k : ℕ) (bytes : List ℕ) → k ≤ length (records bytes) → HasFirst (take k (records bytes)) bytes
has-first k bytes few =
    let count : k ≡ length (take k (records bytes)) = omega (arith, length-take k (records bytes), few) in
    ap (λ (n : ℕ). take n (records bytes)) (sym count)

-- an area that isn't whole
not-whole : (log : LogValue) (content : List ℕ) → KnowsFrames log content → log.whole ≡ false → ¬ IsWhole content
not-whole log content knows open_ whole = never (sym (knows.whole.1 whole) ∙ open_)
  where
    never : true ≡ false → ⊥
    never is = cc

-- its gate is closed
pub keeps-open : (s t : DiskState) (log : LogValue) (a b : Area) → a ≡ b → KnowsFrames log (s.content b)
    → log.whole ≡ false → KeepsAll s t a → KeepsArea s t b
keeps-open s t log a b same knows open_ keeps synced =
    subst (KeepsAll s t) same keeps synced (not-whole log (s.content b) knows open_)

pub keeps-alone : (s m t : DiskState) (a : Area) → KeepsArea s m a → LeavesAlone m t a → KeepsArea s t a
keeps-alone s m t a keeps alone synced =
    let P = λ (i : List ℕ). records i ≡ records (s.content a) in
    let run = keeps synced in
    always_joins s m t a P run (alone_leaves m t a P run.now alone)

pub closes-alone : (s m t : DiskState) (a : Area) → ClosesArea s m a → LeavesAlone m t a → ClosesArea s t a
closes-alone s m t a closes alone synced i may = closes synced i (alone.now i may)

-- the log has only the seals that are kept, and a closed gate after them
module _ (observable : Type 0) (s : DiskState) (a : Area) (log : LogValue) (kept : ℕ)
    (is : IsSurveyed observable s a log) (tells : observable) where
  pub found-count : length (records (s.content a)) ≡ length log.extents
  found-count = listed-count log (s.content a) (is.readable.list tells)

  pub keeps-found : kept ≤ length log.extents → (t : DiskState) → LeavesAlone s t a → KeepsFirstOf s t a kept
  keeps-found within t alone synced =
      alone_leaves s t a (HasFirst (take kept (records (s.content a)))) (λ i may.
      subst (HasFirst (take kept (records (s.content a)))) (sym (synced i may))
      (has-first kept (s.content a) (omega (arith, within, found-count)))) alone

  module _ (t : DiskState) (alone : LeavesAlone s t a) (all : kept ≡ length log.extents) (whole : log.whole ≡ true)
      (long : least_size ≤ length (s.content a)) where
    all-kept : records (s.content a) ≡ take kept (records (s.content a))
    all-kept = sym (take_all kept (records (s.content a)) (omega (arith, all, found-count)))

    begins : Begins (records (s.content a)) (s.content a)
    begins = ⊎_elim (λ short. absurd (omega (arith, short, long)))
        (starts_closed (s.content a) (omega (arith, long)) (is.frames tells).starts) ((is.frames tells).whole.0 whole)

    pub cuts-none : CutsArea s t a kept
    cuts-none = record {
      payloads = ap records alone.content ∙ all-kept;
      rests = λ synced i may. subst (λ (l : List (List ℕ)). Begins l i) all-kept
          (subst (Begins (records (s.content a))) (sym (synced i (alone.now i may))) begins);
    }

    pub listed-none : IsListed log (t.content a)
    listed-none = subst (IsListed log) (sym alone.content) (record {
      list = is.readable.list tells;
      long = omega (
        arith,
        long,
        size_within (min (length (s.content a)) payload_count_limit) 0 log.extents log.size (s.content a)
            is.readable.rules.follow (is.readable.list tells),
      );
    })

-- the gate after the first payloads is closed
module _ (s t : DiskState) (kept : ℕ) (a b : Area) (same : a ≡ b) where
  pub cuts-area : StartsWith (records (s.content b)) (s.content b)
      → records (t.content a) ≡ take kept (records (s.content a))
      → RestsAt s t a (take kept (records (s.content a))) → CutsArea s t b kept
  cuts-area starts list rests = record {
    payloads = subst (λ (x : Area). records (t.content x) ≡ take kept (records (s.content x))) same list;
    rests = λ _. subst (λ (x : Area). RestsAt s t x (take kept (records (s.content x)))) same rests
        (starts-first kept (records (s.content b)) (s.content b) starts);
  }

  pub first-area : kept ≤ length (records (s.content b)) → KeepsFirst s t a (take kept (records (s.content a)))
      → KeepsFirstOf s t b kept
  first-area few keeps synced =
      (subst (λ (x : Area). KeepsFirst s t x (take kept (records (s.content x)))) same keeps).first (λ i may.
      subst (HasFirst (take kept (records (s.content b)))) (sym (synced i may)) (has-first kept (s.content b) few))

-- the seals are cut after the area was left alone
module _ (s m t : DiskState) (a : Area) (kept : ℕ) (alone : LeavesAlone s m a) where
  same : records (m.content a) ≡ records (s.content a)
  same = ap records alone.content

  pub cuts-after : CutsArea m t a kept → CutsArea s t a kept
  cuts-after cuts = record {
    payloads = cuts.payloads ∙ ap (take kept) same;
    rests = λ synced. subst (λ (l : List (List ℕ)). NowOnly t a (Begins (take kept l))) same
        (cuts.rests (synced-alone s m a synced alone));
  }

  pub first-after : kept ≤ length (records (s.content a)) → KeepsFirstOf m t a kept → KeepsFirstOf s t a kept
  first-after few keeps synced =
      let P = HasFirst (take kept (records (s.content a))) in
      always_joins s m t a P (alone_leaves s m a P (λ i may. subst P (sym (synced i may)) (has-first kept (s.content a) few)) alone)
      (subst (λ (l : List (List ℕ)). AlwaysLeaves m t a (HasFirst (take kept l))) same
      (keeps (synced-alone s m a synced alone)))
