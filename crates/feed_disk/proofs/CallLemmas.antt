-- The images of an area in memory after one device call.
use Rattle.std.proofs.Common.{◌≡◌, ◌≢◌, ◌⊎◌, inl, inr, ⊎_elim, ℕ, ◌+◌, ◌<◌, ◌≤◌, ◌^◌, max, ◌||◌, List, [], ◌∷◌, length}
use Rattle.std.proofs.Common.{refl, sym, ◌∙◌, ap, subst, arith, Err, Result}
use Rattle.std.proofs.lemmas.Bool.{cases_lt}
use Rattle.std.proofs.lemmas.Grind.{same_number_lists}
use Rattle.atom_values.specs.Counts.{counted}
use Rattle.feed_disk.specs.Disk.{written, TornFrom, Passes, PassesBy, CountsCall}
use Rattle.feed_disk.specs.AreaRecord.{AreaRecordValue, call_of, content_of, synced_of, newest_of, is_within}
use Rattle.feed_disk.specs.AreaRecord.{is_written, IsBetween, MayLeave, MayLeaveWithin, MayLeaveAt, UpTo, ComesAfter}
use Rattle.feed_disk.specs.DiskLaw.{length-written, length-synced, length-content, content_may_be}
use Rattle.feed_disk.specs.Memory.{MemoryValue, record_of, changed, MayLeaveBy, KeepsCounts, state_of, starving}
use Rattle.feed_disk.specs.declared.area.Area.{Area}
use Rattle.feed_disk.specs.declared.area.Area.TheVariants.{Journal, Sealed, Mirror}
use Rattle.feed_disk.specs.declared.areas.Areas.{Areas}
use Rattle.feed_disk.specs.declared.change.Change.{Change}
use Rattle.feed_disk.specs.declared.change.Change.TheVariants.{Write, FailedWrite, Sync}
use Rattle.feed_disk.proofs.TornLemmas.{torn_is_between, between_is_torn, torn_same}

-- after a sync the content is the only image
pub after_sync : (first : List ℕ) (call : ℕ) (older : List Change) (image : List ℕ)
    → MayLeave first (Sync call ∷ older) image → image ≡ content_of first older
after_sync first call older image may = same_number_lists image (content_of first older)
    (omega (arith, may.no_shorter, may.no_longer))
    (λ offset inside. may.certain offset (omega (arith, may.no_longer)) refl)

-- each image after the newest change is one within it
pub now_is_within : (first : List ℕ) (changes : List Change) (image : List ℕ) → MayLeave first changes image
    → MayLeaveWithin first changes image
now_is_within first [] image may = may
now_is_within first (Write call at bytes ∷ older) image may = may
now_is_within first (FailedWrite call at bytes ∷ older) image may = may
now_is_within first (Sync call ∷ older) image may =
    subst (MayLeave first older) (sym (after_sync first call older image may)) (content_may_be first older)

-- each image of a moment after the newest change is one of now
pub past_newest : (first : List ℕ) (changes : List Change) (k c : ℕ) (i : List ℕ) → UpTo k changes → k < c
    → MayLeaveAt first changes c i → MayLeave first changes i
past_newest first [] k c i up past may = may
past_newest first (change ∷ older) k c i up past (inl now) = now.1
past_newest first (change ∷ older) k c i up past (inr (inl within)) = absurd (omega (arith, within.0))
past_newest first (change ∷ older) k c i up past (inr (inr before)) = absurd (omega (arith, before.0))

-- each image of now is one of the last moment
pub at_newest : (first : List ℕ) (changes : List Change) (k : ℕ) (i : List ℕ) → UpTo k changes
    → MayLeave first changes i → MayLeaveAt first changes k i
at_newest first [] k i up may = may
at_newest first (change ∷ older) k i up may = elim (cases_lt (call_of change) k) [
  | inl past ↦ inl (past, may)
  | inr there ↦ inr (inl (omega (arith, there, up), now_is_within first (change ∷ older) i may))
]

pub moments_same : (h : AreaRecordValue) (k k' c : ℕ) (i : List ℕ) → UpTo k h.changes → k' ≡ counted k
    → MayLeaveBy h k' c i → MayLeaveBy h k c i ⊎ ((c ≡ k') × MayLeave h.first h.changes i)
moments_same h k k' c i up is (by, inr last) = inr last
moments_same h k k' c i up is (by, inl may) = elim (cases_lt k c) [
  | inl past ↦ inr (omega (arith, is, by), past_newest h.first h.changes k c i up past may)
  | inr begun ↦ inl (begun, inl may)
]

pub keeps_same : (h : AreaRecordValue) (k k' c : ℕ) (i : List ℕ) → UpTo k h.changes → k ≤ k' → MayLeaveBy h k c i
    → MayLeaveBy h k' c i
keeps_same h k k' c i up grows (by, inl may) = (omega (arith, by), inl may)
keeps_same h k k' c i up grows (by, inr last) = (
  omega (arith, by),
  inl (subst (λ (m : ℕ). MayLeaveAt h.first h.changes m i) (sym last.0)
      (at_newest h.first h.changes k i up last.1)),
)

module _ (h : AreaRecordValue) (k k' : ℕ) (change : Change) (up : UpTo k h.changes) (is : k' ≡ counted k)
    (numbered : call_of change ≡ k') (more : (i : List ℕ) → MayLeave h.first h.changes i
    → MayLeaveWithin h.first (change ∷ h.changes) i) where
  pub moments_changed : (c : ℕ) (i : List ℕ) → MayLeaveBy (record h { changes = change ∷ h.changes }) k' c i
      → MayLeaveBy h k c i ⊎ ((c ≡ k') × MayLeaveWithin h.first (change ∷ h.changes) i)
  moments_changed c i (by, inr last) = inr (last.0, now_is_within h.first (change ∷ h.changes) i last.1)
  moments_changed c i (by, inl (inl now)) = absurd (omega (arith, by, now.0, numbered))
  moments_changed c i (by, inl (inr (inl within))) = inr (sym within.0 ∙ numbered, within.1)
  moments_changed c i (by, inl (inr (inr before))) = elim (cases_lt k c) [
    | inl past ↦ inr (omega (arith, is, by), more i (past_newest h.first h.changes k c i up past before.1))
    | inr begun ↦ inl (begun, inl before.1)
  ]

  pub keeps_changed : k ≤ k' → (c : ℕ) (i : List ℕ) → MayLeaveBy h k c i
      → MayLeaveBy (record h { changes = change ∷ h.changes }) k' c i
  keeps_changed grows c i (by, inl may) = (omega (arith, by), inl (inr (inr (omega (arith, by, numbered), may))))
  keeps_changed grows c i (by, inr last) = (
    omega (arith, by),
    inl (inr (inr (
      omega (arith, by, numbered),
      subst (λ (m : ℕ). MayLeaveAt h.first h.changes m i) (sym last.0) (at_newest h.first h.changes k i up last.1),
    ))),
  )

  pub was_changed : (i : List ℕ) → MayLeave h.first h.changes i
      → MayLeaveBy (record h { changes = change ∷ h.changes }) k' k' i
  was_changed i may = (omega arith, inl (inr (inl (numbered, more i may))))

-- a call that leaves the area as it was
pub passes_by : (m n : MemoryValue) (a : Area) → UpTo m.calls.made (record_of m.areas a).changes
    → n.calls.made ≡ counted m.calls.made → m.calls.made ≤ n.calls.made → record_of n.areas a ≡ record_of m.areas a
    → PassesBy (state_of m) (state_of n) a
passes_by m n a up is grows same = record {
  passes = record {
    moments = λ c i may. moments_same (record_of m.areas a) m.calls.made n.calls.made c i up is
        (subst (λ (h : AreaRecordValue). MayLeaveBy h n.calls.made c i) same may);
    keeps = λ c i may. subst (λ (h : AreaRecordValue). MayLeaveBy h n.calls.made c i) (sym same)
        (keeps_same (record_of m.areas a) m.calls.made n.calls.made c i up grows may);
    was = λ i may. (
      omega arith,
      inr (
        refl,
        subst (λ (h : AreaRecordValue). MayLeave h.first h.changes i) (sym same) may,
      ),
    );
    now = λ i may. subst (λ (h : AreaRecordValue). MayLeave h.first h.changes i) same may;
  };
  still = λ i may. subst (λ (h : AreaRecordValue). MayLeave h.first h.changes i) (sym same) may;
  content = ap (λ (h : AreaRecordValue). content_of h.first h.changes) same;
}

-- a call that changes the area
pub passes_changed : (m n : MemoryValue) (a : Area) (change : Change) (within : List ℕ → Type 0)
    → UpTo m.calls.made (record_of m.areas a).changes → n.calls.made ≡ counted m.calls.made
    → m.calls.made ≤ n.calls.made → call_of change ≡ n.calls.made
    → record_of n.areas a ≡ record (record_of m.areas a) { changes = change ∷ (record_of m.areas a).changes }
    → ((i : List ℕ) → MayLeave (record_of m.areas a).first (record_of m.areas a).changes i
    → MayLeaveWithin (record_of m.areas a).first (change ∷ (record_of m.areas a).changes) i)
    → ((i : List ℕ) → MayLeaveWithin (record_of m.areas a).first (change ∷ (record_of m.areas a).changes) i → within i)
    → Passes (state_of m) (state_of n) a within
passes_changed m n a change within up is grows numbered new more all =
    let h = record_of m.areas a in
    record {
      moments = λ c i may. ⊎_elim (λ past. inl past) (λ here. inr (here.0, all i here.1))
          (moments_changed h m.calls.made n.calls.made change up is numbered more c i
          (subst (λ (g : AreaRecordValue). MayLeaveBy g n.calls.made c i) new may));
      keeps = λ c i may. subst (λ (g : AreaRecordValue). MayLeaveBy g n.calls.made c i) (sym new)
          (keeps_changed h m.calls.made n.calls.made change up is numbered more grows c i may);
      was = λ i may. subst (λ (g : AreaRecordValue). MayLeaveBy g n.calls.made n.calls.made i) (sym new)
          (was_changed h m.calls.made n.calls.made change up is numbered more i may);
      now = λ i may. all i (now_is_within h.first (change ∷ h.changes) i
          (subst (λ (g : AreaRecordValue). MayLeave g.first g.changes i) new may));
    }

-- the images after a write are those that it makes of an image before it
module _ (first : List ℕ) (older : List Change) (at : ℕ) (bytes : List ℕ)
    (fits : at ≤ length (content_of first older)) where
  longest : length (written (newest_of first older) at bytes) ≡ max (length (newest_of first older)) (at + length bytes)
  longest = omega (arith, length-written (newest_of first older) at bytes, length-content first older)

  pub torn_written : (i : List ℕ) → TornFrom at (length bytes) (MayLeave first older) i
      → IsBetween (synced_of first older) (length (written (newest_of first older) at bytes))
      (λ offset. is_within offset at (length bytes) || is_written older offset) i
  torn_written i from = torn_is_between (synced_of first older) (length (newest_of first older)) _ at (length bytes)
      (is_written older) from.0 i (omega (arith, longest)) from.1 from.2

  pub written_torn : (i : List ℕ) → IsBetween (synced_of first older)
      (length (written (newest_of first older) at bytes))
      (λ offset. is_within offset at (length bytes) || is_written older offset) i
      → TornFrom at (length bytes) (MayLeave first older) i
  written_torn i between = between_is_torn (synced_of first older) (length (newest_of first older)) _ at (length bytes)
      (is_written older) i (omega (arith, length-content first older)) (omega (arith, longest))
      (omega (arith, length-content first older, length-synced first older)) between

  pub more_written : (i : List ℕ) → MayLeave first older i
      → IsBetween (synced_of first older) (length (written (newest_of first older) at bytes))
      (λ offset. is_within offset at (length bytes) || is_written older offset) i
  more_written i may = torn_written i (i, may, torn_same at (length bytes) i)

-- a call that leaves all areas as they were
pub passes_by_all : (m n : MemoryValue) → KeepsCounts m.areas m.calls → n.calls.made ≡ counted m.calls.made
    → n.areas ≡ m.areas → (a : Area) → PassesBy (state_of m) (state_of n) a
passes_by_all m n keeps is same a = passes_by m n a (keeps.counts a) is (omega (arith, is, keeps.made))
    (ap (λ (areas : Areas). record_of areas a) same)

other_changed : (areas : Areas) (area a : Area) (change : Change) → a ≢ area
    → record_of (changed areas area change) a ≡ record_of areas a
other_changed areas Journal Journal change other = absurd (other refl)
other_changed areas Journal Sealed change other = refl
other_changed areas Journal Mirror change other = refl
other_changed areas Sealed Journal change other = refl
other_changed areas Sealed Sealed change other = absurd (other refl)
other_changed areas Sealed Mirror change other = refl
other_changed areas Mirror Journal change other = refl
other_changed areas Mirror Sealed change other = refl
other_changed areas Mirror Mirror change other = absurd (other refl)

this_changed : (areas : Areas) (area : Area) (change : Change)
    → record_of (changed areas area change) area
    ≡ record (record_of areas area) { changes = change ∷ (record_of areas area).changes }
this_changed areas Journal change = refl
this_changed areas Sealed change = refl
this_changed areas Mirror change = refl

-- the other areas at a call that changes one
module _ (m n : MemoryValue) (keeps : KeepsCounts m.areas m.calls) (is : n.calls.made ≡ counted m.calls.made) where
  module _ (area : Area) (change : Change) (new : n.areas ≡ changed m.areas area change) where
    pub others_pass : (a : Area) → a ≢ area → PassesBy (state_of m) (state_of n) a
    others_pass a other = passes_by m n a (keeps.counts a) is (omega (arith, is, keeps.made))
        (ap (λ (areas : Areas). record_of areas a) new ∙ other_changed m.areas area a change other)

    pub is_changed : record_of n.areas area
        ≡ record (record_of m.areas area) { changes = change ∷ (record_of m.areas area).changes }
    is_changed = ap (λ (areas : Areas). record_of areas area) new ∙ this_changed m.areas area change

-- a write, a failed write, and a sync
module _ (m n : MemoryValue) (keeps : KeepsCounts m.areas m.calls) (is : n.calls.made ≡ counted m.calls.made)
    (area : Area) where
  abbrev first : List ℕ
  first = (record_of m.areas area).first

  abbrev older : List Change
  older = (record_of m.areas area).changes

  module _ (at : ℕ) (bytes : List ℕ) (there : at ≤ length (content_of first older)) where
    pub passes_write : n.areas ≡ changed m.areas area (Write n.calls.made at bytes)
        → Passes (state_of m) (state_of n) area (TornFrom at (length bytes) ((state_of m).image_now area))
    passes_write new = passes_changed m n area (Write n.calls.made at bytes) _ (keeps.counts area) is
        (omega (arith, is, keeps.made)) refl (is_changed m n keeps is area (Write n.calls.made at bytes) new)
        (more_written first older at bytes there) (written_torn first older at bytes there)

    pub passes_failed_write : n.areas ≡ changed m.areas area (FailedWrite n.calls.made at bytes)
        → Passes (state_of m) (state_of n) area (TornFrom at (length bytes) ((state_of m).image_now area))
    passes_failed_write new = passes_changed m n area (FailedWrite n.calls.made at bytes) _ (keeps.counts area) is
        (omega (arith, is, keeps.made)) refl (is_changed m n keeps is area (FailedWrite n.calls.made at bytes) new)
        (more_written first older at bytes there) (written_torn first older at bytes there)

    pub written_is_torn : n.areas ≡ changed m.areas area (Write n.calls.made at bytes) → (i : List ℕ)
        → TornFrom at (length bytes) ((state_of m).image_now area) i → (state_of n).image_now area i
    written_is_torn new i from = subst (λ (h : AreaRecordValue). MayLeave h.first h.changes i)
        (sym (is_changed m n keeps is area (Write n.calls.made at bytes) new))
        (torn_written first older at bytes there i from)

  -- a call that leaves the area as it was, seen as a write that wrote nothing
  pub passes_unwritten : n.areas ≡ m.areas → (at k : ℕ)
      → Passes (state_of m) (state_of n) area (TornFrom at k ((state_of m).image_now area))
  passes_unwritten same at k =
      let by = passes_by_all m n keeps is same area in
      record {
        moments = λ c i may. ⊎_elim (λ past. inl past) (λ here. inr (here.0, (i, here.1, torn_same at k i)))
            (by.passes.moments c i may);
        keeps = by.passes.keeps;
        was = by.passes.was;
        now = λ i may. (i, by.passes.now i may, torn_same at k i);
      }

  pub passes_sync : n.areas ≡ changed m.areas area (Sync n.calls.made)
      → Passes (state_of m) (state_of n) area ((state_of m).image_now area)
  passes_sync new = passes_changed m n area (Sync n.calls.made) _ (keeps.counts area) is (omega (arith, is, keeps.made))
      refl (is_changed m n keeps is area (Sync n.calls.made) new) (λ i may. may) (λ i may. may)

  pub certain_sync : n.areas ≡ changed m.areas area (Sync n.calls.made) → (i : List ℕ) → (state_of n).image_now area i
      → i ≡ (state_of n).content area
  certain_sync new i may =
      let is_new = is_changed m n keeps is area (Sync n.calls.made) new in
      after_sync first n.calls.made older i (subst (λ (h : AreaRecordValue). MayLeave h.first h.changes i) is_new may)
      ∙ sym (ap (λ (h : AreaRecordValue). content_of h.first h.changes) is_new)

-- the disk after the call was counted, and after the change or the failure that the call then recorded
module _ (m b n : MemoryValue) (made : b.calls.made ≡ counted m.calls.made) (same : b.areas ≡ m.areas) where
  pub made_recorded : (area : Area) (change : ℕ → Change)
      → n ≡ record b { areas = changed b.areas area (change b.calls.made) }
      → n.calls.made ≡ counted m.calls.made
  made_recorded area change is = ap (λ (v : MemoryValue). v.calls.made) is ∙ made

  pub areas_recorded : (area : Area) (change : ℕ → Change)
      → n ≡ record b { areas = changed b.areas area (change b.calls.made) }
      → n.areas ≡ changed m.areas area (change n.calls.made)
  areas_recorded area change is =
      ap (λ (v : MemoryValue). v.areas) is
      ∙ ap (λ (areas : Areas). changed areas area (change b.calls.made)) same
      ∙ ap (λ (call : ℕ). changed m.areas area (change call)) (sym (ap (λ (v : MemoryValue). v.calls.made) is))

  pub made_failed : n ≡ starving (record b { calls = record b.calls { faults = counted b.calls.faults } })
      → n.calls.made ≡ counted m.calls.made
  made_failed is = ap (λ (v : MemoryValue). v.calls.made) is ∙ made

  pub areas_failed : n ≡ starving (record b { calls = record b.calls { faults = counted b.calls.faults } })
      → n.areas ≡ m.areas
  areas_failed is = ap (λ (v : MemoryValue). v.areas) is ∙ same

-- the counters after a call, for the clause `counts`
pub counts_failed : {T E : Type 0} (m n : MemoryValue) (e : E) → KeepsCounts m.areas m.calls
    → n.calls.made ≡ counted m.calls.made
    → n.calls.faults ≡ counted m.calls.faults → let result : Result T E = Err e in
    CountsCall (state_of m) (state_of n) result
counts_failed m n e keeps made faults = record {
  clock = made;
  later = omega (arith, made, keeps.made);
  faults = omega (arith, faults, keeps.faults);
  failed = omega (arith, faults);
  worked = tt;
}
