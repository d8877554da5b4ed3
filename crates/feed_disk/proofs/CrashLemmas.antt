-- The disk that a crash leaves, area by area.
use Rattle.std.proofs.Common.{◌≡◌, inl, inr, ℕ, ◌-◌, ◌<◌, ◌≤◌, ◌^◌, List, [], ◌++◌, length, drop, replicate, refl, sym}
use Rattle.std.proofs.Common.{◌∙◌, ap, subst, arith}
use Rattle.std.specs.Prelude.{All}
use Rattle.std.proofs.lemmas.List.{drop_at, length-replicate}
use Rattle.std.proofs.lemmas.Grind.{elements}
use Rattle.feed_disk.specs.AreaRecord.{synced_of, MayLeave, MayLeaveAt, UpTo, IsRecorded}
use Rattle.feed_disk.specs.ImageOf.{until, marks_of, image_of}
use Rattle.feed_disk.specs.Image.{skipped, used_before, image_in, crashed_disk, IsReached}
use Rattle.feed_disk.specs.Memory.{MemoryValue, record_of, MayLeaveBy, IsRecordedDisk, state_of}
use Rattle.feed_disk.specs.declared.area.Area.{Area}
use Rattle.feed_disk.specs.declared.area.Area.TheVariants.{Journal, Sealed, Mirror}
use Rattle.feed_disk.specs.declared.choice.Choice.{Choice}
use Rattle.feed_disk.specs.declared.choice.Choice.TheVariants.{Given}
use Rattle.feed_disk.proofs.ImageLemmas.{until_at, image_may}
use Rattle.feed_disk.proofs.ReachLemmas.{at_until, picked, All-picked, given_makes}
use Rattle.feed_disk.proofs.CallLemmas.{at_newest}

module _ (m : MemoryValue) (call : ℕ) (begun : call ≤ m.calls.made) where
  image_at : (choice : Choice) (a : Area) → MayLeaveBy (record_of m.areas a) m.calls.made call
      (image_in m call choice a)
  image_at choice a =
      let h = record_of m.areas a in (
        begun,
        inl (until_at h.first call h.changes (image_in m call choice a)
            (image_may h.first (until call h.changes) (skipped choice (used_before m call choice a)))),
      )

  pub among : (choice : Choice) (d : MemoryValue) → d ≡ crashed_disk m call choice → (a : Area)
      → (state_of m).image_at a call ((state_of d).content a)
  among choice d is Journal = subst (λ (v : MemoryValue).
      (state_of m).image_at Journal call ((state_of v).content Journal)) (sym is) (image_at choice Journal)
  among choice d is Sealed = subst (λ (v : MemoryValue).
      (state_of m).image_at Sealed call ((state_of v).content Sealed)) (sym is) (image_at choice Sealed)
  among choice d is Mirror = subst (λ (v : MemoryValue).
      (state_of m).image_at Mirror call ((state_of v).content Mirror)) (sym is) (image_at choice Mirror)

  -- each image of a moment is one after the changes until then
  until_may : m.calls.made < 2 ^ 64 - 1 → (a : Area) (i : List ℕ) → UpTo m.calls.made (record_of m.areas a).changes
      → IsRecorded (record_of m.areas a).first (record_of m.areas a).changes
      → MayLeaveBy (record_of m.areas a) m.calls.made call i
      → MayLeave (record_of m.areas a).first (until call (record_of m.areas a).changes) i
  until_may below a i up recorded (by, inl may) =
      at_until (record_of m.areas a).first call (omega arith) i (record_of m.areas a).changes recorded may
  until_may below a i up recorded (by, inr last) =
      at_until (record_of m.areas a).first call (omega arith) i (record_of m.areas a).changes recorded
      (subst (λ (c : ℕ). MayLeaveAt (record_of m.areas a).first (record_of m.areas a).changes c i) (sym last.0)
      (at_newest (record_of m.areas a).first (record_of m.areas a).changes m.calls.made i up last.1))

  -- given bytes of which the first n are for the areas before
  abbrev padded : ℕ → List ℕ → List ℕ
  padded n given = replicate n 0 ++ given

  drop-padded : (n : ℕ) (given : List ℕ) → drop n (padded n given) ≡ given
  drop-padded n given = drop_at (replicate n 0) given n (length-replicate n 0)

  All-padded : (n : ℕ) (given : List ℕ) → All (λ byte. byte < 256) given → All (λ byte. byte < 256) (padded n given)
  All-padded n given all = grind (arith, elements, length-replicate {A = ℕ})

  reached_by : (a : Area) (i : List ℕ) → MayLeave (record_of m.areas a).first (until call (record_of m.areas a).changes)
      i → (n : ℕ)
      → ((bytes : List ℕ) → used_before m call
      (Given (length i - length (synced_of (record_of m.areas a).first (until call (record_of m.areas a).changes)))
      bytes) a ≡ n) → IsReached m call a i
  reached_by a i may n used =
      let h = record_of m.areas a in
      let size = length i - length (synced_of h.first (until call h.changes)) in
      let given = picked (marks_of h.first (until call h.changes) (length i)) i in
      record {
        size = size;
        bytes = padded n given;
        small = omega arith;
        are_bytes = λ all. All-padded n given
            (All-picked (λ byte. byte < 256) (marks_of h.first (until call h.changes) (length i)) i all);
        makes =
            ap (λ (k : ℕ). image_of h.first (until call h.changes) (Given size (drop k (padded n given))))
            (used (padded n given))
            ∙ ap (λ (l : List ℕ). image_of h.first (until call h.changes) (Given size l)) (drop-padded n given)
            ∙ given_makes h.first (until call h.changes) i may;
      }

  pub reached : m.calls.made < 2 ^ 64 - 1 → IsRecordedDisk m → (a : Area) (i : List ℕ) → (state_of m).image_at a call i
      → IsReached m call a i
  reached below recorded Journal i may = reached_by Journal i
      (until_may below Journal i (recorded.counts.counts Journal) recorded.journal may) _ (λ bytes. refl)
  reached below recorded Sealed i may = reached_by Sealed i
      (until_may below Sealed i (recorded.counts.counts Sealed) recorded.sealed may) _ (λ bytes. refl)
  reached below recorded Mirror i may = reached_by Mirror i
      (until_may below Mirror i (recorded.counts.counts Mirror) recorded.mirror may) _ (λ bytes. refl)
