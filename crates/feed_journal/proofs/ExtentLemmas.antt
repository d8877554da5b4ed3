-- The extents of a log's payloads.
use Rattle.std.proofs.Common.{◌≡◌, ℕ, ◌+◌, ◌-◌, ◌<◌, ◌≤◌, List, [], ◌∷◌, ◌++◌, length, take, drop, refl, sym, ◌∙◌, ap}
use Rattle.std.proofs.Common.{arith, length-append, length-take, length-drop}
use Rattle.std.proofs.lemmas.List.{map-append, drop-take, take-take}
use Rattle.feed_journal.specs.Limits.{payload_limit, payload_count_limit}
use Rattle.feed_journal.specs.Log.{payloads_at, Follow, KeepsLog}
use Rattle.feed_journal.specs.Records.{size_of}
use Rattle.feed_journal.specs.declared.extent.Extent.{Extent}

pub follow_above : (from : ℕ) (extents : List Extent) (size : ℕ) → Follow from extents size → from < size
follow_above from [] size follow = omega arith
follow_above from (extent ∷ extents) size follow =
    omega (arith, follow_above (from + extent.length + 5) extents size follow.2)

pub listed_size : (from : ℕ) (extents : List Extent) (size : ℕ) (bytes : List ℕ) → Follow from extents size
    → size ≤ length bytes → size_of (payloads_at extents bytes) + from ≡ size
listed_size from [] size bytes follow long = omega arith
listed_size from (extent ∷ extents) size bytes follow long =
    omega (
      arith,
      follow.0,
      follow_above (from + extent.length + 5) extents size follow.2,
      listed_size (from + extent.length + 5) extents size bytes follow.2 long,
      length-take extent.length (drop extent.offset bytes),
      length-drop extent.offset bytes,
    )

-- a payload within the bytes that two areas have in common
part_same : (at n size : ℕ) (old new : List ℕ) → at + n ≤ size → take size new ≡ take size old
    → take n (drop at new) ≡ take n (drop at old)
part_same at n size old new within same =
    sym (drop-take at n new) ∙ ap (drop at)
    (sym (take-take (at + n) size new within) ∙ ap (take (at + n)) same ∙ take-take (at + n) size old within)
    ∙ drop-take at n old

pub extents_same : (from : ℕ) (extents : List Extent) (size : ℕ) (old new : List ℕ) → Follow from extents size
    → take (size - 1) new ≡ take (size - 1) old → payloads_at extents new ≡ payloads_at extents old
extents_same from [] size old new follow same = refl
extents_same from (extent ∷ extents) size old new follow same =
    let within : extent.offset + extent.length ≤ size - 1 =
    omega (arith, follow.0, follow_above (from + extent.length + 5) extents size follow.2) in
    ap (λ (p : List ℕ). p ∷ payloads_at extents new)
    (part_same extent.offset extent.length (size - 1) old new within same)
    ∙ ap (λ (l : List (List ℕ)). take extent.length (drop extent.offset old) ∷ l)
    (extents_same (from + extent.length + 5) extents size old new follow.2 same)

pub follow_push : (from : ℕ) (extents : List Extent) (size : ℕ) (extent : Extent) → Follow from extents size
    → extent.offset ≡ size + 4 → extent.length ≤ payload_limit
    → Follow from (extents ++ extent ∷ []) (size + extent.length + 5)
follow_push from [] size extent follow at small = (omega arith, small, omega arith)
follow_push from (first ∷ extents) size extent follow at small =
    (follow.0, follow.1, follow_push (from + first.length + 5) extents size extent follow.2 at small)

-- the rule of a log, with one payload more
pub keeps_push : (extents : List Extent) (size n : ℕ) → KeepsLog extents size → length extents < payload_count_limit
    → n ≤ payload_limit → KeepsLog (extents ++ record { offset = size + 4; length = n } ∷ []) (size + n + 5)
keeps_push extents size n keeps few small =
    let extent : Extent = record { offset = size + 4; length = n } in
    record {
      follow = follow_push 0 extents size extent keeps.follow (omega arith) small;
      few = omega (arith, few, length-append extents (extent ∷ []));
    }

pub payloads_push : (extents : List Extent) (extent : Extent) (bytes : List ℕ)
    → payloads_at (extents ++ extent ∷ []) bytes
    ≡ payloads_at extents bytes ++ take extent.length (drop extent.offset bytes) ∷ []
payloads_push extents extent bytes = map-append (λ (p : Extent). take p.length (drop p.offset bytes)) extents
    (extent ∷ [])

pub length-payloads : (extents : List Extent) (bytes : List ℕ) → length (payloads_at extents bytes) ≡ length extents
length-payloads [] bytes = refl
length-payloads (extent ∷ extents) bytes = omega (arith, length-payloads extents bytes)
