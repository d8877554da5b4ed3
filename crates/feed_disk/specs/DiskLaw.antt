-- The law `IsDisk` for a disk in memory, with its lemmas. They are in specs/ because the toolchain accepts no lemma of
-- proofs/ as the law of a trait's impl.
use Rattle.std.proofs.Common.{◌≡◌, ◌⊎◌, inl, inr, ℕ, ◌+◌, ◌-◌, ◌<◌, ◌≤◌, min, false, leb, ltb, List, [], ◌∷◌, ◌++◌}
use Rattle.std.proofs.Common.{length, get_or, take, drop, refl, ◌∙◌, ap, arith, length-append, length-take, length-drop}
use Rattle.std.proofs.Common.{get_or-take, get_or-drop}
use Rattle.std.proofs.lemmas.List.{get_or_append_left, get_or-append_right}
use Rattle.std.proofs.lemmas.Bool.{and_cases, or_parts, leb-false, ltb-false}
use Rattle.feed_disk.specs.Disk.{written, IsDisk}
use Rattle.feed_disk.specs.Memory.{MemoryValue, record_of, state_of}
use Rattle.feed_disk.specs.AreaRecord.{content_of, synced_of, newest_of, is_within, is_written, MayLeave}
use Rattle.feed_disk.specs.declared.change.Change.{Change}
use Rattle.feed_disk.specs.declared.change.Change.TheVariants.{Write, FailedWrite, Sync}

pub length-written : (old : List ℕ) (at : ℕ) (bytes : List ℕ)
    → length (written old at bytes) ≡ min at (length old) + length bytes + (length old - (at + length bytes))
length-written old at bytes = omega (
  arith,
  length-append (take at old ++ bytes) (drop (at + length bytes) old),
  length-append (take at old) bytes,
  length-take at old,
  length-drop (at + length bytes) old,
)

-- an offset outside the range
pub outside_cases : (offset at n : ℕ) → is_within offset at n ≡ false → (offset < at) ⊎ (at + n ≤ offset)
outside_cases offset at n out = elim (and_cases (leb at offset) (ltb offset (at + n)) out) [
  | inl low ↦ inl (leb-false at offset low)
  | inr high ↦ inr (ltb-false offset (at + n) high)
]

below_range : (old : List ℕ) (at : ℕ) (bytes : List ℕ) (offset : ℕ) → offset < length old → offset < at
    → get_or (written old at bytes) offset 0 ≡ get_or old offset 0
below_range old at bytes offset there below =
    let in_front : offset < length (take at old) = omega (arith, length-take at old) in
    let in_both : offset < length (take at old ++ bytes) = omega (arith, length-append (take at old) bytes) in
    get_or_append_left (take at old ++ bytes) (drop (at + length bytes) old) 0 offset in_both
    ∙ get_or_append_left (take at old) bytes 0 offset in_front
    ∙ get_or-take at old offset 0 below

above_range : (old : List ℕ) (at : ℕ) (bytes : List ℕ) (offset : ℕ) → offset < length old → at + length bytes ≤ offset
    → get_or (written old at bytes) offset 0 ≡ get_or old offset 0
above_range old at bytes offset there above =
    let front : length (take at old ++ bytes) ≡ at + length bytes =
    omega (arith, length-append (take at old) bytes, length-take at old) in
    get_or-append_right (take at old ++ bytes) (drop (at + length bytes) old) (at + length bytes) offset 0 front above
    ∙ get_or-drop (at + length bytes) old (offset - (at + length bytes)) 0
    ∙ ap (λ (k : ℕ). get_or old k 0) (omega arith)

pub get_or-written_outside : (old : List ℕ) (at : ℕ) (bytes : List ℕ) (offset : ℕ) → offset < length old
    → is_within offset at (length bytes) ≡ false → get_or (written old at bytes) offset 0 ≡ get_or old offset 0
get_or-written_outside old at bytes offset there out = elim (outside_cases offset at (length bytes) out) [
  | inl below ↦ below_range old at bytes offset there below
  | inr above ↦ above_range old at bytes offset there above
]

pub length-synced : (first : List ℕ) (changes : List Change)
    → length (synced_of first changes) ≤ length (content_of first changes)
length-synced first [] = omega arith
length-synced first (Write call at bytes ∷ older) =
    omega (arith, length-synced first older, length-written (content_of first older) at bytes)
length-synced first (FailedWrite call at bytes ∷ older) = length-synced first older
length-synced first (Sync call ∷ older) = omega arith

pub length-content : (first : List ℕ) (changes : List Change)
    → length (content_of first changes) ≤ length (newest_of first changes)
length-content first [] = omega arith
length-content first (Write call at bytes ∷ older) =
    omega (
      arith,
      length-content first older,
      length-written (content_of first older) at bytes,
      length-written (newest_of first older) at bytes,
    )
length-content first (FailedWrite call at bytes ∷ older) =
    omega (arith, length-content first older, length-written (newest_of first older) at bytes)
length-content first (Sync call ∷ older) = omega arith

content_certain : (first : List ℕ) (changes : List Change) (offset : ℕ) → offset < length (synced_of first changes)
    → is_written changes offset ≡ false → get_or (content_of first changes) offset 0
    ≡ get_or (synced_of first changes) offset 0
content_certain first [] offset there out = refl
content_certain first (Write call at bytes ∷ older) offset there out =
    let parts = or_parts (is_within offset at (length bytes)) (is_written older offset) out in
    get_or-written_outside (content_of first older) at bytes offset (omega (arith, length-synced first older)) parts.0
    ∙ content_certain first older offset there parts.1
content_certain first (FailedWrite call at bytes ∷ older) offset there out =
    content_certain first older offset there
    (or_parts (is_within offset at (length bytes)) (is_written older offset) out).1
content_certain first (Sync call ∷ older) offset there out = refl

-- the content is one of the images
pub content_may_be : (first : List ℕ) (changes : List Change) → MayLeave first changes (content_of first changes)
content_may_be first changes = record {
  no_shorter = length-synced first changes;
  no_longer = length-content first changes;
  certain = content_certain first changes;
}

pub memory_is_disk : (m : MemoryValue) → IsDisk (Unit {0}) (state_of m)
memory_is_disk m = record {
  begun = λ a c i may. may.0;
  last = λ a i may. (omega arith, inr (refl, may));
  content = λ _ a. content_may_be (record_of m.areas a).first (record_of m.areas a).changes;
}
