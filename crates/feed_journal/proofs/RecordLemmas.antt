-- The payloads of an area.
use Rattle.std.proofs.Common.{◌≡◌, ◌≢◌, inl, inr, ℕ, zero, suc, ◌+◌, ◌-◌, ◌*◌, ◌<◌, ◌≤◌, max, true, false, ◌&&◌, leb, eqb}
use Rattle.std.proofs.Common.{List, [], ◌∷◌, ◌++◌, length, get_or, take, drop, refl, sym, ◌∙◌, ap, subst, arith}
use Rattle.std.proofs.Common.{zero-add, add_comm, length-append, length-take, length-drop, get_or-take}
use Rattle.std.specs.Int.{w32, to_be_bytes, from_be_bytes}
use Rattle.std.proofs.lemmas.Nat.{from_be_bytes-to_be_bytes_4}
use Rattle.std.proofs.lemmas.Bool.{cases_Bool, cond-true, cond-false, and_parts, and_from, and_left, leb-true, le-leb}
use Rattle.std.proofs.lemmas.Bool.{eqb-true, eq-eqb, ne_eqb}
use Rattle.std.proofs.lemmas.List.{append-nil, append_assoc, take_at, drop_at, drop-take, take-take, drop-drop}
use Rattle.feed_journal.specs.Limits.{payload_limit}
use Rattle.feed_journal.specs.Records.{length_at, has_frame, records_up_to, size_of, frame, frames}

-- each payload is within the limit
abbrev pub AreSmall : List (List ℕ) → Type 0
AreSmall [] = Unit {0}
AreSmall (payload ∷ payloads) = (length payload ≤ payload_limit) × AreSmall payloads

pub size-above : (payloads : List (List ℕ)) → 1 ≤ size_of payloads
size-above [] = omega arith
size-above (payload ∷ payloads) = omega (arith, size-above payloads)

pub size-many : (payloads : List (List ℕ)) → 5 * length payloads < size_of payloads
size-many [] = omega arith
size-many (payload ∷ payloads) = omega (arith, size-many payloads)

pub length-frames : (payloads : List (List ℕ)) → length (frames payloads) + 1 ≡ size_of payloads
length-frames [] = refl
length-frames (payload ∷ payloads) = omega (
  arith,
  length-append (frame payload) (frames payloads),
  length-append (1 ∷ to_be_bytes w32 (length payload)) payload,
  length-frames payloads,
)

pub frames-push : (payloads : List (List ℕ)) (payload : List ℕ) (rest : List ℕ)
    → frames (payloads ++ payload ∷ []) ++ rest ≡ frames payloads ++ (frame payload ++ rest)
frames-push [] payload rest = ap (λ (l : List ℕ). l ++ rest) (append-nil (frame payload))
frames-push (first ∷ payloads) payload rest =
    append_assoc (frame first) (frames (payloads ++ payload ∷ [])) rest
    ∙ ap (λ (l : List ℕ). frame first ++ l) (frames-push payloads payload rest)
    ∙ sym (append_assoc (frame first) (frames payloads) (frame payload ++ rest))

pub size-push : (payloads : List (List ℕ)) (payload : List ℕ)
    → size_of (payloads ++ payload ∷ []) ≡ size_of payloads + length payload + 5
size-push [] payload = omega arith
size-push (first ∷ payloads) payload = omega (arith, size-push payloads payload)

pub small_push : (payloads : List (List ℕ)) (payload : List ℕ) → AreSmall payloads → length payload ≤ payload_limit
    → AreSmall (payloads ++ payload ∷ [])
small_push [] payload small last = (last, tt)
small_push (first ∷ payloads) payload small last = (small.0, small_push payloads payload small.1 last)

-- one payload more
pub reads_more : (n : ℕ) (bytes : List ℕ) → has_frame bytes ≡ true
    → records_up_to (suc n) bytes ≡ take (length_at bytes) (drop 5 bytes)
    ∷ records_up_to n (drop (length_at bytes + 5) bytes)
reads_more n bytes has = cond-true (has_frame bytes) _ _ has

pub reads_none : (n : ℕ) (bytes : List ℕ) → has_frame bytes ≡ false → records_up_to n bytes ≡ []
reads_none zero bytes none = refl
reads_none (suc n) bytes none = cond-false (has_frame bytes) _ _ none

-- the parts of `has_frame`
pub frame_parts : (bytes : List ℕ) → has_frame bytes ≡ true
    → (get_or bytes 0 0 ≡ 1) × (length_at bytes ≤ payload_limit) × (length_at bytes + 6 ≤ length bytes)
frame_parts bytes has =
    let outer = and_parts (eqb (get_or bytes 0 0) 1 && leb (length_at bytes) payload_limit)
    (leb (length_at bytes + 6) (length bytes)) has in
    let inner = and_parts (eqb (get_or bytes 0 0) 1) (leb (length_at bytes) payload_limit) outer.0 in (
      eqb-true (get_or bytes 0 0) 1 inner.0,
      leb-true (length_at bytes) payload_limit inner.1,
      leb-true (length_at bytes + 6) (length bytes) outer.1,
    )

pub frame_from : (bytes : List ℕ) → get_or bytes 0 0 ≡ 1 → length_at bytes ≤ payload_limit
    → length_at bytes + 6 ≤ length bytes → has_frame bytes ≡ true
frame_from bytes gate small fits =
    and_from _ _ (and_from _ _ (eq-eqb (get_or bytes 0 0) 1 gate) (le-leb (length_at bytes) payload_limit small))
    (le-leb (length_at bytes + 6) (length bytes) fits)

pub closed_none : (bytes : List ℕ) → get_or bytes 0 0 ≢ 1 → has_frame bytes ≡ false
closed_none bytes closed = and_left _ _ (and_left _ _ (ne_eqb (get_or bytes 0 0) 1 closed))

pub short_none : (bytes : List ℕ) → length bytes < 6 → has_frame bytes ≡ false
short_none bytes short = elim (cases_Bool (has_frame bytes)) [
  | inl has ↦ absurd (omega (arith, (frame_parts bytes has).2))
  | inr none ↦ none
]

-- bytes that begin with a frame
module _ (payload rest : List ℕ) (small : length payload ≤ payload_limit) where
  regroup : frame payload ++ rest ≡ (1 ∷ to_be_bytes w32 (length payload)) ++ (payload ++ rest)
  regroup = append_assoc (1 ∷ to_be_bytes w32 (length payload)) payload rest

  length_at-frame : length_at (frame payload ++ rest) ≡ length payload
  length_at-frame =
      ap length_at regroup
      ∙ ap (from_be_bytes w32) (take_at (to_be_bytes w32 (length payload)) (payload ++ rest) 4 refl)
      ∙ from_be_bytes-to_be_bytes_4 (length payload) (omega arith)

  pub has-frame : 0 < length rest → has_frame (frame payload ++ rest) ≡ true
  has-frame more = frame_from (frame payload ++ rest) refl (omega (arith, length_at-frame))
      (omega (
        arith,
        length_at-frame,
        length-append (frame payload) rest,
        length-append (1 ∷ to_be_bytes w32 (length payload)) payload,
      ))

  payload-frame : take (length_at (frame payload ++ rest)) (drop 5 (frame payload ++ rest)) ≡ payload
  payload-frame =
      ap (λ (n : ℕ). take n (drop 5 (frame payload ++ rest))) length_at-frame
      ∙ ap (λ (l : List ℕ). take (length payload) (drop 5 l)) regroup
      ∙ ap (take (length payload)) (drop_at (1 ∷ to_be_bytes w32 (length payload)) (payload ++ rest) 5 refl)
      ∙ take_at payload rest (length payload) refl

  rest-frame : drop (length_at (frame payload ++ rest) + 5) (frame payload ++ rest) ≡ rest
  rest-frame =
      ap (λ (n : ℕ). drop (n + 5) (frame payload ++ rest)) length_at-frame
      ∙ drop_at (frame payload) rest (length payload + 5)
      (omega (arith, length-append (1 ∷ to_be_bytes w32 (length payload)) payload))

  pub reads_frame : (n : ℕ) → 0 < length rest
      → records_up_to (suc n) (frame payload ++ rest) ≡ payload ∷ records_up_to n rest
  reads_frame n more =
      reads_more n (frame payload ++ rest) (has-frame more)
      ∙ ap (λ (p : List ℕ). p ∷ records_up_to n (drop (length_at (frame payload ++ rest) + 5) (frame payload ++ rest)))
      payload-frame
      ∙ ap (λ (l : List ℕ). payload ∷ records_up_to n l) rest-frame

-- bytes that begin with frames have these payloads, and then those of the rest
pub reads_frames : (payloads : List (List ℕ)) (k : ℕ) (rest : List ℕ) → AreSmall payloads → 0 < length rest
    → records_up_to (length payloads + k) (frames payloads ++ rest) ≡ payloads ++ records_up_to k rest
reads_frames [] k rest small more = ap (λ (n : ℕ). records_up_to n rest) (zero-add k)
reads_frames (payload ∷ payloads) k rest small more =
    let more_fuel : suc (length payloads) + k ≡ suc (length payloads + k) = omega arith in
    ap (λ (n : ℕ). records_up_to n (frames (payload ∷ payloads) ++ rest)) more_fuel
    ∙ ap (records_up_to (suc (length payloads + k))) (append_assoc (frame payload) (frames payloads) rest)
    ∙ reads_frame payload (frames payloads ++ rest) small.0 (length payloads + k)
    (omega (arith, length-append (frames payloads) rest))
    ∙ ap (λ (l : List (List ℕ)). payload ∷ l) (reads_frames payloads k rest small.1 more)

-- each payload read is within the limit
pub small_read : (n : ℕ) (bytes : List ℕ) → AreSmall (records_up_to n bytes)
small_read zero bytes = tt
small_read (suc n) bytes = elim (cases_Bool (has_frame bytes)) [
  | inl has ↦ subst AreSmall (sym (reads_more n bytes has)) (
    omega (arith, (frame_parts bytes has).1, length-take (length_at bytes) (drop 5 bytes)),
    small_read n (drop (length_at bytes + 5) bytes),
  )
  | inr none ↦ subst AreSmall (sym (reads_none (suc n) bytes none)) tt
]

pub few_read : (n : ℕ) (bytes : List ℕ) → length (records_up_to n bytes) ≤ n
few_read zero bytes = omega arith
few_read (suc n) bytes = elim (cases_Bool (has_frame bytes)) [
  | inl has ↦ omega (arith, ap length (reads_more n bytes has), few_read n (drop (length_at bytes + 5) bytes))
  | inr none ↦ omega (arith, ap length (reads_none (suc n) bytes none))
]

-- the frames of the payloads, and a gate, are no longer than the bytes
pub read_size : (n : ℕ) (bytes : List ℕ) → size_of (records_up_to n bytes) ≤ max 1 (length bytes)
read_size zero bytes = omega arith
read_size (suc n) bytes = elim (cases_Bool (has_frame bytes)) [
  | inl has ↦
      let len = length_at bytes in
      omega (
        arith,
        ap size_of (reads_more n bytes has),
        read_size n (drop (len + 5) bytes),
        (frame_parts bytes has).2,
        length-take len (drop 5 bytes),
        length-drop 5 bytes,
        length-drop (len + 5) bytes,
      )
  | inr none ↦ omega (arith, ap size_of (reads_none (suc n) bytes none))
]

-- An area with the same bytes before the offset at which the frames end, and at least one byte from there on, has the
-- same payloads, and then those of the bytes from that offset on.
pub reads_same : (n : ℕ) (old new : List ℕ) (k : ℕ)
    → take (size_of (records_up_to n old) - 1) new ≡ take (size_of (records_up_to n old) - 1) old
    → size_of (records_up_to n old) ≤ length new
    → records_up_to (length (records_up_to n old) + k) new
    ≡ records_up_to n old ++ records_up_to k (drop (size_of (records_up_to n old) - 1) new)
reads_same zero old new k same long = ap (λ (m : ℕ). records_up_to m new) (zero-add k)
reads_same (suc n) old new k same long = elim (cases_Bool (has_frame old)) [
  | inl has ↦ subst (λ (l : List (List ℕ)). records_up_to (length l + k) new
      ≡ l ++ records_up_to k (drop (size_of l - 1) new)) (sym (reads_more n old has))
      (with_frame n old new k has
      (subst (λ (l : List (List ℕ)). take (size_of l - 1) new ≡ take (size_of l - 1) old) (reads_more n old has) same)
      (subst (λ (l : List (List ℕ)). size_of l ≤ length new) (reads_more n old has) long)
      (reads_same n (drop (length_at old + 5) old) (drop (length_at old + 5) new) k))
  | inr none ↦ subst (λ (l : List (List ℕ)). records_up_to (length l + k) new
      ≡ l ++ records_up_to k (drop (size_of l - 1) new)) (sym (reads_none (suc n) old none))
      (ap (λ (m : ℕ). records_up_to m new) (zero-add k))
]
  where
    with_frame : (n : ℕ) (old new : List ℕ) (k : ℕ) → has_frame old ≡ true
        → take (size_of (take (length_at old) (drop 5 old) ∷ records_up_to n (drop (length_at old + 5) old)) - 1) new
        ≡ take (size_of (take (length_at old) (drop 5 old) ∷ records_up_to n (drop (length_at old + 5) old)) - 1)
        old
        → size_of (take (length_at old) (drop 5 old) ∷ records_up_to n (drop (length_at old + 5) old)) ≤ length new
        → (take (size_of (records_up_to n (drop (length_at old + 5) old)) - 1) (drop (length_at old + 5) new)
        ≡ take (size_of (records_up_to n (drop (length_at old + 5) old)) - 1) (drop (length_at old + 5) old)
        → size_of (records_up_to n (drop (length_at old + 5) old)) ≤ length (drop (length_at old + 5) new)
        → records_up_to (length (records_up_to n (drop (length_at old + 5) old)) + k) (drop (length_at old + 5) new)
        ≡ records_up_to n (drop (length_at old + 5) old)
        ++ records_up_to k (drop (size_of (records_up_to n (drop (length_at old + 5) old)) - 1)
        (drop (length_at old + 5) new)))
        → records_up_to (length (take (length_at old) (drop 5 old) ∷ records_up_to n (drop (length_at old + 5) old))
        + k) new
        ≡ (take (length_at old) (drop 5 old) ∷ records_up_to n (drop (length_at old + 5) old))
        ++ records_up_to k (drop (size_of
        (take (length_at old) (drop 5 old) ∷ records_up_to n (drop (length_at old + 5) old)) - 1) new)
    with_frame n old new k has same long rest =
        let len = length_at old in
        let later = records_up_to n (drop (len + 5) old) in
        let end = size_of (take len (drop 5 old) ∷ later) - 1 in
        let parts = frame_parts old has in
        let above = size-above later in
        let payload_long : length (take len (drop 5 old)) ≡ len =
        omega (arith, parts.2, length-take len (drop 5 old), length-drop 5 old) in
        let front : take (len + 5) new ≡ take (len + 5) old =
        sym (take-take (len + 5) end new (omega (arith, payload_long, above))) ∙ ap (take (len + 5)) same
        ∙ take-take (len + 5) end old (omega (arith, payload_long, above)) in
        let head : take 5 new ≡ take 5 old = sym (take-take 5 (len + 5) new (omega arith)) ∙ ap (take 5) front
        ∙ take-take 5 (len + 5) old (omega arith) in
        let gate : get_or new 0 0 ≡ 1 = sym (get_or-take 5 new 0 0 (omega arith))
        ∙ ap (λ (l : List ℕ). get_or l 0 0) head ∙ get_or-take 5 old 0 0 (omega arith) ∙ parts.0 in
        let same_length : length_at new ≡ len =
        ap (from_be_bytes w32) (sym (drop-take 1 4 new) ∙ ap (drop 1) head ∙ drop-take 1 4 old) in
        let has_new = frame_from new gate (omega (arith, same_length, parts.1))
        (omega (arith, same_length, long, payload_long, above)) in
        let same_payload : take len (drop 5 new) ≡ take len (drop 5 old) =
        sym (drop-take 5 len new) ∙ ap (λ (m : ℕ). drop 5 (take m new)) (add_comm 5 len) ∙ ap (drop 5) front
        ∙ ap (λ (m : ℕ). drop 5 (take m old)) (add_comm len 5) ∙ drop-take 5 len old in
        let split : len + 5 + (size_of later - 1) ≡ end = omega (arith, payload_long, above) in
        let same_rest : take (size_of later - 1) (drop (len + 5) new) ≡ take (size_of later - 1) (drop (len + 5) old) =
        sym (drop-take (len + 5) (size_of later - 1) new) ∙ ap (λ (m : ℕ). drop (len + 5) (take m new)) split
        ∙ ap (drop (len + 5)) same ∙ ap (λ (m : ℕ). drop (len + 5) (take m old)) (sym split)
        ∙ drop-take (len + 5) (size_of later - 1) old in
        let more_fuel : suc (length later) + k ≡ suc (length later + k) = omega arith in
        ap (λ (m : ℕ). records_up_to m new) more_fuel
        ∙ reads_more (length later + k) new has_new
        ∙ ap (λ (m : ℕ). take m (drop 5 new) ∷ records_up_to (length later + k) (drop (m + 5) new)) same_length
        ∙ ap (λ (p : List ℕ). p ∷ records_up_to (length later + k) (drop (len + 5) new)) same_payload
        ∙ ap (λ (l : List (List ℕ)). take len (drop 5 old) ∷ l)
        (rest same_rest (omega (arith, long, payload_long, length-drop (len + 5) new)))
        ∙ ap (λ (l : List ℕ). take len (drop 5 old) ∷ (later ++ records_up_to k l))
        (drop-drop (size_of later - 1) (len + 5) new ∙ ap (λ (m : ℕ). drop m new) split)
