-- The payload of an index, and its parts.
use Rattle.std.proofs.Common.{◌≡◌, inl, inr, ℕ, zero, suc, ◌+◌, ◌<◌, ◌≤◌, List, [], ◌∷◌, length, get_or, take, drop}
use Rattle.std.proofs.Common.{Some, sym, ◌∙◌, ap, subst, arith, length-take, length-drop}
use Rattle.std.specs.Prelude.{slice_get, option_map}
use Rattle.std.proofs.lemmas.Option.{slice_get-map, slice_get_within, get_or_from_slice_get}
use Rattle.std.proofs.lemmas.Bool.{cases_Bool}
use Rattle.std.proofs.lemmas.List.{drop-drop, drop-take, take-take}
use Rattle.feed_journal.specs.Log.{payloads_at, payload_lengths, Follow}
use Rattle.feed_journal.specs.Records.{length_at, has_frame, records_up_to, records}
use Rattle.feed_journal.specs.declared.extent.Extent.{Extent}
use Rattle.feed_journal.proofs.ExtentLemmas.{follow_above}
use Rattle.feed_journal.proofs.RecordLemmas.{frame_parts, reads_more, reads_none}

-- the first items and the rests of equal lists
pub heads : {T : Type 0} (x y : T) (xs ys : List T) → x ∷ xs ≡ y ∷ ys → (x ≡ y) × (xs ≡ ys)
heads x y xs ys same = (cc, cc)

pub extents_within : (n from : ℕ) (extents : List Extent) (size : ℕ) (content : List ℕ) → Follow from extents size
    → payloads_at extents content ≡ records_up_to n (drop from content) → (k : ℕ) (d : Extent) → k < length extents
    → (get_or extents k d).offset + (get_or extents k d).length ≤ length content
extents_within n from [] size content follow same k d inside = absurd (omega arith)
extents_within zero from (extent ∷ extents) size content follow same k d inside = absurd (cc)
extents_within (suc n) from (extent ∷ extents) size content follow same k d inside =
    elim (cases_Bool (has_frame (drop from content))) [
      | inr none ↦ absurd (nonempty (same ∙ reads_none (suc n) (drop from content) none))
      | inl has ↦
          let parts = frame_parts (drop from content) has in
          let len = length_at (drop from content) in
          let both = heads (take extent.length (drop extent.offset content)) (take len (drop 5 (drop from content)))
          (payloads_at extents content) (records_up_to n (drop (len + 5) (drop from content)))
          (same ∙ reads_more n (drop from content) has) in
          let fits : extent.length ≡ len = omega (
            arith,
            ap length both.0,
            follow.0,
            parts.2,
            length-drop from content,
            length-take extent.length (drop extent.offset content),
            length-drop extent.offset content,
            length-take len (drop 5 (drop from content)),
            length-drop 5 (drop from content),
          ) in
          at_place n from extent extents size content follow parts.2 fits both.1
          (extents_within n (from + extent.length + 5) extents size content follow.2) k d inside
    ]
  where
    nonempty : take extent.length (drop extent.offset content) ∷ payloads_at extents content ≡ [] → ⊥
    nonempty e = cc

    at_place : (n from : ℕ) (extent : Extent) (extents : List Extent) (size : ℕ) (content : List ℕ)
        → Follow from (extent ∷ extents) size → length_at (drop from content) + 6 ≤ length (drop from content)
        → extent.length ≡ length_at (drop from content)
        → payloads_at extents content ≡ records_up_to n (drop (length_at (drop from content) + 5) (drop from content))
        → (payloads_at extents content ≡ records_up_to n (drop (from + extent.length + 5) content)
        → (k : ℕ) (d : Extent) → k < length extents
        → (get_or extents k d).offset + (get_or extents k d).length ≤ length content)
        → (k : ℕ) (d : Extent) → k < length (extent ∷ extents)
        → (get_or (extent ∷ extents) k d).offset + (get_or (extent ∷ extents) k d).length ≤ length content
    at_place n from extent extents size content follow long fits rest later zero d inside =
        omega (arith, follow.0, long, fits, length-drop from content)
    at_place n from extent extents size content follow long fits rest later (suc k) d inside =
        let sum : from + (length_at (drop from content) + 5) ≡ from + extent.length + 5 = omega (arith, fits) in
        later (rest ∙ ap (records_up_to n)
        (drop-drop (length_at (drop from content) + 5) from content ∙ ap (λ (m : ℕ). drop m content) sum)) k d
        (omega arith)

-- each extent ends before the closed gate
extents_below : (from : ℕ) (extents : List Extent) (size : ℕ) → Follow from extents size → (k : ℕ) (d : Extent)
    → k < length extents → (get_or extents k d).offset + (get_or extents k d).length < size
extents_below from [] size follow k d inside = absurd (omega arith)
extents_below from (extent ∷ extents) size follow zero d inside =
    omega (arith, follow.0, follow_above (from + extent.length + 5) extents size follow.2)
extents_below from (extent ∷ extents) size follow (suc k) d inside =
    extents_below (from + extent.length + 5) extents size follow.2 k d (omega arith)

-- `n` bytes from `at` on, in a part of the bytes and in all of them
part_of : (at n whole offset : ℕ) (bytes : List ℕ) → at + n ≤ whole
    → take n (drop at (take whole (drop offset bytes))) ≡ take n (drop (offset + at) bytes)
part_of at n whole offset bytes inside =
    sym (drop-take at n (take whole (drop offset bytes)))
    ∙ ap (drop at) (take-take (at + n) whole (drop offset bytes) inside)
    ∙ drop-take at n (drop offset bytes)
    ∙ ap (take n) (drop-drop at offset bytes)

module _ (extents : List Extent) (k : ℕ) (extent : Extent) (place : slice_get extents k ≡ Some extent) where
  pub place_within : (size : ℕ) (content : List ℕ) → Follow 0 extents size
      → payloads_at extents content ≡ records content → extent.offset + extent.length ≤ length content
  place_within size content follow listed =
      subst (λ (p : Extent). p.offset + p.length ≤ length content) (get_or_from_slice_get extents k extent extent place)
      (extents_within _ 0 extents size content follow listed k extent (slice_get_within extents k extent place))

  pub place_length : slice_get (payload_lengths extents) k ≡ Some extent.length
  place_length = slice_get-map (λ (p : Extent). p.length) extents k ∙ ap (option_map (λ (p : Extent). p.length)) place

  pub place_below : (size : ℕ) → Follow 0 extents size → extent.offset + extent.length < size
  place_below size follow =
      subst (λ (p : Extent). p.offset + p.length < size) (get_or_from_slice_get extents k extent extent place)
      (extents_below 0 extents size follow k extent (slice_get_within extents k extent place))

  place_payload : (content : List ℕ) → payloads_at extents content ≡ records content
      → slice_get (records content) k ≡ Some (take extent.length (drop extent.offset content))
  place_payload content listed =
      ap (λ (l : List (List ℕ)). slice_get l k) (sym listed)
      ∙ slice_get-map (λ (p : Extent). take p.length (drop p.offset content)) extents k
      ∙ ap (option_map (λ (p : Extent). take p.length (drop p.offset content))) place

  -- bytes within an extent are that part of its payload
  pub place_part : (content payload old new : List ℕ) (at count : ℕ) → payloads_at extents content ≡ records content
      → slice_get (records content) k ≡ Some payload → at + count ≤ extent.length → length old ≡ count
      → new ≡ take (length old) (drop (extent.offset + at) content) → new ≡ take count (drop at payload)
  place_part content payload old new at count listed is inside long bytes =
      bytes
      ∙ ap (λ (n : ℕ). take n (drop (extent.offset + at) content)) long
      ∙ sym (part_of at count extent.length extent.offset content inside)
      ∙ ap (λ (l : List ℕ). take count (drop at l)) (same_payload (sym (place_payload content listed) ∙ is))
    where
      same_payload : {x y : List ℕ} → Some x ≡ Some y → x ≡ y
      same_payload e = cc

  -- the part that is as long as the extent is the payload
  pub place_whole : (content part : List ℕ) → payloads_at extents content ≡ records content
      → ((payload : List ℕ) → slice_get (records content) k ≡ Some payload
      → part ≡ take extent.length (drop 0 payload)) → slice_get (records content) k ≡ Some part
  place_whole content part listed is =
      let rest = drop extent.offset content in
      let payload = place_payload content listed in
      payload ∙ ap (λ (l : List ℕ). Some l)
      (sym (is (take extent.length rest) payload ∙ take-take extent.length extent.length rest (omega arith)))
