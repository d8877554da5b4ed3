-- The frames that the reads of a load find.
use Rattle.std.proofs.Common.{◌≡◌, inl, inr, ℕ, suc, ◌+◌, ◌-◌, ◌*◌, ◌<◌, ◌≤◌, min, true, false, ◌&&◌, leb, ltb, eqb}
use Rattle.std.proofs.Common.{List, [], ◌∷◌, ◌++◌, length, get_or, take, drop, Option, None, Some, refl, sym, ◌∙◌, ap}
use Rattle.std.proofs.Common.{subst, arith, length-append, length-take, length-drop, get_or-take, take-append-drop}
use Rattle.std.proofs.Common.{append_assoc}
use Rattle.std.specs.Prelude.{IfSome, slice_get}
use Rattle.std.specs.Int.{w32, to_be_bytes, from_be_bytes}
use Rattle.std.proofs.lemmas.Bool.{cases_Bool, cond-true, cond-false, and_parts, and_from, eqb-true, leb-true, ltb-true}
use Rattle.std.proofs.lemmas.Bool.{false_from_ne_true, eq-eqb, le-leb, lt-ltb, true≢false}
use Rattle.std.proofs.lemmas.List.{append-nil, take-take, drop-take, drop-drop}
use Rattle.feed_journal.specs.Limits.{payload_limit, payload_count_limit}
use Rattle.feed_journal.specs.Log.{payloads_at, Follow, IsScanned}
use Rattle.feed_journal.specs.Reading.{AreFirst}
use Rattle.feed_journal.specs.Records.{length_at, has_frame, records_up_to, records, frame, frames}
use Rattle.feed_journal.specs.Scan.{IsHeader, IsNext}
use Rattle.feed_journal.specs.declared.extent.Extent.{Extent}
use Rattle.feed_journal.proofs.RecordLemmas.{frame_parts, frame_from, reads_more, reads_none, short_none, frames-push}
use Rattle.feed_journal.proofs.ExtentLemmas.{follow_push, payloads_push, length-payloads}

module _ (bytes header : List ℕ) (behind : ℕ) (is_header : header ≡ take 5 bytes)
    (long : length bytes ≡ behind + 5) where
  same_gate : get_or header 0 0 ≡ get_or bytes 0 0
  same_gate = ap (λ (l : List ℕ). get_or l 0 0) is_header ∙ get_or-take 5 bytes 0 0 (omega arith)

  same_length : from_be_bytes w32 (take 4 (drop 1 header)) ≡ length_at bytes
  same_length =
      ap (from_be_bytes w32) (ap (λ (l : List ℕ). take 4 (drop 1 l)) is_header ∙ ap (take 4) (drop-take 1 4 bytes)
      ∙ take-take 4 4 (drop 1 bytes) (omega arith))

  has_same : (eqb (get_or header 0 0) 1 && leb (from_be_bytes w32 (take 4 (drop 1 header))) payload_limit
      && ltb (from_be_bytes w32 (take 4 (drop 1 header))) behind) ≡ true → has_frame bytes ≡ true
  has_same test =
      let outer = and_parts (eqb (get_or header 0 0) 1
      && leb (from_be_bytes w32 (take 4 (drop 1 header))) payload_limit)
      (ltb (from_be_bytes w32 (take 4 (drop 1 header))) behind) test in
      let inner = and_parts (eqb (get_or header 0 0) 1) (leb (from_be_bytes w32 (take 4 (drop 1 header))) payload_limit)
      outer.0 in
      frame_from bytes (sym same_gate ∙ eqb-true (get_or header 0 0) 1 inner.0)
      (omega (arith, same_length, leb-true _ _ inner.1))
      (omega (arith, same_length, long, ltb-true _ _ outer.1))

  lacks_same : (eqb (get_or header 0 0) 1 && leb (from_be_bytes w32 (take 4 (drop 1 header))) payload_limit
      && ltb (from_be_bytes w32 (take 4 (drop 1 header))) behind) ≡ false → has_frame bytes ≡ false
  lacks_same test = false_from_ne_true (has_frame bytes) (λ has.
      let parts = frame_parts bytes has in
      let gate : get_or header 0 0 ≡ 1 = same_gate ∙ parts.0 in
      let small : from_be_bytes w32 (take 4 (drop 1 header)) ≤ payload_limit = omega (arith, same_length, parts.1) in
      let fits : from_be_bytes w32 (take 4 (drop 1 header)) < behind = omega (arith, same_length, parts.2, long) in
      let holds = and_from _ _ (and_from _ _ (eq-eqb (get_or header 0 0) 1 gate) (le-leb _ payload_limit small))
      (lt-ltb _ behind fits) in
      true≢false (sym holds ∙ test))

  pub next_found : (found : Option ℕ) → IsHeader header behind found
      → IfSome found (λ n. to_be_bytes w32 n ≡ take 4 (drop 1 header)) → IsNext bytes found
  next_found found is spelt = elim (cases_Bool
      (eqb (get_or header 0 0) 1 && leb (from_be_bytes w32 (take 4 (drop 1 header))) payload_limit
      && ltb (from_be_bytes w32 (take 4 (drop 1 header))) behind)) [
        | inl test ↦
            let some : found ≡ Some (from_be_bytes w32 (take 4 (drop 1 header))) = is ∙ cond-true _ _ _ test in
            subst (IsNext bytes) (sym some) (
              has_same test,
              sym same_length,
              begins test (subst (λ (o : Option ℕ). IfSome o (λ n. to_be_bytes w32 n ≡ take 4 (drop 1 header))) some
                  spelt),
            )
        | inr test ↦
            let none : found ≡ None = is ∙ cond-false _ _ _ test in
            subst (IsNext bytes) (sym none) (lacks_same test)
      ]
    where
      begins : (eqb (get_or header 0 0) 1 && leb (from_be_bytes w32 (take 4 (drop 1 header))) payload_limit
          && ltb (from_be_bytes w32 (take 4 (drop 1 header))) behind) ≡ true
          → to_be_bytes w32 (from_be_bytes w32 (take 4 (drop 1 header))) ≡ take 4 (drop 1 header)
          → take 5 bytes ≡ 1 ∷ to_be_bytes w32 (from_be_bytes w32 (take 4 (drop 1 header)))
      begins test spelt =
          let gate : get_or bytes 0 0 ≡ 1 = (frame_parts bytes (has_same test)).0 in
          let head : take 5 bytes ≡ get_or bytes 0 0 ∷ take 4 (drop 1 bytes) = take_five bytes (omega (arith, long)) in
          let same : take 4 (drop 1 header) ≡ take 4 (drop 1 bytes) = ap (λ (l : List ℕ). take 4 (drop 1 l)) is_header
          ∙ ap (take 4) (drop-take 1 4 bytes) ∙ take-take 4 4 (drop 1 bytes) (omega arith) in
          head ∙ ap (λ (g : ℕ). g ∷ take 4 (drop 1 bytes)) gate ∙ ap (λ (l : List ℕ). 1 ∷ l) (sym same ∙ sym spelt)
        where
          take_five : (l : List ℕ) → 5 ≤ length l → take 5 l ≡ get_or l 0 0 ∷ take 4 (drop 1 l)
          take_five [] short = absurd (omega arith)
          take_five (x ∷ xs) enough = refl

pub follow_many : (from : ℕ) (extents : List Extent) (size : ℕ) → Follow from extents size
    → from + 5 * length extents < size
follow_many from [] size follow = omega arith
follow_many from (extent ∷ extents) size follow =
    omega (arith, follow_many (from + extent.length + 5) extents size follow.2)

get_behind : (before : List (List ℕ)) (x : List ℕ) (after : List (List ℕ))
    → slice_get (before ++ x ∷ after) (length before) ≡ Some x
get_behind [] x after = refl
get_behind (y ∷ before) x after = get_behind before x after

pub found_none : (content : List ℕ) → 0 < length content → AreFirst [] 0 content
found_none content some =
    let fuel : min (length content) payload_count_limit
    ≡ min (length content) payload_count_limit - length {A = Extent} [] = omega arith in
    record {
      below = some;
      so_far = ap (λ (n : ℕ). records_up_to n content) fuel;
      begins = refl;
    }

module _ (extents : List Extent) (end : ℕ) (content : List ℕ) (found : AreFirst extents end content)
    (follow : Follow 0 extents (end + 1)) where
  -- if no frame follows, these are all
  pub found_all : records_up_to (min (length content) payload_count_limit - length extents) (drop end content) ≡ []
      → IsScanned extents end content
  found_all none =
      let all : payloads_at extents content ≡ records content =
      sym (found.so_far ∙ ap (λ (l : List (List ℕ)). payloads_at extents content ++ l) none
      ∙ append-nil (payloads_at extents content)) in
      record { list = all; begins = found.begins ∙ ap (λ (l : List (List ℕ)). frames l ++ drop end content) all }

  pub found_last : has_frame (drop end content) ≡ false → IsScanned extents end content
  found_last none = found_all (reads_none (min (length content) payload_count_limit - length extents) (drop end content)
      none)

  pub found_end : length content < end + 6 → IsScanned extents end content
  found_end short = found_last (short_none (drop end content) (omega (arith, short, length-drop end content)))

  pub found_most : payload_count_limit ≤ length extents → IsScanned extents end content
  found_most most =
      let fuel : min (length content) payload_count_limit - length extents ≡ 0 = omega (arith, most) in
      found_all (ap (λ (n : ℕ). records_up_to n (drop end content)) fuel)

  -- one frame more
  module _ (few : length extents < payload_count_limit) (n : ℕ) (next : IsNext (drop end content) (Some n)) where
    abbrev extent : Extent
    extent = record { offset = end + 5; length = n }

    abbrev payload : List ℕ
    payload = take n (drop (end + 5) content)

    bytes : List ℕ
    bytes = drop end content

    short : end + n + 6 ≤ length content
    short = omega (arith, (frame_parts (drop end content) next.0).2, next.1, length-drop end content)

    fuel : min (length content) payload_count_limit - length extents
        ≡ suc (min (length content) payload_count_limit - length (extents ++ extent ∷ []))
    fuel = omega (arith, few, found.below, follow_many 0 extents (end + 1) follow, length-append extents (extent ∷ []))

    long : length payload ≡ n
    long = omega (arith, short, length-take n (drop (end + 5) content), length-drop (end + 5) content)

    later : drop (length_at (drop end content) + 5) (drop end content) ≡ drop (end + n + 5) content
    later =
        let sum : end + (length_at (drop end content) + 5) ≡ end + n + 5 = omega (arith, next.1) in
        drop-drop (length_at (drop end content) + 5) end content ∙ ap (λ (m : ℕ). drop m content) sum

    first : take (length_at (drop end content)) (drop 5 (drop end content)) ≡ payload
    first = ap (λ (m : ℕ). take m (drop 5 (drop end content))) next.1 ∙ ap (take n) (drop-drop 5 end content)

    pushed : payloads_at (extents ++ extent ∷ []) content ≡ payloads_at extents content ++ payload ∷ []
    pushed = payloads_push extents extent content

    framed : drop end content ≡ frame payload ++ drop (end + n + 5) content
    framed =
        let rest_of : end + 5 + n ≡ end + n + 5 = omega arith in
        sym (take-append-drop 5 (drop end content))
        ∙ ap (λ (l : List ℕ). l ++ drop 5 (drop end content))
        (next.2 ∙ ap (λ (m : ℕ). 1 ∷ to_be_bytes w32 m) (sym long))
        ∙ ap (λ (l : List ℕ). (1 ∷ to_be_bytes w32 (length payload)) ++ l)
        (drop-drop 5 end content ∙ sym (take-append-drop n (drop (end + 5) content))
        ∙ ap (λ (l : List ℕ). payload ++ l)
        (drop-drop n (end + 5) content ∙ ap (λ (m : ℕ). drop m content) rest_of))
        ∙ sym (append_assoc (1 ∷ to_be_bytes w32 (length payload)) payload (drop (end + n + 5) content))

    pub found_more : AreFirst (extents ++ extent ∷ []) (end + n + 5) content
    found_more = record {
      below = omega (arith, short);
      so_far =
          found.so_far
          ∙ ap (λ (m : ℕ). payloads_at extents content ++ records_up_to m (drop end content)) fuel
          ∙ ap (λ (l : List (List ℕ)). payloads_at extents content ++ l)
          (reads_more (min (length content) payload_count_limit - length (extents ++ extent ∷ []))
          (drop end content) next.0)
          ∙ ap (λ (p : List ℕ). payloads_at extents content
          ++ (p ∷ records_up_to (min (length content) payload_count_limit - length (extents ++ extent ∷ []))
          (drop (length_at (drop end content) + 5) (drop end content)))) first
          ∙ ap (λ (l : List ℕ). payloads_at extents content
          ++ (payload ∷ records_up_to (min (length content) payload_count_limit - length (extents ++ extent ∷ []))
          l)) later
          ∙ sym (append_assoc (payloads_at extents content) (payload ∷ [])
          (records_up_to (min (length content) payload_count_limit - length (extents ++ extent ∷ []))
          (drop (end + n + 5) content)))
          ∙ ap (λ (l : List (List ℕ)). l ++ records_up_to
          (min (length content) payload_count_limit - length (extents ++ extent ∷ [])) (drop (end + n + 5) content))
          (sym pushed);
      begins =
          found.begins
          ∙ ap (λ (l : List ℕ). frames (payloads_at extents content) ++ l) framed
          ∙ sym (frames-push (payloads_at extents content) payload (drop (end + n + 5) content))
          ∙ ap (λ (l : List (List ℕ)). frames l ++ drop (end + n + 5) content) (sym pushed);
    }

    pub payload_next : slice_get (records content) (length extents) ≡ Some payload
    payload_next =
        let rest = records_up_to (min (length content) payload_count_limit - length (extents ++ extent ∷ []))
        (drop (end + n + 5) content) in
        ap (λ (l : List (List ℕ)). slice_get l (length extents)) (found_more.so_far
        ∙ ap (λ (l : List (List ℕ)). l ++ rest) pushed
        ∙ append_assoc (payloads_at extents content) (payload ∷ []) rest)
        ∙ ap (slice_get (payloads_at extents content ++ payload ∷ rest)) (sym (length-payloads extents content))
        ∙ get_behind (payloads_at extents content) payload rest

pub follow_push_end : (extents : List Extent) (end n : ℕ) → Follow 0 extents (end + 1) → n ≤ payload_limit
    → Follow 0 (extents ++ record { offset = end + 5; length = n } ∷ []) (end + n + 5 + 1)
follow_push_end extents end n follow small =
    let extent : Extent = record { offset = end + 5; length = n } in
    let sum : end + 1 + n + 5 ≡ end + n + 5 + 1 = omega arith in
    subst (Follow 0 (extents ++ extent ∷ [])) sum (follow_push 0 extents (end + 1) extent follow (omega arith) small)
