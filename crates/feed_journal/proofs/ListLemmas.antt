-- A log's list is the payloads of its area, before an append and after it.
use Rattle.std.proofs.Common.{◌≡◌, ℕ, ◌+◌, ◌-◌, ◌<◌, ◌≤◌, List, [], ◌∷◌, ◌++◌, length, take, drop, refl, sym, ◌∙◌, ap}
use Rattle.std.proofs.Common.{subst, arith, add-zero, length-append}
use Rattle.std.specs.Int.{w32, to_be_bytes}
use Rattle.std.proofs.lemmas.List.{append_assoc, take_at, drop_at, drop-drop}
use Rattle.feed_disk.specs.Disk.{DiskState, written}
use Rattle.feed_disk.specs.declared.area.Area.{Area}
use Rattle.feed_journal.specs.Limits.{payload_limit, payload_count_limit}
use Rattle.feed_journal.specs.Log.{LogValue, ListsPayload, payloads_at, Follow}
use Rattle.feed_journal.specs.Records.{records, size_of, frame, tail_of, Begins}
use Rattle.feed_journal.specs.declared.extent.Extent.{Extent}
use Rattle.feed_journal.proofs.AppendLemmas.{begins_reads, written_staged, written_opens, appended, front-appended}
use Rattle.feed_journal.proofs.AppendLemmas.{back-appended, length-appended, reads-appended}
use Rattle.feed_journal.proofs.RecordLemmas.{size-push, small_read, small_push}
use Rattle.feed_journal.proofs.ExtentLemmas.{follow_above, listed_size, extents_same, payloads_push, length-payloads}

-- the payload of a frame
behind_header : (payload rest : List ℕ) → take (length payload) (drop 5 (frame payload ++ rest)) ≡ payload
behind_header payload rest =
    ap (λ (l : List ℕ). take (length payload) (drop 5 l))
    (append_assoc (1 ∷ to_be_bytes w32 (length payload)) payload rest)
    ∙ ap (take (length payload)) (drop_at (1 ∷ to_be_bytes w32 (length payload)) (payload ++ rest) 5 refl)
    ∙ take_at payload rest (length payload) refl

module _ (extents : List Extent) (size : ℕ) (content : List ℕ) (follow : Follow 0 extents size)
    (list : payloads_at extents content ≡ records content) (long : size ≤ length content) where
  pub is_size : size ≡ size_of (records content)
  is_size = sym (listed_size 0 extents size content follow long) ∙ add-zero (size_of (payloads_at extents content))
      ∙ ap size_of list

  pub how_many : length (records content) ≡ length extents
  how_many = sym (ap length list) ∙ length-payloads extents content

  module _ (payload new : List ℕ) (few : length extents < payload_count_limit) (short : length payload ≤ payload_limit)
      (wrote : new ≡ written (written content size (tail_of payload)) (size - 1) (1 ∷ [])) where
    fewer : length (records content) < payload_count_limit
    fewer = omega (arith, how_many)

    fits : size_of (records content) ≤ length content
    fits = omega (arith, is_size)

    is_appended : new ≡ appended content payload fewer short fits
    is_appended = wrote ∙ ap (λ (n : ℕ). written (written content n (tail_of payload)) (n - 1) (1 ∷ [])) is_size

    pub reads_new : records new ≡ records content ++ payload ∷ []
    reads_new = ap records is_appended ∙ reads-appended content payload fewer short fits

    pub size_new : size + length payload + 5 ≡ size_of (records new)
    size_new = omega (arith, is_size, size-push (records content) payload, ap size_of reads_new)

    pub long_new : size + length payload + 5 ≤ length new
    long_new = omega (arith, is_size, ap length is_appended, length-appended content payload fewer short fits)

    last_new : take (length payload) (drop (size + 4) new) ≡ payload
    last_new =
        let past : size_of (records content) - 1 + 5 ≡ size + 4 =
        omega (arith, is_size, follow_above 0 extents size follow) in
        let rest = drop (size_of (records content) + length (tail_of payload)) content in
        ap (λ (n : ℕ). take (length payload) (drop n new)) (sym past)
        ∙ ap (take (length payload)) (sym (drop-drop 5 (size_of (records content) - 1) new))
        ∙ ap (λ (l : List ℕ). take (length payload) (drop 5 (drop (size_of (records content) - 1) l))) is_appended
        ∙ ap (λ (l : List ℕ). take (length payload) (drop 5 l)) (back-appended content payload fewer short fits)
        ∙ behind_header payload (0 ∷ rest)

    same_front : take (size - 1) new ≡ take (size - 1) content
    same_front =
        ap (λ (n : ℕ). take (n - 1) new) is_size
        ∙ ap (take (size_of (records content) - 1)) is_appended
        ∙ front-appended content payload fewer short fits
        ∙ ap (λ (n : ℕ). take (n - 1) content) (sym is_size)

    pub list_new : payloads_at (extents ++ record { offset = size + 4; length = length payload } ∷ []) new ≡ records new
    list_new =
        payloads_push extents (record { offset = size + 4; length = length payload }) new
        ∙ ap (λ (l : List (List ℕ)). l ++ take (length payload) (drop (size + 4) new) ∷ [])
        (extents_same 0 extents size content new follow same_front ∙ list)
        ∙ ap (λ (p : List ℕ). records content ++ p ∷ []) last_new
        ∙ sym reads_new

    pub lists_new : (log : LogValue) → log.extents ≡ extents ++ record { offset = size + 4; length = length payload } ∷ []
        → log.size ≡ size + length payload + 5 → ListsPayload payload log content new
    lists_new log kept end = record {
      list = reads_new;
      listed = record {
        list = ap (λ (l : List Extent). payloads_at l new) kept ∙ list_new;
        long = omega (arith, end, long_new);
      };
      size = end ∙ size_new;
    }

-- if the content begins with its payloads' frames, so does the content after an append
module _ (s t : DiskState) (area : Area) (size : ℕ) (payload : List ℕ) (short : length payload ≤ payload_limit)
    (is_at : size ≡ size_of (records (s.content area))) (few : length (records (s.content area)) < payload_count_limit)
    (start : Begins (records (s.content area)) (s.content area))
    (wrote : t.content area ≡ written (written (s.content area) size (tail_of payload)) (size - 1) (1 ∷ [])) where
  pub begins_new : Begins (records (t.content area)) (t.content area)
  begins_new =
      let list = records (s.content area) in
      let small = small_read _ (s.content area) in
      let is : t.content area ≡ written (written (s.content area) (size_of list) (tail_of payload)) (size_of list - 1)
      (1 ∷ []) = wrote ∙ ap (λ (n : ℕ). written (written (s.content area) n (tail_of payload)) (n - 1) (1 ∷ []))
      is_at in
      let begins : Begins (list ++ payload ∷ []) (t.content area) =
      subst (Begins (list ++ payload ∷ [])) (sym is)
      (written_opens list payload small few short _
      (written_staged list payload small few short (s.content area) start)) in
      let pushed = small_push list payload small short in
      let reads = begins_reads (list ++ payload ∷ []) pushed (omega (arith, few, length-append list (payload ∷ [])))
      (t.content area) begins in
      subst (λ (l : List (List ℕ)). Begins l (t.content area)) (sym reads) begins
