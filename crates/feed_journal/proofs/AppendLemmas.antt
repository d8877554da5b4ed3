-- The images and the content of an area after the two writes of an append.
use Rattle.std.proofs.Common.{◌≡◌, inl, inr, ℕ, suc, ◌+◌, ◌-◌, ◌<◌, ◌≤◌, min, List, [], ◌∷◌, ◌++◌, length, get_or, take}
use Rattle.std.proofs.Common.{drop, sym, ◌∙◌, ap, arith, length-append, length-take, length-drop, take-append-drop}
use Rattle.std.specs.Int.{w32, to_be_bytes}
use Rattle.std.proofs.lemmas.Bool.{cases_eq}
use Rattle.std.proofs.lemmas.List.{append-nil, append_assoc, take_at, drop_at, take-take, take-append-le, get_or_at}
use Rattle.std.proofs.lemmas.List.{drop_more}
use Rattle.feed_disk.specs.Disk.{written, Torn}
use Rattle.feed_journal.specs.Limits.{payload_limit, payload_count_limit}
use Rattle.feed_journal.specs.Records.{records_up_to, records, size_of, IsWhole, frame, frames, tail_of, Begins, IsStep}
use Rattle.feed_journal.proofs.RecordLemmas.{AreSmall, size-above, size-many, length-frames, frames-push, small_push}
use Rattle.feed_journal.proofs.RecordLemmas.{closed_none, reads_none, reads_frames, reads_frame, reads_same}

pub take-written : (old : List ℕ) (at n : ℕ) (bytes : List ℕ) → at ≤ length old → n ≤ at
    → take n (written old at bytes) ≡ take n old
take-written old at n bytes there front =
    ap (take n) (append_assoc (take at old) bytes (drop (at + length bytes) old))
    ∙ take-append-le n (take at old) (bytes ++ drop (at + length bytes) old) (omega (arith, length-take at old))
    ∙ take-take n at old front

pub drop-written : (old : List ℕ) (at : ℕ) (bytes : List ℕ) → at ≤ length old
    → drop at (written old at bytes) ≡ bytes ++ drop (at + length bytes) old
drop-written old at bytes there =
    ap (drop at) (append_assoc (take at old) bytes (drop (at + length bytes) old))
    ∙ drop_at (take at old) (bytes ++ drop (at + length bytes) old) at (omega (arith, length-take at old))

length-tail : (payload : List ℕ) → length (tail_of payload) ≡ length payload + 5
length-tail payload = omega (
  arith,
  length-append (to_be_bytes w32 (length payload) ++ payload) (0 ∷ []),
  length-append (to_be_bytes w32 (length payload)) payload,
)

-- an open gate and the tail are the frame and a closed gate
open_tail : (payload rest : List ℕ) → 1 ∷ (tail_of payload ++ rest) ≡ frame payload ++ 0 ∷ rest
open_tail payload rest =
    ap (λ (l : List ℕ). 1 ∷ l) (append_assoc (to_be_bytes w32 (length payload) ++ payload) (0 ∷ []) rest)

module _ (list : List (List ℕ)) (small : AreSmall list) (few : length list ≤ payload_count_limit) where
  size-begins : (bytes : List ℕ) → Begins list bytes → size_of list ≤ length bytes
  size-begins bytes begins = omega (
    arith,
    ap length begins.is,
    length-append (frames list) (begins.gate ∷ begins.rest),
    length-frames list,
  )

  pub begins_reads : (bytes : List ℕ) → Begins list bytes → records bytes ≡ list
  begins_reads bytes begins =
      let k = min (length bytes) payload_count_limit - length list in
      let fuel : min (length bytes) payload_count_limit ≡ length list + k =
      omega (arith, few, size-begins bytes begins, size-many list) in
      ap (λ (n : ℕ). records_up_to n bytes) fuel
      ∙ ap (records_up_to (length list + k)) begins.is
      ∙ reads_frames list k (begins.gate ∷ begins.rest) small (omega arith)
      ∙ ap (λ (l : List (List ℕ)). list ++ l)
      (reads_none k (begins.gate ∷ begins.rest) (closed_none (begins.gate ∷ begins.rest) begins.closed))
      ∙ append-nil list

  gate_at : (bytes : List ℕ) (gate : ℕ) (rest : List ℕ) → bytes ≡ frames list ++ gate ∷ rest
      → get_or bytes (size_of list - 1) 0 ≡ gate
  gate_at bytes gate rest is = ap (λ (l : List ℕ). get_or l (size_of list - 1) 0) is
      ∙ get_or_at (frames list) gate rest 0 (size_of list - 1) (omega (arith, length-frames list))

  pub begins_whole : (bytes : List ℕ) → Begins list bytes → IsWhole bytes
  begins_whole bytes begins = inr (λ open_gate.
      begins.closed (sym (ap (λ (l : List (List ℕ)). get_or bytes (size_of l - 1) 0) (begins_reads bytes begins)
      ∙ gate_at bytes begins.gate begins.rest begins.is) ∙ open_gate))

  pub begins_step : (payload bytes : List ℕ) → Begins list bytes → IsStep list payload bytes
  begins_step payload bytes begins = record
      { whole = begins_whole bytes begins; payloads = inl (begins_reads bytes begins) }

  -- the bytes after the gate may be anything
  pub torn_behind : (n : ℕ) (old new : List ℕ) → Begins list old → Torn (size_of list) n old new → Begins list new
  torn_behind n old new begins torn =
      let front : take (size_of list) old ≡ frames list ++ begins.gate ∷ [] =
      ap (take (size_of list)) (begins.is ∙ sym (append_assoc (frames list) (begins.gate ∷ []) begins.rest))
      ∙ take_at (frames list ++ begins.gate ∷ []) begins.rest (size_of list)
      (omega (arith, length-append (frames list) (begins.gate ∷ []), length-frames list)) in
      record {
        gate = begins.gate;
        rest = drop (size_of list) new;
        closed = begins.closed;
        is =
            sym (take-append-drop (size_of list) new)
            ∙ ap (λ (l : List ℕ). l ++ drop (size_of list) new) (torn.before ∙ front)
            ∙ append_assoc (frames list) (begins.gate ∷ []) (drop (size_of list) new);
      }

-- the frames, a gate, and the rest of a frame with a closed gate
pub record Staged (list : List (List ℕ)) (payload bytes : List ℕ) : Type 0 where
  pub gate : ℕ
  pub rest : List ℕ
  pub is : bytes ≡ frames list ++ gate ∷ (tail_of payload ++ rest)

module _ (list : List (List ℕ)) (payload : List ℕ) (small : AreSmall list) (few : length list < payload_count_limit)
    (short : length payload ≤ payload_limit) where
  pub written_staged : (old : List ℕ) → Begins list old
      → Staged list payload (written old (size_of list) (tail_of payload))
  written_staged old begins =
      let there : size_of list ≤ length old =
      omega (
        arith,
        ap length begins.is,
        length-append (frames list) (begins.gate ∷ begins.rest),
        length-frames list,
      ) in
      let new = written old (size_of list) (tail_of payload) in
      let front : take (size_of list) new ≡ frames list ++ begins.gate ∷ [] =
      take-written old (size_of list) (size_of list) (tail_of payload) there (omega arith)
      ∙ ap (take (size_of list)) (begins.is ∙ sym (append_assoc (frames list) (begins.gate ∷ []) begins.rest))
      ∙ take_at (frames list ++ begins.gate ∷ []) begins.rest (size_of list)
      (omega (arith, length-append (frames list) (begins.gate ∷ []), length-frames list)) in
      record {
        gate = begins.gate;
        rest = drop (size_of list + length (tail_of payload)) old;
        is =
            sym (take-append-drop (size_of list) new)
            ∙ ap (λ (l : List ℕ). l ++ drop (size_of list) new) front
            ∙ ap (λ (l : List ℕ). (frames list ++ begins.gate ∷ []) ++ l)
            (drop-written old (size_of list) (tail_of payload) there)
            ∙ append_assoc (frames list) (begins.gate ∷ [])
            (tail_of payload ++ drop (size_of list + length (tail_of payload)) old);
      }

  opened : (bytes rest : List ℕ) → bytes ≡ frames list ++ 1 ∷ (tail_of payload ++ rest)
      → Begins (list ++ payload ∷ []) bytes
  opened bytes rest is = record {
    gate = 0;
    rest = rest;
    closed = omega arith;
    is = is ∙ ap (λ (l : List ℕ). frames list ++ l) (open_tail payload rest)
        ∙ sym (frames-push list payload (0 ∷ rest));
  }

  pub staged_step : (bytes : List ℕ) → Staged list payload bytes → IsStep list payload bytes
  staged_step bytes staged = elim (cases_eq staged.gate 1) [
    | inl open_gate ↦
        let begins = opened bytes staged.rest
        (staged.is ∙ ap (λ (g : ℕ). frames list ++ g ∷ (tail_of payload ++ staged.rest)) open_gate) in
        let pushed = small_push list payload small short in
        let fits : length (list ++ payload ∷ []) ≤ payload_count_limit =
        omega (arith, few, length-append list (payload ∷ [])) in
        record {
          whole = begins_whole (list ++ payload ∷ []) pushed fits bytes begins;
          payloads = inr (begins_reads (list ++ payload ∷ []) pushed fits bytes begins);
        }
    | inr closed ↦ begins_step list small (omega arith) payload bytes
        (record { gate = staged.gate; rest = tail_of payload ++ staged.rest; closed = closed; is = staged.is })
  ]

  end : length (frames list) ≡ size_of list - 1
  end = omega (arith, length-frames list)

  -- the write of the gate may leave any gate, and leaves all else
  pub torn_gate : (old new : List ℕ) → Staged list payload old → Torn (size_of list - 1) 1 old new
      → Staged list payload new
  torn_gate old new staged torn =
      let at = size_of list - 1 in
      let behind = tail_of payload ++ staged.rest in
      let long : at < length old = omega (
        arith,
        ap length staged.is,
        length-append (frames list) (staged.gate ∷ behind),
        end,
      ) in
      let front : take at new ≡ frames list = torn.before ∙ ap (take at) staged.is
      ∙ take_at (frames list) (staged.gate ∷ behind) at end in
      let back : drop (at + 1) new ≡ behind =
      torn.after ∙ ap (drop (at + 1)) (staged.is ∙ sym (append_assoc (frames list) (staged.gate ∷ []) behind))
      ∙ drop_at (frames list ++ staged.gate ∷ []) behind (at + 1)
      (omega (arith, length-append (frames list) (staged.gate ∷ []), end)) in
      record {
        gate = get_or new at 0;
        rest = staged.rest;
        is =
            sym (take-append-drop at new)
            ∙ ap (λ (l : List ℕ). l ++ drop at new) front
            ∙ ap (λ (l : List ℕ). frames list ++ l)
            (drop_more new at 0 (omega (arith, torn.no_shorter, long))
            ∙ ap (λ (l : List ℕ). get_or new at 0 ∷ l) back);
      }

  -- the written gate is open
  pub written_opens : (old : List ℕ) → Staged list payload old
      → Begins (list ++ payload ∷ []) (written old (size_of list - 1) (1 ∷ []))
  written_opens old staged =
      let at = size_of list - 1 in
      let behind = tail_of payload ++ staged.rest in
      let long : at ≤ length old = omega (
        arith,
        ap length staged.is,
        length-append (frames list) (staged.gate ∷ behind),
        end,
      ) in
      let new = written old at (1 ∷ []) in
      let front : take at new ≡ frames list = take-written old at at (1 ∷ []) long (omega arith)
      ∙ ap (take at) staged.is ∙ take_at (frames list) (staged.gate ∷ behind) at end in
      let back : drop (at + 1) old ≡ behind =
      ap (drop (at + 1)) (staged.is ∙ sym (append_assoc (frames list) (staged.gate ∷ []) behind))
      ∙ drop_at (frames list ++ staged.gate ∷ []) behind (at + 1)
      (omega (arith, length-append (frames list) (staged.gate ∷ []), end)) in
      opened new staged.rest (
      sym (take-append-drop at new)
      ∙ ap (λ (l : List ℕ). l ++ drop at new) front
      ∙ ap (λ (l : List ℕ). frames list ++ l) (drop-written old at (1 ∷ []) long ∙ ap (λ (l : List ℕ). 1 ∷ l) back)
      )

-- An append over an area that has these payloads, and the bytes up to the offset at which their frames end.
module _ (content payload : List ℕ) (few : length (records content) < payload_count_limit)
    (short : length payload ≤ payload_limit) (long : size_of (records content) ≤ length content) where
  abbrev list : List (List ℕ)
  list = records content

  abbrev size : ℕ
  size = size_of list

  abbrev staged : List ℕ
  staged = written content size (tail_of payload)

  abbrev pub appended : List ℕ
  appended = written staged (size - 1) (1 ∷ [])

  length-staged : size + length payload + 5 ≤ length staged
  length-staged = omega (
    arith,
    long,
    length-tail payload,
    length-append (take size content ++ tail_of payload) (drop (size + length (tail_of payload)) content),
    length-append (take size content) (tail_of payload),
    length-take size content,
  )

  pub front-appended : take (size - 1) appended ≡ take (size - 1) content
  front-appended =
      take-written staged (size - 1) (size - 1) (1 ∷ []) (omega (arith, length-staged)) (omega arith)
      ∙ take-written content size (size - 1) (tail_of payload) long (omega arith)

  pub back-appended : drop (size - 1) appended ≡ frame payload ++ 0 ∷ drop (size + length (tail_of payload)) content
  back-appended =
      let step : size - 1 + 1 ≡ size = omega (arith, size-above list) in
      drop-written staged (size - 1) (1 ∷ []) (omega (arith, length-staged))
      ∙ ap (λ (n : ℕ). 1 ∷ drop n staged) step
      ∙ ap (λ (l : List ℕ). 1 ∷ l) (drop-written content size (tail_of payload) long)
      ∙ open_tail payload (drop (size + length (tail_of payload)) content)

  pub length-appended : size + length payload + 5 ≤ length appended
  length-appended =
      omega (
        arith,
        length-staged,
        size-above list,
        length-append (take (size - 1) staged ++ 1 ∷ []) (drop (size - 1 + 1) staged),
        length-append (take (size - 1) staged) (1 ∷ []),
        length-take (size - 1) staged,
        length-drop (size - 1 + 1) staged,
      )

  pub reads-appended : records appended ≡ list ++ payload ∷ []
  reads-appended =
      let rest = drop (size + length (tail_of payload)) content in
      let k = min (length appended) payload_count_limit - length list - 1 in
      let fuel : min (length appended) payload_count_limit ≡ length list + suc k =
      omega (arith, few, length-appended, size-many list) in
      ap (λ (n : ℕ). records_up_to n appended) fuel
      ∙ reads_same (min (length content) payload_count_limit) content appended (suc k) front-appended
      (omega (arith, length-appended))
      ∙ ap (λ (l : List ℕ). list ++ records_up_to (suc k) l) back-appended
      ∙ ap (λ (l : List (List ℕ)). list ++ l)
      (reads_frame payload (0 ∷ rest) short k (omega arith)
      ∙ ap (λ (l : List (List ℕ)). payload ∷ l) (reads_none k (0 ∷ rest) (closed_none (0 ∷ rest) (omega arith))))
