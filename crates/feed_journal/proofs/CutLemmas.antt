-- The payloads, the images and the moments of a gate that is closed after the first payloads of an area.
use Rattle.std.proofs.Common.{◌≡◌, inl, inr, ℕ, zero, suc, ◌+◌, ◌-◌, ◌<◌, ◌≤◌, min, max, false, List, [], ◌∷◌}
use Rattle.std.proofs.Common.{◌++◌, length, get_or, take, drop, refl, sym, ◌∙◌, ap, subst, arith, length-take}
use Rattle.std.proofs.Common.{length-drop, take-append-drop, add-zero, get_or-drop}
use Rattle.std.proofs.lemmas.Bool.{cases_Bool, cases_eq, cases_lt}
use Rattle.std.proofs.lemmas.List.{append-nil, drop-drop, drop_more, take-map, take_all, take_at}
use Rattle.feed_disk.specs.Disk.{DiskState, written, Torn, TornFrom}
use Rattle.feed_disk.specs.Moments.{AlwaysLeaves}
use Rattle.feed_disk.specs.declared.area.Area.{Area}
use Rattle.feed_disk.proofs.MomentLemmas.{always_weaker}
use Rattle.feed_journal.specs.Limits.{payload_count_limit}
use Rattle.feed_journal.specs.Log.{LogValue, payloads_at, Follow, KeepsLog, KeepsAll, KeepsFirst}
use Rattle.feed_journal.specs.Log.{ListsOnly}
use Rattle.feed_journal.specs.Records.{length_at, has_frame, records_up_to, records, size_of, frames, Begins, HasFirst}
use Rattle.feed_journal.specs.Records.{IsClosed, IsWhole, StartsWith}
use Rattle.feed_journal.specs.declared.extent.Extent.{Extent}
use Rattle.feed_journal.proofs.AppendLemmas.{take-written, drop-written}
use Rattle.feed_journal.proofs.ExtentLemmas.{follow_above, extents_same, length-payloads}
use Rattle.feed_journal.proofs.ReadLemmas.{heads}
use Rattle.feed_journal.proofs.RecordLemmas.{closed_none, few_read, frame_parts, length-frames, reads_more, reads_none}
use Rattle.feed_journal.proofs.RecordLemmas.{read_size, reads_same, size-above, size-many}

-- the first payloads are those that a smaller limit reads
pub take-records : (k n : ℕ) (bytes : List ℕ) → take k (records_up_to n bytes) ≡ records_up_to (min k n) bytes
take-records zero n bytes =
    let none : 0 ≡ min 0 n = omega arith in
    ap (λ (m : ℕ). records_up_to m bytes) none
take-records (suc k) zero bytes =
    let none : 0 ≡ min (suc k) 0 = omega arith in
    ap (λ (m : ℕ). records_up_to m bytes) none
take-records (suc k) (suc n) bytes = elim (cases_Bool (has_frame bytes)) [
  | inl has ↦
      let fewer : suc (min k n) ≡ min (suc k) (suc n) = omega arith in
      ap (take (suc k)) (reads_more n bytes has)
      ∙ ap (λ (l : List (List ℕ)). take (length_at bytes) (drop 5 bytes) ∷ l)
      (take-records k n (drop (length_at bytes + 5) bytes))
      ∙ sym (reads_more (min k n) bytes has)
      ∙ ap (λ (m : ℕ). records_up_to m bytes) fewer
  | inr none ↦ ap (take (suc k)) (reads_none (suc n) bytes none)
      ∙ sym (reads_none (min (suc k) (suc n)) bytes none)
]

module _ (payloads : List (List ℕ)) (bytes : List ℕ) (first : HasFirst payloads bytes) where
  pub first_few : length payloads ≤ min (length bytes) payload_count_limit
  first_few = omega (
    arith,
    ap length first,
    length-take (length payloads) (records bytes),
    few_read (min (length bytes) payload_count_limit) bytes,
  )

  pub first_read : records_up_to (length payloads) bytes ≡ payloads
  first_read =
      let fewer : length payloads ≡ min (length payloads) (min (length bytes) payload_count_limit) =
      omega (arith, first_few) in
      ap (λ (m : ℕ). records_up_to m bytes) fewer
      ∙ sym (take-records (length payloads) (min (length bytes) payload_count_limit) bytes) ∙ first

-- a byte written after the first payloads keeps them
pub torn_first : (payloads : List (List ℕ)) (old new : List ℕ) → HasFirst payloads old
    → Torn (size_of payloads - 1) 1 old new → HasFirst payloads new
torn_first [] old new first torn = refl
torn_first (payload ∷ payloads) old new first torn =
    let all = payload ∷ payloads in
    let count = length all in
    let is = first_read all old first in
    let few = first_few all old first in
    let size : size_of all ≤ length new = omega (
      arith,
      ap size_of is,
      read_size count old,
      torn.no_shorter,
      size-above payloads,
    ) in
    let k = min (length new) payload_count_limit - count in
    let fuel : min (length new) payload_count_limit ≡ length (records_up_to count old) + k =
    omega (arith, few, torn.no_shorter, ap length is) in
    let front : take (size_of (records_up_to count old) - 1) new ≡ take (size_of (records_up_to count old) - 1) old =
    subst (λ (l : List (List ℕ)). take (size_of l - 1) new ≡ take (size_of l - 1) old) (sym is) torn.before in
    let long : size_of (records_up_to count old) ≤ length new = omega (arith, ap size_of is, size) in
    let rest = records_up_to k (drop (size_of (records_up_to count old) - 1) new) in
    ap (take count) (ap (λ (n : ℕ). records_up_to n new) fuel ∙ reads_same count old new k front long
    ∙ ap (λ (l : List (List ℕ)). l ++ rest) is)
    ∙ take_at all rest count refl

pub torn_starts : (payloads : List (List ℕ)) (old new : List ℕ) → StartsWith payloads old
    → Torn (size_of payloads - 1) 1 old new → StartsWith payloads new
torn_starts payloads old new starts torn =
    let at = size_of payloads - 1 in
    let end : length (frames payloads) ≡ at = omega (arith, length-frames payloads) in
    record {
      rest = drop at new;
      is = sym (take-append-drop at new)
          ∙ ap (λ (l : List ℕ). l ++ drop at new)
          (torn.before ∙ ap (take at) starts.is ∙ take_at (frames payloads) starts.rest at end);
    }

module _ (s t : DiskState) (area : Area) (payloads : List (List ℕ)) (at : ℕ) (is_at : at ≡ size_of payloads - 1)
    (run : AlwaysLeaves s t area (TornFrom at 1 (s.image_now area))) where
  pub keeps_first : KeepsFirst s t area payloads
  keeps_first = record {
    starts = λ start. always_weaker s t area (TornFrom at 1 (s.image_now area)) (StartsWith payloads) (λ i from.
        torn_starts payloads from.0 i (start from.0 from.1)
        (subst (λ (a : ℕ). Torn a 1 from.0 i) is_at from.2)) run;
    first = λ start. always_weaker s t area (TornFrom at 1 (s.image_now area)) (HasFirst payloads) (λ i from.
        torn_first payloads from.0 i (start from.0 from.1)
        (subst (λ (a : ℕ). Torn a 1 from.0 i) is_at from.2)) run;
  }

-- the write of the gate after all payloads, over an open gate
module _ (old new : List ℕ) (open_one : IsWhole old → ⊥) (torn : Torn (size_of (records old) - 1) 1 old new) where
  abbrev at : ℕ
  at = size_of (records old) - 1

  not_short : 6 ≤ length old
  not_short = elim (cases_lt (length old) 6) [
    | inl short ↦ absurd (open_one (inl short))
    | inr enough ↦ enough
  ]

  gate : get_or old at 0 ≡ 1
  gate = elim (cases_eq (get_or old at 0) 1) [
    | inl is ↦ is
    | inr closed ↦ absurd (open_one (inr closed))
  ]

  inside : at < length old
  inside = omega (
    arith,
    not_short,
    read_size (min (length old) payload_count_limit) old,
    size-above (records old),
  )

  same_length : length new ≡ length old
  same_length = omega (arith, torn.no_shorter, torn.no_longer, inside)

  split : (bytes : List ℕ) → at < length bytes → bytes ≡ take at bytes ++ (get_or bytes at 0 ∷ drop (at + 1) bytes)
  split bytes below = sym (take-append-drop at bytes)
      ∙ ap (λ (l : List ℕ). take at bytes ++ l) (drop_more bytes at 0 below)

  pub torn_open : records new ≡ records old
  torn_open = elim (cases_eq (get_or new at 0) 1) [
    | inl same ↦ ap records (split new (omega (arith, inside, same_length))
        ∙ ap (λ (l : List ℕ). l ++ (get_or new at 0 ∷ drop (at + 1) new)) torn.before
        ∙ ap (λ (g : ℕ). take at old ++ (g ∷ drop (at + 1) new)) (same ∙ sym gate)
        ∙ ap (λ (l : List ℕ). take at old ++ (get_or old at 0 ∷ l)) torn.after
        ∙ sym (split old inside))
    | inr closed ↦
        let n = min (length old) payload_count_limit in
        let k = min (length new) payload_count_limit - length (records old) in
        let fuel : min (length new) payload_count_limit ≡ length (records old) + k =
        omega (arith, same_length, few_read n old) in
        let none : has_frame (drop at new) ≡ false = closed_none (drop at new)
        (λ is. closed (sym (get_or-drop at new 0 0 ∙ ap (λ (m : ℕ). get_or new m 0) (add-zero at)) ∙ is)) in
        ap (λ (m : ℕ). records_up_to m new) fuel
        ∙ reads_same n old new k torn.before (omega (arith, inside, same_length))
        ∙ ap (λ (l : List (List ℕ)). records old ++ l) (reads_none k (drop at new) none)
        ∙ append-nil (records old)
  ]

pub keeps_all : (s t : DiskState) (area : Area) (at : ℕ) → at ≡ size_of (records (s.content area)) - 1
    → AlwaysLeaves s t area (TornFrom at 1 (s.image_now area)) → KeepsAll s t area
keeps_all s t area at is_at run = λ synced open_one.
    always_weaker s t area (TornFrom at 1 (s.image_now area)) (λ i. records i ≡ records (s.content area)) (λ i from.
    let torn : Torn (size_of (records (s.content area)) - 1) 1 (s.content area) i =
    subst (λ (d : List ℕ). Torn (size_of (records (s.content area)) - 1) 1 d i) (synced from.0 from.1)
    (subst (λ (a : ℕ). Torn a 1 from.0 i) is_at from.2) in
    torn_open (s.content area) i open_one torn) run

-- the extents of the first payloads of the bytes
pub size_within : (n from : ℕ) (extents : List Extent) (size : ℕ) (content : List ℕ) → Follow from extents size
    → payloads_at extents content ≡ records_up_to n (drop from content) → size ≤ max (from + 1) (length content)
size_within n from [] size content follow same = omega (arith, follow)
size_within zero from (extent ∷ extents) size content follow same = absurd (cc)
size_within (suc n) from (extent ∷ extents) size content follow same =
    elim (cases_Bool (has_frame (drop from content))) [
      | inr none ↦ absurd (nonempty (same ∙ reads_none (suc n) (drop from content) none))
      | inl has ↦
          let parts = frame_parts (drop from content) has in
          let len = length_at (drop from content) in
          let both = heads (take extent.length (drop extent.offset content)) (take len (drop 5 (drop from content)))
          (payloads_at extents content) (records_up_to n (drop (len + 5) (drop from content)))
          (same ∙ reads_more n (drop from content) has) in
          let fits : extent.length ≡ len = omega (
            arith,
            ap length both.0,
            follow.0,
            parts.2,
            length-drop from content,
            length-take extent.length (drop extent.offset content),
            length-drop extent.offset content,
            length-take len (drop 5 (drop from content)),
            length-drop 5 (drop from content),
          ) in
          let sum : from + (len + 5) ≡ from + extent.length + 5 = omega (arith, fits) in
          omega (
            arith,
            parts.2,
            fits,
            length-drop from content,
            size_within n (from + extent.length + 5) extents size content follow.2
                (both.1 ∙ ap (records_up_to n)
                (drop-drop (len + 5) from content ∙ ap (λ (m : ℕ). drop m content) sum)),
          )
    ]
  where
    nonempty : take extent.length (drop extent.offset content) ∷ payloads_at extents content ≡ [] → ⊥
    nonempty e = cc

kept_size : (from : ℕ) (extents : List Extent) (size : ℕ) (bytes : List ℕ) → Follow from extents size
    → size ≤ length bytes + 1 → size_of (payloads_at extents bytes) + from ≡ size
kept_size from [] size bytes follow long = omega (arith, follow)
kept_size from (extent ∷ extents) size bytes follow long =
    omega (
      arith,
      follow.0,
      follow_above (from + extent.length + 5) extents size follow.2,
      kept_size (from + extent.length + 5) extents size bytes follow.2 long,
      length-take extent.length (drop extent.offset bytes),
      length-drop extent.offset bytes,
    )

-- The first payloads of the content are at these extents, which end before the gate at `size - 1`.
module _ (extents kept : List Extent) (size : ℕ) (content : List ℕ) (rules : KeepsLog kept size)
    (first : kept ≡ take (length kept) extents) (listed : payloads_at extents content ≡ records content) where
  abbrev pub payloads : List (List ℕ)
  payloads = take (length kept) (records content)

  abbrev fuel : ℕ
  fuel = min (length kept) (min (length content) payload_count_limit)

  kept_list : payloads_at kept content ≡ payloads
  kept_list =
      ap (λ (l : List Extent). payloads_at l content) first
      ∙ sym (take-map (λ (p : Extent). take p.length (drop p.offset content)) (length kept) extents)
      ∙ ap (take (length kept)) listed

  kept_read : payloads ≡ records_up_to fuel content
  kept_read = take-records (length kept) (min (length content) payload_count_limit) content

  within : size ≤ max 1 (length content)
  within = omega (arith, size_within fuel 0 kept size content rules.follow (kept_list ∙ kept_read))

  pub gate_within : size - 1 ≤ length content
  gate_within = omega (arith, within)

  pub is_size : size ≡ size_of payloads
  is_size = sym (kept_size 0 kept size content rules.follow (omega (arith, within)))
      ∙ add-zero (size_of (payloads_at kept content)) ∙ ap size_of kept_list

  pub is_gate : size - 1 ≡ size_of payloads - 1
  is_gate = ap (λ (n : ℕ). n - 1) is_size

  module _ (new : List ℕ) (wrote : new ≡ written content (size - 1) (0 ∷ [])) where
    front : take (size - 1) new ≡ take (size - 1) content
    front = ap (take (size - 1)) wrote ∙ take-written content (size - 1) (size - 1) (0 ∷ []) gate_within (omega arith)

    back : drop (size - 1) new ≡ 0 ∷ drop (size - 1 + 1) content
    back = ap (drop (size - 1)) wrote ∙ drop-written content (size - 1) (0 ∷ []) gate_within

    long : size ≤ length new
    long = omega (
      arith,
      ap length back,
      length-drop (size - 1) new,
      follow_above 0 kept size rules.follow,
    )

    reads : records new ≡ payloads
    reads =
        let many = records_up_to fuel content in
        let same : size ≡ size_of many = is_size ∙ ap size_of kept_read in
        let k = min (length new) payload_count_limit - length many in
        let enough : min (length new) payload_count_limit ≡ length many + k =
        omega (arith, few_read fuel content, size-many many, same, long) in
        let none : has_frame (drop (size_of many - 1) new) ≡ false = subst (λ (n : ℕ). has_frame (drop (n - 1) new) ≡ false)
        same (closed_none (drop (size - 1) new)
        (λ gate. absurd (omega (arith, sym (ap (λ (l : List ℕ). get_or l 0 0) back) ∙ gate)))) in
        ap (λ (n : ℕ). records_up_to n new) enough
        ∙ reads_same fuel content new k (subst (λ (n : ℕ). take (n - 1) new ≡ take (n - 1) content) same front)
        (omega (arith, same, long))
        ∙ ap (λ (l : List (List ℕ)). many ++ l) (reads_none k (drop (size_of many - 1) new) none)
        ∙ append-nil many
        ∙ sym kept_read

    closed : IsClosed new
    closed = λ gate.
        let end : size - 1 ≡ size_of (records new) - 1 = omega (arith, is_size, ap size_of reads) in
        let zero_there : get_or new (size - 1) 0 ≡ 0 =
        ap (λ (n : ℕ). get_or new n 0) (sym (add-zero (size - 1))) ∙ sym (get_or-drop (size - 1) new 0 0)
        ∙ ap (λ (l : List ℕ). get_or l 0 0) back in
        absurd (omega (arith, sym zero_there ∙ ap (λ (n : ℕ). get_or new n 0) end ∙ gate))

    pub lists_only : (log : LogValue) → log.extents ≡ kept → log.size ≡ size → ListsOnly payloads log content new
    lists_only log is end = record {
      content = wrote ∙ ap (λ (n : ℕ). written content n (0 ∷ [])) is_gate;
      closed = closed;
      list = reads;
      listed = record {
        list = ap (λ (l : List Extent). payloads_at l new) is
            ∙ extents_same 0 kept size content new rules.follow front ∙ kept_list ∙ sym reads;
        long = omega (arith, end, long);
      };
      size = end ∙ is_size;
    }

    pub begins_kept : StartsWith payloads content → Begins payloads new
    begins_kept starts =
        let end : length (frames payloads) ≡ size - 1 = omega (arith, length-frames payloads, is_size) in
        record {
          gate = 0;
          rest = drop (size - 1 + 1) content;
          closed = λ is. absurd (omega (arith, is));
          is = sym (take-append-drop (size - 1) new)
              ∙ ap (λ (l : List ℕ). l ++ drop (size - 1) new)
              (front ∙ ap (take (size - 1)) starts.is ∙ take_at (frames payloads) starts.rest (size - 1) end)
              ∙ ap (λ (l : List ℕ). frames payloads ++ l) back;
        }

-- the same where all payloads are kept
module _ (extents : List Extent) (size : ℕ) (content : List ℕ) (rules : KeepsLog extents size)
    (listed : payloads_at extents content ≡ records content) where
  is_all : extents ≡ take (length extents) extents
  is_all = sym (take_all (length extents) extents (omega arith))

  all_payloads : take (length extents) (records content) ≡ records content
  all_payloads = take_all (length extents) (records content)
      (omega (arith, ap length listed, length-payloads extents content))

  pub all_within : size - 1 ≤ length content
  all_within = gate_within extents extents size content rules is_all listed

  pub all_gate : size - 1 ≡ size_of (records content) - 1
  all_gate = is_gate extents extents size content rules is_all listed
      ∙ ap (λ (l : List (List ℕ)). size_of l - 1) all_payloads

  module _ (new : List ℕ) (wrote : new ≡ written content (size - 1) (0 ∷ [])) where
    pub lists_all : (log : LogValue) → log.extents ≡ extents → log.size ≡ size
        → ListsOnly (records content) log content new
    lists_all log is end = subst (λ (l : List (List ℕ)). ListsOnly l log content new) all_payloads
        (lists_only extents extents size content rules is_all listed new wrote log is end)

    pub begins_all : StartsWith (records content) content → Begins (records content) new
    begins_all starts = subst (λ (l : List (List ℕ)). Begins l new) all_payloads
        (begins_kept extents extents size content rules is_all listed new wrote
        (subst (λ (l : List (List ℕ)). StartsWith l content) (sym all_payloads) starts))

-- the first extents
follow_take : (from k : ℕ) (extents : List Extent) (size : ℕ) (d : Extent) → Follow from extents size
    → k < length extents → Follow from (take k extents) ((get_or extents k d).offset - 4)
follow_take from k [] size d follow inside = absurd (omega arith)
follow_take from zero (extent ∷ extents) size d follow inside = omega (arith, follow.0)
follow_take from (suc k) (extent ∷ extents) size d follow inside =
    (follow.0, follow.1, follow_take (from + extent.length + 5) k extents size d follow.2 (omega arith))

pub follow_offset : (from k : ℕ) (extents : List Extent) (size : ℕ) (d : Extent) → Follow from extents size
    → k < length extents → 4 ≤ (get_or extents k d).offset
follow_offset from k [] size d follow inside = absurd (omega arith)
follow_offset from zero (extent ∷ extents) size d follow inside = omega (arith, follow.0)
follow_offset from (suc k) (extent ∷ extents) size d follow inside =
    follow_offset (from + extent.length + 5) k extents size d follow.2 (omega arith)

pub keeps_take : (k : ℕ) (extents : List Extent) (size : ℕ) (d : Extent) → KeepsLog extents size → k < length extents
    → KeepsLog (take k extents) ((get_or extents k d).offset - 4)
keeps_take k extents size d keeps inside = record {
  follow = follow_take 0 k extents size d keeps.follow inside;
  few = omega (arith, keeps.few, length-take k extents);
}
