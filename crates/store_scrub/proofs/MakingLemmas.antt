-- The second reading of a journal: what was read of it, and the seals that were appended.
use Rattle.std.proofs.Common.{◌≡◌, ◌≢◌, inl, inr, ℕ, zero, suc, ◌+◌, ◌<◌, ◌≤◌, min, max, List, [], ◌∷◌, ◌++◌, length}
use Rattle.std.proofs.Common.{map, take, Option, Some, None, All, refl, sym, ◌∙◌, ap, subst, arith, length-append}
use Rattle.std.proofs.Common.{Result, Ok, Err, length-take}
use Rattle.std.specs.Prelude.{OnOk, slice_get, option_map}
use Rattle.std.proofs.Math.Seq.{take-append_seam, take-length}
use Rattle.std.proofs.lemmas.Bool.{cases_lt}
use Rattle.std.proofs.lemmas.List.{length-map, take-take, take_all}
use Rattle.std.proofs.lemmas.Option.{get_or_from_slice_get, slice_get-map, slice_get_within}
use Rattle.archive_sealer.specs.Window.{IsFull}
use Rattle.atom_writer.specs.Pieced.{IsNoText, text_of}
use Rattle.atom_writer.specs.Pieces.{text}
use Rattle.atom_writer.proofs.PiecedLemmas.{one_reading}
use Rattle.feed_disk.specs.Disk.{DiskState}
use Rattle.feed_disk.specs.Moments.{AlwaysLeaves, LeavesAlone, NowOnly}
use Rattle.feed_disk.specs.declared.area.Area.{Area}
use Rattle.feed_disk.specs.declared.area.Area.TheVariants.{Journal, Sealed}
use Rattle.feed_disk.proofs.MomentLemmas.{alone_joins, alone_leaves, always_joins, always_weaker}
use Rattle.feed_journal.specs.Limits.{payload_count_limit}
use Rattle.feed_journal.specs.Log.{IsListed, KeepsAtRest, LeavesOneList, LogValue}
use Rattle.feed_journal.specs.Reading.{IsReading, ReadingValue}
use Rattle.feed_journal.specs.Records.{records, size_of, Begins, HasFirst, IsStep}
use Rattle.feed_journal.proofs.AppendLemmas.{begins_reads}
use Rattle.feed_journal.proofs.RecordLemmas.{small_read, few_read}
use Rattle.feed_recovery.specs.Loading.{IsReader, IsTaken, OnlyReads}
use Rattle.feed_recovery.specs.Opening.{IsJournal, journal_of, seal_of}
use Rattle.feed_recovery.specs.Stored.{seals_of}
use Rattle.feed_recovery.proofs.FaultLemmas.{some_same}
use Rattle.feed_recovery.proofs.HistoryLemmas.{take_next}
use Rattle.feed_recovery.proofs.LoadedLemmas.{begins_still}
use Rattle.feed_recovery.proofs.ReadingLemmas.{readable_alone, reads_begin}
use Rattle.member_rules.specs.Coding.{operations}
use Rattle.member_rules.specs.Documents.{archive}
use Rattle.member_rules.specs.Head.{HeadValue, IsHead}
use Rattle.member_rules.specs.History.{IsLawful}
use Rattle.member_rules.specs.Laws.{HasSealed as HasSealedWindows}
use Rattle.member_rules.specs.Operation.{IsOperation}
use Rattle.member_rules.specs.Windows.{windows_of}
use Rattle.member_rules.specs.declared.operation.Op.{Op}
use Rattle.member_rules.proofs.CutLemmas.{sealed-stay, windows-in_turn, windows-sealed}
use Rattle.member_rules.proofs.OperationLemmas.{operations_compared}
use Rattle.member_rules.proofs.ServedLemmas.{archive-stays, prefix-lawful}
use Rattle.store_scrub.specs.Making.{HasSeals, IsNoHistory, KeepsSeals, MakesAll, StopsWithoutRoom}
use Rattle.store_scrub.specs.Repair.{Fit}
use Rattle.store_scrub.specs.Steps.{HasAppended, HasMadeTo, HasSealed, IsAppendable, IsBegun, IsMakingFault, IsNext}
use Rattle.store_scrub.specs.Steps.{IsStepFault, IsTakeFault, IsWindowFault, KeepsRecords, LacksPlace}
use Rattle.store_scrub.specs.Steps.{LacksRoom, MakesTo, last_seal}
use Rattle.store_scrub.specs.declared.fault.RepairFault.{RepairFault}
use Rattle.store_scrub.specs.declared.fault.RepairFault.TheVariants.{NotInit, BadRecord, Full, DiskFault, NoMemory}

pub on-ok : {T E : Type 0} (result : Result T E) (P Q : Type 0) → (P → Q) → OnOk result P → OnOk result Q
on-ok (Ok value) P Q then holds = then holds
on-ok (Err fault) P Q then holds = tt

-- What was read of the journal.

-- the operation of a payload
record IsThere (history : List Op) (index : ℕ) (payload : List ℕ) : Type 0 where
  operation : Op
  there : slice_get history index ≡ Some operation
  rules : IsOperation operation
  bytes : payload ≡ text_of operations operation

operation-there : (found : Option Op) (history : List Op) (index : ℕ) (payload : List ℕ) → All IsOperation history
    → slice_get history index ≡ found → option_map (text_of operations) found ≡ Some payload
    → IsThere history index payload
operation-there None history index payload all there bytes = absurd (cc)
operation-there (Some operation) history index payload all there bytes = record {
  operation = operation;
  there = there;
  rules = subst IsOperation (get_or_from_slice_get history index operation operation there)
      (all index operation (slice_get_within history index operation there));
  bytes = sym (some_same (text_of operations operation) payload bytes);
}

payload-there : (payloads : List (List ℕ)) (head : HeadValue) (history : List Op) (index : ℕ) (payload : List ℕ)
    → IsJournal payloads head history → slice_get payloads (index + 1) ≡ Some payload → IsThere history index payload
payload-there payloads head history index payload is there =
    let next : suc index ≡ index + 1 = omega arith in
    operation-there (slice_get history index) history index payload is.lawful.operations refl
    (sym (slice_get-map (text_of operations) history index)
    ∙ ap (λ (l : List (List ℕ)). slice_get l (suc index)) (sym is.is)
    ∙ ap (λ (n : ℕ). slice_get payloads n) next ∙ there)

module _ (payloads : List (List ℕ)) (payload : List ℕ) (begun : List Op)
    (there : slice_get payloads (length begun + 1) ≡ Some payload) where
  pub begun-more : (head : HeadValue) (after : List Op) → IsBegun payloads head begun → IsTaken payload begun after
      → IsBegun payloads head after
  begun-more head after is taken other history journal =
      let before = is other history journal in
      let next = payload-there payloads other history (length begun) payload journal there in
      let same : taken.operation ≡ next.operation =
      one_reading operations operations_compared taken.operation next.operation taken.rules next.rules
      (sym taken.bytes ∙ next.bytes) in
      let count : length begun + 1 ≡ length after =
      omega (arith, ap length taken.history, length-append begun (taken.operation ∷ [])) in (
        before.0,
        taken.history ∙ ap (λ (o : Op). begun ++ o ∷ []) same
            ∙ ap (λ (l : List Op). l ++ next.operation ∷ []) before.1
            ∙ sym (take_next history (length begun) next.operation next.there)
            ∙ ap (λ (n : ℕ). take n history) count,
      )

  no-operation : IsNoText operations payload → (head : HeadValue) (history : List Op) → ¬ IsJournal payloads head history
  no-operation none head history journal =
      let next = payload-there payloads head history (length begun) payload journal there in
      none next.operation next.rules next.bytes

-- the first operations of a history
record IsFirstOf (begun history : List Op) : Type 0 where
  is : take (length begun) history ≡ begun
  within : length begun ≤ length history

first-of : (begun history : List Op) → begun ≡ take (length begun) history → IsFirstOf begun history
first-of begun history is = record {
  is = sym is;
  within = omega (arith, ap length is, length-take (length begun) history);
}

-- operations of which there is no more
all-begun : (payloads : List (List ℕ)) (head : HeadValue) (history begun : List Op) → IsJournal payloads head history
    → length payloads ≡ length history + 1
all-begun payloads head history begun journal =
    let is = ap length journal.is in
    omega (arith, is, length-map history (text_of operations))

-- The seals.

length-seals : (head : HeadValue) (history : List Op) (number : ℕ) → length (seals_of head history number) ≡ number
length-seals head history zero = refl
length-seals head history (suc number) = omega (
  arith,
  length-seals head history number,
  length-append (seals_of head history number) (seal_of head history (suc number) ∷ []),
)

seals-fewer : (head : HeadValue) (history : List Op) (number most : ℕ) → number ≤ most
    → take number (seals_of head history most) ≡ seals_of head history number
seals-fewer head history number zero within =
    let none : number ≡ 0 = omega arith in
    ap (λ (n : ℕ). take n (seals_of head history zero)) none ∙ ap (seals_of head history) (sym none)
seals-fewer head history number (suc most) within = elim (cases_lt most number) [
  | inl last ↦
      let is : suc most ≡ number = omega arith in
      subst (λ (n : ℕ). take n (seals_of head history (suc most)) ≡ seals_of head history n) is
      (ap (λ (n : ℕ). take n (seals_of head history (suc most))) (sym (length-seals head history (suc most)))
      ∙ take-length (seals_of head history (suc most)))
  | inr earlier ↦
      let count = length-seals head history most in
      let front : take most (seals_of head history (suc most)) ≡ seals_of head history most =
      ap (λ (n : ℕ). take n (seals_of head history (suc most))) (sym count)
      ∙ take-append_seam (seals_of head history most) (seal_of head history (suc most) ∷ []) in
      sym (take-take number most (seals_of head history (suc most)) earlier) ∙ ap (take number) front
      ∙ seals-fewer head history number most earlier
]

-- bytes whose first payloads are these have the first of them first
first-fewer : (head : HeadValue) (history : List Op) (number most : ℕ) (bytes : List ℕ) → number ≤ most
    → HasFirst (seals_of head history most) bytes → HasFirst (seals_of head history number) bytes
first-fewer head history number most bytes within has =
    ap (λ (n : ℕ). take n (records bytes)) (length-seals head history number)
    ∙ sym (take-take number most (records bytes) within)
    ∙ ap (λ (n : ℕ). take number (take n (records bytes))) (sym (length-seals head history most))
    ∙ ap (take number) has ∙ seals-fewer head history number most within

-- an image that begins with the payloads of a content and a closed gate
begun-reads : (content image : List ℕ) → Begins (records content) image → records image ≡ records content
begun-reads content image begins =
    let count = min (length content) payload_count_limit in
    begins_reads (records content) (small_read count content) (omega (arith, few_read count content)) image begins

begun-first : (content image : List ℕ) → Begins (records content) image → HasFirst (records content) image
begun-first content image begins =
    ap (take (length (records content))) (begun-reads content image begins) ∙ take-length (records content)

-- the seal of a full window is the same after more operations
seal-begun : (head : HeadValue) (begun history : List Op) (number : ℕ) → IsFirstOf begun history
    → number ≤ (windows_of head begun).full → seal_of head begun number ≡ seal_of head history number
seal-begun head begun history number first full =
    ap text (subst (λ (l : List Op). archive head l number ≡ archive head history number) first.is
    (archive-stays head history (length begun) number first.within
    (subst (λ (l : List Op). number ≤ (windows_of head l).full) (sym first.is) full)))

-- At the start.

pub made-begin : (disk : DiskState) (head : HeadValue) (begun : List Op) → IsHead head → begun ≡ []
    → MakesTo disk disk head begun
made-begin disk head begun is_head none other history kept has =
    let most = (windows_of head begun).sealed in
    let within = windows-sealed head begun is_head in
    let few : most ≡ 0 = omega (arith, within.full, within.few, ap length none) in
    let same : kept ≡ max kept most = omega arith in
    record {
      seals = has.seals ∙ ap (seals_of other history) same;
      fit = λ number above up_to. absurd (omega arith);
      rests = λ begins. subst (λ (n : ℕ). NowOnly disk Sealed (Begins (seals_of other history n))) same begins;
    }

-- over calls that leave the sealed area alone, each image has the seals first that are kept
pub keeps-alone : (s t : DiskState) → LeavesAlone s t Sealed → KeepsSeals s t
keeps-alone s t alone head history kept has begins =
    alone_leaves s t Sealed (HasFirst (seals_of head history kept)) (λ i may.
    subst (λ (l : List (List ℕ)). HasFirst l i) has.seals
    (begun-first (s.content Sealed) i
    (subst (λ (l : List (List ℕ)). Begins l i) (sym has.seals) (begins i may)))) alone

-- After one more operation, and the seal before it.

-- if the next seal isn't that of the last window, each window that is sealed now has its seal
sealed-still : (kept sealed full : ℕ) → sealed ≤ full → full ≤ sealed + 1
    → (full ≡ sealed + 1 → max kept sealed ≡ sealed → ⊥)
    → (max kept sealed ≡ max kept full) × ((number : ℕ) → kept < number → number ≤ full → number ≤ sealed)
sealed-still kept sealed full low high not = elim (cases_lt sealed full) [
  | inr none ↦ (omega arith, λ number above within. omega arith)
  | inl more ↦ elim (cases_lt sealed kept) [
    | inl past ↦ (omega arith, λ number above within. omega arith)
    | inr missing ↦ absurd (not (omega arith) (omega arith))
  ]
]

module _ (s m t : DiskState) (head : HeadValue) (begun after : List Op) (operation : Op)
    (is : after ≡ begun ++ operation ∷ []) (is_head : IsHead head)
    (first : IsBegun (records (s.content Journal)) head begun) (made : MakesTo s m head begun) where
  abbrev sealed : ℕ
  sealed = (windows_of head begun).sealed

  abbrev now_sealed : ℕ
  now_sealed = (windows_of head after).sealed

  turn : now_sealed ≡ (windows_of head begun).full
  turn = ap (λ (l : List Op). (windows_of head l).sealed) is ∙ (windows-in_turn head begun operation is_head).full

  -- no seal was appended
  made-still : ¬ IsNext head begun (length (records (m.content Sealed))) → LeavesAlone m t Sealed
      → MakesTo s t head after
  made-still not alone other history kept has =
      let before = made other history kept has in
      let within = windows-sealed head begun is_head in
      let still = sealed-still kept sealed now_sealed (omega (arith, turn, within.full))
      (omega (arith, turn, within.all_but_one)) (λ full count. not (
        sym turn ∙ full,
        ap length before.seals ∙ length-seals other history (max kept sealed) ∙ count,
      )) in
      record {
        seals = ap records alone.content ∙ before.seals ∙ ap (seals_of other history) still.0;
        fit = λ number above up_to. before.fit number above (still.1 number above up_to);
        rests = λ begins. subst (λ (n : ℕ). NowOnly t Sealed (Begins (seals_of other history n))) still.0
            (λ i may. before.rests begins i (alone.now i may));
      }

  -- the seal of the last window was appended
  made-one : IsNext head begun (length (records (m.content Sealed)))
      → HasAppended m t (last_seal head begun) head.capacity → MakesTo s t head after
  made-one next appended other history kept has =
      let before = made other history kept has in
      let so = first other history has.is_journal in
      let count : max kept sealed ≡ sealed =
      sym (length-seals other history (max kept sealed)) ∙ sym (ap length before.seals) ∙ next.1 in
      let now : now_sealed ≡ suc sealed = omega (arith, turn, next.0) in
      let all : suc sealed ≡ max kept now_sealed = omega arith in
      let plus : sealed + 1 ≡ suc sealed = omega arith in
      let seal : last_seal head begun ≡ seal_of other history (suc sealed) =
      ap (λ (n : ℕ). seal_of head begun n) plus
      ∙ seal-begun head begun history (suc sealed) (first-of begun history so.1) (omega (arith, next.0))
      ∙ ap (λ (h : HeadValue). seal_of h history (suc sealed)) (sym so.0) in
      let list : records (t.content Sealed) ≡ seals_of other history (suc sealed) =
      appended.list ∙ ap (λ (l : List (List ℕ)). l ++ last_seal head begun ∷ []) before.seals
      ∙ ap (λ (n : ℕ). seals_of other history n ++ last_seal head begun ∷ []) count
      ∙ ap (λ (l : List ℕ). seals_of other history sealed ++ l ∷ []) seal in
      let fits : size_of (seals_of other history (suc sealed)) ≤ other.capacity =
      subst (λ (h : HeadValue). size_of (seals_of other history (suc sealed)) ≤ h.capacity) (sym so.0)
      (subst (λ (l : List (List ℕ)). size_of l ≤ head.capacity) list appended.fits) in
      record {
        seals = list ∙ ap (seals_of other history) all;
        fit = λ number above up_to. elim (cases_lt sealed number) [
          | inl last ↦
              let here : suc sealed ≡ number = omega arith in
              subst (λ (n : ℕ). size_of (seals_of other history n) ≤ other.capacity) here fits
          | inr earlier ↦ before.fit number above earlier
        ];
        rests = λ begins. subst (λ (n : ℕ). NowOnly t Sealed (Begins (seals_of other history n))) all
            (subst (λ (l : List (List ℕ)). NowOnly t Sealed (Begins l)) list
            (appended.rests (subst (λ (l : List (List ℕ)). NowOnly m Sealed (Begins l)) (sym before.seals)
            (before.rests begins))));
      }

  pub made-more : HasSealed m t head begun → MakesTo s t head after
  made-more (inl none) = made-still none.0 none.1
  made-more (inr one) = made-one one.0 one.1

-- each image has the seals first that were kept
pub keeps-more : (s m t : DiskState) (head : HeadValue) (begun : List Op) → MakesTo s m head begun → KeepsSeals s m
    → KeepsRecords m t → KeepsSeals s t
keeps-more s m t head begun made run more other history kept has begins =
    let before = made other history kept has in
    let most = max kept (windows_of head begun).sealed in
    let kept_first = HasFirst (seals_of other history kept) in
    always_joins s m t Sealed kept_first (run other history kept has begins)
    (always_weaker m t Sealed (HasFirst (records (m.content Sealed))) kept_first (λ i has_first.
    first-fewer other history kept most i (omega arith)
    (subst (λ (l : List (List ℕ)). HasFirst l i) before.seals has_first))
    (more (subst (λ (l : List (List ℕ)). NowOnly m Sealed (Begins l)) (sym before.seals) (before.rests begins))))

-- over calls that leave the sealed area alone
pub made-alone : (s m t : DiskState) (head : HeadValue) (begun : List Op) → MakesTo s m head begun
    → LeavesAlone m t Sealed → MakesTo s t head begun
made-alone s m t head begun made alone other history kept has =
    let before = made other history kept has in
    record {
      seals = ap records alone.content ∙ before.seals;
      fit = before.fit;
      rests = λ begins i may. before.rests begins i (alone.now i may);
    }

-- At the end.

-- the journal's whole history was read
pub made-all : (s t : DiskState) (head : HeadValue) (begun : List Op)
    → IsBegun (records (s.content Journal)) head begun → length (records (s.content Journal)) ≡ length begun + 1
    → MakesTo s t head begun → MakesAll s t
made-all s t head begun first all made other history kept has =
    let before = made other history kept has in
    let so = first other history has.is_journal in
    let count = all-begun (records (s.content Journal)) other history begun has.is_journal in
    let whole : begun ≡ history = so.1 ∙ take_all (length begun) history (omega (arith, count, all)) in
    let same : (windows_of head begun).sealed ≡ (windows_of other history).sealed =
    ap (λ (h : HeadValue). (windows_of h begun).sealed) (sym so.0)
    ∙ ap (λ (l : List Op). (windows_of other l).sealed) whole in
    record {
      seals = before.seals ∙ ap (λ (n : ℕ). seals_of other history (max kept n)) same;
      fit = subst (Fit other history kept) same before.fit;
      rests = λ begins.
          subst (λ (n : ℕ). NowOnly t Sealed (Begins (seals_of other history (max kept n)))) same (before.rests begins);
    }

-- one operation more of a history
record IsNextOf {T : Type 0} (xs : List T) (count : ℕ) : Type 0 where
  next : T
  is : take (suc count) xs ≡ take count xs ++ next ∷ []

next-of : {T : Type 0} (xs : List T) (count : ℕ) → count < length xs → IsNextOf xs count
next-of [] count within = absurd (omega arith)
next-of (x ∷ xs) zero within = record { next = x; is = refl }
next-of (x ∷ xs) (suc count) within =
    let later = next-of xs count (omega arith) in
    record { next = later.next; is = ap (λ (l : List _). x ∷ l) later.is }

-- a window that is full is sealed by an operation after it
sealed-later : (head : HeadValue) (begun history : List Op) → IsHead head → IsFirstOf begun history
    → length begun < length history → IsFull head begun
    → (windows_of head begun).sealed < (windows_of head history).sealed
sealed-later head begun history is_head first more full =
    let next = next-of history (length begun) more in
    let longer : take (suc (length begun)) history ≡ begun ++ next.next ∷ [] =
    next.is ∙ ap (λ (l : List Op). l ++ next.next ∷ []) first.is in
    let turn = ap (λ (l : List Op). (windows_of head l).sealed) longer in
    omega (
      arith,
      turn,
      full,
      (windows-in_turn head begun next.next is_head).full,
      sealed-stay head history (suc (length begun)) is_head (omega arith),
    )

-- the next seal has no room
pub made-full : (s m t : DiskState) (head : HeadValue) (begun : List Op) (size needed capacity : ℕ) → IsHead head
    → IsBegun (records (s.content Journal)) head begun → length begun + 1 < length (records (s.content Journal))
    → MakesTo s m head begun → LacksPlace m t head begun size needed capacity
    → StopsWithoutRoom s t size needed capacity
made-full s m t head begun size needed capacity is_head first more made lacks other history kept has =
    let before = made other history kept has in
    let so = first other history has.is_journal in
    let of = first-of begun history so.1 in
    let count = all-begun (records (s.content Journal)) other history begun has.is_journal in
    let sealed = (windows_of head begun).sealed in
    let up_to : max kept sealed ≡ sealed =
    sym (length-seals other history (max kept sealed)) ∙ sym (ap length before.seals) ∙ lacks.next.1 in
    let seals : records (m.content Sealed) ≡ seals_of other history sealed =
    before.seals ∙ ap (seals_of other history) up_to in
    let room = lacks.lacks in
    let later = sealed-later head begun history is_head of (omega (arith, count, more)) lacks.next.0 in
    let seal : last_seal head begun ≡ seal_of other history (sealed + 1) =
    seal-begun head begun history (sealed + 1) of (omega (arith, lacks.next.0))
    ∙ ap (λ (h : HeadValue). seal_of h history (sealed + 1)) (sym so.0) in
    record {
      number = sealed;
      from = omega (arith, up_to);
      missing = subst (λ (h : HeadValue). sealed < (windows_of h history).sealed) (sym so.0) later;
      fit = before.fit;
      size_is = room.size_is ∙ ap size_of seals;
      needed_is = room.needed_is ∙ ap (λ (l : List ℕ). length l + 5) seal;
      capacity_is = room.capacity_is ∙ ap (λ (h : HeadValue). h.capacity) (sym so.0);
      past = room.past;
      stays = ap records room.same ∙ seals;
    }

-- Why a step fails.

pub take-fails : (s t : DiskState) (head : HeadValue) (history : List Op) (payload : List ℕ) (fault : RepairFault)
    → slice_get (records (s.content Journal)) (length history + 1) ≡ Some payload → IsTakeFault payload fault
    → IsStepFault s t head history fault
take-fails s t head history payload NotInit there why = absurd why
take-fails s t head history payload (BadRecord area index at) there why =
    no-operation (records (s.content Journal)) payload history there why
take-fails s t head history payload (Full size needed capacity) there why = absurd why
take-fails s t head history payload DiskFault there why = absurd why
take-fails s t head history payload NoMemory there why = tt

no-lawful : (payloads : List (List ℕ)) (head : HeadValue) (begun : List Op) → IsBegun payloads head begun
    → ¬ IsLawful head begun → (other : HeadValue) (history : List Op) → ¬ IsJournal payloads other history
no-lawful payloads head begun first not other history journal =
    let so = first other history journal in
    not (subst (λ (h : HeadValue). IsLawful h begun) so.0
    (subst (IsLawful other) (sym so.1) (prefix-lawful other history (length begun) journal.lawful)))

pub window-fails : (s m t : DiskState) (head : HeadValue) (begun : List Op) (fault : RepairFault) → OnlyReads s m
    → IsBegun (records (s.content Journal)) head begun → length begun + 1 < length (records (s.content Journal))
    → IsWindowFault m t head begun fault → IsStepFault s t head begun fault
window-fails s m t head begun NotInit reads first more why = absurd why
window-fails s m t head begun (BadRecord area index at) reads first more why =
    no-lawful (records (s.content Journal)) head begun first why
window-fails s m t head begun (Full size needed capacity) reads first more why =
    let same = (reads.areas Sealed).content in (
      record {
        next = subst (λ (l : List ℕ). IsNext head begun (length (records l))) same why.next;
        lacks = record {
          size_is = subst (λ (l : List ℕ). size ≡ size_of (records l)) same why.lacks.size_is;
          needed_is = why.lacks.needed_is;
          capacity_is = why.lacks.capacity_is;
          past = why.lacks.past;
          same = why.lacks.same ∙ same;
        };
      },
      more,
    )
window-fails s m t head begun DiskFault reads first more why = tt
window-fails s m t head begun NoMemory reads first more why = tt

-- the journal was left alone until the step that fails
pub step-fails : (s m t : DiskState) (head : HeadValue) (begun : List Op) (fault : RepairFault) → IsHead head
    → m.content Journal ≡ s.content Journal → IsBegun (records (s.content Journal)) head begun
    → MakesTo s m head begun → IsStepFault m t head begun fault → IsMakingFault s t fault
step-fails s m t head begun NotInit is_head same first made why =
    subst (λ (l : List ℕ). (h : HeadValue) (history : List Op) → ¬ IsJournal (records l) h history) same why
step-fails s m t head begun (BadRecord area index at) is_head same first made why =
    subst (λ (l : List ℕ). (h : HeadValue) (history : List Op) → ¬ IsJournal (records l) h history) same why
step-fails s m t head begun (Full size needed capacity) is_head same first made why =
    made-full s m t head begun size needed capacity is_head first
    (subst (λ (l : List ℕ). length begun + 1 < length (records l)) same why.1) made why.0
step-fails s m t head begun DiskFault is_head same first made why = tt
step-fails s m t head begun NoMemory is_head same first made why = tt

-- After calls that leave each area alone.

module _ (s m t : DiskState) (alone : (a : Area) → LeavesAlone s m a) where
  has-later : (head : HeadValue) (history : List Op) (kept : ℕ) → HasSeals s head history kept
      → HasSeals m head history kept
  has-later head history kept has = record {
    is_journal = subst (λ (l : List ℕ). IsJournal (records l) head history) (sym (alone Journal).content)
        has.is_journal;
    archived = has.archived;
    seals = ap records (alone Sealed).content ∙ has.seals;
  }

  pub makes-later : MakesAll m t → MakesAll s t
  makes-later made head history kept has =
      let all = made head history kept (has-later head history kept has) in
      record {
        seals = all.seals;
        fit = all.fit;
        rests = λ begins. all.rests (λ i may. begins i ((alone Sealed).now i may));
      }

  pub keeps-later : KeepsSeals m t → KeepsSeals s t
  keeps-later keeps head history kept has begins =
      always_joins s m t Sealed (HasFirst (seals_of head history kept))
      (keeps-alone s m (alone Sealed) head history kept has begins)
      (keeps head history kept (has-later head history kept has) (λ i may. begins i ((alone Sealed).now i may)))

  pub fails-later : (fault : RepairFault) → IsMakingFault m t fault → IsMakingFault s t fault
  fails-later NotInit why = λ head history journal.
      why head history (subst (λ (l : List ℕ). IsJournal (records l) head history) (sym (alone Journal).content) journal)
  fails-later (BadRecord area index at) why = λ head history journal.
      why head history (subst (λ (l : List ℕ). IsJournal (records l) head history) (sym (alone Journal).content) journal)
  fails-later (Full size needed capacity) why = λ head history kept has.
      why head history kept (has-later head history kept has)
  fails-later DiskFault why = tt
  fails-later NoMemory why = tt

-- A step after a frame was read.

pub sealed-after : (s m t : DiskState) (head : HeadValue) (history : List Op) → OnlyReads s m
    → HasSealed m t head history → HasSealed s t head history
sealed-after s m t head history reads (inl none) =
    let same = (reads.areas Sealed).content in
    inl (
      subst (λ (l : List ℕ). ¬ IsNext head history (length (records l))) same none.0,
      alone_joins s m t Sealed (reads.areas Sealed) none.1,
    )
sealed-after s m t head history reads (inr one) =
    let same = (reads.areas Sealed).content in
    inr (
      subst (λ (l : List ℕ). IsNext head history (length (records l))) same one.0,
      record {
        list = one.1.list ∙ ap (λ (l : List ℕ). records l ++ last_seal head history ∷ []) same;
        fits = one.1.fits;
        rests = λ begins. one.1.rests (begins_still s m Sealed (reads.areas Sealed) begins);
      },
    )

-- over calls that only read
pub keeps-reads : (s t : DiskState) → OnlyReads s t → KeepsRecords s t
keeps-reads s t reads begins =
    alone_leaves s t Sealed (HasFirst (records (s.content Sealed))) (λ i may. begun-first (s.content Sealed) i
    (begins i may)) (reads.areas Sealed)

pub keeps-still : (s : DiskState) → KeepsRecords s s
keeps-still s = keeps-reads s s (reads_begin s)

pub keeps-after : (s m t : DiskState) → OnlyReads s m → KeepsRecords m t → KeepsRecords s t
keeps-after s m t reads run begins =
    let same = ap records (reads.areas Sealed).content in
    always_joins s m t Sealed (HasFirst (records (s.content Sealed))) (keeps-reads s m reads begins)
    (subst (λ (l : List (List ℕ)). AlwaysLeaves m t Sealed (HasFirst l)) same
    (run (begins_still s m Sealed (reads.areas Sealed) begins)))

pub appendable-after : (observable : Type 0) (s m : DiskState) (log : LogValue) → OnlyReads s m
    → IsAppendable observable s log → IsAppendable observable m log
appendable-after observable s m log reads is = record {
  readable = readable_alone observable s m Sealed log is.readable reads;
  listed = λ tells. subst (IsListed log) (sym (reads.areas Sealed).content) (is.listed tells);
}

pub reader-after : (observable : Type 0) (s t : DiskState) (reader : ReadingValue) → IsReader observable s reader
    → LeavesAlone s t Journal → IsReader observable t reader
reader-after observable s t reader is alone = record {
  area = is.area;
  unspent = is.unspent;
  reading = λ tells. subst (IsReading reader) (sym alone.content) (is.reading tells);
}

-- while a payload is appended, those before it stay first
pub append-keeps : (s t : DiskState) (payload : List ℕ) → LeavesOneList s t Sealed payload → KeepsRecords s t
append-keeps s t payload run begins =
    let before = records (s.content Sealed) in
    always_weaker s t Sealed (IsStep before payload) (HasFirst before) (λ i step. elim step.payloads [
      | inl same ↦ ap (take (length before)) same ∙ take-length before
      | inr added ↦ ap (take (length before)) added ∙ take-append_seam before (payload ∷ [])
    ]) (run begins)
