-- The changes of an area, divided at a call and at the last sync.
use Rattle.std.proofs.Common.{◌≡◌, inl, inr, ℕ, suc, zero, ◌+◌, ◌-◌, ◌<◌, ◌≤◌, Bool, true, false, ◌||◌, leb, ltb, List}
use Rattle.std.proofs.Common.{[], ◌∷◌, ◌++◌, length, get_or, take, drop, replicate, refl, sym, ◌∙◌, ap, subst, arith}
use Rattle.std.proofs.Common.{length-append, length-take, length-drop, get_or-take, get_or-drop}
use Rattle.std.proofs.Common.{add-zero, zero-add}
use Rattle.std.proofs.lemmas.List.{ext_get_or, get_or-replicate, length-replicate, get_or_append_left}
use Rattle.std.proofs.lemmas.List.{get_or-append_right}
use Rattle.std.proofs.lemmas.Bool.{cases_lt, cases_Bool, cond-true, cond-false, and_left, and_right, and_from, lt-leb}
use Rattle.std.proofs.lemmas.Bool.{le-leb, lt-ltb, le-ltb}
use Rattle.feed_disk.specs.Disk.{written}
use Rattle.feed_disk.specs.AreaRecord.{content_of, synced_of, newest_of, is_within, is_written, IsRecorded}
use Rattle.feed_disk.specs.DiskLaw.{outside_cases, length-written, length-content}
use Rattle.feed_disk.specs.ImageOf.{counts_by, until, is_uncertain, marked, marks_of}
use Rattle.feed_disk.specs.Pending.{pending_of, settled_of, applied, marked_by, Reaches}
use Rattle.feed_disk.specs.declared.change.Change.{Change}
use Rattle.feed_disk.specs.declared.change.Change.TheVariants.{Write, FailedWrite, Sync}

recorded_tail : (first : List ℕ) (change : Change) (older : List Change) → IsRecorded first (change ∷ older)
    → IsRecorded first older
recorded_tail first (Write call at bytes) older recorded = recorded.2
recorded_tail first (FailedWrite call at bytes) older recorded = recorded.2
recorded_tail first (Sync call) older recorded = recorded.1

or_assoc : (a b c : Bool) → ((a || b) || c) ≡ (a || (b || c))
or_assoc true b c = refl
or_assoc false b c = refl

pub recorded_until : (first : List ℕ) (call : ℕ) (changes : List Change) → IsRecorded first changes
    → IsRecorded first (until call changes)
recorded_until first call [] recorded = recorded
recorded_until first call (change ∷ older) recorded = elim (cases_Bool (counts_by call change)) [
  | inl counts ↦ subst (IsRecorded first) (sym
      (cond-true (counts_by call change) (change ∷ older) (until call older) counts)) recorded
  | inr not ↦ subst (IsRecorded first) (sym
      (cond-false (counts_by call change) (change ∷ older) (until call older) not))
      (recorded_until first call older (recorded_tail first change older recorded))
]

pub recorded_settled : (first : List ℕ) (changes : List Change) → IsRecorded first changes
    → IsRecorded first (settled_of changes)
recorded_settled first [] recorded = recorded
recorded_settled first (Write call at bytes ∷ older) recorded = recorded_settled first older recorded.2
recorded_settled first (FailedWrite call at bytes ∷ older) recorded = recorded_settled first older recorded.2
recorded_settled first (Sync call ∷ older) recorded = recorded

pub content-settled : (first : List ℕ) (changes : List Change)
    → content_of first (settled_of changes) ≡ synced_of first changes
content-settled first [] = refl
content-settled first (Write call at bytes ∷ older) = content-settled first older
content-settled first (FailedWrite call at bytes ∷ older) = content-settled first older
content-settled first (Sync call ∷ older) = refl

pub applied-pending : (first : List ℕ) (changes : List Change)
    → applied (synced_of first changes) (pending_of changes) ≡ newest_of first changes
applied-pending first [] = refl
applied-pending first (Write call at bytes ∷ older) =
    ap (λ (l : List ℕ). written l at bytes) (applied-pending first older)
applied-pending first (FailedWrite call at bytes ∷ older) =
    ap (λ (l : List ℕ). written l at bytes) (applied-pending first older)
applied-pending first (Sync call ∷ older) = refl

pub reaches_pending : (first : List ℕ) (changes : List Change) → IsRecorded first changes
    → Reaches (synced_of first changes) (pending_of changes)
reaches_pending first [] recorded = recorded
reaches_pending first (Write call at bytes ∷ older) recorded = (
  omega (arith, recorded.0, length-content first older, ap length (applied-pending first older)),
  reaches_pending first older recorded.2,
)
reaches_pending first (FailedWrite call at bytes ∷ older) recorded = (
  omega (arith, recorded.0, length-content first older, ap length (applied-pending first older)),
  reaches_pending first older recorded.2,
)
reaches_pending first (Sync call ∷ older) recorded = tt

-- the marks after a range was marked
mark_below : (marks : List Bool) (at n offset : ℕ) → at ≤ length marks → offset < at
    → get_or (written marks at (replicate n true)) offset false ≡ get_or marks offset false
mark_below marks at n offset there below =
    let front : length (take at marks) ≡ at = omega (arith, length-take at marks) in
    get_or_append_left (take at marks ++ replicate n true) (drop (at + length (replicate n true)) marks) false offset
    (omega (arith, length-append (take at marks) (replicate n true)))
    ∙ get_or_append_left (take at marks) (replicate n true) false offset (omega arith)
    ∙ get_or-take at marks offset false below

mark_within : (marks : List Bool) (at n offset : ℕ) → at ≤ length marks → at ≤ offset → offset < at + n
    → get_or (written marks at (replicate n true)) offset false ≡ true
mark_within marks at n offset there from to =
    let front : length (take at marks) ≡ at = omega (arith, length-take at marks) in
    get_or_append_left (take at marks ++ replicate n true) (drop (at + length (replicate n true)) marks) false offset
    (omega (arith, length-append (take at marks) (replicate n true), length-replicate n true))
    ∙ get_or-append_right (take at marks) (replicate n true) at offset false front from
    ∙ get_or-replicate n (offset - at) true false (omega arith)

mark_above : (marks : List Bool) (at n offset : ℕ) → at ≤ length marks → at + n ≤ offset
    → get_or (written marks at (replicate n true)) offset false ≡ get_or marks offset false
mark_above marks at n offset there past =
    let long : length (replicate n true) ≡ n = length-replicate n true in
    let front : length (take at marks ++ replicate n true) ≡ at + n =
    omega (arith, length-append (take at marks) (replicate n true), length-take at marks, long) in
    get_or-append_right (take at marks ++ replicate n true) (drop (at + length (replicate n true)) marks) (at + n)
    offset false front past
    ∙ get_or-drop (at + length (replicate n true)) marks (offset - (at + n)) false
    ∙ ap (λ (k : ℕ). get_or marks k false) (omega (arith, long))

mark_at : (marks : List Bool) (at n offset : ℕ) → at ≤ length marks
    → get_or (written marks at (replicate n true)) offset false ≡ (is_within offset at n || get_or marks offset false)
mark_at marks at n offset there = elim (cases_lt offset at) [
  | inl below ↦ mark_below marks at n offset there below
      ∙ sym (ap (λ (b : Bool). b || get_or marks offset false)
      (and_left (leb at offset) (ltb offset (at + n)) (lt-leb at offset below)))
  | inr from ↦ elim (cases_lt offset (at + n)) [
    | inl to ↦ mark_within marks at n offset there from to
        ∙ sym (ap (λ (b : Bool). b || get_or marks offset false)
        (and_from (leb at offset) (ltb offset (at + n)) (le-leb at offset from) (lt-ltb offset (at + n) to)))
    | inr past ↦ mark_above marks at n offset there past
        ∙ sym (ap (λ (b : Bool). b || get_or marks offset false)
        (and_right (leb at offset) (ltb offset (at + n)) (le-ltb offset (at + n) past)))
  ]
]

length-written_marks : (marks : List Bool) (bytes : List ℕ) (at : ℕ) (from : List ℕ) → length marks ≡ length bytes
    → length (written marks at (replicate (length from) true)) ≡ length (written bytes at from)
length-written_marks marks bytes at from same =
    omega (
      arith,
      length-written bytes at from,
      length-replicate (length from) true,
      length-append (take at marks ++ replicate (length from) true)
          (drop (at + length (replicate (length from) true)) marks),
      length-append (take at marks) (replicate (length from) true),
      length-take at marks,
      length-drop (at + length (replicate (length from) true)) marks,
    )

length-marked_by : (marks : List Bool) (bytes : List ℕ) (changes : List Change) → length marks ≡ length bytes
    → length (marked_by marks changes) ≡ length (applied bytes changes)
length-marked_by marks bytes [] same = same
length-marked_by marks bytes (Write call at from ∷ older) same =
    length-written_marks (marked_by marks older) (applied bytes older) at from (length-marked_by marks bytes older same)
length-marked_by marks bytes (FailedWrite call at from ∷ older) same =
    length-written_marks (marked_by marks older) (applied bytes older) at from (length-marked_by marks bytes older same)
length-marked_by marks bytes (Sync call ∷ older) same = length-marked_by marks bytes older same

-- a write among the changes has this offset in its range, whether or not a sync follows it
abbrev is_written_in : List Change → ℕ → Bool
is_written_in [] offset = false
is_written_in (Write call at bytes ∷ older) offset = is_within offset at (length bytes) || is_written_in older offset
is_written_in (FailedWrite call at bytes ∷ older) offset =
    is_within offset at (length bytes) || is_written_in older offset
is_written_in (Sync call ∷ older) offset = is_written_in older offset

in-pending : (changes : List Change) (offset : ℕ)
    → is_written_in (pending_of changes) offset ≡ is_written changes offset
in-pending [] offset = refl
in-pending (Write call at bytes ∷ older) offset =
    ap (λ (b : Bool). is_within offset at (length bytes) || b) (in-pending older offset)
in-pending (FailedWrite call at bytes ∷ older) offset =
    ap (λ (b : Bool). is_within offset at (length bytes) || b) (in-pending older offset)
in-pending (Sync call ∷ older) offset = refl

outside_is_older : (bytes : List ℕ) (at : ℕ) (from : List ℕ) (offset : ℕ) → at ≤ length bytes
    → is_within offset at (length from) ≡ false → offset < length (written bytes at from) → offset < length bytes
outside_is_older bytes at from offset there out inside = elim (outside_cases offset at (length from) out) [
  | inl below ↦ omega arith
  | inr above ↦ omega (arith, length-written bytes at from)
]

marked_write : (bytes : List ℕ) (older : List Change) (at : ℕ) (from : List ℕ) → at ≤ length (applied bytes older)
    → (offset : ℕ) → offset < length (written (applied bytes older) at from)
    → (offset < length (applied bytes older)
    → get_or (marked_by (replicate (length bytes) false) older) offset false
    ≡ (is_written_in older offset || leb (length bytes) offset))
    → get_or (written (marked_by (replicate (length bytes) false) older) at (replicate (length from) true)) offset false
    ≡ (is_within offset at (length from) || is_written_in older offset || leb (length bytes) offset)
marked_write bytes older at from there offset inside before =
    let marks = marked_by (replicate (length bytes) false) older in
    let long : length marks ≡ length (applied bytes older) =
    length-marked_by (replicate (length bytes) false) bytes older (length-replicate (length bytes) false) in
    mark_at marks at (length from) offset (omega (arith, long))
    ∙ elim (cases_Bool (is_within offset at (length from))) [
      | inl within ↦ rw within refl
      | inr apart ↦ ap (λ (b : Bool). is_within offset at (length from) || b)
          (before (outside_is_older (applied bytes older) at from offset there apart inside))
          ∙ sym (or_assoc (is_within offset at (length from)) (is_written_in older offset) (leb (length bytes) offset))
    ]

-- an offset is marked if a write since the last sync has it in its range, or if it is past the old end
marked_by_at : (bytes : List ℕ) (changes : List Change) → Reaches bytes changes → (offset : ℕ)
    → offset < length (applied bytes changes)
    → get_or (marked_by (replicate (length bytes) false) changes) offset false
    ≡ (is_written_in changes offset || leb (length bytes) offset)
marked_by_at bytes [] reaches offset inside =
    get_or-replicate (length bytes) offset false false inside ∙ sym (lt-leb (length bytes) offset inside)
marked_by_at bytes (Write call at from ∷ older) reaches offset inside =
    marked_write bytes older at from reaches.0 offset inside (marked_by_at bytes older reaches.1 offset)
marked_by_at bytes (FailedWrite call at from ∷ older) reaches offset inside =
    marked_write bytes older at from reaches.0 offset inside (marked_by_at bytes older reaches.1 offset)
marked_by_at bytes (Sync call ∷ older) reaches offset inside = marked_by_at bytes older reaches offset inside

pub get_or-marked : (test : ℕ → Bool) (from n offset : ℕ) → offset < n
    → get_or (marked test from n) offset false ≡ test (from + offset)
get_or-marked test from zero offset inside = absurd (omega arith)
get_or-marked test from (suc n) zero inside = ap test (sym (add-zero from))
get_or-marked test from (suc n) (suc offset) inside = get_or-marked test (from + 1) n offset (omega arith)
    ∙ ap test (omega arith)

pub length-marked : (test : ℕ → Bool) (from n : ℕ) → length (marked test from n) ≡ n
length-marked test from zero = refl
length-marked test from (suc n) = ap suc (length-marked test (from + 1) n)

pub take-marked : (test : ℕ → Bool) (from n m : ℕ) → m ≤ n → take m (marked test from n) ≡ marked test from m
take-marked test from n zero fits = refl
take-marked test from zero (suc m) fits = absurd (omega arith)
take-marked test from (suc n) (suc m) fits =
    ap (λ (l : List Bool). test from ∷ l) (take-marked test (from + 1) n m (omega arith))

same_marks : (xs ys : List Bool) → length xs ≡ length ys
    → ((k : ℕ) → k < length xs → get_or xs k false ≡ get_or ys k false) → xs ≡ ys
same_marks xs ys long each = ext_get_or false xs ys long each

pub marks-pending : (first : List ℕ) (changes : List Change) → IsRecorded first changes
    → marked_by (replicate (length (synced_of first changes)) false) (pending_of changes)
    ≡ marks_of first changes (length (newest_of first changes))
marks-pending first changes recorded =
    let old = synced_of first changes in
    let size = length (newest_of first changes) in
    let marks = marked_by (replicate (length old) false) (pending_of changes) in
    let long : length marks ≡ size = length-marked_by (replicate (length old) false) old (pending_of changes)
    (length-replicate (length old) false) ∙ ap length (applied-pending first changes) in
    same_marks marks (marks_of first changes size) (long ∙ sym (length-marked (is_uncertain first changes) 0 size))
    (λ offset inside.
    marked_by_at old (pending_of changes) (reaches_pending first changes recorded) offset
    (omega (arith, long, inside, ap length (applied-pending first changes)))
    ∙ ap (λ (b : Bool). b || leb (length old) offset) (in-pending changes offset)
    ∙ ap (is_uncertain first changes) (sym (zero-add offset))
    ∙ sym (get_or-marked (is_uncertain first changes) 0 size offset (omega (arith, long, inside))))

pub length-marks_of : (first : List ℕ) (changes : List Change) (size : ℕ) → length (marks_of first changes size) ≡ size
length-marks_of first changes size = length-marked (is_uncertain first changes) 0 size

pub take-marks_of : (first : List ℕ) (changes : List Change) (size fewer : ℕ) → fewer ≤ size
    → take fewer (marks_of first changes size) ≡ marks_of first changes fewer
take-marks_of first changes size fewer fits = take-marked (is_uncertain first changes) 0 size fewer fits
