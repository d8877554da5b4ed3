-- Some given bytes make each image that a crash may leave.
use Rattle.std.proofs.Common.{◌≡◌, inl, inr, ℕ, suc, ◌-◌, ◌<◌, ◌^◌, Bool, true, false, leb, List, [], ◌∷◌, length}
use Rattle.std.proofs.Common.{get_or, take, refl, sym, ◌∙◌, ap, subst, arith, zero-add, length-take, get_or-take}
use Rattle.std.specs.Prelude.{All}
use Rattle.std.proofs.lemmas.Bool.{cases_lt, cond-true, cond-false, leb-false, or_parts, lt-leb, le-leb, lt-ltb, le-ltb}
use Rattle.std.proofs.lemmas.List.Elements.{All-cons}
use Rattle.feed_disk.specs.AreaRecord.{call_of, synced_of, newest_of, is_written, MayLeave, MayLeaveAt, ComesAfter}
use Rattle.feed_disk.specs.AreaRecord.{IsRecorded}
use Rattle.feed_disk.specs.ImageOf.{counts_by, until, is_uncertain, marks_of, overlaid, grown, image_of}
use Rattle.feed_disk.specs.declared.change.Change.{Change}
use Rattle.feed_disk.specs.declared.change.Change.TheVariants.{Write, FailedWrite, Sync}
use Rattle.feed_disk.specs.declared.choice.Choice.TheVariants.{Given}
use Rattle.feed_disk.proofs.CutLemmas.{get_or-marked, length-marked}
use Rattle.feed_disk.proofs.ImageLemmas.{newest_certain}
use Rattle.feed_disk.proofs.CallLemmas.{past_newest, more_written}

-- all of these changes were made before the call
abbrev Before : ℕ → List Change → Type 0
Before call [] = Unit {0}
Before call (change ∷ older) = call_of change < call

before_after : (call : ℕ) (changes : List Change) → call < 2 ^ 64 - 1 → ComesAfter call changes → Before call changes
before_after call [] below after = tt
before_after call (change ∷ older) below after = after.1 below

earlier_counts : (call : ℕ) (change : Change) → call_of change < call → counts_by call change ≡ true
earlier_counts call (Write number at bytes) before = le-leb number call (omega arith)
earlier_counts call (FailedWrite number at bytes) before = le-leb number call (omega arith)
earlier_counts call (Sync number) before = lt-ltb number call before

until_before : (call : ℕ) (changes : List Change) → Before call changes → until call changes ≡ changes
until_before call [] before = refl
until_before call (change ∷ older) before =
    cond-true (counts_by call change) (change ∷ older) (until call older) (earlier_counts call change before)

before_may : (first : List ℕ) (changes : List Change) (call : ℕ) (i : List ℕ) → Before call changes
    → MayLeaveAt first changes call i → MayLeave first changes i
before_may first [] call i before may = may
before_may first (change ∷ older) call i before may =
    past_newest first (change ∷ older) (call_of change) call i (omega arith) before may

module _ (first : List ℕ) (call : ℕ) (below : call < 2 ^ 64 - 1) (i : List ℕ) where
  counted_until : (change : Change) (older : List Change) → counts_by call change ≡ true
      → MayLeave first (change ∷ older) i → MayLeave first (until call (change ∷ older)) i
  counted_until change older counts may = subst (λ (l : List Change). MayLeave first l i)
      (sym (cond-true (counts_by call change) (change ∷ older) (until call older) counts)) may

  later_until : (change : Change) (older : List Change) → counts_by call change ≡ false
      → MayLeave first (until call older) i → MayLeave first (until call (change ∷ older)) i
  later_until change older not may = subst (λ (l : List Change). MayLeave first l i)
      (sym (cond-false (counts_by call change) (change ∷ older) (until call older) not)) may

  pub at_until : (changes : List Change) → IsRecorded first changes → MayLeaveAt first changes call i
      → MayLeave first (until call changes) i
  at_until [] recorded may = may
  at_until (change ∷ older) recorded (inl now) = counted_until change older (earlier_counts call change now.0) now.1
  at_until (Write number at bytes ∷ older) recorded (inr (inl within)) =
      counted_until (Write number at bytes) older (le-leb number call (omega (arith, within.0))) within.1
  at_until (FailedWrite number at bytes ∷ older) recorded (inr (inl within)) =
      counted_until (FailedWrite number at bytes) older (le-leb number call (omega (arith, within.0))) within.1
  at_until (Sync number ∷ older) recorded (inr (inl within)) =
      let earlier : Before call older = before_after call older below
      (subst (λ (n : ℕ). ComesAfter n older) within.0 recorded.0) in
      later_until (Sync number) older (le-ltb number call (omega (arith, within.0)))
      (subst (λ (l : List Change). MayLeave first l i) (sym (until_before call older earlier)) within.1)
  at_until (Write number at bytes ∷ older) recorded (inr (inr before)) = elim (cases_lt call number) [
    | inl later ↦ later_until (Write number at bytes) older (lt-leb number call later)
        (at_until older recorded.2 before.1)
    | inr same ↦
        let is : number ≡ call = omega (arith, same, before.0) in
        let earlier : Before call older = before_after call older below
        (subst (λ (n : ℕ). ComesAfter n older) is recorded.1) in
        counted_until (Write number at bytes) older (le-leb number call same)
        (more_written first older at bytes recorded.0 i (before_may first older call i earlier before.1))
  ]
  at_until (FailedWrite number at bytes ∷ older) recorded (inr (inr before)) = elim (cases_lt call number) [
    | inl later ↦ later_until (FailedWrite number at bytes) older (lt-leb number call later)
        (at_until older recorded.2 before.1)
    | inr same ↦
        let is : number ≡ call = omega (arith, same, before.0) in
        let earlier : Before call older = before_after call older below
        (subst (λ (n : ℕ). ComesAfter n older) is recorded.1) in
        counted_until (FailedWrite number at bytes) older (le-leb number call same)
        (more_written first older at bytes recorded.0 i (before_may first older call i earlier before.1))
  ]
  at_until (Sync number ∷ older) recorded (inr (inr before)) =
      later_until (Sync number) older (le-ltb number call before.0) (at_until older recorded.1 before.1)

-- the bytes at the marked offsets
abbrev pub picked : List Bool → List ℕ → List ℕ
picked [] bytes = []
picked (mark ∷ marks) [] = []
picked (false ∷ marks) (byte ∷ bytes) = picked marks bytes
picked (true ∷ marks) (byte ∷ bytes) = byte ∷ picked marks bytes

overlaid-picked : (marks : List Bool) (image new : List ℕ) → length marks ≡ length image → length new ≡ length image
    → ((k : ℕ) → k < length image → get_or marks k false ≡ false → get_or image k 0 ≡ get_or new k 0)
    → overlaid marks (picked marks image) new ≡ image
overlaid-picked [] [] [] marks new same = refl
overlaid-picked [] (b ∷ image) new marks long same = absurd (omega arith)
overlaid-picked [] [] (b ∷ new) marks long same = absurd (omega arith)
overlaid-picked (mark ∷ marks) [] new long short same = absurd (omega arith)
overlaid-picked (mark ∷ marks) (b ∷ image) [] long short same = absurd (omega arith)
overlaid-picked (false ∷ marks) (b ∷ image) (n ∷ new) long short same =
    let head : b ≡ n = same 0 (omega arith) refl in
    let rest = overlaid-picked marks image new (omega arith) (omega arith)
    (λ k inside plain. same (suc k) (omega arith) plain) in
    cc
overlaid-picked (true ∷ marks) (b ∷ image) (n ∷ new) long short same =
    ap (λ (l : List ℕ). b ∷ l) (overlaid-picked marks image new (omega arith) (omega arith)
    (λ k inside plain. same (suc k) (omega arith) plain))

pub All-picked : (P : ℕ → Type 0) (marks : List Bool) (bytes : List ℕ) → All P bytes → All P (picked marks bytes)
All-picked P [] bytes all = λ k d inside. absurd (omega arith)
All-picked P (mark ∷ marks) [] all = λ k d inside. absurd (omega arith)
All-picked P (false ∷ marks) (b ∷ bytes) all = All-picked P marks bytes (λ k d inside. all (suc k) d (omega arith))
All-picked P (true ∷ marks) (b ∷ bytes) all =
    All-cons P b (picked marks bytes) (all 0 0 (omega arith))
    (All-picked P marks bytes (λ k d inside. all (suc k) d (omega arith)))

-- the given bytes that make an image
pub given_makes : (first : List ℕ) (changes : List Change) (image : List ℕ) → MayLeave first changes image
    → image_of first changes (Given (length image - length (synced_of first changes))
    (picked (marks_of first changes (length image)) image)) ≡ image
given_makes first changes image may =
    let size = length image - length (synced_of first changes) in
    let new = newest_of first changes in
    let given = picked (marks_of first changes (length image)) image in
    let end : grown first changes size ≡ length image = omega (arith, may.no_shorter, may.no_longer) in
    ap (λ (n : ℕ). overlaid (marks_of first changes n) given (take n new)) end
    ∙ overlaid-picked (marks_of first changes (length image)) image (take (length image) new)
    (length-marked (is_uncertain first changes) 0 (length image))
    (omega (arith, may.no_longer, length-take (length image) new)) (λ k inside plain.
    let test = sym (get_or-marked (is_uncertain first changes) 0 (length image) k inside
    ∙ ap (is_uncertain first changes) (zero-add k)) ∙ plain in
    let parts = or_parts (is_written changes k) (leb (length (synced_of first changes)) k) test in
    let old : k < length (synced_of first changes) = leb-false (length (synced_of first changes)) k parts.1 in
    may.certain k old parts.0 ∙ sym (newest_certain first changes k old parts.0)
    ∙ sym (get_or-take (length image) new k 0 inside))
