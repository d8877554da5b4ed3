-- Each image that a choice makes is one that a crash may leave.
use Rattle.std.proofs.Common.{◌≡◌, inl, inr, ℕ, suc, zero, ◌<◌, ◌≤◌, Bool, true, false, ◌||◌, leb, List, [], ◌∷◌}
use Rattle.std.proofs.Common.{length, get_or, take, refl, sym, ◌∙◌, ap, subst, arith, zero-add, length-take}
use Rattle.std.proofs.Common.{get_or-take}
use Rattle.std.proofs.lemmas.Bool.{cases_lt, cases_Bool, cond-true, cond-false, leb-true, leb-false, ltb-true}
use Rattle.std.proofs.lemmas.Bool.{ltb-false, or_parts, lt-leb}
use Rattle.feed_disk.specs.AreaRecord.{call_of, synced_of, newest_of, is_within, is_written, MayLeave, MayLeaveAt}
use Rattle.feed_disk.specs.DiskLaw.{get_or-written_outside, length-synced, length-content}
use Rattle.feed_disk.specs.ImageOf.{counts_by, until, is_uncertain, marks_of, filled, overlaid, grown, image_of}
use Rattle.feed_disk.specs.declared.change.Change.{Change}
use Rattle.feed_disk.specs.declared.change.Change.TheVariants.{Write, FailedWrite, Sync}
use Rattle.feed_disk.specs.declared.choice.Choice.{Choice}
use Rattle.feed_disk.specs.declared.choice.Choice.TheVariants.{Old, New, Fill, Given}
use Rattle.feed_disk.proofs.CutLemmas.{get_or-marked, length-marked}

-- an image after the changes that count at a call is one of that moment
counted_at : (first : List ℕ) (call : ℕ) (change : Change) (older : List Change) (i : List ℕ)
    → counts_by call change ≡ true → MayLeave first (change ∷ older) i → MayLeaveAt first (change ∷ older) call i
counted_at first call (Write number at bytes) older i counts may = elim (cases_lt number call) [
  | inl before ↦ inl (before, may)
  | inr there ↦ inr (inl (omega (arith, leb-true number call counts), may))
]
counted_at first call (FailedWrite number at bytes) older i counts may = elim (cases_lt number call) [
  | inl before ↦ inl (before, may)
  | inr there ↦ inr (inl (omega (arith, leb-true number call counts), may))
]
counted_at first call (Sync number) older i counts may = inl (ltb-true number call counts, may)

not_counted : (call : ℕ) (change : Change) → counts_by call change ≡ false → call ≤ call_of change
not_counted call (Write number at bytes) not = omega (arith, leb-false number call not)
not_counted call (FailedWrite number at bytes) not = omega (arith, leb-false number call not)
not_counted call (Sync number) not = ltb-false number call not

pub until_at : (first : List ℕ) (call : ℕ) (changes : List Change) (i : List ℕ) → MayLeave first (until call changes) i
    → MayLeaveAt first changes call i
until_at first call [] i may = may
until_at first call (change ∷ older) i may = elim (cases_Bool (counts_by call change)) [
  | inl counts ↦ counted_at first call change older i counts
      (subst (λ (l : List Change). MayLeave first l i)
      (cond-true (counts_by call change) (change ∷ older) (until call older) counts) may)
  | inr not ↦ inr (inr (
    not_counted call change not,
    until_at first call older i (subst (λ (l : List Change). MayLeave first l i)
        (cond-false (counts_by call change) (change ∷ older) (until call older) not) may),
  ))
]

-- the new bytes have each certain byte
length-newest : (first : List ℕ) (changes : List Change)
    → length (synced_of first changes) ≤ length (newest_of first changes)
length-newest first changes = omega (arith, length-synced first changes, length-content first changes)

pub newest_certain : (first : List ℕ) (changes : List Change) (offset : ℕ) → offset < length (synced_of first changes)
    → is_written changes offset ≡ false → get_or (newest_of first changes) offset 0
    ≡ get_or (synced_of first changes) offset 0
newest_certain first [] offset there out = refl
newest_certain first (Write call at bytes ∷ older) offset there out =
    let parts = or_parts (is_within offset at (length bytes)) (is_written older offset) out in
    get_or-written_outside (newest_of first older) at bytes offset (omega (arith, length-newest first older)) parts.0
    ∙ newest_certain first older offset there parts.1
newest_certain first (FailedWrite call at bytes ∷ older) offset there out =
    let parts = or_parts (is_within offset at (length bytes)) (is_written older offset) out in
    get_or-written_outside (newest_of first older) at bytes offset (omega (arith, length-newest first older)) parts.0
    ∙ newest_certain first older offset there parts.1
newest_certain first (Sync call ∷ older) offset there out = refl

length-filled : (marks : List Bool) (fill : ℕ) (bytes : List ℕ) → length marks ≡ length bytes
    → length (filled marks fill bytes) ≡ length bytes
length-filled [] fill bytes same = refl
length-filled (mark ∷ marks) fill [] same = absurd (omega arith)
length-filled (false ∷ marks) fill (byte ∷ bytes) same = ap suc (length-filled marks fill bytes (omega arith))
length-filled (true ∷ marks) fill (byte ∷ bytes) same = ap suc (length-filled marks fill bytes (omega arith))

filled_plain : (marks : List Bool) (fill : ℕ) (bytes : List ℕ) (offset : ℕ) → offset < length marks
    → get_or marks offset false ≡ false → get_or (filled marks fill bytes) offset 0 ≡ get_or bytes offset 0
filled_plain [] fill bytes offset inside plain = absurd (omega arith)
filled_plain (mark ∷ marks) fill [] offset inside plain = refl
filled_plain (false ∷ marks) fill (byte ∷ bytes) zero inside plain = refl
filled_plain (true ∷ marks) fill (byte ∷ bytes) zero inside plain = cc
filled_plain (false ∷ marks) fill (byte ∷ bytes) (suc offset) inside plain =
    filled_plain marks fill bytes offset (omega arith) plain
filled_plain (true ∷ marks) fill (byte ∷ bytes) (suc offset) inside plain =
    filled_plain marks fill bytes offset (omega arith) plain

length-overlaid : (marks : List Bool) (given bytes : List ℕ) → length marks ≡ length bytes
    → length (overlaid marks given bytes) ≡ length bytes
length-overlaid [] given bytes same = refl
length-overlaid (mark ∷ marks) given [] same = absurd (omega arith)
length-overlaid (false ∷ marks) given (byte ∷ bytes) same = ap suc (length-overlaid marks given bytes (omega arith))
length-overlaid (true ∷ marks) [] (byte ∷ bytes) same = ap suc (length-overlaid marks [] bytes (omega arith))
length-overlaid (true ∷ marks) (one ∷ given) (byte ∷ bytes) same =
    ap suc (length-overlaid marks given bytes (omega arith))

overlaid_plain : (marks : List Bool) (given bytes : List ℕ) (offset : ℕ) → offset < length marks
    → get_or marks offset false ≡ false → get_or (overlaid marks given bytes) offset 0 ≡ get_or bytes offset 0
overlaid_plain [] given bytes offset inside plain = absurd (omega arith)
overlaid_plain (mark ∷ marks) given [] offset inside plain = refl
overlaid_plain (false ∷ marks) given (byte ∷ bytes) zero inside plain = refl
overlaid_plain (false ∷ marks) given (byte ∷ bytes) (suc offset) inside plain =
    overlaid_plain marks given bytes offset (omega arith) plain
overlaid_plain (true ∷ marks) [] (byte ∷ bytes) zero inside plain = refl
overlaid_plain (true ∷ marks) [] (byte ∷ bytes) (suc offset) inside plain =
    overlaid_plain marks [] bytes offset (omega arith) plain
overlaid_plain (true ∷ marks) (one ∷ given) (byte ∷ bytes) zero inside plain = cc
overlaid_plain (true ∷ marks) (one ∷ given) (byte ∷ bytes) (suc offset) inside plain =
    overlaid_plain marks given bytes offset (omega arith) plain

-- a certain offset isn't marked
certain_mark : (first : List ℕ) (changes : List Change) (size offset : ℕ) → offset < size
    → offset < length (synced_of first changes) → is_written changes offset ≡ false
    → get_or (marks_of first changes size) offset false ≡ false
certain_mark first changes size offset inside old out =
    get_or-marked (is_uncertain first changes) 0 size offset inside
    ∙ ap (is_uncertain first changes) (zero-add offset)
    ∙ ap (λ (b : Bool). b || leb (length (synced_of first changes)) offset) out
    ∙ lt-leb (length (synced_of first changes)) offset old

length-marks : (first : List ℕ) (changes : List Change) (size : ℕ) → length (marks_of first changes size) ≡ size
length-marks first changes size = length-marked (is_uncertain first changes) 0 size

-- each choice makes an image that a crash may leave
pub image_may : (first : List ℕ) (changes : List Change) (choice : Choice)
    → MayLeave first changes (image_of first changes choice)
image_may first changes Old = record {
  no_shorter = omega arith;
  no_longer = length-newest first changes;
  certain = λ offset old out. refl;
}
image_may first changes New = record {
  no_shorter = length-newest first changes;
  no_longer = omega arith;
  certain = newest_certain first changes;
}
image_may first changes (Fill fill) =
    let new = newest_of first changes in
    let marks = marks_of first changes (length new) in
    let long = length-marks first changes (length new) in
    record {
      no_shorter = omega (arith, length-filled marks fill new long, length-newest first changes);
      no_longer = omega (arith, length-filled marks fill new long);
      certain = λ offset old out.
          filled_plain marks fill new offset (omega (arith, long, length-newest first changes))
          (certain_mark first changes (length new) offset (omega (arith, length-newest first changes)) old out)
          ∙ newest_certain first changes offset old out;
    }
image_may first changes (Given size bytes) =
    let new = newest_of first changes in
    let end = grown first changes size in
    let marks = marks_of first changes end in
    let fits : end ≤ length new = omega (arith, length-newest first changes) in
    let cut : length (take end new) ≡ end = omega (arith, fits, length-take end new) in
    let long : length marks ≡ length (take end new) = length-marks first changes end ∙ sym cut in
    record {
      no_shorter = omega (arith, length-overlaid marks bytes (take end new) long, cut);
      no_longer = omega (arith, length-overlaid marks bytes (take end new) long, cut, fits);
      certain = λ offset old out.
          overlaid_plain marks bytes (take end new) offset (omega (arith, length-marks first changes end))
          (certain_mark first changes end offset (omega arith) old out)
          ∙ get_or-take end new offset 0 (omega arith)
          ∙ newest_certain first changes offset old out;
    }
