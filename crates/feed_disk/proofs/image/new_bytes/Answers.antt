use Rattle.std.proofs.Common.{◌≡◌, ◌-◌, ℕ, Bool, false, List, length, take, drop, replicate, reverse, sym, ◌∙◌, ap}
use Rattle.std.proofs.Common.{subst, rules, arith}
use Rattle.std.proofs.lemmas.List.{take_rest}
use Rattle.feed_disk.specs.AreaRecord.{synced_of, newest_of}
use Rattle.feed_disk.specs.DiskLaw.{length-synced, length-content}
use Rattle.feed_disk.specs.ImageOf.{marks_of}
use Rattle.feed_disk.specs.Pending.{pending_of, applied, marked_by, Reaches}
use Rattle.feed_disk.proofs.CutLemmas.{applied-pending, reaches_pending, marks-pending, length-marks_of}
use Rattle.feed_disk.proofs.image.new_bytes.Goals as goal
use Rattle.feed_disk.proofs.image.new_bytes.Goals.{In_ok-apply}

pub apply-requires-clause-reaches : goal.apply-requires-clause-reaches
apply-requires-clause-reaches c =
    let first = c.args.first.now in
    let changes = reverse c.args.changes.now in
    let pending : reverse (take (length c.args.changes.now - c.count_settled.result)
    (drop c.count_settled.result c.args.changes.now)) ≡ pending_of changes =
    ap reverse (take_rest c.args.changes.now c.count_settled.result) ∙ c.count_settled.ensures.pending in
    subst (λ (bytes : List ℕ). Reaches bytes
    (reverse (take (length c.args.changes.now - c.count_settled.result)
    (drop c.count_settled.result c.args.changes.now)))) (sym c.in_ok-bytes.ensures)
    (subst (Reaches (synced_of first changes)) (sym pending) (reaches_pending first changes c.requires))

bytes_are : (c : In_ok-apply) → c.apply.new.bytes.items ≡ newest_of c.args.first.now (reverse c.args.changes.now)
bytes_are c =
    let first = c.args.first.now in
    let changes = reverse c.args.changes.now in
    c.in_ok-apply.ensures.bytes
    ∙ ap (λ (bytes : List ℕ). applied bytes
    (reverse (take (length c.args.changes.now - c.count_settled.result)
    (drop c.count_settled.result c.args.changes.now)))) c.in_ok-bytes.ensures
    ∙ ap (applied (synced_of first changes))
    (ap reverse (take_rest c.args.changes.now c.count_settled.result) ∙ c.count_settled.ensures.pending)
    ∙ applied-pending first changes

old_size : (c : In_ok-apply) → c.len-old_size.result ≡ length (synced_of c.args.first.now (reverse c.args.changes.now))
old_size c = c.len-old_size.ensures ∙ c.in_ok-bytes.bytes.ok.0 ∙ ap length c.in_ok-bytes.ensures

marks_are : (c : In_ok-apply) → c.apply.new.marks.items
    ≡ marks_of c.args.first.now (reverse c.args.changes.now)
    (length (newest_of c.args.first.now (reverse c.args.changes.now)))
marks_are c =
    let first = c.args.first.now in
    let changes = reverse c.args.changes.now in
    let plain : c.in_ok-marks.marks.items ≡ replicate c.len-old_size.result false = search rules in
    c.in_ok-apply.ensures.marks
    ∙ ap (λ (marks : List Bool). marked_by marks
    (reverse (take (length c.args.changes.now - c.count_settled.result)
    (drop c.count_settled.result c.args.changes.now)))) (plain ∙ ap (λ (n : ℕ). replicate n false) (old_size c))
    ∙ ap (marked_by (replicate (length (synced_of first changes)) false))
    (ap reverse (take_rest c.args.changes.now c.count_settled.result) ∙ c.count_settled.ensures.pending)
    ∙ marks-pending first changes c.requires

pub returns-clause-bytes : goal.returns-clause-bytes
returns-clause-bytes c = bytes_are (goal.at.returns-clause-bytes c).In_ok-apply

pub returns-clause-marks : goal.returns-clause-marks
returns-clause-marks c = marks_are (goal.at.returns-clause-marks c).In_ok-apply

pub invariant_of-result : goal.invariant_of-result
invariant_of-result c =
    let first = c.args.first.now in
    let changes = reverse c.args.changes.now in
    record {
      same_size = omega (
        arith,
        ap length (bytes_are c),
        ap length (marks_are c),
        length-marks_of first changes (length (newest_of first changes)),
      );
      grows = omega (
        arith,
        old_size c,
        ap length (bytes_are c),
        length-synced first changes,
        length-content first changes,
      );
    }
