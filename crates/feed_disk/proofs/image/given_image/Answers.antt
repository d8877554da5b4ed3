use Rattle.std.proofs.Common.{◌≡◌, ℕ, Bool, List, length, take, reverse, ◌∙◌, ap, arith}
use Rattle.std.specs.Prelude.{count_by}
use Rattle.std.proofs.lemmas.Result.{IfOk-weaker}
use Rattle.feed_disk.specs.AreaRecord.{newest_of}
use Rattle.feed_disk.specs.DiskLaw.{length-synced, length-content}
use Rattle.feed_disk.specs.ImageOf.{marks_of, grown, overlaid}
use Rattle.feed_disk.proofs.CutLemmas.{take-marks_of}
use Rattle.feed_disk.proofs.image.given_image.Goals as goal
use Rattle.feed_disk.proofs.image.given_image.Goals.{After-drop-made-2}

end_is : (c : After-drop-made-2) → c.end_by-end.result ≡ grown c.args.first.now (reverse c.args.changes.now) c.args.size
end_is c =
    let first = c.args.first.now in
    let changes = reverse c.args.changes.now in
    omega (arith, c.end_by-end.ensures.end, c.in_ok-made.ensures.old_size, ap length c.in_ok-made.ensures.bytes)

bytes_are : (c : After-drop-made-2) → take c.end_by-end.result c.deref.result.now
    ≡ take (grown c.args.first.now (reverse c.args.changes.now) c.args.size)
    (newest_of c.args.first.now (reverse c.args.changes.now))
bytes_are c =
    ap (λ (n : ℕ). take n c.deref.result.now) (end_is c)
    ∙ ap (take (grown c.args.first.now (reverse c.args.changes.now) c.args.size))
    (c.deref.ensures.value ∙ c.in_ok-made.ensures.bytes)

marks_are : (c : After-drop-made-2) → take c.end_by-end.result c.deref-2.result.now
    ≡ marks_of c.args.first.now (reverse c.args.changes.now)
    (grown c.args.first.now (reverse c.args.changes.now) c.args.size)
marks_are c =
    let first = c.args.first.now in
    let changes = reverse c.args.changes.now in
    ap (λ (n : ℕ). take n c.deref-2.result.now) (end_is c)
    ∙ ap (take (grown first changes c.args.size)) (c.deref-2.ensures.value ∙ c.in_ok-made.ensures.marks)
    ∙ take-marks_of first changes (length (newest_of first changes)) (grown first changes c.args.size)
    (omega (arith, length-synced first changes, length-content first changes))

pub returns-clause-image : goal.returns-clause-image
returns-clause-image c =
    IfOk-weaker c.overlay.result _ _
    (λ made is. is ∙ ap (λ (marks : List Bool).
    overlaid marks c.args.given.now (take c.end_by-end.result c.deref.result.now)) (marks_are c)
    ∙ ap (λ (bytes : List ℕ). overlaid (marks_of c.args.first.now (reverse c.args.changes.now)
    (grown c.args.first.now (reverse c.args.changes.now) c.args.size)) c.args.given.now bytes) (bytes_are c))
    c.overlay.ensures.bytes

pub returns-clause-used : goal.returns-clause-used
returns-clause-used c =
    IfOk-weaker c.overlay.result _ _ (λ made is. is
    ∙ ap (λ (marks : List Bool). count_by (λ mark. mark) marks) (marks_are c)) c.overlay.ensures.used
