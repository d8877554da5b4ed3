use Rattle.std.proofs.Common.{◌+◌, ◌++◌, ◌∙◌, drop, ap, List, ℕ, rules}
use Rattle.feed_disk.specs.ImageOf.{filled}
use Rattle.feed_disk.proofs.FillLemmas.{filled_marked, filled_plain}
use Rattle.feed_disk.proofs.image.fill.Goals as goal
use Rattle.feed_disk.proofs.image.fill.Goals.{then-marks-offset+in_ok-push, else-marks-offset+in_ok-push-2}

pub loop-offset-preserved : goal.loop-offset-preserved
loop-offset-preserved c = elim c.if-marks-offset.branch [
  | then-marks-offset+in_ok-push w ↦
      ap (λ (l : List ℕ). l ++ filled (drop (c.loop-offset.offset + 1) c.args.marks.now) c.args.byte
      (drop (c.loop-offset.offset + 1) c.args.bytes.now)) (ap (λ v. v.items) w.made-is ∙ w.in_ok-push.ensures.items)
      ∙ filled_marked c.args.marks.now c.args.byte c.args.bytes.now c.loop-offset.offset c.loop-offset-test.true
      c.requires c.loop-offset.made.items _ (search rules) c.loop-offset.invariant
  | else-marks-offset+in_ok-push-2 w ↦
      ap (λ (l : List ℕ). l ++ filled (drop (c.loop-offset.offset + 1) c.args.marks.now) c.args.byte
      (drop (c.loop-offset.offset + 1) c.args.bytes.now))
      (ap (λ v. v.items) w.made-is ∙ w.in_ok-push-2.ensures.items)
      ∙ filled_plain c.args.marks.now c.args.byte c.args.bytes.now c.loop-offset.offset c.loop-offset-test.true
      c.requires c.loop-offset.made.items _ (search rules) c.loop-offset.invariant
]
