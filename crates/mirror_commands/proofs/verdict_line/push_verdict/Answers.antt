use Rattle.std.proofs.Common.{◌≡◌, ◌++◌, codes, decimal, subst, sym}
use Rattle.std.specs.Prelude.{OnOk}
use Rattle.hex.specs.Hex.{encode_lower}
use Rattle.coverage_auditor.specs.declared.verdict.Verdict.{Verdict}
use Rattle.mirror_commands.specs.Audit.{verdict_words}
use Rattle.command_ends.proofs.SummaryLemmas.{joins_number}
use Rattle.mirror_commands.proofs.verdict_line.push_verdict.Goals as goal

pub returns-in_ok-push_number-in-LiveDiffers : goal.returns-in_ok-push_number-in-LiveDiffers
returns-in_ok-push_number-in-LiveDiffers c =
    let first = c.args.line.now.items in
    let last = c.push_digest-in-LiveDiffers.new.line.items in
    let live = c.in-LiveDiffers in
    subst (λ (v : Verdict). OnOk c.push_digest-in-LiveDiffers.result (last ≡ first ++ verdict_words c.args.base.now v))
    (sym live.is)
    (joins_number c.push_digest-in-LiveDiffers.result first c.push_number-in-LiveDiffers.new.line.items last
    (codes "live differs " ++ decimal live.count) (codes " ") (encode_lower live.found)
    c.in_ok-push_number-in-LiveDiffers.ensures c.push_digest-in-LiveDiffers.ensures)
