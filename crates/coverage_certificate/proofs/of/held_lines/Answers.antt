use Rattle.std.proofs.Common.{List, ◌++◌, ap, sym, subst, ◌∙◌, arith}
use Rattle.std.specs.Option.{option_to_list}
use Rattle.chain_links.specs.declared.address.Address.TheVariants.{Feed}
use Rattle.coverage_certificate.specs.Certificate.{AreCoverLines, CoverValue}
use Rattle.coverage_certificate.specs.Held.{line_at}
use Rattle.coverage_certificate.proofs.HeldLemmas.{held-ends, held-next, held-start, lines_are_covers}
use Rattle.coverage_certificate.proofs.of.held_lines.Goals as goal

pub loop-before-init : goal.loop-before-init
loop-before-init c =
    held-start c.args.mirror.now.kept c.args.prev c.push_held.new.lines.items (c.in_ok-push_held.ensures
    ∙ ap (λ (ls : List CoverValue). ls ++ option_to_list (line_at c.args.mirror.now.kept Feed)) c.new-lines.ensures)

pub loop-before-preserved : goal.loop-before-preserved
loop-before-preserved c =
    held-next c.args.mirror.now.kept c.args.prev c.loop-before.before c.loop-before.lines.items
    c.push_held-in-loop-before.new.lines.items (omega arith) c.loop-before.invariant c.in_ok-push_held-2.ensures

pub returns-clause-lines : goal.returns-clause-lines
returns-clause-lines c =
    held-ends c.args.mirror.now.kept c.args.prev c.loop-before.before c.loop-before.lines.items (omega arith)
    c.loop-before.invariant

pub returns-clause-placed : goal.returns-clause-placed
returns-clause-placed c =
    subst AreCoverLines (sym (returns-clause-lines c))
    (lines_are_covers c.args.mirror.now.kept c.args.prev (omega arith) c.requires.best)
