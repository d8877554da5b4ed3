use Rattle.std.proofs.Common.{◌∙◌, sym}
use Rattle.feed_disk.specs.declared.area.Area.TheVariants.{Journal}
use Rattle.store_scrub.proofs.CloseLemmas.{keeps-open}
use Rattle.store_scrub.proofs.repaired.close_journal.Goals as goal

pub returns-in_err-close-clause-others : goal.returns-in_err-close-clause-others
returns-in_err-close-clause-others g c = λ a other.
    c.close.ensures.others a (λ is. other (is ∙ c.requires.readable.area))

pub returns-clause-moments : goal.returns-clause-moments
returns-clause-moments g c = λ tells.
    keeps-open (g.D.Disk.state c.args.disk.now) (g.D.Disk.state c.close.new.disk) c.args.journal c.args.journal.area
    Journal c.requires.readable.area (c.requires.frames tells) (sym c.if-is_whole.ensures) (c.close.ensures.all tells)

pub returns-clause-others : goal.returns-clause-others
returns-clause-others g c = λ a other.
    c.close.ensures.others a (λ is. other (is ∙ c.requires.readable.area))
