use Rattle.std.proofs.Common.{ap, ◌∙◌}
use Rattle.feed_life.proofs.OpenedLemmas.{mirror-opened}
use Rattle.member_rules.specs.Head.{HeadValue}
use Rattle.feed_life.proofs.mirrors.open_mirror.Goals as goal

pub returns-in-Ok-clause-opened : goal.returns-in-Ok-clause-opened
returns-in-Ok-clause-opened c kept each =
    mirror-opened c.args.head.now c.in_ok-base.base kept c.args.disk.now c.load.new.disk c.in-Ok.mirror
    (c.in_ok-base.ensures.same ∙ ap (λ (h : HeadValue). h.name.base) c.head.view_is) c.in-Ok.ensures.begins.base_is
    (c.in-Ok.ensures.begins.capacity_is ∙ ap (λ (h : HeadValue). h.capacity) c.head.view_is) (c.in-Ok.ensures.loaded tt)
    (c.in-Ok.ensures.stands tt) (c.load.ensures.moments tt).now (c.in-Ok.ensures.rests tt) each
