use Rattle.std.proofs.Common.{sym, ap, ◌∙◌}
use Rattle.feed_disk.specs.declared.area.Area.TheVariants.{Mirror as MirrorArea}
use Rattle.feed_life.proofs.OpenedLemmas.{opened-mirror}
use Rattle.feed_life.proofs.ShownLemmas.{alone-loads, complete-some, missing-some, mirror-certified}
use Rattle.mirror_walk.specs.Listing.{outcome_of}
use Rattle.mirror_walk.specs.Mirror.{LoadsTo, MirrorValue}
use Rattle.feed_life.proofs.mirrors.certify.Goals as goal

pub returns-in-Missing : goal.returns-in-Missing
returns-in-Missing c history kept mirror =
    let opened = c.in_ok-mirror.ensures.opened kept mirror.loads in (
      missing-some kept c.in-Missing.address
          (sym (ap outcome_of opened.kept_is) ∙ sym c.in-Ok.ensures.outcome ∙ c.in-Missing.is),
      opened-mirror c.args.head.now kept c.open_mirror.new.disk c.in_ok-mirror.mirror opened history mirror.served,
    )

pub of-made-requires-clause-best : goal.of-made-requires-clause-best
of-made-requires-clause-best c =
    complete-some c.outcome.new.self.kept c.in-Complete.version c.in-Complete.live
    (ap (λ (m : MirrorValue). outcome_of m.kept) c.outcome.ensures.same ∙ sym c.in-Ok.ensures.outcome
    ∙ c.in-Complete.is)

pub returns-in-Ok-made : goal.returns-in-Ok-made
returns-in-Ok-made c history kept mirror =
    let opened = c.in_ok-mirror.ensures.opened kept mirror.loads in
    let same = c.outcome.ensures.same in (
      mirror-certified c.args.head.now history kept c.outcome.new.self c.in-Ok-made.certificate c.in-Complete.version
          c.in-Complete.live (ap (λ (m : MirrorValue). m.base) same ∙ opened.base)
          (ap (λ (m : MirrorValue). m.kept) same ∙ opened.kept_is) mirror.served
          (ap (λ (m : MirrorValue). outcome_of m.kept) same ∙ sym c.in-Ok.ensures.outcome ∙ c.in-Complete.is)
          c.in-Ok-made.ensures.parts (c.in-Ok-made.ensures.served tt),
      record {
        loads = alone-loads c.open_mirror.new.disk c.of-made.new.disk (LoadsTo c.args.head.now.name.base kept) opened.loads
            (c.of-made.ensures.areas MirrorArea);
        served = mirror.served;
      },
    )
