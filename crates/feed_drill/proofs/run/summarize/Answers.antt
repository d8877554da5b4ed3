use Rattle.std.proofs.Common.{◌∙◌, Some, ap, sym}
use Rattle.feed_drill.proofs.EndLemmas.{certifies-found, drilled-whole, summary-is}
use Rattle.feed_drill.proofs.run.summarize.Goals as goal

pub returns-clause-drilled : goal.returns-clause-drilled
returns-clause-drilled c =
    drilled-whole c.args.head.now c.args.seed c.args.count c.args.life.now c.certificate.new.self _ c.requires
    (certifies-found _ _ _ (c.in-Some.is ∙ ap (λ v. Some v) (sym c.certificate-2.view_is))
    c.in_ok-certificate.ensures.certified) c.in_ok-certificate.ensures.lives c.in_ok-certificate.ensures.same
    c.if-complete-count.false

pub returns-clause-summary : goal.returns-clause-summary
returns-clause-summary c =
    summary-is c.args.head.now c.args.seed c.args.count c.args.life.now c.certificate.new.self _ c.requires
    (certifies-found _ _ _ (c.in-Some.is ∙ ap (λ v. Some v) (sym c.certificate-2.view_is))
    c.in_ok-certificate.ensures.certified) c.in_ok-certificate.ensures.lives c.in_ok-certificate.ensures.same
    c.if-complete-count.false c.version.result c.sealed.result c.stops.result c.mirror_stops.result
    c.version.ensures c.sealed.ensures c.stops.ensures c.mirror_stops.ensures
