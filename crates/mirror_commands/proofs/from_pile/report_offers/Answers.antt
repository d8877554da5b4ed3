use Rattle.std.proofs.Common.{◌≡◌, inl, inr, List, ℕ, Bool, Err, refl, sym, ap, subst, ◌∙◌, map}
use Rattle.std.proofs.lemmas.Result.{err_from_is_err_and, IfErr-weaker, IfOk-weaker}
use Rattle.feed_disk.specs.declared.area.Area.TheVariants.{Mirror as MirrorArea}
use Rattle.feed_disk.proofs.MomentLemmas.{alone_begins, alone_joins}
use Rattle.command_ends.specs.declared.fault.Fault.TheVariants.{Disk}
use Rattle.mirror_walk.specs.Holding.{payloads_of}
use Rattle.mirror_walk.specs.Loaded.{IsLoadedOf}
use Rattle.command_ends.specs.Fault.{fault_answer}
use Rattle.mirror_commands.specs.Mirror.{IsMirrored, offering}
use Rattle.mirror_commands.specs.Printed.{printed_answer}
use Rattle.mirror_commands.specs.Report.{EndsReport, Reports}
use Rattle.mirror_commands.proofs.GivingLemmas.{gives-none, not-ok}
use Rattle.mirror_commands.proofs.MirrorEndLemmas.{report-done}
use Rattle.mirror_commands.proofs.OffersLemmas.{certificate-lines, ends-observable, report-is}
use Rattle.mirror_commands.proofs.TakingLemmas.{answered-loaded, gives-later}
use Rattle.mirror_commands.proofs.from_pile.report_offers.Goals as goal

pub returns-in_err-reader-clause-gives : goal.returns-in_err-reader-clause-gives
returns-in_err-reader-clause-gives g c =
    let p = err_from_is_err_and c.from_residual.result c.from_residual.ensures.1 in
    gives-none g.I.Source.observable g.D.Disk.observable c.args.mirror.now (g.D.Disk.state c.args.disk.now)
    (g.I.Source.state c.args.input.now).left _ _ c.begun_images_are_whole.ensures c.requires.usable c.requires.loaded
    (λ whole. not-ok c.from_residual.result _ p.1 whole) (λ e. let a = p.1 in let b = p.2 in cc)

pub returns-in_err-offered-clause-refused : goal.returns-in_err-offered-clause-refused
returns-in_err-offered-clause-refused g c =
    let p = err_from_is_err_and c.from_residual-in_err-offered.result c.from_residual-in_err-offered.ensures.1 in
    rw (p.1, p.2) (λ refusal disk observable.
    subst (λ (detailed : Bool). IsMirrored detailed c.args.mirror.now.capacity c.args.mirror.now.base
    c.args.mirror.now.kept (g.I.Source.state c.args.input.now).left (fault_answer c.in_err-offered.field-0.0))
    c.new-made.ensures.detailed (c.in_err-offered.ensures.refused refusal observable))

pub returns-in_err-offered-clause-gives : goal.returns-in_err-offered-clause-gives
returns-in_err-offered-clause-gives g c =
    let p = err_from_is_err_and c.from_residual-in_err-offered.result c.from_residual-in_err-offered.ensures.1 in
    let first = c.args.mirror.now in
    let fault = c.in_err-offered.field-0.0 in
    let later = g.D.Disk.state c.offer_all-offered.new.disk in
    gives-later g.D.Disk.observable first.capacity first.base first.kept (g.D.Disk.state c.args.disk.now)
    (g.I.Source.state c.args.input.now).left g.I.Source.observable later later _ _ _ _
    (λ e. let same : fault ≡ Disk = cc in p.1 ∙ ap Err (p.2 ∙ same))
    (λ e. elim e [
      | inl whole ↦ absurd (not-ok c.from_residual-in_err-offered.result _ p.1 whole)
      | inr failed ↦ inr (let a = p.1 in let b = p.2 in let same : fault ≡ Disk = cc in ap Err same)
    ])
    (λ whole. absurd (not-ok c.from_residual-in_err-offered.result _ p.1 whole)) (alone_begins later MirrorArea)
    c.in_err-offered.ensures.gives

pub end-requires : goal.end-requires
end-requires g c =
    let first = c.args.mirror.now in
    let left = c.offer_all-offered.new.mirror in
    let held = c.in_ok-offered.ensures.offers in
    let same = c.offer_all-offered.ensures.same in
    record {
      base = c.requires.base ∙ sym same.base;
      usable = c.in_ok-offered.ensures.usable (λ e. cc);
      no_line = certificate-lines c.new-made.result.detailed first.capacity first.base first.kept (map offering held.0)
          left.kept c.offer_all-offered.new.report held.2;
    }

pub returns-clause-printed : goal.returns-clause-printed
returns-clause-printed g c = IfOk-weaker c.end.result _ _ (λ printed ends disk observable.
    let first = c.args.mirror.now in
    let held = c.in_ok-offered.ensures.offers in
    let left = c.offer_all-offered.new.mirror.kept in
    let loaded = subst (λ (b : List ℕ). IsLoadedOf b (payloads_of left) left) (sym c.offer_all-offered.ensures.same.base)
    (answered-loaded first.capacity first.base first.kept (map offering held.0) held.2.answers left held.2.answered
    c.requires.loaded) in
    let reports = subst (λ (detailed : Bool). Reports detailed first.capacity first.base first.kept
    (map offering held.0)
    left c.offer_all-offered.new.report) c.new-made.ensures.detailed held.2 in
    record {
      offers = held.0;
      read = held.1 observable;
      left = left;
      has = record { answers = reports.answers; answered = reports.answered };
      is = report-is c.args.report first.capacity first.base first.kept
          (map offering held.0) left c.offer_all-offered.new.report
          (printed_answer printed) reports
          (subst (λ (b : List ℕ). EndsReport (Unit {0}) b c.offer_all-offered.new.report left (printed_answer printed))
          c.requires.base (ends-observable _ c.args.base.now c.offer_all-offered.new.report left (printed_answer printed)
          (disk, loaded)
          ends));
    }) c.end.ensures.printed

pub returns-clause-refused : goal.returns-clause-refused
returns-clause-refused g c = IfErr-weaker c.end.result _ _ (λ fault never refusal disk observable.
    absurd (never disk refusal)) c.end.ensures.never

pub returns-clause-ends : goal.returns-clause-ends
returns-clause-ends g c = IfOk-weaker c.end.result _ _ (λ printed ends.
    report-done _ c.args.base.now c.offer_all-offered.new.report c.offer_all-offered.new.mirror.kept (printed_answer printed)
    ends) c.end.ensures.printed

pub returns-clause-others : goal.returns-clause-others
returns-clause-others g c = λ a other.
    alone_joins _ (g.D.Disk.state c.offer_all-offered.new.disk) _ a (c.in_ok-offered.ensures.others a other)
    (c.end.ensures.areas a)

pub returns-clause-gives : goal.returns-clause-gives
returns-clause-gives g c =
    let first = c.args.mirror.now in
    gives-later g.D.Disk.observable first.capacity first.base first.kept (g.D.Disk.state c.args.disk.now)
    (g.I.Source.state c.args.input.now).left g.I.Source.observable (g.D.Disk.state c.offer_all-offered.new.disk)
    (g.D.Disk.state c.end.new.disk) _ _ _ _ (λ e. absurd (cc)) (λ e. inl refl) (λ whole. refl)
    (c.end.ensures.areas MirrorArea) c.in_ok-offered.ensures.gives
