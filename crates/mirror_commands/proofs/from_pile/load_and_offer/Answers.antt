use Rattle.std.proofs.Common.{◌≡◌, inl, inr, List, ℕ, refl, subst, ◌∙◌}
use Rattle.std.proofs.lemmas.Bool.{false≢true}
use Rattle.std.proofs.lemmas.Result.{err_from_is_err_and}
use Rattle.feed_disk.specs.declared.area.Area.TheVariants.{Mirror as MirrorArea}
use Rattle.feed_disk.proofs.MomentLemmas.{alone_joins}
use Rattle.feed_journal.specs.Records.{records}
use Rattle.mirror_walk.specs.Loaded.{IsLoadedOf, IsMirrorFault}
use Rattle.std.specs.Prelude.{Err, IsOk}
use Rattle.command_ends.specs.Fault.{fault_answer}
use Rattle.mirror_commands.specs.Mirror.{IsMirrored}
use Rattle.mirror_commands.specs.MirrorEnds.{GivesOffers}
use Rattle.command_ends.specs.declared.fault.Fault.TheVariants.{Disk}
use Rattle.mirror_commands.proofs.LoadedLemmas.{mirrored-weaker}
use Rattle.mirror_commands.proofs.MovedLemmas.{moved}
use Rattle.mirror_commands.proofs.LoadedLemmas.{leaves-offers, leaves-taken}
use Rattle.mirror_commands.proofs.ReportFaultLemmas.{other-disk}
use Rattle.mirror_commands.proofs.TakingLemmas.{gives-held}
use Rattle.mirror_commands.proofs.from_pile.load_and_offer.Goals as goal

pub returns-in_err-mirror-clause-refused : goal.returns-in_err-mirror-clause-refused
returns-in_err-mirror-clause-refused g c =
    let p = err_from_is_err_and c.from_residual-in_err-mirror.result c.from_residual-in_err-mirror.ensures.1 in
    rw (p.1, p.2) (λ refusal disk observable. inr record {
      fault = c.in_err-mirror.field-0.0;
      is = subst (λ (b : List ℕ).
          IsMirrorFault b (records ((g.D.Disk.state c.args.disk.now).content MirrorArea)) c.in_err-mirror.field-0.0)
          c.in_ok-copy.ensures.same (c.in_err-mirror.ensures.refused disk);
      refuses = refusal;
      answer = refl;
    })

pub returns-in_err-printed-clause-refused : goal.returns-in_err-printed-clause-refused
returns-in_err-printed-clause-refused g c =
    let p = err_from_is_err_and c.from_residual-in_err-printed.result
    c.from_residual-in_err-printed.ensures.1 in
    rw (p.1, p.2) (λ refusal disk input. inl record {
      kept = c.in_ok-mirror.mirror.kept;
      loaded = (subst (λ (b : List ℕ). IsLoadedOf b (records ((g.D.Disk.state c.args.disk.now).content MirrorArea))
          c.in_ok-mirror.mirror.kept) c.in_ok-copy.ensures.same (c.in_ok-mirror.ensures.loaded disk));
      is = moved (λ (n : ℕ) (b : List ℕ). IsMirrored c.args.report n b c.in_ok-mirror.mirror.kept
          (g.I.Source.state c.args.input.now).left (fault_answer c.in_err-printed.field-0.0))
          _ _ _ _ c.in_ok-mirror.ensures.begins.capacity_is (c.in_ok-mirror.ensures.begins.base_is ∙ c.in_ok-copy.ensures.same)
          (c.in_err-printed.ensures.refused refusal disk input);
    })

pub returns-in_err-printed-clause-others : goal.returns-in_err-printed-clause-others
returns-in_err-printed-clause-others g c = λ a other.
    alone_joins _ _ _ a (c.in_ok-mirror.ensures.others a other) (c.report_offers-printed.ensures.others a other)

pub returns-in_err-printed-clause-gave : goal.returns-in_err-printed-clause-gave
returns-in_err-printed-clause-gave g c =
    let p = err_from_is_err_and c.from_residual-in_err-printed.result
    c.from_residual-in_err-printed.ensures.1 in
    rw (p.1, p.2) (λ disk input. inr (gives-held c.args.capacity c.args.base.now c.in_ok-mirror.mirror.kept
    (g.D.Disk.state c.args.disk.now).content (g.I.Source.state c.args.input.now).left g.I.Source.observable g.D.Disk.observable
    (g.D.Disk.state c.load.new.disk) (g.D.Disk.state c.report_offers-printed.new.disk)
    (c.report_offers-printed.result ≡ Err Disk) _ (IsOk c.report_offers-printed.result) _
    (subst (λ (b : List ℕ). IsLoadedOf b (records ((g.D.Disk.state c.args.disk.now).content MirrorArea))
    c.in_ok-mirror.mirror.kept) c.in_ok-copy.ensures.same (c.in_ok-mirror.ensures.loaded disk)) input
    (λ e. cc (e, c.in_err-printed.is, c.in_err-printed.was))
    (λ e. elim e [
      | inl ok ↦ absurd (false≢true ok)
      | inr failed ↦ inr (rw c.in_err-printed.was (other-disk c.in_err-printed.field-0.0 failed))
    ])
    (λ ok. absurd (false≢true ok))
    (moved (λ (n : ℕ) (b : List ℕ). GivesOffers n b c.in_ok-mirror.mirror.kept
    (g.I.Source.state c.args.input.now).left g.I.Source.observable g.D.Disk.observable (g.D.Disk.state c.load.new.disk)
    (g.D.Disk.state c.report_offers-printed.new.disk) (c.report_offers-printed.result ≡ Err Disk)
    (IsOk c.report_offers-printed.result))
    _ _ _ _ c.in_ok-mirror.ensures.begins.capacity_is (c.in_ok-mirror.ensures.begins.base_is ∙ c.in_ok-copy.ensures.same)
    c.report_offers-printed.ensures.gives)))

pub returns-in_err-printed-clause-kept : goal.returns-in_err-printed-clause-kept
returns-in_err-printed-clause-kept g c =
    let p = err_from_is_err_and c.from_residual-in_err-printed.result
    c.from_residual-in_err-printed.ensures.1 in
    rw (p.1, p.2) (λ disk input whole. leaves-taken _ _ _ _ (mirrored-weaker c.args.capacity c.args.base.now
    (g.I.Source.state c.args.input.now).left
    (g.D.Disk.state c.args.disk.now) (g.D.Disk.state c.report_offers-printed.new.disk) (c.report_offers-printed.result ≡ Err Disk)
    _ (IsOk c.report_offers-printed.result) _ (λ e. cc (e, c.in_err-printed.is, c.in_err-printed.was))
    (λ ok. absurd (false≢true ok))
    (leaves-offers (g.D.Disk.state c.args.disk.now) (g.D.Disk.state c.load.new.disk)
    (g.D.Disk.state c.report_offers-printed.new.disk) (g.met.D.Disk.is_disk c.args.disk.now)
    (g.met.D.Disk.is_disk c.load.new.disk) disk whole c.args.capacity
    c.args.base.now c.in_ok-mirror.mirror.kept
    (subst (λ (b : List ℕ). IsLoadedOf b (records ((g.D.Disk.state c.args.disk.now).content MirrorArea))
    c.in_ok-mirror.mirror.kept) c.in_ok-copy.ensures.same (c.in_ok-mirror.ensures.loaded disk))
    (c.in_ok-mirror.ensures.moments disk) (c.in_ok-mirror.ensures.rests disk)
    (g.I.Source.state c.args.input.now).left g.I.Source.observable (c.report_offers-printed.result ≡ Err Disk)
    (IsOk c.report_offers-printed.result) input
    (moved (λ (n : ℕ) (b : List ℕ). GivesOffers n b c.in_ok-mirror.mirror.kept
    (g.I.Source.state c.args.input.now).left g.I.Source.observable g.D.Disk.observable (g.D.Disk.state c.load.new.disk)
    (g.D.Disk.state c.report_offers-printed.new.disk) (c.report_offers-printed.result ≡ Err Disk) (IsOk c.report_offers-printed.result))
    _ _ _ _ c.in_ok-mirror.ensures.begins.capacity_is (c.in_ok-mirror.ensures.begins.base_is ∙ c.in_ok-copy.ensures.same)
    c.report_offers-printed.ensures.gives))))

pub returns-clause-others : goal.returns-clause-others
returns-clause-others g c = λ a other.
    alone_joins _ _ _ a (c.in_ok-mirror.ensures.others a other) (c.report_offers-printed.ensures.others a other)

pub returns-clause-gave : goal.returns-clause-gave
returns-clause-gave g c = λ disk input. inr (gives-held c.args.capacity c.args.base.now c.in_ok-mirror.mirror.kept
    (g.D.Disk.state c.args.disk.now).content (g.I.Source.state c.args.input.now).left g.I.Source.observable g.D.Disk.observable
    (g.D.Disk.state c.load.new.disk) (g.D.Disk.state c.report_offers-printed.new.disk)
    (c.report_offers-printed.result ≡ Err Disk) _ (IsOk c.report_offers-printed.result) _
    (subst (λ (b : List ℕ). IsLoadedOf b (records ((g.D.Disk.state c.args.disk.now).content MirrorArea))
    c.in_ok-mirror.mirror.kept) c.in_ok-copy.ensures.same (c.in_ok-mirror.ensures.loaded disk)) input
    (λ e. cc (e, c.in_ok-printed.is, c.in_ok-printed.was))
    (λ e. inl (rw c.in_ok-printed.was refl)) (λ ok. rw c.in_ok-printed.was refl)
    (moved (λ (n : ℕ) (b : List ℕ). GivesOffers n b c.in_ok-mirror.mirror.kept
    (g.I.Source.state c.args.input.now).left g.I.Source.observable g.D.Disk.observable (g.D.Disk.state c.load.new.disk)
    (g.D.Disk.state c.report_offers-printed.new.disk) (c.report_offers-printed.result ≡ Err Disk)
    (IsOk c.report_offers-printed.result))
    _ _ _ _ c.in_ok-mirror.ensures.begins.capacity_is (c.in_ok-mirror.ensures.begins.base_is ∙ c.in_ok-copy.ensures.same)
    c.report_offers-printed.ensures.gives))

pub returns-clause-kept : goal.returns-clause-kept
returns-clause-kept g c = λ disk input whole. leaves-taken _ _ _ _ (mirrored-weaker c.args.capacity c.args.base.now
    (g.I.Source.state c.args.input.now).left
    (g.D.Disk.state c.args.disk.now) (g.D.Disk.state c.report_offers-printed.new.disk) (c.report_offers-printed.result ≡ Err Disk)
    _ (IsOk c.report_offers-printed.result) _ (λ e. cc (e, c.in_ok-printed.is, c.in_ok-printed.was))
    (λ ok. rw c.in_ok-printed.was refl)
    (leaves-offers (g.D.Disk.state c.args.disk.now) (g.D.Disk.state c.load.new.disk)
    (g.D.Disk.state c.report_offers-printed.new.disk) (g.met.D.Disk.is_disk c.args.disk.now)
    (g.met.D.Disk.is_disk c.load.new.disk) disk whole c.args.capacity
    c.args.base.now c.in_ok-mirror.mirror.kept
    (subst (λ (b : List ℕ). IsLoadedOf b (records ((g.D.Disk.state c.args.disk.now).content MirrorArea))
    c.in_ok-mirror.mirror.kept) c.in_ok-copy.ensures.same (c.in_ok-mirror.ensures.loaded disk))
    (c.in_ok-mirror.ensures.moments disk) (c.in_ok-mirror.ensures.rests disk)
    (g.I.Source.state c.args.input.now).left g.I.Source.observable (c.report_offers-printed.result ≡ Err Disk)
    (IsOk c.report_offers-printed.result) input
    (moved (λ (n : ℕ) (b : List ℕ). GivesOffers n b c.in_ok-mirror.mirror.kept
    (g.I.Source.state c.args.input.now).left g.I.Source.observable g.D.Disk.observable (g.D.Disk.state c.load.new.disk)
    (g.D.Disk.state c.report_offers-printed.new.disk) (c.report_offers-printed.result ≡ Err Disk) (IsOk c.report_offers-printed.result))
    _ _ _ _ c.in_ok-mirror.ensures.begins.capacity_is (c.in_ok-mirror.ensures.begins.base_is ∙ c.in_ok-copy.ensures.same)
    c.report_offers-printed.ensures.gives)))
