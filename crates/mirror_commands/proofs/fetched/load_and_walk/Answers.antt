use Rattle.std.proofs.Common.{◌≡◌, inl, inr, List, ℕ, refl, subst, ◌∙◌}
use Rattle.std.proofs.lemmas.Result.{err_from_is_err_and, IfErr-weaker, IfOk-weaker}
use Rattle.feed_disk.specs.declared.area.Area.TheVariants.{Mirror as MirrorArea}
use Rattle.feed_disk.proofs.MomentLemmas.{alone_joins}
use Rattle.feed_journal.specs.Records.{records}
use Rattle.mirror_walk.specs.Loaded.{IsLoadedOf, IsMirrorFault}
use Rattle.mirror_commands.specs.FetchEnds.{AsksOfMirror, EndsWalkBy, GoesWalk}
use Rattle.mirror_commands.specs.MirrorFaults.{report_answer}
use Rattle.mirror_commands.specs.Printed.{printed_answer}
use Rattle.mirror_commands.specs.Walked.{IsFetched, IsWalkReport}
use Rattle.mirror_commands.specs.declared.report_fault.ReportFault.TheVariants.{Other}
use Rattle.command_ends.specs.declared.fault.Fault.TheVariants.{Disk}
use Rattle.std.specs.Prelude.{Err}
use Rattle.mirror_commands.proofs.MovedLemmas.{moved}
use Rattle.mirror_commands.proofs.LoadedLemmas.{leaves-walk, leaves-taken}
use Rattle.mirror_commands.proofs.fetched.load_and_walk.Goals as goal

pub returns-in_err-mirror-clause-refused : goal.returns-in_err-mirror-clause-refused
returns-in_err-mirror-clause-refused g c =
    let p = err_from_is_err_and c.from_residual-in_err-mirror.result c.from_residual-in_err-mirror.ensures.1 in
    rw (p.1, p.2) (λ refusal disk observable. inr record {
      fault = c.in_err-mirror.field-0.0;
      is = subst (λ (b : List ℕ).
          IsMirrorFault b (records ((g.D.Disk.state c.args.disk.now).content MirrorArea)) c.in_err-mirror.field-0.0)
          c.in_ok-copy.ensures.same (c.in_err-mirror.ensures.refused disk);
      refuses = refusal;
      answer = refl;
    })

pub returns-clause-printed : goal.returns-clause-printed
returns-clause-printed g c = IfOk-weaker c.report_walk-printed.result _ _
    (λ printed said disk source. record {
      kept = c.in_ok-mirror.mirror.kept;
      loaded = subst (λ (b : List ℕ). IsLoadedOf b (records ((g.D.Disk.state c.args.disk.now).content MirrorArea))
          c.in_ok-mirror.mirror.kept) c.in_ok-copy.ensures.same (c.in_ok-mirror.ensures.loaded disk);
      is = moved (λ (n : ℕ) (b : List ℕ). IsWalkReport c.args.report n b c.in_ok-mirror.mirror.kept
          (g.F.Fetch.state c.args.fetch.now).answers (printed_answer printed))
          _ _ _ _ c.in_ok-mirror.ensures.begins.capacity_is (c.in_ok-mirror.ensures.begins.base_is ∙ c.in_ok-copy.ensures.same)
          (said disk source);
    }) c.report_walk-printed.ensures.printed

pub returns-clause-refused : goal.returns-clause-refused
returns-clause-refused g c = IfErr-weaker c.report_walk-printed.result _ _
    (λ fault said refusal disk source. inl record {
      kept = c.in_ok-mirror.mirror.kept;
      loaded = subst (λ (b : List ℕ). IsLoadedOf b (records ((g.D.Disk.state c.args.disk.now).content MirrorArea))
          c.in_ok-mirror.mirror.kept) c.in_ok-copy.ensures.same (c.in_ok-mirror.ensures.loaded disk);
      is = moved (λ (n : ℕ) (b : List ℕ). IsFetched c.args.report n b c.in_ok-mirror.mirror.kept
          (g.F.Fetch.state c.args.fetch.now).answers (report_answer fault))
          _ _ _ _ c.in_ok-mirror.ensures.begins.capacity_is (c.in_ok-mirror.ensures.begins.base_is ∙ c.in_ok-copy.ensures.same)
          (said refusal disk source);
    }) c.report_walk-printed.ensures.refused

pub returns-clause-asks : goal.returns-clause-asks
returns-clause-asks g c = λ disk source. inr record {
  kept = c.in_ok-mirror.mirror.kept;
  loaded = subst (λ (b : List ℕ). IsLoadedOf b (records ((g.D.Disk.state c.args.disk.now).content MirrorArea))
      c.in_ok-mirror.mirror.kept) c.in_ok-copy.ensures.same (c.in_ok-mirror.ensures.loaded disk);
  asks = moved (λ (n : ℕ) (b : List ℕ). AsksOfMirror n b c.in_ok-mirror.mirror.kept
      (g.F.Fetch.state c.args.fetch.now) (g.F.Fetch.state c.report_walk-printed.new.fetch)
      (EndsWalkBy c.report_walk-printed.result))
      _ _ _ _ c.in_ok-mirror.ensures.begins.capacity_is (c.in_ok-mirror.ensures.begins.base_is ∙ c.in_ok-copy.ensures.same)
      (c.report_walk-printed.ensures.asks source);
}

pub returns-clause-others : goal.returns-clause-others
returns-clause-others g c = λ a other.
    alone_joins _ _ _ a (c.in_ok-mirror.ensures.others a other) (c.report_walk-printed.ensures.others a other)

pub returns-clause-kept : goal.returns-clause-kept
returns-clause-kept g c = λ disk source whole.
    leaves-taken _ _ _ _ (leaves-walk (g.D.Disk.state c.args.disk.now) (g.D.Disk.state c.load.new.disk)
    (g.D.Disk.state c.report_walk-printed.new.disk) (g.met.D.Disk.is_disk c.args.disk.now)
    (g.met.D.Disk.is_disk c.load.new.disk) disk whole c.args.capacity
    c.args.base.now c.in_ok-mirror.mirror.kept
    (subst (λ (b : List ℕ). IsLoadedOf b (records ((g.D.Disk.state c.args.disk.now).content MirrorArea))
    c.in_ok-mirror.mirror.kept) c.in_ok-copy.ensures.same (c.in_ok-mirror.ensures.loaded disk))
    (c.in_ok-mirror.ensures.moments disk) (c.in_ok-mirror.ensures.rests disk)
    (g.F.Fetch.state c.args.fetch.now).answers (c.report_walk-printed.result ≡ Err (Other Disk))
    (EndsWalkBy c.report_walk-printed.result)
    (moved (λ (n : ℕ) (b : List ℕ). GoesWalk n b c.in_ok-mirror.mirror.kept (g.F.Fetch.state c.args.fetch.now).answers
    (g.D.Disk.state c.load.new.disk) (g.D.Disk.state c.report_walk-printed.new.disk)
    (c.report_walk-printed.result ≡ Err (Other Disk)) (EndsWalkBy c.report_walk-printed.result))
    _ _ _ _ c.in_ok-mirror.ensures.begins.capacity_is (c.in_ok-mirror.ensures.begins.base_is ∙ c.in_ok-copy.ensures.same)
    (c.report_walk-printed.ensures.walk disk source)))
