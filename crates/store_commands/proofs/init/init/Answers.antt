use Rattle.std.proofs.Common.{inr, ⊎_elim, Err, ap}
use Rattle.std.proofs.lemmas.Bool.{false≢true}
use Rattle.std.proofs.lemmas.Result.{err_from_is_err_and}
use Rattle.command_ends.specs.declared.status.Status.TheVariants.{Done}
use Rattle.store_commands.proofs.DiskLemmas.{makes-none}
use Rattle.store_commands.proofs.InitLemmas.{init_refused, made_at}
use Rattle.store_commands.proofs.init.init.Goals as goal

pub returns-in_err-printed-clause-makes : goal.returns-in_err-printed-clause-makes
returns-in_err-printed-clause-makes g c =
    let p = err_from_is_err_and c.from_residual.result c.from_residual.ensures.1 in
    rw p.1 (λ observable.
    makes-none (g.D.Disk.state c.args.disk.now) c.args.name c.args.window c.args.capacity g.C.Clock.observable
    (g.C.Clock.coming c.args.clock.now 0) _ (g.met.D.Disk.is_disk c.args.disk.now) false≢true)

pub returns-in_err-made-clause-refused : goal.returns-in_err-made-clause-refused
returns-in_err-made-clause-refused g c =
    let p = err_from_is_err_and c.from_residual-in_err-made.result c.from_residual-in_err-made.ensures.1 in
    rw (p.1, p.2) (λ refusal observable. init_refused (g.D.Disk.state c.args.disk.now).content c.in_err-made.field-0.0
    (λ is. c.in_err-made.ensures.already (ap Err is) observable) refusal)

pub returns-in_err-made-clause-makes : goal.returns-in_err-made-clause-makes
returns-in_err-made-clause-makes g c =
    let p = err_from_is_err_and c.from_residual-in_err-made.result c.from_residual-in_err-made.ensures.1 in
    rw p.1 (λ observable. record {
      now = c.now.result;
      is_moment = λ clock. c.now.ensures.moment clock;
      makes = made_at _ _ c.args.name c.args.window c.args.capacity c.now.result c.stamp_of.result _ c.stamp_of.ensures
          (record {
            moments = c.in_err-made.ensures.moments observable;
            settled = λ done. absurd (false≢true done);
            opens = λ done. absurd (false≢true done);
          });
      stores = c.in_err-made.ensures.kept observable;
    })

pub returns-clause-answer : goal.returns-clause-answer
returns-clause-answer g c = λ observable. inr (
  (λ has.
      ⊎_elim (λ e. cc) (λ later. ⊎_elim (λ e. cc) (λ e. cc) later) (c.in_ok-made.ensures.refused observable has)),
  ap (λ bytes. record { status = Done; printed = bytes }) c.in_ok-printed.ensures.items,
)

pub returns-clause-makes : goal.returns-clause-makes
returns-clause-makes g c = λ observable. record {
  now = c.now.result;
  is_moment = λ clock. c.now.ensures.moment clock;
  makes = made_at _ _ c.args.name c.args.window c.args.capacity c.now.result c.stamp_of.result _ c.stamp_of.ensures
      (record {
        moments = c.in_ok-made.ensures.moments observable;
        settled = λ done. c.in_ok-made.ensures.settled observable;
        opens = λ done. c.in_ok-made.ensures.opens observable;
      });
  stores = c.in_ok-made.ensures.kept observable;
}
