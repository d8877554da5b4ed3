use Rattle.std.proofs.Common.{◌≡◌, Err, ap, ◌∙◌, inl}
use Rattle.std.specs.Prelude.{Some, None}
use Rattle.std.proofs.lemmas.Result.{err_from_is_err_and}
use Rattle.feed_recovery.specs.Stored.{stored_of}
use Rattle.command_ends.specs.declared.fault.Fault.TheVariants.{Disk, Input}
use Rattle.command_ends.specs.declared.status.Status.TheVariants.{Done}
use Rattle.store_commands.specs.Stored.{apply_answer}
use Rattle.store_commands.proofs.AnswerOnLemmas.{answer-bad, answer-on, apply-made, apply-refused, load-no-input, load-unfinished, not-refusal, opens-applied}
use Rattle.store_commands.proofs.MomentsLemmas.{applies-safely}
use Rattle.store_commands.proofs.StoreLemmas.{no-disk, opens-same}
use Rattle.store_commands.proofs.store.apply.Goals as goal

pub returns-in_err-store-clause-refused : goal.returns-in_err-store-clause-refused
returns-in_err-store-clause-refused g c =
    let p = err_from_is_err_and c.from_residual.result c.from_residual.ensures.1 in
    rw (p.1, p.2) (λ refusal observable clock source.
    answer-bad (g.D.Disk.state c.args.disk.now).content
    (apply_answer (g.C.Clock.coming c.args.clock.now) (g.I.Source.state c.args.input.now).left)
    c.in_err-store.field-0.0 (c.in_err-store.ensures.refused observable) (c.in_err-store.ensures.only observable) refusal)

pub returns-in_err-store-clause-applied : goal.returns-in_err-store-clause-applied
returns-in_err-store-clause-applied g c =
    let p = err_from_is_err_and c.from_residual.result c.from_residual.ensures.1 in
    let fault = c.in_err-store.field-0.0 in
    rw (p.1, p.2) (λ observable. record {
      safe = λ head operations least settled.
          inl (load-unfinished fault, c.load.ensures.moments observable head operations least settled);
      opens = λ clock source refusal stored opens.
          absurd (not-refusal fault
          (c.in_err-store.ensures.only observable stored.head stored.history stored.seals opens) refusal);
    })

pub returns-in_err-store-clause-unrefused : goal.returns-in_err-store-clause-unrefused
returns-in_err-store-clause-unrefused g c =
    let p = err_from_is_err_and c.from_residual.result c.from_residual.ensures.1 in
    rw (p.1, p.2) (λ e. absurd (load-no-input c.in_err-store.field-0.0 cc))

pub returns-in-Err-clause-refused : goal.returns-in-Err-clause-refused
returns-in-Err-clause-refused g c =
    let store = c.in_ok-store.store in
    let before = (g.D.Disk.state c.args.disk.now).content in
    let loaded = (g.D.Disk.state c.load.new.disk).content in
    let moments = g.C.Clock.coming c.args.clock.now in
    let input = (g.I.Source.state c.args.input.now).left in
    (λ refusal observable clock source.
    answer-on before (apply_answer moments input) _ (stored_of store) c.stores_open_in_one_way.ensures
    (opens-same before loaded (stored_of store) (c.in_ok-store.ensures.same observable)
    (c.in_ok-store.ensures.opens observable).opens)
    (apply-refused moments input (stored_of store) (stored_of c.apply_lines.new.store) c.in-Err.fault
    (c.in-Err.ensures.refused refusal observable clock source)))

pub returns-in-Err-clause-applied : goal.returns-in-Err-clause-applied
returns-in-Err-clause-applied g c = λ observable.
    let store = c.in_ok-store.store in
    let fault = c.in-Err.fault in
    let before = g.D.Disk.state c.args.disk.now in
    let loaded = g.D.Disk.state c.load.new.disk in
    let after = g.D.Disk.state c.apply_lines.new.disk in
    let moments = g.C.Clock.coming c.args.clock.now in
    let input = g.I.Source.state c.args.input.now in
    let opened = opens-same before.content loaded.content (stored_of store) (c.in_ok-store.ensures.same observable)
    (c.in_ok-store.ensures.opens observable).opens in
    record {
      safe = applies-safely before loaded after moments input (g.I.Source.state c.apply_lines.new.input)
          (g.C.Clock.observable × g.I.Source.observable) _ _ _ _ _ (stored_of store)
          (g.met.D.Disk.is_disk c.args.disk.now) observable c.stores_open_in_one_way.ensures opened
          (c.in_ok-store.ensures.moments observable)
          (λ whole.
          let settled = c.in_ok-store.ensures.settled observable whole in
          c.in-Err.ensures.leaves observable settled.rests settled.settled)
          (λ e. let is : fault ≡ Disk = cc in ap Err is) (λ e. let is : fault ≡ Disk = cc in ap Err is)
          (λ e. let is : fault ≡ Input = cc in ap Err is);
      opens = λ clock source refusal.
          opens-applied moments input.left (stored_of store) (stored_of c.apply_lines.new.store) before.content
          after.content (Some fault) c.stores_open_in_one_way.ensures opened
          (c.in-Err.ensures.refused refusal observable clock source)
          (c.in-Err.ensures.stands (λ e. no-disk fault refusal cc) observable).opens;
    }

pub returns-in-Err-clause-unrefused : goal.returns-in-Err-clause-unrefused
returns-in-Err-clause-unrefused g c =
    let store = c.in_ok-store.store in
    let before = (g.D.Disk.state c.args.disk.now).content in
    let loaded = (g.D.Disk.state c.load.new.disk).content in
    (λ e observable clock source.
    let is : c.in-Err.fault ≡ Input = cc in (
      stored_of store,
      opens-same before loaded (stored_of store) (c.in_ok-store.ensures.same observable)
          (c.in_ok-store.ensures.opens observable).opens,
      c.in-Err.ensures.unrefused (ap Err is) observable clock source,
    ))

pub returns-in_err-text-in-Ok-clause-applied : goal.returns-in_err-text-in-Ok-clause-applied
returns-in_err-text-in-Ok-clause-applied g c =
    let p = err_from_is_err_and c.from_residual-in_err-text-in-Ok.result c.from_residual-in_err-text-in-Ok.ensures.1
    in
    let store = c.in_ok-store.store in
    let before = g.D.Disk.state c.args.disk.now in
    let loaded = g.D.Disk.state c.load.new.disk in
    rw (p.1, p.2) (λ observable. record {
      safe = applies-safely before loaded (g.D.Disk.state c.apply_lines.new.disk) (g.C.Clock.coming c.args.clock.now)
          (g.I.Source.state c.args.input.now) (g.I.Source.state c.apply_lines.new.input)
          (g.C.Clock.observable × g.I.Source.observable) _ _ _ _ _ (stored_of store)
          (g.met.D.Disk.is_disk c.args.disk.now) observable c.stores_open_in_one_way.ensures
          (opens-same before.content loaded.content (stored_of store) (c.in_ok-store.ensures.same observable)
          (c.in_ok-store.ensures.opens observable).opens)
          (c.in_ok-store.ensures.moments observable)
          (λ whole.
          let settled = c.in_ok-store.ensures.settled observable whole in
          c.in-Ok.ensures.leaves observable settled.rests settled.settled)
          (λ e. cc) (λ e. cc) (λ e. cc);
      opens = λ clock source refusal. absurd refusal;
    })

pub returns-in_err-text-in-Ok-clause-refused : goal.returns-in_err-text-in-Ok-clause-refused
returns-in_err-text-in-Ok-clause-refused g c =
    let p = err_from_is_err_and c.from_residual-in_err-text-in-Ok.result c.from_residual-in_err-text-in-Ok.ensures.1
    in
    rw (p.1, p.2) (λ refusal. absurd refusal)

pub returns-in_ok-text-in-Ok-clause-answer : goal.returns-in_ok-text-in-Ok-clause-answer
returns-in_ok-text-in-Ok-clause-answer g c = λ observable clock source.
    let store = c.in_ok-store.store in
    let before = (g.D.Disk.state c.args.disk.now).content in
    let loaded = (g.D.Disk.state c.load.new.disk).content in
    let moments = g.C.Clock.coming c.args.clock.now in
    let input = (g.I.Source.state c.args.input.now).left in
    answer-on before (apply_answer moments input) _ (stored_of store) c.stores_open_in_one_way.ensures
    (opens-same before loaded (stored_of store) (c.in_ok-store.ensures.same observable)
    (c.in_ok-store.ensures.opens observable).opens)
    (ap (λ bytes. record { status = Done; printed = bytes }) c.in_ok-text-in-Ok.ensures.document
    ∙ apply-made moments input (stored_of store) (stored_of c.apply_lines.new.store)
    (c.in-Ok.ensures.made observable clock source))

pub returns-in_ok-text-in-Ok-clause-applied : goal.returns-in_ok-text-in-Ok-clause-applied
returns-in_ok-text-in-Ok-clause-applied g c = λ observable.
    let store = c.in_ok-store.store in
    let before = g.D.Disk.state c.args.disk.now in
    let loaded = g.D.Disk.state c.load.new.disk in
    let after = g.D.Disk.state c.apply_lines.new.disk in
    let moments = g.C.Clock.coming c.args.clock.now in
    let input = g.I.Source.state c.args.input.now in
    let opened = opens-same before.content loaded.content (stored_of store) (c.in_ok-store.ensures.same observable)
    (c.in_ok-store.ensures.opens observable).opens in
    record {
      safe = applies-safely before loaded after moments input (g.I.Source.state c.apply_lines.new.input)
          (g.C.Clock.observable × g.I.Source.observable) _ _ _ _ _ (stored_of store)
          (g.met.D.Disk.is_disk c.args.disk.now) observable c.stores_open_in_one_way.ensures opened
          (c.in_ok-store.ensures.moments observable)
          (λ whole.
          let settled = c.in_ok-store.ensures.settled observable whole in
          c.in-Ok.ensures.leaves observable settled.rests settled.settled)
          (λ e. cc) (λ e. cc) (λ e. cc);
      opens = λ clock source answered.
          opens-applied moments input.left (stored_of store) (stored_of c.apply_lines.new.store) before.content
          after.content None c.stores_open_in_one_way.ensures opened (c.in-Ok.ensures.made observable clock source)
          (c.in-Ok.ensures.stands (λ e. cc) observable).opens;
    }
