use Rattle.std.proofs.Common.{ap}
use Rattle.std.proofs.lemmas.Result.{err_from_is_err_and}
use Rattle.feed_recovery.specs.Stored.{stored_of}
use Rattle.command_ends.specs.declared.status.Status.TheVariants.{Done}
use Rattle.store_commands.specs.Stored.{feed_answer}
use Rattle.store_commands.proofs.AnswerOnLemmas.{answer-bad, answer-on}
use Rattle.store_commands.proofs.StoreLemmas.{opens-same}
use Rattle.store_commands.proofs.store.show_feed.Goals as goal

pub returns-in_err-store-clause-refused : goal.returns-in_err-store-clause-refused
returns-in_err-store-clause-refused g c =
    let p = err_from_is_err_and c.from_residual.result c.from_residual.ensures.1 in
    rw (p.1, p.2) (λ refusal observable.
    answer-bad (g.D.Disk.state c.args.disk.now).content feed_answer c.in_err-store.field-0.0
    (c.in_err-store.ensures.refused observable) (c.in_err-store.ensures.only observable) refusal)

pub returns-in_err-text-clause-refused : goal.returns-in_err-text-clause-refused
returns-in_err-text-clause-refused g c =
    let p = err_from_is_err_and c.from_residual-in_err-text.result c.from_residual-in_err-text.ensures.1 in
    rw (p.1, p.2) (λ refusal. absurd refusal)

pub returns-clause-answer : goal.returns-clause-answer
returns-clause-answer g c = λ observable.
    let store = c.in_ok-store.store in
    let before = (g.D.Disk.state c.args.disk.now).content in
    let loaded = (g.D.Disk.state c.load.new.disk).content in
    answer-on before feed_answer _ (stored_of store) c.stores_open_in_one_way.ensures
    (opens-same before loaded (stored_of store) (c.in_ok-store.ensures.same observable)
    (c.in_ok-store.ensures.opens observable).opens)
    (ap (λ bytes. record { status = Done; printed = bytes }) c.in_ok-text.ensures.document)
