use Rattle.std.proofs.Common.{Err, ap}
use Rattle.std.proofs.lemmas.Result.{err_from_is_err_and}
use Rattle.feed_disk.specs.declared.area.Area.TheVariants.{Journal, Sealed}
use Rattle.feed_recovery.specs.Stored.{stored_of}
use Rattle.store_commands.specs.Stored.{member_answer}
use Rattle.store_commands.proofs.AnswerOnLemmas.{answer-bad, answer-on, member-counts, member-live, member-refused}
use Rattle.feed_recovery.proofs.LoadedLemmas.{payloads-then-alone}
use Rattle.store_commands.proofs.StoreLemmas.{opens-same}
use Rattle.store_commands.proofs.store.show_member.Goals as goal

pub returns-in_err-store-clause-refused : goal.returns-in_err-store-clause-refused
returns-in_err-store-clause-refused g c =
    let p = err_from_is_err_and c.from_residual.result c.from_residual.ensures.1 in
    rw (p.1, p.2) (λ refusal observable.
    answer-bad (g.D.Disk.state c.args.disk.now).content (member_answer c.args.number) c.in_err-store.field-0.0
    (c.in_err-store.ensures.refused observable) (c.in_err-store.ensures.only observable) refusal)

pub returns-in_err-text-clause-refused : goal.returns-in_err-text-clause-refused
returns-in_err-text-clause-refused g c =
    let p = err_from_is_err_and c.from_residual-in_err-text.result c.from_residual-in_err-text.ensures.1 in
    let store = c.in_ok-store.store in
    let fault = c.in_err-text.field-0.0 in
    let before = (g.D.Disk.state c.args.disk.now).content in
    let loaded = (g.D.Disk.state c.load.new.disk).content in
    rw (p.1, p.2) (λ refusal observable.
    answer-on before (member_answer c.args.number) _ (stored_of store) c.stores_open_in_one_way.ensures
    (opens-same before loaded (stored_of store) (c.in_ok-store.ensures.same observable)
    (c.in_ok-store.ensures.opens observable).opens)
    (member-refused store c.args.number fault c.in_err-text.ensures.refused
    (λ index e. c.in_err-text.ensures.never observable index (ap Err e)) refusal))

pub returns-in_err-text-clause-safe : goal.returns-in_err-text-clause-safe
returns-in_err-text-clause-safe g c = λ observable.
    payloads-then-alone _ _ _ (c.in_ok-store.ensures.payloads observable) (c.member-text.ensures.areas Journal)
    (c.member-text.ensures.areas Sealed)

pub returns-in_err-text-clause-disk_faults : goal.returns-in_err-text-clause-disk_faults
returns-in_err-text-clause-disk_faults g c =
    let p = err_from_is_err_and c.from_residual-in_err-text.result c.from_residual-in_err-text.ensures.1 in
    rw (p.1, p.2) (member-counts _ _ _ c.in_err-text.field-0.0 (c.in_ok-store.ensures.faults.unfailed (λ e. cc))
    c.in_err-text.ensures.faults)

pub returns-clause-answer : goal.returns-clause-answer
returns-clause-answer g c = λ observable.
    let store = c.in_ok-store.store in
    let before = (g.D.Disk.state c.args.disk.now).content in
    let loaded = (g.D.Disk.state c.load.new.disk).content in
    answer-on before (member_answer c.args.number) _ (stored_of store) c.stores_open_in_one_way.ensures
    (opens-same before loaded (stored_of store) (c.in_ok-store.ensures.same observable)
    (c.in_ok-store.ensures.opens observable).opens)
    (member-live store c.args.number c.in_ok-text.ensures.live.0 _ c.in_ok-text.ensures.live.1
    (c.in_ok-text.ensures.document observable))

pub returns-clause-safe : goal.returns-clause-safe
returns-clause-safe g c = λ observable.
    payloads-then-alone _ _ _ (c.in_ok-store.ensures.payloads observable) (c.member-text.ensures.areas Journal)
    (c.member-text.ensures.areas Sealed)
