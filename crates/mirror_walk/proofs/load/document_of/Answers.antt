use Rattle.std.proofs.Common.{◌≡◌, List, ℕ, Err, Some, length, ap, subst, arith, rules}
use Rattle.std.specs.Prelude.{slice_get}
use Rattle.std.proofs.lemmas.Result.{err_from_is_err_and}
use Rattle.feed_journal.specs.declared.fault.LogFault.{LogFault}
use Rattle.feed_disk.specs.declared.area.Area.{Area}
use Rattle.feed_journal.specs.Records.{records}
use Rattle.mirror_walk.specs.Accept.{IsKeptOf}
use Rattle.mirror_walk.proofs.ReadingLemmas.{log_fails, unfit_all}
use Rattle.mirror_walk.proofs.RefusedLemmas.{short-refused, unfit-refused}
use Rattle.mirror_walk.proofs.SizeLemmas.{follow-most}
use Rattle.mirror_walk.proofs.load.document_of.Goals as goal

pub read_given-requires : goal.read_given-requires
read_given-requires g c =
    let log = c.args.log.now in
    let small = follow-most 0 log.extents log.size c.args.index (length c.in_ok-payload.payload.items)
    c.requires.log.rules.follow c.in_ok-payload.ensures.length in
    omega (arith, small, ap length c.as_slice.ensures.value)

pub returns-in-Ok-clause-fault : goal.returns-in-Ok-clause-fault
returns-in-Ok-clause-fault g c =
    let s = g.D.Disk.state c.args.disk.now in
    let payload = c.in_ok-payload.payload.items in
    let base = c.args.held.now.base in
    let kept = c.args.held.now.kept in
    let size : c.len.result ≡ length payload = search rules in
    unfit_all g.D.Disk.observable base s (g.D.Disk.state c.read.new.disk) kept c.args.index c.len.result payload
    c.in-Ok.given.kept
    c.admit.result c.requires.loaded c.requires.before
    (λ tells. subst (λ (a : Area). slice_get (records (s.content a)) c.args.index ≡ Some payload)
    c.requires.log.area
    (c.in_ok-payload.ensures.payload tells))
    (subst (λ (b : List ℕ). IsKeptOf b c.in-Ok.given.kept) c.as_slice.ensures.value c.in-Ok.ensures.found)
    (c.in_ok-payload.ensures.faults.unfailed (λ is. absurd (cc)))
    size
    c.admit.ensures.fault

pub returns-in_err-payload-clause-fault : goal.returns-in_err-payload-clause-fault
returns-in_err-payload-clause-fault g c =
    let returned = err_from_is_err_and c.from_residual.result c.from_residual.ensures.1 in
    rw (returned.1, returned.2) (log_fails g.D.Disk.observable c.args.held.now.base (g.D.Disk.state c.args.disk.now)
    (g.D.Disk.state c.read.new.disk) c.in_err-payload.field-0.0 c.in_err-payload.ensures.never
    c.in_err-payload.ensures.faults)

pub returns-in_err-payload-clause-refused : goal.returns-in_err-payload-clause-refused
returns-in_err-payload-clause-refused g c =
    let returned = err_from_is_err_and c.from_residual.result c.from_residual.ensures.1 in
    rw (returned.1, returned.2) (short-refused c.args.held.now.base c.args.held.now.kept c.args.log.now.extents
    c.args.index c.in_err-payload.field-0.0
    (λ n is. c.in_err-payload.ensures.changed n (ap (λ (f : LogFault). Err f) is)))

pub returns-in-Ok-clause-refused : goal.returns-in-Ok-clause-refused
returns-in-Ok-clause-refused g c =
    let payload = c.in_ok-payload.payload.items in
    let size : c.len.result ≡ length payload = search rules in
    unfit-refused c.args.held.now.base c.args.held.now.kept c.args.log.now.extents c.args.index payload
    c.in_ok-payload.ensures.length c.in-Ok.given.kept
    (subst (λ (b : List ℕ). IsKeptOf b c.in-Ok.given.kept) c.as_slice.ensures.value c.in-Ok.ensures.found)
    c.len.result size c.admit.result c.admit.ensures.fault
