use Rattle.std.proofs.Common.{◌≡◌, Err, false, length, vec_len, ap, ◌∙◌, refl, arith}
use Rattle.doc_source.specs.Pile.{offer_limit}
use Rattle.feed_recovery.specs.Store.{is_spent}
use Rattle.feed_life.proofs.GetsLemmas.{changed-works, disk-inside, gets-changed, gets-limited, gets-read}
use Rattle.feed_life.proofs.GetsLemmas.{no_memory-answers, no_memory-works, not_sealed-works, ok-works, reads-inside}
use Rattle.feed_life.proofs.ShortLemmas.{seal-fits}
use Rattle.feed_life.proofs.store_fetch.StoreFetch.archive.Goals as goal

pub returns-in-Ok-clause-gets : goal.returns-in-Ok-clause-gets
returns-in-Ok-clause-gets g c =
    gets-limited g.D.Disk.observable g.D.Disk.state _ _ _ _ _ offer_limit (vec_len c.in-Ok.written)
    (reads-inside g.D.Disk.state _ _ c.archive.new.self c.archive.new.disk c.self.view_is
    (c.in-Ok.ensures.store.same (ok-works _ _)) c.in-Ok.ensures.areas (c.in-Ok.ensures.faults.unfailed (ok-works _ _)))
    (λ observable.
    let unspent : is_spent c.self.inside.store ≡ false = ap (λ f. is_spent f.store) c.self.view_is ∙ c.requires in
    let fits = seal-fits _ _ (c.self.invariant unspent observable) c.args.number c.in-Ok.ensures.sealed in
    let is = ap length (c.in-Ok.ensures.document observable) in
    omega (arith, fits, is, c.in-Ok.written.ok))
    c.within_limit.ensures.same c.within_limit.ensures.fault c.within_limit.ensures.long c.within_limit.ensures.failures

pub returns-in-Err-NotSealed-clause-gets : goal.returns-in-Err-NotSealed-clause-gets
returns-in-Err-NotSealed-clause-gets g c =
    gets-read _ _ _ _ _ _
    (reads-inside g.D.Disk.state _ _ c.archive.new.self c.archive.new.disk c.self.view_is
    (c.in-Err-NotSealed.ensures.store.same (not_sealed-works _ _ _ c.in-Err-NotSealed.field-0-is)) c.in-Err-NotSealed.ensures.areas
    (c.in-Err-NotSealed.ensures.faults.unfailed (not_sealed-works _ _ _ c.in-Err-NotSealed.field-0-is))) (ok-works _ _)

pub returns-in-Err-DiskFault-clause-gets : goal.returns-in-Err-DiskFault-clause-gets
returns-in-Err-DiskFault-clause-gets g c =
    disk-inside _ g.D.Disk.state _ _ _ c.archive.new.self c.archive.new.disk c.self.view_is c.requires
    (c.in-Err-DiskFault.ensures.store.spent (ap (λ fault. Err fault) c.in-Err-DiskFault.field-0-is)) c.in-Err-DiskFault.ensures.areas c.in-Err-DiskFault.ensures.faults.later
    (c.in-Err-DiskFault.ensures.faults.failed (ap (λ fault. Err fault) c.in-Err-DiskFault.field-0-is)) refl

pub returns-in-Err-Changed-clause-gets : goal.returns-in-Err-Changed-clause-gets
returns-in-Err-Changed-clause-gets g c =
    gets-changed g.D.Disk.observable g.D.Disk.state _ _ _ _ _
    (reads-inside g.D.Disk.state _ _ c.archive.new.self c.archive.new.disk c.self.view_is
    (c.in-Err-Changed.ensures.store.same (changed-works _ _ c.in-Err-Changed.field-0-is)) c.in-Err-Changed.ensures.areas
    (c.in-Err-Changed.ensures.faults.unfailed (changed-works _ _ c.in-Err-Changed.field-0-is)))
    (λ observable. c.in-Err-Changed.ensures.never observable c.in-Err-Changed.field-0-0
    (ap (λ fault. Err fault) c.in-Err-Changed.field-0-is))
    c.fail.ensures.failures (ap (λ fault. Err fault) c.fail.ensures.fault)

pub returns-in-Err-NoMemory-clause-gets : goal.returns-in-Err-NoMemory-clause-gets
returns-in-Err-NoMemory-clause-gets g c =
    gets-read _ _ _ _ _ _
    (reads-inside g.D.Disk.state _ _ c.archive.new.self c.archive.new.disk c.self.view_is
    (c.in-Err-NoMemory.ensures.store.same (no_memory-works _ c.in-Err-NoMemory.field-0-is)) c.in-Err-NoMemory.ensures.areas
    (c.in-Err-NoMemory.ensures.faults.unfailed (no_memory-works _ c.in-Err-NoMemory.field-0-is))) no_memory-answers
