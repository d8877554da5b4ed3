use Rattle.std.proofs.Common.{◌≡◌, Err, None, option_map, ap, refl, sym, subst, ◌∙◌}
use Rattle.feed_relay.specs.Fetch.{RelayFetchValue, relay_answers}
use Rattle.feed_relay.proofs.AnswerLemmas.{answers-named, answers-unread, each-held}
use Rattle.feed_relay.proofs.GetsLemmas.{changed-works, disk-inside, gets-changed, gets-read, no_memory-answers}
use Rattle.feed_relay.proofs.GetsLemmas.{no_memory-works, ok-works, reads-inside}
use Rattle.feed_relay.proofs.fetch.RelayFetch.answer.Goals as goal

pub returns-in_default-clause-answer : goal.returns-in_default-clause-answer
returns-in_default-clause-answer g c observable =
    let each = each-held c.self.inside.base c.self.inside.mirror c.self.invariant.0 c.is_spent.ensures.rules
    (sym c.is_spent.ensures.spent ∙ c.if-is_spent.false) in
    subst (λ (f : RelayFetchValue g.row.D.Denot). None ≡ relay_answers f.base f.mirror.kept c.args.address.now)
    c.self.view_is
    (sym (answers-unread c.self.inside.base c.self.inside.mirror.kept each c.args.address.now
    (λ other is_address there. let absent = c.in_default.ensures.only other is_address there in cc)))

pub returns-in-Ok-clause-answer : goal.returns-in-Ok-clause-answer
returns-in-Ok-clause-answer g c observable =
    let base = c.self.inside.base in
    let kept = c.self.inside.mirror.kept in
    let each = each-held base c.self.inside.mirror c.self.invariant.0 c.is_spent.ensures.rules
    (sym c.is_spent.ensures.spent ∙ c.if-is_spent.false) in
    subst (λ (f : RelayFetchValue g.row.D.Denot). option_map (λ bytes. bytes.items) c.in-Ok.found
    ≡ relay_answers f.base f.mirror.kept c.args.address.now)
    c.self.view_is
    (c.in-Ok.ensures.document observable
    ∙ sym (answers-named base kept each c.in-Some.named c.in-Some.ensures.found.0)
    ∙ ap (relay_answers base kept) (sym c.in-Some.ensures.found.1))

pub returns-in-Ok-clause-gets : goal.returns-in-Ok-clause-gets
returns-in-Ok-clause-gets g c =
    gets-read _ _ _ _ _ _
    (reads-inside g.D.Disk.state _ _ c.document.new.self c.document.new.disk c.self.view_is
    (c.in-Ok.ensures.mirror.same (ok-works _ _)) c.in-Ok.ensures.areas
    (c.in-Ok.ensures.faults.unfailed (ok-works _ _))) (ok-works _ _)

pub returns-in-Err-DiskFault-clause-gets : goal.returns-in-Err-DiskFault-clause-gets
returns-in-Err-DiskFault-clause-gets g c =
    let failed = ap (λ fault. Err fault) c.in-Err-DiskFault.field-0-is in
    disk-inside _ g.D.Disk.state _ _ _ c.document.new.self c.document.new.disk c.self.view_is
    (sym c.is_spent.ensures.spent ∙ c.if-is_spent.false)
    (c.in-Err-DiskFault.ensures.mirror.spent failed) c.in-Err-DiskFault.ensures.areas
    c.in-Err-DiskFault.ensures.faults.later (c.in-Err-DiskFault.ensures.faults.failed failed) refl

pub returns-in-Err-Changed-clause-gets : goal.returns-in-Err-Changed-clause-gets
returns-in-Err-Changed-clause-gets g c =
    let works = changed-works _ _ c.in-Err-Changed.field-0-is in
    gets-changed g.D.Disk.observable g.D.Disk.state _ _ _ _ _
    (reads-inside g.D.Disk.state _ _ c.document.new.self c.document.new.disk c.self.view_is
    (c.in-Err-Changed.ensures.mirror.same works) c.in-Err-Changed.ensures.areas
    (c.in-Err-Changed.ensures.faults.unfailed works))
    (λ observable. c.in-Err-Changed.ensures.never observable c.in-Err-Changed.field-0-0
    (ap (λ fault. Err fault) c.in-Err-Changed.field-0-is))
    c.fail-in-Err-Changed.ensures.failures (ap (λ fault. Err fault) c.fail-in-Err-Changed.ensures.fault)

pub returns-in-Err-NoMemory-clause-gets : goal.returns-in-Err-NoMemory-clause-gets
returns-in-Err-NoMemory-clause-gets g c =
    let works = no_memory-works _ c.in-Err-NoMemory.field-0-is in
    gets-read _ _ _ _ _ _
    (reads-inside g.D.Disk.state _ _ c.document.new.self c.document.new.disk c.self.view_is
    (c.in-Err-NoMemory.ensures.mirror.same works) c.in-Err-NoMemory.ensures.areas
    (c.in-Err-NoMemory.ensures.faults.unfailed works)) no_memory-answers
