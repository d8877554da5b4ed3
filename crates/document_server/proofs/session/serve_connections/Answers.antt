use Rattle.std.proofs.Common.{◌≡◌, ◌≢◌, ◌∙◌, inl, inr, refl, sym, ap, subst, ◌<◌, List, [], ◌∷◌, ◌++◌, length, Err}
use Rattle.std.proofs.Common.{arith}
use Rattle.std.proofs.Common.{length-append}
use Rattle.document_server.specs.Served.{answers_of}
use Rattle.document_server.specs.Serving.{ServesFrom, end_of}
use Rattle.document_server.specs.declared.line.Line.{Line}
use Rattle.document_server.specs.declared.session.End.{End}
use Rattle.document_server.specs.declared.session.End.TheVariants as end
use Rattle.document_server.specs.declared.session.End.TheVariants.{DiskFault}
use Rattle.document_server.proofs.PendingLemmas.{pending-lawful}
use Rattle.document_server.proofs.ServingLemmas.{Going, going-begins, going-breaks, going-ends, going-more}
use Rattle.document_server.proofs.ServingLemmas.{going-settles, going-still, is-unspent}
use Rattle.document_server.proofs.SessionLemmas.{ends-all, ends-disk, ends-door, ends-left, passes-door}
use Rattle.document_server.proofs.StepLemmas.{counts-failed, counts-worked}
use Rattle.std.proofs.lemmas.Result.{err_from_is_err_and}
use Rattle.feed_disk.specs.declared.area.Area.TheVariants.{Mirror}
use Rattle.feed_disk.proofs.MomentLemmas.{alone_begins, alone_joins}
use Rattle.member_rules.specs.Head.{HeadValue}
use Rattle.member_rules.specs.History.{IsLawful}
use Rattle.document_server.proofs.session.serve_connections.Goals as goal

door_end : end.DoorFault ≢ DiskFault
door_end same = cc

done_end : end.Done ≢ DiskFault
done_end same = cc

done_door : end.Done ≢ end.DoorFault
done_door same = cc

disk_door : DiskFault ≢ end.DoorFault
disk_door same = cc

pub loop-count-init : goal.loop-count-init
loop-count-init g c =
    let disk = g.D.Disk.state c.args.disk.now in
    let moments = g.C.Clock.coming c.args.clock.now in
    let door = g.L.Door.state c.args.door.now in
    record {
      unspent = c.requires.unspent;
      logs = c.requires.logs;
      stands = c.requires.stands;
      count = ap length c.requires.empty;
      room = omega (arith, c.requires.room);
      going = λ start.
          subst (λ (lines : List Line). Going (answers_of c.args.service) start disk disk moments moments door door g.D.Disk.observable g.C.Clock.observable
          g.L.Door.observable c.args.store.now c.args.store.now lines) (sym c.requires.empty)
          (going-begins start disk moments door g.D.Disk.observable g.C.Clock.observable g.L.Door.observable c.args.store.now
          (g.met.D.Disk.is_disk c.args.disk.now));
      out = λ observable. refl;
      listens = λ at is. is;
      only_at = λ at is only. only;
      faults = refl;
      disk_faults = refl;
      mirror = alone_begins disk Mirror;
      rests = λ observable rests. rests;
    }

pub returns-in_err-link-clause-serves : goal.returns-in_err-link-clause-serves
returns-in_err-link-clause-serves g c = λ start counts.
    let p = err_from_is_err_and c.from_residual.result c.from_residual.ensures.1 in
    let held = c.loop-count.invariant in
    let before = g.D.Disk.state c.args.disk.now in
    let disk = g.D.Disk.state c.loop-count.disk in
    let moments = g.C.Clock.coming c.args.clock.now in
    let coming = g.C.Clock.coming c.loop-count.clock in
    let first = g.L.Door.state c.args.door.now in
    let door = g.L.Door.state c.loop-count.door in
    let opened = c.args.store.now in
    let store = c.loop-count.store in
    let lines = c.loop-count.lines.items in
    let last = g.L.Door.state c.next.new.self in
    going-ends start before disk moments coming first last g.D.Disk.observable g.C.Clock.observable g.L.Door.observable opened store
    lines _
    (going-still start before disk moments coming first door last g.D.Disk.observable g.C.Clock.observable g.L.Door.observable opened
    store lines (held.going start) c.in_err-link.ensures.err) held.stands counts
    (going-settles c.begun_images_are_whole.ensures before disk store held.stands held.rests) (λ is. door_end (sym (ap end_of p.1 ∙ p.2) ∙ is))

pub returns-in_default-clause-serves : goal.returns-in_default-clause-serves
returns-in_default-clause-serves g c = λ start counts.
    let held = c.loop-count.invariant in
    let before = g.D.Disk.state c.args.disk.now in
    let disk = g.D.Disk.state c.loop-count.disk in
    let moments = g.C.Clock.coming c.args.clock.now in
    let coming = g.C.Clock.coming c.loop-count.clock in
    let first = g.L.Door.state c.args.door.now in
    let door = g.L.Door.state c.loop-count.door in
    let opened = c.args.store.now in
    let store = c.loop-count.store in
    let lines = c.loop-count.lines.items in
    let last = g.L.Door.state c.next.new.self in
    going-ends start before disk moments coming first last g.D.Disk.observable g.C.Clock.observable g.L.Door.observable opened store
    lines _
    (going-still start before disk moments coming first door last g.D.Disk.observable g.C.Clock.observable g.L.Door.observable opened
    store lines (held.going start) (λ observable. (rw c.in_default.is at (c.in_ok-link.ensures.given observable)).1)) held.stands
    counts (going-settles c.begun_images_are_whole.ensures before disk store held.stands held.rests) done_end

pub returns-clause-serves : goal.returns-clause-serves
returns-clause-serves g c = λ start counts.
    let held = c.loop-count.invariant in
    let before = g.D.Disk.state c.args.disk.now in
    let disk = g.D.Disk.state c.loop-count.disk in
    let moments = g.C.Clock.coming c.args.clock.now in
    let coming = g.C.Clock.coming c.loop-count.clock in
    let first = g.L.Door.state c.args.door.now in
    let door = g.L.Door.state c.loop-count.door in
    let opened = c.args.store.now in
    let store = c.loop-count.store in
    let lines = c.loop-count.lines.items in
    going-ends start before disk moments coming first door g.D.Disk.observable g.C.Clock.observable g.L.Door.observable opened store
    lines _ (held.going start) held.stands counts
    (going-settles c.begun_images_are_whole.ensures before disk store held.stands held.rests) done_end

pub returns-then-is_spent-clause-serves : goal.returns-then-is_spent-clause-serves
returns-then-is_spent-clause-serves g c = λ start counts.
    let held = c.loop-count.invariant in
    let opened = c.args.store.now in
    let store = c.loop-count.store in
    let after = c.serve_connection-line.new.store in
    let line = c.serve_connection-line.result in
    let before = g.D.Disk.state c.args.disk.now in
    let disk = g.D.Disk.state c.loop-count.disk in
    let left = g.D.Disk.state c.serve_connection-line.new.disk in
    let moments = g.C.Clock.coming c.args.clock.now in
    let coming = g.C.Clock.coming c.loop-count.clock in
    let later = g.C.Clock.coming c.serve_connection-line.new.clock in
    let given = g.L.Link.Conn.state c.in-Some.link in
    let served = g.L.Link.Conn.state c.serve_connection-line.new.link in
    let first = g.L.Door.state c.args.door.now in
    let door = g.L.Door.state c.loop-count.door in
    let amid = g.L.Door.state c.next.new.self in
    let last = g.L.Door.state c.back.new.self in
    let lines = c.loop-count.lines.items in
    let said = c.serve_connection-line.ensures in
    let passes = λ (tells : g.L.Door.observable).
    passes-door door amid last given served (rw c.in-Some.is at (c.in_ok-link.ensures.given tells))
    (c.back.ensures.back tells) in
    let spent = sym c.is_spent.ensures ∙ c.if-is_spent.true in
    let failed : Type 0 = ◌≡◌ {A = End} DiskFault DiskFault in
    let going = held.going start in
    subst (λ (ls : List Line). ServesFrom (answers_of c.args.service) start before left moments first last g.D.Disk.observable g.C.Clock.observable
    g.L.Door.observable opened ls failed) (sym c.in-Ok.ensures.ok)
    (going-breaks start before disk left moments coming later given served first door g.D.Disk.observable g.C.Clock.observable
    g.L.Door.observable g.L.Link.Conn.observable opened store after lines line going said.serves said.steps
    c.served_stays_served.ensures c.prefixes_are_lawful.ensures last g.met.L.Door.tells passes held.disk_faults failed
    refl spent
    (λ observable see.
    let on = said.serves.stored observable in
    let broken = on.broken_off (g.met.L.Door.tells see) spent in
    subst (λ (h : HeadValue). IsLawful h (store.history ++ on.operations)) going.head
    (pending-lawful c.args.service disk store broken.now _ (store.history ++ on.operations) held.logs.0 (held.stands observable)
    broken.broken_off)) counts (g.met.D.Disk.is_disk c.serve_connection-line.new.disk) held.rests)

pub loop-count-preserved : goal.loop-count-preserved
loop-count-preserved g c =
    let held = c.loop-count.invariant in
    let opened = c.args.store.now in
    let store = c.loop-count.store in
    let after = c.serve_connection-line.new.store in
    let line = c.serve_connection-line.result in
    let before = g.D.Disk.state c.args.disk.now in
    let disk = g.D.Disk.state c.loop-count.disk in
    let left = g.D.Disk.state c.serve_connection-line.new.disk in
    let moments = g.C.Clock.coming c.args.clock.now in
    let coming = g.C.Clock.coming c.loop-count.clock in
    let later = g.C.Clock.coming c.serve_connection-line.new.clock in
    let given = g.L.Link.Conn.state c.in-Some.link in
    let served = g.L.Link.Conn.state c.serve_connection-line.new.link in
    let first = g.L.Door.state c.args.door.now in
    let door = g.L.Door.state c.loop-count.door in
    let amid = g.L.Door.state c.next.new.self in
    let last = g.L.Door.state c.back.new.self in
    let lines = c.loop-count.lines.items in
    let said = c.serve_connection-line.ensures in
    let passes = λ (tells : g.L.Door.observable).
    passes-door door amid last given served (rw c.in-Some.is at (c.in_ok-link.ensures.given tells))
    (c.back.ensures.back tells) in
    let unspent = sym c.is_spent.ensures ∙ c.if-is_spent.false in
    let works = is-unspent after unspent in
    let pushed = c.in-Ok.ensures.ok in
    record {
      unspent = unspent;
      logs = said.logs;
      stands = said.steps.stands works;
      count = omega (arith, ap length pushed, length-append lines (line ∷ []), held.count);
      room = omega (arith, c.in-Ok.ensures.used, held.room);
      going = λ start.
          subst (λ (ls : List Line). Going (answers_of c.args.service) start before left moments later first last g.D.Disk.observable g.C.Clock.observable
          g.L.Door.observable opened after ls) (sym pushed)
          (going-more start before disk left moments coming later given served first door g.D.Disk.observable
          g.C.Clock.observable g.L.Door.observable g.L.Link.Conn.observable opened store after lines line
          (held.going start) said.serves said.steps c.served_stays_served.ensures c.prefixes_are_lawful.ensures last
          g.met.L.Door.tells passes held.disk_faults (c.shown_are_served.ensures c.args.service) unspent held.stands
          (g.met.D.Disk.is_disk c.serve_connection-line.new.disk) held.rests);
      out = λ observable. (passes observable).out ∙ held.out observable;
      listens = λ at is. c.back.ensures.at at (c.next.ensures.at at (held.listens at is));
      only_at = λ at is only.
          c.back.ensures.only at (c.next.ensures.only at (held.listens at is) (held.only_at at is only));
      faults = c.back.ensures.faults ∙ c.in_ok-link.ensures.counts.worked ∙ held.faults;
      disk_faults = said.steps.faults.unfailed works ∙ held.disk_faults;
      mirror = alone_joins before disk left Mirror held.mirror said.steps.mirror;
      rests = λ observable rests. said.steps.rests works observable (held.rests observable rests);
    }

pub unreachable-requires : goal.unreachable-requires
unreachable-requires g c =
    let held = c.loop-count.invariant in
    let more : c.loop-count._count < c.args.requests = c.loop-count-test.true in
    elim c.in-Err.ensures.refusals [
      | inl is ↦ omega (arith, c.in-Err.ensures.full.0 (ap Err is), held.count, more, c.requires.few)
      | inr is ↦ omega (arith, c.in-Err.ensures.spare (ap Err is), held.room, more)
    ]

-- how the session ends at each exit

pub returns-clause-ends : goal.returns-clause-ends
returns-clause-ends g c =
    ends-all c.args.requests g.L.Door.observable (g.L.Door.state c.args.door.now) (g.L.Door.state c.loop-count.door)
    c.loop-count.lines.items c.loop-count.invariant.out (omega (arith, c.loop-count.invariant.count))

pub returns-in_default-clause-ends : goal.returns-in_default-clause-ends
returns-in_default-clause-ends g c =
    let none = λ (tells : g.L.Door.observable). rw c.in_default.is at (c.in_ok-link.ensures.given tells) in
    ends-left c.args.requests g.L.Door.observable (g.L.Door.state c.args.door.now) (g.L.Door.state c.next.new.self)
    c.loop-count.lines.items (λ tells. (none tells).1.out ∙ c.loop-count.invariant.out tells)
    (omega (arith, c.loop-count.invariant.count)) (λ tells. (none tells).1.left ∙ (none tells).0)

pub returns-in_err-link-clause-ends : goal.returns-in_err-link-clause-ends
returns-in_err-link-clause-ends g c =
    let p = err_from_is_err_and c.from_residual.result c.from_residual.ensures.1 in
    ends-door c.args.requests g.L.Door.observable (g.L.Door.state c.args.door.now) (g.L.Door.state c.next.new.self)
    c.loop-count.lines.items (λ tells. (c.in_err-link.ensures.err tells).out ∙ c.loop-count.invariant.out tells)
    (end_of c.from_residual.result) (ap end_of p.1 ∙ p.2)
    (omega (arith, c.loop-count.invariant.count, c.loop-count-test.true))

pub returns-then-is_spent-clause-ends : goal.returns-then-is_spent-clause-ends
returns-then-is_spent-clause-ends g c =
    ends-disk c.args.requests g.L.Door.observable (g.L.Door.state c.args.door.now) (g.L.Door.state c.back.new.self)
    c.push.new.self.items
    (λ tells.
    let passes =
    passes-door (g.L.Door.state c.loop-count.door) (g.L.Door.state c.next.new.self) (g.L.Door.state c.back.new.self)
    (g.L.Link.Conn.state c.in-Some.link) (g.L.Link.Conn.state c.serve_connection-line.new.link)
    (rw c.in-Some.is at (c.in_ok-link.ensures.given tells)) (c.back.ensures.back tells) in
    passes.out ∙ c.loop-count.invariant.out tells)
    (omega (
      arith,
      ap length c.in-Ok.ensures.ok,
      length-append c.loop-count.lines.items (c.serve_connection-line.result ∷ []),
      c.loop-count.invariant.count,
    ))

pub returns-in_err-link-clause-address : goal.returns-in_err-link-clause-address
returns-in_err-link-clause-address g c = λ at is only.
    c.next.ensures.only at (c.loop-count.invariant.listens at is) (c.loop-count.invariant.only_at at is only)

pub returns-in_err-link-clause-mirror : goal.returns-in_err-link-clause-mirror
returns-in_err-link-clause-mirror g c = c.loop-count.invariant.mirror

pub returns-in_err-link-clause-disk_faults : goal.returns-in_err-link-clause-disk_faults
returns-in_err-link-clause-disk_faults g c =
    let p = err_from_is_err_and c.from_residual.result c.from_residual.ensures.1 in
    counts-worked _ _ _ (λ is. door_end (sym (ap end_of p.1 ∙ p.2) ∙ is)) c.loop-count.invariant.disk_faults

pub returns-in_err-link-clause-door_faults : goal.returns-in_err-link-clause-door_faults
returns-in_err-link-clause-door_faults g c =
    let p = err_from_is_err_and c.from_residual.result c.from_residual.ensures.1 in
    let counts = c.in_err-link.ensures.counts in
    counts-failed _ _ _ (ap end_of p.1 ∙ p.2) (omega (arith, counts.later, c.loop-count.invariant.faults))
    (omega (arith, counts.failed, c.loop-count.invariant.faults))

pub returns-in_default-clause-address : goal.returns-in_default-clause-address
returns-in_default-clause-address g c = λ at is only.
    c.next.ensures.only at (c.loop-count.invariant.listens at is) (c.loop-count.invariant.only_at at is only)

pub returns-in_default-clause-mirror : goal.returns-in_default-clause-mirror
returns-in_default-clause-mirror g c = c.loop-count.invariant.mirror

pub returns-in_default-clause-disk_faults : goal.returns-in_default-clause-disk_faults
returns-in_default-clause-disk_faults g c = counts-worked _ _ _ done_end c.loop-count.invariant.disk_faults

pub returns-in_default-clause-door_faults : goal.returns-in_default-clause-door_faults
returns-in_default-clause-door_faults g c =
    counts-worked _ _ _ done_door (c.in_ok-link.ensures.counts.worked ∙ c.loop-count.invariant.faults)

pub serve_connection-line-requires-clause-unspent : goal.serve_connection-line-requires-clause-unspent
serve_connection-line-requires-clause-unspent g c = c.loop-count.invariant.unspent

pub serve_connection-line-requires-clause-logs : goal.serve_connection-line-requires-clause-logs
serve_connection-line-requires-clause-logs g c = c.loop-count.invariant.logs

pub serve_connection-line-requires-clause-stands : goal.serve_connection-line-requires-clause-stands
serve_connection-line-requires-clause-stands g c = c.loop-count.invariant.stands

pub returns-then-is_spent-clause-address : goal.returns-then-is_spent-clause-address
returns-then-is_spent-clause-address g c = λ at is only.
    c.back.ensures.only at
    (c.next.ensures.only at (c.loop-count.invariant.listens at is) (c.loop-count.invariant.only_at at is only))

pub returns-then-is_spent-clause-mirror : goal.returns-then-is_spent-clause-mirror
returns-then-is_spent-clause-mirror g c =
    alone_joins (g.D.Disk.state c.args.disk.now) (g.D.Disk.state c.loop-count.disk)
    (g.D.Disk.state c.serve_connection-line.new.disk) Mirror
    c.loop-count.invariant.mirror c.serve_connection-line.ensures.steps.mirror

pub returns-then-is_spent-clause-disk_faults : goal.returns-then-is_spent-clause-disk_faults
returns-then-is_spent-clause-disk_faults g c =
    let counts = c.serve_connection-line.ensures.steps.faults in
    counts-failed _ _ _ refl (omega (arith, counts.later, c.loop-count.invariant.disk_faults))
    (omega (
      arith,
      counts.failed (sym c.is_spent.ensures ∙ c.if-is_spent.true),
      c.loop-count.invariant.disk_faults,
    ))

pub returns-then-is_spent-clause-door_faults : goal.returns-then-is_spent-clause-door_faults
returns-then-is_spent-clause-door_faults g c =
    counts-worked _ _ _ disk_door
    (c.back.ensures.faults ∙ c.in_ok-link.ensures.counts.worked ∙ c.loop-count.invariant.faults)

pub returns-clause-address : goal.returns-clause-address
returns-clause-address g c = λ at is only. c.loop-count.invariant.only_at at is only

pub returns-clause-mirror : goal.returns-clause-mirror
returns-clause-mirror g c = c.loop-count.invariant.mirror

pub returns-clause-disk_faults : goal.returns-clause-disk_faults
returns-clause-disk_faults g c = counts-worked _ _ _ done_end c.loop-count.invariant.disk_faults

pub returns-clause-door_faults : goal.returns-clause-door_faults
returns-clause-door_faults g c = counts-worked _ _ _ done_door c.loop-count.invariant.faults
