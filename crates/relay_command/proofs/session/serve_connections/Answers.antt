use Rattle.std.proofs.Common.{◌≡◌, ◌∙◌, inl, inr, refl, sym, ap, subst, ◌<◌, List, [], ◌∷◌, length, Err, arith}
use Rattle.std.proofs.Common.{length-append, true}
use Rattle.std.proofs.lemmas.Result.{err_from_is_err_and}
use Rattle.document_server.proofs.SessionLemmas.{passes-door}
use Rattle.document_server.proofs.StepLemmas.{counts-failed, counts-worked}
use Rattle.feed_disk.specs.declared.area.Area.TheVariants.{Mirror}
use Rattle.feed_disk.proofs.MomentLemmas.{alone_begins, alone_joins}
use Rattle.mirror_walk.specs.Mirror.{MirrorValue, is_spent}
use Rattle.relay_command.proofs.LoadLemmas.{disk-door, done-door, done-disk, door-disk, ends-all, ends-disk, ends-door, ends-left}
use Rattle.relay_command.proofs.SessionLemmas.{Going, going-begins, going-breaks, going-ends, going-more, going-still}
use Rattle.relay_command.proofs.SessionLemmas.{line-pushed, not-spent, relays-of}
use Rattle.relay_command.specs.Session.{Relays, end_of}
use Rattle.relay_command.specs.declared.session.End.{End}
use Rattle.relay_command.specs.declared.session.End.TheVariants as end
use Rattle.relay_command.specs.declared.session.Served.{Served}
use Rattle.relay_command.proofs.session.serve_connections.Goals as goal

pub loop-count-init : goal.loop-count-init
loop-count-init g c =
    let disk = g.D.Disk.state c.args.disk.now in
    let door = g.L.Door.state c.args.door.now in
    let kept = c.args.mirror.now.kept in
    record {
      unspent = c.requires.unspent;
      base = refl;
      kept = refl;
      stands = c.requires.stands;
      count = ap length c.requires.empty;
      room = omega (arith, c.requires.room);
      going =
          subst (Going g.D.Disk.observable g.L.Door.observable c.args.base.now kept disk disk door door)
          (sym c.requires.empty)
          (going-begins g.D.Disk.observable g.L.Door.observable c.args.base.now kept disk door);
      out = λ seen. refl;
      listens = λ at is. is;
      only_at = λ at is only. only;
      faults = refl;
      disk_faults = refl;
      areas = alone_begins disk;
    }

-- the exits

pub returns-in_err-link-clause-relays : goal.returns-in_err-link-clause-relays
returns-in_err-link-clause-relays g c =
    let p = err_from_is_err_and c.from_residual.result c.from_residual.ensures.1 in
    let held = c.loop-count.invariant in
    let kept = c.args.mirror.now.kept in
    going-ends g.D.Disk.observable g.L.Door.observable c.args.base.now kept _ _ _ _ _ _
    (going-still g.D.Disk.observable g.L.Door.observable c.args.base.now kept _ _ _ _ _ _ held.going
    c.in_err-link.ensures.err)
    (λ is. door-disk (sym (ap end_of p.1 ∙ p.2) ∙ is))

pub returns-in_default-clause-relays : goal.returns-in_default-clause-relays
returns-in_default-clause-relays g c =
    let held = c.loop-count.invariant in
    let kept = c.args.mirror.now.kept in
    going-ends g.D.Disk.observable g.L.Door.observable c.args.base.now kept _ _ _ _ _ _
    (going-still g.D.Disk.observable g.L.Door.observable c.args.base.now kept _ _ _ _ _ _ held.going
    (λ seen. (rw c.in_default.is at (c.in_ok-link.ensures.given seen)).1))
    done-disk

pub returns-clause-relays : goal.returns-clause-relays
returns-clause-relays g c =
    going-ends g.D.Disk.observable g.L.Door.observable c.args.base.now c.args.mirror.now.kept _ _ _ _ _ _
    c.loop-count.invariant.going done-disk

pub returns-then-is_spent-clause-relays : goal.returns-then-is_spent-clause-relays
returns-then-is_spent-clause-relays g c =
    let held = c.loop-count.invariant in
    let kept = c.args.mirror.now.kept in
    let before = g.D.Disk.state c.args.disk.now in
    let disk = g.D.Disk.state c.loop-count.disk in
    let left = g.D.Disk.state c.serve_connection-status.new.disk in
    let given = g.L.Link.Conn.state c.in-Some.link in
    let back = g.L.Link.Conn.state c.serve_connection-status.new.link in
    let first = g.L.Door.state c.args.door.now in
    let door = g.L.Door.state c.loop-count.door in
    let amid = g.L.Door.state c.next.new.self in
    let last = g.L.Door.state c.back.new.self in
    let lines = c.loop-count.lines.items in
    let said = c.serve_connection-status.ensures in
    let spent = sym c.is_spent.ensures.spent ∙ c.if-is_spent.true in
    let spends : Type 0 = is_spent c.serve_connection-status.new.mirror ≡ true in
    subst (λ (ls : List Served). Relays g.D.Disk.observable g.L.Door.observable c.args.base.now kept before left first last ls
    (◌≡◌ {A = End} end.DiskFault end.DiskFault))
    (line-pushed lines c.serve_connection-status.result c.version_of-version.result kept c.version_of-version.ensures
    c.push.new.self.items c.in-Ok.ensures.ok)
    (going-breaks g.D.Disk.observable g.L.Door.observable c.args.base.now kept g.L.Link.Conn.observable before disk left given
    back first door last lines spends c.serve_connection-status.result held.going
    (relays-of g.D.Disk.observable g.L.Link.Conn.observable c.args.base.now _ kept held.kept disk left given back spends
    c.serve_connection-status.result said.relays)
    g.met.L.Door.tells
    (λ seen. passes-door door amid last given back (rw c.in-Some.is at (c.in_ok-link.ensures.given seen))
    (c.back.ensures.back seen))
    held.disk_faults (held.areas Mirror).leaves.later (said.areas Mirror).leaves.later
    (◌≡◌ {A = End} end.DiskFault end.DiskFault) refl spent (said.faults.failed spent))

pub loop-count-preserved : goal.loop-count-preserved
loop-count-preserved g c =
    let held = c.loop-count.invariant in
    let kept = c.args.mirror.now.kept in
    let before = g.D.Disk.state c.args.disk.now in
    let disk = g.D.Disk.state c.loop-count.disk in
    let left = g.D.Disk.state c.serve_connection-status.new.disk in
    let given = g.L.Link.Conn.state c.in-Some.link in
    let back = g.L.Link.Conn.state c.serve_connection-status.new.link in
    let first = g.L.Door.state c.args.door.now in
    let door = g.L.Door.state c.loop-count.door in
    let amid = g.L.Door.state c.next.new.self in
    let last = g.L.Door.state c.back.new.self in
    let lines = c.loop-count.lines.items in
    let mirror = c.loop-count.mirror in
    let after = c.serve_connection-status.new.mirror in
    let said = c.serve_connection-status.ensures in
    let unspent = sym c.is_spent.ensures.spent ∙ c.if-is_spent.false in
    let works = not-spent after unspent in
    let same = said.mirror.same works in
    let spends : Type 0 = is_spent after ≡ true in
    let passes = λ (seen : g.L.Door.observable).
    passes-door door amid last given back (rw c.in-Some.is at (c.in_ok-link.ensures.given seen))
    (c.back.ensures.back seen) in
    let pushed = c.in-Ok.ensures.ok in
    record {
      unspent = unspent;
      base = ap (λ (m : MirrorValue). m.base) same ∙ held.base;
      kept = ap (λ (m : MirrorValue). m.kept) same ∙ held.kept;
      stands = said.mirror.stands works;
      count = omega (
        arith,
        ap length pushed,
        length-append lines
            (record { status = c.serve_connection-status.result; version = c.version_of-version.result } ∷ []),
        held.count,
      );
      room = omega (arith, c.in-Ok.ensures.used, held.room);
      going =
          subst (Going g.D.Disk.observable g.L.Door.observable c.args.base.now kept before left first last)
          (line-pushed lines c.serve_connection-status.result c.version_of-version.result kept c.version_of-version.ensures
          c.push.new.self.items pushed)
          (going-more g.D.Disk.observable g.L.Door.observable c.args.base.now kept g.L.Link.Conn.observable before disk left
          given back first door last lines spends c.serve_connection-status.result held.going
          (relays-of g.D.Disk.observable g.L.Link.Conn.observable c.args.base.now _ kept held.kept disk left given back spends
          c.serve_connection-status.result said.relays)
          g.met.L.Door.tells passes held.disk_faults (held.areas Mirror).leaves.later (said.areas Mirror).leaves.later
          (said.faults.unfailed works) works);
      out = λ seen. (passes seen).out ∙ held.out seen;
      listens = λ at is. c.back.ensures.at at (c.next.ensures.at at (held.listens at is));
      only_at = λ at is only.
          c.back.ensures.only at (c.next.ensures.only at (held.listens at is) (held.only_at at is only));
      faults = c.back.ensures.faults ∙ c.in_ok-link.ensures.counts.worked ∙ held.faults;
      disk_faults = said.faults.unfailed works ∙ held.disk_faults;
      areas = λ a. alone_joins before disk left a (held.areas a) (said.areas a);
    }

pub unreachable-requires : goal.unreachable-requires
unreachable-requires g c =
    let held = c.loop-count.invariant in
    let more : c.loop-count._count < c.args.requests = c.loop-count-test.true in
    elim c.in-Err.ensures.refusals [
      | inl is ↦ omega (arith, c.in-Err.ensures.full.0 (ap Err is), held.count, more, c.requires.few)
      | inr is ↦ omega (arith, c.in-Err.ensures.spare (ap Err is), held.room, more)
    ]

-- how the session ends at each exit

pub returns-clause-ends : goal.returns-clause-ends
returns-clause-ends g c =
    ends-all c.args.requests g.L.Door.observable (g.L.Door.state c.loop-count.door) c.loop-count.lines.items
    (omega (arith, c.loop-count.invariant.count))

pub returns-in_default-clause-ends : goal.returns-in_default-clause-ends
returns-in_default-clause-ends g c =
    let none = λ (seen : g.L.Door.observable). rw c.in_default.is at (c.in_ok-link.ensures.given seen) in
    ends-left c.args.requests g.L.Door.observable (g.L.Door.state c.next.new.self) c.loop-count.lines.items
    (omega (arith, c.loop-count.invariant.count)) (λ seen. (none seen).1.left ∙ (none seen).0)

pub returns-in_err-link-clause-ends : goal.returns-in_err-link-clause-ends
returns-in_err-link-clause-ends g c =
    let p = err_from_is_err_and c.from_residual.result c.from_residual.ensures.1 in
    ends-door c.args.requests g.L.Door.observable (g.L.Door.state c.next.new.self) c.loop-count.lines.items
    (end_of c.from_residual.result) (ap end_of p.1 ∙ p.2)
    (omega (arith, c.loop-count.invariant.count, c.loop-count-test.true))

pub returns-then-is_spent-clause-ends : goal.returns-then-is_spent-clause-ends
returns-then-is_spent-clause-ends g c =
    ends-disk c.args.requests g.L.Door.observable (g.L.Door.state c.back.new.self) c.push.new.self.items
    (omega (
      arith,
      ap length c.in-Ok.ensures.ok,
      length-append c.loop-count.lines.items
          (record { status = c.serve_connection-status.result; version = c.version_of-version.result } ∷ []),
      c.loop-count.invariant.count,
    ))

pub returns-in_err-link-clause-address : goal.returns-in_err-link-clause-address
returns-in_err-link-clause-address g c = λ at is only.
    c.next.ensures.only at (c.loop-count.invariant.listens at is) (c.loop-count.invariant.only_at at is only)

pub returns-in_err-link-clause-areas : goal.returns-in_err-link-clause-areas
returns-in_err-link-clause-areas g c = c.loop-count.invariant.areas

pub returns-in_err-link-clause-disk_faults : goal.returns-in_err-link-clause-disk_faults
returns-in_err-link-clause-disk_faults g c =
    let p = err_from_is_err_and c.from_residual.result c.from_residual.ensures.1 in
    counts-worked _ _ _ (λ is. door-disk (sym (ap end_of p.1 ∙ p.2) ∙ is)) c.loop-count.invariant.disk_faults

pub returns-in_err-link-clause-door_faults : goal.returns-in_err-link-clause-door_faults
returns-in_err-link-clause-door_faults g c =
    let p = err_from_is_err_and c.from_residual.result c.from_residual.ensures.1 in
    let counts = c.in_err-link.ensures.counts in
    counts-failed _ _ _ (ap end_of p.1 ∙ p.2) (omega (arith, counts.later, c.loop-count.invariant.faults))
    (omega (arith, counts.failed, c.loop-count.invariant.faults))

pub returns-in_default-clause-address : goal.returns-in_default-clause-address
returns-in_default-clause-address g c = λ at is only.
    c.next.ensures.only at (c.loop-count.invariant.listens at is) (c.loop-count.invariant.only_at at is only)

pub returns-in_default-clause-areas : goal.returns-in_default-clause-areas
returns-in_default-clause-areas g c = c.loop-count.invariant.areas

pub returns-in_default-clause-disk_faults : goal.returns-in_default-clause-disk_faults
returns-in_default-clause-disk_faults g c = counts-worked _ _ _ done-disk c.loop-count.invariant.disk_faults

pub returns-in_default-clause-door_faults : goal.returns-in_default-clause-door_faults
returns-in_default-clause-door_faults g c =
    counts-worked _ _ _ done-door (c.in_ok-link.ensures.counts.worked ∙ c.loop-count.invariant.faults)

pub serve_connection-status-requires-clause-unspent : goal.serve_connection-status-requires-clause-unspent
serve_connection-status-requires-clause-unspent g c = c.loop-count.invariant.unspent

pub serve_connection-status-requires-clause-stands : goal.serve_connection-status-requires-clause-stands
serve_connection-status-requires-clause-stands g c = c.loop-count.invariant.stands

pub serve_connection-status-requires-clause-base : goal.serve_connection-status-requires-clause-base
serve_connection-status-requires-clause-base g c = c.requires.base ∙ sym c.loop-count.invariant.base

pub returns-then-is_spent-clause-address : goal.returns-then-is_spent-clause-address
returns-then-is_spent-clause-address g c = λ at is only.
    c.back.ensures.only at
    (c.next.ensures.only at (c.loop-count.invariant.listens at is) (c.loop-count.invariant.only_at at is only))

pub returns-then-is_spent-clause-areas : goal.returns-then-is_spent-clause-areas
returns-then-is_spent-clause-areas g c = λ a.
    alone_joins (g.D.Disk.state c.args.disk.now) (g.D.Disk.state c.loop-count.disk)
    (g.D.Disk.state c.serve_connection-status.new.disk) a
    (c.loop-count.invariant.areas a) (c.serve_connection-status.ensures.areas a)

pub returns-then-is_spent-clause-disk_faults : goal.returns-then-is_spent-clause-disk_faults
returns-then-is_spent-clause-disk_faults g c =
    let counts = c.serve_connection-status.ensures.faults in
    counts-failed _ _ _ refl (omega (arith, counts.later, c.loop-count.invariant.disk_faults))
    (omega (
      arith,
      counts.failed (sym c.is_spent.ensures.spent ∙ c.if-is_spent.true),
      c.loop-count.invariant.disk_faults,
    ))

pub returns-then-is_spent-clause-door_faults : goal.returns-then-is_spent-clause-door_faults
returns-then-is_spent-clause-door_faults g c =
    counts-worked _ _ _ disk-door
    (c.back.ensures.faults ∙ c.in_ok-link.ensures.counts.worked ∙ c.loop-count.invariant.faults)

pub returns-clause-address : goal.returns-clause-address
returns-clause-address g c = λ at is only. c.loop-count.invariant.only_at at is only

pub returns-clause-areas : goal.returns-clause-areas
returns-clause-areas g c = c.loop-count.invariant.areas

pub returns-clause-disk_faults : goal.returns-clause-disk_faults
returns-clause-disk_faults g c = counts-worked _ _ _ done-disk c.loop-count.invariant.disk_faults

pub returns-clause-door_faults : goal.returns-clause-door_faults
returns-clause-door_faults g c = counts-worked _ _ _ done-door c.loop-count.invariant.faults
