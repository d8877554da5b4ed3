use Rattle.std.proofs.Common.{◌≡◌, ◌∙◌, refl, sym, ap, subst, List, [], arith}
use Rattle.std.proofs.lemmas.Result.{err_from_is_err_and}
use Rattle.document_server.proofs.StepLemmas.{counts-failed, counts-none}
use Rattle.feed_disk.proofs.MomentLemmas.{alone_begins}
use Rattle.relay_command.proofs.LoadLemmas.{counts-listened, door-disk, door-undone, ends-unserved, memory-disk, memory-door}
use Rattle.relay_command.proofs.LoadLemmas.{memory-undone, opened-memory, opened-served}
use Rattle.relay_command.proofs.SessionLemmas.{going-begins, going-ends, going-still, relays-from}
use Rattle.relay_command.specs.Session.{IsOpened, Relays, end_of}
use Rattle.relay_command.specs.declared.session.End.TheVariants.{DiskFault}
use Rattle.relay_command.specs.declared.session.Served.{Served}
use Rattle.relay_command.proofs.session.serve_loaded.Goals as goal

-- memory ran out for the lines

pub returns-in_err-reserve-clause-relays : goal.returns-in_err-reserve-clause-relays
returns-in_err-reserve-clause-relays g c = λ opened.
    let p = err_from_is_err_and c.from_residual.result c.from_residual.ensures.1 in
    absurd (opened-memory _ opened (ap end_of p.1 ∙ p.2))

pub returns-in_err-reserve-clause-ends : goal.returns-in_err-reserve-clause-ends
returns-in_err-reserve-clause-ends g c =
    let p = err_from_is_err_and c.from_residual.result c.from_residual.ensures.1 in
    ends-unserved c.args.requests g.L.Door.observable (g.L.Door.state c.args.door.now) c.reserve.new.self.items _
    (c.reserve.ensures.items ∙ c.requires.empty) c.requires.some (memory-undone _ (ap end_of p.1 ∙ p.2))

pub returns-in_err-reserve-clause-unopened : goal.returns-in_err-reserve-clause-unopened
returns-in_err-reserve-clause-unopened g c = λ closed.
    record { no_lines = c.reserve.ensures.items ∙ c.requires.empty; same_door = refl }

pub returns-in_err-reserve-clause-areas : goal.returns-in_err-reserve-clause-areas
returns-in_err-reserve-clause-areas g c = alone_begins (g.D.Disk.state c.args.disk.now)

pub returns-in_err-reserve-clause-disk_faults : goal.returns-in_err-reserve-clause-disk_faults
returns-in_err-reserve-clause-disk_faults g c =
    let p = err_from_is_err_and c.from_residual.result c.from_residual.ensures.1 in
    counts-none _ _ (λ is. memory-disk (sym (ap end_of p.1 ∙ p.2) ∙ is))

pub returns-in_err-reserve-clause-door_faults : goal.returns-in_err-reserve-clause-door_faults
returns-in_err-reserve-clause-door_faults g c =
    let p = err_from_is_err_and c.from_residual.result c.from_residual.ensures.1 in
    counts-none _ _ (λ is. memory-door (sym (ap end_of p.1 ∙ p.2) ∙ is))

-- the door isn't opened

pub returns-in_err-listen-clause-relays : goal.returns-in_err-listen-clause-relays
returns-in_err-listen-clause-relays g c = λ opened.
    let p = err_from_is_err_and c.from_residual-in_err-listen.result c.from_residual-in_err-listen.ensures.1 in
    let disk = g.D.Disk.state c.args.disk.now in
    let door = g.L.Door.state c.args.door.now in
    let kept = c.args.mirror.now.kept in
    subst (λ (ls : List Served). Relays g.D.Disk.observable g.L.Door.observable c.args.base.now kept disk disk door
    (g.L.Door.state c.listen.new.self) ls (end_of c.from_residual-in_err-listen.result ≡ DiskFault))
    (sym (c.reserve.ensures.items ∙ c.requires.empty))
    (going-ends g.D.Disk.observable g.L.Door.observable c.args.base.now kept disk disk door _ [] _
    (going-still g.D.Disk.observable g.L.Door.observable c.args.base.now kept disk disk door door _ []
    (going-begins g.D.Disk.observable g.L.Door.observable c.args.base.now kept disk door) c.listen.ensures.same)
    (λ is. door-disk (sym (ap end_of p.1 ∙ p.2) ∙ is)))

pub returns-in_err-listen-clause-ends : goal.returns-in_err-listen-clause-ends
returns-in_err-listen-clause-ends g c =
    let p = err_from_is_err_and c.from_residual-in_err-listen.result c.from_residual-in_err-listen.ensures.1 in
    ends-unserved c.args.requests g.L.Door.observable (g.L.Door.state c.listen.new.self) c.reserve.new.self.items _
    (c.reserve.ensures.items ∙ c.requires.empty) c.requires.some (door-undone _ (ap end_of p.1 ∙ p.2))

pub returns-in_err-listen-clause-unopened : goal.returns-in_err-listen-clause-unopened
returns-in_err-listen-clause-unopened g c = λ closed.
    let p = err_from_is_err_and c.from_residual-in_err-listen.result c.from_residual-in_err-listen.ensures.1 in
    absurd (closed (subst IsOpened (sym (ap end_of p.1 ∙ p.2)) tt))

pub returns-in_err-listen-clause-areas : goal.returns-in_err-listen-clause-areas
returns-in_err-listen-clause-areas g c = alone_begins (g.D.Disk.state c.args.disk.now)

pub returns-in_err-listen-clause-disk_faults : goal.returns-in_err-listen-clause-disk_faults
returns-in_err-listen-clause-disk_faults g c =
    let p = err_from_is_err_and c.from_residual-in_err-listen.result c.from_residual-in_err-listen.ensures.1 in
    counts-none _ _ (λ is. door-disk (sym (ap end_of p.1 ∙ p.2) ∙ is))

pub returns-in_err-listen-clause-door_faults : goal.returns-in_err-listen-clause-door_faults
returns-in_err-listen-clause-door_faults g c =
    let p = err_from_is_err_and c.from_residual-in_err-listen.result c.from_residual-in_err-listen.ensures.1 in
    let counts = c.in_err-listen.ensures.counts in
    counts-failed _ _ _ (ap end_of p.1 ∙ p.2) counts.later counts.failed

-- connections were served

pub returns-clause-relays : goal.returns-clause-relays
returns-clause-relays g c = λ opened.
    relays-from g.D.Disk.observable g.L.Door.observable c.args.base.now c.args.mirror.now.kept _ _ _ _ _ _ _ _
    (omega arith) refl c.listen.ensures.same c.serve_connections.ensures.relays

pub returns-clause-unopened : goal.returns-clause-unopened
returns-clause-unopened g c = λ closed.
    absurd (closed (opened-served c.serve_connections.result c.serve_connections.ensures.only_errors))

pub returns-clause-address : goal.returns-clause-address
returns-clause-address g c = λ only.
    c.serve_connections.ensures.address _ (c.in_ok-listen.ensures.at) (c.listen.ensures.only _ only)

pub returns-clause-door_faults : goal.returns-clause-door_faults
returns-clause-door_faults g c =
    counts-listened _ _ _ _ c.in_ok-listen.ensures.counts.worked c.serve_connections.ensures.door_faults
