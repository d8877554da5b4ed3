use Rattle.std.proofs.Common.{◌≡◌, ◌≢◌, ◌∙◌, refl, ap, subst, ℕ}
use Rattle.std.proofs.lemmas.Result.{err_from_is_err_and}
use Rattle.atom_values.specs.Counts.{CountsFault}
use Rattle.document_server.specs.Serving.{end_of}
use Rattle.document_server.specs.declared.session.End.TheVariants as end
use Rattle.document_server.proofs.LoadLemmas.{counts-load, counts-loaded, door-opened, door-no-fault}
use Rattle.document_server.proofs.LoadLemmas.{door-undone, ends-unserved, is-opened, load-undone, load-undoor, loaded-by}
use Rattle.document_server.proofs.LoadLemmas.{memory-no-fault, memory-undone, memory-undoor, opened, same-links}
use Rattle.document_server.proofs.LoadLemmas.{serves-loaded, serves-none, unopened-load, unopened-memory}
use Rattle.document_server.proofs.StepLemmas.{counts-failed, counts-none, counts-worked, worked}
use Rattle.feed_disk.specs.declared.area.Area.TheVariants.{Mirror}
use Rattle.feed_disk.proofs.MomentLemmas.{alone_joins}
use Rattle.document_server.proofs.session.serve_into.Goals as goal

no_memory_end : end.NoMemory ≢ end.DiskFault
no_memory_end same = cc

door_end : end.DoorFault ≢ end.DiskFault
door_end same = cc

-- the store isn't loaded

pub returns-in_err-store-clause-serves : goal.returns-in_err-store-clause-serves
returns-in_err-store-clause-serves g c = λ other.
    let p = err_from_is_err_and c.from_residual.result c.from_residual.ensures.1 in
    absurd (other c.in_err-store.field-0.0 (ap end_of p.1 ∙ p.2))

pub returns-in_err-store-clause-ends : goal.returns-in_err-store-clause-ends
returns-in_err-store-clause-ends g c =
    let p = err_from_is_err_and c.from_residual.result c.from_residual.ensures.1 in
    let ended = end_of c.from_residual.result in
    let door = g.L.Door.state c.args.door.now in
    ends-unserved c.args.requests g.L.Door.observable door door c.args.lines.now.items ended c.requires.empty c.requires.some
    (load-undone ended c.in_err-store.field-0.0 (ap end_of p.1 ∙ p.2)) (same-links g.L.Door.observable door)

pub returns-in_err-store-clause-unopened : goal.returns-in_err-store-clause-unopened
returns-in_err-store-clause-unopened g c =
    let p = err_from_is_err_and c.from_residual.result c.from_residual.ensures.1 in
    unopened-load (end_of c.from_residual.result) c.in_err-store.field-0.0 (ap end_of p.1 ∙ p.2) g.D.Disk.observable
    (g.D.Disk.state c.args.disk.now) (g.D.Disk.state c.load.new.disk) c.args.door.now c.args.lines.now.items
    c.requires.empty c.in_err-store.ensures.refused c.in_err-store.ensures.only c.load.ensures.moments

pub returns-in_err-store-clause-disk_faults : goal.returns-in_err-store-clause-disk_faults
returns-in_err-store-clause-disk_faults g c =
    let p = err_from_is_err_and c.from_residual.result c.from_residual.ensures.1 in
    counts-load (end_of c.from_residual.result) c.in_err-store.field-0.0 (ap end_of p.1 ∙ p.2)
    (g.D.Disk.state c.args.disk.now).faults (g.D.Disk.state c.load.new.disk).faults c.in_err-store.ensures.faults

pub returns-in_err-store-clause-door_faults : goal.returns-in_err-store-clause-door_faults
returns-in_err-store-clause-door_faults g c =
    let p = err_from_is_err_and c.from_residual.result c.from_residual.ensures.1 in
    let ended = end_of c.from_residual.result in
    counts-none (g.L.Door.state c.args.door.now).faults (ended ≡ end.DoorFault)
    (load-undoor ended c.in_err-store.field-0.0 (ap end_of p.1 ∙ p.2))

pub returns-in-Err-clause-serves : goal.returns-in-Err-clause-serves
returns-in-Err-clause-serves g c = λ other.
    let before = g.D.Disk.state c.args.disk.now in
    let loaded = g.D.Disk.state c.load.new.disk in
    let store = c.in_ok-store.store in
    let e = c.in_ok-store.ensures in
    let is_loaded =
    loaded-by g.D.Disk.observable before loaded store (g.met.D.Disk.is_disk c.args.disk.now)
    c.stores_open_in_one_way.ensures e.same e.opens e.moments e.settled e.calls (e.faults.unfailed (worked _ _)) in
    serves-none before loaded (g.C.Clock.coming c.args.clock.now) (g.L.Door.state c.args.door.now)
    (g.L.Door.state c.args.door.now) g.C.Clock.observable g.L.Door.observable store c.reserve.new.self.items _ is_loaded
    (g.met.D.Disk.is_disk c.load.new.disk) (same-links g.L.Door.observable (g.L.Door.state c.args.door.now))
    c.begun_images_are_whole.ensures (c.reserve.ensures.items ∙ c.requires.empty) no_memory_end

pub returns-in-Err-listen-clause-serves : goal.returns-in-Err-listen-clause-serves
returns-in-Err-listen-clause-serves g c = λ other.
    let before = g.D.Disk.state c.args.disk.now in
    let loaded = g.D.Disk.state c.load.new.disk in
    let store = c.in_ok-store.store in
    let e = c.in_ok-store.ensures in
    let is_loaded =
    loaded-by g.D.Disk.observable before loaded store (g.met.D.Disk.is_disk c.args.disk.now)
    c.stores_open_in_one_way.ensures e.same e.opens e.moments e.settled e.calls (e.faults.unfailed (worked _ _)) in
    serves-none before loaded (g.C.Clock.coming c.args.clock.now) (g.L.Door.state c.args.door.now)
    (g.L.Door.state c.listen.new.self) g.C.Clock.observable g.L.Door.observable store c.reserve.new.self.items _ is_loaded
    (g.met.D.Disk.is_disk c.load.new.disk) c.listen.ensures.same c.begun_images_are_whole.ensures
    (c.reserve.ensures.items ∙ c.requires.empty) door_end

pub returns-in-Err-clause-ends : goal.returns-in-Err-clause-ends
returns-in-Err-clause-ends g c =
    let door = g.L.Door.state c.args.door.now in
    ends-unserved c.args.requests g.L.Door.observable door door c.reserve.new.self.items end.NoMemory
    (c.reserve.ensures.items ∙ c.requires.empty) c.requires.some memory-undone (same-links g.L.Door.observable door)

pub returns-in-Err-clause-unopened : goal.returns-in-Err-clause-unopened
returns-in-Err-clause-unopened g c =
    unopened-memory g.D.Disk.observable (g.D.Disk.state c.args.disk.now) (g.D.Disk.state c.load.new.disk)
    c.args.door.now c.reserve.new.self.items (c.reserve.ensures.items ∙ c.requires.empty) c.load.ensures.moments

pub returns-in-Err-clause-disk_faults : goal.returns-in-Err-clause-disk_faults
returns-in-Err-clause-disk_faults g c =
    counts-worked _ _ _ memory-no-fault (c.in_ok-store.ensures.faults.unfailed (worked _ _))

pub returns-in-Err-clause-door_faults : goal.returns-in-Err-clause-door_faults
returns-in-Err-clause-door_faults g c = counts-none _ _ memory-undoor

pub returns-in-Err-listen-clause-ends : goal.returns-in-Err-listen-clause-ends
returns-in-Err-listen-clause-ends g c =
    ends-unserved c.args.requests g.L.Door.observable (g.L.Door.state c.args.door.now)
    (g.L.Door.state c.listen.new.self) c.reserve.new.self.items end.DoorFault
    (c.reserve.ensures.items ∙ c.requires.empty) c.requires.some door-undone c.listen.ensures.same

pub returns-in-Err-listen-clause-unopened : goal.returns-in-Err-listen-clause-unopened
returns-in-Err-listen-clause-unopened g c = opened _ _ _ _ _ _ _ door-opened

pub returns-in-Err-listen-clause-disk_faults : goal.returns-in-Err-listen-clause-disk_faults
returns-in-Err-listen-clause-disk_faults g c =
    counts-worked _ _ _ door-no-fault (c.in_ok-store.ensures.faults.unfailed (worked _ _))

pub returns-in-Err-listen-clause-door_faults : goal.returns-in-Err-listen-clause-door_faults
returns-in-Err-listen-clause-door_faults g c =
    counts-failed _ _ _ refl c.in-Err-listen.ensures.counts.later c.in-Err-listen.ensures.counts.failed

pub returns-clause-serves : goal.returns-clause-serves
returns-clause-serves g c = λ other.
    let before = g.D.Disk.state c.args.disk.now in
    let loaded = g.D.Disk.state c.load.new.disk in
    let store = c.in_ok-store.store in
    let served = c.serve_connections-served.new in
    let e = c.in_ok-store.ensures in
    let is_loaded =
    loaded-by g.D.Disk.observable before loaded store (g.met.D.Disk.is_disk c.args.disk.now)
    c.stores_open_in_one_way.ensures e.same e.opens e.moments e.settled e.calls (e.faults.unfailed (worked _ _)) in
    serves-loaded before loaded (g.D.Disk.state served.disk) (g.C.Clock.coming c.args.clock.now)
    (g.L.Door.state c.args.door.now) (g.L.Door.state c.listen.new.self) (g.L.Door.state served.door)
    g.C.Clock.observable g.L.Door.observable store served.lines.items _ is_loaded c.listen.ensures.same
    c.serve_connections-served.ensures.mirror.leaves.later (c.serve_connections-served.ensures.serves before.clock)

pub returns-clause-ends : goal.returns-clause-ends
returns-clause-ends g c =
    let ended = c.serve_connections-served.ensures.ends in
    record {
      most = ended.most;
      cause = ended.cause;
      returned = λ tells. ended.returned tells ∙ (c.listen.ensures.same tells).out;
    }

pub returns-clause-unopened : goal.returns-clause-unopened
returns-clause-unopened g c = opened _ _ _ _ _ _ _ (is-opened _ c.serve_connections-served.ensures.only_errors)

pub returns-clause-mirror : goal.returns-clause-mirror
returns-clause-mirror g c =
    alone_joins (g.D.Disk.state c.args.disk.now) (g.D.Disk.state c.load.new.disk)
    (g.D.Disk.state c.serve_connections-served.new.disk) Mirror c.in_ok-store.ensures.mirror
    c.serve_connections-served.ensures.mirror

pub returns-clause-disk_faults : goal.returns-clause-disk_faults
returns-clause-disk_faults g c =
    counts-loaded _ _ _ _ (is-opened _ c.serve_connections-served.ensures.only_errors)
    (c.in_ok-store.ensures.faults.unfailed (worked _ _)) c.serve_connections-served.ensures.disk_faults

pub returns-clause-door_faults : goal.returns-clause-door_faults
returns-clause-door_faults g c =
    subst (λ (n : ℕ). CountsFault n (g.L.Door.state c.serve_connections-served.new.door).faults
    (end_of c.serve_connections-served.result ≡ end.DoorFault)) c.in_default-listen.ensures.counts.worked
    c.serve_connections-served.ensures.door_faults

-- the clauses that pass on a callee's

pub returns-in_err-store-clause-address : goal.returns-in_err-store-clause-address
returns-in_err-store-clause-address g c = λ only. only

pub returns-in_err-store-clause-mirror : goal.returns-in_err-store-clause-mirror
returns-in_err-store-clause-mirror g c = c.load.ensures.mirror

pub returns-in-Err-clause-address : goal.returns-in-Err-clause-address
returns-in-Err-clause-address g c = λ only. only

pub returns-in-Err-clause-mirror : goal.returns-in-Err-clause-mirror
returns-in-Err-clause-mirror g c = c.load.ensures.mirror

pub returns-in-Err-listen-clause-address : goal.returns-in-Err-listen-clause-address
returns-in-Err-listen-clause-address g c = c.listen.ensures.only c.args.listen.now

pub returns-in-Err-listen-clause-mirror : goal.returns-in-Err-listen-clause-mirror
returns-in-Err-listen-clause-mirror g c = c.load.ensures.mirror

pub returns-clause-address : goal.returns-clause-address
returns-clause-address g c = λ only.
    c.serve_connections-served.ensures.address c.args.listen.now c.in_default-listen.ensures.at
    (c.listen.ensures.only c.args.listen.now only)

pub serve_connections-served-requires-clause-unspent : goal.serve_connections-served-requires-clause-unspent
serve_connections-served-requires-clause-unspent g c = c.in_ok-store.ensures.fresh

pub serve_connections-served-requires-clause-logs : goal.serve_connections-served-requires-clause-logs
serve_connections-served-requires-clause-logs g c = c.in_ok-store.ensures.logs

pub serve_connections-served-requires-clause-stands : goal.serve_connections-served-requires-clause-stands
serve_connections-served-requires-clause-stands g c = c.in_ok-store.ensures.opens

pub serve_connections-served-requires-clause-empty : goal.serve_connections-served-requires-clause-empty
serve_connections-served-requires-clause-empty g c = c.reserve.ensures.items ∙ c.requires.empty

pub serve_connections-served-requires-clause-few : goal.serve_connections-served-requires-clause-few
serve_connections-served-requires-clause-few g c = c.requires.few
