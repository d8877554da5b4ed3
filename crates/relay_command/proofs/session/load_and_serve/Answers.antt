use Rattle.std.proofs.Common.{◌∙◌, refl, sym, ap, subst, List, ℕ}
use Rattle.std.proofs.lemmas.Result.{err_from_is_err_and}
use Rattle.document_server.proofs.StepLemmas.{counts-none, worked}
use Rattle.feed_disk.specs.declared.area.Area.TheVariants.{Journal, Mirror}
use Rattle.feed_disk.proofs.MomentLemmas.{alone_begins, alone_joins}
use Rattle.feed_journal.specs.Records.{records}
use Rattle.mirror_walk.specs.Holding.{payloads_of}
use Rattle.mirror_walk.specs.Loaded.{IsLoadedOf, IsMirrorFault}
use Rattle.relay_command.proofs.LoadLemmas.{after-served, area-loaded, area-unloaded, area-untouched, counts-load, counts-loaded}
use Rattle.relay_command.proofs.LoadLemmas.{ends-unserved, load-undone, load-undoor, loading-by, loading-none, memory-undisk}
use Rattle.relay_command.proofs.LoadLemmas.{memory-door, memory-undone, memory-unloaded, opened-load, opened-memory}
use Rattle.relay_command.proofs.SessionLemmas.{relays-from}
use Rattle.relay_command.specs.Session.{end_of}
use Rattle.relay_command.proofs.session.load_and_serve.Goals as goal

-- memory ran out for the mirror's own base

pub returns-in_err-own-clause-relays : goal.returns-in_err-own-clause-relays
returns-in_err-own-clause-relays g c = λ opened.
    let p = err_from_is_err_and c.from_residual.result c.from_residual.ensures.1 in
    absurd (opened-memory _ opened (ap end_of p.1 ∙ p.2))

pub returns-in_err-own-clause-ends : goal.returns-in_err-own-clause-ends
returns-in_err-own-clause-ends g c =
    let p = err_from_is_err_and c.from_residual.result c.from_residual.ensures.1 in
    ends-unserved c.args.requests g.L.Door.observable (g.L.Door.state c.args.door.now) c.args.lines.now.items _
    c.requires.empty c.requires.some (memory-undone _ (ap end_of p.1 ∙ p.2))

pub returns-in_err-own-clause-unopened : goal.returns-in_err-own-clause-unopened
returns-in_err-own-clause-unopened g c = λ closed. record { no_lines = c.requires.empty; same_door = refl }

pub returns-in_err-own-clause-load : goal.returns-in_err-own-clause-load
returns-in_err-own-clause-load g c =
    let p = err_from_is_err_and c.from_residual.result c.from_residual.ensures.1 in
    loading-none _ _ _ _ (memory-unloaded _ (ap end_of p.1 ∙ p.2))

pub returns-in_err-own-clause-area : goal.returns-in_err-own-clause-area
returns-in_err-own-clause-area g c = λ seen. area-untouched _ _

pub returns-in_err-own-clause-others : goal.returns-in_err-own-clause-others
returns-in_err-own-clause-others g c = λ a other. alone_begins _ a

pub returns-in_err-own-clause-disk_faults : goal.returns-in_err-own-clause-disk_faults
returns-in_err-own-clause-disk_faults g c =
    let p = err_from_is_err_and c.from_residual.result c.from_residual.ensures.1 in
    counts-none _ _ (memory-undisk _ (ap end_of p.1 ∙ p.2))

pub returns-in_err-own-clause-door_faults : goal.returns-in_err-own-clause-door_faults
returns-in_err-own-clause-door_faults g c =
    let p = err_from_is_err_and c.from_residual.result c.from_residual.ensures.1 in
    counts-none _ _ (λ is. memory-door (sym (ap end_of p.1 ∙ p.2) ∙ is))

-- the mirror isn't loaded

pub returns-in_err-mirror-clause-relays : goal.returns-in_err-mirror-clause-relays
returns-in_err-mirror-clause-relays g c = λ opened.
    let p = err_from_is_err_and c.from_residual-in_err-mirror.result c.from_residual-in_err-mirror.ensures.1 in
    absurd (opened-load _ c.in_err-mirror.field-0.0 opened (ap end_of p.1 ∙ p.2))

pub returns-in_err-mirror-clause-ends : goal.returns-in_err-mirror-clause-ends
returns-in_err-mirror-clause-ends g c =
    let p = err_from_is_err_and c.from_residual-in_err-mirror.result c.from_residual-in_err-mirror.ensures.1 in
    ends-unserved c.args.requests g.L.Door.observable (g.L.Door.state c.args.door.now) c.args.lines.now.items _
    c.requires.empty c.requires.some (load-undone _ c.in_err-mirror.field-0.0 (ap end_of p.1 ∙ p.2))

pub returns-in_err-mirror-clause-unopened : goal.returns-in_err-mirror-clause-unopened
returns-in_err-mirror-clause-unopened g c = λ closed. record { no_lines = c.requires.empty; same_door = refl }

pub returns-in_err-mirror-clause-load : goal.returns-in_err-mirror-clause-load
returns-in_err-mirror-clause-load g c =
    let p = err_from_is_err_and c.from_residual-in_err-mirror.result c.from_residual-in_err-mirror.ensures.1 in
    let before = g.D.Disk.state c.args.disk.now in
    loading-by g.D.Disk.observable c.args.base.now before _ c.in_err-mirror.field-0.0 (ap end_of p.1 ∙ p.2)
    (λ seen. subst (λ (b : List ℕ). IsMirrorFault b (records (before.content Mirror)) c.in_err-mirror.field-0.0)
    c.in_ok-own.ensures.same (c.in_err-mirror.ensures.refused seen))
    (λ seen kept loads. c.in_err-mirror.ensures.only seen kept
    (subst (λ (b : List ℕ). IsLoadedOf b (records (before.content Mirror)) kept) (sym c.in_ok-own.ensures.same) loads))

pub returns-in_err-mirror-clause-area : goal.returns-in_err-mirror-clause-area
returns-in_err-mirror-clause-area g c = λ seen.
    let p = err_from_is_err_and c.from_residual-in_err-mirror.result c.from_residual-in_err-mirror.ensures.1 in
    area-unloaded _ _ c.in_err-mirror.field-0.0 _ (ap end_of p.1 ∙ p.2) (c.load.ensures.moments seen)

pub returns-in_err-mirror-clause-others : goal.returns-in_err-mirror-clause-others
returns-in_err-mirror-clause-others g c = c.load.ensures.others

pub returns-in_err-mirror-clause-disk_faults : goal.returns-in_err-mirror-clause-disk_faults
returns-in_err-mirror-clause-disk_faults g c =
    let p = err_from_is_err_and c.from_residual-in_err-mirror.result c.from_residual-in_err-mirror.ensures.1 in
    counts-load _ c.in_err-mirror.field-0.0 _ _ (ap end_of p.1 ∙ p.2) c.in_err-mirror.ensures.faults

pub returns-in_err-mirror-clause-door_faults : goal.returns-in_err-mirror-clause-door_faults
returns-in_err-mirror-clause-door_faults g c =
    let p = err_from_is_err_and c.from_residual-in_err-mirror.result c.from_residual-in_err-mirror.ensures.1 in
    counts-none _ _ (load-undoor _ c.in_err-mirror.field-0.0 (ap end_of p.1 ∙ p.2))

-- connections were served, or memory ran out for their lines

pub returns-clause-relays : goal.returns-clause-relays
returns-clause-relays g c = λ opened.
    let mirror = c.in_ok-mirror.mirror in
    let e = c.in_ok-mirror.ensures in
    let before = g.D.Disk.state c.args.disk.now in
    record {
      kept = mirror.kept;
      loaded = λ seen. subst (λ (b : List ℕ). IsLoadedOf b (records (before.content Mirror)) mirror.kept)
          c.in_ok-own.ensures.same (e.loaded seen);
      taken = subst (λ (b : List ℕ). IsLoadedOf b (payloads_of mirror.kept) mirror.kept) c.in_ok-own.ensures.same e.taken;
      relays = relays-from g.D.Disk.observable g.L.Door.observable c.args.base.now mirror.kept before _ _ _ _ _ _ _
          (c.load.ensures.others Journal (λ same. cc)).leaves.later (e.faults.unfailed (worked _ _))
          (λ seen. record { left = refl; back = refl; out = refl })
          (c.serve_loaded-served.ensures.relays opened);
    }

pub returns-clause-load : goal.returns-clause-load
returns-clause-load g c =
    loading-none _ _ _ _ (after-served c.serve_loaded-served.result c.serve_loaded-served.ensures.only_errors)

pub returns-clause-area : goal.returns-clause-area
returns-clause-area g c = λ seen.
    area-loaded _ _ _ _ (c.in_ok-mirror.ensures.same seen Mirror) (c.load.ensures.moments seen)
    (c.serve_loaded-served.ensures.areas Mirror)

pub returns-clause-others : goal.returns-clause-others
returns-clause-others g c = λ a other.
    alone_joins _ _ _ a (c.load.ensures.others a other) (c.serve_loaded-served.ensures.areas a)

pub returns-clause-disk_faults : goal.returns-clause-disk_faults
returns-clause-disk_faults g c =
    counts-loaded c.serve_loaded-served.result _ _ _ (c.in_ok-mirror.ensures.faults.unfailed (worked _ _))
    c.serve_loaded-served.ensures.only_errors c.serve_loaded-served.ensures.disk_faults
