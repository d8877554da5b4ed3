use Rattle.std.proofs.Common.{[], ◌∷◌, ◌++◌, length, ap, subst}
use Rattle.feed_disk.specs.declared.area.Area.TheVariants.{Journal, Sealed, Mirror}
use Rattle.feed_disk.proofs.MomentLemmas.{alone_joins}
use Rattle.feed_journal.specs.Records.{records}
use Rattle.feed_recovery.specs.Commit.{MakesSealCalls}
use Rattle.feed_recovery.specs.Prepare.{ReadyValue}
use Rattle.feed_recovery.specs.Settled.{IsAtRest, IsSettled, OpensPast}
use Rattle.feed_recovery.specs.Store.{StandsFor, StoreValue, seal_count}
use Rattle.feed_recovery.proofs.BothLemmas.{both_joins}
use Rattle.feed_recovery.proofs.CountLemmas.{calls_both, calls_spent, ok_both}
use Rattle.feed_recovery.proofs.LoadedLemmas.{journal_sealed, mirror_journal, mirror_sealed, sealed_journal}
use Rattle.feed_recovery.proofs.SettleLemmas.{adding_keeps, adding_leaves, committed_since, rest_settles}
use Rattle.feed_recovery.proofs.SettleLemmas.{sealing_keeps, sealing_leaves}
use Rattle.feed_recovery.proofs.store.Store.commit.Goals as goal

pub returns-in-Err-clause-leaves : goal.returns-in-Err-clause-leaves
returns-in-Err-clause-leaves g c = λ tells rests.
    let s = g.D.Disk.state c.args.disk.now in
    let m = g.D.Disk.state c.append_seal.new.disk in
    let store = c.args.self.now in
    let run = c.append_seal.ensures.moments tells rests in
    record {
      moments = sealing_leaves c.begun_images_are_whole.ensures s m store c.args.ready.operation
          (g.met.D.Disk.is_disk c.args.disk.now) (c.requires.stands tells) rests
          (c.append_seal.ensures.others Journal journal_sealed) run;
      kept = sealing_keeps s m store.head store.history run;
    }

pub returns-in-Err-clause-mirror : goal.returns-in-Err-clause-mirror
returns-in-Err-clause-mirror g c = c.append_seal.ensures.others Mirror mirror_sealed

pub returns-in-Err-clause-calls : goal.returns-in-Err-clause-calls
returns-in-Err-clause-calls g c = record {
  all = tt;
  most = calls_spent c.args.ready.seal (g.D.Disk.state c.args.disk.now) (g.D.Disk.state c.append_seal.new.disk)
      c.args.self.now c.append_seal.new.self (ap (λ (v : StoreValue). v.journal) c.append_seal.ensures.same)
      c.in-Err.ensures.most;
  faults = record {
    later = c.append_seal.ensures.cause.later;
    failed = c.in-Err.ensures.cause.failed;
    worked = tt;
  };
}

pub returns-clause-committed : goal.returns-clause-committed
returns-clause-committed g c =
    committed_since c.append_operation.result c.args.ready.operation c.args.self.now c.append_seal.new.self
    c.append_operation.new.self (ap (λ (v : StoreValue). v.history) c.append_seal.ensures.same)
    c.append_operation.ensures.committed

pub returns-clause-leaves : goal.returns-clause-leaves
returns-clause-leaves g c = λ tells rests.
    let s = g.D.Disk.state c.args.disk.now in
    let m = g.D.Disk.state c.append_seal.new.disk in
    let t = g.D.Disk.state c.append_operation.new.disk in
    let store = c.args.self.now in
    let operation = c.args.ready.operation in
    let sealed : StoreValue = record store { seals = c.append_seal.new.self.seals } in
    let stands = subst (StandsFor m) c.append_seal.ensures.same (c.in_default.ensures.stands tells) in
    let rests' = c.in_default.ensures.rests tells rests in
    let run = c.append_seal.ensures.moments tells rests in
    let alone = c.append_operation.ensures.others Sealed sealed_journal in
    record {
      moments = both_joins s m t (OpensPast store.head (store.history ++ operation ∷ []) (length store.history))
          (sealing_leaves c.begun_images_are_whole.ensures s m store operation (g.met.D.Disk.is_disk c.args.disk.now)
          (c.requires.stands tells) rests (c.append_seal.ensures.others Journal journal_sealed) run)
          (adding_leaves c.begun_images_are_whole.ensures c.archives_stay.ensures c.windows_seal_in_turn.ensures sealed
          operation c.in_default.ensures.full c.requires.prepared.lawful m t
          (g.met.D.Disk.is_disk c.append_seal.new.disk) stands rests' alone
          (c.append_operation.ensures.moments tells rests'));
      kept = adding_keeps s m t (records (s.content Sealed)) (sealing_keeps s m store.head store.history run) alone;
    }

pub returns-clause-settled : goal.returns-clause-settled
returns-clause-settled g c =
    let s = g.D.Disk.state c.args.disk.now in
    let m = g.D.Disk.state c.append_seal.new.disk in
    let t = g.D.Disk.state c.append_operation.new.disk in
    let store = c.append_operation.new.self in
    ok_both c.append_operation.result (g.D.Disk.observable → StandsFor t store)
    (g.D.Disk.observable → IsAtRest m → IsAtRest t)
    (g.D.Disk.observable → IsAtRest s → IsSettled t store)
    (λ stands rests tells start.
    let rests' = rests tells (c.in_default.ensures.rests tells start) in
    record {
      settled = rest_settles c.begun_images_are_whole.ensures t store.head store.history (seal_count store)
          (stands tells).opens rests';
      rests = rests';
    })
    c.append_operation.ensures.stands c.append_operation.ensures.rests

pub returns-clause-mirror : goal.returns-clause-mirror
returns-clause-mirror g c =
    alone_joins (g.D.Disk.state c.args.disk.now) (g.D.Disk.state c.append_seal.new.disk)
    (g.D.Disk.state c.append_operation.new.disk) Mirror (c.append_seal.ensures.others Mirror mirror_sealed)
    (c.append_operation.ensures.others Mirror mirror_journal)

pub returns-clause-calls : goal.returns-clause-calls
returns-clause-calls g c =
    let s = g.D.Disk.state c.args.disk.now in
    let m = g.D.Disk.state c.append_seal.new.disk in
    let t = g.D.Disk.state c.append_operation.new.disk in
    let before = c.args.self.now.seals.calls in
    let after = c.append_seal.new.self.seals.calls in
    calls_both c.args.ready.seal s m t c.args.self.now c.append_seal.new.self c.append_operation.new.self
    c.append_operation.result (ap (λ (v : StoreValue). v.journal) c.append_seal.ensures.same)
    c.append_operation.ensures.seals
    (subst (λ (v : ReadyValue). MakesSealCalls v.seal s m before after) c.ready.view_is
    c.in_default.ensures.calls)
    c.in_default.ensures.cause.worked c.append_operation.ensures.calls
