use Rattle.std.proofs.Common.{◌≡◌, List, [], ℕ, Option, None, length, take, sym, ◌∙◌, ap, subst}
use Rattle.std.proofs.Common.{arith, take_all}
use Rattle.std.specs.Prelude.{IfSome}
use Rattle.feed_disk.specs.declared.area.Area.TheVariants.{Journal, Sealed}
use Rattle.feed_journal.specs.Log.{LogValue}
use Rattle.feed_journal.specs.Records.{records}
use Rattle.feed_recovery.specs.Loading.{AreCompared, HasReplayed, IsSealOf, ListsAll, LogsHistory}
use Rattle.feed_recovery.specs.Opening.{journal_of}
use Rattle.feed_recovery.specs.Places.{ArePlaces}
use Rattle.feed_recovery.specs.declared.replay.Progress.{Progress}
use Rattle.feed_journal.specs.declared.extent.Extent.{Extent}
use Rattle.feed_recovery.proofs.ComparedLemmas.{compared-begin}
use Rattle.feed_recovery.proofs.HistoryLemmas.{follow-below, take_next}
use Rattle.feed_recovery.proofs.InitLemmas.{none_lawful}
use Rattle.feed_recovery.proofs.PlacesLemmas.{places-none}
use Rattle.feed_recovery.proofs.ReadingLemmas.{fails_later, listed-count, readable_alone, readable_later, reader_alone, reads_begin}
use Rattle.feed_recovery.proofs.ReadingLemmas.{reads_join, worked-begin, worked-reader, worked-seals}
use Rattle.feed_recovery.proofs.RefusedLemmas.{refusal-without}
use Rattle.feed_recovery.proofs.replay.replay.Goals as goal
use Rattle.member_rules.specs.Head.{HeadValue}
use Rattle.member_rules.specs.History.{IsLawful}
use Rattle.member_rules.specs.Table.{IsTableOf}
use Rattle.member_rules.specs.declared.operation.Op.{Op}

pub frames-init : goal.frames-init
frames-init g c =
    let s = g.D.Disk.state c.args.disk.now in
    let head = c.args.head.now in
    let log = c.args.reader.now.log in
    let empty = c.in_ok-window.ensures.empty in
    record {
      worked = worked-begin s c.args.reader.now c.args.seals.now;
      reads = reads_begin s;
      reader = c.requires.reader;
      replayed = record {
        is_head = c.requires.head;
        lawful = subst (IsLawful head) (sym empty) (none_lawful head);
        of_feed = record {
          first = sym (c.in_ok-window.ensures.first ∙ ap (λ (h : HeadValue). h.window) c.head.view_is);
          title = sym (c.in_ok-window.ensures.title ∙ c.in_ok-title.ensures.same
              ∙ ap (λ (h : HeadValue). h.name.title) c.head.view_is);
        };
        table = subst (IsTableOf c.new-2.result head.created) (sym empty)
            (subst (λ (h : HeadValue). IsTableOf c.new-2.result h.created []) c.head.view_is c.new-2.ensures.table);
      };
      logs = record {
        rules = c.requires.rules;
        count = omega (arith, c.requires.one, ap length empty);
        long = omega (arith, ap length empty, follow-below 0 log.extents log.size c.requires.rules.follow);
        placed = subst (λ (l : List Extent). ArePlaces l c.in_ok-window.window.history log.extents) (sym c.new-3.ensures)
            (subst (λ (h : List Op). ArePlaces [] h log.extents) (sym empty) (places-none log.extents));
      };
      payloads = λ tells. ap (λ (n : ℕ). take n (records (s.content Journal))) c.requires.one
          ∙ take_next (records (s.content Journal)) 0 _ (c.requires.payload tells)
          ∙ ap (journal_of head) (sym empty);
      compared = λ tells. subst (λ (l : List Op). AreCompared head l (records (s.content Sealed)) None) (sym empty)
          (compared-begin head (records (s.content Sealed)) c.requires.head);
      wrong = tt;
    }

pub read_next-requires-clause-payloads : goal.read_next-requires-clause-payloads
read_next-requires-clause-payloads g c = λ tells.
    let before = c.frames.invariant in
    ap (λ (l : List ℕ). take (length c.frames.reader.log.extents) (records l)) (before.reads.areas Journal).content
    ∙ before.payloads tells

pub compare_seal-requires-clause-seals : goal.compare_seal-requires-clause-seals
compare_seal-requires-clause-seals g c =
    let before = c.frames.invariant in
    let s = g.D.Disk.state c.args.disk.now in
    let m = g.D.Disk.state c.frames.disk in
    readable_alone g.D.Disk.observable m (g.D.Disk.state c.read_next.new.disk) Sealed c.frames.seals
    (readable_later g.D.Disk.observable s m Sealed c.args.seals.now c.frames.seals c.requires.seals before.reads
    before.worked.seals_log) c.read_next.ensures.reads

pub compare_seal-requires-clause-wrong : goal.compare_seal-requires-clause-wrong
compare_seal-requires-clause-wrong g c =
    let before = c.frames.invariant in
    subst (λ (w : Option ℕ). IfSome w (IsSealOf c.frames.seals.extents)) (sym c.read_next.ensures.wrong)
    (subst (λ (l : LogValue). IfSome c.frames.progress.wrong (IsSealOf l.extents)) (sym before.worked.seals_log)
    before.wrong)

pub returns-in-Ok-false-clause-payloads : goal.returns-in-Ok-false-clause-payloads
returns-in-Ok-false-clause-payloads g c = λ tells.
    let m = g.D.Disk.state c.frames.disk in
    let log = c.read_next.new.reader.log in
    let payloads = records (m.content Journal) in
    let is = c.in-Ok-false.is in
    let none = c.in-Ok-false.field-0-test in
    let listed = ((c.read_next.ensures.last (cc)).lists tells).listed in
    ap records (sym (c.frames.invariant.reads.areas Journal).content)
    ∙ sym (take_all (length log.extents) payloads (omega (arith, listed-count log (m.content Journal) listed.list)))
    ∙ c.in-Ok-false.ensures.payloads tells

pub returns-in-Ok-false-clause-lists : goal.returns-in-Ok-false-clause-lists
returns-in-Ok-false-clause-lists g c = λ tells.
    let is = c.in-Ok-false.is in
    let none = c.in-Ok-false.field-0-test in
    subst (ListsAll c.read_next.new.reader.log) (sym (c.read_next.ensures.reads.areas Journal).content)
    ((c.read_next.ensures.last (cc)).lists tells)

pub returns-in-Ok-false-clause-compared : goal.returns-in-Ok-false-clause-compared
returns-in-Ok-false-clause-compared g c = λ tells.
    let is = c.in-Ok-false.is in
    let none = c.in-Ok-false.field-0-test in
    let seals = records ((g.D.Disk.state c.args.disk.now).content Sealed) in
    subst (λ (r : Progress). AreCompared c.args.head.now r.window.history seals r.wrong)
    (sym (c.read_next.ensures.same (cc))) (c.frames.invariant.compared tells)

pub returns-in-Ok-false-clause-worked : goal.returns-in-Ok-false-clause-worked
returns-in-Ok-false-clause-worked g c =
    worked-reader (g.D.Disk.state c.args.disk.now) (g.D.Disk.state c.frames.disk) (g.D.Disk.state c.read_next.new.disk)
    c.args.reader.now c.frames.reader c.read_next.new.reader c.args.seals.now c.frames.seals c.frames.invariant.worked
    c.in-Ok-false.ensures.worked

pub returns-in-Ok-false-clause-reads : goal.returns-in-Ok-false-clause-reads
returns-in-Ok-false-clause-reads g c = reads_join (g.D.Disk.state c.args.disk.now) (g.D.Disk.state c.frames.disk)
    (g.D.Disk.state c.read_next.new.disk) c.frames.invariant.reads c.read_next.ensures.reads

pub returns-in-Err-clause-reads : goal.returns-in-Err-clause-reads
returns-in-Err-clause-reads g c = reads_join (g.D.Disk.state c.args.disk.now) (g.D.Disk.state c.frames.disk)
    (g.D.Disk.state c.read_next.new.disk) c.frames.invariant.reads c.read_next.ensures.reads

pub returns-in-Err-clause-fault : goal.returns-in-Err-clause-fault
returns-in-Err-clause-fault g c =
    let before = c.frames.invariant in
    fails_later g.D.Disk.observable (g.D.Disk.state c.args.disk.now) (g.D.Disk.state c.frames.disk)
    (g.D.Disk.state c.read_next.new.disk) c.in-Err.fault before.reads before.worked.faults c.in-Err.ensures.fault

pub returns-in-Err-clause-refused : goal.returns-in-Err-clause-refused
returns-in-Err-clause-refused g c = c.in-Err.ensures.refused

pub returns-in-Err-compare_seal-clause-reads : goal.returns-in-Err-compare_seal-clause-reads
returns-in-Err-compare_seal-clause-reads g c =
    let s = g.D.Disk.state c.args.disk.now in
    let t = g.D.Disk.state c.read_next.new.disk in
    reads_join s t (g.D.Disk.state c.compare_seal.new.disk)
    (reads_join s (g.D.Disk.state c.frames.disk) t c.frames.invariant.reads c.read_next.ensures.reads)
    c.compare_seal.ensures.reads

pub returns-in-Err-compare_seal-clause-fault : goal.returns-in-Err-compare_seal-clause-fault
returns-in-Err-compare_seal-clause-fault g c =
    let s = g.D.Disk.state c.args.disk.now in
    let m = g.D.Disk.state c.frames.disk in
    let t = g.D.Disk.state c.read_next.new.disk in
    let before = c.frames.invariant in
    fails_later g.D.Disk.observable s t (g.D.Disk.state c.compare_seal.new.disk) c.in-Err-compare_seal.fault
    (reads_join s m t before.reads c.read_next.ensures.reads)
    (c.in-Ok-true.ensures.worked.faults ∙ before.worked.faults) c.in-Err-compare_seal.ensures.fault

pub returns-in-Err-compare_seal-clause-refused : goal.returns-in-Err-compare_seal-clause-refused
returns-in-Err-compare_seal-clause-refused g c =
    refusal-without c.in-Err-compare_seal.fault c.in-Err-compare_seal.ensures.refused

pub frames-preserved : goal.frames-preserved
frames-preserved g c =
    let s = g.D.Disk.state c.args.disk.now in
    let m = g.D.Disk.state c.frames.disk in
    let t = g.D.Disk.state c.read_next.new.disk in
    let u = g.D.Disk.state c.compare_seal.new.disk in
    let before = c.frames.invariant in
    let head = c.args.head.now in
    let history = c.frames.progress.window.history in
    let reader = c.read_next.new.reader in
    let read = c.in-Ok-true.ensures in
    let is = c.in-Ok-true.is in
    let some = c.in-Ok-true.field-0-test in
    let grown = c.read_next.ensures.more (cc) in
    let after = c.compare_seal.new.self in
    let same = c.compare_seal.ensures.same in
    let seals = records (s.content Sealed) in
    let still : records (t.content Sealed) ≡ seals = ap records
    ((c.read_next.ensures.reads.areas Sealed).content ∙ (before.reads.areas Sealed).content) in
    record {
      worked = worked-seals s t u c.args.reader.now reader c.args.seals.now c.frames.seals c.compare_seal.new.seals
          (worked-reader s m t c.args.reader.now c.frames.reader reader c.args.seals.now c.frames.seals before.worked
          read.worked) c.in_default.ensures.worked;
      reads = reads_join s t u (reads_join s m t before.reads c.read_next.ensures.reads) c.compare_seal.ensures.reads;
      reader = reader_alone g.D.Disk.observable t u reader read.reader c.compare_seal.ensures.reads;
      replayed = subst (λ (r : Progress). HasReplayed head r.members r.window) (sym same) read.replayed;
      logs = subst (λ (r : Progress). LogsHistory reader.log r.window.history r.places.extents) (sym same) read.logs;
      payloads = λ tells.
          ap (λ (l : List ℕ). take (length reader.log.extents) (records l)) (sym (before.reads.areas Journal).content)
          ∙ read.payloads tells
          ∙ ap (λ (r : Progress). journal_of head r.window.history) (sym same);
      compared = λ tells.
          subst (λ (l : List (List ℕ)). AreCompared head after.window.history l after.wrong) still
          (c.in_default.ensures.compared tells history grown.operation grown.history
          (subst (λ (l : List (List ℕ)). AreCompared head history l c.read_next.new.self.wrong) (sym still)
          (subst (AreCompared head history seals) (sym c.read_next.ensures.wrong) (before.compared tells))));
      wrong = subst (λ (l : LogValue). IfSome after.wrong (IsSealOf l.extents)) before.worked.seals_log
          c.in_default.ensures.wrong;
    }
