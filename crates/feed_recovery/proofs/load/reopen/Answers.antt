use Rattle.std.proofs.Common.{◌≡◌, ◌||◌, ℕ, Bool, false, List, length, sym, ◌∙◌, ap, subst}
use Rattle.std.proofs.lemmas.Result.{err_from_is_err_and}
use Rattle.feed_disk.specs.declared.area.Area.TheVariants.{Journal, Sealed}
use Rattle.feed_journal.specs.Log.{IsListed, IsLog, LogValue, MakesSome}
use Rattle.feed_journal.specs.Records.{records}
use Rattle.feed_recovery.specs.Loading.{AreCompared, IsSealFault, LogsHistory, calls_of}
use Rattle.feed_recovery.specs.Opening.{AreSeals, IsSealCount, Opens}
use Rattle.feed_recovery.specs.Replayed.{ReplayedValue}
use Rattle.feed_recovery.proofs.ComparedLemmas.{compared-all}
use Rattle.feed_recovery.proofs.ReadingLemmas.{listed-count, seals-fail}
use Rattle.feed_recovery.proofs.RefusedLemmas.{refusal-journal, refusal-seals}
use Rattle.feed_recovery.proofs.load.reopen.Goals as goal

pub returns-in_err-replayed-clause-refused : goal.returns-in_err-replayed-clause-refused
returns-in_err-replayed-clause-refused g c =
    let returned = err_from_is_err_and c.from_residual.result c.from_residual.ensures.1 in
    rw (returned.1, returned.2) (refusal-journal c.in_err-replayed.field-0.0 c.in_err-replayed.ensures.refused)

pub returns-in-Err-clause-fault : goal.returns-in-Err-clause-fault
returns-in-Err-clause-fault g c =
    let s = g.D.Disk.state c.args.disk.now in
    let replayed = c.in_ok-replayed.replayed in
    let ok = c.in_ok-replayed.ensures in
    let fault = c.in-Err.fault in
    let found = c.len.ensures ∙ ap (λ (l : LogValue). length l.extents) ok.worked.seals_log in
    seals-fail g.D.Disk.observable s (g.D.Disk.state c.read.new.disk) c.args.seals replayed.head replayed.history
    replayed.wrong fault c.requires.seals ok.journal ok.compared ok.worked.faults
    (subst (λ (k : ℕ). IsSealFault replayed.head replayed.history replayed.wrong k fault) found
    c.in-Err.ensures.refused)

pub returns-in-Err-clause-refused : goal.returns-in-Err-clause-refused
returns-in-Err-clause-refused g c =
    let replayed = c.in_ok-replayed.replayed in
    let ok = c.in_ok-replayed.ensures in
    let fault = c.in-Err.fault in
    let found = c.len.ensures ∙ ap (λ (l : LogValue). length l.extents) ok.worked.seals_log in
    refusal-seals c.read.new.reader.log c.args.seals replayed.head replayed.history replayed.wrong fault ok.logs.rules
    c.requires.seals.rules ok.rules.head ok.rules.lawful ok.logs.count ok.wrong
    (subst (λ (k : ℕ). IsSealFault replayed.head replayed.history replayed.wrong k fault) found
    c.in-Err.ensures.refused)

pub returns-clause-stands : goal.returns-clause-stands
returns-clause-stands g c = λ tells.
    let s = g.D.Disk.state c.args.disk.now in
    let n = g.D.Disk.state c.read.new.disk in
    let replayed = c.in_ok-replayed.replayed in
    let head = replayed.head in
    let history = replayed.history in
    let ok = c.in_ok-replayed.ensures in
    let reads = c.read.ensures.reads in
    let sealed = records (s.content Sealed) in
    let counted = c.in_default.ensures.counted in
    let found : c.len.result ≡ length sealed = c.len.ensures
    ∙ ap (λ (l : LogValue). length l.extents) ok.worked.seals_log
    ∙ sym (listed-count c.args.seals (s.content Sealed) (c.requires.listed tells).list) in
    let journal = ok.journal tells in
    let seals : IsListed c.read.new.seals (n.content Sealed) =
    subst (IsListed c.read.new.seals) (sym (reads.areas Sealed).content)
    (subst (λ (l : LogValue). IsListed l (s.content Sealed)) (sym ok.worked.seals_log)
    (record { list = (c.requires.listed tells).list; long = (c.requires.listed tells).long })) in
    record {
      opens = subst (λ (v : ReplayedValue). Opens (n.content Journal) (n.content Sealed) v.head v.history
          (length c.read.new.seals.extents)) (sym c.replayed.view_is) (record {
            is_journal = record {
              is_head = journal.is_head;
              lawful = journal.lawful;
              is = ap records (reads.areas Journal).content ∙ journal.is;
            };
            are_seals = subst (λ (l : List ℕ). AreSeals head history (records l)) (sym (reads.areas Sealed).content)
                (compared-all head history sealed journal.is_head (subst (IsSealCount head history) found counted)
                (subst (AreCompared head history sealed) c.in_default.ensures.right (ok.compared tells)));
            number = listed-count c.read.new.seals (n.content Sealed) seals.list;
            count = subst (IsSealCount head history) c.len.ensures counted;
          });
      journal = subst (λ (l : LogValue). IsListed l (n.content Journal)) (sym c.finish.ensures) (ok.lists tells).listed;
      seals = seals;
    }

pub invariant_of-result : goal.invariant_of-result
invariant_of-result g c =
    let is = c.replayed.invariant in
    let inside = c.replayed.inside in
    let ok = c.in_ok-replayed.ensures in
    let seals = c.read.new.seals in
    let unspent = ap (λ (l : LogValue). l.spent) c.finish.ensures ∙ ok.reader.unspent in
    let unspent' : seals.spent ≡ false = ap (λ (l : LogValue). l.spent) ok.worked.seals_log ∙ c.requires.seals.unspent in
    let logs : LogsHistory c.finish.result inside.window.history inside.places.extents =
    subst (λ (l : LogValue). LogsHistory l inside.window.history inside.places.extents) (sym c.finish.ensures)
    (subst (λ (v : ReplayedValue). LogsHistory c.read.new.reader.log v.history v.places) (sym c.replayed.view_is) ok.logs)
    in (
      record {
        head = is.is_head;
        lawful = is.lawful;
        members = is.table;
        journal_area = ap (λ (l : LogValue). l.area) c.finish.ensures ∙ ok.reader.area;
        sealed_area = ap (λ (l : LogValue). l.area) ok.worked.seals_log ∙ c.requires.seals.area;
        records = logs.count;
        seals = subst (λ (v : ReplayedValue). IsSealCount v.head v.history (length seals.extents))
            (sym c.replayed.view_is)
            (subst (IsSealCount c.in_ok-replayed.replayed.head c.in_ok-replayed.replayed.history) c.len.ensures
            c.in_default.ensures.counted);
        long = logs.long;
      },
      is.of_feed,
      sym (ap (λ (b : Bool). b || seals.spent) unspent ∙ unspent'),
      tt,
      logs.placed,
    )

pub returns-clause-begins : goal.returns-clause-begins
returns-clause-begins g c = λ tells. (c.in_ok-replayed.ensures.lists tells).end.begins

pub returns-clause-worked : goal.returns-clause-worked
returns-clause-worked g c = c.in_ok-replayed.ensures.worked.faults

pub returns-clause-logs : goal.returns-clause-logs
returns-clause-logs g c = (
  subst IsLog (sym c.finish.ensures) c.in_ok-replayed.ensures.logs.rules,
  subst IsLog (sym c.in_ok-replayed.ensures.worked.seals_log) c.requires.seals.rules,
)

pub returns-clause-calls : goal.returns-clause-calls
returns-clause-calls g c =
    subst
    (λ (l : LogValue). MakesSome (g.D.Disk.state c.args.disk.now) (g.D.Disk.state c.read.new.disk)
    (calls_of c.args.reader.log c.args.seals) (calls_of l c.read.new.seals))
    (sym c.finish.ensures) c.in_ok-replayed.ensures.worked.calls
