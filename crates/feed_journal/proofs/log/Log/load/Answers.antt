use Rattle.std.proofs.Common.{◌≡◌, ◌≢◌, ◌-◌, ◌<◌, ℕ, List, length, get_or, sym, ◌∙◌, ap, subst, arith}
use Rattle.std.proofs.lemmas.Result.{IfOk-weaker, on_ok_weaker}
use Rattle.feed_disk.proofs.MomentLemmas.{alone_joins}
use Rattle.feed_journal.specs.Records.{records, size_of, Begins}
use Rattle.feed_journal.proofs.LoadLemmas.{padded_closed, starts_closed}
use Rattle.feed_journal.proofs.CallLemmas.{calls_then}
use Rattle.feed_journal.proofs.log.Log.load.Goals as goal

pub returns-clause-rests : goal.returns-clause-rests
returns-clause-rests g c = on_ok_weaker c.scan.result (λ starts tells whole i may.
    let m = g.D.Disk.state c.settle_area.new.disk in
    let t = g.D.Disk.state c.scan.new.disk in
    let area = c.args.area in
    let alone = c.scan.ensures.areas area in
    let is : t.content area ≡ _ = alone.content ∙ c.in_ok-size.ensures.content tells in
    let closed : get_or (t.content area) (size_of (records (t.content area)) - 1) 0 ≢ 1 =
    subst (λ (l : List ℕ). get_or l (size_of (records l) - 1) 0 ≢ 1) (sym is) (padded_closed _ whole) in
    let some : 0 < length (t.content area) =
    omega (arith, c.in_ok-size.ensures.size tells, c.in_ok-size.ensures.some, ap length alone.content) in
    subst (Begins (records (t.content area)))
    (sym (c.in_ok-size.ensures.certain tells i (alone.now i may) ∙ sym alone.content))
    (starts_closed (t.content area) some (starts tells) closed)) c.scan.ensures.starts

pub returns-clause-others : goal.returns-clause-others
returns-clause-others g c = λ a other.
    alone_joins (g.D.Disk.state c.args.disk.now) (g.D.Disk.state c.settle_area.new.disk)
    (g.D.Disk.state c.scan.new.disk) a (c.settle_area.ensures.others a other) (c.scan.ensures.areas a)

pub returns-clause-calls : goal.returns-clause-calls
returns-clause-calls g c = IfOk-weaker c.scan.result _ _ (λ log made.
    calls_then (g.D.Disk.state c.args.disk.now) (g.D.Disk.state c.settle_area.new.disk)
    (g.D.Disk.state c.scan.new.disk) 0 c.settle_area.new.calls log.calls c.settle_area.ensures.calls.number
    c.settle_area.ensures.calls.makes made) c.scan.ensures.calls
