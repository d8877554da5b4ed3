use Rattle.std.proofs.Common.{◌≡◌, ◌-◌, ℕ, Bool, List, sym, ap, subst, arith}
use Rattle.std.specs.Prelude.{IsTrue, ◌↔◌}
use Rattle.feed_disk.proofs.MomentLemmas.{alone_joins}
use Rattle.feed_journal.specs.Log.{LogValue, MakesSome}
use Rattle.feed_journal.specs.Records.{records, size_of, IsWhole}
use Rattle.feed_journal.specs.Scan.{IsClosedAt}
use Rattle.feed_journal.proofs.CallLemmas.{calls_more}
use Rattle.feed_journal.proofs.LoadLemmas.{closed_whole, scan_listed, size_is}
use Rattle.feed_journal.proofs.log.Log.scan.Goals as goal

pub returns-in_err-whole-clause-areas : goal.returns-in_err-whole-clause-areas
returns-in_err-whole-clause-areas g c = λ a.
    alone_joins (g.D.Disk.state c.args.disk.now) (g.D.Disk.state c.scan.new.disk) (g.D.Disk.state c.is_whole.new.disk) a
    (c.scan.ensures.areas a) (c.is_whole.ensures.areas a)

pub returns-clause-areas : goal.returns-clause-areas
returns-clause-areas g c = λ a.
    alone_joins (g.D.Disk.state c.args.disk.now) (g.D.Disk.state c.scan.new.disk) (g.D.Disk.state c.is_whole.new.disk) a
    (c.scan.ensures.areas a) (c.is_whole.ensures.areas a)

pub returns-clause-list : goal.returns-clause-list
returns-clause-list g c = λ tells.
    let s = g.D.Disk.state c.args.disk.now in
    let t = g.D.Disk.state c.is_whole.new.disk in
    let area = c.args.area in
    let found = c.in_ok-places.field-0 in
    let same = (alone_joins s (g.D.Disk.state c.scan.new.disk) t area (c.scan.ensures.areas area)
    (c.is_whole.ensures.areas area)).content in
    scan_listed _ found.extents.list found.end (s.content area) (t.content area) same
    (ap (λ (v : LogValue). v.extents) c.of.ensures) (ap (λ (v : LogValue). v.size) c.of.ensures)
    c.in_ok-places.ensures.rules.0.follow
    (omega (arith, c.requires.size tells, c.in_ok-places.ensures.within)) (c.in_ok-places.ensures.scanned tells)

pub returns-clause-whole : goal.returns-clause-whole
returns-clause-whole g c = λ tells.
    let s = g.D.Disk.state c.args.disk.now in
    let m = g.D.Disk.state c.scan.new.disk in
    let t = g.D.Disk.state c.is_whole.new.disk in
    let area = c.args.area in
    let found = c.in_ok-places.field-0 in
    let whole = c.in_ok-whole.whole in
    let end : found.end ≡ size_of (records (s.content area)) - 1 = omega (
      arith,
      size_is found.extents.list found.end (s.content area) c.in_ok-places.ensures.rules.0.follow
          (omega (arith, c.requires.size tells, c.in_ok-places.ensures.within)) (c.in_ok-places.ensures.scanned tells),
    ) in
    let tells_whole = closed_whole whole found.end (s.content area) end
    (subst (λ (l : List ℕ). IsTrue whole ↔ IsClosedAt found.end l) (c.scan.ensures.areas area).content
    (c.in_ok-whole.ensures.whole tells)) in
    subst (λ (w : Bool). IsTrue w ↔ IsWhole (t.content area)) (sym (ap (λ (v : LogValue). v.whole) c.of.ensures))
    (subst (λ (l : List ℕ). IsTrue whole ↔ IsWhole l)
    (sym (alone_joins s m t area (c.scan.ensures.areas area) (c.is_whole.ensures.areas area)).content) tells_whole)

pub returns-clause-calls : goal.returns-clause-calls
returns-clause-calls g c =
    let s = g.D.Disk.state c.args.disk.now in
    let t = g.D.Disk.state c.is_whole.new.disk in
    subst (λ (v : LogValue). MakesSome s t c.args.calls v.calls) (sym c.of.ensures)
    (calls_more s (g.D.Disk.state c.scan.new.disk) t c.args.calls c.scan.new.calls c.is_whole.new.calls
    c.scan.ensures.calls c.is_whole.ensures.calls)
