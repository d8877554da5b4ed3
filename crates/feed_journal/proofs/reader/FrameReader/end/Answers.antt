use Rattle.std.proofs.Common.{◌-◌, false, sym, subst, arith}
use Rattle.std.specs.Prelude.{IsTrue, ◌↔◌}
use Rattle.feed_journal.specs.Log.{LogValue, IsScanned}
use Rattle.feed_journal.specs.Reading.{AreFirst, ReadingValue}
use Rattle.feed_journal.specs.Scan.{IsClosedAt}
use Rattle.feed_journal.proofs.ExtentLemmas.{follow_above}
use Rattle.feed_journal.proofs.ReadingLemmas.{all_listed, at_end}
use Rattle.feed_journal.proofs.reader.FrameReader.end.Goals as goal

pub overflow_sub-self-inside : goal.overflow_sub-self-inside
overflow_sub-self-inside g c = follow_above 0 c.self.inside.extents.list c.self.inside.size c.self.invariant.0.follow

pub is_whole-requires-clause-within : goal.is_whole-requires-clause-within
is_whole-requires-clause-within g c = omega (
  arith,
  c.self.invariant.1,
  follow_above 0 c.self.inside.extents.list c.self.inside.size c.self.invariant.0.follow,
)

pub returns-in_err-self-inside-clause-listed : goal.returns-in_err-self-inside-clause-listed
returns-in_err-self-inside-clause-listed g c = λ tells.
    let content = (g.D.Disk.state c.args.disk.now).content c.args.self.now.log.area in
    let log : LogValue = record {
      area = c.self.inside.area;
      extents = c.self.inside.extents.list;
      size = c.self.inside.size;
      calls = c.is_whole.new.calls;
      spent = false;
      whole = c.self.inside.whole;
      spare = 1;
    } in
    all_listed log content c.self.invariant.0
    (subst (λ (v : ReadingValue). AreFirst v.log.extents (v.log.size - 1) content) (sym c.self.view_is)
    (c.requires.reading tells).first)
    (subst (λ (v : ReadingValue). IsScanned v.log.extents (v.log.size - 1) content) (sym c.self.view_is)
    (c.requires.scanned tells))

pub returns-clause-listed : goal.returns-clause-listed
returns-clause-listed g c = λ tells.
    let content = (g.D.Disk.state c.args.disk.now).content c.args.self.now.log.area in
    let log : LogValue = record {
      area = c.self.inside.area;
      extents = c.self.inside.extents.list;
      size = c.self.inside.size;
      calls = c.is_whole.new.calls;
      spent = false;
      whole = c.in_ok-self-inside.field-0;
      spare = 1;
    } in
    all_listed log content c.self.invariant.0
    (subst (λ (v : ReadingValue). AreFirst v.log.extents (v.log.size - 1) content) (sym c.self.view_is)
    (c.requires.reading tells).first)
    (subst (λ (v : ReadingValue). IsScanned v.log.extents (v.log.size - 1) content) (sym c.self.view_is)
    (c.requires.scanned tells))

pub returns-clause-end : goal.returns-clause-end
returns-clause-end g c = λ tells.
    let s = g.D.Disk.state c.args.disk.now in
    let content = s.content c.args.self.now.log.area in
    let log : LogValue = record {
      area = c.self.inside.area;
      extents = c.self.inside.extents.list;
      size = c.self.inside.size;
      calls = c.is_whole.new.calls;
      spent = false;
      whole = c.in_ok-self-inside.field-0;
      spare = 1;
    } in
    at_end log content c.self.invariant.0
    (subst (λ (v : ReadingValue). AreFirst v.log.extents (v.log.size - 1) content) (sym c.self.view_is)
    (c.requires.reading tells).first)
    (subst (λ (v : ReadingValue). IsScanned v.log.extents (v.log.size - 1) content) (sym c.self.view_is)
    (c.requires.scanned tells))
    (subst (λ (v : ReadingValue). IsTrue log.whole ↔ IsClosedAt (log.size - 1) (s.content v.log.area)) c.self.view_is
    (c.in_ok-self-inside.ensures.whole tells))
