use Rattle.std.proofs.Common.{◌-◌, length, refl, sym, subst}
use Rattle.std.specs.Prelude.{take}
use Rattle.feed_journal.specs.Records.{records, Begins}
use Rattle.feed_journal.proofs.CutLemmas.{gate_within, is_gate, lists_only, begins_kept, keeps_first}
use Rattle.feed_journal.proofs.ExtentLemmas.{follow_above}
use Rattle.feed_journal.proofs.frames.Frames.cut.Goals as goal

pub overflow_sub-size : goal.overflow_sub-size
overflow_sub-size g c = follow_above 0 c.args.kept.list c.args.size c.requires.rules.follow

pub write_gate-requires : goal.write_gate-requires
write_gate-requires g c = record {
  within = λ tells. gate_within c.args.self.now.extents c.args.kept.list c.args.size
      ((g.D.Disk.state c.args.disk.now).content c.args.self.now.area) c.requires.rules c.requires.first
      (c.requires.listed tells);
}

pub returns-in_err-write_gate-clause-moments : goal.returns-in_err-write_gate-clause-moments
returns-in_err-write_gate-clause-moments g c = λ tells.
    let s = g.D.Disk.state c.args.disk.now in
    let log = c.args.self.now in
    let kept = c.args.kept.list in
    keeps_first s (g.D.Disk.state c.write_gate.new.disk) log.area (take (length kept) (records (s.content log.area)))
    (c.args.size - 1)
    (is_gate log.extents kept c.args.size (s.content log.area) c.requires.rules c.requires.first
    (c.requires.listed tells)) c.write_gate.ensures.moments

pub returns-clause-kept : goal.returns-clause-kept
returns-clause-kept g c = λ tells.
    let s = g.D.Disk.state c.args.disk.now in
    let log = c.args.self.now in
    lists_only log.extents c.args.kept.list c.args.size (s.content log.area) c.requires.rules c.requires.first
    (c.requires.listed tells) ((g.D.Disk.state c.write_gate.new.disk).content log.area)
    (c.in_ok-write_gate.ensures.content tells) _ refl refl

pub returns-clause-moments : goal.returns-clause-moments
returns-clause-moments g c = λ tells.
    let s = g.D.Disk.state c.args.disk.now in
    let log = c.args.self.now in
    let kept = c.args.kept.list in
    keeps_first s (g.D.Disk.state c.write_gate.new.disk) log.area (take (length kept) (records (s.content log.area)))
    (c.args.size - 1)
    (is_gate log.extents kept c.args.size (s.content log.area) c.requires.rules c.requires.first
    (c.requires.listed tells)) c.write_gate.ensures.moments

pub returns-clause-rests : goal.returns-clause-rests
returns-clause-rests g c = λ tells starts i may.
    let s = g.D.Disk.state c.args.disk.now in
    let t = g.D.Disk.state c.write_gate.new.disk in
    let log = c.args.self.now in
    subst (Begins (take (length c.args.kept.list) (records (s.content log.area))))
    (sym (c.in_ok-write_gate.ensures.certain tells i may))
    (begins_kept log.extents c.args.kept.list c.args.size (s.content log.area) c.requires.rules c.requires.first
    (c.requires.listed tells) (t.content log.area) (c.in_ok-write_gate.ensures.content tells) starts)
