use Rattle.std.proofs.Common.{◌-◌, ◌≤◌, [], ◌∷◌, length, sym, ◌∙◌, ap, subst}
use Rattle.feed_disk.specs.Disk.{written}
use Rattle.feed_journal.specs.Log.{LogValue, KeepsLog}
use Rattle.feed_journal.specs.Records.{records, Begins}
use Rattle.feed_journal.proofs.CutLemmas.{all_within, all_gate, lists_all, begins_all, keeps_first, keeps_all}
use Rattle.feed_journal.proofs.ExtentLemmas.{follow_above}
use Rattle.feed_journal.proofs.frames.Frames.close.Goals as goal

pub overflow_sub-gate : goal.overflow_sub-gate
overflow_sub-gate g c = follow_above 0 c.self.inside.extents.list c.self.inside.size c.self.invariant.follow

pub write_gate-requires : goal.write_gate-requires
write_gate-requires g c = record {
  within = λ tells. subst (λ (v : LogValue). v.size - 1 ≤ length ((g.D.Disk.state c.args.disk.now).content c.args.self.now.area))
      (sym c.self.view_is)
      (all_within c.args.self.now.extents c.args.self.now.size
      ((g.D.Disk.state c.args.disk.now).content c.args.self.now.area)
      (subst (λ (v : LogValue). KeepsLog v.extents v.size) c.self.view_is c.self.invariant) (c.requires.listed tells));
}

pub returns-in_err-write_gate-clause-moments : goal.returns-in_err-write_gate-clause-moments
returns-in_err-write_gate-clause-moments g c = λ tells.
    let s = g.D.Disk.state c.args.disk.now in
    let log = c.args.self.now in
    let rules = subst (λ (v : LogValue). KeepsLog v.extents v.size) c.self.view_is c.self.invariant in
    keeps_first s (g.D.Disk.state c.write_gate.new.disk) log.area (records (s.content log.area)) (c.self.inside.size - 1)
    (ap (λ (v : LogValue). v.size - 1) c.self.view_is
    ∙ all_gate log.extents log.size (s.content log.area) rules (c.requires.listed tells)) c.write_gate.ensures.moments

pub returns-in_err-write_gate-clause-all : goal.returns-in_err-write_gate-clause-all
returns-in_err-write_gate-clause-all g c = λ tells.
    let s = g.D.Disk.state c.args.disk.now in
    let log = c.args.self.now in
    let rules = subst (λ (v : LogValue). KeepsLog v.extents v.size) c.self.view_is c.self.invariant in
    keeps_all s (g.D.Disk.state c.write_gate.new.disk) log.area (c.self.inside.size - 1)
    (ap (λ (v : LogValue). v.size - 1) c.self.view_is
    ∙ all_gate log.extents log.size (s.content log.area) rules (c.requires.listed tells)) c.write_gate.ensures.moments

pub returns-clause-kept : goal.returns-clause-kept
returns-clause-kept g c = λ tells.
    let s = g.D.Disk.state c.args.disk.now in
    let t = g.D.Disk.state c.write_gate.new.disk in
    let log = c.args.self.now in
    let rules = subst (λ (v : LogValue). KeepsLog v.extents v.size) c.self.view_is c.self.invariant in
    let same = c.self-2.view_is ∙ c.in_ok-write_gate.ensures.log in
    lists_all log.extents log.size (s.content log.area) rules (c.requires.listed tells) (t.content log.area)
    (c.in_ok-write_gate.ensures.content tells
    ∙ ap (λ (v : LogValue). written (s.content log.area) (v.size - 1) (0 ∷ [])) c.self.view_is) _
    (ap (λ (v : LogValue). v.extents) same) (ap (λ (v : LogValue). v.size) same)

pub returns-clause-moments : goal.returns-clause-moments
returns-clause-moments g c = λ tells.
    let s = g.D.Disk.state c.args.disk.now in
    let log = c.args.self.now in
    let rules = subst (λ (v : LogValue). KeepsLog v.extents v.size) c.self.view_is c.self.invariant in
    keeps_first s (g.D.Disk.state c.write_gate.new.disk) log.area (records (s.content log.area)) (c.self.inside.size - 1)
    (ap (λ (v : LogValue). v.size - 1) c.self.view_is
    ∙ all_gate log.extents log.size (s.content log.area) rules (c.requires.listed tells)) c.write_gate.ensures.moments

pub returns-clause-all : goal.returns-clause-all
returns-clause-all g c = λ tells.
    let s = g.D.Disk.state c.args.disk.now in
    let log = c.args.self.now in
    let rules = subst (λ (v : LogValue). KeepsLog v.extents v.size) c.self.view_is c.self.invariant in
    keeps_all s (g.D.Disk.state c.write_gate.new.disk) log.area (c.self.inside.size - 1)
    (ap (λ (v : LogValue). v.size - 1) c.self.view_is
    ∙ all_gate log.extents log.size (s.content log.area) rules (c.requires.listed tells)) c.write_gate.ensures.moments

pub returns-clause-rests : goal.returns-clause-rests
returns-clause-rests g c = λ tells starts i may.
    let s = g.D.Disk.state c.args.disk.now in
    let t = g.D.Disk.state c.write_gate.new.disk in
    let log = c.args.self.now in
    let rules = subst (λ (v : LogValue). KeepsLog v.extents v.size) c.self.view_is c.self.invariant in
    subst (Begins (records (s.content log.area))) (sym (c.in_ok-write_gate.ensures.certain tells i may))
    (begins_all log.extents log.size (s.content log.area) rules (c.requires.listed tells) (t.content log.area)
    (c.in_ok-write_gate.ensures.content tells
    ∙ ap (λ (v : LogValue). written (s.content log.area) (v.size - 1) (0 ∷ [])) c.self.view_is) starts)
