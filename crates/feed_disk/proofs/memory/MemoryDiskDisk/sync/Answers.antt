use Rattle.std.proofs.Common.{◌∙◌, ap}
use Rattle.feed_disk.specs.Memory.{MemoryValue}
use Rattle.feed_disk.specs.declared.change.Change.TheVariants.{Sync}
use Rattle.feed_disk.proofs.CallLemmas.{passes_by_all, passes_sync, certain_sync, others_pass, made_recorded}
use Rattle.feed_disk.proofs.CallLemmas.{areas_recorded, made_failed, areas_failed}
use Rattle.feed_disk.proofs.memory.MemoryDiskDisk.sync.Goals as goal

pub returns-then-count_call-clause-area : goal.returns-then-count_call-clause-area
returns-then-count_call-clause-area c =
    let call = c.count_call.ensures in
    (passes_by_all c.args.self.now c.count_call.new.self call.rules call.made call.areas c.args.area).passes

pub returns-then-count_call-clause-others : goal.returns-then-count_call-clause-others
returns-then-count_call-clause-others c = λ a _.
    let call = c.count_call.ensures in
    passes_by_all c.args.self.now c.count_call.new.self call.rules call.made call.areas a

pub returns-in-Ok-clause-certain : goal.returns-in-Ok-clause-certain
returns-in-Ok-clause-certain c = λ _.
    let m = c.args.self.now in
    let b = c.count_call.new.self in
    let n = c.record_sync.new.self in
    let call = c.count_call.ensures in
    certain_sync m n call.rules (made_recorded m b n call.made call.areas c.args.area Sync c.in-Ok.ensures.ok)
    c.args.area
    (areas_recorded m b n call.made call.areas c.args.area Sync c.in-Ok.ensures.ok)

pub returns-in-Ok-clause-area : goal.returns-in-Ok-clause-area
returns-in-Ok-clause-area c =
    let m = c.args.self.now in
    let b = c.count_call.new.self in
    let n = c.record_sync.new.self in
    let call = c.count_call.ensures in
    passes_sync m n call.rules (made_recorded m b n call.made call.areas c.args.area Sync c.in-Ok.ensures.ok)
    c.args.area
    (areas_recorded m b n call.made call.areas c.args.area Sync c.in-Ok.ensures.ok)

pub returns-in-Ok-clause-others : goal.returns-in-Ok-clause-others
returns-in-Ok-clause-others c =
    let m = c.args.self.now in
    let b = c.count_call.new.self in
    let n = c.record_sync.new.self in
    let call = c.count_call.ensures in
    others_pass m n call.rules (made_recorded m b n call.made call.areas c.args.area Sync c.in-Ok.ensures.ok)
    c.args.area
    (Sync n.calls.made) (areas_recorded m b n call.made call.areas c.args.area Sync c.in-Ok.ensures.ok)

pub returns-in-Err-clause-area : goal.returns-in-Err-clause-area
returns-in-Err-clause-area c =
    let m = c.args.self.now in
    let b = c.record_sync.new.self in
    let n = c.fail.new.self in
    let made = ap (λ (v : MemoryValue). v.calls.made) c.in-Err.ensures.err ∙ c.count_call.ensures.made in
    let areas = ap (λ (v : MemoryValue). v.areas) c.in-Err.ensures.err ∙ c.count_call.ensures.areas in
    (passes_by_all m n c.count_call.ensures.rules (made_failed m b n made areas c.fail.ensures)
    (areas_failed m b n made areas c.fail.ensures) c.args.area).passes

pub returns-in-Err-clause-others : goal.returns-in-Err-clause-others
returns-in-Err-clause-others c = λ a _.
    let m = c.args.self.now in
    let b = c.record_sync.new.self in
    let n = c.fail.new.self in
    let made = ap (λ (v : MemoryValue). v.calls.made) c.in-Err.ensures.err ∙ c.count_call.ensures.made in
    let areas = ap (λ (v : MemoryValue). v.areas) c.in-Err.ensures.err ∙ c.count_call.ensures.areas in
    passes_by_all m n c.count_call.ensures.rules (made_failed m b n made areas c.fail.ensures)
    (areas_failed m b n made areas c.fail.ensures) a
