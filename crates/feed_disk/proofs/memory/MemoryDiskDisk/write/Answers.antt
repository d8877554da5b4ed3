use Rattle.std.proofs.Common.{ℕ, ◌∙◌, ⊎_elim, ap, length}
use Rattle.feed_disk.specs.Memory.{MemoryValue}
use Rattle.feed_disk.specs.declared.change.Change.TheVariants.{Write, FailedWrite}
use Rattle.feed_disk.proofs.CallLemmas.{passes_by_all, passes_write, passes_failed_write, passes_unwritten, others_pass}
use Rattle.feed_disk.proofs.CallLemmas.{written_is_torn, made_recorded, areas_recorded, made_failed, areas_failed}
use Rattle.feed_disk.proofs.memory.MemoryDiskDisk.write.Goals as goal

-- a listed call records its write, or nothing if memory runs out
pub returns-then-count_call-clause-area : goal.returns-then-count_call-clause-area
returns-then-count_call-clause-area c =
    let m = c.args.self.now in
    let b = c.count_call.new.self in
    let n = c.record_failed_write.new.self in
    let call = c.count_call.ensures in
    let change = λ (number : ℕ). FailedWrite number c.args.at c.args.from.now in
    ⊎_elim
    (λ is. passes_unwritten m n call.rules (ap (λ (v : MemoryValue). v.calls.made) is ∙ call.made) c.args.area
    (ap (λ (v : MemoryValue). v.areas) is ∙ call.areas) c.args.at (length c.args.from.now))
    (λ is. passes_failed_write m n call.rules (made_recorded m b n call.made call.areas c.args.area change is)
    c.args.area
    c.args.at c.args.from.now (c.requires tt) (areas_recorded m b n call.made call.areas c.args.area change is))
    c.record_failed_write.ensures

pub returns-then-count_call-clause-others : goal.returns-then-count_call-clause-others
returns-then-count_call-clause-others c = λ a other.
    let m = c.args.self.now in
    let b = c.count_call.new.self in
    let n = c.record_failed_write.new.self in
    let call = c.count_call.ensures in
    let change = λ (number : ℕ). FailedWrite number c.args.at c.args.from.now in
    ⊎_elim
    (λ is. passes_by_all m n call.rules (ap (λ (v : MemoryValue). v.calls.made) is ∙ call.made)
    (ap (λ (v : MemoryValue). v.areas) is ∙ call.areas) a)
    (λ is. others_pass m n call.rules (made_recorded m b n call.made call.areas c.args.area change is) c.args.area
    (change n.calls.made) (areas_recorded m b n call.made call.areas c.args.area change is) a other)
    c.record_failed_write.ensures

pub returns-in-Ok-clause-area : goal.returns-in-Ok-clause-area
returns-in-Ok-clause-area c =
    let m = c.args.self.now in
    let b = c.count_call.new.self in
    let n = c.record_write.new.self in
    let call = c.count_call.ensures in
    let change = λ (number : ℕ). Write number c.args.at c.args.from.now in
    passes_write m n call.rules (made_recorded m b n call.made call.areas c.args.area change c.in-Ok.ensures.ok)
    c.args.area
    c.args.at c.args.from.now (c.requires tt)
    (areas_recorded m b n call.made call.areas c.args.area change c.in-Ok.ensures.ok)

pub returns-in-Ok-clause-torn : goal.returns-in-Ok-clause-torn
returns-in-Ok-clause-torn c = λ _.
    let m = c.args.self.now in
    let b = c.count_call.new.self in
    let n = c.record_write.new.self in
    let call = c.count_call.ensures in
    let change = λ (number : ℕ). Write number c.args.at c.args.from.now in
    written_is_torn m n call.rules (made_recorded m b n call.made call.areas c.args.area change c.in-Ok.ensures.ok)
    c.args.area
    c.args.at c.args.from.now (c.requires tt)
    (areas_recorded m b n call.made call.areas c.args.area change c.in-Ok.ensures.ok)

pub returns-in-Ok-clause-others : goal.returns-in-Ok-clause-others
returns-in-Ok-clause-others c =
    let m = c.args.self.now in
    let b = c.count_call.new.self in
    let n = c.record_write.new.self in
    let call = c.count_call.ensures in
    let change = λ (number : ℕ). Write number c.args.at c.args.from.now in
    others_pass m n call.rules (made_recorded m b n call.made call.areas c.args.area change c.in-Ok.ensures.ok)
    c.args.area
    (change n.calls.made) (areas_recorded m b n call.made call.areas c.args.area change c.in-Ok.ensures.ok)

pub returns-in-Err-clause-area : goal.returns-in-Err-clause-area
returns-in-Err-clause-area c =
    let m = c.args.self.now in
    let b = c.record_write.new.self in
    let n = c.fail.new.self in
    let made = ap (λ (v : MemoryValue). v.calls.made) c.in-Err.ensures.err ∙ c.count_call.ensures.made in
    let areas = ap (λ (v : MemoryValue). v.areas) c.in-Err.ensures.err ∙ c.count_call.ensures.areas in
    passes_unwritten m n c.count_call.ensures.rules (made_failed m b n made areas c.fail.ensures) c.args.area
    (areas_failed m b n made areas c.fail.ensures) c.args.at (length c.args.from.now)

pub returns-in-Err-clause-others : goal.returns-in-Err-clause-others
returns-in-Err-clause-others c = λ a _.
    let m = c.args.self.now in
    let b = c.record_write.new.self in
    let n = c.fail.new.self in
    let made = ap (λ (v : MemoryValue). v.calls.made) c.in-Err.ensures.err ∙ c.count_call.ensures.made in
    let areas = ap (λ (v : MemoryValue). v.areas) c.in-Err.ensures.err ∙ c.count_call.ensures.areas in
    passes_by_all m n c.count_call.ensures.rules (made_failed m b n made areas c.fail.ensures)
    (areas_failed m b n made areas c.fail.ensures) a
