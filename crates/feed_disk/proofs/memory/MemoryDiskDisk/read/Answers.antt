use Rattle.std.proofs.Common.{◌∙◌, ap}
use Rattle.feed_disk.specs.Memory.{MemoryValue}
use Rattle.feed_disk.proofs.CallLemmas.{passes_by_all, counts_failed}
use Rattle.feed_disk.proofs.memory.MemoryDiskDisk.read.Goals as goal

pub returns-then-count_call-clause-areas : goal.returns-then-count_call-clause-areas
returns-then-count_call-clause-areas c =
    passes_by_all c.args.self.now c.count_call.new.self c.count_call.ensures.rules c.count_call.ensures.made
    c.count_call.ensures.areas

pub returns-then-count_call-clause-counts : goal.returns-then-count_call-clause-counts
returns-then-count_call-clause-counts c =
    counts_failed c.args.self.now c.count_call.new.self _ c.count_call.ensures.rules c.count_call.ensures.made
    (ap (λ (m : MemoryValue). m.calls.faults) (c.count_call.ensures.failed c.if-count_call.true))

pub returns-clause-areas : goal.returns-clause-areas
returns-clause-areas c =
    let n : MemoryValue = record {
      areas = c.self.inside.areas;
      calls = c.self.inside.calls;
      bytes_read = c.saturating_add-self-inside.result;
      starved = c.self.inside.starved;
    } in
    passes_by_all c.args.self.now n c.count_call.ensures.rules
    (ap (λ (m : MemoryValue). m.calls.made) c.self.view_is ∙ c.count_call.ensures.made)
    (ap (λ (m : MemoryValue). m.areas) c.self.view_is ∙ c.count_call.ensures.areas)
