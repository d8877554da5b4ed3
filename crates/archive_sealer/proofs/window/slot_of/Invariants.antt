use Rattle.std.proofs.Common.{◌≢◌}
use Rattle.std.specs.List.{AllWithin}
use Rattle.deleted_entries.specs.Item.{item_number}
use Rattle.archive_sealer.proofs.window.slot_of.Given as goal

abbrev pub invariant-loop-slot : goal.invariant-loop-slot
invariant-loop-slot l = AllWithin (λ item. item_number item ≢ l.number) l.items 0 l.slot
