use Rattle.std.proofs.Common.{◌≡◌, ◌++◌, take, flat_map}
use Rattle.discover_command.specs.Lines.{collection_line}
use Rattle.discover_command.proofs.lines.push_collections.Given as goal

abbrev pub invariant-loop-collection : goal.invariant-loop-collection
invariant-loop-collection l =
    l.out.items ≡ l.fn.out.items ++ flat_map collection_line (take l.collection-index l.collections)
