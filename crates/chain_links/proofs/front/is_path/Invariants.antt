use Rattle.std.proofs.Common.{◌≡◌, true, drop}
use Rattle.chain_links.proofs.PathLemmas.{is_behind}
use Rattle.chain_links.proofs.front.is_path.Given as goal

abbrev pub invariant-loop-byte : goal.invariant-loop-byte
invariant-loop-byte l = is_behind l.is_closed (drop l.byte-index l.segments) ≡ is_behind true l.segments
