use Rattle.std.proofs.Common.{◌≡◌, ◌<◌, ◌^◌, drop}
use Rattle.chain_links.proofs.NumberLemmas.{number_after}
use Rattle.chain_links.proofs.front.number.Given as goal

abbrev pub invariant-loop-i : goal.invariant-loop-i
invariant-loop-i l = record {
  fits : l.value < 2 ^ 32;
  walk : number_after l.value (drop l.i l.text) ≡ number_after 0 l.text;
}
