use Rattle.std.proofs.Common.{◌≡◌, true, drop}
use Rattle.chain_links.proofs.HostLemmas.{behind_host}
use Rattle.chain_links.proofs.front.after_host.Given as goal

abbrev pub invariant-loop-i : goal.invariant-loop-i
invariant-loop-i l = behind_host l.is_fresh (drop l.i l.text) ≡ behind_host true l.text
