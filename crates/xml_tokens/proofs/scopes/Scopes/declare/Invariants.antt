use Rattle.std.proofs.Common.{length}
use Rattle.xml_tokens.proofs.ScopeLemmas.{IsDeclaredFrom, last_of}
use Rattle.xml_tokens.proofs.scopes.Scopes.declare.Given as goal

abbrev pub invariant-loop-attribute : goal.invariant-loop-attribute
invariant-loop-attribute l = IsDeclaredFrom (last_of (length l.yielded) l.attributes) l.fn.self l.self
