use Rattle.std.proofs.Common.{sym, ◌∙◌, arith}
use Rattle.xml_tokens.proofs.KeyLemmas.{apart_more, neighbors_here, no_key}
use Rattle.xml_tokens.proofs.tag.has_same_neighbors.Goals as goal

pub loop-next-preserved : goal.loop-next-preserved
loop-next-preserved c =
    apart_more c.args.keys.now c.loop-next.next no_key (omega arith) c.loop-next-test.true
    (sym c.eq.ensures ∙ c.if-eq.false) c.loop-next.invariant

pub returns-then-eq-clause-some : goal.returns-then-eq-clause-some
returns-then-eq-clause-some c = λ _.
    neighbors_here c.args.keys.now c.loop-next.next no_key (omega arith) c.loop-next-test.true
    (sym c.eq.ensures ∙ c.if-eq.true)
