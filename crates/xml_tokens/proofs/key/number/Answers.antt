use Rattle.xml_tokens.proofs.KeyLemmas.{number_ends, number_more}
use Rattle.xml_tokens.proofs.key.number.Goals as goal

pub loop-byte-preserved : goal.loop-byte-preserved
loop-byte-preserved c =
    number_more c.args.name.now c.loop-byte.byte-index c.loop-byte.number c.from.result c.loop-byte-test.true c.from.ensures
    c.loop-byte.invariant

pub returns : goal.returns
returns c =
    number_ends c.args.name.now c.loop-byte.byte-index c.loop-byte.number c.loop-byte-test.false c.loop-byte.invariant
