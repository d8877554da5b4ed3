use Rattle.std.proofs.Common.{refl, arith}
use Rattle.xml_tokens.proofs.FirstLemmas.{first_at}
use Rattle.xml_tokens.proofs.elements.Elements.of_text.Goals as goal

pub returns-clause-at : goal.returns-clause-at
returns-clause-at c =
    let small = c.ranges.most in
    first_at c.args.most c.args.input.now c.args.xml_length _ c.requires.within c.requires.text c.requires.behind
    refl (c.requires.most, omega arith) refl refl c.new.ensures.items c.new-2.ensures refl refl c.without_mark.ensures
