use Rattle.std.proofs.Common.{length, refl}
use Rattle.std.proofs.lemmas.Iterator.Adapters.{YieldsList-from_rev_slice}
use Rattle.std.proofs.lemmas.Iterator.Consumers.{YieldsList-turn, YieldsList-end}
use Rattle.std.proofs.lemmas.List.{length_push}
use Rattle.xml_tokens.proofs.ScopeLemmas.{none_yet, one_more, opens}
use Rattle.xml_tokens.proofs.scopes.Scopes.declare.Goals as goal

pub loop-attribute-init : goal.loop-attribute-init
loop-attribute-init c = none_yet c.args.self.now

pub loop-attribute-preserved : goal.loop-attribute-preserved
loop-attribute-preserved c =
    let turn = YieldsList-turn (YieldsList-from_rev_slice c.args.attributes.now cc) c.loop-attribute.yielded _
    c.loop-attribute.yielded_by _ _ c.in-Some.attribute c.in-Some.is c.next.ensures.steps in
    rw (length_push c.loop-attribute.yielded c.in-Some.attribute)
    (one_more c.args.attributes.now (length c.loop-attribute.yielded) c.in-Some.attribute.now c.args.self.now
    c.loop-attribute.self c.add.new.self turn.0 turn.1 c.loop-attribute.invariant c.in_ok-add.ensures)

pub returns : goal.returns
returns c =
    let end = YieldsList-end (YieldsList-from_rev_slice c.args.attributes.now cc) c.loop-attribute.yielded _
    c.loop-attribute.yielded_by _ _ c.in-None.is c.next.ensures.steps in
    opens c.args.attributes.now (length c.loop-attribute.yielded) c.args.self.now c.loop-attribute.self
    (record c.loop-attribute.self { depth = c.in-Some-checked_add.depth }) end.1 c.loop-attribute.invariant refl
    c.in-Some-checked_add.ensures.1
