use Rattle.std.proofs.Common.{arith, ◌∙◌}
use Rattle.atom_values.proofs.DateFormLemmas.{has_form_all, has_form_not}
use Rattle.atom_values.proofs.stamp.has_form.Goals as goal

pub returns-then-shape_of-form : goal.returns-then-shape_of-form
returns-then-shape_of-form c = has_form_not c.args.text.now c.args.form.now c.loop-i.i c.loop-i-test.true
    (λ e. c.if-shape_of-form.true (c.shape_of.ensures ∙ e))

pub returns : goal.returns
returns c = has_form_all c.args.text.now c.args.form.now (omega arith) (λ k h. c.loop-i.invariant k (omega arith))
