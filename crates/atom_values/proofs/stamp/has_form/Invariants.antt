use Rattle.std.proofs.Common.{◌≡◌, ℕ, ◌<◌, get_or}
use Rattle.atom_values.specs.DateFormula.{shape_of}
use Rattle.atom_values.proofs.stamp.has_form.Given as goal

abbrev pub invariant-loop-i : goal.invariant-loop-i
invariant-loop-i l = (k : ℕ) → k < l.i → shape_of (get_or l.text k 0) ≡ get_or l.form k 0
