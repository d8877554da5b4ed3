use Rattle.std.proofs.Common.{[], ◌∷◌, refl, ap, length, arith}
use Rattle.std.proofs.lemmas.List.{length-append}
use Rattle.xml_tokens.proofs.ScopeLemmas.{leaves, leaving, restores}
use Rattle.xml_tokens.proofs.scopes.Scopes.leave.Goals as goal

pub loop-declaration-init : goal.loop-declaration-init
loop-declaration-init c = λ element opened are.
    leaving element opened c.args.self.now (record c.args.self.now { depth = c.saturating_sub-self.result }) refl
    c.saturating_sub-self.ensures are

pub loop-declaration-smaller : goal.loop-declaration-smaller
loop-declaration-smaller c =
    let middle = c.take_out.new.self.declared.items in
    let kept = ap (λ s. length s.declared.items) c.restore.ensures.kept in
    omega (arith, ap length c.in-Some.ensures.2, length-append middle (c.in-Some.declaration ∷ []), kept)

pub loop-declaration-preserved : goal.loop-declaration-preserved
loop-declaration-preserved c = λ element opened are.
    restores opened c.in-Some.declaration c.loop-declaration.self c.take_out.new.self c.restore.new.self c.in-Some.ensures
    c.restore.ensures.kept c.restore.ensures.restored (c.loop-declaration.invariant element opened are)

pub returns : goal.returns
returns c = λ element opened are.
    leaves opened c.loop-declaration.self c.take_out.new.self c.in_default.ensures
    (c.loop-declaration.invariant element opened are)
