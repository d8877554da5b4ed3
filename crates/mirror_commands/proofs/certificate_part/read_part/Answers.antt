use Rattle.std.proofs.Common.{◌≡◌, ◌∷◌, [], ℕ, Option, length, subst, arith}
use Rattle.std.specs.Prelude.{IfNone, IfSome}
use Rattle.mirror_commands.specs.Audit.{audit_limit}
use Rattle.mirror_commands.proofs.PartLemmas.{part-ends, part-long, part-stops}
use Rattle.mirror_commands.proofs.certificate_part.read_part.Goals as goal

pub returns-in_err-byte-clause-within : goal.returns-in_err-byte-clause-within
returns-in_err-byte-clause-within g c = λ is observable.
    let h = c.loop-text.invariant in
    part-stops (g.I.Source.state c.args.input.now) (g.I.Source.state c.loop-text.input)
    (g.I.Source.state c.read_byte.new.input) c.loop-text.text.items c.loop-text.start h.amid h.within (h.left observable)
    (c.in_err-byte.ensures.err observable)

pub returns-in_default-clause-part : goal.returns-in_default-clause-part
returns-in_default-clause-part g c = λ observable.
    let h = c.loop-text.invariant in
    let now = g.I.Source.state c.loop-text.input in
    let after = g.I.Source.state c.read_byte.new.input in
    let none = subst (λ (o : Option ℕ). IfNone o (g.I.Source.observable → (now.left ≡ []) × (after.left ≡ [])))
    c.in_default.is c.in_ok-byte.ensures.none observable in
    part-ends (g.I.Source.state c.args.input.now) now after c.loop-text.text.items c.loop-text.start h.amid h.within
    (h.left observable) none.0 none.1

pub returns-then-len-eq-AUDIT_LIMIT-clause-past : goal.returns-then-len-eq-AUDIT_LIMIT-clause-past
returns-then-len-eq-AUDIT_LIMIT-clause-past g c = λ is observable.
    let h = c.loop-text.invariant in
    let now = g.I.Source.state c.loop-text.input in
    let after = g.I.Source.state c.read_byte.new.input in
    let more = subst (λ (o : Option ℕ). IfSome o (λ byte. g.I.Source.observable → now.left ≡ byte ∷ after.left))
    c.in-Some.is c.in_ok-byte.ensures.some observable in
    let full : length c.loop-text.text.items ≡ audit_limit =
    omega (arith, c.if-len-eq-AUDIT_LIMIT.true, c.len.ensures, c.loop-text.text.ok.0) in
    part-long (g.I.Source.state c.args.input.now) now after c.loop-text.text.items c.loop-text.start h.amid h.within
    (h.left observable) c.in-Some.byte more full
