use Rattle.std.proofs.Common.{refl, sym, ◌∙◌}
use Rattle.std.proofs.lemmas.Bool.{false≢true}
use Rattle.member_rules.specs.Fields.{size}
use Rattle.member_rules.specs.HeadFields.{capacity}
use Rattle.member_rules.proofs.FieldLemmas.{stopped, narrow_absent, narrow_broken, narrow_found, size_one}
use Rattle.member_rules.proofs.RuledLemmas.{capacity_narrows}
use Rattle.member_rules.proofs.codec.head.read_capacity.Goals as goal

pub returns-in_err-capacity : goal.returns-in_err-capacity
returns-in_err-capacity c =
    stopped size _ capacity _ _ c.args.unread.now.rest.now _ _ c.in_err-capacity.ensures c.from_residual.ensures.1
    (narrow_absent size capacity capacity_narrows _)

pub returns-then-not-is_capacity : goal.returns-then-not-is_capacity
unfolding capacity
returns-then-not-is_capacity c = (
  refl,
  narrow_broken size capacity capacity_narrows size_one c.args.unread.now.rest.now _ _ c.in_ok-capacity.ensures
      (λ is. false≢true (sym c.if-not-is_capacity.true ∙ c.is_capacity.ensures.1 is)),
)

pub returns : goal.returns
unfolding capacity
returns c =
    narrow_found size capacity capacity_narrows c.args.unread.now.rest.now _ _ c.in_ok-capacity.ensures
    (c.is_capacity.ensures.0 c.if-not-is_capacity.false)
