use Rattle.std.proofs.Common.{refl, arith}
use Rattle.member_rules.specs.Fields.{byte, optional}
use Rattle.member_rules.proofs.FieldLemmas.{stopped, optional_absent, optional_past, optional_stuck, optional_none, optional_some}
use Rattle.member_rules.proofs.codec.coded.OptionCoded.read.Goals as goal

pub returns-in_err-byte : goal.returns-in_err-byte
returns-in_err-byte g c =
    let field = g.T.Coded.field in
    stopped byte _ (optional field) _ _ c.args.unread.now.rest.now _ _ c.in_err-byte.ensures c.from_residual.ensures.1
    (optional_absent field _)

pub returns-in-0 : goal.returns-in-0
returns-in-0 g c = optional_none g.T.Coded.field c.args.unread.now.rest.now _ _ c.in_ok-byte.ensures c.in-0.is

pub returns-in_err-value-in-1 : goal.returns-in_err-value-in-1
returns-in_err-value-in-1 g c =
    let field = g.T.Coded.field in
    stopped field _ (optional field) _ _ c.args.unread.now.rest.now _ _ c.in_err-value-in-1.ensures
    c.from_residual-in_err-value-in-1.ensures.1
    (optional_stuck field _ _ _ c.in_ok-byte.ensures c.in-1.is)

pub returns-in_ok-value-in-1 : goal.returns-in_ok-value-in-1
returns-in_ok-value-in-1 g c =
    optional_some g.T.Coded.field c.args.unread.now.rest.now _ _ _ _ c.in_ok-byte.ensures c.in-1.is
    c.in_ok-value-in-1.ensures

pub returns-in_default : goal.returns-in_default
returns-in_default g c = (
  refl,
  optional_past g.T.Coded.field c.args.unread.now.rest.now _ _ c.in_ok-byte.ensures (omega arith)
      (omega arith),
)
