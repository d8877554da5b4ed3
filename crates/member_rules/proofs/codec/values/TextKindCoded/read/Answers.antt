use Rattle.std.proofs.Common.{refl, arith}
use Rattle.atom_values.specs.declared.text.TextKind.TheVariants.{Plain, Html}
use Rattle.member_rules.specs.Fields.{byte, kind}
use Rattle.member_rules.proofs.FieldLemmas.{stopped, kind_absent, kind_past, kind_found}
use Rattle.member_rules.proofs.codec.values.TextKindCoded.read.Goals as goal

pub returns-in_err-byte : goal.returns-in_err-byte
returns-in_err-byte c =
    stopped byte _ kind _ _ c.args.unread.now.rest.now _ _ c.in_err-byte.ensures c.from_residual.ensures.1
    (kind_absent _)

pub returns-in_default : goal.returns-in_default
returns-in_default c = (refl, kind_past c.args.unread.now.rest.now _ _ c.in_ok-byte.ensures (omega arith) (omega arith))

pub returns-in-0 : goal.returns-in-0
returns-in-0 c = kind_found c.args.unread.now.rest.now _ _ Plain c.in_ok-byte.ensures c.in-0.is

pub returns-in-1 : goal.returns-in-1
returns-in-1 c = kind_found c.args.unread.now.rest.now _ _ Html c.in_ok-byte.ensures c.in-1.is
