-- What the table keeps of a member.
use Rattle.std.specs.Prelude.{ℤ, Option, Some, None}
use Rattle.member_rules.specs.declared.members.Member.{Member}
use Rattle.member_rules.specs.declared.members.Member.TheVariants.{Live, Gone}
use Rattle.member_rules.specs.declared.state.State.{State}
use Rattle.member_rules.specs.declared.state.State.TheVariants.{Live as IsLive, Gone as IsGone}

abbrev pub state_kept : Member → State
state_kept (Live version updated edited) = IsLive updated version
state_kept (Gone when) = IsGone when

abbrev pub edited_kept : Member → Option ℤ
edited_kept (Live version updated edited) = Some edited
edited_kept (Gone when) = None
