use Rattle.std.proofs.Common.{◌∙◌}
use Rattle.member_rules.proofs.MemberLemmas.{edited-none, edited-member}
use Rattle.member_rules.proofs.members.Members.edited.Goals as goal

pub returns-in_err-member : goal.returns-in_err-member
returns-in_err-member c = λ created history of.
    c.from_residual.ensures ∙ edited-none c.args.self.now created history c.args.number of c.in_err-member.ensures

pub returns : goal.returns
returns c = λ created history of.
    c.edited.ensures ∙ edited-member c.args.self.now created history c.args.number of c.in_ok-member.field-0
    c.in_ok-member.ensures
