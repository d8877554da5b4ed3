use Rattle.std.proofs.Common.{◌∙◌}
use Rattle.member_rules.specs.Member.{state_kept, edited_kept}
use Rattle.member_rules.proofs.MemberLemmas.{state_of-none, state_of-member}
use Rattle.member_rules.proofs.members.Members.state.Goals as goal

pub returns-in-None-clause-state : goal.returns-in-None-clause-state
returns-in-None-clause-state c = λ created history of.
    state_of-none c.args.self.now created history c.args.number of c.in-None.ensures

pub returns-in-Some-clause-state : goal.returns-in-Some-clause-state
returns-in-Some-clause-state c = λ created history of.
    c.state.ensures ∙ state_of-member c.args.self.now created history c.args.number of
    (state_kept c.in-Some.member) (edited_kept c.in-Some.member) c.in-Some.ensures
