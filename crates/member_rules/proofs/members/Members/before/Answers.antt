use Rattle.std.proofs.Common.{◌≡◌, ◌⊎◌, inl, inr, ◌<◌, length, vec_len, sym, ap, rules, arith}
use Rattle.std.proofs.lemmas.List.{length-map}
use Rattle.member_rules.specs.Fold.{made}
use Rattle.member_rules.specs.Member.{state_kept}
use Rattle.member_rules.specs.Recent.{recent_members}
use Rattle.member_rules.specs.Table.{Table}
use Rattle.member_rules.proofs.RecentLemmas.{older_than-outside, recent-made}
use Rattle.member_rules.proofs.members.Members.before.Goals as goal
use Rattle.member_rules.proofs.members.Members.before.Goals.{then-number-eq0-via-then-number-eq0}
use Rattle.member_rules.proofs.members.Members.before.Goals.{then-number-eq0-via-else-number-eq0+then-number-len}

pub returns-then-number-eq0 : goal.returns-then-number-eq0
returns-then-number-eq0 c = λ created history of.
    let items = c.self.inside.members.items in
    let size = ap (λ (t : Table). length t.states) c.self.view_is in
    let same = length-map items state_kept in
    let len : vec_len c.self.inside.members ≡ length items = search rules in
    let outside : (c.args.number ≡ 0) ⊎ (made history < c.args.number) = elim c.then-number-eq0.branch [
      | then-number-eq0-via-then-number-eq0 w ↦ inl w.if-number-eq0.true
      | then-number-eq0-via-else-number-eq0+then-number-len w ↦ inr (omega (arith, of.count))
    ] in
    sym (older_than-outside c.args.number (made history) (recent_members history)
    (recent-made created history of.following) outside)

pub older-requires : goal.older-requires
older-requires c = c.self.invariant.1.listed c.args.number (omega arith) (omega arith)
