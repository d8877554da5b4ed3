use Rattle.std.proofs.Common.{sym, subst}
use Rattle.member_rules.proofs.TableLemmas.{IsTableOf-with_room}
use Rattle.member_rules.specs.Table.{IsTableOf}
use Rattle.store_tests.specs.declared.grown.Feed.{Feed}
use Rattle.store_tests.proofs.grown.apply.Goals as goal

pub commit-requires-clause-follows : goal.commit-requires-clause-follows
commit-requires-clause-follows g c =
    let held = subst (λ (f : Feed). IsTableOf f.members f.head.created f.history.items) (sym c.feed.view_is) c.requires
    in
    let table = IsTableOf-with_room _ c.prepare.new.self _ _ c.prepare.ensures.same held in
    let decided = rw c.expect-operation.ensures at c.decide.ensures.follows in
    record {
      created = _;
      history = _;
      table_of = table;
      follows = decided _ _ table;
    }

pub returns : goal.returns
returns g c =
    let held = subst (λ (f : Feed). IsTableOf f.members f.head.created f.history.items) (sym c.feed.view_is) c.requires
    in
    let table = IsTableOf-with_room _ c.prepare.new.self _ _ c.prepare.ensures.same held in
    let pushed = rw c.expect-2.ensures at c.push.ensures.items in
    subst (IsTableOf c.commit.new.self c.feed.inside.0.0.created) (sym pushed) (c.commit.ensures.table _ _ table)
