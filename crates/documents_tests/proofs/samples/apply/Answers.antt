use Rattle.std.proofs.Common.{◌≡◌, ◌++◌, ◌∷◌, [], pos, sym, subst}
use Rattle.member_rules.specs.Table.{IsTableOf}
use Rattle.member_rules.proofs.TableLemmas.{IsTableOf-with_room}
use Rattle.documents_tests.proofs.samples.apply.Goals as goal

pub commit-requires-clause-follows : goal.commit-requires-clause-follows
commit-requires-clause-follows g c =
    let history = c.args.feed.now.history.items in
    let table = IsTableOf-with_room c.args.feed.now.members c.prepare.new.self (pos 0) history c.prepare.ensures.same
    c.requires in
    record {
      created = pos 0;
      history = history;
      table_of = table;
      follows = c.in-Ok.ensures.follows (pos 0) history table;
    }

pub returns-in-Ok : goal.returns-in-Ok
returns-in-Ok g c =
    let history = c.args.feed.now.history.items in
    let table = IsTableOf-with_room c.args.feed.now.members c.prepare.new.self (pos 0) history c.prepare.ensures.same
    c.requires in
    let pushed : c.push.new.self.items ≡ history ++ c.in-Ok.operation ∷ [] =
    rw c.expect-in-Ok.ensures at c.push.ensures.items in
    subst (IsTableOf c.commit.new.self (pos 0)) (sym pushed) (c.commit.ensures.table (pos 0) history table)
