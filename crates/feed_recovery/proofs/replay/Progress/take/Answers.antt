use Rattle.std.proofs.Common.{◌≡◌, ◌+◌, [], ◌∷◌, ◌++◌, ◌∙◌, ℕ, List, length, ap, subst, sym}
use Rattle.std.proofs.lemmas.Result.{err_from_is_err_and}
use Rattle.archive_sealer.proofs.FeedLemmas.{of_feed-room, of_feed-same}
use Rattle.archive_sealer.specs.Window.{WindowValue}
use Rattle.feed_journal.specs.declared.extent.Extent.{Extent}
use Rattle.feed_recovery.specs.Faults.{IsBadOperation}
use Rattle.feed_recovery.specs.Places.{ArePlaces, PlacesValue}
use Rattle.feed_recovery.specs.Refused.{RefusesRecord}
use Rattle.feed_recovery.proofs.HistoryLemmas.{lawful_more, table_spare}
use Rattle.feed_recovery.proofs.replay.Progress.take.Goals as goal
use Rattle.feed_recovery.proofs.replay.Progress.take.Goals.{In_ok-operation}
use Rattle.member_rules.specs.History.{IsLawful}
use Rattle.member_rules.specs.Table.{IsTableOf}
use Rattle.member_rules.specs.declared.operation.Op.{Op}

pub returns-in_err-operation-clause-refused : goal.returns-in_err-operation-clause-refused
returns-in_err-operation-clause-refused c =
    let head = c.args.head.now in
    let history = c.args.self.now.window.history in
    let table = table_spare c.args.self.now.members c.prepare.new.self head.created history c.requires.replayed.table
    c.prepare.ensures.same in
    let index : c.operations-index.result + 1 ≡ length history + 1 =
    ap (λ (n : ℕ). n + 1) (c.operations-index.ensures ∙ ap (λ (w : WindowValue). length w.history) c.prepare-2.ensures.same)
    in
    let fault = c.in_err-operation.field-0.0 in
    let refused = subst (λ (n : ℕ). RefusesRecord (IsBadOperation head history c.as_slice.result.now) n fault) index
    (c.in_err-operation.ensures.refused history table) in
    let returned = err_from_is_err_and c.from_residual-in_err-operation.result
    c.from_residual-in_err-operation.ensures.1 in
    rw (returned.1, returned.2)
    (subst (λ (l : List ℕ). RefusesRecord (IsBadOperation head history l) (length history + 1) fault)
    c.as_slice.ensures.value refused)

-- the table has the room that was made, and the operation may follow its history
table : (c : In_ok-operation) → IsTableOf c.prepare.new.self c.args.head.now.created c.args.self.now.window.history
table c = table_spare c.args.self.now.members c.prepare.new.self c.args.head.now.created c.args.self.now.window.history
    c.requires.replayed.table c.prepare.ensures.same

pub commit-requires-clause-follows : goal.commit-requires-clause-follows
commit-requires-clause-follows c =
    let created = c.args.head.now.created in
    let history = c.args.self.now.window.history in
    record {
      created = created;
      history = history;
      count = ap (λ (v : PlacesValue). length v.extents) c.prepare-3.ensures.same ∙ c.requires.placed;
      following = c.requires.replayed.lawful.following;
      follows = c.in_ok-operation.ensures.follows created history
          (table (goal.at.commit-requires-clause-follows c).In_ok-operation);
    }

pub commit-requires-2-clause-follows : goal.commit-requires-2-clause-follows
commit-requires-2-clause-follows c =
    let created = c.args.head.now.created in
    let history = c.args.self.now.window.history in
    let of = table (goal.at.commit-requires-2-clause-follows c).In_ok-operation in
    record {
      created = created;
      history = history;
      table_of = of;
      follows = c.in_ok-operation.ensures.follows created history of;
    }

pub returns-clause-replayed : goal.returns-clause-replayed
returns-clause-replayed c =
    let before = c.requires.replayed in
    let head = c.args.head.now in
    let history = c.args.self.now.window.history in
    let operation = c.in_ok-operation.operation in
    let found = c.in_ok-operation.ensures in
    let of = table (goal.at.returns-clause-replayed c).In_ok-operation in
    let added : c.commit-3.new.self.history ≡ history ++ operation ∷ [] = c.commit-3.ensures.history
    ∙ ap (λ (w : WindowValue). w.history ++ operation ∷ []) c.prepare-2.ensures.same in
    record {
      is_head = before.is_head;
      lawful = subst (IsLawful head) (sym added)
          (lawful_more head history operation before.lawful c.requires.few (found.follows head.created history of)
          found.rules.1 found.rules.0);
      of_feed = of_feed-same head c.prepare-2.new.self c.commit-3.new.self c.commit-3.ensures.first c.commit-3.ensures.title
          (of_feed-room head c.args.self.now.window c.prepare-2.new.self c.prepare-2.ensures.same before.of_feed);
      table = subst (IsTableOf c.commit-2.new.self head.created) (sym added)
          (c.commit-2.ensures.table head.created history of);
    }

pub returns-clause-taken : goal.returns-clause-taken
returns-clause-taken c =
    let operation = c.in_ok-operation.operation in
    record {
      operation = operation;
      history = c.commit-3.ensures.history
          ∙ ap (λ (w : WindowValue). w.history ++ operation ∷ []) c.prepare-2.ensures.same;
      rules = c.in_ok-operation.ensures.rules.0;
      bytes = sym c.as_slice.ensures.value ∙ c.in_ok-operation.ensures.bytes;
    }

pub returns-clause-places : goal.returns-clause-places
returns-clause-places c = λ journal placed count.
    let created = c.args.head.now.created in
    let history = c.args.self.now.window.history in
    let operation = c.in_ok-operation.operation in
    let of = table (goal.at.returns-clause-places c).In_ok-operation in
    let added : c.commit-3.new.self.history ≡ history ++ operation ∷ [] = c.commit-3.ensures.history
    ∙ ap (λ (w : WindowValue). w.history ++ operation ∷ []) c.prepare-2.ensures.same in
    let still : ArePlaces c.prepare-3.new.self.extents history journal =
    subst (λ (l : List Extent). ArePlaces l history journal)
    (sym (ap (λ (v : PlacesValue). v.extents) c.prepare-3.ensures.same)) placed in
    subst (λ (l : List Op). ArePlaces c.commit.new.self.extents l (journal ++ c.args.frame.now.extent ∷ [])) (sym added)
    (c.commit.ensures.places created history journal still c.requires.replayed.lawful.following
    (c.in_ok-operation.ensures.follows created history of) count)
