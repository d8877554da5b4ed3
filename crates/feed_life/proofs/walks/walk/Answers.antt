use Rattle.std.proofs.lemmas.Result.{on_ok_weaker}
use Rattle.feed_life.proofs.walks.walk.Goals as goal

pub returns-clause-walked : goal.returns-clause-walked
returns-clause-walked c =
    on_ok_weaker c.walk_by-walked.result (λ walked history kept is_store is_mirror. walked history kept
    (c.in_ok-documents.ensures.documents c.args.head.now history is_store) is_mirror) c.walk_by-walked.ensures

pub returns-clause-store : goal.returns-clause-store
returns-clause-store c =
    on_ok_weaker c.walk_by-walked.result (λ walked history is_store.
    c.in_ok-documents.ensures.store c.args.head.now history is_store) c.walk_by-walked.ensures
