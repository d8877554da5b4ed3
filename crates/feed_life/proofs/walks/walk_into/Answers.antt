use Rattle.std.proofs.lemmas.Result.{IfOk-weaker}
use Rattle.feed_life.proofs.WalkedLemmas.{on-ok-of}
use Rattle.feed_life.proofs.walks.walk_into.Goals as goal

pub returns-clause-walked : goal.returns-clause-walked
returns-clause-walked c =
    IfOk-weaker c.walk_into_by-left.result _ _ (λ left walked history kept is_store is_mirror. walked history kept
    (c.in_ok-documents.ensures.documents c.args.head.now history is_store) is_mirror) c.walk_into_by-left.ensures

pub returns-clause-store : goal.returns-clause-store
returns-clause-store c =
    on-ok-of c.walk_into_by-left.result _ (λ history is_store.
    c.in_ok-documents.ensures.store c.args.head.now history is_store)
