use Rattle.std.proofs.Common.{sym, subst}
use Rattle.feed_disk.specs.Memory.{MemoryValue}
use Rattle.feed_life.specs.StoreFetch.{StoreFetchValue}
use Rattle.feed_life.specs.Walks.{HasDocuments}
use Rattle.feed_life.proofs.CrashLemmas.{crash-settled}
use Rattle.feed_life.proofs.WalkedLemmas.{store-still}
use Rattle.feed_life.proofs.walks.documents_of.Goals as goal

pub returns-clause-documents : goal.returns-clause-documents
returns-clause-documents c head history is_store =
    let copied = crash-settled head history c.args.store_disk.now c.in_ok-copy.copy is_store.settled
    c.in_ok-copy.ensures.copy in
    let loaded = (c.in-Ok.ensures.opened head history copied).loaded in
    subst (λ (f : StoreFetchValue MemoryValue). HasDocuments head history f) (sym c.new.ensures) record {
      is_head = is_store.opens.is_journal.is_head;
      lawful = is_store.opens.is_journal.lawful;
      head_is = loaded.head_is;
      history_is = loaded.history_is;
    }

pub returns-clause-store : goal.returns-clause-store
returns-clause-store c head history is_store =
    store-still head history c.args.store_disk.now c.copy_of.new.disk c.in_ok-copy.ensures.same is_store
