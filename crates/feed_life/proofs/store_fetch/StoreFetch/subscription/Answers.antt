use Rattle.std.proofs.Common.{◌≡◌, false, length, vec_len, ap, ◌∙◌, refl, arith}
use Rattle.doc_source.specs.Pile.{offer_limit}
use Rattle.feed_disk.proofs.MomentLemmas.{alone_begins}
use Rattle.feed_recovery.specs.Store.{is_spent}
use Rattle.feed_life.proofs.GetsLemmas.{gets-limited, reads-inside, same-calls}
use Rattle.feed_life.proofs.ShortLemmas.{subscription-fits}
use Rattle.feed_life.proofs.store_fetch.StoreFetch.subscription.Goals as goal

pub returns-clause-gets : goal.returns-clause-gets
returns-clause-gets g c =
    gets-limited g.D.Disk.observable g.D.Disk.state _ _ _ _ _ offer_limit (vec_len c.in_ok-written.written)
    (reads-inside g.D.Disk.state _ _ c.subscription.new.self c.self.inside.disk c.self.view_is
    (same-calls c.self.inside.store c.subscription.new.self c.in_ok-written.ensures.same)
    (alone_begins (g.D.Disk.state c.self.inside.disk)) refl)
    (λ observable.
    let unspent : is_spent c.self.inside.store ≡ false = ap (λ f. is_spent f.store) c.self.view_is ∙ c.requires in
    let fits = subscription-fits _ _ (c.self.invariant unspent observable) in
    let is = ap length c.in_ok-written.ensures.document in
    omega (arith, fits, is, c.in_ok-written.written.ok))
    c.within_limit.ensures.same c.within_limit.ensures.fault c.within_limit.ensures.long c.within_limit.ensures.failures
