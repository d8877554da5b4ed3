use Rattle.std.proofs.Common.{◌≡◌, ap, sym, subst, ◌∙◌}
use Rattle.std.proofs.lemmas.Result.{IfOk-weaker}
use Rattle.chain_links.specs.Address.{IsAddress, printed}
use Rattle.chain_links.specs.declared.address.Address.TheVariants.{Feed, Archive, Member}
use Rattle.feed_recovery.specs.Store.{StandsFor}
use Rattle.feed_life.specs.StoreFetch.{StoreFetchValue}
use Rattle.feed_life.proofs.AnswerLemmas.{answers-archived, answers-feed, answers-other, answers-unread}
use Rattle.feed_life.proofs.store_fetch.StoreFetch.answer.Goals as goal

pub returns-in_default-clause-answer : goal.returns-in_default-clause-answer
returns-in_default-clause-answer g c observable =
    let base : c.behind-self.inside.name.base ≡ c.args.self.now.store.head.name.base =
    ap (λ h. h.name.base) (c.behind-self.view_is ∙ c.head.ensures)
    ∙ ap (λ f. f.store.head.name.base) c.self.view_is in
    let stands = subst (λ (f : StoreFetchValue g.row.D.Denot). StandsFor (g.D.Disk.state f.disk) f.store) c.self.view_is
    (c.self.invariant (sym c.is_spent.ensures ∙ c.if-is_spent.false) observable) in
    sym (answers-unread _ _ c.args.address.now stands.opens.is_journal.is_head stands.opens.is_journal.lawful
    (λ other is_address there.
    let absent = c.in_default.ensures.only other is_address (there ∙ ap (λ b. printed b other) (sym base)) in
    cc))

pub returns-in-Feed-clause-answer : goal.returns-in-Feed-clause-answer
returns-in-Feed-clause-answer g c =
    let base : c.behind-self.inside.name.base ≡ c.args.self.now.store.head.name.base =
    ap (λ h. h.name.base) (c.behind-self.view_is ∙ c.head.ensures)
    ∙ ap (λ f. f.store.head.name.base) c.self.view_is in
    let there : c.args.address.now ≡ printed c.args.self.now.store.head.name.base Feed =
    c.in-Some.ensures.found.1 ∙ ap (λ b. printed b c.in-Some.named) base
    ∙ ap (printed c.args.self.now.store.head.name.base) c.in-Feed.is in
    IfOk-weaker c.subscription.result _ _
    (λ found is observable. is ∙ sym (answers-feed _ _ c.args.address.now there)) c.subscription.ensures.answer

pub returns-in-Archive-clause-answer : goal.returns-in-Archive-clause-answer
returns-in-Archive-clause-answer g c =
    let base : c.behind-self.inside.name.base ≡ c.args.self.now.store.head.name.base =
    ap (λ h. h.name.base) (c.behind-self.view_is ∙ c.head.ensures)
    ∙ ap (λ f. f.store.head.name.base) c.self.view_is in
    let there : c.args.address.now ≡ printed c.args.self.now.store.head.name.base (Archive c.in-Archive.number) =
    c.in-Some.ensures.found.1 ∙ ap (λ b. printed b c.in-Some.named) base
    ∙ ap (printed c.args.self.now.store.head.name.base) c.in-Archive.is in
    let is_address = subst IsAddress c.in-Archive.is c.in-Some.ensures.found.0 in
    IfOk-weaker c.archive.result _ _
    (λ found is observable.
    let stands = subst (λ (f : StoreFetchValue g.row.D.Denot). StandsFor (g.D.Disk.state f.disk) f.store) c.self.view_is
    (c.self.invariant (sym c.is_spent.ensures ∙ c.if-is_spent.false) observable) in
    answers-archived (λ bytes. bytes.items) c.args.self.now.store c.args.address.now c.in-Archive.number found
    stands.opens.is_journal.is_head stands.opens.is_journal.lawful is_address there (is observable))
    c.archive.ensures.answer

pub returns-in-Member-clause-answer : goal.returns-in-Member-clause-answer
returns-in-Member-clause-answer g c observable =
    let base : c.behind-self.inside.name.base ≡ c.args.self.now.store.head.name.base =
    ap (λ h. h.name.base) (c.behind-self.view_is ∙ c.head.ensures)
    ∙ ap (λ f. f.store.head.name.base) c.self.view_is in
    let there : c.args.address.now ≡ printed c.args.self.now.store.head.name.base (Member c.in-Member.field-0) =
    c.in-Some.ensures.found.1 ∙ ap (λ b. printed b c.in-Some.named) base
    ∙ ap (printed c.args.self.now.store.head.name.base) c.in-Member.is in
    let is_address = subst IsAddress c.in-Member.is c.in-Some.ensures.found.0 in
    let stands = subst (λ (f : StoreFetchValue g.row.D.Denot). StandsFor (g.D.Disk.state f.disk) f.store) c.self.view_is
    (c.self.invariant (sym c.is_spent.ensures ∙ c.if-is_spent.false) observable) in
    sym (answers-other _ _ c.args.address.now stands.opens.is_journal.is_head stands.opens.is_journal.lawful
    (Member c.in-Member.field-0) is_address (λ e. cc) (λ number from_one within e. cc) there)
