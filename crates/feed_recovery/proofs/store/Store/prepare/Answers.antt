use Rattle.std.proofs.Common.{◌≡◌, ◌<◌, ℕ, length, ap, subst, sym, ◌∙◌, Ok}
use Rattle.std.specs.Prelude.{IfErr}
use Rattle.atom_writer.specs.declared.doc.FeedName.{FeedName}
use Rattle.member_rules.specs.Decide.{decide}
use Rattle.member_rules.specs.History.{history_limit}
use Rattle.member_rules.specs.Table.{IsTableOf}
use Rattle.feed_recovery.specs.Prepare.{IsFullFault}
use Rattle.feed_recovery.specs.Store.{StoreValue}
use Rattle.feed_recovery.specs.declared.store.Store.TheInside.{Inside}
use Rattle.feed_recovery.proofs.RefusalLemmas.{refused_before}
use Rattle.feed_recovery.proofs.store.Store.prepare.Goals as goal

pub decide-requires : goal.decide-requires
decide-requires c =
    let same = c.self.view_is ∙ c.make_room.ensures.same in
    let operations = ap (λ (v : Inside). v.members.operations) c.self-inside.view_is
    ∙ c.self.invariant.0.members.operations ∙ ap (λ (v : StoreValue). length v.history) same in
    subst (λ (n : ℕ). n < history_limit) (sym operations) c.make_room.ensures.few

pub returns-clause-refused : goal.returns-clause-refused
returns-clause-refused c =
    let store = c.args.self.now in
    let operation = c.in_ok-operation.operation in
    let room = c.make_room.new.self in
    let same = c.self.view_is ∙ c.make_room.ensures.same in
    let table = subst (λ (v : Inside). IsTableOf v.members store.head.created store.history)
    (sym c.self-inside.view_is)
    (subst (λ (v : StoreValue). IsTableOf c.self.inside.members v.head.created v.history) same
    c.self.invariant.0.members) in
    let name = ap (λ (v : Inside). v.head.name) c.self-inside.view_is ∙ ap (λ (v : StoreValue). v.head.name) same in
    let decided = subst
    (λ (n : FeedName). decide n store.head.created store.history c.args.ask c.args.now ≡ Ok operation) name
    (sym (c.decide.ensures.decision store.head.created store.history table) ∙ c.in_ok-operation.was) in
    refused_before store room.members.spare room.journal.spare room.seals.spare room.spare c.args.ask c.args.now
    operation c.ready.result decided
    (subst (λ (v : StoreValue). IfErr c.ready.result (IsFullFault v operation)) c.make_room.ensures.same
    c.ready.ensures.refused)
