-- The outcomes of a drill's requests.
use Rattle.std.proofs.Common.{◌≡◌, ◌≢◌, inl, inr, ℕ, List, ◌++◌, Option, Some, None, Ok, refl, sym, ap, subst, ◌∙◌}
use Rattle.atom_values.specs.Entry.{DraftValue, titled}
use Rattle.atom_writer.specs.Pieces.{text}
use Rattle.atom_writer.specs.declared.doc.FeedName.{FeedName}
use Rattle.chain_links.specs.Address.{IsAddress, printed}
use Rattle.chain_links.specs.declared.address.Address.{Address}
use Rattle.chain_links.specs.declared.address.Address.TheVariants.{Feed, Member}
use Rattle.chain_links.proofs.TargetLemmas.{target_of_address}
use Rattle.document_server.specs.Answer.{added}
use Rattle.document_server.specs.Reply.{IsAsked, IsAtAddress, IsOfState, IsOutcome, IsSent}
use Rattle.document_server.specs.Reply.{Outcome, done, done_reply, unchanged}
use Rattle.entry_reader.specs.Spells.{Spells}
use Rattle.feed_drill.specs.Effects.{IsWish, IsWishRead, ask_of}
use Rattle.feed_drill.specs.Requests.{feed_request, request_of}
use Rattle.feed_drill.specs.Turn.{title_of}
use Rattle.feed_drill.specs.declared.wish.Wish.{Wish}
use Rattle.feed_drill.specs.declared.wish.Wish.TheVariants as wish
use Rattle.feed_recovery.specs.Prepare.{decision_of}
use Rattle.feed_recovery.specs.Store.{StoreValue}
use Rattle.http_face.specs.Reply.{document_reply}
use Rattle.http_face.specs.Request.{RequestValue}
use Rattle.http_face.specs.declared.reply.Media.TheVariants as media
use Rattle.http_face.specs.declared.reply.Reply.{Reply}
use Rattle.member_rules.specs.Documents.{subscription}
use Rattle.member_rules.specs.Fold.{state_of}
use Rattle.member_rules.specs.Head.{HeadValue}
use Rattle.member_rules.specs.declared.ask.Ask.{Ask}
use Rattle.member_rules.specs.declared.ask.Ask.TheVariants as ask
use Rattle.member_rules.specs.declared.operation.Op.{Op}
use Rattle.member_rules.specs.declared.operation.Op.TheVariants.{Add, Change, Remove, Set}
use Rattle.member_rules.specs.declared.state.State.{State}
use Rattle.member_rules.specs.declared.state.State.TheVariants as member

-- the outcome of a request by a store with this head and this history, with the history and the reply after it
pub record Comes (head : HeadValue) (request : RequestValue) (now : ℕ) (history later : List Op) (reply : Reply)
    : Type 0 where
  pub store : StoreValue
  pub same_head : store.head ≡ head
  pub same_history : store.history ≡ history
  pub outcome : Outcome
  pub is_outcome : IsOutcome store request now outcome
  pub history_is : later ≡ history ++ added outcome.adds
  pub reply_is : reply ≡ outcome.reply

-- the ask became this operation, which was done
pub record Does (store : StoreValue) (ask : Ask) (now : ℕ) (outcome : Outcome) (operation : Op) : Type 0 where
  pub decided : decision_of store ask now ≡ Ok operation
  pub is : outcome ≡ done store.head.name operation

-- an outcome that leaves the store as it is adds nothing
none-added : {X : Type 0} (outcome : Outcome) (reply : Reply) (operation : Op) → outcome ≡ unchanged reply
    → outcome.adds ≡ Some operation → X
none-added outcome reply operation is adds =
    let wrong : ◌≡◌ {A = Option Op} None (Some operation) = sym (ap (λ (o : Outcome). o.adds) is) ∙ adds in absurd (cc)

done-one : (store : StoreValue) (ask : Ask) (now : ℕ) (outcome : Outcome) (other operation : Op)
    → decision_of store ask now ≡ Ok other → outcome ≡ done store.head.name other → outcome.adds ≡ Some operation
    → Does store ask now outcome operation
done-one store ask now outcome other operation decided is adds =
    let found : ◌≡◌ {A = Option Op} (Some other) (Some operation) = sym (ap (λ (o : Outcome). o.adds) is) ∙ adds in
    let same : other ≡ operation = cc in
    record {
      decided = decided ∙ ap (λ (o : Op). Ok o) same;
      is = is ∙ ap (done store.head.name) same;
    }

asked-does : (store : StoreValue) (ask : Ask) (now : ℕ) (outcome : Outcome) (operation : Op)
    → IsAsked store ask now outcome → outcome.adds ≡ Some operation → Does store ask now outcome operation
asked-does store ask now outcome operation (inl (fault, decided, is)) adds =
    none-added outcome _ operation is adds
asked-does store ask now outcome operation (inr (other, decided, inl (area, size, needed, capacity, full, is))) adds =
    none-added outcome _ operation is adds
asked-does store ask now outcome operation (inr (other, decided, inr (room, is))) adds =
    done-one store ask now outcome other operation decided is adds

sent-does : (store : StoreValue) (request : RequestValue) (asked : DraftValue → Ask) (now : ℕ) (outcome : Outcome)
    (operation : Op) (alone : DraftValue) → ((draft : DraftValue) → Spells request.body draft → draft ≡ alone)
    → IsSent store request asked now outcome → outcome.adds ≡ Some operation
    → Does store (asked alone) now outcome operation
sent-does store request asked now outcome operation alone one (inl (kind, is)) adds =
    none-added outcome _ operation is adds
sent-does store request asked now outcome operation alone one (inr (kind, inl (at, reason, refused, is))) adds =
    none-added outcome _ operation is adds
sent-does store request asked now outcome operation alone one (inr (kind, inr (draft, is_draft, spells, is))) adds =
    asked-does store (asked alone) now outcome operation
    (subst (λ (d : DraftValue). IsAsked store (asked d) now outcome) (one draft spells) is) adds

-- a request of a member whose outcome adds an operation is of a live one
live-only : {X : Type 0} (state : State) (live : Outcome → Type 0) (outcome : Outcome) (operation : Op)
    → IsOfState state live outcome → outcome.adds ≡ Some operation → (live outcome → X) → X
live-only member.Never live outcome operation is adds next = none-added outcome _ operation is adds
live-only (member.Gone when) live outcome operation is adds next = none-added outcome _ operation is adds
live-only (member.Live updated version) live outcome operation is adds next = next is

-- the outcome at the address that the target is printed from
at-address : {X : Type 0} (store : StoreValue) (request : RequestValue) (now : ℕ) (outcome : Outcome) (operation : Op)
    (address : Address) → IsAddress address → request.target ≡ printed store.head.name.base address
    → IsOutcome store request now outcome → outcome.adds ≡ Some operation
    → (IsAtAddress store request now address outcome → X) → X
at-address store request now outcome operation address of named (inl (other, is)) adds next =
    none-added outcome _ operation is adds
at-address store request now outcome operation address of named (inr (known, inl (none, is))) adds next =
    none-added outcome _ operation is adds
at-address store request now outcome operation address of named (inr (known, inr (other, is_other, target, at))) adds
    next =
    next (subst (λ (a : Address). IsAtAddress store request now a outcome)
    (sym (target_of_address store.head.name.base request.target address other of is_other named target)) at)

-- the outcome of a turn's request
pub wish-does : (store : StoreValue) (turn now : ℕ) (wish : Wish) (outcome : Outcome) (operation : Op) → IsWish wish
    → IsWishRead turn wish → IsOutcome store (request_of store.head.name.base turn (ask_of turn wish)) now outcome
    → outcome.adds ≡ Some operation → Does store (ask_of turn wish) now outcome operation
unfolding request_of
wish-does store turn now wish.Create outcome operation of read is adds =
    let request = request_of store.head.name.base turn (ask_of turn wish.Create) in
    at-address store request now outcome operation Feed tt refl is adds (λ at.
    sent-does store request (λ draft. ask.Create draft) now outcome operation (titled (title_of turn)) read at adds)
wish-does store turn now (wish.Replace number) outcome operation of read is adds =
    let request = request_of store.head.name.base turn (ask_of turn (wish.Replace number)) in
    let sent = IsSent store request (λ draft. ask.Replace number draft) now in
    at-address store request now outcome operation (Member number) of refl is adds (λ at.
    live-only (state_of store.history number) sent outcome operation at adds (λ given.
    sent-does store request (λ draft. ask.Replace number draft) now outcome operation (titled
    (title_of turn)) read given
    adds))
wish-does store turn now (wish.Delete number) outcome operation of read is adds =
    let request = request_of store.head.name.base turn (ask_of turn (wish.Delete number)) in
    at-address store request now outcome operation (Member number) of refl is adds (λ at.
    live-only (state_of store.history number) (IsAsked store (ask.Delete number) now) outcome operation at adds
    (λ asked.
    asked-does store (ask.Delete number) now outcome operation asked adds))

-- the reply to a change is no feed document
pub done-media : (name : FeedName) (operation : Op) → (done_reply name operation).media ≢ media.Feed
done-media name (Add entry) is = absurd (cc)
done-media name (Change entry) is = absurd (cc)
done-media name (Remove removal) is = absurd (cc)
done-media name (Set setting moment) is = absurd (cc)

-- the outcome of the request for the feed's document
pub feed-shown : (store : StoreValue) (now : ℕ) (outcome : Outcome)
    → IsOutcome store (feed_request store.head.name.base) now outcome
    → outcome ≡ unchanged (document_reply media.Feed (text (subscription store.head store.history)))
unfolding feed_request
feed-shown store now outcome (inl (other, is)) = absurd (cc)
feed-shown store now outcome (inr (known, inl (none, is))) = absurd (none Feed tt (inl refl))
feed-shown store now outcome (inr (known, inr (other, is_other, target, at))) =
    subst (λ (a : Address). IsAtAddress store (feed_request store.head.name.base) now a outcome)
    (sym (target_of_address store.head.name.base
    (printed store.head.name.base Feed) Feed other tt is_other refl target)) at
