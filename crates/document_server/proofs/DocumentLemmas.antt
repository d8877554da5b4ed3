-- Feed documents that were sent are served by each later history.
use Rattle.std.proofs.Common.{◌≡◌, ◌≢◌, inl, inr, sym, ap, ◌∙◌, subst, ℕ, ◌≤◌, List, ◌++◌, length, take, arith}
use Rattle.std.proofs.Common.{length-append}
use Rattle.std.specs.Prelude.{Some}
use Rattle.std.proofs.Math.Seq.{take-length}
use Rattle.std.proofs.lemmas.Bool.{cases_lt}
use Rattle.std.proofs.lemmas.List.{length-take-le, take-append-le, take-take}
use Rattle.chain_links.specs.Address.{printed}
use Rattle.document_server.specs.Laws.{AreShownServed}
use Rattle.document_server.specs.Served.{Answering}
use Rattle.document_server.specs.Session.{Exchange, IsAnswered}
use Rattle.document_server.specs.Session.{IsServedDocument, IsTurn, SendsServed, Turn}
use Rattle.feed_recovery.specs.Store.{StoreValue}
use Rattle.http_face.specs.Reply.{body_text, fault_reply}
use Rattle.http_face.specs.declared.fault.RequestFault.{RequestFault}
use Rattle.http_face.specs.declared.fault.RequestFault.TheVariants as fault
use Rattle.http_face.specs.declared.reply.Media.TheVariants as media
use Rattle.http_face.specs.declared.reply.Reply.{Reply}
use Rattle.member_rules.specs.Head.{HeadValue, IsHead}
use Rattle.member_rules.specs.History.{IsLawful}
use Rattle.member_rules.specs.Laws.{PrefixesAreLawful, ServedStays}
use Rattle.member_rules.specs.Served.{Served}
use Rattle.member_rules.specs.declared.operation.Op.{Op}

-- the exchange was over at this history, which serves what was sent
pub record IsOver (head : HeadValue) (history : List Op) (exchange : Exchange) : Type 0 where
  pub within : exchange.line.version ≤ length history
  pub sends : SendsServed head history exchange

-- no feed document was sent
sends-none : (head : HeadValue) (history : List Op) (exchange : Exchange)
    → ((reply : Reply) → exchange.reply ≡ Some reply → reply.media ≢ media.Feed) → SendsServed head history exchange
sends-none head history exchange none = λ reply is shown version from to. absurd (none reply is shown)

-- a reply that isn't a feed document
pub sends-other : (head : HeadValue) (history : List Op) (exchange : Exchange) (given : Reply)
    → exchange.reply ≡ Some given → given.media ≢ media.Feed → SendsServed head history exchange
sends-other head history exchange given is other = sends-none head history exchange (λ reply also shown.
    let same : given ≡ reply = cc in
    other (ap (λ (r : Reply). r.media) same ∙ shown))

fault-other : (given : RequestFault) (reply : Reply) → fault_reply given ≡ Some reply → reply.media ≢ media.Feed
fault-other fault.ConnFault reply is shown = cc
fault-other fault.BadHead reply is shown = cc
fault-other fault.HeadTooLarge reply is shown = cc
fault-other (fault.EndedEarly read) reply is shown = cc
fault-other fault.NoLength reply is shown = cc
fault-other fault.TwoLengths reply is shown = cc
fault-other (fault.BodyTooLarge length) reply is shown = cc
fault-other fault.NoMemory reply is shown = cc

module _ (stays : ServedStays) (prefixes : PrefixesAreLawful) (head : HeadValue) (history operations : List Op)
    (lawful : IsLawful head (history ++ operations)) where
  -- bytes that are served are served after more operations
  served-later : (version : ℕ) → length history ≤ version → version ≤ length (history ++ operations)
      → (address bytes : List ℕ) → Served head history address bytes
      → Served head (take version (history ++ operations)) address bytes
  served-later version from to address bytes served =
      let all = history ++ operations in
      let long : length (take version all) ≡ version = length-take-le version all to in
      let front : take (length history) (take version all) ≡ history =
      take-take (length history) version all from
      ∙ take-append-le (length history) history operations (omega arith) ∙ take-length history in
      stays head (take version all) (length history) (prefixes head all version lawful) (omega (arith, long, from))
      address bytes (subst (λ (h : List Op). Served head h address bytes) (sym front) served)

  document-later : (exchange : Exchange) (reply : Reply) (version : ℕ) → length history ≤ version
      → version ≤ length (history ++ operations) → IsServedDocument head history exchange reply
      → IsServedDocument head (take version (history ++ operations)) exchange reply
  document-later exchange reply version from to shown = record {
    request = shown.request;
    heard = shown.heard;
    address = shown.address;
    named = shown.named;
    served = served-later version from to (printed head.name.base shown.address) (body_text reply.body) shown.served;
  }

  -- a document that an exchange sent is served after more operations
  pub sends-later : (exchange : Exchange) → IsOver head history exchange
      → IsOver head (history ++ operations) exchange
  sends-later exchange over = record {
    within = omega (arith, over.within, length-append history operations);
    sends = λ reply is shown version from to. elim (cases_lt (length history) version) [
      | inl later ↦
          document-later exchange reply version (omega (arith, later)) to
          (subst (λ (h : List Op). IsServedDocument head h exchange reply) (take-length history)
          (over.sends reply is shown (length history) over.within (omega arith)))
      | inr earlier ↦
          subst (λ (h : List Op). IsServedDocument head h exchange reply)
          (sym (take-append-le version history operations earlier)) (over.sends reply is shown version from earlier)
    ];
  }

  -- an exchange on this history, whose line has the version after it
  module _ {answers : Answering} (shown : AreShownServed answers) (store : StoreValue) (now : ℕ) (is_head : IsHead store.head)
      (was_lawful : IsLawful store.head store.history) (exchange : Exchange) (turn : Turn)
      (same : store.head ≡ head) (of : store.history ≡ history)
      (behind : length (history ++ operations) ≤ exchange.line.version) where
    sends-answered : IsAnswered answers store now exchange turn → SendsServed head (history ++ operations) exchange
    sends-answered answered = λ reply is feed version from to.
        let given : answered.outcome.reply ≡ reply = reply-is answered.outcome.reply reply (sym answered.reply ∙ is) in
        let sent = shown store answered.request now answered.outcome is_head was_lawful answered.is_outcome
        (ap (λ (r : Reply). r.media) given ∙ feed) in
        document-later exchange reply version
        (omega (arith, behind, from, length-append history operations)) to
        (subst (λ (r : Reply). IsServedDocument head history exchange r) given
        (subst (λ (h : List Op). IsServedDocument head h exchange answered.outcome.reply) of
        (subst (λ (h : HeadValue). IsServedDocument h store.history exchange answered.outcome.reply) same (record {
          request = answered.request;
          heard = answered.heard;
          address = sent.address;
          named = sent.named;
          served = sent.served;
        }))))
      where
        reply-is : (one other : Reply) → Some one ≡ Some other → one ≡ other
        reply-is one other is = cc

    pub sends-turn : IsTurn answers store now exchange turn → SendsServed head (history ++ operations) exchange
    sends-turn (inl lost) = sends-none head (history ++ operations) exchange (λ reply is. absurd (cc (lost.reply)))
    sends-turn (inr (inl refused)) =
        sends-none head (history ++ operations) exchange
        (λ reply is. fault-other refused.fault reply (sym refused.reply ∙ is))
    sends-turn (inr (inr (inl answered))) = sends-answered answered
    sends-turn (inr (inr (inr forgotten))) =
        sends-other head (history ++ operations) exchange _ forgotten.reply (λ is. cc)
