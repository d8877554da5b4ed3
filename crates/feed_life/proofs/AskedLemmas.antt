-- A life after a request that its store answered.
use Rattle.std.proofs.Common.{◌≡◌, inl, inr, ℕ, List, [], ◌++◌, All, Option, None, Some, false}
use Rattle.std.proofs.Common.{length, ap, sym, subst, ◌∙◌, arith}
use Rattle.std.specs.List.{AllZip}
use Rattle.std.proofs.lemmas.List.{append_cancel_left}
use Rattle.std.proofs.lemmas.List.Elements.{All-append, All-cons, All-nil}
use Rattle.chain_links.specs.Address.{IsAddress, IsTarget, printed, suffix_text}
use Rattle.chain_links.specs.Base.{path_text}
use Rattle.chain_links.specs.declared.address.Address.{Address}
use Rattle.chain_links.specs.declared.address.Address.TheVariants.{Feed, Archive}
use Rattle.chain_links.proofs.AddressLemmas.{printed-is}
use Rattle.document_server.specs.Answer.{added}
use Rattle.document_server.specs.Laws.{IsServedReply}
use Rattle.document_server.specs.declared.line.Line.{Line}
use Rattle.document_server.proofs.ServedLemmas.{shown-served}
use Rattle.feed_disk.specs.Memory.{MemoryValue}
use Rattle.feed_life.specs.Life.{IsMirrorOf, IsSentBy, IsStoreOf, LifeValue, Lives}
use Rattle.feed_life.specs.Asks.{CountsCalls, IsAnswered, IsAsked, IsDocOf, IsReplied, Sends, docs_of, of_request}
use Rattle.feed_life.specs.declared.sent.SentDoc.{SentDoc}
use Rattle.feed_life.proofs.StayLemmas.{all-sent-later, mirrors-later, sent-now, served-later}
use Rattle.feed_recovery.specs.Store.{StoreValue}
use Rattle.http_face.specs.Reply.{body_text}
use Rattle.http_face.specs.Request.{RequestValue}
use Rattle.http_face.specs.declared.reply.Reply.{Reply}
use Rattle.member_rules.specs.Head.{HeadValue, IsHead}
use Rattle.member_rules.specs.History.{IsLawful}
use Rattle.member_rules.specs.Served.{Served}
use Rattle.member_rules.specs.declared.operation.Op.{Op}
use Rattle.member_rules.proofs.CutLemmas.{windows-sealed}
use Rattle.mirror_walk.specs.Holding.{KeptValue}

-- two addresses that are printed the same are named by the same targets
retarget : (base : List ℕ) (one other : Address) (target : List ℕ) → printed base one ≡ printed base other
    → IsTarget base one target → IsTarget base other target
retarget base one other target same (inl is) = inl (is ∙ same)
retarget base one other target same (inr (parts, spells, is)) =
    let suffixes = append_cancel_left base (suffix_text one) (suffix_text other)
    (sym (printed-is base one) ∙ same ∙ printed-is base other) in
    inr (parts, spells, is ∙ ap (λ (suffix : List ℕ). path_text parts.segments ++ suffix) suffixes)

-- an address of a document that is printed like this one, and that the target names
record IsNamed (base : List ℕ) (given : Address) (target : List ℕ) : Type 0 where
  address : Address
  is_address : IsAddress address
  named : IsTarget base address target
  same : printed base given ≡ printed base address

served-named : (head : HeadValue) (history : List Op) (given : Address) (target bytes : List ℕ)
    → IsTarget head.name.base given target → Served head history (printed head.name.base given) bytes
    → IsNamed head.name.base given target
served-named head history given target bytes named served = elim served.served [
  | inl feed ↦ record {
    address = Feed;
    is_address = tt;
    named = retarget head.name.base given Feed target feed.there named;
    same = feed.there;
  }
  | inr sealed ↦ record {
    address = Archive sealed.number;
    is_address = (
      sealed.of_sealed.0,
      let windows = windows-sealed head history served.is_head in
          omega (arith, sealed.of_sealed.1, windows.full, windows.few, served.is_lawful.few),
    );
    named = retarget head.name.base given (Archive sealed.number) target sealed.there named;
    same = sealed.there;
  }
]

-- the feed with this head and history serves the document of a reply
record IsShown (head : HeadValue) (history : List Op) (request : RequestValue) (body : List ℕ) : Type 0 where
  address : Address
  named : IsTarget head.name.base address request.target
  served : Served head history (printed head.name.base address) body

shown-at : (store : StoreValue) (head : HeadValue) (history : List Op) (request : RequestValue) (reply : Reply)
    → store.head ≡ head → store.history ≡ history → IsServedReply store request reply
    → IsShown head history request (body_text reply.body)
shown-at store head history request reply same_head same_history shown =
    subst (λ (h : HeadValue). IsShown h history request (body_text reply.body)) same_head
    (subst (λ (l : List Op). IsShown store.head l request (body_text reply.body)) same_history
    record { address = shown.address; named = shown.named; served = shown.served })

module _ (head : HeadValue) (request : RequestValue) (now : ℕ) (history later : List Op) (before after : MemoryValue)
    (reply : Reply) (is_head : IsHead head) (lawful : IsLawful head history)
    (replied : IsReplied head (of_request request now) history later before after reply)
    (lawful_later : IsLawful head later) where
  abbrev more : List Op
  more = history ++ added replied.outcome.adds

  lawful_more : IsLawful head more
  lawful_more = subst (IsLawful head) replied.history_is lawful_later

  -- the document that a reply sends is one that the feed served then
  doc-served : (doc : SentDoc) → IsDocOf head.name.base request reply (length later) doc
      → Served head more doc.address doc.bytes
  doc-served doc is_doc =
      let store = replied.store in
      let outcome = replied.outcome in
      let shown = shown-at store head history request outcome.reply replied.loaded.head_is replied.loaded.history_is
      (shown-served store request now outcome
      (subst IsHead (sym replied.loaded.head_is) is_head)
      (subst (λ (h : HeadValue). IsLawful h store.history) (sym replied.loaded.head_is)
      (subst (λ (l : List Op). IsLawful head l) (sym replied.loaded.history_is) lawful))
      replied.is_outcome (ap (λ (r : Reply). r.media) (sym replied.reply_is) ∙ is_doc.media)) in
      let named = served-named head history shown.address request.target (body_text outcome.reply.body) shown.named
      shown.served in
      let address : printed head.name.base shown.address ≡ doc.address =
      named.same
      ∙ ap (printed head.name.base) (is_doc.only named.address named.is_address named.named)
      ∙ sym (ap (λ (d : SentDoc). d.address) is_doc.is) in
      let bytes : body_text outcome.reply.body ≡ doc.bytes =
      ap (λ (r : Reply). body_text r.body) (sym replied.reply_is)
      ∙ sym (ap (λ (d : SentDoc). d.bytes) is_doc.is) in
      served-later head history (added replied.outcome.adds) lawful_more doc.address doc.bytes
      (subst (λ (a : List ℕ). Served head history a doc.bytes) address
      (subst (λ (b : List ℕ). Served head history (printed head.name.base shown.address) b) bytes shown.served))

  docs-now : (found : Option SentDoc) → Sends head.name.base request reply (length later) found
      → All (IsSentBy head later) (docs_of found)
  docs-now None sends = All-nil (IsSentBy head later)
  docs-now (Some doc) is_doc =
      All-cons (IsSentBy head later) doc []
      (sent-now head later doc (ap (λ (d : SentDoc). d.version) is_doc.is)
      (subst (λ (l : List Op). Served head l doc.address doc.bytes) (sym replied.history_is) (doc-served doc is_doc)))
      (All-nil (IsSentBy head later))

  pub docs-later : (docs : List SentDoc) (found : Option SentDoc) → All (IsSentBy head history) docs
      → Sends head.name.base request reply (length later) found → All (IsSentBy head later) (docs ++ docs_of found)
  docs-later docs found all sends =
      All-append (IsSentBy head later) docs (docs_of found)
      (subst (λ (l : List Op). All (IsSentBy head l) docs) (sym replied.history_is)
      (all-sent-later head history (added replied.outcome.adds) lawful_more docs all))
      (docs-now found sends)

  pub disks-later : (disks : List MemoryValue) (held : List (List KeptValue))
      → AllZip (IsMirrorOf head history) disks held → AllZip (IsMirrorOf head later) disks held
  disks-later disks held all =
      subst (λ (l : List Op). AllZip (IsMirrorOf head l) disks held) (sym replied.history_is)
      (mirrors-later head history (added replied.outcome.adds) lawful_more disks held all)

-- a life whose fields are these
asked-inside : (old : LifeValue) (request : RequestValue) (now : ℕ) (history : List Op) (held : List (List KeptValue))
    (disk : MemoryValue) (reply : Reply) (line : Line) (sealed : ℕ) (found : Option SentDoc) (sent : List SentDoc)
    → Lives old history held → IsAnswered old.head (of_request request now) history old.disk disk reply line sealed
    → Sends old.head.name.base request reply line.version found → sent ≡ old.sent ++ docs_of found
    → CountsCalls old.disk disk line
    → IsAsked old (record old {
      disk = disk;
      sent = sent;
      version = line.version;
      sealed = sealed;
      lost =
          false;
    }) request
    now history held line
asked-inside old request now history held disk reply line sealed found sent lives given sends sent_is calls =
    let journal = lives.store.opens.is_journal in
    let lawful_later = given.store.opens.is_journal.lawful in
    let sends_later = subst (λ (n : ℕ). Sends old.head.name.base request reply n found) given.version sends in
    record {
      later = given.later;
      reply = reply;
      gained = found;
      replied = given.replied;
      sends = sends_later;
      sent = sent_is;
      lives = record {
        store = given.store;
        version = given.version;
        sealed = given.sealed_is;
        sent =
            subst (All (IsSentBy old.head given.later)) (sym sent_is)
            (docs-later old.head request now history given.later old.disk disk reply journal.is_head journal.lawful
            given.replied lawful_later old.sent found lives.sent sends_later);
        mirrors =
            disks-later old.head request now history given.later old.disk disk reply journal.is_head journal.lawful
            given.replied lawful_later old.mirrors held lives.mirrors;
      };
      status = given.status;
      version = given.version;
      calls = calls;
      whole = given.whole;
    }

pub life-asked : (inside old : LifeValue) (request : RequestValue) (now : ℕ) (history : List Op)
    (held : List (List KeptValue)) (disk : MemoryValue) (reply : Reply) (line : Line) (sealed : ℕ)
    (found : Option SentDoc) (sent : List SentDoc) → inside ≡ old → Lives old history held
    → (IsStoreOf inside.head history inside.disk
    → IsAnswered inside.head (of_request request now) history inside.disk disk reply line sealed)
    → Sends inside.head.name.base request reply line.version found → sent ≡ inside.sent ++ docs_of found
    → CountsCalls inside.disk disk line
    → IsAsked old (record inside { disk = disk; sent = sent; version = line.version; sealed = sealed; lost = false })
    request now history held line
life-asked inside old request now history held disk reply line sealed found sent view lives answer sends sent_is calls =
    let before = subst (λ (l : LifeValue). Lives l history held) (sym view) lives in
    subst (λ (l : LifeValue). IsAsked l (record inside {
      disk = disk;
      sent = sent;
      version = line.version;
      sealed = sealed;
      lost = false;
    }) request now history held line) view
    (asked-inside inside request now history held disk reply line sealed found sent before (answer before.store) sends
    sent_is calls)

pub same-doc : (address text bytes body : List ℕ) (version : ℕ) → address ≡ text → bytes ≡ body
    → ◌≡◌ {A = SentDoc} (record { address = address; bytes = bytes; version = version })
    (record { address = text; bytes = body; version = version })
same-doc address text bytes body version first second =
    ap (λ (a : List ℕ). record { address = a; bytes = bytes; version = version }) first
    ∙ ap (λ (b : List ℕ). record { address = text; bytes = b; version = version }) second
