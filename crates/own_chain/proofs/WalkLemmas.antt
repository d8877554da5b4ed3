-- A walk over the chain of one of this project's feeds.
use Rattle.std.proofs.Common.{◌≡◌, ℕ, zero, suc, ◌+◌, ◌-◌, ◌≤◌, ◌<◌, ◌^◌, ◌==◌, List, [], ◌∷◌, ◌++◌, map, length, All}
use Rattle.std.proofs.Common.{Option, Some, None, refl, ap, sym, subst, ◌∙◌, arith}
use Rattle.std.specs.Prelude.{codes, if◌then◌else◌, IfSome}
use Rattle.std.proofs.lemmas.Bool.{ne_eqb}
use Rattle.std.proofs.lemmas.List.{length_push}
use Rattle.std.proofs.lemmas.List.Elements.{All-head, All-tail}
use Rattle.atom_writer.specs.Doc.{DocValue, IsDoc}
use Rattle.atom_writer.specs.Pieces.{text}
use Rattle.chain_links.specs.Address.{printed}
use Rattle.chain_links.specs.Base.{IsBase}
use Rattle.chain_links.specs.Checked.{IsUrlText}
use Rattle.chain_links.specs.declared.address.Address.{Address}
use Rattle.chain_links.specs.declared.address.Address.TheVariants.{Feed, Archive}
use Rattle.deleted_entries.specs.FeedId.{feed_text}
use Rattle.member_rules.specs.declared.operation.Op.{Op}
use Rattle.member_rules.specs.Chain.{chain, chain_of, down_from}
use Rattle.member_rules.specs.Documents.{archive_of, document_of, name_of, subscription_of}
use Rattle.member_rules.specs.Head.{HeadValue}
use Rattle.member_rules.specs.Windows.{windows_of}
use Rattle.canonical_feed.specs.Laws.{CanonicalTextIsRead}
use Rattle.canonical_feed.specs.Reading.{foreign_document, prev_address}
use Rattle.feed_reader.specs.Feed.{DocumentValue}
use Rattle.foreign_mirror.specs.Walk.{IsAskable, IsOfFeed, IsReadAt, Walks, WalksFrom, document_limit, feed_after}
use Rattle.published_rule.proofs.DatedLemmas.{Contains-none}
use Rattle.foreign_mirror.specs.Walk.Ending.{over}
use Rattle.foreign_mirror.specs.declared.walk.ChainEnd.TheVariants.{Complete}
use Rattle.own_chain.specs.Served.{IsAnsweredWith, ServesChain, address_in, archive_limit}
use Rattle.own_chain.proofs.AddressLemmas.{HasNoneTo, none-after, none-at_first, printed-http}

-- the identifier of the feed in its documents
abbrev feed_id : List ℕ → List ℕ
feed_id id = codes "urn:uuid:" ++ feed_text id

-- the address of the archive with this number, if the number is one of an archive
abbrev archive_address : List ℕ → ℕ → Option (List ℕ)
archive_address base zero = None
archive_address base (suc number) = Some (printed base (Archive (suc number)))

address-is : (base : List ℕ) (number : ℕ)
    → (if number == 0 then None else Some (printed base (Archive number))) ≡ archive_address base number
address-is base zero = refl
address-is base (suc number) = rw (ne_eqb (suc number) 0 (λ e. omega (arith, e))) refl

-- the document is the feed's, has this address, and comes after the archive with this number
record IsLinked (head : HeadValue) (address : Address) (prev : ℕ) (d : DocValue) : Type 0 where
  own : address_in head.name.base d ≡ printed head.name.base address
  behind : prev_address d ≡ archive_address head.name.base prev
  id : (foreign_document d).id ≡ feed_id head.name.id

archive-linked : (ends : ℕ → ℕ) (head : HeadValue) (history : List Op) (number : ℕ)
    → IsLinked head (Archive (suc number)) number (archive_of ends head history (suc number))
unfolding archive_of document_of name_of
archive-linked ends head history number =
    let same : suc number - 1 ≡ number = omega arith in
    record {
      own = refl;
      behind = address-is head.name.base (suc number - 1) ∙ ap (archive_address head.name.base) same;
      id = refl;
    }

subscription-linked : (ends : ℕ → ℕ) (archives : ℕ) (head : HeadValue) (history : List Op)
    → IsLinked head Feed archives (subscription_of ends archives head history)
unfolding subscription_of document_of name_of
subscription-linked ends archives head history =
    record { own = refl; behind = address-is head.name.base archives; id = refl }

module _ (canonical : CanonicalTextIsRead) (answers : List ℕ → Option (List ℕ)) (head : HeadValue)
    (base : IsBase head.name.base) where
  document-read : (d : DocValue) → IsDoc d → IsAnsweredWith answers head.name.base d
      → IfSome (prev_address d) IsUrlText → IsReadAt answers (address_in head.name.base d) (foreign_document d)
  document-read d is_doc answered prev = record {
    bytes = text d;
    there = answered.answer;
    spelled = canonical d (address_in head.name.base d) is_doc answered.is_url prev;
  }

  -- a walk goes on with a document of the chain
  walk-on : (before : List (List ℕ)) (feed : Option (List ℕ)) (address : Address) (prev : ℕ) (d : DocValue)
      (asked : List (List ℕ)) (documents : List DocumentValue) → IsLinked head address prev d → IsDoc d
      → IsAnsweredWith answers head.name.base d → IfSome (archive_address head.name.base prev) IsUrlText
      → IsOfFeed feed (foreign_document d) → IsAskable before (printed head.name.base address)
      → Walks answers (before ++ printed head.name.base address ∷ []) (feed_after feed (foreign_document d))
      (archive_address head.name.base prev) asked documents (over Complete)
      → Walks answers before feed (Some (printed head.name.base address)) (address_in head.name.base d ∷ asked)
      (foreign_document d ∷ documents) (over Complete)
  walk-on before feed address prev d asked documents linked is_doc answered is_url of_feed askable later = (
    ap (λ (a : List ℕ). Some a) (sym linked.own),
    subst (IsAskable before) (sym linked.own) askable,
    document-read d is_doc answered (subst (λ (p : Option (List ℕ)). IfSome p IsUrlText) (sym linked.behind) is_url),
    of_feed,
    subst (λ (a : List ℕ). Walks answers (before ++ a ∷ []) (feed_after feed (foreign_document d)) (prev_address d)
        asked documents (over Complete)) (sym linked.own)
        (subst (λ (p : Option (List ℕ)). Walks answers (before ++ printed head.name.base address ∷ [])
        (feed_after feed (foreign_document d)) p asked documents (over Complete)) (sym linked.behind) later),
  )

  module _ (ends : ℕ → ℕ) (history : List Op) where
    -- the archives from this number down
    abbrev archives : ℕ → List DocValue
    archives number = down_from (archive_of ends head history) number

    archive-url : (number : ℕ) → All (IsAnsweredWith answers head.name.base) (archives number)
        → IfSome (archive_address head.name.base number) IsUrlText
    archive-url zero answered = tt
    archive-url (suc number) answered =
        subst IsUrlText (archive-linked ends head history number).own
        (All-head (IsAnsweredWith answers head.name.base) (archive_of ends head history (suc number)) (archives number)
        answered).is_url

    archives-walk : (number : ℕ) (before : List (List ℕ)) → number < 2 ^ 32 → length before + number ≤ document_limit
        → HasNoneTo number head.name.base before → All IsDoc (archives number)
        → All (IsAnsweredWith answers head.name.base) (archives number)
        → Walks answers before (Some (feed_id head.name.id)) (archive_address head.name.base number)
        (map (address_in head.name.base) (archives number)) (map foreign_document (archives number)) (over Complete)
    archives-walk zero before small room none documents answered = refl
    archives-walk (suc number) before small room none documents answered =
        let d = archive_of ends head history (suc number) in
        let linked = archive-linked ends head history number in
        let address = printed head.name.base (Archive (suc number)) in
        let behind = All-tail (IsAnsweredWith answers head.name.base) d (archives number) answered in
        walk-on before (Some (feed_id head.name.id)) (Archive (suc number)) number d
        (map (address_in head.name.base) (archives number)) (map foreign_document (archives number)) linked
        (All-head IsDoc d (archives number) documents)
        (All-head (IsAnsweredWith answers head.name.base) d (archives number) answered) (archive-url number behind)
        linked.id
        (record {
          new = none (suc number) (omega arith) (omega arith);
          http = printed-http head.name.base (Archive (suc number)) base;
          few = omega (arith, room);
        })
        (archives-walk number (before ++ address ∷ []) (omega (arith, small))
        (omega (arith, room, length_push before address)) (none-after number head.name.base before small none)
        (All-tail IsDoc d (archives number) documents) behind)

    chain_of-walk : (number : ℕ) → number ≤ archive_limit → All IsDoc (chain_of ends number head history)
        → All (IsAnsweredWith answers head.name.base) (chain_of ends number head history)
        → WalksFrom answers (printed head.name.base Feed)
        (map (address_in head.name.base) (chain_of ends number head history))
        (map foreign_document (chain_of ends number head history)) (over Complete)
    unfolding chain_of
    chain_of-walk number few documents answered =
        let d = subscription_of ends number head history in
        let linked = subscription-linked ends number head history in
        let behind = All-tail (IsAnsweredWith answers head.name.base) d (archives number) answered in
        walk-on [] None Feed number d (map (address_in head.name.base) (archives number))
        (map foreign_document (archives number)) linked (All-head IsDoc d (archives number) documents)
        (All-head (IsAnsweredWith answers head.name.base) d (archives number) answered) (archive-url number behind) tt
        (record {
          new = Contains-none (printed head.name.base Feed);
          http = printed-http head.name.base Feed base;
          few = omega arith;
        })
        (subst (λ (id : List ℕ). Walks answers (printed head.name.base Feed ∷ []) (Some id)
        (archive_address head.name.base number) (map (address_in head.name.base) (archives number))
        (map foreign_document (archives number)) (over Complete)) (sym linked.id)
        (archives-walk number (printed head.name.base Feed ∷ []) (omega (arith, few)) (omega (arith, few))
        (none-at_first number head.name.base (omega (arith, few)))
        (All-tail IsDoc d (archives number) documents) behind))

-- a source that serves the chain of a feed lets a walk ask for each document, and read it
pub chain-walk : (canonical : CanonicalTextIsRead) (head : HeadValue) (history : List Op)
    (answers : List ℕ → Option (List ℕ)) → ServesChain head history answers → All IsDoc (chain head history)
    → WalksFrom answers (printed head.name.base Feed) (map (address_in head.name.base) (chain head history))
    (map foreign_document (chain head history)) (over Complete)
unfolding chain
chain-walk canonical head history answers serves documents =
    let windows = windows_of head history in
    chain_of-walk canonical answers head serves.is_head.name.base windows.ends history windows.sealed serves.few
    documents serves.answered
