-- The law from its parts.
use Rattle.std.proofs.Common.{◌≡◌, ◌↔◌, ℕ, zero, suc, List, map, length, take, Some, refl, sym, subst, ◌∙◌, arith}
use Rattle.std.specs.Prelude.{All}
use Rattle.std.proofs.lemmas.List.{take_all}
use Rattle.std.proofs.lemmas.List.Elements.{All-cons, All-head, All-nil, All-tail}
use Rattle.atom_writer.specs.Doc.{IsDoc}
use Rattle.chain_links.specs.Address.{printed}
use Rattle.chain_links.specs.declared.address.Address.TheVariants.{Feed}
use Rattle.member_rules.specs.declared.operation.Op.{Op}
use Rattle.member_rules.specs.Chain.{chain, chain_of, down_from}
use Rattle.member_rules.specs.Documents.{archive_of, document_of, name_of, subscription_of}
use Rattle.member_rules.specs.Head.{HeadValue, IsHead}
use Rattle.member_rules.specs.History.{IsLawful}
use Rattle.member_rules.specs.Shows.{live_of}
use Rattle.member_rules.specs.Windows.{windows_of}
use Rattle.member_rules.proofs.LawLemmas.{law-of_chain}
use Rattle.published_rule.specs.Counts.{Counts}
use Rattle.published_rule.proofs.RuleLemmas.{live_of-counts}
use Rattle.canonical_feed.specs.Laws.{CanonicalTextIsRead}
use Rattle.canonical_feed.specs.Reading.{foreign_document}
use Rattle.feed_reader.specs.Feed.{DocumentValue}
use Rattle.foreign_entries.specs.Live.{IsForeignLive}
use Rattle.foreign_mirror.specs.Laws.{WalksEndInOneWay}
use Rattle.foreign_mirror.specs.declared.walk.ChainEnd.TheVariants.{Complete}
use Rattle.own_chain.specs.Laws.{OwnChainsAreRead, OwnChainsAreWalked}
use Rattle.own_chain.specs.Served.{address_in}
use Rattle.own_chain.proofs.CountsLemmas.{IsOfFeed}
use Rattle.own_chain.proofs.LiveLemmas.{LiveCounts, live-entries}
use Rattle.own_chain.proofs.WalkLemmas.{chain-walk}

-- the documents of a cut are the feed's

archives-of_feed : (ends : ℕ → ℕ) (head : HeadValue) (history : List Op) (number : ℕ)
    → All IsDoc (down_from (archive_of ends head history) number)
    → All (IsOfFeed head.name.id) (down_from (archive_of ends head history) number)
unfolding archive_of document_of name_of
archives-of_feed ends head history zero documents = All-nil (IsOfFeed head.name.id)
archives-of_feed ends head history (suc number) documents =
    let d = archive_of ends head history (suc number) in
    let older = down_from (archive_of ends head history) number in
    All-cons (IsOfFeed head.name.id) d older (record { is_doc = All-head IsDoc d older documents; same = refl })
    (archives-of_feed ends head history number (All-tail IsDoc d older documents))

chain_of-of_feed : (ends : ℕ → ℕ) (archives : ℕ) (head : HeadValue) (history : List Op)
    → All IsDoc (chain_of ends archives head history)
    → All (IsOfFeed head.name.id) (chain_of ends archives head history)
unfolding chain_of subscription_of document_of name_of
chain_of-of_feed ends archives head history documents =
    let d = subscription_of ends archives head history in
    let older = down_from (archive_of ends head history) archives in
    All-cons (IsOfFeed head.name.id) d older (record { is_doc = All-head IsDoc d older documents; same = refl })
    (archives-of_feed ends head history archives (All-tail IsDoc d older documents))

chain-of_feed : (head : HeadValue) (history : List Op) → All IsDoc (chain head history)
    → All (IsOfFeed head.name.id) (chain head history)
unfolding chain
chain-of_feed head history documents =
    chain_of-of_feed (windows_of head history).ends (windows_of head history).sealed head history documents

-- the live entries of the history are those that count in its chain
chain-counts : (head : HeadValue) (history : List Op) → IsHead head → IsLawful head history
    → LiveCounts history (chain head history)
chain-counts head history is_head lawful number entry =
    let shown = (law-of_chain head history is_head lawful).live number in
    let whole : take (length history) history ≡ history = take_all (length history) history (omega arith) in
    let counts = subst (λ (covered : List Op). Counts (chain head covered) number entry
    ↔ (live_of (chain head covered) number ≡ Some entry)) whole
    (live_of-counts head history (length history) is_head lawful (omega arith) number entry) in (
      λ one. sym shown ∙ counts.0 one,
      λ live. counts.1 (shown ∙ live),
    )

pub own-walked : CanonicalTextIsRead → OwnChainsAreWalked
own-walked canonical head history answers serves =
    chain-walk canonical head history answers serves (law-of_chain head history serves.is_head serves.is_lawful).rules

pub own-read : CanonicalTextIsRead → WalksEndInOneWay → OwnChainsAreRead
own-read canonical one_way head history answers asked documents end serves walks =
    let served = chain head history in
    let rules = (law-of_chain head history serves.is_head serves.is_lawful).rules in
    let same = one_way answers (printed head.name.base Feed) asked (map (address_in head.name.base) served) documents
    (map foreign_document served) end Complete walks (chain-walk canonical head history answers serves rules) in
    record {
      complete = same.end;
      asked_are = same.asked;
      documents_are = same.documents;
      live = λ live is_live. live-entries head history served serves.is_head.name.id
          (chain-of_feed head history rules) (chain-counts head history serves.is_head serves.is_lawful) live
          (subst (λ (ds : List DocumentValue). IsForeignLive ds live) same.documents is_live);
    }
