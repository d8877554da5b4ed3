-- The laws that the crates above cite. Each is a clause of a function of laws.rt.
use Rattle.std.specs.Prelude.{◌≡◌, ℕ, List, Option, map}
use Rattle.chain_links.specs.Address.{printed}
use Rattle.chain_links.specs.declared.address.Address.TheVariants.{Feed}
use Rattle.member_rules.specs.Chain.{chain}
use Rattle.member_rules.specs.Head.{HeadValue}
use Rattle.member_rules.specs.declared.operation.Op.{Op}
use Rattle.feed_reader.specs.Feed.{DocumentValue}
use Rattle.feed_reader.specs.declared.values.ForeignEntry.{ForeignEntry}
use Rattle.foreign_entries.specs.Live.{IsForeignLive}
use Rattle.foreign_mirror.specs.declared.walk.ChainEnd.{ChainEnd}
use Rattle.foreign_mirror.specs.declared.walk.ChainEnd.TheVariants.{Complete}
use Rattle.foreign_mirror.specs.Walk.{WalksFrom}
use Rattle.foreign_mirror.specs.Walk.Ending.{over}
use Rattle.canonical_feed.specs.Reading.{foreign_document}
use Rattle.own_chain.specs.Served.{AreLiveEntries, ServesChain, address_in}

-- a foreign walk over the chain of one of this project's feeds asks for each of its documents, reads them all, and shows
-- exactly the live entries of the history
pub record ReadsTheChain (head : HeadValue) (history : List Op) (asked : List (List ℕ))
    (documents : List DocumentValue) (end : ChainEnd) : Type 0 where
  pub complete : end ≡ Complete
  pub asked_are : asked ≡ map (address_in head.name.base) (chain head history)
  pub documents_are : documents ≡ map foreign_document (chain head history)
  pub live : (live : List ForeignEntry) → IsForeignLive documents live → AreLiveEntries head history live

-- a source that serves the chain has such a walk
abbrev pub OwnChainsAreWalked : Type 0
OwnChainsAreWalked =
    (head : HeadValue) (history : List Op) (answers : List ℕ → Option (List ℕ)) → ServesChain head history answers
    → WalksFrom answers (printed head.name.base Feed) (map (address_in head.name.base) (chain head history))
    (map foreign_document (chain head history)) (over Complete)

-- each walk that comes to an end is that one
abbrev pub OwnChainsAreRead : Type 0
OwnChainsAreRead =
    (head : HeadValue) (history : List Op) (answers : List ℕ → Option (List ℕ)) (asked : List (List ℕ))
    (documents : List DocumentValue) (end : ChainEnd) → ServesChain head history answers
    → WalksFrom answers (printed head.name.base Feed) asked documents (over end)
    → ReadsTheChain head history asked documents end
