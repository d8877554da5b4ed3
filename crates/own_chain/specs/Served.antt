-- A source that serves the chain of one of this project's feeds, and what a foreign walk finds there.
use Rattle.std.specs.Prelude.{◌≡◌, ◌↔◌, ℕ, ◌≤◌, List, Option, Some, All, Contains}
use Rattle.atom_values.specs.Entry.{EntryValue}
use Rattle.atom_writer.specs.Doc.{DocValue}
use Rattle.atom_writer.specs.Pieces.{own_address, text}
use Rattle.chain_links.specs.Address.{printed}
use Rattle.chain_links.specs.Checked.{IsUrlText}
use Rattle.member_rules.specs.Chain.{chain}
use Rattle.member_rules.specs.Fold.{fold_of}
use Rattle.member_rules.specs.Head.{HeadValue, IsHead}
use Rattle.member_rules.specs.History.{IsLawful}
use Rattle.member_rules.specs.Windows.{windows_of}
use Rattle.member_rules.specs.declared.operation.Op.{Op}
use Rattle.feed_reader.specs.declared.values.ForeignEntry.{ForeignEntry}
use Rattle.foreign_entries.specs.Live.{IsRising}
use Rattle.canonical_feed.specs.Reading.{foreign_entry}

-- the address of a document of the feed with this base
abbrev pub address_in : List ℕ → DocValue → List ℕ
address_in base d = printed base (own_address d.kind)

-- the source answers the document's address with its text, and the parser of the URL Standard leaves the address as it is
pub record IsAnsweredWith (answers : List ℕ → Option (List ℕ)) (base : List ℕ) (d : DocValue) : Type 0 where
  pub is_url : IsUrlText (address_in base d)
  pub answer : answers (address_in base d) ≡ Some (text d)

-- the greatest number of sealed archives of a feed that a foreign walk reads whole
abbrev pub archive_limit : ℕ
archive_limit = 9_999

-- the source serves the chain of a feed, as it was after this lawful history
pub record ServesChain (head : HeadValue) (history : List Op) (answers : List ℕ → Option (List ℕ)) : Type 0 where
  pub is_head : IsHead head
  pub is_lawful : IsLawful head history
  pub few : (windows_of head history).sealed ≤ archive_limit
  pub answered : All (IsAnsweredWith answers head.name.base) (chain head history)

-- the entry is what a reader of any server's feeds takes of one of the history's live entries
pub record IsLiveEntry (head : HeadValue) (history : List Op) (e : ForeignEntry) : Type 0 where
  pub number : ℕ
  pub entry : EntryValue
  pub live : (fold_of history).live number ≡ Some entry
  pub is : e ≡ foreign_entry head.name entry

-- exactly the live entries of the history, in the order of their identifiers' bytes
pub record AreLiveEntries (head : HeadValue) (history : List Op) (live : List ForeignEntry) : Type 0 where
  pub rising : IsRising live
  pub exact : (e : ForeignEntry) → Contains live e ↔ IsLiveEntry head history e
