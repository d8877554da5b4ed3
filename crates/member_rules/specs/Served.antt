-- Which bytes a feed serves at which address, after some history.
use Rattle.std.specs.Prelude.{◌≡◌, ◌⊎◌, ℕ, ◌≤◌, List, take, length}
use Rattle.atom_writer.specs.Doc.{DocValue, IsDoc}
use Rattle.atom_writer.specs.Pieces.{own_address, text}
use Rattle.chain_links.specs.Address.{printed}
use Rattle.chain_links.specs.declared.address.Address.TheVariants.{Feed, Archive}
use Rattle.member_rules.specs.declared.operation.Op.{Op}
use Rattle.member_rules.specs.Head.{HeadValue, IsHead}
use Rattle.member_rules.specs.History.{IsLawful}
use Rattle.member_rules.specs.Windows.{windows_of}
use Rattle.member_rules.specs.Documents.{archive, subscription}

-- at the feed's address, the subscription document after the first operations, however many
pub record ServesFeed (head : HeadValue) (history : List Op) (address bytes : List ℕ) : Type 0 where
  pub version : ℕ
  pub past : version ≤ length history
  pub there : address ≡ printed head.name.base Feed
  pub text : bytes ≡ text (subscription head (take version history))

-- at the address of a sealed archive, that archive
pub record ServesArchive (head : HeadValue) (history : List Op) (address bytes : List ℕ) : Type 0 where
  pub number : ℕ
  pub of_sealed : (1 ≤ number) × (number ≤ (windows_of head history).sealed)
  pub there : address ≡ printed head.name.base (Archive number)
  pub text : bytes ≡ text (archive head history number)

-- a feed with this head and this lawful history serves these bytes at this address
pub record Served (head : HeadValue) (history : List Op) (address bytes : List ℕ) : Type 0 where
  pub is_head : IsHead head
  pub is_lawful : IsLawful head history
  pub served : ServesFeed head history address bytes ⊎ ServesArchive head history address bytes

-- the bytes are the text of a document at its own address, in the feed with this head
pub record IsServedDoc (head : HeadValue) (address bytes : List ℕ) : Type 0 where
  pub document : DocValue
  pub is_doc : IsDoc document
  pub there : address ≡ printed head.name.base (own_address document.kind)
  pub text : bytes ≡ text document
  pub base : document.name.base ≡ head.name.base
  pub id : document.name.id ≡ head.name.id
