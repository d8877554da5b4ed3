-- The parts that a reader has read of a service document so far.
use Rattle.std.specs.Prelude.{◌≡◌, ℕ, List, [], ◌∷◌, ◌++◌, length, Some, None, is_some, Result, Ok, Err, codes}
use Rattle.std.specs.List.{list_any}
use Rattle.atom_values.specs.Listed.{Listed}
use Rattle.xml_tokens.specs.declared.elements.Element.{Element as RawElement}
use Rattle.xml_tokens.specs.declared.elements.Elements.{Elements}
use Rattle.xml_tokens.specs.declared.fault.TokenFault.{TokenFault}
use Rattle.xml_tokens.specs.declared.fault.TokenFault.TheVariants.{NotRead, NoMemory}
use Rattle.xml_tokens.specs.Tree.{Element, Content, IsDocument}
use Rattle.xml_tokens.specs.Tree.Event.{begin}
use Rattle.xml_tokens.specs.Children.{Child, first_of, named}
use Rattle.xml_tokens.specs.Names.{app}
use Rattle.xml_tokens.specs.Progress.{IsElementOf, IsFaultFrom, IsLed, first_point}
use Rattle.xml_tokens.specs.Refusal.{IsTokenRefusedAt}
use Rattle.xml_tokens.specs.Order.{IsFirst}
use Rattle.service_reader.specs.declared.accept.Accepts.{Accepts}
use Rattle.service_reader.specs.declared.fault.ServiceRead.{ServiceRead}
use Rattle.service_reader.specs.declared.fault.ServiceRead.TheVariants.{NotRead as ServiceNotRead}
use Rattle.service_reader.specs.declared.fault.ServiceRead.TheVariants.{NoMemory as OutOfMemory}
use Rattle.service_reader.specs.declared.fault.ServiceWhy.{ServiceWhy}
use Rattle.service_reader.specs.declared.fault.ServiceWhy.TheVariants.{Token}
use Rattle.service_reader.specs.declared.found.Found.{Found}
use Rattle.service_reader.specs.declared.values.Collection.{Collection}
use Rattle.service_reader.specs.Service.{AreCollectionsOf, collections_of, is_entry_accept}
use Rattle.service_reader.specs.ServiceFaults.{placed_after, service_rules}
use Rattle.service_reader.specs.ServiceDocument.{IsRefusalIn, service_depth}

-- the refusal of a service document for one of its tokens
abbrev pub service_fault : TokenFault → ServiceRead
service_fault (NotRead at why) = ServiceNotRead at (Token why)
service_fault NoMemory = OutOfMemory

-- the `accept` children of a collection whose content is read so far
pub record AreAccepted (b : Content) (accepts : Accepts) : Type 0 where
  pub any : accepts.any ≡ is_some (first_of (named (app (codes "accept")) b))
  pub entry : accepts.entry ≡ list_any is_entry_accept (named (app (codes "accept")) b)

-- what is read of these collections in the document of an address
pub record AreFound (address : List ℕ) (seen : List Child) (found : Found) : Type 0 where
  pub refused : IsFirst (service_rules address) (placed_after [] seen) found.refused
  pub read : found.refused ≡ None → AreCollectionsOf address seen found.collections.items

-- what is read of more collections, whatever was seen before them
abbrev pub AreAdded : List ℕ → Found → List Child → Found → Type 0
AreAdded address start more found =
    (seen : List Child) → AreFound address seen start → AreFound address (seen ++ more) found

-- what is made of these collections
abbrev pub AreMade : List ℕ → List Child → Result (Listed Collection) (ℕ × ServiceWhy) → Type 0
AreMade address cs (Ok made) =
    AreCollectionsOf address cs made.items × IsFirst (service_rules address) (placed_after [] cs) None
AreMade address cs (Err refusal) = IsFirst (service_rules address) (placed_after [] cs) (Some refusal)

-- the tag of the root is read first, or the fault is why not
abbrev pub IsRootRead : List ℕ → Result RawElement TokenFault → Elements → Type 0
IsRootRead bytes (Ok raw) new =
    (root : Element) × IsElementOf root raw
    × IsLed (length bytes) [] (first_point service_depth bytes) (begin root ∷ []) new
IsRootRead bytes (Err fault) new = IsFaultFrom (length bytes) (first_point service_depth bytes) fault

-- the collections of the document are read, or it has this refusal
abbrev pub IsDocumentRead : List ℕ → Element → Content → Result (Listed Collection) (ℕ × ServiceWhy) → Type 0
IsDocumentRead address root content (Ok made) =
    AreCollectionsOf address (collections_of content) made.items × IsRefusalIn address root content None
IsDocumentRead address root content (Err refusal) = IsRefusalIn address root content (Some refusal)

-- the bytes are read as a document, or the fault is why not
abbrev pub IsReadAs : List ℕ → List ℕ → Result (Result (Listed Collection) (ℕ × ServiceWhy)) TokenFault → Type 0
IsReadAs bytes address (Ok made) =
    (root : Element) × (content : Content) × IsDocument service_depth bytes root content
    × IsDocumentRead address root content made
IsReadAs bytes address (Err (NotRead at why)) = IsTokenRefusedAt service_depth bytes at why
IsReadAs bytes address (Err NoMemory) = Unit {0}
