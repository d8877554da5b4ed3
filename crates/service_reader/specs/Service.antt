-- What a service document says (RFC 5023 section 8).
use Rattle.std.specs.Prelude.{◌≡◌, ℕ, List, [], ◌∷◌, flat_map, Bool, true, ◌||◌, Some, codes, bytes_eq}
use Rattle.std.specs.List.{AllZip, list_any}
use Rattle.xml_tokens.specs.Tree.{Name, Content}
use Rattle.xml_tokens.specs.Children.{Child, named, same_name}
use Rattle.xml_tokens.specs.Names.{app}
use Rattle.feed_reader.specs.Feed.{cut_text, target}
use Rattle.service_reader.specs.declared.values.Collection.{Collection}

-- the greatest number of collections of a service document
abbrev pub collection_limit : ℕ
collection_limit = 64

-- the element of this local name of the Atom Publishing Protocol
abbrev pub is_app : List ℕ → Name → Bool
is_app local name = same_name name (app local)

-- the type of entries, or that of Atom documents
abbrev pub is_entry_type : List ℕ → Bool
is_entry_type text =
    bytes_eq text (codes "application/atom+xml;type=entry") || bytes_eq text (codes "application/atom+xml")

-- an `accept` has the type of entries
abbrev pub is_entry_accept : Child → Bool
is_entry_accept c = is_entry_type (cut_text c)

-- a collection with these `accept` children takes entries; without one it does
abbrev pub do_accept_entries : List Child → Bool
do_accept_entries [] = true
do_accept_entries (c ∷ cs) = list_any is_entry_accept (c ∷ cs)

abbrev pub takes_entries : Child → Bool
takes_entries c = do_accept_entries (named (app (codes "accept")) c.content)

-- the collections of a workspace
abbrev pub collections_in : Content → List Child
collections_in inner = named (app (codes "collection")) inner

-- those of all workspaces of a service, in document order
abbrev pub collections_of : Content → List Child
collections_of inner = flat_map (λ (w : Child). collections_in w.content) (named (app (codes "workspace")) inner)

-- an element in the document of an address is read as this collection, if it isn't refused
pub record IsCollectionOf (address : List ℕ) (c : Child) (collection : Collection) : Type 0 where
  pub href : target address c ≡ Some collection.href
  pub entries : collection.entries ≡ takes_entries c

-- the elements are read as these collections
abbrev pub AreCollectionsOf : List ℕ → List Child → List Collection → Type 0
AreCollectionsOf address cs collections = AllZip (IsCollectionOf address) cs collections
