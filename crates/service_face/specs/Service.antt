-- The service document of a feed (RFC 5023 section 8).
use Rattle.std.specs.Prelude.{ℕ, List, ◌++◌, false, codes}
use Rattle.atom_values.specs.Escape.{escaped}
use Rattle.atom_writer.specs.declared.doc.FeedName.{FeedName}
use Rattle.chain_links.specs.Address.{printed}
use Rattle.chain_links.specs.declared.address.Address.TheVariants.{Feed}

-- an element of Atom that has this text
abbrev pub title_element : List ℕ → List ℕ
title_element title = codes "<atom:title>" ++ escaped false title ++ codes "</atom:title>"

-- the collection of the feed's members, which takes entries
abbrev pub collection : List ℕ → List ℕ → List ℕ
collection base title =
    codes "<collection href=\"" ++ printed base Feed ++ codes "\">" ++ title_element title
    ++ codes "<accept>application/atom+xml;type=entry</accept></collection>"

-- the document of a feed with this base address and title
unfoldable pub titled_service : List ℕ → List ℕ → List ℕ
titled_service base title =
    codes "<?xml version=\"1.0\" encoding=\"utf-8\"?>\n"
    ++ codes "<service xmlns=\"http://www.w3.org/2007/app\" xmlns:atom=\"http://www.w3.org/2005/Atom\">"
    ++ codes "<workspace>" ++ title_element title ++ collection base title ++ codes "</workspace></service>\n"

abbrev pub service_text : FeedName → List ℕ
service_text name = titled_service name.base name.title
