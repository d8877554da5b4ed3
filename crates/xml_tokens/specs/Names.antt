-- The names of the elements that readers of feeds tell apart, by their namespaces.
use Rattle.std.specs.Prelude.{ℕ, List, codes}
use Rattle.xml_tokens.specs.Tree.{Name}

-- a name of Atom (RFC 4287 section 2)
abbrev pub atom : List ℕ → Name
atom local = record { namespace = codes "http://www.w3.org/2005/Atom"; local = local }

-- a name of the Atom Publishing Protocol (RFC 5023 section 4.1)
abbrev pub app : List ℕ → Name
app local = record { namespace = codes "http://www.w3.org/2007/app"; local = local }

-- a name of the deleted entries of Atom (RFC 6721 section 3)
abbrev pub tombstones : List ℕ → Name
tombstones local = record { namespace = codes "http://purl.org/atompub/tombstones/1.0"; local = local }
