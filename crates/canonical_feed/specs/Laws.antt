-- The law that the crates above cite. It is a clause of a function of laws.rt.
use Rattle.std.specs.Prelude.{ℕ, List, IfSome}
use Rattle.atom_writer.specs.Doc.{DocValue, IsDoc}
use Rattle.atom_writer.specs.Pieces.{text}
use Rattle.chain_links.specs.Checked.{IsUrlText}
use Rattle.feed_reader.specs.FeedDocument.{SpellsFeed}
use Rattle.canonical_feed.specs.Reading.{foreign_document, prev_address}

-- The canonical text of a document is read as its identifiers, titles and dates, at any address that is a URL. The
-- address of the archive before it is one that the parser of the URL Standard leaves as it is.
abbrev pub CanonicalTextIsRead : Type 0
CanonicalTextIsRead =
    (d : DocValue) (address : List ℕ) → IsDoc d → IsUrlText address → IfSome (prev_address d) IsUrlText
    → SpellsFeed (text d) address (foreign_document d)
