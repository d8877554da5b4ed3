-- The text of a member document (RFC 5023 section 9).
use Rattle.std.specs.Prelude.{ℕ, List, [], ◌∷◌, ◌++◌, false, codes}
use Rattle.atom_values.specs.declared.person.Person.{Person}
use Rattle.atom_values.specs.Entry.{EntryValue}
use Rattle.atom_values.specs.Escape.{escaped}
use Rattle.atom_writer.specs.declared.doc.FeedName.{FeedName}
use Rattle.atom_writer.specs.Entries.{front_text, back_text}
use Rattle.atom_writer.specs.Parts.{persons_text}
use Rattle.atom_writer.specs.Pieces.{declaration_piece}

unfoldable pub member_open : List ℕ
member_open = codes "<entry xmlns=\"http://www.w3.org/2005/Atom\" xmlns:app=\"http://www.w3.org/2007/app\">"

-- the authors that a member document shows: the entry's, or the feed's if the entry has none (RFC 4287 section 4.1.2)
unfoldable pub shown_authors : FeedName → List Person → List ℕ
shown_authors name [] = codes "<author><name>" ++ escaped false name.author ++ codes "</name></author>"
shown_authors name (person ∷ more) = persons_text (codes "author") (person ∷ more)

-- the text of the member document
unfoldable pub member_text : FeedName → EntryValue → List ℕ
member_text name e =
    declaration_piece ++ member_open ++ front_text name e ++ shown_authors name e.authors ++ back_text name e
    ++ codes "</entry>\n"
