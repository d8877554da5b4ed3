-- The text between the tags of an entry (RFC 4287 section 4.1.2). It is the same in a feed and in a member document,
-- but for the authors of an entry that has none.
use Rattle.std.specs.Prelude.{ℕ, List, [], ◌++◌, ℤ, flat_map, false, Option, Some, None, codes}
use Rattle.atom_values.specs.declared.text.Text.{Text}
use Rattle.atom_values.specs.declared.text.TextKind.{TextKind}
use Rattle.atom_values.specs.declared.text.TextKind.TheVariants.{Plain, Html}
use Rattle.atom_values.specs.Entry.{EntryValue}
use Rattle.atom_values.specs.Escape.{escaped}
use Rattle.atom_values.specs.Stamp as stamp
use Rattle.chain_links.specs.Address as address
use Rattle.chain_links.specs.declared.address.Address.TheVariants.{Member}
use Rattle.deleted_entries.specs.FeedId.{member_id}
use Rattle.atom_writer.specs.declared.doc.FeedName.{FeedName}
use Rattle.atom_writer.specs.Parts.{persons_text, link_text, category_text}

-- the attribute that states the kind of a text, with a space before it
abbrev pub open_attributes : TextKind → List ℕ
open_attributes Plain = []
open_attributes Html = codes " type=\"html\""

-- a text construct in an element of this tag (RFC 4287 section 3.1)
unfoldable pub construct : List ℕ → Text → List ℕ
construct tag t =
    codes "<" ++ tag ++ open_attributes t.kind ++ codes ">" ++ escaped false t.value ++ codes "</" ++ tag ++ codes ">"

unfoldable pub optional_construct : List ℕ → Option Text → List ℕ
optional_construct tag None = []
optional_construct tag (Some t) = construct tag t

-- the link to the member's own address (RFC 5023 section 11.1)
unfoldable pub edit_link : FeedName → ℕ → List ℕ
edit_link name number =
    codes "<link rel=\"edit\" href=\"" ++ address.printed name.base (Member number) ++ codes "\"/>"

-- the timestamp of the first publication, if it is known (RFC 4287 section 4.2.9)
unfoldable pub published_text : Option ℤ → List ℕ
published_text None = []
published_text (Some moment) = codes "<published>" ++ stamp.printed moment ++ codes "</published>"

-- the text before the authors (RFC 5023 section 10.2 for `app:edited`)
unfoldable pub front_text : FeedName → EntryValue → List ℕ
front_text name e =
    codes "<id>" ++ member_id name.id e.number ++ codes "</id>" ++ construct (codes "title") e.title
    ++ codes "<updated>"
    ++ stamp.printed e.updated ++ codes "</updated>" ++ published_text e.published ++ codes "<app:edited>"
    ++ stamp.printed e.edited ++ codes "</app:edited>"

-- the text after the authors
unfoldable pub back_text : FeedName → EntryValue → List ℕ
back_text name e =
    persons_text (codes "contributor") e.contributors ++ edit_link name e.number ++ flat_map link_text e.links
    ++ flat_map category_text e.categories ++ optional_construct (codes "rights") e.rights
    ++ optional_construct (codes "summary") e.summary ++ optional_construct (codes "content") e.content

-- the text between the tags
unfoldable pub inner_text : FeedName → EntryValue → List ℕ
inner_text name e = front_text name e ++ persons_text (codes "author") e.authors ++ back_text name e
