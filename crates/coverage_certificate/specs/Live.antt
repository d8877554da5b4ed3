-- The live entries of a list of documents, and their digest.
use Rattle.std.specs.Prelude.{ℕ, List, flat_map}
use Rattle.atom_values.specs.Entry.{EntryValue}
use Rattle.atom_writer.specs.Doc.{DocValue}
use Rattle.atom_writer.specs.Members.{member_text}
use Rattle.atom_writer.specs.declared.doc.FeedName.{FeedName}
use Rattle.member_rules.specs.Shows.{greatest_member, live_of}
use Rattle.mirror_walk.specs.Listing.{entries_up_to}
use Rattle.coverage_certificate.specs.Digest.{digest_of}

-- the live entries of documents, newest first, in order of number
unfoldable pub live_entries_of : List DocValue → List EntryValue
live_entries_of documents = entries_up_to (live_of documents) (greatest_member documents)

-- the member documents of these entries, joined
unfoldable pub live_text : FeedName → List EntryValue → List ℕ
live_text name entries = flat_map (member_text name) entries

-- the digest of the member documents of these entries
abbrev pub live_digest_of : FeedName → List EntryValue → List ℕ
live_digest_of name entries = digest_of (live_text name entries)
