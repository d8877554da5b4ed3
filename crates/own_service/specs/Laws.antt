-- The law that the crates above cite. It is a clause of a function of laws.rt.
use Rattle.std.specs.Prelude.{ℕ, List, [], ◌∷◌, true}
use Rattle.atom_writer.specs.Doc.{IsFeedName}
use Rattle.atom_writer.specs.declared.doc.FeedName.{FeedName}
use Rattle.chain_links.specs.Address.{printed}
use Rattle.chain_links.specs.Checked.{IsUrlText}
use Rattle.chain_links.specs.declared.address.Address.TheVariants.{Feed}
use Rattle.service_face.specs.Service.{service_text}
use Rattle.service_reader.specs.ServiceDocument.{SpellsService}

-- The service document of a feed, at any address that is a URL, is read as one collection, which has the feed's address
-- and takes entries. The feed's address is one that the parser of the URL Standard leaves as it is.
abbrev pub ServiceDocIsRead : Type 0
ServiceDocIsRead =
    (name : FeedName) (address : List ℕ) → IsFeedName name → IsUrlText address → IsUrlText (printed name.base Feed)
    → SpellsService (service_text name) address (record { href = printed name.base Feed; entries = true } ∷ [])
