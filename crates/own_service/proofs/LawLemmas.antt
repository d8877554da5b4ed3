-- The service document of a feed is read as the feed's collection.
use Rattle.std.proofs.Common.{◌≡◌, List, ℕ, Some, subst}
use Rattle.chain_links.specs.Address.{printed}
use Rattle.chain_links.specs.Checked.{IsUrlText}
use Rattle.chain_links.specs.declared.address.Address.TheVariants.{Feed}
use Rattle.atom_writer.specs.Doc.{IsFeedName}
use Rattle.atom_writer.specs.declared.doc.FeedName.{FeedName}
use Rattle.xml_tokens.specs.Tree.{IsDocument}
use Rattle.feed_reader.specs.Feed.{joined_to}
use Rattle.service_reader.specs.ServiceDocument.{service_depth}
use Rattle.canonical_feed.proofs.CleanLemmas.{clean_address}
use Rattle.canonical_feed.proofs.LinkLemmas.{begins_http, joined_is}
use Rattle.canonical_feed.proofs.UrlAsciiLemmas.{url_utf8}
use Rattle.own_service.specs.Laws.{ServiceDocIsRead}
use Rattle.own_service.proofs.ServiceDocumentLemmas.{content_of, is_document, service_element}
use Rattle.own_service.proofs.ServiceNodeLemmas.{service_node, service_node_good, service_node_text}
use Rattle.own_service.proofs.ServiceReadLemmas.{service_clear, service_collections}

-- the feed's address leads to itself, in the document of any address
feed_joined : (name : FeedName) (from : List ℕ) → IsFeedName name → IsUrlText from →
    IsUrlText (printed name.base Feed) → joined_to from (printed name.base Feed) ≡ Some (printed name.base Feed)
feed_joined name from is url feed_url =
    let begins = begins_http name.base Feed is.base in
    joined_is from (printed name.base Feed) begins.0 (url_utf8 from url) url feed_url begins.1
    (clean_address name.base Feed is.base tt)

pub service_read : ServiceDocIsRead
service_read name from is url feed_url =
    let content = content_of (service_node name) in
    let joined = feed_joined name from is url feed_url in
    record {
      root = service_element;
      content = content;
      document = subst (λ t. IsDocument service_depth t service_element content) (service_node_text name is.base)
          (is_document (service_node name) (service_node_good name is));
      faultless = service_clear name from joined;
      read = service_collections name from joined;
    }
