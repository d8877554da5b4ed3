-- The canonical text of a document spells it.
use Rattle.std.proofs.Common.{◌≡◌, ℕ, Bool, false, List, subst, Some, None}
use Rattle.std.specs.Prelude.{◌==◌, if◌then◌else◌, IfSome}
use Rattle.chain_links.specs.Address as address
use Rattle.chain_links.specs.Checked.{IsUrlText}
use Rattle.chain_links.specs.declared.address.Address.TheVariants.{Archive}
use Rattle.atom_writer.specs.Doc.{DocValue, IsDoc}
use Rattle.atom_writer.specs.Pieces.{text}
use Rattle.feed_reader.specs.Feed.{joined_to}
use Rattle.feed_reader.specs.FeedDocument.{SpellsFeed}
use Rattle.xml_tokens.specs.Tree.{IsDocument}
use Rattle.canonical_feed.specs.Reading.{foreign_document, prev_address}
use Rattle.canonical_feed.proofs.CleanLemmas.{clean_address}
use Rattle.canonical_feed.proofs.ClearLemmas.{document_clear}
use Rattle.canonical_feed.proofs.DocumentLemmas.{content_of, feed_element, is_document}
use Rattle.canonical_feed.proofs.FeedNodeLemmas.{feed_node, feed_node_text}
use Rattle.canonical_feed.proofs.GoodLemmas.{feed_node_good}
use Rattle.canonical_feed.proofs.LinkLemmas.{begins_http, joined_is}
use Rattle.canonical_feed.proofs.ReadLemmas.{document_read}
use Rattle.canonical_feed.proofs.UrlAsciiLemmas.{url_utf8}

-- the link to the archive before leads to its address
prev_joined : (d : DocValue) (from : List ℕ) → IsDoc d → IsUrlText from →
    IfSome (prev_address d) IsUrlText → (d.prev == 0) ≡ false →
    joined_to from (address.printed d.name.base (Archive d.prev)) ≡ Some (address.printed d.name.base (Archive d.prev))
prev_joined d from is url prev other =
    let to = address.printed d.name.base (Archive d.prev) in
    let P : Bool → Type 0 = λ b. IfSome (if b then None else Some to) IsUrlText in
    let begins = begins_http d.name.base (Archive d.prev) is.name.base in
    joined_is from to begins.0 (url_utf8 from url) url (subst P other prev) begins.1
    (clean_address d.name.base (Archive d.prev) is.name.base is.prev)

pub canonical_read : (d : DocValue) (from : List ℕ) → IsDoc d → IsUrlText from →
    IfSome (prev_address d) IsUrlText → SpellsFeed (text d) from (foreign_document d)
canonical_read d from is url prev =
    let n = feed_node d in
    let joined = prev_joined d from is url prev in
    record {
      root = feed_element;
      content = content_of n;
      document = subst (λ t. IsDocument 256 t feed_element (content_of n)) (feed_node_text d is)
          (is_document n (feed_node_good d is));
      faultless = document_clear d from is joined;
      read = document_read d from is joined;
    }
