-- The content of the service document is read as the one collection of the feed.
use Rattle.std.proofs.Common.{◌≡◌, ℕ, ◌+◌, true, false, List, [], ◌∷◌, length, Some, None, refl, sym, ap, lit<}
use Rattle.std.specs.Prelude.{◌||◌}
use Rattle.std.proofs.lemmas.List.Elements.{All-nil}
use Rattle.chain_links.specs.Address.{printed}
use Rattle.chain_links.specs.declared.address.Address.TheVariants.{Feed}
use Rattle.atom_writer.specs.declared.doc.FeedName.{FeedName}
use Rattle.xml_tokens.specs.Children.{Child}
use Rattle.feed_reader.specs.Feed.{joined_to}
use Rattle.xml_tokens.specs.Order.{IsFaultless}
use Rattle.service_reader.specs.Service.{AreCollectionsOf, collections_of, is_entry_type, takes_entries}
use Rattle.service_reader.specs.ServiceDocument.{IsRefusalIn}
use Rattle.service_reader.specs.ServiceFaults.{service_rules}
use Rattle.service_reader.proofs.ServiceFaultLemmas.{collection_good, first_inside, first_more}
use Rattle.canonical_feed.proofs.KidLemmas.{clean_cut, kid_of}
use Rattle.canonical_feed.proofs.NodeLemmas.{after, begin_tag, close_text, tag_text}
use Rattle.canonical_feed.proofs.NodeLemmas.Node.{done, words}
use Rattle.own_service.proofs.ServiceDocumentLemmas.{content_at, content_of, service_element}
use Rattle.own_service.proofs.ServiceNodeLemmas.{accept_name, collection_name, collection_node, collection_settings}
use Rattle.own_service.proofs.ServiceNodeLemmas.{entry_type, service_node, service_scope, title_name, workspace_name}

-- the offset after a title that begins at an offset
abbrev behind_title : FeedName → ℕ → ℕ
behind_title name at =
    after (at + length (tag_text (begin_tag title_name []))) (words name.title done) + length (close_text title_name)

-- the offset of the collection
abbrev collection_at : FeedName → ℕ
collection_at name = behind_title name (content_at + length (tag_text (begin_tag workspace_name [])))

-- the collection in the document
abbrev the_collection : FeedName → Child
the_collection name =
    kid_of service_scope collection_name (collection_settings name) (collection_node name) (collection_at name)

one_collection : (name : FeedName) → collections_of (content_of (service_node name)) ≡ the_collection name ∷ []
one_collection name = refl

-- the offset of the text of its `accept`
abbrev accept_at : FeedName → ℕ
accept_at name =
    behind_title name (collection_at name + length (tag_text (begin_tag collection_name (collection_settings name))))
    + length (tag_text (begin_tag accept_name []))

collection_takes : (name : FeedName) → takes_entries (the_collection name) ≡ true
collection_takes name = ap (λ t. is_entry_type t || false) (clean_cut service_scope (accept_at name) entry_type refl)

module _ (name : FeedName) (from : List ℕ)
    (joined : joined_to from (printed name.base Feed) ≡ Some (printed name.base Feed)) where
  pub service_clear : IsRefusalIn from service_element (content_of (service_node name)) None
  service_clear =
      first_inside from service_element (content_of (service_node name)) (the_collection name ∷ []) None refl
      (first_more from [] (the_collection name) None (All-nil (IsFaultless (service_rules from)))
      (collection_good from [] (the_collection name) (printed name.base Feed) joined (lit< tt)))

  pub service_collections : AreCollectionsOf from (collections_of (content_of (service_node name)))
      (record { href = printed name.base Feed; entries = true } ∷ [])
  service_collections = (record { href = joined; entries = sym (collection_takes name) }, tt)
