-- The service document of a feed as content, and its text.
use Rattle.std.proofs.Common.{◌≡◌, ℕ, ◌<◌, true, List, [], ◌∷◌, ◌++◌, refl, ap, inl, inr, ◌∙◌, codes, lit<}
use Rattle.std.proofs.Common.{append_assoc, append-nil}
use Rattle.std.specs.Prelude.{bytes_eq, is_some, IsTrue}
use Rattle.std.specs.List.{IsDistinct, list_all}
use Rattle.atom_values.specs.Escape.{escaped}
use Rattle.chain_links.specs.Address.{printed}
use Rattle.chain_links.specs.Base.{IsBase}
use Rattle.chain_links.specs.declared.address.Address.TheVariants.{Feed}
use Rattle.atom_writer.specs.Doc.{IsFeedName}
use Rattle.atom_writer.specs.declared.doc.FeedName.{FeedName}
use Rattle.xml_tokens.specs.Characters.{QName, IsQName, name_text}
use Rattle.xml_tokens.specs.Tokens.{Attribute, Tag}
use Rattle.xml_tokens.specs.Stages.{Scope, inner_scope, namespace_of, outer_scope}
use Rattle.xml_tokens.proofs.XmlLemmas.{printable, printable_xml}
use Rattle.service_face.specs.Service.{collection, service_text, title_element, titled_service}
use Rattle.canonical_feed.proofs.CleanLemmas.{clean_address, clean_kept, clean_xml}
use Rattle.canonical_feed.proofs.DocumentLemmas.{declaration_text, declares}
use Rattle.canonical_feed.proofs.NodeLemmas.{Node, IsAllowed, IsGood, IsGoodTag, begin_tag, node_text, tag_text}
use Rattle.canonical_feed.proofs.NodeLemmas.Node.{done, full}
use Rattle.canonical_feed.proofs.PartNodeLemmas.{clean_holds, holds, plain, raw_holds, setting}

abbrev pub service_name : QName
service_name = plain (codes "service")

-- the tag of a service document, with its namespaces
abbrev pub service_tag : Tag
service_tag =
    begin_tag service_name
    (setting (codes "xmlns") (codes "http://www.w3.org/2007/app")
    ∷ declares (codes "atom") (codes "http://www.w3.org/2005/Atom") ∷ [])

-- the scope in the service
abbrev pub service_scope : Scope
service_scope = inner_scope outer_scope service_tag

abbrev pub title_name : QName
title_name = record { prefix = codes "atom"; local = codes "title" }

abbrev pub accept_name : QName
accept_name = plain (codes "accept")

-- the type of entries
abbrev pub entry_type : List ℕ
entry_type = codes "application/atom+xml;type=entry"

abbrev pub collection_name : QName
collection_name = plain (codes "collection")

abbrev pub collection_settings : FeedName → List Attribute
collection_settings name = setting (codes "href") (printed name.base Feed) ∷ []

-- the content of the collection
abbrev pub collection_node : FeedName → Node
collection_node name = holds title_name name.title (holds accept_name entry_type done)

abbrev pub workspace_name : QName
workspace_name = plain (codes "workspace")

-- the content of the workspace
abbrev pub workspace_node : FeedName → Node
workspace_node name =
    holds title_name name.title (full collection_name (collection_settings name) (collection_node name) done)

-- the content of the service
abbrev pub service_node : FeedName → Node
service_node name = full workspace_name [] (workspace_node name) done

-- ---- it may stand in the service

none_twice : IsDistinct bytes_eq []
unfolding IsDistinct
none_twice = tt

one_distinct : (name : List ℕ) → IsDistinct bytes_eq (name ∷ [])
unfolding IsDistinct
one_distinct name = (tt, tt)

two_namespaces : IsDistinct bytes_eq (codes "xmlns" ∷ codes "xmlns:atom" ∷ [])
unfolding IsDistinct
two_namespaces = ((refl, tt), (tt, tt))

pub service_good : IsGoodTag service_tag
service_good = record {
  name = (inl refl, refl);
  ascii = refl;
  attributes = (
    record { name = (inl refl, refl); ascii = refl; value = printable_xml (codes "http://www.w3.org/2007/app") refl },
    (
      record { name = (inr refl, refl); ascii = refl; value = printable_xml (codes "http://www.w3.org/2005/Atom") refl },
      tt,
    ),
  );
  distinct = two_namespaces;
}

-- an element without attributes
bare_allowed : (name : QName) (depth : ℕ) → IsQName name → list_all printable (name_text name) ≡ true →
    IsTrue (is_some (namespace_of service_scope name.prefix)) → depth < 256 →
    IsAllowed service_scope depth (begin_tag name [])
bare_allowed name depth is ascii set deep = record {
  good = record { name = is; ascii = ascii; attributes = tt; distinct = none_twice };
  set = set;
  deep = deep;
}

title_allowed : (depth : ℕ) → depth < 256 → IsAllowed service_scope depth (begin_tag title_name [])
title_allowed depth deep = bare_allowed title_name depth (inr refl, refl) refl refl deep

collection_allowed : (name : FeedName) → IsFeedName name →
    IsAllowed service_scope 2 (begin_tag collection_name (collection_settings name))
collection_allowed name is = record {
  good = record {
    name = (inl refl, refl);
    ascii = refl;
    attributes = (
      record {
        name = (inl refl, refl);
        ascii = refl;
        value = clean_xml (printed name.base Feed) (clean_address name.base Feed is.base tt);
      },
      tt,
    );
    distinct = one_distinct (codes "href");
  };
  set = refl;
  deep = lit< tt;
}

pub service_node_good : (name : FeedName) → IsFeedName name → IsGood service_scope 1 (service_node name)
service_node_good name is =
    let accept : IsGood service_scope 3 (holds accept_name entry_type done) = (
      bare_allowed accept_name 3 (inl refl, refl) refl refl (lit< tt),
      (clean_xml entry_type refl, tt),
      tt,
    ) in
    let inside : IsGood service_scope 3 (collection_node name) =
    (title_allowed 3 (lit< tt), (is.title.xml, tt), accept) in
    let workspace : IsGood service_scope 2 (workspace_node name) =
    (title_allowed 2 (lit< tt), (is.title.xml, tt), (collection_allowed name is, inside, tt)) in
    (bare_allowed workspace_name 1 (inl refl, refl) refl refl (lit< tt), workspace, tt)

-- ---- its text

open_is : tag_text service_tag
    ≡ codes "<service xmlns=\"http://www.w3.org/2007/app\" xmlns:atom=\"http://www.w3.org/2005/Atom\">"
unfolding escaped
open_is = refl

collection_shape : (a b p c d t x e : List ℕ) →
    (a ++ ((b ++ p ++ c) ++ []) ++ d) ++ (t ++ (x ++ [])) ++ e ++ [] ≡ (a ++ b) ++ p ++ (c ++ d) ++ t ++ (x ++ e)
collection_shape a b p c d t x e = simp (append-nil, append_assoc)

collection_text : (name : FeedName) → IsBase name.base →
    node_text (full collection_name (collection_settings name) (collection_node name) done)
    ≡ collection name.base name.title
collection_text name is =
    let href = printed name.base Feed in
    let accept = codes "<accept>application/atom+xml;type=entry</accept>" in
    ap (λ x. (codes "<collection" ++ ((codes " href=\"" ++ x ++ codes "\"") ++ []) ++ codes ">")
    ++ node_text (collection_node name) ++ codes "</collection>" ++ [])
    (clean_kept true href (clean_address name.base Feed is tt))
    ∙ ap (λ x. (codes "<collection" ++ ((codes " href=\"" ++ href ++ codes "\"") ++ []) ++ codes ">") ++ x
    ++ codes "</collection>" ++ [])
    (raw_holds title_name name.title (holds accept_name entry_type done)
    ∙ ap (λ x. title_element name.title ++ x) (clean_holds accept_name entry_type done refl))
    ∙ collection_shape (codes "<collection") (codes " href=\"") href (codes "\"") (codes ">") (title_element name.title)
    accept (codes "</collection>")

workspace_shape : (a t c e : List ℕ) → a ++ (t ++ c) ++ e ++ [] ≡ a ++ t ++ c ++ e
workspace_shape a t c e = simp (append-nil, append_assoc)

whole_shape : (d l s w t c e f : List ℕ) →
    d ++ l ++ s ++ (w ++ t ++ c ++ e) ++ f ≡ (d ++ l) ++ s ++ w ++ t ++ c ++ (e ++ f)
whole_shape d l s w t c e f = simp append_assoc

workspace_text : (name : FeedName) → IsBase name.base →
    node_text (service_node name)
    ≡ codes "<workspace>" ++ title_element name.title ++ collection name.base name.title ++ codes "</workspace>"
workspace_text name is =
    ap (λ x. codes "<workspace>" ++ x ++ codes "</workspace>" ++ [])
    (raw_holds title_name name.title (full collection_name (collection_settings name) (collection_node name) done)
    ∙ ap (λ x. title_element name.title ++ x) (collection_text name is))
    ∙ workspace_shape (codes "<workspace>") (title_element name.title) (collection name.base name.title)
    (codes "</workspace>")

-- the document whose service has this content
abbrev pub document_text : Node → List ℕ
document_text n =
    declaration_text ++ codes "\n" ++ tag_text service_tag ++ node_text n ++ codes "</service>\n"

pub service_node_text : (name : FeedName) → IsBase name.base → document_text (service_node name) ≡ service_text name
unfolding titled_service
service_node_text name is =
    ap (λ x. declaration_text ++ codes "\n" ++ x ++ node_text (service_node name) ++ codes "</service>\n") open_is
    ∙ ap (λ x. declaration_text ++ codes "\n"
    ++ codes "<service xmlns=\"http://www.w3.org/2007/app\" xmlns:atom=\"http://www.w3.org/2005/Atom\">" ++ x
    ++ codes "</service>\n") (workspace_text name is)
    ∙ whole_shape declaration_text (codes "\n")
    (codes "<service xmlns=\"http://www.w3.org/2007/app\" xmlns:atom=\"http://www.w3.org/2005/Atom\">")
    (codes "<workspace>") (title_element name.title) (collection name.base name.title) (codes "</workspace>")
    (codes "</service>\n")
