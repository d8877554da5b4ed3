-- The text of an entry has no end tag of an entry.
use Rattle.std.proofs.Common.{◌≡◌, ℕ, ◌<◌, ◌≤◌, ◌^◌, Bool, true, false, List, [], ◌∷◌, ◌++◌, ℤ, Option, Some, None, refl, append_assoc, flat_map, codes}
use Rattle.std.proofs.lemmas.Bool.{cond_both}
use Rattle.atom_values.specs.declared.category.Category.{Category}
use Rattle.atom_values.specs.declared.link.Link.{Link}
use Rattle.atom_values.specs.declared.person.Person.{Person}
use Rattle.atom_values.specs.declared.text.Text.{Text}
use Rattle.atom_values.specs.declared.text.TextKind.{TextKind}
use Rattle.atom_values.specs.declared.text.TextKind.TheVariants.{Plain, Html}
use Rattle.atom_values.specs.Entry.{EntryValue}
use Rattle.atom_values.specs.Escape.{escaped}
use Rattle.atom_values.specs.Link.{has_relation}
use Rattle.atom_values.specs.Stamp as stamp
use Rattle.chain_links.specs.Address as address
use Rattle.chain_links.specs.Base.{IsBase}
use Rattle.chain_links.specs.declared.address.Address.TheVariants.{Member}
use Rattle.deleted_entries.specs.FeedId.{member_id}
use Rattle.atom_writer.specs.declared.doc.FeedName.{FeedName}
use Rattle.atom_writer.specs.Entries.{open_attributes, construct, optional_construct, edit_link, published_text, front_text, back_text, inner_text}
use Rattle.atom_writer.specs.Parts.{element, optional_element, person_text, persons_text, attribute, optional_attribute, relation_text, link_text, category_text}
use Rattle.atom_grammar.specs.Parts.{lacks, open_tag}
use Rattle.atom_grammar.proofs.MarkLemmas.{clear, clear_append, clear_lacks}
use Rattle.atom_grammar.proofs.PlainLemmas.{IsPlain, IsPlain-lacks, IsPlain-stamp, IsPlain-member_id, IsPlain-address}
use Rattle.atom_grammar.proofs.TextLemmas.{escaped_lacks_tag}

-- no end tag of an entry begins in the text
abbrev pub IsClear : List ℕ → Type 0
IsClear text = clear (codes "</entry>\n") text ≡ true

IsClear-append : (xs ys : List ℕ) → IsClear xs → IsClear ys → IsClear (xs ++ ys)
IsClear-append xs ys a b = clear_append (codes "</entry>\n") xs ys a b

IsClear-lacks : (text : List ℕ) → lacks open_tag text ≡ true → IsClear text
IsClear-lacks text none = clear_lacks open_tag (codes "/entry>\n") text none

IsClear-plain : (text : List ℕ) → IsPlain text → IsClear text
IsClear-plain text plain = IsClear-lacks text (IsPlain-lacks open_tag text refl plain)

IsClear-escaped : (quoted : Bool) (text : List ℕ) → IsClear (escaped quoted text)
IsClear-escaped quoted text = IsClear-lacks (escaped quoted text) (escaped_lacks_tag quoted text)

IsClear-flat_map : {A : Type 0} (f : A → List ℕ) → ((x : A) → IsClear (f x)) → (xs : List A) → IsClear (flat_map f xs)
IsClear-flat_map f each [] = refl
IsClear-flat_map f each (x ∷ xs) = IsClear-append (f x) (flat_map f xs) (each x) (IsClear-flat_map f each xs)

-- a text between two others
IsClear-between : (start value end : List ℕ) → IsClear start → IsClear value → IsClear end
    → IsClear (start ++ value ++ end)
IsClear-between start value end before inner after =
    IsClear-append (start ++ value) end (IsClear-append start value before inner) after

-- a text before an end tag that is spelt in three parts
IsClear-closed : (text slash tag end : List ℕ) → IsClear text → IsClear (slash ++ tag ++ end)
    → IsClear (text ++ slash ++ tag ++ end)
IsClear-closed text slash tag end before after =
    rw (append_assoc (text ++ slash) tag end, append_assoc text slash (tag ++ end), ← append_assoc slash tag end)
    (IsClear-append text (slash ++ tag ++ end) before after)

IsClear-element : (tag value : List ℕ) → IsClear (codes "<" ++ tag ++ codes ">")
    → IsClear (codes "</" ++ tag ++ codes ">") → IsClear (element tag value)
unfolding element
IsClear-element tag value start end =
    IsClear-closed (codes "<" ++ tag ++ codes ">" ++ escaped false value) (codes "</") tag (codes ">")
    (IsClear-append (codes "<" ++ tag ++ codes ">") (escaped false value) start (IsClear-escaped false value)) end

IsClear-optional_element : (tag : List ℕ) (value : Option (List ℕ)) → IsClear (codes "<" ++ tag ++ codes ">")
    → IsClear (codes "</" ++ tag ++ codes ">") → IsClear (optional_element tag value)
unfolding optional_element
IsClear-optional_element tag None start end = refl
IsClear-optional_element tag (Some value) start end = IsClear-element tag value start end

IsClear-person : (tag : List ℕ) → IsClear (codes "<" ++ tag ++ codes ">") → IsClear (codes "</" ++ tag ++ codes ">")
    → (p : Person) → IsClear (person_text tag p)
unfolding person_text
IsClear-person tag start end p =
    let name = element (codes "name") p.name in
    let uri = optional_element (codes "uri") p.uri in
    let email = optional_element (codes "email") p.email in
    IsClear-closed (codes "<" ++ tag ++ codes ">" ++ name ++ uri ++ email) (codes "</") tag (codes ">")
    (IsClear-append (codes "<" ++ tag ++ codes ">" ++ name ++ uri) email
    (IsClear-between (codes "<" ++ tag ++ codes ">") name uri start (IsClear-element (codes "name") p.name refl refl)
    (IsClear-optional_element (codes "uri") p.uri refl refl))
    (IsClear-optional_element (codes "email") p.email refl refl)) end

IsClear-attributes : (kind : TextKind) → IsClear (open_attributes kind)
IsClear-attributes Plain = refl
IsClear-attributes Html = refl

IsClear-construct : (tag : List ℕ) (t : Text) → IsClear (codes "<" ++ tag) → IsClear (codes "</" ++ tag ++ codes ">")
    → IsClear (construct tag t)
unfolding construct
IsClear-construct tag t start end =
    IsClear-closed (codes "<" ++ tag ++ open_attributes t.kind ++ codes ">" ++ escaped false t.value) (codes "</") tag
    (codes ">")
    (IsClear-between (codes "<" ++ tag ++ open_attributes t.kind) (codes ">") (escaped false t.value)
    (IsClear-append (codes "<" ++ tag) (open_attributes t.kind) start (IsClear-attributes t.kind)) refl
    (IsClear-escaped false t.value)) end

IsClear-optional_construct : (tag : List ℕ) (t : Option Text) → IsClear (codes "<" ++ tag)
    → IsClear (codes "</" ++ tag ++ codes ">") → IsClear (optional_construct tag t)
unfolding optional_construct
IsClear-optional_construct tag None start end = refl
IsClear-optional_construct tag (Some t) start end = IsClear-construct tag t start end

IsClear-attribute : (name value : List ℕ) → IsClear name → IsClear (attribute name value)
unfolding attribute
IsClear-attribute name value is =
    IsClear-between (codes " " ++ name ++ codes "=\"") (escaped true value) (codes "\"")
    (IsClear-between (codes " ") name (codes "=\"") refl is refl) (IsClear-escaped true value) refl

IsClear-optional_attribute : (name : List ℕ) (value : Option (List ℕ)) → IsClear name
    → IsClear (optional_attribute name value)
unfolding optional_attribute
IsClear-optional_attribute name None is = refl
IsClear-optional_attribute name (Some value) is = IsClear-attribute name value is

IsClear-relation : (l : Link) → IsClear (relation_text l)
unfolding relation_text
IsClear-relation l =
    cond_both (has_relation (codes "alternate") l) [] (attribute (codes "rel") l.rel) IsClear (λ _. refl)
    (λ _. IsClear-attribute (codes "rel") l.rel refl)

IsClear-link : (l : Link) → IsClear (link_text l)
unfolding link_text
IsClear-link l =
    let rel = relation_text l in
    let href = attribute (codes "href") l.href in
    let media = optional_attribute (codes "type") l.media in
    let hreflang = optional_attribute (codes "hreflang") l.hreflang in
    let title = optional_attribute (codes "title") l.title in
    let size = optional_attribute (codes "length") l.length in
    IsClear-between (codes "<link" ++ rel ++ href ++ media ++ hreflang ++ title) size (codes "/>")
    (IsClear-between (codes "<link" ++ rel ++ href ++ media) hreflang title
    (IsClear-between (codes "<link" ++ rel) href media
    (IsClear-append (codes "<link") rel refl (IsClear-relation l)) (IsClear-attribute (codes "href") l.href refl)
    (IsClear-optional_attribute (codes "type") l.media refl))
    (IsClear-optional_attribute (codes "hreflang") l.hreflang refl)
    (IsClear-optional_attribute (codes "title") l.title refl))
    (IsClear-optional_attribute (codes "length") l.length refl) refl

IsClear-category : (c : Category) → IsClear (category_text c)
unfolding category_text
IsClear-category c =
    let term = attribute (codes "term") c.term in
    let scheme = optional_attribute (codes "scheme") c.scheme in
    let label = optional_attribute (codes "label") c.label in
    IsClear-between (codes "<category" ++ term ++ scheme) label (codes "/>")
    (IsClear-between (codes "<category") term scheme refl (IsClear-attribute (codes "term") c.term refl)
    (IsClear-optional_attribute (codes "scheme") c.scheme refl))
    (IsClear-optional_attribute (codes "label") c.label refl) refl

IsClear-published : (moment : Option ℤ) → IsClear (published_text moment)
unfolding published_text
IsClear-published None = refl
IsClear-published (Some moment) =
    IsClear-between (codes "<published>") (stamp.printed moment) (codes "</published>") refl
    (IsClear-plain (stamp.printed moment) (IsPlain-stamp moment)) refl

IsClear-edit_link : (name : FeedName) (number : ℕ) → IsBase name.base → (1 ≤ number) × (number < 2 ^ 32)
    → IsClear (edit_link name number)
unfolding edit_link
IsClear-edit_link name number is counted =
    let to = address.printed name.base (Member number) in
    IsClear-between (codes "<link rel=\"edit\" href=\"") to (codes "\"/>") refl
    (IsClear-plain to (IsPlain-address name.base (Member number) is counted)) refl

IsClear-front : (name : FeedName) (e : EntryValue) → IsClear (front_text name e)
unfolding front_text
IsClear-front name e =
    let id = member_id name.id e.number in
    let title = construct (codes "title") e.title in
    let updated = stamp.printed e.updated in
    let published = published_text e.published in
    let edited = stamp.printed e.edited in
    IsClear-between
    (codes "<id>" ++ id ++ codes "</id>" ++ title ++ codes "<updated>" ++ updated ++ codes "</updated>" ++ published
    ++ codes "<app:edited>") edited (codes "</app:edited>")
    (IsClear-between
    (codes "<id>" ++ id ++ codes "</id>" ++ title ++ codes "<updated>" ++ updated ++ codes "</updated>") published
    (codes "<app:edited>")
    (IsClear-between (codes "<id>" ++ id ++ codes "</id>" ++ title ++ codes "<updated>") updated (codes "</updated>")
    (IsClear-between (codes "<id>" ++ id ++ codes "</id>") title (codes "<updated>")
    (IsClear-between (codes "<id>") id (codes "</id>") refl (IsClear-plain id (IsPlain-member_id name.id e.number))
    refl) (IsClear-construct (codes "title") e.title refl refl) refl)
    (IsClear-plain updated (IsPlain-stamp e.updated)) refl) (IsClear-published e.published) refl)
    (IsClear-plain edited (IsPlain-stamp e.edited)) refl

IsClear-back : (name : FeedName) (e : EntryValue) → IsBase name.base → (1 ≤ e.number) × (e.number < 2 ^ 32)
    → IsClear (back_text name e)
unfolding back_text
IsClear-back name e is_base counted =
    let contributors = persons_text (codes "contributor") e.contributors in
    let edit = edit_link name e.number in
    let links = flat_map link_text e.links in
    let categories = flat_map category_text e.categories in
    let rights = optional_construct (codes "rights") e.rights in
    let summary = optional_construct (codes "summary") e.summary in
    let content = optional_construct (codes "content") e.content in
    IsClear-between (contributors ++ edit ++ links ++ categories ++ rights) summary content
    (IsClear-between (contributors ++ edit ++ links) categories rights
    (IsClear-between contributors edit links
    (IsClear-flat_map (person_text (codes "contributor")) (IsClear-person (codes "contributor") refl refl)
    e.contributors) (IsClear-edit_link name e.number is_base counted)
    (IsClear-flat_map link_text IsClear-link e.links))
    (IsClear-flat_map category_text IsClear-category e.categories)
    (IsClear-optional_construct (codes "rights") e.rights refl refl))
    (IsClear-optional_construct (codes "summary") e.summary refl refl)
    (IsClear-optional_construct (codes "content") e.content refl refl)

pub IsClear-inner : (name : FeedName) (e : EntryValue) → IsBase name.base → (1 ≤ e.number) × (e.number < 2 ^ 32)
    → IsClear (inner_text name e)
unfolding inner_text
IsClear-inner name e is_base counted =
    IsClear-between (front_text name e) (persons_text (codes "author") e.authors) (back_text name e)
    (IsClear-front name e)
    (IsClear-flat_map (person_text (codes "author")) (IsClear-person (codes "author") refl refl) e.authors)
    (IsClear-back name e is_base counted)
