-- The parts of an entry as content: persons, links, categories, texts and dates.
use Rattle.std.proofs.Common.{◌≡◌, ℕ, ◌<◌, ◌^◌, true, false, List, [], ◌∷◌, ◌++◌, Option, Some, None, ℤ}
use Rattle.std.proofs.Common.{refl, sym, ap, ◌∙◌, codes, append_assoc, append-nil}
use Rattle.std.specs.Prelude.{flat_map, if◌then◌else◌}
use Rattle.atom_values.specs.declared.category.Category.{Category}
use Rattle.atom_values.specs.declared.link.Link.{Link}
use Rattle.atom_values.specs.declared.person.Person.{Person}
use Rattle.atom_values.specs.declared.text.Text.{Text}
use Rattle.atom_values.specs.declared.text.TextKind.{TextKind}
use Rattle.atom_values.specs.declared.text.TextKind.TheVariants.{Plain, Html}
use Rattle.atom_values.specs.Entry.{EntryValue}
use Rattle.atom_values.specs.Escape.{escaped}
use Rattle.atom_values.specs.Link.{has_relation}
use Rattle.atom_values.specs.Stamp as stamp
use Rattle.chain_links.specs.Address as address
use Rattle.chain_links.specs.Base.{IsBase}
use Rattle.chain_links.specs.declared.address.Address.TheVariants.{Member}
use Rattle.deleted_entries.specs.FeedId.{member_id}
use Rattle.atom_writer.specs.declared.doc.FeedName.{FeedName}
use Rattle.atom_writer.specs.Parts as parts
use Rattle.atom_writer.specs.Entries.{back_text, construct, edit_link, front_text, inner_text, open_attributes}
use Rattle.atom_writer.specs.Entries.{optional_construct, published_text}
use Rattle.xml_tokens.specs.Characters.{QName, name_text}
use Rattle.xml_tokens.specs.Tokens.{Attribute}
use Rattle.canonical_feed.proofs.CleanLemmas.{IsClean, clean_address, clean_kept, clean_member, clean_stamp}
use Rattle.canonical_feed.proofs.NodeLemmas.{Node, attributes_text, close_text, node_text}
use Rattle.canonical_feed.proofs.NodeLemmas.Node.{done, words, empty, full}

abbrev pub plain : List ℕ → QName
plain local = record { prefix = []; local = local }

abbrev pub setting : List ℕ → List ℕ → Attribute
setting name value = record { name = plain name; value = value }

-- an element that has this text
abbrev pub holds : QName → List ℕ → Node → Node
holds name value n = full name [] (words value done) n

abbrev pub optional_holds : List ℕ → Option (List ℕ) → Node → Node
optional_holds tag None n = n
optional_holds tag (Some value) n = holds (plain tag) value n

abbrev pub person_node : List ℕ → Person → Node → Node
person_node tag p n =
    full (plain tag) []
    (holds (plain (codes "name")) p.name
    (optional_holds (codes "uri") p.uri (optional_holds (codes "email") p.email done))) n

abbrev pub persons_node : List ℕ → List Person → Node → Node
persons_node tag [] n = n
persons_node tag (p ∷ ps) n = person_node tag p (persons_node tag ps n)

abbrev pub optional_setting : List ℕ → Option (List ℕ) → List Attribute → List Attribute
optional_setting name None more = more
optional_setting name (Some value) more = setting name value ∷ more

abbrev pub relation_setting : Link → List Attribute → List Attribute
relation_setting l more = if has_relation (codes "alternate") l then more else setting (codes "rel") l.rel ∷ more

abbrev pub link_settings : Link → List Attribute
link_settings l =
    relation_setting l (setting (codes "href") l.href
    ∷ optional_setting (codes "type") l.media (optional_setting (codes "hreflang") l.hreflang
    (optional_setting (codes "title") l.title (optional_setting (codes "length") l.length []))))

abbrev pub links_node : List Link → Node → Node
links_node [] n = n
links_node (l ∷ ls) n = empty (plain (codes "link")) (link_settings l) (links_node ls n)

abbrev pub category_settings : Category → List Attribute
category_settings c =
    setting (codes "term") c.term
    ∷ optional_setting (codes "scheme") c.scheme (optional_setting (codes "label") c.label [])

abbrev pub categories_node : List Category → Node → Node
categories_node [] n = n
categories_node (c ∷ cs) n = empty (plain (codes "category")) (category_settings c) (categories_node cs n)

abbrev pub kind_settings : TextKind → List Attribute
kind_settings Plain = []
kind_settings Html = setting (codes "type") (codes "html") ∷ []

abbrev pub construct_node : List ℕ → Text → Node → Node
construct_node tag t n = full (plain tag) (kind_settings t.kind) (words t.value done) n

abbrev pub optional_construct_node : List ℕ → Option Text → Node → Node
optional_construct_node tag None n = n
optional_construct_node tag (Some t) n = construct_node tag t n

abbrev pub published_node : Option ℤ → Node → Node
published_node None n = n
published_node (Some moment) n = holds (plain (codes "published")) (stamp.printed moment) n

-- a link with a relation and an address
abbrev pub relation_node : List ℕ → List ℕ → Node → Node
relation_node rel href n = empty (plain (codes "link")) (setting (codes "rel") rel ∷ setting (codes "href") href ∷ []) n

abbrev pub edited_name : QName
edited_name = record { prefix = codes "app"; local = codes "edited" }

-- the content of an entry behind its authors
abbrev pub back_node : FeedName → EntryValue → Node
back_node name e =
    persons_node (codes "contributor") e.contributors
    (relation_node (codes "edit") (address.printed name.base (Member e.number))
    (links_node e.links (categories_node e.categories (optional_construct_node (codes "rights") e.rights
    (optional_construct_node (codes "summary") e.summary (optional_construct_node (codes "content") e.content done))))))

-- the content of an entry behind its date
abbrev pub rest_node : FeedName → EntryValue → Node
rest_node name e =
    published_node e.published
    (holds edited_name (stamp.printed e.edited) (persons_node (codes "author") e.authors (back_node name e)))

-- the content of an entry
abbrev pub entry_node : FeedName → EntryValue → Node
entry_node name e =
    holds (plain (codes "id")) (member_id name.id e.number)
    (construct_node (codes "title") e.title
    (holds (plain (codes "updated")) (stamp.printed e.updated) (rest_node name e)))

-- ---- their texts

holds_shape : (a tag b value c d n : List ℕ) →
    a ++ tag ++ [] ++ b ++ (value ++ []) ++ (c ++ tag ++ d) ++ n ≡ (a ++ tag ++ b ++ value ++ c ++ tag ++ d) ++ n
holds_shape a tag b value c d n = simp (append-nil, append_assoc)

raw_shape : (a value b n : List ℕ) → a ++ (value ++ []) ++ b ++ n ≡ (a ++ value ++ b) ++ n
raw_shape a value b n = simp (append-nil, append_assoc)

-- a tag without attributes
bare_tag : (a tag b : List ℕ) → a ++ tag ++ [] ++ b ≡ a ++ tag ++ b
bare_tag a tag b = simp (append-nil, append_assoc)

pub raw_holds : (name : QName) (value : List ℕ) (n : Node) →
    node_text (holds name value n)
    ≡ ((codes "<" ++ name_text name ++ codes ">") ++ escaped false value ++ close_text name) ++ node_text n
raw_holds name value n =
    ap (λ x. x ++ (escaped false value ++ []) ++ close_text name ++ node_text n)
    (bare_tag (codes "<") (name_text name) (codes ">"))
    ∙ raw_shape (codes "<" ++ name_text name ++ codes ">") (escaped false value) (close_text name) (node_text n)

holds_text : (tag value : List ℕ) (n : Node) →
    node_text (holds (plain tag) value n) ≡ parts.element tag value ++ node_text n
unfolding parts.element
holds_text tag value n =
    holds_shape (codes "<") tag (codes ">") (escaped false value) (codes "</") (codes ">") (node_text n)

-- an element whose text is written as it is
pub clean_holds : (name : QName) (value : List ℕ) (n : Node) → IsClean value →
    node_text (holds name value n)
    ≡ ((codes "<" ++ name_text name ++ codes ">") ++ value ++ close_text name) ++ node_text n
clean_holds name value n is =
    raw_holds name value n
    ∙ ap (λ v. ((codes "<" ++ name_text name ++ codes ">") ++ v ++ close_text name) ++ node_text n)
    (clean_kept false value is)

optional_holds_text : (tag : List ℕ) (value : Option (List ℕ)) (n : Node) →
    node_text (optional_holds tag value n) ≡ parts.optional_element tag value ++ node_text n
unfolding parts.optional_element
optional_holds_text tag None n = refl
optional_holds_text tag (Some value) n = holds_text tag value n

person_shape : (l tag g a b c h k n : List ℕ) →
    l ++ tag ++ [] ++ g ++ (a ++ (b ++ (c ++ []))) ++ (h ++ tag ++ k) ++ n
    ≡ (l ++ tag ++ g ++ a ++ b ++ c ++ h ++ tag ++ k) ++ n
person_shape l tag g a b c h k n = simp (append-nil, append_assoc)

person_node_text : (tag : List ℕ) (p : Person) (n : Node) →
    node_text (person_node tag p n) ≡ parts.person_text tag p ++ node_text n
unfolding parts.person_text
person_node_text tag p n =
    ap (λ i. codes "<" ++ tag ++ [] ++ codes ">" ++ i ++ (codes "</" ++ tag ++ codes ">") ++ node_text n)
    (holds_text (codes "name") p.name (optional_holds (codes "uri") p.uri (optional_holds (codes "email") p.email done))
    ∙ ap (λ i. parts.element (codes "name") p.name ++ i)
    (optional_holds_text (codes "uri") p.uri (optional_holds (codes "email") p.email done)
    ∙ ap (λ i. parts.optional_element (codes "uri") p.uri ++ i) (optional_holds_text (codes "email") p.email done)))
    ∙ person_shape (codes "<") tag (codes ">") (parts.element (codes "name") p.name)
    (parts.optional_element (codes "uri") p.uri) (parts.optional_element (codes "email") p.email) (codes "</") (codes ">")
    (node_text n)

-- elements of a list, one after another
next_text : (a b n : List ℕ) → a ++ (b ++ n) ≡ (a ++ b) ++ n
next_text a b n = sym (append_assoc a b n)

persons_node_text : (tag : List ℕ) (ps : List Person) (n : Node) →
    node_text (persons_node tag ps n) ≡ parts.persons_text tag ps ++ node_text n
persons_node_text tag [] n = refl
persons_node_text tag (p ∷ ps) n =
    person_node_text tag p (persons_node tag ps n)
    ∙ ap (λ x. parts.person_text tag p ++ x) (persons_node_text tag ps n)
    ∙ next_text (parts.person_text tag p) (parts.persons_text tag ps) (node_text n)

setting_text : (name value : List ℕ) (more : List Attribute) →
    attributes_text (setting name value ∷ more) ≡ parts.attribute name value ++ attributes_text more
unfolding parts.attribute
setting_text name value more = refl

optional_setting_text : (name : List ℕ) (value : Option (List ℕ)) (more : List Attribute) →
    attributes_text (optional_setting name value more) ≡ parts.optional_attribute name value ++ attributes_text more
unfolding parts.optional_attribute
optional_setting_text name None more = refl
optional_setting_text name (Some value) more = setting_text name value more

relation_setting_text : (l : Link) (more : List Attribute) →
    attributes_text (relation_setting l more) ≡ parts.relation_text l ++ attributes_text more
unfolding parts.relation_text
relation_setting_text l more =
    elim (has_relation (codes "alternate") l) as (λ b.
    attributes_text (if b then more else setting (codes "rel") l.rel ∷ more)
    ≡ (if b then [] else parts.attribute (codes "rel") l.rel) ++ attributes_text more)
    [ true ↦ refl | false ↦ setting_text (codes "rel") l.rel more ]

link_shape : (l a b c d e f h n : List ℕ) →
    l ++ (a ++ (b ++ (c ++ (d ++ (e ++ (f ++ [])))))) ++ h ++ n ≡ (l ++ a ++ b ++ c ++ d ++ e ++ f ++ h) ++ n
link_shape l a b c d e f h n = simp (append-nil, append_assoc)

link_settings_text : (l : Link) →
    attributes_text (link_settings l)
    ≡ parts.relation_text l ++ (parts.attribute (codes "href") l.href ++ (parts.optional_attribute (codes "type") l.media
    ++ (parts.optional_attribute (codes "hreflang") l.hreflang ++ (parts.optional_attribute (codes "title") l.title
    ++ (parts.optional_attribute (codes "length") l.length ++ [])))))
link_settings_text l =
    let a6 = optional_setting (codes "length") l.length [] in
    let a5 = optional_setting (codes "title") l.title a6 in
    let a4 = optional_setting (codes "hreflang") l.hreflang a5 in
    let a3 = optional_setting (codes "type") l.media a4 in
    relation_setting_text l (setting (codes "href") l.href ∷ a3)
    ∙ ap (λ x. parts.relation_text l ++ x) (setting_text (codes "href") l.href a3
    ∙ ap (λ x. parts.attribute (codes "href") l.href ++ x) (optional_setting_text (codes "type") l.media a4
    ∙ ap (λ x. parts.optional_attribute (codes "type") l.media ++ x) (optional_setting_text (codes "hreflang") l.hreflang a5
    ∙ ap (λ x. parts.optional_attribute (codes "hreflang") l.hreflang ++ x)
    (optional_setting_text (codes "title") l.title a6
    ∙ ap (λ x. parts.optional_attribute (codes "title") l.title ++ x)
    (optional_setting_text (codes "length") l.length [])))))

links_node_text : (ls : List Link) (n : Node) → node_text (links_node ls n) ≡ flat_map parts.link_text ls ++ node_text n
unfolding parts.link_text
links_node_text [] n = refl
links_node_text (l ∷ ls) n =
    ap (λ x. codes "<link" ++ x ++ codes "/>" ++ node_text (links_node ls n)) (link_settings_text l)
    ∙ link_shape (codes "<link") (parts.relation_text l) (parts.attribute (codes "href") l.href)
    (parts.optional_attribute (codes "type") l.media) (parts.optional_attribute (codes "hreflang") l.hreflang)
    (parts.optional_attribute (codes "title") l.title) (parts.optional_attribute (codes "length") l.length)
    (codes "/>") (node_text (links_node ls n))
    ∙ ap (λ x. parts.link_text l ++ x) (links_node_text ls n)
    ∙ next_text (parts.link_text l) (flat_map parts.link_text ls) (node_text n)

category_shape : (l a b c h n : List ℕ) → l ++ (a ++ (b ++ (c ++ []))) ++ h ++ n ≡ (l ++ a ++ b ++ c ++ h) ++ n
category_shape l a b c h n = simp (append-nil, append_assoc)

categories_node_text : (cs : List Category) (n : Node) →
    node_text (categories_node cs n) ≡ flat_map parts.category_text cs ++ node_text n
unfolding parts.category_text
categories_node_text [] n = refl
categories_node_text (c ∷ cs) n =
    let a3 = optional_setting (codes "label") c.label [] in
    let a2 = optional_setting (codes "scheme") c.scheme a3 in
    ap (λ x. codes "<category" ++ x ++ codes "/>" ++ node_text (categories_node cs n))
    (setting_text (codes "term") c.term a2
    ∙ ap (λ x. parts.attribute (codes "term") c.term ++ x) (optional_setting_text (codes "scheme") c.scheme a3
    ∙ ap (λ x. parts.optional_attribute (codes "scheme") c.scheme ++ x)
    (optional_setting_text (codes "label") c.label [])))
    ∙ category_shape (codes "<category") (parts.attribute (codes "term") c.term)
    (parts.optional_attribute (codes "scheme") c.scheme) (parts.optional_attribute (codes "label") c.label) (codes "/>")
    (node_text (categories_node cs n))
    ∙ ap (λ x. parts.category_text c ++ x) (categories_node_text cs n)
    ∙ next_text (parts.category_text c) (flat_map parts.category_text cs) (node_text n)

kind_settings_text : (kind : TextKind) → attributes_text (kind_settings kind) ≡ open_attributes kind
unfolding escaped
kind_settings_text Plain = refl
kind_settings_text Html = refl

construct_shape : (l tag kind g value h k n : List ℕ) →
    l ++ tag ++ kind ++ g ++ (value ++ []) ++ (h ++ tag ++ k) ++ n
    ≡ (l ++ tag ++ kind ++ g ++ value ++ h ++ tag ++ k) ++ n
construct_shape l tag kind g value h k n = simp (append-nil, append_assoc)

construct_node_text : (tag : List ℕ) (t : Text) (n : Node) →
    node_text (construct_node tag t n) ≡ construct tag t ++ node_text n
unfolding construct
construct_node_text tag t n =
    ap (λ x. codes "<" ++ tag ++ x ++ codes ">" ++ (escaped false t.value ++ []) ++ (codes "</" ++ tag ++ codes ">")
    ++ node_text n) (kind_settings_text t.kind)
    ∙ construct_shape (codes "<") tag (open_attributes t.kind) (codes ">") (escaped false t.value) (codes "</") (codes ">")
    (node_text n)

optional_construct_node_text : (tag : List ℕ) (t : Option Text) (n : Node) →
    node_text (optional_construct_node tag t n) ≡ optional_construct tag t ++ node_text n
unfolding optional_construct
optional_construct_node_text tag None n = refl
optional_construct_node_text tag (Some t) n = construct_node_text tag t n

published_node_text : (moment : Option ℤ) (n : Node) →
    node_text (published_node moment n) ≡ published_text moment ++ node_text n
unfolding published_text
published_node_text None n = refl
published_node_text (Some moment) n =
    clean_holds (plain (codes "published")) (stamp.printed moment) n (clean_stamp moment)

pair_shape : (l tag s a e u q b v h n : List ℕ) →
    l ++ tag ++ (s ++ a ++ e ++ u ++ q ++ (s ++ b ++ e ++ v ++ q ++ [])) ++ h ++ n
    ≡ ((l ++ tag ++ s ++ a ++ e) ++ u ++ (q ++ s ++ b ++ e) ++ v ++ (q ++ h)) ++ n
pair_shape l tag s a e u q b v h n = simp (append-nil, append_assoc)

-- an empty element with two attributes whose values are written as they are
pub pair_text : (name : QName) (a u b v : List ℕ) (n : Node) → IsClean u → IsClean v →
    node_text (empty name (setting a u ∷ setting b v ∷ []) n)
    ≡ ((codes "<" ++ name_text name ++ codes " " ++ a ++ codes "=\"") ++ u ++ (codes "\" " ++ b ++ codes "=\"") ++ v
    ++ codes "\"/>") ++ node_text n
pair_text name a u b v n is_u is_v =
    pair_shape (codes "<") (name_text name) (codes " ") a (codes "=\"") (escaped true u) (codes "\"") b (escaped true v)
    (codes "/>") (node_text n)
    ∙ ap (λ x. ((codes "<" ++ name_text name ++ codes " " ++ a ++ codes "=\"") ++ x ++ (codes "\" " ++ b ++ codes "=\"")
    ++ escaped true v ++ codes "\"/>") ++ node_text n) (clean_kept true u is_u)
    ∙ ap (λ x. ((codes "<" ++ name_text name ++ codes " " ++ a ++ codes "=\"") ++ u ++ (codes "\" " ++ b ++ codes "=\"")
    ++ x ++ codes "\"/>") ++ node_text n) (clean_kept true v is_v)

edit_link_text : (name : FeedName) (number : ℕ) (n : Node) → IsBase name.base → number < 2 ^ 32 →
    node_text (relation_node (codes "edit") (address.printed name.base (Member number)) n)
    ≡ edit_link name number ++ node_text n
unfolding edit_link
edit_link_text name number n is few =
    pair_text (plain (codes "link")) (codes "rel") (codes "edit") (codes "href")
    (address.printed name.base (Member number)) n refl (clean_address name.base (Member number) is few)

back_shape : (a b c d e f g : List ℕ) →
    a ++ (b ++ (c ++ (d ++ (e ++ (f ++ (g ++ [])))))) ≡ a ++ b ++ c ++ d ++ e ++ f ++ g
back_shape a b c d e f g = simp (append-nil, append_assoc)

back_node_text : (name : FeedName) (e : EntryValue) → IsBase name.base → e.number < 2 ^ 32 →
    node_text (back_node name e) ≡ back_text name e
unfolding back_text
back_node_text name e is few =
    let n6 = optional_construct_node (codes "content") e.content done in
    let n5 = optional_construct_node (codes "summary") e.summary n6 in
    let n4 = optional_construct_node (codes "rights") e.rights n5 in
    let n3 = categories_node e.categories n4 in
    let n2 = links_node e.links n3 in
    let n1 = relation_node (codes "edit") (address.printed name.base (Member e.number)) n2 in
    persons_node_text (codes "contributor") e.contributors n1
    ∙ ap (λ x. parts.persons_text (codes "contributor") e.contributors ++ x)
    (edit_link_text name e.number n2 is few
    ∙ ap (λ x. edit_link name e.number ++ x) (links_node_text e.links n3
    ∙ ap (λ x. flat_map parts.link_text e.links ++ x) (categories_node_text e.categories n4
    ∙ ap (λ x. flat_map parts.category_text e.categories ++ x)
    (optional_construct_node_text (codes "rights") e.rights n5
    ∙ ap (λ x. optional_construct (codes "rights") e.rights ++ x)
    (optional_construct_node_text (codes "summary") e.summary n6
    ∙ ap (λ x. optional_construct (codes "summary") e.summary ++ x)
    (optional_construct_node_text (codes "content") e.content done))))))
    ∙ back_shape (parts.persons_text (codes "contributor") e.contributors) (edit_link name e.number)
    (flat_map parts.link_text e.links) (flat_map parts.category_text e.categories)
    (optional_construct (codes "rights") e.rights) (optional_construct (codes "summary") e.summary)
    (optional_construct (codes "content") e.content)

entry_shape : (i1 id i2 title u1 updated u2 published e1 edited e2 authors back : List ℕ) →
    (i1 ++ id ++ i2) ++ (title ++ ((u1 ++ updated ++ u2) ++ (published ++ ((e1 ++ edited ++ e2) ++ (authors ++ back)))))
    ≡ (i1 ++ id ++ i2 ++ title ++ u1 ++ updated ++ u2 ++ published ++ e1 ++ edited ++ e2) ++ authors ++ back
entry_shape i1 id i2 title u1 updated u2 published e1 edited e2 authors back = simp append_assoc

pub entry_node_text : (name : FeedName) (e : EntryValue) → IsBase name.base → e.number < 2 ^ 32 →
    node_text (entry_node name e) ≡ inner_text name e
unfolding inner_text front_text
entry_node_text name e is few =
    let n6 = back_node name e in
    let n5 = persons_node (codes "author") e.authors n6 in
    let n4 = holds edited_name (stamp.printed e.edited) n5 in
    let n3 = published_node e.published n4 in
    let n2 = holds (plain (codes "updated")) (stamp.printed e.updated) n3 in
    let n1 = construct_node (codes "title") e.title n2 in
    clean_holds (plain (codes "id")) (member_id name.id e.number) n1 (clean_member name.id e.number)
    ∙ ap (λ x. (codes "<id>" ++ member_id name.id e.number ++ codes "</id>") ++ x)
    (construct_node_text (codes "title") e.title n2
    ∙ ap (λ x. construct (codes "title") e.title ++ x)
    (clean_holds (plain (codes "updated")) (stamp.printed e.updated) n3 (clean_stamp e.updated)
    ∙ ap (λ x. (codes "<updated>" ++ stamp.printed e.updated ++ codes "</updated>") ++ x)
    (published_node_text e.published n4
    ∙ ap (λ x. published_text e.published ++ x)
    (clean_holds edited_name (stamp.printed e.edited) n5 (clean_stamp e.edited)
    ∙ ap (λ x. (codes "<app:edited>" ++ stamp.printed e.edited ++ codes "</app:edited>") ++ x)
    (persons_node_text (codes "author") e.authors n6
    ∙ ap (λ x. parts.persons_text (codes "author") e.authors ++ x) (back_node_text name e is few))))))
    ∙ entry_shape (codes "<id>") (member_id name.id e.number) (codes "</id>") (construct (codes "title") e.title)
    (codes "<updated>") (stamp.printed e.updated) (codes "</updated>") (published_text e.published)
    (codes "<app:edited>") (stamp.printed e.edited) (codes "</app:edited>")
    (parts.persons_text (codes "author") e.authors) (back_text name e)
