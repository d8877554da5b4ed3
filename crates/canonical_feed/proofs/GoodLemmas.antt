-- The content of a document may stand in its feed.
use Rattle.std.proofs.Common.{◌≡◌, ℕ, ◌+◌, ◌<◌, ◌^◌, true, false, List, [], ◌∷◌, ◌++◌, ℤ, map, All, decimal, Option}
use Rattle.std.proofs.Common.{Some, None, refl, sym, subst, inl, inr, codes, arith}
use Rattle.std.specs.Prelude.{◌==◌, if◌then◌else◌, bytes_eq, filter_map, is_some, IfSome, IsTrue}
use Rattle.std.specs.List.{AllByRecursion, IsDistinct, list_all}
use Rattle.std.proofs.lemmas.List.Elements.{All-head, All-tail}
use Rattle.atom_values.specs.declared.category.Category.{Category}
use Rattle.atom_values.specs.declared.link.Link.{Link}
use Rattle.atom_values.specs.declared.person.Person.{Person}
use Rattle.atom_values.specs.declared.text.Text.{Text}
use Rattle.atom_values.specs.declared.text.TextKind.{TextKind}
use Rattle.atom_values.specs.declared.text.TextKind.TheVariants.{Plain, Html}
use Rattle.atom_values.specs.Category.{IsCategory}
use Rattle.atom_values.specs.Entry.{EntryValue, IsEntry, IsText}
use Rattle.atom_values.specs.Link.{IsLink, has_relation}
use Rattle.atom_values.specs.Person.{IsPerson}
use Rattle.atom_values.specs.Stamp as stamp
use Rattle.atom_values.specs.XmlText.{IsAtomText, IsXmlText}
use Rattle.chain_links.specs.Address as address
use Rattle.chain_links.specs.Base.{IsBase}
use Rattle.chain_links.specs.declared.address.Address.{Address}
use Rattle.chain_links.specs.declared.address.Address.TheVariants.{Feed, Archive, Member}
use Rattle.chain_links.specs.declared.place.Span.{Span}
use Rattle.deleted_entries.specs.FeedId.{feed_text, member_id}
use Rattle.deleted_entries.specs.Item.{IsItem}
use Rattle.deleted_entries.specs.declared.item.Item.{Item}
use Rattle.deleted_entries.specs.declared.item.Item.TheVariants.{Kept, Gone}
use Rattle.atom_writer.specs.declared.doc.FeedName.{FeedName}
use Rattle.atom_writer.specs.declared.doc.Kind.{Kind}
use Rattle.atom_writer.specs.declared.doc.Kind.TheVariants.{Subscription, Archive as Sealed}
use Rattle.atom_writer.specs.Doc.{DocValue, HasNext, IsDoc, IsFeedName}
use Rattle.atom_writer.specs.Pieces.{own_address}
use Rattle.xml_tokens.specs.Characters.{QName, IsName, IsQName, name_text}
use Rattle.xml_tokens.specs.Tokens.{Attribute}
use Rattle.xml_tokens.specs.Stages.{Binding, declared, namespace_of}
use Rattle.xml_tokens.proofs.SuffixLemmas.{line_xml}
use Rattle.xml_tokens.proofs.XmlLemmas.{printable}
use Rattle.canonical_feed.proofs.CleanLemmas.{IsClean, IsNumbered, clean_address, clean_decimal, clean_feed, clean_member}
use Rattle.canonical_feed.proofs.CleanLemmas.{clean_stamp, clean_xml}
use Rattle.canonical_feed.proofs.DocumentLemmas.{feed_scope}
use Rattle.canonical_feed.proofs.NodeLemmas.{Node, AreGoodAttributes, IsGood, IsGoodTag, begin_tag}
use Rattle.canonical_feed.proofs.NodeLemmas.Node.{done, words, empty, full}
use Rattle.canonical_feed.proofs.PartNodeLemmas.{back_node, categories_node, category_settings, construct_node, edited_name}
use Rattle.canonical_feed.proofs.PartNodeLemmas.{entry_node, holds, kind_settings, link_settings, links_node}
use Rattle.canonical_feed.proofs.PartNodeLemmas.{optional_construct_node, optional_holds, optional_setting, person_node}
use Rattle.canonical_feed.proofs.PartNodeLemmas.{persons_node, plain, published_node, relation_node, relation_setting}
use Rattle.canonical_feed.proofs.PartNodeLemmas.{setting}
use Rattle.canonical_feed.proofs.FeedNodeLemmas.{archive_name, current_node, feed_node, head_node, item_node, items_node}
use Rattle.canonical_feed.proofs.FeedNodeLemmas.{kind_next, line, link_line, next_node, own_numbered, place_node, prev_node}
use Rattle.canonical_feed.proofs.FeedNodeLemmas.{span_name, span_node, tombstone_name}

-- a name of ASCII whose prefix has a namespace in the feed
pub record IsKnown (name : QName) : Type 0 where
  pub spelled : IsQName name
  pub ascii : list_all printable (name_text name) ≡ true
  pub set : IsTrue (is_some (namespace_of feed_scope name.prefix))

none_twice : IsDistinct bytes_eq []
unfolding IsDistinct
none_twice = tt

bare_good : (name : QName) → IsKnown name → IsGoodTag (begin_tag name [])
bare_good name is = record { name = is.spelled; ascii = is.ascii; attributes = tt; distinct = none_twice }

-- an element without attributes
good_full : (name : QName) (depth : ℕ) (inner n : Node) → IsKnown name → depth < 256 →
    IsGood feed_scope (depth + 1) inner → IsGood feed_scope depth n → IsGood feed_scope depth (full name [] inner n)
good_full name depth inner n is deep good_inner good_n =
    (record { good = bare_good name is; set = is.set; deep = deep }, good_inner, good_n)

good_holds : (name : QName) (value : List ℕ) (depth : ℕ) (n : Node) → IsKnown name → depth < 256 → IsXmlText value →
    IsGood feed_scope depth n → IsGood feed_scope depth (holds name value n)
good_holds name value depth n is deep xml good_n = good_full name depth (words value done) n is deep (xml, tt) good_n

good_optional : (tag : List ℕ) (value : Option (List ℕ)) (depth : ℕ) (n : Node) → IsKnown (plain tag) → depth < 256 →
    IfSome value IsAtomText → IsGood feed_scope depth n → IsGood feed_scope depth (optional_holds tag value n)
good_optional tag None depth n is deep some good_n = good_n
good_optional tag (Some value) depth n is deep some good_n = good_holds (plain tag) value depth n is deep some.xml good_n

known : (tag : List ℕ) → IsName tag → list_all printable tag ≡ true → IsKnown (plain tag)
known tag is ascii = record { spelled = (inl refl, is); ascii = ascii; set = refl }

good_person : (tag : List ℕ) (p : Person) (depth : ℕ) (n : Node) → IsKnown (plain tag) → depth < 255 → IsPerson p →
    IsGood feed_scope depth n → IsGood feed_scope depth (person_node tag p n)
good_person tag p depth n is deep person good_n =
    let inner = depth + 1 in
    let low : inner < 256 = omega arith in
    good_full (plain tag) depth
    (holds (plain (codes "name")) p.name
    (optional_holds (codes "uri") p.uri (optional_holds (codes "email") p.email done))) n is (omega arith)
    (good_holds (plain (codes "name")) p.name inner
    (optional_holds (codes "uri") p.uri (optional_holds (codes "email") p.email done)) (known (codes "name") refl refl)
    low person.name.xml
    (good_optional (codes "uri") p.uri inner (optional_holds (codes "email") p.email done)
    (known (codes "uri") refl refl) low person.uri
    (good_optional (codes "email") p.email inner done (known (codes "email") refl refl) low person.email tt)))
    good_n

good_persons : (tag : List ℕ) (ps : List Person) (depth : ℕ) (n : Node) → IsKnown (plain tag) → depth < 255 →
    All IsPerson ps → IsGood feed_scope depth n → IsGood feed_scope depth (persons_node tag ps n)
good_persons tag [] depth n is deep all good_n = good_n
good_persons tag (p ∷ ps) depth n is deep all good_n =
    good_person tag p depth (persons_node tag ps n) is deep (All-head IsPerson p ps all)
    (good_persons tag ps depth n is deep (All-tail IsPerson p ps all) good_n)

-- good attributes that declare no namespace, whose names are different and among `names`
pub record AreAmong (names : List (List ℕ)) (attributes : List Attribute) : Type 0 where
  pub good : AreGoodAttributes attributes
  pub none : filter_map declared attributes ≡ []
  pub distinct : IsDistinct bytes_eq (map (λ (a : Attribute). name_text a.name) attributes)
  pub each : (x : List ℕ) → AllByRecursion (λ y. bytes_eq x y ≡ false) names →
      AllByRecursion (λ y. bytes_eq x y ≡ false) (map (λ (a : Attribute). name_text a.name) attributes)

no_settings : AreAmong [] []
no_settings = record { good = tt; none = refl; distinct = none_twice; each = λ x apart. apart }

-- a name of an attribute that isn't among the others
record IsNew (name : List ℕ) (names : List (List ℕ)) : Type 0 where
  spelled : IsName name
  ascii : list_all printable name ≡ true
  apart : AllByRecursion (λ y. bytes_eq name y ≡ false) names
  none : (value : List ℕ) → declared (setting name value) ≡ None

more_settings : (name value : List ℕ) (names : List (List ℕ)) (more : List Attribute) → IsNew name names →
    IsXmlText value → AreAmong names more → AreAmong (name ∷ names) (setting name value ∷ more)
unfolding IsDistinct
more_settings name value names more new xml are = record {
  good = (record { name = (inl refl, new.spelled); ascii = new.ascii; value = xml }, are.good);
  none = rw (new.none value) are.none;
  distinct = (are.each name new.apart, are.distinct);
  each = λ x apart. (apart.0, are.each x apart.1);
}

optional_settings : (name : List ℕ) (value : Option (List ℕ)) (names : List (List ℕ)) (more : List Attribute) →
    IsNew name names → IfSome value IsAtomText → AreAmong names more →
    AreAmong (name ∷ names) (optional_setting name value more)
optional_settings name None names more new xml are = record {
  good = are.good;
  none = are.none;
  distinct = are.distinct;
  each = λ x apart. are.each x apart.1;
}
optional_settings name (Some value) names more new xml are = more_settings name value names more new xml.xml are

relation_settings : (l : Link) (names : List (List ℕ)) (more : List Attribute) → IsNew (codes "rel") names →
    IsXmlText l.rel → AreAmong names more → AreAmong (codes "rel" ∷ names) (relation_setting l more)
relation_settings l names more new xml are =
    elim (has_relation (codes "alternate") l) as (λ b.
    AreAmong (codes "rel" ∷ names) (if b then more else setting (codes "rel") l.rel ∷ more)) [
      | true ↦ record {
        good = are.good;
        none = are.none;
        distinct = are.distinct;
        each = λ x apart. are.each x apart.1;
      }
      | false ↦ more_settings (codes "rel") l.rel names more new xml are
    ]

-- an empty element whose attributes have some of these names
good_empty : (name : QName) (attributes : List Attribute) (names : List (List ℕ)) (depth : ℕ) (n : Node) → IsKnown name →
    depth < 256 → AreAmong names attributes → IsGood feed_scope depth n →
    IsGood feed_scope depth (empty name attributes n)
good_empty name attributes names depth n is deep are good_n = (
  record {
    good = record { name = is.spelled; ascii = is.ascii; attributes = are.good; distinct = are.distinct };
    set = (let S : List Binding → Type 0 = λ bs. IsTrue (is_some (namespace_of (bs ++ feed_scope) name.prefix)) in
        subst S (sym are.none) is.set);
    deep = deep;
  },
  good_n,
)

-- two attributes
pair_settings : (a u b v : List ℕ) → IsNew a (b ∷ []) → IsNew b [] → IsXmlText u → IsXmlText v →
    AreAmong (a ∷ b ∷ []) (setting a u ∷ setting b v ∷ [])
pair_settings a u b v new_a new_b xml_u xml_v =
    more_settings a u (b ∷ []) (setting b v ∷ []) new_a xml_u (more_settings b v [] [] new_b xml_v no_settings)

pub link_settings_good : (l : Link) → IsLink l →
    AreAmong (codes "rel" ∷ codes "href" ∷ codes "type" ∷ codes "hreflang" ∷ codes "title" ∷ codes "length" ∷ [])
    (link_settings l)
link_settings_good l is =
    let a6 = optional_setting (codes "length") l.length [] in
    let a5 = optional_setting (codes "title") l.title a6 in
    let a4 = optional_setting (codes "hreflang") l.hreflang a5 in
    let a3 = optional_setting (codes "type") l.media a4 in
    let n6 = codes "length" ∷ [] in
    let n5 = codes "title" ∷ n6 in
    let n4 = codes "hreflang" ∷ n5 in
    let n3 = codes "type" ∷ n4 in
    relation_settings l (codes "href" ∷ n3) (setting (codes "href") l.href ∷ a3)
    (record {
      spelled = refl;
      ascii = refl;
      apart = (refl, (refl, (refl, (refl, (refl, tt)))));
      none = λ value. refl;
    }) is.rel.xml
    (more_settings (codes "href") l.href n3 a3
    (record { spelled = refl; ascii = refl; apart = (refl, (refl, (refl, (refl, tt)))); none = λ value. refl }) is.href.xml
    (optional_settings (codes "type") l.media n4 a4
    (record { spelled = refl; ascii = refl; apart = (refl, (refl, (refl, tt))); none = λ value. refl }) is.media
    (optional_settings (codes "hreflang") l.hreflang n5 a5
    (record { spelled = refl; ascii = refl; apart = (refl, (refl, tt)); none = λ value. refl }) is.hreflang
    (optional_settings (codes "title") l.title n6 a6
    (record { spelled = refl; ascii = refl; apart = (refl, tt); none = λ value. refl }) is.title
    (optional_settings (codes "length") l.length [] []
    (record { spelled = refl; ascii = refl; apart = tt; none = λ value. refl }) is.length no_settings)))))

good_links : (ls : List Link) (depth : ℕ) (n : Node) → depth < 256 → All IsLink ls → IsGood feed_scope depth n →
    IsGood feed_scope depth (links_node ls n)
good_links [] depth n deep all good_n = good_n
good_links (l ∷ ls) depth n deep all good_n =
    good_empty (plain (codes "link")) (link_settings l)
    (codes "rel" ∷ codes "href" ∷ codes "type" ∷ codes "hreflang" ∷ codes "title" ∷ codes "length" ∷ []) depth
    (links_node ls n) (known (codes "link") refl refl) deep (link_settings_good l (All-head IsLink l ls all))
    (good_links ls depth n deep (All-tail IsLink l ls all) good_n)

pub category_settings_good : (c : Category) → IsCategory c →
    AreAmong (codes "term" ∷ codes "scheme" ∷ codes "label" ∷ []) (category_settings c)
category_settings_good c is =
    let a3 = optional_setting (codes "label") c.label [] in
    let a2 = optional_setting (codes "scheme") c.scheme a3 in
    let n3 = codes "label" ∷ [] in
    more_settings (codes "term") c.term (codes "scheme" ∷ n3) a2
    (record { spelled = refl; ascii = refl; apart = (refl, (refl, tt)); none = λ value. refl }) is.term.xml
    (optional_settings (codes "scheme") c.scheme n3 a3
    (record { spelled = refl; ascii = refl; apart = (refl, tt); none = λ value. refl }) is.scheme
    (optional_settings (codes "label") c.label [] []
    (record { spelled = refl; ascii = refl; apart = tt; none = λ value. refl }) is.label no_settings))

good_categories : (cs : List Category) (depth : ℕ) (n : Node) → depth < 256 → All IsCategory cs →
    IsGood feed_scope depth n → IsGood feed_scope depth (categories_node cs n)
good_categories [] depth n deep all good_n = good_n
good_categories (c ∷ cs) depth n deep all good_n =
    good_empty (plain (codes "category")) (category_settings c) (codes "term" ∷ codes "scheme" ∷ codes "label" ∷ []) depth
    (categories_node cs n) (known (codes "category") refl refl) deep
    (category_settings_good c (All-head IsCategory c cs all))
    (good_categories cs depth n deep (All-tail IsCategory c cs all) good_n)

pub kind_settings_good : (kind : TextKind) → AreAmong (codes "type" ∷ []) (kind_settings kind)
kind_settings_good Plain = record {
  good = tt;
  none = refl;
  distinct = none_twice;
  each = λ x apart. tt;
}
kind_settings_good Html =
    more_settings (codes "type") (codes "html") [] []
    (record { spelled = refl; ascii = refl; apart = tt; none = λ value. refl }) (clean_xml (codes "html") refl) no_settings

good_construct : (tag : List ℕ) (t : Text) (depth : ℕ) (n : Node) → IsKnown (plain tag) → depth < 256 → IsText t →
    IsGood feed_scope depth n → IsGood feed_scope depth (construct_node tag t n)
good_construct tag t depth n is deep text good_n =
    let are = kind_settings_good t.kind in (
      record {
        good = record { name = is.spelled; ascii = is.ascii; attributes = are.good; distinct = are.distinct };
        set = (let S : List Binding → Type 0 = λ bs. IsTrue (is_some (namespace_of (bs ++ feed_scope) [])) in
            subst S (sym are.none) is.set);
        deep = deep;
      },
      (text.xml, tt),
      good_n,
    )

good_optional_construct : (tag : List ℕ) (t : Option Text) (depth : ℕ) (n : Node) → IsKnown (plain tag) → depth < 256 →
    IfSome t IsText → IsGood feed_scope depth n → IsGood feed_scope depth (optional_construct_node tag t n)
good_optional_construct tag None depth n is deep text good_n = good_n
good_optional_construct tag (Some t) depth n is deep text good_n = good_construct tag t depth n is deep text good_n

good_published : (moment : Option ℤ) (depth : ℕ) (n : Node) → depth < 256 → IsGood feed_scope depth n →
    IsGood feed_scope depth (published_node moment n)
good_published None depth n deep good_n = good_n
good_published (Some moment) depth n deep good_n =
    good_holds (plain (codes "published")) (stamp.printed moment) depth n (known (codes "published") refl refl) deep
    (clean_xml (stamp.printed moment) (clean_stamp moment)) good_n

good_relation : (rel href : List ℕ) (depth : ℕ) (n : Node) → IsXmlText rel → IsXmlText href → depth < 256 →
    IsGood feed_scope depth n → IsGood feed_scope depth (relation_node rel href n)
good_relation rel href depth n xml_rel xml_href deep good_n =
    good_empty (plain (codes "link")) (setting (codes "rel") rel ∷ setting (codes "href") href ∷ [])
    (codes "rel" ∷ codes "href" ∷ []) depth n (known (codes "link") refl refl) deep
    (pair_settings (codes "rel") rel (codes "href") href
    (record { spelled = refl; ascii = refl; apart = (refl, tt); none = λ value. refl })
    (record { spelled = refl; ascii = refl; apart = tt; none = λ value. refl }) xml_rel xml_href) good_n

good_back : (name : FeedName) (e : EntryValue) (depth : ℕ) → IsBase name.base → IsEntry e → depth < 255 →
    IsGood feed_scope depth (back_node name e)
good_back name e depth is good deep =
    let n6 = optional_construct_node (codes "content") e.content done in
    let n5 = optional_construct_node (codes "summary") e.summary n6 in
    let n4 = optional_construct_node (codes "rights") e.rights n5 in
    let n3 = categories_node e.categories n4 in
    let n2 = links_node e.links n3 in
    let own = address.printed name.base (Member e.number) in
    let low : depth < 256 = omega arith in
    good_persons (codes "contributor") e.contributors depth (relation_node (codes "edit") own n2)
    (known (codes "contributor") refl refl) deep good.contributors.1
    (good_relation (codes "edit") own depth n2 (clean_xml (codes "edit") refl)
    (clean_xml own (clean_address name.base (Member e.number) is good.number)) low
    (good_links e.links depth n3 low good.links.1
    (good_categories e.categories depth n4 low good.categories.1
    (good_optional_construct (codes "rights") e.rights depth n5 (known (codes "rights") refl refl) low good.rights
    (good_optional_construct (codes "summary") e.summary depth n6 (known (codes "summary") refl refl) low good.summary
    (good_optional_construct (codes "content") e.content depth done (known (codes "content") refl refl) low good.content
    tt))))))

good_entry : (name : FeedName) (e : EntryValue) (depth : ℕ) → IsBase name.base → IsEntry e → depth < 255 →
    IsGood feed_scope depth (entry_node name e)
good_entry name e depth is good deep =
    let n6 = back_node name e in
    let n5 = persons_node (codes "author") e.authors n6 in
    let n4 = holds edited_name (stamp.printed e.edited) n5 in
    let n3 = published_node e.published n4 in
    let n2 = holds (plain (codes "updated")) (stamp.printed e.updated) n3 in
    let n1 = construct_node (codes "title") e.title n2 in
    let low : depth < 256 = omega arith in
    good_holds (plain (codes "id")) (member_id name.id e.number) depth n1 (known (codes "id") refl refl) low
    (clean_xml (member_id name.id e.number) (clean_member name.id e.number))
    (good_construct (codes "title") e.title depth n2 (known (codes "title") refl refl) low good.title
    (good_holds (plain (codes "updated")) (stamp.printed e.updated) depth n3 (known (codes "updated") refl refl) low
    (clean_xml (stamp.printed e.updated) (clean_stamp e.updated))
    (good_published e.published depth n4 low
    (good_holds edited_name (stamp.printed e.edited) depth n5
    (record { spelled = (inr refl, refl); ascii = refl; set = refl }) low
    (clean_xml (stamp.printed e.edited) (clean_stamp e.edited))
    (good_persons (codes "author") e.authors depth n6 (known (codes "author") refl refl) deep good.authors.1
    (good_back name e depth is good deep))))))

good_line : (depth : ℕ) (n : Node) → IsGood feed_scope depth n → IsGood feed_scope depth (line n)
good_line depth n good = (line_xml, good)

good_item : (name : FeedName) (i : Item) (n : Node) → IsBase name.base → IsItem i → IsGood feed_scope 1 n →
    IsGood feed_scope 1 (item_node name i n)
good_item name (Kept e) n is good good_n =
    good_full (plain (codes "entry")) 1 (entry_node name e) (line n) (known (codes "entry") refl refl) (omega arith)
    (good_entry name e 2 is good (omega arith)) (good_line 1 n good_n)
good_item name (Gone t) n is good good_n =
    good_empty tombstone_name
    (setting (codes "ref") (member_id name.id t.number) ∷ setting (codes "when") (stamp.printed t.when) ∷ [])
    (codes "ref" ∷ codes "when" ∷ []) 1 (line n) (record { spelled = (inr refl, refl); ascii = refl; set = refl })
    (omega arith)
    (pair_settings (codes "ref") (member_id name.id t.number) (codes "when") (stamp.printed t.when)
    (record { spelled = refl; ascii = refl; apart = (refl, tt); none = λ value. refl })
    (record { spelled = refl; ascii = refl; apart = tt; none = λ value. refl })
    (clean_xml (member_id name.id t.number) (clean_member name.id t.number))
    (clean_xml (stamp.printed t.when) (clean_stamp t.when)))
    (good_line 1 n good_n)

good_items : (name : FeedName) (items : List Item) (n : Node) → IsBase name.base → All IsItem items →
    IsGood feed_scope 1 n → IsGood feed_scope 1 (items_node name items n)
good_items name [] n is good good_n = good_n
good_items name (i ∷ more) n is good good_n =
    good_item name i (items_node name more n) is (All-head IsItem i more good)
    (good_items name more n is (All-tail IsItem i more good) good_n)

good_link_line : (rel : List ℕ) (name : FeedName) (to : Address) (n : Node) → IsClean rel → IsBase name.base →
    IsNumbered to → IsGood feed_scope 1 n → IsGood feed_scope 1 (link_line rel name to n)
good_link_line rel name to n clean is few good_n =
    good_relation rel (address.printed name.base to) 1 (line n) (clean_xml rel clean)
    (clean_xml (address.printed name.base to) (clean_address name.base to is few)) (omega arith) (good_line 1 n good_n)

good_current : (name : FeedName) (kind : Kind) (n : Node) → IsBase name.base → IsGood feed_scope 1 n →
    IsGood feed_scope 1 (current_node name kind n)
good_current name Subscription n is good_n = good_n
good_current name (Sealed number) n is good_n = good_link_line (codes "current") name Feed n refl is tt good_n

good_prev : (name : FeedName) (prev : ℕ) (n : Node) → IsBase name.base → prev < 2 ^ 32 → IsGood feed_scope 1 n →
    IsGood feed_scope 1 (prev_node name prev n)
good_prev name prev n is few good_n =
    elim (prev == 0) as (λ b.
    IsGood feed_scope 1 (if b then n else link_line (codes "prev-archive") name (Archive prev) n))
    [ true ↦ good_n | false ↦ good_link_line (codes "prev-archive") name (Archive prev) n refl is few good_n ]

good_next : (name : FeedName) (kind : Kind) (n : Node) → IsBase name.base → HasNext kind → IsGood feed_scope 1 n →
    IsGood feed_scope 1 (next_node name kind n)
good_next name Subscription n is few good_n = good_n
good_next name (Sealed number) n is few good_n =
    good_link_line (codes "next-archive") name (Archive (number + 1)) (empty archive_name [] (line n)) refl is
    (omega (arith, few))
    (good_empty archive_name [] [] 1 (line n) (record { spelled = (inr refl, refl); ascii = refl; set = refl }) (omega arith)
    no_settings (good_line 1 n good_n))

good_span : (span : Span) (n : Node) → span.first < 2 ^ 32 → span.last < 2 ^ 32 → IsGood feed_scope 1 n →
    IsGood feed_scope 1 (span_node span n)
good_span span n first last good_n =
    good_empty span_name
    (setting (codes "first") (decimal span.first) ∷ setting (codes "last") (decimal span.last) ∷ [])
    (codes "first" ∷ codes "last" ∷ []) 1 (line n) (record { spelled = (inr refl, refl); ascii = refl; set = refl })
    (omega arith)
    (pair_settings (codes "first") (decimal span.first) (codes "last") (decimal span.last)
    (record { spelled = refl; ascii = refl; apart = (refl, tt); none = λ value. refl })
    (record { spelled = refl; ascii = refl; apart = tt; none = λ value. refl })
    (clean_xml (decimal span.first) (clean_decimal span.first (omega arith)))
    (clean_xml (decimal span.last) (clean_decimal span.last (omega arith))))
    (good_line 1 n good_n)

good_place : (name : FeedName) (kind : Kind) (span : Span) (prev : ℕ) (n : Node) → IsBase name.base → HasNext kind →
    span.first < 2 ^ 32 → span.last < 2 ^ 32 → prev < 2 ^ 32 → IsGood feed_scope 1 n →
    IsGood feed_scope 1 (place_node name kind span prev n)
good_place name kind span prev n is few first last before good_n =
    let n4 = span_node span n in
    let n3 = next_node name kind n4 in
    let n2 = prev_node name prev n3 in
    good_link_line (codes "self") name (own_address kind) (current_node name kind n2) refl is (own_numbered kind few)
    (good_current name kind n2 is
    (good_prev name prev n3 is before (good_next name kind n4 is few (good_span span n first last good_n))))

good_head : (name : FeedName) (updated : ℤ) (n : Node) → IsFeedName name → IsGood feed_scope 1 n →
    IsGood feed_scope 1 (head_node name updated n)
good_head name updated n is good_n =
    let author = full (plain (codes "author")) [] (holds (plain (codes "name")) name.author done) (line n) in
    let dated = holds (plain (codes "updated")) (stamp.printed updated) (line author) in
    let titled = holds (plain (codes "title")) name.title (line dated) in
    let id = codes "urn:uuid:" ++ feed_text name.id in
    good_line 1 (holds (plain (codes "id")) id (line titled))
    (good_holds (plain (codes "id")) id 1 (line titled) (known (codes "id") refl refl) (omega arith)
    (clean_xml id (clean_feed name.id))
    (good_line 1 titled
    (good_holds (plain (codes "title")) name.title 1 (line dated) (known (codes "title") refl refl) (omega arith)
    is.title.xml
    (good_line 1 dated
    (good_holds (plain (codes "updated")) (stamp.printed updated) 1 (line author) (known (codes "updated") refl refl)
    (omega arith) (clean_xml (stamp.printed updated) (clean_stamp updated))
    (good_line 1 author
    (good_full (plain (codes "author")) 1 (holds (plain (codes "name")) name.author done) (line n)
    (known (codes "author") refl refl) (omega arith)
    (good_holds (plain (codes "name")) name.author 2 done (known (codes "name") refl refl) (omega arith) is.author.xml tt)
    (good_line 1 n good_n))))))))

-- the content of a document may stand in its feed
pub feed_node_good : (d : DocValue) → IsDoc d → IsGood feed_scope 1 (feed_node d)
feed_node_good d is =
    let items = items_node d.name d.items done in
    good_head d.name d.updated (place_node d.name d.kind d.span d.prev items) is.name
    (good_place d.name d.kind d.span d.prev items is.name.base (kind_next d is) is.first is.last is.prev
    (good_items d.name d.items done is.name.base is.items tt))
