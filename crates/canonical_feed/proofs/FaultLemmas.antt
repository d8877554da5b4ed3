-- No element of the content of a document is refused.
use Rattle.std.proofs.Common.{◌≡◌, ℕ, ◌+◌, ◌<◌, ◌≤◌, false, List, [], ◌∷◌, ◌++◌, length, ℤ, Option}
use Rattle.std.proofs.Common.{Some, None, refl, sym, ap, subst, ◌∙◌, codes, arith, All, ⊎_elim, length-append}
use Rattle.std.specs.Prelude.{if◌then◌else◌, chars, filter, filter_map}
use Rattle.std.proofs.lemmas.Bool.{cond-false}
use Rattle.std.proofs.lemmas.List.Elements.{All-append, All-cons, All-head, All-nil, All-tail}
use Rattle.atom_values.specs.declared.category.Category.{Category}
use Rattle.atom_values.specs.declared.link.Link.{Link}
use Rattle.atom_values.specs.declared.person.Person.{Person}
use Rattle.atom_values.specs.declared.text.Text.{Text}
use Rattle.atom_values.specs.Category.{IsCategory}
use Rattle.atom_values.specs.Link.{IsLink}
use Rattle.atom_values.specs.DateText.{States}
use Rattle.atom_values.specs.Entry.{EntryValue, IsEntry}
use Rattle.atom_values.specs.Stamp as stamp
use Rattle.atom_values.specs.XmlText.{text_limit}
use Rattle.chain_links.specs.Address as address
use Rattle.chain_links.specs.declared.address.Address.TheVariants.{Member}
use Rattle.deleted_entries.specs.FeedId.{feed_text, member_bytes, member_id}
use Rattle.deleted_entries.proofs.IdLemmas.{length-by_index}
use Rattle.uuid.specs.Text.{digit_place, hex_digit, hyphen, hyphenated_text, is_hyphen_place, lower, nibble}
use Rattle.atom_writer.specs.declared.doc.FeedName.{FeedName}
use Rattle.xml_tokens.specs.Characters.{QName}
use Rattle.xml_tokens.specs.Tokens.{Attribute}
use Rattle.xml_tokens.specs.Stages.{declared, inner_scope}
use Rattle.xml_tokens.specs.Tree.{Content, Element, Name, element_of}
use Rattle.xml_tokens.specs.Tree.Content.{nothing, element}
use Rattle.xml_tokens.specs.Children.{Child, child, same_name}
use Rattle.feed_reader.specs.declared.fault.FeedWhy.{FeedWhy}
use Rattle.feed_reader.specs.declared.fault.FeedWhy.TheVariants.{Token, NotAFeed, Missing, Twice, BadDate, TooLong}
use Rattle.feed_reader.specs.declared.fault.FeedWhy.TheVariants.{BadLink, TooMany}
use Rattle.xml_tokens.specs.Order.{Placed, IsFaultless, all_placed, count_before}
use Rattle.feed_reader.specs.Feed.{cut_text, item_limit, whole_text}
use Rattle.feed_reader.specs.FeedFaults.{Within, IsFault, LacksChild, feed_rules, kind_in, within_kind}
use Rattle.feed_reader.specs.FeedFaults.Within.{in_entry}
use Rattle.feed_reader.specs.FeedFaults.Kind.{feed, entry, identifier, title, date, link, skipped}
use Rattle.feed_reader.proofs.FeedFaultLemmas.{skipped_faultless}
use Rattle.canonical_feed.proofs.CharacterLemmas.{end_of, said_before}
use Rattle.canonical_feed.proofs.DocumentLemmas.{feed_scope}
use Rattle.canonical_feed.proofs.GoodLemmas.{category_settings_good, kind_settings_good, link_settings_good}
use Rattle.canonical_feed.proofs.KidLemmas.{name_known, resolved}
use Rattle.canonical_feed.proofs.NodeLemmas.{Node, after, begin_tag, close_text, empty_tag, tag_text, tree}
use Rattle.canonical_feed.proofs.NodeLemmas.Node.{done, words, empty, full}
use Rattle.canonical_feed.proofs.PartNodeLemmas.{back_node, categories_node, category_settings, construct_node, edited_name}
use Rattle.canonical_feed.proofs.PartNodeLemmas.{entry_node, holds, kind_settings, link_settings, links_node}
use Rattle.canonical_feed.proofs.PartNodeLemmas.{optional_construct_node, optional_holds, persons_node, plain, published_node}
use Rattle.canonical_feed.proofs.PartNodeLemmas.{relation_node, rest_node, setting}
use Rattle.canonical_feed.proofs.ReadLemmas.{entry_id, entry_title, entry_updated}
use Rattle.canonical_feed.proofs.ReadLemmas.{id_cut, stamp_states}
use Rattle.canonical_feed.proofs.ReadLemmas.{title_name, title_whole}

-- ---- why an element isn't refused, by its kind

pub id_none : (from : List ℕ) (p : Placed Within) → count_before p ≡ 0 → length (cut_text p.child) ≤ text_limit →
    (why : FeedWhy) → IsFault from identifier why p → ⊥
id_none from p first short (Token c) h = h
id_none from p first short NotAFeed h = h
id_none from p first short Missing h = h
id_none from p first short Twice h = omega (arith, h, first)
id_none from p first short BadDate h = h
id_none from p first short TooLong h = omega (arith, h, short)
id_none from p first short BadLink h = h
id_none from p first short TooMany h = h

title_none : (from : List ℕ) (p : Placed Within) → count_before p ≡ 0 → length (whole_text p.child) ≤ text_limit →
    (why : FeedWhy) → IsFault from title why p → ⊥
title_none from p first short (Token c) h = h
title_none from p first short NotAFeed h = h
title_none from p first short Missing h = h
title_none from p first short Twice h = omega (arith, h, first)
title_none from p first short BadDate h = h
title_none from p first short TooLong h = omega (arith, h, short)
title_none from p first short BadLink h = h
title_none from p first short TooMany h = h

pub date_none : (from : List ℕ) (p : Placed Within) (z : ℤ) → count_before p ≡ 0 → States (cut_text p.child) z →
    (why : FeedWhy) → IsFault from date why p → ⊥
date_none from p z first states (Token c) h = h
date_none from p z first states NotAFeed h = h
date_none from p z first states Missing h = h
date_none from p z first states Twice h = omega (arith, h, first)
date_none from p z first states BadDate h = h z states
date_none from p z first states TooLong h = h
date_none from p z first states BadLink h = h
date_none from p z first states TooMany h = h

pub link_none : (from : List ℕ) (p : Placed Within) → (IsFault from link BadLink p → ⊥) →
    (why : FeedWhy) → IsFault from link why p → ⊥
link_none from p good (Token c) h = h
link_none from p good NotAFeed h = h
link_none from p good Missing h = h
link_none from p good Twice h = h
link_none from p good BadDate h = h
link_none from p good TooLong h = h
link_none from p good BadLink h = good h
link_none from p good TooMany h = h

pub entry_none : (from : List ℕ) (p : Placed Within) → (LacksChild p.child.content → ⊥) → count_before p < item_limit →
    (why : FeedWhy) → IsFault from entry why p → ⊥
entry_none from p whole few (Token c) h = h
entry_none from p whole few NotAFeed h = h
entry_none from p whole few Missing h = whole h
entry_none from p whole few Twice h = h
entry_none from p whole few BadDate h = h
entry_none from p whole few TooLong h = h
entry_none from p whole few BadLink h = h
entry_none from p whole few TooMany h = omega (arith, h, few)

pub feed_none : (from : List ℕ) (p : Placed Within) → (LacksChild p.child.content → ⊥) →
    (why : FeedWhy) → IsFault from feed why p → ⊥
feed_none from p whole (Token c) h = h
feed_none from p whole NotAFeed h = h
feed_none from p whole Missing h = whole h
feed_none from p whole Twice h = h
feed_none from p whole BadDate h = h
feed_none from p whole TooLong h = h
feed_none from p whole BadLink h = h
feed_none from p whole TooMany h = h

-- the content has the children that it must have
pub has_children : (c : Content) (id updated : Child) → child (codes "id") c ≡ Some id →
    child (codes "updated") c ≡ Some updated → LacksChild c → ⊥
has_children c id updated is_id is_updated lacks =
    ⊎_elim (λ none. let bad : None ≡ Some id = sym none ∙ is_id in cc)
    (λ none. let bad : None ≡ Some updated = sym none ∙ is_updated in cc) lacks

-- ---- contents without a refusal

-- no element of the content is refused in this place, if at most `k` elements are before it
abbrev pub Clear : List ℕ → Within → ℕ → Node → Type 0
Clear from w k n =
    (before : List Element) (at : ℕ) → length before ≤ k →
    All (IsFaultless (feed_rules from)) (all_placed (feed_rules from) w before (tree feed_scope at n nothing))

pub said_placed : (from : List ℕ) (w : Within) (before : List Element) (cs : List ℕ) (c : Content) →
    all_placed (feed_rules from) w before (said_before cs c) ≡ all_placed (feed_rules from) w before c
said_placed from w before [] c = refl
said_placed from w before (k ∷ cs) c = said_placed from w before cs c

pub clear_words : (from : List ℕ) (w : Within) (k : ℕ) (t : List ℕ) (n : Node) → Clear from w k n →
    Clear from w k (words t n)
clear_words from w k t n clear before at few =
    subst (λ ps. All (IsFaultless (feed_rules from)) ps)
    (sym (said_placed from w before (chars t) (tree feed_scope (end_of at (chars t)) n nothing)))
    (clear before (end_of at (chars t)) few)

pub clear_done : (from : List ℕ) (w : Within) (k : ℕ) → Clear from w k done
clear_done from w k before at few = All-nil (IsFaultless (feed_rules from))

pub clear_less : (from : List ℕ) (w : Within) (k : ℕ) (n : Node) → Clear from w (k + 1) n → Clear from w k n
clear_less from w k n clear before at few = clear before at (omega arith)

-- one more element
pub step : (from : List ℕ) (w : Within) (before : List Element) (e : Element) (inner rest : Content) →
    IsFaultless (feed_rules from) (record { within = w; before = before; child = record { element = e; content = inner } }) →
    All (IsFaultless (feed_rules from)) (all_placed (feed_rules from) (within_kind (kind_in w e.name)) [] inner) →
    All (IsFaultless (feed_rules from)) (all_placed (feed_rules from) w (before ++ e ∷ []) rest) →
    All (IsFaultless (feed_rules from)) (all_placed (feed_rules from) w before (element e inner rest))
step from w before e inner rest own deeper later =
    let p : Placed Within = record {
      within = w;
      before = before;
      child = record { element = e; content = inner };
    } in
    let xs = all_placed (feed_rules from) (within_kind (kind_in w e.name)) [] inner in
    let ys = all_placed (feed_rules from) w (before ++ e ∷ []) rest in
    All-cons (IsFaultless (feed_rules from)) p (xs ++ ys) own (All-append (IsFaultless (feed_rules from)) xs ys deeper later)

pub one_longer : (before : List Element) (e : Element) (k : ℕ) → length before ≤ k → length (before ++ e ∷ []) ≤ k + 1
one_longer before e k few = omega (arith, length-append before (e ∷ []))

pub skipped_step : (from : List ℕ) (w : Within) (before : List Element) (e : Element) (inner rest : Content) →
    kind_in w e.name ≡ skipped →
    All (IsFaultless (feed_rules from)) (all_placed (feed_rules from) w (before ++ e ∷ []) rest) →
    All (IsFaultless (feed_rules from)) (all_placed (feed_rules from) w before (element e inner rest))
skipped_step from w before e inner rest is later =
    let p : Placed Within = record {
      within = w;
      before = before;
      child = record { element = e; content = inner };
    } in
    let none : (why : FeedWhy) → IsFault from skipped why p → ⊥ = λ why h. h in
    step from w before e inner rest
    (λ why h. none why (subst (λ k. IsFault from k why p) is h))
    (subst (λ k. All (IsFaultless (feed_rules from)) (all_placed (feed_rules from) (within_kind k) [] inner)) (sym is)
    (skipped_faultless from [] inner))
    later

clear_full : (from : List ℕ) (w : Within) (k : ℕ) (name : QName) (attributes : List Attribute) (inner n : Node) →
    kind_in w (resolved name) ≡ skipped → filter_map declared attributes ≡ [] → Clear from w (k + 1) n →
    Clear from w k (full name attributes inner n)
clear_full from w k name attributes inner n is none clear before at few =
    let tag = begin_tag name attributes in
    let e = element_of feed_scope tag at in
    let next = at + length (tag_text tag) in
    let behind = after next inner + length (close_text name) in
    skipped_step from w before e (tree (inner_scope feed_scope tag) next inner nothing) (tree feed_scope behind n nothing)
    (ap (kind_in w) (name_known tag at none) ∙ is)
    (clear (before ++ e ∷ []) behind (one_longer before e k few))

pub clear_empty : (from : List ℕ) (w : Within) (k : ℕ) (name : QName) (attributes : List Attribute) (n : Node) →
    kind_in w (resolved name) ≡ skipped → filter_map declared attributes ≡ [] → Clear from w (k + 1) n →
    Clear from w k (empty name attributes n)
clear_empty from w k name attributes n is none clear before at few =
    let tag = empty_tag name attributes in
    let e = element_of feed_scope tag at in
    let behind = at + length (tag_text tag) in
    skipped_step from w before e nothing (tree feed_scope behind n nothing)
    (ap (kind_in w) (name_known tag at none) ∙ is)
    (clear (before ++ e ∷ []) behind (one_longer before e k few))

-- ---- the elements of an entry that are skipped

abbrev Free : List ℕ → Node → Type 0
Free from n = (k : ℕ) → Clear from in_entry k n

free_persons : (from tag : List ℕ) (ps : List Person) (n : Node) → kind_in in_entry (resolved (plain tag)) ≡ skipped →
    Free from n → Free from (persons_node tag ps n)
free_persons from tag [] n is free k = free k
free_persons from tag (p ∷ ps) n is free k =
    clear_full from in_entry k (plain tag) []
    (holds (plain (codes "name")) p.name
    (optional_holds (codes "uri") p.uri (optional_holds (codes "email") p.email done))) (persons_node tag ps n) is refl
    (free_persons from tag ps n is free (k + 1))

free_links : (from : List ℕ) (ls : List Link) (n : Node) → All IsLink ls → Free from n → Free from (links_node ls n)
free_links from [] n all free k = free k
free_links from (l ∷ ls) n all free k =
    clear_empty from in_entry k (plain (codes "link")) (link_settings l) (links_node ls n) refl
    (link_settings_good l (All-head IsLink l ls all)).none
    (free_links from ls n (All-tail IsLink l ls all) free (k + 1))

free_categories : (from : List ℕ) (cs : List Category) (n : Node) → All IsCategory cs → Free from n →
    Free from (categories_node cs n)
free_categories from [] n all free k = free k
free_categories from (c ∷ cs) n all free k =
    clear_empty from in_entry k (plain (codes "category")) (category_settings c) (categories_node cs n) refl
    (category_settings_good c (All-head IsCategory c cs all)).none
    (free_categories from cs n (All-tail IsCategory c cs all) free (k + 1))

free_construct : (from tag : List ℕ) (t : Option Text) (n : Node) → kind_in in_entry (resolved (plain tag)) ≡ skipped →
    Free from n → Free from (optional_construct_node tag t n)
free_construct from tag None n is free k = free k
free_construct from tag (Some t) n is free k =
    clear_full from in_entry k (plain tag) (kind_settings t.kind) (words t.value done) n is (kind_settings_good t.kind).none
    (free (k + 1))

free_published : (from : List ℕ) (moment : Option ℤ) (n : Node) → Free from n → Free from (published_node moment n)
free_published from None n free k = free k
free_published from (Some moment) n free k =
    clear_full from in_entry k (plain (codes "published")) [] (words (stamp.printed moment) done) n refl refl (free (k + 1))

free_rest : (from : List ℕ) (name : FeedName) (e : EntryValue) → IsEntry e → Free from (rest_node name e)
free_rest from name e is =
    let n6 = optional_construct_node (codes "content") e.content done in
    let n5 = optional_construct_node (codes "summary") e.summary n6 in
    let n4 = optional_construct_node (codes "rights") e.rights n5 in
    let n3 = categories_node e.categories n4 in
    let n2 = links_node e.links n3 in
    let own = address.printed name.base (Member e.number) in
    let n1 = relation_node (codes "edit") own n2 in
    let back = back_node name e in
    free_published from e.published
    (holds edited_name (stamp.printed e.edited) (persons_node (codes "author") e.authors back))
    (λ k. clear_full from in_entry k edited_name [] (words (stamp.printed e.edited) done) (persons_node (codes "author") e.authors back) refl refl
    (free_persons from (codes "author") e.authors back refl
    (free_persons from (codes "contributor") e.contributors n1 refl
    (λ j. clear_empty from in_entry j (plain (codes "link"))
    (setting (codes "rel") (codes "edit") ∷ setting (codes "href") own ∷ []) n2 refl refl
    (free_links from e.links n3 is.links.1
    (free_categories from e.categories n4 is.categories.1
    (free_construct from (codes "rights") e.rights n5 refl
    (free_construct from (codes "summary") e.summary n6 refl
    (free_construct from (codes "content") e.content done refl (λ i. clear_done from in_entry i))))) (j + 1))))
    (k + 1)))

-- ---- an entry

length_uuid : (xs : List ℕ) → length (hyphenated_text lower xs) ≡ 36
length_uuid xs =
    length-by_index 36 (λ k. if is_hyphen_place k then hyphen else hex_digit lower (nibble xs (digit_place k)))

pub length_member : (id : List ℕ) (number : ℕ) → length (member_id id number) ≤ text_limit
unfolding member_id
length_member id number =
    omega (
      arith,
      length-append (codes "urn:uuid:") (hyphenated_text lower (member_bytes id number)),
      length_uuid (member_bytes id number),
    )

pub length_feed : (id : List ℕ) → length (codes "urn:uuid:" ++ feed_text id) ≤ text_limit
length_feed id = omega (arith, length-append (codes "urn:uuid:") (feed_text id), length_uuid id)

no_other : (e : Element) (nm : Name) → same_name e.name nm ≡ false →
    length (filter (λ (x : Element). same_name x.name nm) (e ∷ [])) ≡ 0
no_other e nm other = ap length (cond-false (same_name e.name nm) (e ∷ []) [] other)

title_count : (name : FeedName) (e : EntryValue) (at : ℕ) (id_at : ℕ) →
    length (filter (λ (x : Element). same_name x.name (entry_title e at).element.name) ((entry_id name e id_at).element ∷ []))
    ≡ 0
title_count name e at id_at =
    no_other (entry_id name e id_at).element (entry_title e at).element.name
    (ap (λ nm. same_name (entry_id name e id_at).element.name nm) (title_name e at))

updated_count : (name : FeedName) (e : EntryValue) (at id_at title_at : ℕ) →
    length (filter (λ (x : Element). same_name x.name (entry_updated e at).element.name)
    ((entry_id name e id_at).element ∷ (entry_title e title_at).element ∷ [])) ≡ 0
updated_count name e at id_at title_at =
    no_other (entry_title e title_at).element (entry_updated e at).element.name
    (ap (λ nm. same_name nm (entry_updated e at).element.name) (title_name e title_at))

pub clear_entry : (from : List ℕ) (name : FeedName) (e : EntryValue) (at : ℕ) → IsEntry e →
    All (IsFaultless (feed_rules from))
    (all_placed (feed_rules from) in_entry [] (tree feed_scope at (entry_node name e) nothing))
clear_entry from name e at is =
    let id = (entry_id name e at).element in
    let second = after (at + length (tag_text (begin_tag (plain (codes "id")) [])))
    (words (member_id name.id e.number) done) + length (close_text (plain (codes "id"))) in
    let titled = (entry_title e second).element in
    let third = after (second + length (tag_text (begin_tag (plain (codes "title")) (kind_settings e.title.kind))))
    (words e.title.value done) + length (close_text (plain (codes "title"))) in
    let title_kind : kind_in in_entry titled.name ≡ title = ap (kind_in in_entry) (title_name e second) in
    let fourth = after (third + length (tag_text (begin_tag (plain (codes "updated")) [])))
    (words (stamp.printed e.updated) done) + length (close_text (plain (codes "updated"))) in
    let n3 = rest_node name e in
    let n2 = holds (plain (codes "updated")) (stamp.printed e.updated) n3 in
    let n1 = construct_node (codes "title") e.title n2 in
    let p : Placed Within = record { within = in_entry; before = id ∷ []; child = entry_title e second } in
    step from in_entry [] id (entry_id name e at).content (tree feed_scope second n1 nothing)
    (id_none from (record { within = in_entry; before = []; child = entry_id name e at }) refl
    (subst (λ t. length t ≤ text_limit) (sym (id_cut name e at)) (length_member name.id e.number)))
    (skipped_faultless from [] (entry_id name e at).content)
    (step from in_entry (id ∷ []) titled (entry_title e second).content (tree feed_scope third n2 nothing)
    (λ why h. title_none from p (title_count name e second at)
    (subst (λ t. length t ≤ text_limit) (sym (title_whole e second is)) is.title.short) why
    (subst (λ k. IsFault from k why p) title_kind h))
    (subst (λ k. All (IsFaultless (feed_rules from)) (all_placed (feed_rules from) (within_kind k) [] (entry_title e second).content))
    (sym title_kind) (skipped_faultless from [] (entry_title e second).content))
    (step from in_entry (id ∷ titled ∷ []) (entry_updated e third).element (entry_updated e third).content
    (tree feed_scope fourth n3 nothing)
    (date_none from (record { within = in_entry; before = id ∷ titled ∷ []; child = entry_updated e third }) e.updated
    (updated_count name e third at second) (stamp_states third e.updated is.updated))
    (skipped_faultless from [] (entry_updated e third).content)
    (free_rest from name e is 3 (id ∷ titled ∷ (entry_updated e third).element ∷ []) fourth (omega arith))))
