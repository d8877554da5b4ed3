-- No element of a document is refused.
use Rattle.std.proofs.Common.{◌≡◌, ℕ, ◌+◌, ◌<◌, ◌≤◌, Bool, true, false, cond, List, [], ◌∷◌, ◌++◌, length, ℤ}
use Rattle.std.proofs.Common.{Some, None, refl, sym, subst, ◌∙◌, codes, arith, All, decimal, ⊎_elim}
use Rattle.std.specs.Prelude.{◌==◌, if◌then◌else◌, chars, filter}
use Rattle.std.proofs.lemmas.Bool.{both_ways}
use Rattle.std.proofs.lemmas.List.Elements.{All-head, All-nil, All-tail}
use Rattle.atom_values.specs.DateText.{States}
use Rattle.atom_values.specs.Entry.{EntryValue, IsEntry}
use Rattle.atom_values.specs.Space.{trimmed}
use Rattle.atom_values.specs.Stamp as stamp
use Rattle.atom_values.specs.XmlText.{text_limit}
use Rattle.chain_links.specs.Address as address
use Rattle.chain_links.specs.declared.address.Address.{Address}
use Rattle.chain_links.specs.declared.address.Address.TheVariants.{Feed, Archive}
use Rattle.chain_links.specs.declared.place.Span.{Span}
use Rattle.deleted_entries.specs.FeedId.{feed_text, member_id}
use Rattle.deleted_entries.specs.Item.{IsItem}
use Rattle.deleted_entries.specs.Tombstone.{TombstoneValue, IsTombstone}
use Rattle.deleted_entries.specs.declared.item.Item.{Item}
use Rattle.deleted_entries.specs.declared.item.Item.TheVariants.{Kept, Gone}
use Rattle.atom_writer.specs.declared.doc.FeedName.{FeedName}
use Rattle.atom_writer.specs.declared.doc.Kind.{Kind as Role}
use Rattle.atom_writer.specs.declared.doc.Kind.TheVariants.{Subscription, Archive as Sealed}
use Rattle.atom_writer.specs.Doc.{DocValue, IsDoc}
use Rattle.atom_writer.specs.Pieces.{own_address}
use Rattle.xml_tokens.specs.Tree.{Element}
use Rattle.xml_tokens.specs.Tree.Content.{nothing}
use Rattle.xml_tokens.specs.Children.{Child, attribute, same_name}
use Rattle.feed_reader.specs.declared.fault.FeedWhy.{FeedWhy}
use Rattle.feed_reader.specs.declared.fault.FeedWhy.TheVariants.{Token, NotAFeed, Missing, Twice, BadDate, TooLong}
use Rattle.feed_reader.specs.declared.fault.FeedWhy.TheVariants.{BadLink, TooMany}
use Rattle.xml_tokens.specs.Order.{Placed, IsFaultless, all_placed, count_before, name_of}
use Rattle.feed_reader.specs.Feed.{item_limit, joined_to}
use Rattle.feed_reader.specs.FeedFaults.{Within, IsFault, feed_rules}
use Rattle.feed_reader.specs.FeedFaults.Within.{at_root, in_feed}
use Rattle.feed_reader.specs.FeedFaults.Kind.{link, tombstone}
use Rattle.feed_reader.specs.FeedDocument.{IsRefusalIn}
use Rattle.feed_reader.proofs.FeedFaultLemmas.{skipped_faultless}
use Rattle.canonical_feed.proofs.CharacterLemmas.{end_of}
use Rattle.canonical_feed.proofs.CleanLemmas.{clean_member, clean_trimmed}
use Rattle.canonical_feed.proofs.DocumentLemmas.{content_at, content_of, feed_element, feed_scope}
use Rattle.canonical_feed.proofs.FaultLemmas.{Clear, clear_done, clear_empty, clear_entry, clear_less, clear_words, date_none}
use Rattle.canonical_feed.proofs.FaultLemmas.{entry_none, feed_none, has_children, id_none, length_feed, length_member, link_none}
use Rattle.canonical_feed.proofs.FaultLemmas.{one_longer, said_placed, skipped_step, step}
use Rattle.canonical_feed.proofs.FeedNodeLemmas.{archive_name, current_node, feed_node, head_node, item_node, items_node, line}
use Rattle.canonical_feed.proofs.FeedNodeLemmas.{link_line, next_node, place_node, prev_node, span_name, span_node, tombstone_name}
use Rattle.canonical_feed.proofs.KidLemmas.{empty_kid, kid_of}
use Rattle.canonical_feed.proofs.NodeLemmas.{Node, after, begin_tag, close_text, empty_tag, tag_text, tree}
use Rattle.canonical_feed.proofs.NodeLemmas.Node.{done, words, empty, full}
use Rattle.canonical_feed.proofs.PartNodeLemmas.{entry_node, holds, plain, setting}
use Rattle.canonical_feed.proofs.ReadLemmas.{entry_child_id, entry_child_updated, entry_id, entry_kids, entry_updated, feed_author}
use Rattle.canonical_feed.proofs.ReadLemmas.{feed_child_id, feed_child_updated, feed_id, feed_id_cut, feed_title, feed_updated}
use Rattle.canonical_feed.proofs.ReadLemmas.{head_kids, stamp_states, tombstone_kid, when_states}

filter_length : (test : Element → Bool) (es : List Element) → length (filter test es) ≤ length es
filter_length test [] = omega arith
filter_length test (e ∷ es) =
    let more = filter_length test es in
    elim (test e) as (λ b. length (cond b (e ∷ filter test es) (filter test es)) ≤ length (e ∷ es))
    [ true ↦ omega arith | false ↦ omega arith ]

few_before : (p : Placed Within) (k : ℕ) → length p.before ≤ k → k < item_limit → count_before p < item_limit
few_before p k few low =
    let h = filter_length (λ (e : Element). same_name e.name (name_of p)) p.before in omega (arith, h, few, low)

-- ---- tombstones

tombstone_none : (from : List ℕ) (p : Placed Within) (id text : List ℕ) (z : ℤ) →
    attribute (codes "ref") p.child ≡ Some id → attribute (codes "when") p.child ≡ Some text →
    States (trimmed text) z → length (trimmed id) ≤ text_limit → count_before p < item_limit →
    (why : FeedWhy) → IsFault from tombstone why p → ⊥
tombstone_none from p id text z is_id is_text states short few (Token c) h = h
tombstone_none from p id text z is_id is_text states short few NotAFeed h = h
tombstone_none from p id text z is_id is_text states short few Missing h =
    ⊎_elim (λ none. let bad : None ≡ Some id = sym none ∙ is_id in cc)
    (λ none. let bad : None ≡ Some text = sym none ∙ is_text in cc) h
tombstone_none from p id text z is_id is_text states short few Twice h = h
tombstone_none from p id text z is_id is_text states short few BadDate h =
    let both : Some text ≡ Some h.0 = sym is_text ∙ h.1 in
    let same : text ≡ h.0 = cc in
    h.2 z (subst (λ t. States (trimmed t) z) same states)
tombstone_none from p id text z is_id is_text states short few TooLong h =
    let both : Some id ≡ Some h.0 = sym is_id ∙ h.1 in
    let same : id ≡ h.0 = cc in
    let low = subst (λ t. length (trimmed t) ≤ text_limit) same short in
    omega (arith, h.2, low)
tombstone_none from p id text z is_id is_text states short few BadLink h = h
tombstone_none from p id text z is_id is_text states short few TooMany h = omega (arith, h, few)

clear_gone : (from : List ℕ) (name : FeedName) (t : TombstoneValue) (k : ℕ) (n : Node) → IsTombstone t →
    k < item_limit → Clear from in_feed (k + 1) n → Clear from in_feed k (item_node name (Gone t) n)
clear_gone from name t k n is low clear before at few =
    let c = tombstone_kid name t at in
    let p : Placed Within = record { within = in_feed; before = before; child = c } in
    let behind = at + length (tag_text (empty_tag tombstone_name c.element.attributes)) in
    step from in_feed before c.element nothing (tree feed_scope behind (line n) nothing)
    (tombstone_none from p (member_id name.id t.number) (stamp.printed t.when) t.when refl refl (when_states t is)
    (subst (λ x. length x ≤ text_limit) (sym (clean_trimmed (member_id name.id t.number) (clean_member name.id t.number)))
    (length_member name.id t.number))
    (few_before p k few low))
    (All-nil (IsFaultless (feed_rules from)))
    (clear_words from in_feed (k + 1) (10 ∷ []) n clear (before ++ c.element ∷ []) behind (one_longer before c.element k few))

-- ---- entries

clear_kept : (from : List ℕ) (name : FeedName) (e : EntryValue) (k : ℕ) (n : Node) → IsEntry e →
    k < item_limit → Clear from in_feed (k + 1) n → Clear from in_feed k (item_node name (Kept e) n)
clear_kept from name e k n is low clear before at few =
    let c = kid_of feed_scope (plain (codes "entry")) [] (entry_node name e) at in
    let p : Placed Within = record { within = in_feed; before = before; child = c } in
    let next = at + length (tag_text (begin_tag (plain (codes "entry")) [])) in
    let behind = after next (entry_node name e) + length (close_text (plain (codes "entry"))) in
    step from in_feed before c.element c.content (tree feed_scope behind (line n) nothing)
    (entry_none from p
    (has_children c.content (entry_id name e next) (entry_updated e (entry_kids name e next).updated_at)
    (entry_child_id name e next) (entry_child_updated name e next))
    (few_before p k few low))
    (clear_entry from name e next is)
    (clear_words from in_feed (k + 1) (10 ∷ []) n clear (before ++ c.element ∷ []) behind (one_longer before c.element k few))

clear_items : (from : List ℕ) (name : FeedName) (items : List Item) (k : ℕ) → All IsItem items →
    k + length items < item_limit → Clear from in_feed k (items_node name items done)
clear_items from name [] k all low = clear_done from in_feed k
clear_items from name (Kept e ∷ more) k all low =
    clear_kept from name e k (items_node name more done) (All-head IsItem (Kept e) more all) (omega arith)
    (clear_items from name more (k + 1) (All-tail IsItem (Kept e) more all) (omega arith))
clear_items from name (Gone t ∷ more) k all low =
    clear_gone from name t k (items_node name more done) (All-head IsItem (Gone t) more all) (omega arith)
    (clear_items from name more (k + 1) (All-tail IsItem (Gone t) more all) (omega arith))

-- ---- links

abbrev link_kid : List ℕ → List ℕ → ℕ → Child
link_kid rel href at =
    empty_kid feed_scope (plain (codes "link")) (setting (codes "rel") rel ∷ setting (codes "href") href ∷ []) at

clear_link : (from rel : List ℕ) (name : FeedName) (to : Address) (k : ℕ) (n : Node) →
    ((before : List Element) (at : ℕ) → IsFault from link BadLink (record {
      within = in_feed;
      before = before;
      child = link_kid rel (address.printed name.base to) at;
    }) → ⊥) → Clear from in_feed (k + 1) n → Clear from in_feed k (link_line rel name to n)
clear_link from rel name to k n good clear before at few =
    let c = link_kid rel (address.printed name.base to) at in
    let p : Placed Within = record { within = in_feed; before = before; child = c } in
    let behind = at + length (tag_text (empty_tag (plain (codes "link")) c.element.attributes)) in
    step from in_feed before c.element nothing (tree feed_scope behind (line n) nothing)
    (link_none from p (good before at))
    (All-nil (IsFaultless (feed_rules from)))
    (clear_words from in_feed (k + 1) (10 ∷ []) n clear (before ++ c.element ∷ []) behind (one_longer before c.element k few))

clear_current : (from : List ℕ) (name : FeedName) (kind : Role) (k : ℕ) (n : Node) → Clear from in_feed (k + 1) n →
    Clear from in_feed k (current_node name kind n)
clear_current from name Subscription k n clear = clear_less from in_feed k n clear
clear_current from name (Sealed number) k n clear =
    clear_link from (codes "current") name Feed k n (λ before at h. both_ways false refl h.0.0) clear

clear_prev : (from : List ℕ) (name : FeedName) (prev : ℕ) (k : ℕ) (n : Node) →
    ((prev == 0) ≡ false →
    joined_to from (address.printed name.base (Archive prev)) ≡ Some (address.printed name.base (Archive prev))) →
    Clear from in_feed (k + 1) n → Clear from in_feed k (prev_node name prev n)
clear_prev from name prev k n joined clear =
    let to = address.printed name.base (Archive prev) in
    elim (prev == 0) as (λ b. ((prev == 0) ≡ b) →
    Clear from in_feed k (if b then n else link_line (codes "prev-archive") name (Archive prev) n)) [
      | true ↦ λ e. clear_less from in_feed k n clear
      | false ↦ λ e. clear_link from (codes "prev-archive") name (Archive prev) k n
          (λ before at h. let bad : None ≡ Some to = sym h.1 ∙ joined e in absurd cc) clear
    ] refl

clear_next : (from : List ℕ) (name : FeedName) (kind : Role) (k : ℕ) (n : Node) → Clear from in_feed (k + 1 + 1) n →
    Clear from in_feed k (next_node name kind n)
clear_next from name Subscription k n clear = clear_less from in_feed k n (clear_less from in_feed (k + 1) n clear)
clear_next from name (Sealed number) k n clear =
    clear_link from (codes "next-archive") name (Archive (number + 1)) k (empty archive_name [] (line n))
    (λ before at h. both_ways false refl h.0.0)
    (clear_empty from in_feed (k + 1) archive_name [] (line n) refl refl
    (clear_words from in_feed (k + 1 + 1) (10 ∷ []) n clear))

clear_place : (from : List ℕ) (name : FeedName) (kind : Role) (span : Span) (prev : ℕ) (n : Node) →
    ((prev == 0) ≡ false →
    joined_to from (address.printed name.base (Archive prev)) ≡ Some (address.printed name.base (Archive prev))) →
    Clear from in_feed 10 n → Clear from in_feed 4 (place_node name kind span prev n)
clear_place from name kind span prev n joined clear =
    let n4 = span_node span n in
    let n3 = next_node name kind n4 in
    let n2 = prev_node name prev n3 in
    clear_link from (codes "self") name (own_address kind) 4 (current_node name kind n2)
    (λ before at h. both_ways false refl h.0.0)
    (clear_current from name kind 5 n2
    (clear_prev from name prev 6 n3 joined
    (clear_next from name kind 7 n4
    (clear_empty from in_feed 9 span_name
    (setting (codes "first") (decimal span.first) ∷ setting (codes "last") (decimal span.last) ∷ []) (line n) refl refl
    (clear_words from in_feed 10 (10 ∷ []) n clear)))))

-- ---- the elements that name the feed

abbrev At : List ℕ → List Element → Node → ℕ → Type 0
At from before n at =
    All (IsFaultless (feed_rules from)) (all_placed (feed_rules from) in_feed before (tree feed_scope at n nothing))

at_line : (from : List ℕ) (before : List Element) (n : Node) (at : ℕ) → At from before n (end_of at (chars (10 ∷ []))) →
    At from before (line n) at
at_line from before n at clear =
    subst (λ ps. All (IsFaultless (feed_rules from)) ps)
    (sym (said_placed from in_feed before (chars (10 ∷ [])) (tree feed_scope (end_of at (chars (10 ∷ []))) n nothing))) clear

abbrev next_at : List ℕ → Node → ℕ → ℕ
next_at tag inner at = after (at + length (tag_text (begin_tag (plain tag) []))) inner + length (close_text (plain tag))

clear_head : (from : List ℕ) (name : FeedName) (updated : ℤ) (n : Node) (at : ℕ) → stamp.IsStamp updated →
    Clear from in_feed 4 n → At from [] (head_node name updated n) at
clear_head from name updated n at is clear =
    let author = full (plain (codes "author")) [] (holds (plain (codes "name")) name.author done) (line n) in
    let dated = holds (plain (codes "updated")) (stamp.printed updated) (line author) in
    let titled = holds (plain (codes "title")) name.title (line dated) in
    let id = codes "urn:uuid:" ++ feed_text name.id in
    let at1 = end_of at (chars (10 ∷ [])) in
    let to1 = next_at (codes "id") (words id done) at1 in
    let at2 = end_of to1 (chars (10 ∷ [])) in
    let to2 = next_at (codes "title") (words name.title done) at2 in
    let at3 = end_of to2 (chars (10 ∷ [])) in
    let to3 = next_at (codes "updated") (words (stamp.printed updated) done) at3 in
    let at4 = end_of to3 (chars (10 ∷ [])) in
    let to4 = next_at (codes "author") (holds (plain (codes "name")) name.author done) at4 in
    let e1 = (feed_id name at1).element in
    let e2 = (feed_title name at2).element in
    let e3 = (feed_updated updated at3).element in
    let e4 = (feed_author name at4).element in
    at_line from [] (holds (plain (codes "id")) id (line titled)) at
    (step from in_feed [] e1 (feed_id name at1).content (tree feed_scope to1 (line titled) nothing)
    (id_none from (record { within = in_feed; before = []; child = feed_id name at1 }) refl
    (subst (λ t. length t ≤ text_limit) (sym (feed_id_cut name at1)) (length_feed name.id)))
    (skipped_faultless from [] (feed_id name at1).content)
    (at_line from (e1 ∷ []) titled to1
    (skipped_step from in_feed (e1 ∷ []) e2 (feed_title name at2).content (tree feed_scope to2 (line dated) nothing) refl
    (at_line from (e1 ∷ e2 ∷ []) dated to2
    (step from in_feed (e1 ∷ e2 ∷ []) e3 (feed_updated updated at3).content (tree feed_scope to3 (line author) nothing)
    (date_none from (record { within = in_feed; before = e1 ∷ e2 ∷ []; child = feed_updated updated at3 }) updated refl
    (stamp_states at3 updated is))
    (skipped_faultless from [] (feed_updated updated at3).content)
    (at_line from (e1 ∷ e2 ∷ e3 ∷ []) author to3
    (skipped_step from in_feed (e1 ∷ e2 ∷ e3 ∷ []) e4 (feed_author name at4).content (tree feed_scope to4 (line n) nothing)
    refl
    (at_line from (e1 ∷ e2 ∷ e3 ∷ e4 ∷ []) n to4
    (clear (e1 ∷ e2 ∷ e3 ∷ e4 ∷ []) (end_of to4 (chars (10 ∷ []))) (omega arith))))))))))

-- no element of the document is refused
pub document_clear : (d : DocValue) (from : List ℕ) → IsDoc d →
    ((d.prev == 0) ≡ false → joined_to from (address.printed d.name.base (Archive d.prev))
    ≡ Some (address.printed d.name.base (Archive d.prev))) →
    IsRefusalIn from feed_element (content_of (feed_node d)) None
document_clear d from is joined =
    let items = items_node d.name d.items done in
    let place = place_node d.name d.kind d.span d.prev items in
    let k = head_kids d.name d.updated place content_at in
    let content = content_of (feed_node d) in
    let room = is.rules.room in
    let few = is.rules.few in
    step from at_root [] feed_element content nothing
    (feed_none from (record { within = at_root; before = []; child = record { element = feed_element; content = content } })
    (has_children content (feed_id d.name k.id_at) (feed_updated d.updated k.updated_at)
    (feed_child_id d.name d.updated place content_at) (feed_child_updated d.name d.updated place content_at)))
    (clear_head from d.name d.updated place content_at is.updated
    (clear_place from d.name d.kind d.span d.prev items joined
    (clear_items from d.name d.items 10 is.items (omega (arith, room, few)))))
    (All-nil (IsFaultless (feed_rules from)))
