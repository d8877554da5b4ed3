-- The content of a document is read as its identifiers, titles and dates.
use Rattle.std.proofs.Common.{◌≡◌, ℕ, ◌+◌, Bool, true, false, List, [], ◌∷◌, ◌++◌, length, ℤ, Option, Some, None}
use Rattle.std.proofs.Common.{option_map, refl, sym, ap, subst, ◌∙◌, codes, All}
use Rattle.std.specs.Prelude.{◌==◌, if◌then◌else◌, find, flat_map, option_and_then, unwrap_or}
use Rattle.std.specs.List.{AllZip}
use Rattle.std.proofs.lemmas.List.Elements.{All-head, All-tail}
use Rattle.atom_values.specs.DateText.{States}
use Rattle.atom_values.specs.Entry.{EntryValue, IsEntry}
use Rattle.atom_values.specs.Space.{trimmed}
use Rattle.atom_values.specs.Stamp as stamp
use Rattle.atom_values.specs.Stamp.{IsStamp}
use Rattle.atom_values.proofs.PrintedLemmas.{printed-states}
use Rattle.chain_links.specs.Address as address
use Rattle.chain_links.specs.declared.address.Address.TheVariants.{Archive}
use Rattle.chain_links.specs.declared.place.Span.{Span}
use Rattle.deleted_entries.specs.FeedId.{feed_text, member_id}
use Rattle.deleted_entries.specs.Item.{IsItem}
use Rattle.deleted_entries.specs.Tombstone.{TombstoneValue, IsTombstone}
use Rattle.deleted_entries.specs.declared.item.Item.{Item}
use Rattle.deleted_entries.specs.declared.item.Item.TheVariants.{Kept, Gone}
use Rattle.atom_writer.specs.declared.doc.FeedName.{FeedName}
use Rattle.atom_writer.specs.declared.doc.Kind.{Kind}
use Rattle.atom_writer.specs.declared.doc.Kind.TheVariants.{Subscription, Archive as Sealed}
use Rattle.atom_writer.specs.Doc.{DocValue, IsDoc}
use Rattle.xml_tokens.specs.Stages.{inner_scope}
use Rattle.xml_tokens.specs.Tree.{Element, element_of}
use Rattle.xml_tokens.specs.Tree.Content.{nothing}
use Rattle.xml_tokens.specs.Children.{Child, child, first_of, named_in, same_name}
use Rattle.xml_tokens.specs.Names.{atom, tombstones}
use Rattle.feed_reader.specs.Feed.{IsDocumentOf, IsEntryOf, IsGoneOf, cut_text, is_prev, joined_to}
use Rattle.feed_reader.specs.Feed.{target, whole_text}
use Rattle.canonical_feed.specs.Reading.{entry_of, foreign_document, foreign_entry, foreign_gone, gone_of}
use Rattle.canonical_feed.proofs.CleanLemmas.{clean_feed, clean_member, clean_stamp, clean_trimmed}
use Rattle.canonical_feed.proofs.DocumentLemmas.{content_at, content_of, feed_scope}
use Rattle.canonical_feed.proofs.FeedNodeLemmas.{current_node, feed_node, head_node, items_node}
use Rattle.canonical_feed.proofs.FeedNodeLemmas.{link_line, next_node, place_node, prev_node, span_node, tombstone_name}
use Rattle.canonical_feed.proofs.GoodLemmas.{kind_settings_good}
use Rattle.canonical_feed.proofs.KidLemmas.{child_is, clean_cut, empty_kid, first_skip, first_take, kid_of, kids, kids_are}
use Rattle.canonical_feed.proofs.KidLemmas.{name_known, resolved, words_whole}
use Rattle.canonical_feed.proofs.NodeLemmas.{Node, after, begin_tag, close_text, tag_text, tree}
use Rattle.canonical_feed.proofs.NodeLemmas.Node.{done, words}
use Rattle.canonical_feed.proofs.PartNodeLemmas.{entry_node, holds, kind_settings, plain, rest_node, setting}

-- ---- an entry

abbrev pub entry_id : FeedName → EntryValue → ℕ → Child
entry_id name e at = kid_of feed_scope (plain (codes "id")) [] (words (member_id name.id e.number) done) at

abbrev pub entry_title : EntryValue → ℕ → Child
entry_title e at =
    kid_of feed_scope (plain (codes "title")) (kind_settings e.title.kind) (words e.title.value done) at

abbrev pub entry_updated : EntryValue → ℕ → Child
entry_updated e at = kid_of feed_scope (plain (codes "updated")) [] (words (stamp.printed e.updated) done) at

-- the elements of an entry, at some offsets
pub record EntryKids (name : FeedName) (e : EntryValue) (at : ℕ) : Type 0 where
  pub title_at : ℕ
  pub updated_at : ℕ
  pub rest_at : ℕ
  pub are : kids feed_scope at (entry_node name e)
      ≡ entry_id name e at ∷ entry_title e title_at ∷ entry_updated e updated_at
      ∷ kids feed_scope rest_at (rest_node name e)

pub entry_kids : (name : FeedName) (e : EntryValue) (at : ℕ) → EntryKids name e at
entry_kids name e at =
    let first = after (at + length (tag_text (begin_tag (plain (codes "id")) [])))
    (words (member_id name.id e.number) done) + length (close_text (plain (codes "id"))) in
    let second = after (first + length (tag_text (begin_tag (plain (codes "title")) (kind_settings e.title.kind))))
    (words e.title.value done) + length (close_text (plain (codes "title"))) in
    let third = after (second + length (tag_text (begin_tag (plain (codes "updated")) [])))
    (words (stamp.printed e.updated) done) + length (close_text (plain (codes "updated"))) in
    record { title_at = first; updated_at = second; rest_at = third; are = refl }

pub title_name : (e : EntryValue) (at : ℕ) → (entry_title e at).element.name ≡ resolved (plain (codes "title"))
title_name e at = name_known (begin_tag (plain (codes "title")) (kind_settings e.title.kind)) at (kind_settings_good e.title.kind).none

title_named : (e : EntryValue) (at : ℕ) (local : List ℕ) (b : Bool) →
    same_name (resolved (plain (codes "title"))) (atom local) ≡ b →
    same_name (entry_title e at).element.name (atom local) ≡ b
title_named e at local b is = ap (λ nm. same_name nm (atom local)) (title_name e at) ∙ is

pub entry_child_id : (name : FeedName) (e : EntryValue) (at : ℕ) →
    child (codes "id") (tree feed_scope at (entry_node name e) nothing) ≡ Some (entry_id name e at)
entry_child_id name e at =
    let k = entry_kids name e at in
    child_is (codes "id") at (entry_node name e) (Some (entry_id name e at))
    (ap (λ cs. first_of (named_in (atom (codes "id")) cs)) k.are
    ∙ first_take (atom (codes "id")) (entry_id name e at)
    (entry_title e k.title_at ∷ entry_updated e k.updated_at ∷ kids feed_scope k.rest_at (rest_node name e)) refl)

pub entry_child_title : (name : FeedName) (e : EntryValue) (at : ℕ) →
    child (codes "title") (tree feed_scope at (entry_node name e) nothing)
    ≡ Some (entry_title e (entry_kids name e at).title_at)
entry_child_title name e at =
    let k = entry_kids name e at in
    let rest = entry_updated e k.updated_at ∷ kids feed_scope k.rest_at (rest_node name e) in
    child_is (codes "title") at (entry_node name e) (Some (entry_title e k.title_at))
    (ap (λ cs. first_of (named_in (atom (codes "title")) cs)) k.are
    ∙ first_skip (atom (codes "title")) (entry_id name e at) (entry_title e k.title_at ∷ rest) refl
    ∙ first_take (atom (codes "title")) (entry_title e k.title_at) rest
    (title_named e k.title_at (codes "title") true refl))

pub entry_child_updated : (name : FeedName) (e : EntryValue) (at : ℕ) →
    child (codes "updated") (tree feed_scope at (entry_node name e) nothing)
    ≡ Some (entry_updated e (entry_kids name e at).updated_at)
entry_child_updated name e at =
    let k = entry_kids name e at in
    let rest = kids feed_scope k.rest_at (rest_node name e) in
    child_is (codes "updated") at (entry_node name e) (Some (entry_updated e k.updated_at))
    (ap (λ cs. first_of (named_in (atom (codes "updated")) cs)) k.are
    ∙ first_skip (atom (codes "updated")) (entry_id name e at)
    (entry_title e k.title_at ∷ entry_updated e k.updated_at ∷ rest) refl
    ∙ first_skip (atom (codes "updated")) (entry_title e k.title_at) (entry_updated e k.updated_at ∷ rest)
    (title_named e k.title_at (codes "updated") false refl)
    ∙ first_take (atom (codes "updated")) (entry_updated e k.updated_at) rest refl)

-- an element with a timestamp states it
pub stamp_states : (at : ℕ) (z : ℤ) → IsStamp z →
    States (cut_text (kid_of feed_scope (plain (codes "updated")) [] (words (stamp.printed z) done) at)) z
stamp_states at z is =
    subst (λ t. States t z)
    (sym (clean_cut feed_scope (at + length (tag_text (begin_tag (plain (codes "updated")) []))) (stamp.printed z)
    (clean_stamp z)))
    (printed-states z is)

pub title_whole : (e : EntryValue) (at : ℕ) → IsEntry e → whole_text (entry_title e at) ≡ e.title.value
title_whole e at is =
    let tag = begin_tag (plain (codes "title")) (kind_settings e.title.kind) in
    words_whole (inner_scope feed_scope tag) (at + length (tag_text tag)) e.title.value is.title.xml

pub id_cut : (name : FeedName) (e : EntryValue) (at : ℕ) → cut_text (entry_id name e at) ≡ member_id name.id e.number
id_cut name e at =
    clean_cut feed_scope (at + length (tag_text (begin_tag (plain (codes "id")) []))) (member_id name.id e.number)
    (clean_member name.id e.number)

-- an element with the content of an entry is read as it
entry_is : (name : FeedName) (e : EntryValue) (at : ℕ) (root : Element) → IsEntry e →
    IsEntryOf (record { element = root; content = tree feed_scope at (entry_node name e) nothing }) (foreign_entry name e)
entry_is name e at root is =
    let k = entry_kids name e at in
    record {
      id = ap (option_map cut_text) (entry_child_id name e at) ∙ ap Some (id_cut name e at);
      title = sym (ap (λ c. unwrap_or (option_map whole_text c) []) (entry_child_title name e at)
          ∙ title_whole e k.title_at is);
      updated = (
        entry_updated e k.updated_at,
        entry_child_updated name e at,
        stamp_states k.updated_at e.updated is.updated,
      );
    }

-- ---- a tombstone

abbrev pub tombstone_kid : FeedName → TombstoneValue → ℕ → Child
tombstone_kid name t at =
    empty_kid feed_scope tombstone_name
    (setting (codes "ref") (member_id name.id t.number) ∷ setting (codes "when") (stamp.printed t.when) ∷ []) at

pub when_states : (t : TombstoneValue) → IsTombstone t → States (trimmed (stamp.printed t.when)) t.when
when_states t is =
    subst (λ x. States x t.when) (sym (clean_trimmed (stamp.printed t.when) (clean_stamp t.when)))
    (printed-states t.when is.when)

gone_is : (name : FeedName) (t : TombstoneValue) (at : ℕ) → IsTombstone t →
    IsGoneOf (tombstone_kid name t at) (foreign_gone name t)
gone_is name t at is = record {
  id = ap Some (clean_trimmed (member_id name.id t.number) (clean_member name.id t.number));
  when = (stamp.printed t.when, refl, when_states t is);
}

-- ---- the items

items_entries : (name : FeedName) (items : List Item) (at : ℕ) → All IsItem items →
    AllZip IsEntryOf (named_in (atom (codes "entry")) (kids feed_scope at (items_node name items done)))
    (flat_map (entry_of name) items)
items_entries name [] at good = tt
items_entries name (Kept e ∷ more) at good = (
  entry_is name e (at + length (tag_text (begin_tag (plain (codes "entry")) [])))
      (element_of feed_scope (begin_tag (plain (codes "entry")) []) at) (All-head IsItem (Kept e) more good),
  items_entries name more _ (All-tail IsItem (Kept e) more good),
)
items_entries name (Gone t ∷ more) at good = items_entries name more _ (All-tail IsItem (Gone t) more good)

items_gone : (name : FeedName) (items : List Item) (at : ℕ) → All IsItem items →
    AllZip IsGoneOf (named_in (tombstones (codes "deleted-entry")) (kids feed_scope at (items_node name items done)))
    (flat_map (gone_of name) items)
items_gone name [] at good = tt
items_gone name (Kept e ∷ more) at good = items_gone name more _ (All-tail IsItem (Kept e) more good)
items_gone name (Gone t ∷ more) at good = (
  gone_is name t at (All-head IsItem (Gone t) more good),
  items_gone name more _ (All-tail IsItem (Gone t) more good),
)

-- ---- the elements that place the document

-- what holds of the entries and the tombstones of a content
abbrev OfItems : (List Child → List Child → Type 0) → Node → ℕ → Type 0
OfItems P n at =
    P (named_in (atom (codes "entry")) (kids feed_scope at n))
    (named_in (tombstones (codes "deleted-entry")) (kids feed_scope at n))

current_passes : (P : List Child → List Child → Type 0) (name : FeedName) (kind : Kind) (n : Node) →
    ((at : ℕ) → OfItems P n at) → (at : ℕ) → OfItems P (current_node name kind n) at
current_passes P name Subscription n all at = all at
current_passes P name (Sealed number) n all at = all _

prev_passes : (P : List Child → List Child → Type 0) (name : FeedName) (prev : ℕ) (n : Node) →
    ((at : ℕ) → OfItems P n at) → (at : ℕ) → OfItems P (prev_node name prev n) at
prev_passes P name prev n all at =
    elim (prev == 0) as (λ b. OfItems P (if b then n else link_line (codes "prev-archive") name (Archive prev) n) at)
    [ true ↦ all at | false ↦ all _ ]

next_passes : (P : List Child → List Child → Type 0) (name : FeedName) (kind : Kind) (n : Node) →
    ((at : ℕ) → OfItems P n at) → (at : ℕ) → OfItems P (next_node name kind n) at
next_passes P name Subscription n all at = all at
next_passes P name (Sealed number) n all at = all _

place_passes : (P : List Child → List Child → Type 0) (name : FeedName) (kind : Kind) (span : Span) (prev : ℕ)
    (n : Node) → ((at : ℕ) → OfItems P n at) → (at : ℕ) → OfItems P (place_node name kind span prev n) at
place_passes P name kind span prev n all at =
    let n4 = span_node span n in
    let n3 = next_node name kind n4 in
    let n2 = prev_node name prev n3 in
    current_passes P name kind n2 (prev_passes P name prev n3 (next_passes P name kind n4 (λ k. all _))) _

-- ---- the link to the archive before

abbrev leads : List ℕ → Node → ℕ → Option (List ℕ)
leads from n at =
    option_and_then (target from) (find is_prev (named_in (atom (codes "link")) (kids feed_scope at n)))

items_lead : (from : List ℕ) (name : FeedName) (items : List Item) (at : ℕ) →
    leads from (items_node name items done) at ≡ None
items_lead from name [] at = refl
items_lead from name (Kept e ∷ more) at = items_lead from name more _
items_lead from name (Gone t ∷ more) at = items_lead from name more _

current_leads : (from : List ℕ) (to : Option (List ℕ)) (name : FeedName) (kind : Kind) (n : Node) →
    ((at : ℕ) → leads from n at ≡ to) → (at : ℕ) → leads from (current_node name kind n) at ≡ to
current_leads from to name Subscription n all at = all at
current_leads from to name (Sealed number) n all at = all _

next_leads : (from : List ℕ) (to : Option (List ℕ)) (name : FeedName) (kind : Kind) (n : Node) →
    ((at : ℕ) → leads from n at ≡ to) → (at : ℕ) → leads from (next_node name kind n) at ≡ to
next_leads from to name Subscription n all at = all at
next_leads from to name (Sealed number) n all at = all _

-- what the link leads to
abbrev pub prev_target : FeedName → ℕ → Option (List ℕ)
prev_target name prev = if prev == 0 then None else Some (address.printed name.base (Archive prev))

prev_leads : (from : List ℕ) (name : FeedName) (prev : ℕ) (n : Node) → ((at : ℕ) → leads from n at ≡ None) →
    ((prev == 0) ≡ false →
    joined_to from (address.printed name.base (Archive prev)) ≡ Some (address.printed name.base (Archive prev))) →
    (at : ℕ) → leads from (prev_node name prev n) at ≡ prev_target name prev
prev_leads from name prev n all joined at =
    elim (prev == 0) as (λ b. ((prev == 0) ≡ b) →
    leads from (if b then n else link_line (codes "prev-archive") name (Archive prev) n) at
    ≡ (if b then None else Some (address.printed name.base (Archive prev))))
    [ true ↦ λ e. all at | false ↦ λ e. joined e ] refl

place_leads : (from : List ℕ) (name : FeedName) (kind : Kind) (span : Span) (prev : ℕ) (n : Node) →
    ((at : ℕ) → leads from n at ≡ None) →
    ((prev == 0) ≡ false →
    joined_to from (address.printed name.base (Archive prev)) ≡ Some (address.printed name.base (Archive prev))) →
    (at : ℕ) → leads from (place_node name kind span prev n) at ≡ prev_target name prev
place_leads from name kind span prev n all joined at =
    let n4 = span_node span n in
    let n3 = next_node name kind n4 in
    let n2 = prev_node name prev n3 in
    current_leads from (prev_target name prev) name kind n2
    (prev_leads from name prev n3 (next_leads from None name kind n4 (λ k. all _)) joined) _

-- ---- the feed

abbrev pub feed_id : FeedName → ℕ → Child
feed_id name at = kid_of feed_scope (plain (codes "id")) [] (words (codes "urn:uuid:" ++ feed_text name.id) done) at

abbrev pub feed_title : FeedName → ℕ → Child
feed_title name at = kid_of feed_scope (plain (codes "title")) [] (words name.title done) at

abbrev pub feed_updated : ℤ → ℕ → Child
feed_updated updated at = kid_of feed_scope (plain (codes "updated")) [] (words (stamp.printed updated) done) at

abbrev pub feed_author : FeedName → ℕ → Child
feed_author name at =
    kid_of feed_scope (plain (codes "author")) [] (holds (plain (codes "name")) name.author done) at

-- the elements of a feed, at some offsets
pub record HeadKids (name : FeedName) (updated : ℤ) (n : Node) (at : ℕ) : Type 0 where
  pub id_at : ℕ
  pub title_at : ℕ
  pub updated_at : ℕ
  pub author_at : ℕ
  pub rest_at : ℕ
  pub are : kids feed_scope at (head_node name updated n)
      ≡ feed_id name id_at ∷ feed_title name title_at ∷ feed_updated updated updated_at ∷ feed_author name author_at
      ∷ kids feed_scope rest_at n

pub head_kids : (name : FeedName) (updated : ℤ) (n : Node) (at : ℕ) → HeadKids name updated n at
head_kids name updated n at = record {
  id_at = _;
  title_at = _;
  updated_at = _;
  author_at = _;
  rest_at = _;
  are = refl;
}

pub feed_child_id : (name : FeedName) (updated : ℤ) (n : Node) (at : ℕ) →
    child (codes "id") (tree feed_scope at (head_node name updated n) nothing)
    ≡ Some (feed_id name (head_kids name updated n at).id_at)
feed_child_id name updated n at =
    let k = head_kids name updated n at in
    child_is (codes "id") at (head_node name updated n) (Some (feed_id name k.id_at))
    (ap (λ cs. first_of (named_in (atom (codes "id")) cs)) k.are)

pub feed_child_updated : (name : FeedName) (updated : ℤ) (n : Node) (at : ℕ) →
    child (codes "updated") (tree feed_scope at (head_node name updated n) nothing)
    ≡ Some (feed_updated updated (head_kids name updated n at).updated_at)
feed_child_updated name updated n at =
    let k = head_kids name updated n at in
    child_is (codes "updated") at (head_node name updated n) (Some (feed_updated updated k.updated_at))
    (ap (λ cs. first_of (named_in (atom (codes "updated")) cs)) k.are)

pub feed_id_cut : (name : FeedName) (at : ℕ) → cut_text (feed_id name at) ≡ codes "urn:uuid:" ++ feed_text name.id
feed_id_cut name at =
    clean_cut feed_scope (at + length (tag_text (begin_tag (plain (codes "id")) []))) (codes "urn:uuid:" ++ feed_text name.id)
    (clean_feed name.id)

head_passes : (P : List Child → List Child → Type 0) (name : FeedName) (updated : ℤ) (n : Node) →
    ((at : ℕ) → OfItems P n at) → (at : ℕ) → OfItems P (head_node name updated n) at
head_passes P name updated n all at = all _

head_leads : (from : List ℕ) (to : Option (List ℕ)) (name : FeedName) (updated : ℤ) (n : Node) →
    ((at : ℕ) → leads from n at ≡ to) → (at : ℕ) → leads from (head_node name updated n) at ≡ to
head_leads from to name updated n all at = all _

-- the content of the document is read as it
pub document_read : (d : DocValue) (from : List ℕ) → IsDoc d →
    ((d.prev == 0) ≡ false → joined_to from (address.printed d.name.base (Archive d.prev))
    ≡ Some (address.printed d.name.base (Archive d.prev))) →
    IsDocumentOf from (content_of (feed_node d)) (foreign_document d)
document_read d from is joined =
    let items = items_node d.name d.items done in
    let place = place_node d.name d.kind d.span d.prev items in
    let k = head_kids d.name d.updated place content_at in
    let are = kids_are feed_scope content_at (feed_node d) in
    record {
      id = ap (option_map cut_text) (feed_child_id d.name d.updated place content_at)
          ∙ ap Some (feed_id_cut d.name k.id_at);
      updated = (
        feed_updated d.updated k.updated_at,
        feed_child_updated d.name d.updated place content_at,
        stamp_states k.updated_at d.updated is.updated,
      );
      prev = sym (ap (λ cs. option_and_then (target from) (find is_prev (named_in (atom (codes "link")) cs))) are
          ∙ head_leads from (prev_target d.name d.prev) d.name d.updated place
          (place_leads from d.name d.kind d.span d.prev items (items_lead from d.name d.items) joined) content_at);
      entries = subst (λ cs. AllZip IsEntryOf (named_in (atom (codes "entry")) cs) (flat_map (entry_of d.name) d.items))
          (sym are)
          (head_passes (λ es gs. AllZip IsEntryOf es (flat_map (entry_of d.name) d.items)) d.name d.updated place
          (place_passes (λ es gs. AllZip IsEntryOf es (flat_map (entry_of d.name) d.items)) d.name d.kind d.span d.prev
          items (λ at. items_entries d.name d.items at is.items)) content_at);
      gone = subst (λ cs. AllZip IsGoneOf (named_in (tombstones (codes "deleted-entry")) cs) (flat_map (gone_of d.name) d.items))
          (sym are)
          (head_passes (λ es gs. AllZip IsGoneOf gs (flat_map (gone_of d.name) d.items)) d.name d.updated place
          (place_passes (λ es gs. AllZip IsGoneOf gs (flat_map (gone_of d.name) d.items)) d.name d.kind d.span d.prev
          items (λ at. items_gone d.name d.items at is.items)) content_at);
    }
