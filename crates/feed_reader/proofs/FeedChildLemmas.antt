-- EntryParts::child, FeedParts::child: a child is read, skipped or refused.
use Rattle.std.proofs.Common.{◌≡◌, ◌⊎◌, ◌<◌, ℕ, ℤ, List, [], true, false, Option, Some, None, length}
use Rattle.std.proofs.Common.{option_map, refl, sym, ap, subst, ◌∙◌, ⊎_elim, codes, All, arith}
use Rattle.std.specs.Prelude.{is_some, IfSome, Result, Ok, Err}
use Rattle.std.specs.List.{AllZip}
use Rattle.std.proofs.lemmas.Bool.{both_ways}
use Rattle.atom_values.specs.DateText.{States}
use Rattle.atom_values.specs.Space.{trimmed}
use Rattle.atom_values.specs.XmlText.{IsAtomText, text_limit}
use Rattle.xml_tokens.specs.declared.elements.Elements.{Elements}
use Rattle.xml_tokens.specs.declared.fault.TokenFault.{TokenFault}
use Rattle.xml_tokens.specs.Tree.{Element, Content, Event}
use Rattle.xml_tokens.specs.Children.{attribute_in, child, first_of, named, same_name, with_child}
use Rattle.xml_tokens.specs.Names.{atom}
use Rattle.xml_tokens.specs.Progress.{IsSkippedFrom, Point}
use Rattle.feed_reader.specs.declared.entry.EntryParts.{EntryParts}
use Rattle.feed_reader.specs.declared.fault.FeedWhy.{FeedWhy}
use Rattle.feed_reader.specs.declared.fault.FeedWhy.TheVariants.{BadLink, TooMany}
use Rattle.feed_reader.specs.declared.parts.FeedParts.{FeedParts}
use Rattle.feed_reader.specs.declared.values.ForeignGone.{ForeignGone}
use Rattle.xml_tokens.specs.Order.{IsFirst, all_placed, count_before}
use Rattle.feed_reader.specs.Feed.{IsEntryOf, IsForeignEntry, IsForeignGone, IsGoneOf, cut_text, item_limit, prev_of}
use Rattle.feed_reader.specs.Feed.{whole_text}
use Rattle.feed_reader.specs.FeedFaults.{IsTooLong, LacksAttribute, StatesNone, feed_rules, is_atom, kind_in}
use Rattle.feed_reader.specs.FeedFaults.{within_kind}
use Rattle.feed_reader.specs.FeedFaults.Kind.{tombstone}
use Rattle.feed_reader.specs.FeedFaults.Within.{in_entry, in_feed, in_skipped}
use Rattle.feed_reader.specs.FeedReading.{AreNoted, IsDated, IsEntrySoFar, IsEntryTaken, IsFeedRead, IsFeedSoFar}
use Rattle.feed_reader.specs.FeedReading.{IsFilled, IsGoneRead, IsGoneTaken, IsLinkTaken, IsMoment, target_of}
use Rattle.feed_reader.specs.Rest.{IsRestRead}
use Rattle.feed_reader.proofs.FeedEntryLemmas.{entry_after, entry_child, read_id, read_other, read_title, read_updated, some_mapped}
use Rattle.feed_reader.proofs.FeedEntryLemmas.{some_moment}
use Rattle.feed_reader.proofs.FeedFaultLemmas.{own_gone, own_gone_date, own_gone_lacks, own_gone_long, own_gone_many}
use Rattle.feed_reader.proofs.FeedFaultLemmas.{own_skipped}
use Rattle.feed_reader.proofs.FeedMadeLemmas.{entry_refused, entry_taken}
use Rattle.feed_reader.proofs.FeedOwnLemmas.{child_first, entry_id, entry_other, entry_title, entry_updated, feed_entry}
use Rattle.feed_reader.proofs.FeedOwnLemmas.{feed_gone, feed_id, feed_link, feed_other, feed_updated, own_dated}
use Rattle.feed_reader.proofs.FeedOwnLemmas.{own_filled, own_none, own_titled}
use Rattle.feed_reader.proofs.FeedPartLemmas.{count_child, the_child, zip_length}
use Rattle.feed_reader.proofs.FeedReadLemmas.{entries_name, feed_after, feed_child, feed_read_entry, feed_read_gone, feed_read_id}
use Rattle.feed_reader.proofs.FeedReadLemmas.{feed_read_link_kept, feed_read_link_taken, feed_read_other, feed_read_updated}
use Rattle.feed_reader.proofs.FeedReadLemmas.{gone_name, own_linked}
use Rattle.xml_tokens.proofs.OrderLemmas.{IsOwn, elements_of, first_with_child, placed}

-- the rest of an element is read over
pub rest_skipped : (S : Content → Unit {0} → Type 0) (total : ℕ) (first : List Event) (from : Point) (new : Elements)
    (r : Result (Unit {0}) TokenFault) → ((c : Content) → S c tt) → IsSkippedFrom total first from r new →
    IsRestRead S total first from r new
rest_skipped S total first from new (Ok done) all x = (x.0, x.1, x.2, x.3, all x.0)
rest_skipped S total first from new (Err fault) all x = x

-- the date that is put
date_put : (old new : Option ℤ) (text : List ℕ) (own : Option FeedWhy) → own ≡ None → IsDated old new text own →
    (is_some old ≡ false) × ((z : ℤ) × (new ≡ Some z) × States text z)
date_put old new text own fine dated = subst (IsDated old new text) fine dated

-- a child after a refusal
pub entry_past : (b : Content) (e : Element) (inner : Content) (old new : EntryParts) → IsEntrySoFar b old →
    (r : Option (ℕ × FeedWhy)) → old.refused ≡ r → is_some r ≡ true → new.refused ≡ r →
    AreNoted (with_child b e inner) new.required → IsEntrySoFar (with_child b e inner) new
entry_past b e inner old new h None was some is noted = absurd (both_ways false refl some)
entry_past b e inner old new h (Some refusal) was some is noted = entry_after b e inner old new refusal h was is noted

pub feed_past : (b : Content) (e : Element) (inner : Content) (old new : FeedParts) → IsFeedSoFar b old →
    (r : Option (ℕ × FeedWhy)) → old.refused ≡ r → is_some r ≡ true → new.refused ≡ r →
    new.address.now ≡ old.address.now → AreNoted (with_child b e inner) new.required →
    IsFeedSoFar (with_child b e inner) new
feed_past b e inner old new h None was some is here noted = absurd (both_ways false refl some)
feed_past b e inner old new h (Some refusal) was some is here noted =
    feed_after b e inner old new refusal h was is here noted

module _ (b : Content) (e : Element) (inner : Content) (old new : EntryParts) (h : IsEntrySoFar b old)
    (none : old.refused ≡ None) (noted : AreNoted (with_child b e inner) new.required) (own : Option FeedWhy)
    (refused : new.refused ≡ option_map (λ why. (e.place, why)) own) where
  pub entry_with_id : is_atom (codes "id") e.name ≡ true →
      IsFilled old.id new.id (cut_text (the_child b e inner)) own → new.updated ≡ old.updated →
      new.title ≡ old.title → IsEntrySoFar (with_child b e inner) new
  entry_with_id is filled updated title =
      let r = h.read none in
      let kind = entry_id e.name is in
      let slot : is_some old.id ≡ is_some (first_of (named (atom (codes "id")) b)) =
      ap is_some r.id ∙ some_mapped cut_text (child (codes "id") b) in
      entry_child b e inner old new own h none noted refused (ap within_kind kind)
      (λ address. own_filled address in_entry b e inner (atom (codes "id")) is (is_some old.id) slot kind old.id new.id own
      refl filled)
      (λ fine.
      let put = subst (IsFilled old.id new.id (cut_text (the_child b e inner))) fine filled in
      read_id b e inner old new r is put.0 put.1 put.2 updated title)

  pub entry_with_updated : is_atom (codes "id") e.name ≡ false → is_atom (codes "updated") e.name ≡ true →
      IsDated old.updated new.updated (cut_text (the_child b e inner)) own → new.id ≡ old.id →
      new.title ≡ old.title → IsEntrySoFar (with_child b e inner) new
  entry_with_updated other is dated id title =
      let r = h.read none in
      let kind = entry_updated e.name other is in
      let slot : is_some old.updated ≡ is_some (first_of (named (atom (codes "updated")) b)) =
      some_moment (child (codes "updated") b) old.updated r.updated in
      entry_child b e inner old new own h none noted refused (ap within_kind kind)
      (λ address. own_dated address in_entry b e inner (atom (codes "updated")) is (is_some old.updated) slot kind
      old.updated new.updated own refl dated)
      (λ fine.
      let put = date_put old.updated new.updated (cut_text (the_child b e inner)) own fine dated in
      let date = put.1 in
      read_updated b e inner old new r is put.0 date.0 date.1 date.2 id title)

  pub entry_with_title : is_atom (codes "id") e.name ≡ false → is_atom (codes "updated") e.name ≡ false →
      is_atom (codes "title") e.name ≡ true → IsFilled old.title new.title (whole_text (the_child b e inner)) own →
      new.id ≡ old.id → new.updated ≡ old.updated → IsEntrySoFar (with_child b e inner) new
  entry_with_title other later is filled id updated =
      let r = h.read none in
      let kind = entry_title e.name other later is in
      let slot : is_some old.title ≡ is_some (first_of (named (atom (codes "title")) b)) =
      ap is_some r.title ∙ some_mapped whole_text (child (codes "title") b) in
      entry_child b e inner old new own h none noted refused (ap within_kind kind)
      (λ address. own_titled address in_entry b e inner (atom (codes "title")) is (is_some old.title) slot kind old.title
      new.title own refl filled)
      (λ fine.
      let put = subst (IsFilled old.title new.title (whole_text (the_child b e inner))) fine filled in
      read_title b e inner old new r is put.0 put.1 put.2 updated id)

  pub entry_with_other : is_atom (codes "id") e.name ≡ false → is_atom (codes "updated") e.name ≡ false →
      is_atom (codes "title") e.name ≡ false → own ≡ None → new.id ≡ old.id → new.updated ≡ old.updated →
      new.title ≡ old.title → IsEntrySoFar (with_child b e inner) new
  entry_with_other other later last fine id updated title =
      let kind = entry_other e.name other later last in
      entry_child b e inner old new own h none noted refused (ap within_kind kind)
      (λ address. let p = placed (feed_rules address) in_entry (elements_of b) e inner in
      subst (IsOwn (feed_rules address) p) (sym fine) (own_skipped address p kind))
      (λ same. read_other b e inner old new (h.read none) other later last id updated title)

-- the parts of a feed that a child has no part in are the same
pub record AreSame (old new : FeedParts) : Type 0 where
  pub id : new.id ≡ old.id
  pub updated : new.updated ≡ old.updated
  pub prev : new.prev ≡ old.prev
  pub address : new.address.now ≡ old.address.now
  pub entries : new.entries.items ≡ old.entries.items
  pub gone : new.gone.items ≡ old.gone.items

pub same_read : (b : Content) (old new : FeedParts) → AreSame old new → IsFeedRead b old → IsFeedRead b new
same_read b old new same r = record {
  id = same.id ∙ r.id;
  updated = subst (λ m. IsMoment (child (codes "updated") b) m) (sym same.updated) r.updated;
  prev = same.prev ∙ r.prev ∙ ap (λ a. prev_of a b) (sym same.address);
  linked = ap is_some same.prev ∙ r.linked;
  entries = subst (λ xs. AllZip IsEntryOf (named entries_name b) xs) (sym same.entries) r.entries;
  gone = subst (λ xs. AllZip IsGoneOf (named gone_name b) xs) (sym same.gone) r.gone;
  id_rules = subst (λ o. IfSome o IsAtomText) (sym same.id) r.id_rules;
  entry_rules = subst (All IsForeignEntry) (sym same.entries) r.entry_rules;
  gone_rules = subst (All IsForeignGone) (sym same.gone) r.gone_rules;
}

-- a tombstone that is read lacks nothing
gone_whole : (e : Element) (inner : Content) (g : ForeignGone) →
    IsGoneOf (record { element = e; content = inner }) g → IsForeignGone g →
    (LacksAttribute (record { element = e; content = inner }) → ⊥)
    × ((date : List ℕ) → attribute_in (codes "when") e.attributes ≡ Some date → StatesNone (trimmed date) → ⊥)
    × ((id : List ℕ) → attribute_in (codes "ref") e.attributes ≡ Some id → IsTooLong (trimmed id) → ⊥)
gone_whole e inner g of rules =
    let date = of.when.0 in (
      λ lacks. ⊎_elim
          (λ none. let bad : None ≡ Some g.id = sym (ap (option_map trimmed) none) ∙ of.id in absurd cc)
          (λ none. let bad : None ≡ Some date = sym none ∙ of.when.1 in absurd cc)
          lacks,
      λ other is states.
          let same : Some other ≡ Some date = sym is ∙ of.when.1 in
          let one : other ≡ date = cc in
          states g.when (subst (λ k. States (trimmed k) g.when) (sym one) of.when.2),
      λ id is long.
          let same : Some (trimmed id) ≡ Some g.id = sym (ap (option_map trimmed) is) ∙ of.id in
          let one : trimmed id ≡ g.id = cc in
          let short = rules.id.short in
          let over : text_limit < length g.id = subst IsTooLong one long in
          absurd (omega (arith, short, over)),
    )

-- why a tombstone is refused
gone_refused : (address : List ℕ) (b : Content) (e : Element) (inner : Content) (mid : FeedParts) (why : FeedWhy) →
    count_before (placed (feed_rules address) in_feed (elements_of b) e inner) ≡ length mid.gone.items →
    IsGoneRead e (Err why)
    ⊎ (((gone : ForeignGone) × IsGoneRead e (Ok gone)) × (length mid.gone.items ≡ item_limit) × (why ≡ TooMany)) →
    kind_in in_feed e.name ≡ tombstone →
    IsOwn (feed_rules address) (placed (feed_rules address) in_feed (elements_of b) e inner) (Some why)
gone_refused address b e inner mid why count refusal kind =
    let rules = feed_rules address in
    let p = placed rules in_feed (elements_of b) e inner in
    let P : FeedWhy → Type 0 = λ cause. IsOwn rules p (Some cause) in
    ⊎_elim
    (λ read.
    ⊎_elim
    (λ lacks. subst P (sym lacks.1) (own_gone_lacks address p kind (lacks.0 inner)))
    (λ has.
    let id = has.0 in
    let date = has.1 in
    let whole : LacksAttribute p.child → ⊥ = λ lacks. ⊎_elim
    (λ none. let bad : None ≡ Some id = sym none ∙ has.2 in absurd cc)
    (λ none. let bad : None ≡ Some date = sym none ∙ has.3 in absurd cc)
    lacks in
    ⊎_elim
    (λ bad. subst P (sym bad.1) (own_gone_date address p kind whole (date, has.3, bad.0)))
    (λ long.
    subst P (sym long.2)
    (own_gone_long address p kind whole
    (λ f.
    let same : Some f.0 ≡ Some date = sym f.1 ∙ has.3 in
    let one : f.0 ≡ date = cc in
    subst (λ k. StatesNone (trimmed k)) one f.2 long.0.0 long.0.1)
    (id, has.2, long.1)))
    has.4)
    read)
    (λ over.
    let g = over.0.0 in
    let whole = gone_whole e inner g (over.0.1.0 inner) over.0.1.1 in
    let full = over.1 in
    subst P (sym over.2)
    (own_gone_many address p kind whole.0 (λ f. whole.1 f.0 f.1 f.2) (λ f. whole.2 f.0 f.1 f.2)
    (omega (arith, count, full))))
    refusal

module _ (b : Content) (e : Element) (inner : Content) (old mid new : FeedParts) (h : IsFeedSoFar b old)
    (none : old.refused ≡ None) (noted : AreNoted (with_child b e inner) mid.required) (same : AreSame old mid) where
  -- what was read before the child
  r : IsFeedRead b mid
  r = same_read b old mid same (h.read none)

  -- a child in which all is skipped
  feed_own : (own : Option FeedWhy) → new.required ≡ mid.required → new.refused ≡ option_map (λ why. (e.place, why)) own →
      within_kind (kind_in in_feed e.name) ≡ in_skipped → new.address.now ≡ mid.address.now →
      IsOwn (feed_rules mid.address.now) (placed (feed_rules mid.address.now) in_feed (elements_of b) e inner) own →
      (own ≡ None → IsFeedRead (with_child b e inner) new) → IsFeedSoFar (with_child b e inner) new
  feed_own own keeps refused skips here is reads =
      let P : List ℕ → Type 0 = λ a.
      IsFirst (feed_rules a) (all_placed (feed_rules a) in_feed [] b) old.refused in
      let first : IsFirst (feed_rules mid.address.now)
      (all_placed (feed_rules mid.address.now) in_feed [] (with_child b e inner)) new.refused =
      subst (λ k. IsFirst (feed_rules mid.address.now)
      (all_placed (feed_rules mid.address.now) in_feed [] (with_child b e inner)) k) (sym refused)
      (child_first mid.address.now in_feed b e inner own old.refused skips is none (subst P (sym same.address) h.refused)) in
      feed_child b e inner mid new (subst (AreNoted (with_child b e inner)) (sym keeps) noted) here first (λ fine. reads (own_none (λ why. (e.place, why)) own (sym refused ∙ fine)))

  module _ (own : Option FeedWhy) (refused : new.refused ≡ option_map (λ why. (e.place, why)) own) (keeps : new.required ≡ mid.required) where
    pub feed_with_id : is_atom (codes "id") e.name ≡ true → IsFilled mid.id new.id (cut_text (the_child b e inner)) own →
        new.updated ≡ mid.updated → new.prev ≡ mid.prev → new.address.now ≡ mid.address.now →
        new.entries.items ≡ mid.entries.items → new.gone.items ≡ mid.gone.items → IsFeedSoFar (with_child b e inner) new
    feed_with_id is filled updated prev here entries gone =
        let kind = feed_id e.name is in
        let slot : is_some mid.id ≡ is_some (first_of (named (atom (codes "id")) b)) =
        ap is_some r.id ∙ some_mapped cut_text (child (codes "id") b) in
        feed_own own keeps refused (ap within_kind kind) here
        (own_filled mid.address.now in_feed b e inner (atom (codes "id")) is (is_some mid.id) slot kind mid.id new.id own
        refl filled)
        (λ fine.
        let put = subst (IsFilled mid.id new.id (cut_text (the_child b e inner))) fine filled in
        feed_read_id b e inner mid new r is put.0 put.1 put.2 updated prev here entries gone)

    pub feed_with_updated : is_atom (codes "id") e.name ≡ false → is_atom (codes "updated") e.name ≡ true →
        IsDated mid.updated new.updated (cut_text (the_child b e inner)) own → new.id ≡ mid.id → new.prev ≡ mid.prev →
        new.address.now ≡ mid.address.now → new.entries.items ≡ mid.entries.items →
        new.gone.items ≡ mid.gone.items → IsFeedSoFar (with_child b e inner) new
    feed_with_updated other is dated id prev here entries gone =
        let kind = feed_updated e.name other is in
        let slot : is_some mid.updated ≡ is_some (first_of (named (atom (codes "updated")) b)) =
        some_moment (child (codes "updated") b) mid.updated r.updated in
        feed_own own keeps refused (ap within_kind kind) here
        (own_dated mid.address.now in_feed b e inner (atom (codes "updated")) is (is_some mid.updated) slot kind
        mid.updated new.updated own refl dated)
        (λ fine.
        let put = date_put mid.updated new.updated (cut_text (the_child b e inner)) own fine dated in
        let date = put.1 in
        feed_read_updated b e inner mid new r is put.0 date.0 date.1 date.2 id prev here entries gone)

    module _ (other : is_atom (codes "id") e.name ≡ false) (later : is_atom (codes "updated") e.name ≡ false) where
      pub feed_with_other : is_atom (codes "link") e.name ≡ false → is_atom (codes "entry") e.name ≡ false →
          same_name e.name gone_name ≡ false → own ≡ None → new.id ≡ mid.id → new.updated ≡ mid.updated →
          new.prev ≡ mid.prev → new.address.now ≡ mid.address.now → new.entries.items ≡ mid.entries.items →
          new.gone.items ≡ mid.gone.items → IsFeedSoFar (with_child b e inner) new
      feed_with_other l n g fine id updated prev here entries gone =
          let kind = feed_other e.name other later l n g in
          let p = placed (feed_rules mid.address.now) in_feed (elements_of b) e inner in
          feed_own own keeps refused (ap within_kind kind) here
          (subst (IsOwn (feed_rules mid.address.now) p) (sym fine) (own_skipped mid.address.now p kind))
          (λ same. feed_read_other b e inner mid new r other later l n g id updated prev here entries gone)

      -- a link, after which the parts are `last`
      pub feed_with_link : (last : FeedParts) → is_atom (codes "link") e.name ≡ true → IsLinkTaken e mid last own →
          AreSame last new → IsFeedSoFar (with_child b e inner) new
      feed_with_link last is taken kept =
          let kind = feed_link e.name other later is in
          let own_is = own_linked b e inner mid last r own kind taken in
          ⊎_elim
          (λ left.
          let from : AreSame mid new = record {
            id = kept.id ∙ ap (λ (k : FeedParts). k.id) left.0;
            updated = kept.updated ∙ ap (λ (k : FeedParts). k.updated) left.0;
            prev = kept.prev ∙ ap (λ (k : FeedParts). k.prev) left.0;
            address = kept.address ∙ ap (λ (k : FeedParts). k.address.now) left.0;
            entries = kept.entries ∙ ap (λ (k : FeedParts). k.entries.items) left.0;
            gone = kept.gone ∙ ap (λ (k : FeedParts). k.gone.items) left.0;
          } in
          feed_own own keeps refused (ap within_kind kind) from.address own_is
          (λ fine. feed_read_link_kept b e inner mid new r is left.2 from.id from.updated from.prev from.address
          from.entries from.gone))
          (λ put.
          let id = kept.id ∙ ap (λ (k : FeedParts). k.id) put.0 in
          let updated = kept.updated ∙ ap (λ (k : FeedParts). k.updated) put.0 in
          let prev = kept.prev ∙ ap (λ (k : FeedParts). k.prev) put.0 in
          let here : new.address.now ≡ mid.address.now =
          kept.address ∙ ap (λ (k : FeedParts). k.address.now) put.0 in
          let entries = kept.entries ∙ ap (λ (k : FeedParts). k.entries.items) put.0 in
          let gone = kept.gone ∙ ap (λ (k : FeedParts). k.gone.items) put.0 in
          feed_own own keeps refused (ap within_kind kind) here own_is
          (λ fine.
          ⊎_elim
          (λ good. feed_read_link_taken b e inner mid new r is put.1 put.2
          (prev ∙ ap (λ a. target_of a e) (sym here)) (ap is_some kept.prev ∙ good.1) id updated here entries gone)
          (λ bad. let never : Some BadLink ≡ None = sym bad.0 ∙ fine in absurd cc)
          put.3))
          taken

      -- a tombstone, after which the parts are `last`
      pub feed_with_gone : (last : FeedParts) → is_atom (codes "link") e.name ≡ false →
          is_atom (codes "entry") e.name ≡ false → same_name e.name gone_name ≡ true →
          IsGoneTaken e mid last own → AreSame last new → IsFeedSoFar (with_child b e inner) new
      feed_with_gone last l n is taken kept =
          let kind = feed_gone e.name other later l n is in
          let p = placed (feed_rules mid.address.now) in_feed (elements_of b) e inner in
          let count : count_before p ≡ length mid.gone.items =
          count_child b e inner in_feed gone_name is ∙ zip_length IsGoneOf (named gone_name b) mid.gone.items r.gone in
          let Q : Option FeedWhy → Type 0 = λ o. own ≡ o → IsGoneTaken e mid last o → IsFeedSoFar (with_child b e inner) new in
          let at : (o : Option FeedWhy) → Q o = λ o. elim o as Q [
            | None ↦ λ fine t.
                let g = t.0 in
                let of = t.1.0 inner in
                let whole = gone_whole e inner g of t.1.1 in
                let few = t.4 in
                let id = kept.id ∙ ap (λ (k : FeedParts). k.id) t.2 in
                let updated = kept.updated ∙ ap (λ (k : FeedParts). k.updated) t.2 in
                let prev = kept.prev ∙ ap (λ (k : FeedParts). k.prev) t.2 in
                let here : new.address.now ≡ mid.address.now =
                kept.address ∙ ap (λ (k : FeedParts). k.address.now) t.2 in
                let entries = kept.entries ∙ ap (λ (k : FeedParts). k.entries.items) t.2 in
                feed_own own keeps refused (ap within_kind kind) here
                (subst (IsOwn (feed_rules mid.address.now) p) (sym fine)
                (own_gone mid.address.now p kind whole.0 (λ f. whole.1 f.0 f.1 f.2) (λ f. whole.2 f.0 f.1 f.2)
                (omega (arith, count, few))))
                (λ same. feed_read_gone b e inner mid new r is g of t.1.1 (kept.gone ∙ t.3) id updated prev here entries)
            | Some why ↦ λ bad t.
                let here : new.address.now ≡ mid.address.now =
                kept.address ∙ ap (λ (k : FeedParts). k.address.now) t.0 in
                let own_is : IsOwn (feed_rules mid.address.now) p (Some why) =
                gone_refused mid.address.now b e inner mid why count t.1 kind in
                feed_own own keeps refused (ap within_kind kind) here
                (subst (IsOwn (feed_rules mid.address.now) p) (sym bad) own_is)
                (λ fine. let never : Some why ≡ None = sym bad ∙ fine in absurd cc)
          ] in
          at own refl taken

  -- an entry, after which the parts are `last`
  pub feed_with_entry : (last : FeedParts) (refusal : Option (ℕ × FeedWhy)) → new.refused ≡ refusal →
      new.required ≡ last.required → is_atom (codes "id") e.name ≡ false → is_atom (codes "updated") e.name ≡ false →
      is_atom (codes "link") e.name ≡ false → is_atom (codes "entry") e.name ≡ true →
      IsEntryTaken e mid last inner refusal → AreSame last new → IsFeedSoFar (with_child b e inner) new
  feed_with_entry last refusal refused keeps other later l is taken kept =
      let kind = feed_entry e.name other later l is in
      let address = mid.address.now in
      let p = placed (feed_rules address) in_feed (elements_of b) e inner in
      let count : count_before p ≡ length mid.entries.items =
      count_child b e inner in_feed entries_name is
      ∙ zip_length IsEntryOf (named entries_name b) mid.entries.items r.entries in
      let before : IsFirst (feed_rules address) (all_placed (feed_rules address) in_feed [] b) None =
      subst (λ k. IsFirst (feed_rules address) (all_placed (feed_rules address) in_feed [] b) k) none
      (subst (λ a. IsFirst (feed_rules a) (all_placed (feed_rules a) in_feed [] b) old.refused) (sym same.address)
      h.refused) in
      let First : Option (ℕ × FeedWhy) → Type 0 = λ k.
      IsFirst (feed_rules address) (all_placed (feed_rules address) in_feed [] (with_child b e inner)) k in
      let Q : Option (ℕ × FeedWhy) → Type 0 = λ o.
      refusal ≡ o → IsEntryTaken e mid last inner o → IsFeedSoFar (with_child b e inner) new in
      let at : (o : Option (ℕ × FeedWhy)) → Q o = λ o. elim o as Q [
        | None ↦ λ fine t.
            let made = t.0 in
            let m = t.1 in
            let few = t.4 in
            let here : new.address.now ≡ address = kept.address ∙ ap (λ (k : FeedParts). k.address.now) t.2 in
            let id = kept.id ∙ ap (λ (k : FeedParts). k.id) t.2 in
            let updated = kept.updated ∙ ap (λ (k : FeedParts). k.updated) t.2 in
            let prev = kept.prev ∙ ap (λ (k : FeedParts). k.prev) t.2 in
            let gone = kept.gone ∙ ap (λ (k : FeedParts). k.gone.items) t.2 in
            let first : First None =
            first_with_child (feed_rules address) in_feed b e inner None None before
            (entry_taken address (elements_of b) e inner kind m.3 (omega (arith, count, few)) (m.4 address)) in
            feed_child b e inner mid new (subst (AreNoted (with_child b e inner)) (sym (keeps ∙ ap (λ (k : FeedParts). k.required) t.2)) noted) here (subst First (sym (refused ∙ fine)) first)
            (λ same. feed_read_entry b e inner mid new r is made m.0 m.1 (kept.entries ∙ t.3) id updated prev here gone)
        | Some bad ↦ λ fine t.
            let here : new.address.now ≡ address = kept.address ∙ ap (λ (k : FeedParts). k.address.now) t.2 in
            let first : First (Some bad) =
            first_with_child (feed_rules address) in_feed b e inner None (Some bad) before
            (entry_refused address (elements_of b) e inner t.0 bad kind t.1
            (λ full. let most = t.3 full in omega (arith, count, most))
            (λ room. let few = t.4 room in omega (arith, count, few))) in
            feed_child b e inner mid new (subst (AreNoted (with_child b e inner)) (sym (keeps ∙ ap (λ (k : FeedParts). k.required) t.2)) noted) here (subst First (sym (refused ∙ fine)) first)
            (λ same. let never : Some bad ≡ None = sym (refused ∙ fine) ∙ same in absurd cc)
      ] in
      at refusal refl taken

-- what a link or a tombstone leaves as it was
pub link_required : (e : Element) (mid last : FeedParts) (own : Option FeedWhy) → IsLinkTaken e mid last own →
    last.required ≡ mid.required
link_required e mid last own taken =
    ⊎_elim (λ l. ap (λ (k : FeedParts). k.required) l.0) (λ p. ap (λ (k : FeedParts). k.required) p.0) taken

pub gone_required : (e : Element) (mid last : FeedParts) (own : Option FeedWhy) → IsGoneTaken e mid last own →
    last.required ≡ mid.required
gone_required e mid last None taken = ap (λ (k : FeedParts). k.required) taken.2
gone_required e mid last (Some why) taken = ap (λ (k : FeedParts). k.required) taken.0
