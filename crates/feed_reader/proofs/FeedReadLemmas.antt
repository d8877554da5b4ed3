-- FeedParts: the parts of a feed, child by child
use Rattle.std.proofs.Common.{◌≡◌, ◌⊎◌, ℕ, ℤ, List, [], ◌∷◌, ◌++◌, true, false, Option, Some, None}
use Rattle.std.proofs.Common.{option_map, sym, ap, subst, ◌∙◌, inl, inr, ⊎_elim, codes, All}
use Rattle.std.specs.Prelude.{find, is_some, IfSome, option_and_then}
use Rattle.std.specs.List.{AllZip, list_any}
use Rattle.std.proofs.lemmas.Bool.{both_ways, cond-true}
use Rattle.std.proofs.lemmas.List.Elements.{All-append, All-cons, All-nil}
use Rattle.atom_values.specs.DateText.{States}
use Rattle.atom_values.specs.XmlText.{IsAtomText}
use Rattle.feed_reader.specs.declared.fault.FeedWhy.{FeedWhy}
use Rattle.feed_reader.specs.declared.parts.FeedParts.{FeedParts}
use Rattle.feed_reader.specs.declared.values.ForeignEntry.{ForeignEntry}
use Rattle.feed_reader.specs.declared.values.ForeignGone.{ForeignGone}
use Rattle.xml_tokens.specs.Tree.{Name, Element, Content}
use Rattle.xml_tokens.specs.Children.{child, children, named, same_name, with_child}
use Rattle.xml_tokens.specs.Names.{atom, tombstones}
use Rattle.xml_tokens.specs.Order.{IsFirst, all_placed}
use Rattle.feed_reader.specs.Feed.{IsEntryOf, IsForeignEntry, IsForeignGone, IsGoneOf, cut_text, is_prev, prev_of, target}
use Rattle.feed_reader.specs.FeedFaults.{feed_rules, is_prev_link, kind_in}
use Rattle.feed_reader.specs.FeedFaults.Kind.{link}
use Rattle.feed_reader.specs.FeedFaults.Within.{in_feed}
use Rattle.feed_reader.specs.FeedReading.{AreNoted, IsFeedRead, IsFeedSoFar, IsLinkTaken, IsMoment, leads_back, target_of}
use Rattle.feed_reader.proofs.NamedLemmas.{name_is}
use Rattle.feed_reader.proofs.FeedEntryLemmas.{moment_new, some_mapped, some_moment}
use Rattle.feed_reader.proofs.FeedFaultLemmas.{own_link, own_link_bad}
use Rattle.feed_reader.proofs.FeedMadeLemmas.{none_is}
use Rattle.feed_reader.proofs.FeedPartLemmas.{any_prev, child_new, child_other, find_kept, find_last, the_child, zip_push}
use Rattle.xml_tokens.proofs.OrderLemmas.{IsOwn, elements_of, first_before_child, placed}
use Rattle.feed_reader.proofs.NamedLemmas.{named_more, named_other}

abbrev pub links : Name
links = atom (codes "link")

abbrev pub entries_name : Name
entries_name = atom (codes "entry")

abbrev pub gone_name : Name
gone_name = tombstones (codes "deleted-entry")

module _ (b : Content) (e : Element) (inner : Content) (old new : FeedParts) where
  -- a child after a refusal
  pub feed_after : (refusal : ℕ × FeedWhy) → IsFeedSoFar b old → old.refused ≡ Some refusal →
      new.refused ≡ Some refusal → new.address.now ≡ old.address.now → AreNoted (with_child b e inner) new.required →
      IsFeedSoFar (with_child b e inner) new
  feed_after refusal h some same here noted =
      let P : List ℕ → Option (ℕ × FeedWhy) → Type 0 = λ address r.
      IsFirst (feed_rules address) (all_placed (feed_rules address) in_feed [] (with_child b e inner)) r in
      record {
        required = noted;
        refused = subst (λ a. P a new.refused) (sym here)
            (subst (P old.address.now) (sym same)
            (first_before_child (feed_rules old.address.now) in_feed b e inner refusal
            (subst (λ r. IsFirst (feed_rules old.address.now) (all_placed (feed_rules old.address.now) in_feed [] b) r)
            some h.refused)));
        read = λ none. let bad : Some refusal ≡ None = sym same ∙ none in absurd cc;
      }

  -- a child before any refusal
  pub feed_child : AreNoted (with_child b e inner) new.required → new.address.now ≡ old.address.now →
      IsFirst (feed_rules old.address.now)
      (all_placed (feed_rules old.address.now) in_feed [] (with_child b e inner)) new.refused →
      (new.refused ≡ None → IsFeedRead (with_child b e inner) new) → IsFeedSoFar (with_child b e inner) new
  feed_child noted here first reads = record {
    required = noted;
    refused = subst (λ a. IsFirst (feed_rules a) (all_placed (feed_rules a) in_feed [] (with_child b e inner))
        new.refused) (sym here) first;
    read = reads;
  }

  module _ (r : IsFeedRead b old) where
    keep_id : same_name e.name (atom (codes "id")) ≡ false → new.id ≡ old.id →
        new.id ≡ option_map cut_text (child (codes "id") (with_child b e inner))
    keep_id other same = same ∙ r.id ∙ ap (option_map cut_text) (sym (child_other b e inner (atom (codes "id")) other))

    keep_updated : same_name e.name (atom (codes "updated")) ≡ false → new.updated ≡ old.updated →
        IsMoment (child (codes "updated") (with_child b e inner)) new.updated
    keep_updated other same =
        subst (λ k. IsMoment k new.updated) (sym (child_other b e inner (atom (codes "updated")) other))
        (subst (λ m. IsMoment (child (codes "updated") b) m) (sym same) r.updated)

    keep_prev : same_name e.name links ≡ false → new.prev ≡ old.prev → new.address.now ≡ old.address.now →
        new.prev ≡ prev_of new.address.now (with_child b e inner)
    keep_prev other same here =
        same ∙ r.prev ∙ ap (λ a. prev_of a b) (sym here)
        ∙ ap (λ cs. option_and_then (target new.address.now) (find is_prev cs)) (sym (named_other links b e inner other))

    keep_linked : same_name e.name links ≡ false → new.prev ≡ old.prev →
        is_some new.prev ≡ is_some (find is_prev (named links (with_child b e inner)))
    keep_linked other same =
        ap is_some same ∙ r.linked ∙ ap (λ cs. is_some (find is_prev cs)) (sym (named_other links b e inner other))

    keep_entries : same_name e.name entries_name ≡ false → new.entries.items ≡ old.entries.items →
        AllZip IsEntryOf (named entries_name (with_child b e inner)) new.entries.items
    keep_entries other same =
        subst (λ cs. AllZip IsEntryOf cs new.entries.items) (sym (named_other entries_name b e inner other))
        (subst (λ xs. AllZip IsEntryOf (named entries_name b) xs) (sym same) r.entries)

    keep_gone : same_name e.name gone_name ≡ false → new.gone.items ≡ old.gone.items →
        AllZip IsGoneOf (named gone_name (with_child b e inner)) new.gone.items
    keep_gone other same =
        subst (λ cs. AllZip IsGoneOf cs new.gone.items) (sym (named_other gone_name b e inner other))
        (subst (λ xs. AllZip IsGoneOf (named gone_name b) xs) (sym same) r.gone)

    -- what a child of this name leaves as it was
    pub feed_read_other : same_name e.name (atom (codes "id")) ≡ false →
        same_name e.name (atom (codes "updated")) ≡ false → same_name e.name links ≡ false →
        same_name e.name entries_name ≡ false → same_name e.name gone_name ≡ false → new.id ≡ old.id →
        new.updated ≡ old.updated → new.prev ≡ old.prev → new.address.now ≡ old.address.now →
        new.entries.items ≡ old.entries.items → new.gone.items ≡ old.gone.items → IsFeedRead (with_child b e inner) new
    feed_read_other i u l n g id updated prev here entries gone = record {
      id = keep_id i id;
      updated = keep_updated u updated;
      prev = keep_prev l prev here;
      linked = keep_linked l prev;
      entries = keep_entries n entries;
      gone = keep_gone g gone;
      id_rules = subst (λ o. IfSome o IsAtomText) (sym id) r.id_rules;
      entry_rules = subst (All IsForeignEntry) (sym entries) r.entry_rules;
      gone_rules = subst (All IsForeignGone) (sym gone) r.gone_rules;
    }

    pub feed_read_id : same_name e.name (atom (codes "id")) ≡ true → is_some old.id ≡ false →
        new.id ≡ Some (cut_text (the_child b e inner)) → IsAtomText (cut_text (the_child b e inner)) →
        new.updated ≡ old.updated → new.prev ≡ old.prev → new.address.now ≡ old.address.now →
        new.entries.items ≡ old.entries.items → new.gone.items ≡ old.gone.items → IsFeedRead (with_child b e inner) new
    feed_read_id is free put rules updated prev here entries gone =
        let n = name_is e.name (atom (codes "id")) is in
        let first = child_new b e inner (atom (codes "id")) is
        (sym (ap is_some r.id ∙ some_mapped cut_text (child (codes "id") b)) ∙ free) in
        record {
          id = put ∙ sym (ap (option_map cut_text) first);
          updated = keep_updated (ap (λ k. same_name k (atom (codes "updated"))) n) updated;
          prev = keep_prev (ap (λ k. same_name k links) n) prev here;
          linked = keep_linked (ap (λ k. same_name k links) n) prev;
          entries = keep_entries (ap (λ k. same_name k entries_name) n) entries;
          gone = keep_gone (ap (λ k. same_name k gone_name) n) gone;
          id_rules = subst (λ o. IfSome o IsAtomText) (sym put) rules;
          entry_rules = subst (All IsForeignEntry) (sym entries) r.entry_rules;
          gone_rules = subst (All IsForeignGone) (sym gone) r.gone_rules;
        }

    pub feed_read_updated : same_name e.name (atom (codes "updated")) ≡ true → is_some old.updated ≡ false → (z : ℤ) →
        new.updated ≡ Some z → States (cut_text (the_child b e inner)) z → new.id ≡ old.id → new.prev ≡ old.prev →
        new.address.now ≡ old.address.now → new.entries.items ≡ old.entries.items → new.gone.items ≡ old.gone.items →
        IsFeedRead (with_child b e inner) new
    feed_read_updated is free z put states id prev here entries gone =
        let n = name_is e.name (atom (codes "updated")) is in
        let first = child_new b e inner (atom (codes "updated")) is
        (sym (some_moment (child (codes "updated") b) old.updated r.updated) ∙ free) in
        record {
          id = keep_id (ap (λ k. same_name k (atom (codes "id"))) n) id;
          updated = moment_new (child (codes "updated") (with_child b e inner)) (the_child b e inner) z new.updated first
              put states;
          prev = keep_prev (ap (λ k. same_name k links) n) prev here;
          linked = keep_linked (ap (λ k. same_name k links) n) prev;
          entries = keep_entries (ap (λ k. same_name k entries_name) n) entries;
          gone = keep_gone (ap (λ k. same_name k gone_name) n) gone;
          id_rules = subst (λ o. IfSome o IsAtomText) (sym id) r.id_rules;
          entry_rules = subst (All IsForeignEntry) (sym entries) r.entry_rules;
          gone_rules = subst (All IsForeignGone) (sym gone) r.gone_rules;
        }

    pub feed_read_entry : same_name e.name entries_name ≡ true → (made : ForeignEntry) →
        IsEntryOf (the_child b e inner) made → IsForeignEntry made →
        new.entries.items ≡ old.entries.items ++ made ∷ [] → new.id ≡ old.id → new.updated ≡ old.updated →
        new.prev ≡ old.prev → new.address.now ≡ old.address.now → new.gone.items ≡ old.gone.items →
        IsFeedRead (with_child b e inner) new
    feed_read_entry is made of rules push id updated prev here gone =
        let n = name_is e.name entries_name is in
        record {
          id = keep_id (ap (λ k. same_name k (atom (codes "id"))) n) id;
          updated = keep_updated (ap (λ k. same_name k (atom (codes "updated"))) n) updated;
          prev = keep_prev (ap (λ k. same_name k links) n) prev here;
          linked = keep_linked (ap (λ k. same_name k links) n) prev;
          entries = subst (λ xs. AllZip IsEntryOf (named entries_name (with_child b e inner)) xs) (sym push)
              (subst (λ cs. AllZip IsEntryOf cs (old.entries.items ++ made ∷ []))
              (sym (named_more entries_name b e inner is))
              (zip_push IsEntryOf (named entries_name b) old.entries.items (the_child b e inner) made r.entries of));
          gone = keep_gone (ap (λ k. same_name k gone_name) n) gone;
          id_rules = subst (λ o. IfSome o IsAtomText) (sym id) r.id_rules;
          entry_rules = subst (All IsForeignEntry) (sym push)
              (All-append IsForeignEntry old.entries.items (made ∷ []) r.entry_rules
              (All-cons IsForeignEntry made [] rules (All-nil IsForeignEntry)));
          gone_rules = subst (All IsForeignGone) (sym gone) r.gone_rules;
        }

    pub feed_read_gone : same_name e.name gone_name ≡ true → (made : ForeignGone) →
        IsGoneOf (the_child b e inner) made → IsForeignGone made → new.gone.items ≡ old.gone.items ++ made ∷ [] →
        new.id ≡ old.id → new.updated ≡ old.updated → new.prev ≡ old.prev → new.address.now ≡ old.address.now →
        new.entries.items ≡ old.entries.items → IsFeedRead (with_child b e inner) new
    feed_read_gone is made of rules push id updated prev here entries =
        let n = name_is e.name gone_name is in
        record {
          id = keep_id (ap (λ k. same_name k (atom (codes "id"))) n) id;
          updated = keep_updated (ap (λ k. same_name k (atom (codes "updated"))) n) updated;
          prev = keep_prev (ap (λ k. same_name k links) n) prev here;
          linked = keep_linked (ap (λ k. same_name k links) n) prev;
          entries = keep_entries (ap (λ k. same_name k entries_name) n) entries;
          gone = subst (λ xs. AllZip IsGoneOf (named gone_name (with_child b e inner)) xs) (sym push)
              (subst (λ cs. AllZip IsGoneOf cs (old.gone.items ++ made ∷ [])) (sym (named_more gone_name b e inner is))
              (zip_push IsGoneOf (named gone_name b) old.gone.items (the_child b e inner) made r.gone of));
          id_rules = subst (λ o. IfSome o IsAtomText) (sym id) r.id_rules;
          entry_rules = subst (All IsForeignEntry) (sym entries) r.entry_rules;
          gone_rules = subst (All IsForeignGone) (sym push)
              (All-append IsForeignGone old.gone.items (made ∷ []) r.gone_rules
              (All-cons IsForeignGone made [] rules (All-nil IsForeignGone)));
        }

    -- a link: the first one to the archive before counts
    back : (leads_back e ≡ true → is_prev (the_child b e inner) ≡ true)
        × (leads_back e ≡ false → is_prev (the_child b e inner) ≡ false)
    back = (λ t. t, λ f. f)

    earlier : list_any is_prev_link (elements_of b) ≡ is_some old.prev
    earlier = any_prev (children b) ∙ sym r.linked

    pub feed_read_link_kept : same_name e.name links ≡ true → (is_some old.prev ≡ true) ⊎ (leads_back e ≡ false) →
        new.id ≡ old.id → new.updated ≡ old.updated → new.prev ≡ old.prev → new.address.now ≡ old.address.now →
        new.entries.items ≡ old.entries.items → new.gone.items ≡ old.gone.items → IsFeedRead (with_child b e inner) new
    feed_read_link_kept is why id updated prev here entries gone =
        let n = name_is e.name links is in
        let found : find is_prev (named links (with_child b e inner)) ≡ find is_prev (named links b) =
        ap (find is_prev) (named_more links b e inner is)
        ∙ find_kept (named links b) (the_child b e inner)
        (⊎_elim (λ t. inl (sym r.linked ∙ t)) (λ f. inr (back.1 f)) why) in
        record {
          id = keep_id (ap (λ k. same_name k (atom (codes "id"))) n) id;
          updated = keep_updated (ap (λ k. same_name k (atom (codes "updated"))) n) updated;
          prev = prev ∙ r.prev ∙ ap (λ a. prev_of a b) (sym here)
              ∙ ap (option_and_then (target new.address.now)) (sym found);
          linked = ap is_some prev ∙ r.linked ∙ ap is_some (sym found);
          entries = keep_entries (ap (λ k. same_name k entries_name) n) entries;
          gone = keep_gone (ap (λ k. same_name k gone_name) n) gone;
          id_rules = subst (λ o. IfSome o IsAtomText) (sym id) r.id_rules;
          entry_rules = subst (All IsForeignEntry) (sym entries) r.entry_rules;
          gone_rules = subst (All IsForeignGone) (sym gone) r.gone_rules;
        }

    pub feed_read_link_taken : same_name e.name links ≡ true → is_some old.prev ≡ false → leads_back e ≡ true →
        new.prev ≡ target_of new.address.now e → is_some new.prev ≡ true → new.id ≡ old.id →
        new.updated ≡ old.updated → new.address.now ≡ old.address.now → new.entries.items ≡ old.entries.items →
        new.gone.items ≡ old.gone.items → IsFeedRead (with_child b e inner) new
    feed_read_link_taken is free leads put some id updated here entries gone =
        let n = name_is e.name links is in
        let found : find is_prev (named links (with_child b e inner)) ≡ Some (the_child b e inner) =
        ap (find is_prev) (named_more links b e inner is)
        ∙ find_last (named links b) (the_child b e inner) (none_is (find is_prev (named links b)) (sym r.linked ∙ free))
        ∙ cond-true (is_prev (the_child b e inner)) (Some (the_child b e inner)) None (back.0 leads) in
        record {
          id = keep_id (ap (λ k. same_name k (atom (codes "id"))) n) id;
          updated = keep_updated (ap (λ k. same_name k (atom (codes "updated"))) n) updated;
          prev = put ∙ ap (option_and_then (target new.address.now)) (sym found);
          linked = some ∙ ap is_some (sym found);
          entries = keep_entries (ap (λ k. same_name k entries_name) n) entries;
          gone = keep_gone (ap (λ k. same_name k gone_name) n) gone;
          id_rules = subst (λ o. IfSome o IsAtomText) (sym id) r.id_rules;
          entry_rules = subst (All IsForeignEntry) (sym entries) r.entry_rules;
          gone_rules = subst (All IsForeignGone) (sym gone) r.gone_rules;
        }

    -- what a link is refused for
    pub own_linked : (why : Option FeedWhy) → kind_in in_feed e.name ≡ link → IsLinkTaken e old new why →
        IsOwn (feed_rules old.address.now) (placed (feed_rules old.address.now) in_feed (elements_of b) e inner) why
    own_linked why is (inl (same, none, kept)) =
        let p = placed (feed_rules old.address.now) in_feed (elements_of b) e inner in
        subst (IsOwn (feed_rules old.address.now) p) (sym none)
        (own_link old.address.now p is (λ fault.
        ⊎_elim
        (λ t. both_ways (list_any is_prev_link (elements_of b)) fault.0.1 (earlier ∙ t))
        (λ f. both_ways (is_prev (the_child b e inner)) (back.1 f) fault.0.0)
        kept))
    own_linked why is (inr (same, free, leads, inl (none, some))) =
        let p = placed (feed_rules old.address.now) in_feed (elements_of b) e inner in
        let found : is_some (target_of old.address.now e) ≡ true =
        subst (λ (k : FeedParts). is_some k.prev ≡ true) same some in
        subst (IsOwn (feed_rules old.address.now) p) (sym none)
        (own_link old.address.now p is (λ fault.
        both_ways (is_some (target_of old.address.now e)) (ap is_some fault.1) found))
    own_linked why is (inr (same, free, leads, inr (bad, none))) =
        let p = placed (feed_rules old.address.now) in_feed (elements_of b) e inner in
        let missing : is_some (target_of old.address.now e) ≡ false =
        subst (λ (k : FeedParts). is_some k.prev ≡ false) same none in
        subst (IsOwn (feed_rules old.address.now) p) (sym bad)
        (own_link_bad old.address.now p is (back.0 leads, earlier ∙ free)
        (none_is (target_of old.address.now e) missing))
