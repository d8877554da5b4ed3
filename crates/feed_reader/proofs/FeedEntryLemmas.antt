-- EntryParts: the parts of an entry, child by child
use Rattle.std.proofs.Common.{◌≡◌, ℕ, ℤ, List, [], true, false, Option, Some, None}
use Rattle.std.proofs.Common.{option_map, refl, sym, ap, subst, ◌∙◌, codes}
use Rattle.std.specs.Prelude.{is_some, IfSome, unwrap_or}
use Rattle.std.proofs.lemmas.List.Elements.{All-nil}
use Rattle.atom_values.specs.DateText.{States}
use Rattle.atom_values.specs.Stamp.{IsStamp}
use Rattle.atom_values.specs.XmlText.{IsAtomText}
use Rattle.feed_reader.specs.declared.entry.EntryParts.{EntryParts}
use Rattle.feed_reader.specs.declared.fault.FeedWhy.{FeedWhy}
use Rattle.xml_tokens.specs.Tree.{Element, Content}
use Rattle.xml_tokens.specs.Tree.Content.{nothing}
use Rattle.xml_tokens.specs.Children.{Child, child, same_name, with_child}
use Rattle.xml_tokens.specs.Names.{atom}
use Rattle.xml_tokens.specs.Order.{IsFirst, all_placed}
use Rattle.feed_reader.specs.Feed.{StatesMoment, cut_text, whole_text}
use Rattle.feed_reader.specs.FeedFaults.{feed_rules, kind_in, within_kind}
use Rattle.feed_reader.specs.FeedFaults.Within.{in_entry, in_skipped}
use Rattle.feed_reader.specs.FeedReading.{AreNoted, IsEntryRead, IsEntrySoFar, IsMoment}
use Rattle.feed_reader.proofs.NamedLemmas.{name_is}
use Rattle.feed_reader.proofs.FeedOwnLemmas.{child_first, own_none}
use Rattle.feed_reader.proofs.FeedPartLemmas.{child_new, child_other, the_child}
use Rattle.xml_tokens.proofs.OrderLemmas.{IsOwn, elements_of, first_before_child, placed}

pub some_mapped : {A B : Type 0} (f : A → B) (o : Option A) → is_some (option_map f o) ≡ is_some o
some_mapped f None = refl
some_mapped f (Some x) = refl

pub some_moment : (o : Option Child) (moment : Option ℤ) → IsMoment o moment → is_some moment ≡ is_some o
some_moment None moment is = ap is_some is
some_moment (Some c) moment is = ap is_some is.1

-- a date that is read for the first time
pub moment_new : (o : Option Child) (c : Child) (z : ℤ) (moment : Option ℤ) → o ≡ Some c → moment ≡ Some z →
    States (cut_text c) z → IsMoment o moment
moment_new o c z moment is put states = subst (λ k. IsMoment k moment) (sym is) (z, put, states)

module _ (b : Content) (e : Element) (inner : Content) (old new : EntryParts) where
  -- a child after a refusal
  pub entry_after : (refusal : ℕ × FeedWhy) → IsEntrySoFar b old → old.refused ≡ Some refusal →
      new.refused ≡ Some refusal → AreNoted (with_child b e inner) new.required → IsEntrySoFar (with_child b e inner) new
  entry_after refusal h some same noted = record {
    required = noted;
    refused = λ address. subst (λ r. IsFirst (feed_rules address)
        (all_placed (feed_rules address) in_entry [] (with_child b e inner)) r) (sym same)
        (first_before_child (feed_rules address) in_entry b e inner refusal
        (subst (λ r. IsFirst (feed_rules address) (all_placed (feed_rules address) in_entry [] b) r) some
        (h.refused address)));
    read = λ none. let bad : Some refusal ≡ None = sym same ∙ none in absurd cc;
  }

  -- a child before any refusal
  pub entry_child : (own : Option FeedWhy) → IsEntrySoFar b old → old.refused ≡ None →
      AreNoted (with_child b e inner) new.required → new.refused ≡ option_map (λ why. (e.place, why)) own →
      within_kind (kind_in in_entry e.name) ≡ in_skipped →
      ((address : List ℕ) → IsOwn (feed_rules address) (placed (feed_rules address) in_entry (elements_of b) e inner) own) →
      (own ≡ None → IsEntryRead (with_child b e inner) new) → IsEntrySoFar (with_child b e inner) new
  entry_child own h none noted is skips owns reads = record {
    required = noted;
    refused = λ address. subst (λ r. IsFirst (feed_rules address)
        (all_placed (feed_rules address) in_entry [] (with_child b e inner)) r) (sym is)
        (child_first address in_entry b e inner own old.refused skips (owns address) none (h.refused address));
    read = λ fine. reads (own_none (λ why. (e.place, why)) own (sym is ∙ fine));
  }

  module _ (r : IsEntryRead b old) where
    -- the same parts are read of the children of other names
    same_id : same_name e.name (atom (codes "id")) ≡ false → new.id ≡ old.id →
        new.id ≡ option_map cut_text (child (codes "id") (with_child b e inner))
    same_id other same = same ∙ r.id ∙ ap (option_map cut_text) (sym (child_other b e inner (atom (codes "id")) other))

    same_title : same_name e.name (atom (codes "title")) ≡ false → new.title ≡ old.title →
        new.title ≡ option_map whole_text (child (codes "title") (with_child b e inner))
    same_title other same =
        same ∙ r.title ∙ ap (option_map whole_text) (sym (child_other b e inner (atom (codes "title")) other))

    same_updated : same_name e.name (atom (codes "updated")) ≡ false → new.updated ≡ old.updated →
        IsMoment (child (codes "updated") (with_child b e inner)) new.updated
    same_updated other same =
        subst (λ k. IsMoment k new.updated) (sym (child_other b e inner (atom (codes "updated")) other))
        (subst (λ m. IsMoment (child (codes "updated") b) m) (sym same) r.updated)

    pub read_other : same_name e.name (atom (codes "id")) ≡ false → same_name e.name (atom (codes "updated")) ≡ false →
        same_name e.name (atom (codes "title")) ≡ false → new.id ≡ old.id → new.updated ≡ old.updated →
        new.title ≡ old.title → IsEntryRead (with_child b e inner) new
    read_other a d t id updated title = record {
      id = same_id a id;
      title = same_title t title;
      updated = same_updated d updated;
      id_rules = subst (λ o. IfSome o IsAtomText) (sym id) r.id_rules;
      title_rules = subst (λ o. IfSome o IsAtomText) (sym title) r.title_rules;
    }

    pub read_id : same_name e.name (atom (codes "id")) ≡ true → is_some old.id ≡ false →
        new.id ≡ Some (cut_text (the_child b e inner)) → IsAtomText (cut_text (the_child b e inner)) →
        new.updated ≡ old.updated → new.title ≡ old.title → IsEntryRead (with_child b e inner) new
    read_id is free put rules updated title =
        let n = name_is e.name (atom (codes "id")) is in
        let first = child_new b e inner (atom (codes "id")) is
        (sym (ap is_some r.id ∙ some_mapped cut_text (child (codes "id") b)) ∙ free) in
        record {
          id = put ∙ sym (ap (option_map cut_text) first);
          title = same_title (ap (λ k. same_name k (atom (codes "title"))) n) title;
          updated = same_updated (ap (λ k. same_name k (atom (codes "updated"))) n) updated;
          id_rules = subst (λ o. IfSome o IsAtomText) (sym put) rules;
          title_rules = subst (λ o. IfSome o IsAtomText) (sym title) r.title_rules;
        }

    pub read_title : same_name e.name (atom (codes "title")) ≡ true → is_some old.title ≡ false →
        new.title ≡ Some (whole_text (the_child b e inner)) → IsAtomText (whole_text (the_child b e inner)) →
        new.updated ≡ old.updated → new.id ≡ old.id → IsEntryRead (with_child b e inner) new
    read_title is free put rules updated id =
        let n = name_is e.name (atom (codes "title")) is in
        let first = child_new b e inner (atom (codes "title")) is
        (sym (ap is_some r.title ∙ some_mapped whole_text (child (codes "title") b)) ∙ free) in
        record {
          id = same_id (ap (λ k. same_name k (atom (codes "id"))) n) id;
          title = put ∙ sym (ap (option_map whole_text) first);
          updated = same_updated (ap (λ k. same_name k (atom (codes "updated"))) n) updated;
          id_rules = subst (λ o. IfSome o IsAtomText) (sym id) r.id_rules;
          title_rules = subst (λ o. IfSome o IsAtomText) (sym put) rules;
        }

    pub read_updated : same_name e.name (atom (codes "updated")) ≡ true → is_some old.updated ≡ false → (z : ℤ) →
        new.updated ≡ Some z → States (cut_text (the_child b e inner)) z → new.id ≡ old.id → new.title ≡ old.title →
        IsEntryRead (with_child b e inner) new
    read_updated is free z put states id title =
        let n = name_is e.name (atom (codes "updated")) is in
        let first = child_new b e inner (atom (codes "updated")) is
        (sym (some_moment (child (codes "updated") b) old.updated r.updated) ∙ free) in
        record {
          id = same_id (ap (λ k. same_name k (atom (codes "id"))) n) id;
          title = same_title (ap (λ k. same_name k (atom (codes "title"))) n) title;
          updated = moment_new (child (codes "updated") (with_child b e inner)) (the_child b e inner) z new.updated first
              put states;
          id_rules = subst (λ o. IfSome o IsAtomText) (sym id) r.id_rules;
          title_rules = subst (λ o. IfSome o IsAtomText) (sym title) r.title_rules;
        }

-- an entry of which nothing is read
pub entry_nothing : (new : EntryParts) → new.required.id ≡ false → new.required.updated ≡ false → new.refused ≡ None →
    new.id ≡ None → new.title ≡ None → new.updated ≡ None → IsEntrySoFar nothing new
entry_nothing new a d r id title updated = record {
  required = record { id = a; updated = d };
  refused = λ address. subst (λ o. IsFirst (feed_rules address) [] o) (sym r) (All-nil _);
  read = λ none. record {
    id = id;
    title = title;
    updated = updated;
    id_rules = subst (λ o. IfSome o IsAtomText) (sym id) tt;
    title_rules = subst (λ o. IfSome o IsAtomText) (sym title) tt;
  };
}

pub none_from : {A : Type 0} (o : Option A) → ((x : A) → o ≡ Some x → ⊥) → o ≡ None
none_from None not = refl
none_from (Some x) not = absurd (not x refl)

-- the timestamp of a date that is read
pub moment_states : (o : Option Child) (moment : Option ℤ) (z : ℤ) → IsMoment o moment → moment ≡ Some z →
    StatesMoment o z
moment_states None moment z is put = let bad : None ≡ Some z = sym is ∙ put in absurd cc
moment_states (Some c) moment z (y, is, states) put =
    let same : Some y ≡ Some z = sym is ∙ put in
    let one : y ≡ z = cc in
    (c, refl, subst (λ k. States (cut_text c) k) one states)

pub moment_rules : (o : Option Child) (z : ℤ) → StatesMoment o z → IsStamp z
moment_rules o z (c, is, states) = states.4

pub title_text : (o : Option (List ℕ)) → IfSome o IsAtomText → IsAtomText [] → IsAtomText (unwrap_or o [])
title_text None rules empty = empty
title_text (Some text) rules empty = rules
