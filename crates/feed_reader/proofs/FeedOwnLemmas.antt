-- EntryParts::child, FeedParts::child: what a child is refused for, as it is read
use Rattle.std.proofs.Common.{◌≡◌, ◌⊎◌, ℕ, ℤ, List, [], Bool, true, false, Option, Some, None}
use Rattle.std.proofs.Common.{option_map, refl, sym, subst, ◌∙◌, arith, inl, inr, codes, All}
use Rattle.std.specs.Prelude.{is_some}
use Rattle.std.specs.Option.{option_or}
use Rattle.std.proofs.lemmas.Bool.{cond-false, cond-true}
use Rattle.atom_values.specs.XmlText.{IsAtomText}
use Rattle.feed_reader.specs.declared.fault.FeedWhy.{FeedWhy}
use Rattle.feed_reader.specs.declared.fault.FeedWhy.TheVariants.{Twice}
use Rattle.xml_tokens.specs.Tree.{Name, Element, Content}
use Rattle.xml_tokens.specs.Children.{first_of, named, same_name, with_child}
use Rattle.xml_tokens.specs.Names.{tombstones}
use Rattle.xml_tokens.specs.Order.{IsFaultless, IsFirst, Placed, all_placed}
use Rattle.feed_reader.specs.Feed.{cut_text, whole_text}
use Rattle.feed_reader.specs.FeedFaults.{IsTooLong, Kind, Within, feed_rules, is_atom, kind_in, within_kind}
use Rattle.feed_reader.specs.FeedFaults.Kind.{entry, tombstone, identifier, title, date, link, skipped}
use Rattle.feed_reader.specs.FeedFaults.Within.{in_entry, in_feed, in_skipped}
use Rattle.feed_reader.specs.FeedReading.{IsDated, IsFilled}
use Rattle.feed_reader.proofs.FeedFaultLemmas.{own_date, own_date_bad, own_identifier, own_identifier_long, own_title}
use Rattle.feed_reader.proofs.FeedFaultLemmas.{own_title_long, own_twice, skipped_faultless}
use Rattle.feed_reader.proofs.FeedPartLemmas.{count_none, count_some, the_child}
use Rattle.xml_tokens.proofs.OrderLemmas.{IsOwn, at_tag, elements_of, first_of_element, first_with_child, placed}

or_none : {A : Type 0} (o : Option A) → option_or o None ≡ o
or_none None = refl
or_none (Some x) = refl

pub own_none : {A B : Type 0} (f : A → B) (o : Option A) → option_map f o ≡ None → o ≡ None
own_none f None e = refl
own_none f (Some x) e = let bad : Some (f x) ≡ None = e in absurd cc

-- kinds of the children of an entry
pub entry_id : (name : Name) → is_atom (codes "id") name ≡ true → kind_in in_entry name ≡ identifier
entry_id name is = cond-true (is_atom (codes "id") name) _ _ is

pub entry_updated : (name : Name) → is_atom (codes "id") name ≡ false → is_atom (codes "updated") name ≡ true →
    kind_in in_entry name ≡ date
entry_updated name a is =
    cond-false (is_atom (codes "id") name) _ _ a ∙ cond-true (is_atom (codes "updated") name) _ _ is

pub entry_title : (name : Name) → is_atom (codes "id") name ≡ false → is_atom (codes "updated") name ≡ false →
    is_atom (codes "title") name ≡ true → kind_in in_entry name ≡ title
entry_title name a b is =
    cond-false (is_atom (codes "id") name) _ _ a ∙ cond-false (is_atom (codes "updated") name) _ _ b
    ∙ cond-true (is_atom (codes "title") name) _ _ is

pub entry_other : (name : Name) → is_atom (codes "id") name ≡ false → is_atom (codes "updated") name ≡ false →
    is_atom (codes "title") name ≡ false → kind_in in_entry name ≡ skipped
entry_other name a b d =
    cond-false (is_atom (codes "id") name) _ _ a ∙ cond-false (is_atom (codes "updated") name) _ _ b
    ∙ cond-false (is_atom (codes "title") name) _ _ d

-- kinds of the children of a feed
pub feed_id : (name : Name) → is_atom (codes "id") name ≡ true → kind_in in_feed name ≡ identifier
feed_id name is = cond-true (is_atom (codes "id") name) _ _ is

pub feed_updated : (name : Name) → is_atom (codes "id") name ≡ false → is_atom (codes "updated") name ≡ true →
    kind_in in_feed name ≡ date
feed_updated name a is =
    cond-false (is_atom (codes "id") name) _ _ a ∙ cond-true (is_atom (codes "updated") name) _ _ is

module _ (name : Name) (a : is_atom (codes "id") name ≡ false) (b : is_atom (codes "updated") name ≡ false) where
  pub feed_link : is_atom (codes "link") name ≡ true → kind_in in_feed name ≡ link
  feed_link is =
      cond-false (is_atom (codes "id") name) _ _ a ∙ cond-false (is_atom (codes "updated") name) _ _ b
      ∙ cond-true (is_atom (codes "link") name) _ _ is

  module _ (d : is_atom (codes "link") name ≡ false) where
    pub feed_entry : is_atom (codes "entry") name ≡ true → kind_in in_feed name ≡ entry
    feed_entry is =
        cond-false (is_atom (codes "id") name) _ _ a ∙ cond-false (is_atom (codes "updated") name) _ _ b
        ∙ cond-false (is_atom (codes "link") name) _ _ d ∙ cond-true (is_atom (codes "entry") name) _ _ is

    module _ (f : is_atom (codes "entry") name ≡ false) where
      pub feed_gone : same_name name (tombstones (codes "deleted-entry")) ≡ true → kind_in in_feed name ≡ tombstone
      feed_gone is =
          cond-false (is_atom (codes "id") name) _ _ a ∙ cond-false (is_atom (codes "updated") name) _ _ b
          ∙ cond-false (is_atom (codes "link") name) _ _ d ∙ cond-false (is_atom (codes "entry") name) _ _ f
          ∙ cond-true (same_name name (tombstones (codes "deleted-entry"))) _ _ is

      pub feed_other : same_name name (tombstones (codes "deleted-entry")) ≡ false → kind_in in_feed name ≡ skipped
      feed_other is =
          cond-false (is_atom (codes "id") name) _ _ a ∙ cond-false (is_atom (codes "updated") name) _ _ b
          ∙ cond-false (is_atom (codes "link") name) _ _ d ∙ cond-false (is_atom (codes "entry") name) _ _ f
          ∙ cond-false (same_name name (tombstones (codes "deleted-entry"))) _ _ is

module _ (address : List ℕ) (within : Within) (b : Content) (e : Element) (inner : Content) where
  abbrev here : Placed Within
  here = placed (feed_rules address) within (elements_of b) e inner

  -- the first refusal of a content with a child in which all is skipped
  pub child_first : (own : Option FeedWhy) (old : Option (ℕ × FeedWhy)) →
      within_kind (kind_in within e.name) ≡ in_skipped → IsOwn (feed_rules address) here own → old ≡ None →
      IsFirst (feed_rules address) (all_placed (feed_rules address) within [] b) old →
      IsFirst (feed_rules address) (all_placed (feed_rules address) within [] (with_child b e inner))
      (at_tag (feed_rules address) e own)
  child_first own old skips is none before =
      let rules = feed_rules address in
      let inside : IsFirst rules (all_placed rules (rules.inside within e.name) [] inner) None =
      subst (λ w. All (IsFaultless rules) (all_placed rules w [] inner)) (sym skips)
      (skipped_faultless address [] inner) in
      subst (λ r. IsFirst rules (all_placed rules within [] (with_child b e inner)) r) (or_none (at_tag rules e own))
      (first_with_child rules within b e inner None (option_or (at_tag rules e own) None)
      (subst (λ r. IsFirst rules (all_placed rules within [] b) r) none before)
      (first_of_element rules within (elements_of b) e inner own None is inside))

  module _ (name : Name) (same : same_name e.name name ≡ true) (taken : Bool)
      (slot : taken ≡ is_some (first_of (named name b))) where
    second : (k : Kind) → kind_in within e.name ≡ k → (k ≡ identifier) ⊎ (k ≡ title) ⊎ (k ≡ date) → taken ≡ true →
        IsOwn (feed_rules address) here (Some Twice)
    second k is kind t =
        own_twice address here k is kind (count_some b e inner within name same (sym slot ∙ t))

    first_one : taken ≡ false → is_some (first_of (named name b)) ≡ false
    first_one f = sym slot ∙ f

    short : (text : List ℕ) → IsAtomText text → IsTooLong text → ⊥
    short text rules long = let most = rules.short in absurd (omega (arith, most, long))

    pub own_filled : kind_in within e.name ≡ identifier → (old new : Option (List ℕ)) (why : Option FeedWhy) →
        is_some old ≡ taken → IsFilled old new (cut_text (the_child b e inner)) why →
        IsOwn (feed_rules address) here why
    own_filled is old new None old_is (free, put, rules) =
        own_identifier address here is (count_none b e inner within name same (first_one (sym old_is ∙ free)))
        (short (cut_text (the_child b e inner)) rules)
    own_filled is old new (Some why) old_is (inl (full, twice)) =
        subst (λ w. IsOwn (feed_rules address) here (Some w)) (sym twice)
        (second identifier is (inl refl) (sym old_is ∙ full))
    own_filled is old new (Some why) old_is (inr (free, long, too)) =
        subst (λ w. IsOwn (feed_rules address) here (Some w)) (sym too)
        (own_identifier_long address here is
        (count_none b e inner within name same (first_one (sym old_is ∙ free))) long)

    pub own_titled : kind_in within e.name ≡ title → (old new : Option (List ℕ)) (why : Option FeedWhy) →
        is_some old ≡ taken → IsFilled old new (whole_text (the_child b e inner)) why →
        IsOwn (feed_rules address) here why
    own_titled is old new None old_is (free, put, rules) =
        own_title address here is (count_none b e inner within name same (first_one (sym old_is ∙ free)))
        (short (whole_text (the_child b e inner)) rules)
    own_titled is old new (Some why) old_is (inl (full, twice)) =
        subst (λ w. IsOwn (feed_rules address) here (Some w)) (sym twice)
        (second title is (inr (inl refl)) (sym old_is ∙ full))
    own_titled is old new (Some why) old_is (inr (free, long, too)) =
        subst (λ w. IsOwn (feed_rules address) here (Some w)) (sym too)
        (own_title_long address here is
        (count_none b e inner within name same (first_one (sym old_is ∙ free))) long)

    pub own_dated : kind_in within e.name ≡ date → (old new : Option ℤ) (why : Option FeedWhy) →
        is_some old ≡ taken → IsDated old new (cut_text (the_child b e inner)) why →
        IsOwn (feed_rules address) here why
    own_dated is old new None old_is (free, (z, put, states)) =
        own_date address here is (count_none b e inner within name same (first_one (sym old_is ∙ free)))
        (λ none. none z states)
    own_dated is old new (Some why) old_is (inl (full, twice)) =
        subst (λ w. IsOwn (feed_rules address) here (Some w)) (sym twice)
        (second date is (inr (inr refl)) (sym old_is ∙ full))
    own_dated is old new (Some why) old_is (inr (free, bad, badly)) =
        subst (λ w. IsOwn (feed_rules address) here (Some w)) (sym badly)
        (own_date_bad address here is
        (count_none b e inner within name same (first_one (sym old_is ∙ free))) bad)
