-- EntryParts::entry, FeedParts::entry, document: what is made of the parts, or the refusal
use Rattle.std.proofs.Common.{◌≡◌, ◌≤◌, ◌<◌, ℕ, List, [], Bool, true, false, Option, Some, None}
use Rattle.std.proofs.Common.{refl, sym, ap, subst, ◌∙◌, arith, inl, inr, ⊎_elim, codes, All}
use Rattle.std.proofs.Common.{◌==◌, eq-eqb}
use Rattle.std.specs.Prelude.{is_some, Err, ◌&&◌}
use Rattle.std.specs.Option.{option_or}
use Rattle.std.proofs.lemmas.Bool.{and_parts, both_ways, cases_Bool, cond-false, cond-true, eqb-true}
use Rattle.feed_reader.specs.declared.fault.FeedWhy.{FeedWhy}
use Rattle.feed_reader.specs.declared.fault.FeedWhy.TheVariants.{Missing, NotAFeed, TooMany}
use Rattle.feed_reader.specs.declared.text.Required.{Required}
use Rattle.xml_tokens.specs.Tree.{Element, Content}
use Rattle.xml_tokens.specs.Tree.Content.{nothing, element}
use Rattle.xml_tokens.specs.Children.{child}
use Rattle.xml_tokens.specs.Order.{IsFaultless, IsFirst, Placed, all_placed, count_before}
use Rattle.feed_reader.specs.Feed.{item_limit}
use Rattle.feed_reader.specs.FeedFaults.{LacksChild, Within, feed_rules, is_atom, kind_in, within_kind}
use Rattle.feed_reader.specs.FeedFaults.Kind.{entry, feed}
use Rattle.feed_reader.specs.FeedFaults.Within.{at_root, in_entry, in_feed}
use Rattle.feed_reader.specs.FeedReading.{AreNoted, IsEntryMade}
use Rattle.feed_reader.proofs.FeedFaultLemmas.{own_entry, own_entry_lacks, own_entry_many, own_feed, own_feed_lacks}
use Rattle.feed_reader.proofs.FeedFaultLemmas.{own_other_root}
use Rattle.xml_tokens.proofs.OrderLemmas.{IsOwn, first_of_element, first_own, placed}

pub none_is : {A : Type 0} (o : Option A) → is_some o ≡ false → o ≡ None
none_is None is = refl
none_is (Some x) is = absurd (both_ways true is refl)

-- whether a child is missing, as it was noted
pub lacks_noted : (inner : Content) (required : Required) → AreNoted inner required →
    (required.id && required.updated) ≡ false → LacksChild inner
lacks_noted inner required noted not =
    ⊎_elim
    (λ has. inr (none_is (child (codes "updated") inner)
    (sym noted.updated ∙ ⊎_elim (λ t. absurd (both_ways (required.id && required.updated) not
    (ap (λ k. k && required.updated) has ∙ t))) (λ f. f) (cases_Bool required.updated))))
    (λ lacks. inl (none_is (child (codes "id") inner) (sym noted.id ∙ lacks)))
    (cases_Bool required.id)

pub whole_noted : (inner : Content) (required : Required) → AreNoted inner required →
    (required.id && required.updated) ≡ true → LacksChild inner → ⊥
whole_noted inner required noted all lacks =
    let parts = and_parts required.id required.updated all in
    ⊎_elim
    (λ none. both_ways required.id (noted.id ∙ ap is_some none) parts.0)
    (λ none. both_ways required.updated (noted.updated ∙ ap is_some none) parts.1)
    lacks

or_first : {A : Type 0} (x : A) (o : Option A) → option_or (Some x) o ≡ Some x
or_first x o = refl

-- the refusal of an entry in its feed
pub entry_refused : (address : List ℕ) (before : List Element) (e : Element) (inner : Content) (full : Bool)
    (refusal : ℕ × FeedWhy) → kind_in in_feed e.name ≡ entry → IsEntryMade e inner full (Err refusal) →
    (full ≡ true → item_limit ≤ count_before (placed (feed_rules address) in_feed before e inner)) →
    (full ≡ false → count_before (placed (feed_rules address) in_feed before e inner) < item_limit) →
    IsFirst (feed_rules address) (all_placed (feed_rules address) in_feed before (element e inner nothing)) (Some refusal)
entry_refused address before e inner full (at, why) is made many few =
    let rules = feed_rules address in
    let p = placed rules in_feed before e inner in
    let P : ℕ → FeedWhy → Type 0 = λ place cause.
    IsFirst rules (all_placed rules in_feed before (element e inner nothing)) (Some (place, cause)) in
    let own : (cause : FeedWhy) → IsOwn rules p (Some cause) → at ≡ e.place → why ≡ cause → P at why = λ cause mine here same.
    subst (λ k. P k why) (sym here) (subst (P e.place) (sym same) (first_own rules in_feed before e inner cause mine)) in
    ⊎_elim
    (λ lacks. own Missing (own_entry_lacks address p is lacks.0) lacks.1 lacks.2)
    (λ rest. ⊎_elim
    (λ over. own TooMany (own_entry_many address p is over.0 (many over.1)) over.2 over.3)
    (λ inside.
    let deeper : IsFirst rules (all_placed rules (rules.inside in_feed e.name) [] inner) (Some (at, why)) =
    subst (λ k. IsFirst rules (all_placed rules (within_kind k) [] inner) (Some (at, why))) (sym is) (inside.2 address) in
    first_of_element rules in_feed before e inner None (Some (at, why))
    (own_entry address p is inside.0 (few inside.1)) deeper)
    rest)
    made

-- an entry that is taken has no refusal in its feed
pub entry_taken : (address : List ℕ) (before : List Element) (e : Element) (inner : Content) →
    kind_in in_feed e.name ≡ entry → (LacksChild inner → ⊥) →
    count_before (placed (feed_rules address) in_feed before e inner) < item_limit →
    All (IsFaultless (feed_rules address)) (all_placed (feed_rules address) in_entry [] inner) →
    IsFirst (feed_rules address) (all_placed (feed_rules address) in_feed before (element e inner nothing)) None
entry_taken address before e inner is whole few inside =
    let rules = feed_rules address in
    first_of_element rules in_feed before e inner None None
    (own_entry address (placed rules in_feed before e inner) is whole few)
    (subst (λ k. IsFirst rules (all_placed rules (within_kind k) [] inner) None) (sym is) inside)

module _ (address : List ℕ) (root : Element) (inner : Content) where
  abbrev the_root : Placed Within
  the_root = placed (feed_rules address) at_root [] root inner

  abbrev Says : Option (ℕ × FeedWhy) → Type 0
  Says refusal =
      IsFirst (feed_rules address) (all_placed (feed_rules address) at_root [] (element root inner nothing)) refusal

  -- a root that isn't a feed
  pub other_root_refused : is_atom (codes "feed") root.name ≡ false → Says (Some (root.place, NotAFeed))
  other_root_refused other =
      first_own (feed_rules address) at_root [] root inner NotAFeed
      (own_other_root address the_root (cond-false (is_atom (codes "feed") root.name) _ _ other))

  module _ (is : is_atom (codes "feed") root.name ≡ true) where
    root_is : kind_in at_root root.name ≡ feed
    root_is = cond-true (is_atom (codes "feed") root.name) _ _ is

    pub feed_lacks : LacksChild inner → Says (Some (root.place, Missing))
    feed_lacks lacks =
        first_own (feed_rules address) at_root [] root inner Missing (own_feed_lacks address the_root root_is lacks)

    -- a feed that lacks nothing is refused as its content is
    pub feed_says : (LacksChild inner → ⊥) → (refusal : Option (ℕ × FeedWhy)) →
        IsFirst (feed_rules address) (all_placed (feed_rules address) in_feed [] inner) refusal → Says refusal
    feed_says whole refusal inside =
        let rules = feed_rules address in
        first_of_element rules at_root [] root inner None refusal (own_feed address the_root root_is whole)
        (subst (λ k. IsFirst rules (all_placed rules (within_kind k) [] inner) refusal) (sym root_is) inside)

-- whether a list of items is full
pub whole_of : (n found : ℕ) → found ≡ n → (found == item_limit) ≡ true → n ≡ item_limit
whole_of n found same full = sym same ∙ eqb-true found item_limit full

pub room_of : (n found : ℕ) → found ≡ n → found ≤ item_limit → (found == item_limit) ≡ false → n < item_limit
room_of n found same within room =
    let other : found ≡ item_limit → ⊥ = λ e. both_ways (found == item_limit) room (eq-eqb found item_limit e) in
    omega (arith, same, within, other)
