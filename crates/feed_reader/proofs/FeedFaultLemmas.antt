-- What an element of a feed document is refused for itself, by its kind.
use Rattle.std.proofs.Common.{◌≡◌, ◌⊎◌, ◌≤◌, ◌<◌, ◌+◌, ℕ, List, ◌==◌, Some, None}
use Rattle.std.proofs.Common.{refl, sym, ap, subst, ◌∙◌, arith, inl, inr, ⊎_elim, All}
use Rattle.std.specs.Prelude.{if◌then◌else◌}
use Rattle.feed_reader.specs.declared.fault.FeedWhy.{FeedWhy}
use Rattle.feed_reader.specs.declared.fault.FeedWhy.TheVariants.{Token, NotAFeed, Missing, Twice, BadDate, TooLong}
use Rattle.feed_reader.specs.declared.fault.FeedWhy.TheVariants.{BadLink, TooMany}
use Rattle.xml_tokens.specs.declared.fault.TokenWhy.{TokenWhy}
use Rattle.xml_tokens.specs.Tree.{Element, Content}
use Rattle.xml_tokens.specs.Order.{Placed, IsFaultless, all_placed, count_before, name_of}
use Rattle.feed_reader.specs.Feed.{cut_text, item_limit, target, whole_text}
use Rattle.feed_reader.specs.FeedFaults.{HasFault, IsFault, IsFirstPrev, IsTooLong, Kind, LacksAttribute, LacksChild}
use Rattle.feed_reader.specs.FeedFaults.{StatesNone, Within, feed_rules, kind_in, rank}
use Rattle.feed_reader.specs.FeedFaults.Kind.{feed, other_root, entry, tombstone, identifier, title, date, link, skipped}
use Rattle.feed_reader.specs.FeedFaults.Within.{in_skipped}
use Rattle.std.proofs.lemmas.Bool.Decides.{leb_tells}
use Rattle.xml_tokens.proofs.OrderLemmas.{AreRanked, IsOwn, NoneBelow, silent_place}

-- the reason of a rank
abbrev ranked : ℕ → FeedWhy
ranked n =
    if n == 1 then NotAFeed else (if n == 2 then Missing else (if n == 3 then Twice else (if n == 4 then BadDate
    else (if n == 5 then TooLong else (if n == 6 then BadLink else TooMany)))))

ranked_rank : (why : FeedWhy) → 1 ≤ rank why → ranked (rank why) ≡ why
ranked_rank (Token cause) low = absurd (omega (arith, low))
ranked_rank NotAFeed low = refl
ranked_rank Missing low = refl
ranked_rank Twice low = refl
ranked_rank BadDate low = refl
ranked_rank TooLong low = refl
ranked_rank BadLink low = refl
ranked_rank TooMany low = refl

one_rank : (a b : FeedWhy) → 1 ≤ rank a → rank a ≡ rank b → a ≡ b
one_rank a b low same =
    sym (ranked_rank a low) ∙ ap ranked same ∙ ranked_rank b (omega (arith, low, same))

rank_below : (why : FeedWhy) → rank why < 8
rank_below (Token cause) = omega arith
rank_below NotAFeed = omega arith
rank_below Missing = omega arith
rank_below Twice = omega arith
rank_below BadDate = omega arith
rank_below TooLong = omega arith
rank_below BadLink = omega arith
rank_below TooMany = omega arith

-- a token is no reason of an element
no_token : (address : List ℕ) (k : Kind) (cause : TokenWhy) (p : Placed Within) → IsFault address k (Token cause) p → ⊥
no_token address feed cause p h = h
no_token address other_root cause p h = h
no_token address entry cause p h = h
no_token address tombstone cause p h = h
no_token address identifier cause p h = h
no_token address title cause p h = h
no_token address date cause p h = h
no_token address link cause p h = h
no_token address skipped cause p h = h

-- each reason of an element has a rank of its own
has_rank : (address : List ℕ) (p : Placed Within) (why : FeedWhy) → HasFault address why p → 1 ≤ rank why
has_rank address p (Token cause) h = absurd (no_token address (kind_in p.within (name_of p)) cause p h)
has_rank address p NotAFeed h = omega arith
has_rank address p Missing h = omega arith
has_rank address p Twice h = omega arith
has_rank address p BadDate h = omega arith
has_rank address p TooLong h = omega arith
has_rank address p BadLink h = omega arith
has_rank address p TooMany h = omega arith

pub feed_ranked : (address : List ℕ) → AreRanked (feed_rules address)
feed_ranked address p why cause h g same = one_rank why cause (has_rank address p why h) same

skipped_none : (address : List ℕ) (p : Placed Within) (why : FeedWhy) → IsFault address skipped why p → ⊥
skipped_none address p why h = h

-- no element inside one that is skipped is refused
pub skipped_faultless : (address : List ℕ) (before : List Element) (c : Content) →
    All (IsFaultless (feed_rules address)) (all_placed (feed_rules address) in_skipped before c)
skipped_faultless address before c =
    silent_place (feed_rules address) in_skipped (λ name. refl)
    (λ p is why h. skipped_none address p why (subst (λ w. IsFault address (kind_in w (name_of p)) why p) is h))
    before c

below_or_same : (a b : ℕ) → a < b + 1 → (a < b) ⊎ (a ≡ b)
below_or_same a b low =
    ⊎_elim (λ t. let at = t.1 in inr (omega (arith, low, at))) (λ f. inl f.1) (leb_tells b a)

module _ (address : List ℕ) (p : Placed Within) where
  -- no reason of a rank below this is one of the element
  abbrev None≤ : ℕ → Type 0
  None≤ n = NoneBelow (feed_rules address) p n

  start : None≤ 1
  start other low h = let one = has_rank address p other h in absurd (omega (arith, low, one))

  -- nor is the reason of this rank
  next : (why : FeedWhy) → None≤ (rank why) → (HasFault address why p → ⊥) → None≤ (rank why + 1)
  next why none not other low h =
      ⊎_elim
      (λ less. none other less h)
      (λ same. not (subst (λ k. HasFault address k p) (one_rank other why (has_rank address p other h) same) h))
      (below_or_same (rank other) (rank why) low)

  faultless : None≤ 8 → IsFaultless (feed_rules address) p
  faultless none why h = none why (rank_below why) h

  module _ (k : Kind) (is : kind_in p.within (name_of p) ≡ k) where
    gives : (why : FeedWhy) → IsFault address k why p → HasFault address why p
    gives why h = subst (λ j. IsFault address j why p) (sym is) h

    takes : (why : FeedWhy) → (IsFault address k why p → ⊥) → HasFault address why p → ⊥
    takes why not h = not (subst (λ j. IsFault address j why p) is h)

    -- the first of the reasons that an element of this kind has
    first_six : (IsFault address k NotAFeed p → ⊥) → (IsFault address k Missing p → ⊥) → None≤ 3
    first_six a b = next Missing (next NotAFeed start (takes NotAFeed a)) (takes Missing b)

  pub own_skipped : kind_in p.within (name_of p) ≡ skipped → IsOwn (feed_rules address) p None
  own_skipped is why h = skipped_none address p why (subst (λ j. IsFault address j why p) is h)

  pub own_other_root : kind_in p.within (name_of p) ≡ other_root → IsOwn (feed_rules address) p (Some NotAFeed)
  own_other_root is = (gives other_root is NotAFeed tt, start)

  pub own_feed : kind_in p.within (name_of p) ≡ feed → (LacksChild p.child.content → ⊥) →
      IsOwn (feed_rules address) p None
  own_feed is whole =
      let b = first_six feed is (λ h. h) whole in
      let c = next BadDate (next Twice b (takes feed is Twice (λ h. h))) (takes feed is BadDate (λ h. h)) in
      let d = next BadLink (next TooLong c (takes feed is TooLong (λ h. h))) (takes feed is BadLink (λ h. h)) in
      faultless (next TooMany d (takes feed is TooMany (λ h. h)))

  pub own_feed_lacks : kind_in p.within (name_of p) ≡ feed → LacksChild p.child.content →
      IsOwn (feed_rules address) p (Some Missing)
  own_feed_lacks is lacks =
      (gives feed is Missing lacks, next NotAFeed start (takes feed is NotAFeed (λ h. h)))

  module _ (is : kind_in p.within (name_of p) ≡ entry) where
    pub own_entry_lacks : LacksChild p.child.content → IsOwn (feed_rules address) p (Some Missing)
    own_entry_lacks lacks =
        (gives entry is Missing lacks, next NotAFeed start (takes entry is NotAFeed (λ h. h)))

    entry_before : (LacksChild p.child.content → ⊥) → None≤ 7
    entry_before whole =
        let b = first_six entry is (λ h. h) whole in
        let c = next BadDate (next Twice b (takes entry is Twice (λ h. h))) (takes entry is BadDate (λ h. h)) in
        next BadLink (next TooLong c (takes entry is TooLong (λ h. h))) (takes entry is BadLink (λ h. h))

    pub own_entry_many : (LacksChild p.child.content → ⊥) → item_limit ≤ count_before p →
        IsOwn (feed_rules address) p (Some TooMany)
    own_entry_many whole many = (gives entry is TooMany many, entry_before whole)

    pub own_entry : (LacksChild p.child.content → ⊥) → count_before p < item_limit → IsOwn (feed_rules address) p None
    own_entry whole few =
        faultless (next TooMany (entry_before whole) (takes entry is TooMany (λ h. omega (arith, h, few))))

  module _ (is : kind_in p.within (name_of p) ≡ tombstone) where
    pub own_gone_lacks : LacksAttribute p.child → IsOwn (feed_rules address) p (Some Missing)
    own_gone_lacks lacks =
        (gives tombstone is Missing lacks, next NotAFeed start (takes tombstone is NotAFeed (λ h. h)))

    gone_before : (LacksAttribute p.child → ⊥) → None≤ 4
    gone_before whole =
        next Twice (first_six tombstone is (λ h. h) whole) (takes tombstone is Twice (λ h. h))

    pub own_gone_date : (LacksAttribute p.child → ⊥) → IsFault address tombstone BadDate p →
        IsOwn (feed_rules address) p (Some BadDate)
    own_gone_date whole bad = (gives tombstone is BadDate bad, gone_before whole)

    gone_later : (LacksAttribute p.child → ⊥) → (IsFault address tombstone BadDate p → ⊥) → None≤ 5
    gone_later whole good = next BadDate (gone_before whole) (takes tombstone is BadDate good)

    pub own_gone_long : (LacksAttribute p.child → ⊥) → (IsFault address tombstone BadDate p → ⊥) →
        IsFault address tombstone TooLong p → IsOwn (feed_rules address) p (Some TooLong)
    own_gone_long whole good long = (gives tombstone is TooLong long, gone_later whole good)

    gone_last : (LacksAttribute p.child → ⊥) → (IsFault address tombstone BadDate p → ⊥) →
        (IsFault address tombstone TooLong p → ⊥) → None≤ 7
    gone_last whole good short =
        next BadLink (next TooLong (gone_later whole good) (takes tombstone is TooLong short))
        (takes tombstone is BadLink (λ h. h))

    pub own_gone_many : (LacksAttribute p.child → ⊥) → (IsFault address tombstone BadDate p → ⊥) →
        (IsFault address tombstone TooLong p → ⊥) → item_limit ≤ count_before p →
        IsOwn (feed_rules address) p (Some TooMany)
    own_gone_many whole good short many = (gives tombstone is TooMany many, gone_last whole good short)

    pub own_gone : (LacksAttribute p.child → ⊥) → (IsFault address tombstone BadDate p → ⊥) →
        (IsFault address tombstone TooLong p → ⊥) → count_before p < item_limit → IsOwn (feed_rules address) p None
    own_gone whole good short few =
        faultless (next TooMany (gone_last whole good short) (takes tombstone is TooMany (λ h. omega (arith, h, few))))

  -- a second one, if none of the first reasons is one of its kind
  twice : (k : Kind) (is : kind_in p.within (name_of p) ≡ k) → (IsFault address k NotAFeed p → ⊥) →
      (IsFault address k Missing p → ⊥) → IsFault address k Twice p → IsOwn (feed_rules address) p (Some Twice)
  twice k is a b second = (gives k is Twice second, first_six k is a b)

  pub own_twice : (k : Kind) (is : kind_in p.within (name_of p) ≡ k) →
      (k ≡ identifier) ⊎ (k ≡ title) ⊎ (k ≡ date) → 1 ≤ count_before p → IsOwn (feed_rules address) p (Some Twice)
  own_twice k is kind second =
      ⊎_elim
      (λ e. twice identifier (is ∙ e) (λ h. h) (λ h. h) second)
      (λ more. ⊎_elim
      (λ e. twice title (is ∙ e) (λ h. h) (λ h. h) second)
      (λ e. twice date (is ∙ e) (λ h. h) (λ h. h) second) more)
      kind

  module _ (is : kind_in p.within (name_of p) ≡ identifier) (once : count_before p ≡ 0) where
    identifier_before : None≤ 5
    identifier_before =
        let b = first_six identifier is (λ h. h) (λ h. h) in
        next BadDate (next Twice b (takes identifier is Twice (λ h. omega (arith, h, once))))
        (takes identifier is BadDate (λ h. h))

    pub own_identifier_long : IsTooLong (cut_text p.child) → IsOwn (feed_rules address) p (Some TooLong)
    own_identifier_long long = (gives identifier is TooLong long, identifier_before)

    pub own_identifier : (IsTooLong (cut_text p.child) → ⊥) → IsOwn (feed_rules address) p None
    own_identifier short =
        let d = next BadLink (next TooLong identifier_before (takes identifier is TooLong short))
        (takes identifier is BadLink (λ h. h)) in
        faultless (next TooMany d (takes identifier is TooMany (λ h. h)))

  module _ (is : kind_in p.within (name_of p) ≡ title) (once : count_before p ≡ 0) where
    title_before : None≤ 5
    title_before =
        let b = first_six title is (λ h. h) (λ h. h) in
        next BadDate (next Twice b (takes title is Twice (λ h. omega (arith, h, once))))
        (takes title is BadDate (λ h. h))

    pub own_title_long : IsTooLong (whole_text p.child) → IsOwn (feed_rules address) p (Some TooLong)
    own_title_long long = (gives title is TooLong long, title_before)

    pub own_title : (IsTooLong (whole_text p.child) → ⊥) → IsOwn (feed_rules address) p None
    own_title short =
        let d = next BadLink (next TooLong title_before (takes title is TooLong short))
        (takes title is BadLink (λ h. h)) in
        faultless (next TooMany d (takes title is TooMany (λ h. h)))

  module _ (is : kind_in p.within (name_of p) ≡ date) (once : count_before p ≡ 0) where
    date_before : None≤ 4
    date_before =
        next Twice (first_six date is (λ h. h) (λ h. h)) (takes date is Twice (λ h. omega (arith, h, once)))

    pub own_date_bad : StatesNone (cut_text p.child) → IsOwn (feed_rules address) p (Some BadDate)
    own_date_bad bad = (gives date is BadDate bad, date_before)

    pub own_date : (StatesNone (cut_text p.child) → ⊥) → IsOwn (feed_rules address) p None
    own_date good =
        let c = next TooLong (next BadDate date_before (takes date is BadDate good)) (takes date is TooLong (λ h. h)) in
        faultless (next TooMany (next BadLink c (takes date is BadLink (λ h. h))) (takes date is TooMany (λ h. h)))

  module _ (is : kind_in p.within (name_of p) ≡ link) where
    link_before : None≤ 6
    link_before =
        let b = first_six link is (λ h. h) (λ h. h) in
        let c = next BadDate (next Twice b (takes link is Twice (λ h. h))) (takes link is BadDate (λ h. h)) in
        next TooLong c (takes link is TooLong (λ h. h))

    pub own_link_bad : IsFirstPrev p → target address p.child ≡ None → IsOwn (feed_rules address) p (Some BadLink)
    own_link_bad first none = (gives link is BadLink (first, none), link_before)

    pub own_link : (IsFault address link BadLink p → ⊥) → IsOwn (feed_rules address) p None
    own_link good =
        faultless (next TooMany (next BadLink link_before (takes link is BadLink good)) (takes link is TooMany (λ h. h)))
