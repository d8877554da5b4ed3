-- What an element of a service document is refused for itself, and the first refusal of its collections.
use Rattle.std.proofs.Common.{◌≡◌, ◌≤◌, ◌<◌, ℕ, List, [], ◌∷◌, ◌++◌, length, map, ◌==◌, Option, Some, None, true, false}
use Rattle.std.proofs.Common.{refl, sym, ap, subst, ◌∙◌, append_assoc, arith, codes}
use Rattle.std.specs.Prelude.{if◌then◌else◌}
use Rattle.std.proofs.lemmas.Bool.{both_ways}
use Rattle.std.proofs.lemmas.List.{append-nil}
use Rattle.std.proofs.lemmas.List.Elements.{All-cons, All-nil}
use Rattle.xml_tokens.specs.declared.fault.TokenWhy.{TokenWhy}
use Rattle.xml_tokens.specs.Tree.{Element, Content}
use Rattle.xml_tokens.specs.Children.{Child}
use Rattle.feed_reader.specs.Feed.{target}
use Rattle.xml_tokens.specs.Order.{IsFaultless, IsFirst, Placed}
use Rattle.xml_tokens.proofs.OrderLemmas.{AreRanked, IsOwn, at_tag, first_joined, first_stays}
use Rattle.service_reader.specs.declared.fault.ServiceWhy.{ServiceWhy}
use Rattle.service_reader.specs.declared.fault.ServiceWhy.TheVariants.{Token, NotAService, BadLink, TooMany}
use Rattle.service_reader.specs.Service.{collection_limit, is_app}
use Rattle.service_reader.specs.ServiceFaults.{IsFault, Within, placed_after, rank, service_rules}
use Rattle.service_reader.specs.ServiceFaults.Within.{at_root, in_workspace}

-- the reason of a rank
abbrev ranked : ℕ → ServiceWhy
ranked n = if n == 1 then NotAService else (if n == 2 then BadLink else TooMany)

ranked_rank : (why : ServiceWhy) → 1 ≤ rank why → ranked (rank why) ≡ why
ranked_rank (Token cause) low = absurd (omega (arith, low))
ranked_rank NotAService low = refl
ranked_rank BadLink low = refl
ranked_rank TooMany low = refl

-- a token is no reason of an element
no_token : (address : List ℕ) (w : Within) (cause : TokenWhy) (p : Placed Within) → IsFault address w (Token cause) p →
    ⊥
no_token address at_root cause p h = h
no_token address in_workspace cause p h = h

has_rank : (address : List ℕ) (p : Placed Within) (why : ServiceWhy) → IsFault address p.within why p → 1 ≤ rank why
has_rank address p (Token cause) h = absurd (no_token address p.within cause p h)
has_rank address p NotAService h = omega arith
has_rank address p BadLink h = omega arith
has_rank address p TooMany h = omega arith

-- each reason of an element has a rank of its own
pub service_ranked : (address : List ℕ) → AreRanked (service_rules address)
service_ranked address p why cause h g same =
    sym (ranked_rank why (has_rank address p why h)) ∙ ap ranked same ∙ ranked_rank cause (has_rank address p cause g)

abbrev element_in : Child → Element
element_in c = c.element

-- a collection after others
abbrev pub one_placed : List Child → Child → Placed Within
one_placed seen c = record { within = in_workspace; before = map element_in seen; child = c }

module _ (address : List ℕ) (root : Element) (content : Content) where
  abbrev pub root_placed : Placed Within
  root_placed = record { within = at_root; before = []; child = record { element = root; content = content } }

  before_root : (other : ServiceWhy) → rank other < 1 → IsFault address at_root other root_placed → ⊥
  before_root (Token cause) low h = h
  before_root NotAService low h = omega (arith, low)
  before_root BadLink low h = h
  before_root TooMany low h = h

  -- a root that isn't a service
  pub root_other : is_app (codes "service") root.name ≡ false →
      IsOwn (service_rules address) root_placed (Some NotAService)
  root_other other = (other, before_root)

  -- one that is
  pub root_service : is_app (codes "service") root.name ≡ true → IsOwn (service_rules address) root_placed None
  root_service is (Token cause) h = h
  root_service is NotAService h = both_ways (is_app (codes "service") root.name) h is
  root_service is BadLink h = h
  root_service is TooMany h = h

module _ (address : List ℕ) (seen : List Child) (c : Child) where
  before_link : (other : ServiceWhy) → rank other < 2 → IsFault address in_workspace other (one_placed seen c) → ⊥
  before_link (Token cause) low h = h
  before_link NotAService low h = h
  before_link BadLink low h = omega (arith, low)
  before_link TooMany low h = omega (arith, low)

  -- a collection whose address isn't read
  pub collection_bad : target address c ≡ None → IsOwn (service_rules address) (one_placed seen c) (Some BadLink)
  collection_bad none = (none, before_link)

  module _ (href : List ℕ) (is : target address c ≡ Some href) where
    good : target address c ≡ None → ⊥
    good none = let bad : Some href ≡ None = sym is ∙ none in absurd cc

    before_many : (other : ServiceWhy) → rank other < 3 → IsFault address in_workspace other (one_placed seen c) → ⊥
    before_many (Token cause) low h = h
    before_many NotAService low h = h
    before_many BadLink low h = good h
    before_many TooMany low h = omega (arith, low)

    -- one too many
    pub collection_over : collection_limit ≤ length (map element_in seen) →
        IsOwn (service_rules address) (one_placed seen c) (Some TooMany)
    collection_over many = (many, before_many)

    -- one that isn't refused
    pub collection_good : length (map element_in seen) < collection_limit →
        IsOwn (service_rules address) (one_placed seen c) None
    collection_good few (Token cause) h = h
    collection_good few NotAService h = h
    collection_good few BadLink h = good h
    collection_good few TooMany h = omega (arith, few, h)

-- the first refusal of one element
pub own_first : (address : List ℕ) (p : Placed Within) (own : Option ServiceWhy) → IsOwn (service_rules address) p own →
    IsFirst (service_rules address) (p ∷ []) (at_tag (service_rules address) p.child.element own)
own_first address p None none =
    All-cons (IsFaultless (service_rules address)) p [] none (All-nil (IsFaultless (service_rules address)))
own_first address p (Some why) fault = record {
  before = [];
  first = p;
  later = [];
  split = refl;
  faultless = All-nil (IsFaultless (service_rules address));
  fault = fault;
  place = refl;
}

-- collections, and others after them
pub placed_joined : (before : List Element) (xs ys : List Child) →
    placed_after before (xs ++ ys) ≡ placed_after before xs ++ placed_after (before ++ map element_in xs) ys
placed_joined before [] ys = ap (λ n. placed_after n ys) (sym (append-nil before))
placed_joined before (x ∷ xs) ys =
    let next = before ++ x.element ∷ [] in
    ap (λ ps. record { within = in_workspace; before = before; child = x } ∷ ps)
    (placed_joined next xs ys
    ∙ ap (λ n. placed_after next xs ++ placed_after n ys) (append_assoc before (x.element ∷ []) (map element_in xs)))

-- the first refusal of collections stays, whatever comes after them
pub first_past : (address : List ℕ) (xs ys : List Child) (refusal : ℕ × ServiceWhy) →
    IsFirst (service_rules address) (placed_after [] xs) (Some refusal) →
    IsFirst (service_rules address) (placed_after [] (xs ++ ys)) (Some refusal)
first_past address xs ys refusal first =
    subst (λ ps. IsFirst (service_rules address) ps (Some refusal)) (sym (placed_joined [] xs ys))
    (first_stays (service_rules address) (placed_after [] xs) (placed_after (map element_in xs) ys) refusal first)

-- the first refusal of collections without one, and of one after them
pub first_more : (address : List ℕ) (seen : List Child) (c : Child) (own : Option ServiceWhy) →
    IsFirst (service_rules address) (placed_after [] seen) None →
    IsOwn (service_rules address) (one_placed seen c) own →
    IsFirst (service_rules address) (placed_after [] (seen ++ c ∷ [])) (at_tag (service_rules address) c.element own)
first_more address seen c own none is =
    subst (λ ps. IsFirst (service_rules address) ps (at_tag (service_rules address) c.element own))
    (sym (placed_joined [] seen (c ∷ [])))
    (first_joined (service_rules address) (placed_after [] seen) (one_placed seen c ∷ []) None
    (at_tag (service_rules address) c.element own) none (own_first address (one_placed seen c) own is))

-- the first refusal of a service is that of its collections
pub first_inside : (address : List ℕ) (root : Element) (content : Content) (cs : List Child)
    (refusal : Option (ℕ × ServiceWhy)) → is_app (codes "service") root.name ≡ true →
    IsFirst (service_rules address) (placed_after [] cs) refusal →
    IsFirst (service_rules address) (root_placed address root content ∷ placed_after [] cs) refusal
first_inside address root content cs refusal is first =
    first_joined (service_rules address) (root_placed address root content ∷ []) (placed_after [] cs) None refusal
    (own_first address (root_placed address root content) None (root_service address root content is)) first

-- that of another root is its own
pub first_root : (address : List ℕ) (root : Element) (content : Content) (cs : List Child) →
    is_app (codes "service") root.name ≡ false →
    IsFirst (service_rules address) (root_placed address root content ∷ placed_after [] cs)
    (Some (root.place, NotAService))
first_root address root content cs other =
    first_stays (service_rules address) (root_placed address root content ∷ []) (placed_after [] cs)
    (root.place, NotAService)
    (own_first address (root_placed address root content) (Some NotAService) (root_other address root content other))
