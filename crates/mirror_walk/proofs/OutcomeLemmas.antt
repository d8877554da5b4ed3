-- The index of the documents taken, the chain of the best subscription document, and the outcome.
use Rattle.std.proofs.Common.{◌≡◌, ℕ, ◌+◌, Bool, List, ◌∷◌, Option, Some, None, add-one, refl, ap, sym}
use Rattle.std.proofs.Common.{◌∙◌, subst, arith}
use Rattle.std.specs.Prelude.{IsSome, option_map, slice_get}
use Rattle.std.specs.BTreeMap.{BTreeMap}
use Rattle.std.specs.List.{cons_option}
use Rattle.std.proofs.lemmas.Option.{MatchOption-at_some, same_Some}
use Rattle.atom_writer.specs.declared.doc.FeedName.{FeedName}
use Rattle.chain_links.specs.declared.address.Address.{Address}
use Rattle.member_rules.specs.Shows.{live_count_of}
use Rattle.mirror_walk.specs.declared.answer.Outcome.TheVariants.{Complete, Missing}
use Rattle.mirror_walk.specs.declared.base_map.BaseMap.{BaseMap}
use Rattle.mirror_walk.specs.declared.documents.Best.{Best}
use Rattle.mirror_walk.specs.Holding.{HeldValue, KeptValue, archive_at, archives_from, best_of, chain_from}
use Rattle.mirror_walk.specs.Holding.{chain_of, first_missing, missing_after}
use Rattle.mirror_walk.specs.Index.{HasBest, HasPlace, IsBestOf, IsIndexed, IsPlaceOf}
use Rattle.mirror_walk.specs.Listing.{outcome_by, outcome_of}

-- the index, at the documents of the view
pub indexed : (inside : List KeptValue) (v : HeldValue) (archives : BTreeMap ℕ ℕ) (best : Option Best)
    (base : BaseMap) (listed : Bool) (feed : Option (List ℕ)) (name : Option FeedName) → inside ≡ v.kept
    → IsIndexed inside archives best base listed feed name → IsIndexed v.kept archives best base listed feed name
indexed inside v archives best base listed feed name same there =
    subst (λ kept. IsIndexed kept archives best base listed feed name) same there

-- the chain

pub archives_from-held : (kept : List KeptValue) (number : ℕ) (found : KeptValue)
    → archive_at kept (number + 1) ≡ Some found
    → archives_from kept (number + 1) ≡ found.document ∷ archives_from kept number
unfolding archives_from
archives_from-held kept number found e =
    ap (archives_from kept) (add-one number)
    ∙ ap (λ o. cons_option (option_map (λ (k : KeptValue). k.document) o) (archives_from kept number))
    (ap (archive_at kept) (sym (add-one number)) ∙ e)

pub chain_of-best : (kept : List KeptValue) (best : KeptValue) → best_of kept ≡ Some best
    → chain_of kept ≡ best.document ∷ archives_from kept best.document.prev
unfolding chain_of
chain_of-best kept best e = ap (chain_from kept) e

-- the index of the best subscription document

pub best_of-none : (kept : List KeptValue) (place : Option Best) (found : Option KeptValue)
    → HasBest kept place found
    → place ≡ None → found ≡ None
best_of-none kept None None there is = refl
best_of-none kept None (Some document) there is = absurd there
best_of-none kept (Some best) found there is = absurd (grind arith)

pub best_of-some : (kept : List KeptValue) (place : Option Best) (best : Best) (found : Option KeptValue)
    → HasBest kept place found → place ≡ Some best
    → (document : KeptValue) × (found ≡ Some document) × IsBestOf kept best document
best_of-some kept None best found there is = absurd (grind arith)
best_of-some kept (Some other) best None there is = absurd there
best_of-some kept (Some other) best (Some document) there is =
    (document, refl, subst (λ b. IsBestOf kept b document) (same_Some other best is) there)

-- the indexes of the archives

pub place_of : (kept : List KeptValue) (at : ℕ) (found : Option KeptValue) → IsPlaceOf kept at found
    → (document : KeptValue) × (found ≡ Some document) × (slice_get kept at ≡ Some document)
place_of kept at None place = absurd (grind (arith, place.some))
place_of kept at (Some document) place = (document, refl, place.there)

pub archive-held : (kept : List KeptValue) (place : Option ℕ) (found : Option KeptValue) (at : ℕ)
    → HasPlace kept place found
    → place ≡ Some at → (document : KeptValue) × (found ≡ Some document) × (slice_get kept at ≡ Some document)
archive-held kept place found at there is =
    place_of kept at found (MatchOption-at_some (found ≡ None) (λ i. IsPlaceOf kept i found) at is there)

-- the outcome

pub best-of_whole : (kept : List KeptValue) → first_missing kept ≡ None
    → (best : KeptValue) × (best_of kept ≡ Some best)
unfolding first_missing
best-of_whole kept whole = split (best_of kept) refl whole
  where
    split : (best : Option KeptValue) → best_of kept ≡ best → missing_after kept best ≡ None
        → (found : KeptValue) × (best_of kept ≡ Some found)
    split None is none = absurd (grind arith)
    split (Some best) is none = (best, is)

pub best-place : (kept : List KeptValue) (place : Option Best) → HasBest kept place (best_of kept)
    → first_missing kept ≡ None
    → IsSome place
best-place kept None there whole =
    absurd (subst (HasBest kept None) (best-of_whole kept whole).1 there)
best-place kept (Some best) there whole = refl

pub outcome-missing : (kept : List KeptValue) (address : Address) → first_missing kept ≡ Some address
    → outcome_of kept ≡ Missing address
unfolding outcome_of
outcome-missing kept address e = ap (outcome_by kept (best_of kept)) e

pub outcome-complete : (kept : List KeptValue) (best : KeptValue) → best_of kept ≡ Some best
    → first_missing kept ≡ None
    → outcome_of kept ≡ Complete best.document.span.last (live_count_of (chain_of kept))
unfolding outcome_of
outcome-complete kept best e none =
    ap (outcome_by kept (best_of kept)) none ∙ ap (λ (found : Option KeptValue). outcome_by kept found None) e
