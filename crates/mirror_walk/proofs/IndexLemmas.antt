-- The index of a mirror after one more document is taken.
use Rattle.std.proofs.Common.{◌≡◌, ◌≢◌, inl, inr, ℕ, ◌-◌, ◌==◌, ◌≤◌, nat_lt, true, false}
use Rattle.std.proofs.Common.{if◌then◌else◌, List, [], ◌∷◌, ◌++◌, length, Option, Some, None, Ok, nat_cmp}
use Rattle.std.proofs.Common.{is_eq, refl}
use Rattle.std.proofs.Common.{sym, ap, subst, ◌∙◌, arith, eq-eqb, ne_eqb}
use Rattle.std.specs.BTreeMap.{BTreeMap, Updates, get, is_at}
use Rattle.std.specs.Map.{lookup}
use Rattle.std.specs.Prelude.{IsSome, is_some, option_and_then, option_map, slice_get, unwrap_or}
use Rattle.std.proofs.lemmas.Bool.{cases_eq, false≢true}
use Rattle.std.proofs.lemmas.Bool.Decides.{nat_tests}
use Rattle.std.proofs.lemmas.Option.{slice_get_within}
use Rattle.atom_writer.specs.Doc.{DocValue}
use Rattle.atom_writer.specs.declared.doc.FeedName.{FeedName}
use Rattle.atom_writer.specs.declared.doc.Kind.TheVariants.{Subscription, Archive as Sealed}
use Rattle.member_rules.proofs.FoldLemmas.{get-push, get-push-other}
use Rattle.mirror_walk.specs.declared.answer.Accepted.TheVariants.{Stale}
use Rattle.mirror_walk.specs.declared.base_map.BaseMap.{BaseMap}
use Rattle.mirror_walk.specs.declared.documents.Best.{Best}
use Rattle.mirror_walk.specs.Accept.{Answer, counterpart, counterpart_of_kind, if_ends_with, stale}
use Rattle.mirror_walk.specs.Accept.{stale_of_kind}
use Rattle.mirror_walk.specs.Checks.{IsNew}
use Rattle.mirror_walk.specs.Holding.{KeptValue, archive_at, best_of, gap_from, is_archive, is_subscription}
use Rattle.mirror_walk.specs.Holding.{name_of_best, newer_of}
use Rattle.mirror_walk.specs.Index.{HasBest, HasBestAfter, HasPlace, IsBaseMap, IsIndexed, feed_of}
use Rattle.mirror_walk.proofs.GapLemmas.{gap-filled, gap-stays, gap-unfilled}
use Rattle.mirror_walk.proofs.PushLemmas.{archive_at-push-other, archive_at-push-own, best_of-push-other}
use Rattle.mirror_walk.proofs.PushLemmas.{best_of-push-own}

pub no-place : (kept : List KeptValue) (place : Option ℕ) (found : Option KeptValue)
    → HasPlace kept place found
    → is_some place ≡ false → found ≡ None
no-place kept None found is none = is
no-place kept (Some at) found is none = absurd (cc)

pub get-stays : (kept : List KeptValue) (given : KeptValue) (at : ℕ) (found : Option KeptValue)
    → slice_get kept at ≡ found
    → IsSome found → slice_get (kept ++ given ∷ []) at ≡ found
get-stays kept given at None there some = absurd (cc)
get-stays kept given at (Some k) there some =
    get-push-other kept given at (slice_get_within kept at k there) ∙ there

place-stays : (kept : List KeptValue) (given : KeptValue) (place : Option ℕ) (found : Option KeptValue)
    → HasPlace kept place found
    → HasPlace (kept ++ given ∷ []) place found
place-stays kept given None found is = is
place-stays kept given (Some at) found is = record {
  there = get-stays kept given at found is.there is.some;
  some = is.some;
}

abbrev pub HasPlaces : List KeptValue → BTreeMap ℕ ℕ → Type 0
HasPlaces kept archives = (number : ℕ) → HasPlace kept (get nat_cmp archives number) (archive_at kept number)

-- nothing is held
pub indexed-none : (kept : List KeptValue) (archives : BTreeMap ℕ ℕ) (base : BaseMap) → kept ≡ []
    → archives.entries ≡ [] → IsBaseMap kept base
    → IsIndexed kept archives None base false None None
unfolding archive_at best_of
indexed-none kept archives base none empty is =
    subst (λ (list : List KeptValue). IsBaseMap list base → IsIndexed list archives None base false None None)
    (sym none)
    (λ is. record {
      archives_there = λ number.
          subst (λ (place : Option ℕ). HasPlace [] place None)
          (sym (ap (lookup (is_at (nat_cmp number))) empty)) refl;
      best_there = tt;
      base_there = is;
      listing = λ on. absurd (false≢true on);
      feed_there = refl;
      name_there = refl;
    }) is

nat_cmp-apart : (a b : ℕ) → a ≢ b → is_eq (nat_cmp a b) ≡ false
nat_cmp-apart a b apart = grind (arith, nat_tests)

-- a new subscription document leaves the archives' places
pub places-other : (kept : List KeptValue) (given : KeptValue) (archives : BTreeMap ℕ ℕ)
    → HasPlaces kept archives
    → ((n : ℕ) → is_archive n given.document.kind ≡ false) → HasPlaces (kept ++ given ∷ []) archives
places-other kept given archives are other number =
    subst (HasPlace (kept ++ given ∷ []) (get nat_cmp archives number))
    (sym (archive_at-push-other kept given number (other number)))
    (place-stays kept given (get nat_cmp archives number) (archive_at kept number) (are number))

-- a new archive has its place at the end
pub places-own : (kept : List KeptValue) (given : KeptValue) (archives after : BTreeMap ℕ ℕ) (number at : ℕ)
    → HasPlaces kept archives → archive_at kept number ≡ None → given.document.kind ≡ Sealed number
    → at ≡ length kept
    → Updates nat_cmp archives after number (Some at) → HasPlaces (kept ++ given ∷ []) after
places-own kept given archives after number at are new kind end updates n = elim (cases_eq number n) [
  | inl same ↦
      subst (λ (m : ℕ). HasPlace (kept ++ given ∷ []) (get nat_cmp after m) (archive_at (kept ++ given ∷ [])
      m)) same
      (subst (λ (o : Option ℕ). HasPlace (kept ++ given ∷ []) o (archive_at (kept ++ given ∷ []) number))
      (sym updates.1) record {
        there = ap (slice_get (kept ++ given ∷ [])) end ∙ get-push kept given ∙ sym found;
        some = subst (λ (o : Option KeptValue). IsSome o) (sym found) refl;
      })
  | inr apart ↦
      let other : is_archive n given.document.kind ≡ false = ap (is_archive n) kind ∙ ne_eqb number n apart in
      let kept_there = updates.2 n (nat_cmp-apart number n apart) in
      subst (λ (o : Option ℕ). HasPlace (kept ++ given ∷ []) o (archive_at (kept ++ given ∷ []) n))
      (sym kept_there)
      (subst (HasPlace (kept ++ given ∷ []) (get nat_cmp archives n)) (sym (archive_at-push-other kept given n
      other))
      (place-stays kept given (get nat_cmp archives n) (archive_at kept n) (are n)))
]
  where
    found : archive_at (kept ++ given ∷ []) number ≡ Some given
    found = archive_at-push-own kept given number new (ap (is_archive number) kind ∙ eq-eqb number number
        refl)

abbrev nothing : Option Answer
nothing = None

-- a subscription document that is new has the greatest `last`
newer_of-new : (best : Option KeptValue) (given : KeptValue)
    → option_and_then (if_ends_with given.document.span.last) best ≡ None
    → option_and_then (λ (k : KeptValue). if nat_lt given.document.span.last k.document.span.last
    then Some (Ok Stale)
    else None) best ≡ nothing
    → newer_of best given ≡ Some given
newer_of-new None given apart fresh = refl
newer_of-new (Some best) given apart fresh = newest best.document.span.last given.document.span.last apart
    fresh
  where
    newest : (old new : ℕ) → (if old == new then Some best else None) ≡ None
        → (if nat_lt new old then Some (Ok Stale) else None) ≡ nothing
        → (if nat_lt old new then Some given else Some best) ≡ Some given
    newest old new apart fresh = grind (arith, nat_tests)

best_of-new : (kept : List KeptValue) (given : KeptValue) → IsNew kept given.document
    → given.document.kind ≡ Subscription
    → best_of (kept ++ given ∷ []) ≡ Some given
unfolding counterpart stale
best_of-new kept given new kind =
    best_of-push-own kept given (ap is_subscription kind)
    ∙ newer_of-new (best_of kept) given
    (sym (ap (counterpart_of_kind kept given.document.span.last) kind) ∙ new.counterpart)
    (sym (ap (stale_of_kind kept given.document.span.last) kind) ∙ new.stale)

pub best-own : (kept : List KeptValue) (document : DocValue) (at missing : ℕ) → IsNew kept document
    → document.kind ≡ Subscription → at ≡ length kept → missing ≡ unwrap_or (gap_from kept document.prev) 0
    → HasBestAfter kept document (Some record { at = at; missing = missing })
best-own kept document at missing new kind end gap given is =
    let new' = subst (IsNew kept) (sym is) new in
    let kind' : given.document.kind ≡ Subscription = ap (λ (d : DocValue). d.kind) is ∙ kind in
    subst (HasBest (kept ++ given ∷ []) (Some record { at = at; missing = missing }))
    (sym (best_of-new kept given new' kind')) record {
      there = ap (slice_get (kept ++ given ∷ [])) end ∙ get-push kept given;
      missing =
          gap ∙ ap (λ (d : DocValue). unwrap_or (gap_from kept d.prev) 0) (sym is)
          ∙ ap (λ (o : Option ℕ). unwrap_or o 0)
          (sym (gap-stays kept given (λ n. ap (is_archive n) kind') given.document.prev));
    }

own : (given : KeptValue) (number : ℕ) → given.document.kind ≡ Sealed number
    → is_archive number given.document.kind ≡ true
own given number kind = ap (is_archive number) kind ∙ eq-eqb number number refl

other : (given : KeptValue) (number : ℕ) → given.document.kind ≡ Sealed number → (n : ℕ) → n ≢ number
    → is_archive n given.document.kind ≡ false
other given number kind n apart = ap (is_archive n) kind ∙ ne_eqb number n (λ same. apart (sym same))

is-number : (gap : Option ℕ) (number : ℕ) → 1 ≤ number → unwrap_or gap 0 ≡ number → gap ≡ Some number
is-number None number one is = absurd (omega arith)
is-number (Some n) number one is = ap (λ (m : ℕ). Some m) is

-- the best subscription document stays where it was
best-stays : (kept : List KeptValue) (given : KeptValue) (best : Best) (missing : ℕ)
    (found : Option KeptValue)
    → HasBest kept (Some best) found
    → ((k : KeptValue) → best.missing ≡ unwrap_or (gap_from kept k.document.prev) 0
    → missing ≡ unwrap_or (gap_from (kept ++ given ∷ []) k.document.prev) 0)
    → HasBest (kept ++ given ∷ []) (Some record { at = best.at; missing = missing }) found
best-stays kept given best missing None is gap = is
best-stays kept given best missing (Some k) is gap = record {
  there = get-stays kept given best.at (Some k) is.there refl;
  missing = gap k is.missing;
}

-- the document is an archive that isn't held
pub record IsNewArchive (kept : List KeptValue) (document : DocValue) (number : ℕ) : Type 0 where
  pub kind : document.kind ≡ Sealed number
  pub one : 1 ≤ number
  pub free : archive_at kept number ≡ None

pub new-free : (kept : List KeptValue) (document : DocValue) (number : ℕ) → IsNew kept document
    → document.kind ≡ Sealed number → archive_at kept number ≡ None
unfolding counterpart
new-free kept document number new kind =
    sym (ap (counterpart_of_kind kept document.span.last) kind) ∙ new.counterpart

best-after : (kept : List KeptValue) (document : DocValue) (number : ℕ) (best : Option Best)
    → IsNewArchive kept document number
    → ((given : KeptValue) → given.document.kind ≡ Sealed number → HasBest (kept ++ given ∷ []) best (best_of
    kept))
    → HasBestAfter kept document best
best-after kept document number best new has given is =
    let kind : given.document.kind ≡ Sealed number = ap (λ (d : DocValue). d.kind) is ∙ new.kind in
    subst (HasBest (kept ++ given ∷ []) best) (sym (best_of-push-other kept given (ap is_subscription kind)))
    (has given kind)

pub best-none : (kept : List KeptValue) (document : DocValue) (number : ℕ) → IsNewArchive kept document number
    → HasBest kept None (best_of kept) → HasBestAfter kept document None
best-none kept document number new is =
    best-after kept document number None new (λ given kind. none given (best_of kept) is)
  where
    none : (given : KeptValue) (found : Option KeptValue) → HasBest kept None found
        → HasBest (kept ++ given ∷ []) None found
    none given None is = is
    none given (Some k) is = is

-- the new archive is the first missing one
pub best-filled : (kept : List KeptValue) (document : DocValue) (number : ℕ) (best : Best) (missing : ℕ)
    → IsNewArchive kept document number → HasBest kept (Some best) (best_of kept) → best.missing ≡ number
    → missing ≡ unwrap_or (gap_from kept (number - 1)) 0
    → HasBestAfter kept document (Some record { at = best.at; missing = missing })
best-filled kept document number best missing new is first gap =
    best-after kept document number (Some record { at = best.at; missing = missing }) new (λ given kind.
    best-stays kept given best missing (best_of kept) is (λ k was.
    gap ∙ ap (λ (o : Option ℕ). unwrap_or o 0)
    (sym (gap-filled kept given number new.free (own given number kind) (other given number kind)
    k.document.prev
    (is-number (gap_from kept k.document.prev) number new.one (sym was ∙ first))))))

-- another archive is the first missing one, or none is
pub best-unfilled : (kept : List KeptValue) (document : DocValue) (number : ℕ) (best : Best)
    → IsNewArchive kept document number → HasBest kept (Some best) (best_of kept) → best.missing ≢ number
    → HasBestAfter kept document (Some best)
best-unfilled kept document number best new is apart =
    best-after kept document number (Some best) new (λ given kind.
    best-stays kept given best best.missing (best_of kept) is (λ k was.
    was ∙ ap (λ (o : Option ℕ). unwrap_or o 0)
    (sym (gap-unfilled kept given number new.free (own given number kind) (other given number kind)
    k.document.prev
    (λ found. apart (was ∙ ap (λ (o : Option ℕ). unwrap_or o 0) found))))))

-- all that is kept beside the documents, once one more is held
pub indexed-more : (kept after : List KeptValue) (given : KeptValue) (archives : BTreeMap ℕ ℕ)
    (best : Option Best) (base : BaseMap) (feed : Option (List ℕ)) (name : Option FeedName)
    → after ≡ kept ++ given ∷ [] → HasPlaces (kept ++ given ∷ []) archives
    → HasBestAfter kept given.document best → IsBaseMap (kept ++ given ∷ []) base
    → feed ≡ feed_of (kept ++ given ∷ []) → name ≡ name_of_best (kept ++ given ∷ [])
    → IsIndexed after archives best base false feed name
indexed-more kept after given archives best base feed name more places is based fed named =
    subst (λ (list : List KeptValue). IsIndexed list archives best base false feed name) (sym more) record {
      archives_there = places;
      best_there = is given refl;
      base_there = based;
      listing = λ on. absurd (false≢true on);
      feed_there = fed;
      name_there = named;
    }

-- the feed's identifier and name, once one more document is held

pub feed-first : (kept : List KeptValue) (given : KeptValue) → length kept ≡ 0
    → feed_of (kept ++ given ∷ []) ≡ Some given.document.name.id
feed-first [] given none = refl
feed-first (k ∷ kept) given none = absurd (omega (arith, none))

pub feed-stays : (kept : List KeptValue) (given : KeptValue) → length kept ≢ 0
    → feed_of (kept ++ given ∷ []) ≡ feed_of kept
feed-stays [] given some = absurd (some refl)
feed-stays (k ∷ kept) given some = refl

pub name-own : (kept : List KeptValue) (given : KeptValue) → IsNew kept given.document
    → given.document.kind ≡ Subscription → name_of_best (kept ++ given ∷ []) ≡ Some given.document.name
name-own kept given new kind =
    ap (λ (o : Option KeptValue). option_map (λ (k : KeptValue). k.document.name) o) (best_of-new kept given new kind)

pub name-stays : (kept : List KeptValue) (given : KeptValue) (number : ℕ) → given.document.kind ≡ Sealed number
    → name_of_best (kept ++ given ∷ []) ≡ name_of_best kept
name-stays kept given number kind =
    ap (λ (o : Option KeptValue). option_map (λ (k : KeptValue). k.document.name) o)
    (best_of-push-other kept given (ap is_subscription kind))
