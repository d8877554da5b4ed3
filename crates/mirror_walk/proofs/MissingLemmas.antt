-- The first missing document, from what is kept of the best subscription document.
use Rattle.std.proofs.Common.{◌≡◌, ◌≢◌, ℕ, ◌<◌, ◌≤◌, List, Option, Some, None, refl, sym, ap, subst, ◌∙◌}
use Rattle.std.specs.Prelude.{IsSome, option_map, unwrap_or}
use Rattle.chain_links.specs.declared.address.Address.TheVariants.{Feed, Archive}
use Rattle.mirror_walk.specs.declared.documents.Best.{Best}
use Rattle.mirror_walk.specs.Holding.{KeptValue, archive_at, best_of, first_missing, gap_from, missing_after}
use Rattle.mirror_walk.specs.Index.{HasBest}
use Rattle.mirror_walk.proofs.GapLemmas.{gap-above, gap-none, gap-zero}

pub missing-feed : (kept : List KeptValue) → HasBest kept None (best_of kept) → first_missing kept ≡ Some Feed
unfolding first_missing
missing-feed kept is = of (best_of kept) is
  where
    of : (found : Option KeptValue) → HasBest kept None found → missing_after kept found ≡ Some Feed
    of None is = refl
    of (Some k) is = absurd is

pub missing-nothing : (kept : List KeptValue) (best : Best) → HasBest kept (Some best) (best_of kept)
    → best.missing ≡ 0
    → first_missing kept ≡ None
unfolding first_missing
missing-nothing kept best is none = of (best_of kept) is
  where
    of : (found : Option KeptValue) → HasBest kept (Some best) found → missing_after kept found ≡ None
    of None is = absurd is
    of (Some k) is =
        let prev = k.document.prev in
        ap (option_map Archive) (gap-zero kept prev (gap_from kept prev) refl (sym is.missing ∙ none))

pub missing-archive : (kept : List KeptValue) (best : Best) → HasBest kept (Some best) (best_of kept)
    → best.missing ≢ 0
    → first_missing kept ≡ Some (Archive best.missing)
unfolding first_missing
missing-archive kept best is some = of (best_of kept) is
  where
    numbered : (gap : Option ℕ) → best.missing ≡ unwrap_or gap 0
        → option_map Archive gap ≡ Some (Archive best.missing)
    numbered None is = absurd (some is)
    numbered (Some number) is = ap (λ (n : ℕ). Some (Archive n)) (sym is)

    of : (found : Option KeptValue) → HasBest kept (Some best) found
        → missing_after kept found ≡ Some (Archive best.missing)
    of None is = absurd is
    of (Some k) is = numbered (gap_from kept k.document.prev) is.missing

-- the archives that the best subscription document needs are held above the first missing one
pub held-above : (kept : List KeptValue) (best : Best) (found : KeptValue)
    → HasBest kept (Some best) (best_of kept)
    → best_of kept ≡ Some found → (n : ℕ) → best.missing < n → n ≤ found.document.prev
    → IsSome (archive_at kept n)
held-above kept best found is at n more within =
    let there = subst (HasBest kept (Some best)) at is in
    gap-above kept found.document.prev (gap_from kept found.document.prev) refl n
    (subst (λ (m : ℕ). m < n) there.missing more) within

-- if nothing is missing, all archives that the best subscription document needs are held
pub whole-held : (kept : List KeptValue) (best : KeptValue) → first_missing kept ≡ None
    → best_of kept ≡ Some best → (number : ℕ) → 1 ≤ number → number ≤ best.document.prev
    → IsSome (archive_at kept number)
unfolding first_missing
whole-held kept best whole is number one within =
    let prev = best.document.prev in
    gap-none kept prev (none (gap_from kept prev) (sym (ap (missing_after kept) is) ∙ whole)) number one within
  where
    none : (gap : Option ℕ) → option_map Archive gap ≡ None → gap ≡ None
    none None is = refl
    none (Some n) is = absurd (cc)
