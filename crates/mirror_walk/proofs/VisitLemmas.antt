-- One step of a walk, and the addresses that are left after it.
use Rattle.std.proofs.Common.{◌≡◌, inl, inr, ℕ, ◌-◌, ◌<◌, ◌≤◌, List, Option, Some, None}
use Rattle.std.proofs.Common.{IsSome, Ok, refl, sym, ap, subst, ◌∙◌, arith, option_map}
use Rattle.chain_links.specs.Address.{IsAddress, printed}
use Rattle.chain_links.specs.declared.address.Address.{Address}
use Rattle.chain_links.specs.declared.address.Address.TheVariants.{Feed, Archive, Member}
use Rattle.mirror_walk.specs.declared.answer.Accepted.{Accepted}
use Rattle.mirror_walk.specs.Accept.{AnswersDocument}
use Rattle.mirror_walk.specs.Holding.{KeptValue, best_of, first_missing, gap_from}
use Rattle.mirror_walk.specs.Mirror.{MirrorValue}
use Rattle.mirror_walk.specs.Visit.{IsNextOf, asks_left}
use Rattle.mirror_walk.specs.Walk.{IsAnswered, setting_by}
use Rattle.mirror_walk.proofs.GapLemmas.{gap-found}
use Rattle.mirror_walk.proofs.NewLemmas.{IsFilled, archive-accepted, feed-accepted}
use Rattle.mirror_walk.proofs.WalkLemmas.{next-gap}
use Rattle.mirror_walk.proofs.RoomLemmas.{within-accepted}

-- the number of addresses left falls with each accepted document

missing-best : (kept : List KeptValue) (best : KeptValue) → best_of kept ≡ Some best
    → first_missing kept ≡ option_map Archive (gap_from kept best.document.prev)
unfolding first_missing
missing-best kept best e = rw e refl

-- once an accepted document is held, there is a best one, and fewer addresses are left
pub record GoesOn (address : Address) (left : List KeptValue) : Type 0 where
  pub best : IsSome (best_of left)
  pub fewer : (next : Address) → first_missing left ≡ Some next → IsAddress next → asks_left next < asks_left
      address

feed-on : (left : List KeptValue) (best : Option KeptValue) → best_of left ≡ best → IsSome best
    → GoesOn Feed left
feed-on left None e some = absurd (cc)
feed-on left (Some best) e some = record { best = rw e refl; fewer = of }
  where
    gaps : (gap : Option ℕ) (next : Address) → option_map Archive gap ≡ Some next → asks_left next < asks_left
        Feed
    gaps None next is = absurd (cc)
    gaps (Some number) next is =
        let same : Archive number ≡ next = cc in
        subst (λ (a : Address). asks_left a < asks_left Feed) same (omega arith)

    of : (next : Address) → first_missing left ≡ Some next → IsAddress next → asks_left next < asks_left Feed
    of next is is_address =
        gaps (gap_from left best.document.prev) next (sym (missing-best left best e) ∙ is)

archive-on : (kept left : List KeptValue) (best : KeptValue) (number : ℕ) (accepted : Accepted) → 1 ≤ number
    → IsFilled kept left best number accepted → GoesOn (Archive number) left
archive-on kept left best number accepted one filled = record { best = rw filled.best refl; fewer = of }
  where
    gaps : (gap : Option ℕ) → gap_from kept (number - 1) ≡ gap → (next : Address)
        → option_map Archive gap ≡ Some next
        → asks_left next < asks_left (Archive number)
    gaps None e next is = absurd (cc)
    gaps (Some lower) e next is =
        let same : Archive lower ≡ next = cc in
        let found = gap-found kept (number - 1) lower e in
        subst (λ (a : Address). asks_left a < asks_left (Archive number)) same
        (omega (arith, found.within, found.one, filled.most, one))

    of : (next : Address) → first_missing left ≡ Some next → IsAddress next
        → asks_left next < asks_left (Archive number)
    of next is is_address = gaps (gap_from kept (number - 1)) refl next
        (ap (option_map Archive) (sym filled.gap) ∙ sym (missing-best left best filled.best) ∙ is)

pub goes-on : (mirror : MirrorValue) (answers : List ℕ → Option (List ℕ)) (address : Address)
    (left : List KeptValue) (answer : Accepted) → IsNextOf mirror.kept address → IsAddress address
    → IsAnswered (setting_by mirror answers) mirror.kept address (Ok answer) left → GoesOn address left
goes-on mirror answers address left answer (inl feed) is accepted =
    let document = within-accepted mirror.capacity mirror.base mirror.kept (printed mirror.base address)
    accepted.bytes
    answer left accepted.answered in
    let at_feed = subst (λ (a : Address). AnswersDocument mirror.base mirror.kept (printed mirror.base a)
    accepted.bytes
    (Ok answer) left) feed document in
    subst (λ (a : Address). GoesOn a left) (sym feed) (feed-on left (best_of left) refl
    (feed-accepted mirror.base mirror.kept accepted.bytes answer left at_feed))
goes-on mirror answers address left answer (inr (next, some)) is accepted = of (best_of mirror.kept) refl some
  where
    of : (best : Option KeptValue) → best_of mirror.kept ≡ best → IsSome best → GoesOn address left
    of None e some = absurd (cc)
    of (Some best) e some =
        let gap = next-gap mirror.kept best address e next in
        let number = gap.number in
        let found = gap-found mirror.kept best.document.prev number gap.gap in
        let document = within-accepted mirror.capacity mirror.base mirror.kept (printed mirror.base address)
        accepted.bytes answer left accepted.answered in
        let there = subst (λ (a : Address). AnswersDocument mirror.base mirror.kept (printed mirror.base a)
        accepted.bytes (Ok answer) left) gap.is document in
        let small = subst IsAddress gap.is is in
        subst (λ (a : Address). GoesOn a left) (sym gap.is) (archive-on mirror.kept left best number answer
        found.one
        (archive-accepted mirror.base mirror.kept best number accepted.bytes answer left small e gap.gap
        found.free
        there))

-- an address is left to be asked
pub asks-some : (kept : List KeptValue) (address : Address) → IsNextOf kept address → IsAddress address
    → 1 ≤ asks_left address
asks-some kept Feed next is = omega arith
asks-some kept (Archive number) next is = omega (arith, is.0)
asks-some kept (Member number) (inl e) is = cc
asks-some kept (Member number) (inr next) is = of (best_of kept) refl next.1
  where
    of : (best : Option KeptValue) → best_of kept ≡ best → IsSome best → 1 ≤ asks_left (Member number)
    of None e some = absurd (cc)
    of (Some best) e some =
        let gap = next-gap kept best (Member number) e next.0 in
        absurd (let clash : Member number ≡ Archive gap.number = gap.is in cc)
