-- A walk so far, of which each document was accepted, and how it goes on.
use Rattle.std.proofs.Common.{◌≡◌, ℕ, ◌+◌, List, [], ◌∷◌, ◌++◌, Option, Some, Ok, refl, sym, ap, subst, ◌∙◌}
use Rattle.std.proofs.Common.{length, length-append, Bool, true, false, cond, add-zero}
use Rattle.std.specs.Prelude.{count_by}
use Rattle.std.proofs.lemmas.List.Sums.{sum_by-append}
use Rattle.chain_links.specs.declared.address.Address.{Address}
use Rattle.mirror_walk.specs.declared.answer.Accepted.{Accepted}
use Rattle.mirror_walk.specs.declared.answer.Accepted.TheVariants.{Taken, Known, Stale}
use Rattle.mirror_walk.specs.declared.walk.Tally.{Tally}
use Rattle.mirror_walk.specs.Holding.{KeptValue, first_missing}
use Rattle.mirror_walk.specs.Visit.{counted_answer, tally_of}
use Rattle.mirror_walk.specs.Walk.{EndsAt, EndsBefore, IsAnswered, WalkEnding, WalkSetting, Walks, is_known}
use Rattle.mirror_walk.specs.Walk.{is_stale, is_taken}
use Rattle.mirror_walk.specs.Walk.WalkEnding.{cut_short}

-- a walk so far: each address asked has an accepted document; `now` is held, and `upcoming` is the next
-- address
abbrev pub Reaches : WalkSetting → List KeptValue → Option Address → List Address → List Accepted
    → List KeptValue
    → Option Address → Type 0
Reaches setting kept next [] [] now upcoming = (now ≡ kept) × (upcoming ≡ next)
Reaches setting kept next [] (answer ∷ accepted) now upcoming = ⊥
Reaches setting kept next (address ∷ asked) [] now upcoming = ⊥
Reaches setting kept next (address ∷ asked) (answer ∷ accepted) now upcoming =
    (next ≡ Some address) × ((after : List KeptValue) × IsAnswered setting kept address (Ok answer) after
    × Reaches setting after (first_missing after) asked accepted now upcoming)

module _ (setting : WalkSetting) (now : List KeptValue) where
  -- one more accepted document
  pub reaches-more : (asked : List Address) (accepted : List Accepted) (kept after : List KeptValue)
      (next : Option Address) (address : Address) (answer : Accepted)
      → Reaches setting kept next asked accepted now (Some address) → IsAnswered setting now address
      (Ok answer) after
      → Reaches setting kept next (asked ++ address ∷ []) (accepted ++ answer ∷ []) after
      (first_missing after)
  reaches-more [] [] kept after next address answer (held, is) answered = (
    sym is,
    (
      after,
      subst (λ (l : List KeptValue). IsAnswered setting l address (Ok answer) after) held answered,
      (refl, refl),
    ),
  )
  reaches-more [] (other ∷ accepted) kept after next address answer so_far answered = absurd so_far
  reaches-more (other ∷ asked) [] kept after next address answer so_far answered = absurd so_far
  reaches-more (other ∷ asked) (one ∷ accepted) kept after next address answer (is, (middle, first, so_far))
      answered = (
        is,
        (
          middle,
          first,
          reaches-more asked accepted middle after (first_missing middle) address answer so_far answered,
        ),
      )

  -- the walk ends before it asks for its next document
  pub walks-before : (asked : List Address) (accepted : List Accepted) (kept : List KeptValue)
      (next upcoming : Option Address) (ending : WalkEnding) → Reaches setting kept next asked accepted now
      upcoming
      → EndsBefore upcoming ending → Walks setting kept next asked accepted now ending
  walks-before [] [] kept next upcoming ending (held, is) ends =
      (held, subst (λ (o : Option Address). EndsBefore o ending) is ends)
  walks-before [] (other ∷ accepted) kept next upcoming ending so_far ends = absurd so_far
  walks-before (other ∷ asked) [] kept next upcoming ending so_far ends = absurd so_far
  walks-before (other ∷ asked) (one ∷ accepted) kept next upcoming ending (is, (middle, first, so_far)) ends
      = (
        is,
        (
          middle,
          first,
          walks-before asked accepted middle (first_missing middle) upcoming ending so_far
              ends,
        ),
      )

  -- the walk ends at its next address
  pub walks-at : (asked : List Address) (accepted : List Accepted) (kept : List KeptValue)
      (next : Option Address)
      (address : Address) (ending : WalkEnding) → Reaches setting kept next asked accepted now (Some address)
      → EndsAt setting now address ending → Walks setting kept next (asked ++ address ∷ []) accepted now
      ending
  walks-at [] [] kept next address ending (held, is) ends =
      (sym is, refl, held, subst (λ (l : List KeptValue). EndsAt setting l address ending) held ends)
  walks-at [] (other ∷ accepted) kept next address ending so_far ends = absurd so_far
  walks-at (other ∷ asked) [] kept next address ending so_far ends = absurd so_far
  walks-at (other ∷ asked) (one ∷ accepted) kept next address ending (is, (middle, first, so_far)) ends =
      (is, (middle, first, walks-at asked accepted middle (first_missing middle) address ending so_far ends))

-- a walk may also be cut short where it ended
pub walks-cut : (setting : WalkSetting) (asked : List Address) (accepted : List Accepted)
    (kept left : List KeptValue)
    (next : Option Address) (ending : WalkEnding) → Walks setting kept next asked accepted left ending
    → Walks setting kept next asked accepted left cut_short
walks-cut setting [] [] kept left next ending (same, ends) = (same, tt)
walks-cut setting [] (answer ∷ accepted) kept left next ending walks = absurd walks
walks-cut setting (address ∷ asked) [] kept left next ending (is, none, same, ends) = (is, none, same, tt)
walks-cut setting (address ∷ asked) (answer ∷ accepted) kept left next ending (is, (after, first, walks)) =
    (is, (after, first, walks-cut setting asked accepted after left (first_missing after) ending walks))

-- the numbers after one more address and one more answer
pub tally-more : (asked : List Address) (accepted : List Accepted) (address : Address) (answer : Accepted)
    → tally_of (asked ++ address ∷ []) (accepted ++ answer ∷ [])
    ≡ counted_answer (record (tally_of asked accepted) { asked = length asked + 1 }) answer
tally-more asked accepted address answer = of answer
  where
    longer : length (asked ++ address ∷ []) ≡ length asked + 1
    longer = length-append asked (address ∷ [])

    one : (p : Accepted → Bool) (answer : Accepted) → p answer ≡ true
        → count_by p (accepted ++ answer ∷ []) ≡ count_by p accepted + 1
    one p answer e =
        sum_by-append (λ x. cond (p x) 1 0) accepted (answer ∷ [])
        ∙ ap (λ (b : Bool). count_by p accepted + (0 + cond b 1 0)) e

    none : (p : Accepted → Bool) (answer : Accepted) → p answer ≡ false
        → count_by p (accepted ++ answer ∷ []) ≡ count_by p accepted
    none p answer e =
        sum_by-append (λ x. cond (p x) 1 0) accepted (answer ∷ [])
        ∙ ap (λ (b : Bool). count_by p accepted + (0 + cond b 1 0)) e
        ∙ add-zero (count_by p accepted)

    more : (answer : Accepted) (taken known stale : ℕ) → count_by is_taken (accepted ++ answer ∷ []) ≡ taken
        → count_by is_known (accepted ++ answer ∷ []) ≡ known → count_by is_stale (accepted ++ answer ∷ [])
        ≡ stale
        → tally_of (asked ++ address ∷ []) (accepted ++ answer ∷ [])
        ≡ (let t : Tally = record { asked = length asked + 1; taken = taken; known = known; stale = stale } in
        t)
    more answer taken known stale e f g = cc longer

    of : (answer : Accepted) → tally_of (asked ++ address ∷ []) (accepted ++ answer ∷ [])
        ≡ counted_answer (record (tally_of asked accepted) { asked = length asked + 1 }) answer
    of Taken = more Taken _ _ _ (one is_taken Taken refl) (none is_known Taken refl)
        (none is_stale Taken refl)
    of Known = more Known _ _ _ (none is_taken Known refl) (one is_known Known refl)
        (none is_stale Known refl)
    of Stale = more Stale _ _ _ (none is_taken Stale refl) (none is_known Stale refl)
        (one is_stale Stale refl)
