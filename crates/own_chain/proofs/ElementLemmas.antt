-- Elements of lists that are made of other lists.
use Rattle.std.proofs.Common.{◌≡◌, inl, inr, List, [], ◌∷◌, map, sym, subst}
use Rattle.std.specs.Prelude.{Contains, flat_map}
use Rattle.std.proofs.lemmas.List.Elements.{Contains-append_cases, Contains-append_left, Contains-append_right}
use Rattle.published_rule.proofs.DatedLemmas.{Contains-first, Contains-more, Contains-none, Contains-split}

module _ {X Y : Type 0} (f : X → Y) where
  pub Contains-map : (xs : List X) (x : X) → Contains xs x → Contains (map f xs) (f x)
  Contains-map [] x there = absurd (Contains-none x there)
  Contains-map (first ∷ xs) x there = elim (Contains-split first x xs there) [
    | inl same ↦ subst (λ (y : X). Contains (map f (first ∷ xs)) (f y)) same (Contains-first (f first) (map f xs))
    | inr behind ↦ Contains-more (f first) (f x) (map f xs) (Contains-map xs x behind)
  ]

  pub Contains-from_map : (xs : List X) (y : Y) → Contains (map f xs) y → (x : X) × Contains xs x × (f x ≡ y)
  Contains-from_map [] y there = absurd (Contains-none y there)
  Contains-from_map (first ∷ xs) y there = elim (Contains-split (f first) y (map f xs) there) [
    | inl same ↦ (first, Contains-first first xs, same)
    | inr behind ↦
        let found = Contains-from_map xs y behind in
        (found.0, Contains-more first found.0 xs found.1, found.2)
  ]

module _ {X Y : Type 0} (f : X → List Y) where
  pub Contains-flat_map : (xs : List X) (x : X) (y : Y) → Contains xs x → Contains (f x) y → Contains (flat_map f xs) y
  Contains-flat_map [] x y there has = absurd (Contains-none x there)
  Contains-flat_map (first ∷ xs) x y there has = elim (Contains-split first x xs there) [
    | inl same ↦
        Contains-append_left (f first) (flat_map f xs) y (subst (λ (z : X). Contains (f z) y) (sym same) has)
    | inr behind ↦ Contains-append_right (f first) (flat_map f xs) y (Contains-flat_map xs x y behind has)
  ]

  pub Contains-from_flat_map : (xs : List X) (y : Y) → Contains (flat_map f xs) y
      → (x : X) × Contains xs x × Contains (f x) y
  Contains-from_flat_map [] y there = absurd (Contains-none y there)
  Contains-from_flat_map (first ∷ xs) y there = elim (Contains-append_cases (f first) (flat_map f xs) y there) [
    | inl here ↦ (first, Contains-first first xs, here)
    | inr behind ↦
        let found = Contains-from_flat_map xs y behind in
        (found.0, Contains-more first found.0 xs found.1, found.2)
  ]
