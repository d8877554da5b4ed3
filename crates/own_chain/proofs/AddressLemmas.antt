-- The addresses of a chain's documents.
use Rattle.std.proofs.Common.{◌≡◌, inl, inr, ℕ, suc, ◌≤◌, ◌<◌, ◌^◌, List, [], ◌∷◌, ◌++◌, refl, subst, arith}
use Rattle.std.specs.Prelude.{Contains, IsTrue}
use Rattle.std.proofs.lemmas.List.Elements.{Contains-push_cases}
use Rattle.chain_links.specs.Address.{printed}
use Rattle.chain_links.specs.Base.{BaseParts, IsBase, base_text}
use Rattle.chain_links.specs.declared.address.Address.{Address}
use Rattle.chain_links.specs.declared.address.Address.TheVariants.{Feed, Archive}
use Rattle.chain_links.proofs.AddressLemmas.{same_address}
use Rattle.published_rule.proofs.DatedLemmas.{Contains-none}
use Rattle.foreign_mirror.specs.Walk.{is_http}

-- the scheme of a base address is `http`
parts-http : (parts : BaseParts) (address : Address) → IsTrue (is_http (printed (base_text parts) address))
unfolding printed base_text
parts-http parts address = refl

pub printed-http : (base : List ℕ) (address : Address) → IsBase base → IsTrue (is_http (printed base address))
printed-http base address is =
    subst (λ (b : List ℕ). IsTrue (is_http (printed b address))) is.spelt (parts-http is.parts address)

-- no archive up to this number is among the addresses
abbrev pub HasNoneTo : ℕ → List ℕ → List (List ℕ) → Type 0
HasNoneTo number base before =
    (k : ℕ) → 1 ≤ k → k ≤ number → ¬ Contains before (printed base (Archive k))

pub none-at_first : (number : ℕ) (base : List ℕ) → number < 2 ^ 32 → HasNoneTo number base (printed base Feed ∷ [])
none-at_first number base small k counted within there =
    elim (Contains-push_cases [] (printed base Feed) (printed base (Archive k)) there) [
      | inl before ↦ Contains-none (printed base (Archive k)) before
      | inr same ↦ apart (same_address base Feed (Archive k) tt (counted, omega arith) same)
    ]
  where
    apart : Feed ≡ Archive k → ⊥
    apart e = grind arith

pub none-after : (number : ℕ) (base : List ℕ) (before : List (List ℕ)) → suc number < 2 ^ 32
    → HasNoneTo (suc number) base before → HasNoneTo number base (before ++ printed base (Archive (suc number)) ∷ [])
none-after number base before small none k counted within there =
    elim (Contains-push_cases before (printed base (Archive (suc number))) (printed base (Archive k)) there) [
      | inl earlier ↦ none k counted (omega arith) earlier
      | inr same ↦
          apart (same_address base (Archive (suc number)) (Archive k) (omega arith, small) (counted, omega arith) same)
    ]
  where
    apart : Archive (suc number) ≡ Archive k → ⊥
    apart e = let same : suc number ≡ k = cc in absurd (omega arith)
