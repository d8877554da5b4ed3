-- The target of a request names one address.
use Rattle.std.proofs.Common.{◌≡◌, ℕ, List, ◌∷◌, ◌++◌, get_or, inl, inr, arith, refl, sym, ap, ◌∙◌}
use Rattle.chain_links.specs.declared.address.Address.{Address}
use Rattle.chain_links.specs.Address.{IsAddress, IsTarget, printed, suffix_text}
use Rattle.chain_links.specs.Base.{BaseParts, Spells, base_text}
use Rattle.chain_links.proofs.AddressLemmas.{printed-is, same_address}

scheme_first : (parts : BaseParts) (rest : List ℕ) → get_or (base_text parts ++ rest) 0 0 ≡ 104
unfolding base_text
scheme_first parts rest = refl

-- an address begins with the scheme, and a path with `/`
no_path : {X : Type 0} (base suffix path rest : List ℕ) (parts : BaseParts) → Spells parts base
    → base ++ suffix ≡ 47 ∷ (path ++ rest) → X
no_path base suffix path rest parts spells e =
    let first = sym (scheme_first parts suffix) ∙ ap (λ b. get_or (b ++ suffix) 0 0) spells.1
    ∙ ap (λ t. get_or t 0 0) e in
    absurd (omega (arith, first))

pub target_of_address : (base target : List ℕ) (one other : Address) → IsAddress one → IsAddress other
    → target ≡ printed base one → IsTarget base other target → one ≡ other
target_of_address base target one other is_one is_other e (inl same) =
    same_address base one other is_one is_other (sym e ∙ same)
target_of_address base target one other is_one is_other e (inr path) =
    no_path base (suffix_text one) _ (suffix_text other) path.0 path.1 (sym (printed-is base one) ∙ sym e ∙ path.2)
