-- A word that has an option's name and its value is cut at its first `=`.
use Rattle.std.proofs.Common.{◌≡◌, ◌≢◌, ℕ, List, [], ◌∷◌, ◌++◌, All, Option, Bor, MatchOption, codes, length, get_or}
use Rattle.std.proofs.Common.{append_assoc, ◌∙◌, sym, ap, arith}
use Rattle.std.specs.Str.Pattern.{FindsTextPrefix, StripsPrefix}
use Rattle.std.proofs.lemmas.List.Elements.{All-get_or}
use Rattle.std.proofs.lemmas.Str.Pattern.{IsSplitOnceResult, split_after}

stripped : (word option : List ℕ) → StripsPrefix (FindsTextPrefix (codes "--")) word option →
    word ≡ 45 ∷ 45 ∷ option
stripped word option h = h.1.1 ∙ ap (λ (rest : List ℕ). 45 ∷ 45 ∷ rest) (sym h.2)

pub cut_joined : (word option name value : List ℕ) (r : Option (Bor (List ℕ) × Bor (List ℕ))) →
    StripsPrefix (FindsTextPrefix (codes "--")) word option → IsSplitOnceResult 61 option r →
    All (λ c. c ≢ 61) name → word ≡ codes "--" ++ name ++ codes "=" ++ value →
    MatchOption r ⊥ (λ x. (x.0.now ≡ name) × (x.1.now ≡ value))
cut_joined word option name value r strip cut free e =
    let same : option ≡ name ++ codes "=" ++ value = cc (stripped word option strip) in
    split_after 61 option name value r cut (omega arith) (same ∙ append_assoc name (61 ∷ []) value)
    (λ i inside. All-get_or (λ c. c ≢ 61) name i 0 inside free)

pub one_item : {X : Type 0} (items : List X) (x : X) → length items ≡ 1 → x ≡ get_or items 0 x → items ≡ x ∷ []
one_item [] x h e = absurd (omega (arith, h))
one_item (y ∷ []) x h e = cc
one_item (y ∷ z ∷ items) x h e = absurd (omega (arith, h))
