-- A fault that isn't usage is out of memory.
use Rattle.std.proofs.Common.{◌≡◌, ◌⊎◌, inl, inr, Result, Ok, Err, ap, ◌∙◌, refl}
use Rattle.std.specs.Result.{IsErrAnd}
use Rattle.tool_words.specs.declared.fault.WordsFault.{WordsFault}
use Rattle.tool_words.specs.declared.fault.WordsFault.TheVariants.{Usage, NoMemory}

not_usage : (fault : WordsFault) → (fault ≡ Usage → ⊥) → fault ≡ NoMemory
not_usage Usage h = absurd (h refl)
not_usage NoMemory h = refl

pub memory_only : {X : Type 0} (r : Result X WordsFault) (fault : WordsFault) (x : X) → IsErrAnd r (λ f. f ≡ fault) →
    (fault ≡ Usage → ⊥) → (r ≡ Ok x) ⊎ (r ≡ Err NoMemory)
memory_only (Ok y) fault x h other = absurd h
memory_only (Err f) fault x h other = inr (ap Err (h ∙ not_usage fault other))

pub memory_of : {X : Type 0} (r : Result X WordsFault) (fault : WordsFault) (x : X) → IsErrAnd r (λ f. f ≡ fault) →
    fault ≡ NoMemory → (r ≡ Ok x) ⊎ (r ≡ Err NoMemory)
memory_of (Ok y) fault x h e = absurd h
memory_of (Err f) fault x h e = inr (ap Err (h ∙ e))

pub not_usage_of : {X : Type 0} (fault : WordsFault) (x : X) →
    (◌≡◌ {A = Result X WordsFault} (Err fault) (Ok x)) ⊎ (◌≡◌ {A = Result X WordsFault} (Err fault) (Err NoMemory)) →
    fault ≡ Usage → ⊥
not_usage_of fault x (inl e) usage = cc
not_usage_of fault x (inr e) usage = cc
