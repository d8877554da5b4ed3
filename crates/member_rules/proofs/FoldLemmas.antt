-- The effect of one more operation on the values that are made of a list of operations.
use Rattle.std.proofs.Common.{◌≡◌, inl, inr, ℕ, zero, suc, ◌+◌, ◌-◌, ◌<◌, ◌≤◌, ℤ, Bool, true, false, cond}
use Rattle.std.proofs.Common.{if◌then◌else◌, ◌==◌, Some, List, [], ◌∷◌, ◌++◌, length, get_or, take, take-take, take_all}
use Rattle.std.proofs.Common.{slice_get, refl, sym, ap, subst, subst₂, ◌∙◌, arith, length-append, add-one, zero-add}
use Rattle.std.specs.Prelude.{option_map, unwrap_or}
use Rattle.std.proofs.lemmas.Bool.{cases_lt}
use Rattle.std.proofs.lemmas.Bool.Decides.{nat_tests}
use Rattle.std.proofs.lemmas.List.{take_more, take-append-le}
use Rattle.std.proofs.Math.Seq.{take-append_seam}
use Rattle.std.proofs.lemmas.List.Sums.{fold-append, sum_by-append, count_by-le-length}
use Rattle.std.proofs.lemmas.Option.{slice_get_cases, slice_get_within}
use Rattle.member_rules.specs.declared.operation.Op.{Op}
use Rattle.member_rules.specs.Operation.{moment_of, makes, names}
use Rattle.member_rules.specs.Fold.{no_members, after_operation, fold_of, made, last_moment, last_naming}
use Rattle.member_rules.specs.History.{AreFollowing, MayFollow}

pub fold_of-push : (history : List Op) (operation : Op)
    → fold_of (history ++ operation ∷ []) ≡ after_operation (fold_of history) operation
unfolding fold_of
fold_of-push history operation = fold-append after_operation no_members history (operation ∷ [])

pub made-push : (history : List Op) (operation : Op)
    → made (history ++ operation ∷ []) ≡ made history + (if makes operation then 1 else 0)
made-push history operation = sum_by-append (λ o. cond (makes o) 1 0) history (operation ∷ [])
    ∙ ap (λ n. made history + n) (zero-add (cond (makes operation) 1 0))

pub made-push-le : (history : List Op) (operation : Op) → made (history ++ operation ∷ []) ≤ made history + 1
made-push-le history operation =
    subst (λ n. n ≤ made history + 1) (sym (made-push history operation)) (at_most (makes operation))
  where
    at_most : (makes_one : Bool) → made history + (if makes_one then 1 else 0) ≤ made history + 1
    at_most true = omega arith
    at_most false = omega arith

pub made-le-length : (history : List Op) → made history ≤ length history
made-le-length history = count_by-le-length makes history

pub get-push : {T : Type 0} (list : List T) (item : T) → slice_get (list ++ item ∷ []) (length list) ≡ Some item
get-push [] item = refl
get-push (first ∷ rest) item = get-push rest item

pub get-push-other : {T : Type 0} (list : List T) (item : T) (k : ℕ) → k < length list
    → slice_get (list ++ item ∷ []) k ≡ slice_get list k
get-push-other [] item k inside = absurd (omega arith)
get-push-other (first ∷ rest) item zero inside = refl
get-push-other (first ∷ rest) item (suc k) inside = get-push-other rest item k (omega arith)

pub last_moment-push : (created : ℤ) (history : List Op) (operation : Op)
    → last_moment created (history ++ operation ∷ []) ≡ moment_of operation
last_moment-push created history operation =
    let at : length (history ++ operation ∷ []) - 1 ≡ length history =
    omega (arith, length-append history (operation ∷ [])) in
    ap (λ k. unwrap_or (option_map moment_of (slice_get (history ++ operation ∷ []) k)) created) at
    ∙ ap (λ o. unwrap_or (option_map moment_of o) created) (get-push history operation)

last_naming-step : (behind later size : ℕ) (named first : Bool) → later ≡ (if named then size + 1 else behind)
    → (if later == 0 then (if first then 1 else 0) else later + 1)
    ≡ (if named then size + 1 + 1 else (if behind == 0 then (if first then 1 else 0) else behind + 1))
last_naming-step behind later size true first e = grind (arith, nat_tests)
last_naming-step behind later size false first e = rw e refl

pub last_naming-push : (number : ℕ) (history : List Op) (operation : Op)
    → last_naming number (history ++ operation ∷ [])
    ≡ (if names number operation then length history + 1 else last_naming number history)
last_naming-push number [] operation = refl
last_naming-push number (first ∷ later) operation =
    last_naming-step (last_naming number later) (last_naming number (later ++ operation ∷ [])) (length later)
    (names number operation) (names number first) (last_naming-push number later operation)
    ∙ ap (λ n. if names number operation then n else last_naming number (first ∷ later))
    (let e : length later + 1 + 1 ≡ length (first ∷ later) + 1 = omega arith in e)

pub AreFollowing-push : (created : ℤ) (history : List Op) (operation : Op) → AreFollowing created history
    → MayFollow created history operation → AreFollowing created (history ++ operation ∷ [])
AreFollowing-push created history operation following follows k other at = elim (cases_lt k (length history)) [
  | inl inside ↦
      rw (take-append-le k history (operation ∷ []) (omega arith))
      (following k other (sym (get-push-other history operation k inside) ∙ at))
  | inr past ↦ last k at past
]
  where
    last : (k : ℕ) → slice_get (history ++ operation ∷ []) k ≡ Some other → length history ≤ k
        → MayFollow created (take k (history ++ operation ∷ [])) other
    last k at past =
        let within = slice_get_within (history ++ operation ∷ []) k other at in
        let here : k ≡ length history = omega (arith, within, length-append history (operation ∷ [])) in
        let front : take k (history ++ operation ∷ []) ≡ history =
        ap (λ (n : ℕ). take n (history ++ operation ∷ [])) here ∙ take-append_seam history (operation ∷ []) in
        let got : Some operation ≡ Some other = sym (get-push history operation)
        ∙ ap (slice_get (history ++ operation ∷ [])) (sym here) ∙ at in
        let same : operation ≡ other = cc in
        subst₂ (MayFollow created) (sym front) same follows

get-take : {T : Type 0} (n : ℕ) (list : List T) (k : ℕ) (item : T) → slice_get (take n list) k ≡ Some item
    → (k < n) × (slice_get list k ≡ Some item)
get-take zero list k item at = absurd (cc)
get-take (suc n) [] k item at = absurd (cc)
get-take (suc n) (first ∷ rest) zero item at = (omega arith, at)
get-take (suc n) (first ∷ rest) (suc k) item at = let more = get-take n rest k item at in (omega arith, more.1)

pub AreFollowing-take : (created : ℤ) (history : List Op) (n : ℕ) → AreFollowing created history
    → AreFollowing created (take n history)
AreFollowing-take created history n following k other at =
    let got = get-take n history k other at in
    let front : take k (take n history) ≡ take k history = take-take k n history (omega (arith, got.0)) in
    rw front (following k other got.1)

-- what holds of no operations, and of a history with one more that may follow, holds of each history
pub by_operations : (created : ℤ) (P : List Op → Type 0) → P []
    → ((past : List Op) (operation : Op) → AreFollowing created past → MayFollow created past operation → P past
    → P (past ++ operation ∷ []))
    → (history : List Op) → AreFollowing created history → P history
by_operations created P none more history following =
    subst P (take_all (length history) history (omega arith)) (up_to (length history) (omega arith))
  where
    front : (n : ℕ) (operation : Op) → n < length history → get_or history n operation ≡ operation
        → take (suc n) history ≡ take n history ++ operation ∷ []
    front n operation inside got =
        ap (λ (k : ℕ). take k history) (sym (add-one n))
        ∙ take_more history n operation inside
        ∙ ap (λ (o : Op). take n history ++ o ∷ []) got

    up_to : (n : ℕ) → n ≤ length history → P (take n history)
    up_to zero within = none
    up_to (suc n) within = elim (slice_get_cases history n).1 [
      | inl found ↦
          subst P (sym (front n found.0 found.1 found.3))
          (more (take n history) found.0 (AreFollowing-take created history n following) (following n found.0 found.2)
          (up_to n (omega arith)))
      | inr past ↦ absurd (omega (arith, past.0))
    ]
