-- The order of the members by their last operations.
use Rattle.std.proofs.Common.{◌≡◌, ◌≢◌, inl, inr, ℕ, zero, suc, ◌+◌, ◌<◌, ◌≤◌, ℤ, ◌==◌, not, Bool, true, false, if◌then◌else◌, Option, Some, None}
use Rattle.std.proofs.Common.{List, [], ◌∷◌, ◌++◌, length, get_or, refl, sym, ap, subst, ◌∙◌, arith}
use Rattle.std.specs.Prelude.{All, AllPairs, Contains, IsSome, filter}
use Rattle.std.proofs.lemmas.Bool.{cases_eq, eq-eqb, ne_eqb, false≢true}
use Rattle.std.proofs.lemmas.Bool.Decides.{nat_tests}
use Rattle.std.proofs.lemmas.List.Elements.{All-weaker, All-contains, Contains-append_right, filter_passes}
use Rattle.std.proofs.lemmas.List.Kept.{AllPairs-cons, AllPairs-filter}
use Rattle.member_rules.specs.declared.operation.Op.{Op}
use Rattle.member_rules.specs.declared.operation.Op.TheVariants.{Add, Change, Remove, Set}
use Rattle.member_rules.specs.Fold.{fold_of, last_naming, made}
use Rattle.member_rules.specs.History.{AreFollowing, Fits}
use Rattle.member_rules.specs.Operation.{member_of, names}
use Rattle.member_rules.specs.Recent.{recent_members}
use Rattle.member_rules.proofs.FoldLemmas.{by_operations, last_naming-push, made-push}
use Rattle.member_rules.proofs.RecentLemmas.{recent_members-push, touched_by}
use Rattle.member_rules.proofs.StateLemmas.{AreMembers-of, live_within}
use Rattle.recency_list.specs.Recency.{without}
use Rattle.service_face.specs.Listing.{IsNewestFirst, is_live, listed_members}

-- each member of the order was named later than those after it
abbrev Newer : List Op → ℕ → ℕ → Type 0
Newer history newer older = last_naming older history < last_naming newer history

-- the operation that last named a member is one of the history
last_naming-within : (number : ℕ) (history : List Op) → last_naming number history ≤ length history
last_naming-within number [] = omega arith
last_naming-within number (operation ∷ later) =
    one (names number operation) (last_naming number later) (length later) (last_naming-within number later)
  where
    one : (named : Bool) (behind size : ℕ) → behind ≤ size
        → (if behind == 0 then (if named then 1 else 0) else behind + 1) ≤ suc size
    one true behind size within = grind (arith, nat_tests)
    one false behind size within = grind (arith, nat_tests)

-- after one more operation, a member that it doesn't name has the same last operation
unnamed : (history : List Op) (operation : Op) (number : ℕ) → names number operation ≡ false
    → last_naming number (history ++ operation ∷ []) ≡ last_naming number history
unnamed history operation number e =
    last_naming-push number history operation
    ∙ ap (λ b. if b then length history + 1 else last_naming number history) e

named : (history : List Op) (operation : Op) (number : ℕ) → names number operation ≡ true
    → last_naming number (history ++ operation ∷ []) ≡ length history + 1
named history operation number e =
    last_naming-push number history operation
    ∙ ap (λ b. if b then length history + 1 else last_naming number history) e

-- whether the operation that names this member names another
names-is : (operation : Op) (member : Option ℕ) (number : ℕ) → member_of operation ≡ member
    → names number operation ≡ elim member as (λ _. Bool) [ None ↦ false | Some other ↦ other == number ]
names-is operation member number is =
    ap (λ (m : Option ℕ). elim m as (λ _. Bool) [ None ↦ false | Some other ↦ other == number ]) is

-- the order after one more operation
falling-push : (history : List Op) (operation : Op) (member : Option ℕ) (list : List ℕ) → member_of operation ≡ member
    → AllPairs (Newer history) list → AllPairs (Newer (history ++ operation ∷ [])) (touched_by member list)
falling-push history operation None list is falling = λ i j d before inside.
    let same = λ (number : ℕ). unnamed history operation number (names-is operation None number is) in
    rw (same (get_or list i d), same (get_or list j d)) (falling i j d before inside)
falling-push history operation (Some number) list is falling =
    AllPairs-cons (Newer (history ++ operation ∷ [])) number (without number list) older rest
  where
    passes : All (λ (other : ℕ). not (number == other) ≡ true) (without number list)
    passes = filter_passes (λ (other : ℕ). not (number == other)) list

    same : (other : ℕ) → not (number == other) ≡ true
        → last_naming other (history ++ operation ∷ []) ≡ last_naming other history
    same other apart = unnamed history operation other
        (names-is operation (Some number) other is ∙ not_true (number == other) apart)
      where
        not_true : (b : Bool) → not b ≡ true → b ≡ false
        not_true true e = absurd (false≢true e)
        not_true false e = refl

    older : All (Newer (history ++ operation ∷ []) number) (without number list)
    older = All-weaker (λ (other : ℕ). not (number == other) ≡ true) (Newer (history ++ operation ∷ []) number)
        (λ other apart.
        let mine = named history operation number (names-is operation (Some number) number is ∙ eq-eqb number number refl)
        in omega (arith, mine, same other apart, last_naming-within other history))
        (without number list) passes

    rest : AllPairs (Newer (history ++ operation ∷ [])) (without number list)
    rest = λ i j d before inside.
        let fell = AllPairs-filter (Newer history) (λ (other : ℕ). not (number == other)) list falling i j d before inside
        in
        omega (
          arith,
          fell,
          same (get_or (without number list) i d) (passes i d (omega arith)),
          same (get_or (without number list) j d) (passes j d inside),
        )

none_falling : AllPairs (Newer []) (recent_members [])
unfolding recent_members
none_falling = λ i j d before inside. absurd (omega arith)

falling : (created : ℤ) (history : List Op) → AreFollowing created history
    → AllPairs (Newer history) (recent_members history)
falling created history following =
    by_operations created (λ past. AllPairs (Newer past) (recent_members past)) none_falling
    (λ past operation before follows fell.
    subst (AllPairs (Newer (past ++ operation ∷ []))) (sym (recent_members-push past operation))
    (falling-push past operation (member_of operation) (recent_members past) refl fell))
    history following

-- what a filter keeps
Contains-filter : (test : ℕ → Bool) (number : ℕ) (list : List ℕ) → test number ≡ true → Contains list number
    → Contains (filter test list) number
Contains-filter test number list passes there = go list there.0 there.1 there.2
  where
    go : (list : List ℕ) (k : ℕ) → k < length list → get_or list k number ≡ number
        → Contains (filter test list) number
    go [] k inside at = absurd (omega arith)
    go (first ∷ rest) zero inside at = rw (ap test at ∙ passes) (0, omega arith, at)
    go (first ∷ rest) (suc k) inside at = keep (test first) (go rest k (omega arith) at)
      where
        keep : (kept : Bool) → Contains (filter test rest) number
            → Contains (if kept then first ∷ filter test rest else filter test rest) number
        keep true later = Contains-append_right (first ∷ []) (filter test rest) number later
        keep false later = later

Contains-touched_by : (member : Option ℕ) (number : ℕ) (list : List ℕ) → (member ≢ Some number → Contains list number)
    → Contains (touched_by member list) number
Contains-touched_by None number list there = there (λ e. absurd cc)
Contains-touched_by (Some first) number list there = elim (cases_eq first number) [
  | inl same ↦ (0, omega arith, same)
  | inr other ↦ Contains-append_right (first ∷ []) (without first list) number
      (Contains-filter (λ (k : ℕ). not (first == k)) number list (ap not (ne_eqb first number other))
      (there (λ e. other (cc))))
]

-- each member that was made is in the order
abbrev IsListed : List Op → Type 0
IsListed history = (number : ℕ) → 1 ≤ number → number ≤ made history → Contains (recent_members history) number

-- a member that one more operation doesn't name was made before
made_before : (history : List Op) (operation : Op) (number : ℕ) → Fits history operation
    → number ≤ made (history ++ operation ∷ []) → member_of operation ≢ Some number → number ≤ made history
made_before history (Add entry) number fits within other =
    let more : made (history ++ Add entry ∷ []) ≡ made history + 1 = made-push history (Add entry) in
    let apart : entry.number ≢ number = λ e. other (ap (λ (n : ℕ). Some n) e) in
    omega (arith, fits)
made_before history (Change entry) number fits within other =
    let more : made (history ++ Change entry ∷ []) ≡ made history + 0 = made-push history (Change entry) in omega arith
made_before history (Remove removal) number fits within other =
    let more : made (history ++ Remove removal ∷ []) ≡ made history + 0 = made-push history (Remove removal) in
    omega arith
made_before history (Set setting moment) number fits within other =
    let more : made (history ++ Set setting moment ∷ []) ≡ made history + 0 = made-push history (Set setting moment) in
    omega arith

listed : (created : ℤ) (history : List Op) → AreFollowing created history → IsListed history
listed created history following =
    by_operations created IsListed (λ number from to. absurd (omega arith))
    (λ past operation before follows there number from to.
    subst (λ (list : List ℕ). Contains list number) (sym (recent_members-push past operation))
    (Contains-touched_by (member_of operation) number (recent_members past)
    (λ other. there number from (made_before past operation number follows.fits to other))))
    history following

pub newest_first : (created : ℤ) (history : List Op) → AreFollowing created history
    → IsNewestFirst history (listed_members history)
unfolding listed_members
newest_first created history following = record {
  live = λ number. (shown number, shows number);
  falling = AllPairs-filter (Newer history) (is_live history) (recent_members history) (falling created history following);
}
  where
    shown : (number : ℕ) → Contains (filter (is_live history) (recent_members history)) number
        → IsSome ((fold_of history).live number)
    shown number contained = All-contains (λ (n : ℕ). is_live history n ≡ true) (filter (is_live history) (recent_members history)) number
        (filter_passes (is_live history) (recent_members history)) contained

    shows : (number : ℕ) → IsSome ((fold_of history).live number)
        → Contains (filter (is_live history) (recent_members history)) number
    shows number some =
        let within = live_within (fold_of history) (made history) number (AreMembers-of created history following) some in
        Contains-filter (is_live history) number (recent_members history) some
        (listed created history following number within.0 within.1)
