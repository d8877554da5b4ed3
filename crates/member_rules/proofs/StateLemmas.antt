-- The state of each member in a history, after one more operation.
use Rattle.std.proofs.Common.{◌≡◌, ◌≢◌, inl, inr, ℕ, zero, suc, ◌+◌, ◌<◌, ◌≤◌, ℤ, Bool, true, false, not, if◌then◌else◌}
use Rattle.std.proofs.Common.{◌==◌, Option, Some, None, option_map, List, [], ◌∷◌, ◌++◌, length}
use Rattle.std.proofs.Common.{IsSomeAnd, true≢false, refl, sym, ap, ap₂, subst, ◌∙◌, arith}
use Rattle.std.specs.Prelude.{is_some, unwrap_or}
use Rattle.std.proofs.lemmas.Bool.{cases_lt, cases_eq}
use Rattle.std.proofs.lemmas.Bool.Decides.{nat_tests}
use Rattle.atom_values.specs.Entry.{EntryValue}
use Rattle.deleted_entries.specs.Item.{item_number}
use Rattle.deleted_entries.specs.declared.item.Item.{Item}
use Rattle.deleted_entries.specs.declared.item.Item.TheVariants.{Kept, Gone}
use Rattle.member_rules.specs.declared.operation.Op.{Op}
use Rattle.member_rules.specs.declared.operation.Op.TheVariants.{Add, Change, Remove, Set}
use Rattle.member_rules.specs.declared.state.State.{State}
use Rattle.member_rules.specs.declared.state.State.TheVariants.{Never, Live, Gone as Deleted}
use Rattle.member_rules.specs.Operation.{item_of, makes, names}
use Rattle.member_rules.specs.Fold.{Fold, set, no_members, with_item, after_operation, fold_of, made, last_naming}
use Rattle.member_rules.specs.Fold.{state_by, state_of}
use Rattle.member_rules.specs.History.{AreFollowing, Fits}
use Rattle.member_rules.proofs.FoldLemmas.{fold_of-push, made-push, last_naming-push, by_operations}

pub set-same : {A : Type 0} (number : ℕ) (value : Option A) (map : ℕ → Option A) → set number value map number ≡ value
set-same number value map = grind (arith, nat_tests)

pub set-other : {A : Type 0} (number other : ℕ) (value : Option A) (map : ℕ → Option A) → (other == number) ≡ false
    → set number value map other ≡ map other
set-other number other value map e = rw e refl

-- an item leaves the members of other numbers
pub live-other : (members : Fold) (item : Item) (number : ℕ) → (item_number item == number) ≡ false
    → (with_item members item).live number ≡ members.live number
live-other members (Kept entry) number e = let f : (number == entry.number) ≡ false =
    grind (arith, nat_tests) in rw f refl
live-other members (Gone tombstone) number e = let f : (number == tombstone.number) ≡ false =
    grind (arith, nat_tests) in rw f refl

pub gone-other : (members : Fold) (item : Item) (number : ℕ) → (item_number item == number) ≡ false
    → (with_item members item).gone number ≡ members.gone number
gone-other members (Kept entry) number e = refl
gone-other members (Gone tombstone) number e = let f : (number == tombstone.number) ≡ false =
    grind (arith, nat_tests) in rw f refl

-- and so does an operation that doesn't name them
named_not : (item : Option Item) (members : Fold) (number : ℕ)
    → (elim (option_map item_number item) as (λ _. Bool) [ None ↦ false | Some other ↦ other == number ]) ≡ false
    → ((unwrap_or (option_map (with_item members) item) members).live number ≡ members.live number)
    × ((unwrap_or (option_map (with_item members) item) members).gone number ≡ members.gone number)
named_not None members number e = (refl, refl)
named_not (Some item) members number e = (live-other members item number e, gone-other members item number e)

pub unnamed : (members : Fold) (operation : Op) (number : ℕ) → names number operation ≡ false
    → ((after_operation members operation).live number ≡ members.live number)
    × ((after_operation members operation).gone number ≡ members.gone number)
unnamed members operation number e = named_not (item_of operation) members number e

-- a member that the operation doesn't name stays what it is
pub state_of-push-other : (history : List Op) (operation : Op) (number : ℕ) → names number operation ≡ false
    → state_of (history ++ operation ∷ []) number ≡ state_of history number
unfolding state_of
state_of-push-other history operation number e =
    let same = unnamed (fold_of history) operation number e in
    let maps = fold_of-push history operation in
    let gone : (fold_of (history ++ operation ∷ [])).gone number ≡ (fold_of history).gone number =
    ap (λ (m : Fold). m.gone number) maps ∙ same.1 in
    let live : (fold_of (history ++ operation ∷ [])).live number ≡ (fold_of history).live number =
    ap (λ (m : Fold). m.live number) maps ∙ same.0 in
    let version : last_naming number (history ++ operation ∷ []) ≡ last_naming number history =
    last_naming-push number history operation ∙ ap
    (λ b. if b then length history + 1 else last_naming number history) e in
    by_parts gone live version
  where
    by_parts : {g g' : Option ℤ} → {l l' : Option EntryValue} → {v v' : ℕ} → g ≡ g' → l ≡ l' → v ≡ v'
        → state_by g l v ≡ state_by g' l' v'
    by_parts eg el ev = λ i. state_by (eg i) (el i) (ev i)

-- the state of a member whose item is this one since this version
abbrev pub state_with : Item → ℕ → State
state_with (Kept entry) version = Live entry.updated version
state_with (Gone tombstone) version = Deleted tombstone.when

state_by-item : (members : Fold) (item : Item) (version : ℕ) → members.gone (item_number item) ≡ None
    → state_by ((with_item members item).gone (item_number item)) ((with_item members item).live (item_number item))
    version ≡ state_with item version
state_by-item members (Kept entry) version absent = rw (absent, set-same entry.number (Some entry) members.live) refl
state_by-item members (Gone tombstone) version absent =
    rw (set-same tombstone.number (Some tombstone.when) members.gone) refl

-- the member that it names is what its item says, unless the member was gone
pub state_of-push-item : (history : List Op) (operation : Op) (item : Item) → item_of operation ≡ Some item
    → (fold_of history).gone (item_number item) ≡ None
    → state_of (history ++ operation ∷ []) (item_number item) ≡ state_with item (length history + 1)
unfolding state_of
state_of-push-item history operation item is absent =
    let number = item_number item in
    let maps : fold_of (history ++ operation ∷ []) ≡ with_item (fold_of history) item =
    fold_of-push history operation ∙ ap (λ o. unwrap_or (option_map (with_item (fold_of history)) o) (fold_of history))
    is in
    let named : names number operation ≡ true =
    ap (λ (o : Option Item). elim (option_map item_number o) as (λ _. Bool)
    [ None ↦ false | Some other ↦ other == number ]) is ∙ grind (arith, nat_tests) in
    let version : last_naming number (history ++ operation ∷ []) ≡ length history + 1 =
    last_naming-push number history operation ∙ ap
    (λ b. if b then length history + 1 else last_naming number history) named in
    ap₂ (λ (m : Fold) (v : ℕ). state_by (m.gone number) (m.live number) v) maps version
    ∙ state_by-item (fold_of history) item (length history + 1) absent

-- the members of a history: up to the last one made each is live or gone and not both, and no other number is a
-- member's
pub record AreMembers (members : Fold) (count : ℕ) : Type 0 where
  pub each : (number : ℕ) → 1 ≤ number → number ≤ count
      → is_some (members.live number) ≡ not (is_some (members.gone number))
  pub none_zero : (members.live 0 ≡ None) × (members.gone 0 ≡ None)
  pub none_past : (number : ℕ) → count < number → (members.live number ≡ None) × (members.gone number ≡ None)

nobody : AreMembers no_members 0
nobody = record {
  each = λ number from to. absurd (omega arith);
  none_zero = (refl, refl);
  none_past = λ number past. (refl, refl);
}

-- a member that is live is one of those made, and isn't gone
pub live_within : (members : Fold) (count number : ℕ) → AreMembers members count → is_some (members.live number) ≡ true
    → (1 ≤ number) × (number ≤ count) × (members.gone number ≡ None)
live_within members count zero are live = absurd (true≢false (sym live ∙ ap is_some are.none_zero.0))
live_within members count (suc n) are live = elim (cases_lt count (suc n)) [
  | inl past ↦ absurd (true≢false (sym live ∙ ap is_some (are.none_past (suc n) past).0))
  | inr within ↦ (
    omega arith,
    within,
    not_gone (members.gone (suc n))
        (sym live ∙ are.each (suc n) (omega arith) within),
  )
]
  where
    not_gone : (gone : Option ℤ) → true ≡ not (is_some gone) → gone ≡ None
    not_gone None e = refl
    not_gone (Some when) e = absurd (true≢false e)

pub differ : (a b : ℕ) → a ≢ b → (a == b) ≡ false
differ a b e = grind (arith, nat_tests)

-- both maps at a number of another member
other_item : (members : Fold) (item : Item) (number : ℕ) → item_number item ≢ number
    → ((with_item members item).live number ≡ members.live number)
    × ((with_item members item).gone number ≡ members.gone number)
other_item members item number ne = (
  live-other members item number (differ (item_number item) number ne),
  gone-other members item number (differ (item_number item) number ne),
)

-- each number but the item's is as before, and so are all where the item's is right
with_each : (members : Fold) (item : Item) (number : ℕ)
    → (item_number item ≢ number → is_some (members.live number) ≡ not (is_some (members.gone number)))
    → (item_number item ≡ number → is_some ((with_item members item).live number)
    ≡ not (is_some ((with_item members item).gone number)))
    → is_some ((with_item members item).live number) ≡ not (is_some ((with_item members item).gone number))
with_each members item number apart here = elim (cases_eq (item_number item) number) [
  | inl same ↦ here same
  | inr ne ↦ let other = other_item members item number ne in ap is_some other.0 ∙ apart ne
      ∙ ap (λ (o : Option ℤ). not (is_some o)) (sym other.1)
]

with_none : (members : Fold) (item : Item) (number : ℕ) → item_number item ≢ number
    → (members.live number ≡ None) × (members.gone number ≡ None)
    → ((with_item members item).live number ≡ None) × ((with_item members item).gone number ≡ None)
with_none members item number ne none = let other =
    other_item members item number ne in (other.0 ∙ none.0, other.1 ∙ none.1)

-- the item's own number, of a member that isn't gone
with_own : (members : Fold) (item : Item) → members.gone (item_number item) ≡ None
    → is_some ((with_item members item).live (item_number item))
    ≡ not (is_some ((with_item members item).gone (item_number item)))
with_own members (Kept entry) absent = rw (absent, set-same entry.number (Some entry) members.live) refl
with_own members (Gone tombstone) absent = rw
    (set-same tombstone.number None members.live, set-same tombstone.number (Some tombstone.when) members.gone) refl

with_own_at : (members : Fold) (item : Item) (number : ℕ) → members.gone number ≡ None → item_number item ≡ number
    → is_some ((with_item members item).live number) ≡ not (is_some ((with_item members item).gone number))
with_own_at members item number absent same =
    subst (λ (n : ℕ). is_some ((with_item members item).live n) ≡ not (is_some ((with_item members item).gone n))) same
    (with_own members item (ap members.gone same ∙ absent))

-- the same members with one more
one_more : (members : Fold) (count : ℕ) (item : Item) → AreMembers members count → item_number item ≡ count + 1
    → AreMembers (with_item members item) (count + 1)
one_more members count item are next = record {
  each = λ number from to. with_each members item number
      (λ ne. are.each number from (omega arith))
      (λ same. with_own_at members item number (are.none_past number (omega arith)).1 same);
  none_zero = with_none members item 0 (omega arith) are.none_zero;
  none_past = λ number past. with_none members item number (omega arith) (are.none_past number (omega arith));
}

-- an item of one of the live members
one_same : (members : Fold) (count : ℕ) (item : Item) → AreMembers members count
    → is_some (members.live (item_number item)) ≡ true → AreMembers (with_item members item) count
one_same members count item are live =
    let within = live_within members count (item_number item) are live in
    let from : 1 ≤ item_number item = within.0 in
    let to : item_number item ≤ count = within.1 in
    record {
      each = λ number low high. with_each members item number
          (λ ne. are.each number low high)
          (λ same. with_own_at members item number (ap members.gone (sym same) ∙ within.2) same);
      none_zero = with_none members item 0 (omega arith) are.none_zero;
      none_past = λ number past. with_none members item number (omega arith) (are.none_past number past);
    }

pub is_there : {A : Type 0} (o : Option A) (P : A → Type 0) → IsSomeAnd o P → is_some o ≡ true
is_there None P h = absurd h
is_there (Some x) P h = refl

-- one more operation that fits
AreMembers-step : (history : List Op) (operation : Op) → AreMembers (fold_of history) (made history)
    → Fits history operation
    → AreMembers (after_operation (fold_of history) operation) (made history + (if makes operation then 1 else 0))
AreMembers-step history (Add entry) are fits = one_more (fold_of history) (made history) (Kept entry) are fits
AreMembers-step history (Change entry) are fits =
    let same : made history + 0 ≡ made history = omega arith in
    rw same (one_same (fold_of history) (made history) (Kept entry) are
    (is_there ((fold_of history).live entry.number) _ fits))
AreMembers-step history (Remove removal) are fits =
    let same : made history + 0 ≡ made history = omega arith in
    rw same (one_same (fold_of history) (made history) (Gone removal.tombstone) are
    (is_there ((fold_of history).live removal.tombstone.number) _ fits))
AreMembers-step history (Set setting moment) are fits =
    let same : made history + 0 ≡ made history = omega arith in rw same are

pub AreMembers-push : (history : List Op) (operation : Op) → AreMembers (fold_of history) (made history)
    → Fits history operation
    → AreMembers (fold_of (history ++ operation ∷ [])) (made (history ++ operation ∷ []))
AreMembers-push history operation are fits = rw (fold_of-push history operation, made-push history operation)
    (AreMembers-step history operation are fits)

nobody_yet : AreMembers (fold_of []) (made [])
unfolding fold_of
nobody_yet = nobody

-- the members of a history in which each operation may follow those before it
pub AreMembers-of : (created : ℤ) (history : List Op) → AreFollowing created history
    → AreMembers (fold_of history) (made history)
AreMembers-of created history following =
    by_operations created (λ past. AreMembers (fold_of past) (made past)) nobody_yet
    (λ past operation before follows are. AreMembers-push past operation are follows.fits) history following

-- a number that is 0 or past the last member made was never a member's
pub state_of-none : (history : List Op) (number : ℕ)
    → ((fold_of history).live number ≡ None) × ((fold_of history).gone number ≡ None) → state_of history number ≡ Never
unfolding state_of
state_of-none history number none = rw (none.1, none.0) refl

pub state_of-zero : (created : ℤ) (history : List Op) → AreFollowing created history → state_of history 0 ≡ Never
state_of-zero created history following = state_of-none history 0 (AreMembers-of created history following).none_zero

pub state_of-past : (created : ℤ) (history : List Op) (number : ℕ) → AreFollowing created history
    → made history < number → state_of history number ≡ Never
state_of-past created history number following past =
    state_of-none history number ((AreMembers-of created history following).none_past number past)
