-- The table after one more operation.
use Rattle.std.proofs.Common.{◌≡◌, ◌≢◌, inl, inr, ℕ, zero, suc, ◌+◌, ◌-◌, ◌<◌, ◌≤◌, ℤ, ◌≤ℤ◌, Bool, true, false}
use Rattle.std.proofs.Common.{if◌then◌else◌, ◌==◌, Option, Some, None, option_map, List, [], ◌∷◌, ◌++◌, length}
use Rattle.std.proofs.Common.{slice_get, slice_set, IsSomeAnd, length-append, length-set, refl, sym, ap, ap₂, subst}
use Rattle.std.proofs.Common.{◌∙◌, arith}
use Rattle.std.specs.Prelude.{is_some, unwrap_or, IfSome}
use Rattle.std.proofs.lemmas.Bool.{cases_eq, cases_lt}
use Rattle.std.proofs.lemmas.Option.{IfSome_then}
use Rattle.atom_values.specs.Entry.{EntryValue}
use Rattle.deleted_entries.specs.Item.{item_number}
use Rattle.deleted_entries.specs.declared.item.Item.{Item}
use Rattle.deleted_entries.specs.declared.item.Item.TheVariants.{Kept, Gone}
use Rattle.member_rules.specs.declared.operation.Op.{Op}
use Rattle.member_rules.specs.declared.operation.Op.TheVariants.{Add, Change, Remove, Set}
use Rattle.member_rules.specs.declared.state.State.{State}
use Rattle.member_rules.specs.declared.state.State.TheVariants.{Live, Gone as Deleted}
use Rattle.member_rules.specs.declared.setting.Setting.{Setting}
use Rattle.member_rules.specs.Removal.{RemovalValue}
use Rattle.member_rules.specs.Operation.{item_of, member_of, names, moment_of}
use Rattle.member_rules.specs.Fold.{Fold, with_item, fold_of, made, last_moment, last_naming, live_count, state_by}
use Rattle.member_rules.specs.Fold.{state_of, count_up_to}
use Rattle.member_rules.specs.History.{AreFollowing, MayFollow, Fits, later_of}
use Rattle.member_rules.specs.Table.{Table, IsTableOf, MayCommit}
use Rattle.member_rules.proofs.FoldLemmas.{fold_of-push, made-push, made-push-le, last_moment-push, get-push}
use Rattle.member_rules.proofs.FoldLemmas.{AreFollowing-push, get-push-other}
use Rattle.member_rules.proofs.StateLemmas.{AreMembers-of, live_within, state_with, state_of-push-item}
use Rattle.member_rules.proofs.StateLemmas.{state_of-push-other, unnamed, is_there, differ, set-same, set-other}
use Rattle.member_rules.proofs.LiveCountLemmas.{count-same, count-more, count-less}
use Rattle.member_rules.proofs.RecentLemmas.{named_made, recent_members-push, touched_by}

-- a live state of a member comes from its live entry
state_live : (gone : Option ℤ) (live : Option EntryValue) (version version' : ℕ) (updated : ℤ)
    → state_by gone live version ≡ Live updated version'
    → (stored : EntryValue) × (live ≡ Some stored) × (stored.updated ≡ updated) × (gone ≡ None)
state_live (Some when) live version version' updated e = absurd (cc)
state_live None None version version' updated e = absurd (cc)
state_live None (Some stored) version version' updated e = (stored, refl, (cc), refl)

pub live_of_state : (history : List Op) (number version : ℕ) (updated : ℤ)
    → state_of history number ≡ Live updated version
    → (stored : EntryValue) × ((fold_of history).live number ≡ Some stored) × (stored.updated ≡ updated)
    × ((fold_of history).gone number ≡ None)
unfolding state_of
live_of_state history number version updated e =
    state_live ((fold_of history).gone number) ((fold_of history).live number) (last_naming number history) version
    updated e

pub state_of_live : (history : List Op) (number : ℕ) (stored : EntryValue)
    → (fold_of history).live number ≡ Some stored → (fold_of history).gone number ≡ None
    → state_of history number ≡ Live stored.updated (last_naming number history)
unfolding state_of
state_of_live history number stored live gone = rw (gone, live) refl

-- two histories of one table have the same states
same_states : (table : Table) (created other : ℤ) (history past : List Op) (number : ℕ)
    → IsTableOf table created history → IsTableOf table other past → 1 ≤ number → number ≤ made past
    → state_of past number ≡ state_of history number
same_states table created other history past number of also from to =
    let inside : number - 1 < length table.states = omega (arith, also.count) in
    let here : number - 1 + 1 ≡ number = omega arith in
    let both : Some (state_of past (number - 1 + 1)) ≡ Some (state_of history (number - 1 + 1)) =
    sym (also.states (number - 1) inside) ∙ of.states (number - 1) inside in
    let same : state_of past (number - 1 + 1) ≡ state_of history (number - 1 + 1) = cc in
    rw here at same

at_some : {A : Type 0} (o : Option A) (P : A → Type 0) → IsSomeAnd o P → (x : A) × (o ≡ Some x) × P x
at_some None P h = absurd h
at_some (Some x) P h = (x, refl, h)

-- so what is said of a live member's `updated` in one of them holds in the other
same_live : (table : Table) (created other : ℤ) (history past : List Op) (number : ℕ) (P : ℤ → Type 0)
    → IsTableOf table created history → IsTableOf table other past
    → IsSomeAnd ((fold_of past).live number) (λ stored. P stored.updated)
    → IsSomeAnd ((fold_of history).live number) (λ stored. P stored.updated)
same_live table created other history past number P of also fits =
    let was = at_some ((fold_of past).live number) (λ stored. P stored.updated) fits in
    let within = live_within (fold_of past) (made past) number (AreMembers-of other past also.following)
    (ap is_some was.1) in
    let state = sym (same_states table created other history past number of also within.0 within.1)
    ∙ state_of_live past number was.0 was.1 within.2 in
    let is = live_of_state history number (last_naming number past) was.0.updated state in
    subst (λ (o : Option EntryValue). IsSomeAnd o (λ stored. P stored.updated)) (sym is.1) (subst P (sym is.2) was.2)

fits_along : (table : Table) (created other : ℤ) (history past : List Op) (operation : Op)
    → IsTableOf table created history → IsTableOf table other past → Fits past operation → Fits history operation
fits_along table created other history past (Add entry) of also fits = omega (arith, of.count, also.count, fits)
fits_along table created other history past (Change entry) of also fits =
    same_live table created other history past entry.number (λ u. u ≤ℤ entry.updated) of also fits
fits_along table created other history past (Remove removal) of also fits =
    same_live table created other history past removal.tombstone.number
    (λ u. removal.tombstone.when ≡ later_of removal.moment u) of also fits
fits_along table created other history past (Set setting moment) of also fits = tt

-- an operation that may follow one history of a table may follow each
pub MayFollow-along : (table : Table) (created other : ℤ) (history past : List Op) (operation : Op)
    → IsTableOf table created history → IsTableOf table other past → MayFollow other past operation
    → MayFollow created history operation
MayFollow-along table created other history past operation of also follows = record {
  later = let same : last_moment created history ≡ last_moment other past =
      sym of.last ∙ also.last in rw same follows.later;
  fits = fits_along table created other history past operation of also follows.fits;
}

get-set : {A : Type 0} (list : List A) (k : ℕ) (item : A) → k < length list
    → slice_get (slice_set list k item) k ≡ Some item
get-set [] k item inside = absurd (omega arith)
get-set (first ∷ rest) zero item inside = refl
get-set (first ∷ rest) (suc k) item inside = get-set rest k item (omega arith)

get-set-other : {A : Type 0} (list : List A) (at k : ℕ) (item : A) → k ≢ at
    → slice_get (slice_set list at item) k ≡ slice_get list k
get-set-other [] at k item ne = refl
get-set-other (first ∷ rest) zero zero item ne = absurd (ne refl)
get-set-other (first ∷ rest) zero (suc k) item ne = refl
get-set-other (first ∷ rest) (suc at) zero item ne = refl
get-set-other (first ∷ rest) (suc at) (suc k) item ne = get-set-other rest at k item (omega arith)

-- an operation that names one member doesn't name others
names_not : (operation : Op) (item : Item) (number : ℕ) → item_of operation ≡ Some item → item_number item ≢ number
    → names number operation ≡ false
names_not operation item number is ne =
    ap (λ (o : Option Item). elim (option_map item_number o) as (λ _. Bool)
    [ None ↦ false | Some other ↦ other == number ]) is ∙ differ (item_number item) number ne

-- the states are those of a history
abbrev AreStates : List State → List Op → Type 0
AreStates states history = (k : ℕ) → k < length states → slice_get states k ≡ Some (state_of history (k + 1))

-- the state of the member that is named, at its place
states_put : (history : List Op) (operation : Op) (item : Item) (states : List State) → item_of operation ≡ Some item
    → (fold_of history).gone (item_number item) ≡ None
    → 1 ≤ item_number item → item_number item ≤ length states → AreStates states history
    → AreStates (slice_set states (item_number item - 1) (state_with item (length history + 1)))
    (history ++ operation ∷ [])
states_put history operation item states is absent from to are k inside =
    let at = item_number item - 1 in
    let size : length (slice_set states at (state_with item (length history + 1))) ≡ length states =
    length-set states at (state_with item (length history + 1)) in
    elim (cases_eq k at) [
      | inl here ↦
          let number : item_number item ≡ k + 1 = omega arith in
          let got : slice_get (slice_set states at (state_with item (length history + 1))) k
          ≡ Some (state_with item (length history + 1)) =
          ap (slice_get (slice_set states at (state_with item (length history + 1)))) here
          ∙ get-set states at (state_with item (length history + 1)) (omega arith) in
          got ∙ ap Some (sym (state_of-push-item history operation item is absent)
          ∙ ap (state_of (history ++ operation ∷ [])) number)
      | inr elsewhere ↦
          get-set-other states at k (state_with item (length history + 1)) elsewhere
          ∙ are k (omega (arith, size))
          ∙ ap Some (sym (state_of-push-other history operation (k + 1)
          (names_not operation item (k + 1) is (omega arith))))
    ]

-- the state of a new member, at the end
states_more : (history : List Op) (operation : Op) (item : Item) (states : List State) → item_of operation ≡ Some item
    → (fold_of history).gone (item_number item) ≡ None
    → item_number item ≡ length states + 1 → AreStates states history
    → AreStates (states ++ state_with item (length history + 1) ∷ []) (history ++ operation ∷ [])
states_more history operation item states is absent next are k inside = elim (cases_lt k (length states)) [
  | inl before ↦
      get-push-other states (state_with item (length history + 1)) k before
      ∙ are k before
      ∙ ap Some (sym (state_of-push-other history operation (k + 1)
      (names_not operation item (k + 1) is (omega arith))))
  | inr past ↦
      let here : k ≡ length states = omega (arith, length-append states (state_with item (length history + 1) ∷ [])) in
      let number : item_number item ≡ k + 1 = omega arith in
      ap (slice_get (states ++ state_with item (length history + 1) ∷ [])) here
      ∙ get-push states (state_with item (length history + 1))
      ∙ ap Some (sym (state_of-push-item history operation item is absent)
      ∙ ap (state_of (history ++ operation ∷ [])) number)
]

-- whether the others are live stays
others_live : (history : List Op) (operation : Op) (item : Item) (k : ℕ) → item_of operation ≡ Some item
    → item_number item ≢ k
    → is_some ((fold_of history).live k) ≡ is_some ((fold_of (history ++ operation ∷ [])).live k)
others_live history operation item k is ne =
    ap is_some (sym (unnamed (fold_of history) operation k (names_not operation item k is ne)).0)
    ∙ ap (λ (m : Fold). is_some (m.live k)) (sym (fold_of-push history operation))

-- the named member is live where its item is an entry
own_live : (history : List Op) (operation : Op) (item : Item) → item_of operation ≡ Some item
    → (fold_of (history ++ operation ∷ [])).live (item_number item)
    ≡ (with_item (fold_of history) item).live (item_number item)
own_live history operation item is =
    ap (λ (m : Fold). m.live (item_number item)) (fold_of-push history operation
    ∙ ap (λ o. unwrap_or (option_map (with_item (fold_of history)) o) (fold_of history)) is)

-- the `edited` of the live members of a history
abbrev AreEdited : List (Option ℤ) → List Op → Type 0
AreEdited edited history = (number : ℕ) (entry : EntryValue) → (fold_of history).live number ≡ Some entry
    → slice_get edited (number - 1) ≡ Some (Some entry.edited)

-- a member that the operation doesn't name was live with the same entry
live_before : (history : List Op) (operation : Op) (item : Item) (number : ℕ) (entry : EntryValue)
    → item_of operation ≡ Some item → item_number item ≢ number
    → (fold_of (history ++ operation ∷ [])).live number ≡ Some entry → (fold_of history).live number ≡ Some entry
live_before history operation item number entry is ne live =
    sym (unnamed (fold_of history) operation number (names_not operation item number is ne)).0
    ∙ ap (λ (m : Fold). m.live number) (sym (fold_of-push history operation))
    ∙ live

-- a list that has that of the operation's entry at its member's place, and is as before at the others
edited_kept : (created : ℤ) (history : List Op) (operation : Op) (entry : EntryValue) (edited new : List (Option ℤ))
    → item_of operation ≡ Some (Kept entry) → AreFollowing created history → length edited ≡ made history
    → 1 ≤ entry.number → slice_get new (entry.number - 1) ≡ Some (Some entry.edited)
    → ((k : ℕ) → k < length edited → k ≢ entry.number - 1 → slice_get new k ≡ slice_get edited k)
    → AreEdited edited history → AreEdited new (history ++ operation ∷ [])
edited_kept created history operation entry edited new is following size from own others are number stored live =
    elim (cases_eq entry.number number) [
      | inl same ↦
          let entry_is : Some entry ≡ Some stored =
          sym (own_live history operation (Kept entry) is ∙ set-same entry.number (Some entry) (fold_of history).live)
          ∙ ap (fold_of (history ++ operation ∷ [])).live same
          ∙ live in
          let stored_is : entry ≡ stored = cc in
          ap (λ (k : ℕ). slice_get new (k - 1)) (sym same)
          ∙ own
          ∙ ap (λ (e : EntryValue). Some (Some e.edited)) stored_is
      | inr ne ↦
          let was = live_before history operation (Kept entry) number stored is ne live in
          let within = live_within (fold_of history) (made history) number (AreMembers-of created history following)
          (ap is_some was) in
          others (number - 1) (omega (arith, within.0, within.1)) (omega (arith, within.0)) ∙ are number stored was
    ]

-- a list that is as before at the others than the removed member
edited_less : (created : ℤ) (history : List Op) (removal : RemovalValue) (edited new : List (Option ℤ))
    → AreFollowing created history → 1 ≤ removal.tombstone.number
    → ((k : ℕ) → k ≢ removal.tombstone.number - 1 → slice_get new k ≡ slice_get edited k)
    → AreEdited edited history → AreEdited new (history ++ Remove removal ∷ [])
edited_less created history removal edited new following from others are number stored live =
    elim (cases_eq removal.tombstone.number number) [
      | inl same ↦
          let none : None ≡ Some stored =
          sym (own_live history (Remove removal) (Gone removal.tombstone) refl
          ∙ set-same removal.tombstone.number None (fold_of history).live)
          ∙ ap (fold_of (history ++ Remove removal ∷ [])).live same
          ∙ live in
          absurd (cc)
      | inr ne ↦
          let was = live_before history (Remove removal) (Gone removal.tombstone) number stored refl ne live in
          let within = live_within (fold_of history) (made history) number (AreMembers-of created history following)
          (ap is_some was) in
          others (number - 1) (omega (arith, within.0)) ∙ are number stored was
    ]

-- the facts of a new table that don't follow from its states and their `edited`
pub record Commits (table new : Table) (operation : Op) : Type 0 where
  pub sizes : length table.edited ≡ length table.states
  pub recent : new.recent ≡ touched_by (member_of operation) table.recent
  pub last : new.last ≡ moment_of operation
  pub operations : new.operations ≡ table.operations + 1

-- a table after any operation that fits
after_any : (created : ℤ) (history : List Op) (operation : Op) (table new : Table) → IsTableOf table created history
    → MayFollow created history operation → Commits table new operation
    → length new.states ≡ made (history ++ operation ∷ []) → AreStates new.states (history ++ operation ∷ [])
    → AreEdited new.edited (history ++ operation ∷ [])
    → new.live ≡ live_count (history ++ operation ∷ []) → IsTableOf new created (history ++ operation ∷ [])
after_any created history operation table new of follows commits count states edited live = record {
  following = AreFollowing-push created history operation of.following follows;
  count = count;
  states = states;
  edited = edited;
  recent = commits.recent
      ∙ ap (touched_by (member_of operation)) of.recent
      ∙ sym (recent_members-push history operation);
  last = commits.last ∙ sym (last_moment-push created history operation);
  live = live;
  operations = omega (arith, commits.operations, of.operations, length-append history (operation ∷ []));
}

pub IsTableOf-add : (created : ℤ) (history : List Op) (entry : EntryValue) (table new : Table)
    → IsTableOf table created history → MayFollow created history (Add entry) → Commits table new (Add entry)
    → new.states ≡ table.states ++ Live entry.updated new.operations ∷ []
    → new.edited ≡ table.edited ++ Some entry.edited ∷ [] → new.live ≡ table.live + 1
    → IsTableOf new created (history ++ Add entry ∷ [])
IsTableOf-add created history entry table new of follows commits states edited live =
    let members = AreMembers-of created history of.following in
    let next : entry.number ≡ made history + 1 = follows.fits in
    let absent = (members.none_past entry.number (omega arith)).1 in
    let more : made (history ++ Add entry ∷ []) ≡ made history + 1 = made-push history (Add entry) in
    let version : new.operations ≡ length history + 1 = omega (arith, commits.operations, of.operations) in
    let pushed : new.states ≡ table.states ++ state_with (Kept entry) (length history + 1) ∷ [] =
    states ∙ ap (λ v. table.states ++ Live entry.updated v ∷ []) version in
    let after = (fold_of (history ++ Add entry ∷ [])).live in
    let here : is_some (after (made history + 1)) ≡ true =
    ap (λ (k : ℕ). is_some (after k)) (sym next) ∙ ap is_some
    (own_live history (Add entry) (Kept entry) refl ∙ set-same entry.number (Some entry) (fold_of history).live) in
    let counted : live_count (history ++ Add entry ∷ []) ≡ live_count history + 1 =
    ap (count_up_to after) more
    ∙ count-more (fold_of history).live after (made history)
    (λ k ne. others_live history (Add entry) (Kept entry) k refl (omega arith)) here in
    let size : length table.edited ≡ made history = commits.sizes ∙ of.count in
    let at : entry.number - 1 ≡ length table.edited = omega (arith, size) in
    after_any created history (Add entry) table new of follows commits
    (omega (
      arith,
      more,
      of.count,
      ap length states,
      length-append table.states (Live entry.updated new.operations ∷ []),
    ))
    (subst (λ (s : List State). AreStates s (history ++ Add entry ∷ [])) (sym pushed)
    (states_more history (Add entry) (Kept entry) table.states refl absent (omega (arith, of.count)) of.states))
    (subst (λ (e : List (Option ℤ)). AreEdited e (history ++ Add entry ∷ [])) (sym edited)
    (edited_kept created history (Add entry) entry table.edited (table.edited ++ Some entry.edited ∷ []) refl of.following
    size (omega arith)
    (ap (slice_get (table.edited ++ Some entry.edited ∷ [])) at ∙ get-push table.edited (Some entry.edited))
    (λ k inside ne. get-push-other table.edited (Some entry.edited) k inside) of.edited))
    (omega (arith, counted, live, of.live))

pub IsTableOf-change : (created : ℤ) (history : List Op) (entry : EntryValue) (table new : Table)
    → IsTableOf table created history → MayFollow created history (Change entry) → Commits table new (Change entry)
    → new.states ≡ slice_set table.states (entry.number - 1) (Live entry.updated new.operations)
    → new.edited ≡ slice_set table.edited (entry.number - 1) (Some entry.edited)
    → new.live ≡ table.live → IsTableOf new created (history ++ Change entry ∷ [])
IsTableOf-change created history entry table new of follows commits states edited live =
    let before = (fold_of history).live in
    let after = (fold_of (history ++ Change entry ∷ [])).live in
    let was : is_some (before entry.number) ≡ true = is_there (before entry.number) _ follows.fits in
    let within = live_within (fold_of history) (made history) entry.number (AreMembers-of created history of.following)
    was in
    let more : made (history ++ Change entry ∷ []) ≡ made history + 0 = made-push history (Change entry) in
    let version : new.operations ≡ length history + 1 = omega (arith, commits.operations, of.operations) in
    let put : new.states ≡ slice_set table.states (entry.number - 1) (state_with (Kept entry) (length history + 1)) =
    states ∙ ap (λ v. slice_set table.states (entry.number - 1) (Live entry.updated v)) version in
    let here : is_some (after entry.number) ≡ true =
    ap is_some (own_live history (Change entry) (Kept entry) refl ∙ set-same entry.number (Some entry) before) in
    let each : (k : ℕ) → is_some (before k) ≡ is_some (after k) = λ k. elim (cases_eq entry.number k) [
      | inl same ↦ subst (λ (n : ℕ). is_some (before n) ≡ is_some (after n)) same (was ∙ sym here)
      | inr ne ↦ others_live history (Change entry) (Kept entry) k refl ne
    ] in
    let none : made history + 0 ≡ made history = omega arith in
    let counted : live_count (history ++ Change entry ∷ []) ≡ live_count history =
    ap (count_up_to after) (more ∙ none) ∙ sym (count-same before after (made history) (λ k low high. each k)) in
    let size : length table.edited ≡ made history = commits.sizes ∙ of.count in
    after_any created history (Change entry) table new of follows commits
    (omega (
      arith,
      more,
      of.count,
      ap length states,
      length-set table.states (entry.number - 1) (Live entry.updated new.operations),
    ))
    (subst (λ (s : List State). AreStates s (history ++ Change entry ∷ [])) (sym put)
    (states_put history (Change entry) (Kept entry) table.states refl within.2 within.0
    (omega (arith, of.count, within.1)) of.states))
    (subst (λ (e : List (Option ℤ)). AreEdited e (history ++ Change entry ∷ [])) (sym edited)
    (edited_kept created history (Change entry) entry table.edited
    (slice_set table.edited (entry.number - 1) (Some entry.edited)) refl of.following size within.0
    (get-set table.edited (entry.number - 1) (Some entry.edited) (omega (arith, size, within.0, within.1)))
    (λ k inside ne. get-set-other table.edited (entry.number - 1) k (Some entry.edited) ne) of.edited))
    (live ∙ of.live ∙ sym counted)

-- a table of a history with a live member has a live one
pub live-pos : (created : ℤ) (history : List Op) (table : Table) (number : ℕ) → IsTableOf table created history
    → is_some ((fold_of history).live number) ≡ true → (1 ≤ table.live) × (1 ≤ number) × (number ≤ length table.states)
live-pos created history table number of live =
    let within = live_within (fold_of history) (made history) number (AreMembers-of created history of.following) live
    in
    let none : ℕ → Option EntryValue = λ k. if k == number then None else (fold_of history).live k in
    let less = count-less (fold_of history).live none (made history) number within.0 within.1 live
    (ap is_some (set-same number None (fold_of history).live))
    (λ k ne. ap is_some (sym (set-other number k None (fold_of history).live (differ k number ne)))) in
    (omega (arith, less, of.live), within.0, omega (arith, within.1, of.count))

pub IsTableOf-remove : (created : ℤ) (history : List Op) (removal : RemovalValue) (table new : Table)
    → IsTableOf table created history → MayFollow created history (Remove removal) → Commits table new (Remove removal)
    → new.states ≡ slice_set table.states (removal.tombstone.number - 1) (Deleted removal.tombstone.when)
    → new.edited ≡ slice_set table.edited (removal.tombstone.number - 1) None
    → new.live + 1 ≡ table.live → IsTableOf new created (history ++ Remove removal ∷ [])
IsTableOf-remove created history removal table new of follows commits states edited live =
    let number = removal.tombstone.number in
    let before = (fold_of history).live in
    let after = (fold_of (history ++ Remove removal ∷ [])).live in
    let was : is_some (before number) ≡ true = is_there (before number) _ follows.fits in
    let within = live_within (fold_of history) (made history) number (AreMembers-of created history of.following) was in
    let more : made (history ++ Remove removal ∷ []) ≡ made history + 0 = made-push history (Remove removal) in
    let here : is_some (after number) ≡ false = ap is_some
    (own_live history (Remove removal) (Gone removal.tombstone) refl ∙ set-same number None before) in
    let none : made history + 0 ≡ made history = omega arith in
    let counted : live_count history ≡ live_count (history ++ Remove removal ∷ []) + 1 =
    count-less before after (made history) number within.0 within.1 was here
    (λ k ne. others_live history (Remove removal) (Gone removal.tombstone) k refl (omega arith))
    ∙ ap (λ m. count_up_to after m + 1) (sym (more ∙ none)) in
    after_any created history (Remove removal) table new of follows commits
    (omega (
      arith,
      more,
      of.count,
      ap length states,
      length-set table.states (number - 1) (Deleted removal.tombstone.when),
    ))
    (subst (λ (s : List State). AreStates s (history ++ Remove removal ∷ [])) (sym states)
    (states_put history (Remove removal) (Gone removal.tombstone) table.states refl within.2 within.0
    (omega (arith, of.count, within.1)) of.states))
    (subst (λ (e : List (Option ℤ)). AreEdited e (history ++ Remove removal ∷ [])) (sym edited)
    (edited_less created history removal table.edited (slice_set table.edited (number - 1) None) of.following within.0
    (λ k ne. get-set-other table.edited (number - 1) k None ne) of.edited))
    (omega (arith, counted, live, of.live))

-- a setting changes no member
pub IsTableOf-set : (created : ℤ) (history : List Op) (setting : Setting) (moment : ℤ) (table new : Table)
    → IsTableOf table created history → MayFollow created history (Set setting moment)
    → Commits table new (Set setting moment) → new.states ≡ table.states → new.edited ≡ table.edited
    → new.live ≡ table.live → IsTableOf new created (history ++ Set setting moment ∷ [])
IsTableOf-set created history setting moment table new of follows commits states edited live =
    let maps : fold_of (history ++ Set setting moment ∷ []) ≡ fold_of history =
    fold_of-push history (Set setting moment) in
    let none : made history + 0 ≡ made history = omega arith in
    let count : made (history ++ Set setting moment ∷ []) ≡ made history =
    made-push history (Set setting moment) ∙ none in
    after_any created history (Set setting moment) table new of follows commits
    (ap length states ∙ of.count ∙ sym count)
    (subst (λ (s : List State). AreStates s (history ++ Set setting moment ∷ [])) (sym states)
    (λ k inside. of.states k inside
    ∙ ap Some (sym (state_of-push-other history (Set setting moment) (k + 1) refl))))
    (subst (λ (e : List (Option ℤ)). AreEdited e (history ++ Set setting moment ∷ [])) (sym edited)
    (λ number entry stored. of.edited number entry (ap (λ (m : Fold). m.live number) (sym maps) ∙ stored)))
    (live ∙ of.live ∙ sym (ap₂ (λ (m : Fold) (n : ℕ). count_up_to m.live n) maps count))

-- the same where the operation is known by an equation
along : (table : Table) (operation is : Op) (created : ℤ) (history : List Op) → operation ≡ is
    → MayCommit table operation → IsTableOf table created history → MayFollow created history is
along table operation is created history same may of =
    subst (MayFollow created history) same
    (MayFollow-along table created may.created history may.history operation of may.table_of may.follows)

pub commit-add : (table new : Table) (operation : Op) (entry : EntryValue) (created : ℤ) (history : List Op)
    → operation ≡ Add entry → MayCommit table operation → IsTableOf table created history
    → Commits table new operation
    → new.states ≡ table.states ++ Live entry.updated new.operations ∷ []
    → new.edited ≡ table.edited ++ Some entry.edited ∷ [] → new.live ≡ table.live + 1
    → IsTableOf new created (history ++ operation ∷ [])
commit-add table new operation entry created history is may of commits states edited live =
    subst (λ (o : Op). IsTableOf new created (history ++ o ∷ [])) (sym is)
    (IsTableOf-add created history entry table new of (along table operation (Add entry) created history is may of)
    (subst (Commits table new) is commits) states edited live)

pub commit-change : (table new : Table) (operation : Op) (entry : EntryValue) (created : ℤ) (history : List Op)
    → operation ≡ Change entry → MayCommit table operation → IsTableOf table created history
    → Commits table new operation
    → new.states ≡ slice_set table.states (entry.number - 1) (Live entry.updated new.operations)
    → new.edited ≡ slice_set table.edited (entry.number - 1) (Some entry.edited) → new.live ≡ table.live
    → IsTableOf new created (history ++ operation ∷ [])
commit-change table new operation entry created history is may of commits states edited live =
    subst (λ (o : Op). IsTableOf new created (history ++ o ∷ [])) (sym is)
    (IsTableOf-change created history entry table new of
    (along table operation (Change entry) created history is may of)
    (subst (Commits table new) is commits) states edited live)

pub commit-remove : (table new : Table) (operation : Op) (removal : RemovalValue) (created : ℤ) (history : List Op)
    → operation ≡ Remove removal → MayCommit table operation → IsTableOf table created history
    → Commits table new operation
    → new.states ≡ slice_set table.states (removal.tombstone.number - 1) (Deleted removal.tombstone.when)
    → new.edited ≡ slice_set table.edited (removal.tombstone.number - 1) None → new.live + 1 ≡ table.live
    → IsTableOf new created (history ++ operation ∷ [])
commit-remove table new operation removal created history is may of commits states edited live =
    subst (λ (o : Op). IsTableOf new created (history ++ o ∷ [])) (sym is)
    (IsTableOf-remove created history removal table new of
    (along table operation (Remove removal) created history is may of)
    (subst (Commits table new) is commits) states edited live)

pub commit-set : (table new : Table) (operation : Op) (setting : Setting) (moment created : ℤ) (history : List Op)
    → operation ≡ Set setting moment → MayCommit table operation → IsTableOf table created history
    → Commits table new operation → new.states ≡ table.states → new.edited ≡ table.edited → new.live ≡ table.live
    → IsTableOf new created (history ++ operation ∷ [])
commit-set table new operation setting moment created history is may of commits states edited live =
    subst (λ (o : Op). IsTableOf new created (history ++ o ∷ [])) (sym is)
    (IsTableOf-set created history setting moment table new of
    (along table operation (Set setting moment) created history is may of)
    (subst (Commits table new) is commits) states edited live)

-- there is a slot for the operation's member, which is one of those made or the next one
pub number-place : (table : Table) (operation : Op) → MayCommit table operation
    → IfSome (member_of operation) (λ number. number ≤ length table.states + 1)
number-place table operation may =
    let named = named_made may.created may.history operation may.table_of.following may.follows.fits in
    IfSome_then (member_of operation) named.0 (λ number within.
    omega (arith, within.1, made-push-le may.history operation, may.table_of.count))

-- a new member has the next number
pub add-number : (table : Table) (operation : Op) (entry : EntryValue) → operation ≡ Add entry
    → MayCommit table operation → member_of operation ≡ Some (length table.states + 1)
add-number table operation entry is may =
    let fits : Fits may.history (Add entry) = subst (λ (o : Op). Fits may.history o) is may.follows.fits in
    ap member_of is ∙ ap Some (fits ∙ ap (λ n. n + 1) (sym may.table_of.count))

-- a change has its member's place in the table, and a removal too
pub change-place : (table : Table) (operation : Op) (entry : EntryValue) → operation ≡ Change entry
    → MayCommit table operation → entry.number - 1 < length table.states
change-place table operation entry is may =
    let fits : Fits may.history (Change entry) = subst (λ (o : Op). Fits may.history o) is may.follows.fits in
    let within = live-pos may.created may.history table entry.number may.table_of
    (is_there ((fold_of may.history).live entry.number) _ fits) in
    omega (arith, within.1, within.2)

pub remove-place : (table : Table) (operation : Op) (removal : RemovalValue) → operation ≡ Remove removal
    → MayCommit table operation → (1 ≤ table.live) × (removal.tombstone.number - 1 < length table.states)
remove-place table operation removal is may =
    let fits : Fits may.history (Remove removal) = subst (λ (o : Op). Fits may.history o) is may.follows.fits in
    let within = live-pos may.created may.history table removal.tombstone.number may.table_of
    (is_there ((fold_of may.history).live removal.tombstone.number) _ fits) in
    (within.0, omega (arith, within.1, within.2))

-- a table with other room is that of the same histories
pub IsTableOf-with_room : (table new : Table) (created : ℤ) (history : List Op)
    → new ≡ record table { spare = new.spare } → IsTableOf table created history → IsTableOf new created history
IsTableOf-with_room table new created history same of =
    subst (λ (t : Table). IsTableOf t created history) (sym same) record {
      following = of.following;
      count = of.count;
      states = of.states;
      edited = of.edited;
      recent = of.recent;
      last = of.last;
      live = of.live;
      operations = of.operations;
    }
