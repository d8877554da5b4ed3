-- The members in the order of their last operations, after one more operation.
use Rattle.std.proofs.Common.{◌≡◌, ◌≢◌, ◌⊎◌, inl, inr, ℕ, zero, suc, ◌+◌, ◌-◌, ◌<◌, ◌≤◌, ℤ, not, ◌==◌}
use Rattle.std.proofs.Common.{Option, Some, None, option_map, List, [], ◌∷◌, ◌++◌, length, map, reverse, get_or, refl}
use Rattle.std.proofs.Common.{sym, ap, subst, ◌∙◌, arith, max, Result, Ok, Err}
use Rattle.std.specs.Prelude.{All, Contains, IfSome, MatchOption, OnOk, OnErr}
use Rattle.std.specs.List.{cons_option, filter_map}
use Rattle.std.proofs.lemmas.Bool.{cases_eq, eq-eqb, ne_eqb}
use Rattle.std.proofs.lemmas.List.{reverse-append}
use Rattle.std.proofs.lemmas.List.Elements.{All-nil, All-cons, All-head, All-tail, All-filter, All-weaker}
use Rattle.std.proofs.lemmas.List.Elements.{Contains-append_right}
use Rattle.deleted_entries.specs.Item.{item_number}
use Rattle.deleted_entries.specs.declared.item.Item.{Item}
use Rattle.recency_list.specs.Recency.{RecencyValue, older_than, touched, without as without_slot}
use Rattle.member_rules.specs.declared.operation.Op.{Op}
use Rattle.member_rules.specs.declared.operation.Op.TheVariants.{Add, Change, Remove, Set}
use Rattle.member_rules.specs.Operation.{item_of, member_of}
use Rattle.member_rules.specs.Fold.{fold_of, made}
use Rattle.member_rules.specs.History.{AreFollowing, Fits}
use Rattle.member_rules.specs.Items.{last_of_each, items_of}
use Rattle.member_rules.specs.Recent.{recent_members}
use Rattle.member_rules.specs.Table.{AreOrdered}
use Rattle.member_rules.proofs.FoldLemmas.{made-push, by_operations}
use Rattle.member_rules.proofs.NewestItemsLemmas.{without, in_place, newest_items, items_of-newest}
use Rattle.member_rules.proofs.StateLemmas.{AreMembers-of, is_there, live_within}

-- the members that operations name are those of their items
numbers : (operations : List Op) → filter_map member_of operations ≡ map item_number (filter_map item_of operations)
numbers [] = refl
numbers (operation ∷ older) = one (item_of operation) (numbers older)
  where
    one : (item : Option Item) → filter_map member_of older ≡ map item_number (filter_map item_of older)
        → cons_option (option_map item_number item) (filter_map member_of older)
        ≡ map item_number (cons_option item (filter_map item_of older))
    one None same = same
    one (Some item) same = ap (λ (rest : List ℕ). item_number item ∷ rest) same

recent_members-items : (history : List Op) → recent_members history ≡ map item_number (items_of history)
unfolding recent_members items_of
recent_members-items history = numbers (reverse (last_of_each history))

numbers-without : (number : ℕ) (items : List Item)
    → map item_number (without number items) ≡ without_slot number (map item_number items)
numbers-without number [] = refl
numbers-without number (item ∷ rest) = elim (cases_eq (item_number item) number) [
  | inl same ↦
      rw (eq-eqb (item_number item) number same, eq-eqb number (item_number item) (sym same))
      (numbers-without number rest)
  | inr other ↦
      rw (ne_eqb (item_number item) number other, ne_eqb number (item_number item) (λ e. other (sym e)))
      (ap (λ (numbers : List ℕ). item_number item ∷ numbers) (numbers-without number rest))
]

-- the items of the operations and one more, whose item comes first
items_of-push : (history : List Op) (operation : Op)
    → items_of (history ++ operation ∷ []) ≡ in_place (item_of operation) (items_of history)
items_of-push history operation =
    items_of-newest (history ++ operation ∷ [])
    ∙ ap newest_items (reverse-append history (operation ∷ []))
    ∙ ap (in_place (item_of operation)) (sym (items_of-newest history))

-- the order with the member moved to the front, if there is one
abbrev pub touched_by : Option ℕ → List ℕ → List ℕ
touched_by None list = list
touched_by (Some number) list = touched number list

-- the members of the items with one put in place
numbers-in_place : (item : Option Item) (items : List Item)
    → map item_number (in_place item items) ≡ touched_by (option_map item_number item) (map item_number items)
numbers-in_place None items = refl
numbers-in_place (Some item) items =
    ap (λ (rest : List ℕ). item_number item ∷ rest) (numbers-without (item_number item) items)

-- the member that an operation names comes first, and one that names none leaves the order
pub recent_members-push : (history : List Op) (operation : Op)
    → recent_members (history ++ operation ∷ []) ≡ touched_by (member_of operation) (recent_members history)
recent_members-push history operation =
    recent_members-items (history ++ operation ∷ [])
    ∙ ap (map item_number) (items_of-push history operation)
    ∙ numbers-in_place (item_of operation) (items_of history)
    ∙ ap (touched_by (member_of operation)) (sym (recent_members-items history))

-- numbers from 1 to `count`
abbrev AreNumbers : ℕ → List ℕ → Type 0
AreNumbers count list = All (λ number. (1 ≤ number) × (number ≤ count)) list

AreNumbers-touched : (number before after : ℕ) (list : List ℕ) → 1 ≤ number → number ≤ after → before ≤ after
    → AreNumbers before list → AreNumbers after (touched number list)
AreNumbers-touched number before after list from to more are =
    All-cons (λ (k : ℕ). (1 ≤ k) × (k ≤ after)) number (without_slot number list) (from, to)
    (All-filter (λ (k : ℕ). not (number == k)) (λ (k : ℕ). (1 ≤ k) × (k ≤ after)) list
    (All-weaker (λ (k : ℕ). (1 ≤ k) × (k ≤ before)) (λ (k : ℕ). (1 ≤ k) × (k ≤ after))
    (λ k within. (within.0, omega arith)) list are))

-- the same where there may be no member to move
AreNumbers-touched_by : (member : Option ℕ) (before after : ℕ) (list : List ℕ)
    → IfSome member (λ number. (1 ≤ number) × (number ≤ after)) → before ≤ after → AreNumbers before list
    → AreNumbers after (touched_by member list)
AreNumbers-touched_by None before after list within more are =
    All-weaker (λ (k : ℕ). (1 ≤ k) × (k ≤ before)) (λ (k : ℕ). (1 ≤ k) × (k ≤ after)) (λ k in_order.
    (in_order.0, omega arith)) list are
AreNumbers-touched_by (Some number) before after list within more are =
    AreNumbers-touched number before after list within.0 within.1 more are

-- an operation that fits names a member that was made, or makes it, or names none
pub named_made : (created : ℤ) (history : List Op) (operation : Op) → AreFollowing created history
    → Fits history operation
    → IfSome (member_of operation) (λ number. (1 ≤ number) × (number ≤ made (history ++ operation ∷ [])))
    × (made history ≤ made (history ++ operation ∷ []))
named_made created history (Add entry) following fits =
    let more : made (history ++ Add entry ∷ []) ≡ made history + 1 = made-push history (Add entry) in
    ((omega arith, omega arith), omega arith)
named_made created history (Change entry) following fits =
    let more : made (history ++ Change entry ∷ []) ≡ made history + 0 = made-push history (Change entry) in
    let within = live_within (fold_of history) (made history) entry.number (AreMembers-of created history following)
    (is_there ((fold_of history).live entry.number) _ fits) in
    ((within.0, omega (arith, within.1)), omega arith)
named_made created history (Remove removal) following fits =
    let more : made (history ++ Remove removal ∷ []) ≡ made history + 0 = made-push history (Remove removal) in
    let within = live_within (fold_of history) (made history) removal.tombstone.number
    (AreMembers-of created history following) (is_there ((fold_of history).live removal.tombstone.number) _ fits) in
    ((within.0, omega (arith, within.1)), omega arith)
named_made created history (Set setting moment) following fits =
    let more : made (history ++ Set setting moment ∷ []) ≡ made history + 0 = made-push history (Set setting moment) in
    (tt, omega arith)

none_recent : AreNumbers (made []) (recent_members [])
unfolding recent_members
none_recent = All-nil (λ (k : ℕ). (1 ≤ k) × (k ≤ 0))

-- the members in the order are members that were made
pub recent-made : (created : ℤ) (history : List Op) → AreFollowing created history
    → AreNumbers (made history) (recent_members history)
recent-made created history following =
    by_operations created (λ past. AreNumbers (made past) (recent_members past)) none_recent
    (λ past operation before follows are.
    let named = named_made created past operation before follows.fits in
    subst (AreNumbers (made (past ++ operation ∷ []))) (sym (recent_members-push past operation))
    (AreNumbers-touched_by (member_of operation) (made past) (made (past ++ operation ∷ [])) (recent_members past)
    named.0 named.1 are))
    history following

-- no member comes next after a number that isn't in the order
pub older_than-outside : (number count : ℕ) (list : List ℕ) → AreNumbers count list
    → (number ≡ 0) ⊎ (count < number) → older_than number list ≡ None
older_than-outside number count [] are outside = refl
older_than-outside number count (first ∷ rest) are outside =
    let within = All-head (λ (k : ℕ). (1 ≤ k) × (k ≤ count)) first rest are in
    let other : number ≢ first = elim outside [ inl none ↦ omega (arith, within) | inr past ↦ omega (arith, within) ] in
    rw (ne_eqb number first other)
    (older_than-outside number count rest (All-tail (λ (k : ℕ). (1 ≤ k) × (k ≤ count)) first rest are) outside)

-- the order after a move to the front
Contains-without : (number other : ℕ) (list : List ℕ) → number ≢ other → Contains list other
    → Contains (without_slot number list) other
Contains-without number other list ne there = go list there.0 there.1 there.2
  where
    go : (list : List ℕ) (k : ℕ) → k < length list → get_or list k other ≡ other
        → Contains (without_slot number list) other
    go [] k inside at = absurd (omega arith)
    go (first ∷ rest) zero inside at = rw (ne_eqb number first (λ e. ne (e ∙ at))) (0, omega arith, at)
    go (first ∷ rest) (suc k) inside at =
        let later : Contains (without_slot number rest) other = go rest k (omega arith) at in
        elim (cases_eq number first) [
          | inl same ↦ rw (eq-eqb number first same) later
          | inr apart ↦ rw (ne_eqb number first apart)
              (Contains-append_right (first ∷ []) (without_slot number rest) other later)
        ]

Contains-touched : (number other : ℕ) (list : List ℕ) → (number ≢ other → Contains list other)
    → Contains (touched number list) other
Contains-touched number other list there = elim (cases_eq number other) [
  | inl same ↦ (0, omega arith, same)
  | inr ne ↦ Contains-append_right (number ∷ []) (without_slot number list) other
      (Contains-without number other list ne (there ne))
]

-- the order after the call that moves a member, if there is one
pub moved-is : (member : Option ℕ) (old new : RecencyValue)
    → MatchOption member (new ≡ old) (λ number. new ≡ record old { list = touched number old.list })
    → new ≡ record old { list = touched_by member old.list }
moved-is None old new same = same
moved-is (Some number) old new moved = moved

-- a member that is moved to the front stays listed, and so do all others
pub AreOrdered-same : (count : ℕ) (member : Option ℕ) (order : RecencyValue) → AreOrdered count order
    → AreOrdered count (record order { list = touched_by member order.list })
AreOrdered-same count None order are = record { listed = are.listed; slots = are.slots }
AreOrdered-same count (Some number) order are = record {
  listed = λ other from to. Contains-touched number other order.list (λ ne. are.listed other from to);
  slots = are.slots;
}

-- a new member
pub AreOrdered-more : (count : ℕ) (member : Option ℕ) (order : RecencyValue) → AreOrdered count order
    → member ≡ Some (count + 1) → count + 1 ≤ order.slots - 1
    → AreOrdered (count + 1) (record order { list = touched_by member order.list })
AreOrdered-more count member order are next room = rw next (record {
  listed = λ other from to. Contains-touched (count + 1) other order.list (λ ne. are.listed other from (omega arith));
  slots = room;
})

-- more slots
pub AreOrdered-reserved : {T E : Type 0} (result : Result T E) (count slots : ℕ) (old new : RecencyValue)
    → AreOrdered count old → OnOk result (new ≡ record old { slots = max old.slots slots })
    → OnErr result (new ≡ old) → AreOrdered count new
AreOrdered-reserved (Ok _) count slots old new are ok err = subst (AreOrdered count) (sym ok) record {
  listed = are.listed;
  slots = let old_slots = are.slots in omega arith;
}
AreOrdered-reserved (Err _) count slots old new are ok err = subst (AreOrdered count) (sym err) are
