-- The walk over all members, from the one named last.
use Rattle.std.proofs.Common.{◌≡◌, ◌≢◌, ◌⊎◌, inl, inr, ℕ, ◌+◌, ◌<◌, ◌≤◌, ℤ, Bool, true, false, if◌then◌else◌, Option, Some, None}
use Rattle.std.proofs.Common.{List, [], ◌∷◌, ◌++◌, length, map, reverse, nat_eq, refl, sym, ap, subst, ◌∙◌, arith}
use Rattle.std.proofs.Common.{append-nil, append_assoc, length-append}
use Rattle.std.specs.Prelude.{All, is_some, filter, flat_map, option_map}
use Rattle.std.specs.List.{cons_option, filter_map, list_any, IsDistinct}
use Rattle.std.proofs.lemmas.Bool.{cases_eq, false≢true, ne_eqb}
use Rattle.std.proofs.lemmas.List.Elements.{All-cons, All-head, All-tail, All-weaker}
use Rattle.std.proofs.lemmas.Map.Steps.{length-le_from_distinct_below}
use Rattle.atom_values.specs.Entry.{EntryValue}
use Rattle.deleted_entries.specs.Item.{item_number}
use Rattle.deleted_entries.specs.declared.item.Item.{Item}
use Rattle.member_rules.specs.declared.operation.Op.{Op}
use Rattle.member_rules.specs.declared.state.State.{State}
use Rattle.member_rules.specs.declared.state.State.TheVariants.{Never, Live, Gone}
use Rattle.member_rules.specs.Fold.{fold_of, last_naming, made, state_of}
use Rattle.member_rules.specs.History.{AreFollowing}
use Rattle.member_rules.specs.Items.{items_of, last_of_each}
use Rattle.member_rules.specs.Operation.{item_of, member_of}
use Rattle.member_rules.specs.Recent.{recent_members}
use Rattle.member_rules.proofs.ItemsKeptLemmas.{items-distinct}
use Rattle.member_rules.proofs.RecentLemmas.{recent-made}
use Rattle.member_rules.proofs.StateLemmas.{AreMembers-of, live_within}
use Rattle.member_rules.proofs.TableLemmas.{live_of_state, state_of_live}
use Rattle.recency_list.specs.Recency.{first_of, older_than}
use Rattle.recency_list.proofs.ApartLemmas.{Absent, older_than-split, split_distinct}
use Rattle.service_face.specs.Listing.{is_live, line_of, lines_at, listed_members, listing_text, member_line}

-- a live member has a line, with the version of its state
pub lines_at-live : (base : List ℕ) (history : List Op) (number version : ℕ) (updated : ℤ)
    → state_of history number ≡ Live updated version → lines_at base history number ≡ line_of base version number
lines_at-live base history number version updated state =
    let live = live_of_state history number version updated state in
    let same = sym state ∙ state_of_live history number live.0 live.1 live.3 in
    let naming : last_naming number history ≡ version = cc in
    rw live.1 (ap (λ (n : ℕ). line_of base n number) naming)

-- a member that isn't live
pub not_live : (state : State) → (state ≡ Never) ⊎ ((when : ℤ) × (state ≡ Gone when)) → (updated : ℤ) (version : ℕ)
    → state ≢ Live updated version
not_live state (inl never) updated version is = absurd cc
not_live state (inr gone) updated version is = absurd (let same = gone.1 in cc)

-- another member has none
pub lines_at-none : (base : List ℕ) (created : ℤ) (history : List Op) (number : ℕ) → AreFollowing created history
    → ((updated : ℤ) (version : ℕ) → state_of history number ≢ Live updated version) → lines_at base history number ≡ []
lines_at-none base created history number following not_live = go ((fold_of history).live number) refl
  where
    go : (live : Option EntryValue) → (fold_of history).live number ≡ live → lines_at base history number ≡ []
    go None is = rw is refl
    go (Some entry) is =
        let within = live_within (fold_of history) (made history) number (AreMembers-of created history following)
        (ap is_some is) in
        absurd (not_live entry.updated (last_naming number history) (state_of_live history number entry is within.2))

flat_map-filter : (line : ℕ → List ℕ) (test : ℕ → Bool) (numbers : List ℕ)
    → flat_map line (filter test numbers) ≡ flat_map (λ number. if test number then line number else []) numbers
flat_map-filter line test [] = refl
flat_map-filter line test (number ∷ rest) = one (test number) (flat_map-filter line test rest)
  where
    one : (passes : Bool)
        → flat_map line (filter test rest) ≡ flat_map (λ number. if test number then line number else []) rest
        → flat_map line (if passes then number ∷ filter test rest else filter test rest)
        ≡ (if passes then line number else [])
        ++ flat_map (λ number. if test number then line number else []) rest
    one true same = ap (λ (more : List ℕ). line number ++ more) same
    one false same = same

-- the listing goes over all members
listing_text-is : (base : List ℕ) (history : List Op)
    → listing_text base history ≡ flat_map (lines_at base history) (recent_members history)
unfolding listing_text listed_members
listing_text-is base history = flat_map-filter (member_line base history) (is_live history) (recent_members history)

-- no member is in the order twice
numbers : (operations : List Op) → filter_map member_of operations ≡ map item_number (filter_map item_of operations)
numbers [] = refl
numbers (operation ∷ older) = one (item_of operation) (numbers older)
  where
    one : (item : Option Item) → filter_map member_of older ≡ map item_number (filter_map item_of older)
        → cons_option (option_map item_number item) (filter_map member_of older)
        ≡ map item_number (cons_option item (filter_map item_of older))
    one None same = same
    one (Some item) same = ap (λ (rest : List ℕ). item_number item ∷ rest) same

recent-items : (history : List Op) → recent_members history ≡ map item_number (items_of history)
unfolding recent_members items_of
recent-items history = numbers (reverse (last_of_each history))

pub recent-distinct : (history : List Op) → IsDistinct nat_eq (recent_members history)
recent-distinct history = subst (IsDistinct nat_eq) (sym (recent-items history)) (items-distinct history)

-- the members that were made have numbers from 1
abbrev AreNumbers : ℕ → List ℕ → Type 0
AreNumbers count list = All (λ number. (1 ≤ number) × (number ≤ count)) list

no_zero : (count : ℕ) (list : List ℕ) → AreNumbers count list → Absent 0 list
no_zero count [] are = tt
no_zero count (first ∷ rest) are =
    let within = All-head (λ (k : ℕ). (1 ≤ k) × (k ≤ count)) first rest are in (
      ne_eqb 0 first (omega (arith, within.0)),
      no_zero count rest (All-tail (λ (k : ℕ). (1 ≤ k) × (k ≤ count)) first rest are),
    )

one_of : (P : ℕ → Type 0) (number : ℕ) (list : List ℕ) → All P list → list_any (nat_eq number) list ≡ true → P number
one_of P number [] are there = absurd (false≢true there)
one_of P number (first ∷ rest) are there = elim (cases_eq number first) [
  | inl same ↦ subst P (sym same) (All-head P first rest are)
  | inr other ↦ one_of P number rest (All-tail P first rest are) (rw (ne_eqb number first other) at there)
]

-- so the order has as many as were made, at most
few_numbers : (count : ℕ) (list : List ℕ) → AreNumbers count list → IsDistinct nat_eq list → length list ≤ count
unfolding IsDistinct
few_numbers count list are distinct =
    let below = All-cons (λ (k : ℕ). k < count + 1) 0 list (omega arith)
    (All-weaker (λ (k : ℕ). (1 ≤ k) × (k ≤ count)) (λ (k : ℕ). k < count + 1) (λ k within. omega (arith, within.1))
    list are) in
    let few : length (0 ∷ list) ≤ count + 1 =
    length-le_from_distinct_below (0 ∷ list) (count + 1) (no_zero count list are, distinct)
    (λ number there. one_of (λ (k : ℕ). k < count + 1) number (0 ∷ list) below there) in
    omega arith

recent-few : (created : ℤ) (history : List Op) → AreFollowing created history
    → length (recent_members history) ≤ made history
recent-few created history following =
    few_numbers (made history) (recent_members history) (recent-made created history following)
    (recent-distinct history)

-- The members before the next one of the walk have their lines in the text.
pub record IsWalked (order : List ℕ) (line : ℕ → List ℕ) (count : ℕ) (next : Option ℕ) (text : List ℕ) : Type 0 where
  pub done : List ℕ
  pub rest : List ℕ
  pub whole : order ≡ done ++ rest
  pub next_is : next ≡ first_of rest
  pub counted : length done ≡ count
  pub lines : text ≡ flat_map line done

pub walk-begins : (order : List ℕ) (line : ℕ → List ℕ) → IsWalked order line 0 (first_of order) []
walk-begins order line =
    record { done = []; rest = order; whole = refl; next_is = refl; counted = refl; lines = refl }

flat_map-push : (line : ℕ → List ℕ) (numbers : List ℕ) (number : ℕ)
    → flat_map line (numbers ++ number ∷ []) ≡ flat_map line numbers ++ line number
flat_map-push line [] number = append-nil (line number)
flat_map-push line (first ∷ rest) number =
    ap (λ (more : List ℕ). line first ++ more) (flat_map-push line rest number)
    ∙ sym (append_assoc (line first) (flat_map line rest) (line number))

pub walk-goes_on : (order : List ℕ) (line : ℕ → List ℕ) (count number : ℕ) (next : Option ℕ) (text more : List ℕ)
    → IsDistinct nat_eq order → IsWalked order line count (Some number) text → more ≡ text ++ line number
    → next ≡ older_than number order → IsWalked order line (count + 1) next more
walk-goes_on order line count number next text more distinct walked added older = go walked.rest walked.whole walked.next_is
  where
    go : (rest : List ℕ) → order ≡ walked.done ++ rest → Some number ≡ first_of rest
        → IsWalked order line (count + 1) next more
    go [] whole is = absurd cc
    go (first ∷ behind) whole is =
        let same : first ≡ number = cc in
        let here : order ≡ walked.done ++ number ∷ behind =
        whole ∙ ap (λ (n : ℕ). walked.done ++ n ∷ behind) same in
        let apart = split_distinct walked.done number behind (subst (IsDistinct nat_eq) here distinct) in
        record {
          done = walked.done ++ number ∷ [];
          rest = behind;
          whole = here ∙ sym (append_assoc walked.done (number ∷ []) behind);
          next_is = older ∙ ap (older_than number) here ∙ older_than-split walked.done number behind apart.not_before;
          counted = omega (arith, length-append walked.done (number ∷ []), walked.counted);
          lines =
              added ∙ ap (λ (t : List ℕ). t ++ line number) walked.lines
              ∙ sym (flat_map-push line walked.done number);
        }

-- at the end of the order the text is whole
all_done : (order done rest : List ℕ) (line : ℕ → List ℕ) (text : List ℕ) → order ≡ done ++ rest → rest ≡ []
    → text ≡ flat_map line done → text ≡ flat_map line order
all_done order done rest line text whole empty lines =
    lines ∙ ap (flat_map line) (sym (whole ∙ ap (λ (r : List ℕ). done ++ r) empty ∙ append-nil done))

no_first : (rest : List ℕ) → None ≡ first_of rest → rest ≡ []
no_first [] e = refl
no_first (first ∷ rest) e = absurd cc

pub walk-ends : (base : List ℕ) (history : List Op) (count : ℕ) (text : List ℕ)
    → IsWalked (recent_members history) (lines_at base history) count None text → text ≡ listing_text base history
walk-ends base history count text walked =
    all_done _ walked.done walked.rest _ text walked.whole (no_first walked.rest walked.next_is) walked.lines
    ∙ sym (listing_text-is base history)

no_rest : (done rest : List ℕ) → length (done ++ rest) ≤ length done → rest ≡ []
no_rest done [] few = refl
no_rest done (first ∷ rest) few = absurd (omega (arith, length-append done (first ∷ rest)))

pub walk-counted : (base : List ℕ) (created : ℤ) (history : List Op) (count : ℕ) (next : Option ℕ) (text : List ℕ)
    → AreFollowing created history → made history ≤ count
    → IsWalked (recent_members history) (lines_at base history) count next text → text ≡ listing_text base history
walk-counted base created history count next text following all walked =
    let few = recent-few created history following in
    let whole : length (walked.done ++ walked.rest) ≡ length (recent_members history) = ap length (sym walked.whole) in
    let done = walked.counted in
    all_done _ walked.done walked.rest _ text walked.whole (no_rest walked.done walked.rest (omega arith)) walked.lines
    ∙ sym (listing_text-is base history)
