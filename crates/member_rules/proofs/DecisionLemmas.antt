-- The decision of an ask, part by part.
use Rattle.std.proofs.Common.{◌≡◌, inl, inr, ℕ, zero, suc, ◌+◌, ◌≤◌, ℤ, int_lt, nat_lt, nat_le, Bool, true, false, ◌&&◌}
use Rattle.std.proofs.Common.{cond, if◌then◌else◌, Option, Some, None, Result, Ok, Err, IsOkAnd, List, length, refl}
use Rattle.std.proofs.Common.{sym, ap, ap₂, ◌∙◌, arith, le-leb, Less, Equal, Greater}
use Rattle.std.specs.Prelude.{IfOk}
use Rattle.std.specs.Result.{result_and}
use Rattle.std.specs.Ordering.{is_lt, int_cmp, ord_max}
use Rattle.std.proofs.lemmas.Bool.{cases_lt}
use Rattle.std.proofs.lemmas.Int.{ints}
use Rattle.atom_values.specs.Entry.{DraftValue, EntryValue, normal}
use Rattle.atom_writer.specs.declared.doc.FeedName.{FeedName}
use Rattle.atom_writer.specs.Pieces.{entry_piece}
use Rattle.member_rules.specs.declared.operation.Op.{Op}
use Rattle.member_rules.specs.declared.operation.Op.TheVariants.{Add, Change, Remove, Set}
use Rattle.member_rules.specs.declared.ask.Ask.TheVariants.{Create, Replace, Delete, Change as ChangeSetting}
use Rattle.member_rules.specs.declared.fault.RuleFault.{RuleFault}
use Rattle.member_rules.specs.declared.fault.RuleFault.TheVariants.{NotFound, Deleted, ClockSpent, TooLarge}
use Rattle.member_rules.specs.declared.setting.Setting.{Setting}
use Rattle.member_rules.specs.declared.state.State.TheVariants.{Never, Live, Gone}
use Rattle.member_rules.specs.Fold.{fold_of, made, last_moment, last_naming, state_by, state_of}
use Rattle.member_rules.specs.History.{AreFollowing, entry_limit, later_of}
use Rattle.member_rules.specs.Decide.{◌>>=◌, live_or_gone, live_entry, unless_other, greatest_moment, later_moment}
use Rattle.member_rules.specs.Decide.{moments, next_moment, unless_large, decide}
use Rattle.member_rules.specs.Operation.{KeepsEntry}
use Rattle.member_rules.proofs.StateLemmas.{AreMembers-of}

-- the entry by a member's state
gone_or_live : (number : ℕ) (gone : Option ℤ) (live : Option EntryValue) (version : ℕ) (inside : Bool)
    → state_by gone live version ≡ Never → (if inside then live_or_gone number gone live else Err (NotFound number))
    ≡ Err (NotFound number)
gone_or_live number (Some when) live version inside e = absurd (cc)
gone_or_live number None (Some entry) version inside e = absurd (cc)
gone_or_live number None None version true e = refl
gone_or_live number None None version false e = refl

pub live_entry-never : (history : List Op) (number : ℕ) → state_of history number ≡ Never
    → live_entry history number ≡ Err (NotFound number)
unfolding live_entry state_of
live_entry-never history number e =
    gone_or_live number ((fold_of history).gone number) ((fold_of history).live number) (last_naming number history)
    (nat_le 1 number && nat_le number (made history)) e

-- a number at which either map has something is a member's
inside_of : (created : ℤ) (history : List Op) (number : ℕ) → AreFollowing created history
    → (((fold_of history).live number ≡ None) × ((fold_of history).gone number ≡ None) → ⊥)
    → (nat_le 1 number && nat_le number (made history)) ≡ true
inside_of created history zero following some = absurd (some (AreMembers-of created history following).none_zero)
inside_of created history (suc n) following some = elim (cases_lt (made history) (suc n)) [
  | inl past ↦ absurd (some ((AreMembers-of created history following).none_past (suc n) past))
  | inr within ↦ let from : 1 ≤ suc n = omega arith in ap₂ ◌&&◌ (le-leb 1 (suc n) from)
      (le-leb (suc n) (made history) within)
]

live_here : (number : ℕ) (gone : Option ℤ) (live : Option EntryValue) (version version' : ℕ) (updated : ℤ)
    → state_by gone live version ≡ Live updated version'
    → IsOkAnd (live_or_gone number gone live) (λ stored. stored.updated ≡ updated)
live_here number (Some when) live version version' updated e = absurd (cc)
live_here number None None version version' updated e = absurd (cc)
live_here number None (Some stored) version version' updated e = (cc)

none_live : (gone : Option ℤ) (live : Option EntryValue) (version version' : ℕ) (updated : ℤ)
    → state_by gone live version ≡ Live updated version' → (live ≡ None) × (gone ≡ None) → ⊥
none_live gone' live version version' updated e none = let same : state_by None None version ≡ Live updated version' =
    ap₂ (λ g l. state_by g l version) (sym none.1) (sym none.0) ∙ e in cc

pub live_entry-live : (created : ℤ) (history : List Op) (number version : ℕ) (updated : ℤ)
    → AreFollowing created history → state_of history number ≡ Live updated version
    → IsOkAnd (live_entry history number) (λ stored. stored.updated ≡ updated)
unfolding live_entry state_of
live_entry-live created history number version updated following e =
    rw (inside_of created history number following
    (none_live ((fold_of history).gone number) ((fold_of history).live number) (last_naming number history) version
    updated e))
    (live_here number ((fold_of history).gone number) ((fold_of history).live number) (last_naming number history)
    version updated e)

gone_here : (number : ℕ) (gone : Option ℤ) (live : Option EntryValue) (version : ℕ) (when : ℤ)
    → state_by gone live version ≡ Gone when → live_or_gone number gone live ≡ Err (Deleted number when)
gone_here number (Some moment) live version when e = let same : moment ≡ when =
    cc in ap (λ w. Err (Deleted number w)) same
gone_here number None None version when e = absurd (cc)
gone_here number None (Some stored) version when e = absurd (cc)

none_gone : (gone : Option ℤ) (live : Option EntryValue) (version : ℕ) (when : ℤ)
    → state_by gone live version ≡ Gone when → (live ≡ None) × (gone ≡ None) → ⊥
none_gone gone' live version when e none = let same : state_by None None version ≡ Gone when =
    ap₂ (λ g l. state_by g l version) (sym none.1) (sym none.0) ∙ e in cc

pub live_entry-gone : (created : ℤ) (history : List Op) (number : ℕ) (when : ℤ) → AreFollowing created history
    → state_of history number ≡ Gone when → live_entry history number ≡ Err (Deleted number when)
unfolding live_entry state_of
live_entry-gone created history number when following e =
    rw (inside_of created history number following
    (none_gone ((fold_of history).gone number) ((fold_of history).live number) (last_naming number history) when e))
    (gone_here number ((fold_of history).gone number) ((fold_of history).live number) (last_naming number history) when
    e)

-- the moment by the last one
pub next_moment-by : (created last : ℤ) (history : List Op) (now : ℕ) → last ≡ last_moment created history
    → (if int_lt greatest_moment (later_moment last now) then Err (ClockSpent last now) else Ok
    (later_moment last now)) ≡ next_moment created history now
unfolding next_moment
next_moment-by created last history now e = rw e refl

abbrev answer : Bool → ℕ → Op → Result Op RuleFault
answer large size operation = if large then Err (TooLarge size) else Ok operation

abbrev refusal : Bool → ℕ → Result (Unit {0}) RuleFault
refusal large size = if large then Err (TooLarge size) else Ok tt

by_test : (large : Bool) (size : ℕ) (operation : Op)
    → answer large size operation ≡ (refusal large size >>= λ _. Ok operation)
by_test true size operation = refl
by_test false size operation = refl

-- the size by what refuses it
pub unless_large-by : (name : FeedName) (operation : EntryValue → Op) (entry : EntryValue)
    (r : Result (Unit {0}) RuleFault)
    → r ≡ (let size = length (entry_piece name entry) in if nat_lt entry_limit size then Err (TooLarge size) else Ok
    tt) → unless_large name operation entry ≡ (r >>= λ _. Ok (operation entry))
unfolding unless_large
unless_large-by name operation entry r e = rw e
    (by_test (nat_lt entry_limit (length (entry_piece name entry))) (length (entry_piece name entry)) (operation entry))

after_refusal : (r : Result (Unit {0}) RuleFault) (operation : Op)
    → result_and r (Ok operation) ≡ (r >>= λ _. Ok operation)
after_refusal (Ok u) operation = refl
after_refusal (Err e) operation = refl

-- the operation where the entry is not too large
pub unless_large-and : (name : FeedName) (operation : EntryValue → Op) (entry : EntryValue)
    (r : Result (Unit {0}) RuleFault)
    → r ≡ (let size = length (entry_piece name entry) in if nat_lt entry_limit size then Err (TooLarge size) else Ok
    tt) → result_and r (Ok (operation entry)) ≡ unless_large name operation entry
unless_large-and name operation entry r e =
    after_refusal r (operation entry) ∙ sym (unless_large-by name operation entry r e)

pub keeps_entry : (r : Result (Unit {0}) RuleFault) (operation : Op) → KeepsEntry operation
    → IfOk (result_and r (Ok operation)) KeepsEntry
keeps_entry (Ok u) operation keeps = keeps
keeps_entry (Err e) operation keeps = tt

-- the decision of a draft that makes a member, by its tests
pub decide-create : (name : FeedName) (created : ℤ) (history : List Op) (draft : DraftValue) (now : ℕ)
    (moment : Result ℤ RuleFault) → moment ≡ next_moment created history now
    → decide name created history (Create draft) now
    ≡ (moment >>= λ m. unless_large name Add (normal draft (made history + 1) m None))
unfolding decide
decide-create name created history draft now moment e = rw e refl

pub decide-replace : (name : FeedName) (created : ℤ) (history : List Op) (number : ℕ) (draft : DraftValue) (now : ℕ)
    (live : Result EntryValue RuleFault) (other : Result (Unit {0}) RuleFault) (moment : Result ℤ RuleFault)
    → live ≡ live_entry history number → other ≡ unless_other name number draft.id
    → moment ≡ next_moment created history now
    → decide name created history (Replace number draft) now
    ≡ (live >>= λ stored. other >>= λ _. moment >>= λ m. unless_large name Change
    (normal draft number m (Some stored.updated)))
unfolding decide
decide-replace name created history number draft now live other moment l o m = rw (l, o, m) refl

abbrev pub both_of : Result EntryValue RuleFault → Result (Unit {0}) RuleFault → Result ℤ RuleFault
    → Result (ℤ × ℤ) RuleFault
both_of live other moment = live >>= λ stored. other >>= λ _. moment >>= λ m. Ok (stored.updated, m)

in_turn : (live : Result EntryValue RuleFault) (other : Result (Unit {0}) RuleFault)
    (moment : Result ℤ RuleFault) (f : ℤ → ℤ → Result Op RuleFault)
    → (live >>= λ stored. other >>= λ _. moment >>= λ m. f stored.updated m)
    ≡ (both_of live other moment >>= λ both. f both.0 both.1)
in_turn (Err e) other moment f = refl
in_turn (Ok stored) (Err e) moment f = refl
in_turn (Ok stored) (Ok u) (Err e) f = refl
in_turn (Ok stored) (Ok u) (Ok m) f = refl

-- the same by the moments
pub decide-moments : (name : FeedName) (created : ℤ) (history : List Op) (number : ℕ) (draft : DraftValue) (now : ℕ)
    (r : Result (ℤ × ℤ) RuleFault) → r ≡ moments name created history number draft.id now
    → decide name created history (Replace number draft) now
    ≡ (r >>= λ both. unless_large name Change (normal draft number both.1 (Some both.0)))
unfolding moments
decide-moments name created history number draft now r e =
    decide-replace name created history number draft now (live_entry history number)
    (unless_other name number draft.id) (next_moment created history now) refl refl refl
    ∙ in_turn (live_entry history number) (unless_other name number draft.id) (next_moment created history now)
    (λ stored m. unless_large name Change (normal draft number m (Some stored)))
    ∙ ap (λ (r : Result (ℤ × ℤ) RuleFault). r >>= λ both. unless_large name Change
    (normal draft number both.1 (Some both.0))) (sym e)

-- the moments by their parts
pub moments-by : (name : FeedName) (created : ℤ) (history : List Op) (number : ℕ) (id : Option (List ℕ)) (now : ℕ)
    (live : Result EntryValue RuleFault) (other : Result (Unit {0}) RuleFault) (moment : Result ℤ RuleFault)
    → live ≡ live_entry history number → other ≡ unless_other name number id → moment ≡ next_moment created history now
    → moments name created history number id now
    ≡ both_of live other moment
unfolding moments
moments-by name created history number id now live other moment l o m = rw (l, o, m) refl

pub decide-delete : (name : FeedName) (created : ℤ) (history : List Op) (number now : ℕ)
    (live : Result EntryValue RuleFault) (moment : Result ℤ RuleFault)
    → live ≡ live_entry history number → moment ≡ next_moment created history now
    → decide name created history (Delete number) now
    ≡ (live >>= λ stored. moment >>= λ m. Ok (Remove record
    { tombstone = record { number = number; when = later_of m stored.updated }; moment = m }))
unfolding decide
decide-delete name created history number now live moment l m = rw (l, m) refl

-- the decision of a change of a setting, by its moment
pub decide-change : (name : FeedName) (created : ℤ) (history : List Op) (setting : Setting) (now : ℕ)
    (moment : Result ℤ RuleFault) → moment ≡ next_moment created history now
    → decide name created history (ChangeSetting setting) now ≡ (moment >>= λ m. Ok (Set setting m))
unfolding decide
decide-change name created history setting now moment e = rw e refl

pub ok_at : {A E : Type 0} (r : Result A E) (P : A → Type 0) → IsOkAnd r P → (x : A) × (r ≡ Ok x) × P x
ok_at (Ok x) P h = (x, refl, h)
ok_at (Err e) P h = absurd h

is_less : (a b : Bool) → is_lt (cond a Less (cond b Greater Equal)) ≡ a
is_less true b = refl
is_less false true = refl
is_less false false = refl

larger : (z w : ℤ) → cond (int_lt w z) z w ≡ cond (int_lt z w) w z
larger z w = grind (arith, ints)

-- the later of two moments
pub ord_max-later : (a b : ℤ) → ord_max int_cmp a b ≡ later_of a b
ord_max-later a b = ap (λ x. cond x a b) (is_less (int_lt b a) (int_lt a b)) ∙ larger a b
