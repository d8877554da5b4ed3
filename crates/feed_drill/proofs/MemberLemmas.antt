-- The live members after an operation that was accepted.
use Rattle.std.proofs.Common.{◌≡◌, ℕ, zero, suc, ◌+◌, ◌<◌, ◌≤◌, List, [], ◌∷◌, ◌++◌, Bool, true, false, cond, ◌==◌}
use Rattle.std.proofs.Common.{nat_lt, not, ◌&&◌}
use Rattle.std.proofs.Common.{Option, Some, None, Result, Ok, Err, inl, inr, length, refl, sym, ap, ◌∙◌, arith}
use Rattle.std.specs.Prelude.{ℤ, filter, if◌then◌else◌, is_some}
use Rattle.std.specs.List.{range_with_len}
use Rattle.std.proofs.lemmas.Bool.{cases_eq}
use Rattle.std.proofs.lemmas.Bool.Decides.{nat_tests}
use Rattle.std.proofs.lemmas.List.Elements.{filter-append}
use Rattle.atom_values.specs.Entry.{DraftValue, EntryValue, normal}
use Rattle.atom_writer.specs.Pieces.{entry_piece}
use Rattle.atom_writer.specs.declared.doc.FeedName.{FeedName}
use Rattle.feed_drill.specs.Turn.{live_numbers}
use Rattle.member_rules.specs.Decide.{decide, live_entry, next_moment, unless_large, unless_other, ◌>>=◌}
use Rattle.member_rules.specs.Fold.{Fold, after_operation, fold_of, made, set}
use Rattle.member_rules.specs.History.{entry_limit, later_of}
use Rattle.member_rules.specs.declared.ask.Ask.TheVariants.{Create, Replace, Delete}
use Rattle.member_rules.specs.declared.fault.RuleFault.{RuleFault}
use Rattle.member_rules.specs.declared.fault.RuleFault.TheVariants.{TooLarge}
use Rattle.member_rules.specs.declared.operation.Op.{Op}
use Rattle.member_rules.specs.declared.operation.Op.TheVariants.{Add, Change, Remove}
use Rattle.member_rules.specs.Removal.{RemovalValue}
use Rattle.member_rules.proofs.FoldLemmas.{fold_of-push, made-push}

-- Operations

bind-ok : {A : Type 0} (r : Result A RuleFault) (f : A → Result Op RuleFault) (operation : Op)
    → (r >>= f) ≡ Ok operation → (x : A) × (f x ≡ Ok operation)
bind-ok (Ok x) f operation e = (x, e)
bind-ok (Err fault) f operation e = absurd (cc)

test-ok : (large : Bool) (fault : RuleFault) (made operation : Op)
    → (if large then Err fault else Ok made) ≡ Ok operation → operation ≡ made
test-ok true fault made operation e = absurd (cc)
test-ok false fault made operation e = cc

large-ok : (name : FeedName) (make : EntryValue → Op) (entry : EntryValue) (operation : Op)
    → unless_large name make entry ≡ Ok operation → operation ≡ make entry
unfolding unless_large
large-ok name make entry operation e =
    test-ok (nat_lt entry_limit (length (entry_piece name entry))) (TooLarge (length (entry_piece name entry)))
    (make entry) operation e

normal-number : (draft : DraftValue) (number : ℕ) (moment : ℤ) (stored : Option ℤ)
    → (normal draft number moment stored).number ≡ number
unfolding normal
normal-number draft number moment stored = refl

-- the operation of each ask
pub create-is : (name : FeedName) (created : ℤ) (history : List Op) (draft : DraftValue) (now : ℕ) (operation : Op)
    → decide name created history (Create draft) now ≡ Ok operation
    → (entry : EntryValue) × (operation ≡ Add entry) × (entry.number ≡ made history + 1)
unfolding decide
create-is name created history draft now operation e =
    let m = bind-ok (next_moment created history now)
    (λ moment. unless_large name Add (normal draft (made history + 1) moment None)) operation e in (
      normal draft (made history + 1) m.0 None,
      large-ok name Add (normal draft (made history + 1) m.0 None) operation m.1,
      normal-number draft (made history + 1) m.0 None,
    )

pub replace-is : (name : FeedName) (created : ℤ) (history : List Op) (number : ℕ) (draft : DraftValue) (now : ℕ)
    (operation : Op) → decide name created history (Replace number draft) now ≡ Ok operation
    → (entry : EntryValue) × (operation ≡ Change entry) × (entry.number ≡ number)
unfolding decide
replace-is name created history number draft now operation e =
    let s = bind-ok (live_entry history number) (λ stored. unless_other name number draft.id >>= λ _. next_moment
    created history now >>= λ moment. unless_large name Change (normal draft number moment (Some stored.updated)))
    operation e in
    let o = bind-ok (unless_other name number draft.id) (λ _. next_moment created history now >>= λ moment.
    unless_large name Change (normal draft number moment (Some s.0.updated))) operation s.1 in
    let m = bind-ok (next_moment created history now)
    (λ moment. unless_large name Change (normal draft number moment (Some s.0.updated))) operation o.1 in (
      normal draft number m.0 (Some s.0.updated),
      large-ok name Change (normal draft number m.0 (Some s.0.updated)) operation m.1,
      normal-number draft number m.0 (Some s.0.updated),
    )

ok-is : (made operation : Op) → (let r : Result Op RuleFault = Ok made in r ≡ Ok operation) → operation ≡ made
ok-is made operation e = cc

pub delete-is : (name : FeedName) (created : ℤ) (history : List Op) (number now : ℕ) (operation : Op)
    → decide name created history (Delete number) now ≡ Ok operation
    → (removal : RemovalValue) × (operation ≡ Remove removal) × (removal.tombstone.number ≡ number)
unfolding decide
delete-is name created history number now operation e =
    let s = bind-ok (live_entry history number) (λ stored. next_moment created history now >>= λ moment. Ok
    (Remove record { tombstone = record { number = number; when = later_of moment stored.updated }; moment = moment }))
    operation e in
    let m = bind-ok (next_moment created history now) (λ moment. Ok
    (Remove record { tombstone = record { number = number; when = later_of moment s.0.updated }; moment = moment }))
    operation s.1 in (
      record { tombstone = record { number = number; when = later_of m.0 s.0.updated }; moment = m.0 },
      ok-is _ operation m.1,
      refl,
    )

-- Filters

cond-same : (a b : Bool) (x : ℕ) (xs ys : List ℕ) → a ≡ b → xs ≡ ys → cond a (x ∷ xs) xs ≡ cond b (x ∷ ys) ys
cond-same a b x xs ys e f = ap (λ (t : Bool). cond t (x ∷ xs) xs) e ∙ ap (λ (l : List ℕ). cond b (x ∷ l) l) f

pub filter-same : (p q : ℕ → Bool) (a n : ℕ) → ((x : ℕ) → a ≤ x → x < a + n → p x ≡ q x)
    → filter p (range_with_len a n) ≡ filter q (range_with_len a n)
filter-same p q a zero same = refl
filter-same p q a (suc n) same =
    cond-same (p a) (q a) a (filter p (range_with_len (a + 1) n)) (filter q (range_with_len (a + 1) n))
    (same a (omega arith) (omega arith))
    (filter-same p q (a + 1) n (λ x above below. same x (omega arith) (omega arith)))

filter-both : (p q : ℕ → Bool) (xs : List ℕ) → filter q (filter p xs) ≡ filter (λ x. p x && q x) xs
filter-both p q [] = refl
filter-both p q (x ∷ xs) = by_case (p x) (filter-both p q xs)
  where
    by_case : (here : Bool) → filter q (filter p xs) ≡ filter (λ y. p y && q y) xs
        → filter q (cond here (x ∷ filter p xs) (filter p xs))
        ≡ cond (here && q x) (x ∷ filter (λ y. p y && q y) xs) (filter (λ y. p y && q y) xs)
    by_case true rest = ap (λ (l : List ℕ). cond (q x) (x ∷ l) l) rest
    by_case false rest = rest

range-more : (a n : ℕ) → range_with_len a (suc n) ≡ range_with_len a n ++ (a + n) ∷ []
range-more a zero = let same : a ≡ a + 0 = omega arith in ap (λ (k : ℕ). k ∷ []) same
range-more a (suc n) =
    let same : a + 1 + n ≡ a + suc n = omega arith in
    ap (λ (l : List ℕ). a ∷ l) (range-more (a + 1) n)
    ∙ ap (λ (k : ℕ). a ∷ (range_with_len (a + 1) n ++ k ∷ [])) same

-- a filter of one more number
pub filter-more : (p : ℕ → Bool) (n : ℕ) → filter p (range_with_len 1 (suc n))
    ≡ filter p (range_with_len 1 n) ++ (if p (suc n) then suc n ∷ [] else [])
filter-more p n =
    let same : 1 + n ≡ suc n = omega arith in
    ap (filter p) (range-more 1 n ∙ ap (λ (k : ℕ). range_with_len 1 n ++ k ∷ []) same)
    ∙ filter-append p (range_with_len 1 n) (suc n ∷ [])

-- Live members

abbrev pub is_live : List Op → ℕ → Bool
is_live history number = is_some ((fold_of history).live number)

live-is : (history : List Op) → live_numbers history ≡ filter (is_live history) (range_with_len 1 (made history))
unfolding live_numbers
live-is history = refl

some-if : (here : Bool) (v w : Option EntryValue)
    → is_some (if here then v else w) ≡ (if here then is_some v else is_some w)
some-if true v w = refl
some-if false v w = refl

entry-live : (history : List Op) (entry : EntryValue) (operation : Op)
    → after_operation (fold_of history) operation
    ≡ record { live = set entry.number (Some entry) (fold_of history).live; gone = (fold_of history).gone }
    → (x : ℕ) → is_live (history ++ operation ∷ []) x ≡ (if x == entry.number then true else is_live history x)
entry-live history entry operation e x =
    ap (λ (members : Fold). is_some (members.live x)) (fold_of-push history operation ∙ e)
    ∙ some-if (x == entry.number) (Some entry) ((fold_of history).live x)

not-equal : (x number : ℕ) (rest : Bool) → x < number → (if x == number then true else rest) ≡ rest
not-equal x number rest below = grind (arith, nat_tests)

equal-self : (x number : ℕ) (rest : Bool) → x ≡ number → (if x == number then true else rest) ≡ true
equal-self x number rest same = grind (arith, nat_tests)

pub made-add : (history : List Op) (entry : EntryValue) → made (history ++ Add entry ∷ []) ≡ suc (made history)
made-add history entry = let more = made-push history (Add entry) in omega (arith, more)

pub made-change : (history : List Op) (entry : EntryValue) → made (history ++ Change entry ∷ []) ≡ made history
made-change history entry = let more = made-push history (Change entry) in omega (arith, more)

pub made-remove : (history : List Op) (removal : RemovalValue) → made (history ++ Remove removal ∷ []) ≡ made history
made-remove history removal = let more = made-push history (Remove removal) in omega (arith, more)

pub live-add : (history : List Op) (entry : EntryValue) → entry.number ≡ made history + 1
    → live_numbers (history ++ Add entry ∷ []) ≡ live_numbers history ++ suc (made history) ∷ []
live-add history entry next =
    let after = is_live (history ++ Add entry ∷ []) in
    let at : (x : ℕ) → after x ≡ (if x == entry.number then true else is_live history x)
    = entry-live history entry (Add entry) refl in
    let last : after (suc (made history)) ≡ true
    = at (suc (made history))
    ∙ equal-self (suc (made history)) entry.number (is_live history (suc (made history))) (omega arith) in
    live-is (history ++ Add entry ∷ [])
    ∙ ap (λ (n : ℕ). filter after (range_with_len 1 n)) (made-add history entry)
    ∙ filter-more after (made history)
    ∙ ap (λ (b : Bool). filter after (range_with_len 1 (made history)) ++ (if b then suc (made history) ∷ [] else []))
    last
    ∙ ap (λ (l : List ℕ). l ++ suc (made history) ∷ [])
    (filter-same after (is_live history) 1 (made history)
    (λ x above below. at x ∙ not-equal x entry.number (is_live history x) (omega arith)))
    ∙ ap (λ (l : List ℕ). l ++ suc (made history) ∷ []) (sym (live-is history))

same-live : (x number : ℕ) (live : ℕ → Option EntryValue) → is_some (live number) ≡ true
    → (if x == number then true else is_some (live x)) ≡ is_some (live x)
same-live x number live here = elim (cases_eq x number) [
  | inl same ↦
      equal-self x number (is_some (live x)) same
      ∙ sym (ap (λ (k : ℕ). is_some (live k)) same ∙ here)
  | inr other ↦ grind (arith, nat_tests)
]

pub live-change : (history : List Op) (entry : EntryValue) → is_live history entry.number ≡ true
    → live_numbers (history ++ Change entry ∷ []) ≡ live_numbers history
live-change history entry here =
    let after = is_live (history ++ Change entry ∷ []) in
    live-is (history ++ Change entry ∷ [])
    ∙ ap (λ (n : ℕ). filter after (range_with_len 1 n)) (made-change history entry)
    ∙ filter-same after (is_live history) 1 (made history)
    (λ x above below. entry-live history entry (Change entry) refl x
    ∙ same-live x entry.number (fold_of history).live here)
    ∙ sym (live-is history)

removed-live : (history : List Op) (removal : RemovalValue) (x : ℕ)
    → is_live (history ++ Remove removal ∷ []) x ≡ (if x == removal.tombstone.number then false else is_live history x)
removed-live history removal x =
    ap (λ (members : Fold). is_some (members.live x)) (fold_of-push history (Remove removal))
    ∙ some-if (x == removal.tombstone.number) None ((fold_of history).live x)

removed-both : (here is : Bool) → (if here then false else is) ≡ (is && not here)
removed-both true true = refl
removed-both true false = refl
removed-both false true = refl
removed-both false false = refl

pub live-remove : (history : List Op) (removal : RemovalValue) → live_numbers (history ++ Remove removal ∷ [])
    ≡ filter (λ other. not (other == removal.tombstone.number)) (live_numbers history)
live-remove history removal =
    let gone : ℕ → Bool = λ other. not (other == removal.tombstone.number) in
    let after = is_live (history ++ Remove removal ∷ []) in
    live-is (history ++ Remove removal ∷ [])
    ∙ ap (λ (n : ℕ). filter after (range_with_len 1 n)) (made-remove history removal)
    ∙ filter-same after (λ x. is_live history x && gone x) 1 (made history)
    (λ x above below. removed-live history removal x
    ∙ removed-both (x == removal.tombstone.number) (is_live history x))
    ∙ sym (filter-both (is_live history) gone (range_with_len 1 (made history)))
    ∙ ap (filter gone) (sym (live-is history))
