-- A decided operation may follow its history, and keeps it lawful.
use Rattle.std.proofs.Common.{◌≡◌, ℕ, suc, ◌+◌, ◌<◌, ◌≤◌, ℤ, ◌≤ℤ◌, ◌<ℤ◌, int_lt, nat_lt, nat_le, Bool, true, false}
use Rattle.std.proofs.Common.{◌&&◌, ◌==◌, if◌then◌else◌, Option, Some, None, IfSome, Result, Ok, Err, IfOk, IsSomeAnd}
use Rattle.std.proofs.Common.{List, [], ◌∷◌, ◌++◌, fold, length, All, length-append, refl, sym, ap, subst, ◌∙◌, arith}
use Rattle.std.specs.Prelude.{is_some, unwrap_or}
use Rattle.std.proofs.lemmas.Bool.Decides.{nat_tests}
use Rattle.std.proofs.lemmas.Int.{ints}
use Rattle.std.proofs.lemmas.List.Elements.{All-push}
use Rattle.atom_values.specs.Entry.{DraftValue, EntryValue, IsEntry, normal, not_before}
use Rattle.atom_values.specs.Stamp.{IsStamp}
use Rattle.atom_writer.specs.declared.doc.FeedName.{FeedName}
use Rattle.atom_writer.specs.Pieces.{entry_piece}
use Rattle.member_rules.specs.declared.operation.Op.{Op}
use Rattle.member_rules.specs.declared.operation.Op.TheVariants.{Add, Change, Remove, Set}
use Rattle.member_rules.specs.declared.ask.Ask.{Ask}
use Rattle.member_rules.specs.declared.ask.Ask.TheVariants.{Create, Replace, Delete, Change as ChangeSetting}
use Rattle.member_rules.specs.declared.fault.RuleFault.{RuleFault}
use Rattle.member_rules.specs.declared.fault.RuleFault.TheVariants.{NotFound, ClockSpent, TooLarge}
use Rattle.member_rules.specs.declared.setting.Setting.{Setting}
use Rattle.member_rules.specs.Head.{HeadValue}
use Rattle.member_rules.specs.Operation.{IsOperation, KeepsEntry}
use Rattle.member_rules.specs.Fold.{Fold, set, no_members, after_operation, fold_of, made, last_moment}
use Rattle.member_rules.specs.History.{MayFollow, AreFollowing, IsLawful, IsSmall, later_of, entry_limit, history_limit}
use Rattle.member_rules.specs.Table.{Table, IsTableOf}
use Rattle.member_rules.specs.Decide.{◌>>=◌, live_or_gone, live_entry, unless_other, greatest_moment, later_moment}
use Rattle.member_rules.specs.Decide.{next_moment, unless_large, decide}
use Rattle.member_rules.proofs.FoldLemmas.{AreFollowing-push, made-le-length}
use Rattle.member_rules.proofs.StateLemmas.{AreMembers-of, live_within}

-- two steps that give `Ok` each give `Ok`
split_ok : {A : Type 0} (r : Result A RuleFault) (f : A → Result Op RuleFault) (operation : Op)
    → (r >>= f) ≡ Ok operation → (x : A) × (r ≡ Ok x) × (f x ≡ Ok operation)
split_ok (Ok x) f operation e = (x, refl, e)
split_ok (Err fault) f operation e = absurd (cc)

-- the next moment is a stamp from 1970 on, later than the last one
moment_test : (last : ℤ) (now : ℕ) (spent : Bool) (moment : ℤ) → int_lt greatest_moment (later_moment last now) ≡ spent
    → (if spent then Err (ClockSpent last now) else Ok (later_moment last now)) ≡ Ok moment
    → (int_lt greatest_moment (later_moment last now) ≡ false) × (moment ≡ later_moment last now)
moment_test last now true moment t e = absurd (cc)
moment_test last now false moment t e = (t, (cc))

later_range : (last : ℤ) (now : ℕ) → int_lt greatest_moment (later_moment last now) ≡ false
    → (last <ℤ later_moment last now) × IsStamp (later_moment last now)
later_range last now e = (grind (arith, ints), (grind (arith, ints), grind (arith, ints)))

next_moment-ok : (created : ℤ) (history : List Op) (now : ℕ) (moment : ℤ) → next_moment created history now ≡ Ok moment
    → (last_moment created history <ℤ moment) × IsStamp moment
unfolding next_moment
next_moment-ok created history now moment e =
    let last = last_moment created history in
    let t = moment_test last now (int_lt greatest_moment (later_moment last now)) moment refl e in
    let range = later_range last now t.0 in
    (rw t.1 range.0, rw t.1 range.1)

live_test : (number : ℕ) (gone : Option ℤ) (live : Option EntryValue) (inside : Bool) (stored : EntryValue)
    → (if inside then live_or_gone number gone live else Err (NotFound number)) ≡ Ok stored
    → (inside ≡ true) × (live ≡ Some stored)
live_test number (Some when) live true stored e = absurd (cc)
live_test number None (Some entry) true stored e = let same : entry ≡ stored = cc in (refl, ap Some same)
live_test number None None true stored e = absurd (cc)
live_test number gone' live false stored e = absurd (cc)

counted : (number count : ℕ) → (nat_le 1 number && nat_le number count) ≡ true → 1 ≤ number
counted number count e = grind (arith, nat_tests)

live_entry-ok : (history : List Op) (number : ℕ) (stored : EntryValue) → live_entry history number ≡ Ok stored
    → (1 ≤ number) × ((fold_of history).live number ≡ Some stored)
unfolding live_entry
live_entry-ok history number stored e =
    let t = live_test number ((fold_of history).gone number) ((fold_of history).live number)
    (nat_le 1 number && nat_le number (made history)) stored e in
    (counted number (made history) t.0, t.1)

large_test : (size : ℕ) (made operation : Op) (large : Bool) → nat_lt entry_limit size ≡ large
    → (if large then Err (TooLarge size) else Ok made) ≡ Ok operation → (size ≤ entry_limit) × (made ≡ operation)
large_test size made operation true t e = absurd (cc)
large_test size made operation false t e = (grind (arith, nat_tests), (cc))

unless_large-ok : (name : FeedName) (make : EntryValue → Op) (entry : EntryValue) (operation : Op)
    → unless_large name make entry ≡ Ok operation
    → (length (entry_piece name entry) ≤ entry_limit) × (make entry ≡ operation)
unfolding unless_large
unless_large-ok name make entry operation e =
    large_test (length (entry_piece name entry)) (make entry) operation
    (nat_lt entry_limit (length (entry_piece name entry))) refl e

later_stamp : (a b : ℤ) → IsStamp a → IsStamp b → IsStamp (later_of a b)
later_stamp a b x y = (grind (arith, ints), grind (arith, ints))

-- the decision of each ask
record CreateGives (name : FeedName) (created : ℤ) (history : List Op) (draft : DraftValue) (operation : Op) : Type 0
  where
    moment : ℤ
    later : (last_moment created history <ℤ moment) × IsStamp moment
    small : length (entry_piece name (normal draft (made history + 1) moment None)) ≤ entry_limit
    is : Add (normal draft (made history + 1) moment None) ≡ operation

create-gives : (name : FeedName) (created : ℤ) (history : List Op) (draft : DraftValue) (now : ℕ) (operation : Op)
    → decide name created history (Create draft) now ≡ Ok operation → CreateGives name created history draft operation
unfolding decide
create-gives name created history draft now operation e =
    let m = split_ok (next_moment created history now)
    (λ m. unless_large name Add (normal draft (made history + 1) m None)) operation e in
    let l = unless_large-ok name Add (normal draft (made history + 1) m.0 None) operation m.2 in
    record { moment = m.0; later = next_moment-ok created history now m.0 m.1; small = l.0; is = l.1 }

record ReplaceGives (name : FeedName) (created : ℤ) (history : List Op) (number : ℕ) (draft : DraftValue)
    (operation : Op) : Type 0 where
  stored : EntryValue
  live : (1 ≤ number) × ((fold_of history).live number ≡ Some stored)
  moment : ℤ
  later : (last_moment created history <ℤ moment) × IsStamp moment
  small : length (entry_piece name (normal draft number moment (Some stored.updated))) ≤ entry_limit
  is : Change (normal draft number moment (Some stored.updated)) ≡ operation

replace-gives : (name : FeedName) (created : ℤ) (history : List Op) (number : ℕ) (draft : DraftValue) (now : ℕ)
    (operation : Op) → decide name created history (Replace number draft) now ≡ Ok operation
    → ReplaceGives name created history number draft operation
unfolding decide
replace-gives name created history number draft now operation e =
    let s = split_ok (live_entry history number) (λ stored. unless_other name number draft.id >>= λ _. next_moment
    created history now >>= λ m. unless_large name Change (normal draft number m (Some stored.updated))) operation
    e in
    let o = split_ok (unless_other name number draft.id)
    (λ _. next_moment created history now >>= λ m. unless_large name Change
    (normal draft number m (Some s.0.updated))) operation s.2 in
    let m = split_ok (next_moment created history now)
    (λ m. unless_large name Change (normal draft number m (Some s.0.updated))) operation o.2 in
    let l = unless_large-ok name Change (normal draft number m.0 (Some s.0.updated)) operation m.2 in
    record {
      stored = s.0;
      live = live_entry-ok history number s.0 s.1;
      moment = m.0;
      later =
          next_moment-ok created history now m.0 m.1;
      small = l.0;
      is = l.1;
    }

-- an operation that is answered is the only one
same_ok : (a b : Op) → (let r : Result Op RuleFault = Ok a in r ≡ Ok b) → a ≡ b
same_ok a b e = cc

record DeleteGives (created : ℤ) (history : List Op) (number : ℕ) (operation : Op) : Type 0 where
  stored : EntryValue
  live : (1 ≤ number) × ((fold_of history).live number ≡ Some stored)
  moment : ℤ
  later : (last_moment created history <ℤ moment) × IsStamp moment
  is : Remove record { tombstone = record { number = number; when = later_of moment stored.updated }; moment = moment }
      ≡ operation

delete-gives : (name : FeedName) (created : ℤ) (history : List Op) (number now : ℕ) (operation : Op)
    → decide name created history (Delete number) now ≡ Ok operation → DeleteGives created history number operation
unfolding decide
delete-gives name created history number now operation e =
    let s = split_ok (live_entry history number) (λ stored. next_moment created history now >>= λ m. Ok
    (Remove record { tombstone = record { number = number; when = later_of m stored.updated }; moment = m }))
    operation e in
    let m = split_ok (next_moment created history now)
    (λ m. Ok (Remove record { tombstone = record { number = number; when = later_of m s.0.updated }; moment = m }))
    operation s.2 in
    record {
      stored = s.0;
      live = live_entry-ok history number s.0 s.1;
      moment = m.0;
      later =
          next_moment-ok created history now m.0 m.1;
      is =
          same_ok (Remove record { tombstone = record { number = number; when = later_of m.0 s.0.updated }; moment = m.0 })
          operation m.2;
    }

record ChangeGives (created : ℤ) (history : List Op) (setting : Setting) (operation : Op) : Type 0 where
  moment : ℤ
  later : (last_moment created history <ℤ moment) × IsStamp moment
  is : Set setting moment ≡ operation

change-gives : (name : FeedName) (created : ℤ) (history : List Op) (setting : Setting) (now : ℕ) (operation : Op)
    → decide name created history (ChangeSetting setting) now ≡ Ok operation
    → ChangeGives created history setting operation
unfolding decide
change-gives name created history setting now operation e =
    let m = split_ok (next_moment created history now) (λ m. Ok (Set setting m)) operation e in
    record {
      moment = m.0;
      later = next_moment-ok created history now m.0 m.1;
      is = same_ok (Set setting m.0) operation m.2;
    }

-- an entry made of a draft is no older than the stored one
not_before-stored : (moment stored : ℤ) → stored ≤ℤ not_before moment (Some stored)
not_before-stored moment stored = grind (arith, ints)

normal-updated : (draft : DraftValue) (number : ℕ) (moment stored : ℤ)
    → stored ≤ℤ (normal draft number moment (Some stored)).updated
unfolding normal
normal-updated draft number moment stored = not_before-stored (unwrap_or draft.updated moment) stored

normal-number : (draft : DraftValue) (number : ℕ) (moment : ℤ) (stored : Option ℤ)
    → (normal draft number moment stored).number ≡ number
unfolding normal
normal-number draft number moment stored = refl

normal-edited : (draft : DraftValue) (number : ℕ) (moment : ℤ) (stored : Option ℤ)
    → (normal draft number moment stored).edited ≡ moment
unfolding normal
normal-edited draft number moment stored = refl

some_and : {A : Type 0} (o : Option A) (x : A) (P : A → Type 0) → o ≡ Some x → P x → IsSomeAnd o P
some_and {A = A} o x P e h = subst (λ (r : Option A). IsSomeAnd r P) (sym e) h

pub decide-follows : (name : FeedName) (created : ℤ) (history : List Op) (ask : Ask) (now : ℕ) (operation : Op)
    → decide name created history ask now ≡ Ok operation → MayFollow created history operation
decide-follows name created history (Create draft) now operation e =
    let g = create-gives name created history draft now operation e in
    let entry = normal draft (made history + 1) g.moment None in
    subst (MayFollow created history) g.is (record {
      later = rw (normal-edited draft (made history + 1) g.moment None) g.later.0;
      fits = normal-number draft (made history + 1) g.moment None;
    })
decide-follows name created history (Replace number draft) now operation e =
    let g = replace-gives name created history number draft now operation e in
    subst (MayFollow created history) g.is (record {
      later = rw (normal-edited draft number g.moment (Some g.stored.updated)) g.later.0;
      fits = rw (normal-number draft number g.moment (Some g.stored.updated))
          (some_and ((fold_of history).live number) g.stored _ g.live.1
          (normal-updated draft number g.moment g.stored.updated));
    })
decide-follows name created history (Delete number) now operation e =
    let g = delete-gives name created history number now operation e in
    subst (MayFollow created history) g.is (record {
      later = g.later.0;
      fits = some_and ((fold_of history).live number) g.stored _ g.live.1 refl;
    })
decide-follows name created history (ChangeSetting setting) now operation e =
    let g = change-gives name created history setting now operation e in
    subst (MayFollow created history) g.is (record { later = g.later.0; fits = tt })

-- live entries keep what the operations do
abbrev AllEntries : Fold → Type 0
AllEntries members = (number : ℕ) (entry : EntryValue) → members.live number ≡ Some entry → IsEntry entry

set-entries : (map : ℕ → Option EntryValue) (at : ℕ) (value : Option EntryValue)
    → ((number : ℕ) (entry : EntryValue) → map number ≡ Some entry → IsEntry entry) → IfSome value IsEntry
    → (number : ℕ) (entry : EntryValue) → set at value map number ≡ Some entry → IsEntry entry
set-entries map at value all new number entry e = by_case (number == at) value new e
  where
    by_case : (here : Bool) (value : Option EntryValue) → IfSome value IsEntry
        → (if here then value else map number) ≡ Some entry → IsEntry entry
    by_case true (Some found) new e = let same : found ≡ entry = cc in subst IsEntry same new
    by_case true None new e = absurd (cc)
    by_case false value new e = all number entry e

after-entries : (members : Fold) (operation : Op) → AllEntries members → IsOperation operation
    → AllEntries (after_operation members operation)
after-entries members (Add made) all new = set-entries members.live made.number (Some made) all new
after-entries members (Change made) all new = set-entries members.live made.number (Some made) all new
after-entries members (Remove removal) all new = set-entries members.live removal.tombstone.number None all tt
after-entries members (Set setting moment) all new = all

fold-entries : (operations : List Op) (members : Fold) → AllEntries members → All IsOperation operations
    → AllEntries (fold after_operation members operations)
fold-entries [] members all of = all
fold-entries (operation ∷ later) members all of =
    fold-entries later (after_operation members operation)
    (after-entries members operation all (of 0 operation (omega arith))) (λ k d inside. of (suc k) d (omega arith))

pub live-entries : (history : List Op) → All IsOperation history → AllEntries (fold_of history)
unfolding fold_of
live-entries history of = fold-entries history no_members (λ number entry e. absurd (cc)) of

removal-stamp : (moment updated : ℤ) → IsStamp moment → IsStamp updated
    → IsStamp (later_of moment updated) × (moment ≤ℤ later_of moment updated)
removal-stamp moment updated m u = (later_stamp moment updated m u, grind (arith, ints))

-- the operation keeps what its types keep, and is small
decide-keeps : (name : FeedName) (created : ℤ) (history : List Op) (ask : Ask) (now : ℕ) (operation : Op)
    → decide name created history ask now ≡ Ok operation
    → AreFollowing created history → All IsOperation history → length history < history_limit → KeepsEntry operation
    → IsOperation operation × IsSmall name operation
decide-keeps name created history (Create draft) now operation e following all few entry =
    let g = create-gives name created history draft now operation e in
    subst (λ (o : Op). IsOperation o × IsSmall name o) g.is (subst KeepsEntry (sym g.is) entry, g.small)
decide-keeps name created history (Replace number draft) now operation e following all few entry =
    let g = replace-gives name created history number draft now operation e in
    subst (λ (o : Op). IsOperation o × IsSmall name o) g.is (subst KeepsEntry (sym g.is) entry, g.small)
decide-keeps name created history (Delete number) now operation e following all few entry =
    let g = delete-gives name created history number now operation e in
    let stored = live-entries history all number g.stored g.live.1 in
    let range = removal-stamp g.moment g.stored.updated g.later.1 stored.updated in
    let within = live_within (fold_of history) (made history) number (AreMembers-of created history following)
    (ap is_some g.live.1) in
    subst (λ (o : Op). IsOperation o × IsSmall name o) g.is (
      record {
        tombstone = record {
          number = (g.live.0, omega (arith, within.1, made-le-length history, few));
          when =
              range.0;
        };
        moment = g.later.1;
        in_order = range.1;
      },
      tt,
    )
decide-keeps name created history (ChangeSetting setting) now operation e following all few entry =
    let g = change-gives name created history setting now operation e in
    subst (λ (o : Op). IsOperation o × IsSmall name o) g.is ((subst KeepsEntry (sym g.is) entry, g.later.1), tt)

pub decide-lawful : (head : HeadValue) (history : List Op) (ask : Ask) (now : ℕ) (operation : Op)
    → decide head.name head.created history ask now ≡ Ok operation
    → length history < history_limit → IsLawful head history → KeepsEntry operation
    → IsLawful head (history ++ operation ∷ [])
decide-lawful head history ask now operation e few lawful entry =
    let keeps = decide-keeps head.name head.created history ask now operation e lawful.following lawful.operations few
    entry in
    record {
      few = omega (arith, length-append history (operation ∷ []));
      following = AreFollowing-push head.created history operation lawful.following
          (decide-follows head.name head.created history ask now operation e);
      small = All-push (IsSmall head.name) history operation lawful.small keeps.1;
      operations = All-push IsOperation history operation lawful.operations keeps.0;
    }

-- an operation that is decided may follow the history
pub decided-follows : (r : Result Op RuleFault) (name : FeedName) (ask : Ask) (now : ℕ) (table : Table)
    → ((created : ℤ) (history : List Op) → IsTableOf table created history → r ≡ decide name created history ask now)
    → IfOk r (λ operation. (created : ℤ) (history : List Op) → IsTableOf table created history
    → MayFollow created history operation)
decided-follows (Ok operation) name ask now table is =
    λ created history of. decide-follows name created history ask now operation (sym (is created history of))
decided-follows (Err fault) name ask now table is = tt

pub decided-lawful : (r : Result Op RuleFault) (name : FeedName) (ask : Ask) (now : ℕ) (table : Table)
    → table.operations < history_limit
    → ((created : ℤ) (history : List Op) → IsTableOf table created history → r ≡ decide name created history ask now)
    → IfOk r KeepsEntry
    → IfOk r (λ operation. (head : HeadValue) (history : List Op) → head.name ≡ name
    → IsTableOf table head.created history → IsLawful head history → IsLawful head (history ++ operation ∷ []))
decided-lawful (Ok operation) name ask now table few is entry = λ head history named of lawful.
    decide-lawful head history ask now operation (ap (λ (n : FeedName). decide n head.created history ask now) named
    ∙ sym (is head.created history of))
    (omega (arith, of.operations, few)) lawful entry
decided-lawful (Err fault) name ask now table few is entry = tt
