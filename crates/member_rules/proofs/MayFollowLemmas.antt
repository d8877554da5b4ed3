-- Whether an operation may follow, by what its member is.
use Rattle.std.proofs.Common.{◌≡◌, ◌↔◌, ◌⊎◌, inl, inr, ℤ, ◌≤ℤ◌, int_cmp, int_eq, is_le, ℕ, Bool, false, Option, Some}
use Rattle.std.proofs.Common.{None, IsSomeAnd, true≢false, List, refl, sym, ap, subst, ◌∙◌, arith}
use Rattle.std.specs.Prelude.{is_some, IsTrue}
use Rattle.std.specs.Ordering.{ord_max}
use Rattle.std.proofs.lemmas.Int.{ints}
use Rattle.atom_values.specs.Entry.{EntryValue}
use Rattle.member_rules.specs.declared.operation.Op.{Op}
use Rattle.member_rules.specs.declared.operation.Op.TheVariants.{Change, Remove}
use Rattle.member_rules.specs.declared.state.State.{State}
use Rattle.member_rules.specs.declared.state.State.TheVariants.{Never, Live, Gone as Deleted}
use Rattle.member_rules.specs.Fold.{Fold, fold_of, made, last_naming, state_by, state_of}
use Rattle.member_rules.specs.History.{AreFollowing, Fits, later_of}
use Rattle.member_rules.specs.Removal.{RemovalValue}
use Rattle.member_rules.proofs.DecisionLemmas.{ord_max-later}
use Rattle.member_rules.proofs.StateLemmas.{AreMembers, AreMembers-of, live_within}

-- the member's entry fits its state
abbrev pub LiveBy : State → Option EntryValue → Type 0
LiveBy Never live = live ≡ None
LiveBy (Live updated version) live = (stored : EntryValue) × (live ≡ Some stored) × (stored.updated ≡ updated)
LiveBy (Deleted when) live = live ≡ None

gone_live : (members : Fold) (count number : ℕ) (when : ℤ) → AreMembers members count → members.gone number ≡ Some when
    → members.live number ≡ None
gone_live members count number when are gone = go (members.live number) refl
  where
    go : (live : Option EntryValue) → members.live number ≡ live → members.live number ≡ None
    go None is = is
    go (Some stored) is =
        let within = live_within members count number are (ap is_some is) in
        let none : None ≡ Some when = sym within.2 ∙ gone in
        absurd (cc)

live-parts : (gone : Option ℤ) (live : Option EntryValue) (version : ℕ) (state : State)
    → state ≡ state_by gone live version → ((when : ℤ) → gone ≡ Some when → live ≡ None) → LiveBy state live
live-parts (Some when) live version Never e h = absurd (cc)
live-parts (Some when) live version (Live updated v) e h = absurd (cc)
live-parts (Some when) live version (Deleted moment) e h = h when refl
live-parts None (Some stored) version Never e h = absurd (cc)
live-parts None (Some stored) version (Live updated v) e h = (stored, refl, (cc))
live-parts None (Some stored) version (Deleted moment) e h = absurd (cc)
live-parts None None version Never e h = refl
live-parts None None version (Live updated v) e h = absurd (cc)
live-parts None None version (Deleted moment) e h = absurd (cc)

pub live-by_state : (created : ℤ) (history : List Op) (number : ℕ) (state : State) → AreFollowing created history
    → state ≡ state_of history number → LiveBy state ((fold_of history).live number)
unfolding state_of
live-by_state created history number state following is =
    live-parts ((fold_of history).gone number) ((fold_of history).live number) (last_naming number history) state is
    (λ when gone. gone_live (fold_of history) (made history) number when (AreMembers-of created history following) gone)

-- a fact of a live member's entry, tested on what the state has
fits-live : (created : ℤ) (history : List Op) (number : ℕ) (updated : ℤ) (version : ℕ) (result : Bool) (P : ℤ → Type 0)
    → AreFollowing created history → Live updated version ≡ state_of history number
    → (IsTrue result ↔ P updated) → (IsTrue result
    ↔ IsSomeAnd ((fold_of history).live number) (λ stored. P stored.updated))
fits-live created history number updated version result P following is test =
    let live = live-by_state created history number (Live updated version) following is in (
      λ t. subst (λ (o : Option EntryValue). IsSomeAnd o (λ stored. P stored.updated)) (sym live.1)
          (subst P (sym live.2) (test.0 t)),
      λ fits. test.1 (subst P live.2 (subst (λ (o : Option EntryValue). IsSomeAnd o (λ stored. P stored.updated))
          live.1 fits)),
    )

-- nothing holds of the entry of a member that isn't live
none-live : (history : List Op) (number : ℕ) (P : EntryValue → Type 0) → (fold_of history).live number ≡ None
    → IsTrue false ↔ IsSomeAnd ((fold_of history).live number) P
none-live history number P none = (
  λ t. absurd (true≢false (sym t)),
  λ fits. absurd (subst (λ (o : Option EntryValue). IsSomeAnd o P) none fits),
)

fits-never : (created : ℤ) (history : List Op) (number : ℕ) (P : EntryValue → Type 0) → AreFollowing created history
    → Never ≡ state_of history number → IsTrue false ↔ IsSomeAnd ((fold_of history).live number) P
fits-never created history number P following is =
    none-live history number P (live-by_state created history number Never following is)

fits-gone : (created : ℤ) (history : List Op) (number : ℕ) (when : ℤ) (P : EntryValue → Type 0)
    → AreFollowing created history → Deleted when ≡ state_of history number
    → IsTrue false ↔ IsSomeAnd ((fold_of history).live number) P
fits-gone created history number when P following is =
    none-live history number P (live-by_state created history number (Deleted when) following is)

le-test : (a b : ℤ) (result : Bool) → result ≡ is_le (int_cmp a b) → IsTrue result ↔ (a ≤ℤ b)
le-test a b result is = (λ t. grind (arith, ints), λ l. grind (arith, ints))

eq-test : (a b : ℤ) (result : Bool) → result ≡ int_eq a b → IsTrue result ↔ (a ≡ b)
eq-test a b result is = (λ t. grind (arith, ints), λ e. grind (arith, ints))

-- a change of a live member
pub change-live : (created : ℤ) (history : List Op) (operation : Op) (entry : EntryValue) (number version : ℕ)
    (updated new : ℤ) (result : Bool) → operation ≡ Change entry → number ≡ entry.number → new ≡ entry.updated
    → AreFollowing created history → Live updated version ≡ state_of history number
    → result ≡ is_le (int_cmp updated new) → IsTrue result ↔ Fits history operation
change-live created history operation entry number version updated new result is named dated following state test =
    subst (λ (o : Op). IsTrue result ↔ Fits history o) (sym is)
    (fits-live created history entry.number updated version result (λ u. u ≤ℤ entry.updated) following
    (state ∙ ap (state_of history) named)
    (le-test updated entry.updated result (test ∙ ap (λ (n : ℤ). is_le (int_cmp updated n)) dated)))

-- a removal of a live member
pub remove-live : (created : ℤ) (history : List Op) (operation : Op) (removal : RemovalValue) (number version : ℕ)
    (updated when moment : ℤ) (result : Bool) → operation ≡ Remove removal → number ≡ removal.tombstone.number
    → when ≡ removal.tombstone.when → moment ≡ removal.moment → AreFollowing created history
    → Live updated version ≡ state_of history number → result ≡ int_eq when (ord_max int_cmp moment updated)
    → IsTrue result ↔ Fits history operation
remove-live created history operation removal number version updated when moment result is named dated accepted
    following state test =
    subst (λ (o : Op). IsTrue result ↔ Fits history o) (sym is)
    (fits-live created history removal.tombstone.number updated version result
    (λ u. removal.tombstone.when ≡ later_of removal.moment u) following (state ∙ ap (state_of history) named)
    (eq-test removal.tombstone.when (later_of removal.moment updated) result
    (test ∙ ap (λ (w : ℤ). int_eq w (ord_max int_cmp moment updated)) dated
    ∙ ap (int_eq removal.tombstone.when) (ord_max-later moment updated
    ∙ ap (λ (m : ℤ). later_of m updated) accepted))))

-- a member that isn't live has no live entry
abbrev IsNotLive : State → Type 0
IsNotLive state = (state ≡ Never) ⊎ ((when : ℤ) × (state ≡ Deleted when))

fits-not_live : (created : ℤ) (history : List Op) (number : ℕ) (state : State) (P : EntryValue → Type 0)
    → AreFollowing created history → IsNotLive state → state ≡ state_of history number
    → IsTrue false ↔ IsSomeAnd ((fold_of history).live number) P
fits-not_live created history number state P following not_live is = elim not_live [
  | inl never ↦ fits-never created history number P following (sym never ∙ is)
  | inr gone' ↦ fits-gone created history number gone'.0 P following (sym gone'.1 ∙ is)
]

pub change-not_live : (created : ℤ) (history : List Op) (operation : Op) (entry : EntryValue) (number : ℕ)
    (state : State) → operation ≡ Change entry → number ≡ entry.number → AreFollowing created history → IsNotLive state
    → state ≡ state_of history number → IsTrue false ↔ Fits history operation
change-not_live created history operation entry number state is named following not_live of =
    subst (λ (o : Op). IsTrue false ↔ Fits history o) (sym is)
    (fits-not_live created history entry.number state (λ stored. stored.updated ≤ℤ entry.updated) following not_live
    (of ∙ ap (state_of history) named))

pub remove-not_live : (created : ℤ) (history : List Op) (operation : Op) (removal : RemovalValue) (number : ℕ)
    (state : State) → operation ≡ Remove removal → number ≡ removal.tombstone.number → AreFollowing created history
    → IsNotLive state
    → state ≡ state_of history number → IsTrue false ↔ Fits history operation
remove-not_live created history operation removal number state is named following not_live of =
    subst (λ (o : Op). IsTrue false ↔ Fits history o) (sym is)
    (fits-not_live created history removal.tombstone.number state
    (λ stored. removal.tombstone.when ≡ later_of removal.moment stored.updated) following not_live
    (of ∙ ap (state_of history) named))
