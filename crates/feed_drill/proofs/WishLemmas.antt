-- The draws of a turn decide its ask, its crash and its gift.
use Rattle.std.proofs.Common.{◌≡◌, ℕ, List, Bool, true, false, ◌||◌, ◌%◌, ◌<◌, ◌≤◌, ◌≢◌, ◌==◌, nat_lt, length, refl}
use Rattle.std.proofs.Common.{sym, ap, ◌∙◌, arith}
use Rattle.std.proofs.lemmas.Bool.Decides.{nat_tests}
use Rattle.atom_values.specs.Entry.{titled}
use Rattle.feed_drill.specs.Draws.{drawn, number_of}
use Rattle.feed_drill.specs.Turn.{Asked, asked, change_of, makes_member, member_at, title_of}
use Rattle.member_rules.specs.declared.ask.Ask.{Ask}
use Rattle.member_rules.specs.declared.ask.Ask.TheVariants.{Create, Replace, Delete}

same-asked : (ask : Ask) (state next : ℕ) → state ≡ next
    → ◌≡◌ {A = Asked} (record { ask = ask; state = state }) (record { ask = ask; state = next })
same-asked ask state next e = ap (λ (s : ℕ). record { ask = ask; state = s }) e

asked-new : (live : List ℕ) (turn state : ℕ) → makes_member live (number_of (drawn state)) ≡ true
    → asked live turn state ≡ record { ask = Create (titled (title_of turn)); state = drawn state }
unfolding asked
asked-new live turn state e = rw e refl

asked-other : (live : List ℕ) (turn state : ℕ) → makes_member live (number_of (drawn state)) ≡ false
    → asked live turn state ≡ record {
      ask = change_of turn (number_of (drawn state)) (member_at live (number_of (drawn (drawn state))));
      state = drawn (drawn state);
    }
unfolding asked
asked-other live turn state e = rw e refl

-- a new member
pub asked-create : (live : List ℕ) (turn state first number : ℕ) → first ≡ drawn state → number ≡ number_of first
    → makes_member live number ≡ true
    → asked live turn state ≡ record { ask = Create (titled (title_of turn)); state = first }
asked-create live turn state first number next is makes =
    asked-new live turn state (ap (λ (s : ℕ). makes_member live (number_of s)) (sym next)
    ∙ ap (makes_member live) (sym is) ∙ makes)
    ∙ same-asked (Create (titled (title_of turn))) (drawn state) first (sym next)

change-same : (turn : ℕ) (live : List ℕ) (a b c d : ℕ) → a ≡ b → c ≡ d
    → change_of turn a (member_at live c) ≡ change_of turn b (member_at live d)
change-same turn live a b c d e f =
    ap (λ (n : ℕ). change_of turn n (member_at live c)) e ∙ ap (λ (n : ℕ). change_of turn b (member_at live n)) f

-- a change of a member that is live
pub asked-change : (live : List ℕ) (turn state first second a b : ℕ) → first ≡ drawn state → a ≡ number_of first
    → second ≡ drawn first → b ≡ number_of second → makes_member live a ≡ false
    → asked live turn state ≡ record { ask = change_of turn a (member_at live b); state = second }
asked-change live turn state first second a b next is after is' makes =
    let first_is : number_of (drawn state) ≡ a = ap number_of (sym next) ∙ sym is in
    let second_is : drawn (drawn state) ≡ second = ap drawn (sym next) ∙ sym after in
    asked-other live turn state (ap (makes_member live) first_is ∙ makes)
    ∙ ap (λ (k : Ask). record { ask = k; state = drawn (drawn state) })
    (change-same turn live (number_of (drawn state)) a (number_of (drawn (drawn state))) b first_is
    (ap number_of second_is ∙ sym is'))
    ∙ same-asked (change_of turn a (member_at live b)) (drawn (drawn state)) second second_is

pub change-replace : (turn a member : ℕ) → a % 4 ≡ 2
    → change_of turn a member ≡ Replace member (titled (title_of turn))
change-replace turn a member e = rw e refl

pub change-delete : (turn a member : ℕ) → a % 4 ≢ 2 → change_of turn a member ≡ Delete member
change-delete turn a member other = let test : (a % 4 == 2) ≡ false = grind (arith, nat_tests) in rw test refl

pub makes-none : (live : List ℕ) (a : ℕ) (empty : Bool) → empty ≡ (length live == 0) → empty ≡ true
    → makes_member live a ≡ true
makes-none live a empty is e = rw (sym is ∙ e) refl

or-true : (b : Bool) → (b || true) ≡ true
or-true true = refl
or-true false = refl

pub makes-low : (live : List ℕ) (a : ℕ) → a % 4 < 2 → makes_member live a ≡ true
makes-low live a low =
    let test : nat_lt (a % 4) 2 ≡ true = grind (arith, nat_tests) in rw test (or-true (length live == 0))

pub makes-not : (live : List ℕ) (a : ℕ) (empty : Bool) → empty ≡ (length live == 0) → empty ≡ false → 2 ≤ a % 4
    → makes_member live a ≡ false
makes-not live a empty is e high =
    let test : nat_lt (a % 4) 2 ≡ false = grind (arith, nat_tests) in rw (sym is ∙ e) test
