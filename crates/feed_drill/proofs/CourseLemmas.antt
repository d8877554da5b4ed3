-- The values that a drill keeps beside its life.
use Rattle.std.proofs.Common.{◌≡◌, ◌≢◌, ℕ, suc, ◌+◌, List, [], ◌∷◌, ◌++◌, Bool, true, false, not, ◌==◌, ◌%◌, Option}
use Rattle.std.proofs.Common.{Some, None, Ok}
use Rattle.std.proofs.Common.{length, length-append, refl, sym, ap, subst, ◌∙◌, arith}
use Rattle.std.specs.Prelude.{IsSomeAnd, filter, if◌then◌else◌, is_some}
use Rattle.std.proofs.lemmas.Bool.Decides.{nat_tests}
use Rattle.atom_values.specs.Counts.{counted}
use Rattle.atom_values.specs.Entry.{EntryValue, titled}
use Rattle.feed_drill.specs.Draws.{drawn}
use Rattle.feed_drill.specs.Drilled.{Drilled, after_turn, decided}
use Rattle.feed_drill.specs.Effects.{CourseValue, IsDone, IsTurned, ask_of, course_of, noted, stops_after}
use Rattle.feed_drill.specs.Events.{IsRequested, moment_of}
use Rattle.feed_drill.specs.Turn.{Asked, Turn, asked, clock_at, crash_after, has_crash, live_numbers, state_past}
use Rattle.feed_drill.specs.Turn.{title_of, turn_of}
use Rattle.feed_drill.specs.declared.wish.Wish.{Wish}
use Rattle.feed_drill.specs.declared.wish.Wish.TheVariants as variant
use Rattle.feed_drill.proofs.MemberLemmas.{create-is, delete-is, is_live, live-add, live-change, live-remove, made-add}
use Rattle.feed_drill.proofs.MemberLemmas.{made-change, made-remove, replace-is}
use Rattle.feed_life.specs.Events.{with_stop}
use Rattle.feed_life.specs.Life.{LifeValue, Lives}
use Rattle.feed_life.specs.declared.event.Stop.{Stop}
use Rattle.member_rules.specs.Decide.{decide}
use Rattle.member_rules.specs.Fold.{fold_of, made}
use Rattle.member_rules.specs.Head.{HeadValue}
use Rattle.member_rules.specs.History.{MayFollow}
use Rattle.member_rules.specs.declared.ask.Ask.{Ask}
use Rattle.member_rules.specs.declared.operation.Op.{Op}
use Rattle.member_rules.specs.declared.operation.Op.TheVariants.{Add, Change, Remove}
use Rattle.member_rules.proofs.LawfulLemmas.{decide-follows}
use Rattle.mirror_walk.specs.Holding.{KeptValue}

pub note-delete : (inside old : CourseValue) (wish : Wish) (number : ℕ) (live : List ℕ) → inside ≡ old
    → wish ≡ variant.Delete number → live ≡ filter (λ other. not (other == number)) inside.live
    → record inside { live = live } ≡ noted old wish
note-delete inside old wish number live view is kept =
    ap (λ (l : List ℕ). record inside { live = l }) kept
    ∙ ap (λ (c : CourseValue). noted c (variant.Delete number)) view
    ∙ ap (noted old) (sym is)

-- Members

some-live : (found : Option EntryValue) (P : EntryValue → Type 0) → IsSomeAnd found P → is_some found ≡ true
some-live None P none = absurd none
some-live (Some entry) P fits = refl

same-course : (state : ℕ) (live other : List ℕ) (made more : ℕ) → live ≡ other → made ≡ more
    → ◌≡◌ {A = CourseValue} (record { state = state; live = live; made = made })
    (record { state = state; live = other; made = more })
same-course state live other made more e f =
    ap (λ (l : List ℕ). record { state = state; live = l; made = made }) e
    ∙ ap (λ (n : ℕ). record { state = state; live = other; made = n }) f

noted-at : (head : HeadValue) (history : List Op) (turn now state : ℕ) (wish : Wish) (operation : Op)
    → decide head.name head.created history (ask_of turn wish) now ≡ Ok operation
    → noted (record { state = state; live = live_numbers history; made = made history }) wish
    ≡ record {
      state = state;
      live = live_numbers (history ++ operation ∷ []);
      made = made (history ++ operation ∷ []);
    }
noted-at head history turn now state variant.Create operation decided =
    let is = create-is head.name head.created history (titled (title_of turn)) now operation decided in
    let later : history ++ Add is.0 ∷ [] ≡ history ++ operation ∷ [] = ap (λ (o : Op). history ++ o ∷ []) (sym is.1) in
    same-course state (live_numbers history ++ suc (made history) ∷ []) (live_numbers (history ++ operation ∷ []))
    (suc (made history)) (made (history ++ operation ∷ []))
    (sym (live-add history is.0 is.2) ∙ ap live_numbers later) (sym (made-add history is.0) ∙ ap made later)
noted-at head history turn now state (variant.Replace number) operation decided =
    let is = replace-is head.name head.created history number (titled (title_of turn)) now operation decided in
    let later : history ++ Change is.0 ∷ [] ≡ history ++ operation ∷ [] = ap (λ (o : Op). history ++ o ∷ [])
    (sym is.1) in
    let follows : MayFollow head.created history (Change is.0)
    = subst (MayFollow head.created history) is.1
    (decide-follows head.name head.created history (ask_of turn (variant.Replace number)) now operation decided) in
    let here : is_live history is.0.number ≡ true = some-live ((fold_of history).live is.0.number) _ follows.fits in
    same-course state (live_numbers history) (live_numbers (history ++ operation ∷ [])) (made history)
    (made (history ++ operation ∷ [])) (sym (live-change history is.0 here) ∙ ap live_numbers later)
    (sym (made-change history is.0) ∙ ap made later)
noted-at head history turn now state (variant.Delete number) operation decided =
    let is = delete-is head.name head.created history number now operation decided in
    let later : history ++ Remove is.0 ∷ [] ≡ history ++ operation ∷ [] = ap (λ (o : Op). history ++ o ∷ [])
    (sym is.1) in
    let without : filter (λ other. not (other == number)) (live_numbers history)
    ≡ filter (λ other. not (other == is.0.tombstone.number)) (live_numbers history)
    = ap (λ (n : ℕ). filter (λ other. not (other == n)) (live_numbers history)) (sym is.2) in
    same-course state (filter (λ other. not (other == number)) (live_numbers history))
    (live_numbers (history ++ operation ∷ [])) (made history) (made (history ++ operation ∷ []))
    (without ∙ sym (live-remove history is.0) ∙ ap live_numbers later) (sym (made-remove history is.0) ∙ ap made later)

-- Crashes

-- the crash of a turn and the state after its draws
pub record StopsAt (turn state : ℕ) (stop : Option Stop) (next : ℕ) : Type 0 where
  pub counts : (stops : ℕ) → with_stop stop stops ≡ stops_after turn stops
  pub next_is : next ≡ (if has_crash turn then drawn (drawn state) else state)
  pub stop_is : stop ≡ (if has_crash turn then Some (crash_after state) else None)

pub stops-some : (turn state next : ℕ) (stop : Option Stop) (crash : Stop) → turn % 7 ≡ 0 → stop ≡ Some crash
    → crash ≡ crash_after state → next ≡ drawn (drawn state) → StopsAt turn state stop next
stops-some turn state next stop crash seventh is drawn_is after =
    let test : has_crash turn ≡ true = grind (arith, nat_tests) in
    record {
      counts = λ stops. ap (λ (s : Option Stop). with_stop s stops) is
          ∙ ap (λ (b : Bool). if b then counted stops else stops) (sym test);
      next_is = after ∙ ap (λ (b : Bool). if b then drawn (drawn state) else state) (sym test);
      stop_is = is ∙ ap (λ (s : Stop). Some s) drawn_is
          ∙ ap (λ (b : Bool). if b then Some (crash_after state) else None) (sym test);
    }

pub stops-none : (turn state next : ℕ) (stop : Option Stop) → turn % 7 ≢ 0 → stop ≡ None → next ≡ state
    → StopsAt turn state stop next
stops-none turn state next stop other is after =
    let test : has_crash turn ≡ false = grind (arith, nat_tests) in
    record {
      counts = λ stops. ap (λ (s : Option Stop). with_stop s stops) is
          ∙ ap (λ (b : Bool). if b then counted stops else stops) (sym test);
      next_is = after ∙ ap (λ (b : Bool). if b then drawn (drawn state) else state) (sym test);
      stop_is = is ∙ ap (λ (b : Bool). if b then Some (crash_after state) else None) (sym test);
    }

-- Turns

turn-is : (live : List ℕ) (turn state : ℕ) (ask : Ask) (next : ℕ) (stop : Option Stop)
    → asked live turn state ≡ record { ask = ask; state = next }
    → stop ≡ (if has_crash turn then Some (crash_after next) else None)
    → ◌≡◌ {A = Turn} (record { ask = ask; now = clock_at turn; crash = stop }) (turn_of live turn state)
unfolding turn_of
turn-is live turn state ask next stop e is =
    ap (λ (s : Option Stop). record { ask = ask; now = clock_at turn; crash = s }) is
    ∙ ap (λ (a : Asked). record {
      ask = a.ask;
      now = clock_at turn;
      crash = if has_crash turn then Some (crash_after a.state) else None;
    }) (sym e)

turn-ask : (live : List ℕ) (turn state : ℕ) (ask : Ask) (next : ℕ)
    → asked live turn state ≡ record { ask = ask; state = next } → (turn_of live turn state).ask ≡ ask
unfolding turn_of
turn-ask live turn state ask next e = ap (λ (a : Asked). a.ask) e

pub turn-now : (live : List ℕ) (turn state : ℕ) → (turn_of live turn state).now ≡ clock_at turn
unfolding turn_of
turn-now live turn state = refl

past-is : (live : List ℕ) (turn state : ℕ) (ask : Ask) (next : ℕ)
    → asked live turn state ≡ record { ask = ask; state = next }
    → state_past live turn state ≡ (if has_crash turn then drawn (drawn next) else next)
unfolding state_past
past-is live turn state ask next e =
    ap (λ (a : Asked). if has_crash turn then drawn (drawn a.state) else a.state) e

after-is : (head : HeadValue) (turn : ℕ) (before : Drilled) (ask : Ask) (next last : ℕ) (operation : Op)
    → asked (live_numbers before.history) turn before.state ≡ record { ask = ask; state = next }
    → decide head.name head.created before.history ask (clock_at turn) ≡ Ok operation
    → last ≡ (if has_crash turn then drawn (drawn next) else next)
    → after_turn head turn before ≡ record { history = before.history ++ operation ∷ []; state = last }
after-is head turn before ask next last operation asks decides is =
    let live = live_numbers before.history in
    let at = turn_of live turn before.state in
    let found : decide head.name head.created before.history at.ask at.now ≡ Ok operation
    = ap (λ (a : Ask). decide head.name head.created before.history a at.now)
    (turn-ask live turn before.state ask next asks)
    ∙ ap (λ (n : ℕ). decide head.name head.created before.history ask n) (turn-now live turn before.state)
    ∙ decides in
    ap (λ r. record { history = before.history ++ decided r; state = state_past live turn before.state }) found
    ∙ ap (λ (s : ℕ). record { history = before.history ++ operation ∷ []; state = s })
    (past-is live turn before.state ask next asks ∙ sym is)

pub turned : (old new : LifeValue) (course after : CourseValue) (head : HeadValue) (turn : ℕ) (before : Drilled)
    (held : List (List KeptValue)) (wish : Wish) (next last : ℕ) (stop : Option Stop) → old.head ≡ head
    → course ≡ course_of before → suc (length before.history) ≡ turn
    → asked course.live turn course.state ≡ record { ask = ask_of turn wish; state = next }
    → StopsAt turn next stop last
    → IsDone old new turn (ask_of turn wish) (clock_at turn) stop before.history held
    → after ≡ noted (record course { state = last }) wish → IsTurned old new after head turn before held
turned old new course after head turn before held wish next last stop same is count asks stops done notes =
    let operation = done.gained.operation in
    let decides : decide head.name head.created before.history (ask_of turn wish) (clock_at turn) ≡ Ok operation
    = ap (λ (h : HeadValue). decide h.name h.created before.history (ask_of turn wish) (clock_at turn)) (sym same)
    ∙ done.gained.decided in
    let asks_before : asked (live_numbers before.history) turn before.state ≡ record {
      ask = ask_of turn wish;
      state =
          next;
    }
    = ap (λ (c : CourseValue). asked c.live turn c.state) (sym is) ∙ asks in
    let result = after-is head turn before (ask_of turn wish) next last operation asks_before decides stops.next_is in
    let later : done.later ≡ (after_turn head turn before).history
    = done.gained.later_is ∙ ap (λ (d : Drilled). d.history) (sym result) in
    record {
      lives = subst (λ (l : List Op). Lives new l held) later done.lives;
      course_is = notes ∙ ap (λ (c : CourseValue). noted (record c { state = last }) wish) is
          ∙ noted-at head before.history turn (clock_at turn) last wish operation decides
          ∙ ap course_of (sym result);
      whole = ap length (sym later) ∙ ap length done.gained.later_is
          ∙ length-append before.history (operation ∷ []) ∙ more;
      rest = subst (λ (n : ℕ). new ≡ record old {
        disk = new.disk;
        version = new.version;
        sealed = new.sealed;
        stops = n;
      }) (stops.counts old.stops) done.rest;
      kept = done.kept;
      requested = subst (λ (l : List Op). IsRequested head.name.base turn (turn_of
          (live_numbers before.history) turn before.state) done.kept (moment_of old before.history held)
          (moment_of new l held)) later
          (subst (λ (t : Turn). IsRequested head.name.base turn t done.kept (moment_of old before.history held)
          (moment_of new done.later held))
          (turn-is (live_numbers before.history) turn before.state (ask_of turn wish) next stop asks_before
          stops.stop_is)
          (subst (λ (h : HeadValue). IsRequested h.name.base turn (record {
            ask = ask_of turn wish;
            now = clock_at turn;
            crash = stop;
          }) done.kept (moment_of old before.history held) (moment_of new done.later held)) same done.requested));
    }
  where
    more : length before.history + 1 ≡ turn
    more = omega (arith, count)
