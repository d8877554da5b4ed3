-- A life that has the turns of a drill.
use Rattle.std.proofs.Common.{◌≡◌, ◌≢◌, ℕ, zero, suc, ◌+◌, ◌%◌, ◌/◌, ◌^◌, ◌<◌, ◌≤◌, List, [], ◌∷◌, ◌++◌}
use Rattle.std.proofs.Common.{Bool, true, false, map, length, length-append, refl, sym, ap, subst, ◌∙◌, ◌-◌, arith}
use Rattle.std.specs.Prelude.{All, filter, if◌then◌else◌, is_some}
use Rattle.std.specs.List.{range_with_len}
use Rattle.std.proofs.Math.Nat.{min-eq_left}
use Rattle.std.proofs.lemmas.Bool.Decides.{nat_tests}
use Rattle.std.proofs.lemmas.List.{append-nil, length-map, map-append, take-append-le}
use Rattle.std.proofs.lemmas.List.Elements.{All-filter}
use Rattle.std.proofs.lemmas.List.FromFn.{get_or-range_with_len, length-range_with_len}
use Rattle.atom_values.specs.Counts.{counted}
use Rattle.atom_writer.specs.Pieces.{text}
use Rattle.feed_disk.specs.Memory.{MemoryValue}
use Rattle.feed_drill.specs.Drilled.{Drilled, HadTurns, IsDrilledTo, after_turn, drilled, operations, sent_doc}
use Rattle.feed_drill.specs.Drilled.{sent_docs, sent_versions, turn_at}
use Rattle.feed_drill.specs.Effects.{CourseValue, IsFed, IsLived, IsReached, IsTurned, course_of, offer_stops_after}
use Rattle.feed_drill.specs.Effects.{stops_after}
use Rattle.feed_drill.specs.Events.{Goes, IsTurnOf, Moment, moment_of, offer_events, shown_events}
use Rattle.feed_drill.specs.Requests.{has_offer_crash}
use Rattle.feed_drill.specs.Turn.{Turn, clock_at, has_crash, has_offer, live_numbers, turn_of}
use Rattle.feed_drill.proofs.CourseLemmas.{turn-now}
use Rattle.feed_drill.proofs.MemberLemmas.{filter-more}
use Rattle.feed_drill.proofs.PathLemmas.{moment-is, no-offers, some-offers, turn-at-more, turn-had}
use Rattle.feed_life.specs.Events.{IsBorn}
use Rattle.feed_life.specs.Life.{LifeValue, Lives}
use Rattle.feed_life.specs.declared.sent.SentDoc.{SentDoc}
use Rattle.member_rules.specs.Documents.{subscription}
use Rattle.member_rules.specs.Fold.{fold_of, made}
use Rattle.member_rules.specs.Head.{HeadValue}
use Rattle.member_rules.specs.declared.operation.Op.{Op}
use Rattle.mirror_walk.specs.Holding.{KeptValue}

-- Numbers

some-rest : (n : ℕ) → n ≢ 0 → 0 < n
some-rest zero other = absurd (other refl)
some-rest (suc n) other = omega arith

counted-is : (n : ℕ) → n < 2 ^ 32 → counted n ≡ n + 1
counted-is n few = min-eq_left (omega (arith, few))

seventh : (count turn : ℕ) (crash : Bool) → crash ≡ has_crash turn → suc count ≡ turn → turn < 2 ^ 32
    → (if crash then counted (count / 7) else count / 7) ≡ turn / 7
seventh count turn true is next few =
    let rest : turn % 7 ≡ 0 = grind (arith, nat_tests) in
    counted-is (count / 7) (omega (arith, next, few)) ∙ omega (arith, rest, next)
seventh count turn false is next few =
    let some : 0 < turn % 7 = some-rest (turn % 7) (λ none. let test : has_crash turn ≡ true = grind
    (arith, nat_tests) in cc) in
    omega (arith, some, next)

fifteenth : (count turn : ℕ) (crash : Bool) → crash ≡ has_offer_crash turn → suc count ≡ turn → turn < 2 ^ 32
    → (if crash then counted (count / 15) else count / 15) ≡ turn / 15
fifteenth count turn true is next few =
    let rest : turn % 15 ≡ 0 = grind (arith, nat_tests) in
    counted-is (count / 15) (omega (arith, next, few)) ∙ omega (arith, rest, next)
fifteenth count turn false is next few =
    let some : 0 < turn % 15
    = some-rest (turn % 15) (λ none. let test : has_offer_crash turn ≡ true = grind (arith, nat_tests) in cc) in
    omega (arith, some, next)

-- Sent documents

versions-more : (count : ℕ)
    → sent_versions (suc count) ≡ sent_versions count ++ (if has_offer (suc count) then suc count ∷ [] else [])
unfolding sent_versions
versions-more count = filter-more has_offer count

no-versions : length (sent_versions 0) ≡ 0
unfolding sent_versions
no-versions = refl

-- each fifth turn sent one document
length-versions : (count : ℕ) → length (sent_versions count) ≡ count / 5
length-versions zero = no-versions
length-versions (suc count) =
    ap length (versions-more count) ∙ by (has_offer (suc count)) refl (length-versions count)
  where
    by : (fifth : Bool) → fifth ≡ has_offer (suc count) → length (sent_versions count) ≡ count / 5
        → length (sent_versions count ++ (if fifth then suc count ∷ [] else [])) ≡ suc count / 5
    by true is before =
        let rest : suc count % 5 ≡ 0 = grind (arith, nat_tests) in
        length-append (sent_versions count) (suc count ∷ []) ∙ omega (arith, rest, before)
    by false is before =
        let some : 0 < suc count % 5 = some-rest (suc count % 5) (λ none.
        let test : has_offer (suc count) ≡ true = grind (arith, nat_tests) in cc) in
        ap length (append-nil (sent_versions count)) ∙ omega (arith, some, before)

length-sent : (head : HeadValue) (history : List Op) (count : ℕ) → length (sent_docs head history count) ≡ count / 5
length-sent head history count = length-map (sent_versions count) (sent_doc head history) ∙ length-versions count

module _ (head : HeadValue) (history more : List Op) where
  -- documents of versions that are no later stay
  docs-same : (p : ℕ → Bool) (a n : ℕ) → a + n ≤ length history + 1
      → map (sent_doc head (history ++ more)) (filter p (range_with_len a n))
      ≡ map (sent_doc head history) (filter p (range_with_len a n))
  docs-same p a zero within = refl
  docs-same p a (suc n) within = by (p a) (docs-same p (a + 1) n (omega (arith, within)))
    where
      one : sent_doc head (history ++ more) a ≡ sent_doc head history a
      one = ap (λ (l : List Op). record {
        address = (sent_doc head history a).address;
        bytes = text (subscription head l);
        version = a;
      }) (take-append-le a history more (omega (arith, within)))

      by : (here : Bool)
          → map (sent_doc head (history ++ more)) (filter p (range_with_len (a + 1) n))
          ≡ map (sent_doc head history) (filter p (range_with_len (a + 1) n))
          → map (sent_doc head (history ++ more)) (if here then a ∷ filter p (range_with_len (a + 1) n)
          else filter p (range_with_len (a + 1) n))
          ≡ map (sent_doc head history) (if here then a ∷ filter p (range_with_len (a + 1) n)
          else filter p (range_with_len (a + 1) n))
      by true rest =
          ap (λ (d : SentDoc). d ∷ map (sent_doc head (history ++ more)) (filter p (range_with_len (a + 1) n))) one
          ∙ ap (λ (l : List SentDoc). sent_doc head history a ∷ l) rest
      by false rest = rest

  sent-same : (count : ℕ) → count ≤ length history
      → sent_docs head (history ++ more) count ≡ sent_docs head history count
  unfolding sent_versions
  sent-same count within = docs-same has_offer 1 count (omega (arith, within))

  pub docs-none : (count : ℕ) → count ≤ length history → has_offer (suc count) ≡ false
      → sent_docs head (history ++ more) (suc count) ≡ sent_docs head history count
  docs-none count within other =
      ap (map (sent_doc head (history ++ more))) (versions-more count
      ∙ ap (λ (b : Bool). sent_versions count ++ (if b then suc count ∷ [] else [])) other
      ∙ append-nil (sent_versions count))
      ∙ sent-same count within

  pub docs-one : (count : ℕ) → count ≤ length history → has_offer (suc count) ≡ true
      → sent_docs head (history ++ more) (suc count)
      ≡ sent_docs head history count ++ sent_doc head (history ++ more) (suc count) ∷ []
  docs-one count within fifth =
      ap (map (sent_doc head (history ++ more))) (versions-more count
      ∙ ap (λ (b : Bool). sent_versions count ++ (if b then suc count ∷ [] else [])) fifth)
      ∙ map-append (sent_doc head (history ++ more)) (sent_versions count) (suc count ∷ [])
      ∙ ap (λ (l : List SentDoc). l ++ sent_doc head (history ++ more) (suc count) ∷ []) (sent-same count within)

-- Turns

drilled-more : (head : HeadValue) (seed count : ℕ)
    → drilled head seed (suc count) ≡ after_turn head (suc count) (drilled head seed count)
unfolding drilled
drilled-more head seed count = refl

-- the parts of a life that its next turn's are made of
record Counts (head : HeadValue) (seed turn : ℕ) (old : LifeValue) : Type 0 where
  head_is : old.head ≡ head
  stops : stops_after turn old.stops ≡ turn / 7
  mirror_stops : offer_stops_after turn old.mirror_stops ≡ turn / 15

counts : (head : HeadValue) (seed count turn : ℕ) (old : LifeValue) (kept : List KeptValue)
    → IsDrilledTo head seed count old kept → suc count ≡ turn → turn < 2 ^ 32 → Counts head seed turn old
counts head seed count turn old kept is next few = record {
  head_is = is.head_is;
  stops = ap (stops_after turn) is.stops ∙ seventh count turn (has_crash turn) refl next few;
  mirror_stops = ap (offer_stops_after turn) is.mirror_stops
      ∙ fifteenth count turn (has_offer_crash turn) refl next few;
}

-- the operations of one more turn
operations-more : (head : HeadValue) (seed count : ℕ)
    → operations head seed (suc count) ≡ (after_turn head (suc count) (drilled head seed count)).history
operations-more head seed count = ap (λ (d : Drilled). d.history) (drilled-more head seed count)

no-offer : (turn : ℕ) → turn % 5 ≢ 0 → has_offer turn ≡ false
no-offer turn other = grind (arith, nat_tests)

an-offer : (turn : ℕ) → turn % 5 ≡ 0 → has_offer turn ≡ true
an-offer turn fifth = grind (arith, nat_tests)

no-crash : (turn : ℕ) → turn % 5 ≢ 0 → has_offer_crash turn ≡ false
no-crash turn other =
    let some : 0 < turn % 5 = some-rest (turn % 5) other in
    let rest : 0 < turn % 15 = omega (arith, some) in grind (arith, nat_tests)

module _ (head : HeadValue) (seed count : ℕ) (old between : LifeValue) (course : CourseValue) (kept : List KeptValue)
    (is : IsDrilledTo head seed count old kept)
    (had : HadTurns head seed count (moment_of old (operations head seed count) (kept ∷ []))) (few : suc count < 2 ^ 32)
    (turned : IsTurned old between course head (suc count) (drilled head seed count) (kept ∷ [])) where
  abbrev history : List Op
  history = operations head seed count

  abbrev later : List Op
  later = (after_turn head (suc count) (drilled head seed count)).history

  head-between : between.head ≡ head
  head-between = ap (λ (l : LifeValue). l.head) turned.rest ∙ is.head_is

  within : count ≤ length history
  within = let whole = is.whole in omega (arith, whole)

  course-is : course ≡ course_of (drilled head seed (suc count))
  course-is = turned.course_is ∙ ap course_of (sym (drilled-more head seed count))

  stops-is : between.stops ≡ suc count / 7
  stops-is =
      ap (λ (l : LifeValue). l.stops) turned.rest ∙ (counts head seed count (suc count) old kept is refl few).stops

  mirror-stops-is : offer_stops_after (suc count) between.mirror_stops ≡ suc count / 15
  mirror-stops-is =
      ap (λ (l : LifeValue). offer_stops_after (suc count) l.mirror_stops) turned.rest
      ∙ (counts head seed count (suc count) old kept is refl few).mirror_stops

  sent-between : between.sent ≡ sent_docs head history count
  sent-between = ap (λ (l : LifeValue). l.sent) turned.rest ∙ is.sent

  abbrev turn : Turn
  turn = turn_of (live_numbers history) (suc count) (drilled head seed count).state

  -- the turn's offers come after its requests
  had-more : (life : LifeValue) (held : List KeptValue)
      → Goes (moment_of between later (kept ∷ [])) (offer_events head.name.base (suc count) (clock_at (suc count)))
      (moment_of life later (held ∷ []))
      → HadTurns head seed (suc count) (moment_of life later (held ∷ []))
  had-more life held offers =
      let before : Moment = moment_of old history (kept ∷ []) in
      let after : Moment = moment_of life later (held ∷ []) in
      let one : IsTurnOf head.name.base (suc count) turn turned.kept before after
      = turn-had head.name.base (suc count) turn turned.kept before (moment_of between later (kept ∷ [])) after
      turned.requested
      (subst (λ (n : ℕ). Goes (moment_of between later (kept ∷ [])) (offer_events head.name.base (suc count) n) after)
      (sym (turn-now (live_numbers history) (suc count) (drilled head seed count).state)) offers) in
      record {
        keeps = turned.kept ∷ had.keeps;
        each = ap suc had.each;
        begun = had.begun;
        born = had.born;
        turns = (
          before,
          had.turns,
          subst (λ (n : ℕ). IsTurnOf head.name.base (suc n) (turn_at head seed (suc n)) turned.kept before after)
              (sym had.each)
              (subst (λ (t : Turn). IsTurnOf head.name.base (suc count) t turned.kept before after)
              (sym (turn-at-more head seed count)) one),
        );
      }

  lived-by : (life : LifeValue) (held : List KeptValue) → life.head ≡ head → Lives life later (held ∷ [])
      → life.stops ≡ suc count / 7 → life.mirror_stops ≡ suc count / 15
      → life.sent ≡ sent_docs head later (suc count)
      → Goes (moment_of between later (kept ∷ [])) (offer_events head.name.base (suc count) (clock_at (suc count)))
      (moment_of life later (held ∷ []))
      → IsReached head seed (suc count) life course
  lived-by life held head_is lives stops mirror_stops sent offers =
      let same = sym (operations-more head seed count) in
      record {
        lived = record {
          kept = held;
          drilled = record {
            head_is = head_is;
            lives = subst (λ (l : List Op). Lives life l (held ∷ [])) same lives;
            whole = ap length (sym same) ∙ turned.whole;
            stops = stops;
            mirror_stops = mirror_stops;
            sent = sent ∙ ap (λ (l : List Op). sent_docs head l (suc count)) same;
          };
          had = subst (λ (l : List Op). HadTurns head seed (suc count) (moment_of life l (held ∷ []))) same
              (had-more life held offers);
        };
        course_is = course-is;
      }

  turn-reached : suc count % 5 ≢ 0 → IsReached head seed (suc count) between course
  turn-reached other =
      lived-by between kept head-between turned.lives stops-is
      (ap (λ (b : Bool). if b then counted between.mirror_stops else between.mirror_stops)
      (sym (no-crash (suc count) other)) ∙ mirror-stops-is)
      (sent-between ∙ sym (docs-none head history _ count within (no-offer (suc count) other)))
      (no-offers head.name.base (suc count) (clock_at (suc count)) (moment_of between later (kept ∷ []))
      (no-offer (suc count) other))

  -- the document that was sent last is that of the turn
  place-is : suc count % 5 ≡ 0 → length between.sent ≡ suc count / 5 - 1
  place-is fifth =
      let sent : length between.sent ≡ count / 5 = ap length sent-between ∙ length-sent head history count in
      omega (arith, fifth, sent)

  offer-reached : (new : LifeValue) → suc count % 5 ≡ 0 → IsFed between new (suc count) later kept
      → IsReached head seed (suc count) new course
  offer-reached new fifth fed =
      let head_is : new.head ≡ head = ap (λ (l : LifeValue). l.head) fed.rest ∙ head-between in
      lived-by new fed.kept head_is fed.lives (ap (λ (l : LifeValue). l.stops) fed.rest ∙ stops-is)
      (ap (λ (l : LifeValue). l.mirror_stops) fed.rest ∙ mirror-stops-is)
      (ap (λ (l : LifeValue). l.sent) fed.rest
      ∙ ap (λ (l : List SentDoc). l ++ sent_doc between.head later (length later) ∷ []) sent-between
      ∙ ap (λ (h : HeadValue). sent_docs head history count ++ sent_doc h later (length later) ∷ []) head-between
      ∙ ap (λ (n : ℕ). sent_docs head history count ++ sent_doc head later n ∷ []) turned.whole
      ∙ sym (docs-one head history _ count within (an-offer (suc count) fifth)))
      (some-offers head.name.base (suc count) (clock_at (suc count)) (moment_of between later (kept ∷ []))
      (moment_of new later (fed.kept ∷ [])) (an-offer (suc count) fifth)
      (subst (λ (n : ℕ). Goes (moment_of between later (kept ∷ []))
      (shown_events head.name.base (suc count) (clock_at (suc count)) n) (moment_of new later (fed.kept ∷ [])))
      (place-is fifth)
      (subst (λ (h : HeadValue). Goes (moment_of between later (kept ∷ []))
      (shown_events h.name.base (suc count) (clock_at (suc count)) (length between.sent))
      (moment_of new later (fed.kept ∷ []))) head-between fed.goes)))

-- one more turn
pub have-reached : (head : HeadValue) (seed count turn : ℕ) (old between : LifeValue) (before course : CourseValue)
    → IsReached head seed count old before → suc count ≡ turn → turn < 2 ^ 32
    → ((drill : Drilled) (held : List (List KeptValue)) → Lives old drill.history held → old.head ≡ head
    → before ≡ course_of drill → suc (length drill.history) ≡ turn → IsTurned old between course head turn drill held)
    → turn % 5 ≢ 0 → IsReached head seed turn between course
have-reached head seed count turn old between before course reached next few turns other =
    let is = reached.lived.drilled in
    let made = turns (drilled head seed count) (reached.lived.kept ∷ []) is.lives is.head_is reached.course_is
    (ap suc is.whole ∙ next) in
    subst (λ (n : ℕ). IsReached head seed n between course) next
    (turn-reached head seed count old between course reached.lived.kept is reached.lived.had (omega (arith, next, few))
    (subst (λ (n : ℕ). IsTurned old between course head n (drilled head seed count) (reached.lived.kept ∷ []))
    (sym next)
    made)
    (λ fifth. other (ap (λ (n : ℕ). n % 5) (sym next) ∙ fifth)))

-- one more turn with its offer
pub feed-reached : (head : HeadValue) (seed count turn : ℕ) (old between new : LifeValue) (before course : CourseValue)
    → IsReached head seed count old before → suc count ≡ turn → turn < 2 ^ 32
    → ((drill : Drilled) (held : List (List KeptValue)) → Lives old drill.history held → old.head ≡ head
    → before ≡ course_of drill → suc (length drill.history) ≡ turn → IsTurned old between course head turn drill held)
    → turn % 5 ≡ 0
    → ((history : List Op) (kept : List KeptValue) → Lives between history (kept ∷ []) → between.head ≡ head
    → IsFed between new turn history kept)
    → IsReached head seed turn new course
feed-reached head seed count turn old between new before course reached next few turns fifth feeds =
    let is = reached.lived.drilled in
    let made = turns (drilled head seed count) (reached.lived.kept ∷ []) is.lives is.head_is reached.course_is
    (ap suc is.whole ∙ next) in
    let turned = subst (λ (n : ℕ). IsTurned old between course head n (drilled head seed count)
    (reached.lived.kept ∷ []))
    (sym next) made in
    let fed = feeds (after_turn head (suc count) (drilled head seed count)).history reached.lived.kept turned.lives
    (ap (λ (l : LifeValue). l.head) turned.rest ∙ is.head_is) in
    subst (λ (n : ℕ). IsReached head seed n new course) next
    (offer-reached head seed count old between course reached.lived.kept is reached.lived.had (omega (arith, next, few))
    turned new (ap (λ (n : ℕ). n % 5) next ∙ fifth)
    (subst (λ (n : ℕ). IsFed between new n (after_turn head (suc count) (drilled head seed count)).history
    reached.lived.kept)
    (sym next) fed))

-- Before the first turn

none-held : (mirrors : List MemoryValue) → length mirrors ≡ 1
    → (let held : List (List KeptValue) = map (λ _. []) mirrors in held ≡ [] ∷ [])
none-held [] one = absurd (omega (arith, one))
none-held (mirror ∷ []) one = refl
none-held (mirror ∷ other ∷ mirrors) one = absurd (omega (arith, one))

drilled-none : (head : HeadValue) (seed : ℕ) → drilled head seed 0 ≡ record { history = []; state = seed }
unfolding drilled
drilled-none head seed = refl

sent-none : (head : HeadValue) (list : List Op) → sent_docs head list 0 ≡ []
unfolding sent_versions
sent-none head list = refl

pub born-lived : (head : HeadValue) (seed : ℕ) (life : LifeValue) → IsBorn head 1 life → IsLived head seed 0 life
born-lived head seed life born =
    let none : [] ≡ operations head seed 0 = sym (ap (λ (d : Drilled). d.history) (drilled-none head seed)) in
    record {
      kept = [];
      drilled = record {
        head_is = born.head_is;
        lives = subst (λ (l : List Op). Lives life l ([] ∷ [])) none
            (subst (λ (h : List (List KeptValue)). Lives life [] h) (none-held life.mirrors born.mirrors_are)
            born.lives);
        whole = ap length (sym none);
        stops = born.stops.0;
        mirror_stops = born.stops.1;
        sent = born.sent ∙ sym (sent-none head (operations head seed 0));
      };
      had = record {
        keeps = [];
        each = refl;
        begun = life;
        born = born;
        turns = moment-is life [] (operations head seed 0) (map (λ _. []) life.mirrors) ([] ∷ []) (sym none)
            (sym (none-held life.mirrors born.mirrors_are));
      };
    }

pub course-begun : (head : HeadValue) (seed : ℕ) (course : CourseValue)
    → course ≡ record { state = seed; live = []; made = 0 } → course ≡ course_of (drilled head seed 0)
unfolding live_numbers
course-begun head seed course is = is ∙ ap course_of (sym (drilled-none head seed))

range-counted : (n : ℕ) → All (λ (x : ℕ). 1 ≤ x) (range_with_len 1 n)
range-counted n place other inside =
    let few : place < n = omega (arith, inside, length-range_with_len 1 n) in
    omega (arith, get_or-range_with_len 1 n place other few)

-- members are counted from 1
pub live-counted : (course : CourseValue) (drill : Drilled) → course ≡ course_of drill → All (λ n. 1 ≤ n) course.live
unfolding live_numbers
live-counted course drill is =
    subst (λ (c : CourseValue). All (λ (x : ℕ). 1 ≤ x) c.live) (sym is)
    (All-filter (λ number. is_some ((fold_of drill.history).live number)) (λ (x : ℕ). 1 ≤ x)
    (range_with_len 1 (made drill.history)) (range-counted (made drill.history)))
