-- The life after the steps of a turn.
use Rattle.std.proofs.Common.{◌≡◌, ◌≢◌, ◌⊎◌, inl, inr, ℕ, suc, ◌+◌, List, [], ◌∷◌, ◌++◌, Option, Some, None, Result}
use Rattle.std.proofs.Common.{Ok, Err, OnOk, Bool, true, false, ◌==◌}
use Rattle.std.proofs.Common.{length, length-append, refl, sym, ap, subst, ◌∙◌, arith}
use Rattle.std.proofs.lemmas.Bool.Decides.{nat_tests}
use Rattle.std.proofs.lemmas.List.{append-nil}
use Rattle.atom_values.specs.Counts.{counted}
use Rattle.document_server.specs.Answer.{added}
use Rattle.document_server.specs.Reply.{IsOutcome, Outcome}
use Rattle.document_server.specs.declared.line.Line.{Line}
use Rattle.feed_drill.specs.Effects.{Gained, IsCrashed, IsDone, IsWish, IsWishRead, KeepsRest, ask_of}
use Rattle.feed_drill.specs.Events.{Goes, IsRequested, Moment, moment_of}
use Rattle.feed_drill.specs.Requests.{request_of}
use Rattle.feed_drill.specs.Turn.{Turn}
use Rattle.feed_drill.specs.declared.wish.Wish.{Wish}
use Rattle.feed_drill.proofs.OutcomeLemmas.{Comes, Does, done-media, wish-does}
use Rattle.feed_drill.proofs.PathLemmas.{moment-is, step-goes}
use Rattle.feed_life.specs.Asks.{Sends, docs_of, of_request}
use Rattle.feed_life.specs.Events.{IsStep, StepsAsk, StepsHalt}
use Rattle.feed_life.specs.Life.{LifeValue, Lives}
use Rattle.feed_life.specs.declared.event.Event.{Event}
use Rattle.feed_life.specs.declared.event.Event.TheVariants.{Ask as AskEvent}
use Rattle.feed_life.specs.declared.event.Stop.{Stop}
use Rattle.feed_life.specs.declared.sent.SentDoc.{SentDoc}
use Rattle.feed_recovery.specs.Store.{StoreValue}
use Rattle.http_face.specs.Request.{RequestValue}
use Rattle.http_face.specs.declared.reply.Media.TheVariants as media
use Rattle.http_face.specs.declared.reply.Reply.{Reply}
use Rattle.member_rules.specs.Decide.{decide}
use Rattle.member_rules.specs.Head.{HeadValue}
use Rattle.member_rules.specs.declared.ask.Ask.{Ask}
use Rattle.member_rules.specs.declared.operation.Op.{Op}
use Rattle.mirror_walk.specs.Holding.{KeptValue}

-- a weaker condition on the value of an `Ok`
pub on-ok : {T E : Type 0} (result : Result T E) {P Q : Type 0} → (P → Q) → OnOk result P → OnOk result Q
on-ok (Ok value) gives holds = gives holds
on-ok (Err fault) gives holds = holds

-- the history didn't grow by one
not-grown : {X : Type 0} (history later : List Op) → later ≡ history → length later ≡ suc (length history) → X
not-grown history later same grown = let equal = ap length same in absurd (omega (arith, equal, grown))

module _ (head : HeadValue) (turn now : ℕ) (wish : Wish) (history : List Op) (of : IsWish wish)
    (read : IsWishRead turn wish) where
  abbrev asks : RequestValue
  asks = request_of head.name.base turn (ask_of turn wish)

  does-gained : (later : List Op) (store : StoreValue) (outcome : Outcome) (operation : Op) → store.head ≡ head
      → store.history ≡ history → Does store (ask_of turn wish) now outcome operation
      → later ≡ history ++ operation ∷ [] → Gained head history later (ask_of turn wish) now
  does-gained later store outcome operation same_head same_history does is = record {
    operation = operation;
    decided =
        ap (λ (h : HeadValue). decide h.name h.created history (ask_of turn wish) now) (sym same_head)
        ∙ ap (λ (l : List Op). decide store.head.name store.head.created l (ask_of turn wish) now) (sym same_history)
        ∙ does.decided;
    later_is = is;
  }

  outcome-does : (store : StoreValue) (outcome : Outcome) (operation : Op) → store.head ≡ head
      → IsOutcome store asks now outcome → outcome.adds ≡ Some operation
      → Does store (ask_of turn wish) now outcome operation
  outcome-does store outcome operation same is adds =
      wish-does store turn now wish outcome operation of read
      (subst (λ (h : HeadValue). IsOutcome store (request_of h.name.base turn (ask_of turn wish)) now outcome)
      (sym same) is)
      adds

  either-by : (later : List Op) (store : StoreValue) (outcome : Outcome) (adds : Option Op) → outcome.adds ≡ adds
      → store.head ≡ head → store.history ≡ history → IsOutcome store asks now outcome
      → later ≡ history ++ added outcome.adds
      → (later ≡ history) ⊎ Gained head history later (ask_of turn wish) now
  either-by later store outcome None adds same_head same_history is grows =
      inl (grows ∙ ap (λ (a : Option Op). history ++ added a) adds ∙ append-nil history)
  either-by later store outcome (Some operation) adds same_head same_history is grows =
      inr (does-gained later store outcome operation same_head same_history
      (outcome-does store outcome operation same_head is adds)
      (grows ∙ ap (λ (a : Option Op). history ++ added a) adds))

  either-way : {Gains : Type 0} (later : List Op) → (later ≡ history) ⊎ Gains
      → (Gains → (later ≡ history) ⊎ Gained head history later (ask_of turn wish) now)
      → (later ≡ history) ⊎ Gained head history later (ask_of turn wish) now
  either-way later (inl same) gains = inl same
  either-way later (inr gained) gains = gains gained

  -- an answered request with which the history grew
  record Replies (later : List Op) (reply : Reply) : Type 0 where
    gained : Gained head history later (ask_of turn wish) now
    shows_none : reply.media ≢ media.Feed

  replies-by : (later : List Op) (reply : Reply) (comes : Comes head asks now history later reply)
      (adds : Option Op) → comes.outcome.adds ≡ adds → length later ≡ suc (length history) → Replies later reply
  replies-by later reply comes None adds grown =
      not-grown history later (comes.history_is ∙ ap (λ (a : Option Op). history ++ added a) adds
      ∙ append-nil history)
      grown
  replies-by later reply comes (Some operation) adds grown =
      let does = outcome-does comes.store comes.outcome operation comes.same_head comes.is_outcome adds in
      record {
        gained = does-gained later comes.store comes.outcome operation comes.same_head
            comes.same_history does (comes.history_is ∙ ap (λ (a : Option Op). history ++ added a) adds);
        shows_none = λ is. done-media comes.store.head.name operation
            (ap (λ (o : Outcome). o.reply.media) (sym does.is) ∙ ap (λ (r : Reply). r.media) (sym comes.reply_is)
            ∙ is);
      }

  sends-none : (reply : Reply) (version : ℕ) (gained : Option SentDoc) → reply.media ≢ media.Feed
      → Sends head.name.base asks reply version gained → docs_of gained ≡ []
  sends-none reply version None other sends = refl
  sends-none reply version (Some doc) other sends = absurd (other sends.media)

abbrev wish_event : List ℕ → ℕ → Wish → ℕ → Option Stop → Event
wish_event base turn wish now stop = AskEvent (request_of base turn (ask_of turn wish)) now stop

-- a step by a request is one by the request of the turn
wish-step : (old new : LifeValue) (head : HeadValue) (turn : ℕ) (wish : Wish) (request : RequestValue) (now : ℕ)
    (moment : ℕ) (stop : Option Stop) (history : List Op) (held : List (List KeptValue)) (line : Option Line)
    → request ≡ request_of head.name.base turn (ask_of turn wish) → now ≡ moment → old.head ≡ head
    → IsStep old new (AskEvent request now stop) history held line
    → IsStep old new (wish_event old.head.name.base turn wish moment stop) history held line
wish-step old new head turn wish request now moment stop history held line is at same step =
    subst (λ (n : ℕ).
    IsStep old new (wish_event old.head.name.base turn wish n stop) history held line) at
    (subst (λ (r : RequestValue). IsStep old new (AskEvent r now stop) history held line)
    (is ∙ ap (λ (h : HeadValue). request_of h.name.base turn (ask_of turn wish)) (sym same)) step)

-- a request that was answered, and with which the history grew
asks-done : (old new : LifeValue) (turn : ℕ) (wish : Wish) (now : ℕ) (history : List Op)
    (held : List (List KeptValue)) (line : Option Line) → IsWish wish → IsWishRead turn wish
    → (step : IsStep old new (wish_event old.head.name.base turn wish now None) history held
    line) → length step.later ≡ suc (length history)
    → IsDone old new turn (ask_of turn wish) now None history held
asks-done old new turn wish now history held line of read step grown =
    let steps : StepsAsk old new (request_of old.head.name.base turn (ask_of turn wish)) now history step.later held
    step.left line = step.steps in
    let asked = steps.asked in
    let replied = asked.replied in
    let replies = replies-by old.head turn now wish history of read asked.later asked.reply (record {
      store = replied.store;
      same_head = replied.loaded.head_is;
      same_history = replied.loaded.history_is;
      outcome = replied.outcome;
      is_outcome = replied.is_outcome;
      history_is = replied.history_is;
      reply_is = replied.reply_is;
    }) replied.outcome.adds refl (ap length (sym steps.history_is) ∙ grown) in
    let none = sends-none old.head turn now wish history of read asked.reply (length asked.later) asked.gained
    replies.shows_none asked.sends in
    let sent : new.sent ≡ old.sent = asked.sent ∙ ap (λ (docs : List SentDoc). old.sent ++ docs) none
    ∙ append-nil old.sent in
    record {
      later = asked.later;
      gained = replies.gained;
      lives = asked.lives;
      rest = steps.stays ∙ ap (λ (docs : List SentDoc). record old {
        disk = new.disk;
        sent = docs;
        version = new.version;
        sealed = new.sealed;
      }) sent;
      kept = true;
      requested = record {
        goes = step-goes old new (wish_event old.head.name.base turn wish now None) history held
            line step asked.later held (sym steps.history_is) (sym steps.held_is);
        kept_is = λ some. absurd (cc);
      };
    }

pub ask-done : (old new : LifeValue) (head : HeadValue) (turn : ℕ) (wish : Wish) (request : RequestValue) (now : ℕ)
    (moment : ℕ) (history : List Op) (held : List (List KeptValue)) (line : Option Line) → IsWish wish
    → IsWishRead turn wish → request ≡ request_of head.name.base turn (ask_of turn wish) → now ≡ moment
    → old.head ≡ head → IsStep old new (AskEvent request now None) history held line → new.version ≡ turn
    → suc (length history) ≡ turn → IsDone old new turn (ask_of turn wish) moment None history held
ask-done old new head turn wish request now moment history held line of read is at same step version next =
    let made = wish-step old new head turn wish request now moment None history held line is at same step in
    asks-done old new turn wish moment history held line of read made (sym made.lives.version ∙ version ∙ sym next)

crashes-done : (old new : LifeValue) (turn : ℕ) (wish : Wish) (now : ℕ) (stop : Stop) (history : List Op)
    (held : List (List KeptValue)) (line : Option Line) → IsWish wish → IsWishRead turn wish
    → IsStep old new (wish_event old.head.name.base turn wish now (Some stop)) history held line
    → IsCrashed old new turn (ask_of turn wish) now stop history held
crashes-done old new turn wish now stop history held line of read step =
    let steps : StepsHalt old new (of_request (request_of old.head.name.base turn (ask_of turn wish)) now) stop history
    step.later held step.left line = step.steps in
    record {
      later = steps.halted.later;
      either = either-way old.head turn now wish history of read steps.halted.later steps.halted.stopped.gains (λ gains.
          either-by old.head turn now wish history of read steps.halted.later gains.store gains.outcome
          gains.outcome.adds refl gains.loaded.head_is gains.loaded.history_is gains.is_outcome gains.history_is);
      lives = steps.halted.lives;
      rest = steps.stays;
      goes = step-goes old new (wish_event old.head.name.base turn wish now (Some stop)) history
          held line step steps.halted.later held (sym steps.history_is) (sym steps.held_is);
    }

pub crash-done : (old new : LifeValue) (head : HeadValue) (turn : ℕ) (wish : Wish) (request : RequestValue) (now : ℕ)
    (moment : ℕ) (stop : Stop) (history : List Op) (held : List (List KeptValue)) (line : Option Line) → IsWish wish
    → IsWishRead turn wish → request ≡ request_of head.name.base turn (ask_of turn wish) → now ≡ moment
    → old.head ≡ head → IsStep old new (AskEvent request now (Some stop)) history held line
    → IsCrashed old new turn (ask_of turn wish) moment stop history held
crash-done old new head turn wish request now moment stop history held line of read is at same step =
    crashes-done old new turn wish moment stop history held line of read
    (wish-step old new head turn wish request now moment (Some stop) history held line is at same step)

-- Requests with their crash

is-number : (m n : ℕ) → m ≡ n → (m == n) ≡ true
is-number m n e = grind (arith, nat_tests)

is-other : (m n : ℕ) → m ≢ n → (m == n) ≡ false
is-other m n e = grind (arith, nat_tests)

keeps-both : (old between new : LifeValue) (first second : ℕ) → KeepsRest old between first
    → KeepsRest between new second → KeepsRest old new second
keeps-both old between new first second one other =
    other ∙ ap (λ (l : LifeValue). record l {
      disk = new.disk;
      version = new.version;
      sealed = new.sealed;
      stops = second;
    }) one

-- the turn of a request
abbrev turn_by : Ask → ℕ → Option Stop → Turn
turn_by ask now stop = record { ask = ask; now = now; crash = stop }

-- the operation outlived the crash
pub crash-kept : (old new : LifeValue) (ask : Ask) (now turn : ℕ) (stop : Stop) (history : List Op)
    (held : List (List KeptValue)) → IsCrashed old new turn ask now stop history held → new.version ≡ turn
    → suc (length history) ≡ turn → IsDone old new turn ask now (Some stop) history held
crash-kept old new ask now turn stop history held crashed is next = by crashed.either
  where
    same : crashed.goes.0 ≡ new
    same = ap (λ (m : Moment). m.life) (sym crashed.goes.3)

    version : crashed.goes.0.version ≡ turn
    version = ap (λ (l : LifeValue). l.version) same ∙ is

    by : (crashed.later ≡ history) ⊎ Gained old.head history crashed.later ask now
        → IsDone old new turn ask now (Some stop) history held
    by (inl lost) =
        not-grown history crashed.later lost (sym crashed.lives.version ∙ is ∙ sym next)
    by (inr gained) = record {
      later = crashed.later;
      gained = gained;
      lives = crashed.lives;
      rest = crashed.rest;
      kept = true;
      requested = record { goes = crashed.goes; kept_is = λ some. sym (is-number crashed.goes.0.version turn version) };
    }

-- the crash lost the operation, and the request was made again
pub crash-again : (old between new : LifeValue) (head : HeadValue) (ask : Ask) (now turn : ℕ) (stop : Stop)
    (history : List Op) (held : List (List KeptValue)) → IsCrashed old between turn ask now stop history held
    → between.version ≢ turn → suc (length history) ≡ turn → old.head ≡ head
    → ((later : List Op) → Lives between later held → between.head ≡ head → suc (length later) ≡ turn
    → IsDone between new turn ask now None later held)
    → IsDone old new turn ask now (Some stop) history held
crash-again old between new head ask now turn stop history held crashed other next same again = by crashed.either
  where
    head_is : between.head ≡ old.head
    head_is = ap (λ (l : LifeValue). l.head) crashed.rest

    stops_is : between.stops ≡ counted old.stops
    stops_is = ap (λ (l : LifeValue). l.stops) crashed.rest

    reached : crashed.goes.0 ≡ between
    reached = ap (λ (m : Moment). m.life) (sym crashed.goes.3)

    version : crashed.goes.0.version ≢ turn
    version is = other (ap (λ (l : LifeValue). l.version) (sym reached) ∙ is)

    goes-both : (later : List Op) → crashed.later ≡ history
        → IsRequested between.head.name.base turn (turn_by ask now None) true (moment_of between history held)
        (moment_of new later held)
        → IsRequested old.head.name.base turn (turn_by ask now (Some stop)) false (moment_of old history held)
        (moment_of new later held)
    goes-both later lost requested =
        let first = crashed.goes in
        let second : Goes (moment_of between history held)
        (AskEvent (request_of old.head.name.base turn ask) now None ∷ []) (moment_of new later held)
        = subst (λ (h : HeadValue). Goes (moment_of between history held)
        (AskEvent (request_of h.name.base turn ask) now None ∷ []) (moment_of new later held)) head_is requested.goes in
        let met : moment_of between history held ≡ moment_of first.0 first.2.later first.2.left
        = moment-is between crashed.later history held held (sym lost) refl ∙ first.3 in
        record {
          goes = (
            first.0,
            first.1,
            first.2,
            subst (λ (m : Moment). Goes m (AskEvent (request_of old.head.name.base turn ask) now None ∷ [])
                (moment_of new later held)) met second,
          );
          kept_is = λ some. sym (is-other first.0.version turn version);
        }

    -- a request without a crash is the same, whatever is said of its operation
    once : (kept : Bool) (later : List Op)
        → IsRequested between.head.name.base turn (turn_by ask now None) kept (moment_of between history held)
        (moment_of new later held)
        → IsRequested between.head.name.base turn (turn_by ask now None) true (moment_of between history held)
        (moment_of new later held)
    once kept later requested = record { goes = requested.goes; kept_is = λ some. absurd (cc) }

    at : (crashed.later ≡ history) → IsDone old new turn ask now (Some stop) history held
    at lost =
        let done = again history (subst (λ (l : List Op). Lives between l held) lost crashed.lives) (head_is
        ∙ same) next in
        record {
          later = done.later;
          gained = subst (λ (h : HeadValue). Gained h history done.later ask now) head_is done.gained;
          lives = done.lives;
          rest =
              keeps-both old between new (counted old.stops) (counted old.stops) crashed.rest
              (subst (λ (n : ℕ). KeepsRest between new n) stops_is done.rest);
          kept = false;
          requested = goes-both done.later lost (once done.kept done.later done.requested);
        }

    by : (crashed.later ≡ history) ⊎ Gained old.head history crashed.later ask now
        → IsDone old new turn ask now (Some stop) history held
    by (inl lost) = at lost
    by (inr gained) =
        absurd (other (crashed.lives.version ∙ ap length gained.later_is
        ∙ length-append history (gained.operation ∷ []) ∙ more))
      where
        more : length history + 1 ≡ turn
        more = omega (arith, next)

-- a request that may have had a crash
pub make-none : (old new life : LifeValue) (head : HeadValue) (ask : Ask) (now turn : ℕ) (history : List Op)
    (held : List (List KeptValue)) (stop : Option Stop) → stop ≡ None → life ≡ old
    → ((later : List Op) (left : List (List KeptValue)) → Lives life later left → life.head ≡ head
    → suc (length later) ≡ turn → IsDone life new turn ask now None later left)
    → Lives old history held → old.head ≡ head → suc (length history) ≡ turn
    → IsDone old new turn ask now stop history held
make-none old new life head ask now turn history held stop none is done lives same next =
    subst (λ (s : Option Stop). IsDone old new turn ask now s history held) (sym none)
    (subst (λ (l : LifeValue). IsDone l new turn ask now None history held) is
    (done history held (subst (λ (l : LifeValue). Lives l history held) (sym is) lives)
    (ap (λ (l : LifeValue). l.head) is ∙ same) next))

pub make-some : (old between new life : LifeValue) (head : HeadValue) (ask : Ask) (now turn : ℕ) (history : List Op)
    (held : List (List KeptValue)) (stop : Option Stop) (crash : Stop) → stop ≡ Some crash → life ≡ between
    → IsCrashed old between turn ask now crash history held → between.version ≢ turn
    → ((later : List Op) (left : List (List KeptValue)) → Lives life later left → life.head ≡ head
    → suc (length later) ≡ turn → IsDone life new turn ask now None later left)
    → old.head ≡ head → suc (length history) ≡ turn
    → IsDone old new turn ask now stop history held
make-some old between new life head ask now turn history held stop crash some is crashed other done same next =
    subst (λ (s : Option Stop). IsDone old new turn ask now s history held) (sym some)
    (crash-again old between new head ask now turn crash history held crashed other next same (λ later lives head_is
    count.
    subst (λ (l : LifeValue). IsDone l new turn ask now None later held) is
    (done later held (subst (λ (l : LifeValue). Lives l later held) (sym is) lives)
    (ap (λ (l : LifeValue). l.head) is ∙ head_is) count)))

pub make-kept : (old new : LifeValue) (ask : Ask) (now turn : ℕ) (history : List Op) (held : List (List KeptValue))
    (stop : Option Stop) (crash : Stop) → stop ≡ Some crash → IsCrashed old new turn ask now crash history held
    → new.version ≡ turn → suc (length history) ≡ turn → IsDone old new turn ask now stop history held
make-kept old new ask now turn history held stop crash some crashed is next =
    subst (λ (s : Option Stop). IsDone old new turn ask now s history held) (sym some)
    (crash-kept old new ask now turn crash history held crashed is next)
