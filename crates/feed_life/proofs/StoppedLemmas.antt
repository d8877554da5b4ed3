-- A request that was stopped.
use Rattle.std.proofs.Common.{◌≡◌, ◌≢◌, ◌⊎◌, inl, inr, ℕ, ◌+◌, ◌^◌, ◌<◌, ◌≤◌, List, [], ◌∷◌, ◌++◌, Option, None}
use Rattle.std.proofs.Common.{Some}
use Rattle.std.proofs.Common.{length, take, ap, refl, sym, subst, ◌∙◌, arith, length-append, false, true}
use Rattle.std.proofs.Math.Seq.{take-append_seam}
use Rattle.std.proofs.lemmas.Bool.{cases_eq}
use Rattle.std.proofs.lemmas.List.{take_all}
use Rattle.document_server.specs.Answer.{Grows, IsAnswer, LeavesAnswered, MayAdd, added}
use Rattle.feed_disk.specs.Memory.{MemoryValue, state_of}
use Rattle.feed_disk.specs.Moments.{LeavesOnlyBoth}
use Rattle.feed_disk.specs.Raised.{raised}
use Rattle.feed_disk.specs.declared.area.Area.TheVariants.{Journal, Sealed}
use Rattle.feed_journal.specs.Laws.{BegunAreWhole}
use Rattle.feed_journal.specs.Log.{MakesSome}
use Rattle.feed_life.specs.Asks.{Gains, IsOpened, IsReplied, IsRunInto, LeavesStopped, Outcomes, Runs, TakesCalls}
use Rattle.feed_life.specs.Crashes.{HasPayloadsOf, IsCrash, IsCrashAt, IsCrashFrom, IsImageAfter, IsImageBy, clock_of}
use Rattle.feed_life.specs.Life.{IsStoreOf}
use Rattle.feed_life.specs.declared.event.Stop.{Stop}
use Rattle.feed_life.proofs.AskLemmas.{head-is, opens-left, opens-same}
use Rattle.feed_life.proofs.CrashLemmas.{crash-past, crash-settled}
use Rattle.feed_recovery.specs.Prepare.{commit_calls}
use Rattle.feed_recovery.specs.Settled.{IsAtRest, OpensPast, Settled}
use Rattle.feed_recovery.specs.Store.{StandsFor, StoreValue, call_count, is_spent, seal_count}
use Rattle.http_face.specs.Reply.{disk_fault}
use Rattle.http_face.specs.declared.reply.Reply.{Reply}
use Rattle.member_rules.specs.Head.{HeadValue}
use Rattle.member_rules.specs.declared.operation.Op.{Op}

-- the operations of which the first were there before, with one more or none
one-more : (history operation : List Op) (version : ℕ) → length operation ≤ 1
    → length history ≤ version → (take version (history ++ operation) ≡ history)
    ⊎ (take version (history ++ operation) ≡ history ++ operation)
one-more history operation version few least = elim (cases_eq version (length history)) [
  | inl same ↦ inl (ap (λ (n : ℕ). take n (history ++ operation)) same ∙ take-append_seam history operation)
  | inr more ↦ inr (take_all version (history ++ operation)
      (omega (arith, length-append history operation, few, least, more)))
]

length-added : (adds : Option Op) → length (added adds) ≤ 1
length-added None = omega arith
length-added (Some operation) = omega arith

may-add-few : (old : StoreValue) (outcomes : Outcomes) (operations : List Op)
    → MayAdd (outcomes old) operations → length operations ≤ 1
may-add-few old outcomes operations (inl none) = omega (arith, ap length none)
may-add-few old outcomes operations (inr given) = omega (arith, ap length given.2, length-added given.0.adds)

-- The device calls of a request

-- the number of device calls of a request that adds this
record Counted (store : StoreValue) (adds : Option Op) (loaded ran : MemoryValue) : Type 0 where
  number : ℕ
  made : clock_of ran ≡ raised (clock_of loaded) number
  takes : TakesCalls store adds number

raised-none : (before after : ℕ) → after ≡ before → before < 2 ^ 64 → after ≡ raised before 0
raised-none before after same below = omega arith

not-longer : (history : List Op) (operation : Op) → history ≡ history ++ operation ∷ [] → ⊥
not-longer history operation same =
    absurd (omega (arith, ap length same, length-append history (operation ∷ [])))

counted-by : (store new : StoreValue) (adds : Option Op) (loaded ran : MemoryValue)
    → new.history ≡ store.history ++ added adds → (state_of loaded).clock < 2 ^ 64
    → MakesSome (state_of loaded) (state_of ran) (call_count store) (call_count new)
    → (new.history ≡ store.history) ⊎ Grows (state_of loaded) (state_of ran) store new
    → Counted store adds loaded ran
counted-by store new None loaded ran gained below (inl still) either =
    record { number = 0; made = raised-none (clock_of loaded) (clock_of ran) still.0 below; takes = tt }
counted-by store new None loaded ran gained below (inr (number, makes)) either =
    record { number = number; made = makes.clock; takes = tt }
counted-by store new (Some operation) loaded ran gained below makes (inl same) =
    absurd (not-longer store.history operation (sym same ∙ gained))
counted-by store new (Some operation) loaded ran gained below makes (inr grows) = record {
  number = commit_calls grows.seal;
  made = grows.calls.clock;
  takes = (grows.seal, grows.due, refl);
}

module _ (head : HeadValue) (outcomes : Outcomes) (history : List Op) (disk loaded ran : MemoryValue)
    (old new : StoreValue) (reply : Reply) (opened : IsOpened head history disk loaded old)
    (same : new.head ≡ old.head) where
  -- an answered request, and the number of its device calls
  record Replies : Type 0 where
    replied : IsReplied head outcomes history new.history disk ran reply
    counted : Counted replied.store replied.outcome.adds loaded ran

  reply-counted : (failed : Type 0) → IsAnswer (outcomes old) old new reply failed → reply.status ≢ 503
      → reply ≢ disk_fault → StandsFor (state_of ran) new → clock_of loaded < 2 ^ 64
      → MakesSome (state_of loaded) (state_of ran) (call_count old) (call_count new)
      → (new.history ≡ old.history) ⊎ Grows (state_of loaded) (state_of ran) old new → Replies
  reply-counted failed (inl given) known undisk stands below makes either = record {
    replied = record {
      store = old;
      loaded = opened.loaded;
      outcome = given.given;
      is_outcome = given.is_one;
      history_is =
          given.gains.history
          ∙ ap (λ (h : List Op). h ++ added given.given.adds) opened.loaded.history_is;
      reply_is = given.reply_is;
      seals = seal_count new;
      sealed = given.gains.seals;
      opens = opens-left head outcomes history disk loaded ran old new reply opened same stands;
    };
    counted = counted-by old new given.given.adds loaded ran given.gains.history below makes either;
  }
  reply-counted failed (inr (inl lack)) known undisk stands below makes either =
      absurd (known (ap (λ (r : Reply). r.status) lack.0))
  reply-counted failed (inr (inr fault)) known undisk stands below makes either = absurd (undisk fault.0)

  pub turn-runs : (failed : Type 0) → IsAnswer (outcomes old) old new reply failed
      → reply.status ≢ 503 → is_spent new ≡ false → (reply ≡ disk_fault → is_spent new ≡ true)
      → (reply ≢ disk_fault → StandsFor (state_of ran) new)
      → (reply ≢ disk_fault → IsAtRest (state_of loaded)
      → Settled (state_of ran) new.head new.history (length new.history))
      → (reply ≢ disk_fault → IsAtRest (state_of loaded) → IsAtRest (state_of ran))
      → LeavesAnswered (outcomes old) (state_of loaded) (state_of ran) old new (reply ≡ disk_fault)
      → MakesSome (state_of loaded) (state_of ran) (call_count old) (call_count new)
      → (new.history ≡ old.history) ⊎ Grows (state_of loaded) (state_of ran) old new → clock_of loaded < 2 ^ 64
      → Runs head outcomes history disk loaded ran
  turn-runs failed answer known unspent spent stands settled rests leaves makes either below =
      let undisk : reply ≢ disk_fault = λ is. let wrong = spent is in let right = unspent in cc in
      let replies = reply-counted failed answer known undisk (stands undisk) below makes either in
      record {
        whole = new.history;
        reply = reply;
        replied = replies.replied;
        rests = rests undisk opened.rests;
        settled =
            subst (λ (h : HeadValue). Settled (state_of ran) h new.history (length new.history))
            (head-is head outcomes history disk loaded ran old new reply opened same)
            (settled undisk opened.rests);
        number = replies.counted.number;
        made = replies.counted.made;
        takes = replies.counted.takes;
        operations = leaves.operations;
        few = may-add-few old outcomes leaves.operations leaves.may;
        gained =
            leaves.gained undisk ∙ ap (λ (l : List Op). l ++ leaves.operations) opened.loaded.history_is;
        leaves =
            subst (λ (h : HeadValue). LeavesOnlyBoth (state_of loaded) (state_of ran) Journal Sealed
            (λ _. OpensPast h (history ++ leaves.operations) (length history))) opened.loaded.head_is
            (subst (λ (l : List Op). LeavesOnlyBoth (state_of loaded) (state_of ran) Journal Sealed
            (λ _. OpensPast old.head (l ++ leaves.operations) (length l))) opened.loaded.history_is
            (leaves.leaves opened.rests).moments);
      }

-- a crash before the first call
pub stopped-before : (head : HeadValue) (outcomes : Outcomes) (stop : Stop) (history : List Op)
    (disk loaded left : MemoryValue) → stop.call ≡ 0 → HasPayloadsOf disk loaded
    → Settled (state_of loaded) head history (length history) → IsImageAfter loaded stop.choice left
    → IsCrash (state_of loaded).image_now left → LeavesStopped head outcomes stop history disk left
stopped-before head outcomes stop history disk loaded left none same settled image crash = record {
  later = history;
  stopped = record {
    gains = inl refl;
    before = λ _. refl;
    cut = λ _. record { loaded = loaded; same = same; image = image };
    within = λ some. absurd (omega arith);
  };
  store = crash-settled head history loaded left settled crash;
}

module _ (head : HeadValue) (outcomes : Outcomes) (stop : Stop) (history : List Op)
    (disk loaded ran left : MemoryValue) (same : HasPayloadsOf disk loaded)
    (runs : Runs head outcomes history disk loaded ran) (some : 0 < stop.call)
    (image : IsImageBy stop (clock_of loaded) ran left) where
  -- the request without the stop leaves its reply and store, on an image of now
  replied-left : BegunAreWhole → IsCrash (state_of ran).image_now left
      → IsReplied head outcomes history runs.whole disk left runs.reply
  replied-left law crash =
      let replied = runs.replied in
      let journal = (state_of left).content Journal in
      let sealed = (state_of left).content Sealed in
      record {
        store = replied.store;
        loaded = replied.loaded;
        outcome = replied.outcome;
        is_outcome = replied.is_outcome;
        history_is = replied.history_is;
        reply_is = replied.reply_is;
        seals = replied.seals;
        sealed = replied.sealed;
        opens = opens-same journal sealed ((state_of ran).content Journal) ((state_of ran).content Sealed) head
            runs.whole replied.seals
            (sym (law ((state_of ran).content Journal) journal (runs.rests.journal journal (crash.among Journal))).1)
            (sym (law ((state_of ran).content Sealed) sealed (runs.rests.sealed sealed (crash.among Sealed))).1)
            replied.opens;
      }

  gained : (later : List Op) → (later ≡ history) ⊎ (later ≡ runs.whole)
      → (later ≡ history) ⊎ Gains head outcomes history later disk
  gained later (inl stays) = inl stays
  gained later (inr whole) = inr record {
    store = runs.replied.store;
    loaded = runs.replied.loaded;
    outcome = runs.replied.outcome;
    is_outcome = runs.replied.is_outcome;
    history_is = whole ∙ runs.replied.history_is;
  }

  -- a request that left this history after its stop
  run-into : (later : List Op) → (later ≡ history) ⊎ (later ≡ runs.whole)
      → (runs.number < stop.call → IsReplied head outcomes history later disk left runs.reply)
      → IsRunInto head outcomes stop history later disk left
  run-into later either past = record {
    whole = runs.whole;
    ran = ran;
    reply = runs.reply;
    replied = runs.replied;
    cut = record { loaded = loaded; same = same; later = runs.leaves.first.later; image = image };
    number = runs.number;
    made = runs.made;
    takes = runs.takes;
    either = either;
    past = past;
  }

  leaves-run : (later : List Op) → (later ≡ history) ⊎ (later ≡ runs.whole)
      → (runs.number < stop.call → IsReplied head outcomes history later disk left runs.reply)
      → IsStoreOf head later left → LeavesStopped head outcomes stop history disk left
  leaves-run later either past store = record {
    later = later;
    stopped = record {
      gains = gained later either;
      before = λ none. absurd (omega arith);
      cut = λ none. absurd (omega arith);
      within = λ _. run-into later either past;
    };
    store = store;
  }

  -- a call past the last one wasn't made
  unmade : (begun number call moment made : ℕ) → made ≡ raised begun number → moment ≡ begun + call → moment ≤ made
      → number < call → ⊥
  unmade begun number call moment made raises at within past = omega arith

  stopped-at : IsCrashAt (clock_of loaded) stop.call ran left → LeavesStopped head outcomes stop history disk left
  stopped-at crash =
      let past = runs.leaves.each crash.short crash.moment ((state_of left).content Journal)
      ((state_of left).content Sealed) crash.after (crash.crash.among Journal) (crash.crash.among Sealed) in
      let later = take past.version (history ++ runs.operations) in
      leaves-run later (whole-or (one-more history runs.operations past.version runs.few past.at_least))
      (λ over. absurd (unmade (clock_of loaded) runs.number stop.call crash.moment (clock_of ran) runs.made crash.at
      crash.made over))
      (crash-past head (history ++ runs.operations) (length history)
      (λ a. (state_of ran).image_at a crash.moment) left crash.crash past)
    where
      whole-or : {later : List Op} → (later ≡ history) ⊎ (later ≡ history ++ runs.operations)
          → (later ≡ history) ⊎ (later ≡ runs.whole)
      whole-or (inl stays) = inl stays
      whole-or (inr more) = inr (more ∙ sym runs.gained)

  pub stopped-from : BegunAreWhole → IsCrashFrom (clock_of loaded) stop.call ran left
      → LeavesStopped head outcomes stop history disk left
  stopped-from law (inl (over, crash)) =
      leaves-run runs.whole (inr refl) (λ _. replied-left law crash)
      (crash-settled head runs.whole ran left runs.settled crash)
  stopped-from law (inr crash) = stopped-at crash
